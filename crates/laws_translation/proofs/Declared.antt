-- Functions, accessors and variables of libraries and classes go alike once annotations and columns are forgotten.
use Rattle.std.proofs.Common.{◌≡◌, refl, sym, ap, ◌∙◌, ℕ, ◌+◌, List, [], ◌∷◌, ◌++◌, map, length, take, drop, filter, Option, None, Some, Bool, true, false}
use Rattle.std.proofs.lemmas.List.{map-append, length-map, take-map, drop-map}
use Rattle.std.specs.List.{range_with_len}
use Rattle.dart_base.specs.declared.place.Place.{Place}
use Rattle.dart_base.specs.declared.feature.Feature.TheVariants.{External}
use Rattle.dart_tree.specs.UnitView.{maybe}
use Rattle.dart_tree.specs.Tree as t
use Rattle.dart_tree.specs.Unit as u
use Rattle.dart_ir.specs.declared.native.NativeId.{NativeId}
use Rattle.core_program.specs.Core as c
use Rattle.core_program.specs.Program as p
use Rattle.laws_translation.specs.LinedLeaf as leaf
use Rattle.laws_translation.specs.Lined as lined
use Rattle.laws_translation.specs.LinedUnit as unit_lined
use Rattle.dart_erase.specs.Erased as erased
use Rattle.dart_erase.specs.UnitErased as unit_erased
use Rattle.translation.specs.Surroundings.{Text, Core}
use Rattle.translation.specs.Walk.{Asked, unasked, Made, State, Walk, on, left_out}
use Rattle.translation.specs.Firsts as first
use Rattle.translation.specs.Types.{PlacedName, word_of, asked_of_kind, result_type, is_final, is_const}
use Rattle.translation.specs.References.{by_place, row, this, variable, own_name}
use Rattle.translation.specs.Expressions as e
use Rattle.translation.specs.Functions as f
use Rattle.translation.specs.Productions as pr
use Rattle.translation.specs.Declarations as d
use Rattle.laws_translation.proofs.Kept as k
use Rattle.laws_translation.proofs.Kept.{line, Goes, ends}
use Rattle.laws_translation.proofs.Ends.{on_ends, done, stop, within_goes}
use Rattle.laws_translation.proofs.Firsts.{expr_line}
use Rattle.laws_translation.proofs.TypesSame.{word_same, asked_kind, asked_result, final_same, const_same, signature_loose}
use Rattle.laws_translation.proofs.Referred.{row_kept}
use Rattle.laws_translation.proofs.Expressed.{meeting_same}
use Rattle.laws_translation.proofs.Stated as s
use Rattle.laws_translation.proofs.Closed.{head, function_goes, takes_same, numbered_goes}
use Rattle.laws_translation.proofs.Parameters.{parameters_goes}
use Rattle.laws_translation.proofs.Bared.{law_body, law_expr}

-- ---- an outermost function

vars_kept : (n : ℕ) (x : Made (p.Function Text)) → d.with_vars n (k.function x) ≡ k.function (d.with_vars n x)
unfolding k.function_made
vars_kept n x = refl

all_vars_kept : (n : ℕ) (xs : List (Made (p.Function Text))) → map (d.with_vars n) (map k.function xs) ≡ map k.function (map (d.with_vars n) xs)
all_vars_kept n [] = refl
all_vars_kept n (x ∷ xs) = λ i. vars_kept n x i ∷ all_vars_kept n xs i

pub vars_all : (n : ℕ) (before after : State) →
    take (length (map k.function before.functions)) (map k.function after.functions) ++ map (d.with_vars n) (drop (length (map k.function before.functions)) (map k.function after.functions)) ≡
    map k.function (take (length before.functions) after.functions ++ map (d.with_vars n) (drop (length before.functions) after.functions))
vars_all n before after =
    (λ i. take (length-map before.functions k.function i) (map k.function after.functions) ++ map (d.with_vars n) (drop (length-map before.functions k.function i) (map k.function after.functions))) ∙
    (λ i. take-map k.function (length before.functions) after.functions i ++ map (d.with_vars n) (drop-map k.function (length before.functions) after.functions i)) ∙
    (λ i. map k.function (take (length before.functions) after.functions) ++ all_vars_kept n (drop (length before.functions) after.functions) i) ∙
    sym (map-append k.function (take (length before.functions) after.functions) (map (d.with_vars n) (drop (length before.functions) after.functions)))

since_kept : (before after : State) → d.numbered_since (k.state before) (k.state after) ≡ k.state (d.numbered_since before after)
since_kept before after = λ i. record (k.state (d.numbered_since before after)) { functions = vars_all after.variables before after i }

pub outermost_goes : {A : Type 0} (g : A → A) (n : ℕ) (w' w : Walk A) → Goes g w' w → Goes g (d.outermost n w') (d.outermost n w)
unfolding d.outermost
outermost_goes g n w' w h q = on_ends _ _ _ _ _ _ (h (record q { variables = n })) (λ a after. done _ _ a _ (d.numbered_since q after) refl (since_kept q after))

-- ---- functions

variables_kept : (place : Place) (ns : List ℕ) → map (variable (line place)) ns ≡ map k.core (map (variable place) ns)
unfolding k.core
variables_kept place [] = refl
variables_kept place (n ∷ ns) = ap (λ (z : List Core). variable (line place) n ∷ z) (variables_kept place ns)

this_first : (b : Bool) (place : Place) (xs' xs : List Core) → xs' ≡ map k.core xs → d.with_this b (line place) xs' ≡ map k.core (d.with_this b place xs)
unfolding k.core
this_first true place xs' xs h = ap (λ (z : List Core). this (line place) ∷ z) h
this_first false place xs' xs h = h

pub count_same : (x : t.ParameterList) → d.count (lined.parameter_list (erased.parameter_list x)) ≡ d.count x
unfolding lined.parameter_list erased.parameter_list
count_same t.no_parameters = refl
count_same (t.parameter one more) = ap (λ (n : ℕ). 1 + n) (count_same more)

pub parameter_count_same : (x : t.Parameters) → d.parameter_count (lined.parameters (erased.parameters x)) ≡ d.parameter_count x
unfolding lined.parameters erased.parameters
parameter_count_same (t.the_parameters opening required brackets optional closing) = λ i. count_same required i + count_same optional i

native_kept : (place : Place) (n : NativeId) (b : Bool) (x : t.Parameters) →
    c.given (d.native_form (line place) n b (d.parameter_count (lined.parameters (erased.parameters x)))) ≡ k.part (c.given (d.native_form place n b (d.parameter_count x)))
native_kept place n b x = (λ i. c.given (d.native_form (line place) n b (parameter_count_same x i))) ∙
    (λ i. c.given (row (line place) (c.native n) (by_place (this_first b place _ (map (variable place) (range_with_len 0 (d.parameter_count x))) (variables_kept place (range_with_len 0 (d.parameter_count x))) i)))) ∙
    (λ i. c.given (row_kept place (c.native n) (by_place (d.with_this b place (map (variable place) (range_with_len 0 (d.parameter_count x))))) i)) ∙
    s.given_kept (d.native_form place n b (d.parameter_count x))

pub native_body_goes : (o : Option Place) (n : Option NativeId) (b : Bool) (x : t.Parameters) (w' w : Walk (c.Part Text)) → Goes k.part w' w →
    Goes k.part (d.native_body (maybe line o) n b (lined.parameters (erased.parameters x)) w') (d.native_body o n b x w)
native_body_goes (Some place) (Some n) b x w' w h q = done _ _ (c.given (d.native_form place n b (d.parameter_count x))) _ q (native_kept place n b x) refl
native_body_goes (Some place) None b x w' w h q = h q
native_body_goes None n b x w' w h q = h q

pub unless_external_goes : {A : Type 0} (g : A → A) (o : Option Place) (n : Option NativeId) (w' w : Walk A) → Goes g w' w → Goes g (d.unless_external (maybe line o) n w') (d.unless_external o n w)
unless_external_goes g None n w' w h q = h q
unless_external_goes g (Some place) (Some n) w' w h q = h q
unless_external_goes g (Some place) None w' w h q = stop _ _ (left_out place External) refl

-- a declaration once annotations and columns are forgotten
abbrev pub bare : d.Declared → d.Declared
bare x = record {
  external = maybe line x.external;
  name = k.word x.name;
  result = None;
  parameters = lined.parameters (erased.parameters x.parameters);
  body = lined.body (erased.body x.body);
}

head_kept : (standing : d.Standing) (n : ℕ) (x : d.Declared) (q : State) → d.head_of standing n (bare x) (k.state q) ≡ head (d.head_of standing n x q)
head_kept standing n x q = λ i. record (head (d.head_of standing n x q)) {
  signature = signature_loose q (result_type q x.result) x.parameters i;
  inside = d.inside standing (asked_result (k.state q) q x.result i);
}

plain_goes : (standing : d.Standing) (x : d.Declared) (n : ℕ) → Goes (λ n. n) (d.plain_function standing (bare x) n) (d.plain_function standing x n)
plain_goes standing x n q = unless_external_goes (λ n. n) x.external (q.tables.native n)
    (d.outermost 0 (f.function (d.head_of standing n (bare x) (d.standing_in standing (k.state q))) (f.bind_parameters false (d.standing_in standing (k.state q)) (bare x).parameters)
    (d.native_body (maybe line x.external) (q.tables.native n) standing.has_instance (bare x).parameters (pr.body (bare x).body))))
    (d.outermost 0 (f.function (d.head_of standing n x (d.standing_in standing q)) (f.bind_parameters false (d.standing_in standing q) x.parameters)
    (d.native_body x.external (q.tables.native n) standing.has_instance x.parameters (pr.body x.body))))
    (outermost_goes (λ n. n) 0 _ (f.function (d.head_of standing n x (d.standing_in standing q)) (f.bind_parameters false (d.standing_in standing q) x.parameters)
    (d.native_body x.external (q.tables.native n) standing.has_instance x.parameters (pr.body x.body)))
    (function_goes _ (d.head_of standing n x (d.standing_in standing q)) (f.bind_parameters false (d.standing_in standing (k.state q)) (bare x).parameters) (f.bind_parameters false (d.standing_in standing q) x.parameters)
    (d.native_body (maybe line x.external) (q.tables.native n) standing.has_instance (bare x).parameters (pr.body (bare x).body)) (d.native_body x.external (q.tables.native n) standing.has_instance x.parameters (pr.body x.body))
    (head_kept standing n x (d.standing_in standing q)) (parameters_goes false (d.standing_in standing q) x.parameters)
    (native_body_goes x.external (q.tables.native n) standing.has_instance x.parameters (pr.body (bare x).body) (pr.body x.body) (law_body x.body)))) q

declared_bare : (standing : d.Standing) (x : d.Declared) → Goes (λ n. n) (d.declared_function standing (bare x)) (d.declared_function standing x)
declared_bare standing x q = on_ends _ _ _ _ _ _ (numbered_goes q) (λ n q. plain_goes standing x n q)

pub declared_goes : (standing : d.Standing) (x' x : d.Declared) → x' ≡ bare x → Goes (λ n. n) (d.declared_function standing x') (d.declared_function standing x)
declared_goes standing x' x h q = (λ i. d.declared_function standing (h i) (k.state q)) ∙ declared_bare standing x q

pub function_bare : (x : t.Function) → d.function_declared (lined.function (erased.function x)) ≡ bare (d.function_declared x)
unfolding lined.function erased.function
function_bare (t.the_function external result name parameters body) = λ i. record (bare (d.function_declared (t.the_function external result name parameters body))) { name = word_same name i }

no_list_bare : (place : Place) → lined.parameters (erased.parameters (d.no_list place)) ≡ d.no_list (line place)
unfolding lined.parameters erased.parameters lined.parameter_list erased.parameter_list
no_list_bare place = refl

accessor_as_bare : (w : u.AccessorKind) (x : u.Accessor) → d.accessor_as (unit_lined.accessor_kind (unit_erased.accessor_kind w)) (unit_lined.accessor (unit_erased.accessor x)) ≡ bare (d.accessor_as w x)
accessor_as_bare (u.getter place name) x = λ i. record (bare (d.accessor_as (u.getter place name) x)) { name = word_same name i; parameters = sym (no_list_bare place) i }
accessor_as_bare (u.setter place name parameters) x = λ i. record (bare (d.accessor_as (u.setter place name parameters) x)) { name = word_same name i }

pub accessor_bare : (x : u.Accessor) → d.accessor_declared (unit_lined.accessor (unit_erased.accessor x)) ≡ bare (d.accessor_declared x)
accessor_bare x = accessor_as_bare x.kind x

-- ---- variables

static_kept : (name : Text) (b : Bool) (q : State) (init : c.Part Text) → d.static_made name b (k.state q) (k.part init) ≡ k.static_made (d.static_made name b q init)
unfolding k.static_made k.part
static_kept name b q init = λ i. record (k.static_made (d.static_made name b q init)) { cells = filter (λ x. takes_same q.functions x init i) (range_with_len 0 q.variables) }

with_static_goes : (n : ℕ) (name : Text) (b : Bool) (init : c.Part Text) → Goes (λ n. n) (d.with_static n name b (k.part init)) (d.with_static n name b init)
with_static_goes n name b init q = done _ _ n _ (record q { statics = q.statics ++ record { number = n; made = d.static_made name b q init } ∷ [] }) refl
    (λ i. record (k.state q) {
      statics = ((λ j. map k.static q.statics ++ record { number = n; made = static_kept name b q init j } ∷ []) ∙
          sym (map-append k.static q.statics (record { number = n; made = d.static_made name b q init } ∷ []))) i;
    })

static_init_goes : (a' a : Asked) (z : t.Value) → a' ≡ k.asked a → Goes k.part (d.static_init a' (lined.value (erased.value z))) (d.static_init a z)
unfolding lined.value erased.value
static_init_goes a' a t.omitted h q = done _ _ c.missing _ q s.missing_kept refl
static_init_goes a' a (t.given operator given) h q = on_ends _ _ _ _ _ _
    (s.initial_goes _ (first.first_of_expr given) (first.first_of_expr (lined.expr (erased.expr given))) (first.first_of_expr given) a' a (pr.expr (lined.expr (erased.expr given))) (pr.expr given) (expr_line given) h (law_expr given) q)
    (λ form q. done _ _ (c.given form) _ q (s.given_kept form) refl)

static_ends : (w : PlacedName) (a' a : Asked) (b' b : Bool) (z : t.Value) → a' ≡ k.asked a → b' ≡ b →
    Goes (λ n. n) (d.static_variable (k.word w) a' b' (lined.value (erased.value z))) (d.static_variable w a b z)
static_ends w a' a b' b z h l q = on_ends _ _ _ _ _ _ (numbered_goes q) (λ n after. outermost_goes (λ n. n) 0
    (λ q. on (d.static_init a' (lined.value (erased.value z)) q) (d.with_static n (own_name w q) b')) (λ q. on (d.static_init a z q) (d.with_static n (own_name w q) b))
    (λ q. on_ends _ _ _ _ _ _ (static_init_goes a' a z h q) (λ init q2. (λ i. d.with_static n (own_name w q) (l i) (k.part init) (k.state q2)) ∙ with_static_goes n (own_name w q) b init q2)) after)

pub static_goes : (w' w : PlacedName) (a' a : Asked) (b' b : Bool) (z : t.Value) → w' ≡ k.word w → a' ≡ k.asked a → b' ≡ b →
    Goes (λ n. n) (d.static_variable w' a' b' (lined.value (erased.value z))) (d.static_variable w a b z)
static_goes w' w a' a b' b z e h l q = (λ i. d.static_variable (e i) a' b' (lined.value (erased.value z)) (k.state q)) ∙ static_ends w a' a b' b z h l q

statics_goes : (a' a : Asked) (b' b : Bool) (z : t.MoreVariables) → a' ≡ k.asked a → b' ≡ b →
    Goes (λ n. n) (d.static_variables a' b' (lined.more_variables (erased.more_variables z))) (d.static_variables a b z)
unfolding lined.more_variables erased.more_variables
statics_goes a' a b' b t.no_variables h l q = done _ _ 0 _ q refl refl
statics_goes a' a b' b (t.variable comma name value rest) h l q = on_ends _ _ _ _ _ _ (static_goes _ (word_of name) a' a b' b value (word_same name) h l q)
    (λ n q. statics_goes a' a b' b rest h l q)

names_goes : (z : t.Variables) → Goes (λ n. n) (d.static_names (lined.variables (erased.variables z))) (d.static_names z)
unfolding lined.variables erased.variables
names_goes (t.the_variables kind name value more semicolon) q = on_ends _ _ _ _ _ _
    ((λ i. d.static_variable (word_of (leaf.identifier name)) (asked_of_kind (k.state q) (leaf.variable_kind (erased.variable_kind name kind))) (is_final (leaf.variable_kind (erased.variable_kind name kind)))
    (lined.value (erased.value value)) (meeting_same _ (is_const kind) q (const_same name kind) i)) ∙
    static_goes _ (word_of name) _ (asked_of_kind q kind) _ (is_final kind) value (word_same name) (asked_kind name (k.state q) q kind) (final_same name kind) (e.meeting_constant (is_const kind) q))
    (λ n after. statics_goes _ (asked_of_kind q kind) _ (is_final kind) more (asked_kind name (k.state q) q kind) (final_same name kind) after)

pub variables_goes : (z : t.Variables) → Goes (λ n. n) (d.variables_declared (lined.variables (erased.variables z))) (d.variables_declared z)
variables_goes z q = within_goes (λ n. n) _ (d.inside d.static_standing unasked) (d.static_names (lined.variables (erased.variables z))) (d.static_names z) refl (names_goes z) q
