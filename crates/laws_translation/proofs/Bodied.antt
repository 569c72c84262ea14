-- Whole classes go alike once annotations and columns are forgotten.
use Rattle.std.proofs.Common.{◌≡◌, refl, sym, ap, ◌∙◌, ℕ, List, [], ◌∷◌, ◌++◌, map, Option, None, Some, Bool, true, false, ◌||◌, if◌then◌else◌}
use Rattle.std.proofs.lemmas.List.{map-append}
use Rattle.dart_tree.specs.Places.{place_of}
use Rattle.dart_tree.specs.UnitView.{maybe}
use Rattle.dart_tree.specs.Types as y
use Rattle.dart_tree.specs.Unit as u
use Rattle.core_program.specs.Core as c
use Rattle.core_program.specs.Program as p
use Rattle.laws_translation.specs.LinedLeaf as leaf
use Rattle.laws_translation.specs.LinedUnit as unit_lined
use Rattle.dart_erase.specs.UnitErased as unit_erased
use Rattle.translation.specs.Surroundings.{Text, Ty, Core, Names}
use Rattle.translation.specs.Walk.{Made, State, Walk}
use Rattle.translation.specs.Types.{PlacedName, word_of, text_of}
use Rattle.translation.specs.References.{block}
use Rattle.translation.specs.Functions as f
use Rattle.translation.specs.Declarations as d
use Rattle.translation.specs.Classes as cl
use Rattle.translation.specs.ClassBodies as b
use Rattle.laws_translation.proofs.Kept as k
use Rattle.laws_translation.proofs.Kept.{line, Goes, ends}
use Rattle.laws_translation.proofs.Ends.{on_ends, done}
use Rattle.laws_translation.proofs.Firsts.{place_line}
use Rattle.laws_translation.proofs.TypesSame.{word_same, text_same, kept_type_goes}
use Rattle.laws_translation.proofs.Referred.{block_kept}
use Rattle.laws_translation.proofs.Stated.{given_kept}
use Rattle.laws_translation.proofs.Closed.{head, made_kept, numbered_goes}
use Rattle.laws_translation.proofs.Classed.{bare_member, bare_kind, field, around, draft, parts, own_fields_kept, count_kept, implicit_goes}
use Rattle.laws_translation.proofs.Members.{members_goes}

-- ---- headers

kept_goes : (x : y.TypeNode) → Goes (λ n. n) (b.kept (leaf.type_node x)) (b.kept x)
kept_goes x q = on_ends _ _ _ _ _ _ (kept_type_goes x q) (λ typed q. done _ _ 0 _ q refl refl)

all_kept_goes : (x : y.TypeList) → Goes (λ n. n) (b.all_kept (leaf.type_list x)) (b.all_kept x)
all_kept_goes y.no_more_types q = done _ _ 0 _ q refl refl
all_kept_goes (y.type_more comma one more) q = on_ends _ _ _ _ _ _ (kept_goes one q) (λ n q. all_kept_goes more q)

bound_goes : (x : Option u.Bound) → Goes (λ n. n) (b.bound_kept (maybe unit_lined.bound x)) (b.bound_kept x)
bound_goes None q = done _ _ 0 _ q refl refl
bound_goes (Some x) q = kept_goes x.bound q

bounds_goes : (xs : List u.TypeParameter) → Goes (λ n. n) (b.bounds_kept (map unit_lined.type_parameter (map unit_erased.type_parameter xs))) (b.bounds_kept xs)
bounds_goes [] q = done _ _ 0 _ q refl refl
bounds_goes (x ∷ xs) q = on_ends _ _ _ _ _ _ (bound_goes x.bound q) (λ n q. bounds_goes xs q)

pub type_parameters_goes : (x : Option u.TypeParameters) → Goes (λ n. n) (b.parameters_kept (maybe unit_lined.type_parameters (maybe unit_erased.type_parameters x))) (b.parameters_kept x)
type_parameters_goes None q = done _ _ 0 _ q refl refl
type_parameters_goes (Some x) q = bounds_goes x.items q

clause_goes : (x : Option u.TypeClause) → Goes (λ n. n) (b.clause_kept (maybe unit_lined.type_clause x)) (b.clause_kept x)
clause_goes None q = done _ _ 0 _ q refl refl
clause_goes (Some x) q = all_kept_goes x.types q

superclass_goes : (x : Option u.Superclass) → Goes (λ n. n) (b.superclass_kept (maybe unit_lined.superclass x)) (b.superclass_kept x)
superclass_goes None q = done _ _ 0 _ q refl refl
superclass_goes (Some x) q = on_ends _ _ _ _ _ _ (kept_goes x.superclass q) (λ n q. clause_goes x.mixins q)

-- ---- classes

abbrev pub class_made : b.ClassMade → b.ClassMade
class_made x = record {
  class = x.class;
  names = x.names;
  name = k.word x.name;
  members = map bare_member x.members;
  fields = map field x.fields;
  values = map k.core x.values;
  count = x.count;
  has_constructor = x.has_constructor;
  constructors = x.constructors;
}

constructor_same : (x : u.MemberKind) → b.is_constructor (bare_kind x) ≡ b.is_constructor x
constructor_same (u.constructor_member x) = refl
constructor_same (u.function_member x) = refl
constructor_same (u.accessor_member x) = refl
constructor_same (u.variables_member x) = refl
constructor_same (u.operator_member x) = refl

has_same : (xs : List u.Member) → b.has_constructor (map bare_member xs) ≡ b.has_constructor xs
has_same [] = refl
has_same (x ∷ xs) = λ i. constructor_same x.kind i || has_same xs i

pub draft_forms_kept : (v : Bool) (values forms : List Core) → (if v then map k.core values else []) ++ map k.core forms ≡ map k.core ((if v then values else []) ++ forms)
draft_forms_kept true values forms = sym (map-append k.core values forms)
draft_forms_kept false values forms = refl

pub body_kept : (x : cl.Draft) (values : List Core) → c.given (block (line x.place) (b.draft_forms (draft x) (map k.core values))) ≡ k.part (c.given (block x.place (b.draft_forms x values)))
body_kept x values = (λ i. c.given (block (line x.place) (draft_forms_kept x.has_values values x.forms i))) ∙ ap c.given (block_kept x.place (b.draft_forms x values)) ∙ given_kept (block x.place (b.draft_forms x values))

pub finished_kept : (h : f.Head) (ps : List (p.Parameter Text)) (x' x : c.Part Text) (n : ℕ) (q : State) → x' ≡ k.part x →
    b.finished (head h) ps x' n (k.state q) ≡ k.function (b.finished h ps x n q)
finished_kept h ps x' x n q e = (λ i. b.finished (head h) ps (e i) n (k.state q)) ∙ ap (λ (z : _). record { number = h.number; made = z }) (made_kept h (record q { variables = n }) ps x)

pub with_function_kept : (x' x : Made (p.Function Text)) (q : State) → x' ≡ k.function x → b.with_function x' (k.state q) ≡ k.state (b.with_function x q)
with_function_kept x' x q e = λ i. record (k.state (b.with_function x q)) {
  functions = ((λ j. map k.function q.functions ++ e j ∷ []) ∙ sym (map-append k.function q.functions (x ∷ []))) i;
}

drafts_kept : (values : List Core) (xs : List cl.Draft) (q : State) → b.with_drafts (map k.core values) (map draft xs) (k.state q) ≡ k.state (b.with_drafts values xs q)
drafts_kept values [] q = refl
drafts_kept values (x ∷ xs) q =
    (λ i. b.with_drafts (map k.core values) (map draft xs) (with_function_kept _ (b.finished x.head x.parameters (c.given (block x.place (b.draft_forms x values))) x.vars q) q
    (finished_kept x.head x.parameters _ (c.given (block x.place (b.draft_forms x values))) x.vars q (body_kept x values)) i)) ∙
    drafts_kept values xs (b.with_function (b.finished x.head x.parameters (c.given (block x.place (b.draft_forms x values))) x.vars q) q)

pub in_class_goes : {A : Type 0} (g : A → A) (names : Names) (w' w : Walk A) → Goes g w' w → Goes g (b.in_class names w') (b.in_class names w)
in_class_goes g names w' w h q = on_ends _ _ _ _ _ _ (h (record q { names = names; variables = 0 })) (λ a after. done _ _ a _ _ refl refl)

generated_same : (xs : List cl.Draft) → map b.generated (map draft xs) ≡ map b.generated xs
generated_same [] = refl
generated_same (x ∷ xs) = ap (λ (z : List cl.Generated). b.generated x ∷ z) (generated_same xs)

class_made_goes : (r : cl.Around) (w' w : PlacedName) (xs : List u.Member) (x : cl.Parts) → w' ≡ k.word w → Goes class_made (b.class_made (around r) w' (map bare_member xs) (parts x)) (b.class_made r w xs x)
class_made_goes r w' w xs x h q = done _ _ _ _ _
    (λ i. record { class = r.class; names = q.names; name = h i; members = map bare_member xs; fields = map field r.fields; values = map k.core x.values; count = r.count; has_constructor = has_same xs i; constructors = generated_same x.drafts i })
    (drafts_kept x.values x.drafts q)

members_made_goes : (r : cl.Around) (w' w : PlacedName) (xs : List u.Member) → w' ≡ k.word w → Goes class_made (b.members_made (around r) w' (map bare_member xs)) (b.members_made r w xs)
members_made_goes r w' w xs h q = on_ends _ _ _ _ _ _ (members_goes r xs xs q) (λ x q. class_made_goes r w' w xs x h q)

around_kept : (n : ℕ) (o : Option (List Ty)) (name : Text) (xs : List u.Member) (q : State) → b.around_of n o name (map bare_member xs) (k.state q) ≡ around (b.around_of n o name xs q)
around_kept n o name xs q = λ i. record (around (b.around_of n o name xs q)) { fields = own_fields_kept (k.state q) q (q.tables.first_field n) xs i }

counting_kept : (r : cl.Around) (xs : List u.Member) (q : State) → b.counting (around r) (map bare_member xs) (k.state q) ≡ around (b.counting r xs q)
counting_kept r xs q = λ i. record (around r) { count = count_kept r xs q i }

abbrev standing_of : ℕ → Option (List Ty) → d.Standing
standing_of n o = record { class = Some n; arguments = o; has_instance = false }

pub around_in_kept : (n : ℕ) (o : Option (List Ty)) (name : Text) (xs : List u.Member) (q : State) → b.around_in n o name (map bare_member xs) (k.state q) ≡ around (b.around_in n o name xs q)
around_in_kept n o name xs q = (λ i. b.counting (around_kept n o name xs (d.standing_in (standing_of n o) q) i) (map bare_member xs) (k.state q)) ∙
    counting_kept (b.around_of n o name xs (d.standing_in (standing_of n o) q)) xs q

class_members_goes : (n : ℕ) (w' w : PlacedName) (xs : List u.Member) → w' ≡ k.word w → Goes class_made (b.class_members n w' (map bare_member xs)) (b.class_members n w xs)
class_members_goes n w' w xs h q =
    (λ i. b.members_made (b.around_in n None (h i).text (map bare_member xs) (k.state q)) w' (map bare_member xs) (k.state q)) ∙
    (λ i. b.members_made (around_in_kept n None w.text xs q i) w' (map bare_member xs) (k.state q)) ∙
    members_made_goes (b.around_in n None w.text xs q) w' w xs h q

twice_mapped : (xs : List u.Member) → map unit_lined.member (map unit_erased.member xs) ≡ map bare_member xs
twice_mapped [] = refl
twice_mapped (x ∷ xs) = ap (λ (z : List u.Member). bare_member x ∷ z) (twice_mapped xs)

without_members_goes : (n : ℕ) (w' w : PlacedName) → w' ≡ k.word w → Goes class_made (b.without_members n w') (b.without_members n w)
without_members_goes n w' w h q = done _ _ _ _ q
    (λ i. record { class = n; names = q.names; name = h i; members = []; fields = []; values = []; count = 0; has_constructor = true; constructors = [] }) refl

abbrev bare_class : u.ClassKind → u.ClassKind
bare_class x = unit_lined.class_kind (unit_erased.class_kind x)

class_kind_goes : (n : ℕ) (w' w : PlacedName) (x : u.ClassKind) → w' ≡ k.word w → Goes class_made (b.class_kind n w' (bare_class x)) (b.class_kind n w x)
class_kind_goes n w' w (u.declared_class above interfaces opening members closing) h q = on_ends _ _ _ _ _ _ (superclass_goes above q) (λ m q. on_ends _ _ _ _ _ _ (clause_goes interfaces q)
    (λ m q. (λ i. b.class_members n w' (twice_mapped members i) (k.state q)) ∙ class_members_goes n w' w members h q))
class_kind_goes n w' w (u.mixed_class equals above mixins interfaces semicolon) h q = on_ends _ _ _ _ _ _ (kept_goes above q) (λ m q. on_ends _ _ _ _ _ _ (clause_goes (Some mixins) q)
    (λ m q. on_ends _ _ _ _ _ _ (clause_goes interfaces q) (λ m q. without_members_goes n w' w h q)))

has_kept : (x : u.ClassKind) → b.has_constructor (b.members_of (bare_class x)) || b.is_mixed (bare_class x) ≡ b.has_constructor (b.members_of x) || b.is_mixed x
has_kept (u.declared_class above interfaces opening members closing) = ap (λ (z : Bool). z || false) (ap b.has_constructor (twice_mapped members) ∙ has_same members)
has_kept (u.mixed_class equals above mixins interfaces semicolon) = refl

class_inside_goes : (n : ℕ) (x : u.Class) → Goes class_made (b.class_inside n (unit_lined.class (unit_erased.class x))) (b.class_inside n x)
class_inside_goes n x q = on_ends _ _ _ _ _ _ (implicit_goes _ (b.has_constructor (b.members_of x.kind) || b.is_mixed x.kind) _ (place_of x.name) (q.tables.superclass n) (has_kept x.kind) (place_line x.name) q)
    (λ forms q. on_ends _ _ _ _ _ _ (type_parameters_goes x.parameters q) (λ m q. class_kind_goes n _ (word_of x.name) x.kind (word_same x.name) q))

pub class_goes : (x : u.Class) → Goes class_made (b.class_declared (unit_lined.class (unit_erased.class x))) (b.class_declared x)
class_goes x q = on_ends _ _ _ _ _ _ (numbered_goes q) (λ m q.
    (λ i. b.in_class (q.tables.class_names (b.class_number (q.names.meaning (text_same x.name i)))) (b.class_inside (b.class_number (q.names.meaning (text_same x.name i))) (unit_lined.class (unit_erased.class x))) (k.state q)) ∙
    in_class_goes class_made (q.tables.class_names (b.class_number (q.names.meaning (text_of x.name)))) (b.class_inside (b.class_number (q.names.meaning (text_of x.name))) (unit_lined.class (unit_erased.class x)))
    (b.class_inside (b.class_number (q.names.meaning (text_of x.name))) x) (class_inside_goes (b.class_number (q.names.meaning (text_of x.name))) x) q)
