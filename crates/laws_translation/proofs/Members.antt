-- The members of classes go alike once annotations and columns are forgotten.
use Rattle.std.proofs.Common.{◌≡◌, refl, sym, ap, ◌∙◌, ℕ, zero, suc, List, [], ◌∷◌, ◌++◌, map, length, nat_eq, Option, None, Some, Bool, true, false, if◌then◌else◌}
use Rattle.std.proofs.lemmas.List.{map-append, length-map}
use Rattle.std.specs.Prelude.{bytes_eq}
use Rattle.std.specs.Option.{is_some}
use Rattle.dart_base.specs.declared.place.Place.{Place}
use Rattle.dart_base.specs.declared.feature.Feature.TheVariants.{Redirects}
use Rattle.dart_tree.specs.declared.identifier.DotName.{DotName}
use Rattle.dart_tree.specs.declared.declaration.Modifier.{Modifier}
use Rattle.dart_tree.specs.declared.declaration.Modifier.TheVariants as mo
use Rattle.dart_tree.specs.declared.declaration.OperatorName.{OperatorName}
use Rattle.dart_tree.specs.declared.declaration.OperatorName.TheVariants as op
use Rattle.dart_tree.specs.declared.declaration.ConstructorName.{ConstructorName}
use Rattle.dart_tree.specs.Places.{place_of}
use Rattle.dart_tree.specs.UnitView.{maybe}
use Rattle.dart_tree.specs.Tree as t
use Rattle.dart_tree.specs.Unit as u
use Rattle.dart_ir.specs.Ty.{dynamic}
use Rattle.core_program.specs.Program as p
use Rattle.laws_translation.specs.LinedLeaf as leaf
use Rattle.laws_translation.specs.Lined as lined
use Rattle.laws_translation.specs.LinedUnit as unit_lined
use Rattle.dart_erase.specs.Erased as erased
use Rattle.dart_erase.specs.UnitErased as unit_erased
use Rattle.translation.specs.Surroundings.{Text, Core, name_in}
use Rattle.translation.specs.Walk.{unasked, State, Walk, left_out, bad_constructor}
use Rattle.translation.specs.References.{Arguments}
use Rattle.translation.specs.Expressions as e
use Rattle.translation.specs.Functions as f
use Rattle.translation.specs.Productions as pr
use Rattle.translation.specs.Declarations as d
use Rattle.translation.specs.Classes as cl
use Rattle.laws_translation.proofs.Kept as k
use Rattle.laws_translation.proofs.Kept.{line, Goes, ends}
use Rattle.laws_translation.proofs.Ends.{on_ends, done, stop}
use Rattle.laws_translation.proofs.Firsts.{place_line}
use Rattle.laws_translation.proofs.TypesSame.{signature_loose}
use Rattle.laws_translation.proofs.Expressed.{meeting_same}
use Rattle.laws_translation.proofs.Closed.{head, function_goes, numbered_goes}
use Rattle.laws_translation.proofs.Parameters.{parameters_goes}
use Rattle.laws_translation.proofs.Bared.{law_body, law_arguments}
use Rattle.laws_translation.proofs.Declared.{outermost_goes, native_body_goes, unless_external_goes, parameter_count_same, bare, declared_goes, function_bare, accessor_bare, variables_goes}
use Rattle.laws_translation.proofs.Classed.{bare_member, bare_kind, bare_inits, around, draft, parts, id_same, generative_same, super_new_goes, implicit_goes, all_formals_goes, inits_goes, init_list_same, writes_super_same, own_block_goes, constructor_head_kept, constructed_goes, entering_goes, field_values_goes, static_same}

forms_goes : (r : cl.Around) (given : t.Parameters) (inits : Option u.Initializers) (implied : List Core) (z : t.Body) (ps : List (p.Parameter Text)) →
    Goes (map k.core) (cl.generative_forms (around r) (lined.parameters (erased.parameters given)) (bare_inits inits) (map k.core implied) (lined.body (erased.body z)) ps) (cl.generative_forms r given inits implied z ps)
forms_goes r given inits implied z ps q = on_ends _ _ _ _ _ _ (all_formals_goes r given ps q) (λ one q. on_ends _ _ _ _ _ _
    ((λ i. cl.initializers (around r) (init_list_same inits i) (k.state q)) ∙ inits_goes r (cl.init_list inits) q) (λ two q. on_ends _ _ _ _ _ _
    (entering_goes (map k.core) _ (record (d.inside (cl.with_instance r) unasked) { gives_value = false }) (cl.own_block (lined.body (erased.body z))) (cl.own_block z) refl (own_block_goes z) q)
    (λ last q. done _ _ (one ++ two ++ implied ++ last) _ q (four one two implied last) refl))) where
      four : (a b c d : List Core) → map k.core a ++ map k.core b ++ map k.core c ++ map k.core d ≡ map k.core (a ++ b ++ c ++ d)
      four a b c d = (λ i. sym (map-append k.core a b) i ++ map k.core c ++ map k.core d) ∙ (λ i. sym (map-append k.core (a ++ b) c) i ++ map k.core d) ∙ sym (map-append k.core (a ++ b ++ c) d)

generative_goes : (r : cl.Around) (name : ConstructorName) (given : t.Parameters) (inits : Option u.Initializers) (z : t.Body) (n : ℕ) →
    Goes parts (cl.generative_constructor (around r) (unit_lined.constructor_name name) (lined.parameters (erased.parameters given)) (bare_inits inits) (lined.body (erased.body z)) n) (cl.generative_constructor r name given inits z n)
generative_goes r name given inits z n q = on_ends _ _ _ _ _ _ (implicit_goes _ (cl.writes_super inits) _ (place_of name.class) (q.tables.superclass r.class) (writes_super_same inits) (place_line name.class) q)
    (λ implied q. constructed_goes r name true _ (cl.constructor_head r n (cl.id_of name.name) given (d.standing_in (cl.without_instance r) q))
    (f.bind_parameters true (d.standing_in (cl.without_instance r) (k.state q)) (lined.parameters (erased.parameters given))) (f.bind_parameters true (d.standing_in (cl.without_instance r) q) given)
    (cl.generative_forms (around r) (lined.parameters (erased.parameters given)) (bare_inits inits) (map k.core implied) (lined.body (erased.body z))) (cl.generative_forms r given inits implied z)
    (constructor_head_kept r n _ (cl.id_of name.name) given (d.standing_in (cl.without_instance r) q) (id_same name.name))
    (parameters_goes true (d.standing_in (cl.without_instance r) q) given) (forms_goes r given inits implied z) q)

redirects_same : (x : u.Constructor) (id : Text) (later : Option Text) → cl.redirects (unit_lined.constructor (unit_erased.constructor x)) id later ≡ cl.redirects x id later
redirects_same (u.redirecting name given colon this other handed semicolon) id later = λ i. if bytes_eq (id_same name.name i) id then Some (id_same other i) else later
redirects_same (u.generative constant name given inits body) id later = refl
redirects_same (u.factory external word name given body) id later = refl
redirects_same (u.redirecting_factory external word name given equals target other semicolon) id later = refl

target_same : (x : u.MemberKind) (id : Text) (later : Option Text) → cl.target_of (bare_kind x) id later ≡ cl.target_of x id later
target_same (u.constructor_member x) id later = redirects_same x id later
target_same (u.function_member x) id later = refl
target_same (u.accessor_member x) id later = refl
target_same (u.variables_member x) id later = refl
target_same (u.operator_member x) id later = refl

target_in_same : (xs : List u.Member) (id : Text) → cl.target_in (map bare_member xs) id ≡ cl.target_in xs id
target_in_same [] id = refl
target_in_same (x ∷ xs) id = ap (cl.target_of (bare_kind x.kind) id) (target_in_same xs id) ∙ target_same x.kind id (cl.target_in xs id)

leads_same : (n : ℕ) (xs : List u.Member) (id : Text) (at : Option Text) → cl.leads_to n (map bare_member xs) id at ≡ cl.leads_to n xs id at
leads_same zero xs id at = refl
leads_same (suc n) xs id None = refl
leads_same (suc n) xs id (Some at) = λ i. if bytes_eq at id then true else ((λ j. cl.leads_to n (map bare_member xs) id (target_in_same xs at j)) ∙ leads_same n xs id (cl.target_in xs at)) i

circular_same : (xs : List u.Member) (id' id : Text) → id' ≡ id → cl.is_circular (map bare_member xs) id' ≡ cl.is_circular xs id
circular_same xs id' id h = (λ i. cl.leads_to (length-map xs bare_member i) (map bare_member xs) (h i) (((λ j. cl.target_in (map bare_member xs) (h j)) ∙ target_in_same xs id) i)) ∙
    leads_same (length xs) xs id (cl.target_in xs id)

redirected_goes : (b' b : Bool) (place : Place) (o' o : Option ℕ) (w' w : Walk Arguments) → b' ≡ b → o' ≡ o → Goes k.arguments w' w →
    Goes (map k.core) (cl.redirected_if b' (line place) o' w') (cl.redirected_if b place o w)
redirected_goes b' b place o' o w' w h l n q = (λ i. cl.redirected_if (h i) (line place) (l i) w' (k.state q)) ∙ by_test b where
  by_test : (b : Bool) → cl.redirected_if b (line place) o w' (k.state q) ≡ ends (map k.core) (cl.redirected_if b place o w q)
  by_test true = stop _ _ (bad_constructor place) refl
  by_test false = super_new_goes place o w' w n q

redirecting_goes : (r : cl.Around) (xs : List u.Member) (name : ConstructorName) (given : t.Parameters) (this : Place) (other : Option DotName) (handed : t.Arguments) (n : ℕ) →
    Goes parts (cl.redirecting_constructor (around r) (map bare_member xs) (unit_lined.constructor_name name) (lined.parameters (erased.parameters given)) (line this) (maybe leaf.dot_name other) (lined.arguments (erased.arguments handed)) n)
    (cl.redirecting_constructor r xs name given this other handed n)
redirecting_goes r xs name given this other handed n q = constructed_goes r name false _ (cl.constructor_head r n (cl.id_of name.name) given (d.standing_in (cl.without_instance r) q))
    (f.bind_parameters false (d.standing_in (cl.without_instance r) (k.state q)) (lined.parameters (erased.parameters given))) (f.bind_parameters false (d.standing_in (cl.without_instance r) q) given)
    (λ ps q. cl.redirected_if (cl.is_circular (map bare_member xs) (cl.id_of (maybe leaf.dot_name name.name))) (line this) (cl.generative r.class (maybe leaf.dot_name other) q) (pr.arguments (lined.arguments (erased.arguments handed))) q)
    (λ ps q. cl.redirected_if (cl.is_circular xs (cl.id_of name.name)) this (cl.generative r.class other q) (pr.arguments handed) q)
    (constructor_head_kept r n _ (cl.id_of name.name) given (d.standing_in (cl.without_instance r) q) (id_same name.name))
    (parameters_goes false (d.standing_in (cl.without_instance r) q) given)
    (λ ps q. redirected_goes _ (cl.is_circular xs (cl.id_of name.name)) this _ (cl.generative r.class other q) (pr.arguments (lined.arguments (erased.arguments handed))) (pr.arguments handed)
    (circular_same xs _ (cl.id_of name.name) (id_same name.name)) (generative_same r.class other q) (law_arguments handed) q) q

factory_head_kept : (r : cl.Around) (n : ℕ) (i' id : Text) (z : t.Parameters) (q : State) → i' ≡ id →
    cl.factory_head (around r) n i' (lined.parameters (erased.parameters z)) (k.state q) ≡ head (cl.factory_head r n id z q)
factory_head_kept r n i' id z q h = λ i. record (head (cl.factory_head r n id z q)) { name = name_in q.names.library (cl.constructor_name r.name (h i)); signature = signature_loose q dynamic z i }

factory_goes : (r : cl.Around) (external : Option Place) (name : ConstructorName) (given : t.Parameters) (z : t.Body) (n : ℕ) →
    Goes parts (cl.factory (around r) (maybe line external) (unit_lined.constructor_name name) (lined.parameters (erased.parameters given)) (lined.body (erased.body z)) n) (cl.factory r external name given z n)
factory_goes r external name given z n q = on_ends _ _ _ _ _ _ (unless_external_goes (λ n. n) external (q.tables.native n)
    (d.outermost 0 (f.function (cl.factory_head (around r) n (cl.id_of (maybe leaf.dot_name name.name)) (lined.parameters (erased.parameters given)) (d.standing_in (cl.without_instance r) (k.state q)))
    (f.bind_parameters false (d.standing_in (cl.without_instance r) (k.state q)) (lined.parameters (erased.parameters given)))
    (d.native_body (maybe line external) (q.tables.native n) false (lined.parameters (erased.parameters given)) (pr.body (lined.body (erased.body z))))))
    (d.outermost 0 (f.function (cl.factory_head r n (cl.id_of name.name) given (d.standing_in (cl.without_instance r) q))
    (f.bind_parameters false (d.standing_in (cl.without_instance r) q) given) (d.native_body external (q.tables.native n) false given (pr.body z))))
    (outermost_goes (λ n. n) 0 _ (f.function (cl.factory_head r n (cl.id_of name.name) given (d.standing_in (cl.without_instance r) q))
    (f.bind_parameters false (d.standing_in (cl.without_instance r) q) given) (d.native_body external (q.tables.native n) false given (pr.body z)))
    (function_goes _ (cl.factory_head r n (cl.id_of name.name) given (d.standing_in (cl.without_instance r) q))
    (f.bind_parameters false (d.standing_in (cl.without_instance r) (k.state q)) (lined.parameters (erased.parameters given))) (f.bind_parameters false (d.standing_in (cl.without_instance r) q) given)
    (d.native_body (maybe line external) (q.tables.native n) false (lined.parameters (erased.parameters given)) (pr.body (lined.body (erased.body z)))) (d.native_body external (q.tables.native n) false given (pr.body z))
    (factory_head_kept r n _ (cl.id_of name.name) given (d.standing_in (cl.without_instance r) q) (id_same name.name)) (parameters_goes false (d.standing_in (cl.without_instance r) q) given)
    (native_body_goes external (q.tables.native n) false given (pr.body (lined.body (erased.body z))) (pr.body z) (law_body z)))) q)
    (λ n q. done _ _ cl.no_parts _ q refl refl)

no_redirects_goes : (word : Place) → Goes parts (cl.no_redirects (line word)) (cl.no_redirects word)
no_redirects_goes word q = stop _ _ (left_out word Redirects) refl

given_same : (o : Option Place) → is_some (maybe line o) ≡ is_some o
given_same None = refl
given_same (Some place) = refl

constructor_goes : (r : cl.Around) (xs : List u.Member) (x : u.Constructor) (n : ℕ) →
    Goes parts (cl.constructor (around r) (map bare_member xs) (unit_lined.constructor (unit_erased.constructor x)) n) (cl.constructor r xs x n)
constructor_goes r xs (u.generative constant name given inits body) n q =
    (λ i. cl.generative_constructor (around r) (unit_lined.constructor_name name) (lined.parameters (erased.parameters given)) (bare_inits inits) (lined.body (erased.body body)) n (meeting_same _ (is_some constant) q (given_same constant) i)) ∙
    generative_goes r name given inits body n (e.meeting_constant (is_some constant) q)
constructor_goes r xs (u.redirecting name given colon this other handed semicolon) n q = redirecting_goes r xs name given this other handed n q
constructor_goes r xs (u.factory external word name given body) n q = factory_goes r external name given body n q
constructor_goes r xs (u.redirecting_factory external word name given equals target other semicolon) n q =
    unless_external_goes parts external (q.tables.native n) (cl.no_redirects (line word)) (cl.no_redirects word) (no_redirects_goes word) q

-- ---- members

standing_same : (r : cl.Around) (b : Bool) → cl.standing_of (around r) b ≡ cl.standing_of r b
standing_same r true = refl
standing_same r false = refl

external_line : (x : Modifier) (o : Option Place) → cl.external_of (unit_lined.modifier x) (maybe line o) ≡ maybe line (cl.external_of x o)
external_line mo.Omitted o = refl
external_line (mo.Static place) o = refl
external_line (mo.ExternalStatic first second) o = refl

method_bare : (r : cl.Around) (x : Modifier) (z : d.Declared) → Goes parts (cl.method (around r) (unit_lined.modifier x) (bare z)) (cl.method r x z)
method_bare r x z q = on_ends _ _ _ _ _ _
    ((λ i. d.declared_function (((λ j. cl.standing_of (around r) (static_same x j)) ∙ standing_same r (cl.is_static x)) i) (record (bare z) { external = cl.external_of (unit_lined.modifier x) (bare z).external }) (k.state q)) ∙
    declared_goes (cl.standing_of r (cl.is_static x)) _ (record z { external = cl.external_of x z.external })
    (λ i. record (bare z) { external = external_line x z.external i }) q)
    (λ n q. done _ _ cl.no_parts _ q refl refl)

method_goes : (r : cl.Around) (x : Modifier) (z' z : d.Declared) → z' ≡ bare z → Goes parts (cl.method (around r) (unit_lined.modifier x) z') (cl.method r x z)
method_goes r x z' z h q = (λ i. cl.method (around r) (unit_lined.modifier x) (h i) (k.state q)) ∙ method_bare r x z q

operator_word_same : (x : OperatorName) (b' b : Bool) → b' ≡ b → cl.operator_word (unit_lined.operator_name x) b' ≡ k.word (cl.operator_word x b)
operator_word_same (op.Sign place sign) b' b h = ap (λ (z : Bool). record { place = line place; text = cl.operator_text sign z }) h
operator_word_same (op.ShiftRight first second) b' b h = refl
operator_word_same (op.Index opening closing) b' b h = refl
operator_word_same (op.IndexAssign opening closing equals) b' b h = refl

operator_bare : (x : u.OperatorMember) → cl.operator_declared (unit_lined.operator_member (unit_erased.operator_member x)) ≡ bare (cl.operator_declared x)
operator_bare x = λ i. record (bare (cl.operator_declared x)) {
  name = operator_word_same x.name _ (nat_eq (d.parameter_count x.parameters) 0) (ap (λ (n : ℕ). nat_eq n 0) (parameter_count_same x.parameters)) i;
}

fields_goes : (r : cl.Around) (b' b : Bool) (x : t.Variables) → b' ≡ b → Goes parts (cl.fields_or_statics (around r) b' (lined.variables (erased.variables x))) (cl.fields_or_statics r b x)
fields_goes r b' b x h q = (λ i. cl.fields_or_statics (around r) (h i) (lined.variables (erased.variables x)) (k.state q)) ∙ by_test b where
  by_test : (b : Bool) → cl.fields_or_statics (around r) b (lined.variables (erased.variables x)) (k.state q) ≡ ends parts (cl.fields_or_statics r b x q)
  by_test true = on_ends _ _ _ _ _ _ (variables_goes x q) (λ n q. done _ _ cl.no_parts _ q refl refl)
  by_test false = on_ends _ _ _ _ _ _ (entering_goes (map k.core) _ (d.inside (cl.without_instance r) unasked) (cl.field_values (around r) (lined.variables (erased.variables x))) (cl.field_values r x) refl (field_values_goes r x) q)
      (λ forms q. done _ _ (record { values = forms; drafts = [] }) _ q refl refl)

member_goes : (r : cl.Around) (xs : List u.Member) (m : Modifier) (x : u.MemberKind) → Goes parts (cl.member (around r) (map bare_member xs) (unit_lined.modifier m) (bare_kind x)) (cl.member r xs m x)
member_goes r xs m (u.constructor_member x) q = on_ends _ _ _ _ _ _ (numbered_goes q) (λ n q. constructor_goes r xs x n q)
member_goes r xs m (u.function_member x) q = method_goes r m _ (d.function_declared x) (function_bare x) q
member_goes r xs m (u.accessor_member x) q = method_goes r m _ (d.accessor_declared x) (accessor_bare x) q
member_goes r xs m (u.variables_member x) q = fields_goes r _ (cl.is_static m) x (static_same m) q
member_goes r xs m (u.operator_member x) q = method_goes r m _ (cl.operator_declared x) (operator_bare x) q

with_parts_kept : (x y : cl.Parts) → cl.with_parts (parts x) (parts y) ≡ parts (cl.with_parts x y)
with_parts_kept x y = λ i. record { values = sym (map-append k.core x.values y.values) i; drafts = sym (map-append draft x.drafts y.drafts) i }

pub members_goes : (r : cl.Around) (all xs : List u.Member) → Goes parts (cl.all_members (around r) (map bare_member all) (map bare_member xs)) (cl.all_members r all xs)
members_goes r all [] q = done _ _ cl.no_parts _ q refl refl
members_goes r all (x ∷ xs) q = on_ends _ _ _ _ _ _ (member_goes r all x.modifier x.kind q) (λ one q. on_ends _ _ _ _ _ _ (members_goes r all xs q)
    (λ more q. done _ _ (cl.with_parts one more) _ q (with_parts_kept one more) refl))
