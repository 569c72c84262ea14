-- What is added to classes goes alike once annotations and columns are forgotten.
use Rattle.std.proofs.Common.{◌≡◌, refl, sym, ap, ◌∙◌, ℕ, zero, suc, ◌+◌, List, [], ◌∷◌, ◌++◌, map, length, nat_eq, Option, None, Some, Bool, true, false}
use Rattle.std.proofs.lemmas.List.{map-append}
use Rattle.std.proofs.lemmas.Option.{slice_get-map}
use Rattle.std.specs.Prelude.{cond, slice_get}
use Rattle.std.specs.Option.{option_map}
use Rattle.dart_base.specs.declared.place.Place.{Place}
use Rattle.dart_ir.specs.Ty.{TysOf, NamedTysOf, dynamic, function, nil, cons, unnamed, named}
use Rattle.dart_ir.specs.declared.kind.SiteKind.TheVariants as kind
use Rattle.core_program.specs.declared.program.FunctionKind.TheVariants.{Plain, Generative}
use Rattle.core_program.specs.Core as c
use Rattle.core_program.specs.Program as p
use Rattle.core_program.specs.Alike as alike
use Rattle.core_program.specs.Stripped as stripped
use Rattle.translation.specs.Surroundings.{Text, Ty, Core, Mixin}
use Rattle.translation.specs.Walk.{unasked, State, on, checked}
use Rattle.translation.specs.References.{block, variable, own_name, row}
use Rattle.translation.specs.Functions as f
use Rattle.translation.specs.Classes as cl
use Rattle.translation.specs.ClassBodies as b
use Rattle.translation.specs.Applications as apps
use Rattle.laws_translation.proofs.Kept as k
use Rattle.laws_translation.proofs.Kept.{line, Goes, ends}
use Rattle.laws_translation.proofs.Ends.{on_ends, done, checked_goes, with_site_goes}
use Rattle.laws_translation.proofs.Referred.{block_kept, row_kept}
use Rattle.laws_translation.proofs.Stated.{given_kept}
use Rattle.laws_translation.proofs.Closed.{head, numbered_goes}
use Rattle.laws_translation.proofs.Classed.{bare_member, field, around, all_values_goes, implicit_goes, field_write_at}
use Rattle.laws_translation.proofs.Bodied.{class_made, finished_kept, with_function_kept, in_class_goes, around_in_kept}

-- ---- accessors and unnamed constructors

add_goes : (n : ℕ) (h' h : f.Head) (ps : List (p.Parameter Text)) (form : Core) → h' ≡ head h → Goes (λ n. n) (b.add n h' ps (k.core form)) (b.add n h ps form)
add_goes n h' h ps form e q = (λ i. b.add n (e i) ps (k.core form) (k.state q)) ∙ done _ _ 0 _ (b.with_function (b.finished h ps (c.given form) n q) q) refl
    (with_function_kept _ (b.finished h ps (c.given form) n q) q (finished_kept h ps _ (c.given form) n q (given_kept form)))

field_leaf : (place : Place) (n : ℕ) → c.at (line place) (c.leaf (c.field n)) ≡ k.core (c.at place (c.leaf (c.field n)))
unfolding k.core
field_leaf place n = refl

getter_goes : (n : ℕ) (x : cl.Field) → Goes (λ n. n) (b.getter_added n (field x)) (b.getter_added n x)
getter_goes n x q = on_ends _ _ _ _ _ _ (numbered_goes q) (λ m q2.
    (λ i. b.add 0 (b.added_head m Plain (own_name x.name q2) (b.getter_type (k.asked x.asked)) n) [] (field_leaf x.name.place x.index i) (k.state q2)) ∙
    add_goes 0 _ (b.added_head m Plain (own_name x.name q2) (b.getter_type x.asked) n) [] (c.at x.name.place (c.leaf (c.field x.index))) refl q2)

variable_kept : (place : Place) (n : ℕ) → variable (line place) n ≡ k.core (variable place n)
unfolding k.core
variable_kept place n = refl

setter_made_goes : (n : ℕ) (x : cl.Field) (m : ℕ) → Goes (λ n. n) (b.setter_made n (field x) m) (b.setter_made n x m)
setter_made_goes n x m q = on_ends _ _ _ _ _ _ (with_site_goes kind.Param _ x.name.place _ unasked refl refl q) (λ site q2. on_ends _ _ _ _ _ _
    ((λ i. checked kind.FieldStore (line x.name.place) (k.asked x.asked) (variable_kept x.name.place 0 i) (k.state q2)) ∙ checked_goes kind.FieldStore _ x.name.place _ x.asked (variable x.name.place 0) refl refl q2)
    (λ form q3. (λ i. b.add 1 (b.added_head m Plain (own_name x.name q3) (b.setter_type (k.asked x.asked)) n) (b.setter_parameter site ∷ []) (field_write_at _ x.name.place x.index form refl i) (k.state q3)) ∙
    add_goes 1 _ (b.added_head m Plain (own_name x.name q3) (b.setter_type x.asked) n) (b.setter_parameter site ∷ []) (cl.field_write x.name.place x.index form) refl q3))

setter_goes : (v : Bool) (n : ℕ) (x : cl.Field) → Goes (λ n. n) (b.setter_added v n (field x)) (b.setter_added v n x)
setter_goes true n x q = done _ _ 0 _ q refl refl
setter_goes false n x q = on_ends _ _ _ _ _ _ (numbered_goes q) (λ m q. setter_made_goes n x m q)

accessors_goes : (n : ℕ) (xs : List cl.Field) → Goes (λ n. n) (b.accessors_added n (map field xs)) (b.accessors_added n xs)
accessors_goes n [] q = done _ _ 0 _ q refl refl
accessors_goes n (x ∷ xs) q = on_ends _ _ _ _ _ _ (getter_goes n x q) (λ m q. on_ends _ _ _ _ _ _ (setter_goes x.is_final n x q) (λ m q. accessors_goes n xs q))

unnamed_goes : (x : b.ClassMade) (m : ℕ) → Goes (λ a. a) (b.unnamed_added (class_made x) m) (b.unnamed_added x m)
unnamed_goes x m q = on_ends _ _ _ _ _ _ (implicit_goes false false _ x.name.place (q.tables.superclass x.class) refl refl q) (λ forms q. on_ends _ _ _ _ _ _
    ((λ i. b.add x.count (b.added_head m Generative (own_name x.name q) (function dynamic nil nil unnamed) x.class) [] (((λ j. block (line x.name.place) (sym (map-append k.core x.values forms) j)) ∙ block_kept x.name.place (x.values ++ forms)) i) (k.state q)) ∙
    add_goes x.count _ (b.added_head m Generative (own_name x.name q) (function dynamic nil nil unnamed) x.class) [] (block x.name.place (x.values ++ forms)) refl q)
    (λ j q. done _ _ (record { number = m; id = []; parameters = [] } ∷ []) _ q refl refl))

constructor_goes : (v : Bool) (x : b.ClassMade) → Goes (λ a. a) (b.constructor_added v (class_made x)) (b.constructor_added v x)
constructor_goes true x q = done _ _ x.constructors _ q refl refl
constructor_goes false x q = on_ends _ _ _ _ _ _ (numbered_goes q) (λ m q. unnamed_goes x m q)

class_added_goes : (x : b.ClassMade) → Goes (λ a. a) (b.class_added (class_made x)) (b.class_added x)
class_added_goes x q = in_class_goes (λ a. a) x.names
    (λ q. on (b.accessors_added x.class (map field x.fields) q) (λ m q. b.constructor_added x.has_constructor (class_made x) q))
    (λ q. on (b.accessors_added x.class x.fields q) (λ m q. b.constructor_added x.has_constructor x q))
    (λ q. on_ends _ _ _ _ _ _ (accessors_goes x.class x.fields q) (λ m q. constructor_goes x.has_constructor x q)) q

-- ---- forwarding constructors

site_place_same : (place : Place) (o : Option (p.Site Text)) → apps.site_place (line place) (option_map k.site o) ≡ line (apps.site_place place o)
site_place_same place None = refl
site_place_same place (Some x) = refl

found_place : (place : Place) (n : ℕ) (q : State) → apps.site_place (line place) (slice_get (map k.site q.sites) n) ≡ line (apps.site_place place (slice_get q.sites n))
found_place place n q = (λ i. apps.site_place (line place) (slice_get-map k.site q.sites n i)) ∙ site_place_same place (slice_get q.sites n)

forwarded_goes : (place : Place) (x : ℕ) (ps : List (p.Parameter Text)) → Goes (λ a. a) (apps.forwarded (line place) x ps) (apps.forwarded place x ps)
forwarded_goes place x [] q = done _ _ [] _ q refl refl
forwarded_goes place x (one ∷ more) q = on_ends _ _ _ _ _ _
    (with_site_goes kind.Param _ (apps.site_place place (slice_get q.sites one.site)) _ unasked (found_place place one.site q) refl q)
    (λ site q. on_ends _ _ _ _ _ _ (forwarded_goes place (x + 1) more q) (λ rest q. done _ _ (record one { var = x; site = site } ∷ rest) _ q refl refl))

dynamic_loose : (ps : List (p.Parameter Text)) → stripped.all_dynamic (apps.all_dynamic ps) ≡ apps.all_dynamic ps
dynamic_loose [] = refl
dynamic_loose (one ∷ more) = ap (λ (z : TysOf Text). cons dynamic z) (dynamic_loose more)

named_loose : (ps : List (p.Parameter Text)) → stripped.all_named_dynamic (apps.named_dynamic ps) ≡ apps.named_dynamic ps
named_loose [] = refl
named_loose (one ∷ more) = ap (λ (z : NamedTysOf Text). named one.name dynamic z) (named_loose more)

forwarder_loose : (ps : List (p.Parameter Text)) → stripped.loose (apps.forwarder_type ps) ≡ apps.forwarder_type ps
forwarder_loose ps = λ i. function dynamic (dynamic_loose (apps.of_shape apps.is_required ps) i)
    (dynamic_loose (apps.of_shape apps.is_optional ps) i) (named_loose (apps.of_shape apps.is_named ps) i)

head_forwarded : (r : cl.Around) (x : p.Class Text) (one : cl.Generated) (n : ℕ) (ps : List (p.Parameter Text)) →
    apps.forwarder_head (around r) (alike.class x) one n ps ≡ head (apps.forwarder_head r x one n ps)
head_forwarded r x one n ps = λ i. record (apps.forwarder_head r x one n ps) { signature = sym (forwarder_loose ps) i }

variables_read : (place : Place) (ps : List (p.Parameter Text)) →
    map (λ (q : p.Parameter Text). variable (line place) q.var) ps ≡ map k.core (map (λ (q : p.Parameter Text). variable place q.var) ps)
variables_read place [] = refl
variables_read place (one ∷ more) = λ i. variable_kept place one.var i ∷ variables_read place more i

handed_kept : (place : Place) (ps : List (p.Parameter Text)) → apps.handed (line place) ps ≡ k.arguments (apps.handed place ps)
handed_kept place ps = λ i. record (k.arguments (apps.handed place ps)) { forms = variables_read place ps i }

forwarding_kept : (place : Place) (o : Option ℕ) (n : ℕ) (ps : List (p.Parameter Text)) → apps.forwarding (line place) o n ps ≡ map k.core (apps.forwarding place o n ps)
forwarding_kept place None n ps = refl
forwarding_kept place (Some zero) n ps = refl
forwarding_kept place (Some (suc m)) n ps = (λ i. row (line place) (c.super_new n) (handed_kept place ps i) ∷ []) ∙
    ap (λ (z : Core). z ∷ []) (row_kept place (c.super_new n) (apps.handed place ps))

forwarder_body : (place : Place) (values : List Core) (o : Option ℕ) (n : ℕ) (ps : List (p.Parameter Text)) →
    block (line place) (map k.core values ++ apps.forwarding (line place) o n ps) ≡ k.core (block place (values ++ apps.forwarding place o n ps))
forwarder_body place values o n ps = (λ i. block (line place) (map k.core values ++ forwarding_kept place o n ps i)) ∙
    (λ i. block (line place) (sym (map-append k.core values (apps.forwarding place o n ps)) i)) ∙ block_kept place (values ++ apps.forwarding place o n ps)

forwarder_made_goes : (r : cl.Around) (x : p.Class Text) (values : List Core) (one : cl.Generated) (n : ℕ) (ps : List (p.Parameter Text)) →
    Goes (λ a. a) (apps.forwarder_made (around r) (alike.class x) (map k.core values) one n ps) (apps.forwarder_made r x values one n ps)
forwarder_made_goes r x values one n ps q = on_ends _ _ _ _ _ _
    ((λ i. b.add (r.count + length ps) (apps.forwarder_head (around r) (alike.class x) one n ps) ps (forwarder_body x.place values (q.tables.superclass r.class) one.number ps i) (k.state q)) ∙
    add_goes (r.count + length ps) _ (apps.forwarder_head r x one n ps) ps (block x.place (values ++ apps.forwarding x.place (q.tables.superclass r.class) one.number ps)) (head_forwarded r x one n ps) q)
    (λ j q. done _ _ (record { number = n; id = one.id; parameters = ps }) _ q refl refl)

forwarder_goes : (r : cl.Around) (x : p.Class Text) (values : List Core) (one : cl.Generated) →
    Goes (λ a. a) (apps.forwarder (around r) (alike.class x) (map k.core values) one) (apps.forwarder r x values one)
forwarder_goes r x values one q = on_ends _ _ _ _ _ _ (numbered_goes q) (λ n q. on_ends _ _ _ _ _ _ (forwarded_goes x.place r.count one.parameters q)
    (λ ps q. forwarder_made_goes r x values one n ps q))

forwarders_goes : (r : cl.Around) (x : p.Class Text) (values : List Core) (all : List cl.Generated) →
    Goes (λ a. a) (apps.forwarders (around r) (alike.class x) (map k.core values) all) (apps.forwarders r x values all)
forwarders_goes r x values [] q = done _ _ [] _ q refl refl
forwarders_goes r x values (one ∷ more) q = on_ends _ _ _ _ _ _ (forwarder_goes r x values one q) (λ made q. on_ends _ _ _ _ _ _
    (forwarders_goes r x values more q) (λ rest q. done _ _ (made ∷ rest) _ q refl refl))

-- ---- mixin applications

application_in_goes : (r : cl.Around) (x : p.Class Text) (mixin : b.ClassMade) (above : List cl.Generated) →
    Goes (λ a. a) (apps.application_in (around r) (alike.class x) (class_made mixin) above) (apps.application_in r x mixin above)
application_in_goes r x mixin above q = on_ends _ _ _ _ _ _ (accessors_goes r.class r.fields q) (λ j q. on_ends _ _ _ _ _ _
    (all_values_goes r mixin.members q) (λ values q. forwarders_goes r x values above q))

application_goes : (n : ℕ) (x : p.Class Text) (given : List Ty) (mixin : b.ClassMade) (above : List cl.Generated) →
    Goes (λ a. a) (apps.application_of n (alike.class x) given (class_made mixin) above) (apps.application_of n x given mixin above)
application_goes n x given mixin above q = in_class_goes (λ a. a) mixin.names
    (λ q. apps.application_in (b.around_in n (Some given) mixin.name.text (map bare_member mixin.members) q) (alike.class x) (class_made mixin) above q)
    (λ q. apps.application_in (b.around_in n (Some given) mixin.name.text mixin.members q) x mixin above q)
    (λ q. (λ i. apps.application_in (around_in_kept n (Some given) mixin.name.text mixin.members q i) (alike.class x) (class_made mixin) above (k.state q)) ∙
    application_in_goes (b.around_in n (Some given) mixin.name.text mixin.members q) x mixin above q) q

option_goes : (n : ℕ) (x : p.Class Text) (given : List Ty) (o : Option b.ClassMade) (above : List cl.Generated) →
    Goes (λ a. a) (apps.application_added n (alike.class x) given (option_map class_made o) above) (apps.application_added n x given o above)
option_goes n x given None above q = done _ _ [] _ q refl refl
option_goes n x given (Some mixin) above q = application_goes n x given mixin above q

declared_added_goes : (o : Option b.ClassMade) → Goes (λ a. a) (apps.declared_added (option_map class_made o)) (apps.declared_added o)
declared_added_goes None q = done _ _ [] _ q refl refl
declared_added_goes (Some x) q = class_added_goes x q

-- ---- class by class

chosen_made : (v : Bool) (x : b.ClassMade) (o : Option b.ClassMade) → cond v (Some (class_made x)) (option_map class_made o) ≡ option_map class_made (cond v (Some x) o)
chosen_made true x o = refl
chosen_made false x o = refl

found_made : (n : ℕ) (xs : List b.ClassMade) → apps.declared_as n (map class_made xs) ≡ option_map class_made (apps.declared_as n xs)
found_made n [] = refl
found_made n (x ∷ xs) = (λ i. cond (nat_eq x.class n) (Some (class_made x)) (found_made n xs i)) ∙ chosen_made (nat_eq x.class n) x (apps.declared_as n xs)

added_to_goes : (o : Option Mixin) (n : ℕ) (x : p.Class Text) (made : List b.ClassMade) (built : List apps.Built) →
    Goes (λ a. a) (apps.added_to o n (alike.class x) (map class_made made) built) (apps.added_to o n x made built)
added_to_goes None n x made built q = (λ i. apps.declared_added (found_made n made i) (k.state q)) ∙ declared_added_goes (apps.declared_as n made) q
added_to_goes (Some mixin) n x made built q =
    (λ i. apps.application_added n (alike.class x) mixin.arguments (found_made mixin.class made i) (apps.constructors_of built (q.tables.superclass n)) (k.state q)) ∙
    option_goes n x mixin.arguments (apps.declared_as mixin.class made) (apps.constructors_of built (q.tables.superclass n)) q

pub added_goes : (n : ℕ) (xs : List (p.Class Text)) (made : List b.ClassMade) (built : List apps.Built) →
    Goes (λ a. a) (apps.added n (map alike.class xs) (map class_made made) built) (apps.added n xs made built)
added_goes n [] made built q = done _ _ 0 _ q refl refl
added_goes n (x ∷ xs) made built q = on_ends _ _ _ _ _ _ (added_to_goes (q.tables.mixin n) n x made built q)
    (λ all q. added_goes (n + 1) xs made (record { class = n; constructors = all } ∷ built) q)
