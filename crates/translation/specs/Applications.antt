-- What is added to the classes of a table, one after another, and what mixin applications get: accessors and initial values of the
-- fields of their mixin, and constructors that forward those of the superclass (ECMA-408, 12.1 Mixin Application).
use Rattle.std.specs.Prelude.{ℕ, zero, suc, ◌+◌, List, [], ◌∷◌, ◌++◌, map, filter, length, nat_eq, Option, None, Some, Bool, true, false, slice_get}
use Rattle.std.specs.List.{find}
use Rattle.dart_base.specs.declared.place.Place.{Place}
use Rattle.dart_ir.specs.Ty.{TysOf, NamedTysOf, dynamic, function, unnamed, named}
use Rattle.dart_ir.specs.declared.kind.Shape.{Shape}
use Rattle.dart_ir.specs.declared.kind.Shape.TheVariants as shape
use Rattle.dart_ir.specs.declared.kind.SiteKind.TheVariants as kind
use Rattle.core_program.specs.declared.program.FunctionKind.TheVariants.{Generative}
use Rattle.core_program.specs.Core as c
use Rattle.core_program.specs.Program as p
use Rattle.translation.specs.Surroundings.{Text, Ty, Core, Mixin}
use Rattle.translation.specs.Walk.{unasked, Walk, went, on, with_site}
use Rattle.translation.specs.Types.{tys}
use Rattle.translation.specs.References.{Arguments, row, variable, block}
use Rattle.translation.specs.Functions as f
use Rattle.translation.specs.Classes as cl
use Rattle.translation.specs.Classes.{Around, Generated}
use Rattle.translation.specs.ClassBodies as b
use Rattle.translation.specs.ClassBodies.{ClassMade}

-- ---- the parameters of a forwarding constructor

abbrev pub site_place : Place → Option (p.Site Text) → Place
site_place otherwise None = otherwise
site_place otherwise (Some site) = site.place

-- Those of the superclass's constructor with their default values: variables from number x on, whose sites have no types.
abbrev pub forwarded : Place → ℕ → List (p.Parameter Text) → Walk (List (p.Parameter Text))
forwarded place x [] st = went [] st
forwarded place x (q ∷ qs) st = on (with_site kind.Param (site_place place (slice_get st.sites q.site)) unasked st) (λ site st.
    on (forwarded place (x + 1) qs st) (λ more st. went (record q { var = x; site = site } ∷ more) st))

abbrev pub is_required : Shape → Bool
is_required shape.Required = true
is_required other = false

abbrev pub is_optional : Shape → Bool
is_optional shape.Optional = true
is_optional other = false

abbrev pub is_named : Shape → Bool
is_named shape.Named = true
is_named other = false

abbrev pub of_shape : (Shape → Bool) → List (p.Parameter Text) → List (p.Parameter Text)
of_shape test parameters = filter (λ q. test q.shape) parameters

abbrev pub all_dynamic : List (p.Parameter Text) → TysOf Text
all_dynamic parameters = tys (map (λ q. dynamic) parameters)

abbrev pub named_dynamic : List (p.Parameter Text) → NamedTysOf Text
named_dynamic [] = unnamed
named_dynamic (q ∷ qs) = named q.name dynamic (named_dynamic qs)

abbrev pub forwarder_type : List (p.Parameter Text) → Ty
forwarder_type parameters = function dynamic (all_dynamic (of_shape is_required parameters))
    (all_dynamic (of_shape is_optional parameters)) (named_dynamic (of_shape is_named parameters))

-- ---- forwarding constructors

-- all parameters, those with names by their names
abbrev pub handed : Place → List (p.Parameter Text) → Arguments
handed place parameters = record {
  forms = map (λ q. variable place q.var) parameters;
  names = map (λ q. q.name) (of_shape is_named parameters);
}

-- SuperNew(k, parameters), unless the superclass is Object
abbrev pub forwarding : Place → Option ℕ → ℕ → List (p.Parameter Text) → List Core
forwarding place None n parameters = []
forwarding place (Some zero) n parameters = []
forwarding place (Some (suc k)) n parameters = row place (c.super_new n) (handed place parameters) ∷ []

abbrev pub forwarder_head : Around → p.Class Text → Generated → ℕ → List (p.Parameter Text) → f.Head
forwarder_head around x one n parameters =
    b.added_head n Generative (cl.constructor_name x.name one.id) (forwarder_type parameters) around.class

abbrev pub forwarder_made : Around → p.Class Text → List Core → Generated → ℕ → List (p.Parameter Text) → Walk Generated
forwarder_made around x values one n parameters st = on (b.add (around.count + length parameters)
    (forwarder_head around x one n parameters) parameters
    (block x.place (values ++ forwarding x.place (st.tables.superclass around.class) one.number parameters)) st)
    (λ j st. went (record { number = n; id = one.id; parameters = parameters }) st)

-- The initial values of the fields come first, and then the superclass's constructor.
abbrev pub forwarder : Around → p.Class Text → List Core → Generated → Walk Generated
forwarder around x values one st = on (f.numbered st) (λ n st. on (forwarded x.place around.count one.parameters st)
    (λ parameters st. forwarder_made around x values one n parameters st))

abbrev pub forwarders : Around → p.Class Text → List Core → List Generated → Walk (List Generated)
forwarders around x values [] st = went [] st
forwarders around x values (one ∷ more) st = on (forwarder around x values one st)
    (λ made st. on (forwarders around x values more st) (λ rest st. went (made ∷ rest) st))

-- ---- mixin applications

-- Its fields are those of the mixin, numbered behind the superclass's, and their initial values are translated once more, since its
-- type arguments stand in them.
abbrev pub application_in : Around → p.Class Text → ClassMade → List Generated → Walk (List Generated)
application_in around x mixin above st = on (b.accessors_added around.class around.fields st) (λ j st.
    on (cl.all_values around mixin.members st) (λ values st. forwarders around x values above st))

abbrev pub application_of : ℕ → p.Class Text → List Ty → ClassMade → List Generated → Walk (List Generated)
application_of n x arguments mixin above st = b.in_class mixin.names
    (λ st. application_in (b.around_in n (Some arguments) mixin.name.text mixin.members st) x mixin above st) st

abbrev pub application_added : ℕ → p.Class Text → List Ty → Option ClassMade → List Generated → Walk (List Generated)
application_added n x arguments None above st = went [] st
application_added n x arguments (Some mixin) above st = application_of n x arguments mixin above st

-- ---- class by class, in the order of the table

-- the generative constructors of a class that was added to
pub record Built : Type 0 where
  pub class : ℕ
  pub constructors : List Generated

abbrev pub constructors_in : Option Built → List Generated
constructors_in None = []
constructors_in (Some x) = x.constructors

abbrev pub constructors_of : List Built → Option ℕ → List Generated
constructors_of built None = []
constructors_of built (Some n) = constructors_in (find (λ x. nat_eq x.class n) built)

abbrev pub declared_as : ℕ → List ClassMade → Option ClassMade
declared_as n made = find (λ x. nat_eq x.class n) made

abbrev pub declared_added : Option ClassMade → Walk (List Generated)
declared_added None st = went [] st
declared_added (Some x) st = b.class_added x st

abbrev pub added_to : Option Mixin → ℕ → p.Class Text → List ClassMade → List Built → Walk (List Generated)
added_to None n x made built st = declared_added (declared_as n made) st
added_to (Some mixin) n x made built st =
    application_added n x mixin.arguments (declared_as mixin.class made) (constructors_of built (st.tables.superclass n)) st

-- The classes stand after their superclasses.
abbrev pub added : ℕ → List (p.Class Text) → List ClassMade → List Built → Walk ℕ
added n [] made built st = went 0 st
added n (x ∷ xs) made built st = on (added_to (st.tables.mixin n) n x made built st)
    (λ all st. added (n + 1) xs made (record { class = n; constructors = all } ∷ built) st)
