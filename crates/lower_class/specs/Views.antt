-- What contracts see of classes, their fields and constructors.
use Rattle.std.specs.Prelude.{ℕ, List, [], ◌++◌, map, take, drop, nat_eq, Option, None, Some, Bool, true, false}
use Rattle.std.specs.Global.{Vec}
use Rattle.dart_base.specs.declared.place.Place.{Place}
use Rattle.dart_tree.specs.declared.identifier.DotName.{DotName}
use Rattle.dart_tree.specs.declared.identifier.Identifier.{Identifier}
use Rattle.dart_tree.specs.declared.parameter.ThisDot.{ThisDot}
use Rattle.dart_tree.specs.Places.{place_of}
use Rattle.dart_tree.specs.Tree as t
use Rattle.dart_tree.specs.Unit as u
use Rattle.translation.specs.Classes as cl
use Rattle.translation.specs.Declarations as d
use Rattle.translation.specs.Functions as f
use Rattle.translation.specs.Productions as low
use Rattle.translation.specs.References.{Arguments}
use Rattle.translation.specs.Surroundings.{Text, Ty, Core}
use Rattle.translation.specs.Walk as w
use Rattle.translation.specs.Surroundings.{name_in}
use Rattle.translation.specs.Types as y
use Rattle.core_program.specs.Program as p
use Rattle.dart_ir.specs.Ty.{dynamic}
use Rattle.dart_ir.specs.declared.native.NativeId.{NativeId}
use Rattle.dart_tree.specs.UnitView as unit_view
use Rattle.dart_tree.specs.View as view
use Rattle.dart_tree.specs.declared.declaration.ConstructorName.{ConstructorName}
use Rattle.lower_leaf.specs.Around.{Around, text, option_types}
use Rattle.lower_leaf.specs.Forms.{cores}
use Rattle.lower_leaf.specs.Seen.{asked}
use Rattle.lower_reference.specs.Referred.{word}
use Rattle.lower_function.specs.Formals.{AllFormals, formals, formals_of}
use Rattle.lower_function.specs.Made.{parameters, signature}
use Rattle.lower_decl.specs.Standings.{heading}
use Rattle.lower_class.specs.declared.field.Field.{Field}
use Rattle.lower_class.specs.declared.field.ClassAround.{ClassAround}
use Rattle.lower_class.specs.declared.construct.Draft.{Draft}
use Rattle.lower_class.specs.declared.construct.Parts.{Parts}
use Rattle.lower_class.specs.declared.header.Signed.{Signed}
use Rattle.lower_class.specs.declared.construct.Forms.{Forms}
use Rattle.lower_class.specs.declared.construct.Forms.TheVariants as k

abbrev pub field : Around → Field → cl.Field
field a x = record { name = word x.name; index = x.index; asked = asked a x.wanted; is_final = x.is_final }

abbrev pub fields : Around → Vec Field → List cl.Field
fields a xs = map (field a) xs.items

abbrev pub class_around : Around → ClassAround → cl.Around
class_around a x = record {
  class = x.class.0;
  arguments = option_types a x.arguments;
  name = x.name;
  fields = fields a x.fields;
  count = x.count;
}

abbrev pub draft : Around → Draft → cl.Draft
draft a x = record {
  place = x.place;
  id = x.id;
  head = heading a x.head;
  parameters = parameters a x.parameters;
  has_values = x.has_values;
  forms = cores a x.forms.items;
  vars = x.vars;
}

abbrev pub parts : Around → Parts → cl.Parts
parts a x = record { values = cores a x.values.items; drafts = map (draft a) x.drafts.items }

-- ---- parts of walks

-- the functions made since have so many variables
abbrev pub counted : ℕ → ℕ → w.State → w.State
counted first count st = record st {
  functions = take first st.functions ++ map (d.with_vars count) (drop first st.functions);
}

-- ---- calls of the superclass's constructor

abbrev pub is_object : ℕ → Option DotName → Bool
is_object n None = nat_eq n 0
is_object n (Some dot) = false

abbrev pub super_above : Place → ℕ → Option DotName → w.Walk Arguments → w.Walk (List Core)
super_above place n dot arguments st = cl.super_of place (Some n) dot arguments st

abbrev pub without_arguments : w.Walk Arguments
without_arguments st = w.went low.no_arguments st

-- ---- initialisers

-- what an initialising formal writes
abbrev pub formal_at : cl.Around → t.ParameterKind → ℕ → w.Walk (List Core)
formal_at around kind x st = cl.formal_write around (f.this_of kind) (y.text_of (y.parameter_name kind)) x st

abbrev pub field_initializer : cl.Around → Option ThisDot → Identifier → t.Operand → t.Cascades → w.Walk (List Core)
field_initializer around this_dot name operand cascades st =
    cl.initializer around [] (u.field_init this_dot name (place_of name) operand cascades) st

-- an initialiser, the last of the list or not
abbrev pub initializer_at : cl.Around → Bool → u.InitKind → w.Walk (List Core)
initializer_at around true of st = cl.initializer around [] of st
initializer_at around false (u.super_init word dot given) st = w.refused (w.bad_constructor word)
initializer_at around false (u.field_init this_dot name equals operand cascades) st =
    field_initializer around this_dot name operand cascades st

-- ---- constructors

-- the context of a constructor, in which no value is returned
abbrev pub constructing : cl.Around → Bool → w.Inside
constructing around has_instance = record (d.inside (record (cl.without_instance around) { has_instance = has_instance }) w.unasked) { gives_value = false }

-- the name, the type and the parameters
pub record SignedConstructor : Type 0 where
  pub name : Text
  pub signature : Ty
  pub formals : AllFormals

abbrev pub signed : Around → Signed → SignedConstructor
signed a x = record { name = text a x.name; signature = signature a x.signature; formals = formals a x.formals }

abbrev pub signed_of : cl.Around → Text → t.Parameters → w.State → SignedConstructor
signed_of around id given st = record {
  name = name_in st.names.library (cl.constructor_name around.name id);
  signature = y.function_type (d.standing_in (cl.without_instance around) st) dynamic given;
  formals = formals_of (d.standing_in (cl.without_instance around) st) given;
}

abbrev pub forms_of : Around → cl.Around → Forms → List (p.Parameter Text) → w.Walk (List Core)
forms_of a around (k.Own given list body implied) bound st = cl.generative_forms around (view.parameters given.now)
    (unit_view.maybe unit_view.initializers list.now) (cores a implied.items) (view.body body.now) bound st
forms_of a around (k.Redirecting is_circular this other handed) bound st = cl.redirected_if is_circular this
    (cl.generative around.class other.now st) (low.arguments (view.arguments handed.now)) st

-- the parameters, and then the forms
abbrev pub formed : ConstructorName → Bool → f.Head → w.Walk (List (p.Parameter Text)) → (List (p.Parameter Text) → w.Walk (List Core)) → w.Walk cl.Parts
formed name has_values head bind forms st = w.on (bind st) (λ bound st. w.on (forms bound st)
    (λ all st. w.went (cl.drafted (place_of name.class) (cl.id_of name.name) has_values head bound all st) st))

-- in the context of the constructor and a scope of its own
abbrev pub formed_there : ConstructorName → Bool → f.Head → w.Walk (List (p.Parameter Text)) → (List (p.Parameter Text) → w.Walk (List Core)) → w.Walk cl.Parts
formed_there name has_values head bind forms st = cl.entering head.inside (w.scoped (formed name has_values head bind forms)) st

-- Initialising formals stand in a constructor with initial values alone.
abbrev pub constructed_with : cl.Around → ConstructorName → Bool → t.Parameters → ℕ → (List (p.Parameter Text) → w.Walk (List Core)) → w.Walk cl.Parts
constructed_with around name has_values given n forms st = cl.constructed around name has_values
    (cl.constructor_head around n (cl.id_of name.name) given (d.standing_in (cl.without_instance around) st))
    (f.bind_parameters has_values (d.standing_in (cl.without_instance around) st) given) forms st

-- a factory whose native is there, if it needs one
abbrev pub written_factory : cl.Around → Option Place → Option NativeId → ConstructorName → t.Parameters → t.Body → ℕ → w.Walk ℕ
written_factory around external native name given body n st = d.outermost 0 (f.function
    (cl.factory_head around n (cl.id_of name.name) given (d.standing_in (cl.without_instance around) st))
    (f.bind_parameters false (d.standing_in (cl.without_instance around) st) given)
    (d.native_body external native false given (low.body body))) st
