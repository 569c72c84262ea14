-- Classes, their fields and constructors (ECMA-408, 10 Classes, 10.5 Instance Variables, 10.6 Constructors).
use Rattle.std.specs.Prelude.{ℕ, zero, suc, ◌+◌, List, [], ◌∷◌, ◌++◌, map, length, take, drop, nat_eq, bytes_eq, Option, None, Some, Bool, true, false, codes, if◌then◌else◌}
use Rattle.std.specs.List.{list_any, find, range_with_len}
use Rattle.std.specs.Option.{is_some}
use Rattle.dart_base.specs.declared.place.Place.{Place}
use Rattle.dart_base.specs.declared.feature.Feature.TheVariants.{Redirects}
use Rattle.dart_token.specs.declared.sign.Sign.{Sign}
use Rattle.dart_token.specs.declared.sign.Sign.TheVariants as sg
use Rattle.dart_token.specs.Sign.{sign_text}
use Rattle.dart_tree.specs.declared.identifier.Identifier.{Identifier}
use Rattle.dart_tree.specs.declared.identifier.DotName.{DotName}
use Rattle.dart_tree.specs.declared.parameter.ThisDot.{ThisDot}
use Rattle.dart_tree.specs.declared.declaration.Modifier.{Modifier}
use Rattle.dart_tree.specs.declared.declaration.Modifier.TheVariants as mo
use Rattle.dart_tree.specs.declared.declaration.OperatorName.{OperatorName}
use Rattle.dart_tree.specs.declared.declaration.OperatorName.TheVariants as op
use Rattle.dart_tree.specs.declared.declaration.ConstructorName.{ConstructorName}
use Rattle.dart_tree.specs.Places.{place_of}
use Rattle.dart_tree.specs.Tree as t
use Rattle.dart_tree.specs.Unit as u
use Rattle.dart_ir.specs.Ty.{dynamic, class, parameter}
use Rattle.dart_ir.specs.declared.kind.SiteKind.TheVariants as kind
use Rattle.dart_ir.specs.declared.kind.ThrowKind.TheVariants.{NoSuchMethodError}
use Rattle.core_program.specs.declared.program.FunctionKind.TheVariants.{Generative, Factory}
use Rattle.core_program.specs.Core as c
use Rattle.core_program.specs.Program as p
use Rattle.translation.specs.Surroundings.{Text, Ty, Core}
use Rattle.translation.specs.Surroundings as m
use Rattle.translation.specs.Walk.{Asked, unasked, Inside, State, Went, Walk, went, refused, on, left_out, bad_constructor, checked, scoped}
use Rattle.translation.specs.Firsts as first
use Rattle.translation.specs.Types.{PlacedName, word_of, text_of, tys, asked_of_kind, is_const, function_type, is_final, parameter_name}
use Rattle.translation.specs.References.{Arguments, row, variable, raised_behind}
use Rattle.translation.specs.Expressions as e
use Rattle.translation.specs.Functions as f
use Rattle.translation.specs.Productions as pr
use Rattle.translation.specs.Declarations.{Standing, Declared, static_standing, standing_in, inside, outermost, with_vars, declared_function, function_declared, accessor_declared, variables_declared, unless_external, native_body, count, parameter_count}

-- ---- fields (10.5 Instance Variables)

-- a field that the class declares, counted from Object's end of the chain
pub record Field : Type 0 where
  pub name : PlacedName
  pub index : ℕ
  pub asked : Asked
  pub is_final : Bool

abbrev pub is_static : Modifier → Bool
is_static mo.Omitted = false
is_static other = true

abbrev pub more_fields : Asked → Bool → ℕ → t.MoreVariables → List Field
more_fields asked final_one n t.no_variables = []
more_fields asked final_one n (t.variable comma name value rest) =
    record { name = word_of name; index = n; asked = asked; is_final = final_one } ∷ more_fields asked final_one (n + 1) rest

abbrev pub fields_of : State → ℕ → t.Variables → List Field
fields_of st n (t.the_variables kind name value more semicolon) =
    record { name = word_of name; index = n; asked = asked_of_kind st kind; is_final = is_final kind } ∷
    more_fields (asked_of_kind st kind) (is_final kind) (n + 1) more

abbrev pub member_fields : State → ℕ → Bool → u.MemberKind → List Field
member_fields st n false (u.variables_member x) = fields_of st n x
member_fields st n other x = []

-- in text order, from the number of the first on
abbrev pub own_fields : State → ℕ → List u.Member → List Field
own_fields st n [] = []
own_fields st n (x ∷ xs) = member_fields st n (is_static x.modifier) x.kind ++
    own_fields st (n + length (member_fields st n (is_static x.modifier) x.kind)) xs

abbrev pub field_named : List Field → Text → Option Field
field_named fields name = find (λ x. bytes_eq x.name.text name) fields

abbrev pub field_write : Place → ℕ → Core → Core
field_write place n form = c.at place (c.unary (c.field_write n) form)

-- FieldWrite(i, Check(FieldInit, e)), or an error where the class doesn't declare the field
abbrev pub write_field : Place → Place → Option Field → Text → Core → Walk Core
write_field place at None name form st =
    went (raised_behind place (form ∷ []) NoSuchMethodError (m.name_in st.names.library name) true) st
write_field place at (Some x) name form st =
    on (checked kind.FieldInit at x.asked form st) (λ form st. went (field_write place x.index form) st)

-- ---- the initial values of fields

-- The class around: its number, its name, its fields, and how many variables their initial values number. A mixin application
-- has the fields of its mixin, with these type arguments; their declarations are numbered in the mixin.
pub record Around : Type 0 where
  pub class : ℕ
  pub arguments : Option (List Ty)
  pub name : Text
  pub fields : List Field
  pub count : ℕ

-- no instance stands in initial values and initialiser lists
abbrev pub without_instance : Around → Standing
without_instance around = record { class = Some around.class; arguments = around.arguments; has_instance = false }

abbrev pub with_instance : Around → Standing
with_instance around = record { class = Some around.class; arguments = around.arguments; has_instance = true }

abbrev pub entering : {A : Type 0} → Inside → Walk A → Walk A
entering context walk st = on (walk (record st { inside = context })) (λ a after. went a (record after { inside = st.inside }))

-- A function inside numbers its variables with those of all initial values of the class.
abbrev pub counted_since : ℕ → State → State → State
counted_since count before st = record st {
  functions = take (length before.functions) st.functions ++ map (with_vars count) (drop (length before.functions) st.functions);
}

abbrev pub initial_value : Around → Place → Text → t.Value → Walk (List Core)
initial_value around place name t.omitted st = went [] st
initial_value around place name (t.given operator given) st = on (pr.expr given st) (λ form after.
    on (write_field place (first.first_of_expr given) (field_named around.fields name) name form (counted_since around.count st after))
    (λ form after. went (form ∷ []) after))

abbrev pub field_numbered : Option (List Ty) → Walk ℕ
field_numbered None st = f.numbered st
field_numbered (Some arguments) st = went 0 st

abbrev pub field_value : Around → Place → Identifier → t.Value → Walk (List Core)
field_value around place name value st =
    on (field_numbered around.arguments st) (λ n after. initial_value around place (text_of name) value after)

abbrev pub more_values : Around → Place → t.MoreVariables → Walk (List Core)
more_values around place t.no_variables st = went [] st
more_values around place (t.variable comma name value rest) st = on (field_value around place name value st)
    (λ forms st. on (more_values around place rest st) (λ more st. went (forms ++ more) st))

abbrev pub field_values : Around → t.Variables → Walk (List Core)
field_values around (t.the_variables kind name value more semicolon) st =
    on (field_value around (first.first_of_variables kind name) name value (e.meeting_constant (is_const kind) st))
    (λ forms st. on (more_values around (first.first_of_variables kind name) more st) (λ rest st. went (forms ++ rest) st))

abbrev pub values_of : Around → Bool → u.MemberKind → Walk (List Core)
values_of around false (u.variables_member x) st = entering (inside (without_instance around) unasked) (field_values around x) st
values_of around other x st = went [] st

abbrev pub all_values : Around → List u.Member → Walk (List Core)
all_values around [] st = went [] st
all_values around (x ∷ xs) st = on (values_of around (is_static x.modifier) x.kind st)
    (λ forms st. on (all_values around xs st) (λ more st. went (forms ++ more) st))

abbrev pub variables_after : Went (List Core) → ℕ
variables_after (went forms st) = st.variables
variables_after (refused why) = 0

-- what is in scope there, and nothing made
abbrev pub blank : State → State
blank st = record st {
  scopes = [];
  targets = [];
  variables = 0;
  declarations = 0;
  sites = [];
  literals = [];
  functions = [];
  statics = [];
  has_constants = false;
}

-- how many variables the initial values of a class number, where nothing is made
abbrev pub value_count : Around → List u.Member → State → ℕ
value_count around members st = variables_after (all_values around members (blank st))

abbrev pub this_or : Option ThisDot → Place → Place
this_or None place = place
this_or (Some this_dot) place = this_dot.this

-- ---- constructors (10.6.1 Generative Constructors)

-- a generative constructor, as a mixin application forwards it: its number, its id, and its parameters
pub record Generated : Type 0 where
  pub number : ℕ
  pub id : Text
  pub parameters : List (p.Parameter Text)

-- a constructor before the initial values of fields are put in front
pub record Draft : Type 0 where
  pub place : Place
  pub id : Text
  pub head : f.Head
  pub parameters : List (p.Parameter Text)
  pub has_values : Bool
  pub forms : List Core
  pub vars : ℕ

pub record Parts : Type 0 where
  pub values : List Core
  pub drafts : List Draft

abbrev pub no_parts : Parts
no_parts = record { values = []; drafts = [] }

abbrev pub with_parts : Parts → Parts → Parts
with_parts x y = record { values = x.values ++ y.values; drafts = x.drafts ++ y.drafts }

abbrev pub id_of : Option DotName → Text
id_of None = []
id_of (Some dot) = text_of dot.name

-- the constructor of that class with the id, where it is generative
abbrev pub generative_of : m.Made → Option ℕ
generative_of (m.generative n) = Some n
generative_of other = None

abbrev pub generative : ℕ → Option DotName → State → Option ℕ
generative n dot st = generative_of (st.tables.constructor n (m.name_in st.names.library (id_of dot)))

-- SuperNew(k, args)
abbrev pub super_new : Place → Option ℕ → Walk Arguments → Walk (List Core)
super_new place None arguments st = refused (bad_constructor place)
super_new place (Some n) arguments st = on (arguments st) (λ all st. went (row place (c.super_new n) all ∷ []) st)

-- Object's constructor is called by nothing; what it is handed is evaluated.
abbrev pub super_of : Place → Option ℕ → Option DotName → Walk Arguments → Walk (List Core)
super_of place None dot arguments st = refused (bad_constructor place)
super_of place (Some zero) None arguments st = on (arguments st) (λ all st. went all.forms st)
super_of place (Some n) dot arguments st = super_new place (generative n dot st) arguments st

-- One FieldWrite for each initialising formal, of its parameter.
abbrev pub formal_write : Around → Option ThisDot → Text → ℕ → Walk (List Core)
formal_write around None name x st = went [] st
formal_write around (Some this_dot) name x st =
    on (write_field this_dot.this this_dot.this (field_named around.fields name) name (variable this_dot.this x) st)
    (λ form st. went (form ∷ []) st)

abbrev pub kind_of_parameter : t.Parameter → t.ParameterKind
kind_of_parameter (t.the_parameter comma _ kind value) = kind

abbrev pub formals : Around → t.ParameterList → List (p.Parameter Text) → Walk (List Core)
formals around t.no_parameters bound st = went [] st
formals around (t.parameter one more) [] st = went [] st
formals around (t.parameter one more) (x ∷ xs) st =
    on (formal_write around (f.this_of (kind_of_parameter one)) (text_of (parameter_name (kind_of_parameter one))) x.var st)
    (λ forms st. on (formals around more xs st) (λ rest st. went (forms ++ rest) st))

abbrev pub all_formals : Around → t.Parameters → List (p.Parameter Text) → Walk (List Core)
all_formals around (t.the_parameters opening required brackets optional closing) bound st =
    on (formals around required bound st) (λ forms st.
    on (formals around optional (drop (count required) bound) st) (λ rest st. went (forms ++ rest) st))

-- An initialiser; a call of `super` stands last.
abbrev pub initializer : Around → List u.Init → u.InitKind → Walk (List Core)
initializer around (next ∷ rest) (u.super_init word dot given) st = refused (bad_constructor word)
initializer around [] (u.super_init word dot given) st =
    super_of word (st.tables.superclass around.class) dot (pr.arguments given) st
initializer around rest (u.field_init this_dot name equals operand cascades) st = on (pr.expr (t.plain operand cascades) st) (λ form st.
    on (write_field (this_or this_dot (place_of name)) (first.first_of_operand operand) (field_named around.fields (text_of name))
    (text_of name) form st) (λ form st. went (form ∷ []) st))

abbrev pub initializers : Around → List u.Init → Walk (List Core)
initializers around [] st = went [] st
initializers around (x ∷ xs) st = on (initializer around xs x.kind st)
    (λ forms st. on (initializers around xs st) (λ more st. went (forms ++ more) st))

abbrev pub init_list : Option u.Initializers → List u.Init
init_list None = []
init_list (Some x) = x.items

abbrev pub is_super : u.InitKind → Bool
is_super (u.super_init word dot given) = true
is_super (u.field_init this_dot name equals operand _) = false

-- where no `super` is written, the unnamed constructor of the superclass is called without arguments
abbrev pub implicit_super : Bool → Place → Option ℕ → Walk (List Core)
implicit_super true place superclass st = went [] st
implicit_super false place None st = went [] st
implicit_super false place (Some n) st = super_of place (Some n) None (λ st. went pr.no_arguments st) st

abbrev pub writes_super : Option u.Initializers → Bool
writes_super inits = list_any (λ x. is_super x.kind) (init_list inits)

abbrev pub own_block : t.Body → Walk (List Core)
own_block (t.block_body inside) st = on (pr.block_of inside st) (λ form st. went (form ∷ []) st)
own_block other st = went [] st

-- what a constructor is called: its id, or its class's name where it has none
abbrev pub constructor_name : Text → Text → Text
constructor_name own [] = own
constructor_name own (first ∷ rest) = first ∷ rest

abbrev pub constructor_head : Around → ℕ → Text → t.Parameters → State → f.Head
constructor_head around number id parameters st = record {
  number = number;
  kind = Generative;
  name = m.name_in st.names.library (constructor_name around.name id);
  signature = function_type st dynamic parameters;
  inside = record (inside (without_instance around) unasked) { gives_value = false };
}

abbrev pub drafted : Place → Text → Bool → f.Head → List (p.Parameter Text) → List Core → State → Parts
drafted place id has_values head parameters forms st = record {
  values = [];
  drafts = record {
    place = place;
    id = m.name_in st.names.library id;
    head = head;
    parameters = parameters;
    has_values = has_values;
    forms = forms;
    vars = st.variables;
  } ∷ [];
}

-- the parameters, then the forms of the constructor, whose variables follow those of the initial values
abbrev pub constructed : Around → ConstructorName → Bool → f.Head → Walk (List (p.Parameter Text)) →
    (List (p.Parameter Text) → Walk (List Core)) → Walk Parts
constructed around name has_values head parameters forms st = outermost (if has_values then around.count else 0)
    (λ st. entering head.inside (scoped (λ st. on (parameters st) (λ bound st. on (forms bound st)
    (λ all st. went (drafted (place_of name.class) (id_of name.name) has_values head bound all st) st)))) st) st

abbrev pub generative_forms :
    Around → t.Parameters → Option u.Initializers → List Core → t.Body → List (p.Parameter Text) → Walk (List Core)
generative_forms around given inits implied body bound st = on (all_formals around given bound st) (λ first st.
    on (initializers around (init_list inits) st) (λ second st.
    on (entering (record (inside (with_instance around) unasked) { gives_value = false }) (own_block body) st)
    (λ last st. went (first ++ second ++ implied ++ last) st)))

abbrev pub generative_constructor : Around → ConstructorName → t.Parameters → Option u.Initializers → t.Body → ℕ → Walk Parts
generative_constructor around name given inits body n st =
    on (implicit_super (writes_super inits) (place_of name.class) (st.tables.superclass around.class) st) (λ implied st.
    constructed around name true
    (constructor_head around n (id_of name.name) given (standing_in (without_instance around) st))
    (f.bind_parameters true (standing_in (without_instance around) st) given) (generative_forms around given inits implied body) st)

-- ---- redirecting constructors: none leads back to itself

abbrev pub redirects : u.Constructor → Text → Option Text → Option Text
redirects (u.redirecting name given colon this other handed semicolon) id later =
    if bytes_eq (id_of name.name) id then Some (id_of other) else later
redirects other id later = later

abbrev pub target_of : u.MemberKind → Text → Option Text → Option Text
target_of (u.constructor_member x) id later = redirects x id later
target_of other id later = later

-- the id of the constructor that one with this id redirects to
abbrev pub target_in : List u.Member → Text → Option Text
target_in [] id = None
target_in (x ∷ xs) id = target_of x.kind id (target_in xs id)

-- whether so many redirections from there lead to the constructor
abbrev pub leads_to : ℕ → List u.Member → Text → Option Text → Bool
leads_to zero members id at = false
leads_to (suc n) members id None = false
leads_to (suc n) members id (Some at) = if bytes_eq at id then true else leads_to n members id (target_in members at)

abbrev pub is_circular : List u.Member → Text → Bool
is_circular members id = leads_to (length members) members id (target_in members id)

abbrev pub redirected_if : Bool → Place → Option ℕ → Walk Arguments → Walk (List Core)
redirected_if true place constructor arguments st = refused (bad_constructor place)
redirected_if false place constructor arguments st = super_new place constructor arguments st

abbrev pub redirecting_constructor :
    Around → List u.Member → ConstructorName → t.Parameters → Place → Option DotName → t.Arguments → ℕ → Walk Parts
redirecting_constructor around members name given this other handed n st = constructed around name false
    (constructor_head around n (id_of name.name) given (standing_in (without_instance around) st))
    (f.bind_parameters false (standing_in (without_instance around) st) given)
    (λ bound st. redirected_if (is_circular members (id_of name.name)) this (generative around.class other st) (pr.arguments handed) st) st

-- ---- factories (10.6.2 Factories)

-- the class over its own type parameters
abbrev pub own_type : ℕ → State → Ty
own_type n st = class n (tys (map parameter (range_with_len 0 (st.tables.parameters n))))

-- A factory's value is asked for the class, which erasure keeps.
abbrev pub factory_head : Around → ℕ → Text → t.Parameters → State → f.Head
factory_head around number id parameters st = record {
  number = number;
  kind = Factory;
  name = m.name_in st.names.library (constructor_name around.name id);
  signature = function_type st dynamic parameters;
  inside = inside (without_instance around) (record { of = Some (own_type around.class st); annotated = false });
}

abbrev pub factory : Around → Option Place → ConstructorName → t.Parameters → t.Body → ℕ → Walk Parts
factory around external name given body n st = on (unless_external external (st.tables.native n) (outermost 0 (f.function
    (factory_head around n (id_of name.name) given (standing_in (without_instance around) st))
    (f.bind_parameters false (standing_in (without_instance around) st) given)
    (native_body external (st.tables.native n) false given (pr.body body)))) st) (λ n st. went no_parts st)

abbrev pub no_redirects : Place → Walk Parts
no_redirects word st = refused (left_out word Redirects)

abbrev pub constructor : Around → List u.Member → u.Constructor → ℕ → Walk Parts
constructor around members (u.generative constant name given inits body) n st =
    generative_constructor around name given inits body n (e.meeting_constant (is_some constant) st)
constructor around members (u.redirecting name given colon this other handed semicolon) n st =
    redirecting_constructor around members name given this other handed n st
constructor around members (u.factory external word name given body) n st = factory around external name given body n st
constructor around members (u.redirecting_factory external word name given equals target other semicolon) n st =
    unless_external external (st.tables.native n) (no_redirects word) st

-- ---- members

abbrev pub standing_of : Around → Bool → Standing
standing_of around true = static_standing
standing_of around false = with_instance around

-- `external` before `static`
abbrev pub external_of : Modifier → Option Place → Option Place
external_of (mo.ExternalStatic place static) written = Some place
external_of other written = written

abbrev pub method : Around → Modifier → Declared → Walk Parts
method around modifier x st =
    on (declared_function (standing_of around (is_static modifier)) (record x { external = external_of modifier x.external }) st)
    (λ n st. went no_parts st)

-- the place and the text of an operator's name; `-` without parameters has a name of its own (10.1.1 Operators)
abbrev pub operator_text : Sign → Bool → Text
operator_text sg.Minus true = codes "unary-"
operator_text sign without_parameters = sign_text sign

abbrev pub operator_word : OperatorName → Bool → PlacedName
operator_word (op.Sign place sign) without_parameters = record { place = place; text = operator_text sign without_parameters }
operator_word (op.ShiftRight first second) without_parameters = record { place = first; text = codes ">>" }
operator_word (op.Index opening closing) without_parameters = record { place = opening; text = codes "[]" }
operator_word (op.IndexAssign opening closing equals) without_parameters = record { place = opening; text = codes "[]=" }

abbrev pub operator_declared : u.OperatorMember → Declared
operator_declared x = record {
  external = x.external;
  name = operator_word x.name (nat_eq (parameter_count x.parameters) 0);
  result = x.result_type;
  parameters = x.parameters;
  body = x.body;
}

abbrev pub fields_or_statics : Around → Bool → t.Variables → Walk Parts
fields_or_statics around true x st = on (variables_declared x st) (λ n st. went no_parts st)
fields_or_statics around false x st = on (entering (inside (without_instance around) unasked) (field_values around x) st)
    (λ forms st. went (record { values = forms; drafts = [] }) st)

abbrev pub member : Around → List u.Member → Modifier → u.MemberKind → Walk Parts
member around members modifier (u.constructor_member x) st = on (f.numbered st) (constructor around members x)
member around members modifier (u.function_member x) st = method around modifier (function_declared x) st
member around members modifier (u.accessor_member x) st = method around modifier (accessor_declared x) st
member around members modifier (u.variables_member x) st = fields_or_statics around (is_static modifier) x st
member around members modifier (u.operator_member x) st = method around modifier (operator_declared x) st

abbrev pub all_members : Around → List u.Member → List u.Member → Walk Parts
all_members around members [] st = went no_parts st
all_members around members (x ∷ xs) st = on (member around members x.modifier x.kind st)
    (λ parts st. on (all_members around members xs st) (λ more st. went (with_parts parts more) st))
