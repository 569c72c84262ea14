-- Top-level and static functions, accessors and variables, and the methods of classes (ECMA-408, 8 Variables, 9 Functions, 10.1
-- Instance Methods, 10.2 Getters, 10.3 Setters, 10.7 Static Methods, 10.8 Static Variables).
use Rattle.std.specs.Prelude.{ℕ, ◌+◌, List, [], ◌∷◌, ◌++◌, map, length, take, drop, filter, Option, None, Some, Bool, true, false}
use Rattle.std.specs.List.{range_with_len}
use Rattle.dart_base.specs.declared.place.Place.{Place}
use Rattle.dart_base.specs.declared.feature.Feature.TheVariants.{External}
use Rattle.dart_tree.specs.Types as y
use Rattle.dart_tree.specs.Tree as t
use Rattle.dart_tree.specs.Unit as u
use Rattle.dart_ir.specs.declared.native.NativeId.{NativeId}
use Rattle.core_program.specs.declared.program.FunctionKind.TheVariants.{Plain}
use Rattle.core_program.specs.Core as c
use Rattle.core_program.specs.Program as p
use Rattle.translation.specs.Surroundings.{Text, Ty, Core}
use Rattle.translation.specs.Walk.{Asked, unasked, Inside, Made, State, Walk, went, refused, on, within, left_out}
use Rattle.translation.specs.Firsts as first
use Rattle.translation.specs.Types.{PlacedName, word_of, asked_of_kind, asked_of_result, function_type, result_type, is_final, is_const}
use Rattle.translation.specs.References.{by_place, row, this, variable, own_name}
use Rattle.translation.specs.Expressions as e
use Rattle.translation.specs.Statements as s
use Rattle.translation.specs.Functions as f
use Rattle.translation.specs.Productions as pr

-- ---- an outermost function or initialiser

-- How many variables are numbered is known where it ends.
abbrev pub with_vars : ℕ → Made (p.Function Text) → Made (p.Function Text)
with_vars count x = record x { made = record x.made { vars = count } }

abbrev pub numbered_since : State → State → State
numbered_since before st = record st {
  variables = before.variables;
  functions = take (length before.functions) st.functions ++ map (with_vars st.variables) (drop (length before.functions) st.functions);
}

-- with variables numbered from a first one on
unfoldable pub outermost : {A : Type 0} → ℕ → Walk A → Walk A
outermost start walk st = on (walk (record st { variables = start })) (λ a after. went a (numbered_since st after))

-- where a body stands: the class whose type parameters may stand there, the type arguments that a mixin application gives it as a
-- mixin, and whether there is an instance
pub record Standing : Type 0 where
  pub class : Option ℕ
  pub arguments : Option (List Ty)
  pub has_instance : Bool

abbrev pub inside : Standing → Asked → Inside
inside standing result = record {
  class = standing.class;
  arguments = standing.arguments;
  has_instance = standing.has_instance;
  result = result;
  gives_value = true;
  in_handler = false;
}

-- the types of a declaration are looked up where it stands
abbrev pub standing_in : Standing → State → State
standing_in standing st = record st { inside = inside standing unasked }

-- ---- external functions: the profile has them in the prelude alone

abbrev pub count : t.ParameterList → ℕ
count t.no_parameters = 0
count (t.parameter one more) = 1 + count more

abbrev pub parameter_count : t.Parameters → ℕ
parameter_count (t.the_parameters opening required brackets optional closing) = count required + count optional

abbrev pub with_this : Bool → Place → List Core → List Core
with_this true place forms = this place ∷ forms
with_this false place forms = forms

-- Native of the parameters, with `this` first where there is one
abbrev pub native_form : Place → NativeId → Bool → ℕ → Core
native_form place native has_instance parameters =
    row place (c.native native) (by_place (with_this has_instance place (map (variable place) (range_with_len 0 parameters))))

abbrev pub native_body : Option Place → Option NativeId → Bool → t.Parameters → Walk (c.Part Text) → Walk (c.Part Text)
native_body (Some place) (Some native) has_instance parameters body st =
    went (c.given (native_form place native has_instance (parameter_count parameters))) st
native_body (Some place) None has_instance parameters body st = body st
native_body None native has_instance parameters body st = body st

abbrev pub unless_external : {A : Type 0} → Option Place → Option NativeId → Walk A → Walk A
unless_external None native walk st = walk st
unless_external (Some place) (Some native) walk st = walk st
unless_external (Some place) None walk st = refused (left_out place External)

-- ---- functions and accessors

-- a declared function with its parameters and body
pub record Declared : Type 0 where
  pub external : Option Place
  pub name : PlacedName
  pub result : Option y.ResultType
  pub parameters : t.Parameters
  pub body : t.Body

abbrev pub head_of : Standing → ℕ → Declared → State → f.Head
head_of standing number x st = record {
  number = number;
  kind = Plain;
  name = own_name x.name st;
  signature = function_type st (result_type st x.result) x.parameters;
  inside = inside standing (asked_of_result st x.result);
}

abbrev pub plain_function : Standing → Declared → ℕ → Walk ℕ
plain_function standing x n st = unless_external x.external (st.tables.native n) (outermost 0 (f.function
    (head_of standing n x (standing_in standing st)) (f.bind_parameters false (standing_in standing st) x.parameters)
    (native_body x.external (st.tables.native n) standing.has_instance x.parameters (pr.body x.body)))) st

-- a function of a library or class
abbrev pub declared_function : Standing → Declared → Walk ℕ
declared_function standing x st = on (f.numbered st) (plain_function standing x)

abbrev pub function_declared : t.Function → Declared
function_declared (t.the_function external result name parameters body) =
    record { external = external; name = word_of name; result = result; parameters = parameters; body = body }

-- A getter has no parameters.
abbrev pub no_list : Place → t.Parameters
no_list place = t.the_parameters place t.no_parameters None t.no_parameters place

abbrev pub accessor_as : u.AccessorKind → u.Accessor → Declared
accessor_as (u.getter place name) x =
    record { external = x.external; name = word_of name; result = x.result_type; parameters = no_list place; body = x.body }
accessor_as (u.setter place name parameters) x =
    record { external = x.external; name = word_of name; result = x.result_type; parameters = parameters; body = x.body }

abbrev pub accessor_declared : u.Accessor → Declared
accessor_declared x = accessor_as x.kind x

-- ---- library and static variables

abbrev pub static_made : Text → Bool → State → c.Part Text → p.Static Text
static_made name is_final st init = record {
  name = name;
  vars = st.variables;
  cells = filter (λ x. f.any_form (f.takes st.functions x) init) (range_with_len 0 st.variables);
  init = init;
  is_final = is_final;
}

abbrev pub with_static : ℕ → Text → Bool → c.Part Text → Walk ℕ
with_static n name is_final init st =
    went n (record st { statics = st.statics ++ record { number = n; made = static_made name is_final st init } ∷ [] })

-- the initial value, where one is written
abbrev pub static_init : Asked → t.Value → Walk (c.Part Text)
static_init asked t.omitted st = went c.missing st
static_init asked (t.given operator given) st =
    on (s.initial (first.first_of_expr given) (first.first_of_expr given) asked (pr.expr given) st) (λ form st. went (c.given form) st)

abbrev pub static_variable : PlacedName → Asked → Bool → t.Value → Walk ℕ
static_variable name asked is_final value st = on (f.numbered st) (λ n after. outermost 0 (λ st.
    on (static_init asked value st) (with_static n (own_name name st) is_final)) after)

abbrev pub static_variables : Asked → Bool → t.MoreVariables → Walk ℕ
static_variables asked is_final t.no_variables st = went 0 st
static_variables asked is_final (t.variable comma name value rest) st =
    on (static_variable (word_of name) asked is_final value st) (λ n st. static_variables asked is_final rest st)

-- several names of one declaration; a static member has no type parameters and no instance
abbrev pub static_standing : Standing
static_standing = record { class = None; arguments = None; has_instance = false }

abbrev pub static_names : t.Variables → Walk ℕ
static_names (t.the_variables kind name value more semicolon) st =
    on (static_variable (word_of name) (asked_of_kind st kind) (is_final kind) value (e.meeting_constant (is_const kind) st))
    (λ n after. static_variables (asked_of_kind st kind) (is_final kind) more after)

abbrev pub variables_declared : t.Variables → Walk ℕ
variables_declared x st = within (inside static_standing unasked) (static_names x) st
