-- Functions, their parameters and bodies, and the variables that closures share (ECMA-408, 9 Functions, 16.10 Function
-- Expressions, 17.4 Local Function Declaration).
use Rattle.std.specs.Prelude.{ℕ, ◌+◌, List, [], ◌∷◌, ◌++◌, filter, length, take, nat_eq, Option, None, Some, Bool, true, false, ◌&&◌, ◌||◌, not, neg_ℤ, pos}
use Rattle.std.specs.List.{list_any, range_with_len}
use Rattle.dart_base.specs.declared.limit.TheConstants.{PARAMETERS}
use Rattle.dart_base.specs.declared.place.Place.{Place}
use Rattle.dart_tree.specs.declared.parameter.Brackets.{Brackets}
use Rattle.dart_tree.specs.declared.parameter.ThisDot.{ThisDot}
use Rattle.dart_tree.specs.Tree as t
use Rattle.dart_ir.specs.Integer.{integer_value}
use Rattle.dart_ir.specs.declared.kind.Shape.{Shape}
use Rattle.dart_ir.specs.declared.kind.Shape.TheVariants as shape
use Rattle.dart_ir.specs.declared.kind.SiteKind.TheVariants as kind
use Rattle.dart_ir.specs.declared.value.Value.{Value}
use Rattle.dart_ir.specs.declared.value.Value.TheVariants as v
use Rattle.core_program.specs.declared.program.FunctionKind.{FunctionKind}
use Rattle.core_program.specs.declared.program.FunctionKind.TheVariants.{Inner}
use Rattle.core_program.specs.Core as c
use Rattle.core_program.specs.Program as p
use Rattle.core_program.specs.Captured.{part_nodes, form_of, declares, names}
use Rattle.translation.specs.Surroundings.{Text, Ty, Core, name_in}
use Rattle.translation.specs.Walk.{Asked, unasked, Inside, Made, State, Walk, went, refused, on, too_large, bad_word, not_constant, with_site, fresh, declared, with_literal}
use Rattle.translation.specs.Firsts.{first_of_expr}
use Rattle.translation.specs.Types.{PlacedName, word_of, asked_of_parameter, is_final, parameter_name, in_brackets}
use Rattle.translation.specs.Statements.{Literal, no_literal, a_null, a_bool, an_integer, a_negative, a_string, literal_of}

-- ---- what is captured

abbrev pub any_form : (c.Form Text → Bool) → c.Part Text → Bool
any_form test body = list_any (λ x. test (form_of x)) (part_nodes body)

abbrev pub is_parameter : ℕ → List (p.Parameter Text) → Bool
is_parameter x parameters = list_any (λ q. nat_eq q.var x) parameters

abbrev pub function_declares : ℕ → List (p.Parameter Text) → c.Part Text → Bool
function_declares x parameters body = is_parameter x parameters || any_form (declares x) body

-- a function of that number takes the variable along
abbrev pub captures_of : List (Made (p.Function Text)) → ℕ → ℕ → Bool
captures_of functions x n = list_any (λ f. nat_eq f.number n && list_any (nat_eq x) f.made.captures) functions

abbrev pub leaf_takes : List (Made (p.Function Text)) → ℕ → c.Leaf Text → Bool
leaf_takes functions x (c.closure n) = captures_of functions x n
leaf_takes functions x other = false

abbrev pub takes : List (Made (p.Function Text)) → ℕ → c.Form Text → Bool
takes functions x (c.leaf one) = leaf_takes functions x one
takes functions x other = false

-- the variables that it declares and a function inside takes along
abbrev pub cells : List (Made (p.Function Text)) → ℕ → List (p.Parameter Text) → c.Part Text → List ℕ
cells functions count parameters body =
    filter (λ x. function_declares x parameters body && any_form (takes functions x) body) (range_with_len 0 count)

-- the variables that it or a function inside names, and that it doesn't declare
abbrev pub captures : List (Made (p.Function Text)) → ℕ → List (p.Parameter Text) → c.Part Text → List ℕ
captures functions count parameters body = filter (λ x. not (function_declares x parameters body)
    && (any_form (names x) body || any_form (takes functions x) body)) (range_with_len 0 count)

-- ---- functions

-- what a function is, besides its parameters and its body
pub record Head : Type 0 where
  pub number : ℕ
  pub kind : FunctionKind
  pub name : Text
  pub signature : Ty
  pub inside : Inside

-- How many variables are numbered is known where the outermost function ends.
abbrev pub function_made : Head → State → List (p.Parameter Text) → c.Part Text → p.Function Text
function_made head st parameters body = record {
  name = head.name;
  kind = head.kind;
  class = head.inside.class;
  parameters = parameters;
  vars = st.variables;
  cells = cells st.functions st.variables parameters body;
  captures = captures st.functions st.variables parameters body;
  signature = head.signature;
  body = body;
}

-- behind the function everything is in scope again that was before
abbrev pub closed : State → Head → List (p.Parameter Text) → c.Part Text → State → State
closed before head parameters body st = record st {
  inside = before.inside;
  scopes = take (length before.scopes) st.scopes;
  targets = before.targets;
  functions = st.functions ++ record { number = head.number; made = function_made head st parameters body } ∷ [];
}

unfoldable pub function : Head → Walk (List (p.Parameter Text)) → Walk (c.Part Text) → Walk ℕ
function head parameters body st = on (parameters (record st { inside = head.inside; targets = [] }))
    (λ bound after. on (body after) (λ made after. went head.number (closed st head bound made after)))

-- the number of the next declaration
abbrev pub numbered : Walk ℕ
numbered st = went st.declarations (record st { declarations = st.declarations + 1 })

-- what stands around in a function inside another
abbrev pub inner : Asked → Inside → Inside
inner result inside = record inside { result = result; gives_value = true; in_handler = false }

abbrev pub inner_head : ℕ → Text → Ty → Asked → State → Head
inner_head number name signature result st =
    record { number = number; kind = Inner; name = name; signature = signature; inside = inner result st.inside }

-- a function literal or local function
abbrev pub inner_function : Text → Ty → Asked → Walk (List (p.Parameter Text)) → Walk (c.Part Text) → Walk ℕ
inner_function name signature result parameters body st =
    on (numbered st) (λ n after. function (inner_head n name signature result after) parameters body after)

abbrev pub closure : Place → ℕ → Core
closure place n = c.at place (c.leaf (c.closure n))

-- A local function is Var(x, Function f), and f sees x.
abbrev pub local_function : Place → Text → Walk ℕ → Walk (List Core)
local_function place text made st = on (declared text unasked false st) (λ x after. on (made after)
    (λ n after. went (c.at place (c.unary (c.var x) (closure place n)) ∷ []) after))

-- ---- parameters (9.2 Formal Parameters)

abbrev pub literal_value : Place → Literal → Walk Value
literal_value place no_literal st = refused (not_constant place)
literal_value place a_null st = went v.Null st
literal_value place (a_bool value) st = went (v.Bool value) st
literal_value place (an_integer n) st = went (integer_value (pos n)) st
literal_value place (a_negative n) st = went (integer_value (neg_ℤ (pos n))) st
literal_value place (a_string units) st = on (with_literal units st) (λ n st. went (v.Literal n) st)

-- a default value, null where none is written
abbrev pub default_value : t.Value → Walk Value
default_value t.omitted st = went v.Null st
default_value (t.given operator value) st = literal_value (first_of_expr value) (literal_of value) st

-- An initialising formal names no variable, and stands only in a generative constructor (10.6.1).
abbrev pub formal_if : {A : Type 0} → Bool → Place → Walk A → Walk A
formal_if true place walk st = walk st
formal_if false place walk st = refused (bad_word place)

-- the variable of a parameter
abbrev pub bind_variable : Bool → Option ThisDot → PlacedName → Asked → Bool → Walk ℕ
bind_variable allowed None name asked final_one st = declared name.text asked final_one st
bind_variable allowed (Some this_dot) name asked final_one st = formal_if allowed this_dot.this fresh st

abbrev pub counted_if : {A : Type 0} → Bool → Place → Walk A → Walk A
counted_if false place walk st = walk st
counted_if true place walk st = refused (too_large place)

-- No list has more parameters than the limit; n stand before this one.
abbrev pub counted : {A : Type 0} → ℕ → Place → Walk A → Walk A
counted n place walk st = counted_if (nat_eq n PARAMETERS) place walk st

-- a parameter whose value is tested as it is bound
abbrev pub bind_tested : PlacedName → Shape → Asked → ℕ → Value → Walk (p.Parameter Text)
bind_tested name shape asked x default st = on (with_site kind.Param name.place asked st) (λ site st.
    went (record { var = x; name = name_in st.names.library name.text; shape = shape; default = default; site = site }) st)

pub record Declared : Type 0 where
  pub name : PlacedName
  pub this_dot : Option ThisDot
  pub asked : Asked
  pub is_final : Bool
  pub value : t.Value

abbrev pub bind : Bool → ℕ → Shape → Declared → Walk (p.Parameter Text)
bind allowed n shape x st = on (bind_variable allowed x.this_dot x.name x.asked x.is_final st) (λ variable st.
    counted n x.name.place (λ st. on (default_value x.value st) (bind_tested x.name shape x.asked variable)) st)

abbrev pub this_of : t.ParameterKind → Option ThisDot
this_of (t.plain_parameter kind this_dot name) = this_dot
this_of (t.function_parameter result this_dot name parameters) = this_dot

abbrev pub final_parameter : t.ParameterKind → Bool
final_parameter (t.plain_parameter kind this_dot name) = is_final kind
final_parameter (t.function_parameter result this_dot name parameters) = false

-- Types and default values are looked up outside of the parameters' scope.
abbrev pub declared_by : State → t.ParameterKind → t.Value → Declared
declared_by outer kind value = record {
  name = word_of (parameter_name kind);
  this_dot = this_of kind;
  asked = asked_of_parameter outer kind;
  is_final = final_parameter kind;
  value = value;
}

abbrev pub bind_parameter : Bool → State → ℕ → Shape → t.Parameter → Walk (p.Parameter Text)
bind_parameter allowed outer n shape (t.the_parameter comma _ kind value) st =
    bind allowed n shape (declared_by outer kind value) st

abbrev pub bind_list : Bool → State → ℕ → Shape → t.ParameterList → Walk (List (p.Parameter Text))
bind_list allowed outer n shape t.no_parameters st = went [] st
bind_list allowed outer n shape (t.parameter one more) st = on (bind_parameter allowed outer n shape one st)
    (λ bound st. on (bind_list allowed outer (n + 1) shape more st) (λ rest st. went (bound ∷ rest) st))

abbrev pub optional_shape : Option Brackets → Shape
optional_shape None = shape.Optional
optional_shape (Some brackets) = in_brackets brackets.kind shape.Optional shape.Named

abbrev pub bind_parameters : Bool → State → t.Parameters → Walk (List (p.Parameter Text))
bind_parameters allowed outer (t.the_parameters opening required brackets optional closing) st =
    on (bind_list allowed outer 0 shape.Required required st) (λ first st.
    on (bind_list allowed outer (length first) (optional_shape brackets) optional st) (λ rest st. went (first ++ rest) st))
