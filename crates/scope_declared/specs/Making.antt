-- Single declarations.
use Rattle.std.specs.Prelude.{ℕ, ◌&&◌, Bool, true, false, List, [], ◌∷◌, codes, Option, None, Some}
use Rattle.dart_base.specs.declared.place.Place.{Place}
use Rattle.dart_base.specs.declared.name.Name.{Name}
use Rattle.dart_token.specs.declared.sign.Sign.{Sign}
use Rattle.dart_token.specs.declared.sign.Sign.TheVariants as s
use Rattle.dart_token.specs.Sign.{sign_text}
use Rattle.dart_tree.specs.declared.identifier.Identifier.{Identifier}
use Rattle.dart_tree.specs.declared.identifier.Identifier.TheVariants as i
use Rattle.dart_tree.specs.declared.identifier.CommaName.{CommaName}
use Rattle.dart_tree.specs.declared.declaration.Modifier.{Modifier}
use Rattle.dart_tree.specs.declared.declaration.Modifier.TheVariants as m
use Rattle.dart_tree.specs.declared.declaration.OperatorName.{OperatorName}
use Rattle.dart_tree.specs.declared.declaration.OperatorName.TheVariants as n
use Rattle.dart_tree.specs.declared.parameter.ThisDot.{ThisDot}
use Rattle.dart_tree.specs.declared.statement.Catch.{Catch}
use Rattle.dart_tree.specs.Types as y
use Rattle.dart_tree.specs.Tree as t
use Rattle.scope_declared.specs.declared.declaration.Scope.{Scope}
use Rattle.scope_declared.specs.declared.declaration.Extent.{Extent}
use Rattle.scope_declared.specs.declared.declaration.Owner.{Owner}
use Rattle.scope_declared.specs.declared.declaration.Owner.TheVariants as owner
use Rattle.scope_declared.specs.declared.declaration.Role.{Role}
use Rattle.scope_declared.specs.declared.declaration.Role.TheVariants as role
use Rattle.scope_declared.specs.declared.declaration.DeclaredKind.{DeclaredKind}
use Rattle.scope_declared.specs.declared.declaration.DeclaredKind.TheVariants as k
use Rattle.scope_declared.specs.declared.declaration.Declared.{Declared}
use Rattle.scope_declared.specs.Last.{identifier_place}
use Rattle.scope_declared.specs.Number.{no_name}

-- what counts behind a token, up to the end of its scope
abbrev pub behind : Place → Scope → Extent
behind after scope = record { scope = scope.place; after = after; last = scope.last }

-- what is declared in a scope and counts at no token of the unit: what a library declares, since namespaces have it,
-- an initialising formal (10.6.1), a constructor and a function literal
abbrev pub nowhere : Place → Extent
nowhere scope = record { scope = scope; after = scope; last = scope }

abbrev pub identifier_text : Identifier → List ℕ
identifier_text (i.Name place text) = text
identifier_text (i.Get place) = codes "get"
identifier_text (i.Set place) = codes "set"

-- the declaration of an identifier
abbrev pub of_identifier : (List ℕ → ℕ) → Extent → DeclaredKind → Identifier → Declared
of_identifier number extent kind x = record {
  name = record { 0 = number (identifier_text x) };
  place = identifier_place x;
  kind = kind;
  extent = extent;
}

-- the declaration of a text, at an identifier
abbrev pub of_text : (List ℕ → ℕ) → Extent → DeclaredKind → Identifier → List ℕ → Declared
of_text number extent kind at text = record {
  name = record { 0 = number text };
  place = identifier_place at;
  kind = kind;
  extent = extent;
}

-- a function literal stands at its first token, and is in no scope but its own (16.10 Function Expressions)
abbrev pub of_literal : Place → Declared
of_literal place = record {
  name = record { 0 = no_name };
  place = place;
  kind = k.Literal;
  extent = nowhere place;
}

-- a parameter, or an initialising formal, which counts nowhere (9.2.1 Required Formals)
abbrev pub of_formal : (List ℕ → ℕ) → Extent → Option ThisDot → Identifier → Declared
of_formal number extent None name = of_identifier number extent k.Parameter name
of_formal number extent (Some this_dot) name = of_identifier number (nowhere extent.scope) k.Formal name

abbrev pub formal_declared : (List ℕ → ℕ) → Extent → t.ParameterKind → Declared
formal_declared number extent (t.plain_parameter kind this_dot name) =
    of_formal number extent this_dot name
formal_declared number extent (t.function_parameter result_type this_dot name parameters) =
    of_formal number extent this_dot name

-- the variable of a `for (.. in ..)`, where the loop declares one (17.6.2 For-in)
abbrev pub for_in_declared : (List ℕ → ℕ) → Extent → y.VariableKind → Identifier → List Declared
for_in_declared number extent y.no_kind name = []
for_in_declared number extent _ name = of_identifier number extent k.LocalVariable name ∷ []

-- the variables of a `catch`, in the block that ends at `last` (17.11 Try)
abbrev pub trace_declared : (List ℕ → ℕ) → Extent → Option CommaName → List Declared
trace_declared number extent None = []
trace_declared number extent (Some second) =
    of_identifier number extent k.LocalVariable second.name ∷ []

abbrev pub of_catch : (List ℕ → ℕ) → Extent → Catch → List Declared
of_catch number extent x =
    of_identifier number extent k.LocalVariable x.exception ∷ trace_declared number extent x.trace

abbrev pub catch_extent : Place → Catch → Extent
catch_extent last x = record { scope = x.opening; after = x.closing; last = last }

abbrev pub catch_declared : (List ℕ → ℕ) → Place → y.TryKind → List Declared
catch_declared number last (y.on_part word type None) = []
catch_declared number last (y.on_part word type (Some x)) = of_catch number (catch_extent last x) x
catch_declared number last (y.catch_part x) = of_catch number (catch_extent last x) x
catch_declared number last (y.finally_part word) = []

-- a variable that isn't local is set where it is neither final nor constant (8 Variables)
abbrev pub variable_role : y.VariableKind → Role
variable_role (y.final_kind word type) = role.Final
variable_role (y.const_kind word type) = role.Final
variable_role _ = role.Variable

abbrev pub owner_of : Modifier → Owner
owner_of m.Omitted = owner.Object
owner_of (m.Static word) = owner.Class
owner_of (m.ExternalStatic external word) = owner.Class

abbrev pub is_no_list : t.ParameterList → Bool
is_no_list t.no_parameters = true
is_no_list (t.parameter x rest) = false

abbrev pub has_no_parameters : t.Parameters → Bool
has_no_parameters (t.the_parameters opening required brackets optional closing) =
    is_no_list required && is_no_list optional

-- the name of an operator of one sign: the unary minus, which has no parameters, is told from the binary one
abbrev pub sign_name : Sign → Bool → List ℕ
sign_name s.Minus true = codes "unary-"
sign_name sign _ = sign_text sign

-- the name of an operator (10.1.1 Operators)
abbrev pub operator_text : OperatorName → Bool → List ℕ
operator_text (n.Sign place sign) is_unary = sign_name sign is_unary
operator_text (n.ShiftRight first second) is_unary = codes ">>"
operator_text (n.Index opening closing) is_unary = codes "[]"
operator_text (n.IndexAssign opening closing equals) is_unary = codes "[]="

abbrev pub operator_place : OperatorName → Place
operator_place (n.Sign place sign) = place
operator_place (n.ShiftRight first second) = first
operator_place (n.Index opening closing) = opening
operator_place (n.IndexAssign opening closing equals) = opening
