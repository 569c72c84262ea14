-- What contracts see of the parts of expressions and cascades, and the readers of these parts.
use Rattle.std.specs.Prelude.{◌≡◌, ◌≤◌, map, ℕ, suc, max, Bool, false, ◌&&◌, if◌then◌else◌, List, Option, None, Some, Ok}
use Rattle.std.specs.Global.{Vec}
use Rattle.dart_base.specs.declared.place.Place.{Place}
use Rattle.dart_token.specs.declared.sign.Sign.TheVariants as s
use Rattle.dart_token.specs.declared.token.Token.{Token}
use Rattle.dart_tree.specs.declared.expression.Cascade.{Cascade}
use Rattle.dart_tree.specs.declared.expression.Expr.{Expr}
use Rattle.dart_tree.specs.declared.expression.Operand.{Operand}
use Rattle.dart_tree.specs.declared.expression.Selector.{Selector}
use Rattle.dart_tree.specs.declared.expression.Value.{Value}
use Rattle.dart_tree.specs.declared.operator.Operator.{Operator}
use Rattle.dart_tree.specs.Depth as height
use Rattle.dart_tree.specs.Lists.{cascades_of, selectors_of}
use Rattle.dart_tree.specs.Tree as t
use Rattle.dart_tree.specs.View as view
use Rattle.dart_syntax.specs.Edges.{dots, leaves, leaves_cascade}
use Rattle.dart_syntax.specs.Expressions.{selectors_assign}
use Rattle.grammar_laws.specs.Codes.{given}
use Rattle.grammar_laws.specs.Halves.{no_half}
use Rattle.grammar_laws.specs.Readers.{Reader, and_then, mapped, starts, when, prepend, many_turns}
use Rattle.token_codes.specs.Codes.{class_of, these}
use Rattle.syntax_readers.specs.Combinators.{Open, with_half, halved, shut}
use Rattle.syntax_readers.specs.Expressions as e
use Rattle.syntax_readers.specs.Expressions.{Assigned, assign_codes, assignment, to_cascades}
use Rattle.syntax_readers.specs.Levels.{assigns}
use Rattle.syntax_readers.specs.Primaries.{section_over}
use Rattle.parse_nest.specs.Open.{open_expr}
use Rattle.parse_nest.specs.Stages.{expr_at, exprs_at, levels_at}

-- ---- what is assigned

abbrev pub assigned_of : Operator × (Expr × Option Place) → Assigned
assigned_of x = (x.0, open_expr x.1)

abbrev pub assigned_height : Assigned → ℕ
assigned_height x = height.expr_height x.1.0

-- ---- cascades

abbrev pub open_selectors : Vec Selector × Option Place → Open t.Selectors
open_selectors x = (selectors_of x.0.items, x.1)

abbrev pub open_selectors_height : Open t.Selectors → ℕ
open_selectors_height x = height.selectors_height x.0

abbrev pub section_reader : ℕ → Reader Token (Open t.Selectors)
section_reader depth = halved selectors_assign (shut (section_over (exprs_at depth)))

abbrev pub open_value : Value × Option Place → Open t.Value
open_value x = (view.value x.0, x.1)

abbrev pub open_value_height : Open t.Value → ℕ
open_value_height x = height.value_height x.0

-- what is assigned behind the selectors of a cascade
abbrev pub a_value : Option Place → Option Assigned → Open t.Value
a_value half None = (t.omitted, half)
a_value half (Some (operator, value)) = with_half (t.given (Some operator)) value

abbrev pub value_reader : ℕ → Bool → Option Place → Reader Token (Open t.Value)
value_reader depth may half ts = mapped (a_value half)
    (when (starts class_of (given may (assign_codes half)) ts) (assignment half (expr_at depth false))) ts

abbrev pub cascade_of : Cascade → e.Cascade
cascade_of x = (x.dots, (selectors_of x.selectors.items, view.value x.value))

abbrev pub open_cascade : Cascade × Option Place → Open e.Cascade
open_cascade x = (cascade_of x.0, x.1)

abbrev pub cascade_height : e.Cascade → ℕ
cascade_height x = suc (max (height.selectors_height x.1.0) (height.value_height x.1.1))

abbrev pub open_cascade_height : Open e.Cascade → ℕ
open_cascade_height x = cascade_height x.0

abbrev pub open_cascades : Vec Cascade × Option Place → Open t.Cascades
open_cascades x = (cascades_of x.0.items, x.1)

abbrev pub open_cascades_height : Open t.Cascades → ℕ
open_cascades_height x = height.cascades_height x.0

abbrev pub cascades_reader : ℕ → Reader Token (Open t.Cascades)
cascades_reader depth = mapped to_cascades (e.cascades (exprs_at depth))

-- one behind which no half was read
abbrev pub closed_cascade : Cascade → Open e.Cascade
closed_cascade x = (cascade_of x, None)

-- another may stand behind it
abbrev pub goes_on_behind : Open e.Cascade → Bool
goes_on_behind x = no_half x && leaves_cascade x.0

-- means of proof: these cascades were read, each with another behind it, and so many turns are left
pub record CascadesSoFar (depth : ℕ) (start : List Token) (found : List Cascade) (highest left : ℕ) (rest : List Token) : Type 0 where
  pub high : highest ≡ height.cascades_height (cascades_of found)
  pub low : highest ≤ depth
  pub read : e.cascades (exprs_at depth) start ≡ prepend (map closed_cascade found) (many_turns class_of goes_on_behind (these s.DotDot) (exprs_at depth).cascade left rest)

-- ---- what stands behind the first operand of an expression

-- cascades, an assignment, or nothing
abbrev pub with_cascades : t.Operand → Open t.Cascades → Open t.Expr
with_cascades x = with_half (t.plain x)

abbrev pub with_value : t.Operand → Assigned → Open t.Expr
with_value x y = with_half (t.assign x y.0) y.1

abbrev pub sees_cascades : Open t.Operand → List Token → Bool
sees_cascades x ts = no_half x && (starts class_of (these s.DotDot) ts && leaves dots x.0)

abbrev pub sees_value : Open t.Operand → List Token → Bool
sees_value x ts = starts class_of (given (assigns x.0) (assign_codes x.1)) ts

abbrev pub cascades_behind : ℕ → t.Operand → Reader Token (Open t.Expr)
cascades_behind depth x = mapped (with_cascades x) (cascades_reader depth)

abbrev pub value_behind : ℕ → Bool → Open t.Operand → Reader Token (Open t.Expr)
value_behind depth cascades x = mapped (with_value x.0) (assignment x.1 (expr_at depth cascades))

abbrev pub behind : ℕ → Bool → Open t.Operand → Reader Token (Open t.Expr)
behind depth cascades x ts = if cascades && sees_cascades x ts then cascades_behind depth x.0 ts
    else if sees_value x ts then value_behind depth cascades x ts
    else Ok ((t.plain x.0 t.no_cascades, x.1), ts)

-- an operand and what stands behind it
abbrev pub operand_first : ℕ → Bool → Reader Token (Open t.Expr)
operand_first depth cascades ts = and_then (e.opened (levels_at depth) ts) (behind depth cascades)

-- ---- an operand with cascades behind it, as an initialiser has it

abbrev pub open_cascaded : (Operand × Vec Cascade) × Option Place → Open (t.Operand × t.Cascades)
open_cascaded x = ((view.operand x.0.0, cascades_of x.0.1.items), x.1)

abbrev pub open_cascaded_height : Open (t.Operand × t.Cascades) → ℕ
open_cascaded_height x = max (height.operand_height x.0.0) (height.cascades_height x.0.1)
