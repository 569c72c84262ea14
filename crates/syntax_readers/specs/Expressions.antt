-- Readers of expressions and cascades (ECMA-408, 16 Expressions), over the nodes that stand inside.
use Rattle.std.specs.Prelude.{ℕ, ◌&&◌, if◌then◌else◌, List, [], ◌∷◌, ◌++◌, length, Option, Some, None}
use Rattle.dart_base.specs.declared.place.Place.{Place}
use Rattle.dart_token.specs.declared.token.Token.{Token}
use Rattle.dart_token.specs.declared.sign.Sign.TheVariants as s
use Rattle.dart_token.specs.declared.word.Word.TheVariants as w
use Rattle.dart_tree.specs.declared.operator.Operator.{Operator}
use Rattle.dart_tree.specs.declared.operator.Operator.TheVariants as o
use Rattle.dart_tree.specs.Tree as t
use Rattle.dart_tree.specs.Tree.{Expr, Operand, Value, Selectors, Cascades}
use Rattle.grammar_laws.specs.Codes.{given, is_empty}
use Rattle.grammar_laws.specs.Readers.{Reader, never, always, mapped, continued_by, followed, some, by_first}
use Rattle.grammar_laws.specs.Halves.{no_half}
use Rattle.dart_syntax.specs.Edges.{dots, leaves, leaves_cascade}
use Rattle.dart_syntax.specs.Expressions.{assignment_signs, selectors_assign, rows}
use Rattle.token_codes.specs.Codes.{class_of, these, this_word, sign_codes}
use Rattle.token_codes.specs.Leaves.{sign, word, one_of}
use Rattle.syntax_readers.specs.Combinators.{◌~◌, made₂, Open, with_half, shut, halved}
use Rattle.syntax_readers.specs.Primaries.{ExprReaders, section_over}
use Rattle.syntax_readers.specs.Levels.{LevelReaders, assigns}

-- ---- assignments (16.19 Assignment)

-- the operator, of which half may have been read, and what is assigned
abbrev pub Assigned : Type 0
Assigned = Operator × Open Expr

abbrev pub assign_codes : Option Place → List ℕ
assign_codes None = sign_codes assignment_signs
assign_codes (Some greater) = these s.GreaterEqual

unfoldable pub assignment_operator : Option Place → Reader Token Operator
assignment_operator None = one_of assignment_signs
assignment_operator (Some greater) = mapped (o.ShiftRightAssign greater) (sign s.GreaterEqual)

unfoldable pub assignment : Option Place → Reader Token (Open Expr) → Reader Token Assigned
assignment half expr = assignment_operator half ~ expr

-- ---- cascades (16.17.2 Cascaded Invocations)

abbrev pub Cascade : Type 0
Cascade = Place × (Selectors × Value)

abbrev pub a_cascade : Place → Open Selectors × Option Assigned → Open Cascade
a_cascade dots (x, None) = with_half (λ selectors. (dots, (selectors, t.omitted))) x
a_cascade dots (x, Some (operator, value)) = with_half (λ e.
    (dots, (x.0, t.given (Some operator) e))) value

-- cascadeSection: .. cascadeSelector {selector} [assignmentOperator expressionWithoutCascade]
unfoldable pub cascade_over : ExprReaders → Reader Token (Open Cascade)
cascade_over inner = made₂ a_cascade (sign s.DotDot
    ~ continued_by class_of never always (λ x. given (selectors_assign x.0) (assign_codes x.1))
    (halved selectors_assign (shut (section_over inner))) (λ x. assignment x.1 inner.without))

-- cascades, of which the last may be open
abbrev pub to_cascades : List (Open Cascade) → Open Cascades
to_cascades [] = (t.no_cascades, None)
to_cascades (((dots, (selectors, value)), half) ∷ more) = (
  t.cascade dots selectors value (to_cascades more).0,
  if is_empty more then half else
      (to_cascades more).1,
)

unfoldable pub cascades : ExprReaders → Reader Token (List (Open Cascade))
cascades inner = some class_of (λ x. no_half x && leaves_cascade x.0) (these s.DotDot) inner.cascade

-- ---- expressions

-- what stands behind the first operand of an expression
pub data Behind : Type 0 where
  assigned : Assigned → Behind
  cascaded : List (Open Cascade) → Behind

abbrev pub an_expr : Open Operand × Option Behind → Open Expr
an_expr (x, None) = with_half (λ operand. t.plain operand t.no_cascades) x
an_expr (x, Some (assigned (operator, value))) = with_half (t.assign x.0 operator) value
an_expr (x, Some (cascaded all)) = with_half (t.plain x.0) (to_cascades all)

-- conditionalExpression, with the half of an operator behind a target
unfoldable pub opened : LevelReaders → Reader Token (Open Operand)
opened levels = halved assigns (levels.row (length rows))

-- cascades behind it
abbrev pub cascade_codes : Open Operand → List ℕ
cascade_codes x = given (no_half x && leaves dots x.0) (these s.DotDot)

-- expression: assignableExpression assignmentOperator expression
--     | conditionalExpression {cascadeSection} | throw expression
unfoldable pub assigned_or_cascaded : Option Place → ExprReaders → Reader Token Behind
assigned_or_cascaded half inner = by_first class_of (these s.DotDot)
    (mapped cascaded (cascades inner))
    (mapped assigned (assignment half inner.expr))

unfoldable pub throw : ExprReaders → Reader Token (Open Expr)
throw inner = made₂ (λ word. with_half (t.throw word)) (word w.Throw ~ inner.expr)

unfoldable pub expr_over : ExprReaders → LevelReaders → Reader Token (Open Expr)
expr_over inner levels = by_first class_of (this_word w.Throw) (throw inner)
    (mapped an_expr (continued_by class_of never always
    (λ x. given (assigns x.0) (assign_codes x.1) ++ cascade_codes x)
    (opened levels) (λ x. assigned_or_cascaded x.1 inner)))

-- expressionWithoutCascade: assignableExpression assignmentOperator expressionWithoutCascade
--     | conditionalExpression | throw expression
unfoldable pub without_over : ExprReaders → LevelReaders → Reader Token (Open Expr)
without_over inner levels = by_first class_of (this_word w.Throw) (throw inner)
    (mapped an_expr (continued_by class_of never always
    (λ x. given (assigns x.0) (assign_codes x.1))
    (opened levels) (λ x. mapped assigned (assignment x.1 inner.without))))

-- conditionalExpression {cascadeSection}, as an initialiser has it
abbrev pub with_cascades : Open Operand × Option (List (Open Cascade)) → Open (Operand × Cascades)
with_cascades (x, None) = with_half (λ operand. (operand, t.no_cascades)) x
with_cascades (x, Some all) = with_half (λ cascades. (x.0, cascades)) (to_cascades all)

unfoldable pub cascaded_over : ExprReaders → LevelReaders → Reader Token (Open (Operand × Cascades))
cascaded_over inner levels = mapped with_cascades (followed class_of
    (λ x. no_half x && leaves dots x.0)
    (these s.DotDot) (levels.row (length rows)) (cascades inner))
