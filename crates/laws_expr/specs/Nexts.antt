-- What may go on behind an expression and behind each of its parts, by its tree: what the edges of trees take, and what
-- goes on with one kind of tree alone. A tree without room for another node has fewer of these.
use Rattle.std.specs.Prelude.{ℕ, ◌+◌, ◌-◌, length, Bool, List, [], ◌∷◌, ◌++◌, None, Some}
use Rattle.dart_base.specs.declared.place.Place.{Place}
use Rattle.dart_token.specs.declared.sign.Sign.TheVariants as s
use Rattle.dart_token.specs.declared.word.Word.TheVariants as w
use Rattle.dart_tree.specs.Types.{TypeNode}
use Rattle.dart_tree.specs.Tree as t
use Rattle.dart_tree.specs.Tree.{Expr, Operand, Primary, Selectors, Value, Tails, Cascades, Pieces}
use Rattle.grammar_laws.specs.Codes.{given}
use Rattle.dart_syntax.specs.Edges.{dots, question, equals, compares, selects, nowhere, opens_less, opens_dot, opens_nothing, expr_takes, operand_takes, cascades_take}
use Rattle.dart_syntax.specs.Expressions.{assignment_signs, primary_assigns, selectors_assign, rows}
use Rattle.dart_syntax.specs.Levels.{sign_level}
use Rattle.token_codes.specs.Codes.{sign_code, word_code, these, sign_codes}
use Rattle.syntax_readers.specs.Primaries.{string_first, selector_first}
use Rattle.syntax_readers.specs.Levels.{assigns, step_signs}

-- ---- what an edge takes, by how tightly it binds

-- whether an edge takes what binds so, where these types go on with it
abbrev pub Taking : Type 0
Taking = ℕ → (TypeNode → Bool) → Bool

-- tokens that bind alike
pub record Next : Type 0 where
  pub binds : ℕ
  pub opens : TypeNode → Bool
  pub codes : List ℕ

abbrev pub next : ℕ → List ℕ → Next
next n codes = record { binds = n; opens = opens_nothing; codes = codes }

-- cascades, `?`, the binary operators, `is` and `as`, and selectors (ECMA-408, 16.14 to 16.35). `>` is an operator and half of
-- another; `<` goes on with a type too, and so does `.`
abbrev pub nexts : List Next
nexts =
    next dots (these s.DotDot)
    ∷ next question (these s.Question)
    ∷ next (sign_level s.OrOr) (these s.OrOr)
    ∷ next (sign_level s.AndAnd) (these s.AndAnd)
    ∷ next equals (sign_codes (s.EqualEqual ∷ s.NotEqual ∷ []))
    ∷ record { binds = compares; opens = opens_less; codes = these s.Less }
    ∷ next compares (word_code w.Is ∷ word_code w.As
    ∷ sign_codes (s.Greater ∷ s.LessEqual ∷ s.GreaterEqual ∷ []))
    ∷ next (sign_level s.Bar) (these s.Bar)
    ∷ next (sign_level s.Caret) (these s.Caret)
    ∷ next (sign_level s.Ampersand) (these s.Ampersand)
    ∷ next (sign_level s.ShiftLeft) (sign_codes (s.ShiftLeft ∷ s.Greater ∷ []))
    ∷ next (sign_level s.Plus) (sign_codes (s.Plus ∷ s.Minus ∷ []))
    ∷ next (sign_level s.Star) (sign_codes (s.Star ∷ s.Slash ∷ s.TildeSlash ∷ s.Percent ∷ []))
    ∷ record { binds = selects; opens = opens_dot; codes = these s.Dot }
    ∷ next selects (sign_codes (s.LeftBracket ∷ s.LeftParenthesis ∷ []))
    ∷ []

abbrev pub taken_of : List Next → Taking → List ℕ
taken_of [] takes = []
taken_of (x ∷ more) takes = given (takes x.binds x.opens) x.codes ++ taken_of more takes

abbrev pub taken : Taking → List ℕ
taken takes = taken_of nexts takes

-- ---- what goes on with one kind of tree alone, at its right edge

-- behind a target that an operator may assign to, or `++` and `--` change
abbrev pub assigning : List ℕ
assigning = sign_codes assignment_signs

abbrev pub stepping : List ℕ
stepping = sign_codes step_signs

-- another string behind a string, the body of a function behind parentheses, a selector behind `super`
unfoldable mutual
  pub expr_alone : Expr → List ℕ
  expr_alone (t.assign target operator value) = expr_alone value
  expr_alone (t.plain x t.no_cascades) = given (assigns x) assigning ++ operand_alone x
  expr_alone (t.plain x several) = cascades_alone several
  expr_alone (t.throw word value) = expr_alone value

  pub operand_alone : Operand → List ℕ
  operand_alone (t.conditional _ mark _ colon second) = expr_alone second
  operand_alone (t.binary first more) = tails_alone more
  operand_alone (t.is_type x word bang of) = []
  operand_alone (t.as_type x word of) = []
  operand_alone (t.prefix operator x) = operand_alone x
  operand_alone (t.postfix x behind None) = given (selectors_assign behind) stepping
  operand_alone (t.postfix x _ (Some operator)) = []
  operand_alone (t.primary x) = given (primary_assigns x) stepping ++ primary_alone x

  pub primary_alone : Primary → List ℕ
  primary_alone (t.bare_super word) = selector_first
  primary_alone (t.text _) = string_first
  primary_alone (t.parenthesized opening value closing) =
      sign_codes (s.Arrow ∷ s.LeftBrace ∷ [])
  primary_alone (t.function_literal _ (t.arrow_body arrow value semicolon)) =
      expr_alone value
  primary_alone x = []

  pub tails_alone : Tails → List ℕ
  tails_alone t.no_tails = []
  tails_alone (t.tail operator x t.no_tails) = operand_alone x
  tails_alone (t.tail operator x more) = tails_alone more

  -- a `>` may begin `> >=`
  pub cascades_alone : Cascades → List ℕ
  cascades_alone t.no_cascades = []
  cascades_alone (t.cascade place behind t.omitted t.no_cascades) =
      given (selectors_assign behind) (sign_code s.Greater ∷ assigning)
  cascades_alone (t.cascade place _ (t.given operator value) t.no_cascades) =
      expr_alone value
  cascades_alone (t.cascade place _ value more) = cascades_alone more

-- ---- the whole

-- behind an expression, and behind one without cascade
abbrev pub after_expr : Expr → List ℕ
after_expr x = taken (λ next opens. expr_takes next opens dots x) ++ expr_alone x

abbrev pub after_without : Expr → List ℕ
after_without x = taken (λ next opens. expr_takes next opens question x) ++ expr_alone x

-- behind a primary, and behind an operand in a place for what binds at least so tightly
abbrev pub after_primary : Primary → List ℕ
after_primary x = taken (λ next opens. operand_takes next opens nowhere (t.primary x)) ++ primary_alone x

abbrev pub after_operand : ℕ → Operand → List ℕ
after_operand from x = taken (λ next opens. operand_takes next opens from x) ++ operand_alone x

-- how tightly the loosest operator of a row binds: 12 for unary expressions, 1 for conditional ones
abbrev pub loosest : ℕ → ℕ
loosest row = length rows + 1 - row

-- behind one part of a cascade, and behind an operand with its cascades
abbrev pub after_cascade : Place × (Selectors × Value) → List ℕ
after_cascade (place, (selectors, value)) =
    let x = t.cascade place selectors value t.no_cascades in
    taken (λ next opens. cascades_take next opens question x) ++ cascades_alone x

abbrev pub after_cascaded : Operand × Cascades → List ℕ
after_cascaded (x, t.no_cascades) = taken (λ next opens. operand_takes next opens dots x) ++ operand_alone x
after_cascaded (x, several) = taken (λ next opens. cascades_take next opens dots several) ++ cascades_alone several

-- behind strings another string
abbrev pub after_strings : Pieces → List ℕ
after_strings x = string_first
