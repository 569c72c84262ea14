-- Only `super` alone goes on with a selector that its edge does not take.
use Rattle.std.proofs.Common.{◌≡◌, ℕ, suc, max, ◌≤◌, Bool, true, false, ◌&&◌, ◌||◌, List, [], ◌∷◌, ◌++◌, None, Some, refl, arith}
use Rattle.std.proofs.Math.Nat.{max-le}
use Rattle.std.specs.Prelude.{nat_lt}
use Rattle.std.proofs.lemmas.Bool.{ltb-true}
use Rattle.dart_base.specs.declared.place.Place.{Place}
use Rattle.dart_token.specs.declared.sign.Sign.{Sign}
use Rattle.dart_token.specs.declared.sign.Sign.TheVariants as s
use Rattle.dart_tree.specs.declared.operator.Operator.{Operator}
use Rattle.dart_tree.specs.declared.operator.Operator.TheVariants as o
use Rattle.dart_tree.specs.Types.{TypeNode}
use Rattle.dart_tree.specs.Tree as t
use Rattle.dart_tree.specs.Tree.{Expr, Operand, Primary, Tails, Cascades}
use Rattle.grammar_laws.specs.Codes.{Within}
use Rattle.grammar_laws.proofs.Codes.{inside, or_false, within_none, within_union, within_given}
use Rattle.dart_syntax.specs.Edges.{dots, question, selects, nowhere, repeats, binds_between, expr_takes, operand_takes, tails_take, cascades_take}
use Rattle.dart_syntax.specs.Expressions.{selectors_assign}
use Rattle.dart_syntax.specs.Levels.{level, sign_level}
use Rattle.token_codes.specs.Codes.{sign_code, sign_codes}
use Rattle.syntax_readers.specs.Primaries.{string_first}
use Rattle.syntax_readers.specs.Levels.{assigns}
use Rattle.laws_expr.specs.Nexts.{assigning, stepping, expr_alone, operand_alone, primary_alone, tails_alone, cascades_alone}

-- what goes on with one kind of tree alone, but selectors
abbrev pub unselected : List ℕ
unselected = sign_code s.Greater ∷ assigning ++ stepping ++ string_first ++ sign_codes (s.Arrow ∷ s.LeftBrace ∷ [])

sign_low : (x : Sign) → sign_level x ≤ 11
sign_low s.OrOr = omega arith
sign_low s.AndAnd = omega arith
sign_low s.EqualEqual = omega arith
sign_low s.NotEqual = omega arith
sign_low s.Less = omega arith
sign_low s.Greater = omega arith
sign_low s.LessEqual = omega arith
sign_low s.GreaterEqual = omega arith
sign_low s.Bar = omega arith
sign_low s.Caret = omega arith
sign_low s.Ampersand = omega arith
sign_low s.ShiftLeft = omega arith
sign_low s.Plus = omega arith
sign_low s.Minus = omega arith
sign_low s.Star = omega arith
sign_low s.Slash = omega arith
sign_low s.TildeSlash = omega arith
sign_low s.Percent = omega arith
sign_low _ = omega arith

level_low : (x : Operator) → suc (level x) ≤ 13
level_low (o.Sign place sign) = omega (arith, sign_low sign)
level_low (o.ShiftRight first second) = omega arith
level_low (o.ShiftRightAssign first second) = omega arith

module _ (opens : TypeNode → Bool) where
  selects_from : (from : ℕ) (c : Bool) → from ≤ 13 → nat_lt 13 from ≡ c → binds_between selects opens from nowhere ≡ false → ⊥
  selects_from from true le e off = let bad : 13 ≤ from = omega (arith, ltb-true 13 from e) in absurd (omega (arith, ltb-true 13 from e, le))
  selects_from from false le e off = absurd cc

  mutual
    unfolding expr_takes operand_takes tails_take cascades_take expr_alone operand_alone primary_alone tails_alone cascades_alone

    pub expr_unselected : (x : Expr) (from : ℕ) → from ≤ 13 → expr_takes selects opens from x ≡ false → Within (expr_alone x) unselected
    expr_unselected (t.assign target operator value) from le off = expr_unselected value from le off
    expr_unselected (t.plain x t.no_cascades) from le off = within_union (within_given (assigns x) (λ e. inside refl)) (operand_unselected x from le off)
    expr_unselected (t.plain x (t.cascade place behind value more)) from le off = cascades_unselected (t.cascade place behind value more) from le off
    expr_unselected (t.throw word value) from le off = expr_unselected value dots (omega arith) off

    pub operand_unselected : (x : Operand) (from : ℕ) → from ≤ 13 → operand_takes selects opens from x ≡ false → Within (operand_alone x) unselected
    operand_unselected (t.conditional condition mark first colon second) from le off =
        expr_unselected second (max from question) (max-le le (omega arith)) (or_false (binds_between selects opens from question) (expr_takes selects opens (max from question) second) off).1
    operand_unselected (t.binary first more) from le off = tails_unselected more from le off
    operand_unselected (t.is_type x word bang of) from le off = within_none unselected
    operand_unselected (t.as_type x word of) from le off = within_none unselected
    operand_unselected (t.prefix operator x) from le off = operand_unselected x (max from selects) (max-le le (omega arith)) (or_false (binds_between selects opens from selects) (operand_takes selects opens (max from selects) x) off).1
    operand_unselected (t.postfix x behind None) from le off = within_given (selectors_assign behind) (λ e. inside refl)
    operand_unselected (t.postfix x behind (Some operator)) from le off = within_none unselected
    operand_unselected (t.primary (t.function_literal parameters (t.arrow_body arrow value semicolon))) from le off =
        expr_unselected value dots (omega arith) (or_false (binds_between selects opens from nowhere) (expr_takes selects opens dots value) off).1
    operand_unselected (t.primary (t.function_literal parameters (t.block_body block))) from le off = within_none unselected
    operand_unselected (t.primary (t.function_literal parameters (t.no_body semicolon))) from le off = within_none unselected
    operand_unselected (t.primary (t.super_access word x)) from le off = absurd (selects_from from (nat_lt 13 from) le refl off)
    operand_unselected (t.primary (t.bare_super word)) from le off = absurd (selects_from from (nat_lt 13 from) le refl off)
    operand_unselected (t.primary (t.atom x)) from le off = absurd (selects_from from (nat_lt 13 from) le refl off)
    operand_unselected (t.primary (t.text x)) from le off = absurd (selects_from from (nat_lt 13 from) le refl off)
    operand_unselected (t.primary (t.list_literal types opening _ comma closing)) from le off = absurd (selects_from from (nat_lt 13 from) le refl off)
    operand_unselected (t.primary (t.map_literal types opening _ comma closing)) from le off = absurd (selects_from from (nat_lt 13 from) le refl off)
    operand_unselected (t.primary (t.new_object creation of constructor arguments)) from le off = absurd (selects_from from (nat_lt 13 from) le refl off)
    operand_unselected (t.primary (t.parenthesized opening value closing)) from le off = absurd (selects_from from (nat_lt 13 from) le refl off)

    tails_unselected : (x : Tails) (from : ℕ) → from ≤ 13 → tails_take selects opens from x ≡ false → Within (tails_alone x) unselected
    tails_unselected t.no_tails from le off = within_none unselected
    tails_unselected (t.tail operator x t.no_tails) from le off =
        operand_unselected x (max from (suc (level operator))) (max-le le (level_low operator))
        (or_false (binds_between selects opens from (suc (level operator)) && repeats (level operator)) (operand_takes selects opens (max from (suc (level operator))) x)
        (or_false (binds_between selects opens from (level operator)) ((binds_between selects opens from (suc (level operator)) && repeats (level operator)) || operand_takes selects opens (max from (suc (level operator))) x) off).1).1
    tails_unselected (t.tail operator x (t.tail other y more)) from le off = tails_unselected (t.tail other y more) from le off

    cascades_unselected : (x : Cascades) (from : ℕ) → from ≤ 13 → cascades_take selects opens from x ≡ false → Within (cascades_alone x) unselected
    cascades_unselected t.no_cascades from le off = within_none unselected
    cascades_unselected (t.cascade place behind t.omitted t.no_cascades) from le off = within_given (selectors_assign behind) (λ e. inside refl)
    cascades_unselected (t.cascade place behind (t.given operator value) t.no_cascades) from le off =
        expr_unselected value (max from question) (max-le le (omega arith)) (or_false (binds_between selects opens from question) (expr_takes selects opens (max from question) value) off).1
    cascades_unselected (t.cascade place behind t.omitted (t.cascade other content value more)) from le off = cascades_unselected (t.cascade other content value more) from le off
    cascades_unselected (t.cascade place behind (t.given operator held) (t.cascade other content value more)) from le off = cascades_unselected (t.cascade other content value more) from le off

  -- what a primary that leaves selectors goes on with alone
  pub primary_unselected : (x : Primary) → operand_takes selects opens nowhere (t.primary x) ≡ false → ((word : Place) → x ≡ t.bare_super word → ⊥) → Within (primary_alone x) unselected
  unfolding operand_takes primary_alone
  primary_unselected (t.function_literal parameters (t.arrow_body arrow value semicolon)) off plain = expr_unselected value dots (omega arith) off
  primary_unselected (t.function_literal parameters (t.block_body block)) off plain = within_none unselected
  primary_unselected (t.function_literal parameters (t.no_body semicolon)) off plain = within_none unselected
  primary_unselected (t.super_access word x) off plain = within_none unselected
  primary_unselected (t.bare_super word) off plain = absurd (plain word refl)
  primary_unselected (t.atom x) off plain = within_none unselected
  primary_unselected (t.text x) off plain = inside refl
  primary_unselected (t.list_literal types opening _ comma closing) off plain = within_none unselected
  primary_unselected (t.map_literal types opening _ comma closing) off plain = within_none unselected
  primary_unselected (t.new_object creation of constructor arguments) off plain = within_none unselected
  primary_unselected (t.parenthesized opening value closing) off plain = inside refl
