-- Sets that what may go on behind expressions is within.
use Rattle.std.proofs.Common.{ℕ, List, [], ◌∷◌, ◌++◌, None, Some, refl}
use Rattle.dart_token.specs.declared.sign.Sign.TheVariants as s
use Rattle.dart_tree.specs.Tree as t
use Rattle.dart_tree.specs.Tree.{Expr, Operand, Primary, Tails, Cascades}
use Rattle.grammar_laws.specs.Codes.{Within}
use Rattle.grammar_laws.proofs.Codes.{inside, within_none, within_then, within_union, within_given, within_left, within_right}
use Rattle.dart_syntax.specs.Edges.{dots, question, expr_takes}
use Rattle.dart_syntax.specs.Expressions.{primary_assigns, selectors_assign}
use Rattle.token_codes.specs.Codes.{sign_code, sign_codes}
use Rattle.syntax_readers.specs.Primaries.{string_first, selector_first}
use Rattle.syntax_readers.specs.Levels.{assigns}
use Rattle.laws_expr.specs.Nexts.{Next, Taking, nexts, taken_of, assigning, stepping, expr_alone, operand_alone, primary_alone, tails_alone, cascades_alone, after_expr, after_without}

abbrev all_of : List Next → List ℕ
all_of [] = []
all_of (x ∷ more) = x.codes ++ all_of more

taken_of_within : (table : List Next) (takes : Taking) → Within (taken_of table takes) (all_of table)
taken_of_within [] takes = within_none []
taken_of_within (x ∷ more) takes = within_union (within_given (takes x.binds x.opens) (λ e. within_left x.codes (all_of more))) (within_then (taken_of_within more takes) (within_right x.codes (all_of more)))

abbrev pub alone : List ℕ
alone = sign_code s.Greater ∷ assigning ++ stepping ++ string_first ++ sign_codes (s.Arrow ∷ s.LeftBrace ∷ []) ++ selector_first

mutual
  unfolding expr_alone operand_alone primary_alone tails_alone cascades_alone

  pub expr_alone_within : (x : Expr) → Within (expr_alone x) alone
  expr_alone_within (t.assign target operator value) = expr_alone_within value
  expr_alone_within (t.plain x t.no_cascades) = within_union (within_given (assigns x) (λ e. inside refl)) (operand_alone_within x)
  expr_alone_within (t.plain x (t.cascade place behind value more)) = cascades_alone_within (t.cascade place behind value more)
  expr_alone_within (t.throw word value) = expr_alone_within value

  pub operand_alone_within : (x : Operand) → Within (operand_alone x) alone
  operand_alone_within (t.conditional condition mark first colon second) = expr_alone_within second
  operand_alone_within (t.binary first more) = tails_alone_within more
  operand_alone_within (t.is_type x word bang of) = within_none alone
  operand_alone_within (t.as_type x word of) = within_none alone
  operand_alone_within (t.prefix operator x) = operand_alone_within x
  operand_alone_within (t.postfix x behind None) = within_given (selectors_assign behind) (λ e. inside refl)
  operand_alone_within (t.postfix x behind (Some operator)) = within_none alone
  operand_alone_within (t.primary x) = within_union (within_given (primary_assigns x) (λ e. inside refl)) (primary_alone_within x)

  primary_alone_within : (x : Primary) → Within (primary_alone x) alone
  primary_alone_within (t.super_access word selector) = within_none alone
  primary_alone_within (t.bare_super word) = inside refl
  primary_alone_within (t.atom x) = within_none alone
  primary_alone_within (t.text x) = inside refl
  primary_alone_within (t.list_literal types opening _ comma closing) = within_none alone
  primary_alone_within (t.map_literal types opening _ comma closing) = within_none alone
  primary_alone_within (t.new_object creation of constructor arguments) = within_none alone
  primary_alone_within (t.function_literal parameters (t.arrow_body arrow value semicolon)) = expr_alone_within value
  primary_alone_within (t.function_literal parameters (t.block_body block)) = within_none alone
  primary_alone_within (t.function_literal parameters (t.no_body semicolon)) = within_none alone
  primary_alone_within (t.parenthesized opening value closing) = inside refl

  tails_alone_within : (x : Tails) → Within (tails_alone x) alone
  tails_alone_within t.no_tails = within_none alone
  tails_alone_within (t.tail operator x t.no_tails) = operand_alone_within x
  tails_alone_within (t.tail operator x (t.tail next y more)) = tails_alone_within (t.tail next y more)

  pub cascades_alone_within : (x : Cascades) → Within (cascades_alone x) alone
  cascades_alone_within t.no_cascades = within_none alone
  cascades_alone_within (t.cascade place behind t.omitted t.no_cascades) = within_given (selectors_assign behind) (λ e. inside refl)
  cascades_alone_within (t.cascade place behind (t.given operator value) t.no_cascades) = expr_alone_within value
  cascades_alone_within (t.cascade place behind t.omitted (t.cascade next other content more)) = cascades_alone_within (t.cascade next other content more)
  cascades_alone_within (t.cascade place behind (t.given operator value) (t.cascade next other content more)) = cascades_alone_within (t.cascade next other content more)

-- ---- whatever the tree is

abbrev pub behind_exprs : List ℕ
behind_exprs = all_of nexts ++ alone

pub under_expr : (x : Expr) → Within (after_expr x) behind_exprs
under_expr x = within_union (within_then (taken_of_within nexts (λ next opens. expr_takes next opens dots x)) (within_left (all_of nexts) alone)) (within_then (expr_alone_within x) (within_right (all_of nexts) alone))

pub under_without : (x : Expr) → Within (after_without x) behind_exprs
under_without x = within_union (within_then (taken_of_within nexts (λ next opens. expr_takes next opens question x)) (within_left (all_of nexts) alone)) (within_then (expr_alone_within x) (within_right (all_of nexts) alone))
