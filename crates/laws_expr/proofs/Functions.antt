-- The law of the reader of function literals (ECMA-408, 16.10 Function Expressions).
use Rattle.std.proofs.Common.{◌≡◌, ℕ, Bool, true, false, List, [], ◌∷◌, ◌++◌, Option, None, refl, ap, sym, inl}
use Rattle.std.proofs.lemmas.List.{append-nil}
use Rattle.dart_base.specs.declared.place.Place.{Place}
use Rattle.dart_token.specs.declared.sign.Sign.TheVariants as s
use Rattle.dart_tree.specs.Types.{TypeNode}
use Rattle.dart_tree.specs.Tree as t
use Rattle.dart_tree.specs.Tree.{Expr, Primary, Body, Parameters}
use Rattle.dart_tree.specs.Tokens.{expr_tokens, primary_tokens, body_tokens}
use Rattle.grammar_laws.specs.Codes.{Within, nowhere}
use Rattle.grammar_laws.proofs.Codes.{apart, apart_none, or_right, within_none, within_self, within_then, within_union, within_left, within_right}
use Rattle.grammar_laws.proofs.Restated.{made_laws}
use Rattle.dart_syntax.specs.Agreement.{ExprsAgree}
use Rattle.dart_syntax.specs.Edges.{dots, binds_between, expr_takes, operand_takes}
use Rattle.dart_syntax.specs.Edges as edge
use Rattle.dart_syntax.specs.Expressions as g
use Rattle.token_codes.specs.Codes.{these, sign_codes}
use Rattle.token_codes.specs.Reads.{Reads}
use Rattle.token_codes.proofs.Leaves.{sign_reads}
use Rattle.syntax_readers.specs.Primaries.{ExprReaders, expr_first, literal_body, function_literal_over}
use Rattle.laws_expr.specs.Nexts.{Taking, nexts, taken, expr_alone, primary_alone, after_expr, after_primary}
use Rattle.laws_expr.proofs.Open.{OpenLaws, shut_laws, prefix_laws, open_by_first_laws, Settled, prefix_settled, first_settled}
use Rattle.laws_expr.proofs.Edges.{taken_moves}
use Rattle.laws_expr.proofs.Chain.{half_of, half_moves}

abbrev pub half_expr : Expr → List ℕ
half_expr x = half_of (λ next opens. expr_takes next opens dots x) (expr_alone x)

abbrev pub half_primary : Primary → List ℕ
half_primary x = half_of (λ next opens. operand_takes next opens edge.nowhere (t.primary x)) (primary_alone x)

abbrev after_body : Body → List ℕ
after_body (t.arrow_body arrow value semicolon) = after_expr value
after_body body = []

abbrev half_body : Body → List ℕ
half_body (t.arrow_body arrow value semicolon) = half_expr value
half_body body = []

arrow_takes : (parameters : Parameters) (arrow : Place) (value : Expr) (semicolon : Option Place) (next : ℕ) (opens : TypeNode → Bool) → expr_takes next opens dots value ≡ true → operand_takes next opens edge.nowhere (t.primary (t.function_literal parameters (t.arrow_body arrow value semicolon))) ≡ true
unfolding operand_takes
arrow_takes parameters arrow value semicolon next opens h = or_right (binds_between next opens edge.nowhere edge.nowhere) (expr_takes next opens dots value) h

body_on : (parameters : Parameters) (x : Body) → Within (after_body x) (after_primary (t.function_literal parameters x))
unfolding primary_alone
body_on parameters (t.arrow_body arrow value semicolon) =
    let takes : Taking = λ next opens. operand_takes next opens edge.nowhere (t.primary (t.function_literal parameters (t.arrow_body arrow value semicolon))) in
    within_union (within_then (taken_moves nexts (λ next opens. expr_takes next opens dots value) takes (arrow_takes parameters arrow value semicolon)) (within_left (taken takes) (expr_alone value))) (within_right (taken takes) (expr_alone value))
body_on parameters (t.block_body block) = within_none _
body_on parameters (t.no_body semicolon) = within_none _

body_on_half : (parameters : Parameters) (x : Body) → Within (half_body x) (half_primary (t.function_literal parameters x))
unfolding primary_alone
body_on_half parameters (t.arrow_body arrow value semicolon) = half_moves (λ next opens. expr_takes next opens dots value) (λ next opens. operand_takes next opens edge.nowhere (t.primary (t.function_literal parameters (t.arrow_body arrow value semicolon)))) (expr_alone value) (arrow_takes parameters arrow value semicolon)
body_on_half parameters (t.block_body block) = within_none _
body_on_half parameters (t.no_body semicolon) = within_none _

module _ (inner : ExprReaders) {nodes : g.ExprNodes} (A : ExprsAgree nodes) (E : OpenLaws inner.expr expr_tokens nodes.expr.Fits nodes.expr.front expr_first after_expr half_expr)
    (P : Reads inner.parameters nodes.parameters (these s.LeftParenthesis) nowhere false) (B : Reads inner.block nodes.block (these s.LeftBrace) nowhere false) where
  pub body_laws : OpenLaws (literal_body inner.expr inner.block) body_tokens (g.literal_body_over nodes).Fits (g.literal_body_over nodes).front (sign_codes (s.Arrow ∷ s.LeftBrace ∷ [])) after_body half_body
  unfolding literal_body body_tokens
  body_laws = open_by_first_laws
      (prefix_laws (sign_reads s.Arrow) E (λ place fits. apart_none expr_first) (λ arrow value. t.arrow_body arrow value None) body_tokens after_body half_body (λ arrow value at fits. simp append-nil) (λ arrow value at fits. within_self (after_expr value)) (λ arrow value at fits. within_self (half_expr value)))
      (shut_laws (made_laws B t.block_body body_tokens after_body (λ x fits. sym (A.block.spells x)) (λ x fits. within_none [])) half_body) (apart refl)

  pub function_laws : OpenLaws (function_literal_over inner) primary_tokens (g.function_literal_over nodes).Fits (g.function_literal_over nodes).front (these s.LeftParenthesis) after_primary half_primary
  unfolding function_literal_over primary_tokens
  function_laws = prefix_laws P body_laws (λ x fits. apart_none _) t.function_literal primary_tokens after_primary half_primary
      (λ x body fits at. ap (λ m. m ++ body_tokens body) (sym (A.parameters.spells x))) (λ x body fits at. body_on x body) (λ x body fits at. body_on_half x body)

  -- a `>` behind a body behind `=>` is given as a half, or stopped before, as behind the expression there
  body_settled : (arrow : Place) (value : Expr) → nodes.expr.Fits value → Settled E value → Settled body_laws (t.arrow_body arrow value None)
  unfolding literal_body body_tokens body_laws
  body_settled arrow value fits settled = first_settled
      (prefix_laws (sign_reads s.Arrow) E (λ place fits. apart_none expr_first) (λ arrow value. t.arrow_body arrow value None) body_tokens after_body half_body (λ arrow value at fits. simp append-nil) (λ arrow value at fits. within_self (after_expr value)) (λ arrow value at fits. within_self (half_expr value)))
      (shut_laws (made_laws B t.block_body body_tokens after_body (λ x fits. sym (A.block.spells x)) (λ x fits. within_none [])) half_body) (apart refl) (t.arrow_body arrow value None) ((arrow, value), (tt, fits), refl)
      (prefix_settled (sign_reads s.Arrow) E (λ place fits. apart_none expr_first) (λ arrow value. t.arrow_body arrow value None) body_tokens after_body half_body (λ arrow value at fits. simp append-nil) (λ arrow value at fits. within_self (after_expr value)) (λ arrow value at fits. within_self (half_expr value)) arrow value tt fits settled)

  pub function_settled : (given : Parameters) (arrow : Place) (value : Expr) → nodes.parameters.Fits given → nodes.expr.Fits value → Settled E value → Settled function_laws (t.function_literal given (t.arrow_body arrow value None))
  unfolding function_literal_over primary_tokens function_laws
  function_settled given arrow value fits at settled = prefix_settled P body_laws (λ x fits. apart_none _) t.function_literal primary_tokens after_primary half_primary
      (λ x body fits at. ap (λ m. m ++ body_tokens body) (sym (A.parameters.spells x))) (λ x body fits at. body_on x body) (λ x body fits at. body_on_half x body)
      given (t.arrow_body arrow value None) fits (inl ((arrow, value), (tt, at), refl)) (body_settled arrow value at settled)
