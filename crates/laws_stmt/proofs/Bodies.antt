-- The laws of functions' bodies (ECMA-408, 9 Functions).
use Rattle.std.proofs.Common.{false, List, [], ◌∷◌, ◌++◌, Some, ◌⊎◌, inl, inr, refl, ap, sym}
use Rattle.dart_base.specs.declared.place.Place.{Place}
use Rattle.dart_token.specs.declared.token.Token.{Token}
use Rattle.dart_token.specs.declared.sign.Sign.TheVariants as s
use Rattle.dart_tree.specs.LeafTokens.{sign_at}
use Rattle.dart_tree.specs.Tree as t
use Rattle.dart_tree.specs.Tree.{Body}
use Rattle.dart_tree.specs.Tokens.{body_tokens}
use Rattle.grammar_laws.specs.Codes.{nowhere}
use Rattle.grammar_laws.proofs.Codes.{apart, apart_none, apart_smaller, within_self, within_none}
use Rattle.grammar_laws.proofs.Restated.{made_laws, restated}
use Rattle.grammar_laws.proofs.Combined.{both_laws}
use Rattle.grammar_laws.proofs.Chosen.{by_first_laws}
use Rattle.dart_syntax.specs.Agreement.{ExprsAgree}
use Rattle.dart_syntax.specs.Expressions as g
use Rattle.dart_syntax.specs.Statements as p
use Rattle.token_codes.specs.Codes.{sign_code, these, sign_codes}
use Rattle.token_codes.specs.Reads.{Reads}
use Rattle.token_codes.proofs.Leaves.{sign_reads}
use Rattle.grammar_laws.specs.Halves.{strict}
use Rattle.syntax_readers.specs.Primaries.{ExprReaders, expr_first}
use Rattle.syntax_readers.specs.Parameters as r
use Rattle.laws_expr.specs.Nexts.{after_expr}
use Rattle.laws_expr.proofs.Behind.{under_expr}

-- ---- => expression ; or a block

swap : {P Q : Type 0} → P ⊎ Q → Q ⊎ P
swap (inl p) = inr p
swap (inr q) = inl q

module _ (here : ExprReaders) (nodes : g.ExprNodes) (A : ExprsAgree nodes) (E : Reads (strict here.expr) nodes.expr expr_first after_expr false) (B : Reads here.block nodes.block (these s.LeftBrace) nowhere false) where
  abbrev to_arrow : Place × (t.Expr × Place) → Body
  to_arrow x = t.arrow_body x.0 x.1.0 (Some x.1.1)

  pub whole_body_laws : Reads (r.whole_body here) (p.whole_body nodes) (sign_codes (s.Arrow ∷ s.LeftBrace ∷ [])) nowhere false
  unfolding r.whole_body r.arrow_body body_tokens
  whole_body_laws = by_first_laws (made_laws (both_laws (sign_reads s.Arrow) (both_laws E (sign_reads s.Semicolon) (λ x fits. apart_smaller (under_expr x) (apart refl))) (λ place fits. apart_none expr_first)) to_arrow body_tokens nowhere
      (λ x fits. ap (λ (m : List Token). sign_at x.0 s.Arrow ∷ (m ++ sign_at x.1.1 s.Semicolon ∷ [])) (sym (A.expr.spells x.1.0))) (λ x fits. within_none []))
      (made_laws B t.block_body body_tokens nowhere (λ x fits. sym (A.block.spells x)) (λ x fits. within_none [])) (apart refl)

  -- the same, or none
  pub body_laws : Reads (r.body here) (p.body_of nodes) (sign_code s.Semicolon ∷ sign_code s.Arrow ∷ sign_code s.LeftBrace ∷ []) nowhere false
  unfolding r.body body_tokens
  body_laws = restated (by_first_laws (made_laws (sign_reads s.Semicolon) t.no_body body_tokens nowhere (λ x fits. refl) (λ x fits. within_none [])) whole_body_laws (apart refl))
      (λ x. swap) (λ x. swap) (λ ts. swap) (λ ts. swap) (within_self _) (λ x fits. within_none []) (λ h. h)
