-- A `switch` by its parts.
use Rattle.std.proofs.Common.{◌≡◌, ℕ, List, Ok, Err, refl, sym, ap, ◌∙◌}
use Rattle.dart_base.specs.declared.place.Place.{Place}
use Rattle.dart_syntax.specs.Statements.{a_switch}
use Rattle.dart_token.specs.declared.sign.Sign.TheVariants as s
use Rattle.dart_token.specs.declared.token.Token.{Token}
use Rattle.dart_token.specs.declared.word.Word.TheVariants as w
use Rattle.dart_tree.specs.Tree as t
use Rattle.grammar_laws.specs.Readers.{Reader, Outcome, and_then, mapped}
use Rattle.grammar_laws.proofs.Cuts.{gave}
use Rattle.syntax_readers.specs.Combinators.{◌~◌, made₅}
use Rattle.syntax_readers.specs.Statements.{Part, to_parts, condition_over, switch_over}
use Rattle.token_codes.specs.Leaves.{sign, word}
use Rattle.parse_nest.specs.Stages.{closed_at, stmt_at}
use Rattle.parse_block.specs.Views.{parts_at}

-- five in a row
module _ {A B C D E X : Type 0} (f : A → B → C → D → E → X) (p : Reader Token A) (q : Reader Token B) (r : Reader Token C) (o : Reader Token D) (l : Reader Token E) (ts : List Token) where
  no_first : (end : List Token) → p ts ≡ Err end → made₅ f (p ~ q ~ r ~ o ~ l) ts ≡ Err end
  no_first end a = rw a refl

  no_second : (x : A) (t₁ end : List Token) → p ts ≡ Ok (x, t₁) → q t₁ ≡ Err end → made₅ f (p ~ q ~ r ~ o ~ l) ts ≡ Err end
  no_second x t₁ end a b = rw (a, b) refl

  no_third : (x : A) (y : B) (t₁ t₂ end : List Token) → p ts ≡ Ok (x, t₁) → q t₁ ≡ Ok (y, t₂) → r t₂ ≡ Err end → made₅ f (p ~ q ~ r ~ o ~ l) ts ≡ Err end
  no_third x y t₁ t₂ end a b c = rw (a, b, c) refl

  no_fourth : (x : A) (y : B) (z : C) (t₁ t₂ t₃ end : List Token) → p ts ≡ Ok (x, t₁) → q t₁ ≡ Ok (y, t₂) → r t₂ ≡ Ok (z, t₃) → o t₃ ≡ Err end → made₅ f (p ~ q ~ r ~ o ~ l) ts ≡ Err end
  no_fourth x y z t₁ t₂ t₃ end a b c d = rw (a, b, c, d) refl

  no_fifth : (x : A) (y : B) (z : C) (u : D) (t₁ t₂ t₃ t₄ end : List Token) → p ts ≡ Ok (x, t₁) → q t₁ ≡ Ok (y, t₂) → r t₂ ≡ Ok (z, t₃) → o t₃ ≡ Ok (u, t₄) → l t₄ ≡ Err end → made₅ f (p ~ q ~ r ~ o ~ l) ts ≡ Err end
  no_fifth x y z u t₁ t₂ t₃ t₄ end a b c d e = rw (a, b, c, d, e) refl

  all_five : (x : A) (y : B) (z : C) (u : D) (v : E) (t₁ t₂ t₃ t₄ t₅ : List Token) → p ts ≡ Ok (x, t₁) → q t₁ ≡ Ok (y, t₂) → r t₂ ≡ Ok (z, t₃) → o t₃ ≡ Ok (u, t₄) → l t₄ ≡ Ok (v, t₅) →
      made₅ f (p ~ q ~ r ~ o ~ l) ts ≡ Ok (f x y z u v, t₅)
  all_five x y z u v t₁ t₂ t₃ t₄ t₅ a b c d e = rw (a, b, c, d, e) refl

module _ (n : ℕ) (ts : List Token) where
  -- as a sequence of its five parts
  abbrev made : Reader Token t.Stmt
  made = made₅ a_switch (word w.Switch ~ condition_over (closed_at n) ~ sign s.LeftBrace ~ mapped to_parts (parts_at n) ~ sign s.RightBrace)

  in_five : switch_over n (closed_at n) (stmt_at n) ts ≡ made ts
  unfolding switch_over
  in_five = refl

  pub no_word : (end : List Token) → word w.Switch ts ≡ Err end → switch_over n (closed_at n) (stmt_at n) ts ≡ Err end
  no_word end a = in_five ∙ no_first a_switch (word w.Switch) (condition_over (closed_at n)) (sign s.LeftBrace) (mapped to_parts (parts_at n)) (sign s.RightBrace) ts end a

  module _ (x : Place) (t₁ : List Token) (a : word w.Switch ts ≡ Ok (x, t₁)) where
    pub no_condition : (end : List Token) → condition_over (closed_at n) t₁ ≡ Err end → switch_over n (closed_at n) (stmt_at n) ts ≡ Err end
    no_condition end b = in_five ∙ no_second a_switch (word w.Switch) (condition_over (closed_at n)) (sign s.LeftBrace) (mapped to_parts (parts_at n)) (sign s.RightBrace) ts x t₁ end a b

    module _ (y : Place × (t.Expr × Place)) (t₂ : List Token) (b : condition_over (closed_at n) t₁ ≡ Ok (y, t₂)) where
      pub no_opening : (end : List Token) → sign s.LeftBrace t₂ ≡ Err end → switch_over n (closed_at n) (stmt_at n) ts ≡ Err end
      no_opening end c = in_five ∙ no_third a_switch (word w.Switch) (condition_over (closed_at n)) (sign s.LeftBrace) (mapped to_parts (parts_at n)) (sign s.RightBrace) ts x y t₁ t₂ end a b c

      module _ (z : Place) (t₃ : List Token) (c : sign s.LeftBrace t₂ ≡ Ok (z, t₃)) where
        pub no_parts : (end : List Token) → parts_at n t₃ ≡ Err end → switch_over n (closed_at n) (stmt_at n) ts ≡ Err end
        no_parts end d =
            in_five ∙ no_fourth a_switch (word w.Switch) (condition_over (closed_at n)) (sign s.LeftBrace) (mapped to_parts (parts_at n)) (sign s.RightBrace) ts x y z t₁ t₂ t₃ end a b c
            (ap (λ (o : Outcome Token (List Part)). and_then {B = t.SwitchParts} o (λ u rest. Ok (to_parts u, rest))) d)

        module _ (u : List Part) (t₄ : List Token) (d : parts_at n t₃ ≡ Ok (u, t₄)) where
          all_parts : mapped to_parts (parts_at n) t₃ ≡ Ok (to_parts u, t₄)
          all_parts = ap (λ (o : Outcome Token (List Part)). and_then {B = t.SwitchParts} o (λ u rest. Ok (to_parts u, rest))) d

          pub no_closing : (end : List Token) → sign s.RightBrace t₄ ≡ Err end → switch_over n (closed_at n) (stmt_at n) ts ≡ Err end
          no_closing end e =
              in_five ∙ no_fifth a_switch (word w.Switch) (condition_over (closed_at n)) (sign s.LeftBrace) (mapped to_parts (parts_at n)) (sign s.RightBrace) ts x y z (to_parts u) t₁ t₂ t₃ t₄ end a b c all_parts e

          pub switch_reads : (v : Place) (t₅ : List Token) → sign s.RightBrace t₄ ≡ Ok (v, t₅) → switch_over n (closed_at n) (stmt_at n) ts ≡ Ok (a_switch x y z (to_parts u) v, t₅)
          switch_reads v t₅ e =
              in_five ∙ all_five a_switch (word w.Switch) (condition_over (closed_at n)) (sign s.LeftBrace) (mapped to_parts (parts_at n)) (sign s.RightBrace) ts x y z (to_parts u) v t₁ t₂ t₃ t₄ t₅ a b c all_parts e

pub seen : (o : Outcome Token t.Stmt) (tree found : t.Stmt) (end : List Token) → o ≡ Ok (tree, end) → found ≡ tree → o ≡ Ok (found, end)
seen o tree found end e is = e ∙ ap (λ (x : t.Stmt). gave x end) (sym is)
