-- Parts of a `switch` behind their labels.
use Rattle.std.proofs.Common.{◌≡◌, List, Ok, refl, sym, ap, ◌∙◌}
use Rattle.dart_base.specs.declared.place.Place.{Place}
use Rattle.dart_token.specs.declared.token.Token.{Token}
use Rattle.dart_tree.specs.Tree as t
use Rattle.grammar_laws.specs.Readers.{Reader, Outcome, mapped}
use Rattle.grammar_laws.proofs.Cuts.{gave}
use Rattle.syntax_readers.specs.Combinators.{◌~◌, always_gives}
use Rattle.parse_block.specs.Views.{Rest}

-- without a value
module _ {A C D V : Type 0} (p : Reader Token A) (r : Reader Token C) (o : Reader Token D) (ts : List Token) where
  pub read_default : (v : V) (x : A) (z : C) (u : D) (t₁ t₂ t₃ : List Token) → p ts ≡ Ok (x, t₁) → r t₁ ≡ Ok (z, t₂) → o t₂ ≡ Ok (u, t₃) → (p ~ always_gives v ~ r ~ o) ts ≡ Ok ((x, (v, (z, u))), t₃)
  read_default v x z u t₁ t₂ t₃ a b c = rw (a, b, c) refl

-- with one
module _ {A B C D V : Type 0} (p : Reader Token A) (r : Reader Token C) (o : Reader Token D) (ts : List Token) where
  pub read_case : (f : B → V) (q : Reader Token B) (x : A) (y : B) (z : C) (u : D) (t₁ t₂ t₃ t₄ : List Token) → p ts ≡ Ok (x, t₁) → q t₁ ≡ Ok (y, t₂) → r t₂ ≡ Ok (z, t₃) → o t₃ ≡ Ok (u, t₄) →
      (p ~ mapped f q ~ r ~ o) ts ≡ Ok ((x, (f y, (z, u))), t₄)
  read_case f q x y z u t₁ t₂ t₃ t₄ a b c d = rw (a, b, c, d) refl

pub seen_value : (o : Outcome Token Rest) (x z : Place) (u : List t.Stmt) (tree found : t.Value) (end : List Token) → o ≡ Ok ((x, (tree, (z, u))), end) → found ≡ tree → o ≡ Ok ((x, (found, (z, u))), end)
seen_value o x z u tree found end e is = e ∙ ap (λ (v : t.Value). gave {A = Rest} (x, (v, (z, u))) end) (sym is)
