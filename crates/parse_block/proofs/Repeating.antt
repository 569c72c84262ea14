-- A `do` by its parts.
use Rattle.std.proofs.Common.{◌≡◌, ℕ, List, Ok, Err, refl, ◌∙◌}
use Rattle.dart_base.specs.declared.place.Place.{Place}
use Rattle.dart_token.specs.declared.token.Token.{Token}
use Rattle.dart_token.specs.declared.word.Word.TheVariants as w
use Rattle.dart_tree.specs.Tree as t
use Rattle.grammar_laws.specs.Readers.{Reader, mapped, both_by}
use Rattle.syntax_readers.specs.Combinators.{◌~◌}
use Rattle.syntax_readers.specs.Statements.{a_do_of, behind_try, do_over, open_try}
use Rattle.token_codes.specs.Leaves.{word}
use Rattle.parse_nest.specs.Stages.{closed_at, stmt_at}
use Rattle.parse_block.specs.Views.{Again, again_at}

-- two in a row, and what depends on them
module _ {A B C X Y : Type 0} (f : (A × B) × C → X) (g : X → Y) (p : Reader Token A) (q : Reader Token B) (r : A × B → Reader Token C) (ts : List Token) where
  no_third : (x : A) (y : B) (t₁ t₂ end : List Token) → p ts ≡ Ok (x, t₁) → q t₁ ≡ Ok (y, t₂) → r (x, y) t₂ ≡ Err end → mapped g (mapped f (both_by (p ~ q) r)) ts ≡ Err end
  no_third x y t₁ t₂ end a b c = rw (a, b, c) refl

  all_three : (x : A) (y : B) (z : C) (t₁ t₂ t₃ : List Token) → p ts ≡ Ok (x, t₁) → q t₁ ≡ Ok (y, t₂) → r (x, y) t₂ ≡ Ok (z, t₃) → mapped g (mapped f (both_by (p ~ q) r)) ts ≡ Ok (g (f ((x, y), z)), t₃)
  all_three x y z t₁ t₂ t₃ a b c = rw (a, b, c) refl

module _ (n : ℕ) (ts : List Token) where
  -- what stands behind a body
  abbrev behind : Place × t.Stmt → Reader Token Again
  behind x = behind_try n (open_try x.1) (again_at n)

  in_three : mapped t.loop (do_over n (closed_at n) (stmt_at n)) ts ≡ mapped t.loop (mapped a_do_of (both_by (word w.Do ~ stmt_at n) behind)) ts
  unfolding do_over
  in_three = refl

  module _ (x : Place) (y : t.Stmt) (t₁ t₂ : List Token) (a : word w.Do ts ≡ Ok (x, t₁)) (b : stmt_at n t₁ ≡ Ok (y, t₂)) where
    pub no_again : (end : List Token) → behind_try n (open_try y) (again_at n) t₂ ≡ Err end → mapped t.loop (do_over n (closed_at n) (stmt_at n)) ts ≡ Err end
    no_again end c = in_three ∙ no_third a_do_of t.loop (word w.Do) (stmt_at n) behind ts x y t₁ t₂ end a b c

    pub do_reads : (z : Again) (t₃ : List Token) → behind_try n (open_try y) (again_at n) t₂ ≡ Ok (z, t₃) → mapped t.loop (do_over n (closed_at n) (stmt_at n)) ts ≡ Ok (t.loop (a_do_of ((x, y), z)), t₃)
    do_reads z t₃ c = in_three ∙ all_three a_do_of t.loop (word w.Do) (stmt_at n) behind ts x y z t₁ t₂ t₃ a b c
