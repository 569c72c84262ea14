-- The law of a tree without tokens, which is given whatever comes.
use Rattle.std.proofs.Common.{◌≡◌, true, List, [], ◌∷◌, ◌++◌, Ok, refl, sym, ap, ◌∙◌}
use Rattle.dart_token.specs.declared.token.Token.{Token}
use Rattle.grammar_laws.specs.Codes.{nowhere}
use Rattle.grammar_laws.proofs.Cuts.{both_empty, same_value, same_rest}
use Rattle.dart_syntax.specs.Phrases.{exactly}
use Rattle.token_codes.specs.Reads.{Reads}
use Rattle.syntax_readers.specs.Combinators.{always_gives}

module _ {A : Type 0} (spelling : A → List Token) (a : A) (blank : spelling a ≡ []) where
  no_more : (b : A) (t : Token) (ts : List Token) → spelling b ++ t ∷ ts ≡ [] → ⊥
  no_more b t ts e = let bad : t ∷ ts ≡ [] = (both_empty (spelling b) (t ∷ ts) e).1 in absurd cc

  pub given_laws : Reads (always_gives a) (exactly spelling a) [] nowhere true
  given_laws = record {
    sound = λ ts b rest h. let e = same_value a b ts rest h in (sym e, same_rest a b ts rest h ∙ ap (λ (m : List Token). m ++ rest) (sym blank ∙ ap spelling e));
    longest = λ ts b t rest h f. no_more b t [] f;
    fault = λ ts rest h. absurd cc;
    complete = λ b rest fits stop. ap (λ (m : List Token). always_gives a (m ++ rest)) (ap spelling fits ∙ blank) ∙ ap (λ (c : A). Ok (c, rest)) (sym fits);
    whole = λ b fits. ap spelling fits ∙ blank;
    none = refl;
    closed = λ x y e. (both_empty x y e).0;
    firsts = λ t ts e. absurd cc;
    nexts = λ b t ts fits e. absurd (no_more b t ts e);
    empties = λ b fits e. refl;
  }
