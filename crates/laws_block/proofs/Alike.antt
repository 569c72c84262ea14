-- A second try of readers with what is begun behind them, whose trees never begin alike.
use Rattle.std.proofs.Common.{◌≡◌, ℕ, false, inl, inr, List, [], ◌∷◌, ◌++◌, Option, Ok, Err, refl, sym, ap, subst, ◌∙◌, append_assoc}
use Rattle.std.proofs.lemmas.List.{append-nil}
use Rattle.dart_token.specs.declared.token.Token.{Token}
use Rattle.grammar_laws.specs.Readers.{Outcome, Reader, both_by, farther, tried}
use Rattle.grammar_laws.specs.Fronts.{Front, EitherFit, FirstFit, both_spelling, BothFitBy}
use Rattle.grammar_laws.specs.Laws.{Stops}
use Rattle.grammar_laws.proofs.Cuts.{same, longer, shorter, cut}
use Rattle.grammar_laws.proofs.Restated.{refit, reread}
use Rattle.grammar_laws.proofs.TriedAlike.{tried_alike_laws}
use Rattle.dart_syntax.specs.Phrases.{◌<|>◌}
use Rattle.token_codes.specs.Codes.{class_of}
use Rattle.laws_block.specs.Begun.{begun, Begins, part_begins, ReadsBegun}
use Rattle.laws_block.proofs.Single.{one_sound, one_whole}
use Rattle.laws_block.proofs.Twice.{both_begun}

module _ {A : Type 0} {tokens : A → List Token} {level : A → Option ℕ} {still : A → List ℕ}
    {read : Reader Token A} {Fits : A → Type 0} {front : Front Token} {first : List ℕ} (P : ReadsBegun read (record { spelling = tokens; Fits = Fits; front = front }) first level still)
    {other : Reader Token A} {OtherFits : A → Type 0} {other_front : Front Token} {codes : List ℕ} (Q : ReadsBegun other (record { spelling = tokens; Fits = OtherFits; front = other_front }) codes level still)
    (over : (a : A) (ts : List Token) → Fits a → other_front (tokens a ++ ts) → ⊥) (under : (b : A) (ts : List Token) → OtherFits b → front (tokens b ++ ts) → ⊥) where
  abbrev spell : A × List Token → List Token
  spell = both_spelling tokens (λ m. m)

  abbrev with : Reader Token A → Reader Token (A × List Token)
  with r = both_by r (λ a. begun (level a))

  abbrev PairFits : A × List Token → Type 0
  PairFits = BothFitBy Fits (λ a. Begins (level a))

  abbrev OtherPair : A × List Token → Type 0
  OtherPair = BothFitBy OtherFits (λ a. Begins (level a))

  pair_over : (x : A × List Token) (ts : List Token) → PairFits x → other_front (spell x ++ ts) → ⊥
  pair_over x ts fits f = over x.0 (x.1 ++ ts) fits.0 (subst other_front (append_assoc (tokens x.0) x.1 ts) f)

  pair_under : (x : A × List Token) (ts : List Token) → OtherPair x → front (spell x ++ ts) → ⊥
  pair_under x ts fits f = under x.0 (x.1 ++ ts) fits.0 (subst front (append_assoc (tokens x.0) x.1 ts) f)

  never : (x y : A × List Token) → PairFits x → OtherPair y → spell x ≡ spell y → ⊥
  never x y fits other_fits e = pair_over x [] fits (subst other_front (sym e ∙ sym (append-nil (spell x))) (Q.laws.whole y other_fits))

  forth : (x : A × List Token) → FirstFit spell PairFits OtherPair x → BothFitBy (EitherFit Fits OtherFits) (λ a. Begins (level a)) x
  forth x (inl fits) = (inl fits.0, fits.1)
  forth x (inr fits) = (inr fits.0.0, fits.0.1)

  back : (x : A × List Token) → BothFitBy (EitherFit Fits OtherFits) (λ a. Begins (level a)) x → FirstFit spell PairFits OtherPair x
  back x (inl fits, b) = inl (fits, b)
  back x (inr fits, b) = inr ((fits, b), λ y pair_fits e. never y x pair_fits (fits, b) e)

  not_first : (b : A) (rest : List Token) → OtherFits b → (a : A) (r : List Token) → read (tokens b ++ rest) ≡ Ok (a, r) → ⊥
  not_first b rest fits a r e =
      let l = one_sound P (tokens b ++ rest) a r e in
      elim (cut (tokens b) rest (tokens a) r l.1) as (λ _. ⊥) [
        | same x y ↦ under b [] fits (subst front (sym x ∙ sym (append-nil (tokens b))) (one_whole P a l.0))
        | longer s z x y ↦ under b (s ∷ z) fits (subst front x (one_whole P a l.0))
        | shorter s z x y ↦ over a (s ∷ z) l.0 (subst other_front x (one_whole Q b fits))
      ]

  complete : (a : A) (rest : List Token) → EitherFit Fits OtherFits a → Stops class_of (still a) rest → part_begins (level a) rest ≡ false → tried read other (tokens a ++ rest) ≡ Ok (a, rest)
  complete a rest (inl fits) stop none = ap (λ (o : Outcome Token A). farther o (other (tokens a ++ rest))) (P.complete a rest fits stop none)
  complete a rest (inr fits) stop none = go (read (tokens a ++ rest)) refl where
    go : (r : Outcome Token A) → read (tokens a ++ rest) ≡ r → farther r (other (tokens a ++ rest)) ≡ Ok (a, rest)
    go (Ok (b, r)) e = absurd (not_first a rest fits b r e)
    go (Err d) e = ap (λ (o : Outcome Token A). farther (Err d) o) (Q.complete a rest fits stop none)

  pub tried_begun : ReadsBegun (tried read other) (record { spelling = tokens; Fits = Fits; front = front } <|> record { spelling = tokens; Fits = OtherFits; front = other_front }) (first ++ codes) level still
  tried_begun = record {
    laws = reread (refit (tried_alike_laws P.laws Q.laws (λ x y fits other_fits e. absurd (never x y fits other_fits e)) (λ x t ts fits f. pair_over x (t ∷ ts) fits f) (λ x t ts fits f. pair_under x (t ∷ ts) fits f)) forth back) (λ ts. both_begun level (read ts) (other ts));
    complete = complete;
  }
