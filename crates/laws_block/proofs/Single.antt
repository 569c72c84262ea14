-- What the law of a reader with what is begun behind it says of the reader alone.
use Rattle.std.proofs.Common.{◌≡◌, ℕ, true, false, List, [], ◌∷◌, ◌++◌, Option, Ok, Err, sym, ap, subst, ◌∙◌, append_assoc}
use Rattle.std.proofs.lemmas.List.{append-nil}
use Rattle.dart_token.specs.declared.token.Token.{Token}
use Rattle.grammar_laws.specs.Codes.{has}
use Rattle.grammar_laws.specs.Readers.{Reader, both_by, starts}
use Rattle.grammar_laws.specs.Fronts.{both_spelling, BothFitBy}
use Rattle.grammar_laws.specs.Laws.{Stuck}
use Rattle.grammar_laws.proofs.Cuts.{same, longer, shorter, cut}
use Rattle.grammar_laws.proofs.Joints.{begins as begun_first, one_more, ends, one_reading}
use Rattle.grammar_laws.proofs.Steps.{both_fails, both_gives}
use Rattle.dart_syntax.specs.Phrases.{Phrase}
use Rattle.token_codes.specs.Codes.{class_of}
use Rattle.laws_block.specs.Begun.{begun, Begins, on_codes, ReadsBegun}
use Rattle.laws_block.proofs.Begun.{Gives, gives, begins_none, begins_closed}

module _ {A : Type 0} {read : Reader Token A} {p : Phrase A} {first : List ℕ} {level : A → Option ℕ} {still : A → List ℕ} (S : ReadsBegun read p first level still) where
  abbrev pairs : Reader Token (A × List Token)
  pairs = both_by read (λ a. begun (level a))

  abbrev PairFits : A × List Token → Type 0
  PairFits = BothFitBy p.Fits (λ a. Begins (level a))

  abbrev spell : A × List Token → List Token
  spell = both_spelling p.spelling (λ m. m)

  abbrev pair : A → List Token → A × List Token
  pair a m = (a, m)

  -- the tree with what is begun behind it
  paired : (ts : List Token) (a : A) (mid : List Token) → read ts ≡ Ok (a, mid) → (g : Gives (level a) mid) → pairs ts ≡ Ok (pair a g.tokens, g.rest)
  paired ts a mid e g = both_gives read (λ a. begun (level a)) ts mid g.rest a g.tokens e g.read

  alone : (a : A) → p.Fits a → PairFits (pair a [])
  alone a fits = (fits, begins_none (level a))

  pub one_sound : (ts : List Token) (a : A) (mid : List Token) → read ts ≡ Ok (a, mid) → p.Fits a × (ts ≡ p.spelling a ++ mid)
  one_sound ts a mid e =
      let g : Gives (level a) mid = gives (level a) mid in
      let l = S.laws.sound ts (pair a g.tokens) g.rest (paired ts a mid e g) in
      (l.0.0, l.1 ∙ append_assoc (p.spelling a) g.tokens g.rest ∙ ap (λ (m : List Token). p.spelling a ++ m) (sym g.cuts))

  pub one_fault : (ts rest : List Token) → read ts ≡ Err rest → Stuck p.front ts rest
  one_fault ts rest e = S.laws.fault ts rest (both_fails read (λ a. begun (level a)) ts rest e)

  pub one_whole : (a : A) → p.Fits a → p.front (p.spelling a)
  one_whole a fits = subst p.front (append-nil (p.spelling a)) (S.laws.whole (pair a []) (alone a fits))

  pub one_begins : (a : A) (rest : List Token) → p.Fits a → starts class_of first (p.spelling a ++ rest) ≡ true
  one_begins a rest fits = ap (λ (m : List Token). starts class_of first (m ++ rest)) (sym (append-nil (p.spelling a))) ∙ begun_first S.laws (pair a []) rest (alone a fits)

  pub one_filled : (a : A) → p.Fits a → p.spelling a ≡ [] → ⊥
  one_filled a fits e = let h : false ≡ true = S.laws.empties (pair a []) (alone a fits) (append-nil (p.spelling a) ∙ e) in absurd cc

  pub one_next : (a : A) (t : Token) (ts : List Token) → p.Fits a → p.front (p.spelling a ++ t ∷ ts) → has (still a ++ on_codes (level a)) (class_of t) ≡ true
  one_next a t ts fits f = S.laws.nexts (pair a []) t ts (alone a fits) (subst p.front (ap (λ (m : List Token). m ++ t ∷ ts) (sym (append-nil (p.spelling a)))) f)

  -- what goes on behind what was read begins a part
  pub one_goes : (ts : List Token) (a : A) (mid z rest : List Token) → read ts ≡ Ok (a, mid) → mid ≡ z ++ rest → p.front (p.spelling a ++ z) → Begins (level a) z
  one_goes ts a mid z rest e is f = go (gives (level a) mid) where
    go : Gives (level a) mid → Begins (level a) z
    go g = elim (cut z rest g.tokens g.rest (sym is ∙ g.cuts)) as (λ _. Begins (level a) z) [
      | same x y ↦ subst (Begins (level a)) (sym x) g.fits
      | longer t w x y ↦ begins_closed (level a) z (t ∷ w) (subst (Begins (level a)) x g.fits)
      | shorter t w x y ↦ absurd (ends S.laws ts (pair a g.tokens) g.rest (paired ts a mid e g) t (w ++ rest) y
          (one_more S.laws (p.spelling a ++ g.tokens) t w (subst p.front (ap (λ (m : List Token). p.spelling a ++ m) x ∙ sym (append_assoc (p.spelling a) g.tokens (t ∷ w))) f)))
    ]

  -- no tree is another one with what begins a part behind it
  pub no_pair : (a b : A) (t : Token) (m : List Token) → p.Fits a → p.Fits b → Begins (level a) (t ∷ m) → p.spelling b ≡ p.spelling a ++ t ∷ m → ⊥
  no_pair a b t m fa fb f e =
      let is : pair a (t ∷ m) ≡ pair b [] = one_reading S.laws (pair a (t ∷ m)) (pair b []) (fa, f) (alone b fb) (sym e ∙ sym (append-nil (p.spelling b))) in
      let bad : t ∷ m ≡ [] = ap (λ (x : A × List Token). x.1) is in
      absurd cc
