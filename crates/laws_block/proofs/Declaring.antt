-- The law of statements without labels (ECMA-408, 17 Statements): declarations, and the others, where no list of tokens is a declaration
-- and begins another statement, or the other way round.
use Rattle.std.proofs.Common.{◌≡◌, ℕ, Bool, true, false, if◌then◌else◌, inl, inr, List, [], ◌∷◌, ◌++◌, length, Option, None, Ok, Err, refl, sym, ap, subst, ◌∙◌, append_assoc, ltb}
use Rattle.std.proofs.lemmas.List.{append-nil}
use Rattle.dart_token.specs.declared.token.Token.{Token}
use Rattle.grammar_laws.specs.Codes.{nowhere}
use Rattle.grammar_laws.specs.Readers.{Outcome, Reader, and_then, both_by, starts, either, farther, tried}
use Rattle.grammar_laws.specs.Fronts.{Front, FirstFit, both_spelling, BothFitBy}
use Rattle.grammar_laws.specs.Laws.{Laws, Stops}
use Rattle.grammar_laws.proofs.Codes.{within_none}
use Rattle.grammar_laws.proofs.Cuts.{same, longer, shorter, cut}
use Rattle.grammar_laws.proofs.Restated.{refit, reread}
use Rattle.grammar_laws.proofs.Tried.{stops_nowhere, tried_laws}
use Rattle.dart_syntax.specs.Phrases.{rather}
use Rattle.token_codes.specs.Codes.{class_of}
use Rattle.token_codes.specs.Reads.{Reads}
use Rattle.laws_block.specs.Begun.{begun, Begins, part_begins, ReadsBegun}
use Rattle.laws_block.proofs.Begun.{refused}
use Rattle.laws_block.proofs.Combined.{lone_laws}
use Rattle.laws_block.proofs.Twice.{either_order, last_of, both_begun}
use Rattle.laws_block.proofs.Single.{one_sound, one_fault, one_whole}

module _ {A : Type 0} {tokens : A → List Token} {level : A → Option ℕ} {still : A → List ℕ}
    {decl : Reader Token A} {DeclFits : A → Type 0} {decl_front : Front Token} {first : List ℕ} (D : Reads decl (record { spelling = tokens; Fits = DeclFits; front = decl_front }) first nowhere false)
    {other : Reader Token A} {OtherFits : A → Type 0} {other_front : Front Token} {codes : List ℕ} (O : ReadsBegun other (record { spelling = tokens; Fits = OtherFits; front = other_front }) codes level still)
    (plain : (a : A) → DeclFits a → level a ≡ None)
    (over_decl : (a : A) (t : Token) (ts : List Token) → DeclFits a → other_front (tokens a ++ t ∷ ts) → ⊥)
    (over_other : (b : A) (t : Token) (ts : List Token) → OtherFits b → decl_front (tokens b ++ t ∷ ts) → ⊥)
    (never_both : (a b : A) → DeclFits a → OtherFits b → tokens a ≡ tokens b → ⊥) where
  abbrev spell : A × List Token → List Token
  spell = both_spelling tokens (λ m. m)

  abbrev with : Reader Token A → Reader Token (A × List Token)
  with r = both_by r (λ a. begun (level a))

  abbrev DeclPair : A × List Token → Type 0
  DeclPair = BothFitBy DeclFits (λ a. Begins (level a))

  abbrev OtherPair : A × List Token → Type 0
  OtherPair = BothFitBy OtherFits (λ a. Begins (level a))

  abbrev Fits : A → Type 0
  Fits = FirstFit tokens DeclFits OtherFits

  decl_laws : Laws class_of (with decl) spell DeclPair decl_front first nowhere false
  decl_laws = lone_laws D level still plain nowhere (λ a fits. within_none [])

  none_begun : (a : A) (m : List Token) → DeclFits a → Begins (level a) m → m ≡ []
  none_begun a m fits b = subst (λ (o : Option ℕ). Begins o m) (plain a fits) b

  pair_over_decl : (x : A × List Token) (t : Token) (ts : List Token) → DeclPair x → other_front (spell x ++ t ∷ ts) → ⊥
  pair_over_decl x t ts fits f = over_decl x.0 t ts fits.0 (subst other_front (ap (λ (m : List Token). (tokens x.0 ++ m) ++ t ∷ ts) (none_begun x.0 x.1 fits.0 fits.1) ∙ ap (λ (m : List Token). m ++ t ∷ ts) (append-nil (tokens x.0))) f)

  pair_over_other : (b : A) (m : List Token) (t : Token) (ts : List Token) → OtherFits b → decl_front ((tokens b ++ m) ++ t ∷ ts) → ⊥
  pair_over_other b [] t ts fits f = over_other b t ts fits (subst decl_front (ap (λ (m : List Token). m ++ t ∷ ts) (append-nil (tokens b))) f)
  pair_over_other b (s ∷ m) t ts fits f = over_other b s (m ++ t ∷ ts) fits (subst decl_front (append_assoc (tokens b) (s ∷ m) (t ∷ ts)) f)

  -- ---- the trees

  forth : (x : A × List Token) → FirstFit spell DeclPair OtherPair x → BothFitBy Fits (λ a. Begins (level a)) x
  forth x (inl fits) = (inl fits.0, fits.1)
  forth x (inr fits) = (inr (fits.0.0, λ a decl_fits e. never_both a x.0 decl_fits fits.0.0 e), fits.0.1)

  alone : (x y : A × List Token) → OtherPair x → DeclPair y → spell y ≡ spell x → ⊥
  alone x y fits decl_fits e = by x.1 refl where
    plain_said : tokens y.0 ≡ tokens x.0 ++ x.1
    plain_said = sym (append-nil (tokens y.0)) ∙ ap (λ (m : List Token). tokens y.0 ++ m) (sym (none_begun y.0 y.1 decl_fits.0 decl_fits.1)) ∙ e

    by : (m : List Token) → x.1 ≡ m → ⊥
    by [] is = never_both y.0 x.0 decl_fits.0 fits.0 (plain_said ∙ ap (λ (m : List Token). tokens x.0 ++ m) is ∙ append-nil (tokens x.0))
    by (t ∷ m) is = over_other x.0 t m fits.0 (subst decl_front (plain_said ∙ ap (λ (l : List Token). tokens x.0 ++ l) is) (D.whole y.0 decl_fits.0))

  back : (x : A × List Token) → BothFitBy Fits (λ a. Begins (level a)) x → FirstFit spell DeclPair OtherPair x
  back x (inl fits, b) = inl (fits, b)
  back x (inr fits, b) = inr ((fits.0, b), λ y decl_fits e. alone x y (fits.0, b) decl_fits e)

  -- ---- the readers

  abbrev tail : A → Reader Token (A × List Token)
  tail a mid = and_then (begun (level a) mid) (λ m r. Ok ((a, m), r))

  never_decl : (b : A) (rest : List Token) → OtherFits b → (a : A) (r : List Token) → decl (tokens b ++ rest) ≡ Ok (a, r) → ⊥
  never_decl b rest fits a r e =
      let l = D.sound (tokens b ++ rest) a r e in
      elim (cut (tokens b) rest (tokens a) r l.1) as (λ _. ⊥) [
        | same x y ↦ never_both a b l.0 fits (sym x)
        | longer s z x y ↦ over_other b s z fits (subst decl_front x (D.whole a l.0))
        | shorter s z x y ↦ over_decl a s z l.0 (subst other_front x (one_whole O b fits))
      ]

  complete : (a : A) (rest : List Token) → Fits a → Stops class_of (still a) rest → part_begins (level a) rest ≡ false → tried decl other (tokens a ++ rest) ≡ Ok (a, rest)
  complete a rest (inl fits) stop none = ap (λ (o : Outcome Token A). farther o (other (tokens a ++ rest))) (D.complete a rest fits (stops_nowhere class_of rest))
  complete a rest (inr fits) stop none = go (decl (tokens a ++ rest)) refl where
    go : (r : Outcome Token A) → decl (tokens a ++ rest) ≡ r → farther r (other (tokens a ++ rest)) ≡ Ok (a, rest)
    go (Ok (b, r)) e = absurd (never_decl a rest fits.0 b r e)
    go (Err d) e = ap (λ (o : Outcome Token A). farther (Err d) o) (O.complete a rest fits.0 stop none)

  -- ---- which is tried first makes no difference

  swapped : (ts : List Token) (r s : Outcome Token A) → decl ts ≡ r → other ts ≡ s → farther s r ≡ farther r s
  swapped ts (Ok (a, x)) (Ok (b, y)) e f = absurd (elim (cut (tokens a) x (tokens b) y (sym (D.sound ts a x e).1 ∙ (one_sound O ts b y f).1)) as (λ _. ⊥) [
    | same u v ↦ never_both a b (D.sound ts a x e).0 (one_sound O ts b y f).0 u
    | longer s z u v ↦ over_decl a s z (D.sound ts a x e).0 (subst other_front u (one_whole O b (one_sound O ts b y f).0))
    | shorter s z u v ↦ over_other b s z (one_sound O ts b y f).0 (subst decl_front u (D.whole a (D.sound ts a x e).0))
  ])
  swapped ts (Ok x) (Err y) e f = refl
  swapped ts (Err x) (Ok y) e f = refl
  swapped ts (Err d) (Err x) e f =
      let k = D.fault ts d e in
      let u = one_fault O ts x f in
      either_order ts d x k.0 u.0 (ltb (length d) (length x)) (ltb (length x) (length d)) refl refl k.1 u.1

  -- where no declaration begins, none is tried
  other_only : (ts : List Token) (s : Outcome Token A) → other ts ≡ s → farther (Err ts) s ≡ s
  other_only ts (Ok y) f = refl
  other_only ts (Err e) f = let u = one_fault O ts e f in last_of ts e u.0 (ltb (length ts) (length e)) refl u.1

  abbrev reader : (List Token → Bool) → Reader Token A
  reader calls = either (starts class_of first) (either calls (tried other decl) (tried decl other)) other

  by_tests : (ts : List Token) (c m : Bool) → starts class_of first ts ≡ c → (if c then (if m then tried other decl ts else tried decl other ts) else other ts) ≡ tried decl other ts
  by_tests ts true true e = swapped ts (decl ts) (other ts) refl refl
  by_tests ts true false e = refl
  by_tests ts false m e = sym (other_only ts (other ts) refl) ∙ sym (ap (λ (o : Outcome Token A). farther o (other ts)) (refused D ts e))

  pub unlabelled_begun : (calls : List Token → Bool) → ReadsBegun (either (starts class_of first) (either calls (tried other decl) (tried decl other)) other)
      (rather (record { spelling = tokens; Fits = DeclFits; front = decl_front }) (record { spelling = tokens; Fits = OtherFits; front = other_front })) (first ++ codes) level still
  unlabelled_begun calls = record {
    laws = reread (refit (tried_laws decl_laws O.laws pair_over_decl (λ x t ts fits f. pair_over_other x.0 x.1 t ts fits.0 f)) forth back)
        (λ ts. ap (λ (o : Outcome Token A). and_then o tail) (by_tests ts (starts class_of first ts) (calls ts) refl) ∙ both_begun level (decl ts) (other ts));
    complete = λ a rest fits stop none. by_tests (tokens a ++ rest) (starts class_of first (tokens a ++ rest)) (calls (tokens a ++ rest)) refl ∙ complete a rest fits stop none;
  }
