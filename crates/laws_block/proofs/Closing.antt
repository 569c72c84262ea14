-- The law of a statement and what stands behind it, where a part of a `try` that was begun and isn't whole is a fault of both.
use Rattle.std.proofs.Common.{◌≡◌, ℕ, ◌+◌, ◌-◌, Bool, true, false, if◌then◌else◌, inl, inr, List, [], ◌∷◌, ◌++◌, length, Option, None, Some, Ok, Err, refl, sym, ap, ◌∙◌, ltb, arith}
use Rattle.std.proofs.lemmas.Bool.{ltb-true, ltb-false}
use Rattle.std.proofs.lemmas.List.{append-nil, length-append}
use Rattle.dart_token.specs.declared.token.Token.{Token}
use Rattle.grammar_laws.specs.Codes.{Apart, is_empty}
use Rattle.grammar_laws.specs.Readers.{Outcome, Reader, both_by, both, mapped, checked, starts, farther, tried}
use Rattle.grammar_laws.specs.Fronts.{Joint, both_spelling, BothFit, BothFitBy, GoodFit}
use Rattle.grammar_laws.specs.Readers.{always}
use Rattle.grammar_laws.specs.Laws.{Laws, Stuck}
use Rattle.grammar_laws.proofs.Codes.{apart_none, apart_union, within_self}
use Rattle.grammar_laws.proofs.Cuts.{gave, same_value, same_rest}
use Rattle.grammar_laws.proofs.Restated.{checked_laws, mapped_laws, refront}
use Rattle.grammar_laws.proofs.Combined.{both_laws}
use Rattle.dart_syntax.specs.Phrases.{Phrase, ◌~◌}
use Rattle.token_codes.specs.Codes.{class_of, on_code}
use Rattle.token_codes.specs.Reads.{Reads}
use Rattle.syntax_readers.specs.Combinators.{halting}
use Rattle.syntax_readers.specs.Types.{type_reader}
use Rattle.syntax_readers.specs.Statements.{on_type, behind_try}
use Rattle.laws_block.specs.Begun.{begun, Begins, on_codes, after_begun, room, ReadsBegun}
use Rattle.laws_block.proofs.Begun.{refused, halts, begins_none, begins_on}
use Rattle.laws_block.proofs.Combined.{stops_apart}

-- ---- a tree with nothing begun behind it, and what stands there

module _ {A B : Type 0} {read : Reader Token A} {p : Phrase A} {first : List ℕ} {level : A → Option ℕ} {still : A → List ℕ} (S : ReadsBegun read p first level still)
    {q : Reader Token B} {r : Phrase B} {codes : List ℕ} {next : B → List ℕ} (Q : Reads q r codes next false)
    (off : (a : A) → p.Fits a → Apart (still a) codes) (on_off : Apart (on_code ∷ []) codes) where
  abbrev pairs : Reader Token (A × List Token)
  pairs = both_by read (λ a. begun (level a))

  abbrev PairFits : A × List Token → Type 0
  PairFits = BothFitBy p.Fits (λ a. Begins (level a))

  abbrev spell : A × List Token → List Token
  spell = both_spelling p.spelling (λ m. m)

  abbrev none_begun : A × List Token → Bool
  none_begun x = is_empty x.1

  abbrev of : A → List Token → A × List Token
  of a m = (a, m)

  on_apart : (o : Option ℕ) → Apart (on_codes o) codes
  on_apart None = apart_none codes
  on_apart (Some n) = on_off

  pair_apart : (a : A) (m : List Token) → p.Fits a → is_empty m ≡ true → Apart (after_begun (level a) (still a) m) codes
  pair_apart a [] fits e = apart_union (off a fits) (on_apart (level a))
  pair_apart a (t ∷ m) fits e = absurd cc

  abbrev shape : (A × List Token) × B → A × B
  shape x = (x.0.0, x.1)

  -- both, told by the tokens behind the first
  abbrev pub closing : Reader Token (A × B)
  closing = mapped shape (both (checked none_begun pairs) q)

  parts_laws : Laws class_of (both (checked none_begun pairs) q) (both_spelling spell r.spelling) (BothFit (GoodFit PairFits none_begun) r.Fits) (Joint spell (GoodFit PairFits none_begun) always p.front r.front) first (λ x. next x.1) false
  parts_laws = both_laws (checked_laws S.laws none_begun) Q (λ x fits. pair_apart x.0 x.1 fits.0.0 fits.1)

  said_by : (a : A) (m : List Token) (b : B) → is_empty m ≡ true → p.spelling a ++ r.spelling b ≡ (p.spelling a ++ m) ++ r.spelling b
  said_by a [] b e = ap (λ (l : List Token). l ++ r.spelling b) (sym (append-nil (p.spelling a)))
  said_by a (t ∷ m) b e = absurd cc

  out : (ts : List Token) → Joint spell (GoodFit PairFits none_begun) always p.front r.front ts → (p ~ r).front ts
  out ts (inl f) = inl f
  out ts (inr ((a, []), more, fits, on, e, f)) = inr (a, more, fits.0.0, refl, e ∙ ap (λ (m : List Token). m ++ more) (append-nil (p.spelling a)), f)
  out ts (inr ((a, (t ∷ m)), more, fits, on, e, f)) = absurd (filled fits.1) where
    filled : false ≡ true → ⊥
    filled e = cc

  into : (ts : List Token) → (p ~ r).front ts → Joint spell (GoodFit PairFits none_begun) always p.front r.front ts
  into ts (inl f) = inl f
  into ts (inr (a, more, fits, on, e, f)) = inr (of a [], more, ((fits, begins_none (level a)), refl), refl, e ∙ ap (λ (m : List Token). m ++ more) (sym (append-nil (p.spelling a))), f)

  pub closing_laws : Reads closing (p ~ r) first (λ x. next x.1) false
  closing_laws = refront (mapped_laws parts_laws shape (p ~ r).spelling {Fits_q = (p ~ r).Fits} (λ x. next x.1) (λ x fits. ((fits.0.0.0, fits.1), said_by x.0.0 x.0.1 x.1 fits.0.1, within_self _))
      (λ y fits. ((of y.0 [], y.1), (((fits.0, begins_none (level y.0)), refl), fits.1), refl))) out into

-- ---- what is read behind a statement in such a place

module _ (n : ℕ) {B : Type 0} {q : Reader Token B} {r : Phrase B} {codes : List ℕ} {next : B → List ℕ} (Q : Reads q r codes next false) (on_off : Apart codes (on_code ∷ [])) where
  abbrev only_where : Bool → Reader Token B
  only_where c rest = if c then q rest else Err rest

  -- of two faults the one that is no earlier
  abbrev later : Bool → List Token → List Token → Outcome Token B
  later c d e = if c then Err d else Err e

  only_second : (ts : List Token) (o : Outcome Token B) → q ts ≡ o → farther (Err ts) o ≡ o
  only_second ts (Ok x) e = refl
  only_second ts (Err d) e = at (Q.fault ts d e) where
    at : Stuck r.front ts d → later (ltb (length ts) (length d)) ts d ≡ Err d
    at k = kept (ltb (length ts) (length d)) refl where
      kept : (c : Bool) → ltb (length ts) (length d) ≡ c → later c ts d ≡ Err d
      kept false h = refl
      kept true h = absurd (omega (arith, ltb-true (length ts) (length d) h, ap length k.1, length-append k.0 d))

  first_later : (t : Token) (m ts rest : List Token) (c : Bool) → ltb (length rest) (length ts) ≡ c → ts ≡ (t ∷ m) ++ rest → later c rest ts ≡ Err rest
  first_later t m ts rest true h e = refl
  first_later t m ts rest false h e = absurd (omega (arith, ltb-false (length rest) (length ts) h, ap length e, length-append m rest))

  behind_by : (k : ℕ) (ts m rest : List Token) → begun (Some k) ts ≡ Ok (m, rest) → ts ≡ m ++ rest → Begins (Some k) m → tried (halting (on_type (type_reader k))) q ts ≡ only_where (is_empty m) rest
  behind_by k ts [] rest e is b = ap (λ (o : Outcome Token B). farther o (q ts)) (halts k ts [] rest e ∙ ap (λ (l : List Token). Err l) (sym is)) ∙ only_second ts (q ts) refl ∙ ap q is
  behind_by k ts (t ∷ m) rest e is b =
      let off : q ts ≡ Err ts = refused Q ts (stops_apart codes (on_code ∷ []) on_off ts (ap (starts class_of (on_code ∷ [])) is ∙ begins_on (Some k) t m b)) in
      ap (λ (o : Outcome Token B). farther o (q ts)) (halts k ts (t ∷ m) rest e) ∙ ap (λ (o : Outcome Token B). farther (Err rest) o) off ∙ first_later t m ts rest (ltb (length rest) (length ts)) refl is

  none_by : (ts m rest : List Token) → gave [] ts ≡ gave m rest → q ts ≡ only_where (is_empty m) rest
  none_by ts m rest e = ap q (same_rest [] m ts rest e) ∙ ap (λ (l : List Token). only_where (is_empty l) rest) (same_value [] m ts rest e)

  pub behind_is : (o : Option ℕ) (ts m rest : List Token) → begun (room n o) ts ≡ Ok (m, rest) → ts ≡ m ++ rest → Begins (room n o) m → behind_try n o q ts ≡ (if is_empty m then q rest else Err rest)
  behind_is None ts m rest e is b = none_by ts m rest e
  behind_is (Some above) ts m rest e is b = behind_by (n - (above + 1)) ts m rest e is b
