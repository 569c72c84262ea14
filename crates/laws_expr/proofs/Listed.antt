-- The law of a list between brackets: items with commas between them and perhaps one at the end, or none.
use Rattle.std.proofs.Common.{◌≡◌, ℕ, true, false, List, [], ◌∷◌, ◌++◌, Option, None, Some, inl, inr, refl, ap, sym, subst, ◌∙◌, append_assoc, flat_map}
use Rattle.std.specs.List.{AllByRecursion}
use Rattle.dart_base.specs.declared.place.Place.{Place}
use Rattle.dart_token.specs.declared.token.Token.{Token}
use Rattle.dart_token.specs.declared.sign.Sign.TheVariants as s
use Rattle.grammar_laws.specs.Codes.{Apart, Within}
use Rattle.grammar_laws.specs.Readers.{Reader, always, mapped, option, both, trailed}
use Rattle.grammar_laws.specs.Fronts.{Front, both_spelling, option_spelling, BothFit, OptionFit, GoesOn}
use Rattle.grammar_laws.specs.Laws.{Laws}
use Rattle.grammar_laws.proofs.Codes.{apart_none, apart_smaller, within_self, within_none, within_union, within_then, within_left, within_right}
use Rattle.grammar_laws.proofs.Restated.{mapped_laws, refront, wider}
use Rattle.grammar_laws.proofs.Combined.{both_any_laws}
use Rattle.grammar_laws.proofs.Followed.{option_plain_laws}
use Rattle.grammar_laws.proofs.Separated.{trailed_plain_laws}
use Rattle.dart_syntax.specs.Phrases.{Phrase, ◌~◌, perhaps, opt, made, Anything}
use Rattle.dart_syntax.specs.Leaves.{sign_tokens, commas}
use Rattle.dart_syntax.specs.Leaves as l
use Rattle.token_codes.specs.Codes.{class_of, these}
use Rattle.token_codes.specs.Leaves.{sign}
use Rattle.token_codes.specs.Reads.{Reads}
use Rattle.token_codes.proofs.Leaves.{sign_reads}

module _ {A L : Type 0} {item : Reader Token A} {p : Phrase A} {first : List ℕ} {next : A → List ℕ} (P : Reads item p first next false)
    (codes : List ℕ) (under : (a : A) → p.Fits a → Within (next a) codes) (off : Apart codes (these s.Comma))
    (tokens : L → List Token) (make : A × List (Place × A) → L) (empty : L) (empty_tokens : tokens empty ≡ [])
    (said : (x : A × List (Place × A)) → (commas p).Fits x → tokens (make x) ≡ (commas p).spelling x)
    (to : Option (A × (List (Place × A) × Option Place)) → L × Option Place) (to_none : to None ≡ (empty, None))
    (to_some : (x : A × (List (Place × A) × Option Place)) → to (Some x) ≡ (make (x.0, x.1.0), x.1.1)) where
  abbrev Listing : Phrase (L × Option Place)
  Listing = perhaps (empty, None) (made tokens make (commas p) ~ opt (l.sign s.Comma))

  -- the parts of a list, and what may go on behind them
  abbrev spelling : A × (List (Place × A) × Option Place) → List Token
  spelling x = p.spelling x.0 ++ (flat_map (both_spelling (sign_tokens s.Comma) p.spelling) x.1.0 ++ option_spelling (sign_tokens s.Comma) x.1.1)

  abbrev Fitting : A × (List (Place × A) × Option Place) → Type 0
  Fitting x = p.Fits x.0 × (AllByRecursion (BothFit Anything p.Fits) x.1.0 × OptionFit Anything x.1.1)

  abbrev begun : Front Token
  begun = (commas p).front

  abbrev behind : List ℕ
  behind = these s.Comma ++ (first ++ codes)

  parts_laws : Laws class_of (both item (trailed class_of (these s.Comma) first (sign s.Comma) item)) spelling Fitting begun first (λ x. behind) false
  parts_laws = wider (both_any_laws P (trailed_plain_laws (sign_reads s.Comma) P (λ place fits. apart_none first) {codes = behind} (within_left (these s.Comma) (first ++ codes)) (within_then (within_left first codes) (within_right (these s.Comma) (first ++ codes))) (λ place fits. within_none behind)
      (λ a fits. within_then (under a fits) (within_then (within_right first codes) (within_right (these s.Comma) (first ++ codes)))) (λ a fits. apart_smaller (under a fits) off)) (λ a fits. apart_smaller (under a fits) off))
      (within_union (within_self first) (within_none first)) (λ x fits. within_union (within_self behind) (within_then (under x.0 fits.0) (within_then (within_right first codes) (within_right (these s.Comma) (first ++ codes)))))

  spelt : (x : A × (List (Place × A) × Option Place)) → Fitting x → Listing.spelling (make (x.0, x.1.0), x.1.1) ≡ spelling x
  spelt x fits = ap (λ m. m ++ option_spelling (sign_tokens s.Comma) x.1.1) (said (x.0, x.1.0) (fits.0, fits.1.0)) ∙ append_assoc (p.spelling x.0) (flat_map (both_spelling (sign_tokens s.Comma) p.spelling) x.1.0) (option_spelling (sign_tokens s.Comma) x.1.1)

  forth : (x : Option (A × (List (Place × A) × Option Place))) → OptionFit Fitting x → Listing.Fits (to x) × (Listing.spelling (to x) ≡ option_spelling spelling x) × Within behind behind
  forth None fits = (inl to_none, ap Listing.spelling to_none ∙ ap (λ m. m ++ []) empty_tokens, within_self behind)
  forth (Some x) fits = (
    subst Listing.Fits (sym (to_some x)) (inr (((x.0, x.1.0), (fits.0, fits.1.0), refl), fits.1.1)),
    ap Listing.spelling (to_some x) ∙ spelt x fits,
    within_self behind,
  )

  back : (y : L × Option Place) → Listing.Fits y → (x : Option (A × (List (Place × A) × Option Place))) × OptionFit Fitting x × (to x ≡ y)
  back y (inl e) = (None, tt, to_none ∙ sym e)
  back y (inr (m, comma)) = (Some (m.0.0, (m.0.1, y.1)), (m.1.0, (m.1.1, comma)), to_some (m.0.0, (m.0.1, y.1)) ∙ ap (λ i. (i, y.1)) m.2)

  -- behind whole items one more comma begins an item
  one_more : (x : A × List (Place × A)) (more : List Token) → (commas p).Fits x → (l.sign s.Comma).front more → begun ((commas p).spelling x ++ more)
  one_more x more fits f = inr (x.0, flat_map (both_spelling (sign_tokens s.Comma) p.spelling) x.1 ++ more, fits.0, refl, append_assoc (p.spelling x.0) _ more, (x.1, more, all_go x.1 fits.1, refl, inl f)) where
    all_go : (all : List (Place × A)) → AllByRecursion (BothFit Anything p.Fits) all → AllByRecursion (GoesOn (BothFit Anything p.Fits) always) all
    all_go [] fits = tt
    all_go (a ∷ all) fits = ((fits.0, refl), all_go all fits.1)

  out : (ts : List Token) → begun ts → Listing.front ts
  out ts f = inr (inl f)

  into : (ts : List Token) → Listing.front ts → begun ts
  into ts (inl e) = subst begun (sym e) (inl P.none)
  into ts (inr (inl f)) = f
  into ts (inr (inr (i, more, m, on, e, f))) = subst begun (sym (e ∙ ap (λ n. tokens n ++ more) (sym m.2) ∙ ap (λ n. n ++ more) (said m.0 m.1))) (one_more m.0 more m.1 f)

  pub listing_laws : Laws class_of (mapped to (option class_of first (both item (trailed class_of (these s.Comma) first (sign s.Comma) item)))) Listing.spelling Listing.Fits Listing.front first (λ x. behind) true
  listing_laws = refront (mapped_laws (option_plain_laws parts_laws {codes = behind} (within_then (within_left first codes) (within_right (these s.Comma) (first ++ codes))) (λ x fits. within_self behind)) to Listing.spelling (λ x. behind) forth back) out into
