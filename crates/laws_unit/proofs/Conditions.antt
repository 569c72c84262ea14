-- The law of a reader that is asked only where a condition holds.
use Rattle.std.proofs.Common.{◌≡◌, ℕ, Bool, true, false, List, [], ◌⊎◌, inl, inr, refl, sym, subst}
use Rattle.dart_token.specs.declared.token.Token.{Token}
use Rattle.grammar_laws.specs.Readers.{Reader}
use Rattle.grammar_laws.specs.Fronts.{Front}
use Rattle.grammar_laws.specs.Laws.{Laws}
use Rattle.grammar_laws.proofs.Codes.{clash, within_self}
use Rattle.grammar_laws.proofs.Restated.{restated, nothing_laws}
use Rattle.token_codes.specs.Codes.{class_of}
use Rattle.syntax_readers.specs.Combinators.{only_if}

abbrev pub GivenFit : {A : Type 0} → Bool → (A → Type 0) → A → Type 0
GivenFit b Fits a = (b ≡ true) × Fits a

abbrev pub given_front : Bool → Front Token → Front Token
given_front b front ts = (ts ≡ []) ⊎ ((b ≡ true) × front ts)

module _ {A : Type 0} {p : Reader Token A} {spell : A → List Token} {Fits : A → Type 0} {front : Front Token} {first : List ℕ} {next : A → List ℕ} {e : Bool} (P : Laws class_of p spell Fits front first next e) where
  opened : (ts : List Token) → given_front true front ts → front ts
  opened ts (inl is) = subst front (sym is) P.none
  opened ts (inr f) = f.1

  shut : (ts : List Token) → given_front false front ts → ts ≡ []
  shut ts (inl is) = is
  shut ts (inr f) = clash false f.0 refl

  pub only_laws : (b : Bool) → Laws class_of (only_if b p) spell (GivenFit b Fits) (given_front b front) first next e
  only_laws true = restated P (λ a fits. (refl, fits)) (λ a fits. fits.1) (λ ts f. inr (refl, f)) opened (within_self first) (λ a fits. within_self (next a)) (λ h. h)
  only_laws false = restated (nothing_laws {class_of = class_of} spell first next e) (λ a no. absurd no) (λ a fits. clash false fits.0 refl) (λ ts is. inl is) shut (within_self first) (λ a no. absurd no) (λ h. h)
