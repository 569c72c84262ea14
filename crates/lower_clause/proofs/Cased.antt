-- What fits no case.
use Rattle.std.proofs.Common.{◌≡◌, ℕ, Bool, false, refl}
use Rattle.translation.specs.Statements as s

pub fits_no_literal : (kind : s.CaseKind) → s.fits_case kind s.no_literal ≡ false
fits_no_literal s.no_kind = refl
fits_no_literal s.integers = refl
fits_no_literal s.strings = refl

pub fits_null : (kind : s.CaseKind) → s.fits_case kind s.a_null ≡ false
fits_null s.no_kind = refl
fits_null s.integers = refl
fits_null s.strings = refl

pub fits_bool : (kind : s.CaseKind) (value : Bool) → s.fits_case kind (s.a_bool value) ≡ false
fits_bool s.no_kind value = refl
fits_bool s.integers value = refl
fits_bool s.strings value = refl

pub fits_negative : (kind : s.CaseKind) (n : ℕ) → s.fits_case kind (s.a_negative n) ≡ false
fits_negative s.no_kind n = refl
fits_negative s.integers n = refl
fits_negative s.strings n = refl

pub ruleset fitting = (fits_no_literal, fits_null, fits_bool, fits_negative)
