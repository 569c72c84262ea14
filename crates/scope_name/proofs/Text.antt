-- A text is a name where it is UTF-8.
use Rattle.std.proofs.Common.{◌≡◌, sym, ap, refl, ℕ, List, Bool, true, false, cond}
use Rattle.std.specs.Str.{is_utf8, IsUtf8}
use Rattle.std.proofs.lemmas.Str.{IsUtf8-from_is_utf8, is_utf8-from_IsUtf8}
use Rattle.dart_base.specs.Names.{interned}
use Rattle.scope_name.specs.Names.{with_text}

pub text-kept : (names : List (List ℕ)) (text : List ℕ) → ¬ (IsUtf8 text) → names ≡ with_text names text
text-kept names text invalid = sym (ap (λ (b : Bool). cond b (interned names text) names) (by (is_utf8 text) refl))
  where
    by : (b : Bool) → is_utf8 text ≡ b → is_utf8 text ≡ false
    by true e = absurd (invalid (IsUtf8-from_is_utf8 text e))
    by false e = e

pub text-added : (names : List (List ℕ)) (text : List ℕ) → IsUtf8 text → interned names text ≡ with_text names text
text-added names text valid = sym (ap (λ (b : Bool). cond b (interned names text) names) (is_utf8-from_IsUtf8 text valid))
