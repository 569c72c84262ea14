-- Texts, and the names that they have in a library.
use Rattle.std.proofs.Common.{◌≡◌, ◌∙◌, ℕ, ◌++◌, ◌↔◌, Bool, true, false, cond, true≢false, List, Option, Some, None, is_some, refl, sym, ap}
use Rattle.std.proofs.lemmas.List.{append_cancel_right}
use Rattle.std.proofs.lemmas.Option.{same_Some}
use Rattle.scope_declared.specs.Number.{is_private}
use Rattle.scope_dictionary.specs.Written.{named}

-- the name of a private text, and of another
pub named-private : (suffix text : List ℕ) → is_private text ≡ true → named suffix text ≡ text ++ suffix
named-private suffix text h = ap (λ b. cond b (text ++ suffix) text) h

pub named-open : (suffix text : List ℕ) → is_private text ≡ false → named suffix text ≡ text
named-open suffix text h = ap (λ b. cond b (text ++ suffix) text) h

-- what a private name is of, is private and stands before the suffix
pub before-suffix : (suffix text name : List ℕ) → is_private name ≡ true → named suffix text ≡ name → name ≡ text ++ suffix
before-suffix suffix text name private same = by (is_private text) refl
  where
    by : (b : Bool) → is_private text ≡ b → name ≡ text ++ suffix
    by true e = sym same ∙ named-private suffix text e
    by false e = absurd (true≢false (sym private ∙ ap is_private (sym same ∙ named-open suffix text e) ∙ e))

-- a private name that is a private text before the suffix is that text's alone
pub written-private : (suffix found name : List ℕ) → is_private name ≡ true → is_private found ≡ true → name ≡ found ++ suffix
    → (text : List ℕ) → named suffix text ≡ name ↔ Some found ≡ Some text
written-private suffix found name private inner parts text = (
  λ same. ap Some (append_cancel_right found text suffix (sym parts ∙ before-suffix suffix text name private same)),
  λ same. ap (named suffix) (sym (same_Some found text same)) ∙ named-private suffix found inner ∙ sym parts,
)

-- a private name without the suffix is no text's
pub written-missing : (suffix name : List ℕ) → is_private name ≡ true → ((front : List ℕ) → name ≡ front ++ suffix → ⊥)
    → (text : List ℕ) (found : Option (List ℕ)) → found ≡ None → named suffix text ≡ name ↔ found ≡ Some text
written-missing suffix name private lacks text found none = (
  λ same. absurd (lacks text (before-suffix suffix text name private same)),
  λ some. absurd (true≢false (ap is_some (sym some ∙ none))),
)
