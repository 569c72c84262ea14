-- The last brace outside all brackets stands within the list, and what is cut before it goes on as the list does.
use Rattle.std.proofs.Common.{◌≡◌, ℕ, zero, suc, ◌-◌, ◌≤◌, ◌<◌, arith, Bool, true, false, List, [], ◌∷◌, ◌++◌, length, take, drop, Option, None, Some, refl, sym, ap, ◌∙◌, append_assoc}
use Rattle.std.proofs.lemmas.List.{length-append, length-take-le, take-append-drop, drop_at}
use Rattle.dart_token.specs.declared.token.Token.{Token}
use Rattle.token_codes.specs.Codes.{class_of}
use Rattle.syntax_readers.specs.Combinators.{open_behind}
use Rattle.laws_unit.specs.Mending.{is_free, or_here, last_brace}

pub some_is : (j k : ℕ) (o : Option ℕ) → o ≡ Some j → o ≡ Some k → j ≡ k
some_is j k o e f = let both_some : Some j ≡ Some k = sym e ∙ f in cc

pub none_some : (k : ℕ) (o : Option ℕ) → o ≡ None → o ≡ Some k → ⊥
none_some k None e f = absurd cc
none_some k (Some j) e f = absurd cc

pub within_by : (o : Option ℕ) (free : Bool) (len : ℕ) → ((i : ℕ) → o ≡ Some i → i < len) → (j : ℕ) → or_here o free ≡ Some j → j < suc len
within_by (Some i) free len below j e = let is : suc i ≡ j = cc in omega (arith, is, below i refl)
within_by None true len below j e = let is : 0 ≡ j = cc in omega (arith, is)
within_by None false len below j e = absurd cc

pub last_within : (depth k : ℕ) (ts : List Token) (j : ℕ) → last_brace depth k ts ≡ Some j → j < length ts
last_within depth zero ts j e = absurd cc
last_within depth (suc k) [] j e = absurd cc
last_within depth (suc k) (u ∷ ts) j e = within_by (last_brace (open_behind depth (class_of u)) k ts) (is_free depth u) (length ts) (λ i h. last_within (open_behind depth (class_of u)) k ts i h) j e

pub cut_place : (before left ts g : List Token) (k : ℕ) → k ≤ length ts → take k ts ≡ before ++ left → drop (k - length left) ts ≡ g → ts ≡ before ++ g
cut_place before left ts g k le is at =
    let list : ts ≡ before ++ (left ++ drop k ts) = sym (take-append-drop k ts) ∙ ap (λ (m : List Token). m ++ drop k ts) is ∙ append_assoc before left (drop k ts) in
    let size : length before ≡ k - length left = omega (arith, length-take-le k ts le, ap length is, length-append before left) in
    let rest : g ≡ left ++ drop k ts = sym at ∙ ap (drop (k - length left)) list ∙ drop_at before (left ++ drop k ts) (k - length left) size in
    list ∙ ap (λ (m : List Token). before ++ m) (sym rest)
