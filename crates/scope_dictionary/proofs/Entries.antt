-- Tables that find their entries by texts.
use Rattle.std.proofs.Common.{◌≡◌, ◌∙◌, ℕ, Bool, true, false, List, Some, ◌⊎◌, inl, inr, true≢false, bytes_eq, refl, sym, subst}
use Rattle.std.specs.Prelude.{nat_eq}
use Rattle.std.specs.Cmp.Lexicographic.{pointwise, bytes_decides, nat_list_eq_equiv}
use Rattle.std.specs.Global.{Vec}
use Rattle.std.specs.HashMap.{HashMap, UpdatesBy}
use Rattle.std.specs.Map.{lookup, IsKeyTest, AreApart, KeepsOthers}
use Rattle.scope_dictionary.specs.Entries.{at_text}

apart : (text other key : List ℕ) → bytes_eq text other ≡ false → bytes_eq text key ≡ true → bytes_eq other key ≡ false
apart text other key differs same = nat_list_eq_equiv.symm other key ∙ sym (nat_list_eq_equiv.congr text key other same) ∙ differs

other_entries : {K X : Type 0} (eq : K → K → Bool) (test : K → Bool) (old new : List (K × X)) → KeepsOthers eq test old new
    → (other : K → Bool) → IsKeyTest eq other → AreApart test other → lookup other new ≡ lookup other old
unfolding KeepsOthers
other_entries eq test old new h = h

differ : (text other : List ℕ) → (text ≡ other → ⊥) → bytes_eq text other ≡ false
differ text other apart = by (bytes_eq text other) refl
  where
    by : (b : Bool) → bytes_eq text other ≡ b → bytes_eq text other ≡ false
    by true e = absurd (apart ((bytes_decides text other).0 e))
    by false e = e

-- two texts are the same or not
pub same-or-not : (text other : List ℕ) → (text ≡ other) ⊎ (text ≡ other → ⊥)
same-or-not text other = by (bytes_eq text other) refl
  where
    by : (b : Bool) → bytes_eq text other ≡ b → (text ≡ other) ⊎ (text ≡ other → ⊥)
    by true e = inl ((bytes_decides text other).0 e)
    by false e = inr (λ same. true≢false (sym ((bytes_decides text other).1 same) ∙ e))

module _ {X S : Type 0} (key : Vec ℕ) (old new : HashMap (Vec ℕ) X S) (value : X) (text : List ℕ)
    (is : key.items ≡ text) (updates : UpdatesBy (λ x y. pointwise nat_eq x.items y.items) (λ k. pointwise nat_eq key.items k.items) old new (Some value)) where
  -- an entry that was put is found
  pub put-here : (other : List ℕ) → text ≡ other → at_text new other ≡ Some value
  put-here other same = subst (λ t. at_text new t ≡ Some value) (is ∙ same) updates.1

  -- and what stood under another text stays
  pub put-apart : (other : List ℕ) → (text ≡ other → ⊥) → at_text new other ≡ at_text old other
  put-apart other differs =
      other_entries (λ x y. pointwise nat_eq x.items y.items) (λ k. pointwise nat_eq key.items k.items) old.entries new.entries updates.3 (λ k. bytes_eq other k.items)
      (λ x y. nat_list_eq_equiv.congr other x.items y.items)
      (λ k. apart key.items other k.items (differ key.items other (λ e. differs (sym is ∙ e))))
