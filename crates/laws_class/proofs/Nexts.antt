-- One class is finished next.
use Rattle.std.proofs.Common.{◌≡◌, ℕ, ◌<◌, inl, inr, List, length, get_or, refl, subst as transport}
use Rattle.std.proofs.lemmas.Bool.{cases_order}
use Rattle.class_order.specs.declared.header.Header.{Header}
use Rattle.class_order.specs.Order.{above, Descends, here, down, IsNext}

module _ (hs : List Header) (P : ℕ → Type 0) where
  -- everything that the header names is finished
  abbrev pub IsReady : ℕ → Type 0
  IsReady d = (k : ℕ) → k < length (above hs d) → P (get_or (above hs d) k 0)

  descends_one : (a d e : ℕ) → IsReady d → IsReady e → Descends hs P a d → Descends hs P a e → d ≡ e
  descends_one _ _ _ f g (here d) (here _) = refl
  descends_one _ _ _ f g (here d) (down _ k e l h n r) = absurd (n (f k l))
  descends_one _ _ _ f g (down d k e l h n r) (here _) = absurd (n (g k l))
  descends_one _ _ _ f g (down d k e l h n r) (down _ j b m i o s) = elim (cases_order j k) [
    | inl q ↦ descends_one _ e b f g r (transport (λ z. Descends hs P (get_or (above hs d) z 0) b) q s)
    | inr t ↦ elim t [ inl u ↦ absurd (o (h j u)) | inr u ↦ absurd (n (i k u)) ]
  ]

  pub next_one : (d e : ℕ) → IsReady d → IsReady e → IsNext hs P d → IsNext hs P e → d ≡ e
  next_one d e f g a b = elim (cases_order b.root a.root) [
    | inl q ↦ descends_one a.root d e f g a.descends (transport (λ z. Descends hs P z e) q b.descends)
    | inr t ↦ elim t [ inl u ↦ absurd (b.new (a.first b.root u)) | inr u ↦ absurd (a.new (b.first a.root u)) ]
  ]
