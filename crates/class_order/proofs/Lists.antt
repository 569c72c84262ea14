-- Lists that grow at their end, and marks that are set.
use Rattle.std.proofs.Common.{◌≡◌, ℕ, zero, suc, ◌<◌, ◌+◌, ◌-◌, List, [], ◌∷◌, ◌++◌, ◌⊎◌, inl, inr, refl, sym, ap, ◌∙◌, arith, length, get_or, set, replicate, get_or-set_same, get_or-set_other, subst as transport}
use Rattle.std.proofs.lemmas.Bool.{cases_eq}
use Rattle.std.proofs.lemmas.List.{length-append, get_or_append_left, get_or_at}
use Rattle.std.proofs.lemmas.Option.{slice_get_read}
use Rattle.class_order.specs.declared.header.Header.{Header}
use Rattle.class_order.specs.declared.walk.Mark.{Mark}
use Rattle.class_order.specs.declared.walk.Mark.TheVariants.{New, Open, Done}
use Rattle.class_order.specs.declared.walk.Frame.{Frame}
use Rattle.class_order.specs.Order.{above, above_in}
use Rattle.class_order.specs.Walk.{mark_of, IsTouched, share, untouched, waiting}

pub push_lt : {A : Type 0} (xs : List A) (x : A) (i : ℕ) → i < length xs → i < length (xs ++ x ∷ [])
push_lt xs x i h = omega (arith, h, length-append xs (x ∷ []))

pub push_top : {A : Type 0} (xs : List A) (x : A) → length xs < length (xs ++ x ∷ [])
push_top xs x = omega (arith, length-append xs (x ∷ []))

pub push_cases : {A : Type 0} (xs : List A) (x : A) (i : ℕ) → i < length (xs ++ x ∷ []) → (i < length xs) ⊎ (i ≡ length xs)
push_cases xs x i h =
    elim (cases_eq i (length xs)) [ inl q ↦ inr q | inr n ↦ inl (omega (arith, h, n, length-append xs (x ∷ []))) ]

-- what holds at each place of a list and of an element that is put behind it
pub push_all : {A : Type 0} (P : ℕ → A → Type 0) (xs : List A) (x d : A) → ((i : ℕ) → i < length xs → P i (get_or xs i d)) → P (length xs) x → (i : ℕ) → i < length (xs ++ x ∷ []) → P i (get_or (xs ++ x ∷ []) i d)
push_all P xs x d all last i h =
    elim (push_cases xs x i h) [
      | inl l ↦ transport (P i) (sym (get_or_append_left xs (x ∷ []) d i l)) (all i l)
      | inr q ↦ transport (λ z. P z (get_or (xs ++ x ∷ []) z d)) (sym q) (transport (P (length xs)) (sym (get_or_at xs x [] d (length xs) refl)) last)
    ]

pub mark_same : (ms : List Mark) (d : ℕ) (m : Mark) → d < length ms → mark_of (set ms d m) d ≡ m
mark_same ms d m h = get_or-set_same ms d m New h

-- a mark other than the one that is overwritten stays
pub keep : (ms : List Mark) (c e : ℕ) (m x : Mark) → (mark_of ms c ≡ x → ⊥) → mark_of ms e ≡ x → mark_of (set ms c m) e ≡ x
keep ms c e m x ne h = get_or-set_other ms c e m New (λ q. ne (ap (mark_of ms) (sym q) ∙ h)) ∙ h

-- a mark that is found afterwards is the new one or was there before
pub back : (ms : List Mark) (c e : ℕ) (m x : Mark) → c < length ms → mark_of (set ms c m) e ≡ x → ((e ≡ c) × (m ≡ x)) ⊎ ((e ≡ c → ⊥) × (mark_of ms e ≡ x))
back ms c e m x l h =
    elim (cases_eq e c) [
      | inl q ↦ inl (q, sym (mark_same ms c m l) ∙ ap (mark_of (set ms c m)) (sym q) ∙ h)
      | inr n ↦ inr (n, sym (get_or-set_other ms c e m New n) ∙ h)
    ]

pub untouched_set : (ms : List Mark) (hs : List Header) (d : ℕ) (m : Mark) → d < length ms → d < length hs
    → untouched (set ms d m) hs + share (mark_of ms d) (length (above hs d)) ≡ untouched ms hs + share m (length (above hs d))
untouched_set [] hs d m l k = absurd (omega (arith, l))
untouched_set (x ∷ ms) [] d m l k = absurd (omega (arith, k))
untouched_set (x ∷ ms) (h ∷ hs) zero m l k = omega arith
untouched_set (x ∷ ms) (h ∷ hs) (suc d) m l k =
    let r = untouched_set ms hs d m (omega (arith, l)) (omega (arith, k)) in
    omega (arith, r)

pub done_same : (a b : ℕ) → Done a ≡ Done b → a ≡ b
done_same a b h = cc

pub open_same : (a b : ℕ) → Open a ≡ Open b → a ≡ b
open_same a b h = cc

pub open_done : (a b : ℕ) → Open a ≡ Done b → ⊥
open_done a b h = cc

pub new_done : (b : ℕ) → New ≡ Done b → ⊥
new_done b h = cc

pub new_open : (b : ℕ) → New ≡ Open b → ⊥
new_open b h = cc

pub touched_set : (ms : List Mark) (c d : ℕ) (m : Mark) → c < length ms → (m ≡ New → ⊥) → IsTouched ms d → IsTouched (set ms c m) d
touched_set ms c d m l n t h = elim (back ms c d m New l h) [ inl p ↦ n p.1 | inr p ↦ t p.1 ]

pub waiting_push : (hs : List Header) (fs : List Frame) (f : Frame) → waiting hs (fs ++ f ∷ []) ≡ waiting hs fs + (1 + (length (above hs f.class) - f.next))
waiting_push hs [] f = omega arith
waiting_push hs (x ∷ fs) f = omega (arith, waiting_push hs fs f)

pub header_at : (hs : List Header) (d : ℕ) (h : Header) → d < length hs → h ≡ get_or hs d h → above hs d ≡ h.above.items
header_at hs d h l is = ap above_in (slice_get_read hs (length hs) d h refl l is)

pub fresh : (n d : ℕ) → mark_of (replicate n New) d ≡ New
fresh zero d = refl
fresh (suc n) zero = refl
fresh (suc n) (suc d) = fresh n d
