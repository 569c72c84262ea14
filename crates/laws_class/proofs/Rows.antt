-- A graph has one list of rows, and its classes one number each.
use Rattle.std.proofs.Common.{◌≡◌, ℕ, zero, suc, ◌<◌, ◌≤◌, ◌+◌, ◌-◌, inl, inr, List, length, get_or, arith, refl, sym, ap, ◌∙◌, subst as transport}
use Rattle.std.proofs.lemmas.Bool.{cases_order, cases_eq}
use Rattle.std.proofs.lemmas.List.{ext_get_or}
use Rattle.class_order.specs.declared.header.Header.{Header}
use Rattle.class_order.specs.declared.rows.Row.{Row}
use Rattle.class_order.specs.Order.{above, AreListed, IsNext}
use Rattle.class_order.specs.Rows.{applications, row_at, AreRows}
use Rattle.class_order.proofs.Next.{next_same}
use Rattle.laws_class.proofs.Nexts.{next_one}

abbrev pub Below : List ℕ → ℕ → ℕ → Type 0
Below ns c e = get_or ns e 0 < c

module _ (hs : List Header) (named : AreListed hs) (rs : List Row) (ns : List ℕ) (a : AreRows hs rs ns) where
  pub own_within : (e : ℕ) → e < length hs → get_or ns e 0 < length rs
  own_within e l = a.within e (applications hs e) (get_or ns e 0) l (omega arith) refl

  pub own_class : (e : ℕ) → e < length hs → (row_at rs (get_or ns e 0)).class ≡ e
  own_class e l = a.class e (applications hs e) (get_or ns e 0) l (omega arith) refl

  pub own_step : (e : ℕ) → e < length hs → (row_at rs (get_or ns e 0)).step ≡ applications hs e
  own_step e l = a.step e (applications hs e) (get_or ns e 0) l (omega arith) refl

  -- the number of a class is the place of its own row
  pub number_is : (c e : ℕ) → c < length rs → (row_at rs c).class ≡ e → (row_at rs c).step ≡ applications hs e → get_or ns e 0 ≡ c
  number_is c e l q t =
      let h = a.place c l in
      let m : applications hs (row_at rs c).class ≡ applications hs e = ap (applications hs) q in
      let n : get_or ns (row_at rs c).class 0 ≡ get_or ns e 0 = ap (λ z. get_or ns z 0) q in
      omega (arith, h, m, n, t)

  -- the row behind that of an application is the next of the same class
  pub behind : (c d s : ℕ) → c < length rs → (row_at rs c).class ≡ d → (row_at rs c).step ≡ s → s < applications hs d
      → (c + 1 < length rs) × ((row_at rs (c + 1)).class ≡ d) × ((row_at rs (c + 1)).step ≡ s + 1)
  behind c d s l q t u =
      let h = a.place c l in
      let m : applications hs (row_at rs c).class ≡ applications hs d = ap (applications hs) q in
      let n : get_or ns (row_at rs c).class 0 ≡ get_or ns d 0 = ap (λ z. get_or ns z 0) q in
      let e : c + 1 + applications hs d ≡ get_or ns d 0 + (s + 1) = omega (arith, h, m, n, t) in
      let i : d < length hs = transport (λ z. z < length hs) q (a.listed c l) in
      let w : s + 1 ≤ applications hs d = omega (arith, u) in
      (a.within d (s + 1) (c + 1) i w e, a.class d (s + 1) (c + 1) i w e, a.step d (s + 1) (c + 1) i w e)

  -- the row before another than a class's first is of the same class
  pub before : (c : ℕ) → c < length rs → 0 < (row_at rs c).step
      → (0 < c) × ((row_at rs (c - 1)).class ≡ (row_at rs c).class) × ((row_at rs (c - 1)).step + 1 ≡ (row_at rs c).step)
  before c l y =
      let d = (row_at rs c).class in
      let i = a.listed c l in
      let h = a.place c l in
      let low = a.low d i in
      let top = a.steps c l in
      let w : (row_at rs c).step - 1 ≤ applications hs d = omega (arith, top) in
      let e : (c - 1) + applications hs d ≡ get_or ns d 0 + ((row_at rs c).step - 1) = omega (arith, h, low, y) in
      let t = a.step d ((row_at rs c).step - 1) (c - 1) i w e in
      (omega (arith, h, low, y), a.class d ((row_at rs c).step - 1) (c - 1) i w e, omega (arith, t, y))

  -- a class's first row
  module _ (c : ℕ) (l : c < length rs) (z : (row_at rs c).step ≡ 0) where
    abbrev d : ℕ
    d = (row_at rs c).class

    pub first_low : c ≤ get_or ns d 0
    first_low = let h = a.place c l in omega (arith, h, z)

    -- a class with a smaller number stands before it
    stands_before : (e : ℕ) → e < length hs → Below ns (get_or ns d 0) e → Below ns c e
    stands_before e i h = elim (cases_order (get_or ns e 0) c) [
      | inl q ↦ other e i h (omega (arith, q))
      | inr t ↦ elim t [ inl u ↦ u | inr u ↦ other e i h (omega (arith, u)) ]
    ]
      where
        other : (e : ℕ) → e < length hs → get_or ns e 0 < get_or ns d 0 → c ≤ get_or ns e 0 → Below ns c e
        other e i h u =
            let p = a.place c l in
            let w : get_or ns e 0 - c ≤ applications hs d = omega (arith, p, h, z) in
            let q : get_or ns e 0 + applications hs d ≡ get_or ns d 0 + (get_or ns e 0 - c) = omega (arith, p, u, z) in
            let r : e ≡ d = sym (own_class e i) ∙ a.class d (get_or ns e 0 - c) (get_or ns e 0) (a.listed c l) w q in
            let s : get_or ns e 0 ≡ get_or ns d 0 = ap (λ x. get_or ns x 0) r in
            absurd (omega (arith, h, s))

    pub first_next : IsNext hs (Below ns c) d
    first_next =
        next_same hs named (Below ns (get_or ns d 0)) (Below ns c) stands_before
        (λ e i h. let q = first_low in omega (arith, h, q)) d (a.next d (a.listed c l))

    pub first_ready : (k : ℕ) → k < length (above hs d) → Below ns c (get_or (above hs d) k 0)
    first_ready k m = let h = a.after d k (a.listed c l) m in let p = a.place c l in omega (arith, h, p, z)

abbrev pub Agree : List Row → List Row → ℕ → Type 0
Agree rs ts c = (i : ℕ) → i < c → row_at rs i ≡ row_at ts i

row_eq : (x y : Row) → x.class ≡ y.class → x.step ≡ y.step → x ≡ y
row_eq x y p q =
    let of : ℕ → ℕ → Row = λ c s. record { class = c; step = s } in
    ap (λ c. of c x.step) p ∙ ap (λ s. of y.class s) q

module _ (hs : List Header) (named : AreListed hs) (rs ts : List Row) (ns ms : List ℕ) (a : AreRows hs rs ns) (b : AreRows hs ts ms)
    (c : ℕ) (same : Agree rs ts c) (long : c ≤ length ts) where
  -- a class whose row is among the first has the same number
  pub same_number : (e : ℕ) → e < length hs → Below ns c e → get_or ms e 0 ≡ get_or ns e 0
  same_number e l h =
      let q = same (get_or ns e 0) h in
      number_is hs named ts ms b (get_or ns e 0) e (omega (arith, h, long))
      (ap (λ (r : Row). r.class) (sym q) ∙ own_class hs named rs ns a e l)
      (ap (λ (r : Row). r.step) (sym q) ∙ own_step hs named rs ns a e l)

  -- a row other than a class's first
  carried : c < length rs → 0 < (row_at rs c).step → (c < length ts) × (row_at rs c ≡ row_at ts c)
  carried l y =
      let d = (row_at rs c).class in
      let s = (row_at rs (c - 1)).step in
      let p = before hs named rs ns a c l y in
      let q = same (c - 1) (let z = p.0 in omega (arith, z)) in
      let top = a.steps c l in
      let w = p.2 in
      let z = p.0 in
      let n = behind hs named ts ms b (c - 1) d s (omega (arith, z, long)) (ap (λ (r : Row). r.class) (sym q) ∙ p.1)
      (ap (λ (r : Row). r.step) (sym q)) (omega (arith, w, top)) in
      let e : c - 1 + 1 ≡ c = omega (arith, z) in (
        transport (λ x. x < length ts) e n.0,
        row_eq _ _ (sym n.1 ∙ ap (λ x. (row_at ts x).class) e)
            (sym w ∙ sym n.2 ∙ ap (λ x. (row_at ts x).step) e),
      )

-- where the rows before agree, the next one does
module _ (hs : List Header) (named : AreListed hs) (rs ts : List Row) (ns ms : List ℕ) (a : AreRows hs rs ns) (b : AreRows hs ts ms)
    (c : ℕ) (same : Agree rs ts c) (short : c < length rs) (long : c ≤ length ts) where
  back : Agree ts rs c
  back i l = sym (same i l)

  first_within : (row_at rs c).step ≡ 0 → c < length ts
  first_within z = elim (cases_order c (length ts)) [
    | inl q ↦
        let d = (row_at rs c).class in
        let w = own_within hs named ts ms b d (a.listed c short) in
        let h : Below ms c d = omega (arith, q, w) in
        let e = same_number hs named ts rs ms ns b a c back (omega (arith, short)) d (a.listed c short) h in
        let f = first_low hs named rs ns a c short z in absurd (omega (arith, h, e, f))
    | inr t ↦ elim t [ inl u ↦ u | inr u ↦ absurd (omega (arith, long, u)) ]
  ]

  both_first : c < length ts → (row_at rs c).step ≡ 0 → (row_at ts c).step ≡ 0 → row_at rs c ≡ row_at ts c
  both_first l y z =
      let to : (e : ℕ) → e < length hs → Below ms c e → Below ns c e =
      λ e i h. let q = same_number hs named ts rs ms ns b a c back (omega (arith, short)) e i h in omega (arith, h, q) in
      let from : (e : ℕ) → e < length hs → Below ns c e → Below ms c e =
      λ e i h. let q = same_number hs named rs ts ns ms a b c same long e i h in omega (arith, h, q) in
      let d = (row_at rs c).class in
      let f = (row_at ts c).class in
      let q = next_one hs (Below ns c) d f (first_ready hs named rs ns a c short y)
      (λ k m. to _ (named f k m) (first_ready hs named ts ms b c l z k m))
      (first_next hs named rs ns a c short y) (next_same hs named (Below ms c) (Below ns c) to from f (first_next hs named ts ms b c l z)) in
      row_eq _ _ q (y ∙ sym z)

  first_agrees : c < length ts → (row_at rs c).step ≡ 0 → row_at rs c ≡ row_at ts c
  first_agrees l z = elim (cases_eq (row_at ts c).step 0) [
    | inl q ↦ both_first l z q
    | inr n ↦ sym (carried hs named ts rs ms ns b a c back (omega (arith, short)) l (omega (arith, n))).1
  ]

  agrees : (c < length ts) × (row_at rs c ≡ row_at ts c)
  agrees = elim (cases_eq (row_at rs c).step 0) [
    | inl q ↦ (first_within q, first_agrees (first_within q) q)
    | inr n ↦ carried hs named rs ts ns ms a b c same long short (omega (arith, n))
  ]

module _ (hs : List Header) (named : AreListed hs) where
  agree_to : (rs ts : List Row) (ns ms : List ℕ) → AreRows hs rs ns → AreRows hs ts ms → (c : ℕ) → c ≤ length rs
      → (c ≤ length ts) × Agree rs ts c
  agree_to rs ts ns ms a b zero l = (omega arith, λ i m. absurd (omega (arith, m)))
  agree_to rs ts ns ms a b (suc c) l =
      let h = agree_to rs ts ns ms a b c (omega (arith, l)) in
      let n = agrees hs named rs ts ns ms a b c h.1 (omega (arith, l)) h.0 in
      let w = n.0 in (
        omega (arith, w),
        λ i m. elim (cases_eq i c) [ inl q ↦ transport (λ z. row_at rs z ≡ row_at ts z) (sym q) n.1 | inr o ↦ h.1 i (omega (arith, m, o)) ],
      )

  module _ (rs ts : List Row) (ns ms : List ℕ) (a : AreRows hs rs ns) (b : AreRows hs ts ms) where
    all_agree : (length rs ≤ length ts) × Agree rs ts (length rs)
    all_agree = agree_to rs ts ns ms a b (length rs) (omega arith)

    pub rows_one : rs ≡ ts
    rows_one =
        let l = all_agree.0 in
        let m = (agree_to ts rs ms ns b a (length ts) (omega arith)).0 in
        ext_get_or (record { class = 0; step = 0 }) rs ts (omega (arith, l, m)) (all_agree.1)

    pub numbers_one : ns ≡ ms
    numbers_one =
        let s = a.numbers in
        ext_get_or 0 ns ms (a.numbers ∙ sym b.numbers)
        (λ e l. let i : e < length hs = omega (arith, l, s) in
        sym (same_number hs named rs ts ns ms a b (length rs) all_agree.1 all_agree.0 e i (own_within hs named rs ns a e i)))
