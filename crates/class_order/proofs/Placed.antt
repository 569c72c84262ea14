-- The rows of one more class keep what holds of the rows.
use Rattle.std.proofs.Common.{◌≡◌, ℕ, ◌<◌, ◌≤◌, ◌+◌, ◌-◌, List, [], ◌∷◌, ◌++◌, ◌⊎◌, inl, inr, refl, sym, ap, ◌∙◌, arith, length, get_or, set, get_or-set_same, get_or-set_other, subst as transport}
use Rattle.std.proofs.lemmas.Bool.{cases_eq, cases_order}
use Rattle.std.proofs.lemmas.Option.{slice_get_read}
use Rattle.std.proofs.lemmas.List.{length-append, length-set, get_or_append_left, get_or_at}
use Rattle.class_order.specs.declared.header.Header.{Header}
use Rattle.class_order.specs.declared.rows.Row.{Row}
use Rattle.class_order.specs.Order.{above, IsBefore, IsNext, IsOrder}
use Rattle.class_order.proofs.Next.{next_same}
use Rattle.class_order.proofs.Ordered.{order_listed}
use Rattle.class_order.specs.Rows.{applications, applications_in, row_at, AreRows, AreAdded, ArePlaced}

abbrev none : Row
none = record { class = 0; step = 0 }

pub added_none : (rs : List Row) (d : ℕ) → AreAdded rs rs d 0
added_none rs d = record {
  longer = omega arith;
  kept = λ c l. refl;
  class = λ s l. absurd (omega (arith, l));
  step = λ s l. absurd (omega (arith, l));
}

pub added_more : (rs ts us : List Row) (d n : ℕ) → AreAdded rs ts d n → us ≡ ts ++ (record { class = d; step = n }) ∷ [] → AreAdded rs us d (n + 1)
added_more rs ts us d n a e =
    let x : Row = record { class = d; step = n } in
    let added : AreAdded rs (ts ++ x ∷ []) d (n + 1) =
    record {
      longer = let h = a.longer in omega (arith, h, length-append ts (x ∷ []));
      kept = λ c l. get_or_append_left ts (x ∷ []) none c (let h = a.longer in omega (arith, h, l)) ∙ a.kept c l;
      class = λ s l. elim (cases_eq s n) [ inl q ↦ ap (λ (r : Row). r.class) (ap (λ z. row_at (ts ++ x ∷ []) (length rs + z)) q ∙ get_or_at ts x [] none (length rs + n) a.longer) | inr k ↦ let h = a.longer in ap (λ (r : Row). r.class) (get_or_append_left ts (x ∷ []) none (length rs + s) (omega (arith, h, l, k))) ∙ a.class s (omega (arith, l, k)) ];
      step = λ s l. elim (cases_eq s n) [ inl q ↦ ap (λ (r : Row). r.step) (ap (λ z. row_at (ts ++ x ∷ []) (length rs + z)) q ∙ get_or_at ts x [] none (length rs + n) a.longer) ∙ sym q | inr k ↦ let h = a.longer in ap (λ (r : Row). r.step) (get_or_append_left ts (x ∷ []) none (length rs + s) (omega (arith, h, l, k))) ∙ a.step s (omega (arith, l, k)) ];
    }
    in
    transport (λ z. AreAdded rs z d (n + 1)) (sym e) added

pub placed_none : (hs : List Header) (ds : List ℕ) (ns : List ℕ) → length ns ≡ length hs → ArePlaced hs ds 0 [] ns
placed_none hs ds ns e = record {
  numbers = e;
  low = λ j l. absurd (omega (arith, l));
  high = λ j l. absurd (omega (arith, l));
  grow = λ j k _ l. absurd (omega (arith, l));
  class = λ j s c l. absurd (omega (arith, l));
  step = λ j s c l. absurd (omega (arith, l));
  known = λ c l. absurd (omega (arith, l));
  steps = λ c l. absurd (omega (arith, l));
  place = λ c l. absurd (omega (arith, l));
  after = λ j k l. absurd (omega (arith, l));
}

module _ (hs : List Header) (ds : List ℕ) (i : ℕ) (rs us : List Row) (ns : List ℕ) (order : IsOrder hs ds) (here : i < length ds) (p : ArePlaced hs ds i rs ns) (d : ℕ) (is : d ≡ get_or ds i 0) (a : AreAdded rs us d (applications hs d + 1)) (n : ℕ) (top : n ≡ length rs + applications hs d) where
  listed : d < length hs
  listed = transport (λ z. z < length hs) (sym is) (order.listed i here)

  other : (j : ℕ) → j < i → get_or ds j 0 ≡ d → ⊥
  other j l q = let e : j ≡ i = order.once j i (omega (arith, l, here)) here (q ∙ is) in omega (arith, e, l)

  abbrev ms : List ℕ
  ms = set ns d n

  new_number : get_or ms d 0 ≡ n
  new_number = let h = p.numbers in get_or-set_same ns d n 0 (omega (arith, h, listed))

  same_number : (j : ℕ) → j < i → get_or ms (get_or ds j 0) 0 ≡ get_or ns (get_or ds j 0) 0
  same_number j l = get_or-set_other ns d (get_or ds j 0) n 0 (other j l)

  split : (j : ℕ) → j < i + 1 → (j < i) ⊎ (j ≡ i)
  split j l = elim (cases_eq j i) [ inl q ↦ inr q | inr k ↦ inl (omega (arith, l, k)) ]

  -- what holds of each class before and of the new one
  each : (P : ℕ → Type 0) → ((j : ℕ) → j < i → P (get_or ds j 0)) → P d → (j : ℕ) → j < i + 1 → P (get_or ds j 0)
  each P old new j l = elim (split j l) [ inl h ↦ old j h | inr q ↦ transport P (is ∙ ap (λ z. get_or ds z 0) (sym q)) new ]

  below : (j s c : ℕ) → j < i → s ≤ applications hs (get_or ds j 0) → c + applications hs (get_or ds j 0) ≡ get_or ns (get_or ds j 0) 0 + s → c < length rs
  below j s c l m e = let h = p.high j l in omega (arith, h, m, e)

  old_row : (j s c : ℕ) → j < i → s ≤ applications hs (get_or ds j 0) → c + applications hs (get_or ds j 0) ≡ get_or ms (get_or ds j 0) 0 + s → row_at us c ≡ row_at rs c
  old_row j s c l m e = a.kept c (below j s c l m (e ∙ ap (λ z. z + s) (same_number j l)))

  -- a row is an old one, or one of the new class
  rows_split : (c : ℕ) → c < length us → (c < length rs) ⊎ ((s : ℕ) × (s < applications hs d + 1) × (c ≡ length rs + s))
  rows_split c l = let h = a.longer in elim (cases_order c (length rs)) [ inl q ↦ inr (c - length rs, omega (arith, h, l, q), omega (arith, q)) | inr k ↦ elim k [ inl q ↦ inl q | inr q ↦ inr (c - length rs, omega (arith, h, l, q), omega (arith, q)) ] ]

  old_known : (c : ℕ) → c < length rs → get_or ms (row_at us c).class 0 ≡ get_or ns (row_at rs c).class 0
  old_known c l =
      let k = p.known c l in
      ap (λ (r : Row). get_or ms r.class 0) (a.kept c l) ∙ ap (λ z. get_or ms z 0) (sym k.2) ∙ same_number k.0 k.1 ∙ ap (λ z. get_or ns z 0) k.2

  pub placed : ArePlaced hs ds (i + 1) us ms
  placed = record {
    numbers = length-set ns d n ∙ p.numbers;
    low = each (λ x. applications hs x ≤ get_or ms x 0) (λ j l. let h = p.low j l in let q = same_number j l in omega (arith, h, q)) (omega (arith, new_number, top));
    high = each (λ x. get_or ms x 0 < length us) (λ j l. let h = p.high j l in let q = same_number j l in let t = a.longer in omega (arith, h, q, t)) (let t = a.longer in omega (arith, new_number, top, t));
    grow = λ j k m l. elim (split k l) [
      | inl h ↦ let g = p.grow j k m h in let q = same_number j (omega (arith, m, h)) in let r = same_number k h in omega (arith, g, q, r)
      | inr e ↦ let h = p.high j (omega (arith, m, e)) in let q = same_number j (omega (arith, m, e)) in let r : get_or ms (get_or ds k 0) 0 ≡ n = ap (λ z. get_or ms (get_or ds z 0) 0) e ∙ ap (λ z. get_or ms z 0) (sym is) ∙ new_number in omega (arith, h, q, r, top)
    ];
    class = λ j s c l. each (λ x. s ≤ applications hs x → c + applications hs x ≡ get_or ms x 0 + s → (row_at us c).class ≡ x) (λ j l m e. ap (λ (r : Row). r.class) (old_row j s c l m e) ∙ p.class j s c l m (e ∙ ap (λ z. z + s) (same_number j l))) (λ m e. let q : c ≡ length rs + s = omega (arith, e, new_number, top) in ap (λ z. (row_at us z).class) q ∙ a.class s (omega (arith, m))) j l;
    step = λ j s c l. each (λ x. s ≤ applications hs x → c + applications hs x ≡ get_or ms x 0 + s → (row_at us c).step ≡ s) (λ j l m e. ap (λ (r : Row). r.step) (old_row j s c l m e) ∙ p.step j s c l m (e ∙ ap (λ z. z + s) (same_number j l))) (λ m e. let q : c ≡ length rs + s = omega (arith, e, new_number, top) in ap (λ z. (row_at us z).step) q ∙ a.step s (omega (arith, m))) j l;
    known = λ c l. elim (rows_split c l) [ inl q ↦ let k = p.known c q in (k.0, omega (arith, k.1), k.2 ∙ ap (λ (r : Row). r.class) (sym (a.kept c q))) | inr q ↦ (i, omega arith, sym is ∙ sym (ap (λ z. (row_at us z).class) q.2 ∙ a.class q.0 q.1)) ];
    steps = λ c l. elim (rows_split c l) [ inl q ↦ transport (λ (r : Row). r.step ≤ applications hs r.class) (sym (a.kept c q)) (p.steps c q) | inr q ↦ let e : (row_at us c).class ≡ d = ap (λ z. (row_at us z).class) q.2 ∙ a.class q.0 q.1 in let f : (row_at us c).step ≡ q.0 = ap (λ z. (row_at us z).step) q.2 ∙ a.step q.0 q.1 in let g : applications hs (row_at us c).class ≡ applications hs d = ap (applications hs) e in omega (arith, f, g, q.1) ];
    place = λ c l. elim (rows_split c l) [ inl q ↦ let e = p.place c q in let f = old_known c q in let g : applications hs (row_at us c).class ≡ applications hs (row_at rs c).class = ap (λ (r : Row). applications hs r.class) (a.kept c q) in let h : (row_at us c).step ≡ (row_at rs c).step = ap (λ (r : Row). r.step) (a.kept c q) in omega (arith, e, f, g, h) | inr q ↦ let e : (row_at us c).class ≡ d = ap (λ z. (row_at us z).class) q.2 ∙ a.class q.0 q.1 in let f : (row_at us c).step ≡ q.0 = ap (λ z. (row_at us z).step) q.2 ∙ a.step q.0 q.1 in let g : applications hs (row_at us c).class ≡ applications hs d = ap (applications hs) e in let h : get_or ms (row_at us c).class 0 ≡ n = ap (λ z. get_or ms z 0) e ∙ new_number in omega (arith, f, g, h, q.2, top) ];
    after = λ j k l. each (λ x. k < length (above hs x) → get_or ms (get_or (above hs x) k 0) 0 + applications hs x < get_or ms x 0)
        (λ j l m. let b = order.after j k (omega (arith, l, here)) m in let e : get_or ms (get_or (above hs (get_or ds j 0)) k 0) 0 ≡ get_or ns (get_or (above hs (get_or ds j 0)) k 0) 0 = ap (λ z. get_or ms z 0) (sym b.2) ∙ same_number b.0 (omega (arith, b.1, l)) ∙ ap (λ z. get_or ns z 0) b.2 in let f = same_number j l in let h = p.after j k l m in omega (arith, e, f, h))
        (λ m. let b = order.after i k here (transport (λ x. k < length (above hs x)) is m) in let c : get_or ds b.0 0 ≡ get_or (above hs d) k 0 = b.2 ∙ ap (λ x. get_or (above hs x) k 0) (sym is) in let e : get_or ms (get_or (above hs d) k 0) 0 ≡ get_or ns (get_or ds b.0 0) 0 = ap (λ z. get_or ms z 0) (sym c) ∙ same_number b.0 b.1 in let h = p.high b.0 b.1 in omega (arith, e, h, new_number, top)) j l;
  }

module _ (hs : List Header) (ds : List ℕ) (rs : List Row) (ns : List ℕ) (order : IsOrder hs ds) (p : ArePlaced hs ds (length ds) rs ns) where
  -- what holds of each class of the order holds of each class
  all : (P : ℕ → Type 0) → ((j : ℕ) → j < length ds → P (get_or ds j 0)) → (d : ℕ) → d < length hs → P d
  all P h d l = let b = order.each d l in transport P b.2 (h b.0 b.1)

  -- the classes before one in the order have smaller numbers
  number_before : (i c : ℕ) → i < length ds → IsBefore ds i c → get_or ns c 0 < get_or ns (get_or ds i 0) 0
  number_before i c l b = transport (λ z. get_or ns z 0 < get_or ns (get_or ds i 0) 0) b.2 (p.grow b.0 i b.1 l)

  -- and no others have
  before_number : (i c : ℕ) → i < length ds → c < length hs → get_or ns c 0 < get_or ns (get_or ds i 0) 0 → IsBefore ds i c
  before_number i c l m h =
      let b = order.each c m in
      let q : get_or ns (get_or ds b.0 0) 0 ≡ get_or ns c 0 = ap (λ z. get_or ns z 0) b.2 in
      elim (cases_order b.0 i) [
        | inl e ↦ let r : get_or ns (get_or ds b.0 0) 0 ≡ get_or ns (get_or ds i 0) 0 = ap (λ z. get_or ns (get_or ds z 0) 0) e in absurd (omega (arith, h, q, r))
        | inr n ↦ elim n [ inl s ↦ (b.0, s, b.2) | inr s ↦ let g = p.grow i b.0 s b.1 in absurd (omega (arith, g, h, q)) ]
      ]

  pub table : AreRows hs rs ns
  table = record {
    numbers = p.numbers;
    low = λ d l. all (λ x. applications hs x ≤ get_or ns x 0) p.low d l;
    within = λ d s c l. all (λ x. s ≤ applications hs x → c + applications hs x ≡ get_or ns x 0 + s → c < length rs) (λ j l m e. let h = p.high j l in omega (arith, h, m, e)) d l;
    class = λ d s c l. all (λ x. s ≤ applications hs x → c + applications hs x ≡ get_or ns x 0 + s → (row_at rs c).class ≡ x) (λ j l m e. p.class j s c l m e) d l;
    step = λ d s c l. all (λ x. s ≤ applications hs x → c + applications hs x ≡ get_or ns x 0 + s → (row_at rs c).step ≡ s) (λ j l m e. p.step j s c l m e) d l;
    listed = λ c l. let k = p.known c l in transport (λ z. z < length hs) k.2 (order.listed k.0 k.1);
    steps = p.steps;
    place = p.place;
    after = λ d k l. all (λ x. k < length (above hs x) → get_or ns (get_or (above hs x) k 0) 0 + applications hs x < get_or ns x 0) (λ j l m. p.after j k l m) d l;
    next = λ d l. all (λ x. IsNext hs (λ c. get_or ns c 0 < get_or ns x 0) x) (λ j m. next_same hs (order_listed hs ds order) (IsBefore ds j) (λ c. get_or ns c 0 < get_or ns (get_or ds j 0) 0) (λ c _ b. number_before j c m b) (λ c s h. before_number j c m s h) (get_or ds j 0) (order.next j m)) d l;
  }

apps_at : (hs : List Header) (d : ℕ) (h : Header) → d < length hs → h ≡ get_or hs d h → applications hs d ≡ h.applications
apps_at hs d h l is = ap applications_in (slice_get_read hs (length hs) d h refl l is)

pub placed_read : (hs : List Header) (ds : List ℕ) (i : ℕ) (rs ts us : List Row) (ns : List ℕ) → IsOrder hs ds → i < length ds → ArePlaced hs ds i rs ns → (h : Header) → h ≡ get_or hs (get_or ds i 0) h
    → AreAdded rs ts (get_or ds i 0) (get_or hs (get_or ds i 0) h).applications → us ≡ ts ++ (record { class = get_or ds i 0; step = (get_or hs (get_or ds i 0) h).applications }) ∷ [] → (n : ℕ) → n ≡ length ts → ArePlaced hs ds (i + 1) us (set ns (get_or ds i 0) n)
placed_read hs ds i rs ts us ns order here p h hi a u n t =
    let m = (get_or hs (get_or ds i 0) h).applications in
    let e : m ≡ applications hs (get_or ds i 0) = ap (λ (g : Header). g.applications) (sym hi) ∙ sym (apps_at hs (get_or ds i 0) h (order.listed i here) hi) in
    placed hs ds i rs us ns order here p (get_or ds i 0) refl (transport (λ z. AreAdded rs us (get_or ds i 0) (z + 1)) e (added_more rs ts us (get_or ds i 0) m a u)) n (t ∙ a.longer ∙ ap (λ z. length rs + z) e)
