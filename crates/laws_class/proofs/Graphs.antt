-- The graphs of a program's headers name the same classes, and what is said of one holds of the other.
use Rattle.std.proofs.Common.{◌≡◌, ℕ, ◌<◌, ◌≤◌, ◌+◌, inl, inr, List, length, get_or, slice_get, arith, sym, ap, ◌∙◌, subst as transport}
use Rattle.std.proofs.lemmas.Bool.{cases_order}
use Rattle.std.proofs.lemmas.Option.{slice_get_past}
use Rattle.class_order.specs.declared.header.Header.{Header}
use Rattle.class_order.specs.declared.rows.Row.{Row}
use Rattle.class_order.specs.Order.{above, above_in, Leads, names, passes, Descends, here, down, IsNext}
use Rattle.class_order.specs.Rows.{applications, applications_in, row_at, AreRows}
use Rattle.class_fault.specs.declared.program.Program.{Program}
use Rattle.class_fault.specs.Graph.{IsGraph}
use Rattle.class_fault.specs.Reach.{LeadsTo}
use Rattle.class_table.proofs.Lists.{some_in}

pub record AreSame (hs gs : List Header) : Type 0 where
  pub size : length hs ≡ length gs
  pub above : (d : ℕ) → above hs d ≡ above gs d
  pub applications : (d : ℕ) → applications hs d ≡ applications gs d

module _ (p : Program) (hs gs : List Header) (a : IsGraph p hs) (b : IsGraph p gs) where
  past : (d : ℕ) → length p.declarations.items ≤ d → slice_get hs d ≡ slice_get gs d
  past d l =
      let s = a.size in
      let t = b.size in
      slice_get_past hs d (omega (arith, l, s)) ∙ sym (slice_get_past gs d (omega (arith, l, t)))

  same_above : (d : ℕ) → above hs d ≡ above gs d
  same_above d = elim (cases_order d (length p.declarations.items)) [
    | inl q ↦ ap above_in (past d (omega (arith, q)))
    | inr n ↦ elim n [
      | inl l ↦ let i = some_in p.declarations.items d l in a.above d i.0 i.1 ∙ sym (b.above d i.0 i.1)
      | inr l ↦ ap above_in (past d (omega (arith, l)))
    ]
  ]

  same_applications : (d : ℕ) → applications hs d ≡ applications gs d
  same_applications d = elim (cases_order d (length p.declarations.items)) [
    | inl q ↦ ap applications_in (past d (omega (arith, q)))
    | inr n ↦ elim n [
      | inl l ↦ let i = some_in p.declarations.items d l in a.applications d i.0 i.1 ∙ sym (b.applications d i.0 i.1)
      | inr l ↦ ap applications_in (past d (omega (arith, l)))
    ]
  ]

  pub same_graphs : AreSame hs gs
  same_graphs = record { size = a.size ∙ sym b.size; above = same_above; applications = same_applications }

module _ (hs gs : List Header) (s : AreSame hs gs) where
  leads_same : (d e : ℕ) → Leads hs d e → Leads gs d e
  leads_same _ _ (names d k l) =
      transport (λ xs. Leads gs d (get_or xs k 0)) (sym (s.above d)) (names d k (transport (λ xs. k < length xs) (s.above d) l))
  leads_same _ _ (passes d k e l r) =
      passes d k e (transport (λ xs. k < length xs) (s.above d) l)
      (transport (λ xs. Leads gs (get_or xs k 0) e) (s.above d) (leads_same _ e r))

  pub leads_to_same : (d e : ℕ) → LeadsTo hs d e → LeadsTo gs d e
  leads_to_same d e l = elim l [ inl q ↦ inl q | inr r ↦ inr (leads_same d e r) ]

  descends_same : (P : ℕ → Type 0) (d e : ℕ) → Descends hs P d e → Descends gs P d e
  descends_same P _ _ (here d) = here d
  descends_same P _ _ (down d k e l f n r) =
      down d k e (transport (λ xs. k < length xs) (s.above d) l) (transport (λ xs. (j : ℕ) → j < k → P (get_or xs j 0)) (s.above d) f)
      (transport (λ xs. P (get_or xs k 0) → ⊥) (s.above d) n)
      (transport (λ xs. Descends gs P (get_or xs k 0) e) (s.above d) (descends_same P _ e r))

  next_same : (P : ℕ → Type 0) (d : ℕ) → IsNext hs P d → IsNext gs P d
  next_same P d n = record {
    root = n.root;
    listed = let l = n.listed in let q = s.size in omega (arith, l, q);
    first = n.first;
    new = n.new;
    descends = descends_same P n.root d n.descends;
  }

  module _ (rs : List Row) (ns : List ℕ) (r : AreRows hs rs ns) where
    in_first : (d : ℕ) → d < length gs → d < length hs
    in_first d l = let q = s.size in omega (arith, l, q)

    at_first : (d m c : ℕ) → c + applications gs d ≡ get_or ns d 0 + m → c + applications hs d ≡ get_or ns d 0 + m
    at_first d m c q = let e = s.applications d in omega (arith, q, e)

    few : (d m : ℕ) → m ≤ applications gs d → m ≤ applications hs d
    few d m l = let e = s.applications d in omega (arith, l, e)

    pub rows_same : AreRows gs rs ns
    rows_same = record {
      numbers = r.numbers ∙ s.size;
      low = λ d l. let h = r.low d (in_first d l) in let e = s.applications d in omega (arith, h, e);
      within = λ d m c l w q. r.within d m c (in_first d l) (few d m w) (at_first d m c q);
      class = λ d m c l w q. r.class d m c (in_first d l) (few d m w) (at_first d m c q);
      step = λ d m c l w q. r.step d m c (in_first d l) (few d m w) (at_first d m c q);
      listed = λ c l. let h = r.listed c l in let q = s.size in omega (arith, h, q);
      steps = λ c l. let h = r.steps c l in let e = s.applications (row_at rs c).class in omega (arith, h, e);
      place = λ c l. let h = r.place c l in let e = s.applications (row_at rs c).class in omega (arith, h, e);
      after = λ d k l m.
          let h = r.after d k (in_first d l) (transport (λ xs. k < length xs) (sym (s.above d)) m) in
          let e = s.applications d in
          let q = ap (λ xs. get_or ns (get_or xs k 0) 0) (s.above d) in
          omega (arith, h, e, q);
      next = λ d l. next_same (λ c. get_or ns c 0 < get_or ns d 0) d (r.next d (in_first d l));
    }
