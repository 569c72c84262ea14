-- Orders, and that none is there where a class leads back to itself.
use Rattle.std.proofs.Common.{◌≡◌, ℕ, ◌<◌, List, [], refl, sym, ap, ◌∙◌, arith, length, get_or, replicate, slice_get, Option, Some, None, subst as transport}
use Rattle.std.proofs.lemmas.List.{length-replicate}
use Rattle.std.proofs.lemmas.Option.{slice_get_within}
use Rattle.class_order.specs.declared.header.Header.{Header}
use Rattle.class_order.specs.declared.walk.Mark.{Mark}
use Rattle.class_order.specs.declared.walk.Mark.TheVariants.{New, Open, Done}
use Rattle.class_order.specs.Order.{above, above_in, Leads, names, passes, HasCycle, AreListed, IsOrder, IsBefore}
use Rattle.class_order.specs.Walk.{mark_of, IsWalk, IsTouched}
use Rattle.class_order.proofs.Lists.{done_same, new_done, new_open, fresh}

-- nothing is begun
pub start : (hs : List Header) → IsWalk hs (replicate (length hs) New) [] []
start hs = record {
  finished = record {
    marks = length-replicate (length hs) New;
    place = λ i l. absurd (omega (arith, l));
    listed = λ i l. absurd (omega (arith, l));
    short = λ d i h. absurd (new_done i (sym (fresh (length hs) d) ∙ h));
    found = λ d i h. absurd (new_done i (sym (fresh (length hs) d) ∙ h));
    after = λ i k l. absurd (omega (arith, l));
    next = λ i l. absurd (omega (arith, l));
  };
  stack = record {
    place = λ j l. absurd (omega (arith, l));
    listed = λ j l. absurd (omega (arith, l));
    short = λ d j h. absurd (new_open j (sym (fresh (length hs) d) ∙ h));
    found = λ d j h. absurd (new_open j (sym (fresh (length hs) d) ∙ h));
    looked = λ j k l. absurd (omega (arith, l));
    within = λ j l. absurd (omega (arith, l));
    link = λ j l. absurd (omega (arith, l));
    first = λ c l. absurd (omega (arith, l));
  };
}

module _ (hs : List Header) (ms : List Mark) (ds : List ℕ) (w : IsWalk hs ms ds []) where
  ends : (d : ℕ) (m : Mark) → mark_of ms d ≡ m → IsTouched ms d → IsBefore ds (length ds) d
  ends d New h t = absurd (t h)
  ends d (Open j) h t = let l = w.stack.short d j h in absurd (omega (arith, l))
  ends d (Done i) h t = (i, w.finished.short d i h, w.finished.found d i h)

  -- everything is finished
  pub ordered : ((d : ℕ) → d < length hs → IsTouched ms d) → IsOrder hs ds
  ordered all = record {
    listed = w.finished.listed;
    once = λ i j l m q. done_same i j (sym (w.finished.place i l) ∙ ap (mark_of ms) q ∙ w.finished.place j m);
    each = λ d l. ends d (mark_of ms d) refl (all d l);
    after = λ i k l h. let r = w.finished.after i k l h in (r.0, r.1, w.finished.found _ r.0 r.2);
    next = w.finished.next;
  }

pub has_above : (hs : List Header) (d k : ℕ) (o : Option Header) → slice_get hs d ≡ o → k < length (above_in o) → d < length hs
has_above hs d k None q l = absurd (omega (arith, l))
has_above hs d k (Some h) q l = slice_get_within hs d h q

leads_listed : (hs : List Header) (d e : ℕ) → Leads hs d e → d < length hs
leads_listed hs d _ (names _ k l) = has_above hs d k (slice_get hs d) refl l
leads_listed hs d _ (passes _ k e l r) = has_above hs d k (slice_get hs d) refl l

module _ (hs : List Header) (ds : List ℕ) (o : IsOrder hs ds) where
  leads_before : (d e : ℕ) → Leads hs d e → (i : ℕ) → i < length ds → get_or ds i 0 ≡ d → IsBefore ds i e
  leads_before _ _ (names d k l) i m q = transport (λ z. IsBefore ds i (get_or (above hs z) k 0)) q (o.after i k m (transport (λ z. k < length (above hs z)) (sym q) l))
  leads_before _ _ (passes d k e l r) i m q =
      let b : IsBefore ds i (get_or (above hs d) k 0) = transport (λ z. IsBefore ds i (get_or (above hs z) k 0)) q (o.after i k m (transport (λ z. k < length (above hs z)) (sym q) l)) in
      let c = leads_before _ e r b.0 (omega (arith, b.1, m)) b.2 in
      (c.0, omega (arith, b.1, c.1), c.2)

  -- each class that a header names is listed
  pub order_listed : AreListed hs
  order_listed d k l =
      let b = o.each d (has_above hs d k (slice_get hs d) refl l) in
      let c = o.after b.0 k b.1 (transport (λ z. k < length (above hs z)) (sym b.2) l) in
      transport (λ z. z < length hs) (c.2 ∙ ap (λ z. get_or (above hs z) k 0) b.2) (o.listed c.0 (let m = c.1 in let n = b.1 in omega (arith, m, n)))

  -- where there is an order there is no cycle
  pub no_cycle : HasCycle hs → ⊥
  no_cycle h =
      let b = o.each h.0 (leads_listed hs h.0 h.0 h.1) in
      let c = leads_before h.0 h.0 h.1 b.0 b.1 b.2 in
      let q = o.once c.0 b.0 (omega (arith, c.1, b.1)) b.1 (c.2 ∙ sym b.2) in
      omega (arith, c.1, q)
