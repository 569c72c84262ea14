-- The steps of the walk keep what holds of it.
use Rattle.std.proofs.Common.{◌≡◌, ℕ, zero, suc, ◌<◌, ◌≤◌, ◌+◌, ◌-◌, List, [], ◌∷◌, ◌++◌, inl, inr, refl, sym, ap, ◌∙◌, arith, length, get_or, set, subst as transport}
use Rattle.std.proofs.lemmas.Bool.{cases_eq}
use Rattle.std.proofs.lemmas.List.{length-append, length-set, get_or_append_left, get_or_at, get_or_read}
use Rattle.class_order.specs.declared.header.Header.{Header}
use Rattle.class_order.specs.declared.walk.Mark.{Mark}
use Rattle.class_order.specs.declared.walk.Mark.TheVariants.{New, Open, Done}
use Rattle.class_order.specs.declared.walk.Frame.{Frame}
use Rattle.class_order.specs.Order.{above, Leads, names, passes, HasCycle, AreListed, IsBefore, Descends, here, down, IsNext}
use Rattle.class_order.specs.Walk.{mark_of, frame_at, IsDoneBefore, IsWalk, IsTouched, share, untouched, waiting}
use Rattle.class_order.proofs.Next.{next_push}
use Rattle.class_order.proofs.Lists.{push_lt, push_top, push_cases, push_all, mark_same, keep, back, done_same, open_same, open_done, new_done, new_open, untouched_set, touched_set, waiting_push, header_at}

abbrev none : Frame
none = record { class = 0; next = 0 }

module _ (hs : List Header) (ms : List Mark) (ds : List ℕ) (fs : List Frame) (f : Frame) (w : IsWalk hs ms ds (fs ++ f ∷ [])) where
  last : frame_at (fs ++ f ∷ []) (length fs) ≡ f
  last = get_or_at fs f [] none (length fs) refl

  front : (j : ℕ) → j < length fs → frame_at (fs ++ f ∷ []) j ≡ frame_at fs j
  front j h = get_or_append_left fs (f ∷ []) none j h

  pub top_mark : mark_of ms f.class ≡ Open (length fs)
  top_mark = transport (λ (g : Frame). mark_of ms g.class ≡ Open (length fs)) last (w.stack.place (length fs) (push_top fs f))

  pub top_listed : f.class < length hs
  top_listed = transport (λ (g : Frame). g.class < length hs) last (w.stack.listed (length fs) (push_top fs f))

  pub top_marked : f.class < length ms
  top_marked = let e = w.finished.marks in let h = top_listed in omega (arith, e, h)

  top_looked : (k : ℕ) → k < f.next → (i : ℕ) × (mark_of ms (get_or (above hs f.class) k 0) ≡ Done i)
  top_looked = transport (λ (g : Frame). (k : ℕ) → k < g.next → (i : ℕ) × (mark_of ms (get_or (above hs g.class) k 0) ≡ Done i)) last (λ k l. w.stack.looked (length fs) k (push_top fs f) l)

  front_place : (j : ℕ) → j < length fs → mark_of ms (frame_at fs j).class ≡ Open j
  front_place j h = transport (λ (g : Frame). mark_of ms g.class ≡ Open j) (front j h) (w.stack.place j (push_lt fs f j h))

  front_listed : (j : ℕ) → j < length fs → (frame_at fs j).class < length hs
  front_listed j h = transport (λ (g : Frame). g.class < length hs) (front j h) (w.stack.listed j (push_lt fs f j h))

  front_looked : (j k : ℕ) → j < length fs → k < (frame_at fs j).next → (i : ℕ) × (mark_of ms (get_or (above hs (frame_at fs j).class) k 0) ≡ Done i)
  front_looked j k h = transport (λ (g : Frame). k < g.next → (i : ℕ) × (mark_of ms (get_or (above hs g.class) k 0) ≡ Done i)) (front j h) (λ l. w.stack.looked j k (push_lt fs f j h) l)

  front_within : (j : ℕ) → j < length fs → (frame_at fs j).next < length (above hs (frame_at fs j).class)
  front_within j h = transport (λ (g : Frame). g.next < length (above hs g.class)) (front j h) (w.stack.within j (omega (arith, h, length-append fs (f ∷ []))))

  front_link : (j : ℕ) → j < length fs → get_or (above hs (frame_at fs j).class) (frame_at fs j).next 0 ≡ (frame_at (fs ++ f ∷ []) (j + 1)).class
  front_link j h = transport (λ (g : Frame). get_or (above hs g.class) g.next 0 ≡ (frame_at (fs ++ f ∷ []) (j + 1)).class) (front j h) (w.stack.link j (omega (arith, h, length-append fs (f ∷ []))))

  front_next : (j : ℕ) → j + 1 < length fs → get_or (above hs (frame_at fs j).class) (frame_at fs j).next 0 ≡ (frame_at fs (j + 1)).class
  front_next j h = front_link j (omega (arith, h)) ∙ ap (λ (g : Frame). g.class) (front (j + 1) h)

  front_first : (c : ℕ) → 0 < length fs → c < (frame_at fs 0).class → (i : ℕ) × (mark_of ms c ≡ Done i)
  front_first c l = transport (λ (g : Frame). c < g.class → (i : ℕ) × (mark_of ms c ≡ Done i)) (front 0 l) (w.stack.first c (omega (arith, l, length-append fs (f ∷ []))))

  done_before : (e i : ℕ) → mark_of ms e ≡ Done i → IsBefore ds (length ds) e
  done_before e i q = (i, w.finished.short e i q, w.finished.found e i q)

  open_before : (e j : ℕ) → mark_of ms e ≡ Open j → IsBefore ds (length ds) e → ⊥
  open_before e j q b = open_done _ _ (sym q ∙ sym (ap (mark_of ms) b.2) ∙ w.finished.place b.0 b.1)

  descends_from : (n i : ℕ) → i + n ≡ length fs → Descends hs (IsBefore ds (length ds)) (frame_at (fs ++ f ∷ []) i).class f.class
  descends_from zero i p =
      let q : i ≡ length fs = omega (arith, p) in
      transport (λ z. Descends hs (IsBefore ds (length ds)) (frame_at (fs ++ f ∷ []) z).class f.class) (sym q)
      (transport (λ (g : Frame). Descends hs (IsBefore ds (length ds)) g.class f.class) (sym last) (here f.class))
  descends_from (suc n) i p =
      let l : i + 1 < length (fs ++ f ∷ []) = omega (arith, p, length-append fs (f ∷ [])) in
      let s = w.stack.link i l in
      down (frame_at (fs ++ f ∷ []) i).class (frame_at (fs ++ f ∷ []) i).next f.class (w.stack.within i l)
      (λ k m. let r = w.stack.looked i k (omega (arith, l)) m in done_before _ r.0 r.1)
      (open_before _ (i + 1) (ap (mark_of ms) s ∙ w.stack.place (i + 1) l))
      (transport (λ d. Descends hs (IsBefore ds (length ds)) d f.class) (sym s) (descends_from n (i + 1) (omega (arith, p))))

  -- the top of the stack is finished next
  top_next : IsNext hs (IsBefore ds (length ds)) f.class
  top_next =
      let l : 0 < length (fs ++ f ∷ []) = omega (arith, length-append fs (f ∷ [])) in
      record {
        root = (frame_at (fs ++ f ∷ []) 0).class;
        listed = w.stack.listed 0 l;
        first = λ c m. let r = w.stack.first c l m in done_before c r.0 r.1;
        new = open_before _ 0 (w.stack.place 0 l);
        descends = descends_from (length fs) 0 (omega arith);
      }

  pub finish_untouched : (n : ℕ) → untouched (set ms f.class (Done n)) hs ≡ untouched ms hs
  finish_untouched n =
      let r = untouched_set ms hs f.class (Done n) top_marked top_listed in
      let q : share (mark_of ms f.class) (length (above hs f.class)) ≡ 0 = ap (λ x. share x (length (above hs f.class))) top_mark in
      omega (arith, r, q)

  module _ (named : AreListed hs) (all : length (above hs f.class) ≤ f.next) where
    abbrev m : Mark
    m = Done (length ds)

    after_mark : (k : ℕ) → k < length (above hs f.class) → (i : ℕ) × (mark_of (set ms f.class m) (get_or (above hs f.class) k 0) ≡ Done i)
    after_mark k l = let r = top_looked k (omega (arith, all, l)) in (r.0, keep ms f.class _ m (Done r.0) (λ q. open_done _ _ (sym top_mark ∙ q)) r.1)

    kept : (e i : ℕ) → mark_of ms e ≡ Done i → mark_of (set ms f.class m) e ≡ Done i
    kept e i h = keep ms f.class e m (Done i) (λ q. open_done _ _ (sym top_mark ∙ q)) h

    kept_open : (e j : ℕ) → j < length fs → mark_of ms e ≡ Open j → mark_of (set ms f.class m) e ≡ Open j
    kept_open e j l h = keep ms f.class e m (Open j) (λ q. let s : length fs ≡ j = open_same _ _ (sym top_mark ∙ q) in absurd (omega (arith, l, s))) h

    was_open : (e j : ℕ) → mark_of (set ms f.class m) e ≡ Open j → (e ≡ f.class → ⊥) × (mark_of ms e ≡ Open j)
    was_open e j h = elim (back ms f.class e m (Open j) top_marked h) [ inl p ↦ absurd (open_done _ _ (sym p.1)) | inr p ↦ p ]

    short_open : (e j : ℕ) → mark_of (set ms f.class m) e ≡ Open j → j < length fs
    short_open e j h =
        let p = was_open e j h in
        elim (push_cases fs f j (w.stack.short e j p.1)) [ inl l ↦ l | inr q ↦ absurd (p.0 (sym (w.stack.found e j p.1) ∙ ap (λ z. (frame_at (fs ++ f ∷ []) z).class) q ∙ ap (λ (g : Frame). g.class) last)) ]

    pub finished : IsWalk hs (set ms f.class m) (ds ++ f.class ∷ []) fs
    finished = record {
      finished = record {
        marks = length-set ms f.class m ∙ w.finished.marks;
        place = push_all (λ i e. mark_of (set ms f.class m) e ≡ Done i) ds f.class 0 (λ i l. kept _ i (w.finished.place i l)) (mark_same ms f.class m top_marked);
        listed = push_all (λ i e. e < length hs) ds f.class 0 w.finished.listed top_listed;
        short = λ d i h. elim (back ms f.class d m (Done i) top_marked h) [ inl p ↦ let s = done_same _ _ p.1 in omega (arith, s, length-append ds (f.class ∷ [])) | inr p ↦ push_lt ds f.class i (w.finished.short d i p.1) ];
        found = λ d i h. elim (back ms f.class d m (Done i) top_marked h) [ inl p ↦ ap (λ z. get_or (ds ++ f.class ∷ []) z 0) (sym (done_same _ _ p.1)) ∙ get_or_at ds f.class [] 0 (length ds) refl ∙ sym p.0 | inr p ↦ get_or_append_left ds (f.class ∷ []) 0 i (w.finished.short d i p.1) ∙ w.finished.found d i p.1 ];
        after = λ i k l. push_all (λ i e. k < length (above hs e) → IsDoneBefore (set ms f.class m) i (get_or (above hs e) k 0)) ds f.class 0
            (λ i l h. let r = w.finished.after i k l h in (r.0, r.1, kept _ r.0 r.2))
            (λ h.
            let r = top_looked k (omega (arith, all, h)) in (r.0, w.finished.short _ r.0 r.1, kept _ r.0 r.1))
            i l;
        next = push_all (λ i e. IsNext hs (IsBefore (ds ++ f.class ∷ []) i) e) ds f.class 0
            (λ i l. next_push hs named ds (f.class ∷ []) i _ (omega (arith, l)) (w.finished.next i l))
            (next_push hs named ds (f.class ∷ []) (length ds) f.class (omega arith) top_next);
      };
      stack = record {
        place = λ j l. kept_open _ j l (front_place j l);
        listed = front_listed;
        short = short_open;
        found = λ d j h. ap (λ (g : Frame). g.class) (sym (front j (short_open d j h))) ∙ w.stack.found d j (was_open d j h).1;
        looked = λ j k l h. let r = front_looked j k l h in (r.0, kept _ r.0 r.1);
        within = λ j l. front_within j (omega (arith, l));
        link = front_next;
        first = λ c l m. let r = front_first c l m in (r.0, kept _ r.0 r.1);
      };
    }

    pub finished_at : (n : ℕ) (es : List ℕ) → n ≡ length ds → es ≡ ds ++ f.class ∷ [] → IsWalk hs (set ms f.class (Done n)) es fs
    finished_at n es p q =
        transport (λ z. IsWalk hs (set ms f.class (Done z)) es fs) (sym p)
        (transport (λ z. IsWalk hs (set ms f.class m) z fs) (sym q) finished)

  waiting_top : waiting hs (fs ++ f ∷ []) ≡ waiting hs fs + (1 + (length (above hs f.class) - f.next))
  waiting_top = waiting_push hs fs f

  pub finish_left : (n : ℕ) → untouched (set ms f.class (Done n)) hs + waiting hs fs < untouched ms hs + waiting hs (fs ++ f ∷ [])
  finish_left n = let r = finish_untouched n in omega (arith, r, waiting_top)

  pub finish_touched : (n d : ℕ) → IsTouched ms d → IsTouched (set ms f.class (Done n)) d
  finish_touched n d t = touched_set ms f.class d (Done n) top_marked (λ q. new_done n (sym q)) t

  -- the next class that the header names is finished
  module _ (i : ℕ) (done : mark_of ms (get_or (above hs f.class) f.next 0) ≡ Done i) where
    abbrev g : Frame
    g = record { class = f.class; next = f.next + 1 }

    classes : (j : ℕ) → j < length (fs ++ g ∷ []) → (frame_at (fs ++ g ∷ []) j).class ≡ (frame_at (fs ++ f ∷ []) j).class
    classes = push_all (λ j (h : Frame). h.class ≡ (frame_at (fs ++ f ∷ []) j).class) fs g none (λ j l. ap (λ (h : Frame). h.class) (sym (front j l))) (ap (λ (h : Frame). h.class) (sym last))

    same_length : length (fs ++ g ∷ []) ≡ length (fs ++ f ∷ [])
    same_length = length-append fs (g ∷ []) ∙ sym (length-append fs (f ∷ []))

    looked_more : (k : ℕ) → k < f.next + 1 → (i : ℕ) × (mark_of ms (get_or (above hs f.class) k 0) ≡ Done i)
    looked_more k l = elim (cases_eq k f.next) [ inl q ↦ (i, ap (λ z. mark_of ms (get_or (above hs f.class) z 0)) q ∙ done) | inr n ↦ top_looked k (omega (arith, l, n)) ]

    frame_of : (j : ℕ) → j < length fs → frame_at (fs ++ g ∷ []) j ≡ frame_at fs j
    frame_of j h = get_or_append_left fs (g ∷ []) none j h

    pub advance_left : f.next < length (above hs f.class) → untouched ms hs + waiting hs (fs ++ g ∷ []) < untouched ms hs + waiting hs (fs ++ f ∷ [])
    advance_left l = omega (arith, l, waiting_top, waiting_push hs fs g)

    pub advanced : IsWalk hs ms ds (fs ++ g ∷ [])
    advanced = record {
      finished = w.finished;
      stack = record {
        place = push_all (λ j (h : Frame). mark_of ms h.class ≡ Open j) fs g none front_place top_mark;
        listed = push_all (λ j (h : Frame). h.class < length hs) fs g none front_listed top_listed;
        short = λ d j h. let l = w.stack.short d j h in omega (arith, l, same_length);
        found = λ d j h. let l = w.stack.short d j h in classes j (omega (arith, l, same_length)) ∙ w.stack.found d j h;
        looked = λ j k l. push_all (λ j (h : Frame). k < h.next → (i : ℕ) × (mark_of ms (get_or (above hs h.class) k 0) ≡ Done i)) fs g none (λ j l. front_looked j k l) (looked_more k) j l;
        within = λ j l.
            let b : j < length fs = omega (arith, l, length-append fs (g ∷ [])) in
            transport (λ (h : Frame). h.next < length (above hs h.class)) (sym (frame_of j b)) (front_within j b);
        link = λ j l.
            let b : j < length fs = omega (arith, l, length-append fs (g ∷ [])) in
            transport (λ (h : Frame). get_or (above hs h.class) h.next 0 ≡ (frame_at (fs ++ g ∷ []) (j + 1)).class) (sym (frame_of j b)) (front_link j b ∙ sym (classes (j + 1) l));
        first = λ c l m. w.stack.first c (omega (arith, l, same_length)) (transport (λ z. c < z) (classes 0 l) m);
      };
    }

  -- the next class that the header names is begun
  module _ (e : ℕ) (is : e ≡ get_or (above hs f.class) f.next 0) (within : f.next < length (above hs f.class)) (listed : e < length hs) (new : mark_of ms e ≡ New) where
    abbrev ss : List Frame
    ss = fs ++ f ∷ []

    abbrev b : Frame
    b = record { class = e; next = 0 }

    abbrev o : Mark
    o = Open (length (fs ++ f ∷ []))

    marked : e < length ms
    marked = let q = w.finished.marks in omega (arith, q, listed)

    still : (d i : ℕ) → mark_of ms d ≡ Done i → mark_of (set ms e o) d ≡ Done i
    still d i h = keep ms e d o (Done i) (λ q. new_done _ (sym new ∙ q)) h

    still_open : (d j : ℕ) → mark_of ms d ≡ Open j → mark_of (set ms e o) d ≡ Open j
    still_open d j h = keep ms e d o (Open j) (λ q. new_open _ (sym new ∙ q)) h

    was_done : (d i : ℕ) → mark_of (set ms e o) d ≡ Done i → mark_of ms d ≡ Done i
    was_done d i h = elim (back ms e d o (Done i) marked h) [ inl p ↦ absurd (open_done _ _ p.1) | inr p ↦ p.1 ]

    up : (j : ℕ) → j < length ss → frame_at (ss ++ b ∷ []) j ≡ frame_at ss j
    up j h = get_or_append_left ss (b ∷ []) none j h

    top : frame_at (ss ++ b ∷ []) (length ss) ≡ b
    top = get_or_at ss b [] none (length ss) refl

    ss_length : length ss ≡ length fs + 1
    ss_length = omega (arith, length-append fs (f ∷ []))

    ss_within : (j : ℕ) → j < length ss → (frame_at ss j).next < length (above hs (frame_at ss j).class)
    ss_within = push_all (λ j (h : Frame). h.next < length (above hs h.class)) fs f none front_within within

    front_up : (j : ℕ) → j < length fs → get_or (above hs (frame_at fs j).class) (frame_at fs j).next 0 ≡ (frame_at (ss ++ b ∷ []) (j + 1)).class
    front_up j l = front_link j l ∙ ap (λ (g : Frame). g.class) (sym (up (j + 1) (omega (arith, l, ss_length))))

    top_up : get_or (above hs f.class) f.next 0 ≡ (frame_at (ss ++ b ∷ []) (length fs + 1)).class
    top_up = sym is ∙ ap (λ (g : Frame). g.class) (sym top) ∙ ap (λ z. (frame_at (ss ++ b ∷ []) z).class) ss_length

    ss_link : (j : ℕ) → j < length ss → get_or (above hs (frame_at ss j).class) (frame_at ss j).next 0 ≡ (frame_at (ss ++ b ∷ []) (j + 1)).class
    ss_link = push_all (λ j (h : Frame). get_or (above hs h.class) h.next 0 ≡ (frame_at (ss ++ b ∷ []) (j + 1)).class) fs f none front_up top_up

    pub begin_left : untouched (set ms e o) hs + waiting hs (ss ++ b ∷ []) < untouched ms hs + waiting hs (fs ++ f ∷ [])
    begin_left =
        let r = untouched_set ms hs e o marked listed in
        let q : share (mark_of ms e) (length (above hs e)) ≡ 2 + length (above hs e) = ap (λ x. share x (length (above hs e))) new in
        omega (arith, r, q, waiting_push hs ss b)

    pub begin_touched : (d : ℕ) → IsTouched ms d → IsTouched (set ms e o) d
    begin_touched d t = touched_set ms e d o marked (λ q. new_open _ (sym q)) t

    pub begun : IsWalk hs (set ms e o) ds (ss ++ b ∷ [])
    begun = record {
      finished = record {
        marks = length-set ms e o ∙ w.finished.marks;
        place = λ i l. still _ i (w.finished.place i l);
        listed = w.finished.listed;
        short = λ d i h. w.finished.short d i (was_done d i h);
        found = λ d i h. w.finished.found d i (was_done d i h);
        after = λ i k l h. let r = w.finished.after i k l h in (r.0, r.1, still _ r.0 r.2);
        next = w.finished.next;
      };
      stack = record {
        place = push_all (λ j (h : Frame). mark_of (set ms e o) h.class ≡ Open j) ss b none (λ j l. still_open _ j (w.stack.place j l)) (mark_same ms e o marked);
        listed = push_all (λ j (h : Frame). h.class < length hs) ss b none w.stack.listed listed;
        short = λ d j h. elim (back ms e d o (Open j) marked h) [ inl p ↦ let s = open_same _ _ p.1 in omega (arith, s, length-append ss (b ∷ [])) | inr p ↦ push_lt ss b j (w.stack.short d j p.1) ];
        found = λ d j h. elim (back ms e d o (Open j) marked h) [ inl p ↦ ap (λ z. (frame_at (ss ++ b ∷ []) z).class) (sym (open_same _ _ p.1)) ∙ ap (λ (g : Frame). g.class) top ∙ sym p.0 | inr p ↦ ap (λ (g : Frame). g.class) (up j (w.stack.short d j p.1)) ∙ w.stack.found d j p.1 ];
        looked = λ j k l. push_all (λ j (h : Frame). k < h.next → (i : ℕ) × (mark_of (set ms e o) (get_or (above hs h.class) k 0) ≡ Done i)) ss b none (λ j l h. let r = w.stack.looked j k l h in (r.0, still _ r.0 r.1)) (λ h. absurd (omega (arith, h))) j l;
        within = λ j l.
            let q : j < length ss = omega (arith, l, length-append ss (b ∷ [])) in
            transport (λ (h : Frame). h.next < length (above hs h.class)) (sym (up j q)) (ss_within j q);
        link = λ j l.
            let q : j < length ss = omega (arith, l, length-append ss (b ∷ [])) in
            transport (λ (h : Frame). get_or (above hs h.class) h.next 0 ≡ (frame_at (ss ++ b ∷ []) (j + 1)).class) (sym (up j q)) (ss_link j q);
        first = λ c l m. let q : 0 < length ss = omega (arith, ss_length) in let r = w.stack.first c q (transport (λ (h : Frame). c < h.class) (up 0 q) m) in (r.0, still _ r.0 r.1);
      };
    }

    pub begun_at : (rs es : List Frame) (n : ℕ) → rs ≡ ss → n ≡ length rs → es ≡ rs ++ b ∷ [] → IsWalk hs (set ms e (Open n)) ds es
    begun_at rs es n p q r =
        transport (λ z. IsWalk hs (set ms e (Open z)) ds es) (sym (q ∙ ap length p))
        (transport (λ z. IsWalk hs (set ms e o) ds z) (sym (r ∙ ap (λ z. z ++ b ∷ []) p)) begun)

    pub begin_left_at : (rs es : List Frame) (n : ℕ) → rs ≡ ss → n ≡ length rs → es ≡ rs ++ b ∷ [] → untouched (set ms e (Open n)) hs + waiting hs es < untouched ms hs + waiting hs (fs ++ f ∷ [])
    begin_left_at rs es n p q r =
        transport (λ z. untouched (set ms e (Open z)) hs + waiting hs es < untouched ms hs + waiting hs (fs ++ f ∷ [])) (sym (q ∙ ap length p))
        (transport (λ z. untouched (set ms e o) hs + waiting hs z < untouched ms hs + waiting hs (fs ++ f ∷ [])) (sym (r ∙ ap (λ z. z ++ b ∷ []) p)) begin_left)

  -- the next class that the header names stands on the stack
  module _ (e j : ℕ) (is : e ≡ get_or (above hs f.class) f.next 0) (within : f.next < length (above hs f.class)) (opened : mark_of ms e ≡ Open j) where
    leads_from : (n i : ℕ) → i + n ≡ length fs → Leads hs (frame_at (fs ++ f ∷ []) i).class e
    leads_from zero i p =
        let q : i ≡ length fs = omega (arith, p) in
        transport (λ z. Leads hs (frame_at (fs ++ f ∷ []) z).class e) (sym q)
        (transport (λ (g : Frame). Leads hs g.class e) (sym last) (transport (Leads hs f.class) (sym is) (names f.class f.next within)))
    leads_from (suc n) i p =
        let l : i + 1 < length (fs ++ f ∷ []) = omega (arith, p, length-append fs (f ∷ [])) in
        passes (frame_at (fs ++ f ∷ []) i).class (frame_at (fs ++ f ∷ []) i).next e (w.stack.within i l)
        (transport (λ d. Leads hs d e) (sym (w.stack.link i l)) (leads_from n (i + 1) (omega (arith, p))))

    pub cycle : HasCycle hs
    cycle =
        let l = w.stack.short e j opened in
        let q : j + (length fs - j) ≡ length fs = omega (arith, l, length-append fs (f ∷ [])) in
        (e, transport (λ d. Leads hs d e) (w.stack.found e j opened) (leads_from (length fs - j) j q))

  -- what the code reads as the next class that the header names
  module _ (h : Header) (e : ℕ) (named : AreListed hs) (hi : h ≡ get_or hs f.class h) (long : f.next < (get_or hs f.class h).above.len) (ei : e ≡ get_or (get_or hs f.class h).above.items f.next e) where
    read_above : above hs f.class ≡ h.above.items
    read_above = header_at hs f.class h top_listed hi

    read_long : f.next < length h.above.items
    read_long = transport (λ z. f.next < z) h.above.ok.0 (transport (λ (g : Header). f.next < g.above.len) (sym hi) long)

    pub read_within : f.next < length (above hs f.class)
    read_within = transport (λ xs. f.next < length xs) (sym read_above) read_long

    pub read_is : e ≡ get_or (above hs f.class) f.next 0
    read_is = get_or_read h.above.items f.next e read_long (transport (λ (g : Header). e ≡ get_or g.above.items f.next e) (sym hi) ei) 0 ∙ ap (λ xs. get_or xs f.next 0) (sym read_above)

    pub read_listed : e < length hs
    read_listed = transport (λ z. z < length hs) (sym read_is) (named f.class f.next read_within)

    pub read_marked : e < length ms
    read_marked = let q = w.finished.marks in omega (arith, q, read_listed)

    pub read_mark : (m : Mark) → m ≡ get_or ms e m → mark_of ms e ≡ m
    read_mark m mi = sym (get_or_read ms e m read_marked mi New)

    pub read_done : (m : Mark) (i : ℕ) → m ≡ get_or ms e m → m ≡ Done i → (i : ℕ) × (mark_of ms (get_or (above hs f.class) f.next 0) ≡ Done i)
    read_done m i mi mo = (i, ap (mark_of ms) (sym read_is) ∙ read_mark m mi ∙ mo)

    pub read_cycle : (m : Mark) (j : ℕ) → m ≡ get_or ms e m → m ≡ Open j → HasCycle hs
    read_cycle m j mi mo = cycle e j read_is read_within (read_mark m mi ∙ mo)

-- a class is put on the empty stack
module _ (hs : List Header) (ms : List Mark) (ds : List ℕ) (r : ℕ) (w : IsWalk hs ms ds []) (listed : r < length hs) (new : mark_of ms r ≡ New) (before : (d : ℕ) → d < r → IsTouched ms d) where
  abbrev rooted_frame : Frame
  rooted_frame = record { class = r; next = 0 }

  rooted_marked : r < length ms
  rooted_marked = let q = w.finished.marks in omega (arith, q, listed)

  rooted_still : (d i : ℕ) → mark_of ms d ≡ Done i → mark_of (set ms r (Open 0)) d ≡ Done i
  rooted_still d i h = keep ms r d (Open 0) (Done i) (λ q. new_done _ (sym new ∙ q)) h

  rooted_was : (d i : ℕ) → mark_of (set ms r (Open 0)) d ≡ Done i → mark_of ms d ≡ Done i
  rooted_was d i h = elim (back ms r d (Open 0) (Done i) rooted_marked h) [ inl p ↦ absurd (open_done _ _ p.1) | inr p ↦ p.1 ]

  rooted_open : (d j : ℕ) → mark_of (set ms r (Open 0)) d ≡ Open j → (d ≡ r) × (j ≡ 0)
  rooted_open d j h = elim (back ms r d (Open 0) (Open j) rooted_marked h) [ inl p ↦ (p.0, sym (open_same _ _ p.1)) | inr p ↦ let l = w.stack.short d j p.1 in absurd (omega (arith, l)) ]

  rooted_done : (d : ℕ) (m : Mark) → mark_of ms d ≡ m → IsTouched ms d → (i : ℕ) × (mark_of ms d ≡ Done i)
  rooted_done d New q t = absurd (t q)
  rooted_done d (Open j) q t = let l = w.stack.short d j q in absurd (omega (arith, l))
  rooted_done d (Done i) q t = (i, q)

  at_root : (j : ℕ) → j < 1 → frame_at (rooted_frame ∷ []) j ≡ rooted_frame
  at_root j l = let q : j ≡ 0 = omega (arith, l) in ap (λ z. frame_at (rooted_frame ∷ []) z) q

  pub rooted : IsWalk hs (set ms r (Open 0)) ds (rooted_frame ∷ [])
  rooted = record {
    finished = record {
      marks = length-set ms r (Open 0) ∙ w.finished.marks;
      place = λ i l. rooted_still _ i (w.finished.place i l);
      listed = w.finished.listed;
      short = λ d i h. w.finished.short d i (rooted_was d i h);
      found = λ d i h. w.finished.found d i (rooted_was d i h);
      after = λ i k l h. let q = w.finished.after i k l h in (q.0, q.1, rooted_still _ q.0 q.2);
      next = w.finished.next;
    };
    stack = record {
      place = λ j l. let q : j ≡ 0 = omega (arith, l) in transport (λ z. mark_of (set ms r (Open 0)) (frame_at (rooted_frame ∷ []) z).class ≡ Open z) (sym q) (mark_same ms r (Open 0) rooted_marked);
      listed = λ j l. transport (λ (g : Frame). g.class < length hs) (sym (at_root j (omega (arith, l)))) listed;
      short = λ d j h. let q = (rooted_open d j h).1 in omega (arith, q);
      found = λ d j h. let q = rooted_open d j h in ap (λ (g : Frame). g.class) (at_root j (omega (arith, q.1))) ∙ sym q.0;
      looked = λ j k l h. let q : k < 0 = transport (λ (g : Frame). k < g.next) (at_root j (omega (arith, l))) h in absurd (omega (arith, q));
      within = λ j l. absurd (omega (arith, l));
      link = λ j l. absurd (omega (arith, l));
      first = λ c _ m. let q = rooted_done c (mark_of ms c) refl (before c m) in (q.0, rooted_still _ q.0 q.1);
    };
  }
