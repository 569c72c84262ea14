-- The search for the classes that a class leads to.
use Rattle.std.proofs.Common.{◌≡◌, ℕ, zero, suc, ◌<◌, ◌≤◌, ◌+◌, List, [], ◌∷◌, ◌++◌, inl, inr, Bool, true, false, refl, sym, ap, ◌∙◌, ◌↔◌, IsTrue, arith, length, get_or, set, replicate, get_or-set_same, get_or-set_other, subst as transport}
use Rattle.std.proofs.lemmas.Bool.{cases_eq}
use Rattle.std.proofs.lemmas.List.{length-append, length-set, get_or_append_left, get_or_at, get_or_read, length-replicate}
use Rattle.class_order.specs.declared.header.Header.{Header}
use Rattle.class_order.specs.Order.{above, Leads, names, passes}
use Rattle.class_fault.specs.Reach.{LeadsTo}
use Rattle.class_fault.specs.Search.{is_seen, unseen, IsSearch, AreLooked, IsSeenMore}
use Rattle.class_order.proofs.Lists.{push_lt, push_top, push_all, header_at}

pub leads_on : (hs : List Header) (d e : ℕ) → Leads hs d e → (k : ℕ) → k < length (above hs e) → Leads hs d (get_or (above hs e) k 0)
leads_on hs _ _ (names d j l) k m = passes d j _ l (names _ k m)
leads_on hs _ _ (passes d j e l r) k m = passes d j _ l (leads_on hs _ e r k m)

pub leads_more : (hs : List Header) (d e k : ℕ) → LeadsTo hs d e → k < length (above hs e) → LeadsTo hs d (get_or (above hs e) k 0)
leads_more hs d e k (inl q) m = inr (transport (λ z. Leads hs z (get_or (above hs e) k 0)) (sym q) (names e k m))
leads_more hs d e k (inr r) m = inr (leads_on hs d e r k m)

unseen_set : (bs : List Bool) (d : ℕ) → d < length bs → is_seen bs d ≡ false → unseen (set bs d true) + 1 ≡ unseen bs
unseen_set [] d l h = absurd (omega (arith, l))
unseen_set (true ∷ bs) zero l h = absurd (cc)
unseen_set (false ∷ bs) zero l h = omega arith
unseen_set (true ∷ bs) (suc d) l h = unseen_set bs d (omega (arith, l)) h
unseen_set (false ∷ bs) (suc d) l h = let r = unseen_set bs d (omega (arith, l)) h in omega (arith, r)

pub seen_same : (bs : List Bool) (q : List ℕ) → IsSeenMore bs bs q q
seen_same bs q = record { seen = λ d h. h; kept = λ j l. refl; grows = omega arith; longer = refl }

pub seen_trans : (xs bs cs : List Bool) (p q r : List ℕ) → IsSeenMore xs bs p q → IsSeenMore bs cs q r → IsSeenMore xs cs p r
seen_trans xs bs cs p q r a b = record {
  seen = λ d h. b.seen d (a.seen d h);
  kept = λ j h. b.kept j (let l = a.grows in omega (arith, l, h)) ∙ a.kept j h;
  grows = let l = a.grows in let m = b.grows in omega (arith, l, m);
  longer = b.longer ∙ a.longer;
}

module _ (hs : List Header) (from : ℕ) (bs : List Bool) (q : List ℕ) (c : ℕ) (w : IsSearch hs from bs q) (listed : c < length hs) (led : LeadsTo hs from c) (new : is_seen bs c ≡ false) where
  pub marked : c < length bs
  marked = let h = w.size in omega (arith, h, listed)

  here : is_seen (set bs c true) c ≡ true
  here = get_or-set_same bs c true false marked

  stays : (d : ℕ) → is_seen bs d ≡ true → is_seen (set bs c true) d ≡ true
  stays d h = elim (cases_eq d c) [ inl e ↦ ap (is_seen (set bs c true)) e ∙ here | inr n ↦ get_or-set_other bs c d true false n ∙ h ]

  pub see_search : IsSearch hs from (set bs c true) (q ++ c ∷ [])
  see_search = record {
    size = length-set bs c true ∙ w.size;
    found = λ d h. elim (cases_eq d c) [ inl e ↦ (length q, push_top q c, get_or_at q c [] 0 (length q) refl ∙ sym e) | inr n ↦ let r = w.found d (sym (get_or-set_other bs c d true false n) ∙ h) in (r.0, push_lt q c r.0 r.1, get_or_append_left q (c ∷ []) 0 r.0 r.1 ∙ r.2) ];
    listed = push_all (λ j e. e < length hs) q c 0 w.listed listed;
    led = push_all (λ j e. LeadsTo hs from e) q c 0 w.led led;
  }

  pub see_more : IsSeenMore bs (set bs c true) q (q ++ c ∷ [])
  see_more = record {
    seen = stays;
    kept = λ j l. get_or_append_left q (c ∷ []) 0 j l;
    grows = omega (arith, length-append q (c ∷ []));
    longer = let r = unseen_set bs c marked new in omega (arith, r, length-append q (c ∷ []));
  }

none_seen : (n d : ℕ) → is_seen (replicate n false) d ≡ false
none_seen zero d = refl
none_seen (suc n) zero = refl
none_seen (suc n) (suc d) = none_seen n d

true_false : true ≡ false → ⊥
true_false h = cc

pub search_start : (hs : List Header) (from : ℕ) → IsSearch hs from (replicate (length hs) false) []
search_start hs from = record {
  size = length-replicate (length hs) false;
  found = λ d h. absurd (true_false (sym h ∙ none_seen (length hs) d));
  listed = λ j l. absurd (omega (arith, l));
  led = λ j l. absurd (omega (arith, l));
}

module _ (hs : List Header) (from : ℕ) (bs : List Bool) (q : List ℕ) (w : IsSearch hs from bs q) (looked : AreLooked hs bs q (length q)) where
  next_seen : (d k : ℕ) → is_seen bs d ≡ true → k < length (above hs d) → is_seen bs (get_or (above hs d) k 0) ≡ true
  next_seen d k h l =
      let r = w.found d h in
      transport (λ z. is_seen bs (get_or (above hs z) k 0) ≡ true) r.2 (looked r.0 k r.1 (transport (λ z. k < length (above hs z)) (sym r.2) l))

  all_seen : (d e : ℕ) → Leads hs d e → is_seen bs d ≡ true → is_seen bs e ≡ true
  all_seen _ _ (names d k l) h = next_seen d k h l
  all_seen _ _ (passes d k e l r) h = all_seen _ e r (next_seen d k h l)

  pub seen_led : is_seen bs from ≡ true → (d : ℕ) → LeadsTo hs from d → is_seen bs d ≡ true
  seen_led h d (inl e) = ap (is_seen bs) (sym e) ∙ h
  seen_led h d (inr r) = all_seen from d r h

  pub led_seen : (d : ℕ) → is_seen bs d ≡ true → LeadsTo hs from d
  led_seen d h = let r = w.found d h in transport (LeadsTo hs from) r.2 (w.led r.0 r.1)

pub above_read : (hs : List Header) (q : List ℕ) (i c : ℕ) (h : Header) (xs : List ℕ) → i < length q → c ≡ get_or q i c → get_or q i 0 < length hs → h ≡ get_or hs c h → xs ≡ (get_or hs c h).above.items → above hs (get_or q i 0) ≡ xs
above_read hs q i c h xs l ci listed hi xi =
    let e : c ≡ get_or q i 0 = get_or_read q i c l ci 0 in
    let m : c < length hs = transport (λ z. z < length hs) (sym e) listed in
    ap (above hs) (sym e) ∙ header_at hs c h m hi ∙ ap (λ (g : Header). g.above.items) hi ∙ sym xi

pub leads_at : (hs : List Header) (from d k : ℕ) (xs : List ℕ) → above hs d ≡ xs → LeadsTo hs from d → k < length xs → LeadsTo hs from (get_or xs k 0)
leads_at hs from d k xs s r l = transport (λ ys. LeadsTo hs from (get_or ys k 0)) s (leads_more hs from d k r (transport (λ ys. k < length ys) (sym s) l))

pub looked_more : (xs : List ℕ) (as1 bs : List Bool) (p q : List ℕ) (i : ℕ) → {x : ℕ} → IsSeenMore as1 bs p q → ((k : ℕ) → k < i → is_seen as1 (get_or xs k 0) ≡ true) → get_or xs i 0 ≡ x → is_seen bs x ≡ true → (k : ℕ) → k < i + 1 → is_seen bs (get_or xs k 0) ≡ true
looked_more xs as1 bs p q i a looked e h k l =
    elim (cases_eq k i) [ inl s ↦ ap (λ z. is_seen bs (get_or xs z 0)) s ∙ ap (is_seen bs) e ∙ h | inr n ↦ a.seen _ (looked k (omega (arith, l, n))) ]

pub decided : (hs : List Header) (from goal : ℕ) (bs : List Bool) (q : List ℕ) (i : ℕ) → IsSearch hs from bs q → AreLooked hs bs q i → is_seen bs from ≡ true → goal < length hs → length q ≤ i → (b : Bool) → b ≡ get_or bs goal b → IsTrue b ↔ LeadsTo hs from goal
decided hs from goal bs q i w looked start listed end b e =
    let m : goal < length bs = let h = w.size in omega (arith, h, listed) in
    let r : b ≡ is_seen bs goal = get_or_read bs goal b m e false in
    let all : AreLooked hs bs q (length q) = λ j k l. looked j k (omega (arith, l, end)) in
    (λ h. led_seen hs from bs q w all goal (sym r ∙ h), λ h. r ∙ seen_led hs from bs q w all start goal h)
