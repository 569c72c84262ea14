-- A function shares a variable that it declares with those directly in it that take it along: exactly where one inside names it.
use Rattle.std.proofs.Common.{◌≡◌, ℕ, zero, suc, ◌<◌, arith, Bool, true, false, ◌||◌, ◌&&◌, List, [], ◌∷◌, Option, Some, None, ◌⊎◌, inl, inr, refl, ap, ◌∙◌, subst as transport, slice_get, IsTrue, ◌↔◌}
use Rattle.std.specs.List.{list_any}
use Rattle.std.proofs.lemmas.Bool.{or_cases, false≢true, eqb-true, eq-eqb}
use Rattle.std.proofs.Math.Bool.{or-true}
use Rattle.core_program.specs.Core.{Core, Form}
use Rattle.core_program.specs.Core as c
use Rattle.core_program.specs.Program.{Function}
use Rattle.core_program.specs.Captured.{form_of, part_nodes, any_form, makes, leaf_makes, declares, function_declares, function_makes, function_captures, Declares, NamesVar, Makes, Captures, CapturesWithin, IsInside, directly, deeper, IsCaptured, ListCaptures}
use Rattle.core_program.specs.Seeking.{takes, leaf_takes, function_shares, takes_declared}

both : (a b : Bool) → (a && b) ≡ true → (a ≡ true) × (b ≡ true)
both true b h = (refl, h)
both false b h = absurd (false≢true h)

-- ---- a closure that takes the variable along

here_leaf : (fs : List (Function ℕ)) (x : ℕ) (l : c.Leaf ℕ) → leaf_takes fs x l ≡ true
    → (g : ℕ) × ((leaf_makes g l ≡ true) × (function_captures x (slice_get fs g) ≡ true))
here_leaf fs x (c.closure g) h = (g, (eq-eqb g g refl, h))
here_leaf fs x other h = absurd (false≢true h)

here : (fs : List (Function ℕ)) (x : ℕ) (f : Form ℕ) → takes fs x f ≡ true
    → (g : ℕ) × ((makes g f ≡ true) × (function_captures x (slice_get fs g) ≡ true))
here fs x (c.leaf l) h = here_leaf fs x l h
here fs x other h = absurd (false≢true h)

first_or_later : (fs : List (Function ℕ)) (x : ℕ) (n : Core ℕ) (ns : List (Core ℕ))
    → (list_any (λ m. takes fs x (form_of m)) ns ≡ true
    → (g : ℕ) × ((list_any (λ m. makes g (form_of m)) ns ≡ true) × (function_captures x (slice_get fs g) ≡ true)))
    → (takes fs x (form_of n) ≡ true) ⊎ (list_any (λ m. takes fs x (form_of m)) ns ≡ true)
    → (g : ℕ) × ((list_any (λ m. makes g (form_of m)) (n ∷ ns) ≡ true) × (function_captures x (slice_get fs g) ≡ true))
first_or_later fs x n ns rest (inl e) =
    let r = here fs x (form_of n) e in (r.0, (ap (λ b. b || list_any (λ m. makes r.0 (form_of m)) ns) r.1.0, r.1.1))
first_or_later fs x n ns rest (inr e) =
    let r = rest e in (r.0, (ap (λ b. makes r.0 (form_of n) || b) r.1.0 ∙ or-true (makes r.0 (form_of n)), r.1.1))

among : (fs : List (Function ℕ)) (x : ℕ) (ns : List (Core ℕ)) → list_any (λ n. takes fs x (form_of n)) ns ≡ true
    → (g : ℕ) × ((list_any (λ n. makes g (form_of n)) ns ≡ true) × (function_captures x (slice_get fs g) ≡ true))
among fs x [] h = absurd (false≢true h)
among fs x (n ∷ ns) h = first_or_later fs x n ns (among fs x ns) (or_cases (takes fs x (form_of n)) (list_any (λ m. takes fs x (form_of m)) ns) h)

taken_leaf : (fs : List (Function ℕ)) (x g : ℕ) (l : c.Leaf ℕ) → leaf_makes g l ≡ true → function_captures x (slice_get fs g) ≡ true → leaf_takes fs x l ≡ true
taken_leaf fs x g (c.closure h) e k = transport (λ z. function_captures x (slice_get fs z) ≡ true) (eqb-true g h e) k
taken_leaf fs x g other e k = absurd (false≢true e)

taken_here : (fs : List (Function ℕ)) (x g : ℕ) (f : Form ℕ) → makes g f ≡ true → function_captures x (slice_get fs g) ≡ true → takes fs x f ≡ true
taken_here fs x g (c.leaf l) e k = taken_leaf fs x g l e k
taken_here fs x g other e k = absurd (false≢true e)

taken_first_or_later : (fs : List (Function ℕ)) (x g : ℕ) (n : Core ℕ) (ns : List (Core ℕ)) → function_captures x (slice_get fs g) ≡ true
    → (list_any (λ m. makes g (form_of m)) ns ≡ true → list_any (λ m. takes fs x (form_of m)) ns ≡ true)
    → (makes g (form_of n) ≡ true) ⊎ (list_any (λ m. makes g (form_of m)) ns ≡ true) → list_any (λ m. takes fs x (form_of m)) (n ∷ ns) ≡ true
taken_first_or_later fs x g n ns k rest (inl m) = ap (λ b. b || list_any (λ o. takes fs x (form_of o)) ns) (taken_here fs x g (form_of n) m k)
taken_first_or_later fs x g n ns k rest (inr m) = ap (λ b. takes fs x (form_of n) || b) (rest m) ∙ or-true (takes fs x (form_of n))

taken : (fs : List (Function ℕ)) (x g : ℕ) (ns : List (Core ℕ)) → list_any (λ n. makes g (form_of n)) ns ≡ true
    → function_captures x (slice_get fs g) ≡ true → list_any (λ n. takes fs x (form_of n)) ns ≡ true
taken fs x g [] e k = absurd (false≢true e)
taken fs x g (n ∷ ns) e k =
    taken_first_or_later fs x g n ns k (λ m. taken fs x g ns m k) (or_cases (makes g (form_of n)) (list_any (λ m. makes g (form_of m)) ns) e)

-- ---- a function that declares it and shares it

apart : (fs : List (Function ℕ)) (x : ℕ) (o : Option (Function ℕ)) → function_shares fs x o ≡ true
    → (function_declares x o ≡ true) × ((g : ℕ) × ((function_makes g o ≡ true) × (function_captures x (slice_get fs g) ≡ true)))
apart fs x None h = absurd (false≢true h)
apart fs x (Some f) h = let b = both (function_declares x (Some f)) (any_form (takes fs x) f.body) h in (b.0, among fs x (part_nodes f.body) b.1)

together : (fs : List (Function ℕ)) (x : ℕ) (o : Option (Function ℕ)) → function_declares x o ≡ true
    → (g : ℕ) → function_makes g o ≡ true → function_captures x (slice_get fs g) ≡ true → function_shares fs x o ≡ true
together fs x None d g m k = absurd (false≢true d)
together fs x (Some f) d g m k = ap (λ b. b && any_form (takes fs x) f.body) d ∙ taken fs x g (part_nodes f.body) m k

-- ---- functions inside

module _ (fs : List (Function ℕ)) (lists : ListCaptures fs) (x : ℕ) where
  inside_by : (f g h : ℕ) → Makes fs f g → (g ≡ h) ⊎ IsInside fs g h → IsInside fs f h
  inside_by f g h m (inl e) = transport (λ z. IsInside fs f z) e (directly f g m)
  inside_by f g h m (inr i) = deeper f g h m i

  less_again : (a b n : ℕ) → a < b → b < suc n → a < n
  less_again a b n p q = omega arith

  none_below : (a : ℕ) → a < 0 → ⊥
  none_below a p = omega arith

  own_or_within : (n g : ℕ) → lists.nested.0 g < suc n
      → ((k : ℕ) → lists.nested.0 k < n → Captures fs k x → (h : ℕ) × (((k ≡ h) ⊎ IsInside fs k h) × NamesVar fs h x))
      → NamesVar fs g x ⊎ CapturesWithin fs g x → (h : ℕ) × (((g ≡ h) ⊎ IsInside fs g h) × NamesVar fs h x)
  own_or_within n g less rest (inl named) = (g, (inl refl, named))
  own_or_within n g less rest (inr w) =
      let r = rest w.0 (less_again (lists.nested.0 w.0) (lists.nested.0 g) n (lists.nested.1 g w.0 w.1.0) less) w.1.1 in
      (r.0, (inr (inside_by g w.0 r.0 w.1.0 r.1.0), r.1.1))

  -- what a function takes along, it or one inside it names
  down : (n g : ℕ) → lists.nested.0 g < n → Captures fs g x → (h : ℕ) × (((g ≡ h) ⊎ IsInside fs g h) × NamesVar fs h x)
  down zero g less k = absurd (none_below (lists.nested.0 g) less)
  down (suc n) g less k = own_or_within n g less (down n) ((lists.listed g x).0 k).1

  -- what one inside names, each around it takes along, where none of them declares it
  climb : (g h : ℕ) → IsInside fs g h → NamesVar fs h x → ((k : ℕ) → (g ≡ k) ⊎ IsInside fs g k → (¬ Declares fs k x)) → Captures fs g x
  climb g h (directly _ _ m) named free =
      (lists.listed g x).1 (free g (inl refl), inr (h, (m, (lists.listed h x).1 (free h (inr (directly g h m)), inl named))))
  climb g h (deeper _ k _ m i) named free =
      (lists.listed g x).1 (free g (inl refl), inr (k, (m, climb k h i named (λ j w. free j (inr (inside_by g k j m w))))))

  first : (f h : ℕ) → IsInside fs f h → NamesVar fs h x → ((k : ℕ) → IsInside fs f k → (¬ Declares fs k x)) → (g : ℕ) × (Makes fs f g × Captures fs g x)
  first f h (directly _ _ m) named free = (h, (m, (lists.listed h x).1 (free h (directly f h m), inl named)))
  first f h (deeper _ g _ m i) named free = (g, (m, climb g h i named (λ k w. free k (inside_by f g k m w))))

  above : (a : ℕ) → a < suc a
  above a = omega arith

  forth : (f : ℕ) → takes_declared fs f x ≡ true → IsCaptured fs f x
  forth f t =
      let s = apart fs x (slice_get fs f) t in
      let r = down (suc (lists.nested.0 s.1.0)) s.1.0 (above (lists.nested.0 s.1.0)) s.1.1.1 in
      record { declared = s.0; named = (r.0, (inside_by f s.1.0 r.0 s.1.1.0 r.1.0, r.1.1)) }

  back : (f : ℕ) → IsCaptured fs f x → takes_declared fs f x ≡ true
  back f k =
      let r = first f k.named.0 k.named.1.0 k.named.1.1 (λ j i. lists.once f j x k.declared i) in
      together fs x (slice_get fs f) k.declared r.0 r.1.0 r.1.1

pub exact_captures : (fs : List (Function ℕ)) (f x : ℕ) → ListCaptures fs → IsTrue (takes_declared fs f x) ↔ IsCaptured fs f x
exact_captures fs f x lists = (forth fs lists x f, back fs lists x f)
