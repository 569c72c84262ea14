-- Clauses over the numbers of interned types, as the code makes them.
use Rattle.std.proofs.Common.{◌≡◌, ◌≢◌, ℕ, zero, suc, ◌+◌, ◌<◌, ◌≤◌, ◌⊎◌, inl, inr, List, [], ◌∷◌, ◌++◌, length, map, filter, drop, get_or, Bool, true, false, cond, nat_eq, ◌==◌, min, refl, sym, ap, ◌∙◌, arith, append_assoc, add-one, subst as transport}
use Rattle.std.specs.Global.{Vec}
use Rattle.std.proofs.lemmas.List.{map-append}
use Rattle.dart_ir.specs.Ty.{Ty, Tys, NamedTys, nil, cons}
use Rattle.dart_type.specs.declared.intern.NamedNode.{NamedNode}
use Rattle.dart_type.specs.declared.clauses.Comparison.{Comparison}
use Rattle.dart_ir.specs.Classes.{count}
use Rattle.dart_type.specs.Search.{Goal, facing}
use Rattle.dart_type.specs.Intern.{read, reads, named_reads, AreBelow, AreNamedBelow}
use Rattle.dart_type.specs.Clauses.{ways_of, clauses_of, AreListed, AllListed, positional_pairs, named_pair_ways, named_pairs}

pub drop_at : {X : Type 0} (xs : List X) (i : ℕ) (d : X) → i < length xs → drop i xs ≡ get_or xs i d ∷ drop (suc i) xs
drop_at [] i d h = absurd (omega (arith, h))
drop_at (x ∷ xs) zero d h = refl
drop_at (x ∷ xs) (suc i) d h = drop_at xs i d (omega (arith, h))

pub drop_past : {X : Type 0} (xs : List X) (i : ℕ) → length xs ≤ i → drop i xs ≡ []
drop_past [] zero h = refl
drop_past [] (suc i) h = refl
drop_past (x ∷ xs) zero h = absurd (omega (arith, h))
drop_past (x ∷ xs) (suc i) h = drop_past xs i (omega (arith, h))

two : {X Y : Type 0} (f : X → X → Y) (a b c d : X) → a ≡ b → c ≡ d → f a c ≡ f b d
two f a b c d e h = ap (λ x. f x c) e ∙ ap (f b) h

none_left : (ts : Tys) → positional_pairs ts nil ≡ []
none_left nil = refl
none_left (cons t ts) = refl

pub push_clause : (us : List Ty) (cs : List (Vec Comparison)) (v : Vec Comparison) (g : List Goal) (rest all : List (List Goal)) → ways_of us v.items ≡ g → clauses_of us cs ++ (g ∷ rest) ≡ all → clauses_of us (cs ++ v ∷ []) ++ rest ≡ all
push_clause us cs v g rest all e h =
    ap (λ z. z ++ rest) (map-append (λ (c : Vec Comparison). ways_of us c.items) cs (v ∷ [])) ∙ append_assoc (clauses_of us cs) (ways_of us v.items ∷ []) rest
    ∙ ap (λ z. clauses_of us cs ++ (z ∷ rest)) e ∙ h

pub all_listed_push : (n : ℕ) (cs : List (Vec Comparison)) (v : Vec Comparison) → AllListed n cs → AreListed n v.items → AllListed n (cs ++ v ∷ [])
all_listed_push n [] v h l = (l, tt)
all_listed_push n (c ∷ cs) v h l = (h.0, all_listed_push n cs v h.1 l)

pub facing_step : (us : List Ty) (ts ss : List ℕ) (w : List Goal) (i : ℕ) → i < length ts → i < length ss
    → facing (reads us (drop i ts)) (reads us (drop i ss)) w ≡ ((read us (get_or ts i 0), read us (get_or ss i 0)) ∷ w) ∷ facing (reads us (drop (i + 1) ts)) (reads us (drop (i + 1) ss)) w
facing_step us ts ss w i h l =
    two (λ x y. facing (reads us x) (reads us y) w) (drop i ts) (get_or ts i 0 ∷ drop (suc i) ts) (drop i ss) (get_or ss i 0 ∷ drop (suc i) ss) (drop_at ts i 0 h) (drop_at ss i 0 l)
    ∙ ap (λ m. ((read us (get_or ts i 0), read us (get_or ss i 0)) ∷ w) ∷ facing (reads us (drop m ts)) (reads us (drop m ss)) w) (sym (add-one i))

pub facing_done : (us : List Ty) (ts ss : List ℕ) (w : List Goal) (i : ℕ) → length ts ≤ i → length ss ≤ i → facing (reads us (drop i ts)) (reads us (drop i ss)) w ≡ []
facing_done us ts ss w i h l = two (λ x y. facing (reads us x) (reads us y) w) (drop i ts) [] (drop i ss) [] (drop_past ts i h) (drop_past ss i l)

facing_longer : (us : List Ty) (ts ss : List ℕ) (w : List Goal) (i : ℕ) → length ts ≤ i → i < length ss → facing (reads us (drop i ts)) (reads us (drop i ss)) w ≡ w ∷ []
facing_longer us ts ss w i h l = two (λ x y. facing (reads us x) (reads us y) w) (drop i ts) [] (drop i ss) (get_or ss i 0 ∷ drop (suc i) ss) (drop_past ts i h) (drop_at ss i 0 l)

facing_shorter : (us : List Ty) (ts ss : List ℕ) (w : List Goal) (i : ℕ) → i < length ts → length ss ≤ i → facing (reads us (drop i ts)) (reads us (drop i ss)) w ≡ w ∷ []
facing_shorter us ts ss w i h l = two (λ x y. facing (reads us x) (reads us y) w) (drop i ts) (get_or ts i 0 ∷ drop (suc i) ts) (drop i ss) [] (drop_at ts i 0 h) (drop_past ss i l)

less_or_more : (a b : ℕ) → a ≢ b → (a < b) ⊎ (b < a)
less_or_more zero zero h = absurd (h refl)
less_or_more zero (suc b) h = inl (omega arith)
less_or_more (suc a) zero h = inr (omega arith)
less_or_more (suc a) (suc b) h = elim (less_or_more a b (λ e. h (ap suc e))) [ inl l ↦ inl (omega (arith, l)) | inr l ↦ inr (omega (arith, l)) ]

pub facing_uneven : (us : List Ty) (ts ss : List ℕ) (w : List Goal) (i : ℕ) → length ts ≢ length ss → i ≡ min (length ts) (length ss) → facing (reads us (drop i ts)) (reads us (drop i ss)) w ≡ w ∷ []
facing_uneven us ts ss w i h e =
    elim (less_or_more (length ts) (length ss) h) [
      | inl l ↦ facing_longer us ts ss w i (omega (arith, e, l)) (omega (arith, e, l))
      | inr l ↦ facing_shorter us ts ss w i (omega (arith, e, l)) (omega (arith, e, l))
    ]

pub positional_step : (us : List Ty) (ts ss : List ℕ) (i : ℕ) → i < length ts → i < length ss
    → positional_pairs (reads us (drop i ts)) (reads us (drop i ss)) ≡ ((read us (get_or ts i 0), read us (get_or ss i 0)) ∷ []) ∷ positional_pairs (reads us (drop (i + 1) ts)) (reads us (drop (i + 1) ss))
positional_step us ts ss i h l =
    two (λ x y. positional_pairs (reads us x) (reads us y)) (drop i ts) (get_or ts i 0 ∷ drop (suc i) ts) (drop i ss) (get_or ss i 0 ∷ drop (suc i) ss) (drop_at ts i 0 h) (drop_at ss i 0 l)
    ∙ ap (λ m. ((read us (get_or ts i 0), read us (get_or ss i 0)) ∷ []) ∷ positional_pairs (reads us (drop m ts)) (reads us (drop m ss))) (sym (add-one i))

pub positional_done : (us : List Ty) (ts ss : List ℕ) (i : ℕ) → length ss ≤ i → positional_pairs (reads us (drop i ts)) (reads us (drop i ss)) ≡ []
positional_done us ts ss i l = ap (λ y. positional_pairs (reads us (drop i ts)) (reads us y)) (drop_past ss i l) ∙ none_left (reads us (drop i ts))

pub positional_longer : (us : List Ty) (ts ss : List ℕ) (i : ℕ) → length ts ≤ i → i < length ss → positional_pairs (reads us (drop i ts)) (reads us (drop i ss)) ≡ [] ∷ []
positional_longer us ts ss i h l = two (λ x y. positional_pairs (reads us x) (reads us y)) (drop i ts) [] (drop i ss) (get_or ss i 0 ∷ drop (suc i) ss) (drop_past ts i h) (drop_at ss i 0 l)

named_cond : (us : List Ty) (n m : NamedNode) (ns : List NamedNode) (b : Bool)
    → ways_of us (map (λ z. record { t = z.of; s = m.of }) (cond b (n ∷ ns) ns)) ≡ cond b ((read us n.of, read us m.of) ∷ []) [] ++ ways_of us (map (λ z. record { t = z.of; s = m.of }) ns)
named_cond us n m ns true = refl
named_cond us n m ns false = refl

pub named_ways_are : (us : List Ty) (m : NamedNode) (ns : List NamedNode)
    → ways_of us (map (λ z. record { t = z.of; s = m.of }) (filter (λ z. z.name == m.name) ns)) ≡ named_pair_ways (named_reads us ns) m.name (read us m.of)
named_ways_are us m [] = refl
named_ways_are us m (n ∷ ns) =
    named_cond us n m (filter (λ z. z.name == m.name) ns) (nat_eq n.name m.name)
    ∙ ap (λ z. cond (nat_eq n.name m.name) ((read us n.of, read us m.of) ∷ []) [] ++ z) (named_ways_are us m ns)

listed_cond : (k : ℕ) (n m : NamedNode) (ns : List NamedNode) (b : Bool) → n.of < k → m.of < k → AreListed k (map (λ z. record { t = z.of; s = m.of }) ns) → AreListed k (map (λ z. record { t = z.of; s = m.of }) (cond b (n ∷ ns) ns))
listed_cond k n m ns true h l r = ((h, l), r)
listed_cond k n m ns false h l r = r

pub named_ways_listed : (k : ℕ) (m : NamedNode) (ns : List NamedNode) → m.of < k → AreNamedBelow k ns → AreListed k (map (λ z. record { t = z.of; s = m.of }) (filter (λ z. z.name == m.name) ns))
named_ways_listed k m [] h l = tt
named_ways_listed k m (n ∷ ns) h l =
    listed_cond k n m (filter (λ z. z.name == m.name) ns) (nat_eq n.name m.name) (l zero n (omega arith)) h (named_ways_listed k m ns h (λ i d r. l (suc i) d (omega (arith, r))))

pub named_step : (us : List Ty) (n : NamedTys) (ms : List NamedNode) (i : ℕ) (d : NamedNode) → i < length ms
    → named_pairs n (named_reads us (drop i ms)) ≡ named_pair_ways n (get_or ms i d).name (read us (get_or ms i d).of) ∷ named_pairs n (named_reads us (drop (i + 1) ms))
named_step us n ms i d h =
    ap (λ x. named_pairs n (named_reads us x)) (drop_at ms i d h)
    ∙ ap (λ m. named_pair_ways n (get_or ms i d).name (read us (get_or ms i d).of) ∷ named_pairs n (named_reads us (drop m ms))) (sym (add-one i))

abbrev pair_at : List ℕ → List ℕ → ℕ → Comparison
pair_at ts ss i = record { t = get_or ts i 0; s = get_or ss i 0 }

module _ (us : List Ty) (ts ss : List ℕ) (ways : List Comparison) (cs new : List (Vec Comparison)) (v : Vec Comparison) (i : ℕ) (pushed : new ≡ cs ++ v ∷ []) (made : v.items ≡ pair_at ts ss i ∷ ways) (in_ts : i < length ts) (in_ss : i < length ss) (all : List (List Goal)) where
  pub facing_more : clauses_of us cs ++ facing (reads us (drop i ts)) (reads us (drop i ss)) (ways_of us ways) ≡ all
      → clauses_of us new ++ facing (reads us (drop (i + 1) ts)) (reads us (drop (i + 1) ss)) (ways_of us ways) ≡ all
  facing_more h =
      let rest = facing (reads us (drop (i + 1) ts)) (reads us (drop (i + 1) ss)) (ways_of us ways) in
      ap (λ z. clauses_of us z ++ rest) pushed
      ∙ push_clause us cs v ((read us (get_or ts i 0), read us (get_or ss i 0)) ∷ ways_of us ways) rest all (ap (ways_of us) made)
      (ap (λ z. clauses_of us cs ++ z) (sym (facing_step us ts ss (ways_of us ways) i in_ts in_ss)) ∙ h)

module _ (us : List Ty) (ts ss : List ℕ) (cs new : List (Vec Comparison)) (v : Vec Comparison) (i : ℕ) (pushed : new ≡ cs ++ v ∷ []) (made : v.items ≡ pair_at ts ss i ∷ []) (in_ts : i < length ts) (in_ss : i < length ss) (all : List (List Goal)) where
  pub positional_more : clauses_of us cs ++ positional_pairs (reads us (drop i ts)) (reads us (drop i ss)) ≡ all
      → clauses_of us new ++ positional_pairs (reads us (drop (i + 1) ts)) (reads us (drop (i + 1) ss)) ≡ all
  positional_more h =
      let rest = positional_pairs (reads us (drop (i + 1) ts)) (reads us (drop (i + 1) ss)) in
      ap (λ z. clauses_of us z ++ rest) pushed
      ∙ push_clause us cs v ((read us (get_or ts i 0), read us (get_or ss i 0)) ∷ []) rest all (ap (ways_of us) made)
      (ap (λ z. clauses_of us cs ++ z) (sym (positional_step us ts ss i in_ts in_ss)) ∙ h)

pub pair_listed : (n : ℕ) (ts ss : List ℕ) (ways : List Comparison) (cs new : List (Vec Comparison)) (v : Vec Comparison) (i : ℕ) → new ≡ cs ++ v ∷ [] → v.items ≡ pair_at ts ss i ∷ ways → i < length ts → i < length ss
    → AreBelow n ts → AreBelow n ss → AreListed n ways → AllListed n cs → AllListed n new
pair_listed n ts ss ways cs new v i pushed made h l a b w c =
    transport (AllListed n) (sym pushed) (all_listed_push n cs v c (transport (AreListed n) (sym made) ((a i 0 h, b i 0 l), w)))

-- the last clause, where nothing else follows
pub last_clause : (us : List Ty) (cs new : List (Vec Comparison)) (v : Vec Comparison) (g : List Goal) (rest all : List (List Goal)) → new ≡ cs ++ v ∷ [] → ways_of us v.items ≡ g → rest ≡ g ∷ [] → clauses_of us cs ++ rest ≡ all → clauses_of us new ≡ all
last_clause us cs new v g rest all pushed made e h =
    ap (clauses_of us) pushed ∙ map-append (λ (c : Vec Comparison). ways_of us c.items) cs (v ∷ []) ∙ ap (λ z. clauses_of us cs ++ (z ∷ [])) made ∙ ap (λ z. clauses_of us cs ++ z) (sym e) ∙ h

pub named_clause_more : (us : List Ty) (ns ms : List NamedNode) (cs new : List (Vec Comparison)) (v : Vec Comparison) (i : ℕ) (d : NamedNode) (all : List (List Goal)) → new ≡ cs ++ v ∷ []
    → v.items ≡ map (λ z. record { t = z.of; s = (get_or ms i d).of }) (filter (λ z. z.name == (get_or ms i d).name) ns) → i < length ms
    → clauses_of us cs ++ named_pairs (named_reads us ns) (named_reads us (drop i ms)) ≡ all → clauses_of us new ++ named_pairs (named_reads us ns) (named_reads us (drop (i + 1) ms)) ≡ all
named_clause_more us ns ms cs new v i d all pushed made h k =
    let rest = named_pairs (named_reads us ns) (named_reads us (drop (i + 1) ms)) in
    let m = get_or ms i d in
    ap (λ z. clauses_of us z ++ rest) pushed
    ∙ push_clause us cs v (named_pair_ways (named_reads us ns) m.name (read us m.of)) rest all (ap (ways_of us) made ∙ named_ways_are us m ns)
    (ap (λ z. clauses_of us cs ++ z) (sym (named_step us (named_reads us ns) ms i d h)) ∙ k)

pub named_clause_listed : (n : ℕ) (ns ms : List NamedNode) (cs new : List (Vec Comparison)) (v : Vec Comparison) (i : ℕ) (d : NamedNode) → new ≡ cs ++ v ∷ []
    → v.items ≡ map (λ z. record { t = z.of; s = (get_or ms i d).of }) (filter (λ z. z.name == (get_or ms i d).name) ns) → i < length ms
    → AreNamedBelow n ns → AreNamedBelow n ms → AllListed n cs → AllListed n new
named_clause_listed n ns ms cs new v i d pushed made h a b c =
    transport (AllListed n) (sym pushed) (all_listed_push n cs v c (transport (AreListed n) (sym made) (named_ways_listed n (get_or ms i d) ns (b i d h) a)))

pub count_reads : (us : List Ty) (is : List ℕ) → count (reads us is) ≡ length is
count_reads us [] = refl
count_reads us (i ∷ is) = ap suc (count_reads us is)

pub four : {X : Type 0} (a b c d r t p n : List X) → a ≡ r → b ≡ a ++ t → c ≡ b ++ p → d ≡ c ++ n → d ≡ r ++ (t ++ (p ++ n))
four a b c d r t p n e f g h =
    h ∙ ap (λ z. z ++ n) g ∙ ap (λ z. (z ++ p) ++ n) f ∙ ap (λ z. ((z ++ t) ++ p) ++ n) e ∙ append_assoc (r ++ t) p n ∙ append_assoc r t (p ++ n)

pub pairs_over : (f : Tys → Tys → List (List Goal)) (a b c d : Tys) → a ≡ b → c ≡ d → f a c ≡ f b d
pairs_over f a b c d e h = ap (λ x. f x c) e ∙ ap (f b) h

pub tests_over : (f : ℕ → ℕ → Bool) (a b c d : ℕ) → a ≡ b → c ≡ d → f a c ≡ f b d
tests_over f a b c d e h = ap (λ x. f x c) e ∙ ap (f b) h
