-- Lists of nodes that grow, and the types that they keep.
use Rattle.std.proofs.Common.{◌≡◌, ℕ, zero, suc, ◌+◌, ◌<◌, ◌≤◌, ◌⊎◌, inl, inr, List, [], ◌∷◌, ◌++◌, length, map, get_or, refl, sym, ap, ◌∙◌, arith, length-append, take, add-one, subst as transport}
use Rattle.std.proofs.lemmas.List.{map-append}
use Rattle.std.proofs.lemmas.List.{get_or_append_left}
use Rattle.std.proofs.Math.Seq.{get_or-append_seam}
use Rattle.dart_ir.specs.Ty.{Ty, dynamic, class, of_list, of_named}
use Rattle.dart_type.specs.declared.intern.NamedNode.{NamedNode}
use Rattle.dart_type.specs.declared.intern.Node.{Node}
use Rattle.dart_type.specs.declared.intern.Node.TheVariants.{Dynamic, Bottom, Void, Class, Function}
use Rattle.dart_type.specs.Intern.{read, reads, named_read, named_reads, node_type, grow, types, AreBelow, AreNamedBelow, IsOver, IsBuilt, IsNodeOf, IsCopy, Grows, Gives, GivesAll, GivesNamed}

grow_push : (ts : List Ty) (ns : List Node) (n : Node) → grow ts (ns ++ n ∷ []) ≡ grow ts ns ++ node_type (grow ts ns) n ∷ []
unfolding grow
grow_push ts [] n = refl
grow_push ts (m ∷ ns) n = grow_push (ts ++ node_type ts m ∷ []) ns n

-- one more node has one more type
pub types_push : (ns : List Node) (n : Node) → types (ns ++ n ∷ []) ≡ types ns ++ node_type (types ns) n ∷ []
unfolding types
types_push ns n = grow_push [] ns n

grow_length : (ts : List Ty) (ns : List Node) → length (grow ts ns) ≡ length ts + length ns
unfolding grow
grow_length ts [] = omega arith
grow_length ts (n ∷ ns) =
    let h = grow_length (ts ++ node_type ts n ∷ []) ns in
    let l : length (ts ++ node_type ts n ∷ []) ≡ length ts + 1 = simp length-append (omega arith) in
    omega (arith, h, l)

pub types_length : (ns : List Node) → length (types ns) ≡ length ns
unfolding types
types_length ns = let h = grow_length [] ns in omega (arith, h)

-- equal reads make equal nodes
pub maps_same : (ts us : List Ty) (n : ℕ) → ((i : ℕ) → i < n → read us i ≡ read ts i) → (is : List ℕ) → AreBelow n is → map (read us) is ≡ map (read ts) is
maps_same ts us n h [] b = refl
maps_same ts us n h (i ∷ is) b =
    let e = h i (b zero i (omega arith)) in
    let es = maps_same ts us n h is (λ k d l. b (suc k) d (omega (arith, l))) in
    let two : read us i ∷ map (read us) is ≡ read ts i ∷ map (read ts) is = cc in two

pub reads_same : (ts us : List Ty) (n : ℕ) → ((i : ℕ) → i < n → read us i ≡ read ts i) → (is : List ℕ) → AreBelow n is → reads us is ≡ reads ts is
reads_same ts us n h is b = ap of_list (maps_same ts us n h is b)

pub named_maps_same : (ts us : List Ty) (n : ℕ) → ((i : ℕ) → i < n → read us i ≡ read ts i) → (is : List NamedNode) → AreNamedBelow n is → map (named_read us) is ≡ map (named_read ts) is
named_maps_same ts us n h [] b = refl
named_maps_same ts us n h (i ∷ is) b =
    let e : named_read us i ≡ named_read ts i = ap (λ t. (i.name, t)) (h i.of (b zero i (omega arith))) in
    let es = named_maps_same ts us n h is (λ k d l. b (suc k) d (omega (arith, l))) in
    let two : named_read us i ∷ map (named_read us) is ≡ named_read ts i ∷ map (named_read ts) is = cc in two

pub named_reads_same : (ts us : List Ty) (n : ℕ) → ((i : ℕ) → i < n → read us i ≡ read ts i) → (is : List NamedNode) → AreNamedBelow n is → named_reads us is ≡ named_reads ts is
named_reads_same ts us n h is b = ap of_named (named_maps_same ts us n h is b)

pub node_same : (ts us : List Ty) (n : ℕ) → ((i : ℕ) → i < n → read us i ≡ read ts i) → (m : Node) → IsOver n m → node_type us m ≡ node_type ts m
node_same ts us n h Dynamic o = refl
node_same ts us n h Bottom o = refl
node_same ts us n h Void o = refl
node_same ts us n h (Class c is) o = ap (class c) (reads_same ts us n h is.items o)
node_same ts us n h (Function f) o =
    let a = h f.result o.0 in
    let b = reads_same ts us n h f.required.items o.1 in
    let c = reads_same ts us n h f.optional.items o.2 in
    let d = named_reads_same ts us n h f.named.items o.3 in
    cc

pub grows_refl : (ns : List Node) → IsBuilt ns → Grows ns ns
grows_refl ns b = record { built = b; longer = omega arith; same = λ i h. refl }

pub grows_trans : (ns ms os : List Node) → Grows ns ms → Grows ms os → Grows ns os
grows_trans ns ms os g h =
    record { built = h.built; longer = let a = g.longer in let b = h.longer in omega (arith, a, b); same = λ i l. h.same i (let a = g.longer in omega (arith, a, l)) ∙ g.same i l }

pub below_more : (n m : ℕ) → n ≤ m → (is : List ℕ) → AreBelow n is → AreBelow m is
below_more n m h is b = λ k d l. let a = b k d l in omega (arith, a, h)

pub named_below_more : (n m : ℕ) → n ≤ m → (is : List NamedNode) → AreNamedBelow n is → AreNamedBelow m is
named_below_more n m h is b = λ k d l. let a = b k d l in omega (arith, a, h)

pub over_more : (n m : ℕ) → n ≤ m → (x : Node) → IsOver n x → IsOver m x
over_more n m h Dynamic o = tt
over_more n m h Bottom o = tt
over_more n m h Void o = tt
over_more n m h (Class c is) o = below_more n m h is.items o
over_more n m h (Function f) o =
    (let a = o.0 in omega (arith, a, h), below_more n m h f.required.items o.1, below_more n m h f.optional.items o.2, named_below_more n m h f.named.items o.3)

-- numbers keep their types
pub kept_all : (ns ms : List Node) → Grows ns ms → (is : List ℕ) → AreBelow (length ns) is → reads (types ms) is ≡ reads (types ns) is
kept_all ns ms g is b = reads_same (types ns) (types ms) (length ns) g.same is b

pub kept_named : (ns ms : List Node) → Grows ns ms → (is : List NamedNode) → AreNamedBelow (length ns) is → named_reads (types ms) is ≡ named_reads (types ns) is
kept_named ns ms g is b = named_reads_same (types ns) (types ms) (length ns) g.same is b

-- a number is below n, or n itself
pub below_or_last : (i n : ℕ) → i < suc n → (i < n) ⊎ (i ≡ n)
below_or_last zero zero h = inr refl
below_or_last zero (suc n) h = inl (omega arith)
below_or_last (suc i) zero h = absurd (omega (arith, h))
below_or_last (suc i) (suc n) h = elim (below_or_last i n (omega (arith, h))) [ inl l ↦ inl (omega (arith, l)) | inr e ↦ inr (ap suc e) ]

module _ (ns : List Node) (n : Node) (b : IsBuilt ns) (o : IsOver (length ns) n) where
  push_same : (i : ℕ) → i < length ns → read (types (ns ++ n ∷ [])) i ≡ read (types ns) i
  push_same i h =
      ap (λ ts. read ts i) (types_push ns n) ∙ get_or_append_left (types ns) (node_type (types ns) n ∷ []) dynamic i (let l = types_length ns in omega (arith, h, l))

  push_last : read (types (ns ++ n ∷ [])) (length ns) ≡ node_type (types ns) n
  push_last =
      transport (λ i. read (types (ns ++ n ∷ [])) i ≡ node_type (types ns) n) (types_length ns)
      (ap (λ ts. read ts (length (types ns))) (types_push ns n) ∙ get_or-append_seam (types ns) (node_type (types ns) n) [] dynamic)

  push_over : (i : ℕ) (m : Node) → (i < length ns) ⊎ (i ≡ length ns) → IsOver i (get_or (ns ++ n ∷ []) i m)
  push_over i m (inl h) = transport (IsOver i) (sym (get_or_append_left ns (n ∷ []) m i h)) (b.over i m h)
  push_over i m (inr e) = transport (λ j. IsOver j (get_or (ns ++ n ∷ []) j m)) (sym e) (transport (IsOver (length ns)) (sym (get_or-append_seam ns n [] m)) o)

  push_shows : (i : ℕ) (m : Node) → (i < length ns) ⊎ (i ≡ length ns) → read (types (ns ++ n ∷ [])) i ≡ node_type (types (ns ++ n ∷ [])) (get_or (ns ++ n ∷ []) i m)
  push_shows i m (inl h) =
      push_same i h ∙ b.shows i m h ∙ sym (ap (node_type (types (ns ++ n ∷ []))) (get_or_append_left ns (n ∷ []) m i h)
      ∙ node_same (types ns) (types (ns ++ n ∷ [])) (length ns) push_same (get_or ns i m) (over_more i (length ns) (omega (arith, h)) (get_or ns i m) (b.over i m h)))
  push_shows i m (inr e) =
      transport (λ j. read (types (ns ++ n ∷ [])) j ≡ node_type (types (ns ++ n ∷ [])) (get_or (ns ++ n ∷ []) j m)) (sym e)
      (push_last ∙ sym (ap (node_type (types (ns ++ n ∷ []))) (get_or-append_seam ns n [] m) ∙ node_same (types ns) (types (ns ++ n ∷ [])) (length ns) push_same n o))

  in_push : (i : ℕ) → i < length (ns ++ n ∷ []) → (i < length ns) ⊎ (i ≡ length ns)
  in_push i h = below_or_last i (length ns) (let l = length-append ns (n ∷ []) in omega (arith, h, l))

  pub push_gives : Gives ns (ns ++ n ∷ []) (length ns) (node_type (types ns) n)
  push_gives = record {
    grows = record {
      built = record { over = λ i m h. push_over i m (in_push i h); shows = λ i m h. push_shows i m (in_push i h) };
      longer = let l = length-append ns (n ∷ []) in omega (arith, l);
      same = push_same;
    };
    listed = let l = length-append ns (n ∷ []) in omega (arith, l);
    shows = push_last;
  }

pub found_gives : (ns : List Node) (n : Node) (i : ℕ) → IsBuilt ns → i < length ns → ((ts : List Ty) → node_type ts (get_or ns i n) ≡ node_type ts n) → Gives ns ns i (node_type (types ns) n)
found_gives ns n i b h e = record { grows = grows_refl ns b; listed = h; shows = b.shows i n h ∙ e (types ns) }

-- lists of one length with equal elements are equal
pub same_list : (xs ys : List NamedNode) → length xs ≡ length ys → ((k : ℕ) (d : NamedNode) → k < length xs → get_or xs k d ≡ get_or ys k d) → xs ≡ ys
same_list [] [] e h = refl
same_list [] (y ∷ ys) e h = absurd (omega (arith, e))
same_list (x ∷ xs) [] e h = absurd (omega (arith, e))
same_list (x ∷ xs) (y ∷ ys) e h =
    let a : x ≡ y = h zero x (omega arith) in
    let b = same_list xs ys (omega (arith, e)) (λ k d l. h (suc k) d (omega (arith, l))) in
    cc

map_take_suc : {X Y : Type 0} (f : X → Y) (xs : List X) (i : ℕ) (x : X) → i < length xs → x ≡ get_or xs i x → map f (take (suc i) xs) ≡ map f (take i xs) ++ f x ∷ []
map_take_suc f [] i x h e = absurd (omega (arith, h))
map_take_suc f (y ∷ ys) zero x h e = ap (λ z. f z ∷ []) (sym e)
map_take_suc f (y ∷ ys) (suc i) x h e = ap (λ zs. f y ∷ zs) (map_take_suc f ys i x (omega (arith, h)) e)

pub map_take_more : {X Y : Type 0} (f : X → Y) (xs : List X) (i : ℕ) (x : X) → i < length xs → x ≡ get_or xs i x → map f (take (i + 1) xs) ≡ map f (take i xs) ++ f x ∷ []
map_take_more f xs i x h e = ap (λ n. map f (take n xs)) (add-one i) ∙ map_take_suc f xs i x h e

below_at : (n j : ℕ) (is : List ℕ) → j < n → AreBelow n is → (k d : ℕ) → k < suc (length is) → get_or (j ∷ is) k d < n
below_at n j is h b zero d l = h
below_at n j is h b (suc k) d l = b k d (omega (arith, l))

below_cons : (n j : ℕ) (is : List ℕ) → j < n → AreBelow n is → AreBelow n (j ∷ is)
below_cons n j is h b = λ k d l. below_at n j is h b k d l

below_push : (n : ℕ) (is : List ℕ) (i : ℕ) → AreBelow n is → i < n → AreBelow n (is ++ i ∷ [])
below_push n [] i b h = below_cons n i [] h b
below_push n (j ∷ is) i b h = below_cons n j (is ++ i ∷ []) (b zero j (omega arith)) (below_push n is i (λ k d l. b (suc k) d (omega (arith, l))) h)

named_at : (n : ℕ) (j : NamedNode) (is : List NamedNode) → j.of < n → AreNamedBelow n is → (k : ℕ) (d : NamedNode) → k < suc (length is) → (get_or (j ∷ is) k d).of < n
named_at n j is h b zero d l = h
named_at n j is h b (suc k) d l = b k d (omega (arith, l))

named_push : (n : ℕ) (is : List NamedNode) (i : NamedNode) → AreNamedBelow n is → i.of < n → AreNamedBelow n (is ++ i ∷ [])
named_push n [] i b h = λ k d l. named_at n i [] h b k d l
named_push n (j ∷ is) i b h =
    let r = named_push n is i (λ k d l. b (suc k) d (omega (arith, l))) h in
    λ k d l. named_at n j (is ++ i ∷ []) (b zero j (omega arith)) r k d l

two_more : {X : Type 0} (xs ys : List X) (x y : X) → xs ≡ ys → x ≡ y → xs ++ x ∷ [] ≡ ys ++ y ∷ []
two_more xs ys x y e f = cc

-- a number more
pub all_more : (a b c : List Node) (is : List ℕ) (ts : List Ty) (i : ℕ) (t : Ty) → GivesAll a b is ts → Gives b c i t → GivesAll a c (is ++ i ∷ []) (ts ++ t ∷ [])
all_more a b c is ts i t g h = record {
  grows = grows_trans a b c g.grows h.grows;
  listed = below_push (length c) is i (below_more (length b) (length c) h.grows.longer is g.listed) h.listed;
  are =
      let e = maps_same (types b) (types c) (length b) h.grows.same is g.listed ∙ g.are in
      let f = h.shows in
      map-append (read (types c)) is (i ∷ []) ∙ two_more (map (read (types c)) is) ts (read (types c) i) t e f;
}

pub named_more : (a b c : List Node) (is : List NamedNode) (ts : List (ℕ × Ty)) (i : NamedNode) (t : Ty) → GivesNamed a b is ts → Gives b c i.of t → GivesNamed a c (is ++ i ∷ []) (ts ++ (i.name, t) ∷ [])
named_more a b c is ts i t g h = record {
  grows = grows_trans a b c g.grows h.grows;
  listed = named_push (length c) is i (named_below_more (length b) (length c) h.grows.longer is g.listed) h.listed;
  are =
      let e = named_maps_same (types b) (types c) (length b) h.grows.same is g.listed ∙ g.are in
      map-append (named_read (types c)) is (i ∷ []) ∙ two_more (map (named_read (types c)) is) ts (named_read (types c) i) (i.name, t) e (ap (λ u. (i.name, u)) h.shows);
}

pub gives_then : (a b c : List Node) (i : ℕ) (t u : Ty) → Grows a b → Gives b c i t → t ≡ u → Gives a c i u
gives_then a b c i t u g h e = record { grows = grows_trans a b c g h.grows; listed = h.listed; shows = h.shows ∙ e }

pub all_then : (a b c : List Node) (is : List ℕ) (ts us : List Ty) → Grows a b → GivesAll b c is ts → ts ≡ us → GivesAll a c is us
all_then a b c is ts us g h e = record { grows = grows_trans a b c g h.grows; listed = h.listed; are = h.are ∙ e }

pub none_given : (a : List Node) → IsBuilt a → GivesAll a a [] []
none_given a b = record { grows = grows_refl a b; listed = λ k d l. absurd (omega (arith, l)); are = refl }

pub none_named : (a : List Node) → IsBuilt a → GivesNamed a a [] []
none_named a b = record { grows = grows_refl a b; listed = λ k d l. absurd (omega (arith, l)); are = refl }

copy_over : (k : ℕ) (m n : Node) → IsCopy m n → IsOver k m → IsOver k n
copy_over k Dynamic Dynamic c o = tt
copy_over k Bottom Bottom c o = tt
copy_over k Void Void c o = tt
copy_over k (Class x is) (Class y js) c o = transport (AreBelow k) c.1 o
copy_over k (Function f) (Function g) c o =
    (transport (λ i. i < k) c.0 o.0, transport (AreBelow k) c.1 o.1, transport (AreBelow k) c.2 o.2, transport (AreNamedBelow k) c.3 o.3)
copy_over k Dynamic Bottom c o = absurd c
copy_over k Dynamic Void c o = absurd c
copy_over k Dynamic (Class y js) c o = absurd c
copy_over k Dynamic (Function g) c o = absurd c
copy_over k Bottom Dynamic c o = absurd c
copy_over k Bottom Void c o = absurd c
copy_over k Bottom (Class y js) c o = absurd c
copy_over k Bottom (Function g) c o = absurd c
copy_over k Void Dynamic c o = absurd c
copy_over k Void Bottom c o = absurd c
copy_over k Void (Class y js) c o = absurd c
copy_over k Void (Function g) c o = absurd c
copy_over k (Class x is) Dynamic c o = absurd c
copy_over k (Class x is) Bottom c o = absurd c
copy_over k (Class x is) Void c o = absurd c
copy_over k (Class x is) (Function g) c o = absurd c
copy_over k (Function f) Dynamic c o = absurd c
copy_over k (Function f) Bottom c o = absurd c
copy_over k (Function f) Void c o = absurd c
copy_over k (Function f) (Class y js) c o = absurd c

copy_type : (ts : List Ty) (m n : Node) → IsCopy m n → node_type ts m ≡ node_type ts n
copy_type ts Dynamic Dynamic c = refl
copy_type ts Bottom Bottom c = refl
copy_type ts Void Void c = refl
copy_type ts (Class x is) (Class y js) c = let a = c.0 in let b = ap (reads ts) c.1 in cc
copy_type ts (Function f) (Function g) c =
    let a = ap (read ts) c.0 in
    let b = ap (reads ts) c.1 in
    let d = ap (reads ts) c.2 in
    let e = ap (named_reads ts) c.3 in
    cc
copy_type ts Dynamic Bottom c = absurd c
copy_type ts Dynamic Void c = absurd c
copy_type ts Dynamic (Class y js) c = absurd c
copy_type ts Dynamic (Function g) c = absurd c
copy_type ts Bottom Dynamic c = absurd c
copy_type ts Bottom Void c = absurd c
copy_type ts Bottom (Class y js) c = absurd c
copy_type ts Bottom (Function g) c = absurd c
copy_type ts Void Dynamic c = absurd c
copy_type ts Void Bottom c = absurd c
copy_type ts Void (Class y js) c = absurd c
copy_type ts Void (Function g) c = absurd c
copy_type ts (Class x is) Dynamic c = absurd c
copy_type ts (Class x is) Bottom c = absurd c
copy_type ts (Class x is) Void c = absurd c
copy_type ts (Class x is) (Function g) c = absurd c
copy_type ts (Function f) Dynamic c = absurd c
copy_type ts (Function f) Bottom c = absurd c
copy_type ts (Function f) Void c = absurd c
copy_type ts (Function f) (Class y js) c = absurd c

pub copy_is_node : (ns : List Node) (t : ℕ) (m n : Node) → IsBuilt ns → t < length ns → m ≡ get_or ns t m → IsCopy m n → IsNodeOf ns t n
copy_is_node ns t m n b h e c = record {
  over = copy_over t m n c (transport (IsOver t) (sym e) (b.over t m h));
  shows = b.shows t m h ∙ ap (node_type (types ns)) (sym e) ∙ copy_type (types ns) m n c;
}
