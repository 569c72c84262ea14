-- Members that are added behind others.
use Rattle.std.proofs.Common.{◌≡◌, ℕ, zero, suc, ◌<◌, ◌≤◌, ◌+◌, List, [], ◌∷◌, ◌++◌, inl, inr, length, map, take, get_or, option_map, Option, Some, slice_get, arith, refl, sym, ap, ◌∙◌, subst as transport}
use Rattle.std.proofs.lemmas.List.{length_push, take_more}
use Rattle.std.proofs.lemmas.Option.{same_Some, slice_get_within, slice_get-get_or, slice_get_read}
use Rattle.class_order.proofs.Lists.{push_cases}
use Rattle.dart_ir.specs.declared.number.MemberId.{MemberId}
use Rattle.dart_ir.specs.declared.class.MemberInfo.{MemberInfo}
use Rattle.dart_ir.specs.Ty.{Tys}
use Rattle.class_table.specs.Members.{Described, described, described_at, descriptions, mixed_in, Adds, AreBelow}
use Rattle.class_table.proofs.Lists.{slice_get_at, slice_get_left}

pub slice_get_front : {A : Type 0} (xs ys : List A) (j : ℕ) → j < length xs → slice_get (xs ++ ys) j ≡ slice_get xs j
slice_get_front [] ys j l = absurd (omega (arith, l))
slice_get_front (x ∷ xs) ys zero l = refl
slice_get_front (x ∷ xs) ys (suc j) l = slice_get_front xs ys j (omega (arith, l))

pub map_push : {A B : Type 0} (f : A → B) (xs : List A) (x : A) → map f (xs ++ x ∷ []) ≡ map f xs ++ f x ∷ []
map_push f [] x = refl
map_push f (y ∷ xs) x = ap (λ z. f y ∷ z) (map_push f xs x)

pub adds_none : (ms : List MemberInfo) (c : ℕ) → Adds ms ms [] [] c
adds_none ms c = record {
  kept = λ j l. refl;
  longer = omega arith;
  numbered = λ j m q. absurd (cc);
  listed = λ j m q. absurd (cc);
  are = refl;
  owned = λ j x l q. let m = slice_get_within ms j x q in absurd (omega (arith, l, m));
}

-- the members of numbers that are listed stay where more are added behind
pub same_descriptions : (ms ns : List MemberInfo) → ((j : ℕ) → j < length ms → slice_get ns j ≡ slice_get ms j) → (ids : List MemberId) → AreBelow (length ms) ids → descriptions ns ids ≡ descriptions ms ids
same_descriptions ms ns kept [] b = refl
same_descriptions ms ns kept (m ∷ ids) b =
    ap (λ (x : Option Described). x ∷ descriptions ns ids) (ap (option_map described) (kept m.0 (b 0 m refl)))
    ∙ ap (λ (xs : List (Option Described)). described_at ms m.0 ∷ xs) (same_descriptions ms ns kept ids (λ j x q. b (suc j) x q))

below_push : (ids : List MemberId) (id : MemberId) (n k : ℕ) → AreBelow n ids → n ≤ k → id.0 < k → AreBelow k (ids ++ id ∷ [])
below_push ids id n k b l h j m q = elim (push_cases ids id j (slice_get_within (ids ++ id ∷ []) j m q)) [
  | inl i ↦ let w = b j m (slice_get_left ids (id ∷ []) j m i q) in omega (arith, w, l)
  | inr e ↦ let s : id ≡ m = same_Some id m (sym (slice_get_at ids id j e) ∙ q) in transport (λ (z : MemberId). z.0 < k) s h
]

pub adds_more : (old new ms : List MemberInfo) (ids js : List MemberId) (xs ys : List (Option Described)) (c : ℕ) (x : MemberInfo) (id : MemberId) → Adds old new ids xs c → ms ≡ new ++ x ∷ [] → js ≡ ids ++ id ∷ [] → id.0 ≡ length new → ys ≡ xs ++ Some (described x) ∷ [] → x.owner.0 ≡ c → Adds old ms js ys c
adds_more old new ms ids js xs ys c x id a e f n g o =
    transport (λ z. Adds old z js ys c) (sym e) (transport (λ z. Adds old (new ++ x ∷ []) z ys c) (sym f) (transport (λ z. Adds old (new ++ x ∷ []) (ids ++ id ∷ []) z c) (sym g) (record {
      kept = λ j l. slice_get_front new (x ∷ []) j (let m = a.longer in omega (arith, l, m)) ∙ a.kept j l;
      longer = let m = a.longer in omega (arith, m, length_push new x, length_push ids id);
      numbered = λ j m q. elim (push_cases ids id j (slice_get_within (ids ++ id ∷ []) j m q)) [
        | inl i ↦ a.numbered j m (slice_get_left ids (id ∷ []) j m i q)
        | inr i ↦ let s : id.0 ≡ m.0 = ap (λ (z : MemberId). z.0) (same_Some id m (sym (slice_get_at ids id j i) ∙ q)) in let w = a.longer in omega (arith, s, n, i, w)
      ];
      listed = below_push ids id (length new) (length (new ++ x ∷ [])) a.listed (omega (arith, length_push new x)) (omega (arith, n, length_push new x));
      are = map_push (λ (m : MemberId). described_at (new ++ x ∷ []) m.0) ids id ∙ ap (λ (z : List (Option Described)). z ++ described_at (new ++ x ∷ []) id.0 ∷ []) (same_descriptions new (new ++ x ∷ []) (slice_get_front new (x ∷ [])) ids a.listed ∙ a.are) ∙ ap (λ (z : Option Described). xs ++ z ∷ []) (ap (option_map described) (slice_get_at new x id.0 n));
      owned = λ j y l q. elim (push_cases new x j (slice_get_within (new ++ x ∷ []) j y q)) [ inl i ↦ a.owned j y l (slice_get_left new (x ∷ []) j y i q) | inr i ↦ let s : x ≡ y = same_Some x y (sym (slice_get_at new x j i) ∙ q) in ap (λ (z : MemberInfo). z.owner.0) (sym s) ∙ o ];
    })))

-- the next of the elements that are added, one for each of a list
pub next_described : {A : Type 0} (f : A → Option Described) (as1 : List A) (i : ℕ) (a : A) (x : MemberInfo) → i < length as1 → a ≡ get_or as1 i a → f a ≡ Some (described x) → map f (take (i + 1) as1) ≡ map f (take i as1) ++ Some (described x) ∷ []
next_described f as1 i a x l e q =
    ap (map f) (take_more as1 i a l) ∙ map_push f (take i as1) (get_or as1 i a) ∙ ap (λ z. map f (take i as1) ++ z ∷ []) (ap f (sym e) ∙ q)

-- the same through another list, whose elements are read with a default
pub next_mapped : {A B : Type 0} (g : B → Option Described) (h : A → B) (as1 : List A) (i : ℕ) (d : A) (x : MemberInfo) → i < length as1 → g (h (get_or as1 i d)) ≡ Some (described x) → map g (map h (take (i + 1) as1)) ≡ map g (map h (take i as1)) ++ Some (described x) ∷ []
next_mapped g h as1 i d x l q =
    ap (λ z. map g (map h z)) (take_more as1 i d l) ∙ ap (map g) (map_push h (take i as1) (get_or as1 i d)) ∙ map_push g (map h (take i as1)) (h (get_or as1 i d)) ∙ ap (λ z. map g (map h (take i as1)) ++ z ∷ []) q

-- a mixin's member, as it is read and copied
pub mixed_at : (old new : List MemberInfo) (js : List MemberId) (xs : List (Option Described)) (c : ℕ) (ts : Tys) (mixin : List MemberId) (i : ℕ) (d : MemberId) (y x : MemberInfo) → Adds old new js xs c → AreBelow (length old) mixin → i < length mixin → y ≡ get_or new (get_or mixin i d).0 y → described x ≡ mixed_in c ts (described y) → option_map (mixed_in c ts) (described_at old (get_or mixin i d).0) ≡ Some (described x)
mixed_at old new js xs c ts mixin i d y x a b l e q =
    let m : (get_or mixin i d).0 < length old = b i (get_or mixin i d) (slice_get-get_or mixin i d l) in
    let g = a.longer in
    ap (λ o. option_map (mixed_in c ts) (option_map described o)) (sym (a.kept (get_or mixin i d).0 m) ∙ slice_get_read new (length new) (get_or mixin i d).0 y refl (omega (arith, m, g)) e) ∙ ap (λ (z : Described). Some z) (sym q)
