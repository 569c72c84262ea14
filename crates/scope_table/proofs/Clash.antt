-- Keys that were seen, and the declarations that have them.
use Rattle.std.proofs.Common.{◌≡◌, ◌∙◌, ℕ, suc, ◌+◌, ◌<◌, ◌≤◌, ◌&&◌, ◌||◌, Bool, true, false, cond, List, [], ◌∷◌, ◌++◌, length, get_or, take, drop, Option, None, Some, add-one, drop-cons, refl, sym, ap, ap₂}
use Rattle.std.specs.List.{list_any}
use Rattle.std.proofs.Math.Seq.{take-suc}
use Rattle.std.proofs.lemmas.List.{drop_all}
use Rattle.scope_declared.specs.declared.declaration.Declared.{Declared}
use Rattle.scope_table.specs.Duplicate.{NameKey, same_key, key_of, is_read, is_set, clashes, first_clash}

and_or : (x y z : Bool) → (x && (y || z)) ≡ ((x && y) || (x && z))
and_or true y z = refl
and_or false y z = refl

or_swap : (a b c d : Bool) → ((a || b) || (c || d)) ≡ ((a || c) || (b || d))
or_swap true b c d = refl
or_swap false true true d = refl
or_swap false true false d = refl
or_swap false false c d = refl

pull : (x y s : Bool) → (x && (y && s)) ≡ (s && (x && y))
pull true true true = refl
pull true true false = refl
pull true false true = refl
pull true false false = refl
pull false y true = refl
pull false y false = refl

-- what one more declaration of a use adds to the tests of both uses
both_uses : (rd sd re se s r t : Bool) → ((rd && ((re && s) || r)) || (sd && ((se && s) || t))) ≡ ((s && ((rd && re) || (sd && se))) || ((rd && r) || (sd && t)))
both_uses rd sd re se s r t =
    ap₂ (λ a b. a || b) (and_or rd (re && s) r) (and_or sd (se && s) t)
    ∙ or_swap (rd && (re && s)) (rd && r) (sd && (se && s)) (sd && t)
    ∙ ap (λ a. a || ((rd && r) || (sd && t))) (ap₂ (λ a b. a || b) (pull rd re s) (pull sd se s) ∙ sym (and_or s (rd && re) (sd && se)))

abbrev pub reading : NameKey → Declared → Bool
reading q e = is_read e.kind && same_key (key_of e) q

abbrev pub setting : NameKey → Declared → Bool
setting q e = is_set e.kind && same_key (key_of e) q

-- a declaration clashes where its key was read or set before, as it does itself
pub clash_by_uses : (d : Declared) (xs : List Declared) → ((is_read d.kind && list_any (reading (key_of d)) xs) || (is_set d.kind && list_any (setting (key_of d)) xs)) ≡ list_any (clashes d) xs
clash_by_uses d [] = by (is_read d.kind) (is_set d.kind)
  where
    by : (x y : Bool) → ((x && false) || (y && false)) ≡ false
    by true true = refl
    by true false = refl
    by false true = refl
    by false false = refl
clash_by_uses d (e ∷ xs) =
    both_uses (is_read d.kind) (is_set d.kind) (is_read e.kind) (is_set e.kind) (same_key (key_of e) (key_of d)) (list_any (reading (key_of d)) xs) (list_any (setting (key_of d)) xs)
    ∙ ap (λ b. clashes d e || b) (clash_by_uses d xs)

any_push : (p : Declared → Bool) (xs : List Declared) (x : Declared) → list_any p (xs ++ x ∷ []) ≡ (list_any p xs || p x)
any_push p [] x = by (p x)
  where
    by : (b : Bool) → (b || false) ≡ b
    by true = refl
    by false = refl
any_push p (y ∷ ys) x = ap (λ b. p y || b) (any_push p ys x) ∙ by (p y) (list_any p ys) (p x)
  where
    by : (a b c : Bool) → (a || (b || c)) ≡ ((a || b) || c)
    by true b c = refl
    by false b c = refl

-- one declaration more was seen
pub seen_more : (p : Declared → Bool) (xs : List Declared) (i : ℕ) (x : Declared) → i < length xs → x ≡ get_or xs i x → list_any p (take (i + 1) xs) ≡ (list_any p (take i xs) || p x)
seen_more p xs i x below is =
    ap (λ n. list_any p (take n xs)) (add-one i) ∙ ap (list_any p) (take-suc-read xs i x below is) ∙ any_push p (take i xs) x
  where
    take-suc-read : (xs : List Declared) (i : ℕ) (x : Declared) → i < length xs → x ≡ get_or xs i x → take (suc i) xs ≡ take i xs ++ x ∷ []
    take-suc-read xs i x below is = take-suc xs i x below ∙ ap (λ y. take i xs ++ y ∷ []) (sym is)

-- the search goes on behind a declaration that clashes with none, and ends at one that does
pub search_more : (xs : List Declared) (i : ℕ) (x : Declared) → i < length xs → x ≡ get_or xs i x → list_any (clashes x) (take i xs) ≡ false → first_clash (take i xs) (drop i xs) ≡ first_clash (take (i + 1) xs) (drop (i + 1) xs)
search_more xs i x below is none =
    ap (first_clash (take i xs)) (drop-cons xs i x below ∙ ap (λ y. y ∷ drop (suc i) xs) (sym is))
    ∙ ap (λ b. cond b (Some x) (first_clash (take i xs ++ x ∷ []) (drop (suc i) xs))) none
    ∙ ap₂ first_clash (sym (take-suc xs i x below ∙ ap (λ y. take i xs ++ y ∷ []) (sym is)) ∙ ap (λ n. take n xs) (sym (add-one i))) (ap (λ n. drop n xs) (sym (add-one i)))

pub search_ends : (xs : List Declared) (i : ℕ) (x : Declared) → i < length xs → x ≡ get_or xs i x → list_any (clashes x) (take i xs) ≡ true → first_clash (take i xs) (drop i xs) ≡ Some x
search_ends xs i x below is some =
    ap (first_clash (take i xs)) (drop-cons xs i x below ∙ ap (λ y. y ∷ drop (suc i) xs) (sym is))
    ∙ ap (λ b. cond b (Some x) (first_clash (take i xs ++ x ∷ []) (drop (suc i) xs))) some

pub search_over : (xs : List Declared) (i : ℕ) → length xs ≤ i → first_clash (take i xs) (drop i xs) ≡ None
search_over xs i past = ap (first_clash (take i xs)) (drop_all i xs past)

-- one key more of those that are read, and of those that are set
pub reads_more : (xs : List Declared) (i : ℕ) (x : Declared) (old new : NameKey → Bool) (key : NameKey) (wanted : Bool) → i < length xs → x ≡ get_or xs i x → ((q : NameKey) → old q ≡ list_any (reading q) (take i xs)) → key ≡ key_of x → wanted ≡ is_read x.kind → ((q : NameKey) → new q ≡ (old q || (wanted && same_key key q))) → (q : NameKey) → new q ≡ list_any (reading q) (take (i + 1) xs)
reads_more xs i x old new key wanted below is before named used put q =
    put q ∙ ap₂ (λ a b. a || b) (before q) (ap₂ (λ w k. w && same_key k q) used named) ∙ sym (seen_more (reading q) xs i x below is)

pub sets_more : (xs : List Declared) (i : ℕ) (x : Declared) (old new : NameKey → Bool) (key : NameKey) (wanted : Bool) → i < length xs → x ≡ get_or xs i x → ((q : NameKey) → old q ≡ list_any (setting q) (take i xs)) → key ≡ key_of x → wanted ≡ is_set x.kind → ((q : NameKey) → new q ≡ (old q || (wanted && same_key key q))) → (q : NameKey) → new q ≡ list_any (setting q) (take (i + 1) xs)
sets_more xs i x old new key wanted below is before named used put q =
    put q ∙ ap₂ (λ a b. a || b) (before q) (ap₂ (λ w k. w && same_key k q) used named) ∙ sym (seen_more (setting q) xs i x below is)

-- a declaration clashes with one of those that were seen where its key is taken for one of its uses
pub clash_found : (seen : List Declared) (x : Declared) (reads sets : NameKey → Bool) (key : NameKey) (is_read_now is_set_now r s : Bool) → ((q : NameKey) → reads q ≡ list_any (reading q) seen) → ((q : NameKey) → sets q ≡ list_any (setting q) seen) → key ≡ key_of x → is_read_now ≡ is_read x.kind → is_set_now ≡ is_set x.kind → r ≡ (is_read_now && reads key) → s ≡ (is_set_now && sets key) → (r || s) ≡ list_any (clashes x) seen
clash_found seen x reads sets key is_read_now is_set_now r s all_reads all_sets named reading_use setting_use r_is s_is =
    ap₂ (λ a b. a || b)
    (r_is ∙ ap₂ (λ a b. a && b) reading_use (all_reads key ∙ ap (λ k. list_any (reading k) seen) named))
    (s_is ∙ ap₂ (λ a b. a && b) setting_use (all_sets key ∙ ap (λ k. list_any (setting k) seen) named))
    ∙ clash_by_uses x seen

pub first_true : (a b : Bool) → a ≡ true → (a || b) ≡ true
first_true a b h = ap (λ c. c || b) h

pub second_true : (a b : Bool) → b ≡ true → (a || b) ≡ true
second_true true b h = refl
second_true false b h = h
