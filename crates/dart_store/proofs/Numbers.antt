-- The numbers that objects show.
use Rattle.std.proofs.Common.{◌≡◌, ℕ, zero, suc, ◌+◌, ◌<◌, ◌≤◌, List, [], ◌∷◌, ◌++◌, length, take, get_or, refl, sym, ap, ◌∙◌, arith, if◌then◌else◌, true, false, Option, Some, None, Bool}
use Rattle.std.specs.Prelude.{slice_get, Result, Ok, Err, OnOk, OnErr, is_err, map}
use Rattle.dart_ir.specs.declared.value.Value.{Value}
use Rattle.dart_ir.specs.Object.{HeapObject, instance, list, text, closure, bound, type_value, send_port, receive_port, cell}
use Rattle.dart_store.specs.Heap.{cost, is_cell, count_shown, numbers_from, put, changed, with_field, with_item, first_items, with_inserted, without_item, with_nulls}

abbrev one : HeapObject → ℕ
one object = if is_cell object then 0 else 1

pub shown_more : (xs : List HeapObject) (x : HeapObject) → count_shown (xs ++ x ∷ []) ≡ one x + count_shown xs
shown_more [] x = refl
shown_more (y ∷ ys) x = let e = shown_more ys x in omega arith

pub numbers_more : (n : ℕ) (xs : List HeapObject) (x : HeapObject) → numbers_from n (xs ++ x ∷ []) ≡ numbers_from n xs ++ (count_shown xs + n) ∷ []
numbers_more n [] x = let e : count_shown [] + n ≡ n = omega arith in ap (λ (k : ℕ). k ∷ []) (sym e)
numbers_more n (y ∷ ys) x =
    let e : count_shown ys + (one y + n) ≡ one y + count_shown ys + n = omega arith in
    ap (λ (l : List ℕ). n ∷ l) (numbers_more (one y + n) ys x ∙ ap (λ (k : ℕ). numbers_from (one y + n) ys ++ k ∷ []) e)

pub numbers_count : (n : ℕ) (xs : List HeapObject) → length (numbers_from n xs) ≡ length xs
numbers_count n [] = refl
numbers_count n (y ∷ ys) = ap suc (numbers_count (one y + n) ys)

pub number_there : (n : ℕ) (xs : List HeapObject) (i d : ℕ) → i < length xs → get_or (numbers_from n xs) i d ≡ count_shown (take i xs) + n
number_there n [] i d below = absurd (omega arith)
number_there n (y ∷ ys) zero d below = let e : count_shown [] + n ≡ n = omega arith in sym e
number_there n (y ∷ ys) (suc i) d below = let e = number_there (one y + n) ys i d (omega arith) in omega arith

pub all_shown : (xs : List HeapObject) (i : ℕ) → length xs ≤ i → count_shown (take i xs) ≡ count_shown xs
all_shown [] zero over = refl
all_shown [] (suc i) over = refl
all_shown (y ∷ ys) zero over = absurd (omega arith)
all_shown (y ∷ ys) (suc i) over = ap (λ (k : ℕ). one y + k) (all_shown ys i (omega arith))

-- ---- a change that leaves cells cells

numbers_behind : (change : HeapObject → HeapObject) (n r : ℕ) (y : HeapObject) (ys : List HeapObject) (o : Option HeapObject) → numbers_from n (put change (suc r) (y ∷ ys) o) ≡ n ∷ numbers_from (one y + n) (put change r ys o)
numbers_behind change n r y ys None = refl
numbers_behind change n r y ys (Some x) = refl

shown_behind : (change : HeapObject → HeapObject) (r : ℕ) (y : HeapObject) (ys : List HeapObject) (o : Option HeapObject) → count_shown (put change (suc r) (y ∷ ys) o) ≡ one y + count_shown (put change r ys o)
shown_behind change r y ys None = refl
shown_behind change r y ys (Some x) = refl

pub numbers_kept : (change : HeapObject → HeapObject) → ((object : HeapObject) → is_cell (change object) ≡ is_cell object) → (n r : ℕ) (xs : List HeapObject) → numbers_from n (changed change r xs) ≡ numbers_from n xs
numbers_kept change same n r [] = refl
numbers_kept change same n zero (y ∷ ys) = ap (λ (b : Bool). n ∷ numbers_from ((if b then 0 else 1) + n) ys) (same y)
numbers_kept change same n (suc r) (y ∷ ys) = numbers_behind change n r y ys (slice_get ys r) ∙ ap (λ (l : List ℕ). n ∷ l) (numbers_kept change same (one y + n) r ys)

pub shown_kept : (change : HeapObject → HeapObject) → ((object : HeapObject) → is_cell (change object) ≡ is_cell object) → (r : ℕ) (xs : List HeapObject) → count_shown (changed change r xs) ≡ count_shown xs
shown_kept change same r [] = refl
shown_kept change same zero (y ∷ ys) = ap (λ (b : Bool). (if b then 0 else 1) + count_shown ys) (same y)
shown_kept change same (suc r) (y ∷ ys) = shown_behind change r y ys (slice_get ys r) ∙ ap (λ (k : ℕ). one y + k) (shown_kept change same r ys)

pub field_same : (i : ℕ) (value : Value) (object : HeapObject) → is_cell (with_field i value object) ≡ is_cell object
field_same i value (instance class args fields) = refl
field_same i value (list args items fixed) = refl
field_same i value (text units) = refl
field_same i value (closure function receiver args cells) = refl
field_same i value (bound receiver member) = refl
field_same i value (type_value type) = refl
field_same i value (send_port isolate port) = refl
field_same i value (receive_port port) = refl
field_same zero value (cell old counted) = refl
field_same (suc i) value (cell old counted) = refl

pub item_same : (value : Value) (object : HeapObject) → is_cell (with_item value object) ≡ is_cell object
item_same value (instance class args fields) = refl
item_same value (list args items fixed) = refl
item_same value (text units) = refl
item_same value (closure function receiver args cells) = refl
item_same value (bound receiver member) = refl
item_same value (type_value type) = refl
item_same value (send_port isolate port) = refl
item_same value (receive_port port) = refl
item_same value (cell old counted) = refl

pub first_same : (count : ℕ) (object : HeapObject) → is_cell (first_items count object) ≡ is_cell object
first_same count (instance class args fields) = refl
first_same count (list args items fixed) = refl
first_same count (text units) = refl
first_same count (closure function receiver args cells) = refl
first_same count (bound receiver member) = refl
first_same count (type_value type) = refl
first_same count (send_port isolate port) = refl
first_same count (receive_port port) = refl
first_same count (cell old counted) = refl

pub inserted_same : (i : ℕ) (value : Value) (object : HeapObject) → is_cell (with_inserted i value object) ≡ is_cell object
inserted_same i value (instance class args fields) = refl
inserted_same i value (list args items fixed) = refl
inserted_same i value (text units) = refl
inserted_same i value (closure function receiver args cells) = refl
inserted_same i value (bound receiver member) = refl
inserted_same i value (type_value type) = refl
inserted_same i value (send_port isolate port) = refl
inserted_same i value (receive_port port) = refl
inserted_same i value (cell old counted) = refl

pub removed_same : (i : ℕ) (object : HeapObject) → is_cell (without_item i object) ≡ is_cell object
removed_same i (instance class args fields) = refl
removed_same i (list args items fixed) = refl
removed_same i (text units) = refl
removed_same i (closure function receiver args cells) = refl
removed_same i (bound receiver member) = refl
removed_same i (type_value type) = refl
removed_same i (send_port isolate port) = refl
removed_same i (receive_port port) = refl
removed_same i (cell old counted) = refl

pub nulls_same : (count : ℕ) (object : HeapObject) → is_cell (with_nulls count object) ≡ is_cell object
nulls_same count (instance class args fields) = refl
nulls_same count (list args items fixed) = refl
nulls_same count (text units) = refl
nulls_same count (closure function receiver args cells) = refl
nulls_same count (bound receiver member) = refl
nulls_same count (type_value type) = refl
nulls_same count (send_port isolate port) = refl
nulls_same count (receive_port port) = refl
nulls_same count (cell old counted) = refl

-- an object that shows a number costs a unit
pub shown_costs : (object : HeapObject) → one object ≤ cost object
shown_costs (instance class args fields) = omega arith
shown_costs (list args items fixed) = omega arith
shown_costs (text units) = omega arith
shown_costs (closure function receiver args cells) = omega arith
shown_costs (bound receiver member) = omega arith
shown_costs (type_value type) = omega arith
shown_costs (send_port isolate port) = omega arith
shown_costs (receive_port port) = omega arith
shown_costs (cell value true) = omega arith
shown_costs (cell value false) = omega arith

-- ---- an item at the end

pub map_more : {A B : Type 0} (f : A → B) (xs : List A) (x : A) → map f (xs ++ x ∷ []) ≡ map f xs ++ f x ∷ []
map_more f [] x = refl
map_more f (y ∷ ys) x = ap (λ (l : List _). f y ∷ l) (map_more f ys x)

pub map_count : {A B : Type 0} (f : A → B) (xs : List A) → length (map f xs) ≡ length xs
map_count f [] = refl
map_count f (y ∷ ys) = ap suc (map_count f ys)

pub before_last : {A : Type 0} (n : ℕ) (xs : List A) (x : A) → n ≡ length xs → take n (xs ++ x ∷ []) ≡ xs
before_last zero [] x e = refl
before_last zero (y ∷ ys) x e = absurd (omega (arith, e))
before_last (suc n) [] x e = absurd (omega (arith, e))
before_last (suc n) (y ∷ ys) x e = ap (λ (l : List _). y ∷ l) (before_last n ys x (omega (arith, e)))

-- ---- what is told of a result

pub failed : {T E P : Type 0} (r : Result T E) → OnErr r P → true ≡ is_err r → P
failed (Ok x) h e = absurd cc
failed (Err x) h e = h

pub worked : {T E P : Type 0} (r : Result T E) → OnOk r P → false ≡ is_err r → P
worked (Ok x) h e = h
worked (Err x) h e = absurd cc

pub if_failed : {T E P : Type 0} (r : Result T E) → P → OnErr r P
if_failed (Ok x) h = tt
if_failed (Err x) h = h
