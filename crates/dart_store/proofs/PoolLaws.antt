-- A pool that grows leaves the objects beside it as they are.
use Rattle.std.proofs.Common.{◌≡◌, ℕ, zero, suc, ◌+◌, ◌-◌, ◌<◌, ◌≤◌, Some, List, [], ◌∷◌, ◌++◌, length, take, drop, map, refl, sym, ap, subst, ◌∙◌, arith, length-append, length-drop}
use Rattle.std.specs.Prelude.{slice_get, slice_index_or}
use Rattle.std.specs.Global.{Vec}
use Rattle.std.proofs.lemmas.List.{take-append-le, drop-append-le, length-take-le}
use Rattle.dart_ir.specs.declared.value.Value.{Value}
use Rattle.dart_ir.specs.declared.value.Value.TheVariants.{Null}
use Rattle.dart_ir.specs.Object.{HeapObject, instance, list, text, closure, type_value}
use Rattle.dart_ir.specs.declared.types.TypeRef.{TypeRef}
use Rattle.dart_ir.specs.Ty.{Ty}
use Rattle.dart_store.specs.declared.pool.Pool.{Pool}
use Rattle.dart_store.specs.declared.stored.Stored.{Stored}
use Rattle.dart_store.specs.declared.stored.Stored.TheVariants as code
use Rattle.dart_store.specs.Heap.{length_of}
use Rattle.dart_store.specs.Tables.{type_list, types_at, first_type, receiver_at, text_at, Begins}
use Rattle.dart_store.proofs.Numbers.{map_more}
use Rattle.dart_store.specs.Pool.{stored_object, Needs, none, needs, Fits, AllFit, Extends}

longer : {A : Type 0} (a b : List A) → Begins a b → length a ≤ length b
longer a b more = omega (arith, ap length more, length-append a (drop (length a) b))

-- ---- what stands before the end

front : {A : Type 0} (a b : List A) (i : ℕ) (d : A) → i < length a → slice_index_or (a ++ b) i d ≡ slice_index_or a i d
front [] b i d below = absurd (omega arith)
front (x ∷ xs) b zero d below = refl
front (x ∷ xs) b (suc i) d below = front xs b i d (omega arith)

begun_at : {A : Type 0} (a b : List A) (i : ℕ) (d : A) → Begins a b → i < length a → slice_index_or b i d ≡ slice_index_or a i d
begun_at a b i d more below = ap (λ (l : List _). slice_index_or l i d) more ∙ front a (drop (length a) b) i d below

types_same : (a b : List (List Ty)) (n : ℕ) → Begins a b → n ≤ length a → types_at b n ≡ types_at a n
types_same a b zero more below = refl
types_same a b (suc n) more below = begun_at a b n [] more (omega arith)

receiver_same : (a b : List Value) (n : ℕ) → Begins a b → n ≤ length a → receiver_at b n ≡ receiver_at a n
receiver_same a b zero more below = refl
receiver_same a b (suc n) more below = begun_at a b n Null more (omega arith)

text_same : (a b : List ℕ) (start len : ℕ) → Begins a b → start + len ≤ length a → text_at b start len ≡ text_at a start len
text_same a b start len more below =
    ap (λ (l : List ℕ). text_at l start len) more
    ∙ ap (λ (l : List ℕ). take len l) (drop-append-le start a (drop (length a) b) (omega arith))
    ∙ take-append-le len (drop start a) (drop (length a) b) (omega (arith, length-drop start a))

nth : (lists : List (Vec TypeRef)) (k : ℕ) (v : Vec TypeRef) → k < length lists → v ≡ slice_index_or lists k v → type_list v ≡ slice_index_or (map type_list lists) k []
nth [] k v below e = absurd (omega arith)
nth (x ∷ xs) zero v below e = ap type_list e
nth (x ∷ xs) (suc k) v below e = nth xs k v (omega arith) e

-- the list of a number that isn't 0
pub types_there : (lists : List (Vec TypeRef)) (n : ℕ) (v : Vec TypeRef) → 0 < n → n ≤ length lists → v ≡ slice_index_or lists (n - 1) v → type_list v ≡ types_at (map type_list lists) n
types_there lists zero v some within e = absurd (omega arith)
types_there lists (suc k) v some within e =
    let before : suc k - 1 ≡ k = omega arith in
    nth lists k v (omega arith) (e ∙ ap (λ (j : ℕ). slice_index_or lists j v) before)

-- ---- objects

pub stored_same : (p q : Pool) → Extends p q → (o : Stored) → Fits p (needs o) → stored_object q o ≡ stored_object p o
stored_same p q more (code.Instance class args fields) fits =
    ap (λ (ts : List Ty). instance class.0 ts fields) (types_same p.types q.types args more.2 fits.2)
stored_same p q more (code.List args items fixed) fits =
    ap (λ (ts : List Ty). list ts items fixed) (types_same p.types q.types args more.2 fits.2)
stored_same p q more (code.Text start len) fits = ap text (text_same p.units.items q.units.items start len more.0 fits.0)
stored_same p q more (code.Closure f receiver args cells) fits =
    ap (λ (r : Value). closure f.0 r (types_at q.types args) cells) (receiver_same p.receivers.items q.receivers.items receiver more.1 fits.1)
    ∙ ap (λ (ts : List Ty). closure f.0 (receiver_at p.receivers.items receiver) ts cells) (types_same p.types q.types args more.2 fits.2)
stored_same p q more (code.Bound receiver m) fits = refl
stored_same p q more (code.TypeValue args) fits =
    ap (λ (ts : List Ty). type_value (first_type ts)) (types_same p.types q.types args more.2 fits.2)
stored_same p q more (code.SendPort isolate port) fits = refl
stored_same p q more (code.ReceivePort port) fits = refl
stored_same p q more (code.Cell value counted) fits = refl

pub all_same : (p q : Pool) → Extends p q → (os : List Stored) → AllFit p os → map (stored_object q) os ≡ map (stored_object p) os
all_same p q more [] fit = refl
all_same p q more (o ∷ os) fit =
    ap (λ (x : HeapObject). x ∷ map (stored_object q) os) (stored_same p q more o (fit 0))
    ∙ ap (λ (l : List HeapObject). stored_object p o ∷ l) (all_same p q more os (λ k. fit (suc k)))

fits_more : (p q : Pool) → Extends p q → (n : Needs) → Fits p n → Fits q n
fits_more p q more n fits = (
  (let l = longer p.units.items q.units.items more.0 in let f = fits.0 in omega arith),
  (let l = longer p.receivers.items q.receivers.items more.1 in let f = fits.1 in omega arith),
  (let l = longer p.types q.types more.2 in let f = fits.2 in omega arith),
  subst (λ (ts : List Ty). n.least ≤ length ts) (sym (types_same p.types q.types n.types more.2 fits.2)) fits.3,
)

pub all_more : (p q : Pool) → Extends p q → (os : List Stored) → AllFit p os → AllFit q os
all_more p q more os fit = λ k. fits_more p q more (slice_index_or (map needs os) k none) (fit k)

fits_none : (p : Pool) → Fits p none
fits_none p = (omega arith, omega arith, omega arith, omega arith)

fit_behind : (p : Pool) (os : List Stored) (o : Stored) → AllFit p os → Fits p (needs o) → (k : ℕ) → Fits p (slice_index_or (map needs (os ++ o ∷ [])) k none)
fit_behind p [] o fit own zero = own
fit_behind p [] o fit own (suc k) = fits_none p
fit_behind p (x ∷ xs) o fit own zero = fit 0
fit_behind p (x ∷ xs) o fit own (suc k) = fit_behind p xs o (λ j. fit (suc j)) own k

-- an object more that fits
pub all_behind : (p : Pool) (os : List Stored) (o : Stored) → AllFit p os → Fits p (needs o) → AllFit p (os ++ o ∷ [])
all_behind p os o fit own = λ k. fit_behind p os o fit own k

-- other objects that need the same
pub all_kept : (p : Pool) (old new : List Stored) → map needs new ≡ map needs old → AllFit p old → AllFit p new
all_kept p old new e fit = λ k. subst (λ (ns : List Needs). Fits p (slice_index_or ns k none)) (sym e) (fit k)

pub fit_at : (p : Pool) (os : List Stored) (at : ℕ) (o : Stored) → AllFit p os → at < length os → o ≡ slice_index_or os at o → Fits p (needs o)
fit_at p [] at o fit below e = absurd (omega arith)
fit_at p (x ∷ xs) zero o fit below e = subst (λ (s : Stored). Fits p (needs s)) (sym e) (fit 0)
fit_at p (x ∷ xs) (suc at) o fit below e = fit_at p xs at o (λ k. fit (suc k)) (omega arith) e

-- ---- lengths of texts

long_text : (units : List ℕ) (start len : ℕ) → start + len ≤ length units → length (text_at units start len) ≡ len
long_text units start len fits = length-take-le len (drop start units) (omega (arith, length-drop start units))

pub text_length : (p : Pool) (os : List Stored) (at : ℕ) (o : Stored) (start len : ℕ) → AllFit p os → at < length os → o ≡ slice_index_or os at o → o ≡ code.Text start len → len ≡ length_of (slice_get (map (stored_object p) os) at)
text_length p [] at o start len fit below e is = absurd (omega arith)
text_length p (x ∷ xs) zero o start len fit below e is =
    let same : code.Text start len ≡ x = sym is ∙ e in
    let fits = subst (λ (s : Stored). Fits p (needs s)) (sym same) (fit 0) in
    sym (long_text p.units.items start len fits.0) ∙ ap (λ (s : Stored). length_of (Some (stored_object p s))) same
text_length p (x ∷ xs) (suc at) o start len fit below e is = text_length p xs at o start len (λ k. fit (suc k)) (omega arith) e is

-- ---- an object more beside a pool that grew

pub seen_same : (p q : Pool) → Extends p q → (os ns : List Stored) → AllFit p os → ns ≡ os → map (stored_object q) ns ≡ map (stored_object p) os
seen_same p q more os ns fit e = ap (map (stored_object q)) e ∙ all_same p q more os fit

pub fit_same : (p q : Pool) → Extends p q → (os ns : List Stored) → AllFit p os → ns ≡ os → AllFit q ns
fit_same p q more os ns fit e = subst (λ (l : List Stored). AllFit q l) (sym e) (all_more p q more os fit)

pub seen_added : (p q : Pool) → Extends p q → (os ns : List Stored) (o : Stored) (x : HeapObject) → AllFit p os → ns ≡ os ++ o ∷ [] → stored_object q o ≡ x → map (stored_object q) ns ≡ map (stored_object p) os ++ x ∷ []
seen_added p q more os ns o x fit e is =
    ap (map (stored_object q)) e ∙ map_more (stored_object q) os o ∙ ap (λ (l : List HeapObject). l ++ stored_object q o ∷ []) (all_same p q more os fit)
    ∙ ap (λ (y : HeapObject). map (stored_object p) os ++ y ∷ []) is

pub fit_added : (p q : Pool) → Extends p q → (os ns : List Stored) (o : Stored) → AllFit p os → ns ≡ os ++ o ∷ [] → Fits q (needs o) → AllFit q ns
fit_added p q more os ns o fit e own = subst (λ (l : List Stored). AllFit q l) (sym e) (all_behind q os o (all_more p q more os fit) own)
