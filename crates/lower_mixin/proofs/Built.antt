-- The classes that were added to, by their numbers.
use Rattle.std.proofs.Common.{◌≡◌, ◌∙◌, ℕ, zero, suc, ◌+◌, ◌<◌, ◌≤◌, List, [], ◌∷◌, ◌++◌, map, length, get_or, drop, refl, sym, ap, Bool, true, false, cond, arith}
use Rattle.std.specs.Global.{Vec}
use Rattle.std.proofs.lemmas.List.{map-append, length-map, length-append, get_or-map, get_or_past}
use Rattle.std.specs.List.{find}
use Rattle.std.specs.Prelude.{nat_eq, Some, None, Option}
use Rattle.std.proofs.lemmas.Bool.Decides.{nat_tests}
use Rattle.translation.specs.Applications as ap
use Rattle.translation.specs.Applications.{Built}
use Rattle.translation.specs.Classes.{Generated}
use Rattle.dart_ir.specs.declared.class.ClassInfo.{ClassInfo}
use Rattle.translation.specs.ClassBodies.{ClassMade}
use Rattle.translation.specs.Walk as w
use Rattle.lower_leaf.specs.Around.{Around}
use Rattle.lower_body.specs.Views.{all_generated}
use Rattle.lower_body.specs.declared.finish.Generated as code
use Rattle.lower_body.proofs.Walking.{rest_at}
use Rattle.lower_mixin.specs.Built.{built_from}
use Rattle.lower_mixin.specs.Views.{built_of, class_info}

-- one class more
pub built_more : (n : ℕ) (xs : List (List Generated)) (x : List Generated) (before : List Built) →
    built_from n (xs ++ x ∷ []) before ≡ record { class = n + length xs; constructors = x } ∷ built_from n xs before
built_more n [] x before = let e : n ≡ n + 0 = omega arith in
    ap (λ (k : ℕ). let one : Built = record { class = k; constructors = x } in one ∷ before) e
built_more n (y ∷ ys) x before = let e : (n + 1) + length ys ≡ n + suc (length ys) = omega arith in
    built_more (n + 1) ys x (record { class = n; constructors = y } ∷ before)
    ∙ ap (λ (k : ℕ). let one : Built = record { class = k; constructors = x } in one ∷ built_from (n + 1) ys (record { class = n; constructors = y } ∷ before)) e

-- the constructors of class m, if they are among those from class n on
from : ℕ → ℕ → List (List Generated) → List Generated → List Generated
from m n [] otherwise = otherwise
from m n (y ∷ ys) otherwise = from m (n + 1) ys (cond (nat_eq n m) y otherwise)

abbrev found_in : ℕ → List Built → List Generated
found_in m built = ap.constructors_in (find (λ x. nat_eq x.class m) built)

chosen : (of : Bool) (one : Built) (rest : Option Built) → ap.constructors_in (cond of (Some one) rest) ≡ cond of one.constructors (ap.constructors_in rest)
chosen true one rest = refl
chosen false one rest = refl

found_from : (m n : ℕ) (xs : List (List Generated)) (before : List Built) → found_in m (built_from n xs before) ≡ from m n xs (found_in m before)
unfolding from
found_from m n [] before = refl
found_from m n (y ∷ ys) before = found_from m (n + 1) ys (record { class = n; constructors = y } ∷ before)
    ∙ ap (λ (o : List Generated). from m (n + 1) ys o) (chosen (nat_eq n m) (record { class = n; constructors = y }) (find (λ x. nat_eq x.class m) before))

from_past : (m n : ℕ) (xs : List (List Generated)) (otherwise : List Generated) → m < n → from m n xs otherwise ≡ otherwise
unfolding from
from_past m n [] otherwise below = refl
from_past m n (y ∷ ys) otherwise below =
    let next : m < n + 1 = omega arith in
    let other : nat_eq n m ≡ false = grind (arith, nat_tests) in
    from_past m (n + 1) ys (cond (nat_eq n m) y otherwise) next ∙ ap (λ (b : Bool). cond b y otherwise) other

from_at : (m n k : ℕ) (xs : List (List Generated)) (otherwise : List Generated) → m ≡ n + k → from m n xs otherwise ≡ get_or xs k otherwise
unfolding from
from_at m n k [] otherwise e = refl
from_at m n zero (y ∷ ys) otherwise e =
    let next : m < n + 1 = omega arith in
    let same : nat_eq n m ≡ true = grind (arith, nat_tests) in
    from_past m (n + 1) ys (cond (nat_eq n m) y otherwise) next ∙ ap (λ (b : Bool). cond b y otherwise) same
from_at m n (suc k) (y ∷ ys) otherwise e =
    let next : m ≡ (n + 1) + k = omega arith in
    let other : nat_eq n m ≡ false = grind (arith, nat_tests) in
    from_at m (n + 1) k ys (cond (nat_eq n m) y otherwise) next ∙ ap (λ (b : Bool). get_or ys k (cond b y otherwise)) other

-- the constructors of a class are those at its number
pub found_at : (m : ℕ) (xs : List (List Generated)) → ap.constructors_of (built_from 0 xs []) (Some m) ≡ get_or xs m []
found_at m xs = let e : m ≡ 0 + m = omega arith in found_from m 0 xs [] ∙ from_at m 0 m xs [] e

-- ---- as the code has them

pub built_at : (a : Around) (xs : List (Vec code.Generated)) (m : ℕ) (x : Vec code.Generated) → m < length xs → x ≡ get_or xs m x →
    all_generated a x ≡ ap.constructors_of (built_of a xs) (Some m)
built_at a xs m x below is =
    ap (all_generated a) is ∙ sym (get_or-map (all_generated a) xs m x [] below) ∙ sym (found_at m (map (all_generated a) xs))

pub built_past : (a : Around) (xs : List (Vec code.Generated)) (m : ℕ) → length xs ≤ m → ap.constructors_of (built_of a xs) (Some m) ≡ []
built_past a xs m past =
    let past2 : length (map (all_generated a) xs) ≤ m = omega (arith, length-map xs (all_generated a)) in
    found_at m (map (all_generated a) xs) ∙ get_or_past (map (all_generated a) xs) m [] past2

-- what is added to the classes from an index on
abbrev pub added_from : Around → List ClassInfo → List ClassMade → List (Vec code.Generated) → w.Walk ℕ
added_from a classes made built st = ap.added (length built) (map (class_info a) classes) made (built_of a built) st

-- the next class
pub added_next : (a : Around) (classes ys : List ClassInfo) (i : ℕ) (x : ClassInfo) (made : List ClassMade) (built : List (Vec code.Generated)) (st : w.State) (whole : w.Went ℕ) →
    ys ≡ classes → i < length ys → x ≡ get_or ys i x → added_from a (drop i classes) made built st ≡ whole →
    whole ≡ w.on (ap.added_to (st.tables.mixin (length built)) (length built) (class_info a x) made (built_of a built) st)
    (λ all st. ap.added (length built + 1) (map (class_info a) (drop (i + 1) classes)) made (record { class = length built; constructors = all } ∷ built_of a built) st)
added_next a classes ys i x made built st whole same below is done =
    sym done ∙ ap (λ (l : List ClassInfo). added_from a l made built st) (rest_at classes ys i x same below is)

-- one class more
built_next : (a : Around) (built built2 : List (Vec code.Generated)) (all : Vec code.Generated) → built2 ≡ built ++ all ∷ [] →
    built_of a built2 ≡ record { class = length built; constructors = all_generated a all } ∷ built_of a built
built_next a built built2 all pushed =
    let e : 0 + length (map (all_generated a) built) ≡ length built = omega (arith, length-map built (all_generated a)) in
    ap (built_of a) pushed
    ∙ ap (λ (l : List (List Generated)). built_from 0 l []) (map-append (all_generated a) built (all ∷ []))
    ∙ built_more 0 (map (all_generated a) built) (all_generated a all) []
    ∙ ap (λ (k : ℕ). let one : Built = record { class = k; constructors = all_generated a all } in one ∷ built_of a built) e

pub added_step : (a : Around) (classes ys : List ClassInfo) (i : ℕ) (x : ClassInfo) (made : List ClassMade) (built built2 : List (Vec code.Generated)) (all : Vec code.Generated)
    (st st2 : w.State) (whole : w.Went ℕ) → ys ≡ classes → i < length ys → x ≡ get_or ys i x → built2 ≡ built ++ all ∷ [] →
    ap.added_to (st.tables.mixin (length built)) (length built) (class_info a x) made (built_of a built) st ≡ w.went (all_generated a all) st2 →
    added_from a (drop i classes) made built st ≡ whole → added_from a (drop (i + 1) classes) made built2 st2 ≡ whole
unfolding w.on
added_step a classes ys i x made built built2 all st st2 whole same below is pushed added done =
    let rest = λ (n : ℕ) (l : List Built). ap.added n (map (class_info a) (drop (i + 1) classes)) made l st2 in
    let longer : length built2 ≡ length built + 1 = ap length pushed ∙ length-append built (all ∷ []) in
    ap (λ (n : ℕ). rest n (built_of a built2)) longer
    ∙ ap (λ (l : List Built). rest (length built + 1) l) (built_next a built built2 all pushed)
    ∙ sym (added_next a classes ys i x made built st whole same below is done
    ∙ ap (λ (went : w.Went (List Generated)). w.on went (λ all st. ap.added (length built + 1) (map (class_info a) (drop (i + 1) classes)) made (record { class = length built; constructors = all } ∷ built_of a built) st)) added)
