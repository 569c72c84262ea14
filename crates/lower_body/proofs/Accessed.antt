-- The accessors of fields, one field after another.
use Rattle.std.proofs.Common.{◌≡◌, ◌∙◌, ℕ, List, ◌∷◌, map, sym, ap}
use Rattle.translation.specs.ClassBodies as b
use Rattle.translation.specs.Walk as w
use Rattle.lower_leaf.specs.Around.{Around}
use Rattle.lower_class.specs.Views.{field}
use Rattle.lower_class.specs.declared.field.Field.{Field}
use Rattle.lower_body.proofs.Walking.{on_on}

abbrev pub all_behind : Around → ℕ → List Field → ℕ → w.Walk ℕ
all_behind a n all before st = b.accessors_added n (map (field a) all) st

-- the accessors of a field
abbrev pub both : Around → ℕ → Field → ℕ → w.Walk ℕ
both a n x before st = w.on (b.getter_added n (field a x) st) (λ k st. b.setter_added x.is_final n (field a x) st)

pub both_law : (a : Around) (n : ℕ) (x : Field) (xs : List Field) (before : ℕ) (st : w.State) →
    all_behind a n (x ∷ xs) before st ≡ w.on (both a n x before st) (all_behind a n xs)
both_law a n x xs before st = on_on (b.getter_added n (field a x) st) (λ k st. b.setter_added x.is_final n (field a x) st) (all_behind a n xs)

pub both_went : (a : Around) (n : ℕ) (x : Field) (st st1 st2 : w.State) → b.getter_added n (field a x) st ≡ w.went 0 st1 →
    b.setter_added x.is_final n (field a x) st1 ≡ w.went 0 st2 → both a n x 0 st ≡ w.went 0 st2
unfolding w.on
both_went a n x st st1 st2 got set = ap (λ (r : w.Went ℕ). w.on r (λ k st. b.setter_added x.is_final n (field a x) st)) got ∙ set
