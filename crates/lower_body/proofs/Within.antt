-- Walks inside of a class.
use Rattle.std.proofs.Common.{◌≡◌, ◌∙◌, ℕ, sym, ap, Err}
use Rattle.dart_tree.specs.Unit as u
use Rattle.translation.specs.ClassBodies as b
use Rattle.translation.specs.Functions as f
use Rattle.translation.specs.Surroundings.{Names}
use Rattle.translation.specs.Types as y
use Rattle.translation.specs.Walk as w
use Rattle.lower_leaf.specs.declared.fault.LowerFault.{LowerFault}
use Rattle.lower_leaf.specs.Gives.{Gives}
use Rattle.lower_decl.proofs.Stops.{stops}
use Rattle.lower_body.specs.Inside.{entered, left}

pub class_begun : {A : Type 0} (names there : Names) (walk : w.Walk A) (st0 st1 : w.State) → there ≡ names → st1 ≡ entered there st0 →
    b.in_class names walk st0 ≡ w.on (walk st1) (λ a after. w.went a (left st0.names st0.variables after))
class_begun names there walk st0 st1 en e1 =
    ap (λ (st : w.State). w.on (walk st) (λ a after. w.went a (left st0.names st0.variables after)))
    (sym (e1 ∙ ap (λ (n : Names). entered n st0) en))

pub class_on : {A : Type 0} (names there : Names) (walk : w.Walk A) (st0 st1 st2 st3 : w.State) (made : A) (before : Names) (variables : ℕ) →
    there ≡ names → st1 ≡ entered there st0 → before ≡ st0.names → variables ≡ st0.variables → walk st1 ≡ w.went made st2 → st3 ≡ left before variables st2 →
    b.in_class names walk st0 ≡ w.went made st3
unfolding w.on
class_on {A} names there walk st0 st1 st2 st3 made before variables en e1 eb ev e2 e3 =
    class_begun names there walk st0 st1 en e1
    ∙ ap (λ (r : w.Went A). w.on r (λ a after. w.went a (left st0.names st0.variables after))) e2
    ∙ ap (λ (n : Names). w.went made (left n st0.variables st2)) (sym eb)
    ∙ ap (λ (v : ℕ). w.went made (left before v st2)) (sym ev)
    ∙ ap (λ (st : w.State). w.went made st) (sym e3)

-- a reason stops the walk inside
pub class_stops : {X Y A : Type 0} (view : X → A) (other : Y → A) (fault : LowerFault) (names there : Names) (walk : w.Walk A) (st0 st1 st st2 : w.State) →
    there ≡ names → st1 ≡ entered there st0 → Gives view (Err fault) st (walk st1) → Gives other (Err fault) st2 (b.in_class names walk st0)
class_stops view other fault names there walk st0 st1 st st2 en e1 stopped =
    stops view other fault st st2 (walk st1) (λ a after. w.went a (left st0.names st0.variables after)) _ (class_begun names there walk st0 st1 en e1) stopped

-- a class by the number that its name means
pub declared_same : (x : u.Class) (n k : ℕ) (st st0 : w.State) → f.numbered st ≡ w.went k st0 →
    n ≡ b.class_number (st0.names.meaning (y.text_of x.name)) →
    b.in_class (st0.tables.class_names n) (b.class_inside n x) st0 ≡ b.class_declared x st
unfolding w.on
declared_same x n k st st0 numbered means =
    ap (λ (m : ℕ). b.in_class (st0.tables.class_names m) (b.class_inside m x) st0) means
    ∙ sym (ap (λ (r : w.Went ℕ). w.on r (λ k st. b.in_class (st.tables.class_names (b.class_number (st.names.meaning (y.text_of x.name))))
    (b.class_inside (b.class_number (st.names.meaning (y.text_of x.name))) x) st)) numbered)
