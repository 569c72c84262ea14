-- What stops walks.
use Rattle.std.proofs.Common.{◌≡◌, ℕ, sym, ap, subst, Err}
use Rattle.translation.specs.Declarations as d
use Rattle.translation.specs.Walk as w
use Rattle.lower_leaf.specs.declared.fault.LowerFault.{LowerFault}
use Rattle.lower_leaf.specs.declared.fault.LowerFault.TheVariants as f
use Rattle.lower_leaf.specs.Gives.{Gives}
use Rattle.lower_decl.specs.Standings.{numbered_from}

-- a reason stops all that follows
stopped : {X Y A B : Type 0} (view : X → A) (other : Y → B) (fault : LowerFault) (st st2 : w.State) (walk : w.Went A) (next : A → w.State → w.Went B) →
    Gives view (Err fault) st walk → Gives other (Err fault) st2 (w.on walk next)
unfolding w.on
stopped {A = A} view other (f.LeftOut place feature) st st2 walk next h = ap (λ (went : w.Went A). w.on went next) h
stopped {A = A} view other (f.NotConstant place) st st2 walk next h = ap (λ (went : w.Went A). w.on went next) h
stopped {A = A} view other (f.BadLabel place) st st2 walk next h = ap (λ (went : w.Went A). w.on went next) h
stopped {A = A} view other (f.BadConstructor place) st st2 walk next h = ap (λ (went : w.Went A). w.on went next) h
stopped {A = A} view other (f.BadSwitch place) st st2 walk next h = ap (λ (went : w.Went A). w.on went next) h
stopped {A = A} view other (f.BadWord place) st st2 walk next h = ap (λ (went : w.Went A). w.on went next) h
stopped {A = A} view other (f.TooLarge place) st st2 walk next h = ap (λ (went : w.Went A). w.on went next) h
stopped view other f.Memory st st2 walk next h = tt

pub stops : {X Y A B : Type 0} (view : X → A) (other : Y → B) (fault : LowerFault) (st st2 : w.State) (walk : w.Went A) (next : A → w.State → w.Went B) (whole : w.Went B) →
    whole ≡ w.on walk next → Gives view (Err fault) st walk → Gives other (Err fault) st2 whole
stops {B = B} view other fault st st2 walk next whole is h =
    subst (λ (went : w.Went B). Gives other (Err fault) st2 went) (sym is) (stopped view other fault st st2 walk next h)

pub outermost_stops : {X Y A : Type 0} (view : X → A) (other : Y → A) (fault : LowerFault) (start : ℕ) (walk : w.Walk A) (st0 st1 st st2 : w.State) →
    st1 ≡ numbered_from start st0 → Gives view (Err fault) st (walk st1) → Gives other (Err fault) st2 (d.outermost start walk st0)
unfolding w.on d.outermost
outermost_stops {A = A} view other fault start walk st0 st1 st st2 begun h =
    stops view other fault st st2 (walk st1) (λ a after. w.went a (d.numbered_since st0 after)) _
    (ap (λ (z : w.State). w.on (walk z) (λ a after. w.went a (d.numbered_since st0 after))) (sym begun)) h
