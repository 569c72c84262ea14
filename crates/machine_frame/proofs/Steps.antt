-- Steps that are taken.
use Rattle.std.proofs.Common.{◌≡◌, ◌≢◌, ◌<◌, ◌+◌, ◌++◌, ℕ, suc, ◌-◌, List, [], ◌∷◌, ap, ◌∙◌, nat_lt, true, false, arith}
use Rattle.std.proofs.lemmas.Bool.{le-ltb, lt-ltb}
use Rattle.dart_base.specs.declared.place.Place.{Place}
use Rattle.core_program.specs.Core.{Core, Form}
use Rattle.core_program.specs.Core as c
use Rattle.core_program.specs.Program.{Parameter}
use Rattle.evaluation.specs.State.{State, ended, out_of_steps, ends, Meaning, Given, World}
use Rattle.evaluation.specs.Sequence.{on_answer, taken, entering}
use Rattle.evaluation.specs.Parts.{takes_step}
use Rattle.evaluation.specs.Evaluation.{eval, act, stepped, bind_one, binding}
use Rattle.machine_frame.specs.declared.run.Exit.{Exit}
use Rattle.machine_frame.specs.declared.run.Exit.TheVariants as exit
use Rattle.machine_frame.specs.declared.run.Control.TheVariants.{Leave}
use Rattle.machine_frame.specs.declared.run.Frame.{Frame}
use Rattle.machine_frame.specs.Frames.{weight, frame_weight, load}

pub some_left : (n : ℕ) → n ≢ 0 → nat_lt n 1 ≡ false
some_left n h = le-ltb n 1 (omega arith)

pub none_left : (n : ℕ) → n ≡ 0 → nat_lt n 1 ≡ true
none_left n h = lt-ltb n 1 (omega arith)

pub enters : (d : Meaning) (st : State) → st.left ≢ 0 → entering d st ≡ d (record st { left = st.left - 1 })
enters d st h = ap (λ b. taken b 1 d st) (some_left st.left h)

pub enters_not : (d : Meaning) (st : State) → st.left ≡ 0 → entering d st ≡ ends (ended out_of_steps) (record st { left = 0 })
enters_not d st h = ap (λ b. taken b 1 d st) (none_left st.left h)

pub form_enters : (at : Place) (x : Form ℕ) (w : World) (st : State) → takes_step x ≡ true → st.left ≢ 0 → eval (c.at at x) w st ≡ act x at w (record st { left = st.left - 1 })
form_enters at x w st s h = ap (λ b. stepped b (act x at w) st) s ∙ enters (act x at w) st h

pub form_enters_not : (at : Place) (x : Form ℕ) (w : World) (st : State) → takes_step x ≡ true → st.left ≡ 0 → eval (c.at at x) w st ≡ ends (ended out_of_steps) (record st { left = 0 })
form_enters_not at x w st s h = ap (λ b. stepped b (act x at w) st) s ∙ enters_not (act x at w) st h

pub form_free : (at : Place) (x : Form ℕ) (w : World) (st : State) → takes_step x ≡ false → eval (c.at at x) w st ≡ act x at w st
form_free at x w st s = ap (λ b. stepped b (act x at w) st) s

pub binding_begins : (w : World) (g : Given) (q : Parameter ℕ) (qs : List (Parameter ℕ)) (i : ℕ) (go : Meaning) (st : State) → st.left ≢ 0
    → binding w g (q ∷ qs) i go st ≡ on_answer (λ _. binding w g qs (suc i) go) (bind_one w g i q (record st { left = st.left - 1 }))
binding_begins w g q qs i go st h = enters (λ st. on_answer (λ _. binding w g qs (suc i) go) (bind_one w g i q st)) st h

pub binding_stops : (w : World) (g : Given) (q : Parameter ℕ) (qs : List (Parameter ℕ)) (i : ℕ) (go : Meaning) (st : State) → st.left ≡ 0
    → binding w g (q ∷ qs) i go st ≡ ends (ended out_of_steps) (record st { left = 0 })
binding_stops w g q qs i go st h = enters_not (λ st. on_answer (λ _. binding w g qs (suc i) go) (bind_one w g i q st)) st h

pub none_below : (n : ℕ) → nat_lt n 0 ≡ false
none_below n = le-ltb n 0 (omega arith)

pub leave_weight : (x : Exit) → weight (Leave x) < 6
leave_weight exit.Answered = omega arith
leave_weight (exit.Jumps way n) = omega arith
leave_weight exit.Returns = omega arith
leave_weight (exit.Throws place) = omega arith
leave_weight (exit.Over e) = omega arith

pub load_push : (fs : List Frame) (f : Frame) → load (fs ++ f ∷ []) ≡ load fs + frame_weight f
load_push [] f = omega arith
load_push (g ∷ fs) f = omega (arith, load_push fs f)
