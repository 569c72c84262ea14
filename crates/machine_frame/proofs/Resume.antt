-- Frames that are pushed, and calls that nest.
use Rattle.std.proofs.Common.{◌≡◌, ◌≢◌, ℕ, zero, suc, ◌-◌, List, [], ◌∷◌, ◌++◌, refl, ap, reverse, arith}
use Rattle.std.proofs.lemmas.List.{reverse-append}
use Rattle.evaluation.specs.State.{State, ended, out_of_depth, Outcome, ends, Setting, Reaction, Given, Callee}
use Rattle.evaluation.specs.Classes.{function_at, static_of}
use Rattle.evaluation.specs.Evaluation.{body_of, init_of, world_over, nested}
use Rattle.machine_frame.specs.declared.around.Around.{Around}
use Rattle.machine_frame.specs.declared.run.Frame.{Frame}
use Rattle.machine_frame.specs.Outside.{world_in}
use Rattle.machine_frame.specs.Frames.{Below, below, resumed, resume_from, resume}

reverse_push : (fs : List Frame) (f : Frame) → reverse (fs ++ f ∷ []) ≡ f ∷ reverse fs
reverse_push fs f = reverse-append fs (f ∷ [])

pub resume_push : (a : Around) (b : Below) (fs : List Frame) (f : Frame) (o : Outcome) → resume a b (fs ++ f ∷ []) o ≡ resume a (below b f) fs (resumed (world_in a b.depth) b f o)
resume_push a b fs f o = ap (λ l. resume_from a b l o) (reverse_push fs f)

pub calls_zero : (s : Setting) (r : Reaction) (d f : ℕ) (callee : Callee) (g : Given) (st : State) → d ≡ 0 → (nested s r d).calls f callee g st ≡ ends (ended out_of_depth) st
calls_zero s r d f callee g st e = ap (λ n. (nested s r n).calls f callee g st) e

pub calls_suc : (s : Setting) (r : Reaction) (d f : ℕ) (callee : Callee) (g : Given) (st : State) → d ≢ 0
    → (nested s r d).calls f callee g st ≡ body_of (function_at s.program f) f (world_over s r (nested s r (d - 1))) callee g st
calls_suc s r zero f callee g st h = absurd (h refl)
calls_suc s r (suc d) f callee g st h = ap (λ n. body_of (function_at s.program f) f (world_over s r (nested s r n)) callee g st) (let e : d ≡ suc d - 1 = omega arith in e)

pub inits_zero : (s : Setting) (r : Reaction) (d i : ℕ) (st : State) → d ≡ 0 → (nested s r d).inits i st ≡ ends (ended out_of_depth) st
inits_zero s r d i st e = ap (λ n. (nested s r n).inits i st) e

pub inits_suc : (s : Setting) (r : Reaction) (d i : ℕ) (st : State) → d ≢ 0
    → (nested s r d).inits i st ≡ init_of (static_of s.program i) i (world_over s r (nested s r (d - 1))) st
inits_suc s r zero i st h = absurd (h refl)
inits_suc s r (suc d) i st h = ap (λ n. init_of (static_of s.program i) i (world_over s r (nested s r n)) st) (let e : d ≡ suc d - 1 = omega arith in e)
