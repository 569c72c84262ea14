-- The bodies that wait for others, the last of which is the caller of the body at work.
use Rattle.std.proofs.Common.{◌≡◌, List, [], ◌∷◌, ◌++◌, length, refl, ap, ◌∙◌, arith}
use Rattle.std.specs.Prelude.{slice_get}
use Rattle.machine_frame.specs.declared.run.Body.{Body}
use Rattle.machine_frame.specs.Frames.{body_or_none, no_body, last_body, bodies_under}
use Rattle.machine_frame.proofs.Rows.{but_push, but_none}
use Rattle.machine_frame.proofs.Types.{got_last, long}

pub last_pushed : (all : List Body) (body : Body) → last_body (all ++ body ∷ []) ≡ body
last_pushed all body = ap (λ n. body_or_none (slice_get (all ++ body ∷ []) n)) (long all body) ∙ ap body_or_none (got_last all body)

pub under_pushed : (all : List Body) (body : Body) → bodies_under (all ++ body ∷ []) ≡ all
under_pushed all body = but_push 0 all body ∙ but_none all

pub last_none : (all : List Body) → all ≡ [] → last_body all ≡ no_body
last_none all e = ap last_body e

pub under_none : (all : List Body) → all ≡ [] → bodies_under all ≡ all
under_none [] e = refl
under_none (x ∷ xs) e = absurd (omega (arith, ap length e))
