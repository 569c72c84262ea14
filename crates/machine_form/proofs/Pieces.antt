-- Operands of a row that are answered at once.
use Rattle.std.proofs.Common.{◌≡◌, ℕ, ◌<◌, ◌≤◌, Bool, false, Option, Some, None, IfSome, MatchOption, ap, ◌∙◌, arith}
use Rattle.dart_ir.specs.declared.value.Value.{Value}
use Rattle.evaluation.specs.State.{State, answer, ends, Meaning}
use Rattle.evaluation.specs.Evaluation.{piece}
use Rattle.machine_frame.specs.Frames.{mute}

pub piece_quick : {A : Type 0} (found : Option A) (f : A → Value) (g : A → ℕ) (b : Bool) (o : Option Value) (m : Meaning) (st : State) → b ≡ false
    → IfSome found (λ p. mute (m st) ≡ mute (ends (answer (f p)) (record st { left = g p })))
    → MatchOption found (piece b o m st ≡ m st) (λ p. mute (piece b o m st) ≡ mute (ends (answer (f p)) (record st { left = g p })))
piece_quick None f g b o m st e h = ap (λ (c : Bool). piece c o m st) e
piece_quick (Some p) f g b o m st e h = ap (λ (c : Bool). mute (piece c o m st)) e ∙ h

pub at_most : {A : Type 0} (found : Option A) (g : A → ℕ) (n : ℕ) → IfSome found (λ p. g p < n) → IfSome found (λ p. g p ≤ n)
at_most None g n h = h
at_most (Some p) g n h = omega (arith, h)
