-- Runs that differ in the slots of the body at work and in the store.
use Rattle.std.specs.Global.{Vec}
use Rattle.std.proofs.Common.{◌≡◌, ℕ, List, take, ap, ◌∙◌}
use Rattle.dart_ir.specs.declared.types.TypeRef.{TypeRef}
use Rattle.dart_ir.specs.declared.value.Value.{Value}
use Rattle.evaluation.specs.State.{Meaning, World}
use Rattle.machine_frame.specs.declared.around.Around.{Around}
use Rattle.machine_frame.specs.declared.run.Body.{Body}
use Rattle.machine_frame.specs.declared.run.Frame.{Frame}
use Rattle.machine_frame.specs.declared.run.Run.{Run}
use Rattle.machine_frame.specs.Outside.{world_in}
use Rattle.machine_frame.specs.Frames.{seen, below_of, types_under, resume, does, mute, IsBeside}

pub beside_does : (a : Around) (r r' : Run) → IsBeside r r' → (m : World → Meaning)
    → does a r' m ≡ mute (resume a (below_of r) r.frames.items (m (world_in a r.depth) (seen r')))
beside_does a r r' b m =
    ap (λ (d : ℕ). mute (resume a (record { depth = d; under = take r'.base r'.slots.items; operands = r'.operands.items; types = types_under r'.body.has_types r'.types.items; bodies = r'.callers.items }) r'.frames.items (m (world_in a d) (seen r')))) b.5
    ∙ ap (λ (vs : List Value). mute (resume a (record { depth = r.depth; under = vs; operands = r'.operands.items; types = types_under r'.body.has_types r'.types.items; bodies = r'.callers.items }) r'.frames.items (m (world_in a r.depth) (seen r')))) b.1
    ∙ ap (λ (vs : List Value). mute (resume a (record { depth = r.depth; under = take r.base r.slots.items; operands = vs; types = types_under r'.body.has_types r'.types.items; bodies = r'.callers.items }) r'.frames.items (m (world_in a r.depth) (seen r')))) b.3
    ∙ ap (λ (x : Body). mute (resume a (record { depth = r.depth; under = take r.base r.slots.items; operands = r.operands.items; types = types_under x.has_types r'.types.items; bodies = r'.callers.items }) r'.frames.items (m (world_in a r.depth) (seen r')))) b.4
    ∙ ap (λ (ts : List (Vec TypeRef)). mute (resume a (record { depth = r.depth; under = take r.base r.slots.items; operands = r.operands.items; types = types_under r.body.has_types ts; bodies = r'.callers.items }) r'.frames.items (m (world_in a r.depth) (seen r')))) b.8
    ∙ ap (λ (bs : List Body). mute (resume a (record (below_of r) { bodies = bs }) r'.frames.items (m (world_in a r.depth) (seen r')))) b.9
    ∙ ap (λ (fs : List Frame). mute (resume a (below_of r) fs (m (world_in a r.depth) (seen r')))) b.0
