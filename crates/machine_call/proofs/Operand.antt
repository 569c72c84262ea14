-- A call that is given nothing, or the last operand alone, as what it does without them.
use Rattle.std.proofs.Common.{◌≡◌, false, List, [], ◌∷◌, ◌++◌, map, ap, ◌∙◌}
use Rattle.dart_base.specs.declared.name.Name.{Name}
use Rattle.dart_ir.specs.declared.value.Value.{Value}
use Rattle.machine_lookup.specs.Rows.{but_last}
use Rattle.evaluation.specs.State.{Meaning, World, Given}
use Rattle.evaluation.specs.Arguments.{given, alone, nothing_given}
use Rattle.machine_frame.specs.declared.around.Around.{Around}
use Rattle.machine_frame.specs.declared.run.Passed.{Passed}
use Rattle.machine_frame.specs.declared.run.Run.{Run}
use Rattle.machine_frame.specs.Outside.{world_in}
use Rattle.machine_frame.specs.Frames.{seen, below_of, mute, resume, does, does_row, given_of}
use Rattle.machine_call.proofs.Alone.{none_given, none_cut, one_given, one_cut, no_names}

given_one : (g : Passed) (xs : List Value) (x : Value) → g.names.now ≡ [] → g.skip ≡ false → g.count ≡ 1 → given_of g (xs ++ x ∷ []) ≡ alone x
given_one g xs x e s n =
    ap (λ vs. given (map (λ (name : Name). name.0) g.names.now) vs) (one_given g.skip g.count xs x s n) ∙ ap (λ ns. given ns (x ∷ [])) (no_names g.names.now e)

given_nothing : (g : Passed) (xs : List Value) → g.names.now ≡ [] → g.skip ≡ false → g.count ≡ 0 → given_of g xs ≡ nothing_given
given_nothing g xs e s n =
    ap (λ vs. given (map (λ (name : Name). name.0) g.names.now) vs) (none_given g.skip g.count xs s n) ∙ ap (λ ns. given ns []) (no_names g.names.now e)

pub does_nothing : (a : Around) (r : Run) (g : Passed) (go : Given → World → Meaning) → g.names.now ≡ [] → g.skip ≡ false → g.count ≡ 0
    → does_row a r g.count (go (given_of g r.operands.items)) ≡ does a r (go nothing_given)
does_nothing a r g go e s n =
    ap (λ l. mute (resume a (record (below_of r) { operands = l }) r.frames.items (go (given_of g r.operands.items) (world_in a r.depth) (seen r)))) (none_cut g.count r.operands.items n)
    ∙ ap (λ given. does a r (go given)) (given_nothing g r.operands.items e s n)

pub does_alone : (a : Around) (r m : Run) (x : Value) (g : Passed) (go : Given → World → Meaning) → m.operands.items ≡ r.operands.items ++ x ∷ []
    → m ≡ record r { operands = m.operands } → g.names.now ≡ [] → g.skip ≡ false → g.count ≡ 1
    → does_row a m g.count (go (given_of g m.operands.items)) ≡ does a r (go (alone x))
does_alone a r m x g go h is e s n =
    ap (λ (q : Run). mute (resume a (record (below_of q) { operands = but_last g.count m.operands.items }) q.frames.items (go (given_of g m.operands.items) (world_in a q.depth) (seen q)))) is
    ∙ ap (λ l. mute (resume a (record (below_of r) { operands = but_last g.count l }) r.frames.items (go (given_of g l) (world_in a r.depth) (seen r)))) h
    ∙ ap (λ l. mute (resume a (record (below_of r) { operands = l }) r.frames.items (go (given_of g (r.operands.items ++ x ∷ [])) (world_in a r.depth) (seen r)))) (one_cut g.count r.operands.items x n)
    ∙ ap (λ given. does a r (go given)) (given_one g r.operands.items x e s n)
