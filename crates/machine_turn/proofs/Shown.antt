-- What a turn shows.
use Rattle.std.proofs.Common.{◌≡◌, ℕ, [], Option, Some, None, List, refl, sym, ap, ◌∙◌, ℤ, pos, negsuc}
use Rattle.std.specs.Prelude.{option_map}
use Rattle.std.specs.Fmt.{signed_decimal}
use Rattle.dart_store.specs.Heap.{Heap}
use Rattle.core_program.specs.declared.program.CoreProgram.{CoreProgram}
use Rattle.core_program.specs.ProgramView as p
use Rattle.evaluation.specs.State.{State, Completion, answer, jumps, returns, throws, ended, Outcome, ends, Setting, World}
use Rattle.evaluation.specs.Turn.{integer_text, end_of, turn_of, turn, Entry, main, started, begun, Isolate, new_heap, isolate_with, Budget}
use Rattle.machine_frame.specs.declared.around.Around.{Around}
use Rattle.machine_frame.specs.declared.run.Exit.{Exit}
use Rattle.machine_frame.specs.declared.run.Frame.{Frame}
use Rattle.machine_frame.specs.declared.run.Run.{Run}
use Rattle.machine_frame.specs.Outside.{setting_of, world_in}
use Rattle.machine_frame.specs.Frames.{seen, below_of, resume, does, completed, mute}
use Rattle.machine_turn.specs.declared.turned.Turned.{Turned}
use Rattle.machine_turn.specs.Turn.{ending, quiet, isolate, shown, first_turn}

pub integer_shown : (z : ℤ) → signed_decimal z ≡ integer_text z
integer_shown (pos n) = refl
integer_shown (negsuc n) = refl

same_end : (s : Setting) (c : Completion) (st : State) → end_of s c (record st { events = [] }) ≡ end_of s c st
same_end s (answer v) st = refl
same_end s (jumps way n) st = refl
same_end s (returns v) st = refl
same_end s (throws v place) st = refl
same_end s (ended e) st = refl

quiet_turn : (s : Setting) (o : Outcome) → turn_of s (mute o) ≡ quiet (turn_of s o)
quiet_turn s (ends c st) = ap (λ e. record (quiet (turn_of s (ends c st))) { end = e }) (same_end s c st)

-- a turn whose outcome is known, events aside
pub turn_shown : (w : World) (entry : Entry) (i : Isolate) (c : Completion) (st : State) → ends c st ≡ mute (started w entry (begun i))
    → turn_of w.setting (ends c st) ≡ quiet (turn w entry i)
turn_shown w entry i c st e = ap (turn_of w.setting) e ∙ quiet_turn w.setting (started w entry (begun i))

-- what is taken off a run at its end
pub taken : (a : Around) (t : Turned) (r : Run) (exit : Exit) → t.output ≡ r.output.items → ending t.end ≡ end_of (setting_of a) (completed exit r.answer) (seen r)
    → t.left ≡ r.left → t.store ≡ r.store → shown t ≡ turn_of (setting_of a) (ends (completed exit r.answer) (seen r))
taken a t r exit o e l h =
    ap (λ lines. record { output = lines; events = []; end = ending t.end; after = isolate t.left t.store }) o
    ∙ ap (λ end. record { output = r.output.items; events = []; end = end; after = isolate t.left t.store }) e
    ∙ ap (λ n. record { output = r.output.items; events = []; end = end_of (setting_of a) (completed exit r.answer) (seen r); after = isolate n t.store }) l
    ∙ ap (λ (heap : Heap). record { output = r.output.items; events = []; end = end_of (setting_of a) (completed exit r.answer) (seen r); after = isolate r.left heap }) h

-- a run that begins with a turn
begins : (a : Around) (depth : ℕ) (entry : Entry) (i : Isolate) (r : Run) → r.frames.items ≡ [] → seen r ≡ begun i → r.depth ≡ depth
    → does a r (λ w. started w entry) ≡ mute (started (world_in a depth) entry (begun i))
begins a depth entry i r fresh is d =
    ap (λ (fs : List Frame). mute (resume a (below_of r) fs (started (world_in a r.depth) entry (seen r)))) fresh
    ∙ ap (λ n. mute (started (world_in a n) entry (seen r))) d
    ∙ ap (λ st. mute (started (world_in a depth) entry st)) is

pub turn_is : (a : Around) (depth : ℕ) (entry : Entry) (i : Isolate) (r now : Run) (t : Turned) (exit : Exit)
    → r.frames.items ≡ [] → seen r ≡ begun i → r.depth ≡ depth → ends (completed exit now.answer) (seen now) ≡ does a r (λ w. started w entry)
    → shown t ≡ turn_of (setting_of a) (ends (completed exit now.answer) (seen now)) → shown t ≡ quiet (turn (world_in a depth) entry i)
turn_is a depth entry i r now t exit fresh is d ran taken =
    taken ∙ turn_shown (world_in a depth) entry i (completed exit now.answer) (seen now) (ran ∙ begins a depth entry i r fresh is d)

pub first_some : (w : World) (x : CoreProgram) (b : Budget) (heap : Heap) (o : Option Heap) → o ≡ Some heap → o ≡ new_heap (p.program x) b.units
    → Some (quiet (turn w (main x.main.0) (isolate b.steps heap))) ≡ first_turn w x b
first_some w x b heap o s e = ap (λ h. option_map (λ i. quiet (turn w (main x.main.0) i)) (isolate_with b.steps h)) (sym s ∙ e)

pub first_none : (w : World) (x : CoreProgram) (b : Budget) (o : Option Heap) → o ≡ None → o ≡ new_heap (p.program x) b.units → None ≡ first_turn w x b
first_none w x b o s e = ap (λ h. option_map (λ i. quiet (turn w (main x.main.0) i)) (isolate_with b.steps h)) (sym s ∙ e)
