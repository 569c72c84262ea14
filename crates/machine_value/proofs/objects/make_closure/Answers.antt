use Rattle.std.proofs.Common.{◌≡◌, ℕ, ◌++◌, map, IfOk, subst, ap, ◌∙◌}
use Rattle.dart_ir.specs.declared.value.Value.{Value}
use Rattle.dart_ir.specs.Ty.{ty}
use Rattle.core_program.specs.declared.program.CoreProgram.{CoreProgram}
use Rattle.core_program.specs.ProgramView as v
use Rattle.evaluation.specs.State.{Outcome}
use Rattle.evaluation.specs.Classes.{function_at}
use Rattle.evaluation.specs.Variables.{cell_in, room, function_captures, cells_for}
use Rattle.machine_frame.specs.Outside.{setting_of}
use Rattle.machine_frame.specs.Frames.{seen, going}
use Rattle.machine_value.proofs.Closures.{closure_made}
use Rattle.machine_value.proofs.objects.make_closure.Goals as goal

pub returns-clause-meaning : goal.returns-clause-meaning
returns-clause-meaning c =
    let r = c.args.run.now in
    let F : ℕ → Value = λ x. cell_in (seen r).activation (room (setting_of c.args.a) r.store (seen r).activation x) in
    let cells : c.from_vec.result ≡ cells_for (setting_of c.args.a) r.store (seen r).activation (function_at (setting_of c.args.a).program c.args.f) =
    c.from_vec.ensures ∙ c.in_ok-capture.ensures
    ∙ ap (λ l. l ++ map F c.function_captures-captures.result.now) c.in_ok-cells.ensures.items ∙ ap (map F) c.function_captures-captures.ensures
    ∙ ap (λ (p : CoreProgram). map F (function_captures (function_at (v.program p) c.args.f))) c.core.ensures in
    let P : Outcome → Type 0 = λ o. IfOk c.place.result (λ k. going c.args.a c.place.new.run k ≡ o) in
    subst P (closure_made c.args.a r c.args.f (map ty c.in_ok-args.args.items) c.from_vec.result c.in_ok-args.ensures cells) c.place.ensures.meaning
