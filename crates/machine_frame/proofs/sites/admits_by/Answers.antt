use Rattle.std.specs.Borrow.{Bor}
use Rattle.std.proofs.Common.{ℕ, Option, List, ap, ◌∙◌, inr}
use Rattle.dart_ir.specs.Ty.{Ty}
use Rattle.core_program.specs.declared.program.CoreProgram.{CoreProgram}
use Rattle.core_program.specs.Program.{Site}
use Rattle.core_program.specs.ProgramView as p
use Rattle.evaluation.specs.Checks.{passes_at}
use Rattle.evaluation.specs.Classes.{site_at}
use Rattle.evaluation.specs.Values.{head_of}
use Rattle.machine_frame.specs.Outside.{annotated_or, checking_of, setting_of}
use Rattle.machine_frame.proofs.sites.admits_by.Goals as goal

pub returns-in-Some : goal.returns-in-Some
returns-in-Some c = λ e.
    let a = c.args.a in
    let k = checking_of a in
    let n = c.args.number in
    let head = head_of (setting_of a) c.args.run.now.store c.args.value in
    inr (λ (args : List Ty).
    ap (λ (o : Option (Bor CoreProgram)). passes_at k (site_at (p.program (annotated_or a.program.now o)) n) head args) c.requires.checked
    ∙ ap (λ (s : Option (Site ℕ)). passes_at k s head args) c.in-Some.ensures ∙ c.surely_passes.ensures e args)

pub returns-in-None : goal.returns-in-None
returns-in-None c = λ e.
    let a = c.args.a in
    let k = checking_of a in
    let n = c.args.number in
    let head = head_of (setting_of a) c.args.run.now.store c.args.value in
    inr (λ (args : List Ty).
    ap (λ (o : Option (Bor CoreProgram)). passes_at k (site_at (p.program (annotated_or a.program.now o)) n) head args) c.requires.checked
    ∙ ap (λ (s : Option (Site ℕ)). passes_at k s head args) c.in-None.ensures)
