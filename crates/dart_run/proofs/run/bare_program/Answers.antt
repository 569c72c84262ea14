use Rattle.std.proofs.Common.{sym, subst}
use Rattle.core_program.specs.declared.program.CoreProgram.{CoreProgram}
use Rattle.dart_ir.specs.Classes.{IsValid}
use Rattle.dart_run.proofs.Stripped.{classes_stay}
use Rattle.dart_run.proofs.run.bare_program.Goals as goal

pub returns-clause-valid : goal.returns-clause-valid
returns-clause-valid c =
    subst (λ (x : CoreProgram). IsValid x.classes) (sym c.in_ok-linked.ensures)
    (c.in_ok-plain.ensures.valid (classes_stay c.args.program.now c.in_ok-stripped.stripped c.in_ok-stripped.ensures.program c.requires.valid))
