use Rattle.std.proofs.Common.{true, false, sym, ap, ◌∙◌}
use Rattle.core_program.specs.declared.program.CoreProgram.{CoreProgram}
use Rattle.core_program.specs.ProgramView as p
use Rattle.evaluation.specs.Classes.{function_at}
use Rattle.evaluation.specs.Turn.{takes_argument}
use Rattle.machine_call.proofs.Pushed.{comes_to}
use Rattle.machine_turn.proofs.Place.{call_chosen}
use Rattle.machine_turn.proofs.start.start_main.Goals as goal

pub returns-then-takes : goal.returns-then-takes
returns-then-takes c =
    comes_to c.args.a c.start_with_words.new.run c.start_with_words.result _ _
    (call_chosen c.args.a c.args.run.now true (sym c.if-takes.true ∙ c.takes_argument-takes.ensures ∙ ap (λ (x : CoreProgram). takes_argument (function_at (p.program x) x.main.0)) c.core-program.ensures)) c.start_with_words.ensures

pub returns-else-takes : goal.returns-else-takes
returns-else-takes c =
    comes_to c.args.a c.start_alone.new.run c.start_alone.result _ _
    (call_chosen c.args.a c.args.run.now false (sym c.if-takes.false ∙ c.takes_argument-takes.ensures ∙ ap (λ (x : CoreProgram). takes_argument (function_at (p.program x) x.main.0)) c.core-program.ensures)) c.start_alone.ensures
