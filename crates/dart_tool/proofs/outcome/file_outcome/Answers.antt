use Rattle.dart_tool.proofs.Outcomes.{root_given, erased_given}
use Rattle.dart_tool.proofs.outcome.file_outcome.Goals as goal

pub returns-in-Run-clause-gives : goal.returns-in-Run-clause-gives
returns-in-Run-clause-gives g c =
    root_given (g.S.Sources.files c.args.sources.now) c.args.verb c.in-Run.options c.args.name.now c.args.content c.in-Some.text c.as_slice.result.now c.run_outcome.result c.in-Run.is c.in-Some.is c.as_slice.ensures c.run_outcome.ensures.gives

pub returns-clause-gives : goal.returns-clause-gives
returns-clause-gives g c =
    erased_given (g.S.Sources.files c.args.sources.now) c.args.verb c.args.name.now c.args.content c.in-Some.text c.as_slice-in-Erase.result.now _ c.in-Erase.is c.in-Some.is c.as_slice-in-Erase.ensures (rw c.as_bytes-in-Erase.ensures.value at c.in_ok-erase_outcome-in-Erase.ensures.gives)
