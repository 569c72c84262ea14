use Rattle.dart_tool.proofs.Outcomes.{read_answers}
use Rattle.dart_tool.proofs.Statuses.{delivered_status}
use Rattle.dart_tool.proofs.tool.do_verb.Goals as goal

pub returns-in-Ok-file_outcome-clause-answer : goal.returns-in-Ok-file_outcome-clause-answer
returns-in-Ok-file_outcome-clause-answer g c =
    let name = c.args.file.now in
    let due = c.in-Ok-file_outcome.due in
    read_answers _ _ c.args.verb name c.in-Ok.content due _ _ _ c.in-Ok.ensures.same c.in-Ok.ensures.content c.in-Ok-file_outcome.ensures.gives (rw c.as_slice.ensures at c.deliver.ensures.delivers)

pub returns-in-Ok-file_outcome-clause-usage : goal.returns-in-Ok-file_outcome-clause-usage
returns-in-Ok-file_outcome-clause-usage g c = delivered_status c.in-Ok-file_outcome.due _ _ _ c.in-Ok-file_outcome.ensures.usage (rw c.as_slice.ensures at c.deliver.ensures.delivers)
