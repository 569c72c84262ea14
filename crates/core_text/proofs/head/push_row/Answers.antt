use Rattle.std.proofs.Common.{List, ap, sym}
use Rattle.dart_base.specs.declared.name.Name.{Name}
use Rattle.core_program.specs.View as v
use Rattle.core_program.proofs.Views.{arguments_out}
use Rattle.core_text.specs.Head.{named, row}
use Rattle.core_text.proofs.Added.{behind, told}
use Rattle.core_text.proofs.head.push_row.Goals as goal

pub returns : goal.returns
returns c =
    told (ap (λ (r : v.Row). row c.args.program.now (v.job c.args.job) r.1) (sym (arguments_out c.args.arguments.now)))
    (behind c.in_ok-push_job.ensures
    (told (ap (λ (ns : List Name). named c.args.program.now (v.names ns)) c.deref.ensures.value) c.push_named.ensures))
