use Rattle.std.proofs.Common.{◌∙◌, ap}
use Rattle.scope_entry.specs.Entries.{numbered}
use Rattle.dart_scope.proofs.making.numbered_in.Goals as goal

pub returns : goal.returns
returns c = c.in_ok-found.ensures ∙ ap numbered (c.as_slice-all.ensures.value ∙ c.in_ok-declared.ensures)
