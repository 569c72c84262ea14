use Rattle.std.proofs.Common.{Some}
use Rattle.scope_files.specs.Files.{NameGives, known}
use Rattle.scope_files.proofs.FileLaws.{known_name}
use Rattle.scope_files.proofs.LoadLaws.{stops_by, ends_by}
use Rattle.scope_files.proofs.law.text_at_hand.Goals as goal

pub returns : goal.returns
returns c = record {
  stops = λ files root text fault has. stops_by (NameGives (known root text (Some files))) (NameGives (Some files)) root (known_name root text files has) fault;
  ends = λ files root text state has. ends_by (NameGives (known root text (Some files))) (NameGives (Some files)) root (known_name root text files has) state;
}
