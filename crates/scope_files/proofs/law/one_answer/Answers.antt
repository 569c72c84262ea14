use Rattle.std.proofs.Common.{Some}
use Rattle.scope_files.specs.Files.{NameGives}
use Rattle.scope_files.proofs.FileLaws.{one_name}
use Rattle.scope_files.proofs.LoadLaws.{one_reason, refused_or_ended, one_end}
use Rattle.scope_files.proofs.law.one_answer.Goals as goal

pub returns : goal.returns
returns c = record {
  reason = λ files root. one_reason (NameGives (Some files)) root (one_name files);
  apart = λ files root. refused_or_ended (NameGives (Some files)) root (one_name files);
  state = λ files root. one_end (NameGives (Some files)) root (one_name files);
}
