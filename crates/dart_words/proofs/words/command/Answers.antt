use Rattle.std.proofs.Common.{◌-◌, length, map, take, drop}
use Rattle.std.specs.String.{string_bytes}
use Rattle.dart_words.proofs.Limits.{asked_keeps}
use Rattle.dart_words.proofs.words.command.Goals as goal

pub returns-in-run-clause-limits : goal.returns-in-run-clause-limits
returns-in-run-clause-limits c =
    let words = c.args.words.now in
    asked_keeps (λ file. string_bytes file.now) (map string_bytes (take (length words - 1) (drop 1 words))) c.run_command.result c.run_command.ensures
