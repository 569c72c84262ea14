use Rattle.std.proofs.Common.{refl}
use Rattle.dart_run.proofs.Runs.{checked_by}
use Rattle.dart_run.proofs.run.run_main.Goals as goal

pub run_around-requires-clause-bare : goal.run_around-requires-clause-bare
run_around-requires-clause-bare c = record {
  program = c.in_ok-made.ensures.program;
  names_same = c.in_ok-made.ensures.names;
  known_same = c.in-Some.ensures;
  failing_same = refl;
  checked_same = checked_by c.in_ok-made.made c.args.program.now c.annotated_in.result c.annotated_in.ensures.annotated;
}
