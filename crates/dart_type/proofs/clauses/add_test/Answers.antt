use Rattle.std.proofs.Common.{sym, subst as transport}
use Rattle.dart_type.specs.Clauses.{AreListed, AllListed}
use Rattle.dart_type.proofs.Paired.{all_listed_push}
use Rattle.dart_type.proofs.clauses.add_test.Goals as goal

pub returns-clause-listed : goal.returns-clause-listed
returns-clause-listed c = λ n h.
    transport (AllListed n) (sym c.in_ok-push.ensures.items)
    (all_listed_push n c.args.clauses.now.items c.new.result h (transport (AreListed n) (sym c.new.ensures.items) tt))
