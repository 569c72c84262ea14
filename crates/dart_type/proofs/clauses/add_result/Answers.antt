use Rattle.std.proofs.Common.{sym, subst as transport}
use Rattle.dart_type.specs.Clauses.{AreListed, AllListed}
use Rattle.dart_type.proofs.Paired.{all_listed_push}
use Rattle.dart_type.proofs.clauses.add_result.Goals as goal

pub returns-clause-listed : goal.returns-clause-listed
returns-clause-listed c = λ h.
    transport (AllListed _) (sym c.in_ok-push.ensures.items)
    (all_listed_push _ c.args.clauses.now.items c.in_ok-way_or.field-0 h (transport (AreListed _) (sym c.in_ok-way_or.ensures) ((c.requires.r_listed, c.requires.s_listed), tt)))
