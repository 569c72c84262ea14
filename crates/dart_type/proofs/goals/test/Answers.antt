use Rattle.dart_type.proofs.Taken.{test_given}
use Rattle.dart_type.proofs.goals.test.Goals as goal

pub returns : goal.returns
returns c =
    test_given c.args.nodes.now.items c.new-clauses.result.items c.add_test.new.clauses.items c.args.holds c.requires c.new-clauses.ensures.items c.in_ok-add_test.ensures.are c.in_ok-add_test.ensures.listed
