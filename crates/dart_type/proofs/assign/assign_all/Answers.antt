use Rattle.std.proofs.Common.{sym, subst as transport}
use Rattle.dart_type.specs.Intern.{types}
use Rattle.dart_type.specs.Clauses.{ways_of, assign_ways, AreListed, GivesWays}
use Rattle.dart_type.proofs.Assigned.{clause_listed, clauses_more}
use Rattle.dart_type.proofs.assign.assign_all.Goals as goal

pub assign_each-requires-clause-listed : goal.assign_each-requires-clause-listed
assign_each-requires-clause-listed c =
    transport (AreListed _) (sym c.deref.ensures.value) (clause_listed c.args.nodes.now.items c.loop-pairs.nodes.items c.args.clauses.now c.loop-pairs.pairs-index c.pairs-item.result c.requires.listed c.loop-pairs-test.true c.pairs-item.is c.loop-pairs.invariant.grows)

pub loop-pairs-preserved : goal.loop-pairs-preserved
loop-pairs-preserved c =
    let k = transport (λ ps. GivesWays c.loop-pairs.nodes.items c.assign_each.new.nodes.items c.in_ok-ways.ways.items (assign_ways (ways_of (types c.loop-pairs.nodes.items) ps))) c.deref.ensures.value c.in_ok-ways.ensures in
    rw c.in_ok-push.ensures.items
    (clauses_more c.args.nodes.now.items c.loop-pairs.nodes.items c.assign_each.new.nodes.items c.loop-pairs.made.items c.args.clauses.now c.loop-pairs.pairs-index c.pairs-item.result c.in_ok-ways.ways c.requires.listed c.loop-pairs-test.true c.pairs-item.is c.loop-pairs.invariant k)
