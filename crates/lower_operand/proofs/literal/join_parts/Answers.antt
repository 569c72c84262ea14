use Rattle.std.proofs.Common.{rules, map}
use Rattle.translation.specs.Expressions as e
use Rattle.translation.specs.Walk as w
use Rattle.lower_leaf.specs.Seen.{seen}
use Rattle.lower_string.specs.Parts.{part}
use Rattle.lower_operand.specs.Made.{joined}
use Rattle.lower_operand.proofs.Joining.{part_next, part_step}
use Rattle.lower_operand.proofs.literal.join_parts.Goals as goal

pub returns-in_err-found : goal.returns-in_err-found
unfolding w.on
returns-in_err-found g c = let a = g.S.Surroundings.around c.args.outside.now in
    rw (part_next c.args.place c.args.at c.args.parts.now.items c.deref-one-items.result.now c.loop-one.one-index c.one-item.result
    (joined a c.loop-one.found) (seen a c.loop-one.state) (e.join_parts c.args.place c.args.at (map part c.args.parts.now.items) c.args.before (seen a c.args.state.now))
    c.deref-one-items.ensures.value c.loop-one-test.true c.one-item.is c.loop-one.invariant) (search rules)

pub loop-one-preserved : goal.loop-one-preserved
loop-one-preserved g c = let a = g.S.Surroundings.around c.args.outside.now in
    part_step c.args.place c.args.at c.args.parts.now.items c.deref-one-items.result.now c.loop-one.one-index c.one-item.result
    (joined a c.loop-one.found) (joined a c.in_ok-found.found) (seen a c.loop-one.state) (seen a c.join_part.new.state)
    (e.join_parts c.args.place c.args.at (map part c.args.parts.now.items) c.args.before (seen a c.args.state.now))
    c.deref-one-items.ensures.value c.loop-one-test.true c.one-item.is c.loop-one.invariant c.in_ok-found.ensures
