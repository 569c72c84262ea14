use Rattle.std.proofs.Common.{◌≤◌, length, arith}
use Rattle.lower_leaf.specs.Seen.{seen}
use Rattle.lower_leaf.proofs.ParameterSteps.{types_step, names_step, types_end, names_end}
use Rattle.lower_leaf.proofs.signature.+signature.Goals as goal

pub parameter_types-loop-one-preserved : goal.parameter_types-loop-one-preserved
parameter_types-loop-one-preserved g t c =
    types_step (g.S.Surroundings.around c.args.outside.now) (seen (g.S.Surroundings.around c.args.outside.now) c.args.state.now) c.args.all.now.items c.deref-one-items.result.now c.loop-one.one-index c.one-item.result
    c.loop-one.made.items c.push.new.self.items c.in_ok-of.of c.deref-one-items.ensures.value c.loop-one-test.true c.one-item.is c.in_ok-push.ensures.items
    c.in_ok-of.ensures c.loop-one.invariant

pub parameter_names-loop-one-preserved : goal.parameter_names-loop-one-preserved
parameter_names-loop-one-preserved g t c =
    names_step (g.S.Surroundings.around c.args.outside.now) (seen (g.S.Surroundings.around c.args.outside.now) c.args.state.now) c.args.all.now.items c.deref-one-items.result.now c.loop-one.one-index c.one-item.result
    c.loop-one.made.items c.push.new.self.items c.in_ok-of.of c.deref-one-items.ensures.value c.loop-one-test.true c.one-item.is c.in_ok-push.ensures.items
    c.in_ok-of.ensures c.loop-one.invariant

pub parameter_types-returns : goal.parameter_types-returns
parameter_types-returns g t c =
    let past : length c.deref-one-items.result.now ≤ c.loop-one.one-index = omega arith in
    types_end (g.S.Surroundings.around c.args.outside.now) (seen (g.S.Surroundings.around c.args.outside.now) c.args.state.now) c.args.all.now.items c.deref-one-items.result.now c.loop-one.one-index
    c.loop-one.made.items c.deref-one-items.ensures.value past c.loop-one.invariant

pub parameter_names-returns : goal.parameter_names-returns
parameter_names-returns g t c =
    let past : length c.deref-one-items.result.now ≤ c.loop-one.one-index = omega arith in
    names_end (g.S.Surroundings.around c.args.outside.now) (seen (g.S.Surroundings.around c.args.outside.now) c.args.state.now) c.args.all.now.items c.deref-one-items.result.now c.loop-one.one-index
    c.loop-one.made.items c.deref-one-items.ensures.value past c.loop-one.invariant
