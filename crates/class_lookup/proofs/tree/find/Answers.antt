use Rattle.std.proofs.Common.{◌∙◌, ◌-◌, ◌/◌, ap, refl, arith}
use Rattle.class_lookup.specs.Tree.{held}
use Rattle.class_lookup.proofs.Trees.{held_step, rest_step, entry_found, entry_none}
use Rattle.class_lookup.proofs.tree.find.Goals as goal

pub loop-left-preserved : goal.loop-left-preserved
loop-left-preserved c =
    let n = c.loop-left.left in
    let x = c.loop-left.rest in
    record {
      held =
          ap (λ s. held c.args.nodes.now (n - 1) s (x / 16)) c.slot-at.ensures
          ∙ held_step c.args.nodes.now n (n - 1) x c.loop-left.at c.loop-left-test.true refl
          ∙ c.loop-left.invariant.held;
      rest = rest_step n (n - 1) x c.loop-left-test.true refl ∙ c.loop-left.invariant.rest;
    }

pub returns-then-rest-eq0 : goal.returns-then-rest-eq0
returns-then-rest-eq0 c = entry_found c.args.nodes.now c.args.levels c.loop-left.left c.args.name c.loop-left.rest c.args.root c.loop-left.at (omega (arith, c.loop-left-test.false)) c.loop-left.invariant.held c.loop-left.invariant.rest c.if-rest-eq0.true

pub returns-else-rest-eq0 : goal.returns-else-rest-eq0
returns-else-rest-eq0 c = entry_none c.args.nodes.now c.args.levels c.loop-left.left c.args.name c.loop-left.rest c.args.root (omega (arith, c.loop-left-test.false)) c.loop-left.invariant.rest c.if-rest-eq0.false
