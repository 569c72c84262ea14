use Rattle.std.proofs.Common.{ℕ, ◌≤◌, ◌&&◌, ◌||◌, not, arith}
use Rattle.std.specs.List.{list_any}
use Rattle.lower_function.specs.Uses.{is_declared, names, takes}
use Rattle.lower_function.proofs.Picked.{kept_step, kept_end}
use Rattle.lower_function.proofs.shared.captures_by.Goals as goal

pub loop-x-preserved : goal.loop-x-preserved
loop-x-preserved c = kept_step (λ (x : ℕ). not (is_declared x c.args.parameters.now.items c.args.uses.now.items) && (list_any (names x) c.args.uses.now.items || list_any (takes x) c.args.uses.now.items)) c.loop-x.made.items c.add_if.new.found.items _ c.loop-x.x c.args.count c.is_captured.result
    c.loop-x-test.true c.is_captured.ensures c.in_ok-add_if.ensures c.loop-x.invariant

pub returns : goal.returns
returns c =
    let past : c.args.count ≤ c.loop-x.x = omega arith in
    kept_end (λ (x : ℕ). not (is_declared x c.args.parameters.now.items c.args.uses.now.items) && (list_any (names x) c.args.uses.now.items || list_any (takes x) c.args.uses.now.items)) c.loop-x.made.items _ c.loop-x.x c.args.count past c.loop-x.invariant
