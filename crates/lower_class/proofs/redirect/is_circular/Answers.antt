use Rattle.std.proofs.Common.{◌≡◌, suc, ◌+◌, ◌-◌, map, length, sym, ◌∙◌, arith}
use Rattle.dart_tree.specs.UnitView as unit_view
use Rattle.translation.specs.Classes as cl
use Rattle.lower_class.proofs.Circular.{found_seen, leads_on}
use Rattle.lower_class.proofs.redirect.is_circular.Goals as goal

pub loop-turn-preserved : goal.loop-turn-preserved
loop-turn-preserved c =
    let ms = map unit_view.member c.args.members.now.items in
    let more : length c.args.members.now.items - c.loop-turn._turn ≡ suc (length c.args.members.now.items - (c.loop-turn._turn + 1)) = omega arith in
    leads_on _ _ ms c.args.id.now c.in-Some.target.now _ _ more (sym c.eq.ensures ∙ c.if-eq.false)
    (found_seen (λ x. x.now) c.target_in-at-in-Some.result (cl.target_in ms c.in-Some.target.now) c.target_in-at-in-Some.ensures)
    (rw c.in-Some.is at c.loop-turn.invariant)
