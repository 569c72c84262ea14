use Rattle.std.proofs.Common.{◌<◌, ◌+◌, ◌++◌, ◌∷◌, [], sym, subst as transport}
use Rattle.class_order.specs.Walk.{IsWalk, untouched, waiting}
use Rattle.class_order.proofs.Steps.{advanced, advance_left}
use Rattle.class_order.proofs.walk.advance.Goals as goal

pub returns-clause-walk : goal.returns-clause-walk
returns-clause-walk c =
    transport (λ z. IsWalk c.args.headers.now c.args.walk.now.marks.items c.args.walk.now.order.items z) (sym c.in_ok-push.ensures.items)
    (advanced c.args.headers.now c.args.walk.now.marks.items c.args.walk.now.order.items c.args.walk.now.stack.items c.args.frame c.requires.walk c.requires.done.0 c.requires.done.1)

pub returns-clause-left : goal.returns-clause-left
returns-clause-left c =
    transport (λ z. untouched c.args.walk.now.marks.items c.args.headers.now + waiting c.args.headers.now z < untouched c.args.walk.now.marks.items c.args.headers.now + waiting c.args.headers.now (c.args.walk.now.stack.items ++ c.args.frame ∷ [])) (sym c.in_ok-push.ensures.items)
    (advance_left c.args.headers.now c.args.walk.now.marks.items c.args.walk.now.order.items c.args.walk.now.stack.items c.args.frame c.requires.walk c.requires.done.0 c.requires.done.1 c.requires.within)
