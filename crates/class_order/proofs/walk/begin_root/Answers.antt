use Rattle.std.proofs.Common.{◌++◌, [], ◌∷◌, List, ap, sym, ◌∙◌, subst as transport}
use Rattle.class_order.specs.declared.walk.Frame.{Frame}
use Rattle.class_order.specs.Walk.{IsWalk}
use Rattle.class_order.specs.declared.walk.Mark.TheVariants.{Open}
use Rattle.std.proofs.Common.{set}
use Rattle.class_order.proofs.Steps.{rooted}
use Rattle.class_order.proofs.walk.begin_root.Goals as goal

pub returns-clause-walk : goal.returns-clause-walk
returns-clause-walk c =
    let f : Frame = record { class = c.args.root; next = 0 } in
    transport (λ z. IsWalk c.args.headers.now (set c.args.walk.now.marks.items c.args.root (Open 0)) c.args.walk.now.order.items z)
    (sym (c.in_ok-push.ensures.items ∙ ap (λ (z : List Frame). z ++ f ∷ []) c.requires.empty))
    (rooted c.args.headers.now c.args.walk.now.marks.items c.args.walk.now.order.items c.args.root c.requires.walk c.requires.root c.requires.new c.requires.first)
