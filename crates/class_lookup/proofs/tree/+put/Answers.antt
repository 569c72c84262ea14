use Rattle.std.proofs.Common.{◌≡◌, ◌-◌, ◌%◌, ◌∙◌, ap, refl, arith}
use Rattle.class_lookup.specs.Tree.{slot}
use Rattle.class_lookup.proofs.Trees.{put_zero, put_at, tree_under}
use Rattle.class_lookup.proofs.tree.+put.Goals as goal

pub put-requires : goal.put-requires
put-requires t c =
    let e : c.args.levels ≡ t = c.decreases in (
      omega (arith, e, c.if-levels-eq0.false),
      tree_under c.args.nodes.now.items c.args.levels (c.args.levels - 1) c.args.name c.args.root c.slot-below.result (omega (arith, c.if-levels-eq0.false)) refl c.requires (c.slot-below.ensures ∙ ap (λ ns. slot ns c.args.root (c.args.name % 16)) c.deref.ensures.value),
    )

pub returns-then-levels-eq0 : goal.returns-then-levels-eq0
returns-then-levels-eq0 t c = put_zero c.args.nodes.now.items c.args.levels c.args.name c.args.number c.args.root c.if-levels-eq0.true

pub returns : goal.returns
returns t c =
    put_at c.args.nodes.now.items c.put.new.nodes.items c.push.new.nodes.items c.args.levels (c.args.levels - 1) c.args.name c.args.number c.args.root c.slot-below.result c.in_ok-below.below c.in_ok-made.made c.node_at-node.result _ (omega (arith, c.if-levels-eq0.false)) refl c.requires
    (c.slot-below.ensures ∙ ap (λ ns. slot ns c.args.root (c.args.name % 16)) c.deref.ensures.value)
    c.in_ok-below.ensures c.node_at-node.ensures.wide
    (λ d. c.node_at-node.ensures.slots d ∙ ap (λ ns. slot ns c.args.root d) c.deref-2.ensures.value)
    refl c.in_ok-made.ensures.added c.in_ok-made.ensures.number
