use Rattle.std.proofs.Common.{◌∙◌, ◌+◌, ◌||◌, drop, map, sym, ap}
use Rattle.std.specs.List.{list_any}
use Rattle.lower_leaf.specs.Around.{ty}
use Rattle.lower_annotation.specs.Instance as i
use Rattle.lower_annotation.proofs.Items.{any-more}
use Rattle.lower_annotation.proofs.Texts.{seen-bottom}
use Rattle.lower_annotation.proofs.entry.any_waits.Goals as goal

pub returns-then-has_bottom : goal.returns-then-has_bottom
returns-then-has_bottom g c =
    let a = g.S.Surroundings.around c.args.outside.now in
    let rest = list_any i.has_bottom (map (ty a) (drop (c.loop-one.one-index + 1) c.args.given.now)) in
    sym (c.loop-one.invariant ∙ any-more i.has_bottom (ty a) c.args.given.now c.loop-one.one-index c.one-item.result c.loop-one-test.true c.one-item.is
    ∙ ap (λ b. b || rest) (seen-bottom a c.one-item.result ∙ sym c.has_bottom.ensures ∙ c.if-has_bottom.true))

pub loop-one-preserved : goal.loop-one-preserved
loop-one-preserved g c =
    let a = g.S.Surroundings.around c.args.outside.now in
    let rest = list_any i.has_bottom (map (ty a) (drop (c.loop-one.one-index + 1) c.args.given.now)) in
    c.loop-one.invariant ∙ any-more i.has_bottom (ty a) c.args.given.now c.loop-one.one-index c.one-item.result c.loop-one-test.true c.one-item.is
    ∙ ap (λ b. b || rest) (seen-bottom a c.one-item.result ∙ sym c.has_bottom.ensures ∙ c.if-has_bottom.false)
