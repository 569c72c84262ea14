use Rattle.std.proofs.Common.{◌∙◌, ◌<◌, ◌≤◌, List, Option, length, map, sym, ap, arith}
use Rattle.dart_ir.specs.declared.number.ClassId.{ClassId}
use Rattle.translation.specs.Applications as apps
use Rattle.lower_leaf.specs.Around.{class}
use Rattle.lower_body.specs.Views.{generated}
use Rattle.lower_mixin.specs.Views.{built_of}
use Rattle.lower_mixin.proofs.Built.{built_at, built_past}
use Rattle.lower_mixin.proofs.apply.constructors_of.Goals as goal

pub returns-then-index-len : goal.returns-then-index-len
returns-then-index-len g c =
    let a = g.S.Surroundings.around c.args.outside.now in
    let below : c.in-Some.above.0 < length c.args.built.now.items = omega (arith, c.len.ensures, c.if-index-len.true) in
    built_at a c.args.built.now.items c.in-Some.above.0 c.index.result.now below c.index.ensures
    ∙ ap (λ (of : Option ClassId). apps.constructors_of (built_of a c.args.built.now.items) (class of)) (sym c.in-Some.is)

pub returns : goal.returns
returns g c =
    let a = g.S.Surroundings.around c.args.outside.now in
    let past : length c.args.built.now.items ≤ c.in-Some.above.0 = omega (arith, c.len.ensures, c.if-index-len.false) in
    ap (map (generated a)) c.requires ∙ sym (built_past a c.args.built.now.items c.in-Some.above.0 past)
    ∙ ap (λ (of : Option ClassId). apps.constructors_of (built_of a c.args.built.now.items) (class of)) (sym c.in-Some.is)
