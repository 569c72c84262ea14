use Rattle.std.proofs.Common.{◌∙◌, ◌<◌, length, map, take, sym, ap, arith}
use Rattle.std.specs.List.{list_all}
use Rattle.dart_tree.specs.UnitView as uv
use Rattle.scope_declared.specs.Number.{number_of}
use Rattle.scope_space.specs.Library.{lets}
use Rattle.scope_entry.specs.Directives.{written_lets}
use Rattle.scope_entry.proofs.Lists.{all_more, map_more}
use Rattle.scope_entry.proofs.directive.combinators.Goals as goal

pub loop-one-preserved : goal.loop-one-preserved
loop-one-preserved c = λ name.
    let written = c.args.written.now in
    let i = c.loop-one.one-index in
    let one = c.one-item.result in
    let number = number_of c.args.names.now c.args.library in
    let below : i < length written = omega (arith, c.loop-one-test.true) in
    let more = all_more (lets name) (written_lets number name) c.loop-one.made.items (map uv.combinator (take i written)) c.in_ok-combinator.field-0 (uv.combinator one)
    (c.loop-one.invariant name) (c.in_ok-combinator.ensures name) in
    ap (list_all (lets name)) c.in_ok-push.ensures.items ∙ more
    ∙ ap (list_all (written_lets number name)) (sym (map_more uv.combinator written i one below c.one-item.is))
