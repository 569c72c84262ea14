use Rattle.std.proofs.Common.{rules}
use Rattle.dart_tree.specs.View as view
use Rattle.translation.specs.Types as y
use Rattle.translation.specs.Walk as w
use Rattle.lower_leaf.specs.Seen.{seen, asked}
use Rattle.lower_decl.specs.Standings.{static_made}
use Rattle.lower_decl.proofs.Begun.{outermost_begun, outermost_on}
use Rattle.lower_decl.proofs.variable.outermost_static.Goals as goal

pub returns-in_err-made : goal.returns-in_err-made
unfolding w.on
returns-in_err-made g c =
    let a = g.S.Surroundings.around c.args.outside.now in
    rw (outermost_begun 0 (static_made (y.word_of c.args.name.now) (asked a c.args.wanted.now) c.args.final_one (view.value c.args.value.now) c.args.number)
    (seen a c.args.state.now) (seen a c.begin-beginning.new.state) c.begin-beginning.ensures.numbered) (search rules)

pub returns : goal.returns
returns g c =
    let a = g.S.Surroundings.around c.args.outside.now in
    outermost_on 0 (static_made (y.word_of c.args.name.now) (asked a c.args.wanted.now) c.args.final_one (view.value c.args.value.now) c.args.number)
    (seen a c.args.state.now) (seen a c.begin-beginning.new.state) (seen a c.static_made.new.state) (seen a c.end.new.state) c.in_ok-made.made
    c.begin-beginning.result.variables c.begin-beginning.result.functions c.begin-beginning.ensures.numbered c.begin-beginning.ensures.variables
    c.begin-beginning.ensures.functions c.in_ok-made.ensures c.end.ensures
