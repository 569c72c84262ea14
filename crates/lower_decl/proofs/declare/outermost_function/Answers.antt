use Rattle.std.proofs.Common.{rules, false}
use Rattle.dart_tree.specs.View as view
use Rattle.translation.specs.Declarations as d
use Rattle.translation.specs.Functions as f
use Rattle.translation.specs.Productions as low
use Rattle.translation.specs.Walk as w
use Rattle.lower_function.specs.Formals.{formals, bind_formals}
use Rattle.lower_leaf.specs.Seen.{seen}
use Rattle.lower_decl.specs.Standings.{heading}
use Rattle.lower_decl.proofs.Begun.{outermost_begun, outermost_on}
use Rattle.lower_decl.proofs.declare.outermost_function.Goals as goal

pub returns-in_err-number : goal.returns-in_err-number
unfolding w.on
returns-in_err-number g c =
    let a = g.S.Surroundings.around c.args.outside.now in
    let of = heading a c.args.head in
    rw (outermost_begun 0 (f.function of (bind_formals false (formals a c.args.given.now))
    (d.native_body c.args.external c.args.native c.args.has_instance (view.parameters c.args.parameters.now) (low.body (view.body c.args.tree.now))))
    (seen a c.args.state.now) (seen a c.begin-beginning.new.state) c.begin-beginning.ensures.numbered) (search rules)

pub returns : goal.returns
returns g c =
    let a = g.S.Surroundings.around c.args.outside.now in
    let of = heading a c.args.head in
    outermost_on 0 (f.function of (bind_formals false (formals a c.args.given.now))
    (d.native_body c.args.external c.args.native c.args.has_instance (view.parameters c.args.parameters.now) (low.body (view.body c.args.tree.now))))
    (seen a c.args.state.now) (seen a c.begin-beginning.new.state) (seen a c.function_made.new.state) (seen a c.end.new.state) c.in_ok-number.number
    c.begin-beginning.result.variables c.begin-beginning.result.functions c.begin-beginning.ensures.numbered c.begin-beginning.ensures.variables
    c.begin-beginning.ensures.functions c.in_ok-number.ensures c.end.ensures
