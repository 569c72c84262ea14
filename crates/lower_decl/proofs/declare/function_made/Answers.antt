use Rattle.std.proofs.Common.{rules, refl, false}
use Rattle.dart_tree.specs.View as view
use Rattle.translation.specs.Declarations as d
use Rattle.translation.specs.Productions as low
use Rattle.translation.specs.Walk as w
use Rattle.lower_function.specs.Formals.{formals, bind_formals}
use Rattle.lower_function.specs.Made.{parameters}
use Rattle.lower_leaf.specs.Forms.{part}
use Rattle.lower_leaf.specs.Seen.{seen}
use Rattle.lower_decl.specs.Standings.{heading}
use Rattle.lower_decl.proofs.Begun.{function_begun, function_on}
use Rattle.lower_decl.proofs.declare.function_made.Goals as goal

pub returns-in_err-bound : goal.returns-in_err-bound
unfolding w.on
returns-in_err-bound g c =
    let a = g.S.Surroundings.around c.args.outside.now in
    let of = heading a c.args.head in
    rw (function_begun of (bind_formals false (formals a c.args.given.now))
    (d.native_body c.args.external c.args.native c.args.has_instance (view.parameters c.args.parameters.now) (low.body (view.body c.args.tree.now)))
    (seen a c.args.state.now) (seen a c.enter_function-before.new.state) c.enter_function-before.ensures.inside) (search rules)

pub returns-in_err-body : goal.returns-in_err-body
unfolding w.on
returns-in_err-body g c =
    let a = g.S.Surroundings.around c.args.outside.now in
    let of = heading a c.args.head in
    rw (
      function_begun of (bind_formals false (formals a c.args.given.now))
          (d.native_body c.args.external c.args.native c.args.has_instance (view.parameters c.args.parameters.now) (low.body (view.body c.args.tree.now)))
          (seen a c.args.state.now) (seen a c.enter_function-before.new.state) c.enter_function-before.ensures.inside,
      c.in_ok-bound.ensures,
    ) (search rules)

pub returns : goal.returns
returns g c =
    let a = g.S.Surroundings.around c.args.outside.now in
    let of = heading a c.args.head in
    let h = c.args.head in
    function_on a c.enter_function-before.result (record { number = h.number; kind = h.kind; name = h.name; class = h.inside.class; signature = h.signature }) of
    (bind_formals false (formals a c.args.given.now))
    (d.native_body c.args.external c.args.native c.args.has_instance (view.parameters c.args.parameters.now) (low.body (view.body c.args.tree.now)))
    (seen a c.args.state.now) (seen a c.enter_function-before.new.state) (seen a c.bind_formals.new.state) (seen a c.body_or_native.new.state) (seen a c.close_function.new.state)
    (parameters a c.in_ok-bound.bound) (part a c.in_ok-body.body) c.enter_function-before.ensures.inside c.in_ok-bound.ensures c.in_ok-body.ensures c.in_ok-close_function.ensures
    c.enter_function-before.ensures.around c.enter_function-before.ensures.depth c.enter_function-before.ensures.targets refl refl
