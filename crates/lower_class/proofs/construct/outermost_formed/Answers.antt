use Rattle.std.proofs.Common.{rules}
use Rattle.translation.specs.Walk as w
use Rattle.lower_function.specs.Formals.{formals, bind_formals}
use Rattle.lower_leaf.specs.Seen.{seen}
use Rattle.lower_decl.specs.Standings.{heading}
use Rattle.lower_decl.proofs.Begun.{outermost_begun, outermost_on}
use Rattle.lower_class.specs.Views.{class_around, formed_there, forms_of, parts}
use Rattle.lower_class.proofs.construct.outermost_formed.Goals as goal

pub returns-in_err-made : goal.returns-in_err-made
unfolding w.on
returns-in_err-made g c =
    let a = g.S.Surroundings.around c.args.outside.now in
    rw (outermost_begun c.args.first (formed_there c.args.name.now c.args.has_values (heading a c.args.head)
    (bind_formals c.args.has_values (formals a c.args.given.now)) (forms_of a (class_around a c.args.around.now) c.args.of))
    (seen a c.args.state.now) (seen a c.begin-beginning.new.state) c.begin-beginning.ensures.numbered) (search rules)

pub returns : goal.returns
returns g c =
    let a = g.S.Surroundings.around c.args.outside.now in
    outermost_on c.args.first (formed_there c.args.name.now c.args.has_values (heading a c.args.head)
    (bind_formals c.args.has_values (formals a c.args.given.now)) (forms_of a (class_around a c.args.around.now) c.args.of))
    (seen a c.args.state.now) (seen a c.begin-beginning.new.state) (seen a c.formed_there.new.state) (seen a c.end.new.state) (parts a c.in_ok-made.made)
    c.begin-beginning.result.variables c.begin-beginning.result.functions c.begin-beginning.ensures.numbered c.begin-beginning.ensures.variables
    c.begin-beginning.ensures.functions c.in_ok-made.ensures c.end.ensures
