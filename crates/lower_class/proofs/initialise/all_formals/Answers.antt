use Rattle.std.proofs.Common.{◌≡◌, ◌∙◌, length, vec_len, arith}
use Rattle.std.proofs.lemmas.Result.{err_from_is_err_and}
use Rattle.dart_tree.specs.declared.parameter.Parameters.{out-Parameters}
use Rattle.lower_function.specs.Made.{parameters}
use Rattle.lower_leaf.specs.Seen.{seen}
use Rattle.lower_operand.specs.Made.{all_forms}
use Rattle.lower_decl.proofs.Stops.{stops}
use Rattle.lower_class.specs.Views.{class_around}
use Rattle.lower_class.proofs.Formal.{all_formals_then}
use Rattle.lower_class.proofs.initialise.all_formals.Goals as goal

pub returns-in_err-rest : goal.returns-in_err-rest
returns-in_err-rest g c =
    let a = g.S.Surroundings.around c.args.outside.now in
    let stored : vec_len (out-Parameters c.args.given.now).required ≡ length (out-Parameters c.args.given.now).required.items = omega (arith, (out-Parameters c.args.given.now).required.ok) in
    let p = err_from_is_err_and c.from_residual-in_err-rest.result c.from_residual-in_err-rest.ensures.1 in
    rw (p.1, p.2) (stops (all_forms a) (all_forms a) c.in_err-rest.field-0.0 (seen a c.formals-2.new.state) _ _ _ _
    (all_formals_then (class_around a c.args.around.now) c.args.given.now (parameters a c.args.bound.now) (seen a c.args.state.now) (seen a c.formals.new.state)
    (all_forms a c.in_ok-found.found) c.len-count.result c.in_ok-found.ensures (c.len-count.ensures ∙ stored)) c.in_err-rest.ensures)
