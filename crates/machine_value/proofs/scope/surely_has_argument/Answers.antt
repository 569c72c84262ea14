use Rattle.std.proofs.Common.{◌≡◌, Some, map, slice_get, option_map, sym, ap, ◌∙◌}
use Rattle.std.proofs.lemmas.Option.{slice_get-map}
use Rattle.dart_ir.specs.Ty.{ty, of_list, parameter}
use Rattle.dart_type.specs.Instance.{instance}
use Rattle.evaluation.specs.Checks.{is_of_type, passes_type}
use Rattle.evaluation.specs.State.{now}
use Rattle.evaluation.specs.Values.{head_of, arguments_here}
use Rattle.machine_frame.specs.Outside.{checking_of, setting_of}
use Rattle.machine_frame.specs.Frames.{seen}
use Rattle.machine_value.proofs.Supertypes.{argument_there}
use Rattle.machine_value.proofs.scope.surely_has_argument.Goals as goal

pub returns-in-Some-argument_at : goal.returns-in-Some-argument_at
returns-in-Some-argument_at c = λ e.
    let k = checking_of c.args.a in
    let head = head_of (setting_of c.args.a) c.args.run.now.store c.args.value in
    let i = c.in-Some.index in
    let ts = map ty c.in-Some-arguments_in_place.arguments.now in
    let wanted = c.in-Some-argument_at.wanted.now in
    let found : slice_get ts i ≡ Some (ty wanted) = slice_get-map ty c.in-Some-arguments_in_place.arguments.now i ∙ ap (option_map ty) c.in-Some-argument_at.ensures in
    ap (λ o. passes_type k o head (arguments_here (setting_of c.args.a) (now (seen c.args.run.now)))) c.in-Some.ensures
    ∙ ap (λ us. is_of_type k head (instance (of_list us) (parameter i))) (sym c.in-Some-arguments_in_place.ensures)
    ∙ ap (is_of_type k head) (argument_there ts i (ty wanted) found)
    ∙ c.surely_is.ensures e
