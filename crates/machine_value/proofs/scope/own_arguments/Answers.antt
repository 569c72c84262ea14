use Rattle.std.proofs.Common.{◌≡◌, ◌≢◌, ℕ, Some, length, map, sym, subst, ap, ◌∙◌, rules}
use Rattle.dart_ir.specs.Ty.{ty, of_list, class as class_of}
use Rattle.core_program.specs.ProgramView as p
use Rattle.evaluation.specs.Classes.{arguments_at}
use Rattle.evaluation.specs.Values.{value_type}
use Rattle.machine_frame.specs.Outside.{setting_of}
use Rattle.machine_value.proofs.Supertypes.{own_arguments}
use Rattle.machine_value.proofs.scope.own_arguments.Goals as goal

pub returns-then-of-class : goal.returns-then-of-class
returns-then-of-class c =
    let k = c.args.class in
    let q = p.program c.args.a.program.now in
    let r = c.args.run.now in
    let ts = map ty c.in-Some-typed_object.arguments.now in
    let here : value_type (setting_of c.args.a) r.store r.body.this ≡ Some (class_of k (of_list ts)) = first_of (cc, search rules) in
    let owner : r.body.owner ≡ k = first_of (cc, search rules) in
    let many : length q.classes ≢ 0 = subst (λ (n : ℕ). n ≢ 0) c.class_count.ensures c.if-class_count-eq0.false in
    sym (ap (arguments_at q r.body.owner k) here ∙ ap (λ o. arguments_at q o k (Some (class_of k (of_list ts)))) owner ∙ own_arguments q k ts many)
