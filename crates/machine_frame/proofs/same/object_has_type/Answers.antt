use Rattle.std.proofs.Common.{Some, map, ap, ◌∙◌}
use Rattle.dart_ir.specs.Object.{of, HeadTy}
use Rattle.dart_ir.specs.Ty.{of_list, ty}
use Rattle.dart_store.specs.declared.view.ObjectView.{ObjectView}
use Rattle.dart_store.specs.ObjectView.{viewed_object}
use Rattle.dart_type.specs.Instance.{instance}
use Rattle.evaluation.specs.Checks.{is_of_type}
use Rattle.evaluation.specs.Values.{object_head}
use Rattle.machine_frame.specs.Outside.{checking_of, setting_of}
use Rattle.machine_frame.proofs.Itself.{listed}
use Rattle.machine_frame.proofs.same.object_has_type.Goals as goal

pub returns-in-Instance : goal.returns-in-Instance
returns-in-Instance c = λ e h args.
    let form = c.in-Instance in
    let k = checking_of c.args.a in
    let t = instance (of_list args) (ty c.args.wanted.now) in
    ap (λ (head : HeadTy). is_of_type k head t)
    (ap (λ (o : ObjectView). object_head (setting_of c.args.a) h (Some (viewed_object o))) form.is ∙ ap (of form.class.0) (listed (map ty form.args.now)))
    ∙ c.is_type.ensures e args

pub returns-in-List : goal.returns-in-List
returns-in-List c = λ e h args.
    let form = c.in-List in
    let k = checking_of c.args.a in
    let list = c.args.a.setup.now.known.list_class.0 in
    let t = instance (of_list args) (ty c.args.wanted.now) in
    ap (λ (head : HeadTy). is_of_type k head t)
    (ap (λ (o : ObjectView). object_head (setting_of c.args.a) h (Some (viewed_object o))) form.is ∙ ap (of list) (listed (map ty form.args.now)))
    ∙ c.is_type-in-List.ensures e args
