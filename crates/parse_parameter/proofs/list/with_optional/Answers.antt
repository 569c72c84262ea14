use Rattle.std.proofs.Common.{Some}
use Rattle.dart_tree.specs.Lists.{parameter_list_of}
use Rattle.dart_tree.specs.View as view
use Rattle.parse_parameter.proofs.Listed.{all_high}
use Rattle.parse_parameter.proofs.list.with_optional.Goals as goal

pub returns : goal.returns
returns c =
    let r = c.args.required in
    let o = c.args.optional in
    record {
      same = c.parameters.ensures;
      high = all_high (view.parameters c.parameters.result) c.args.opening c.args.closing (Some (record { comma = r.1; kind = o.kind; opening = o.opening; closing = o.closing })) (parameter_list_of r.0.items) (parameter_list_of o.parameters.items) c.parameters.ensures;
    }
