use Rattle.std.proofs.Common.{◌≡◌, List, None, ap, ◌∙◌}
use Rattle.dart_tree.specs.declared.parameter.Parameter.{Parameter}
use Rattle.dart_tree.specs.Lists.{parameter_list_of}
use Rattle.dart_tree.specs.Tree as t
use Rattle.dart_tree.specs.View as view
use Rattle.parse_parameter.proofs.Listed.{alone_high}
use Rattle.parse_parameter.proofs.list.without_optional.Goals as goal

pub returns : goal.returns
returns c =
    let l = parameter_list_of c.args.required.0.items in
    let is : view.parameters c.parameters.result ≡ t.the_parameters c.args.opening l None t.no_parameters c.args.closing =
    c.parameters.ensures ∙ ap (λ (m : List Parameter). t.the_parameters c.args.opening l None (parameter_list_of m) c.args.closing) c.new.ensures.items in
    record { same = is; high = alone_high (view.parameters c.parameters.result) c.args.opening c.args.closing l is }
