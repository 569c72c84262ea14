use Rattle.std.proofs.Common.{◌∙◌, ap, rules}
use Rattle.dart_tree.specs.declared.parameter.ParameterKind.{ParameterKind}
use Rattle.dart_tree.specs.View as view
use Rattle.dart_tree.proofs.Rows.{view_plain_parameter, view_function_parameter}
use Rattle.scope_declared.specs.Making.{formal_declared}
use Rattle.scope_walk.specs.Walk.{numbering}
use Rattle.scope_walk.proofs.leaf.Walk.formal.Goals as goal

pub returns-in-Plain : goal.returns-in-Plain
returns-in-Plain c =
    let e = ap (λ (x : ParameterKind). formal_declared (numbering c.args.self.now) c.args.extent (view.parameter_kind x)) c.in-Plain.is ∙ ap (formal_declared (numbering c.args.self.now) c.args.extent) (view_plain_parameter _ _ _) in
    rw e (search rules)

pub returns-in-Function : goal.returns-in-Function
returns-in-Function c =
    let e = ap (λ (x : ParameterKind). formal_declared (numbering c.args.self.now) c.args.extent (view.parameter_kind x)) c.in-Function.is ∙ ap (formal_declared (numbering c.args.self.now) c.args.extent) (view_function_parameter _ _ _ _) in
    rw e (search rules)
