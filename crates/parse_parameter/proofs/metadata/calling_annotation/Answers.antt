use Rattle.std.proofs.Common.{◌≡◌, Some, sym, ap, ◌∙◌}
use Rattle.dart_syntax.specs.Statements.{to_annotation}
use Rattle.dart_tree.proofs.Rows.{view_the_arguments}
use Rattle.dart_tree.specs.Tree as t
use Rattle.dart_tree.specs.View as view
use Rattle.parse_parameter.proofs.Annotations.{annotation_tall}
use Rattle.parse_parameter.proofs.metadata.calling_annotation.Goals as goal

pub returns : goal.returns
returns c =
    let a = c.args in
    let is : view.annotation c.annotation.result ≡ to_annotation (a.at, (a.name, (a.more.items, Some (view.arguments a.arguments)))) =
    c.annotation.ensures ∙ ap (λ (x : t.Arguments). to_annotation (a.at, (a.name, (a.more.items, Some x)))) (sym (view_the_arguments a.arguments)) in
    record { same = is; high = annotation_tall (view.annotation c.annotation.result) a.at a.name a.more.items (Some (view.arguments a.arguments)) is }
