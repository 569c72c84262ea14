use Rattle.std.proofs.Common.{◌≡◌, List, None, ap, ◌∙◌}
use Rattle.dart_syntax.specs.Statements.{to_annotation}
use Rattle.dart_tree.specs.declared.expression.Item.{Item}
use Rattle.dart_tree.specs.Lists.{items_of}
use Rattle.dart_tree.specs.Tree as t
use Rattle.dart_tree.specs.View as view
use Rattle.parse_parameter.proofs.Annotations.{annotation_tall}
use Rattle.parse_parameter.proofs.metadata.plain_annotation.Goals as goal

pub returns : goal.returns
returns c =
    let a = c.args in
    let is : view.annotation c.annotation.result ≡ to_annotation (a.at, (a.name, (a.more.items, None))) =
    c.annotation.ensures ∙ ap (λ (l : List Item). t.the_annotation a.at a.name a.more.items None (items_of l)) c.new.ensures.items in
    record { same = is; high = annotation_tall (view.annotation c.annotation.result) a.at a.name a.more.items None is }
