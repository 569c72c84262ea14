use Rattle.std.proofs.Common.{ap, ◌∙◌, rules}
use Rattle.dart_tree.specs.declared.expression.Value.{Value}
use Rattle.dart_tree.specs.Tokens.{switch_word}
use Rattle.dart_tree.specs.View as view
use Rattle.dart_tree.proofs.Rows.{view_omitted, view_given}
use Rattle.dart_unparse.proofs.leaf.Writer.switch_word.Goals as goal

pub returns-in-Omitted : goal.returns-in-Omitted
returns-in-Omitted c =
    let e = ap (λ (x : Value). switch_word (view.value x)) c.in-Omitted.is ∙ ap switch_word view_omitted in
    rw e (search rules)

pub returns-in-Given : goal.returns-in-Given
returns-in-Given c =
    let e = ap (λ (x : Value). switch_word (view.value x)) c.in-Given.is ∙ ap switch_word (view_given c.in-Given.field-0 c.in-Given.field-1) in
    rw e (search rules)
