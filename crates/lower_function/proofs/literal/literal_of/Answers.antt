use Rattle.std.proofs.Common.{◌∙◌, ap, sym}
use Rattle.dart_tree.specs.View as view
use Rattle.dart_tree.proofs.Rows.{view_plain}
use Rattle.translation.specs.Statements as s
use Rattle.lower_function.proofs.Cascaded.{cascades_some}
use Rattle.lower_function.proofs.literal.literal_of.Goals as goal

pub returns-else-is_empty : goal.returns-else-is_empty
returns-else-is_empty c =
    sym (ap s.literal_of (ap view.expr c.in-Plain.is ∙ view_plain c.in-Plain.operand c.in-Plain.cascades)
    ∙ cascades_some (view.operand c.in-Plain.operand) c.in-Plain.cascades.items c.in-Plain.cascades.len c.is_empty.result
    c.in-Plain.cascades.ok.0 c.is_empty.ensures c.if-is_empty.false)
