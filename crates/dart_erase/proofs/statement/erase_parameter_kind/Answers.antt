use Rattle.std.proofs.Common.{◌∙◌, ap, sym, refl}
use Rattle.dart_tree.specs.declared.parameter.ParameterKind.{ParameterKind}
use Rattle.dart_tree.specs.declared.parameter.VariableKind.TheVariants as vk
use Rattle.dart_erase.specs.Erased as erased
use Rattle.dart_tree.specs.View as view
use Rattle.dart_tree.proofs.Rows.{view_plain_parameter}
use Rattle.dart_erase.proofs.Erasing.{erasing_plain_parameter, erasing_function_parameter}
use Rattle.dart_erase.proofs.statement.erase_parameter_kind.Goals as goal

pub returns-in_ok-name-in-Plain : goal.returns-in_ok-name-in-Plain
returns-in_ok-name-in-Plain c = view_plain_parameter c.erase_parameter_type-kind.result c.in-Plain.this_dot c.in_ok-name-in-Plain.name ∙ rw (c.erase_parameter_type-kind.ensures, c.in_ok-name-in-Plain.ensures) refl ∙ sym (ap (λ (x : ParameterKind). erased.parameter_kind (view.parameter_kind x)) c.in-Plain.is ∙ erasing_plain_parameter c.in-Plain.kind c.in-Plain.this_dot c.in-Plain.name)

pub returns-in_ok-name-in-Function : goal.returns-in_ok-name-in-Function
returns-in_ok-name-in-Function c = view_plain_parameter vk.Omitted c.in-Function.this_dot c.in_ok-name-in-Function.name ∙ rw (c.in_ok-name-in-Function.ensures) refl ∙ sym (ap (λ (x : ParameterKind). erased.parameter_kind (view.parameter_kind x)) c.in-Function.is ∙ erasing_function_parameter c.in-Function.result_type c.in-Function.this_dot c.in-Function.name c.in-Function.parameters)
