-- What a struct of the code that leads back to itself is, once it is made of its parts.
use Rattle.std.proofs.Common.{◌≡◌, ap, ◌∙◌}
use Rattle.dart_tree.specs.declared.expression.Arguments.{roll-Arguments, out-roll-Arguments}
use Rattle.dart_tree.specs.declared.parameter.Parameters.{roll-Parameters, out-roll-Parameters}
use Rattle.dart_tree.specs.declared.parameter.Parameter.{roll-Parameter, out-roll-Parameter}
use Rattle.dart_tree.specs.declared.parameter.Annotation.{roll-Annotation, out-roll-Annotation}
use Rattle.dart_tree.specs.declared.statement.Variables.{roll-Variables, out-roll-Variables}
use Rattle.dart_tree.specs.declared.statement.Function.{roll-Function, out-roll-Function}
use Rattle.dart_tree.specs.Tree as t
use Rattle.dart_tree.specs.View as view
use Rattle.dart_tree.specs.Lists.{items_of, parameter_list_of, metadata_of, more_variables_of}
use Rattle.dart_tree.proofs.Rows.{view_the_arguments, view_the_parameters, view_the_parameter}
use Rattle.dart_tree.proofs.Rows.{view_the_annotation, view_the_variables, view_the_function}

pub made_the_arguments : (x : _) → view.arguments (roll-Arguments x) ≡ t.the_arguments x.opening (items_of x.items.items) x.closing
made_the_arguments x = view_the_arguments (roll-Arguments x) ∙ ap (λ y. t.the_arguments y.opening (items_of y.items.items) y.closing) (out-roll-Arguments x)

pub made_the_parameters : (x : _) → view.parameters (roll-Parameters x) ≡ t.the_parameters x.opening (parameter_list_of x.required.items) x.brackets (parameter_list_of x.optional.items) x.closing
made_the_parameters x = view_the_parameters (roll-Parameters x) ∙ ap (λ y. t.the_parameters y.opening (parameter_list_of y.required.items) y.brackets (parameter_list_of y.optional.items) y.closing) (out-roll-Parameters x)

pub made_the_parameter : (x : _) → view.parameter (roll-Parameter x) ≡ t.the_parameter x.comma (metadata_of x.metadata.items) (view.parameter_kind x.kind) (view.value x.value)
made_the_parameter x = view_the_parameter (roll-Parameter x) ∙ ap (λ y. t.the_parameter y.comma (metadata_of y.metadata.items) (view.parameter_kind y.kind) (view.value y.value)) (out-roll-Parameter x)

pub made_the_annotation : (x : _) → view.annotation (roll-Annotation x) ≡ t.the_annotation x.at x.name x.more.items x.call (items_of x.items.items)
made_the_annotation x = view_the_annotation (roll-Annotation x) ∙ ap (λ y. t.the_annotation y.at y.name y.more.items y.call (items_of y.items.items)) (out-roll-Annotation x)

pub made_the_variables : (x : _) → view.variables (roll-Variables x) ≡ t.the_variables (view.variable_kind x.kind) x.name (view.value x.value) (more_variables_of x.more.items) x.semicolon
made_the_variables x = view_the_variables (roll-Variables x) ∙ ap (λ y. t.the_variables (view.variable_kind y.kind) y.name (view.value y.value) (more_variables_of y.more.items) y.semicolon) (out-roll-Variables x)

pub made_the_function : (x : _) → view.function (roll-Function x) ≡ t.the_function x.external (view.result_option x.result_type) x.name (view.parameters x.parameters) (view.body x.body)
made_the_function x = view_the_function (roll-Function x) ∙ ap (λ y. t.the_function y.external (view.result_option y.result_type) y.name (view.parameters y.parameters) (view.body y.body)) (out-roll-Function x)
