-- Erasure keeps the shape of signatures: how many parameters there are, and the names of the named ones.
use Rattle.std.proofs.Common.{◌≡◌, refl, ap, Option, None, Some}
use Rattle.dart_tree.specs.declared.parameter.Brackets.{Brackets}
use Rattle.dart_tree.specs.declared.parameter.BracketKind.{BracketKind}
use Rattle.dart_tree.specs.declared.parameter.BracketKind.TheVariants as bk
use Rattle.dart_tree.specs.Tree as t
use Rattle.dart_erase.specs.Erased as erased
use Rattle.dart_ir.specs.Ty.{dynamic, function, nil, cons, unnamed, named}
use Rattle.core_program.specs.Stripped.{loose, all_dynamic, all_named_dynamic}
use Rattle.translation.specs.Surroundings.{Ty, Tables, name_in}
use Rattle.translation.specs.Walk.{State}
use Rattle.translation.specs.Types as ty

kind_name_same : (x : t.ParameterKind) → ty.parameter_name (erased.parameter_kind x) ≡ ty.parameter_name x
unfolding erased.parameter_kind
kind_name_same (t.plain_parameter kind this_dot name) = refl
kind_name_same (t.function_parameter result_type this_dot name given) = refl

name_same : (x : t.Parameter) → ty.name_of_parameter (erased.parameter x) ≡ ty.name_of_parameter x
unfolding erased.parameter
name_same (t.the_parameter comma annotations kind term) = ap ty.text_of (kind_name_same kind)

module _ (s : State) (tables : Tables) where
  -- where aliases and variables may have other types
  abbrev other : State
  other = record s { tables = tables }

  types_same : (x : t.ParameterList) → all_dynamic (ty.parameter_types other (erased.parameter_list x)) ≡ all_dynamic (ty.parameter_types s x)
  unfolding erased.parameter_list
  types_same t.no_parameters = refl
  types_same (t.parameter x rest) = λ i. cons dynamic (types_same rest i)

  named_same : (x : t.ParameterList) → all_named_dynamic (ty.named_types other (erased.parameter_list x)) ≡ all_named_dynamic (ty.named_types s x)
  unfolding erased.parameter_list
  named_same t.no_parameters = refl
  named_same (t.parameter x rest) = λ i. named (name_in s.names.library (name_same x i)) dynamic (named_same rest i)

  positional_in : (b : BracketKind) (x : t.ParameterList) → all_dynamic (ty.in_brackets b (ty.parameter_types other (erased.parameter_list x)) nil)
      ≡ all_dynamic (ty.in_brackets b (ty.parameter_types s x) nil)
  positional_in bk.Square x = types_same x
  positional_in bk.Curly x = refl

  positional_same : (b : Option Brackets) (x : t.ParameterList) → all_dynamic (ty.positional b (ty.parameter_types other (erased.parameter_list x)))
      ≡ all_dynamic (ty.positional b (ty.parameter_types s x))
  positional_same None x = refl
  positional_same (Some b) x = positional_in b.kind x

  by_name_in : (b : BracketKind) (x : t.ParameterList) → all_named_dynamic (ty.in_brackets b unnamed (ty.named_types other (erased.parameter_list x)))
      ≡ all_named_dynamic (ty.in_brackets b unnamed (ty.named_types s x))
  by_name_in bk.Square x = refl
  by_name_in bk.Curly x = named_same x

  by_name_same : (b : Option Brackets) (x : t.ParameterList) → all_named_dynamic (ty.by_name b (ty.named_types other (erased.parameter_list x)))
      ≡ all_named_dynamic (ty.by_name b (ty.named_types s x))
  by_name_same None x = refl
  by_name_same (Some b) x = by_name_in b.kind x

  -- whatever the results are
  pub signature_same : (result result2 : Ty) (x : t.Parameters) → loose (ty.function_type other result (erased.parameters x)) ≡ loose (ty.function_type s result2 x)
  unfolding erased.parameters
  signature_same result result2 (t.the_parameters opening required brackets optional closing) =
      λ i. function dynamic (types_same required i) (positional_same brackets optional i) (by_name_same brackets optional i)
