-- Types as they are written, and what holds no more than types, without where they lie in memory.
use Rattle.std.specs.Prelude.{Option}
use Rattle.dart_base.specs.declared.place.Place.{Place}
use Rattle.dart_tree.specs.declared.identifier.Identifier.{Identifier}
use Rattle.dart_tree.specs.declared.identifier.DotName.{DotName}
use Rattle.dart_tree.specs.declared.statement.Catch.{Catch}

mutual
  pub data TypeNode : Type 0 where
    dynamic_type : Place → TypeNode
    named_type : Identifier → Option DotName → TypeArguments → TypeNode

  pub data TypeArguments : Type 0 where
    no_types : TypeArguments
    listed_types : Place → TypeList → Place → TypeArguments

  pub data TypeList : Type 0 where
    no_more_types : TypeList
    type_more : Option Place → TypeNode → TypeList → TypeList

pub data ResultType : Type 0 where
  void_result : Place → ResultType
  typed_result : TypeNode → ResultType

pub data VariableKind : Type 0 where
  no_kind : VariableKind
  var_kind : Place → VariableKind
  final_kind : Place → Option TypeNode → VariableKind
  const_kind : Place → Option TypeNode → VariableKind
  typed_kind : TypeNode → VariableKind

pub data TryKind : Type 0 where
  on_part : Place → TypeNode → Option Catch → TryKind
  catch_part : Catch → TryKind
  finally_part : Place → TryKind
