-- Programs in the core language, in which a name is an N: its number, or its text.
use Rattle.std.specs.Prelude.{ℕ, List, Option, Bool}
use Rattle.dart_base.specs.declared.place.Place.{Place}
use Rattle.dart_ir.specs.declared.class.Role.{Role}
use Rattle.dart_ir.specs.declared.kind.Shape.{Shape}
use Rattle.dart_ir.specs.declared.kind.SiteKind.{SiteKind}
use Rattle.dart_ir.specs.declared.value.Value.{Value}
use Rattle.dart_ir.specs.Object.{HeapObject}
use Rattle.dart_ir.specs.Ty.{TyOf}
use Rattle.core_program.specs.declared.program.FunctionKind.{FunctionKind}
use Rattle.core_program.specs.Core.{Part}

pub record Class (N : Type 0) : Type 0 where
  pub name : N
  pub library : ℕ
  pub place : Place
  pub bounds : List (Option (TyOf N))
  pub superclass : Option (TyOf N)
  pub interfaces : List (TyOf N)
  pub is_abstract : Bool
  pub declaration : Option ℕ
  pub fields : ℕ
  pub members : List ℕ
  pub callable : Bool

pub record Member (N : Type 0) : Type 0 where
  pub name : N
  pub role : Role
  pub owner : ℕ
  pub function : ℕ
  pub signature : TyOf N
  pub place : Place
  pub has_body : Bool

pub record Parameter (N : Type 0) : Type 0 where
  pub var : ℕ
  pub name : N
  pub shape : Shape
  pub default : Value
  pub site : ℕ

pub record Function (N : Type 0) : Type 0 where
  pub name : N
  pub kind : FunctionKind
  pub class : Option ℕ
  pub parameters : List (Parameter N)
  pub vars : ℕ
  pub cells : List ℕ
  pub captures : List ℕ
  pub signature : TyOf N
  pub body : Part N

pub record Static (N : Type 0) : Type 0 where
  pub name : N
  pub vars : ℕ
  pub cells : List ℕ
  pub init : Part N
  pub is_final : Bool

pub record Site (N : Type 0) : Type 0 where
  pub place : Place
  pub kind : SiteKind
  pub required : Option (TyOf N)
  pub annotated : Bool

-- The types of a constant hold no function types, so no names of parameters.
pub record Program (N : Type 0) : Type 0 where
  pub units : List (List ℕ)
  pub classes : List (Class N)
  pub members : List (Member N)
  pub function_class : ℕ
  pub functions : List (Function N)
  pub statics : List (Static N)
  pub sites : List (Site N)
  pub literals : List (List ℕ)
  pub constants : List HeapObject
  pub main : ℕ
