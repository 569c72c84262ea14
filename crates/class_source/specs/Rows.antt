-- What the declaration of a class says, with names as texts and other classes as numbers of their declarations.
use Rattle.std.specs.Prelude.{ℕ, List, Option, Bool}
use Rattle.dart_base.specs.declared.place.Place.{Place}
use Rattle.dart_ir.specs.declared.class.Role.{Role}
use Rattle.class_fault.specs.declared.program.Standing.{Standing}
use Rattle.translation.specs.Surroundings.{Text, Ty}

-- a type that a header names, at the place of its name
pub record HeaderType : Type 0 where
  pub place : Place
  pub of : Ty

-- an instance member; a field is a getter, and where it isn't final a setter
pub record Member : Type 0 where
  pub name : Text
  pub role : Role
  -- the number of the declaration of the function, or of the field
  pub function : ℕ
  pub signature : Ty
  pub place : Place
  pub has_body : Bool

pub record Class : Type 0 where
  pub name : Text
  pub library : ℕ
  pub place : Place
  pub declaration : ℕ
  pub is_abstract : Bool
  -- it is written as a mixin application
  pub is_application : Bool
  pub standing : Standing
  -- the bound of each type parameter, where it has one
  pub bounds : List (Option Ty)
  pub superclass : Option HeaderType
  pub mixins : List HeaderType
  pub interfaces : List HeaderType
  pub members : List Member
  -- how many instance fields it declares
  pub fields : ℕ

-- the classes of a program in source order, and which of them are Object and Function
pub record Classes : Type 0 where
  pub classes : List Class
  pub object : ℕ
  pub function : ℕ
