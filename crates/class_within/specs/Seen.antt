-- What class declarations say, without boxes and capacities, with names and classes as their numbers.
use Rattle.std.specs.Prelude.{ℕ, List, Option, Bool}
use Rattle.dart_base.specs.declared.place.Place.{Place}
use Rattle.dart_ir.specs.Ty.{Ty}
use Rattle.dart_ir.specs.declared.class.Role.{Role}
use Rattle.class_fault.specs.declared.program.Standing.{Standing}

-- a type that a header names, at the place of its name
pub record HeaderType : Type 0 where
  pub place : Place
  pub of : Ty

pub record Member : Type 0 where
  pub name : ℕ
  pub role : Role
  pub function : ℕ
  pub signature : Ty
  pub place : Place
  pub has_body : Bool

pub record Class : Type 0 where
  pub name : ℕ
  pub library : ℕ
  pub place : Place
  pub declaration : ℕ
  pub is_abstract : Bool
  pub is_application : Bool
  pub standing : Standing
  pub bounds : List (Option Ty)
  pub superclass : Option HeaderType
  pub mixins : List HeaderType
  pub interfaces : List HeaderType
  pub members : List Member
  pub fields : ℕ

pub record Program : Type 0 where
  pub classes : List Class
  pub object : ℕ
  pub function : ℕ
  pub call : ℕ
