-- Types with other numbers for their classes.
use Rattle.std.specs.Prelude.{ℕ, List, slice_index, Option, Some, None}
use Rattle.dart_ir.specs.declared.types.TypeRef.{TypeRef}
use Rattle.dart_ir.specs.Ty.{Ty, Tys, NamedTys, dynamic, bottom, void, class, parameter, function, nil, cons, unnamed, named, ty}

abbrev mutual
  pub renumbered : List ℕ → Ty → Ty
  renumbered ns dynamic = dynamic
  renumbered ns bottom = bottom
  renumbered ns void = void
  renumbered ns (class c us) = class (slice_index ns c) (renumbered_all ns us)
  renumbered ns (parameter i) = parameter i
  renumbered ns (function r q o m) =
      function (renumbered ns r) (renumbered_all ns q) (renumbered_all ns o) (renumbered_named ns m)

  pub renumbered_all : List ℕ → Tys → Tys
  renumbered_all ns nil = nil
  renumbered_all ns (cons u us) = cons (renumbered ns u) (renumbered_all ns us)

  pub renumbered_named : List ℕ → NamedTys → NamedTys
  renumbered_named ns unnamed = unnamed
  renumbered_named ns (named x u us) = named x (renumbered ns u) (renumbered_named ns us)

abbrev pub renumbered_parameter : List ℕ → ℕ × Ty → ℕ × Ty
renumbered_parameter ns n = (n.0, renumbered ns n.1)

-- a bound as a type, where there is one
abbrev pub bound_ty : Option TypeRef → Option Ty
bound_ty None = None
bound_ty (Some t) = Some (ty t)

abbrev pub renumbered_bound : List ℕ → Option TypeRef → Option Ty
renumbered_bound ns None = None
renumbered_bound ns (Some t) = Some (renumbered ns (ty t))
