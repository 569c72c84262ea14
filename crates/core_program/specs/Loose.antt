-- Means of proof: signatures in which every type is dynamic, as lists.
use Rattle.std.specs.Prelude.{ℕ}
use Rattle.dart_ir.specs.Ty.{Ty, dynamic}

abbrev pub loose_named : (ℕ × Ty) → ℕ × Ty
loose_named n = (n.0, dynamic)
