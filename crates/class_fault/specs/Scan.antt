-- Means of proof, which no public contract cites: what a scan of the headers rests on.
use Rattle.std.specs.Prelude.{◌≡◌, ℕ, ◌<◌, List, Bool, false, length, Option, Some, None, slice_get}
use Rattle.class_order.specs.declared.header.Header.{Header}
use Rattle.class_order.specs.Order.{AreListed, HasCycle, Leads}
use Rattle.dart_ir.specs.Ty.{ty}
use Rattle.class_fault.specs.declared.program.HeaderType.{HeaderType}
use Rattle.class_fault.specs.declared.program.Program.{Program}
use Rattle.class_fault.specs.Program.{class_named}
use Rattle.class_fault.specs.Graph.{IsGraph}

pub record IsScan (p : Program) (hs : List Header) (is_cyclic : Bool) : Type 0 where
  pub graph : IsGraph p hs
  pub listed : AreListed hs
  pub cyclic : is_cyclic ≡ false → HasCycle hs → ⊥

-- a type of the header of class d
abbrev pub IsNamed : List Header → ℕ → HeaderType → Type 0
IsNamed hs d t = (e : ℕ) → class_named (ty t.of) ≡ Some e → (e < length hs) × Leads hs d e

abbrev pub AreNamed : List Header → ℕ → List HeaderType → Type 0
AreNamed hs d ts = (k : ℕ) (t : HeaderType) → slice_get ts k ≡ Some t → IsNamed hs d t

abbrev pub IsSomeNamed : List Header → ℕ → Option HeaderType → Type 0
IsSomeNamed hs d None = Unit {0}
IsSomeNamed hs d (Some t) = IsNamed hs d t
