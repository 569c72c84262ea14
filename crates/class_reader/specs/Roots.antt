-- What the prelude declares, and when a program has few type parameters.
use Rattle.std.specs.Prelude.{◌≡◌, ℕ, ◌<◌, ◌^◌, length, Some, All}
use Rattle.class_fault.specs.declared.program.Declaration.{Declaration}
use Rattle.class_fault.specs.declared.program.Program.{Program}
use Rattle.class_fault.specs.Program.{declaration_at}
use Rattle.class_table.specs.Program.{IsRoot}

-- The class of that number is declared, without type parameters, names no class and declares no method `call`.
pub record HasRoot (p : Program) (n : ℕ) : Type 0 where
  pub declared : n < length p.declarations.items
  pub root : (i : Declaration) → declaration_at p n ≡ Some i → IsRoot p i

-- `Object` and `Function` are declared so.
pub record HasRoots (p : Program) : Type 0 where
  pub object : HasRoot p p.object
  pub function : HasRoot p p.function

-- each class has fewer type parameters than there are numbers
abbrev pub AreFew : Program → Type 0
AreFew p = All (λ (i : Declaration). length i.bounds.items < 2 ^ 32) p.declarations.items
