-- The headers of a program's classes as a graph.
use Rattle.std.specs.Prelude.{◌≡◌, ℕ, ◌-◌, ◌==◌, List, [], ◌∷◌, ◌++◌, Bool, cond, length, Option, Some, None}
use Rattle.class_order.specs.declared.header.Header.{Header}
use Rattle.class_order.specs.Order.{above}
use Rattle.class_order.specs.Rows.{applications}
use Rattle.dart_ir.specs.Ty.{ty}
use Rattle.class_fault.specs.Program.{declaration_at, class_named, declares_call}
use Rattle.class_fault.specs.declared.program.HeaderType.{HeaderType}
use Rattle.class_fault.specs.declared.program.Declaration.{Declaration}
use Rattle.class_fault.specs.declared.program.Program.{Program}

abbrev pub class_before : Option ℕ → List ℕ → List ℕ
class_before None es = es
class_before (Some e) es = e ∷ es

-- the classes that header types name
abbrev pub named_classes : List HeaderType → List ℕ
named_classes [] = []
named_classes (t ∷ ts) = class_before (class_named (ty t.of)) (named_classes ts)

-- the superclass that a header names; where it names none it is Object, but Object itself has none
abbrev pub superclass_named : Program → ℕ → Option HeaderType → List ℕ
superclass_named p d None = cond (d == p.object) [] (p.object ∷ [])
superclass_named p d (Some t) = class_before (class_named (ty t.of)) []

abbrev pub function_if : Program → Bool → List ℕ
function_if p b = cond b (p.function ∷ []) []

-- What must stand before class d: superclass, mixins, interfaces, and Function where it declares a method `call`.
abbrev pub above_of : Program → ℕ → Declaration → List ℕ
above_of p d i =
    superclass_named p d i.superclass ++ named_classes i.mixins.items ++ named_classes i.interfaces.items
    ++ function_if p (declares_call p.call i)

-- How many mixin applications are classes of their own: of a class that is written as one, all but the last.
abbrev pub applied : Declaration → ℕ
applied i = cond i.is_application (length i.mixins.items - 1) (length i.mixins.items)

-- the graph of a program's headers
pub record IsGraph (p : Program) (hs : List Header) : Type 0 where
  pub size : length hs ≡ length p.declarations.items
  pub above : (d : ℕ) (i : Declaration) → declaration_at p d ≡ Some i → above hs d ≡ above_of p d i
  pub applications : (d : ℕ) (i : Declaration) → declaration_at p d ≡ Some i → applications hs d ≡ applied i

-- Nothing stands above Object, and Object alone above Function: so the prelude declares them.
pub record HasRoots (p : Program) : Type 0 where
  pub object : (i : Declaration) → declaration_at p p.object ≡ Some i → above_of p p.object i ≡ []
  pub function : (i : Declaration) → declaration_at p p.function ≡ Some i → above_of p p.function i ≡ p.object ∷ []
