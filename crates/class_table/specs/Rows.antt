-- The rows of a table of classes, as the declarations have them.
use Rattle.std.specs.Prelude.{◌≡◌, ℕ, zero, suc, ◌+◌, ◌-◌, ◌==◌, ◌&&◌, ◌||◌, List, [], ◌∷◌, ◌++◌, Bool, true, false, cond, length, map, take, Option, Some, None, slice_get, slice_index}
use Rattle.dart_base.specs.declared.place.Place.{Place}
use Rattle.dart_ir.specs.declared.number.DeclId.{DeclId}
use Rattle.dart_ir.specs.declared.class.ClassInfo.{ClassInfo}
use Rattle.dart_ir.specs.Ty.{Ty, Tys, class, parameter, nil, cons, ty}
use Rattle.dart_ir.specs.Classes.{with_superclass}
use Rattle.class_order.specs.declared.rows.Row.{Row}
use Rattle.class_order.specs.Rows.{row_at}
use Rattle.class_fault.specs.declared.program.HeaderType.{HeaderType}
use Rattle.class_fault.specs.declared.program.Declaration.{Declaration}
use Rattle.class_fault.specs.declared.program.Program.{Program}
use Rattle.class_fault.specs.Program.{declaration_at, declares_call}
use Rattle.class_fault.specs.Graph.{applied}
use Rattle.class_table.specs.Renumbered.{renumbered, bound_ty, renumbered_bound}

-- the type parameters i, i + 1, .. as arguments
abbrev pub parameters_from : ℕ → ℕ → Tys
parameters_from i zero = nil
parameters_from i (suc n) = cons (parameter i) (parameters_from (suc i) n)

abbrev pub renumbered_types : List ℕ → List HeaderType → List Ty
renumbered_types ns ts = map (λ t. renumbered ns (ty t.of)) ts

-- the superclass that a header names; where it names none it is Object, but Object itself has none
abbrev pub own_superclass : Program → List ℕ → ℕ → Option HeaderType → List Ty
own_superclass p ns d None = cond (d == p.object) [] (class (slice_index ns p.object) nil ∷ [])
own_superclass p ns d (Some t) = renumbered ns (ty t.of) ∷ []

-- the superclass in row c, the s-th of class d: of the first row the class's own, of another the row before it
abbrev pub row_superclass : Program → List ℕ → ℕ → Declaration → ℕ → ℕ → List Ty
row_superclass p ns d i zero c = own_superclass p ns d i.superclass
row_superclass p ns d i (suc s) c = class (c - 1) (parameters_from 0 (length i.bounds.items)) ∷ []

-- the mixin that a row applies
abbrev pub row_mixin : List ℕ → Option HeaderType → List Ty
row_mixin ns None = []
row_mixin ns (Some t) = renumbered ns (ty t.of) ∷ []

-- whether a row is the class itself
abbrev pub is_own : Declaration → ℕ → Bool
is_own i s = s == applied i

-- the interfaces in a row: the mixin that it applies, and those of the class in its own row
abbrev pub row_interfaces : List ℕ → Declaration → ℕ → List Ty
row_interfaces ns i s =
    row_mixin ns (slice_get i.mixins.items s) ++ cond (is_own i s) (renumbered_types ns i.interfaces.items) []

-- whether a class is callable, among those of a list
abbrev pub callable_in : Option ClassInfo → Bool
callable_in None = false
callable_in (Some info) = info.callable

abbrev pub is_callable : List ClassInfo → Ty → Bool
is_callable is (class e ts) = callable_in (slice_get is e)
is_callable is _ = false

abbrev pub any_callable : List ClassInfo → List Ty → Bool
any_callable is [] = false
any_callable is (t ∷ ts) = is_callable is t || any_callable is ts

abbrev pub fields_in : Option ClassInfo → ℕ
fields_in None = 0
fields_in (Some info) = info.fields

-- how many fields an instance of a class has, among those of a list
abbrev pub field_count : List ClassInfo → Ty → ℕ
field_count is (class e ts) = fields_in (slice_get is e)
field_count is _ = 0

abbrev pub field_counts : List ClassInfo → List Ty → ℕ
field_counts is [] = 0
field_counts is (t ∷ ts) = field_count is t + field_counts is ts

-- The fields that a row adds: those that the class declares, or the mixin's, whose superclass is Object, which has none.
abbrev pub added_fields : List ClassInfo → List ℕ → Declaration → Option HeaderType → ℕ
added_fields is ns i None = i.fields
added_fields is ns i (Some t) = field_count is (renumbered ns (ty t.of))

-- the declaration of a row: none of a mixin application that has none of its own
abbrev pub row_decl : Declaration → Bool → Option DeclId
row_decl i own = cond own (Some i.decl) None

abbrev pub mixin_place : Declaration → Option HeaderType → Place
mixin_place i None = i.place
mixin_place i (Some t) = t.place

-- the place of a row: the declared name, or of a mixin application without a declaration its mixin's
abbrev pub row_place : Declaration → ℕ → Place
row_place i s = cond (is_own i s) i.place (mixin_place i (slice_get i.mixins.items s))

-- class c of a table is the s-th row of class d, after the classes of a list
pub record IsRow (p : Program) (ns : List ℕ) (before : List ClassInfo) (d : ℕ) (i : Declaration) (s c : ℕ) (info : ClassInfo) : Type 0 where
  pub name : info.name ≡ i.name
  pub library : info.library ≡ i.library
  pub place : info.place ≡ row_place i s
  pub decl : info.decl ≡ row_decl i (is_own i s)
  pub is_abstract : info.is_abstract ≡ cond (is_own i s) i.is_abstract true
  pub bounds : map bound_ty info.bounds.items ≡ map (renumbered_bound ns) i.bounds.items
  pub superclass : map ty (with_superclass info.superclass []) ≡ row_superclass p ns d i s c
  pub interfaces : map ty info.interfaces.items ≡ row_interfaces ns i s
  pub callable : info.callable ≡ ((is_own i s && declares_call p.call i)
      || (any_callable before (row_superclass p ns d i s c) || any_callable before (row_interfaces ns i s)))
  pub fields : info.fields ≡ field_counts before (row_superclass p ns d i s c)
      + added_fields before ns i (slice_get i.mixins.items s)

-- the first n classes of the table are those of the rows
pub record IsTable (p : Program) (ns : List ℕ) (rs : List Row) (n : ℕ) (is : List ClassInfo) : Type 0 where
  pub size : length is ≡ n
  pub rows : (c : ℕ) (i : Declaration) (info : ClassInfo) → declaration_at p (row_at rs c).class ≡ Some i
      → slice_get is c ≡ Some info → IsRow p ns (take c is) (row_at rs c).class i (row_at rs c).step c info
