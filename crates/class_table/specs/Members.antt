-- The instance members of the rows: those that the class declares, or those of the mixin that the row applies, with the type
-- arguments put in that the header gives it.
use Rattle.std.specs.Prelude.{◌≡◌, ℕ, ◌<◌, ◌≤◌, ◌+◌, List, [], ◌∷◌, Bool, length, map, option_map, take, Option, Some, None, slice_get}
use Rattle.dart_base.specs.declared.place.Place.{Place}
use Rattle.dart_ir.specs.Ty.{Ty, Tys, class, ty, function_ty}
use Rattle.dart_ir.specs.declared.number.MemberId.{MemberId}
use Rattle.dart_ir.specs.declared.class.Role.{Role}
use Rattle.dart_ir.specs.declared.class.ClassInfo.{ClassInfo}
use Rattle.dart_ir.specs.declared.class.MemberInfo.{MemberInfo}
use Rattle.dart_type.specs.Instance.{instance}
use Rattle.class_order.specs.declared.rows.Row.{Row}
use Rattle.class_order.specs.Rows.{row_at}
use Rattle.class_fault.specs.declared.program.HeaderType.{HeaderType}
use Rattle.class_fault.specs.declared.program.Member.{Member}
use Rattle.class_fault.specs.declared.program.Declaration.{Declaration}
use Rattle.class_fault.specs.declared.program.Program.{Program}
use Rattle.class_fault.specs.Program.{declaration_at}
use Rattle.class_table.specs.Renumbered.{renumbered}

-- a member without boxes and capacities
pub record Described : Type 0 where
  pub name : ℕ
  pub role : Role
  pub owner : ℕ
  pub function : ℕ
  pub signature : Ty
  pub place : Place
  pub has_body : Bool

abbrev pub described : MemberInfo → Described
described m = record {
  name = m.name.0;
  role = m.role;
  owner = m.owner.0;
  function = m.function.0;
  signature = function_ty m.signature;
  place = m.place;
  has_body = m.has_body;
}

-- a member that a class declares, as one of row c
abbrev pub declared_in : List ℕ → ℕ → Member → Described
declared_in ns c m = record {
  name = m.name.0;
  role = m.role;
  owner = c;
  function = m.function.0;
  signature = renumbered ns (function_ty m.signature);
  place = m.place;
  has_body = m.has_body;
}

-- a mixin's member, as one of row c, which gives the mixin these type arguments
abbrev pub mixed_in : ℕ → Tys → Described → Described
mixed_in c ts x = record {
  name = x.name;
  role = x.role;
  owner = c;
  function = x.function;
  signature = instance ts x.signature;
  place = x.place;
  has_body = x.has_body;
}

abbrev pub described_at : List MemberInfo → ℕ → Option Described
described_at ms j = option_map described (slice_get ms j)

-- the members of these numbers
abbrev pub descriptions : List MemberInfo → List MemberId → List (Option Described)
descriptions ms ids = map (λ m. described_at ms m.0) ids

abbrev pub members_in : Option ClassInfo → List MemberId
members_in None = []
members_in (Some info) = info.members.items

-- the members of a mixin, as those of row c
abbrev pub mixin_members : List MemberInfo → List ClassInfo → ℕ → Ty → List (Option Described)
mixin_members ms is c (class e ts) = map (option_map (mixed_in c ts)) (descriptions ms (members_in (slice_get is e)))
mixin_members ms is c _ = []

-- the members of row c, which applies a mixin or is its class itself
abbrev pub row_members : List MemberInfo → List ClassInfo → List ℕ → ℕ → Declaration → Option HeaderType → List (Option Described)
row_members ms is ns c i None = map (λ m. Some (declared_in ns c m)) i.members.items
row_members ms is ns c i (Some t) = mixin_members ms is c (renumbered ns (ty t.of))

-- how many members some classes have
abbrev pub member_count : List ClassInfo → ℕ
member_count [] = 0
member_count (info ∷ is) = length info.members.items + member_count is

-- The members of the first n rows, of which there are these classes. They are numbered row by row, and there are no others.
pub record AreMembers (p : Program) (ns : List ℕ) (rs : List Row) (n : ℕ) (is : List ClassInfo) (ms : List MemberInfo) : Type 0 where
  pub listed : (c : ℕ) (info : ClassInfo) → slice_get is c ≡ Some info → (j : ℕ) (m : MemberId)
      → slice_get info.members.items j ≡ Some m → m.0 < length ms
  pub owned : (j : ℕ) (x : MemberInfo) → slice_get ms j ≡ Some x → x.owner.0 < n
  pub rows : (c : ℕ) (i : Declaration) (info : ClassInfo) → declaration_at p (row_at rs c).class ≡ Some i
      → slice_get is c ≡ Some info → descriptions ms info.members.items
      ≡ row_members ms (take c is) ns c i (slice_get i.mixins.items (row_at rs c).step)
  pub numbered : (c : ℕ) (info : ClassInfo) → slice_get is c ≡ Some info → (j : ℕ) (m : MemberId)
      → slice_get info.members.items j ≡ Some m → m.0 ≡ member_count (take c is) + j
  pub total : length ms ≡ member_count is

-- Means of proof, which no public contract cites: members of row c that are added.
pub record Adds (old new : List MemberInfo) (ids : List MemberId) (xs : List (Option Described)) (c : ℕ) : Type 0 where
  pub kept : (j : ℕ) → j < length old → slice_get new j ≡ slice_get old j
  pub longer : length new ≡ length old + length ids
  pub numbered : (j : ℕ) (m : MemberId) → slice_get ids j ≡ Some m → m.0 ≡ length old + j
  pub listed : (j : ℕ) (m : MemberId) → slice_get ids j ≡ Some m → m.0 < length new
  pub are : descriptions new ids ≡ xs
  pub owned : (j : ℕ) (x : MemberInfo) → length old ≤ j → slice_get new j ≡ Some x → x.owner.0 ≡ c

-- each number of a member is below n
abbrev pub AreBelow : ℕ → List MemberId → Type 0
AreBelow n ids = (j : ℕ) (m : MemberId) → slice_get ids j ≡ Some m → m.0 < n
