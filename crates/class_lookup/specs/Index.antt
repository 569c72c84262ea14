-- Means of proof, which no public contract of a table cites: an index of the members of a table of classes.
use Rattle.std.specs.Prelude.{◌≡◌, ℕ, List, length, Option, Some, None, option_map, find, slice_get}
use Rattle.std.specs.Option.{option_or}
use Rattle.dart_base.specs.declared.name.Name.{Name}
use Rattle.dart_ir.specs.declared.number.MemberId.{MemberId}
use Rattle.dart_ir.specs.declared.class.Role.{Role}
use Rattle.dart_ir.specs.declared.class.Role.TheVariants.{Method, Getter, Setter}
use Rattle.dart_ir.specs.declared.class.MemberInfo.{MemberInfo}
use Rattle.dart_ir.specs.declared.class.Classes.{Classes}
use Rattle.dart_type.specs.Member.{IsFirstMember, declares}
use Rattle.class_lookup.specs.declared.index.Roots.{Roots}
use Rattle.class_lookup.specs.declared.index.Index.{Index}
use Rattle.class_lookup.specs.Tree.{held, rest_of, IsTree, Grows}

-- the tree of a role
abbrev pub root : Roots → Role → Option ℕ
root r Method = r.methods
root r Getter = r.getters
root r Setter = r.setters

-- no members
abbrev pub no_roots : Roots
no_roots = record { methods = None; getters = None; setters = None }

abbrev pub roots_in : Option Roots → Roots
roots_in None = no_roots
roots_in (Some r) = r

-- the trees of the superclass
abbrev pub inherited_roots : List Roots → Option ℕ → Roots
inherited_roots rs None = no_roots
inherited_roots rs (Some c) = roots_in (slice_get rs c)

abbrev pub HasTrees : List (List (Option ℕ)) → ℕ → Roots → Type 0
HasTrees nodes levels r = (role : Role) → IsTree nodes levels (root r role)

abbrev pub member_id : ℕ → MemberId
member_id n = record { 0 = n }

-- the member that a tree has for a name
abbrev pub member_in : List (List (Option ℕ)) → ℕ → Roots → Name → Role → Option MemberId
member_in nodes levels r name role = option_map member_id (held nodes levels (root r role) name.0)

-- each name of a member has at most so many digits
abbrev pub AreNames : List MemberInfo → ℕ → Type 0
AreNames ms levels = (j : ℕ) (m : MemberInfo) → slice_get ms j ≡ Some m → rest_of levels m.name.0 ≡ 0

-- the trees of the first classes of a table
pub record IsIndexed (k : Classes) (nodes : List (List (Option ℕ))) (rs : List Roots) (levels : ℕ) : Type 0 where
  pub trees : (c : ℕ) (r : Roots) → slice_get rs c ≡ Some r → HasTrees nodes levels r
  pub finds : (c : ℕ) (r : Roots) (name : Name) (role : Role) → slice_get rs c ≡ Some r
      → rest_of levels name.0 ≡ 0 → IsFirstMember k c name role (member_in nodes levels r name role)

pub record IsIndex (k : Classes) (x : Index) : Type 0 where
  pub names : AreNames k.members.items x.levels
  pub size : length x.roots.items ≡ length k.classes.items
  pub indexed : IsIndexed k x.nodes.items x.roots.items x.levels

-- trees in which members of a list come before those of other trees
pub record IsAdded (k : Classes) (old new : List (List (Option ℕ))) (levels : ℕ) (ms : List MemberId) (below made : Roots) : Type 0 where
  pub grows : Grows old new
  pub trees : HasTrees new levels made
  pub finds : (name : Name) (role : Role) → rest_of levels name.0 ≡ 0 → member_in new levels made name role
      ≡ option_or (find (declares k name role) ms) (member_in old levels below name role)
