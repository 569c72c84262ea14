-- Programs that are seen alike have the same tables.
use Rattle.std.proofs.Common.{◌≡◌, ℕ, zero, suc, ◌+◌, ◌-◌, ◌==◌, ◌&&◌, ◌||◌, List, [], ◌∷◌, ◌++◌, map, option_map, take, get_or, true, cond, Option, Some, None, slice_get, refl, sym, ap, ◌∙◌}
use Rattle.std.proofs.lemmas.Option.{slice_get-map}
use Rattle.dart_base.specs.declared.name.Name.{Name}
use Rattle.dart_ir.specs.Ty.{Ty, class, nil, ty}
use Rattle.dart_ir.specs.declared.number.DeclId.{DeclId}
use Rattle.dart_ir.specs.declared.types.TypeRef.{TypeRef}
use Rattle.dart_ir.specs.declared.class.ClassInfo.{ClassInfo}
use Rattle.dart_ir.specs.declared.class.MemberInfo.{MemberInfo}
use Rattle.core_program.specs.ProgramView.{ty_option}
use Rattle.class_order.specs.declared.rows.Row.{Row}
use Rattle.class_order.specs.Rows.{row_at}
use Rattle.class_fault.specs.declared.program.HeaderType.{HeaderType}
use Rattle.class_fault.specs.declared.program.Member.{Member}
use Rattle.class_fault.specs.declared.program.Declaration.{Declaration}
use Rattle.class_fault.specs.declared.program.Program.{Program}
use Rattle.class_fault.specs.Program.{declares_call}
use Rattle.class_table.specs.Renumbered.{renumbered, renumbered_bound}
use Rattle.class_table.specs.Rows.{parameters_from, renumbered_types, own_superclass, row_superclass, row_mixin, is_own, row_interfaces, any_callable, field_count, field_counts, added_fields, mixin_place, row_place, IsRow, IsTable}
use Rattle.class_table.specs.Members.{Described, declared_in, mixin_members, row_members, AreMembers}
use Rattle.class_within.specs.Seen as s
use Rattle.class_within.specs.View as view
use Rattle.laws_class.proofs.Sizes.{other}
use Rattle.laws_table.specs.Shape as shape
use Rattle.laws_table.proofs.Like.{length_like, type_like, place_like, option_like, object_like, applied_like, declares_call_like}
use Rattle.laws_table.proofs.Graphs.{there}

name_eq : (x y : Name) → x.0 ≡ y.0 → x ≡ y
name_eq x y e = let of : ℕ → Name = λ n. record { 0 = n } in ap of e

decl_eq : (x y : DeclId) → x.0 ≡ y.0 → x ≡ y
decl_eq x y e = let of : ℕ → DeclId = λ n. record { 0 = n } in ap of e

-- ---- types with other numbers

abbrev renumbered_option : List ℕ → Option Ty → Option Ty
renumbered_option ns None = None
renumbered_option ns (Some t) = Some (renumbered ns t)

bound_read : (ns : List ℕ) (o : Option TypeRef) → renumbered_bound ns o ≡ renumbered_option ns (ty_option o)
bound_read ns None = refl
bound_read ns (Some t) = refl

bounds_read : (ns : List ℕ) (os : List (Option TypeRef)) → map (renumbered_bound ns) os ≡ map (renumbered_option ns) (map ty_option os)
bounds_read ns [] = refl
bounds_read ns (o ∷ os) =
    let a = bound_read ns o in
    let b = bounds_read ns os in
    λ r. a r ∷ b r

types_read : (ns : List ℕ) (ts : List HeaderType) → renumbered_types ns ts ≡ map (λ (t : s.HeaderType). renumbered ns t.of) (map view.header_type ts)
types_read ns [] = refl
types_read ns (t ∷ ts) = ap (λ (z : List Ty). renumbered ns (ty t.of) ∷ z) (types_read ns ts)

-- ---- members

abbrev pub declared_seen : List ℕ → ℕ → s.Member → Described
declared_seen ns c m = record {
  name = m.name;
  role = m.role;
  owner = c;
  function = m.function;
  signature = renumbered ns m.signature;
  place = m.place;
  has_body = m.has_body;
}

declared_read : (ns : List ℕ) (c : ℕ) (ms : List Member) → map (λ m. Some (declared_in ns c m)) ms ≡ map (λ m. Some (declared_seen ns c m)) (map view.member ms)
declared_read ns c [] = refl
declared_read ns c (m ∷ ms) = ap (λ (z : List (Option Described)). Some (declared_in ns c m) ∷ z) (declared_read ns c ms)

-- ---- a mixin, where there is one

superclass_map : (o : Option HeaderType) → option_map view.header_type o ≡ view.superclass o
superclass_map None = refl
superclass_map (Some t) = refl

mixin_read : (ts : List HeaderType) (n : ℕ) → view.superclass (slice_get ts n) ≡ slice_get (map view.header_type ts) n
mixin_read ts n = sym (superclass_map (slice_get ts n)) ∙ sym (slice_get-map view.header_type ts n)

module _ (p q : Program) (same : shape.program p ≡ shape.program q) (i j : Declaration) (like : shape.class i ≡ shape.class j) where
  pub mixin_like : (n : ℕ) → view.superclass (slice_get i.mixins.items n) ≡ view.superclass (slice_get j.mixins.items n)
  mixin_like n = mixin_read i.mixins.items n ∙ ap (λ (c : s.Class). slice_get c.mixins n) like ∙ sym (mixin_read j.mixins.items n)

  place_is : i.place ≡ j.place
  place_is = ap (λ (c : s.Class). c.place) like

  is_own_like : (n : ℕ) → is_own i n ≡ is_own j n
  is_own_like n = ap (λ z. n == z) (applied_like p q same i j like)

  row_place_like : (n : ℕ) → row_place i n ≡ row_place j n
  row_place_like n =
      let a = is_own_like n in
      let b = place_is in
      let c = option_like (mixin_place i) (mixin_place j) place_is place_like (slice_get i.mixins.items n) (slice_get j.mixins.items n) (mixin_like n) in
      λ r. cond (a r) (b r) (c r)

  decl_like : i.decl ≡ j.decl
  decl_like = decl_eq i.decl j.decl (ap (λ (c : s.Class). c.declaration) like)

  name_like : i.name ≡ j.name
  name_like = name_eq i.name j.name (ap (λ (c : s.Class). c.name) like)

  module _ (ns : List ℕ) where
    own_superclass_like : (d : ℕ) → own_superclass p ns d i.superclass ≡ own_superclass q ns d j.superclass
    own_superclass_like d =
        option_like (own_superclass p ns d) (own_superclass q ns d)
        (let o = object_like p q same in λ r. cond (d == o r) [] (class (get_or ns (o r) 0) nil ∷ []))
        (λ t u e. ap (λ z. renumbered ns z ∷ []) (type_like t u e)) i.superclass j.superclass (ap (λ (c : s.Class). c.superclass) like)

    row_superclass_like : (d n c : ℕ) → row_superclass p ns d i n c ≡ row_superclass q ns d j n c
    row_superclass_like d zero c = own_superclass_like d
    row_superclass_like d (suc n) c =
        ap (λ z. class (c - 1) (parameters_from 0 z) ∷ []) (length_like ty_option i.bounds.items j.bounds.items (ap (λ (x : s.Class). x.bounds) like))

    row_mixin_like : (n : ℕ) → row_mixin ns (slice_get i.mixins.items n) ≡ row_mixin ns (slice_get j.mixins.items n)
    row_mixin_like n =
        option_like (row_mixin ns) (row_mixin ns) refl (λ t u e. ap (λ z. renumbered ns z ∷ []) (type_like t u e))
        (slice_get i.mixins.items n) (slice_get j.mixins.items n) (mixin_like n)

    types_like : renumbered_types ns i.interfaces.items ≡ renumbered_types ns j.interfaces.items
    types_like =
        types_read ns i.interfaces.items
        ∙ ap (λ (c : s.Class). map (λ (t : s.HeaderType). renumbered ns t.of) c.interfaces) like
        ∙ sym (types_read ns j.interfaces.items)

    row_interfaces_like : (n : ℕ) → row_interfaces ns i n ≡ row_interfaces ns j n
    row_interfaces_like n =
        let a = row_mixin_like n in
        let b = is_own_like n in
        let c = types_like in
        λ r. a r ++ cond (b r) (c r) []

    bounds_like : map (renumbered_bound ns) i.bounds.items ≡ map (renumbered_bound ns) j.bounds.items
    bounds_like =
        bounds_read ns i.bounds.items
        ∙ ap (λ (c : s.Class). map (renumbered_option ns) c.bounds) like
        ∙ sym (bounds_read ns j.bounds.items)

    added_like : (before : List ClassInfo) (n : ℕ) → added_fields before ns i (slice_get i.mixins.items n) ≡ added_fields before ns j (slice_get j.mixins.items n)
    added_like before n =
        option_like (added_fields before ns i) (added_fields before ns j) (ap (λ (c : s.Class). c.fields) like)
        (λ t u e. ap (λ z. field_count before (renumbered ns z)) (type_like t u e)) (slice_get i.mixins.items n) (slice_get j.mixins.items n) (mixin_like n)

    callable_like : (before : List ClassInfo) (d n c : ℕ)
        → (is_own i n && declares_call p.call i) || (any_callable before (row_superclass p ns d i n c) || any_callable before (row_interfaces ns i n))
        ≡ (is_own j n && declares_call q.call j) || (any_callable before (row_superclass q ns d j n c) || any_callable before (row_interfaces ns j n))
    callable_like before d n c =
        let a = is_own_like n in
        let b = declares_call_like p q same i j like in
        let e = row_superclass_like d n c in
        let f = row_interfaces_like n in
        λ r. (a r && b r) || (any_callable before (e r) || any_callable before (f r))

    fields_like : (before : List ClassInfo) (d n c : ℕ)
        → field_counts before (row_superclass p ns d i n c) + added_fields before ns i (slice_get i.mixins.items n)
        ≡ field_counts before (row_superclass q ns d j n c) + added_fields before ns j (slice_get j.mixins.items n)
    fields_like before d n c =
        let a = row_superclass_like d n c in
        let b = added_like before n in
        λ r. field_counts before (a r) + b r

    row_like : (before : List ClassInfo) (d n c : ℕ) (info : ClassInfo) → IsRow q ns before d j n c info → IsRow p ns before d i n c info
    row_like before d n c info row = record {
      name = row.name ∙ sym name_like;
      library = row.library ∙ sym (ap (λ (x : s.Class). x.library) like);
      place = row.place ∙ sym (row_place_like n);
      decl = row.decl ∙ sym (let a = is_own_like n in let b = decl_like in λ r. cond (a r) (Some (b r)) None);
      is_abstract = row.is_abstract ∙ sym (let a = is_own_like n in let b : i.is_abstract ≡ j.is_abstract = ap (λ (x : s.Class). x.is_abstract) like in λ r. cond (a r) (b r) true);
      bounds = row.bounds ∙ sym bounds_like;
      superclass = row.superclass ∙ sym (row_superclass_like d n c);
      interfaces = row.interfaces ∙ sym (row_interfaces_like n);
      callable = row.callable ∙ sym (callable_like before d n c);
      fields = row.fields ∙ sym (fields_like before d n c);
    }

-- ---- programs that are seen alike, signatures included

members_shaped : (ms : List Member) → map shape.member ms ≡ map shape.loose_member (map view.member ms)
members_shaped [] = refl
members_shaped (m ∷ ms) = ap (λ (z : List s.Member). shape.member m ∷ z) (members_shaped ms)

pub class_shaped : (i : Declaration) → shape.class i ≡ shape.loose_class (view.class i)
class_shaped i = ap (λ (z : List s.Member). let c : s.Class = record (view.class i) { members = z } in c) (members_shaped i.members.items)

pub class_like : (i j : Declaration) → view.class i ≡ view.class j → shape.class i ≡ shape.class j
class_like i j like = class_shaped i ∙ ap shape.loose_class like ∙ sym (class_shaped j)

pub classes_shaped : (is : List Declaration) → map shape.class is ≡ map shape.loose_class (map view.class is)
classes_shaped [] = refl
classes_shaped (i ∷ is) = λ r. class_shaped i r ∷ classes_shaped is r

pub program_shaped : (p : Program) → shape.program p ≡ shape.loose_program (view.program p)
program_shaped p = ap (λ (z : List s.Class). let q : s.Program = record (view.program p) { classes = z } in q) (classes_shaped p.declarations.items)

pub program_like : (p q : Program) → view.program p ≡ view.program q → shape.program p ≡ shape.program q
program_like p q same = program_shaped p ∙ ap shape.loose_program same ∙ sym (program_shaped q)

module _ (p q : Program) (same : view.program p ≡ view.program q) (ns : List ℕ) where
  row_members_like : (i j : Declaration) → view.class i ≡ view.class j → (ms : List MemberInfo) (is : List ClassInfo) (c n : ℕ)
      → row_members ms is ns c i (slice_get i.mixins.items n) ≡ row_members ms is ns c j (slice_get j.mixins.items n)
  row_members_like i j like ms is c n =
      option_like (row_members ms is ns c i) (row_members ms is ns c j)
      (declared_read ns c i.members.items
      ∙ ap (λ (x : s.Class). map (λ m. Some (declared_seen ns c m)) x.members) like
      ∙ sym (declared_read ns c j.members.items))
      (λ t u e. ap (λ z. mixin_members ms is c (renumbered ns z)) (type_like t u e)) (slice_get i.mixins.items n) (slice_get j.mixins.items n)
      (mixin_like p q (program_like p q same) i j (class_like i j like) n)

module _ (p q : Program) (same : shape.program p ≡ shape.program q) (ns : List ℕ) (rs : List Row) (n : ℕ) (is : List ClassInfo) where
  pub table_like : IsTable q ns rs n is → IsTable p ns rs n is
  table_like t = record {
    size = t.size;
    rows = λ c i info at f.
        let j = there p q same (row_at rs c).class i at in
        row_like p q same i j.0 j.2 ns (take c is) (row_at rs c).class (row_at rs c).step c info (t.rows c j.0 info j.1 f);
  }

module _ (p q : Program) (same : view.program p ≡ view.program q) (ns : List ℕ) (rs : List Row) (n : ℕ) (is : List ClassInfo) where
  pub members_like : (ms : List MemberInfo) → AreMembers q ns rs n is ms → AreMembers p ns rs n is ms
  members_like ms a = record {
    listed = a.listed;
    owned = a.owned;
    rows = λ c i info at f.
        let j = other view.class p.declarations.items q.declarations.items (ap (λ (z : s.Program). z.classes) same) (row_at rs c).class i at in
        a.rows c j.0 info j.1 f ∙ sym (row_members_like p q same ns i j.0 j.2 ms (take c is) c (row_at rs c).step);
    numbered = a.numbered;
    total = a.total;
  }
