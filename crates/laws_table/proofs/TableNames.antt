-- What is so of each name in the declarations of a program is so of each name in the table of its classes.
use Rattle.std.proofs.Common.{◌≡◌, ℕ, zero, suc, ◌<◌, ◌≤◌, ◌+◌, ◌-◌, ◌==◌, inl, inr, List, [], ◌∷◌, ◌++◌, length, map, option_map, take, cond, Bool, true, false, Option, Some, None, slice_get, slice_index, arith, refl, sym, ap, ◌∙◌, subst as transport}
use Rattle.std.specs.Prelude.{⊤}
use Rattle.std.specs.List.{flat_map, AllByRecursion}
use Rattle.std.proofs.lemmas.Bool.{cases_order}
use Rattle.std.proofs.lemmas.List.{take_all}
use Rattle.std.proofs.lemmas.List.Concat.{flat_map-append}
use Rattle.std.proofs.lemmas.Option.{same_Some, slice_get_within}
use Rattle.class_order.specs.Rows.{row_at}
use Rattle.core_names.specs.Names as n
use Rattle.core_names.specs.Names.{ty_names, tys_names, named_tys_names, ty_option_names}
use Rattle.core_program.specs.ProgramView as v
use Rattle.dart_ir.specs.Ty.{Ty, Tys, NamedTys, dynamic, bottom, void, class, parameter, function, nil, cons, unnamed, named, ty, function_ty}
use Rattle.dart_ir.specs.Classes.{with_superclass}
use Rattle.dart_base.specs.declared.name.Name.{Name}
use Rattle.dart_ir.specs.declared.class.ClassInfo.{ClassInfo}
use Rattle.dart_ir.specs.declared.class.Classes.{Classes}
use Rattle.dart_ir.specs.declared.class.MemberInfo.{MemberInfo}
use Rattle.dart_ir.specs.declared.number.MemberId.{MemberId}
use Rattle.dart_ir.specs.declared.types.TypeRef.{TypeRef}
use Rattle.dart_type.specs.Instance.{argument, instance, instances, named_instances}
use Rattle.class_fault.specs.declared.program.HeaderType.{HeaderType}
use Rattle.class_fault.specs.declared.program.Member.{Member}
use Rattle.class_fault.specs.declared.program.Declaration.{Declaration}
use Rattle.class_fault.specs.declared.program.Program.{Program}
use Rattle.class_fault.specs.Program.{declaration_at}
use Rattle.class_table.specs.Renumbered.{renumbered, renumbered_all, renumbered_named, bound_ty, renumbered_bound}
use Rattle.class_table.specs.Rows.{parameters_from, own_superclass, row_superclass, row_mixin, row_interfaces, renumbered_types, is_own, IsRow}
use Rattle.class_table.specs.Members.{Described, described, described_at, descriptions, declared_in, mixed_in, mixin_members, row_members, members_in, member_count}
use Rattle.class_table.specs.Built.{IsBuilt}
use Rattle.class_table.proofs.Lists.{some_in, slice_get_take}
use Rattle.class_table.proofs.Membered.{get_map}
use Rattle.class_within.specs.Names.{superclass_names, header_type_names, member_names, class_names, program_names}
use Rattle.class_within.specs.View as view
use Rattle.laws_table.proofs.Shapes.{count_more}

-- ---- types: other numbers for classes leave their names

mutual
  ty_renumbered : (ns : List ℕ) (t : Ty) → ty_names (renumbered ns t) ≡ ty_names t
  ty_renumbered ns dynamic = refl
  ty_renumbered ns bottom = refl
  ty_renumbered ns void = refl
  ty_renumbered ns (class c ts) = tys_renumbered ns ts
  ty_renumbered ns (parameter i) = refl
  ty_renumbered ns (function result required optional names) =
      λ i. ty_renumbered ns result i ++ tys_renumbered ns required i ++ tys_renumbered ns optional i ++ named_renumbered ns names i

  tys_renumbered : (ns : List ℕ) (ts : Tys) → tys_names (renumbered_all ns ts) ≡ tys_names ts
  tys_renumbered ns nil = refl
  tys_renumbered ns (cons t ts) = λ i. ty_renumbered ns t i ++ tys_renumbered ns ts i

  named_renumbered : (ns : List ℕ) (ts : NamedTys) → named_tys_names (renumbered_named ns ts) ≡ named_tys_names ts
  named_renumbered ns unnamed = refl
  named_renumbered ns (named x t ts) = λ i. x ∷ (ty_renumbered ns t i ++ named_renumbered ns ts i)

parameters_nameless : (i count : ℕ) → tys_names (parameters_from i count) ≡ []
parameters_nameless i zero = refl
parameters_nameless i (suc count) = parameters_nameless (suc i) count

-- what is seen of bounds
bounds_seen : (os : List (Option TypeRef)) → flat_map ty_option_names (map v.ty_option os) ≡ flat_map ty_option_names (map bound_ty os)
bounds_seen [] = refl
bounds_seen (None ∷ os) = bounds_seen os
bounds_seen (Some t ∷ os) = ap (λ (z : List ℕ). ty_names (ty t) ++ z) (bounds_seen os)

bounds_renumbered : (ns : List ℕ) (os : List (Option TypeRef)) → flat_map ty_option_names (map (renumbered_bound ns) os) ≡ flat_map ty_option_names (map v.ty_option os)
bounds_renumbered ns [] = refl
bounds_renumbered ns (None ∷ os) = bounds_renumbered ns os
bounds_renumbered ns (Some t ∷ os) = λ i. ty_renumbered ns (ty t) i ++ bounds_renumbered ns os i

types_renumbered : (ns : List ℕ) (ts : List HeaderType) → flat_map ty_names (renumbered_types ns ts) ≡ flat_map header_type_names (map view.header_type ts)
types_renumbered ns [] = refl
types_renumbered ns (t ∷ ts) = λ i. ty_renumbered ns (ty t.of) i ++ types_renumbered ns ts i

module _ (P : ℕ → Type 0) where
  abbrev Held : List ℕ → Type 0
  Held = AllByRecursion P

  halves : (xs ys : List ℕ) → Held (xs ++ ys) → Held xs × Held ys
  halves [] ys h = (tt, h)
  halves (x ∷ xs) ys h = let r = halves xs ys h.1 in ((h.0, r.0), r.1)

  joined : (xs ys : List ℕ) → Held xs → Held ys → Held (xs ++ ys)
  joined [] ys h k = k
  joined (x ∷ xs) ys h k = (h.0, joined xs ys h.1 k)

  -- of what is named by each item of a list, that of one
  each_held : {A B : Type 0} (names : B → List ℕ) (show : A → B) (xs : List A) → Held (flat_map names (map show xs)) → (j : ℕ) (x : A)
      → slice_get xs j ≡ Some x → Held (names (show x))
  each_held names show [] h j x e = absurd cc
  each_held names show (y ∷ xs) h zero x e = transport (λ z. Held (names (show z))) (same_Some y x e) (halves (names (show y)) (flat_map names (map show xs)) h).0
  each_held names show (y ∷ xs) h (suc j) x e = each_held names show xs (halves (names (show y)) (flat_map names (map show xs)) h).1 j x e

  -- ---- type arguments put in

  argument_held : (ts : Tys) (i : ℕ) → Held (tys_names ts) → Held (ty_names (argument ts i))
  argument_held nil i h = tt
  argument_held (cons t ts) zero h = (halves (ty_names t) (tys_names ts) h).0
  argument_held (cons t ts) (suc i) h = argument_held ts i (halves (ty_names t) (tys_names ts) h).1

  module _ (ts : Tys) (given : Held (tys_names ts)) where
    mutual
      instance_held : (t : Ty) → Held (ty_names t) → Held (ty_names (instance ts t))
      instance_held dynamic h = tt
      instance_held bottom h = tt
      instance_held void h = tt
      instance_held (class c us) h = instances_held us h
      instance_held (parameter i) h = argument_held ts i given
      instance_held (function result required optional names) h =
          let r = halves (ty_names result ++ tys_names required ++ tys_names optional) (named_tys_names names) h in
          let s = halves (ty_names result ++ tys_names required) (tys_names optional) r.0 in
          let u = halves (ty_names result) (tys_names required) s.0 in
          joined (ty_names (instance ts result) ++ tys_names (instances ts required) ++ tys_names (instances ts optional)) (named_tys_names (named_instances ts names))
          (joined (ty_names (instance ts result) ++ tys_names (instances ts required)) (tys_names (instances ts optional))
          (joined (ty_names (instance ts result)) (tys_names (instances ts required)) (instance_held result u.0) (instances_held required u.1))
          (instances_held optional s.1)) (named_held names r.1)

      instances_held : (us : Tys) → Held (tys_names us) → Held (tys_names (instances ts us))
      instances_held nil h = tt
      instances_held (cons t us) h =
          let r = halves (ty_names t) (tys_names us) h in joined (ty_names (instance ts t)) (tys_names (instances ts us)) (instance_held t r.0) (instances_held us r.1)

      named_held : (us : NamedTys) → Held (named_tys_names us) → Held (named_tys_names (named_instances ts us))
      named_held unnamed h = tt
      named_held (named x t us) h =
          let r = halves (ty_names t) (named_tys_names us) h.1 in
          (h.0, joined (ty_names (instance ts t)) (named_tys_names (named_instances ts us)) (instance_held t r.0) (named_held us r.1))

  -- ---- a row

  own_held : (b : Bool) (ts : List Ty) → Held (flat_map ty_names ts) → Held (flat_map ty_names (cond b ts []))
  own_held true ts h = h
  own_held false ts h = tt

  other_held : (b : Bool) (ts : List Ty) → Held (flat_map ty_names ts) → Held (flat_map ty_names (cond b [] ts))
  other_held true ts h = tt
  other_held false ts h = h

  type_held : (ns : List ℕ) (t : HeaderType) → Held (header_type_names (view.header_type t)) → Held (ty_names (renumbered ns (ty t.of)))
  type_held ns t h = transport Held (sym (ty_renumbered ns (ty t.of))) h

  alone_held : (t : Ty) → Held (ty_names t) → Held (flat_map ty_names (t ∷ []))
  alone_held t h = joined (ty_names t) [] h tt

  own_superclass_held : (p : Program) (ns : List ℕ) (d : ℕ) (o : Option HeaderType) → Held (superclass_names (view.superclass o))
      → Held (flat_map ty_names (own_superclass p ns d o))
  own_superclass_held p ns d None h = other_held (d == p.object) (class (slice_index ns p.object) nil ∷ []) tt
  own_superclass_held p ns d (Some t) h = alone_held (renumbered ns (ty t.of)) (type_held ns t h)

  row_superclass_held : (p : Program) (ns : List ℕ) (d : ℕ) (i : Declaration) (s c : ℕ) → Held (superclass_names (view.superclass i.superclass))
      → Held (flat_map ty_names (row_superclass p ns d i s c))
  row_superclass_held p ns d i zero c h = own_superclass_held p ns d i.superclass h
  row_superclass_held p ns d i (suc s) c h =
      alone_held (class (c - 1) (parameters_from 0 (length i.bounds.items))) (transport Held (sym (parameters_nameless 0 (length i.bounds.items))) tt)

  superclass_held : (o : Option TypeRef) → Held (flat_map ty_names (map ty (with_superclass o []))) → Held (ty_option_names (v.ty_option o))
  superclass_held None h = tt
  superclass_held (Some t) h = (halves (ty_names (ty t)) [] h).0

  row_mixin_held : (ns : List ℕ) (o : Option HeaderType) → ((t : HeaderType) → o ≡ Some t → Held (header_type_names (view.header_type t)))
      → Held (flat_map ty_names (row_mixin ns o))
  row_mixin_held ns None h = tt
  row_mixin_held ns (Some t) h = alone_held (renumbered ns (ty t.of)) (type_held ns t (h t refl))

  -- what is so of the names of a declaration, by its parts
  record Parts (i : Declaration) : Type 0 where
    name : P i.name.0
    bounds : Held (flat_map ty_option_names (map v.ty_option i.bounds.items))
    superclass : Held (superclass_names (view.superclass i.superclass))
    mixins : Held (flat_map header_type_names (map view.header_type i.mixins.items))
    interfaces : Held (flat_map header_type_names (map view.header_type i.interfaces.items))
    members : Held (flat_map member_names (map view.member i.members.items))

  parts_of : (i : Declaration) → Held (class_names (view.class i)) → Parts i
  parts_of i h =
      let c = view.class i in
      let bounds = flat_map ty_option_names c.bounds in
      let above = superclass_names c.superclass in
      let mixins = flat_map header_type_names c.mixins in
      let interfaces = flat_map header_type_names c.interfaces in
      let members = flat_map member_names c.members in
      let four = halves (bounds ++ above ++ mixins ++ interfaces) members h.1 in
      let three = halves (bounds ++ above ++ mixins) interfaces four.0 in
      let two = halves (bounds ++ above) mixins three.0 in
      let one = halves bounds above two.0 in
      record { name = h.0; bounds = one.0; superclass = one.1; mixins = two.1; interfaces = three.1; members = four.1 }

  module _ (p : Program) (ns : List ℕ) (d : ℕ) (i : Declaration) (parts : Parts i) where
    mixin_held : (s : ℕ) (t : HeaderType) → slice_get i.mixins.items s ≡ Some t → Held (header_type_names (view.header_type t))
    mixin_held s t e = each_held header_type_names view.header_type i.mixins.items parts.mixins s t e

    row_interfaces_held : (s : ℕ) → Held (flat_map ty_names (row_interfaces ns i s))
    row_interfaces_held s =
        let own : List Ty = cond (is_own i s) (renumbered_types ns i.interfaces.items) [] in
        transport Held (sym (flat_map-append ty_names (row_mixin ns (slice_get i.mixins.items s)) own))
        (joined (flat_map ty_names (row_mixin ns (slice_get i.mixins.items s))) (flat_map ty_names own)
        (row_mixin_held ns (slice_get i.mixins.items s) (mixin_held s))
        (own_held (is_own i s) (renumbered_types ns i.interfaces.items) (transport Held (sym (types_renumbered ns i.interfaces.items)) parts.interfaces)))

    row_held : (before : List ClassInfo) (s c : ℕ) (info : ClassInfo) → IsRow p ns before d i s c info → Held (n.class_names (v.class info))
    row_held before s c info row =
        let bounds = flat_map ty_option_names (map v.ty_option info.bounds.items) in
        let above = ty_option_names (v.ty_option info.superclass) in (
          transport (λ (z : Name). P z.0) (sym row.name) parts.name,
          joined (bounds ++ above) (flat_map ty_names (map ty info.interfaces.items))
              (joined bounds above
              (transport Held (sym (bounds_seen info.bounds.items ∙ ap (flat_map ty_option_names) row.bounds ∙ bounds_renumbered ns i.bounds.items)) parts.bounds)
              (superclass_held info.superclass (transport (λ (z : List Ty). Held (flat_map ty_names z)) (sym row.superclass) (row_superclass_held p ns d i s c parts.superclass))))
              (transport (λ (z : List Ty). Held (flat_map ty_names z)) (sym row.interfaces) (row_interfaces_held s)),
        )

  -- ---- members

  abbrev Named : Described → Type 0
  Named x = P x.name × Held (ty_names x.signature)

  abbrev NamedOption : Option Described → Type 0
  NamedOption None = ⊤
  NamedOption (Some x) = Named x

  abbrev AllNamed : List (Option Described) → Type 0
  AllNamed = AllByRecursion NamedOption

  one_named : (xs : List (Option Described)) (j : ℕ) (x : Option Described) → AllNamed xs → slice_get xs j ≡ Some x → NamedOption x
  one_named [] j x h e = absurd cc
  one_named (y ∷ xs) zero x h e = transport NamedOption (same_Some y x e) h.0
  one_named (y ∷ xs) (suc j) x h e = one_named xs j x h.1 e

  declared_named : (ns : List ℕ) (c : ℕ) (ms : List Member) → Held (flat_map member_names (map view.member ms)) → AllNamed (map (λ m. Some (declared_in ns c m)) ms)
  declared_named ns c [] h = tt
  declared_named ns c (m ∷ ms) h =
      let r = halves (member_names (view.member m)) (flat_map member_names (map view.member ms)) h in
      ((r.0.0, transport Held (sym (ty_renumbered ns (function_ty m.signature))) r.0.1), declared_named ns c ms r.1)

  module _ (c : ℕ) (ts : Tys) (given : Held (tys_names ts)) where
    mixed_one : (o : Option Described) → NamedOption o → NamedOption (option_map (mixed_in c ts) o)
    mixed_one None h = tt
    mixed_one (Some x) h = (h.0, instance_held ts given x.signature h.1)

    mixed_named : (xs : List (Option Described)) → AllNamed xs → AllNamed (map (option_map (mixed_in c ts)) xs)
    mixed_named [] h = tt
    mixed_named (x ∷ xs) h = (mixed_one x h.0, mixed_named xs h.1)

  module _ (ms : List MemberInfo) (before : List ClassInfo)
      (rows : (e : ℕ) (y : ClassInfo) → slice_get before e ≡ Some y → AllNamed (descriptions ms y.members.items)) where
    members_named : (e : ℕ) (o : Option ClassInfo) → slice_get before e ≡ o → AllNamed (descriptions ms (members_in o))
    members_named e None q = tt
    members_named e (Some y) q = rows e y q

    mixin_named : (c : ℕ) (t : Ty) → Held (ty_names t) → AllNamed (mixin_members ms before c t)
    mixin_named c (class e us) h = mixed_named c us h (descriptions ms (members_in (slice_get before e))) (members_named e (slice_get before e) refl)
    mixin_named c dynamic h = tt
    mixin_named c bottom h = tt
    mixin_named c void h = tt
    mixin_named c (parameter i) h = tt
    mixin_named c (function r q o m) h = tt

    row_named : (ns : List ℕ) (c : ℕ) (i : Declaration) (o : Option HeaderType) → Held (flat_map member_names (map view.member i.members.items))
        → ((t : HeaderType) → o ≡ Some t → Held (header_type_names (view.header_type t))) → AllNamed (row_members ms before ns c i o)
    row_named ns c i None h k = declared_named ns c i.members.items h
    row_named ns c i (Some t) h k = mixin_named c (renumbered ns (ty t.of)) (type_held ns t (k t refl))

  -- what is so of what is shown of each item of a list, where it is so at each place
  from_shown : {A B : Type 0} (names : B → List ℕ) (show : A → B) (xs : List A) → ((j : ℕ) (x : A) → slice_get xs j ≡ Some x → Held (names (show x)))
      → Held (flat_map names (map show xs))
  from_shown names show [] h = tt
  from_shown names show (x ∷ xs) h = joined (names (show x)) (flat_map names (map show xs)) (h 0 x refl) (from_shown names show xs (λ j y e. h (suc j) y e))

  -- ---- the table of a program

  module _ (p : Program) (k : Classes) (b : IsBuilt p k) (names : Held (program_names (view.program p))) where
    abbrev is : List ClassInfo
    is = k.classes.items

    abbrev ms : List MemberInfo
    ms = k.members.items

    declared : (c : ℕ) → c < length b.rows → (row_at b.rows c).class < length p.declarations.items
    declared c h = let m = b.are_rows.listed c h in let size = b.graph.size in omega (arith, m, size)

    within : (c : ℕ) (x : ClassInfo) → slice_get is c ≡ Some x → c < length b.rows
    within c x e = let l = slice_get_within is c x e in let size = b.table.size in omega (arith, l, size)

    parts_at : (d : ℕ) (i : Declaration) → declaration_at p d ≡ Some i → Parts i
    parts_at d i e = parts_of i (each_held class_names view.class p.declarations.items names.1 d i e)

    class_held : (c : ℕ) (x : ClassInfo) → slice_get is c ≡ Some x → Held (n.class_names (v.class x))
    class_held c x e =
        let i = some_in p.declarations.items (row_at b.rows c).class (declared c (within c x e)) in
        row_held p b.numbers (row_at b.rows c).class i.0 (parts_at (row_at b.rows c).class i.0 i.1) (take c is) (row_at b.rows c).step c x
        (b.table.rows c i.0 x i.1 e)

    row_one : (c : ℕ) (x : ClassInfo) → slice_get is c ≡ Some x
        → ((e : ℕ) (y : ClassInfo) → e < c → slice_get is e ≡ Some y → AllNamed (descriptions ms y.members.items)) → AllNamed (descriptions ms x.members.items)
    row_one c x q before =
        let i = some_in p.declarations.items (row_at b.rows c).class (declared c (within c x q)) in
        let parts = parts_at (row_at b.rows c).class i.0 i.1 in
        transport AllNamed (sym (b.members.rows c i.0 x i.1 q))
        (row_named ms (take c is) (λ e y r. let z = slice_get_take is c e y r in before e y z.0 z.1) b.numbers c i.0
        (slice_get i.0.mixins.items (row_at b.rows c).step) parts.members
        (mixin_held p b.numbers (row_at b.rows c).class i.0 parts (row_at b.rows c).step))

    rows_before : (c : ℕ) (e : ℕ) (y : ClassInfo) → e < c → slice_get is e ≡ Some y → AllNamed (descriptions ms y.members.items)
    rows_before zero e y l q = absurd (omega (arith, l))
    rows_before (suc c) e y l q = row_one e y q (λ f z m r. rows_before c f z (omega (arith, l, m)) r)

    row_all : (c : ℕ) (x : ClassInfo) → slice_get is c ≡ Some x → AllNamed (descriptions ms x.members.items)
    row_all c x q = rows_before (c + 1) c x (omega arith) q

    members_before : (c : ℕ) → c ≤ length is → (j : ℕ) → j < member_count (take c is) → NamedOption (described_at ms j)
    members_before zero l j m = absurd (omega (arith, m))
    members_before (suc c) l j m = elim (cases_order j (member_count (take c is))) [
      | inl h ↦ later (omega (arith, h))
      | inr o ↦ elim o [ inl h ↦ members_before c (omega (arith, l)) j h | inr h ↦ later (omega (arith, h)) ]
    ]
      where
        later : member_count (take c is) ≤ j → NamedOption (described_at ms j)
        later h =
            let x = some_in is c (omega (arith, l)) in
            let more = count_more is c x.0 x.1 in
            let e : c + 1 ≡ suc c = omega arith in
            let m : j < member_count (take (c + 1) is) = transport (λ z. j < member_count (take z is)) (sym e) m in
            let id = some_in x.0.members.items (j - member_count (take c is)) (omega (arith, h, m, more)) in
            let number = b.members.numbered c x.0 x.1 (j - member_count (take c is)) id.0 id.1 in
            transport (λ z. NamedOption (described_at ms z)) (number ∙ omega (arith, h))
            (one_named (descriptions ms x.0.members.items) (j - member_count (take c is)) (described_at ms id.0.0) (row_all c x.0 x.1)
            (get_map (λ (z : MemberId). described_at ms z.0) x.0.members.items (j - member_count (take c is)) id.0 id.1))

    member_named : (j : ℕ) (x : MemberInfo) → slice_get ms j ≡ Some x → Held (n.member_names (v.member x))
    member_named j x q =
        let l = slice_get_within ms j x q in
        let total = b.members.total in
        let whole : member_count (take (length is) is) ≡ member_count is = ap member_count (take_all (length is) is (omega arith)) in
        transport NamedOption (ap (option_map described) q) (members_before (length is) (omega arith) j (omega (arith, l, total, whole)))

    pub classes_held : Held (flat_map n.class_names (map v.class is))
    classes_held = from_shown n.class_names v.class is class_held

    pub members_held : Held (flat_map n.member_names (map v.member ms))
    members_held = from_shown n.member_names v.member ms member_named
