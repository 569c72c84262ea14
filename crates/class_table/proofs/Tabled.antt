-- The table of a program's rows is valid.
use Rattle.std.proofs.Common.{◌≡◌, ℕ, zero, suc, ◌<◌, ◌≤◌, ◌+◌, ◌-◌, ◌⊎◌, ◌&&◌, ◌||◌, List, [], ◌∷◌, ◌++◌, inl, inr, Bool, true, false, cond, length, map, take, All, option_map, Option, Some, None, IsSome, slice_get, get_or, arith, refl, sym, ap, ◌∙◌, subst as transport}
use Rattle.std.proofs.lemmas.Bool.{cases_eq}
use Rattle.std.proofs.lemmas.List.{length_push, length-map}
use Rattle.std.proofs.lemmas.Option.{same_Some, slice_get_within}
use Rattle.class_order.proofs.Lists.{push_cases}
use Rattle.class_order.specs.declared.header.Header.{Header}
use Rattle.class_order.specs.declared.rows.Row.{Row}
use Rattle.class_order.specs.Rows.{AreRows, row_at, applications}
use Rattle.dart_ir.specs.declared.types.TypeRef.{TypeRef}
use Rattle.dart_ir.specs.declared.class.ClassInfo.{ClassInfo}
use Rattle.dart_ir.specs.declared.class.MemberInfo.{MemberInfo}
use Rattle.dart_ir.specs.declared.class.Classes.{Classes}
use Rattle.dart_ir.specs.Ty.{Ty, dynamic, bottom, void, class, parameter, function, nil, ty, function_ty}
use Rattle.dart_ir.specs.Classes.{class_at, member_at, parameter_count, IsValid, IsValidClass, IsFunctionClass, IsFormed, IsBoundFormed, IsMemberOf, IsEarlierClass, HasCallAbove, direct_supertypes, with_superclass}
use Rattle.class_fault.specs.declared.program.HeaderType.{HeaderType}
use Rattle.class_fault.specs.declared.program.Declaration.{Declaration}
use Rattle.class_fault.specs.declared.program.Program.{Program}
use Rattle.class_fault.specs.Program.{declaration_at, declares_call}
use Rattle.class_fault.specs.Graph.{IsGraph, above_of, function_if, applied}
use Rattle.class_fault.specs.Fault.{IsFirstFrom}
use Rattle.class_fault.proofs.Graphs.{Among, among_function}
use Rattle.class_table.specs.Program.{IsProgram, parameters_in, IsFormedIn, IsBoundFormedIn}
use Rattle.class_table.specs.Renumbered.{renumbered, bound_ty, renumbered_bound}
use Rattle.class_table.specs.Rows.{own_superclass, row_superclass, row_mixin, row_interfaces, renumbered_types, is_own, callable_in, any_callable, IsRow, IsTable}
use Rattle.dart_ir.specs.declared.number.MemberId.{MemberId}
use Rattle.dart_type.specs.Instance.{instance}
use Rattle.class_fault.specs.declared.program.Member.{Member}
use Rattle.class_table.specs.Members.{Described, described, described_at, descriptions, members_in, declared_in, mixed_in, mixin_members, row_members, AreMembers}
use Rattle.class_table.proofs.Instanced.{instance_formed}
use Rattle.class_table.proofs.Membered.{map_get, get_map, all_from_get}
use Rattle.class_table.proofs.Lists.{all_get, slice_get_in_take, Each, each_first, each_append, all_of_each, some_in, slice_get_at, slice_get_left, take_push, take_whole, two_parts, no_types}
use Rattle.class_table.proofs.Numbered.{listed, before_rows, object_zero, root_applied, differ_eqb}
use Rattle.class_table.proofs.Supers.{Counts, IsSuper, formed, mixin_is_super, interfaces_are, superclass_are}
use Rattle.class_table.proofs.Called.{or_cases, or_true, and_both, eqb_same, any_true, called_after, each_called}

pub row_count : (p : Program) (ns : List ℕ) (before : List ClassInfo) (d : ℕ) (i : Declaration) (s c : ℕ) (info : ClassInfo) → IsRow p ns before d i s c info → length info.bounds.items ≡ length i.bounds.items
row_count p ns before d i s c info row = sym (length-map info.bounds.items bound_ty) ∙ ap length row.bounds ∙ length-map i.bounds.items (renumbered_bound ns)

earlier_positive : (c : ℕ) (t : Ty) → IsEarlierClass c t → 0 < c
earlier_positive c (class e ts) h = let l = h.0 in omega (arith, l)
earlier_positive c dynamic h = absurd h
earlier_positive c bottom h = absurd h
earlier_positive c void h = absurd h
earlier_positive c (parameter i) h = absurd h
earlier_positive c (function r q o n) h = absurd h

some_superclass : (o : Option TypeRef) (t : Ty) (ts : List Ty) → map ty (with_superclass o []) ≡ t ∷ ts → IsSome o
some_superclass None t ts q = absurd (cc)
some_superclass (Some u) t ts q = refl

module _ (p : Program) (hs : List Header) (program : IsProgram p) (graph : IsGraph p hs) (no_fault : IsFirstFrom p hs 0 None) (ns : List ℕ) (rs : List Row) (rows : AreRows hs rs ns) (k : Classes) (table : IsTable p ns rs (length rs) k.classes.items) (members : AreMembers p ns rs (length rs) k.classes.items k.members.items) (function_is : k.function.0 ≡ get_or ns p.function 0) where
  row_params : (c d : ℕ) (i : Declaration) → c < length rs → (row_at rs c).class ≡ d → declaration_at p d ≡ Some i → parameter_count (class_at k c) ≡ length i.bounds.items
  row_params c d i l q e =
      let x = some_in k.classes.items c (let n = table.size in omega (arith, n, l)) in
      ap parameter_count x.1 ∙ row_count p ns (take c k.classes.items) (row_at rs c).class i (row_at rs c).step c x.0 (table.rows c i x.0 (ap (declaration_at p) q ∙ e) x.1)

  counts : Counts p ns k
  counts d l =
      let x = some_in p.declarations.items d l in
      let m : d < length hs = listed p hs program graph ns rs rows d x.0 x.1 in
      let h : applications hs d ≤ applications hs d = omega arith in
      let w = rows.within d (applications hs d) (get_or ns d 0) m h refl in
      let n = table.size in
      (omega (arith, w, n), row_params (get_or ns d 0) d x.0 w (rows.class d (applications hs d) (get_or ns d 0) m h refl) x.1 ∙ sym (ap parameters_in x.1))

  -- a member of class c, whose types are formed over its parameters
  abbrev IsOwn : ℕ → Option Described → Type 0
  IsOwn c x = (y : Described) × (x ≡ Some y) × (y.owner ≡ c) × IsFormed k (parameter_count (class_at k c)) y.signature

  abbrev AllOwn : ℕ → ClassInfo → Type 0
  AllOwn c info = (j : ℕ) (x : Option Described) → slice_get (descriptions k.members.items info.members.items) j ≡ Some x → IsOwn c x

  -- what is known of a row
  module _ (c : ℕ) (info : ClassInfo) (at : class_at k c ≡ Some info) where
    within : c < length rs
    within = let n = table.size in let m = slice_get_within k.classes.items c info at in omega (arith, n, m)

    the_class : (i : Declaration) × (declaration_at p (row_at rs c).class ≡ Some i)
    the_class = some_in p.declarations.items (row_at rs c).class (let l = rows.listed c within in let m = graph.size in omega (arith, l, m))

    is_row : IsRow p ns (take c k.classes.items) (row_at rs c).class the_class.0 (row_at rs c).step c info
    is_row = table.rows c the_class.0 info the_class.1 at

    place : c + applied the_class.0 ≡ get_or ns (row_at rs c).class 0 + (row_at rs c).step
    place = let q = rows.place c within in let a = graph.applications (row_at rs c).class the_class.0 the_class.1 in omega (arith, q, a)

    before : 0 < (row_at rs c).step → (0 < c) × (c - 1 < length k.classes.items) × (parameter_count (class_at k (c - 1)) ≡ length the_class.0.bounds.items)
    before y =
        let l = rows.listed c within in
        let low = rows.low (row_at rs c).class l in
        let top = rows.steps c within in
        let q = rows.place c within in
        let n = table.size in
        let m : (row_at rs c).step - 1 ≤ applications hs (row_at rs c).class = omega (arith, top) in
        let e : (c - 1) + applications hs (row_at rs c).class ≡ get_or ns (row_at rs c).class 0 + ((row_at rs c).step - 1) = omega (arith, q, low, y) in
        let w = rows.within (row_at rs c).class ((row_at rs c).step - 1) (c - 1) l m e in
        (omega (arith, q, low, y), omega (arith, n, w), row_params (c - 1) (row_at rs c).class the_class.0 w (rows.class (row_at rs c).class ((row_at rs c).step - 1) (c - 1) l m e) the_class.1)

    supers_are : Each (IsSuper p ns k counts c (length the_class.0.bounds.items)) (row_superclass p ns (row_at rs c).class the_class.0 (row_at rs c).step c ++ row_interfaces ns the_class.0 (row_at rs c).step)
    supers_are =
        each_append _ (row_superclass p ns (row_at rs c).class the_class.0 (row_at rs c).step c) (row_interfaces ns the_class.0 (row_at rs c).step)
        (superclass_are p ns k counts hs program graph rs rows no_fault (row_at rs c).class the_class.0 the_class.1 c (row_at rs c).step place (row_at rs c).step refl before)
        (interfaces_are p ns k counts hs program graph rs rows no_fault (row_at rs c).class the_class.0 the_class.1 c (row_at rs c).step place)

    parts : map ty (direct_supertypes info) ≡ row_superclass p ns (row_at rs c).class the_class.0 (row_at rs c).step c ++ row_interfaces ns the_class.0 (row_at rs c).step
    parts = two_parts info.superclass info.interfaces.items _ _ is_row.superclass is_row.interfaces

    above : Each (IsSuper p ns k counts c (length the_class.0.bounds.items)) (map ty (direct_supertypes info))
    above = transport (Each (IsSuper p ns k counts c (length the_class.0.bounds.items))) (sym parts) supers_are

    same_count : length info.bounds.items ≡ length the_class.0.bounds.items
    same_count = row_count p ns (take c k.classes.items) (row_at rs c).class the_class.0 (row_at rs c).step c info is_row

    -- the first class has nothing above it
    none_above : (ts : List Ty) → Each (IsSuper p ns k counts c (length the_class.0.bounds.items)) ts → c ≡ 0 → ts ≡ []
    none_above [] e q = refl
    none_above (t ∷ ts) e q = let l = earlier_positive c t e.0.0 in absurd (omega (arith, l, q))

    bound_formed : (m : ℕ) (o b : Option TypeRef) → bound_ty o ≡ renumbered_bound ns b → IsBoundFormedIn p m b → IsBoundFormed k m o
    bound_formed m None b q f = tt
    bound_formed m (Some t) None q f = absurd (cc)
    bound_formed m (Some t) (Some u) q f = let e : ty t ≡ renumbered ns (ty u) = cc in transport (IsFormed k m) (sym e) (formed p ns k counts m (ty u) f)

    bounds_formed : (m : ℕ) (os bs : List (Option TypeRef)) → map bound_ty os ≡ map (renumbered_bound ns) bs → All (IsBoundFormedIn p m) bs → All (IsBoundFormed k m) os
    bounds_formed m [] bs q f j x l = absurd (omega (arith, l))
    bounds_formed m (o ∷ os) [] q f j x l = absurd (cc)
    bounds_formed m (o ∷ os) (b ∷ bs) q f zero x l = bound_formed m o b (let e : bound_ty o ≡ renumbered_bound ns b = cc in e) (f zero b (omega arith))
    bounds_formed m (o ∷ os) (b ∷ bs) q f (suc j) x l = bounds_formed m os bs (let e : map bound_ty os ≡ map (renumbered_bound ns) bs = cc in e) (λ y z u. f (suc y) z (omega (arith, u))) j x (omega (arith, l))

    -- each class but the first has a superclass
    has_superclass : 0 < c → IsSome info.superclass
    has_superclass l = case (row_at rs c).step refl is_row.superclass
      where
        own : (o : Option HeaderType) → the_class.0.superclass ≡ o → (row_at rs c).step ≡ zero → map ty (with_superclass info.superclass []) ≡ own_superclass p ns (row_at rs c).class o → IsSome info.superclass
        own (Some t) q z r = some_superclass info.superclass _ [] r
        own None q z r = elim (cases_eq (row_at rs c).class p.object) [
          | inl e ↦ let f : get_or ns (row_at rs c).class 0 ≡ 0 = ap (λ w. get_or ns w 0) e ∙ object_zero p hs program graph ns rs rows no_fault in let g = place in absurd (omega (arith, l, z, f, g))
          | inr n ↦ some_superclass info.superclass _ [] (r ∙ ap (λ b. cond b [] (class (get_or ns p.object 0) nil ∷ [])) (differ_eqb (row_at rs c).class p.object n))
        ]

        case : (z : ℕ) → (row_at rs c).step ≡ z → map ty (with_superclass info.superclass []) ≡ row_superclass p ns (row_at rs c).class the_class.0 z c → IsSome info.superclass
        case zero z r = own the_class.0.superclass refl z r
        case (suc m) z r = some_superclass info.superclass _ [] r

    -- `Function` stands before a class with a method `call`, or another such class does
    call_rule : info.callable ≡ true → (get_or ns p.function 0 < c) ⊎ ((e : ℕ) × (callable_in (slice_get (take c k.classes.items) e) ≡ true))
    call_rule h = elim (or_cases (is_own the_class.0 (row_at rs c).step && declares_call p.call the_class.0) (any_callable (take c k.classes.items) (row_superclass p ns (row_at rs c).class the_class.0 (row_at rs c).step c)) (any_callable (take c k.classes.items) (row_interfaces ns the_class.0 (row_at rs c).step)) (sym is_row.callable ∙ h)) [
      | inl q ↦ let b = and_both (is_own the_class.0 (row_at rs c).step) (declares_call p.call the_class.0) q in let e = eqb_same (row_at rs c).step (applied the_class.0) b.0 in let a : Among p.function (above_of p (row_at rs c).class the_class.0) = among_function p (row_at rs c).class the_class.0 p.function (transport (λ z. Among p.function (function_if p z)) (sym b.1) (zero, omega arith, refl)) in let l = before_rows p hs program graph ns rs rows (row_at rs c).class the_class.0 the_class.1 p.function a in let g = place in inl (omega (arith, e, l, g))
      | inr q ↦ elim q [ inl r ↦ inr (any_true (take c k.classes.items) (row_superclass p ns (row_at rs c).class the_class.0 (row_at rs c).step c) r) | inr r ↦ inr (any_true (take c k.classes.items) (row_interfaces ns the_class.0 (row_at rs c).step) r) ]
    ]

    earlier_each : (ts : List Ty) → Each (IsSuper p ns k counts c (length the_class.0.bounds.items)) ts → Each (IsEarlierClass c) ts
    earlier_each ts e = each_first _ _ (λ t f. f.0) ts e

    call_inherited : Each (λ t. HasCallAbove k t → info.callable ≡ true) (map ty (direct_supertypes info))
    call_inherited =
        transport (Each (λ t. HasCallAbove k t → info.callable ≡ true)) (sym parts)
        (each_append _ (row_superclass p ns (row_at rs c).class the_class.0 (row_at rs c).step c) (row_interfaces ns the_class.0 (row_at rs c).step)
        (each_called k c info.callable (row_superclass p ns (row_at rs c).class the_class.0 (row_at rs c).step c) (earlier_each _ (superclass_are p ns k counts hs program graph rs rows no_fault (row_at rs c).class the_class.0 the_class.1 c (row_at rs c).step place (row_at rs c).step refl before))
        (λ q. is_row.callable ∙ or_true (is_own the_class.0 (row_at rs c).step && declares_call p.call the_class.0) _ (ap (λ z. z || any_callable (take c k.classes.items) (row_interfaces ns the_class.0 (row_at rs c).step)) q)))
        (each_called k c info.callable (row_interfaces ns the_class.0 (row_at rs c).step) (earlier_each _ (interfaces_are p ns k counts hs program graph rs rows no_fault (row_at rs c).class the_class.0 the_class.1 c (row_at rs c).step place))
        (λ q. is_row.callable ∙ or_true (is_own the_class.0 (row_at rs c).step && declares_call p.call the_class.0) _ (or_true (any_callable (take c k.classes.items) (row_superclass p ns (row_at rs c).class the_class.0 (row_at rs c).step c)) _ q))))

    row_parameters : parameter_count (class_at k c) ≡ length the_class.0.bounds.items
    row_parameters = row_params c (row_at rs c).class the_class.0 within refl the_class.1

    -- the members of a row are its own where those of the rows before it are theirs
    members_step : ((e : ℕ) (x : ClassInfo) → e < c → class_at k e ≡ Some x → AllOwn e x) → AllOwn c info
    members_step earlier j x q = case (slice_get the_class.0.mixins.items (row_at rs c).step) refl (transport (λ z. slice_get z j ≡ Some x) (members.rows c the_class.0 info the_class.1 at) q)
      where
        mixed : (u : Ty) → IsSuper p ns k counts c (length the_class.0.bounds.items) u → slice_get (mixin_members k.members.items (take c k.classes.items) c u) j ≡ Some x → IsOwn c x
        mixed (class e ts) s r =
            let m = map_get (option_map (mixed_in c ts)) (descriptions k.members.items (members_in (slice_get (take c k.classes.items) e))) j x r in
            let i = some_in k.classes.items e s.1.0 in
            let f : members_in (slice_get (take c k.classes.items) e) ≡ i.0.members.items = ap members_in (slice_get_in_take k.classes.items c e s.0.0 ∙ i.1) in
            let w = earlier e i.0 s.0.0 i.1 j m.0 (transport (λ ids. slice_get (descriptions k.members.items ids) j ≡ Some m.0) f m.1) in
            (mixed_in c ts w.0, m.2 ∙ ap (option_map (mixed_in c ts)) w.1, refl, transport (λ n. IsFormed k n (instance ts w.0.signature)) (sym row_parameters) (instance_formed k (length the_class.0.bounds.items) ts s.1.2 w.0.signature (transport (λ n. IsFormed k n w.0.signature) (sym s.1.1) w.3)))
        mixed dynamic s r = absurd s.0
        mixed bottom s r = absurd s.0
        mixed void s r = absurd s.0
        mixed (parameter i) s r = absurd s.0
        mixed (function a b d e) s r = absurd s.0

        case : (o : Option HeaderType) → slice_get the_class.0.mixins.items (row_at rs c).step ≡ o → slice_get (row_members k.members.items (take c k.classes.items) ns c the_class.0 o) j ≡ Some x → IsOwn c x
        case None e r =
            let m = map_get (λ (m : Member). Some (declared_in ns c m)) the_class.0.members.items j x r in
            (declared_in ns c m.0, m.2, refl, transport (λ n. IsFormed k n (renumbered ns (function_ty m.0.signature))) (sym row_parameters) (formed p ns k counts (length the_class.0.bounds.items) (function_ty m.0.signature) (all_get (λ (z : Member). IsFormedIn p (length the_class.0.bounds.items) (function_ty z.signature)) the_class.0.members.items (program.declarations (row_at rs c).class the_class.0 the_class.1).members j m.0 m.1)))
        case (Some t) e r =
            mixed (renumbered ns (ty t.of)) (transport (λ o. Each (IsSuper p ns k counts c (length the_class.0.bounds.items)) (row_mixin ns o)) e (mixin_is_super p ns k counts hs program graph rs rows no_fault (row_at rs c).class the_class.0 the_class.1 c (row_at rs c).step place (slice_get the_class.0.mixins.items (row_at rs c).step) refl)).0 r

    member_valid : AllOwn c info → (j : ℕ) (m : MemberId) → slice_get info.members.items j ≡ Some m → IsMemberOf k c (member_at k m.0)
    member_valid all j m q = let f = all j (described_at k.members.items m.0) (get_map (λ (z : MemberId). described_at k.members.items z.0) info.members.items j m q) in read (member_at k m.0) f.0 f.1 f.2 f.3
      where
        read : (o : Option MemberInfo) (y : Described) → option_map described o ≡ Some y → y.owner ≡ c → IsFormed k (parameter_count (class_at k c)) y.signature → IsMemberOf k c o
        read None y e o f = absurd (cc)
        read (Some x) y e o f = let s : described x ≡ y = same_Some (described x) y e in (ap (λ (z : Described). z.owner) s ∙ o, transport (λ (z : Described). IsFormed k (parameter_count (class_at k c)) z.signature) (sym s) f)

    valid_row : (info.callable ≡ true → k.function.0 < c) → AllOwn c info → IsValidClass k c info
    valid_row call own = record {
      object = λ q. no_types (direct_supertypes info) (none_above (map ty (direct_supertypes info)) above q);
      superclass = has_superclass;
      supertypes = all_of_each (IsEarlierClass c) (direct_supertypes info) (earlier_each (map ty (direct_supertypes info)) above);
      formed = all_of_each (IsFormed k (length info.bounds.items)) (direct_supertypes info) (transport (λ n. Each (IsFormed k n) (map ty (direct_supertypes info))) (sym same_count) (each_first _ _ (λ t e. e.1) (map ty (direct_supertypes info)) above));
      bounds = transport (λ n. All (IsBoundFormed k n) info.bounds.items) (sym same_count) (bounds_formed (length the_class.0.bounds.items) info.bounds.items the_class.0.bounds.items is_row.bounds (program.declarations (row_at rs c).class the_class.0 the_class.1).bounds);
      members = all_from_get (λ (m : MemberId). IsMemberOf k c (member_at k m.0)) info.members.items (member_valid own);
      call = call;
      inherited = all_of_each (λ t. HasCallAbove k t → info.callable ≡ true) (direct_supertypes info) call_inherited;
    }

  all_own : (b c : ℕ) (info : ClassInfo) → c < b → class_at k c ≡ Some info → AllOwn c info
  all_own zero c info l q = absurd (omega (arith, l))
  all_own (suc b) c info l q = members_step c info q (λ e x m r. all_own b e x (omega (arith, l, m)) r)

  called : (c : ℕ) → callable_in (slice_get k.classes.items c) ≡ true → get_or ns p.function 0 < c
  called c q = called_after k.classes.items (get_or ns p.function 0) call_rule (suc c) c (omega arith) q

  the_function : (info : ClassInfo) → class_at k k.function.0 ≡ Some info → IsFunctionClass info
  the_function info q =
      let x = some_in p.declarations.items p.function program.has_function in
      let root = program.function x.0 x.1 in
      let l = listed p hs program graph ns rs rows p.function x.0 x.1 in
      let none : applied x.0 ≡ 0 = root_applied p x.0 root in
      let a : applications hs p.function ≡ 0 = graph.applications p.function x.0 x.1 ∙ none in
      let z : 0 ≤ applications hs p.function = omega arith in
      let y : get_or ns p.function 0 + applications hs p.function ≡ get_or ns p.function 0 + 0 = omega (arith, a) in
      let cl = rows.class p.function 0 (get_or ns p.function 0) l z y in
      let st = rows.step p.function 0 (get_or ns p.function 0) l z y in
      let at : class_at k (get_or ns p.function 0) ≡ Some info = ap (class_at k) (sym function_is) ∙ q in
      let row = table.rows (get_or ns p.function 0) x.0 info (ap (declaration_at p) cl ∙ x.1) at in
      record {
        parameters = row_count p ns _ _ x.0 _ _ info row ∙ root.parameters;
        supertypes = two_parts info.superclass info.interfaces.items (class 0 nil ∷ []) [] (row.superclass ∙ ap (λ w. row_superclass p ns w x.0 (row_at rs (get_or ns p.function 0)).step (get_or ns p.function 0)) cl ∙ ap (λ w. row_superclass p ns p.function x.0 w (get_or ns p.function 0)) st ∙ ap (own_superclass p ns p.function) root.superclass ∙ ap (λ b. cond b [] (class (get_or ns p.object 0) nil ∷ [])) (differ_eqb p.function p.object (λ e. program.two (sym e))) ∙ ap (λ w. class w nil ∷ []) (object_zero p hs program graph ns rs rows no_fault)) (row.interfaces ∙ ap (λ ms. row_mixin ns (slice_get ms (row_at rs (get_or ns p.function 0)).step) ++ cond (is_own x.0 (row_at rs (get_or ns p.function 0)).step) (renumbered_types ns x.0.interfaces.items) []) root.mixins ∙ ap (λ ms. cond (is_own x.0 (row_at rs (get_or ns p.function 0)).step) (renumbered_types ns ms) []) root.interfaces ∙ none_either (is_own x.0 (row_at rs (get_or ns p.function 0)).step));
      }
    where
      none_either : (b : Bool) → cond b [] [] ≡ (let e : List Ty = [] in e)
      none_either true = refl
      none_either false = refl

  pub valid : IsValid k
  valid = record {
    object = let l = (counts p.function program.has_function).0 in omega (arith, l);
    function = the_function;
    has_function = let l = (counts p.function program.has_function).0 in omega (arith, l, function_is);
    classes = λ c info q. valid_row c info q (λ h. let l = called c (ap callable_in q ∙ h) in omega (arith, l, function_is)) (all_own (suc c) c info (omega arith) q);
    members = λ m i q. let l = members.owned m i q in let n = table.size in omega (arith, l, n);
  }

-- one more row
pub table_more : (p : Program) (ns : List ℕ) (rs : List Row) (c : ℕ) (is js : List ClassInfo) (info : ClassInfo) (i : Declaration) → IsTable p ns rs c is → js ≡ is ++ info ∷ [] → declaration_at p (row_at rs c).class ≡ Some i
    → IsRow p ns is (row_at rs c).class i (row_at rs c).step c info → IsTable p ns rs (c + 1) js
table_more p ns rs c is js info i t q e row = transport (IsTable p ns rs (c + 1)) (sym q) (record {
  size = length_push is info ∙ ap (λ z. z + 1) t.size;
  rows = each;
})
  where
    same : (b : ℕ) (j : Declaration) (x : ClassInfo) → b ≡ length is → declaration_at p (row_at rs b).class ≡ Some j → slice_get (is ++ info ∷ []) b ≡ Some x → IsRow p ns (take b (is ++ info ∷ [])) (row_at rs b).class j (row_at rs b).step b x
    same b j x m f g =
        let n : b ≡ c = m ∙ t.size in
        let a : info ≡ x = same_Some info x (sym (slice_get_at is info b m) ∙ g) in
        let w : i ≡ j = same_Some i j (sym e ∙ ap (λ z. declaration_at p (row_at rs z).class) (sym n) ∙ f) in
        transport (λ z. IsRow p ns z (row_at rs b).class j (row_at rs b).step b x) (sym (take_whole is (info ∷ []) b m))
        (transport (λ z. IsRow p ns is (row_at rs z).class j (row_at rs z).step z x) (sym n)
        (transport (λ z. IsRow p ns is (row_at rs c).class z (row_at rs c).step c x) w (transport (λ z. IsRow p ns is (row_at rs c).class i (row_at rs c).step c z) a row)))

    each : (b : ℕ) (j : Declaration) (x : ClassInfo) → declaration_at p (row_at rs b).class ≡ Some j → slice_get (is ++ info ∷ []) b ≡ Some x → IsRow p ns (take b (is ++ info ∷ [])) (row_at rs b).class j (row_at rs b).step b x
    each b j x f g =
        elim (push_cases is info b (slice_get_within (is ++ info ∷ []) b x g)) [
          | inl l ↦ transport (λ z. IsRow p ns z (row_at rs b).class j (row_at rs b).step b x) (sym (take_push is (info ∷ []) b (omega (arith, l)))) (t.rows b j x f (slice_get_left is (info ∷ []) b x l g))
          | inr m ↦ same b j x m f g
        ]
