-- The members of a mixin, as the code reads them.
use Rattle.std.proofs.Common.{◌≡◌, ℕ, ◌<◌, ◌≤◌, List, [], length, map, get_or, option_map, refl, sym, ap, ◌∙◌, subst as transport}
use Rattle.std.proofs.lemmas.Option.{slice_get_past, slice_get_read}
use Rattle.std.specs.Global.{Vec}
use Rattle.dart_ir.specs.declared.number.ClassId.{ClassId}
use Rattle.dart_ir.specs.declared.number.MemberId.{MemberId}
use Rattle.dart_ir.specs.declared.types.TypeRef.{TypeRef, Class}
use Rattle.dart_ir.specs.declared.class.MemberInfo.{MemberInfo}
use Rattle.dart_ir.specs.declared.class.ClassInfo.{ClassInfo}
use Rattle.dart_ir.specs.Ty.{Ty, class, ty, tys, of_list}
use Rattle.dart_ir.proofs.View.{ty_class}
use Rattle.class_table.specs.Renumbered.{renumbered, renumbered_all}
use Rattle.class_table.specs.Members.{descriptions, members_in, mixed_in, mixin_members, Adds}
use Rattle.class_table.proofs.Views.{renumbered_map}
use Rattle.class_table.proofs.Added.{adds_none}

given_class : (ns : List ℕ) (t : TypeRef) (e : ClassId) (v : Vec TypeRef) → t ≡ Class e v → renumbered ns (ty t) ≡ class (get_or ns e.0 0) (renumbered_all ns (tys v.items))
given_class ns t e v q = ap (renumbered ns) (ap ty q ∙ ty_class e v)

given_arguments : (ns : List ℕ) (us ts : List TypeRef) → map ty us ≡ map (λ t. renumbered ns (ty t)) ts → tys us ≡ renumbered_all ns (tys ts)
given_arguments ns us ts q = ap of_list q ∙ renumbered_map ns ts

-- the members of the class that a mixin is
pub of_mixin : (ms : List MemberInfo) (is : List ClassInfo) (ns : List ℕ) (c n : ℕ) (t : TypeRef) (e : ClassId) (v : Vec TypeRef) (us : List TypeRef) (info : ClassInfo) (ids : List MemberId) → t ≡ Class e v → map ty us ≡ map (λ t. renumbered ns (ty t)) v.items → n ≡ get_or ns e.0 0 → n < length is → info ≡ get_or is n info → ids ≡ info.members.items
    → map (option_map (mixed_in c (tys us))) (descriptions ms ids) ≡ mixin_members ms is c (renumbered ns (ty t))
of_mixin ms is ns c n t e v us info ids q a m l i d =
    ap (λ z. map (option_map (mixed_in c z)) (descriptions ms ids)) (given_arguments ns us v.items a)
    ∙ ap (λ z. map (option_map (mixed_in c (renumbered_all ns (tys v.items)))) (descriptions ms z)) (d ∙ ap members_in (sym (slice_get_read is (length is) n info refl l i)))
    ∙ ap (λ z. mixin_members ms is c (class z (renumbered_all ns (tys v.items)))) m
    ∙ ap (mixin_members ms is c) (sym (given_class ns t e v q))

pub past_mixin : (ms : List MemberInfo) (is : List ClassInfo) (ns : List ℕ) (c n : ℕ) (t : TypeRef) (e : ClassId) (v : Vec TypeRef) (ids : List MemberId) → t ≡ Class e v → n ≡ get_or ns e.0 0 → length is ≤ n → ids ≡ [] → Adds ms ms ids (mixin_members ms is c (renumbered ns (ty t))) c
past_mixin ms is ns c n t e v ids q m l d =
    let none : [] ≡ mixin_members ms is c (renumbered ns (ty t)) =
    ap (λ o. map (option_map (mixed_in c (renumbered_all ns (tys v.items)))) (descriptions ms (members_in o))) (sym (slice_get_past is n l))
    ∙ ap (λ z. mixin_members ms is c (class z (renumbered_all ns (tys v.items)))) m
    ∙ ap (mixin_members ms is c) (sym (given_class ns t e v q)) in
    transport (λ z. Adds ms ms z (mixin_members ms is c (renumbered ns (ty t))) c) (sym d) (transport (λ z. Adds ms ms [] z c) none (adds_none ms c))

-- what is no class has no members
pub no_mixin : (ms : List MemberInfo) (is : List ClassInfo) (ns : List ℕ) (c : ℕ) (t : TypeRef) (u : Ty) (ids : List MemberId) → ty t ≡ u → mixin_members ms is c (renumbered ns u) ≡ [] → ids ≡ [] → Adds ms ms ids (mixin_members ms is c (renumbered ns (ty t))) c
no_mixin ms is ns c t u ids q e d =
    transport (λ z. Adds ms ms z (mixin_members ms is c (renumbered ns (ty t))) c) (sym d) (transport (λ z. Adds ms ms [] z c) (sym e ∙ ap (λ z. mixin_members ms is c (renumbered ns z)) (sym q)) (adds_none ms c))
