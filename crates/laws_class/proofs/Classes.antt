-- Two classes of one row are the same where the rows before them are.
use Rattle.std.proofs.Common.{◌≡◌, ℕ, suc, ◌+◌, ◌&&◌, ◌||◌, List, [], ◌∷◌, length, map, Option, Some, None, slice_get, arith, refl, sym, ap, ◌∙◌}
use Rattle.dart_ir.specs.Ty.{Ty, ty}
use Rattle.dart_ir.specs.Classes.{with_superclass}
use Rattle.dart_ir.specs.declared.types.TypeRef.{TypeRef}
use Rattle.dart_ir.specs.declared.number.MemberId.{MemberId}
use Rattle.dart_ir.specs.declared.class.ClassInfo.{ClassInfo}
use Rattle.dart_ir.specs.declared.class.MemberInfo.{MemberInfo}
use Rattle.core_program.specs.ProgramView as v
use Rattle.class_fault.specs.declared.program.Declaration.{Declaration}
use Rattle.class_fault.specs.declared.program.Program.{Program}
use Rattle.class_fault.specs.Program.{declares_call}
use Rattle.class_table.specs.Renumbered.{bound_ty}
use Rattle.class_table.specs.Rows.{IsRow, is_own, any_callable, row_superclass, row_interfaces}
use Rattle.laws_class.proofs.Seen.{seen, any_same, field_counts_same, added_same}

class_eq : (x y : ClassInfo) → x.name.0 ≡ y.name.0 → x.library ≡ y.library → x.place ≡ y.place → map v.ty_option x.bounds.items ≡ map v.ty_option y.bounds.items
    → v.ty_option x.superclass ≡ v.ty_option y.superclass → map ty x.interfaces.items ≡ map ty y.interfaces.items → x.is_abstract ≡ y.is_abstract
    → v.declaration_option x.decl ≡ v.declaration_option y.decl → x.fields ≡ y.fields → map (λ (m : MemberId). m.0) x.members.items ≡ map (λ (m : MemberId). m.0) y.members.items
    → x.callable ≡ y.callable → v.class x ≡ v.class y
class_eq x y a b c d e f g h i j k = cc

bound_view : (o : Option TypeRef) → v.ty_option o ≡ bound_ty o
bound_view None = refl
bound_view (Some t) = refl

bounds_view : (os : List (Option TypeRef)) → map v.ty_option os ≡ map bound_ty os
bounds_view [] = refl
bounds_view (o ∷ os) = ap (λ z. z ∷ map v.ty_option os) (bound_view o) ∙ ap (λ z. bound_ty o ∷ z) (bounds_view os)

superclass_view : (o u : Option TypeRef) → map ty (with_superclass o []) ≡ map ty (with_superclass u []) → v.ty_option o ≡ v.ty_option u
superclass_view None None q = refl
superclass_view None (Some t) q = absurd (cc)
superclass_view (Some s) None q = absurd (cc)
superclass_view (Some s) (Some t) q = let e : ty s ≡ ty t = cc in ap (λ (z : Ty). Some z) e

-- numbers that follow one another
pub numbers_same : (n : ℕ) (xs ys : List MemberId) → length xs ≡ length ys
    → ((j : ℕ) (m : MemberId) → slice_get xs j ≡ Some m → m.0 ≡ n + j)
    → ((j : ℕ) (m : MemberId) → slice_get ys j ≡ Some m → m.0 ≡ n + j)
    → map (λ (m : MemberId). m.0) xs ≡ map (λ (m : MemberId). m.0) ys
numbers_same n [] [] q f g = refl
numbers_same n [] (y ∷ ys) q f g = absurd (omega (arith, q))
numbers_same n (x ∷ xs) [] q f g = absurd (omega (arith, q))
numbers_same n (x ∷ xs) (y ∷ ys) q f g =
    let a : x.0 ≡ y.0 = f 0 x refl ∙ sym (g 0 y refl) in
    let r = numbers_same (n + 1) xs ys (omega (arith, q)) (λ j m h. let e = f (suc j) m h in omega (arith, e))
    (λ j m h. let e = g (suc j) m h in omega (arith, e)) in
    ap (λ z. z ∷ map (λ (m : MemberId). m.0) xs) a ∙ ap (λ z. y.0 ∷ z) r

module _ (p : Program) (ns : List ℕ) (ms ls : List MemberInfo) (is js : List ClassInfo) (same : map (seen ms) is ≡ map (seen ls) js)
    (d : ℕ) (i : Declaration) (s c : ℕ) (x y : ClassInfo) (a : IsRow p ns is d i s c x) (b : IsRow p ns js d i s c y) where
  callable_one : x.callable ≡ y.callable
  callable_one =
      a.callable
      ∙ ap (λ z. (is_own i s && declares_call p.call i) || (z || any_callable is (row_interfaces ns i s))) (any_same ms ls is js same (row_superclass p ns d i s c))
      ∙ ap (λ z. (is_own i s && declares_call p.call i) || (any_callable js (row_superclass p ns d i s c) || z)) (any_same ms ls is js same (row_interfaces ns i s))
      ∙ sym b.callable

  fields_one : x.fields ≡ y.fields
  fields_one =
      let f = field_counts_same ms ls is js same (row_superclass p ns d i s c) in
      let g = added_same ms ls is js same ns i (slice_get i.mixins.items s) in
      let h = a.fields in
      let k = b.fields in
      omega (arith, f, g, h, k)

  pub class_one : map (λ (m : MemberId). m.0) x.members.items ≡ map (λ (m : MemberId). m.0) y.members.items → v.class x ≡ v.class y
  class_one members =
      class_eq x y
      (ap (λ n. n.0) (a.name ∙ sym b.name)) (a.library ∙ sym b.library) (a.place ∙ sym b.place)
      (bounds_view x.bounds.items ∙ a.bounds ∙ sym b.bounds ∙ sym (bounds_view y.bounds.items))
      (superclass_view x.superclass y.superclass (a.superclass ∙ sym b.superclass)) (a.interfaces ∙ sym b.interfaces) (a.is_abstract ∙ sym b.is_abstract)
      (ap v.declaration_option (a.decl ∙ sym b.decl)) fields_one members callable_one
