-- Type parameters as arguments, and what a class has from those above it.
use Rattle.std.proofs.Common.{◌≡◌, ℕ, zero, suc, ◌<◌, ◌+◌, ◌-◌, length, List, [], ◌∷◌, ◌++◌, Some, None, arith, refl, ap, ◌∙◌, slice_get}
use Rattle.dart_ir.specs.declared.types.TypeRef.{TypeRef, Param, Class}
use Rattle.dart_ir.specs.declared.class.ClassInfo.{ClassInfo}
use Rattle.dart_ir.specs.Ty.{Ty, class, parameter, dynamic, bottom, void, function, nil, cons, ty, tys}
use Rattle.dart_ir.proofs.View.{ty_param, ty_class}
use Rattle.class_fault.specs.Program.{class_named}
use Rattle.class_fault.specs.declared.program.Program.{Program}
use Rattle.class_fault.specs.declared.program.Declaration.{Declaration}
use Rattle.class_table.specs.Renumbered.{renumbered}
use Rattle.class_table.specs.Rows.{parameters_from, row_superclass, field_count, fields_in}
use Rattle.std.proofs.Common.{get_or}
use Rattle.std.specs.Global.{Vec}

more : (us : List TypeRef) (j n i : ℕ) → i ≡ j + n → tys us ≡ parameters_from j n → tys (us ++ Param i ∷ []) ≡ parameters_from j (suc n)
more [] j zero i q e = ap (λ t. cons t nil) (ty_param i ∙ ap parameter (let s : i ≡ j = omega (arith, q) in s))
more [] j (suc n) i q e = absurd (cc)
more (u ∷ us) j zero i q e = absurd (cc)
more (u ∷ us) j (suc n) i q e =
    let a : ty u ≡ parameter j = cc in
    let b : tys us ≡ parameters_from (suc j) n = cc in
    let r = more us (suc j) n i (omega (arith, q)) b in
    ap (λ t. cons t (tys (us ++ Param i ∷ []))) a ∙ ap (cons (parameter j)) r

pub parameters_more : (us : List TypeRef) (n : ℕ) → tys us ≡ parameters_from 0 n → tys (us ++ Param n ∷ []) ≡ parameters_from 0 (n + 1)
parameters_more us n e = let q : suc n ≡ n + 1 = omega arith in more us 0 n n (omega arith) e ∙ ap (parameters_from 0) q

pub row_before : (p : Program) (ns : List ℕ) (d : ℕ) (i : Declaration) (s c n : ℕ) (v : Vec TypeRef) → 0 < s → n ≡ length i.bounds.items → tys v.items ≡ parameters_from 0 n → ty (Class (record { 0 = c - 1 }) v) ∷ [] ≡ row_superclass p ns d i s c
row_before p ns d i zero c n v l q e = absurd (omega (arith, l))
row_before p ns d i (suc s) c n v l q e = ap (λ t. t ∷ []) (ty_class (record { 0 = c - 1 }) v ∙ ap (class (c - 1)) (e ∙ ap (parameters_from 0) q))

-- the fields of a class that is named by its declaration
pub count_named : (is : List ClassInfo) (ns : List ℕ) (t : Ty) (e : ℕ) → class_named t ≡ Some e → field_count is (renumbered ns t) ≡ fields_in (slice_get is (get_or ns e 0))
count_named is ns (class c ts) e q = let s : c ≡ e = cc in ap (λ z. fields_in (slice_get is (get_or ns z 0))) s
count_named is ns dynamic e q = absurd (cc)
count_named is ns bottom e q = absurd (cc)
count_named is ns void e q = absurd (cc)
count_named is ns (parameter i) e q = absurd (cc)
count_named is ns (function r a o n) e q = absurd (cc)

pub count_unnamed : (is : List ClassInfo) (ns : List ℕ) (t : Ty) → class_named t ≡ None → field_count is (renumbered ns t) ≡ 0
count_unnamed is ns (class c ts) q = absurd (cc)
count_unnamed is ns dynamic q = refl
count_unnamed is ns bottom q = refl
count_unnamed is ns void q = refl
count_unnamed is ns (parameter i) q = refl
count_unnamed is ns (function r a o n) q = refl
