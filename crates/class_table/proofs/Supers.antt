-- The supertypes of a row stand before it, and are formed.
use Rattle.std.proofs.Common.{◌≡◌, ℕ, zero, suc, ◌<◌, ◌≤◌, ◌+◌, ◌-◌, ◌==◌, List, [], ◌∷◌, inl, inr, Bool, true, false, cond, length, get_or, Option, Some, None, slice_get, arith, refl, sym, ap, ◌∙◌, subst as transport}
use Rattle.std.proofs.lemmas.Bool.{cases_eq}
use Rattle.class_order.specs.declared.header.Header.{Header}
use Rattle.class_order.specs.declared.rows.Row.{Row}
use Rattle.class_order.specs.Rows.{AreRows}
use Rattle.dart_ir.specs.Ty.{Ty, Tys, NamedTys, dynamic, bottom, void, class, parameter, function, nil, cons, unnamed, named, ty}
use Rattle.dart_ir.specs.Classes.{count, ArePlain, class_at, parameter_count, IsFormed, AreFormed, AreNamedFormed, IsEarlierClass}
use Rattle.dart_ir.specs.declared.class.Classes.{Classes}
use Rattle.class_fault.specs.declared.program.HeaderType.{HeaderType}
use Rattle.class_fault.specs.declared.program.Declaration.{Declaration}
use Rattle.class_fault.specs.declared.program.Program.{Program}
use Rattle.class_fault.specs.Program.{declaration_at, class_named}
use Rattle.class_fault.specs.Graph.{IsGraph, above_of, superclass_named, applied}
use Rattle.class_fault.specs.Fault.{IsFirstFrom}
use Rattle.class_fault.proofs.Graphs.{Among, among_superclass, among_mixins, among_interfaces, among_named}
use Rattle.class_fault.proofs.Acyclic.{superclass_class, mixin_class, interface_class}
use Rattle.class_table.specs.Program.{IsProgram, parameters_in, IsFormedIn, AreFormedIn, AreNamedFormedIn, IsHeaderTy, IsHeaderType, IsSuperclass}
use Rattle.class_table.specs.Renumbered.{renumbered, renumbered_all, renumbered_named}
use Rattle.class_table.specs.Rows.{parameters_from, own_superclass, row_superclass, row_mixin, row_interfaces, renumbered_types, is_own}
use Rattle.class_table.proofs.Formed.{count_renumbered, plain_renumbered_all}
use Rattle.class_table.proofs.Lists.{Each, each_append, each_of, all_get, some_in}
use Rattle.class_table.proofs.Numbered.{has_roots, before_rows, differ_eqb, same_eqb}

-- each class of the program stands in the table under its number, with as many parameters
abbrev pub Counts : Program → List ℕ → Classes → Type 0
Counts p ns k = (c : ℕ) → c < length p.declarations.items → (get_or ns c 0 < length k.classes.items) × (parameter_count (class_at k (get_or ns c 0)) ≡ parameters_in (declaration_at p c))

module _ (p : Program) (ns : List ℕ) (k : Classes) (counts : Counts p ns k) where
  mutual
    pub formed : (n : ℕ) (t : Ty) → IsFormedIn p n t → IsFormed k n (renumbered ns t)
    formed n dynamic h = tt
    formed n bottom h = tt
    formed n void h = tt
    formed n (parameter i) h = h
    formed n (class c ts) h = ((counts c h.0).0, count_renumbered ns ts ∙ h.1 ∙ sym (counts c h.0).1, formed_all n ts h.2)
    formed n (function r q o m) h = (formed n r h.0, formed_all n q h.1, formed_all n o h.2, formed_named n m h.3)

    pub formed_all : (n : ℕ) (ts : Tys) → AreFormedIn p n ts → AreFormed k n (renumbered_all ns ts)
    formed_all n nil h = tt
    formed_all n (cons t ts) h = (formed n t h.0, formed_all n ts h.1)

    pub formed_named : (n : ℕ) (ts : NamedTys) → AreNamedFormedIn p n ts → AreNamedFormed k n (renumbered_named ns ts)
    formed_named n unnamed h = tt
    formed_named n (named x t ts) h = (formed n t h.0, formed_named n ts h.1)

  -- a type above class c, which has n parameters
  abbrev pub IsSuper : ℕ → ℕ → Ty → Type 0
  IsSuper c n t = IsEarlierClass c t × IsFormed k n t

  super : (c n e : ℕ) → get_or ns e 0 < c → (t : Ty) → class_named t ≡ Some e → IsHeaderTy p n t → IsSuper c n (renumbered ns t)
  super c n e l (class f ts) q h =
      let s : f ≡ e = cc in
      let m : get_or ns f 0 ≡ get_or ns e 0 = ap (λ z. get_or ns z 0) s in
      ((omega (arith, l, m), plain_renumbered_all ns ts h.1), formed n (class f ts) h.0)
  super c n e l dynamic q h = absurd (cc)
  super c n e l bottom q h = absurd (cc)
  super c n e l void q h = absurd (cc)
  super c n e l (parameter i) q h = absurd (cc)
  super c n e l (function r a o m) q h = absurd (cc)

  plain_parameters : (i n : ℕ) → ArePlain (parameters_from i n)
  plain_parameters i zero = tt
  plain_parameters i (suc n) = (tt, plain_parameters (suc i) n)

  formed_parameters : (i n m : ℕ) → i + n ≤ m → AreFormed k m (parameters_from i n)
  formed_parameters i zero m h = tt
  formed_parameters i (suc n) m h = (omega (arith, h), formed_parameters (suc i) n m (omega (arith, h)))

  count_parameters : (i n : ℕ) → count (parameters_from i n) ≡ n
  count_parameters i zero = refl
  count_parameters i (suc n) = ap suc (count_parameters (suc i) n)

  -- the row before, as a superclass
  super_before : (c n : ℕ) → 0 < c → c - 1 < length k.classes.items → parameter_count (class_at k (c - 1)) ≡ n → IsSuper c n (class (c - 1) (parameters_from 0 n))
  super_before c n l m q = ((omega (arith, l), plain_parameters 0 n), (m, count_parameters 0 n ∙ sym q, formed_parameters 0 n n (omega arith)))

  module _ (hs : List Header) (program : IsProgram p) (graph : IsGraph p hs) (rs : List Row) (rows : AreRows hs rs ns) (no_fault : IsFirstFrom p hs 0 None) (d : ℕ) (i : Declaration) (at : declaration_at p d ≡ Some i) (c s : ℕ) (place : c + applied i ≡ get_or ns d 0 + s) where
    earlier : (e : ℕ) → Among e (above_of p d i) → get_or ns e 0 < c
    earlier e a = let l = before_rows p hs program graph ns rs rows d i at e a in omega (arith, l, place)

    object_is_super : (d ≡ p.object → ⊥) → i.superclass ≡ None → IsSuper c (length i.bounds.items) (class (get_or ns p.object 0) nil)
    object_is_super m q =
        let a : Among p.object (above_of p d i) = among_superclass p d i p.object (transport (λ o. Among p.object (superclass_named p d o)) (sym q) (transport (λ b. Among p.object (cond b [] (p.object ∷ []))) (sym (differ_eqb d p.object m)) (zero, omega arith, refl))) in
        let x = some_in p.declarations.items p.object program.has_object in
        let r = program.object x.0 x.1 in
        let w = counts p.object program.has_object in
        ((earlier p.object a, tt), (w.0, sym (w.1 ∙ ap parameters_in x.1 ∙ r.parameters), tt))

    own_is_super : (o : Option HeaderType) → i.superclass ≡ o → Each (IsSuper c (length i.bounds.items)) (own_superclass p ns d o)
    own_is_super None q = elim (cases_eq d p.object) [
      | inl e ↦ transport (λ b. Each (IsSuper c (length i.bounds.items)) (cond b [] (class (get_or ns p.object 0) nil ∷ []))) (sym (ap (λ z. z == p.object) e ∙ same_eqb p.object)) tt
      | inr m ↦ transport (λ b. Each (IsSuper c (length i.bounds.items)) (cond b [] (class (get_or ns p.object 0) nil ∷ []))) (sym (differ_eqb d p.object m)) (object_is_super m q, tt)
    ]
    own_is_super (Some t) q =
        let e = superclass_class p hs graph (has_roots p program) no_fault d i at t q in
        let a : Among e.0 (above_of p d i) = among_superclass p d i e.0 (transport (λ o. Among e.0 (superclass_named p d o)) (sym q) (among_named (t ∷ []) zero t e.0 refl e.1)) in
        (super c (length i.bounds.items) e.0 (earlier e.0 a) (ty t.of) e.1 (transport (IsSuperclass p (length i.bounds.items)) q (program.declarations d i at).superclass), tt)

    pub mixin_is_super : (o : Option HeaderType) → slice_get i.mixins.items s ≡ o → Each (IsSuper c (length i.bounds.items)) (row_mixin ns o)
    mixin_is_super None q = tt
    mixin_is_super (Some t) q =
        let e = mixin_class p hs graph (has_roots p program) no_fault d i at s t q in
        let a : Among e.0 (above_of p d i) = among_mixins p d i e.0 (among_named i.mixins.items s t e.0 q e.1) in
        (super c (length i.bounds.items) e.0 (earlier e.0 a) (ty t.of) e.1 (all_get (IsHeaderType p (length i.bounds.items)) i.mixins.items (program.declarations d i at).mixins s t q), tt)

    interface_is_super : (j : ℕ) (t : HeaderType) → slice_get i.interfaces.items j ≡ Some t → IsSuper c (length i.bounds.items) (renumbered ns (ty t.of))
    interface_is_super j t q =
        let e = interface_class p hs graph (has_roots p program) no_fault d i at j t q in
        let a : Among e.0 (above_of p d i) = among_interfaces p d i e.0 (among_named i.interfaces.items j t e.0 q e.1) in
        super c (length i.bounds.items) e.0 (earlier e.0 a) (ty t.of) e.1 (all_get (IsHeaderType p (length i.bounds.items)) i.interfaces.items (program.declarations d i at).interfaces j t q)

    own_interfaces : (b : Bool) → Each (IsSuper c (length i.bounds.items)) (cond b (renumbered_types ns i.interfaces.items) [])
    own_interfaces true = each_of (IsSuper c (length i.bounds.items)) (λ (t : HeaderType). renumbered ns (ty t.of)) i.interfaces.items interface_is_super
    own_interfaces false = tt

    pub interfaces_are : Each (IsSuper c (length i.bounds.items)) (row_interfaces ns i s)
    interfaces_are = each_append _ (row_mixin ns (slice_get i.mixins.items s)) _ (mixin_is_super (slice_get i.mixins.items s) refl) (own_interfaces (is_own i s))

    pub superclass_are : (z : ℕ) → s ≡ z → (0 < s → (0 < c) × (c - 1 < length k.classes.items) × (parameter_count (class_at k (c - 1)) ≡ length i.bounds.items)) → Each (IsSuper c (length i.bounds.items)) (row_superclass p ns d i z c)
    superclass_are zero q before = own_is_super i.superclass refl
    superclass_are (suc z) q before = let b = before (omega (arith, q)) in (super_before c (length i.bounds.items) b.0 b.1 b.2, tt)
