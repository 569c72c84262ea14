-- Programs of one shape have one first header type that is refused, and for one reason.
use Rattle.std.proofs.Common.{◌≡◌, ℕ, ◌≤◌, ◌==◌, ◌&&◌, List, [], ◌∷◌, ◌++◌, map, true, not, cond, Option, Some, None, refl, sym, ap, ◌∙◌, subst as transport}
use Rattle.std.proofs.lemmas.List.{map-append}
use Rattle.class_order.specs.declared.header.Header.{Header}
use Rattle.dart_ir.specs.Ty.{ty}
use Rattle.class_fault.specs.declared.program.Clause.{Clause}
use Rattle.class_fault.specs.declared.program.Clause.TheVariants.{Extends, With, Implements}
use Rattle.class_fault.specs.declared.program.HeaderType.{HeaderType}
use Rattle.class_fault.specs.declared.program.Declaration.{Declaration}
use Rattle.class_fault.specs.declared.program.Program.{Program}
use Rattle.class_fault.specs.declared.fault.Reason.{Reason}
use Rattle.class_fault.specs.declared.fault.Reason.TheVariants.{BadSuper, BadMixin}
use Rattle.class_fault.specs.declared.fault.Fault.{Fault}
use Rattle.class_fault.specs.Program.{class_named}
use Rattle.class_fault.specs.Fault.{is_inherited, is_forbidden, is_object, is_plain, can_mix, is_bad_mixin, static_reason, IsVerdict, no_class, leads_back, decided, in_clause, extended, header_types, IsFirst, no_more, here, later, IsFirstFrom, past, in_class, in_later}
use Rattle.class_within.specs.Seen as s
use Rattle.class_within.specs.View as view
use Rattle.laws_table.specs.Shape as shape
use Rattle.laws_table.proofs.Like.{length_like, type_like, place_like, option_like, object_like, declarations_like}
use Rattle.laws_table.proofs.Graphs.{there}

-- a header type with its clause, as it is seen
abbrev Shown : Type 0
Shown = Clause × s.HeaderType

abbrev shown : Clause × HeaderType → Shown
shown x = (x.0, view.header_type x.1)

abbrev extended_seen : Option s.HeaderType → List Shown
extended_seen None = []
extended_seen (Some t) = (Extends, t) ∷ []

abbrev with_clause : Clause → List s.HeaderType → List Shown
with_clause clause ts = map (λ t. (clause, t)) ts

extended_shown : (o : Option HeaderType) → map shown (extended o) ≡ extended_seen (view.superclass o)
extended_shown None = refl
extended_shown (Some t) = refl

in_clause_shown : (clause : Clause) (ts : List HeaderType) → map shown (in_clause clause ts) ≡ with_clause clause (map view.header_type ts)
in_clause_shown clause [] = refl
in_clause_shown clause (t ∷ ts) = ap (λ (z : List Shown). (clause, view.header_type t) ∷ z) (in_clause_shown clause ts)

header_types_shown : (i : Declaration) → map shown (header_types i)
    ≡ extended_seen (shape.class i).superclass ++ with_clause With (shape.class i).mixins ++ with_clause Implements (shape.class i).interfaces
header_types_shown i =
    let a = extended_shown i.superclass in
    let m = in_clause_shown With i.mixins.items in
    let n = in_clause_shown Implements i.interfaces.items in
    map-append shown (extended i.superclass ++ in_clause With i.mixins.items) (in_clause Implements i.interfaces.items)
    ∙ ap (λ (z : List Shown). z ++ map shown (in_clause Implements i.interfaces.items)) (map-append shown (extended i.superclass) (in_clause With i.mixins.items))
    ∙ (λ r. a r ++ m r ++ n r)

header_types_like : (i j : Declaration) → shape.class i ≡ shape.class j → map shown (header_types i) ≡ map shown (header_types j)
header_types_like i j like =
    header_types_shown i
    ∙ ap (λ (c : s.Class). extended_seen c.superclass ++ with_clause With c.mixins ++ with_clause Implements c.interfaces) like
    ∙ sym (header_types_shown j)

module _ (p q : Program) (same : shape.program p ≡ shape.program q) where
  is_object_like : (o : Option ℕ) → is_object p o ≡ is_object q o
  is_object_like None = refl
  is_object_like (Some e) = ap (λ z. e == z) (object_like p q same)

  is_plain_like : (o u : Option HeaderType) → view.superclass o ≡ view.superclass u → is_plain p o ≡ is_plain q u
  is_plain_like o u like =
      option_like (is_plain p) (is_plain q) refl
      (λ t w f. ap (λ z. is_object p (class_named z)) (type_like t w f) ∙ is_object_like (class_named (ty w.of))) o u like

  -- class c names class n, and in the other program class d names class m
  module _ (e : ℕ) (c d n m : Declaration) (one : shape.class c ≡ shape.class d) (two : shape.class n ≡ shape.class m) where
    forbidden_like : (clause : Clause) → is_forbidden p c e n clause ≡ is_forbidden q d e m clause
    forbidden_like clause =
        let a : c.standing ≡ d.standing = ap (λ (x : s.Class). x.standing) one in
        let b : n.standing ≡ m.standing = ap (λ (x : s.Class). x.standing) two in
        let o = object_like p q same in
        λ r. (a r).is_user && (not (b r).is_user && cond (b r).is_basic true (is_inherited clause && ((b r).has_external && not (e == o r))))

    can_mix_like : can_mix p e n ≡ can_mix q e m
    can_mix_like =
        let o = object_like p q same in
        let plain = is_plain_like n.superclass m.superclass (ap (λ (x : s.Class). x.superclass) two) in
        let b : n.standing ≡ m.standing = ap (λ (x : s.Class). x.standing) two in
        let size = length_like view.header_type n.mixins.items m.mixins.items (ap (λ (x : s.Class). x.mixins) two) in
        let written : n.is_application ≡ m.is_application = ap (λ (x : s.Class). x.is_application) two in
        λ r. not (e == o r) && (plain r && (not (b r).has_constructor && (not (b r).names_super && (size r == cond (written r) 1 0))))

    bad_mixin_like : (clause : Clause) → is_bad_mixin p e n clause ≡ is_bad_mixin q e m clause
    bad_mixin_like Extends = refl
    bad_mixin_like With = ap not can_mix_like
    bad_mixin_like Implements = refl

    reason_like : (clause : Clause) → static_reason p c e n clause ≡ static_reason q d e m clause
    reason_like clause =
        let a = forbidden_like clause in
        let b = bad_mixin_like clause in
        λ r. cond (a r) (Some BadSuper) (cond (b r) (Some BadMixin) None)

  module _ (hs : List Header) where
    verdict_like : (d : ℕ) (clause : Clause) (t u : HeaderType) → view.header_type t ≡ view.header_type u → (r : Option Reason)
        → IsVerdict p hs d clause t r → IsVerdict q hs d clause u r
    verdict_like d clause t u f _ (no_class n) = no_class (sym (ap class_named (type_like t u f)) ∙ n)
    verdict_like d clause t u f _ (leads_back e n l) = leads_back e (sym (ap class_named (type_like t u f)) ∙ n) l
    verdict_like d clause t u f _ (decided e c n m l v w) =
        let b = there p q same d c v in
        let o = there p q same e n w in
        transport (λ z. IsVerdict q hs d clause u z) (sym (reason_like e c b.0 n o.0 b.2 o.2 clause))
        (decided e b.0 o.0 (sym (ap class_named (type_like t u f)) ∙ m) l b.1 o.1)

    module _ (d : ℕ) (clause : Clause) (t : HeaderType) (u : Clause × HeaderType) (like : shown (clause, t) ≡ shown u) where
      type_is : view.header_type t ≡ view.header_type u.1
      type_is = ap (λ (z : Shown). z.1) like

      same_verdict : (r : Option Reason) → IsVerdict p hs d clause t r → IsVerdict q hs d u.0 u.1 r
      same_verdict r v =
          transport (λ z. IsVerdict q hs d z u.1 r) (ap (λ (z : Shown). z.0) like) (verdict_like d clause t u.1 type_is r v)

    first_like : (d : ℕ) (ts us : List (Clause × HeaderType)) (r : Option Fault) → map shown ts ≡ map shown us → IsFirst p hs d ts r → IsFirst q hs d us r
    first_like d _ [] _ e no_more = no_more
    first_like d _ (u ∷ us) _ e no_more = absurd (cc)
    first_like d _ [] _ e (here clause t ts r v) = absurd (cc)
    first_like d _ (u ∷ us) _ e (here clause t ts r v) =
        let a : shown (clause, t) ≡ shown u = cc in
        transport (λ z. IsFirst q hs d (u ∷ us) (Some (record { place = z; reason = r }))) (sym (place_like t u.1 (type_is d clause t u a)))
        (here u.0 u.1 us r (same_verdict d clause t u a (Some r) v))
    first_like d _ [] _ e (later clause t ts f v m) = absurd (cc)
    first_like d _ (u ∷ us) _ e (later clause t ts f v m) =
        let a : shown (clause, t) ≡ shown u = cc in
        let b : map shown ts ≡ map shown us = cc in
        later u.0 u.1 us f (same_verdict d clause t u a None v) (first_like d ts us f b m)

    pub first_from_like : (d : ℕ) (f : Option Fault) → IsFirstFrom p hs d f → IsFirstFrom q hs d f
    first_from_like _ _ (past d l) =
        past d (transport (λ z. z ≤ d) (length_like shape.class p.declarations.items q.declarations.items (declarations_like p q same)) l)
    first_from_like _ _ (in_class d i f at v) =
        let j = there p q same d i at in
        in_class d j.0 f j.1 (first_like d (header_types i) (header_types j.0) (Some f) (header_types_like i j.0 j.2) v)
    first_from_like _ _ (in_later d i f at v m) =
        let j = there p q same d i at in
        in_later d j.0 f j.1 (first_like d (header_types i) (header_types j.0) None (header_types_like i j.0 j.2) v) (first_from_like _ f m)
