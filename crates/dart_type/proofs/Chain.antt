-- Chains of superclasses, and the first declaration on them.
use Rattle.std.proofs.Common.{◌≡◌, ℕ, zero, suc, ◌<◌, List, [], ◌∷◌, ◌++◌, Bool, Option, Some, None, refl, sym, ap, ◌∙◌, arith, find, All, option_map, length, get_or, subst as transport}
use Rattle.std.proofs.lemmas.Option.{slice_get_read}
use Rattle.std.specs.Option.{option_or}
use Rattle.std.proofs.lemmas.List.Folds.{find-append}
use Rattle.dart_base.specs.declared.name.Name.{Name}
use Rattle.dart_ir.specs.Ty.{Ty, dynamic, bottom, void, class, parameter, function, ty}
use Rattle.dart_ir.specs.Classes.{IsValid, IsEarlierClass, class_at, with_superclass}
use Rattle.dart_ir.specs.declared.number.ClassId.{ClassId}
use Rattle.dart_ir.specs.declared.number.MemberId.{MemberId}
use Rattle.dart_ir.specs.declared.types.TypeRef.{TypeRef}
use Rattle.dart_ir.specs.declared.class.Role.{Role}
use Rattle.dart_ir.specs.declared.class.ClassInfo.{ClassInfo}
use Rattle.dart_ir.specs.declared.class.Classes.{Classes}
use Rattle.dart_type.specs.Member.{class_number, superclass_number, superclass_in, IsChain, ends, goes, declares, members_in, members_along, IsFirstMember}

number_earlier : (c e : ℕ) (t : Ty) → IsEarlierClass c t → class_number t ≡ Some e → e < c
number_earlier c e (class d ts) h p = let q : d ≡ e = cc in omega (arith, h.0, q)
number_earlier c e dynamic h p = absurd h
number_earlier c e bottom h p = absurd h
number_earlier c e void h p = absurd h
number_earlier c e (parameter i) h p = absurd h
number_earlier c e (function r q o n) h p = absurd h

superclass_earlier : (c e : ℕ) (o : Option TypeRef) (us : List TypeRef) → All (λ u. IsEarlierClass c (ty u)) (with_superclass o us) → superclass_number o ≡ Some e → e < c
superclass_earlier c e None us h p = absurd (cc)
superclass_earlier c e (Some u) us h p = number_earlier c e (ty u) (h zero u (omega arith)) p

-- what is left to find from the next class on
abbrev pub FirstFrom : Classes → Option ClassId → Name → Role → Option MemberId → Type 0
FirstFrom k None name role m = m ≡ None
FirstFrom k (Some c) name role m = IsFirstMember k c.0 name role m

module _ (k : Classes) (valid : IsValid k) where
  earlier_in : (c e : ℕ) (i : Option ClassInfo) → class_at k c ≡ i → superclass_in i ≡ Some e → e < c
  earlier_in c e None p h = absurd (cc)
  earlier_in c e (Some i) p h = superclass_earlier c e i.superclass i.interfaces.items (valid.classes c i p).supertypes h

  -- a superclass comes before its class
  pub earlier : (c e : ℕ) → superclass_in (class_at k c) ≡ Some e → e < c
  earlier c e h = earlier_in c e (class_at k c) refl h

  extend : (c : ℕ) (o : Option ℕ) → superclass_in (class_at k c) ≡ o → ((e : ℕ) → e < c → (cs : List ℕ) × IsChain k e cs) → (cs : List ℕ) × IsChain k c cs
  extend c None p go = (c ∷ [], ends c p)
  extend c (Some e) p go = let r = go e (earlier c e p) in (c ∷ r.0, goes c e r.0 p r.1)

  chain_below : (n c : ℕ) → c < n → (cs : List ℕ) × IsChain k c cs
  chain_below zero c h = absurd (omega (arith, h))
  chain_below (suc n) c h = extend c (superclass_in (class_at k c)) refl (λ e l. chain_below n e (omega (arith, l, h)))

  -- each class has a chain
  pub chain_of : (c : ℕ) → (cs : List ℕ) × IsChain k c cs
  chain_of c = chain_below (suc c) c (omega arith)

  in_class : (c : ℕ) (i : ClassInfo) → class_at k c ≡ Some i → (p : MemberId → Bool) (o : Option MemberId) → find p i.members.items ≡ o → find p (members_in (class_at k c)) ≡ o
  in_class c i is p o e = ap (λ j. find p (members_in j)) is ∙ e

  along : (p : MemberId → Bool) (xs ys : List MemberId) (o : Option MemberId) → find p xs ≡ o → option_or o (find p ys) ≡ find p (xs ++ ys)
  along p xs ys o e = sym (find-append p xs ys ∙ ap (λ z. option_or z (find p ys)) e)

  found_on : (c : ℕ) (cs : List ℕ) (p : MemberId → Bool) (m : MemberId) → IsChain k c cs → find p (members_in (class_at k c)) ≡ Some m → Some m ≡ find p (members_along k cs)
  found_on c cs p m (ends _ h) e = along p (members_in (class_at k c)) [] (Some m) e
  found_on c cs p m (goes _ d ds h r) e = along p (members_in (class_at k c)) (members_along k ds) (Some m) e

  -- found in the class itself
  pub first_here : (c : ℕ) (i : ClassInfo) (name : Name) (role : Role) (m : MemberId) → class_at k c ≡ Some i → find (declares k name role) i.members.items ≡ Some m → IsFirstMember k c name role (Some m)
  first_here c i name role m is e =
      let r = chain_of c in
      record { chain = r.0; is_chain = r.1; first = found_on c r.0 (declares k name role) m r.1 (in_class c i is (declares k name role) (Some m) e) }

  -- not found in the class itself
  pub first_above : (c : ℕ) (i : ClassInfo) (name : Name) (role : Role) (next : Option ClassId) (m : Option MemberId) → class_at k c ≡ Some i
      → superclass_number i.superclass ≡ option_map (λ d. d.0) next → find (declares k name role) i.members.items ≡ None → FirstFrom k next name role m → IsFirstMember k c name role m
  first_above c i name role None m is s e h = record {
    chain = c ∷ [];
    is_chain = ends c (ap superclass_in is ∙ s);
    first = h ∙ along (declares k name role) (members_in (class_at k c)) [] None (in_class c i is (declares k name role) None e);
  }
  first_above c i name role (Some d) m is s e h = record {
    chain = c ∷ h.chain;
    is_chain = goes c d.0 h.chain (ap superclass_in is ∙ s) h.is_chain;
    first = h.first ∙ along (declares k name role) (members_in (class_at k c)) (members_along k h.chain) None (in_class c i is (declares k name role) None e);
  }

abbrev pub Listed : Classes → Option ClassId → Type 0
Listed k None = Unit {0}
Listed k (Some c) = c.0 < length k.classes.items

abbrev pub height : Option ClassId → ℕ
height None = 0
height (Some c) = suc c.0

module _ (k : Classes) (valid : IsValid k) (name : Name) (role : Role) (next : Option ClassId) (c : ClassId) (here : next ≡ Some c) (listed : Listed k next) (i : ClassInfo) (read : i ≡ get_or k.classes.items c.0 i) where
  at_class : class_at k c.0 ≡ Some i
  at_class = slice_get_read k.classes.items (length k.classes.items) c.0 i refl (transport (Listed k) here listed) read

  pub member_here : (ms : List MemberId) (m : MemberId) → Some m ≡ find (declares k name role) ms → ms ≡ i.members.items → FirstFrom k next name role (Some m)
  member_here ms m e d =
      transport (λ n. FirstFrom k n name role (Some m)) (sym here)
      (first_here k valid c.0 i name role m at_class (sym (e ∙ ap (find (declares k name role)) d)))

  pub member_above : (ms : List MemberId) (after : Option ClassId) → None ≡ find (declares k name role) ms → ms ≡ i.members.items → superclass_number i.superclass ≡ option_map (λ d. d.0) after
      → (m : Option MemberId) → FirstFrom k after name role m → FirstFrom k next name role m
  member_above ms after e d s m h =
      transport (λ n. FirstFrom k n name role m) (sym here)
      (first_above k valid c.0 i name role after m at_class s (sym (e ∙ ap (find (declares k name role)) d)) h)

  pub height_falls : (after : Option ClassId) → superclass_number i.superclass ≡ option_map (λ d. d.0) after → height after < height next
  height_falls None s = transport (λ n. 0 < height n) (sym here) (omega arith)
  height_falls (Some d) s = let e = earlier k valid c.0 d.0 (ap superclass_in at_class ∙ s) in transport (λ n. suc d.0 < height n) (sym here) (omega (arith, e))

  pub listed_above : (after : Option ClassId) → superclass_number i.superclass ≡ option_map (λ d. d.0) after → Listed k after
  listed_above None s = tt
  listed_above (Some d) s =
      let e = earlier k valid c.0 d.0 (ap superclass_in at_class ∙ s) in
      let l : c.0 < length k.classes.items = transport (Listed k) here listed in
      omega (arith, e, l)
