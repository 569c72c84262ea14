-- The member that evaluation looks up is the first on the chain, as dart_type has it.
use Rattle.std.proofs.Common.{◌≡◌, ℕ, zero, suc, List, [], ◌∷◌, ◌++◌, ◌≤◌, ◌<◌, length, map, refl, sym, ap, subst, ◌∙◌, arith, Bool, true, false, cond, Option, Some, None}
use Rattle.std.specs.Prelude.{find, option_map, unwrap_or, All}
use Rattle.std.proofs.lemmas.List.{length-map}
use Rattle.std.proofs.lemmas.Option.{slice_get-map}
use Rattle.dart_base.specs.declared.name.Name.{Name}
use Rattle.dart_ir.specs.Ty.{Ty, dynamic, bottom, void, class, parameter, function, ty}
use Rattle.dart_ir.specs.Classes as table
use Rattle.dart_ir.specs.declared.class.Role.{Role}
use Rattle.dart_ir.specs.declared.class.ClassInfo.{ClassInfo}
use Rattle.dart_ir.specs.declared.class.MemberInfo.{MemberInfo}
use Rattle.dart_ir.specs.declared.class.Classes.{Classes}
use Rattle.dart_ir.specs.declared.number.MemberId.{MemberId}
use Rattle.dart_ir.specs.declared.types.TypeRef.{TypeRef}
use Rattle.dart_type.specs.Member as t
use Rattle.core_program.specs.declared.program.CoreProgram.{CoreProgram}
use Rattle.core_program.specs.ProgramView as view
use Rattle.core_program.specs.Program.{Program}
use Rattle.core_program.specs.Stripped as stripped
use Rattle.evaluation.specs.Classes.{class_number, supertype, superclass, chain_within, class_at, own_members, members_along, is_declaration, member_at, member}
use Rattle.evaluation.specs.Laws.{MembersAreFirst}

same_number : (u : Ty) → class_number (Some u) ≡ t.class_number u
same_number dynamic = refl
same_number bottom = refl
same_number void = refl
same_number (class c ts) = refl
same_number (parameter i) = refl
same_number (function r q o n) = refl

module _ (x : CoreProgram) where
  abbrev p : Program ℕ
  p = stripped.program (view.program x)

  abbrev k : Classes
  k = x.classes

  up_of : (u : Option TypeRef) → class_number (view.ty_option u) ≡ t.superclass_number u
  up_of None = refl
  up_of (Some u) = same_number (ty u)

  up_in : (o : Option ClassInfo) → class_number (supertype (option_map view.class o)) ≡ t.superclass_in o
  up_in None = refl
  up_in (Some i) = up_of i.superclass

  up_same : (c : ℕ) → superclass p c ≡ t.superclass_in (table.class_at k c)
  up_same c = ap (λ o. class_number (supertype o)) (slice_get-map view.class k.classes.items c) ∙ up_in (table.class_at k c)

  none_above : (n : ℕ) → chain_within n p None ≡ []
  none_above zero = refl
  none_above (suc n) = refl

  chain_same : (c : ℕ) (cs : List ℕ) → t.IsChain k c cs → (n : ℕ) → length cs ≤ n → chain_within n p (Some c) ≡ cs
  chain_same c _ (t.ends _ h) zero le = absurd (omega (arith, le))
  chain_same c _ (t.ends _ h) (suc n) le = ap (λ o. c ∷ chain_within n p o) (up_same c ∙ h) ∙ ap (λ l. c ∷ l) (none_above n)
  chain_same c _ (t.goes _ s cs h rest) zero le = absurd (omega (arith, le))
  chain_same c _ (t.goes _ s cs h rest) (suc n) le =
      ap (λ o. c ∷ chain_within n p o) (up_same c ∙ h) ∙ ap (λ l. c ∷ l) (chain_same s cs rest n (omega (arith, le)))

  -- ---- how long a chain is

  earlier_number : (c e : ℕ) (u : Ty) → table.IsEarlierClass c u → t.class_number u ≡ Some e → e < c
  earlier_number c e (class d ts) h q = subst (λ n. n < c) (ap (λ o. unwrap_or o 0) q) h.0
  earlier_number c e dynamic h q = absurd h
  earlier_number c e bottom h q = absurd h
  earlier_number c e void h q = absurd h
  earlier_number c e (parameter i) h q = absurd h
  earlier_number c e (function r y o n) h q = absurd h

  earlier_super : (c e : ℕ) (i : ClassInfo) (o : Option TypeRef) → i.superclass ≡ o → table.IsValidClass k c i → t.superclass_number o
      ≡ Some e → e < c
  earlier_super c e i None w v q = absurd (cc)
  earlier_super c e i (Some u) w v q =
      earlier_number c e (ty u) ((subst (λ o. All (λ u. table.IsEarlierClass c (ty u)) (table.with_superclass o i.interfaces.items)) w
      v.supertypes) 0 u (omega arith)) q

  earlier_in : (c e : ℕ) (o : Option ClassInfo) → table.class_at k c ≡ o → table.IsValid k → t.superclass_in o ≡ Some e → e < c
  earlier_in c e None w v q = absurd (cc)
  earlier_in c e (Some i) w v q = earlier_super c e i i.superclass refl (v.classes c i w) q

  chain_short : table.IsValid k → (c : ℕ) (cs : List ℕ) → t.IsChain k c cs → length cs ≤ suc c
  chain_short v c _ (t.ends _ h) = omega arith
  chain_short v c _ (t.goes _ s cs h rest) =
      let up : s < c = earlier_in c s (table.class_at k c) refl v h in
      let more : length cs ≤ suc s = chain_short v s cs rest in
      omega (arith, up, more)

  -- ---- members

  abbrev number : MemberId → ℕ
  number m = m.0

  own_same : (o : Option ClassInfo) → own_members (option_map view.class o) ≡ map number (t.members_in o)
  own_same None = refl
  own_same (Some i) = refl

  map_append : (xs ys : List MemberId) → map number (xs ++ ys) ≡ map number xs ++ map number ys
  map_append [] ys = refl
  map_append (m ∷ ms) ys = ap (λ l. number m ∷ l) (map_append ms ys)

  along_same : (cs : List ℕ) → members_along p cs ≡ map number (t.members_along k cs)
  along_same [] = refl
  along_same (c ∷ cs) =
      ap (λ o. own_members o ++ members_along p cs) (slice_get-map view.class k.classes.items c)
      ∙ ap (λ l. l ++ members_along p cs) (own_same (table.class_at k c))
      ∙ ap (λ l. map number (t.members_in (table.class_at k c)) ++ l) (along_same cs)
      ∙ sym (map_append (t.members_in (table.class_at k c)) (t.members_along k cs))

  module _ (name : Name) (role : Role) where
    declared_in : (o : Option MemberInfo) → is_declaration (option_map stripped.member (option_map view.member o)) name.0 role
        ≡ t.is_declaration o name role
    declared_in None = refl
    declared_in (Some i) = refl

    declared_same : (m : MemberId) → is_declaration (member_at p m.0) name.0 role ≡ t.declares k name role m
    declared_same m =
        ap (λ o. is_declaration o name.0 role) (slice_get-map stripped.member (map view.member k.members.items) m.0
        ∙ ap (option_map stripped.member) (slice_get-map view.member k.members.items m.0)) ∙ declared_in (table.member_at k m.0)

    found_same : (ms : List MemberId) → find (λ m. is_declaration (member_at p m) name.0 role) (map number ms)
        ≡ option_map number (find (t.declares k name role) ms)
    found_same [] = refl
    found_same (m ∷ ms) =
        ap (λ b. cond b (Some (number m)) (find (λ m. is_declaration (member_at p m) name.0 role) (map number ms))) (declared_same m)
        ∙ ap (λ o. cond (t.declares k name role m) (Some (number m)) o) (found_same ms)
        ∙ out (t.declares k name role m) m (find (t.declares k name role) ms)
      where
        out : (b : Bool) (m : MemberId) (o : Option MemberId) → cond b (Some (number m)) (option_map number o)
            ≡ option_map number (cond b (Some m) o)
        out true m o = refl
        out false m o = refl

    pub found : table.IsValid k → (c : ℕ) → c < length k.classes.items → (o : Option MemberId) → t.IsFirstMember k c name role o
        → member p (Some c) name.0 role ≡ option_map number o
    found v c lt o h =
        ap (λ l. find (λ m. is_declaration (member_at p m) name.0 role) (members_along p l))
        (chain_same c h.chain h.is_chain (length p.classes) (enough (chain_short v c h.chain h.is_chain)))
        ∙ ap (find (λ m. is_declaration (member_at p m) name.0 role)) (along_same h.chain)
        ∙ found_same (t.members_along k h.chain) ∙ ap (option_map number) (sym h.first)
      where
        enough : length h.chain ≤ suc c → length h.chain ≤ length p.classes
        enough le = subst (λ n. length h.chain ≤ n) (sym (length-map k.classes.items view.class)) (omega (arith, le, lt))

pub members_are_first : MembersAreFirst
members_are_first x name role v c lt o h = found x name role v c lt o h
