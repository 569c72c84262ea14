-- A table of classes that a program can have stays one where the functions of its members change.
use Rattle.std.proofs.Common.{◌≡◌, ◌∙◌, ℕ, ◌<◌, Bool, true, false, List, [], ◌∷◌, length, map, Option, Some, None, refl, sym, ap, subst as transport, slice_get}
use Rattle.std.specs.Option.{option_map}
use Rattle.std.specs.Global.{Vec}
use Rattle.std.proofs.lemmas.Option.{slice_get-map}
use Rattle.std.proofs.lemmas.Simd.{map-map}
use Rattle.std.proofs.lemmas.List.Elements.{All-weaker}
use Rattle.dart_ir.specs.declared.number.MemberId.{MemberId}
use Rattle.dart_ir.specs.declared.types.TypeRef.{TypeRef}
use Rattle.dart_ir.specs.declared.class.Classes.{Classes}
use Rattle.dart_ir.specs.declared.class.ClassInfo.{ClassInfo}
use Rattle.dart_ir.specs.declared.class.MemberInfo.{MemberInfo}
use Rattle.dart_ir.specs.Ty.{Ty, ty, function_ty, dynamic, bottom, void, class, parameter, function}
use Rattle.dart_ir.specs.Classes.{class_at, direct_supertypes, member_at, parameter_count, HasCallAbove, IsBoundFormed, IsFormed, IsMemberOf, IsValid, IsValidClass}
use Rattle.core_program.specs.Program as p
use Rattle.core_program.specs.ProgramView as pv
use Rattle.core_program.proofs.ClassesStay.{formed, from_some}
use Rattle.scope_declared.specs.declared.declaration.Declared.{Declared}
use Rattle.table_accessor.specs.Numbered.{all_numbered, is_induced, next_in, number_after, numbered_from, with_number}

-- a member without its function
abbrev without_function : p.Member ℕ → p.Member ℕ
without_function x = record x { function = 0 }

numbered_alike : (numbered : List Declared) (starts : List ℕ) (row next : ℕ) (xs : List (p.Member ℕ))
    → map without_function (numbered_from numbered starts row next xs) ≡ map without_function xs
numbered_alike numbered starts row next [] = refl
numbered_alike numbered starts row next (x ∷ xs) =
    let n = next_in starts row next x.owner in
    λ i. by (is_induced numbered x) n i ∷ numbered_alike numbered starts x.owner (number_after (is_induced numbered x) n) xs i
  where
    by : (induced : Bool) (n : ℕ) → without_function (with_number induced n x) ≡ without_function x
    by true n = refl
    by false n = refl

abbrev seen : MemberInfo → p.Member ℕ
seen m = without_function (pv.member m)

-- what is said of a member of class c is said of what is seen of it
abbrev IsSeenOf : Classes → ℕ → Option (p.Member ℕ) → Type 0
IsSeenOf k c None = ⊥
IsSeenOf k c (Some m) = (m.owner ≡ c) × IsFormed k (parameter_count (class_at k c)) m.signature

module _ (k : Classes) (ms : Vec MemberInfo) (alike : (n : ℕ) → option_map seen (slice_get ms.items n) ≡ option_map seen (slice_get k.members.items n)) where
  abbrev made : Classes
  made = record k { members = ms }

  formed_in : (n : ℕ) (t : Ty) → IsFormed k n t → IsFormed made n t
  formed_in = formed k made refl

  bound_formed : (n : ℕ) (t : Option TypeRef) → IsBoundFormed k n t → IsBoundFormed made n t
  bound_formed n None h = tt
  bound_formed n (Some t) h = formed_in n (ty t) h

  call_above : (t : Ty) → HasCallAbove made t → HasCallAbove k t
  call_above dynamic h = h
  call_above bottom h = h
  call_above void h = h
  call_above (class e ts) h = h
  call_above (parameter i) h = h
  call_above (function r q o m) h = h

  to_seen : (c : ℕ) (m : Option MemberInfo) → IsMemberOf k c m → IsSeenOf made c (option_map seen m)
  to_seen c None h = h
  to_seen c (Some m) h = (h.0, formed_in (parameter_count (class_at k c)) (function_ty m.signature) h.1)

  from_seen : (c : ℕ) (m : Option MemberInfo) → IsSeenOf made c (option_map seen m) → IsMemberOf made c m
  from_seen c None h = h
  from_seen c (Some m) h = h

  member_of : (c n : ℕ) → IsMemberOf k c (member_at k n) → IsMemberOf made c (member_at made n)
  member_of c n h = from_seen c (member_at made n) (transport (IsSeenOf made c) (sym (alike n)) (to_seen c (member_at k n) h))

  valid_class : (c : ℕ) (i : ClassInfo) → IsValidClass k c i → IsValidClass made c i
  valid_class c i h = record {
    object = h.object;
    superclass = h.superclass;
    supertypes = h.supertypes;
    formed = All-weaker (λ u. IsFormed k (length i.bounds.items) (ty u)) (λ u. IsFormed made (length i.bounds.items) (ty u))
        (λ u. formed_in (length i.bounds.items) (ty u)) (direct_supertypes i) h.formed;
    bounds = All-weaker (IsBoundFormed k (length i.bounds.items)) (IsBoundFormed made (length i.bounds.items))
        (bound_formed (length i.bounds.items)) i.bounds.items h.bounds;
    members = All-weaker (λ (m : MemberId). IsMemberOf k c (member_at k m.0)) (λ (m : MemberId). IsMemberOf made c (member_at made m.0))
        (λ m. member_of c m.0) i.members.items h.members;
    call = h.call;
    inherited = All-weaker (λ u. HasCallAbove k (ty u) → i.callable ≡ true) (λ u. HasCallAbove made (ty u) → i.callable ≡ true)
        (λ u w above. w (call_above (ty u) above)) (direct_supertypes i) h.inherited;
  }

  owner_listed : IsValid k → (n : ℕ) (m : MemberInfo) → member_at made n ≡ Some m → m.owner.0 < length k.classes.items
  owner_listed h n m there =
      let was = from_some seen (member_at k n) (seen m) (sym (alike n) ∙ ap (option_map seen) there) in
      transport (λ o. o < length k.classes.items) (ap (λ (x : p.Member ℕ). x.owner) was.1.1) (h.members n was.0 was.1.0)

  valid : IsValid k → IsValid made
  valid h = record {
    object = h.object;
    function = h.function;
    has_function = h.has_function;
    classes = λ c i there. valid_class c i (h.classes c i there);
    members = owner_listed h;
  }

pub stays_valid : (k : Classes) (ms : Vec MemberInfo) (numbered : List Declared) (starts : List ℕ)
    → map pv.member ms.items ≡ all_numbered numbered starts (map pv.member k.members.items) → IsValid k → IsValid (record k { members = ms })
stays_valid k ms numbered starts is = valid k ms alike
  where
    all_alike : map without_function (map pv.member ms.items) ≡ map without_function (map pv.member k.members.items)
    all_alike = ap (map without_function) is ∙ numbered_alike numbered starts 0 _ (map pv.member k.members.items)

    alike : (n : ℕ) → option_map seen (slice_get ms.items n) ≡ option_map seen (slice_get k.members.items n)
    alike n = sym (slice_get-map seen ms.items n)
        ∙ ap (λ (l : List (p.Member ℕ)). slice_get l n) (sym (map-map without_function pv.member ms.items) ∙ all_alike
        ∙ map-map without_function pv.member k.members.items)
        ∙ slice_get-map seen k.members.items n
