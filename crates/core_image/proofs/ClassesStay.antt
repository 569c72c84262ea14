-- A table of classes is valid where it was at other places: validity asks for no place.
use Rattle.std.proofs.Common.{◌≡◌, ℕ, ◌<◌, true, true≢false, List, [], ◌∷◌, map, length, Option, Some, None, All, refl, sym, ap, ◌∙◌, subst as transport, slice_get, is_some}
use Rattle.std.specs.Option.{option_map}
use Rattle.std.proofs.lemmas.Option.{same_Some, slice_get-map}
use Rattle.std.proofs.lemmas.List.{length-map}
use Rattle.std.proofs.lemmas.List.Elements.{All-nil, All-cons, All-head, All-tail, All-same, All-map, All-weaker}
use Rattle.dart_ir.specs.declared.types.TypeRef.{TypeRef}
use Rattle.dart_ir.specs.declared.number.MemberId.{MemberId}
use Rattle.dart_ir.specs.declared.class.Classes.{Classes}
use Rattle.dart_ir.specs.declared.class.ClassInfo.{ClassInfo}
use Rattle.dart_ir.specs.declared.class.MemberInfo.{MemberInfo}
use Rattle.dart_ir.specs.Ty.{Ty, Tys, NamedTys, dynamic, bottom, void, class, parameter, function, nil, cons, unnamed, named, ty}
use Rattle.dart_ir.specs.Classes.{class_at, member_at, with_superclass, direct_supertypes, parameter_count, IsFormed, AreFormed, AreNamedFormed, IsEarlierClass, HasCall, HasCallAbove, IsBoundFormed, IsMemberOf, IsValidClass, IsFunctionClass, IsValid}
use Rattle.core_program.specs.Program.{Class, Member}
use Rattle.core_program.specs.ProgramView as v
use Rattle.core_program.specs.Alike as alike

-- a class, and a member, at the line of its place
abbrev seen : ClassInfo → Class ℕ
seen i = alike.class (v.class i)

abbrev member_seen : MemberInfo → Member ℕ
member_seen m = alike.member (v.member m)

-- ---- options and lists that are seen alike

from_some : {X A : Type 0} (f : X → A) (o : Option X) (z : A) → option_map f o ≡ Some z → (x : X) × ((o ≡ Some x) × (f x ≡ z))
from_some f None z h = absurd (true≢false (sym (ap is_some h)))
from_some f (Some x) z h = (x, (refl, same_Some (f x) z h))

all_under : {X A : Type 0} (f : X → A) (Q : A → Type 0) (ys : List X) → All Q (map f ys) → All (λ y. Q (f y)) ys
all_under f Q [] h = All-nil (λ y. Q (f y))
all_under f Q (y ∷ ys) h =
    All-cons (λ z. Q (f z)) y ys (All-head Q (f y) (map f ys) h) (all_under f Q ys (All-tail Q (f y) (map f ys) h))

all_by : {X A : Type 0} (f : X → A) (Q : A → Type 0) (xs ys : List X) → map f ys ≡ map f xs → All (λ x. Q (f x)) xs → All (λ y. Q (f y)) ys
all_by f Q xs ys e h = all_under f Q ys (All-same Q (map f ys) (map f xs) e (All-map Q f xs h))

nil_of : {X A : Type 0} (f : X → A) (ys : List X) → map f ys ≡ [] → ys ≡ []
nil_of f [] h = refl
nil_of f (y ∷ ys) h = absurd (cc)

-- ---- what is seen of a class

count_view : Option (Class ℕ) → ℕ
count_view None = 0
count_view (Some i) = length i.bounds

counted : (o : Option ClassInfo) → parameter_count o ≡ count_view (option_map seen o)
unfolding count_view
counted None = refl
counted (Some i) = sym (length-map i.bounds.items v.ty_option)

abbrev CallView : Option (Class ℕ) → Type 0
CallView None = ⊥
CallView (Some i) = i.callable ≡ true

call_to : (o : Option ClassInfo) → HasCall o → CallView (option_map seen o)
call_to None h = h
call_to (Some i) h = h

call_from : (o : Option ClassInfo) → CallView (option_map seen o) → HasCall o
call_from None h = h
call_from (Some i) h = h

abbrev with_view : Option Ty → List Ty → List Ty
with_view None us = us
with_view (Some u) us = u ∷ us

supers_seen : (o : Option TypeRef) (us : List TypeRef) → map ty (with_superclass o us) ≡ with_view (v.ty_option o) (map ty us)
supers_seen None us = refl
supers_seen (Some u) us = refl

some_seen : (o : Option TypeRef) → is_some o ≡ is_some (v.ty_option o)
some_seen None = refl
some_seen (Some t) = refl

abbrev BoundView : Classes → ℕ → Option Ty → Type 0
BoundView k n None = Unit {0}
BoundView k n (Some t) = IsFormed k n t

bound_to : (k : Classes) (n : ℕ) (o : Option TypeRef) → IsBoundFormed k n o → BoundView k n (v.ty_option o)
bound_to k n None h = h
bound_to k n (Some t) h = h

bound_from : (k : Classes) (n : ℕ) (o : Option TypeRef) → BoundView k n (v.ty_option o) → IsBoundFormed k n o
bound_from k n None h = h
bound_from k n (Some t) h = h

abbrev OwnedBy : Classes → ℕ → Option (Member ℕ) → Type 0
OwnedBy k c None = ⊥
OwnedBy k c (Some m) = (m.owner ≡ c) × IsFormed k (parameter_count (class_at k c)) m.signature

owned_to : (k : Classes) (c : ℕ) (o : Option MemberInfo) → IsMemberOf k c o → OwnedBy k c (option_map member_seen o)
owned_to k c None h = h
owned_to k c (Some m) h = h

owned_from : (k : Classes) (c : ℕ) (o : Option MemberInfo) → OwnedBy k c (option_map member_seen o) → IsMemberOf k c o
owned_from k c None h = h
owned_from k c (Some m) h = h

supers : (a b : ClassInfo) → seen a ≡ seen b → map ty (direct_supertypes a) ≡ map ty (direct_supertypes b)
supers a b e =
    supers_seen a.superclass a.interfaces.items
    ∙ ap (λ (x : Class ℕ). with_view x.superclass x.interfaces) e
    ∙ sym (supers_seen b.superclass b.interfaces.items)

bounds_count : (a b : ClassInfo) → seen a ≡ seen b → length a.bounds.items ≡ length b.bounds.items
bounds_count a b e =
    sym (length-map a.bounds.items v.ty_option) ∙ ap (λ (x : Class ℕ). length x.bounds) e ∙ length-map b.bounds.items v.ty_option

-- ---- two tables whose classes are seen alike: j is the later one

module _ (k j : Classes) (same : map seen j.classes.items ≡ map seen k.classes.items) where
  class_view : (c : ℕ) → option_map seen (class_at j c) ≡ option_map seen (class_at k c)
  class_view c =
      sym (slice_get-map seen j.classes.items c) ∙ ap (λ (l : List (Class ℕ)). slice_get l c) same ∙ slice_get-map seen k.classes.items c

  counts : (c : ℕ) → parameter_count (class_at j c) ≡ parameter_count (class_at k c)
  counts c = counted (class_at j c) ∙ ap count_view (class_view c) ∙ sym (counted (class_at k c))

  lengths : length j.classes.items ≡ length k.classes.items
  lengths = sym (length-map j.classes.items seen) ∙ ap length same ∙ length-map k.classes.items seen

  mutual
    formed : (n : ℕ) (t : Ty) → IsFormed k n t → IsFormed j n t
    formed n dynamic h = tt
    formed n bottom h = tt
    formed n void h = tt
    formed n (class c ts) h = (transport (λ m. c < m) (sym lengths) h.0, h.1 ∙ sym (counts c), all_formed n ts h.2)
    formed n (parameter i) h = h
    formed n (function r q o m) h = (formed n r h.0, all_formed n q h.1, all_formed n o h.2, named_formed n m h.3)

    all_formed : (n : ℕ) (ts : Tys) → AreFormed k n ts → AreFormed j n ts
    all_formed n nil h = tt
    all_formed n (cons t ts) h = (formed n t h.0, all_formed n ts h.1)

    named_formed : (n : ℕ) (ts : NamedTys) → AreNamedFormed k n ts → AreNamedFormed j n ts
    named_formed n unnamed h = tt
    named_formed n (named x t ts) h = (formed n t h.0, named_formed n ts h.1)

  call_above : (t : Ty) → HasCallAbove j t → HasCallAbove k t
  call_above (class e ts) h = call_from (class_at k e) (transport CallView (class_view e) (call_to (class_at j e) h))
  call_above dynamic h = h
  call_above bottom h = h
  call_above void h = h
  call_above (parameter i) h = h
  call_above (function r q o m) h = h

-- ---- and so are their members

module _ (k j : Classes) (same : map seen j.classes.items ≡ map seen k.classes.items) (alike_members : map member_seen j.members.items ≡ map member_seen k.members.items) (function_is : j.function.0 ≡ k.function.0) where
  member_view : (m : ℕ) → option_map member_seen (member_at j m) ≡ option_map member_seen (member_at k m)
  member_view m =
      sym (slice_get-map member_seen j.members.items m) ∙ ap (λ (l : List (Member ℕ)). slice_get l m) alike_members
      ∙ slice_get-map member_seen k.members.items m

  kept : (c : ℕ) (o : Option (Member ℕ)) → OwnedBy k c o → OwnedBy j c o
  kept c None h = h
  kept c (Some m) h = (
    h.0,
    transport (λ n. IsFormed j n m.signature) (sym (counts k j same c)) (formed k j same (parameter_count (class_at k c)) m.signature h.1),
  )

  member_of : (c m : ℕ) → IsMemberOf k c (member_at k m) → IsMemberOf j c (member_at j m)
  member_of c m h =
      owned_from j c (member_at j m)
      (transport (OwnedBy j c) (sym (member_view m)) (kept c (option_map member_seen (member_at k m)) (owned_to k c (member_at k m) h)))

  bound_step : (n : ℕ) (o : Option TypeRef) → IsBoundFormed k n o → BoundView j n (v.ty_option o)
  bound_step n None h = tt
  bound_step n (Some t) h = formed k j same n (ty t) h

  bounds_stay : (n : ℕ) (a b : ClassInfo) → seen a ≡ seen b → All (IsBoundFormed k n) b.bounds.items → All (IsBoundFormed j n) a.bounds.items
  bounds_stay n a b e h =
      All-weaker (λ o. BoundView j n (v.ty_option o)) (IsBoundFormed j n) (bound_from j n) a.bounds.items
      (all_by v.ty_option (BoundView j n) b.bounds.items a.bounds.items (ap (λ (x : Class ℕ). x.bounds) e)
      (All-weaker (IsBoundFormed k n) (λ o. BoundView j n (v.ty_option o)) (bound_step n) b.bounds.items h))

  valid_class : (c : ℕ) (a b : ClassInfo) → seen a ≡ seen b → IsValidClass k c b → IsValidClass j c a
  valid_class c a b e h = record {
    object = λ z. nil_of ty (direct_supertypes a) (supers a b e ∙ ap (map ty) (h.object z));
    superclass = λ z. some_seen a.superclass ∙ ap (λ (x : Class ℕ). is_some x.superclass) e ∙ sym (some_seen b.superclass) ∙ h.superclass z;
    supertypes = all_by ty (IsEarlierClass c) (direct_supertypes b) (direct_supertypes a) (supers a b e) h.supertypes;
    formed =
        transport (λ n. All (λ u. IsFormed j n (ty u)) (direct_supertypes a)) (sym (bounds_count a b e))
        (all_by ty (IsFormed j (length b.bounds.items)) (direct_supertypes b) (direct_supertypes a) (supers a b e)
        (All-weaker (λ u. IsFormed k (length b.bounds.items) (ty u)) (λ u. IsFormed j (length b.bounds.items) (ty u))
        (λ u w. formed k j same (length b.bounds.items) (ty u) w) (direct_supertypes b) h.formed));
    bounds = transport (λ n. All (IsBoundFormed j n) a.bounds.items) (sym (bounds_count a b e)) (bounds_stay (length b.bounds.items) a b e h.bounds);
    members =
        all_by (λ (m : MemberId). m.0) (λ n. IsMemberOf j c (member_at j n)) b.members.items a.members.items (ap (λ (x : Class ℕ). x.members) e)
        (All-weaker (λ (m : MemberId). IsMemberOf k c (member_at k m.0)) (λ (m : MemberId). IsMemberOf j c (member_at j m.0))
        (λ m w. member_of c m.0 w) b.members.items h.members);
    call = λ z. transport (λ f. f < c) (sym function_is) (h.call (sym (ap (λ (x : Class ℕ). x.callable) e) ∙ z));
    inherited =
        all_by ty (λ t. HasCallAbove j t → a.callable ≡ true) (direct_supertypes b) (direct_supertypes a) (supers a b e)
        (All-weaker (λ u. HasCallAbove k (ty u) → b.callable ≡ true) (λ u. HasCallAbove j (ty u) → a.callable ≡ true)
        (λ u w i. ap (λ (x : Class ℕ). x.callable) e ∙ w (call_above k j same (ty u) i)) (direct_supertypes b) h.inherited);
  }

  is_function : (a b : ClassInfo) → seen a ≡ seen b → IsFunctionClass b → IsFunctionClass a
  is_function a b e h = record { parameters = bounds_count a b e ∙ h.parameters; supertypes = supers a b e ∙ h.supertypes }

  -- the class that stood there, seen alike
  before : (c : ℕ) (a : ClassInfo) → class_at j c ≡ Some a → (b : ClassInfo) × ((class_at k c ≡ Some b) × (seen b ≡ seen a))
  before c a there = from_some seen (class_at k c) (seen a) (sym (class_view k j same c) ∙ ap (option_map seen) there)

  owner_listed : (m : ℕ) (a : MemberInfo) → IsValid k → member_at j m ≡ Some a → a.owner.0 < length j.classes.items
  owner_listed m a h there =
      let b = from_some member_seen (member_at k m) (member_seen a) (sym (member_view m) ∙ ap (option_map member_seen) there) in
      transport (λ o. o < length j.classes.items) (ap (λ (x : Member ℕ). x.owner) b.1.1)
      (transport (λ n. b.0.owner.0 < n) (sym (lengths k j same)) (h.members m b.0 b.1.0))

  valid_classes : IsValid k → IsValid j
  valid_classes h = record {
    object = transport (λ n. 0 < n) (sym (lengths k j same)) h.object;
    function = λ a there.
        let b = before j.function.0 a there in
        is_function a b.0 (sym b.1.1) (h.function b.0 (ap (class_at k) (sym function_is) ∙ b.1.0));
    has_function =
        transport (λ n. j.function.0 < n) (sym (lengths k j same)) (transport (λ f. f < length k.classes.items) (sym function_is) h.has_function);
    classes = λ c a there. let b = before c a there in valid_class c a b.0 (sym b.1.1) (h.classes c b.0 b.1.0);
    members = λ m a there. owner_listed m a h there;
  }

classes_seen : (xs : List ClassInfo) → map alike.class (map v.class xs) ≡ map seen xs
classes_seen [] = refl
classes_seen (x ∷ xs) = ap (λ l. seen x ∷ l) (classes_seen xs)

members_seen : (xs : List MemberInfo) → map alike.member (map v.member xs) ≡ map member_seen xs
members_seen [] = refl
members_seen (x ∷ xs) = ap (λ l. member_seen x ∷ l) (members_seen xs)

classes_again : (xs : List (Class ℕ)) → map alike.class (map alike.class xs) ≡ map alike.class xs
classes_again [] = refl
classes_again (x ∷ xs) = ap (λ l. alike.class x ∷ l) (classes_again xs)

members_again : (xs : List (Member ℕ)) → map alike.member (map alike.member xs) ≡ map alike.member xs
members_again [] = refl
members_again (x ∷ xs) = ap (λ l. alike.member x ∷ l) (members_again xs)

-- the image of a table is valid where the table is
pub image_valid : (k j : Classes) → map v.class j.classes.items ≡ map alike.class (map v.class k.classes.items)
    → map v.member j.members.items ≡ map alike.member (map v.member k.members.items) → j.function.0 ≡ k.function.0 → IsValid k → IsValid j
image_valid k j classes members same_function h =
    valid_classes k j
    (sym (classes_seen j.classes.items) ∙ ap (map alike.class) classes ∙ classes_again (map v.class k.classes.items)
    ∙ classes_seen k.classes.items)
    (sym (members_seen j.members.items) ∙ ap (map alike.member) members ∙ members_again (map v.member k.members.items)
    ∙ members_seen k.members.items)
    same_function h
