-- The first header type that is too large stands at one place.
use Rattle.std.proofs.Common.{◌≡◌, ℕ, List, ◌∷◌, map, option_map, Option, Some, None, slice_get, refl, sym, ap, ◌∙◌, subst as transport}
use Rattle.std.proofs.lemmas.Option.{same_Some, slice_get-map}
use Rattle.dart_base.specs.declared.place.Place.{Place}
use Rattle.class_order.specs.Order.{AreListed}
use Rattle.dart_ir.specs.Ty.{Ty, class, ty}
use Rattle.dart_ir.specs.Classes.{with_superclass, direct_supertypes}
use Rattle.dart_ir.specs.declared.types.TypeRef.{TypeRef}
use Rattle.dart_ir.specs.declared.class.ClassInfo.{ClassInfo}
use Rattle.dart_ir.specs.declared.class.Classes.{Classes}
use Rattle.dart_type.specs.Instance.{instance}
use Rattle.core_program.specs.Program as core
use Rattle.core_program.specs.ProgramView as v
use Rattle.class_fault.specs.declared.program.HeaderType.{HeaderType}
use Rattle.class_fault.specs.declared.program.Program.{Program}
use Rattle.class_size.specs.Size.{IsAbove, direct, further, IsTooLarge, itself, above, IsFirst, no_more, here, later}
use Rattle.class_size.specs.Built.{IsSizedTo}
use Rattle.laws_class.proofs.Tables.{one_numbers, table_one}

-- where lists are shown alike, what is read of one is shown as what is read of the other
module _ {A B : Type 0} (show : A → B) (xs ys : List A) (same : map show xs ≡ map show ys) where
  abbrev pub Other : ℕ → A → Type 0
  Other n x = (y : A) × (slice_get ys n ≡ Some y) × (show x ≡ show y)

  is_there : (n : ℕ) (x : A) (o : Option A) → slice_get ys n ≡ o → option_map show o ≡ Some (show x) → Other n x
  is_there n x None q e = absurd (cc)
  is_there n x (Some y) q e = (y, q, sym (same_Some (show y) (show x) e))

  pub other : (n : ℕ) (x : A) → slice_get xs n ≡ Some x → Other n x
  other n x q =
      is_there n x (slice_get ys n) refl
      (sym (slice_get-map show ys n) ∙ ap (λ z. slice_get z n) (sym same) ∙ slice_get-map show xs n ∙ ap (option_map show) q)

abbrev before : Option Ty → List Ty → List Ty
before None ts = ts
before (Some t) ts = t ∷ ts

with_superclass_seen : (o : Option TypeRef) (us : List TypeRef) → map ty (with_superclass o us) ≡ before (v.ty_option o) (map ty us)
with_superclass_seen None us = refl
with_superclass_seen (Some u) us = refl

supertypes_same : (i j : ClassInfo) → v.class i ≡ v.class j → map ty (direct_supertypes i) ≡ map ty (direct_supertypes j)
supertypes_same i j q =
    with_superclass_seen i.superclass i.interfaces.items
    ∙ ap (λ (x : core.Class ℕ). before x.superclass x.interfaces) q
    ∙ sym (with_superclass_seen j.superclass j.interfaces.items)

module _ (k l : Classes) (same : map v.class k.classes.items ≡ map v.class l.classes.items) where
  above_same : (t u : Ty) → IsAbove k t u → IsAbove l t u
  above_same _ _ (direct c n ts i u f g) =
      let x = other v.class k.classes.items l.classes.items same c i f in
      let y = other ty (direct_supertypes i) (direct_supertypes x.0) (supertypes_same i x.0 x.2) n u g in
      transport (λ z. IsAbove l (class c ts) (instance ts z)) (sym y.2) (direct c n ts x.0 y.0 x.1 y.1)
  above_same _ _ (further c n ts i u w f g r) =
      let x = other v.class k.classes.items l.classes.items same c i f in
      let y = other ty (direct_supertypes i) (direct_supertypes x.0) (supertypes_same i x.0 x.2) n u g in
      further c n ts x.0 y.0 w x.1 y.1 (transport (λ z. IsAbove l (instance ts z) w) y.2 (above_same _ w r))

  pub too_large_same : (t : Ty) → IsTooLarge k t → IsTooLarge l t
  too_large_same t (itself h) = itself h
  too_large_same t (above h) = above (h.0, above_same t h.0 h.1, h.2)

module _ (k l : Classes) (ns : List ℕ) (to : (t : Ty) → IsTooLarge k t → IsTooLarge l t) (back : (t : Ty) → IsTooLarge l t → IsTooLarge k t) where
  pub first_one : (ts : List HeaderType) (f g : Option Place) → IsFirst k ns ts f → IsFirst l ns ts g → f ≡ g
  first_one _ _ _ no_more no_more = refl
  first_one _ _ _ (here t ts h) (here _ _ m) = refl
  first_one _ _ _ (here t ts h) (later _ _ g m w) = absurd (m (to _ h))
  first_one _ _ _ (later t ts f h v) (here _ _ m) = absurd (h (back _ m))
  first_one _ _ _ (later t ts f h v) (later _ _ g m w) = first_one ts f g v w

pub place_one : (p : Program) (k l : Classes) (f g : Option Place) (a : IsSizedTo p k f) (b : IsSizedTo p l g) → AreListed a.table.headers → f ≡ g
place_one p k l f g a b listed =
    let same = (table_one p k l a.table b.table listed).classes in
    first_one k l a.table.numbers (too_large_same k l same) (too_large_same l k (sym same)) _ f g a.first
    (transport (λ z. IsFirst l z _ g) (sym (one_numbers p k l a.table b.table listed)) b.first)
