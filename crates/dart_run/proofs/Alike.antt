-- Tables of classes that are seen alike have the same subtypes.
use Rattle.std.proofs.Common.{◌≡◌, ℕ, suc, Bool, List, ◌∷◌, map, length, Option, Some, None, refl, sym, ap, ◌∙◌, nat_eq, nat_lt}
use Rattle.std.specs.Prelude.{false, ◌&&◌}
use Rattle.std.proofs.lemmas.List.{length-map}
use Rattle.dart_ir.specs.declared.types.TypeRef.{TypeRef}
use Rattle.dart_ir.specs.declared.class.Classes.{Classes}
use Rattle.dart_ir.specs.declared.class.ClassInfo.{ClassInfo}
use Rattle.dart_ir.specs.Ty.{Ty, Tys, NamedTys, dynamic, bottom, void, class, parameter, function, nil, cons, unnamed, named, ty, of_list}
use Rattle.dart_ir.specs.Classes.{class_at, with_superclass, count}
use Rattle.dart_type.specs.Relation.{table_of, supertypes_in, call_in, floor}
use Rattle.dart_type.specs.Search.{measure}
use Rattle.type_test.specs.Test.{is_formed, are_formed, are_named_formed, holds_within, is_subtype}
use Rattle.core_program.specs.Program.{Class}
use Rattle.core_program.specs.ProgramView as v
use Rattle.core_program.proofs.ClassesStay.{class_view, counts}
use Rattle.std.specs.Option.{option_map}

-- ---- what is seen of a class

abbrev with_view : Option Ty → List Ty → List Ty
with_view None us = us
with_view (Some u) us = u ∷ us

abbrev super_view : Option (Class ℕ) → Tys
super_view None = nil
super_view (Some i) = of_list (with_view i.superclass i.interfaces)

abbrev call_view : Option (Class ℕ) → Bool
call_view None = false
call_view (Some i) = i.callable

supers_seen : (o : Option TypeRef) (us : List TypeRef) → map ty (with_superclass o us) ≡ with_view (v.ty_option o) (map ty us)
supers_seen None us = refl
supers_seen (Some u) us = refl

super_seen : (o : Option ClassInfo) → supertypes_in o ≡ super_view (option_map v.class o)
super_seen None = refl
super_seen (Some i) = ap of_list (supers_seen i.superclass i.interfaces.items)

call_seen : (o : Option ClassInfo) → call_in o ≡ call_view (option_map v.class o)
call_seen None = refl
call_seen (Some i) = refl

-- ---- two tables

module _ (k j : Classes) (same : map v.class j.classes.items ≡ map v.class k.classes.items) (function_is : j.function.0 ≡ k.function.0) where
  lengths : length j.classes.items ≡ length k.classes.items
  lengths = sym (length-map j.classes.items v.class) ∙ ap length same ∙ length-map k.classes.items v.class

  super_same : (c : ℕ) → supertypes_in (class_at j c) ≡ supertypes_in (class_at k c)
  super_same c = super_seen (class_at j c) ∙ ap super_view (class_view k j same c) ∙ sym (super_seen (class_at k c))

  call_same : (c : ℕ) → call_in (class_at j c) ≡ call_in (class_at k c)
  call_same c = call_seen (class_at j c) ∙ ap call_view (class_view k j same c) ∙ sym (call_seen (class_at k c))

  tables_same : table_of j ≡ table_of k
  tables_same = λ i. record {
    supertypes = λ c. super_same c i;
    has_call = λ c. call_same c i;
    function_class = function_is i;
    bounds = λ n. nil;
  }

  mutual
    formed_same : (t : Ty) → is_formed j t ≡ is_formed k t
    formed_same dynamic = refl
    formed_same bottom = refl
    formed_same void = refl
    formed_same (class c ts) = λ i. nat_lt c (lengths i) && (nat_eq (count ts) (counts k j same c i) && all_formed_same ts i)
    formed_same (parameter n) = refl
    formed_same (function r q o m) = λ i. formed_same r i && (all_formed_same q i && (all_formed_same o i && named_formed_same m i))

    all_formed_same : (ts : Tys) → are_formed j ts ≡ are_formed k ts
    all_formed_same nil = refl
    all_formed_same (cons t ts) = λ i. formed_same t i && all_formed_same ts i

    named_formed_same : (ts : NamedTys) → are_named_formed j ts ≡ are_named_formed k ts
    named_formed_same unnamed = refl
    named_formed_same (named x t ts) = λ i. formed_same t i && named_formed_same ts i

  pub subtypes_same : (t s : Ty) → is_subtype j t s ≡ is_subtype k t s
  unfolding is_subtype
  subtypes_same t s = λ i.
      formed_same t i
      && (formed_same s i && holds_within (suc (measure (tables_same i) (lengths i) (floor t, s))) (tables_same i) (floor t, s))
