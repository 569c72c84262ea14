-- What the tests' own check of a table says.
use Rattle.std.proofs.Common.{◌≡◌, ℕ, suc, ◌+◌, ◌<◌, ◌≤◌, List, [], ◌∷◌, length, map, drop, get_or, refl, sym, ap, ◌∙◌, arith, add-one, Some, subst as transport}
use Rattle.std.specs.Global.{Vec}
use Rattle.dart_ir.specs.Ty.{class, nil, ty, tys, named_ty, named_tys}
use Rattle.dart_ir.specs.declared.number.ClassId.{ClassId}
use Rattle.dart_ir.specs.declared.class.ClassInfo.{ClassInfo}
use Rattle.dart_ir.proofs.View.{ty_class}
use Rattle.dart_ir.specs.Classes.{count, IsFormed, AreFormed, AreNamedFormed, IsPlain, ArePlain, direct_supertypes, with_superclass}
use Rattle.dart_ir.specs.declared.types.TypeRef.{TypeRef, Class}
use Rattle.dart_ir.specs.declared.types.NamedType.{NamedType}
use Rattle.dart_ir.specs.declared.class.Classes.{Classes}
use Rattle.dart_type.proofs.Paired.{drop_at, drop_past}

pub count_tys : (ts : List TypeRef) → count (tys ts) ≡ length ts
count_tys [] = refl
count_tys (t ∷ ts) = ap suc (count_tys ts)

rest_of : {X : Type 0} (xs : List X) (j : ℕ) (x : X) → j < length xs → x ≡ get_or xs j x → x ∷ drop (j + 1) xs ≡ drop j xs
rest_of xs j x h e = ap (λ m. x ∷ drop m xs) (add-one j) ∙ ap (λ y. y ∷ drop (suc j) xs) e ∙ sym (drop_at xs j x h)

pub formed_step : (k : Classes) (n : ℕ) (ts : List TypeRef) (j : ℕ) (t : TypeRef) → j < length ts → t ≡ get_or ts j t → IsFormed k n (ty t) → (AreFormed k n (tys (drop j ts)) → AreFormed k n (tys ts)) → AreFormed k n (tys (drop (j + 1) ts)) → AreFormed k n (tys ts)
formed_step k n ts j t h e f inv rest = inv (transport (λ us. AreFormed k n (tys us)) (rest_of ts j t h e) (f, rest))

pub formed_end : (k : Classes) (n : ℕ) (ts : List TypeRef) (j : ℕ) → length ts ≤ j → (AreFormed k n (tys (drop j ts)) → AreFormed k n (tys ts)) → AreFormed k n (tys ts)
formed_end k n ts j h inv = inv (transport (λ us. AreFormed k n (tys us)) (sym (drop_past ts j h)) tt)

pub plain_step : (ts : List TypeRef) (j : ℕ) (t : TypeRef) → j < length ts → t ≡ get_or ts j t → IsPlain (ty t) → (ArePlain (tys (drop j ts)) → ArePlain (tys ts)) → ArePlain (tys (drop (j + 1) ts)) → ArePlain (tys ts)
plain_step ts j t h e f inv rest = inv (transport (λ us. ArePlain (tys us)) (rest_of ts j t h e) (f, rest))

pub plain_end : (ts : List TypeRef) (j : ℕ) → length ts ≤ j → (ArePlain (tys (drop j ts)) → ArePlain (tys ts)) → ArePlain (tys ts)
plain_end ts j h inv = inv (transport (λ us. ArePlain (tys us)) (sym (drop_past ts j h)) tt)

pub named_step : (k : Classes) (n : ℕ) (ms : List NamedType) (j : ℕ) (m : NamedType) → j < length ms → m ≡ get_or ms j m → IsFormed k n (named_ty m).1 → (AreNamedFormed k n (named_tys (drop j ms)) → AreNamedFormed k n (named_tys ms)) → AreNamedFormed k n (named_tys (drop (j + 1) ms)) → AreNamedFormed k n (named_tys ms)
named_step k n ms j m h e f inv rest = inv (transport (λ us. AreNamedFormed k n (named_tys us)) (rest_of ms j m h e) (f, rest))

pub named_end : (k : Classes) (n : ℕ) (ms : List NamedType) (j : ℕ) → length ms ≤ j → (AreNamedFormed k n (named_tys (drop j ms)) → AreNamedFormed k n (named_tys ms)) → AreNamedFormed k n (named_tys ms)
named_end k n ms j h inv = inv (transport (λ us. AreNamedFormed k n (named_tys us)) (sym (drop_past ms j h)) tt)

pub nothing_in : {X : Type 0} (xs : List X) → length xs ≡ 0 → xs ≡ []
nothing_in [] e = refl
nothing_in (x ∷ xs) e = absurd (omega (arith, e))

pub class_object : (t : TypeRef) (e : ClassId) (ts : Vec TypeRef) → t ≡ Class e ts → e.0 ≡ 0 → ts.items ≡ [] → ty t ≡ class 0 nil
class_object t e ts a b d = ap ty a ∙ ty_class e ts ∙ ap (λ n. class n (tys ts.items)) b ∙ ap (λ us. class 0 (tys us)) d

pub function_class : (i : ClassInfo) (u : TypeRef) → i.superclass ≡ Some u → i.interfaces.items ≡ [] → ty u ≡ class 0 nil → map ty (direct_supertypes i) ≡ class 0 nil ∷ []
function_class i u a b e = ap (λ o. map ty (with_superclass o i.interfaces.items)) a ∙ ap (λ us. ty u ∷ map ty us) b ∙ ap (λ t. t ∷ []) e
