-- What the tests' own check of a program says.
use Rattle.std.proofs.Common.{◌≡◌, ℕ, suc, ◌+◌, ◌<◌, ◌≤◌, List, [], ◌∷◌, length, drop, get_or, refl, sym, ap, ◌∙◌, arith, subst as transport}
use Rattle.std.proofs.lemmas.List.{drop_more, drop_all}
use Rattle.dart_ir.specs.Ty.{tys, ty, named_ty, named_tys}
use Rattle.dart_ir.specs.declared.types.TypeRef.{TypeRef}
use Rattle.dart_ir.specs.declared.types.NamedType.{NamedType}
use Rattle.dart_ir.specs.Classes.{count, IsPlain, ArePlain}
use Rattle.class_fault.specs.declared.program.Program.{Program}
use Rattle.class_table.specs.Program.{IsFormedIn, AreFormedIn, AreNamedFormedIn}

pub count_tys : (ts : List TypeRef) → count (tys ts) ≡ length ts
count_tys [] = refl
count_tys (t ∷ ts) = ap suc (count_tys ts)

rest_of : {X : Type 0} (xs : List X) (j : ℕ) (x : X) → j < length xs → x ≡ get_or xs j x → x ∷ drop (j + 1) xs ≡ drop j xs
rest_of xs j x h e = ap (λ y. y ∷ drop (j + 1) xs) e ∙ sym (drop_more xs j x h)

pub formed_step : (p : Program) (n : ℕ) (ts : List TypeRef) (j : ℕ) (t : TypeRef) → j < length ts → t ≡ get_or ts j t → IsFormedIn p n (ty t) → (AreFormedIn p n (tys (drop j ts)) → AreFormedIn p n (tys ts)) → AreFormedIn p n (tys (drop (j + 1) ts)) → AreFormedIn p n (tys ts)
formed_step p n ts j t h e f inv rest = inv (transport (λ us. AreFormedIn p n (tys us)) (rest_of ts j t h e) (f, rest))

pub formed_end : (p : Program) (n : ℕ) (ts : List TypeRef) (j : ℕ) → length ts ≤ j → (AreFormedIn p n (tys (drop j ts)) → AreFormedIn p n (tys ts)) → AreFormedIn p n (tys ts)
formed_end p n ts j h inv = inv (transport (λ us. AreFormedIn p n (tys us)) (sym (drop_all j ts h)) tt)

pub plain_step : (ts : List TypeRef) (j : ℕ) (t : TypeRef) → j < length ts → t ≡ get_or ts j t → IsPlain (ty t) → (ArePlain (tys (drop j ts)) → ArePlain (tys ts)) → ArePlain (tys (drop (j + 1) ts)) → ArePlain (tys ts)
plain_step ts j t h e f inv rest = inv (transport (λ us. ArePlain (tys us)) (rest_of ts j t h e) (f, rest))

pub plain_end : (ts : List TypeRef) (j : ℕ) → length ts ≤ j → (ArePlain (tys (drop j ts)) → ArePlain (tys ts)) → ArePlain (tys ts)
plain_end ts j h inv = inv (transport (λ us. ArePlain (tys us)) (sym (drop_all j ts h)) tt)

pub named_step : (p : Program) (n : ℕ) (ms : List NamedType) (j : ℕ) (m : NamedType) → j < length ms → m ≡ get_or ms j m → IsFormedIn p n (named_ty m).1 → (AreNamedFormedIn p n (named_tys (drop j ms)) → AreNamedFormedIn p n (named_tys ms)) → AreNamedFormedIn p n (named_tys (drop (j + 1) ms)) → AreNamedFormedIn p n (named_tys ms)
named_step p n ms j m h e f inv rest = inv (transport (λ us. AreNamedFormedIn p n (named_tys us)) (rest_of ms j m h e) (f, rest))

pub named_end : (p : Program) (n : ℕ) (ms : List NamedType) (j : ℕ) → length ms ≤ j → (AreNamedFormedIn p n (named_tys (drop j ms)) → AreNamedFormedIn p n (named_tys ms)) → AreNamedFormedIn p n (named_tys ms)
named_end p n ms j h inv = inv (transport (λ us. AreNamedFormedIn p n (named_tys us)) (sym (drop_all j ms h)) tt)
