-- Each class that a header of a program names is declared.
use Rattle.std.proofs.Common.{◌≡◌, ℕ, zero, suc, ◌<◌, ◌++◌, ◌==◌, inl, inr, List, [], ◌∷◌, Bool, true, false, cond, length, All, get_or, Option, Some, None, slice_get, arith, refl, subst as transport}
use Rattle.class_order.specs.declared.header.Header.{Header}
use Rattle.class_order.specs.Order.{above, AreListed}
use Rattle.class_order.proofs.Ordered.{has_above}
use Rattle.dart_ir.specs.Ty.{Ty, dynamic, bottom, void, class, parameter, function, ty}
use Rattle.class_fault.specs.declared.program.HeaderType.{HeaderType}
use Rattle.class_fault.specs.declared.program.Declaration.{Declaration}
use Rattle.class_fault.specs.declared.program.Program.{Program}
use Rattle.class_fault.specs.Program.{declaration_at, class_named, declares_call}
use Rattle.class_fault.specs.Graph.{IsGraph, above_of, superclass_named, named_classes, function_if}
use Rattle.class_fault.proofs.Graphs.{Among, among_parts, among_none, among_one, named_by}
use Rattle.class_table.specs.Program.{IsProgram, IsHeaderTy, IsHeaderType, IsSuperclass}
use Rattle.class_table.proofs.Lists.{all_get, some_in}

class_declared : (p : Program) (n : ℕ) (t : Ty) (e : ℕ) → class_named t ≡ Some e → IsHeaderTy p n t → e < length p.declarations.items
class_declared p n (class c ts) e q h = let s : c ≡ e = cc in let l = h.0.0 in omega (arith, l, s)
class_declared p n dynamic e q h = absurd (cc)
class_declared p n bottom e q h = absurd (cc)
class_declared p n void e q h = absurd (cc)
class_declared p n (parameter i) e q h = absurd (cc)
class_declared p n (function r a o m) e q h = absurd (cc)

all_declared : (p : Program) (n : ℕ) (ts : List HeaderType) (e : ℕ) → All (IsHeaderType p n) ts → Among e (named_classes ts) → e < length p.declarations.items
all_declared p n ts e h a = let b = named_by e ts a in class_declared p n (ty b.1.of) e b.3 (all_get (IsHeaderType p n) ts h b.0 b.1 b.2)

module _ (p : Program) (program : IsProgram p) (d : ℕ) (i : Declaration) (at : declaration_at p d ≡ Some i) (e : ℕ) where
  superclass_declared : (o : Option HeaderType) → i.superclass ≡ o → Among e (superclass_named p d o) → e < length p.declarations.items
  superclass_declared None q a = from_object (d == p.object) a
    where
      from_object : (b : Bool) → Among e (cond b [] (p.object ∷ [])) → e < length p.declarations.items
      from_object true c = absurd (among_none e c)
      from_object false c = transport (λ z. z < length p.declarations.items) (among_one e p.object c) program.has_object
  superclass_declared (Some t) q a =
      let b = named_by e (t ∷ []) a in
      class_declared p (length i.bounds.items) (ty b.1.of) e b.3 (is_first b.0 b.1 b.2)
    where
      is_first : (k : ℕ) (u : HeaderType) → slice_get (t ∷ []) k ≡ Some u → IsHeaderType p (length i.bounds.items) u
      is_first zero u r = let s : t ≡ u = cc in transport (IsHeaderType p (length i.bounds.items)) s (transport (IsSuperclass p (length i.bounds.items)) q (program.declarations d i at).superclass)
      is_first (suc k) u r = absurd (cc)

  function_declared : (b : Bool) → Among e (function_if p b) → e < length p.declarations.items
  function_declared true a = transport (λ z. z < length p.declarations.items) (among_one e p.function a) program.has_function
  function_declared false a = absurd (among_none e a)

  pub above_declared : Among e (above_of p d i) → e < length p.declarations.items
  above_declared a = elim (among_parts e (superclass_named p d i.superclass ++ named_classes i.mixins.items ++ named_classes i.interfaces.items) _ a) [
    | inl b ↦ elim (among_parts e (superclass_named p d i.superclass ++ named_classes i.mixins.items) _ b) [
      | inl c ↦ elim (among_parts e (superclass_named p d i.superclass) _ c) [
        | inl f ↦ superclass_declared i.superclass refl f
        | inr f ↦ all_declared p (length i.bounds.items) i.mixins.items e (program.declarations d i at).mixins f
      ]
      | inr c ↦ all_declared p (length i.bounds.items) i.interfaces.items e (program.declarations d i at).interfaces c
    ]
    | inr b ↦ function_declared (declares_call p.call i) b
  ]

pub are_listed : (p : Program) (hs : List Header) → IsProgram p → IsGraph p hs → AreListed hs
are_listed p hs program graph d k l =
    let s = graph.size in
    let x = some_in p.declarations.items d (let m = has_above hs d k (slice_get hs d) refl l in omega (arith, m, s)) in
    let m = above_declared p program d x.0 x.1 (get_or (above hs d) k 0) (transport (Among (get_or (above hs d) k 0)) (graph.above d x.0 x.1) (k, l, refl)) in
    omega (arith, m, s)
