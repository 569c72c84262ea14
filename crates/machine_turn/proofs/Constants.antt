-- A store to which constants are added.
use Rattle.std.proofs.Common.{◌≡◌, ℕ, ◌+◌, ◌≤◌, ◌<◌, List, [], ◌∷◌, ◌++◌, length, map, replicate, true, cond, nat_le, Some, None, refl, sym, ap, ◌∙◌, arith}
use Rattle.std.proofs.lemmas.Bool.{le-leb, lt-leb}
use Rattle.std.proofs.lemmas.List.{length-map}
use Rattle.dart_ir.specs.declared.object.Object.{Object}
use Rattle.dart_ir.specs.Object.{HeapObject, heap_object}
use Rattle.dart_store.specs.declared.store.Static.{Static}
use Rattle.dart_store.specs.declared.store.Static.TheVariants.{Unset}
use Rattle.dart_store.specs.Heap.{Heap, cost, with_object}
use Rattle.core_program.specs.declared.program.CoreProgram.{CoreProgram}
use Rattle.core_program.specs.Program.{Program}
use Rattle.core_program.specs.ProgramView as p
use Rattle.evaluation.specs.Turn.{cost_of, new_heap}
use Rattle.machine_turn.specs.Turn.{with_objects}

append_one : {A : Type 0} (xs : List A) (x : A) (ys : List A) → (xs ++ x ∷ []) ++ ys ≡ xs ++ x ∷ ys
append_one [] x ys = refl
append_one (y ∷ xs) x ys = ap (λ l. y ∷ l) (append_one xs x ys)

append_none : {A : Type 0} (xs : List A) → xs ++ [] ≡ xs
append_none [] = refl
append_none (x ∷ xs) = ap (λ l. x ∷ l) (append_none xs)

added_all : (h : Heap) (objects : List HeapObject) → with_objects h objects ≡ record h { objects = h.objects ++ objects; used = h.used + cost_of objects }
added_all h [] =
    ap (λ os. record h { objects = os }) (sym (append_none h.objects))
    ∙ ap (λ n. record h { objects = h.objects ++ []; used = n }) (let e : h.used ≡ h.used + 0 = omega arith in e)
added_all h (object ∷ more) =
    added_all (with_object h object) more
    ∙ ap (λ os. record h { objects = os; used = (h.used + cost object) + cost_of more }) (append_one h.objects object more)
    ∙ ap (λ n. record h { objects = h.objects ++ object ∷ more; used = n })
    (let e : (h.used + cost object) + cost_of more ≡ h.used + (cost object + cost_of more) = omega arith in e)

within : (q : Program ℕ) (units : ℕ) (h : Heap) → nat_le (cost_of q.constants) units ≡ true
    → h ≡ record { objects = q.constants; statics = replicate (length q.statics) Unset; used = cost_of q.constants; limit = units }
    → Some h ≡ new_heap q units
within q units h e is =
    ap (λ (g : Heap). Some g) is
    ∙ ap (λ b. cond b (Some (record { objects = q.constants; statics = replicate (length q.statics) Unset; used = cost_of q.constants; limit = units })) None) (sym e)

module _ (x : CoreProgram) (units : ℕ) (statics : List Static) (constants : List Object) (old : Heap) (same : constants ≡ x.constants.items) (is : old ≡ record { objects = []; statics = statics; used = 0; limit = units }) where
  total : old.used + cost_of (map heap_object constants) ≡ cost_of (map heap_object x.constants.items)
  total =
      let n : old.used ≡ 0 = ap (λ (h : Heap). h.used) is in
      let e : cost_of (map heap_object constants) ≡ cost_of (map heap_object x.constants.items) = ap (λ l. cost_of (map heap_object l)) same in
      omega arith

  pub fresh_heap : (new : Heap) → statics ≡ replicate (length x.statics.items) Unset → new ≡ with_objects old (map heap_object constants)
      → old.used + cost_of (map heap_object constants) ≤ old.limit → Some new ≡ new_heap (p.program x) units
  fresh_heap new unset made room =
      let c = map heap_object x.constants.items in
      let t = total in
      let l : old.limit ≡ units = ap (λ (h : Heap). h.limit) is in
      within (p.program x) units new (le-leb (cost_of c) units (omega arith))
      (made ∙ ap (λ h. with_objects h (map heap_object constants)) is ∙ ap (λ l. with_objects (record { objects = []; statics = statics; used = 0; limit = units }) (map heap_object l)) same
      ∙ added_all (record { objects = []; statics = statics; used = 0; limit = units }) c
      ∙ ap (λ n. record { objects = c; statics = statics; used = n; limit = units }) (let e : 0 + cost_of c ≡ cost_of c = omega arith in e)
      ∙ ap (λ l. record { objects = c; statics = l; used = cost_of c; limit = units }) (unset ∙ ap (λ n. replicate n Unset) (sym (length-map x.statics.items p.static))))

  pub no_heap : old.limit < old.used + cost_of (map heap_object constants) → None ≡ new_heap (p.program x) units
  no_heap over =
      let c = map heap_object x.constants.items in
      let t = total in
      let l : old.limit ≡ units = ap (λ (h : Heap). h.limit) is in
      ap (λ b. cond b (Some (record { objects = c; statics = replicate (length (p.program x).statics) Unset; used = cost_of c; limit = units })) None)
      (sym (lt-leb (cost_of c) units (omega arith)))
