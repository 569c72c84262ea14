-- Where no header type is refused, each class that a header names is declared.
use Rattle.std.proofs.Common.{◌≡◌, ℕ, zero, suc, ◌<◌, ◌≤◌, ◌+◌, ◌++◌, ◌==◌, inl, inr, List, [], ◌∷◌, Bool, true, false, cond, length, get_or, Option, Some, None, slice_get, arith, refl, sym, ap, ◌∙◌, subst as transport}
use Rattle.std.specs.List.{AllByRecursion}
use Rattle.std.proofs.lemmas.Bool.{cases_eq}
use Rattle.std.proofs.lemmas.Option.{same_Some, slice_get_within}
use Rattle.class_order.specs.declared.header.Header.{Header}
use Rattle.class_order.specs.Order.{above, AreListed}
use Rattle.class_order.proofs.Ordered.{has_above}
use Rattle.dart_ir.specs.Ty.{ty}
use Rattle.class_fault.specs.declared.program.Clause.{Clause}
use Rattle.class_fault.specs.declared.program.Clause.TheVariants.{Extends, With, Implements}
use Rattle.class_fault.specs.declared.program.HeaderType.{HeaderType}
use Rattle.class_fault.specs.declared.program.Declaration.{Declaration}
use Rattle.class_fault.specs.declared.program.Program.{Program}
use Rattle.class_fault.specs.declared.fault.Reason.{Reason}
use Rattle.class_fault.specs.declared.fault.Fault.{Fault}
use Rattle.class_fault.specs.Program.{declaration_at, class_named, declares_call}
use Rattle.class_fault.specs.Graph.{IsGraph, above_of, superclass_named, named_classes, function_if}
use Rattle.class_fault.specs.Fault.{IsVerdict, no_class, leads_back, decided, in_clause, extended, header_types, IsFirst, no_more, here, later, IsFirstFrom, past, in_class, in_later}
use Rattle.class_fault.proofs.Graphs.{Among, among_parts, among_none, among_one, named_by}
use Rattle.class_table.proofs.Lists.{some_in}

module _ (p : Program) (hs : List Header) where
  abbrev IsDeclared : ℕ → Type 0
  IsDeclared e = e < length p.declarations.items

  -- the class that a header type names is declared
  abbrev NamesDeclared : Clause × HeaderType → Type 0
  NamesDeclared x = (e : ℕ) → class_named (ty x.1.of) ≡ Some e → IsDeclared e

  verdict_declared : (d : ℕ) (clause : Clause) (t : HeaderType) (r : Option Reason) → IsVerdict p hs d clause t r → r ≡ None → NamesDeclared (clause, t)
  verdict_declared d clause t _ (no_class n) q e m = absurd (cc)
  verdict_declared d clause t _ (leads_back f n l) q e m = absurd (cc)
  verdict_declared d clause t _ (decided f c n g l v w) q e m =
      transport IsDeclared (same_Some f e (sym g ∙ m)) (slice_get_within p.declarations.items f n w)

  all_declared : (d : ℕ) (ts : List (Clause × HeaderType)) (r : Option Fault) → IsFirst p hs d ts r → r ≡ None → AllByRecursion NamesDeclared ts
  all_declared d _ _ no_more q = tt
  all_declared d _ _ (here clause t ts r v) q = absurd (cc)
  all_declared d _ _ (later clause t ts f v m) q = (verdict_declared d clause t None v refl, all_declared d ts f m q)

  from_declared : (c : ℕ) (f : Option Fault) → IsFirstFrom p hs c f → f ≡ None → (d : ℕ) (i : Declaration) → c ≤ d → declaration_at p d ≡ Some i
      → AllByRecursion NamesDeclared (header_types i)
  from_declared _ _ (past c l) q d i m at = let w = slice_get_within p.declarations.items d i at in absurd (omega (arith, l, m, w))
  from_declared _ _ (in_class c j f h v) q d i m at = absurd (cc)
  from_declared _ _ (in_later c j f h v rest) q d i m at = elim (cases_eq c d) [
    | inl s ↦
        let same : j ≡ i = same_Some j i (sym h ∙ ap (declaration_at p) s ∙ at) in
        transport (λ z. AllByRecursion NamesDeclared (header_types z)) same (all_declared c (header_types j) None v refl)
    | inr n ↦ from_declared (c + 1) f rest q d i (omega (arith, m, n)) at
  ]

  halves : (xs ys : List (Clause × HeaderType)) → AllByRecursion NamesDeclared (xs ++ ys) → AllByRecursion NamesDeclared xs × AllByRecursion NamesDeclared ys
  halves [] ys h = (tt, h)
  halves (x ∷ xs) ys h = let r = halves xs ys h.1 in ((h.0, r.0), r.1)

  one_declared : (clause : Clause) (ts : List HeaderType) → AllByRecursion NamesDeclared (in_clause clause ts) → (k : ℕ) (t : HeaderType) → slice_get ts k ≡ Some t
      → NamesDeclared (clause, t)
  one_declared clause [] h k t at e m = absurd (cc)
  one_declared clause (u ∷ ts) h zero t at e m = h.0 e (ap (λ (z : HeaderType). class_named (ty z.of)) (same_Some u t at) ∙ m)
  one_declared clause (u ∷ ts) h (suc k) t at e m = one_declared clause ts h.1 k t at e m

  clause_declared : (clause : Clause) (ts : List HeaderType) → AllByRecursion NamesDeclared (in_clause clause ts) → (e : ℕ) → Among e (named_classes ts) → IsDeclared e
  clause_declared clause ts h e a = let b = named_by e ts a in one_declared clause ts h b.0 b.1 b.2 e b.3

  module _ (graph : IsGraph p hs) (no_fault : IsFirstFrom p hs 0 None) (has_object : IsDeclared p.object) (has_function : IsDeclared p.function) where
    superclass_declared : (d : ℕ) (o : Option HeaderType) → AllByRecursion NamesDeclared (extended o) → (e : ℕ) → Among e (superclass_named p d o) → IsDeclared e
    superclass_declared d None h e a = from_object (d == p.object) a
      where
        from_object : (b : Bool) → Among e (cond b [] (p.object ∷ [])) → IsDeclared e
        from_object true c = absurd (among_none e c)
        from_object false c = transport IsDeclared (among_one e p.object c) has_object
    superclass_declared d (Some t) h e a = clause_declared Extends (t ∷ []) h e a

    function_declared : (b : Bool) (e : ℕ) → Among e (function_if p b) → IsDeclared e
    function_declared true e a = transport IsDeclared (among_one e p.function a) has_function
    function_declared false e a = absurd (among_none e a)

    above_declared : (d : ℕ) (i : Declaration) → declaration_at p d ≡ Some i → (e : ℕ) → Among e (above_of p d i) → IsDeclared e
    above_declared d i at e a =
        let whole = from_declared 0 None no_fault refl d i (omega arith) at in
        let last = halves (extended i.superclass ++ in_clause With i.mixins.items) (in_clause Implements i.interfaces.items) whole in
        let first = halves (extended i.superclass) (in_clause With i.mixins.items) last.0 in
        elim (among_parts e (superclass_named p d i.superclass ++ named_classes i.mixins.items ++ named_classes i.interfaces.items) _ a) [
          | inl b ↦ elim (among_parts e (superclass_named p d i.superclass ++ named_classes i.mixins.items) _ b) [
            | inl c ↦ elim (among_parts e (superclass_named p d i.superclass) _ c) [
              | inl f ↦ superclass_declared d i.superclass first.0 e f
              | inr f ↦ clause_declared With i.mixins.items first.1 e f
            ]
            | inr c ↦ clause_declared Implements i.interfaces.items last.1 e c
          ]
          | inr b ↦ function_declared (declares_call p.call i) e b
        ]

    pub are_listed : AreListed hs
    are_listed d k l =
        let s = graph.size in
        let x = some_in p.declarations.items d (let m = has_above hs d k (slice_get hs d) refl l in omega (arith, m, s)) in
        let m = above_declared d x.0 x.1 (get_or (above hs d) k 0) (transport (Among (get_or (above hs d) k 0)) (graph.above d x.0 x.1) (k, l, refl)) in
        omega (arith, m, s)
