-- Where the classes of a program stand in its table.
use Rattle.std.proofs.Common.{◌≡◌, ℕ, zero, ◌<◌, ◌+◌, ◌-◌, List, [], ◌∷◌, ◌++◌, inl, inr, Bool, true, false, cond, ◌==◌, length, get_or, Option, Some, None, arith, refl, sym, ap, ◌∙◌, subst as transport}
use Rattle.std.proofs.lemmas.Bool.{cases_eq, eq-eqb, ne_eqb}
use Rattle.std.proofs.lemmas.Option.{slice_get_within}
use Rattle.class_order.specs.declared.header.Header.{Header}
use Rattle.class_order.specs.declared.rows.Row.{Row}
use Rattle.class_order.specs.Order.{above}
use Rattle.class_order.specs.Rows.{AreRows, row_at, applications}
use Rattle.class_fault.specs.declared.program.HeaderType.{HeaderType}
use Rattle.class_fault.specs.declared.program.Declaration.{Declaration}
use Rattle.class_fault.specs.declared.program.Program.{Program}
use Rattle.class_fault.specs.Program.{declaration_at, declares_call}
use Rattle.class_fault.specs.Graph.{IsGraph, HasRoots, above_of, superclass_named, named_classes, function_if, applied}
use Rattle.class_fault.specs.Fault.{IsFirstFrom}
use Rattle.class_fault.proofs.Graphs.{Among, among_superclass, among_named}
use Rattle.class_fault.proofs.Acyclic.{superclass_class}
use Rattle.class_table.specs.Program.{IsProgram, IsRoot}
use Rattle.class_table.proofs.Lists.{some_in}

-- a number is equal to itself, as a test
pub same_eqb : (n : ℕ) → (n == n) ≡ true
same_eqb n = eq-eqb n n refl

pub differ_eqb : (m n : ℕ) → (m ≡ n → ⊥) → (m == n) ≡ false
differ_eqb m n h = ne_eqb m n h

pub root_applied : (p : Program) (i : Declaration) → IsRoot p i → applied i ≡ 0
root_applied p i r = case i.is_application (ap length r.mixins)
  where
    case : (b : Bool) → length i.mixins.items ≡ 0 → cond b (length i.mixins.items - 1) (length i.mixins.items) ≡ 0
    case true q = omega (arith, q)
    case false q = q

-- the classes above a class that names none and declares no `call`
root_above : (p : Program) (d : ℕ) (i : Declaration) → IsRoot p i → above_of p d i ≡ cond (d == p.object) [] (p.object ∷ [])
root_above p d i r =
    ap (λ o. superclass_named p d o ++ named_classes i.mixins.items ++ named_classes i.interfaces.items ++ function_if p (declares_call p.call i)) r.superclass
    ∙ ap (λ ts. superclass_named p d None ++ named_classes ts ++ named_classes i.interfaces.items ++ function_if p (declares_call p.call i)) r.mixins
    ∙ ap (λ ts. superclass_named p d None ++ [] ++ named_classes ts ++ function_if p (declares_call p.call i)) r.interfaces
    ∙ ap (λ b. superclass_named p d None ++ [] ++ [] ++ function_if p b) r.call
    ∙ ends (d == p.object)
  where
    ends : (b : Bool) → cond b [] (p.object ∷ []) ++ [] ++ [] ++ [] ≡ cond b [] (p.object ∷ [])
    ends true = refl
    ends false = refl

-- what the prelude's declarations say of the graph
pub has_roots : (p : Program) → IsProgram p → HasRoots p
has_roots p program = record {
  object = λ i q. root_above p p.object i (program.object i q) ∙ ap (λ b. cond b [] (p.object ∷ [])) (same_eqb p.object);
  function = λ i q. root_above p p.function i (program.function i q) ∙ ap (λ b. cond b [] (p.object ∷ [])) (differ_eqb p.function p.object (λ e. program.two (sym e)));
}

module _ (p : Program) (hs : List Header) (program : IsProgram p) (graph : IsGraph p hs) (ns : List ℕ) (rs : List Row) (rows : AreRows hs rs ns) where
  pub listed : (d : ℕ) (i : Declaration) → declaration_at p d ≡ Some i → d < length hs
  listed d i at = let l = slice_get_within p.declarations.items d i at in let s = graph.size in omega (arith, l, s)

  -- what stands above a class has a number before its rows
  pub before_rows : (d : ℕ) (i : Declaration) → declaration_at p d ≡ Some i → (e : ℕ) → Among e (above_of p d i) → get_or ns e 0 + applied i < get_or ns d 0
  before_rows d i at e a =
      let b : Among e (above hs d) = transport (Among e) (sym (graph.above d i at)) a in
      let l = rows.after d b.0 (listed d i at) b.1 in
      let q : get_or ns (get_or (above hs d) b.0 0) 0 ≡ get_or ns e 0 = ap (λ z. get_or ns z 0) b.2 in
      let n = graph.applications d i at in
      omega (arith, l, q, n)

  module _ (no_fault : IsFirstFrom p hs 0 None) where
    -- something stands above each class but Object
    pub something_above : (d : ℕ) (i : Declaration) → declaration_at p d ≡ Some i → (d ≡ p.object → ⊥) → (e : ℕ) × Among e (above_of p d i)
    something_above d i at n = case i.superclass refl
      where
        front : (e : ℕ) (o : Option HeaderType) → i.superclass ≡ o → Among e (superclass_named p d o) → (e : ℕ) × Among e (above_of p d i)
        front e o q a = (e, among_superclass p d i e (transport (λ z. Among e (superclass_named p d z)) (sym q) a))

        case : (o : Option HeaderType) → i.superclass ≡ o → (e : ℕ) × Among e (above_of p d i)
        case None q = front p.object None q (transport (λ b. Among p.object (cond b [] (p.object ∷ []))) (sym (differ_eqb d p.object n)) (zero, omega arith, refl))
        case (Some t) q = let c = superclass_class p hs graph (has_roots p program) no_fault d i at t q in front c.0 (Some t) q (among_named (t ∷ []) zero t c.0 refl c.1)

    -- Object is the first class of the table
    pub object_zero : get_or ns p.object 0 ≡ 0
    object_zero =
        let o = some_in p.declarations.items p.object program.has_object in
        let none : applied o.0 ≡ 0 = root_applied p o.0 (program.object o.0 o.1) in
        let apps : applications hs p.object ≡ 0 = graph.applications p.object o.0 o.1 ∙ none in
        let has : 0 < length rs = let w = rows.within p.object 0 (get_or ns p.object 0) (listed p.object o.0 o.1) (omega (arith, apps)) (omega (arith, apps)) in omega (arith, w) in
        let d = (row_at rs 0).class in
        let i = some_in p.declarations.items d (let l = rows.listed 0 has in let s = graph.size in omega (arith, l, s)) in
        let low = rows.low d (rows.listed 0 has) in
        let place = rows.place 0 has in
        elim (cases_eq d p.object) [
          | inl q ↦ let r : get_or ns d 0 ≡ get_or ns p.object 0 = ap (λ z. get_or ns z 0) q in let m : applications hs d ≡ 0 = ap (applications hs) q ∙ apps in omega (arith, place, low, r, m)
          | inr n ↦ let a = something_above d i.0 i.1 n in let b = before_rows d i.0 i.1 a.0 a.1 in let m = graph.applications d i.0 i.1 in absurd (omega (arith, place, low, b, m))
        ]
