-- A program has one first fault, or none.
use Rattle.std.proofs.Common.{◌≡◌, ℕ, ◌≤◌, List, length, Option, Some, None, arith, refl, sym, ap, ◌∙◌, subst as transport}
use Rattle.std.proofs.lemmas.Option.{same_Some, slice_get_within}
use Rattle.class_order.specs.declared.header.Header.{Header}
use Rattle.dart_ir.specs.declared.class.Classes.{Classes}
use Rattle.class_fault.specs.declared.program.Clause.{Clause}
use Rattle.class_fault.specs.declared.program.HeaderType.{HeaderType}
use Rattle.class_fault.specs.declared.program.Declaration.{Declaration}
use Rattle.class_fault.specs.declared.program.Program.{Program}
use Rattle.class_fault.specs.declared.fault.Reason.{Reason}
use Rattle.class_fault.specs.declared.fault.Fault.{Fault}
use Rattle.class_fault.specs.Program.{declaration_at}
use Rattle.class_fault.specs.Reach.{LeadsTo}
use Rattle.class_fault.specs.Fault.{IsVerdict, no_class, leads_back, decided, static_reason, IsFirst, no_more, here, later, IsFirstFrom, past, in_class, in_later, header_types}
use Rattle.class_table.specs.Built.{IsBuilt, IsRefused}
use Rattle.laws_class.proofs.Graphs.{same_graphs, leads_to_same}

some_none : {A : Type 0} (x : A) → Some x ≡ None → ⊥
some_none x q = cc

-- both name one class
one_class : (o : Option ℕ) (d e : ℕ) → o ≡ Some d → o ≡ Some e → d ≡ e
one_class o d e q r = same_Some d e (sym q ∙ r)

one_declaration : (o : Option Declaration) (i j : Declaration) → o ≡ Some i → o ≡ Some j → i ≡ j
one_declaration o i j q r = same_Some i j (sym q ∙ r)

module _ (p : Program) (hs gs : List Header) (to : (d e : ℕ) → LeadsTo hs d e → LeadsTo gs d e) (back : (d e : ℕ) → LeadsTo gs d e → LeadsTo hs d e) where
  verdict_one : (d : ℕ) (clause : Clause) (t : HeaderType) (r s : Option Reason) → IsVerdict p hs d clause t r → IsVerdict p gs d clause t s → r ≡ s
  verdict_one d clause t _ _ (no_class q) (no_class m) = refl
  verdict_one d clause t _ _ (no_class q) (leads_back f m l) = absurd (some_none f (sym m ∙ q))
  verdict_one d clause t _ _ (no_class q) (decided f c n m l v w) = absurd (some_none f (sym m ∙ q))
  verdict_one d clause t _ _ (leads_back e q l) (no_class m) = absurd (some_none e (sym q ∙ m))
  verdict_one d clause t _ _ (leads_back e q l) (leads_back f m k) = refl
  verdict_one d clause t _ _ (leads_back e q l) (decided f c n m k v w) = absurd (k (transport (λ z. LeadsTo gs z d) (one_class _ e f q m) (to e d l)))
  verdict_one d clause t _ _ (decided e c n q l v w) (no_class m) = absurd (some_none e (sym q ∙ m))
  verdict_one d clause t _ _ (decided e c n q l v w) (leads_back f m k) = absurd (l (transport (λ z. LeadsTo hs z d) (one_class _ f e m q) (back f d k)))
  verdict_one d clause t _ _ (decided e c n q l v w) (decided f b o m k x y) =
      let a : e ≡ f = one_class _ e f q m in
      let g : c ≡ b = one_declaration _ c b v x in
      let h : n ≡ o = one_declaration _ n o w (ap (declaration_at p) a ∙ y) in
      ap (λ z. static_reason p c z n clause) a ∙ ap (λ z. static_reason p z f n clause) g ∙ ap (λ z. static_reason p b f z clause) h

  first_one : (d : ℕ) (ts : List (Clause × HeaderType)) (f g : Option Fault) → IsFirst p hs d ts f → IsFirst p gs d ts g → f ≡ g
  first_one d _ _ _ no_more no_more = refl
  first_one d _ _ _ (here clause t ts r v) (here _ _ _ s w) = ap (λ z. Some (record { place = t.place; reason = z }))
      (same_Some r s (verdict_one d clause t _ _ v w))
  first_one d _ _ _ (here clause t ts r v) (later _ _ _ g w n) = absurd (some_none r (verdict_one d clause t _ _ v w))
  first_one d _ _ _ (later clause t ts f v m) (here _ _ _ s w) = absurd (some_none s (sym (verdict_one d clause t _ _ v w)))
  first_one d _ _ _ (later clause t ts f v m) (later _ _ _ g w n) = first_one d ts f g m n

  first_in : (d : ℕ) (i j : Declaration) (f g : Option Fault) → declaration_at p d ≡ Some i → declaration_at p d ≡ Some j → IsFirst p hs d (header_types i) f
      → IsFirst p gs d (header_types j) g → f ≡ g
  first_in d i j f g q r v w =
      first_one d (header_types i) f g v (transport (λ z. IsFirst p gs d (header_types z) g) (one_declaration _ j i r q) w)

  declared : (d : ℕ) (i : Declaration) → declaration_at p d ≡ Some i → length p.declarations.items ≤ d → ⊥
  declared d i q l = let w = slice_get_within p.declarations.items d i q in omega (arith, w, l)

  first_from_one : (d : ℕ) (f g : Option Fault) → IsFirstFrom p hs d f → IsFirstFrom p gs d g → f ≡ g
  first_from_one _ _ _ (past d l) (past _ m) = refl
  first_from_one _ _ _ (past d l) (in_class _ j g r w) = absurd (declared d j r l)
  first_from_one _ _ _ (past d l) (in_later _ j g r w n) = absurd (declared d j r l)
  first_from_one _ _ _ (in_class d i f q v) (past _ m) = absurd (declared d i q m)
  first_from_one _ _ _ (in_class d i f q v) (in_class _ j g r w) = first_in d i j (Some f) (Some g) q r v w
  first_from_one _ _ _ (in_class d i f q v) (in_later _ j g r w n) = absurd (some_none f (first_in d i j (Some f) None q r v w))
  first_from_one _ _ _ (in_later d i f q v m) (past _ l) = absurd (declared d i q l)
  first_from_one _ _ _ (in_later d i f q v m) (in_class _ j g r w) = absurd (some_none g (sym (first_in d i j None (Some g) q r v w)))
  first_from_one _ _ _ (in_later d i f q v m) (in_later _ j g r w n) = first_from_one _ f g m n

pub not_both : (p : Program) (k : Classes) (f : Fault) → IsBuilt p k → IsRefused p f → ⊥
not_both p k f a b =
    let s = same_graphs p a.headers b.headers a.graph b.graph in
    let t = same_graphs p b.headers a.headers b.graph a.graph in
    some_none f
    (sym (first_from_one p a.headers b.headers (leads_to_same a.headers b.headers s) (leads_to_same b.headers a.headers t) 0 None (Some f) a.no_fault b.first))

pub fault_one : (p : Program) (f g : Fault) → IsRefused p f → IsRefused p g → f ≡ g
fault_one p f g a b =
    let s = same_graphs p a.headers b.headers a.graph b.graph in
    let t = same_graphs p b.headers a.headers b.graph a.graph in
    same_Some f g
    (first_from_one p a.headers b.headers (leads_to_same a.headers b.headers s) (leads_to_same b.headers a.headers t) 0 (Some f) (Some g) a.first b.first)
