-- Verdicts, as the code comes to them.
use Rattle.std.proofs.Common.{◌≡◌, ℕ, zero, suc, ◌∷◌, ◌++◌, inl, inr, ◌<◌, ◌≤◌, ◌+◌, ◌↔◌, IsTrue, Bool, true, false, List, [], length, map, get_or, drop, refl, sym, ap, ◌∙◌, arith, Option, Some, None, slice_get, subst as transport}
use Rattle.std.proofs.lemmas.List.{drop_more, drop_all}
use Rattle.std.proofs.lemmas.Option.{slice_get_read, same_Some}
use Rattle.class_order.specs.Order.{Leads, names, passes, HasCycle}
use Rattle.class_fault.specs.declared.program.Clause.TheVariants.{Extends, With, Implements}
use Rattle.class_order.specs.declared.header.Header.{Header}
use Rattle.dart_ir.specs.Ty.{ty}
use Rattle.class_fault.specs.declared.fault.Reason.{Reason}
use Rattle.class_fault.specs.declared.fault.Fault.{Fault}
use Rattle.class_fault.specs.declared.program.Clause.{Clause}
use Rattle.class_fault.specs.declared.program.HeaderType.{HeaderType}
use Rattle.class_fault.specs.declared.program.Declaration.{Declaration}
use Rattle.class_fault.specs.declared.program.Program.{Program}
use Rattle.class_fault.specs.Program.{declaration_at, class_named}
use Rattle.class_fault.specs.Reach.{LeadsTo}
use Rattle.class_fault.specs.Fault.{static_reason, IsVerdict, decided, IsFirst, no_more, here, later, IsFirstFrom, in_class, in_later, in_clause, extended, header_types}

true_false : (b : Bool) → b ≡ true → b ≡ false → ⊥
true_false b h k = cc

pub decided_read : (p : Program) (hs : List Header) (d e : ℕ) (clause : Clause) (t : HeaderType) (c n : Declaration) (b : Bool) (r : Option Reason) → class_named (ty t.of) ≡ Some e → d < length p.declarations.items → e < length p.declarations.items
    → c ≡ get_or p.declarations.items d c → n ≡ get_or p.declarations.items e n → (IsTrue b ↔ LeadsTo hs e d) → b ≡ false → r ≡ static_reason p c e n clause → IsVerdict p hs d clause t r
decided_read p hs d e clause t c n b r q k m ci ni leads fails s =
    transport (IsVerdict p hs d clause t) (sym s)
    (decided e c n q (λ x. true_false b (leads.1 x) fails) (slice_get_read p.declarations.items (length p.declarations.items) d c refl k ci) (slice_get_read p.declarations.items (length p.declarations.items) e n refl m ni))

module _ (p : Program) (hs : List Header) (d : ℕ) (clause : Clause) (ts : List HeaderType) (i : ℕ) (x : HeaderType) (is : x ≡ get_or ts i x) (leads : (f : Option Fault) → IsFirst p hs d (in_clause clause (drop i ts)) f → IsFirst p hs d (in_clause clause ts) f) where
  rest : i < length ts → drop i ts ≡ x ∷ drop (i + 1) ts
  rest l = drop_more ts i x l ∙ ap (λ y. y ∷ drop (i + 1) ts) (sym is)

  pub first_here : (o : Option Reason) (r : Reason) → i < length ts → o ≡ Some r → IsVerdict p hs d clause x o → IsFirst p hs d (in_clause clause ts) (Some (record { place = x.place; reason = r }))
  first_here o r l q v =
      leads _ (transport (λ ys. IsFirst p hs d (in_clause clause ys) (Some (record { place = x.place; reason = r }))) (sym (rest l)) (here clause x (in_clause clause (drop (i + 1) ts)) r (transport (IsVerdict p hs d clause x) q v)))

  pub first_later : (o : Option Reason) → i < length ts → o ≡ None → IsVerdict p hs d clause x o → (f : Option Fault) → IsFirst p hs d (in_clause clause (drop (i + 1) ts)) f → IsFirst p hs d (in_clause clause ts) f
  first_later o l q v f r =
      leads f (transport (λ ys. IsFirst p hs d (in_clause clause ys) f) (sym (rest l)) (later clause x (in_clause clause (drop (i + 1) ts)) f (transport (IsVerdict p hs d clause x) q v) r))

pub first_none : (p : Program) (hs : List Header) (d : ℕ) (clause : Clause) (ts : List HeaderType) (i : ℕ) → ((f : Option Fault) → IsFirst p hs d (in_clause clause (drop i ts)) f → IsFirst p hs d (in_clause clause ts) f) → length ts ≤ i → IsFirst p hs d (in_clause clause ts) None
first_none p hs d clause ts i leads l = leads None (transport (λ ys. IsFirst p hs d (in_clause clause ys) None) (sym (drop_all i ts l)) no_more)

-- a first fault among some types is one among them and others behind
pub first_front : (p : Program) (hs : List Header) (d : ℕ) (xs ys : List (Clause × HeaderType)) (o : Option Fault) (f : Fault) → o ≡ Some f → IsFirst p hs d xs o → IsFirst p hs d (xs ++ ys) (Some f)
first_front p hs d [] ys _ f q no_more = absurd (cc)
first_front p hs d (x ∷ xs) ys _ f q (here clause t _ r v) = transport (IsFirst p hs d (x ∷ (xs ++ ys))) q (here clause t (xs ++ ys) r v)
first_front p hs d (x ∷ xs) ys o f q (later clause t _ _ v r) = later clause t (xs ++ ys) (Some f) v (first_front p hs d xs ys o f q r)

-- where there is none among some types, it is the first among others behind
pub first_behind : (p : Program) (hs : List Header) (d : ℕ) (xs ys : List (Clause × HeaderType)) (o f : Option Fault) → o ≡ None → IsFirst p hs d xs o → IsFirst p hs d ys f → IsFirst p hs d (xs ++ ys) f
first_behind p hs d [] ys _ f q no_more s = s
first_behind p hs d (x ∷ xs) ys _ f q (here clause t _ r v) s = absurd (cc)
first_behind p hs d (x ∷ xs) ys o f q (later clause t _ _ v r) s = later clause t (xs ++ ys) f v (first_behind p hs d xs ys o f q r s)

-- the first fault of a whole header
module _ (p : Program) (hs : List Header) (d : ℕ) (i : Declaration) (at : declaration_at p d ≡ Some i) where
  whole : (o : Option Fault) → IsFirst p hs d (header_types i) o → (j : Declaration) → declaration_at p d ≡ Some j → IsFirst p hs d (header_types j) o
  whole o r j q = transport (λ z. IsFirst p hs d (header_types z) o) (same_Some i j (sym at ∙ q)) r

  pub superclass_first : (o : Option Fault) (f : Fault) → o ≡ Some f → IsFirst p hs d (extended i.superclass) o → (j : Declaration) → declaration_at p d ≡ Some j → IsFirst p hs d (header_types j) (Some f)
  superclass_first o f q r =
      whole (Some f) (first_front p hs d (extended i.superclass ++ in_clause With i.mixins.items) (in_clause Implements i.interfaces.items) (Some f) f refl (first_front p hs d (extended i.superclass) (in_clause With i.mixins.items) o f q r))

  pub mixin_first : (n o : Option Fault) (f : Fault) → n ≡ None → IsFirst p hs d (extended i.superclass) n → (ts : List HeaderType) → ts ≡ i.mixins.items → o ≡ Some f → IsFirst p hs d (in_clause With ts) o → (j : Declaration) → declaration_at p d ≡ Some j → IsFirst p hs d (header_types j) (Some f)
  mixin_first n o f q r ts e s v =
      whole (Some f) (first_front p hs d (extended i.superclass ++ in_clause With i.mixins.items) (in_clause Implements i.interfaces.items) (Some f) f refl
      (first_behind p hs d (extended i.superclass) (in_clause With i.mixins.items) n (Some f) q r (transport (λ z. IsFirst p hs d (in_clause With z) (Some f)) e (transport (IsFirst p hs d (in_clause With ts)) s v))))

  pub interface_first : (n m o : Option Fault) → n ≡ None → IsFirst p hs d (extended i.superclass) n → (ts us : List HeaderType) → ts ≡ i.mixins.items → us ≡ i.interfaces.items → m ≡ None → IsFirst p hs d (in_clause With ts) m → IsFirst p hs d (in_clause Implements us) o → (j : Declaration) → declaration_at p d ≡ Some j → IsFirst p hs d (header_types j) o
  interface_first n m o q r ts us e f s v w =
      whole o (first_behind p hs d (extended i.superclass ++ in_clause With i.mixins.items) (in_clause Implements i.interfaces.items) None o refl
      (first_behind p hs d (extended i.superclass) (in_clause With i.mixins.items) n None q r (transport (λ z. IsFirst p hs d (in_clause With z) None) e (transport (IsFirst p hs d (in_clause With ts)) s v)))
      (transport (λ z. IsFirst p hs d (in_clause Implements z) o) f w))

-- the superclass has no fault, or one
pub no_superclass_fault : (p : Program) (hs : List Header) (d : ℕ) (o : Option HeaderType) → o ≡ None → IsFirst p hs d (extended o) None
no_superclass_fault p hs d o q = transport (λ z. IsFirst p hs d (extended z) None) (sym q) no_more

pub sound_superclass : (p : Program) (hs : List Header) (d : ℕ) (o : Option HeaderType) (t : HeaderType) (r : Option Reason) → o ≡ Some t → IsVerdict p hs d Extends t r → r ≡ None → IsFirst p hs d (extended o) None
sound_superclass p hs d o t r q v s = transport (λ z. IsFirst p hs d (extended z) None) (sym q) (later Extends t [] None (transport (IsVerdict p hs d Extends t) s v) no_more)

pub bad_superclass : (p : Program) (hs : List Header) (d : ℕ) (o : Option HeaderType) (t : HeaderType) (r : Option Reason) (s : Reason) → o ≡ Some t → IsVerdict p hs d Extends t r → r ≡ Some s → IsFirst p hs d (extended o) (Some (record { place = t.place; reason = s }))
bad_superclass p hs d o t r s q v e = transport (λ z. IsFirst p hs d (extended z) (Some (record { place = t.place; reason = s }))) (sym q) (here Extends t [] s (transport (IsVerdict p hs d Extends t) e v))

leads_through : (hs : List Header) (d e f : ℕ) → Leads hs d e → Leads hs e f → Leads hs d f
leads_through hs _ _ f (names d k l) r = passes d k f l r
leads_through hs _ _ f (passes d k e l s) r = passes d k f l (leads_through hs _ e f s r)

-- where no class leads back to itself, no class that a header names leads back
pub not_led : (hs : List Header) (d e : ℕ) → (HasCycle hs → ⊥) → Leads hs d e → IsTrue false ↔ LeadsTo hs e d
not_led hs d e none n = (λ h. absurd (true_false false h refl), λ r. absurd (back r))
  where
    back : LeadsTo hs e d → ⊥
    back (inl q) = none (d, transport (Leads hs d) q n)
    back (inr r) = none (d, leads_through hs d e d n r)

module _ (p : Program) (hs : List Header) (d : ℕ) (leads : (f : Option Fault) → IsFirstFrom p hs d f → IsFirstFrom p hs 0 f) (l : d < length p.declarations.items) (o : Option Fault) (v : (i : Declaration) → declaration_at p d ≡ Some i → IsFirst p hs d (header_types i) o) where
  some_in : (xs : List Declaration) (i : ℕ) → i < length xs → (x : Declaration) × (slice_get xs i ≡ Some x)
  some_in [] i l = absurd (omega (arith, l))
  some_in (x ∷ xs) zero l = (x, refl)
  some_in (x ∷ xs) (suc i) l = some_in xs i (omega (arith, l))

  the_class : (i : Declaration) × (declaration_at p d ≡ Some i)
  the_class = some_in p.declarations.items d l

  pub from_here : (f : Fault) → o ≡ Some f → IsFirstFrom p hs 0 (Some f)
  from_here f q = leads (Some f) (in_class d the_class.0 f the_class.1 (transport (IsFirst p hs d (header_types the_class.0)) q (v the_class.0 the_class.1)))

  pub from_later : o ≡ None → (f : Option Fault) → IsFirstFrom p hs (d + 1) f → IsFirstFrom p hs 0 f
  from_later q f r = leads f (in_later d the_class.0 f the_class.1 (transport (IsFirst p hs d (header_types the_class.0)) q (v the_class.0 the_class.1)) r)
