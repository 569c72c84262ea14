-- What a header names stands in the graph.
use Rattle.std.proofs.Common.{◌≡◌, ℕ, zero, suc, ◌<◌, ◌≤◌, ◌+◌, ◌⊎◌, inl, inr, Bool, true, false, cond, List, [], ◌∷◌, ◌++◌, length, get_or, take, Option, Some, None, slice_get, arith, refl, sym, ap, ◌∙◌, append_assoc, subst as transport}
use Rattle.std.proofs.lemmas.List.{take_more, length_push, drop_more}
use Rattle.std.proofs.lemmas.Option.{same_Some, slice_get_within}
use Rattle.class_order.proofs.Lists.{push_cases}
use Rattle.class_order.specs.declared.header.Header.{Header}
use Rattle.class_order.specs.Order.{above, above_in, AreListed, Leads, names}
use Rattle.class_order.specs.Rows.{applications, applications_in}
use Rattle.dart_ir.specs.Ty.{ty}
use Rattle.class_fault.specs.declared.program.HeaderType.{HeaderType}
use Rattle.class_fault.specs.declared.program.Declaration.{Declaration}
use Rattle.class_fault.specs.declared.program.Program.{Program}
use Rattle.class_fault.specs.Program.{declaration_at, class_named, declares_call}
use Rattle.class_fault.specs.Graph.{class_before, named_classes, superclass_named, function_if, above_of, applied, IsGraph}
use Rattle.class_fault.specs.Scan.{IsNamed, IsSomeNamed, AreNamed}

-- an element of a list
abbrev pub Among : ℕ → List ℕ → Type 0
Among e xs = (j : ℕ) × (j < length xs) × (get_or xs j 0 ≡ e)

pub among_later : (e x : ℕ) (xs : List ℕ) → Among e xs → Among e (x ∷ xs)
among_later e x xs a = (suc a.0, omega (arith, a.1), a.2)

pub among_left : (e : ℕ) (xs ys : List ℕ) → Among e xs → Among e (xs ++ ys)
among_left e [] ys a = absurd (omega (arith, a.1))
among_left e (x ∷ xs) ys a = first (λ b. among_left e xs ys b) a.0 a.1 a.2
  where
    first : (Among e xs → Among e (xs ++ ys)) → (j : ℕ) → j < length (x ∷ xs) → get_or (x ∷ xs) j 0 ≡ e → Among e (x ∷ (xs ++ ys))
    first rest zero l q = (zero, omega arith, q)
    first rest (suc j) l q = among_later e x (xs ++ ys) (rest (j, omega (arith, l), q))

pub among_right : (e : ℕ) (xs ys : List ℕ) → Among e ys → Among e (xs ++ ys)
among_right e [] ys a = a
among_right e (x ∷ xs) ys a = among_later e x (xs ++ ys) (among_right e xs ys a)

pub among_parts : (e : ℕ) (xs ys : List ℕ) → Among e (xs ++ ys) → Among e xs ⊎ Among e ys
among_parts e [] ys a = inr a
among_parts e (x ∷ xs) ys a = first (λ b. among_parts e xs ys b) a.0 a.1 a.2
  where
    first : (Among e (xs ++ ys) → Among e xs ⊎ Among e ys) → (j : ℕ) → j < length (x ∷ (xs ++ ys)) → get_or (x ∷ (xs ++ ys)) j 0 ≡ e → Among e (x ∷ xs) ⊎ Among e ys
    first rest zero l q = inl (zero, omega arith, q)
    first rest (suc j) l q = elim (rest (j, omega (arith, l), q)) [ inl b ↦ inl (among_later e x xs b) | inr b ↦ inr b ]

pub among_none : (e : ℕ) → Among e [] → ⊥
among_none e a = omega (arith, a.1)

pub among_one : (e x : ℕ) → Among e (x ∷ []) → x ≡ e
among_one e x a = let q : a.0 ≡ 0 = omega (arith, a.1) in transport (λ j. get_or (x ∷ []) j 0 ≡ e) q a.2

-- the class that is named first
at_first : (e : ℕ) (es : List ℕ) (o : Option ℕ) → o ≡ Some e → Among e (class_before o es)
at_first e es None q = absurd (cc)
at_first e es (Some d) q = (zero, omega arith, same_Some d e q)

behind : (e : ℕ) (o : Option ℕ) (es : List ℕ) → Among e es → Among e (class_before o es)
behind e None es a = a
behind e (Some d) es a = among_later e d es a

pub among_named : (ts : List HeaderType) (k : ℕ) (t : HeaderType) (e : ℕ) → slice_get ts k ≡ Some t → class_named (ty t.of) ≡ Some e → Among e (named_classes ts)
among_named [] k t e q n = absurd (cc)
among_named (u ∷ ts) zero t e q n = at_first e (named_classes ts) (class_named (ty u.of)) (ap (λ (z : HeaderType). class_named (ty z.of)) (same_Some u t q) ∙ n)
among_named (u ∷ ts) (suc k) t e q n = behind e (class_named (ty u.of)) (named_classes ts) (among_named ts k t e q n)

-- a type of a list that names a class
abbrev pub NamedBy : ℕ → List HeaderType → Type 0
NamedBy e ts = (k : ℕ) × (t : HeaderType) × (slice_get ts k ≡ Some t) × (class_named (ty t.of) ≡ Some e)

pub named_by : (e : ℕ) (ts : List HeaderType) → Among e (named_classes ts) → NamedBy e ts
named_by e [] a = absurd (among_none e a)
named_by e (u ∷ ts) a = first (λ b. named_by e ts b) (class_named (ty u.of)) refl a
  where
    later : NamedBy e ts → NamedBy e (u ∷ ts)
    later b = (suc b.0, b.1, b.2, b.3)

    after : (Among e (named_classes ts) → NamedBy e ts) → (d j : ℕ) → class_named (ty u.of) ≡ Some d → j < length (d ∷ named_classes ts) → get_or (d ∷ named_classes ts) j 0 ≡ e → NamedBy e (u ∷ ts)
    after rest d zero q l r = (zero, u, refl, q ∙ ap Some r)
    after rest d (suc j) q l r = later (rest (j, omega (arith, l), r))

    first : (Among e (named_classes ts) → NamedBy e ts) → (o : Option ℕ) → class_named (ty u.of) ≡ o → Among e (class_before o (named_classes ts)) → NamedBy e (u ∷ ts)
    first rest None q b = later (rest b)
    first rest (Some d) q b = after rest d b.0 q b.1 b.2

-- the classes that one more type names
pub named_more : (ts us : List HeaderType) → named_classes (ts ++ us) ≡ named_classes ts ++ named_classes us
named_more [] us = refl
named_more (t ∷ ts) us = first (named_more ts us) (class_named (ty t.of))
  where
    first : named_classes (ts ++ us) ≡ named_classes ts ++ named_classes us → (o : Option ℕ) → class_before o (named_classes (ts ++ us)) ≡ class_before o (named_classes ts) ++ named_classes us
    first rest None = rest
    first rest (Some d) = ap (λ z. d ∷ z) rest

-- the parts of what stands above a class
module _ (p : Program) (d : ℕ) (i : Declaration) (e : ℕ) where
  pub among_superclass : Among e (superclass_named p d i.superclass) → Among e (above_of p d i)
  among_superclass a =
      among_left e (superclass_named p d i.superclass ++ named_classes i.mixins.items ++ named_classes i.interfaces.items) (function_if p (declares_call p.call i))
      (among_left e (superclass_named p d i.superclass ++ named_classes i.mixins.items) (named_classes i.interfaces.items) (among_left e (superclass_named p d i.superclass) (named_classes i.mixins.items) a))

  pub among_mixins : Among e (named_classes i.mixins.items) → Among e (above_of p d i)
  among_mixins a =
      among_left e (superclass_named p d i.superclass ++ named_classes i.mixins.items ++ named_classes i.interfaces.items) (function_if p (declares_call p.call i))
      (among_left e (superclass_named p d i.superclass ++ named_classes i.mixins.items) (named_classes i.interfaces.items) (among_right e (superclass_named p d i.superclass) (named_classes i.mixins.items) a))

  pub among_interfaces : Among e (named_classes i.interfaces.items) → Among e (above_of p d i)
  among_interfaces a =
      among_left e (superclass_named p d i.superclass ++ named_classes i.mixins.items ++ named_classes i.interfaces.items) (function_if p (declares_call p.call i))
      (among_right e (superclass_named p d i.superclass ++ named_classes i.mixins.items) (named_classes i.interfaces.items) a)

  pub among_function : Among e (function_if p (declares_call p.call i)) → Among e (above_of p d i)
  among_function a = among_right e (superclass_named p d i.superclass ++ named_classes i.mixins.items ++ named_classes i.interfaces.items) (function_if p (declares_call p.call i)) a

module _ (p : Program) (hs : List Header) (graph : IsGraph p hs) (listed : AreListed hs) (d : ℕ) (i : Declaration) (at : declaration_at p d ≡ Some i) where
  -- what is among the classes above
  pub leads_above : (e : ℕ) → Among e (above_of p d i) → (e < length hs) × Leads hs d e
  leads_above e a =
      let b : Among e (above hs d) = transport (Among e) (sym (graph.above d i at)) a in
      (transport (λ z. z < length hs) b.2 (listed d b.0 b.1), transport (Leads hs d) b.2 (names d b.0 b.1))

  pub superclass_is_named : IsSomeNamed hs d i.superclass
  superclass_is_named = case i.superclass refl
    where
      case : (o : Option HeaderType) → i.superclass ≡ o → IsSomeNamed hs d o
      case None q = tt
      case (Some t) q = λ e n. leads_above e (among_superclass p d i e (transport (λ o. Among e (superclass_named p d o)) (sym q) (at_first e [] (class_named (ty t.of)) n)))

  pub mixins_are_named : AreNamed hs d i.mixins.items
  mixins_are_named k t q = λ e n. leads_above e (among_mixins p d i e (among_named i.mixins.items k t e q n))

  pub interfaces_are_named : AreNamed hs d i.interfaces.items
  interfaces_are_named k t q = λ e n. leads_above e (among_interfaces p d i e (among_named i.interfaces.items k t e q n))

-- the headers of the first n classes
pub record AreHeaders (p : Program) (n : ℕ) (hs : List Header) : Type 0 where
  pub size : length hs ≡ n
  pub each : (d : ℕ) (h : Header) → slice_get hs d ≡ Some h → (i : Declaration) → declaration_at p d ≡ Some i → (h.above.items ≡ above_of p d i) × (h.applications ≡ applied i)

slice_get_at : {A : Type 0} (xs : List A) (x : A) (i : ℕ) → i ≡ length xs → slice_get (xs ++ x ∷ []) i ≡ Some x
slice_get_at [] x zero q = refl
slice_get_at [] x (suc i) q = absurd (omega (arith, q))
slice_get_at (y ∷ xs) x zero q = absurd (omega (arith, q))
slice_get_at (y ∷ xs) x (suc i) q = slice_get_at xs x i (omega (arith, q))

slice_get_left : {A : Type 0} (xs ys : List A) (i : ℕ) (x : A) → i < length xs → slice_get (xs ++ ys) i ≡ Some x → slice_get xs i ≡ Some x
slice_get_left [] ys i x l q = absurd (omega (arith, l))
slice_get_left (y ∷ xs) ys zero x l q = q
slice_get_left (y ∷ xs) ys (suc i) x l q = slice_get_left xs ys i x (omega (arith, l)) q

pub headers_more : (p : Program) (n : ℕ) (hs gs : List Header) (h : Header) (i : Declaration) → AreHeaders p n hs → gs ≡ hs ++ h ∷ [] → declaration_at p n ≡ Some i → h.above.items ≡ above_of p n i → h.applications ≡ applied i → AreHeaders p (n + 1) gs
headers_more p n hs gs h i a e at up apps = transport (AreHeaders p (n + 1)) (sym e) (record {
  size = length_push hs h ∙ ap (λ z. z + 1) a.size;
  each = λ d g q j r. elim (push_cases hs h d (slice_get_within (hs ++ h ∷ []) d g q)) [ inl l ↦ a.each d g (slice_get_left hs (h ∷ []) d g l q) j r | inr m ↦ last d g m q j r ];
})
  where
    last : (d : ℕ) (g : Header) → d ≡ length hs → slice_get (hs ++ h ∷ []) d ≡ Some g → (j : Declaration) → declaration_at p d ≡ Some j → (g.above.items ≡ above_of p d j) × (g.applications ≡ applied j)
    last d g m q j r =
        let s : h ≡ g = same_Some h g (sym (slice_get_at hs h d m) ∙ q) in
        let w : d ≡ n = m ∙ a.size in
        let v : i ≡ j = same_Some i j (sym at ∙ ap (declaration_at p) (sym w) ∙ r) in
        (ap (λ (z : Header). z.above.items) (sym s) ∙ up ∙ ap (above_of p n) v ∙ ap (λ z. above_of p z j) (sym w), ap (λ (z : Header). z.applications) (sym s) ∙ apps ∙ ap applied v)

some_in : {A : Type 0} (xs : List A) (i : ℕ) → i < length xs → (x : A) × (slice_get xs i ≡ Some x)
some_in [] i l = absurd (omega (arith, l))
some_in (x ∷ xs) zero l = (x, refl)
some_in (x ∷ xs) (suc i) l = some_in xs i (omega (arith, l))

pub graph_whole : (p : Program) (hs : List Header) → AreHeaders p (length p.declarations.items) hs → IsGraph p hs
graph_whole p hs a = record {
  size = a.size;
  above = λ d i at. let x = here d i at in ap above_in x.1 ∙ (a.each d x.0 x.1 i at).0;
  applications = λ d i at. let x = here d i at in ap applications_in x.1 ∙ (a.each d x.0 x.1 i at).1;
}
  where
    here : (d : ℕ) (i : Declaration) → declaration_at p d ≡ Some i → (h : Header) × (slice_get hs d ≡ Some h)
    here d i at = let l = slice_get_within p.declarations.items d i at in let s = a.size in some_in hs d (omega (arith, l, s))

-- the classes that the first i + 1 types name
pub named_next : (ts : List HeaderType) (i : ℕ) (t : HeaderType) (o : Option ℕ) (xs : List ℕ) → i < length ts → t ≡ get_or ts i t → o ≡ class_named (ty t.of) → xs ++ named_classes (take i ts) ++ class_before o [] ≡ xs ++ named_classes (take (i + 1) ts)
named_next ts i t o xs l is q =
    append_assoc xs (named_classes (take i ts)) (class_before o [])
    ∙ ap (λ z. xs ++ z) (ap (λ z. named_classes (take i ts) ++ class_before z []) q ∙ sym (named_more (take i ts) (t ∷ [])) ∙ ap named_classes (ap (λ z. take i ts ++ z ∷ []) is ∙ sym (take_more ts i t l)))
