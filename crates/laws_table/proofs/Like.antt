-- Declarations of one shape: what is read of them is the same.
use Rattle.std.proofs.Common.{◌≡◌, ℕ, ◌-◌, ◌==◌, ◌&&◌, ◌||◌, List, [], ◌∷◌, ◌++◌, map, length, Bool, false, cond, Option, Some, None, refl, sym, ap, ◌∙◌}
use Rattle.std.proofs.lemmas.List.{length-map}
use Rattle.dart_base.specs.declared.name.Name.{Name}
use Rattle.dart_ir.specs.Ty.{ty}
use Rattle.class_fault.specs.declared.program.HeaderType.{HeaderType}
use Rattle.class_fault.specs.declared.program.Member.{Member}
use Rattle.class_fault.specs.declared.program.Declaration.{Declaration}
use Rattle.class_fault.specs.declared.program.Program.{Program}
use Rattle.class_fault.specs.Program.{class_named, is_method, has_method, declares_call}
use Rattle.class_fault.specs.Graph.{class_before, named_classes, superclass_named, function_if, above_of, applied}
use Rattle.class_within.specs.Seen as s
use Rattle.class_within.specs.View as view
use Rattle.laws_table.specs.Shape as shape

pub length_like : {A B : Type 0} (show : A → B) (xs ys : List A) → map show xs ≡ map show ys → length xs ≡ length ys
length_like show xs ys e = sym (length-map xs show) ∙ ap length e ∙ length-map ys show

-- ---- header types

pub type_like : (t u : HeaderType) → view.header_type t ≡ view.header_type u → ty t.of ≡ ty u.of
type_like t u e = ap (λ (z : s.HeaderType). z.of) e

pub place_like : (t u : HeaderType) → view.header_type t ≡ view.header_type u → t.place ≡ u.place
place_like t u e = ap (λ (z : s.HeaderType). z.place) e

-- What is made of a superclass, or of a mixin where there is one: of none, and of a type.
pub option_like : {A : Type 0} (f g : Option HeaderType → A) → f None ≡ g None → ((t u : HeaderType) → view.header_type t ≡ view.header_type u → f (Some t) ≡ g (Some u))
    → (o u : Option HeaderType) → view.superclass o ≡ view.superclass u → f o ≡ g u
option_like f g none some None None e = none
option_like f g none some None (Some u) e = absurd (cc)
option_like f g none some (Some t) None e = absurd (cc)
option_like f g none some (Some t) (Some u) e = some t u (let q : view.header_type t ≡ view.header_type u = cc in q)

abbrev named_seen : List s.HeaderType → List ℕ
named_seen [] = []
named_seen (t ∷ ts) = class_before (class_named t.of) (named_seen ts)

named_read : (ts : List HeaderType) → named_classes ts ≡ named_seen (map view.header_type ts)
named_read [] = refl
named_read (t ∷ ts) = ap (class_before (class_named (ty t.of))) (named_read ts)

pub named_like : (ts us : List HeaderType) → map view.header_type ts ≡ map view.header_type us → named_classes ts ≡ named_classes us
named_like ts us e = named_read ts ∙ ap named_seen e ∙ sym (named_read us)

-- ---- members

abbrev method_seen : ℕ → List s.Member → Bool
method_seen name [] = false
method_seen name (m ∷ ms) = (m.name == name && is_method m.role) || method_seen name ms

method_read : (name : Name) (ms : List Member) → has_method name ms ≡ method_seen name.0 (map shape.member ms)
method_read name [] = refl
method_read name (m ∷ ms) = ap (λ b. (m.name.0 == name.0 && is_method m.role) || b) (method_read name ms)

-- ---- the declarations of two programs

module _ (p q : Program) (same : shape.program p ≡ shape.program q) where
  pub object_like : p.object ≡ q.object
  object_like = ap (λ (z : s.Program). z.object) same

  pub function_like : p.function ≡ q.function
  function_like = ap (λ (z : s.Program). z.function) same

  pub declarations_like : map shape.class p.declarations.items ≡ map shape.class q.declarations.items
  declarations_like = ap (λ (z : s.Program). z.classes) same

  pub superclass_named_like : (d : ℕ) (o u : Option HeaderType) → view.superclass o ≡ view.superclass u → superclass_named p d o ≡ superclass_named q d u
  superclass_named_like d o u e =
      option_like (superclass_named p d) (superclass_named q d) (ap (λ z. cond (d == z) [] (z ∷ [])) object_like)
      (λ t w f. ap (λ z. class_before (class_named z) []) (type_like t w f)) o u e

  module _ (i j : Declaration) (like : shape.class i ≡ shape.class j) where
    pub declares_call_like : declares_call p.call i ≡ declares_call q.call j
    declares_call_like =
        method_read p.call i.members.items
        ∙ ap (λ n. method_seen n (map shape.member i.members.items)) (ap (λ (z : s.Program). z.call) same)
        ∙ ap (λ (c : s.Class). method_seen q.call.0 c.members) like
        ∙ sym (method_read q.call j.members.items)

    pub applied_like : applied i ≡ applied j
    applied_like =
        ap (λ b. cond b (length i.mixins.items - 1) (length i.mixins.items)) (ap (λ (c : s.Class). c.is_application) like)
        ∙ ap (λ n. cond j.is_application (n - 1) n) (length_like view.header_type i.mixins.items j.mixins.items (ap (λ (c : s.Class). c.mixins) like))

    pub above_like : (d : ℕ) → above_of p d i ≡ above_of q d j
    above_like d =
        let a = superclass_named_like d i.superclass j.superclass (ap (λ (c : s.Class). c.superclass) like) in
        let m = named_like i.mixins.items j.mixins.items (ap (λ (c : s.Class). c.mixins) like) in
        let n = named_like i.interfaces.items j.interfaces.items (ap (λ (c : s.Class). c.interfaces) like) in
        let f : function_if p (declares_call p.call i) ≡ function_if q (declares_call q.call j) =
        ap (λ z. cond (declares_call p.call i) (z ∷ []) []) function_like ∙ ap (function_if q) declares_call_like in
        λ r. a r ++ m r ++ n r ++ f r
