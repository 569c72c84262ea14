-- Texts behind others.
use Rattle.std.proofs.Common.{◌≡◌, ℕ, ◌+◌, ◌<◌, ◌≤◌, List, [], length, get_or, drop, Option, Some, None, refl, sym, ap, ◌∙◌, append_assoc, append-nil}
use Rattle.std.proofs.lemmas.List.{at_drop_more, at_drop_all}
use Rattle.dart_base.specs.declared.place.Place.{Place}
use Rattle.dart_ir.specs.declared.kind.ThrowKind.TheVariants.{ArgumentError}
use Rattle.dart_ir.specs.declared.value.Value.{Value}
use Rattle.dart_ir.specs.declared.value.Value.TheVariants.{Null}
use Rattle.dart_ir.specs.Object.{text}
use Rattle.dart_store.specs.Heap.{Heap}
use Rattle.evaluation.specs.State.{State, Setting}
use Rattle.evaluation.specs.Objects.{add, throw_new}
use Rattle.evaluation.specs.Values.{units_of}
use Rattle.evaluation.specs.Creation.{behind, joined, joined_to, join}

behind_again : (u : List ℕ) (o q : Option (List ℕ)) → behind (Some u) (behind o q) ≡ behind (behind (Some u) o) q
behind_again u None q = refl
behind_again u (Some t) None = refl
behind_again u (Some t) (Some x) = ap (λ l. Some l) (sym (append_assoc u t x))

behind_nothing : (o : Option (List ℕ)) → behind (Some []) o ≡ o
behind_nothing None = refl
behind_nothing (Some x) = refl

behind_all : (u : List ℕ) → behind (Some u) (Some []) ≡ Some u
behind_all u = ap (λ l. Some l) (append-nil u)

-- the units of the values from an index on
abbrev pub rest : Setting → Heap → List Value → ℕ → Option (List ℕ)
rest s h vs i = joined s h (drop i vs)

rest_more : (s : Setting) (h : Heap) (vs : List Value) (i : ℕ) → i < length vs → rest s h vs i ≡ behind (units_of s h (get_or vs i Null)) (rest s h vs (i + 1))
rest_more s h vs i lt = at_drop_more (joined s h) vs i Null lt

pub part_joins : (s : Setting) (h : Heap) (u w : List ℕ) (vs : List Value) (i : ℕ) → i < length vs → behind (Some u) (units_of s h (get_or vs i Null)) ≡ Some w
    → behind (Some w) (rest s h vs (i + 1)) ≡ behind (Some u) (rest s h vs i)
part_joins s h u w vs i lt e =
    ap (λ o. behind o (rest s h vs (i + 1))) (sym e)
    ∙ sym (behind_again u (units_of s h (get_or vs i Null)) (rest s h vs (i + 1)))
    ∙ ap (λ o. behind (Some u) o) (sym (rest_more s h vs i lt))

behind_none : (u : List ℕ) (o : Option (List ℕ)) → behind (Some u) o ≡ None → o ≡ None
behind_none u None e = refl
behind_none u (Some x) e = cc

pub part_stops : (s : Setting) (h : Heap) (u w : List ℕ) (vs : List Value) (i : ℕ) → i < length vs → units_of s h (get_or vs i Null) ≡ None
    → behind (Some w) (rest s h vs i) ≡ behind (Some u) (joined s h vs) → joined s h vs ≡ None
part_stops s h u w vs i lt e inv =
    behind_none u (joined s h vs)
    (sym inv ∙ ap (λ o. behind (Some w) o) (rest_more s h vs i lt ∙ ap (λ o. behind o (rest s h vs (i + 1))) e))

pub parts_end : (s : Setting) (h : Heap) (u w : List ℕ) (vs : List Value) (i : ℕ) → length vs ≤ i
    → behind (Some w) (rest s h vs i) ≡ behind (Some u) (joined s h vs) → behind (Some u) (joined s h vs) ≡ Some w
parts_end s h u w vs i le inv = sym inv ∙ ap (λ o. behind (Some w) o) (at_drop_all (joined s h) vs i le) ∙ behind_all w

pub join_all : (s : Setting) (at : Place) (vs : List Value) (st : State) (units : List ℕ) → behind (Some []) (joined s st.heap vs) ≡ Some units
    → join s at vs st ≡ add (text units) st
join_all s at vs st units h = ap (λ o. joined_to s at o st) (sym (behind_nothing (joined s st.heap vs)) ∙ h)

pub join_none : (s : Setting) (at : Place) (vs : List Value) (st : State) → joined s st.heap vs ≡ None
    → join s at vs st ≡ throw_new s.known at ArgumentError Null st
join_none s at vs st h = ap (λ o. joined_to s at o st) h
