-- Variables of a body that has no cells.
use Rattle.std.proofs.Common.{◌≡◌, ◌≢◌, ℕ, List, [], ◌∷◌, length, map, nat_eq, position, is_some, refl, sym, ap, ◌∙◌}
use Rattle.dart_ir.specs.declared.value.Value.{Value}
use Rattle.dart_ir.specs.declared.value.Value.TheVariants.{Null}
use Rattle.dart_store.specs.Heap.{Heap}
use Rattle.evaluation.specs.State.{State, Activation, Setting, answer, ends, now}
use Rattle.evaluation.specs.Sequence.{on_answer, in_order}
use Rattle.evaluation.specs.Variables.{slot, with_slot, taken_along, own_cells, in_slot, own_room, room, room_at, value_in, variable, write, write_in, copied, copy}

room_is : (s : Setting) (a : Activation) (h : Heap) (x : ℕ) → taken_along s a.source ≡ [] → own_cells s a.source ≡ [] → room s h a x ≡ in_slot x
room_is s a h x taken own =
    ap (λ (xs : List ℕ). room_at (position (nat_eq x) xs) s h a x) taken
    ∙ ap (λ (xs : List ℕ). own_room (is_some (position (nat_eq x) xs)) a x) own

pub slot_read : (s : Setting) (st : State) (x : ℕ) → taken_along s st.activation.source ≡ [] → own_cells s st.activation.source ≡ []
    → slot st.activation x ≡ variable s (now st) x
slot_read s st x taken own = sym (ap (value_in st.heap st.activation) (room_is s st.activation st.heap x taken own))

pub slot_written : (s : Setting) (st : State) (x : ℕ) (v : Value) → taken_along s st.activation.source ≡ [] → own_cells s st.activation.source ≡ []
    → write s x v st ≡ ends (answer v) (record st { activation = with_slot st.activation x v })
slot_written s st x v taken own = ap (λ r. write_in r v st) (room_is s st.activation st.heap x taken own)

-- a copy of such a variable is the variable
all_copied : (s : Setting) (st : State) (xs : List ℕ) → own_cells s st.activation.source ≡ [] → in_order (map (copy s) xs) Null st ≡ ends (answer Null) st
all_copied s st [] own = refl
all_copied s st (x ∷ xs) own =
    ap (λ (ys : List ℕ). on_answer (in_order (map (copy s) xs)) (copied (is_some (position (nat_eq x) ys)) s x st)) own ∙ all_copied s st xs own

pub none_copied : (s : Setting) (st : State) (xs : List ℕ) (last : Value) → length xs ≢ 0 → own_cells s st.activation.source ≡ []
    → in_order (map (copy s) xs) last st ≡ ends (answer Null) st
none_copied s st [] last h own = absurd (h refl)
none_copied s st (x ∷ xs) last h own =
    ap (λ (ys : List ℕ). on_answer (in_order (map (copy s) xs)) (copied (is_some (position (nat_eq x) ys)) s x st)) own ∙ all_copied s st xs own
