-- Cases of a switch.
use Rattle.std.specs.Borrow.{Bor}
use Rattle.std.specs.Prelude.{position, unwrap_or, is_none}
use Rattle.std.specs.List.{position_from}
use Rattle.std.proofs.Common.{◌≡◌, ◌≢◌, ℕ, zero, suc, ◌+◌, ◌≤◌, Bool, true, false, cond, Option, Some, None, List, [], ◌∷◌, length, drop, refl, sym, ap, ◌∙◌, nat_le, arith}
use Rattle.std.proofs.lemmas.Iterator.Adapters.{position_from-zero}
use Rattle.dart_base.specs.declared.place.Place.{Place}
use Rattle.dart_ir.specs.declared.kind.ThrowKind.{ThrowKind}
use Rattle.dart_ir.specs.declared.kind.ThrowKind.TheVariants.{FallThroughError}
use Rattle.dart_ir.specs.declared.value.Value.{Value}
use Rattle.dart_ir.specs.declared.value.Value.TheVariants.{Null}
use Rattle.dart_ir.specs.Object.{HeapObject, instance}
use Rattle.dart_store.specs.Heap.{Heap, cost}
use Rattle.core_program.specs.declared.form.Case.{Case}
use Rattle.core_program.specs.declared.form.Form.TheViews.{out-Case}
use Rattle.core_program.specs.Core as c
use Rattle.core_program.specs.View as v
use Rattle.core_program.proofs.Views.{case_out}
use Rattle.evaluation.specs.State.{State, Known, Setting, throws, ends, Meaning, World}
use Rattle.evaluation.specs.Sequence.{on_answer}
use Rattle.evaluation.specs.Objects.{added, throw_new}
use Rattle.evaluation.specs.Parts.{form_of, has_no_forms}
use Rattle.evaluation.specs.Statements.{Branch, has_value, after_one, case_with, default_or, default_case, case_for, or_default, run_cases, after_cases}
use Rattle.evaluation.specs.Evaluation.{eval, branch_of}
use Rattle.machine_frame.specs.declared.around.Around.{Around}
use Rattle.machine_frame.specs.declared.run.Frame.TheVariants as f
use Rattle.machine_frame.specs.declared.run.Run.{Run}
use Rattle.machine_frame.specs.declared.run.Switching.{Switching}
use Rattle.machine_frame.specs.Outside.{setting_of, world_in}
use Rattle.machine_frame.specs.Frames.{seen, below_of, resumed, resume, mute, ending, does, branches_of, case_from, cases_run, case_falls}
use Rattle.machine_frame.proofs.Turns.{case_begins}

-- what a case does
abbrev what : World → Case → Branch
what w x = record {
  value = (out-Case x).value;
  is_empty = has_no_forms (form_of (v.core (out-Case x).body));
  body = λ st. eval (v.core (out-Case x).body) w st;
}

first_case : (w : World) (x : Case) (xs : List Case) → branches_of w (x ∷ xs) ≡ what w x ∷ branches_of w xs
first_case w x xs = ap (λ (k : c.Case ℕ). branch_of k w ∷ branches_of w xs) (case_out x)

behind_cases : (w : World) (i : ℕ) (xs : List Case) → drop i (branches_of w xs) ≡ branches_of w (drop i xs)
behind_cases w zero xs = refl
behind_cases w (suc i) [] = refl
behind_cases w (suc i) (x ∷ xs) = behind_cases w i xs

pub past_last : (i : ℕ) (xs : List Case) → length xs ≤ i → [] ≡ drop i xs
past_last zero [] h = refl
past_last zero (x ∷ xs) h = absurd (omega (arith, h))
past_last (suc i) [] h = refl
past_last (suc i) (x ∷ xs) h = past_last i xs (omega (arith, h))

-- ---- which case is chosen

-- so many places further on
abbrev shifted : ℕ → Option ℕ → Option ℕ
shifted i None = None
shifted i (Some j) = Some (i + j)

shifted_none : (o : Option ℕ) → o ≡ shifted 0 o
shifted_none None = refl
shifted_none (Some j) = ap (λ n. Some n) (let e : j ≡ 0 + j = omega arith in e)

shifted_cond : (b : Bool) (i : ℕ) (o : Option ℕ) (x : Option ℕ) → x ≡ shifted (i + 1) o → cond b (Some i) x ≡ shifted i (cond b (Some 0) (after_one o))
shifted_cond true i o x e = ap (λ n. Some n) (let h : i ≡ i + 0 = omega arith in h)
shifted_cond false i None x e = e
shifted_cond false i (Some j) x e = e ∙ ap (λ n. Some n) (let h : i + 1 + j ≡ i + suc j = omega arith in h)

module _ (s : Setting) (h : Heap) (value : Value) (w : World) where
  abbrev has : Case → Bool
  has x = has_value s h value (out-Case x).value

  found_from : (i : ℕ) (xs : List Case) → position_from has i xs ≡ shifted i (case_with s h value (branches_of w xs))
  found_from i [] = refl
  found_from i (x ∷ xs) =
      shifted_cond (has x) i (case_with s h value (branches_of w xs)) (position_from has (i + 1) xs) (found_from (i + 1) xs)
      ∙ ap (λ (bs : List Branch). shifted i (case_with s h value bs)) (sym (first_case w x xs))

  found : (xs : List Case) → position has xs ≡ case_with s h value (branches_of w xs)
  found xs = position_from-zero has xs ∙ found_from 0 xs ∙ sym (shifted_none (case_with s h value (branches_of w xs)))

  pub value_found : (xs : List Case) (i : ℕ) (o : Option ℕ) → o ≡ position has xs → o ≡ Some i → i ≡ case_for s h value (branches_of w xs)
  value_found xs i o e some = ap (λ (q : Option ℕ). or_default q (branches_of w xs)) (sym some ∙ e ∙ found xs)

abbrev no_value : Case → Bool
no_value x = is_none (out-Case x).value

default_cond : (o : Option Value) (i n m : ℕ) (q : Option ℕ) → unwrap_or q (i + 1 + n) ≡ i + 1 + m → unwrap_or (cond (is_none o) (Some i) q) (i + suc n) ≡ i + default_or o m
default_cond None i n m q e = omega arith
default_cond (Some u) i n m q e = ap (unwrap_or q) (let h : i + suc n ≡ i + 1 + n = omega arith in h) ∙ e ∙ (let h : i + 1 + m ≡ i + suc m = omega arith in h)

default_from : (w : World) (i : ℕ) (xs : List Case) → unwrap_or (position_from no_value i xs) (i + length xs) ≡ i + default_case (branches_of w xs)
default_from w i [] = refl
default_from w i (x ∷ xs) =
    default_cond (out-Case x).value i (length xs) (default_case (branches_of w xs)) (position_from no_value (i + 1) xs) (default_from w (i + 1) xs)
    ∙ ap (λ (bs : List Branch). i + default_case bs) (sym (first_case w x xs))

default_is : (w : World) (xs : List Case) → unwrap_or (position no_value xs) (length xs) ≡ default_case (branches_of w xs)
default_is w xs =
    ap (λ (q : Option ℕ). unwrap_or q (length xs)) (position_from-zero no_value xs)
    ∙ ap (unwrap_or (position_from no_value 0 xs)) (let h : length xs ≡ 0 + length xs = omega arith in h) ∙ default_from w 0 xs
    ∙ (let h : 0 + default_case (branches_of w xs) ≡ default_case (branches_of w xs) = omega arith in h)

pub default_found : (s : Setting) (h : Heap) (value : Value) (w : World) (xs : List Case) (i : ℕ) (o : Option ℕ) → o ≡ position (has s h value w) xs → o ≡ None
    → i ≡ unwrap_or (position no_value xs) (length xs) → i ≡ case_for s h value (branches_of w xs)
default_found s h value w xs i o e none is =
    is ∙ default_is w xs ∙ ap (λ (q : Option ℕ). or_default q (branches_of w xs)) (sym none ∙ e ∙ found s h value w xs)

-- ---- cases that are entered

module _ (a : Around) (r : Run) (x : Switching) where
  pub case_goes : (i : ℕ) (rest : List Case) → rest ≡ drop i x.cases.now
      → does a r (λ w st. after_cases x.target (case_from w x) (cases_run w x rest st)) ≡ does a r (λ w. case_from w x i)
  case_goes i rest e =
      let w = world_in a r.depth in
      ap (λ (l : List Case). ending a r (after_cases x.target (case_from w x) (run_cases (setting_of a) x.at (branches_of w l) (seen r)))) e
      ∙ ap (λ (bs : List Branch). ending a r (after_cases x.target (case_from w x) (run_cases (setting_of a) x.at bs (seen r)))) (sym (behind_cases w i x.cases.now))
      ∙ ap (ending a r) (sym (case_begins a r.depth x i (seen r)))

  pub case_enters : (is_empty : Bool) (cases : List Case) (first : Case) (behind : Bor (List Case)) → cases ≡ first ∷ behind.now
      → is_empty ≡ has_no_forms (form_of (v.core (out-Case first).body))
      → mute (resume a (below_of r) r.frames.items (resumed (world_in a r.depth) (below_of r) (f.Case x is_empty behind) (eval (v.core (out-Case first).body) (world_in a r.depth) (seen r))))
      ≡ does a r (λ w st. after_cases x.target (case_from w x) (cases_run w x cases st))
  case_enters is_empty cases first behind e none =
      let w = world_in a r.depth in
      ap (λ (b : Bool). ending a r (after_cases x.target (case_from w x) (on_answer (λ _. case_falls w x b behind.now) (eval (v.core (out-Case first).body) w (seen r))))) none
      ∙ ap (λ (bs : List Branch). ending a r (after_cases x.target (case_from w x) (run_cases (setting_of a) x.at bs (seen r)))) (sym (first_case w first behind.now))
      ∙ ap (λ (l : List Case). ending a r (after_cases x.target (case_from w x) (cases_run w x l (seen r)))) (sym e)

  -- what follows the statements of a case that has some
  throw_added : (b : Bool) (object : HeapObject) (n : ℕ) (go : ℕ → Meaning) (at : Place) (st : State)
      → on_answer (λ error. ends (throws error at)) (added b object st) ≡ after_cases n go (on_answer (λ error. ends (throws error at)) (added b object st))
  throw_added true object n go at st = refl
  throw_added false object n go at st = refl

  throw_passes : (k : Known) (n : ℕ) (go : ℕ → Meaning) (at : Place) (kind : ThrowKind) (message : Value) (st : State)
      → throw_new k at kind message st ≡ after_cases n go (throw_new k at kind message st)
  throw_passes k n go at kind message st =
      let error = instance (k.error_class kind) [] (message ∷ []) in
      throw_added (nat_le (st.heap.used + cost error) st.heap.limit) error n go at st

  pub falls_through : (is_empty : Bool) (behind : List Case) → length behind ≢ 0 → is_empty ≡ false
      → does a r (λ w. throw_new w.setting.known x.at FallThroughError Null) ≡ does a r (λ w st. after_cases x.target (case_from w x) (case_falls w x is_empty behind st))
  falls_through is_empty [] h t = absurd (h refl)
  falls_through is_empty (first ∷ rest) h t =
      ap (ending a r) (throw_passes (setting_of a).known x.target (case_from (world_in a r.depth) x) x.at FallThroughError Null (seen r))
      ∙ ap (λ (b : Bool). does a r (λ w st. after_cases x.target (case_from w x) (case_falls w x b (first ∷ rest) st))) (sym t)
