-- Statements with labels.
use Rattle.std.proofs.Common.{◌≡◌, ℕ, List, [], ◌∷◌, Bool, true, false, nat_eq, ◌||◌, refl, ap, ◌∙◌, cond}
use Rattle.std.specs.List.{list_any}
use Rattle.dart_base.specs.declared.place.Place.{Place}
use Rattle.dart_ir.specs.declared.value.Value.{Value}
use Rattle.dart_ir.specs.declared.value.Value.TheVariants.{Null}
use Rattle.core_program.specs.declared.form.Way.TheVariants as way
use Rattle.core_program.specs.Core.{Core, Form}
use Rattle.core_program.specs.Core as c
use Rattle.evaluation.specs.State.{State, Ending, answer, jumps, returns, throws, ended, out_of_steps, ends, World}
use Rattle.evaluation.specs.Evaluation.{eval}
use Rattle.evaluation.specs.Statements.{left_by, labelled}
use Rattle.machine_frame.specs.declared.around.Around.{Around}
use Rattle.machine_frame.specs.Outside.{world_in}
use Rattle.machine_frame.specs.Labels.{within, within_form, labels, labels_of, labelled_all}
use Rattle.machine_frame.proofs.Steps.{form_enters_not}
use Rattle.machine_frame.proofs.Turns.{form_loop_stops}

mutual
  pub labels_eval : (x : Core ℕ) (w : World) (st : State) → eval x w st ≡ labelled_all (labels x) (eval (within x) w st)
  labels_eval (c.at place form) w st = labels_act form place w st

  labels_act : (x : Form ℕ) (place : Place) (w : World) (st : State)
      → eval (c.at place x) w st ≡ labelled_all (labels_of x) (eval (within_form x place) w st)
  labels_act (c.labelled n body) place w st = ap (labelled n) (labels_eval body w st)
  labels_act form place w st = refl

-- an end that is no jump passes all labels
pub labels_answer : (ns : List ℕ) (v : Value) (st : State) → labelled_all ns (ends (answer v) st) ≡ ends (answer v) st
labels_answer [] v st = refl
labels_answer (n ∷ ns) v st = ap (labelled n) (labels_answer ns v st)

pub labels_return : (ns : List ℕ) (v : Value) (st : State) → labelled_all ns (ends (returns v) st) ≡ ends (returns v) st
labels_return [] v st = refl
labels_return (n ∷ ns) v st = ap (labelled n) (labels_return ns v st)

pub labels_throw : (ns : List ℕ) (v : Value) (place : Place) (st : State) → labelled_all ns (ends (throws v place) st) ≡ ends (throws v place) st
labels_throw [] v place st = refl
labels_throw (n ∷ ns) v place st = ap (labelled n) (labels_throw ns v place st)

pub labels_end : (ns : List ℕ) (e : Ending) (st : State) → labelled_all ns (ends (ended e) st) ≡ ends (ended e) st
labels_end [] e st = refl
labels_end (n ∷ ns) e st = ap (labelled n) (labels_end ns e st)

-- a break leaves the statement where a label around it is its target
breaks_or_not : (here found : Bool) (n m : ℕ) (st : State) → nat_eq m n ≡ here
    → labelled n (cond found (ends (answer Null) st) (ends (jumps way.Break m) st)) ≡ cond (here || found) (ends (answer Null) st) (ends (jumps way.Break m) st)
breaks_or_not true true n m st h = refl
breaks_or_not false true n m st h = refl
breaks_or_not true false n m st h = ap (λ b. left_by b way.Break m st) h
breaks_or_not false false n m st h = ap (λ b. left_by b way.Break m st) h

pub labels_break : (ns : List ℕ) (m : ℕ) (st : State)
    → labelled_all ns (ends (jumps way.Break m) st) ≡ cond (list_any (nat_eq m) ns) (ends (answer Null) st) (ends (jumps way.Break m) st)
labels_break [] m st = refl
labels_break (n ∷ ns) m st = ap (labelled n) (labels_break ns m st) ∙ breaks_or_not (nat_eq m n) (list_any (nat_eq m) ns) n m st refl

continue_by : (here : Bool) (m : ℕ) (st : State) → left_by here way.Continue m st ≡ ends (jumps way.Continue m) st
continue_by true m st = refl
continue_by false m st = refl

case_by : (here : Bool) (i m : ℕ) (st : State) → left_by here (way.Case i) m st ≡ ends (jumps (way.Case i) m) st
case_by true i m st = refl
case_by false i m st = refl

pub labels_continue : (ns : List ℕ) (m : ℕ) (st : State) → labelled_all ns (ends (jumps way.Continue m) st) ≡ ends (jumps way.Continue m) st
labels_continue [] m st = refl
labels_continue (n ∷ ns) m st = ap (labelled n) (labels_continue ns m st) ∙ continue_by (nat_eq m n) m st

pub labels_case : (ns : List ℕ) (i m : ℕ) (st : State) → labelled_all ns (ends (jumps (way.Case i) m) st) ≡ ends (jumps (way.Case i) m) st
labels_case [] i m st = refl
labels_case (n ∷ ns) i m st = ap (labelled n) (labels_case ns i m st) ∙ case_by (nat_eq m n) i m st

pub ruleset label_laws = (labels_answer, labels_return, labels_throw, labels_end, labels_break, labels_continue, labels_case)

-- no form begins without a step
mutual
  pub none_left : (a : Around) (d : ℕ) (x : Core ℕ) (st : State) → st.left ≡ 0
      → eval (within x) (world_in a d) st ≡ ends (ended out_of_steps) (record st { left = 0 })
  none_left a d (c.at place form) st h = none_left_of a d form place st h

  none_left_of : (a : Around) (d : ℕ) (x : Form ℕ) (place : Place) (st : State) → st.left ≡ 0
      → eval (within_form x place) (world_in a d) st ≡ ends (ended out_of_steps) (record st { left = 0 })
  none_left_of a d (c.labelled n body) place st h = none_left a d body st h
  none_left_of a d (c.loop n xs condition update body) place st h = form_loop_stops a d n xs condition update body st h
  none_left_of a d form place st h = form_enters_not place form (world_in a d) st refl h

-- the statement within has no labels
mutual
  pub within_bare : (x : Core ℕ) → labels (within x) ≡ []
  within_bare (c.at place form) = within_bare_of form place

  within_bare_of : (x : Form ℕ) (place : Place) → labels (within_form x place) ≡ []
  within_bare_of (c.labelled n body) place = within_bare body
  within_bare_of form place = refl
