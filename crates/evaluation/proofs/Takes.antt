-- Each form takes a step, and so does each body: what ends otherwise than at a limit has fewer steps left.
use Rattle.std.proofs.Common.{◌≡◌, ℕ, zero, suc, List, [], ◌∷◌, ◌-◌, ◌≤◌, ◌<◌, refl, sym, subst, arith, Bool, true, false, nat_lt, Option, Some, None}
use Rattle.std.proofs.lemmas.Bool.{ltb-false}
use Rattle.dart_base.specs.declared.place.Place.{Place}
use Rattle.dart_ir.specs.declared.value.Value.TheVariants.{Null, Bool as Truth}
use Rattle.core_program.specs.Core.{Core, Form, Part}
use Rattle.core_program.specs.Core as c
use Rattle.core_program.specs.Program.{Parameter, Function}
use Rattle.evaluation.specs.State.{State, Activation, answer, jumps, returns, throws, ended, Outcome, ends, Meaning, Setting, Given, Callee, World}
use Rattle.evaluation.specs.Sequence.{taken, entering, on_answer, branch}
use Rattle.evaluation.specs.Parts.{is_given, is_block_part}
use Rattle.evaluation.specs.Classes.{function_at}
use Rattle.evaluation.specs.Statements.{done, labelled, body_of_turn, loop}
use Rattle.evaluation.specs.Evaluation.{eval, act, part, binding, bind_one, returned, activation, body_of, nested}
use Rattle.evaluation.specs.Invocation.{leaving, called, has_body}
use Rattle.evaluation.specs.Checks.{Checking, OnFailure, reaction, world}
use Rattle.evaluation.specs.Laws.{left_of}
use Rattle.evaluation.proofs.Logic.{Clear, clear, answers, leaving_rel}
use Rattle.evaluation.proofs.Chapters.{labelled_rel}
use Rattle.evaluation.proofs.Forms as f
use Rattle.evaluation.proofs.Kept.{Kept, Keeps, kept_logic, kept_ends, kept_site}
use Rattle.evaluation.proofs.Loops.{inner, self, unrolled, loop_kept, part_kept}

-- it ends at a limit, or with fewer steps left
abbrev pub IsLess : ℕ → Outcome → Type 0
IsLess n (ends (answer v) st) = st.left < n
IsLess n (ends (jumps way m) st) = st.left < n
IsLess n (ends (returns v) st) = st.left < n
IsLess n (ends (throws v place) st) = st.left < n
IsLess n (ends (ended e) st) = Unit {0}

abbrev pub Takes : Meaning → Type 0
Takes d = (st : State) → IsLess st.left (d st)

pub below : (n m : ℕ) (o : Outcome) → left_of o ≤ m → m < n → IsLess n o
below n m (ends (answer v) st) le lt = omega arith
below n m (ends (jumps way i) st) le lt = omega arith
below n m (ends (returns v) st) le lt = omega arith
below n m (ends (throws v place) st) le lt = omega arith
below n m (ends (ended e) st) le lt = tt

pub less_then : (n : ℕ) (f : Outcome → Outcome) → Clear f → Keeps f → (o : Outcome) → IsLess n o → IsLess n (f o)
less_then n f c k (ends (answer v) st) h = below n st.left (f (ends (answer v) st)) ((k (answer v)).within st) h
less_then n f c k (ends (jumps way i) st) h = below n st.left (f (ends (jumps way i) st)) ((k (jumps way i)).within st) h
less_then n f c k (ends (returns v) st) h = below n st.left (f (ends (returns v) st)) ((k (returns v)).within st) h
less_then n f c k (ends (throws v place) st) h = below n st.left (f (ends (throws v place) st)) ((k (throws v place)).within st) h
less_then n f c k (ends (ended e) st) h = subst (IsLess n) (sym (c.ended e st)) tt

taken_less : (d : Meaning) → Kept d → (st : State) (b : Bool) → nat_lt st.left 1 ≡ b → IsLess st.left (taken b 1 d st)
taken_less d k st true e = tt
taken_less d k st false e =
    let some : 1 ≤ st.left = ltb-false st.left 1 e in
    below st.left (st.left - 1) (d (record st { left = st.left - 1 })) (k.within (record st { left = st.left - 1 })) (omega arith)

pub entering_takes : (d : Meaning) → Kept d → Takes (entering d)
entering_takes d k st = taken_less d k st (nat_lt st.left 1) refl

module _ (k : Checking) (s : Setting) (how : OnFailure) (depth : ℕ) where
  abbrev here : World
  here = world k s how depth

  calls_kept : (d : ℕ) (i : ℕ) (callee : Callee) (g : Given) → Kept ((nested s (reaction k s how) d).calls i callee g)
  calls_kept = f.calls_rel kept_logic s (reaction k s how) (reaction k s how) (kept_site k s how)

  inits_kept : (d : ℕ) (i : ℕ) → Kept ((nested s (reaction k s how) d).inits i)
  inits_kept = f.inits_rel kept_logic s (reaction k s how) (reaction k s how) (kept_site k s how)

  act_kept : (form : Form ℕ) (at : Place) → Kept (act form at here)
  act_kept form at =
      f.act_rel kept_logic s (reaction k s how) (reaction k s how) (nested s (reaction k s how) depth).calls
      (nested s (reaction k s how) depth).calls
      (nested s (reaction k s how) depth).inits (nested s (reaction k s how) depth).inits (kept_site k s how) (calls_kept depth)
      (inits_kept depth) form at

  labelled_keeps : (n : ℕ) → Keeps (labelled n)
  labelled_keeps n x = labelled_rel kept_logic n (λ st. ends x st) (λ st. ends x st) (kept_ends x)

  loop_takes : (n : ℕ) (xs : List ℕ) (condition update body : Part ℕ) →
      Takes (loop s n xs (part condition here (Truth true)) (part update here Null) (part body here Null))
  loop_takes n xs condition update body st =
      let kc = part_kept k s how depth condition (Truth true) in
      let ku = part_kept k s how depth update Null in
      let kb = part_kept k s how depth body Null in
      subst (IsLess st.left) (sym (unrolled s n xs _ _ _ kc ku kb st))
      (entering_takes (λ st. on_answer (λ v. branch v (body_of_turn s n xs (part update here Null) (part body here Null)
      (loop s n xs (part condition here (Truth true)) (part update here Null) (part body here Null))) done)
      (part condition here (Truth true) st))
      (inner s n xs _ _ _ kc ku kb 0 _ _ (self s n xs _ _ _ kc ku kb 0 _ (loop_kept s n xs _ _ _ kc ku kb))).one st)

  pub form_takes : (form : Core ℕ) → Takes (eval form here)
  form_takes (c.at at (c.loop n xs condition update body)) st = loop_takes n xs condition update body st
  form_takes (c.at at (c.labelled n body)) st =
      less_then st.left (labelled n) (clear (λ e st. refl)) (labelled_keeps n) (eval body here st) (form_takes body st)
  form_takes (c.at at form) st = entering_takes (act form at here) (act_kept form at) st

  -- ---- bodies

  binding_kept : (g : Given) (qs : List (Parameter ℕ)) (i : ℕ) (d : Meaning) → Kept d → Kept (binding here g qs i d)
  binding_kept g qs i d q =
      f.binding_rel kept_logic s (reaction k s how) (reaction k s how) (nested s (reaction k s how) depth).calls
      (nested s (reaction k s how) depth).calls
      (nested s (reaction k s how) depth).inits (nested s (reaction k s how) depth).inits (kept_site k s how) (calls_kept depth)
      (inits_kept depth) g qs i d d q

  bind_one_kept : (g : Given) (i : ℕ) (q : Parameter ℕ) → Kept (bind_one here g i q)
  bind_one_kept g i q =
      f.bind_one_rel kept_logic s (reaction k s how) (reaction k s how) (nested s (reaction k s how) depth).calls
      (nested s (reaction k s how) depth).calls
      (nested s (reaction k s how) depth).inits (nested s (reaction k s how) depth).inits (kept_site k s how) (calls_kept depth)
      (inits_kept depth) g i q

  binding_takes : (g : Given) (qs : List (Parameter ℕ)) (i : ℕ) (d : Meaning) → Kept d → Takes d → Takes (binding here g qs i d)
  binding_takes g [] i d q t st = t st
  binding_takes g (x ∷ xs) i d q t st =
      entering_takes (λ st. on_answer (λ _. binding here g xs (suc i) d) (bind_one here g i x st))
      (answers kept_logic (λ _. binding here g xs (suc i) d) (λ _. binding here g xs (suc i) d) (λ _. binding_kept g xs (suc i) d q)
      (bind_one here g i x) (bind_one here g i x) (bind_one_kept g i x)) st

  part_takes : (form : Part ℕ) → is_given form ≡ true → Takes (part form here Null)
  part_takes c.missing e st = absurd (cc)
  part_takes (c.given form) e st = form_takes form st

  returned_keeps : (b : Bool) (a : Activation) → Keeps (returned b a)
  returned_keeps b a x =
      f.returned_rel kept_logic s (reaction k s how) (reaction k s how) (nested s (reaction k s how) depth).calls
      (nested s (reaction k s how) depth).calls
      (nested s (reaction k s how) depth).inits (nested s (reaction k s how) depth).inits (kept_site k s how) (calls_kept depth)
      (inits_kept depth)
      b a (λ st. ends x st) (λ st. ends x st) (kept_ends x)

  body_takes : (o : Option (Function ℕ)) → has_body o ≡ true → (i : ℕ) (callee : Callee) (g : Given) → Takes (body_of o i here callee g)
  body_takes None e i callee g st = absurd (cc)
  body_takes (Some q) e i callee g st =
      less_then st.left (returned (is_block_part q.body) st.activation)
      (record { activation = λ e st'. st.activation; ended = λ e st'. refl })
      (returned_keeps (is_block_part q.body) st.activation)
      (binding here g q.parameters 0 (part q.body here Null) (record st { activation = activation i q.vars callee }))
      (binding_takes g q.parameters 0 (part q.body here Null) (part_kept k s how depth q.body Null) (part_takes q.body e)
      (record st { activation = activation i q.vars callee }))

module _ (k : Checking) (s : Setting) (how : OnFailure) where
  calls_take : (d i : ℕ) (callee : Callee) (g : Given) → has_body (function_at s.program i) ≡ true
      → Takes ((nested s (reaction k s how) d).calls i callee g)
  calls_take zero i callee g e st = tt
  calls_take (suc d) i callee g e st = body_takes k s how d (function_at s.program i) e i callee g st

  leaving_keeps : (at : Place) → Keeps (leaving at)
  leaving_keeps at x = leaving_rel kept_logic at (λ st. ends x st) (λ st. ends x st) (kept_ends x)

  -- a call of a function that has a body
  pub called_takes : (d : ℕ) (at : Place) (i : ℕ) (callee : Callee) (g : Given) → has_body (function_at s.program i) ≡ true →
      Takes (called (world k s how d) at i callee g)
  called_takes d at i callee g e st =
      less_then st.left (leaving at) (clear (λ e st. refl)) (leaving_keeps at) ((nested s (reaction k s how) d).calls i callee g st)
      (calls_take d i callee g e st)
