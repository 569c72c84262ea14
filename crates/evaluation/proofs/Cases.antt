-- What the cases of a switch and external functions keep.
use Rattle.std.proofs.Common.{◌≡◌, ℕ, zero, suc, ◌++◌, List, [], ◌∷◌, refl, ap, subst, ◌∙◌, Bool, true, false, cond, nat_eq, Option, Some, None, length, drop}
use Rattle.std.specs.Prelude.{slice_get}
use Rattle.dart_base.specs.declared.place.Place.{Place}
use Rattle.dart_ir.specs.declared.native.Answer.{Answer}
use Rattle.dart_ir.specs.declared.native.Answer.TheVariants as a
use Rattle.dart_ir.specs.declared.native.NativeId.{NativeId}
use Rattle.dart_ir.specs.declared.native.NativeId.TheVariants as n
use Rattle.dart_ir.specs.declared.kind.ThrowKind.TheVariants.{FallThroughError, ArgumentError}
use Rattle.dart_ir.specs.declared.value.Value.{Value}
use Rattle.dart_ir.specs.declared.value.Value.TheVariants.{Null, Code}
use Rattle.dart_ir.specs.Object.{HeapObject, receive_port, send_port}
use Rattle.dart_store.specs.Heap.{Heap}
use Rattle.core_program.specs.declared.form.Way.{Way}
use Rattle.core_program.specs.declared.form.Way.TheVariants as way
use Rattle.evaluation.specs.State.{Port, Note, printed, sent, spawned, out_of_steps, integer_limit, needs_double, Completion, answer, jumps, ended, ends, Meaning, Setting}
use Rattle.evaluation.specs.Sequence.{taking}
use Rattle.evaluation.specs.Values.{object_at, units_of}
use Rattle.evaluation.specs.Objects.{add}
use Rattle.evaluation.specs.Statements.{Branch, has_value, after_one, case_with, default_or, default_case, or_default, case_for, falls, falls_to, run_cases, switch_jump, after_cases, cases_within, from_case, switch}
use Rattle.evaluation.specs.Externals.{noted, with_ports, print_units, argument, new_port, a_port, changed_port, with_handler, closed_port, put_port, port_of, on_port, posted, send_to, spawn, native_call, native_answer, native_steps, stepped_native, wrong_argument, native}
use Rattle.evaluation.proofs.Logic.{clear, Logic, taking_rel, answers, own_adds, throw_new_rel}

module _ {Rel : Meaning → Meaning → Type 0} (k : Logic Rel) where
  -- ---- switch

  pub data Branches : List Branch → List Branch → Type 0 where
    no_branches : Branches [] []
    branch_more : (v : Option Value) (b : Bool) (d d' : Meaning) (bs bs' : List Branch) → Rel d d' → Branches bs bs'
        → Branches (record { value = v; is_empty = b; body = d } ∷ bs) (record { value = v; is_empty = b; body = d' } ∷ bs')

  same_case_with : (s : Setting) (h : Heap) (v : Value) (xs xs' : List Branch) → Branches xs xs' → case_with s h v xs ≡ case_with s h v xs'
  same_case_with s h v _ _ no_branches = refl
  same_case_with s h v _ _ (branch_more u b d d' bs bs' q r) =
      ap (λ i. cond (has_value s h v u) (Some 0) (after_one i)) (same_case_with s h v bs bs' r)

  same_default : (xs xs' : List Branch) → Branches xs xs' → default_case xs ≡ default_case xs'
  same_default _ _ no_branches = refl
  same_default _ _ (branch_more u b d d' bs bs' q r) = ap (default_or u) (same_default bs bs' r)

  same_or : (o : Option ℕ) (xs xs' : List Branch) → Branches xs xs' → or_default o xs ≡ or_default o xs'
  same_or (Some i) xs xs' r = refl
  same_or None xs xs' r = same_default xs xs' r

  same_case : (s : Setting) (h : Heap) (v : Value) (xs xs' : List Branch) → Branches xs xs' → case_for s h v xs ≡ case_for s h v xs'
  same_case s h v xs xs' r = same_or (case_with s h v xs) xs xs' r ∙ ap (λ o. or_default o xs') (same_case_with s h v xs xs' r)

  drop_rel : (i : ℕ) (xs xs' : List Branch) → Branches xs xs' → Branches (drop i xs) (drop i xs')
  drop_rel zero xs xs' q = q
  drop_rel (suc i) _ _ no_branches = no_branches
  drop_rel (suc i) _ _ (branch_more u b d d' bs bs' q r) = drop_rel i bs bs' r

  falls_rel : (s : Setting) (at : Place) (b : Bool) (d d' : Meaning) → Rel d d' → Rel (falls s at b d) (falls s at b d')
  falls_rel s at true d d' q = q
  falls_rel s at false d d' q = throw_new_rel k s.known at FallThroughError Null

  pub falls_to_rel : (s : Setting) (at : Place) (b : Bool) (xs xs' : List Branch) → Branches xs xs' → (d d' : Meaning) → Rel d d' →
      Rel (falls_to s at b xs d) (falls_to s at b xs' d')
  falls_to_rel s at b _ _ no_branches d d' q = k.stays (answer Null)
  falls_to_rel s at b _ _ (branch_more u c e e' bs bs' p r) d d' q = falls_rel s at b d d' q

  pub run_cases_rel : (s : Setting) (at : Place) (xs xs' : List Branch) → Branches xs xs' → Rel (run_cases s at xs) (run_cases s at xs')
  run_cases_rel s at _ _ no_branches = k.stays (answer Null)
  run_cases_rel s at _ _ (branch_more u b d d' bs bs' q r) =
      answers k (λ _. falls_to s at b bs (run_cases s at bs)) (λ _. falls_to s at b bs' (run_cases s at bs'))
      (λ _. falls_to_rel s at b bs bs' r _ _ (run_cases_rel s at bs bs' r)) d d' q

  switch_jump_rel : (b : Bool) (w : Way) (n : ℕ) (go go' : ℕ → Meaning) → ((i : ℕ) → Rel (go i) (go' i))
      → Rel (switch_jump b w n go) (switch_jump b w n go')
  switch_jump_rel true way.Break n go go' q = k.stays (answer Null)
  switch_jump_rel true (way.Case i) n go go' q = q i
  switch_jump_rel b w n go go' q = k.stays (jumps w n)

  pub after_cases_rel : (n : ℕ) (go go' : ℕ → Meaning) → ((i : ℕ) → Rel (go i) (go' i)) → (d d' : Meaning) → Rel d d' →
      Rel (λ st. after_cases n go (d st)) (λ st. after_cases n go' (d' st))
  after_cases_rel n go go' h d d' q = k.bind (after_cases n go) (after_cases n go') (clear (λ e st. refl))
      (clear (λ e st. refl)) cases d d' q
    where
      cases : (c : Completion) → Rel (λ st. after_cases n go (ends c st)) (λ st. after_cases n go' (ends c st))
      cases (jumps w m) = switch_jump_rel (nat_eq m n) w m go go' h
      cases c = k.stays c

  spent_rel : Rel (λ st. ends (ended out_of_steps) (record st { left = 0 })) (λ st. ends (ended out_of_steps) (record st { left = 0 }))
  spent_rel = k.spent

  cases_within_rel : (m : ℕ) (s : Setting) (at : Place) (n : ℕ) (all all' : List Branch) → Branches all all' → (i : ℕ) →
      Rel (cases_within m s at n all i) (cases_within m s at n all' i)
  cases_within_rel zero s at n all all' q i = spent_rel
  cases_within_rel (suc m) s at n all all' q i =
      after_cases_rel n _ _ (cases_within_rel m s at n all all' q) _ _ (run_cases_rel s at _ _ (drop_rel i all all' q))

  pub from_case_rel : (s : Setting) (at : Place) (n : ℕ) (all all' : List Branch) → Branches all all' →
      (i : ℕ) → Rel (from_case s at n all i) (from_case s at n all' i)
  from_case_rel s at n all all' q i =
      k.reads (λ x st. cases_within (suc x.left) s at n all i st) (λ x st. cases_within (suc x.left) s at n all' i st)
      (λ x. cases_within_rel (suc x.left) s at n all all' q i)

  pub switch_rel : (s : Setting) (at : Place) (n : ℕ) (all all' : List Branch) → Branches all all' →
      (v : Value) → Rel (switch s at n all v) (switch s at n all' v)
  switch_rel s at n all all' q v =
      k.reads (λ x st. from_case s at n all (case_for s x.heap v all) st) (λ x st. from_case s at n all' (case_for s x.heap v all') st)
      (λ x. subst (λ i. Rel (from_case s at n all (case_for s x.heap v all)) (from_case s at n all' i)) (same_case s x.heap v all all' q)
      (from_case_rel s at n all all' q (case_for s x.heap v all)))

  -- ---- external functions

  wrong : (s : Setting) (at : Place) → Rel (wrong_argument s at) (wrong_argument s at)
  wrong s at = throw_new_rel k s.known at ArgumentError Null

  note_rel : (note : Note) → Rel (noted note (λ st. ends (answer Null) st)) (noted note (λ st. ends (answer Null) st))
  note_rel note = k.notes note (λ st. ends (answer Null) st) (λ st. ends (answer Null) st) (k.stays (answer Null))

  print_rel : (s : Setting) (at : Place) (o : Option (List ℕ)) → Rel (print_units s at o) (print_units s at o)
  print_rel s at (Some units) = note_rel (printed units)
  print_rel s at None = wrong s at

  ports_end : (ports : List Port) (v : Value) → Rel (with_ports ports (λ st. ends (answer v) st))
      (with_ports ports (λ st. ends (answer v) st))
  ports_end ports v = k.ports ports (λ st. ends (answer v) st) (λ st. ends (answer v) st) (k.stays (answer v))

  new_port_rel : Rel new_port new_port
  new_port_rel =
      answers k (λ v st. with_ports (st.ports ++ a_port ∷ []) (λ st. ends (answer v) st) st)
      (λ v st. with_ports (st.ports ++ a_port ∷ []) (λ st. ends (answer v) st) st)
      (λ v. k.reads (λ x st. with_ports (x.ports ++ a_port ∷ []) (λ st. ends (answer v) st) st) _
      (λ x. ports_end (x.ports ++ a_port ∷ []) v))
      (λ st. add (receive_port (length st.ports)) st) (λ st. add (receive_port (length st.ports)) st)
      (own_adds k (λ x. receive_port (length x.ports)))

  changed_port_rel : (f : Option Port → Option Port) (i : ℕ) → Rel (changed_port f i) (changed_port f i)
  changed_port_rel f i =
      k.reads (λ x st. with_ports (put_port x.ports i (f (slice_get x.ports i))) (λ st. ends (answer Null) st) st) _
      (λ x. ports_end (put_port x.ports i (f (slice_get x.ports i))) Null)

  on_port_rel : (s : Setting) (at : Place) (go : ℕ → Meaning) → ((i : ℕ) → Rel (go i) (go i)) →
      (o : Option ℕ) → Rel (on_port s at go o) (on_port s at go o)
  on_port_rel s at go h (Some port) = h port
  on_port_rel s at go h None = wrong s at

  -- what is done with the port that an argument is
  at_port : (s : Setting) (at : Place) (go : ℕ → Meaning) → ((i : ℕ) → Rel (go i) (go i)) → (v : Value) →
      Rel (λ st. on_port s at go (port_of (object_at st.heap v)) st) (λ st. on_port s at go (port_of (object_at st.heap v)) st)
  at_port s at go h v = k.reads (λ x st. on_port s at go (port_of (object_at x.heap v)) st) _
      (λ x. on_port_rel s at go h (port_of (object_at x.heap v)))

  posted_rel : (s : Setting) (at : Place) (note : Heap → Note) (o : Option ℕ) → Rel (posted s at note o) (posted s at note o)
  posted_rel s at note (Some cost) =
      taking_rel k cost _ _ (k.reads (λ x st. noted (note x.heap) (λ st. ends (answer Null) st) st)
      (λ x st. noted (note x.heap) (λ st. ends (answer Null) st) st) (λ x. note_rel (note x.heap)))
  posted_rel s at note None = wrong s at

  send_to_rel : (s : Setting) (at : Place) (v : Value) (o : Option HeapObject) → Rel (send_to s at v o) (send_to s at v o)
  send_to_rel s at v (Some (send_port isolate port)) =
      k.reads (λ x st. posted s at (sent isolate port v) (s.parcel_cost x.heap v) st) _
      (λ x. posted_rel s at (sent isolate port v) (s.parcel_cost x.heap v))
  send_to_rel s at v o = wrong s at

  spawn_rel : (s : Setting) (at : Place) (f v : Value) → Rel (spawn s at f v) (spawn s at f v)
  spawn_rel s at (Code f) v =
      k.reads (λ x st. posted s at (spawned f.0 v) (s.parcel_cost x.heap v) st) _
      (λ x. posted_rel s at (spawned f.0 v) (s.parcel_cost x.heap v))
  spawn_rel s at f v = wrong s at

  native_answer_rel : (s : Setting) (at : Place) (x : Answer) → Rel (native_answer s at x) (native_answer s at x)
  native_answer_rel s at (a.Value v) = k.stays (answer v)
  native_answer_rel s at (a.Throw kind) = throw_new_rel k s.known at kind Null
  native_answer_rel s at a.IntegerLimit = k.stays (ended integer_limit)
  native_answer_rel s at a.NeedsDouble = k.stays (ended needs_double)

  stepped_rel : (s : Setting) (id : NativeId) (vs : List Value) (d : Meaning) → Rel d d
      → Rel (stepped_native s id vs d) (stepped_native s id vs d)
  stepped_rel s id vs d q =
      k.reads (λ x st. taking (native_steps s id vs x.heap) d st) _ (λ x. taking_rel k (native_steps s id vs x.heap) d d q)

  pub native_rel : (s : Setting) (at : Place) (id : NativeId) (vs : List Value) → Rel (native s at id vs) (native s at id vs)
  native_rel s at n.Print vs =
      stepped_rel s n.Print vs (λ st. print_units s at (units_of s st.heap (argument vs 0)) st)
      (k.reads (λ x st. print_units s at (units_of s x.heap (argument vs 0)) st) _
      (λ x. print_rel s at (units_of s x.heap (argument vs 0))))
  native_rel s at n.IsolateSpawn vs = spawn_rel s at (argument vs 0) (argument vs 1)
  native_rel s at n.SendPortSend vs =
      k.reads (λ x st. send_to s at (argument vs 1) (object_at x.heap (argument vs 0)) st) _
      (λ x. send_to_rel s at (argument vs 1) (object_at x.heap (argument vs 0)))
  native_rel s at n.ReceivePortNew vs = stepped_rel s n.ReceivePortNew vs new_port new_port_rel
  native_rel s at n.ReceivePortSendPort vs =
      stepped_rel s n.ReceivePortSendPort vs _ (at_port s at (λ port. add (send_port s.isolate port))
      (λ port. k.adds (send_port s.isolate port)) (argument vs 0))
  native_rel s at n.ReceivePortListen vs =
      stepped_rel s n.ReceivePortListen vs _ (at_port s at (changed_port (with_handler (argument vs 1)))
      (changed_port_rel (with_handler (argument vs 1))) (argument vs 0))
  native_rel s at n.ReceivePortClose vs =
      stepped_rel s n.ReceivePortClose vs _ (at_port s at (changed_port closed_port) (changed_port_rel closed_port) (argument vs 0))
  native_rel s at id vs =
      stepped_rel s id vs _ (k.reads (λ x st. native_call s.natives id x.activation.types vs (native_answer s at) st) _
      (λ x. k.natives s.natives id x.activation.types vs (native_answer s at) (native_answer s at) (native_answer_rel s at)))
