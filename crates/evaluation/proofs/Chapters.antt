-- What the parts of the definition that call nothing keep: variables, types, statements and natives.
use Rattle.std.proofs.Common.{ℕ, zero, suc, List, [], ◌∷◌, map, refl, Bool, true, false, nat_lt, nat_eq, Option, Some, None}
use Rattle.dart_base.specs.declared.place.Place.{Place}
use Rattle.dart_ir.specs.declared.kind.ThrowKind.TheVariants.{CastError, ArgumentError}
use Rattle.dart_ir.specs.declared.value.Value.{Value}
use Rattle.dart_ir.specs.declared.value.Value.TheVariants.{Null, Bool as Truth, At}
use Rattle.dart_ir.specs.Object.{instance as an_instance, list, text, closure, cell, type_value}
use Rattle.dart_ir.specs.Ty.{Ty, of_list}
use Rattle.dart_type.specs.Instance.{instance}
use Rattle.dart_store.specs.Heap.{with_static, static_at}
use Rattle.dart_store.specs.declared.store.Static.{Static}
use Rattle.dart_store.specs.declared.store.Static.TheVariants.{Starting, Holds}
use Rattle.core_program.specs.declared.form.Way.{Way}
use Rattle.core_program.specs.declared.form.Way.TheVariants as way
use Rattle.evaluation.specs.State.{Thrown, out_of_steps, type_limit, Completion, answer, jumps, throws, ended, ends, Meaning, Setting}
use Rattle.evaluation.specs.Sequence.{on_answer, chosen, is_true, branch}
use Rattle.evaluation.specs.Classes.{function_at}
use Rattle.evaluation.specs.Values.{arguments_here, object_at}
use Rattle.evaluation.specs.Objects.{add, throw_new}
use Rattle.evaluation.specs.Variables.{Room, in_slot, in_cell, has_cell, room, variable, write_in, write, with_slot, slot_filled, declared, declare, copied, copy, copies, cells_for, make_closure, field_total, field_written, field_write, settled, static_written, static_write}
use Rattle.evaluation.specs.Types.{is_small, closed, with_type, are_small, all_closed, with_types, is_of, is_type, passes_cast, cast, as_type, type_object}
use Rattle.evaluation.specs.Creation.{new_list, joined, joined_to, join}
use Rattle.evaluation.specs.Statements.{done, left_by, labelled, loop_jump, after_body, after_update, going_on, body_of_turn, turn, turns, loop, ClauseTest, takes, Clause, declare_if, trace_for, with_caught, forgetting, handle, handling, handled, caught_by, tried, then_ends, finally, thrown_again, rethrow}
use Rattle.evaluation.proofs.Logic.{clear, Logic, steps, answers, chosen_rel, Rows, no_rows, row_more, in_order_rel, own, own_adds, throw_new_rel}

module _ {Rel : Meaning → Meaning → Type 0} (k : Logic Rel) where
  -- ---- variables

  write_in_rel : (r : Room) (v : Value) → Rel (write_in r v) (write_in r v)
  write_in_rel (in_slot x) v =
      k.reads (λ n st. ends (answer v) (record st { activation = with_slot n.activation x v })) _
      (λ n. k.activations (with_slot n.activation x v) (λ st. ends (answer v) st) _ (k.stays (answer v)))
  write_in_rel (in_cell (At r)) v = k.fields r.0 0 v (λ st. ends (answer v) st) (λ st. ends (answer v) st) (k.stays (answer v))
  write_in_rel r v = k.stays (answer v)

  pub write_rel : (s : Setting) (x : ℕ) (v : Value) → Rel (write s x v) (write s x v)
  write_rel s x v =
      k.reads (λ n st. write_in (room s n.heap n.activation x) v st) _ (λ n. write_in_rel (room s n.heap n.activation x) v)

  slot_filled_rel : (x : ℕ) (v : Value) → Rel (slot_filled x v) (slot_filled x v)
  slot_filled_rel x v =
      k.reads (λ n st. ends (answer v) (record st { activation = with_slot n.activation x v })) _
      (λ n. k.activations (with_slot n.activation x v) (λ st. ends (answer v) st) _ (k.stays (answer v)))

  declared_rel : (b : Bool) (x : ℕ) (v : Value) → Rel (declared b x v) (declared b x v)
  declared_rel true x v = answers k _ _ (slot_filled_rel x) _ _ (k.adds (cell v true))
  declared_rel false x v = slot_filled_rel x v

  pub declare_rel : (s : Setting) (x : ℕ) (v : Value) → Rel (declare s x v) (declare s x v)
  declare_rel s x v = k.reads (λ n st. declared (has_cell s n.activation x) x v st) _ (λ n. declared_rel (has_cell s n.activation x) x v)

  copied_rel : (b : Bool) (s : Setting) (x : ℕ) → Rel (copied b s x) (copied b s x)
  copied_rel true s x = k.reads (λ n st. declare s x (variable s n x) st) _ (λ n. declare_rel s x (variable s n x))
  copied_rel false s x = k.stays (answer Null)

  copy_rel : (s : Setting) (x : ℕ) → Rel (copy s x) (copy s x)
  copy_rel s x = k.reads (λ n st. copied (has_cell s n.activation x) s x st) _ (λ n. copied_rel (has_cell s n.activation x) s x)

  copy_rows : (s : Setting) (xs : List ℕ) → Rows k (map (copy s) xs) (map (copy s) xs)
  copy_rows s [] = no_rows
  copy_rows s (x ∷ xs) = row_more (copy s x) (copy s x) (map (copy s) xs) (map (copy s) xs) (copy_rel s x) (copy_rows s xs)

  pub copies_rel : (s : Setting) (xs : List ℕ) → Rel (copies s xs) (copies s xs)
  copies_rel s xs = in_order_rel k _ _ (copy_rows s xs) Null

  pub make_closure_rel : (s : Setting) (f : ℕ) → Rel (make_closure s f) (make_closure s f)
  make_closure_rel s f =
      own_adds k (λ n. closure f n.activation.this (arguments_here s n) (cells_for s n.heap n.activation (function_at s.program f)))

  field_written_rel : (b : Bool) (this : Value) (i : ℕ) (v : Value) → Rel (field_written b this i v) (field_written b this i v)
  field_written_rel true (At r) i v = k.fields r.0 i v (λ st. ends (answer v) st) (λ st. ends (answer v) st) (k.stays (answer v))
  field_written_rel b this i v = k.stays (answer Null)

  pub field_write_rel : (i : ℕ) (v : Value) → Rel (field_write i v) (field_write i v)
  field_write_rel i v =
      k.reads (λ n st. field_written (nat_lt i (field_total (object_at n.heap n.activation.this))) n.activation.this i v st) _
      (λ n. field_written_rel (nat_lt i (field_total (object_at n.heap n.activation.this))) n.activation.this i v)

  static_ends : (d : ℕ) (x : Static) (c : Completion) →
      Rel (λ st. ends c (record st { heap = with_static st.heap d x })) (λ st. ends c (record st { heap = with_static st.heap d x }))
  static_ends d x c = k.statics d x (λ st. ends c st) (λ st. ends c st) (k.stays c)

  pub settled_rel : (d : ℕ) (e e' : Meaning) → Rel e e' → Rel (λ st. settled d (e st)) (λ st. settled d (e' st))
  settled_rel d e e' q = k.bind (settled d) (settled d) (clear (λ e st. refl)) (clear (λ e st. refl)) cases e e' q
    where
      cases : (c : Completion) → Rel (λ st. settled d (ends c st)) (λ st. settled d (ends c st))
      cases (answer v) = static_ends d (Holds v) (answer v)
      cases (ended e) = k.stays (ended e)
      cases c = static_ends d (Holds Null) c

  static_written_rel : (x : Static) (d : ℕ) (v : Value) → Rel (static_written x d v) (static_written x d v)
  static_written_rel Starting d v = k.stays (answer v)
  static_written_rel x d v = static_ends d (Holds v) (answer v)

  pub static_write_rel : (d : ℕ) (v : Value) → Rel (static_write d v) (static_write d v)
  static_write_rel d v =
      k.reads (λ n st. static_written (static_at n.heap d) d v st) _
      (λ n. static_written_rel (static_at n.heap d) d v)

  -- ---- types

  closed_rel : (t : Ty) (go go' : Ty → Meaning) → ((t : Ty) → Rel (go t) (go' t)) → Rel (closed t go) (closed t go')
  closed_rel t go go' h = chosen_rel k (is_small t) (go t) (go' t) _ _ (h t) (k.stays (ended type_limit))

  pub with_type_rel : (s : Setting) (t : Ty) (go go' : Ty → Meaning) → ((t : Ty) → Rel (go t) (go' t))
      → Rel (with_type s t go) (with_type s t go')
  with_type_rel s t go go' h =
      k.reads (λ n st. closed (instance (of_list (arguments_here s n)) t) go st)
      (λ n st. closed (instance (of_list (arguments_here s n)) t) go' st)
      (λ n. closed_rel (instance (of_list (arguments_here s n)) t) go go' h)

  all_closed_rel : (ts : List Ty) (go go' : List Ty → Meaning) → ((ts : List Ty) → Rel (go ts) (go' ts))
      → Rel (all_closed ts go) (all_closed ts go')
  all_closed_rel ts go go' h = chosen_rel k (are_small ts) (go ts) (go' ts) _ _ (h ts) (k.stays (ended type_limit))

  pub with_types_rel : (s : Setting) (ts : List Ty) (go go' : List Ty → Meaning) → ((ts : List Ty) → Rel (go ts) (go' ts))
      → Rel (with_types s ts go) (with_types s ts go')
  with_types_rel s ts go go' h =
      k.reads (λ n st. all_closed (map (instance (of_list (arguments_here s n))) ts) go st)
      (λ n st. all_closed (map (instance (of_list (arguments_here s n))) ts) go' st)
      (λ n. all_closed_rel (map (instance (of_list (arguments_here s n))) ts) go go' h)

  pub is_type_rel : (s : Setting) (t : Ty) (v : Value) → Rel (is_type s t v) (is_type s t v)
  is_type_rel s t v = with_type_rel s t _ _ (λ t. own k (λ n. answer (Truth (is_of s n.heap v t))))

  cast_rel : (s : Setting) (at : Place) (v : Value) (t : Ty) → Rel (cast s at v t) (cast s at v t)
  cast_rel s at v t =
      k.reads (λ n st. chosen (passes_cast s n.heap v t) (λ st. ends (answer v) st) (throw_new s.known at CastError Null) st) _
      (λ n. chosen_rel k (passes_cast s n.heap v t) _ _ _ _ (k.stays (answer v)) (throw_new_rel k s.known at CastError Null))

  pub as_type_rel : (s : Setting) (at : Place) (t : Ty) (v : Value) → Rel (as_type s at t v) (as_type s at t v)
  as_type_rel s at t v = with_type_rel s t _ _ (cast_rel s at v)

  pub type_object_rel : (s : Setting) (t : Ty) → Rel (type_object s t) (type_object s t)
  type_object_rel s t = with_type_rel s t (λ t. add (type_value t)) (λ t. add (type_value t)) (λ t. k.adds (type_value t))

  pub new_list_rel : (s : Setting) (ts : List Ty) (vs : List Value) → Rel (new_list s ts vs) (new_list s ts vs)
  new_list_rel s ts vs = with_types_rel s ts (λ ts. add (list ts vs false)) (λ ts. add (list ts vs false)) (λ ts. k.adds (list ts vs false))

  joined_to_rel : (s : Setting) (at : Place) (o : Option (List ℕ)) → Rel (joined_to s at o) (joined_to s at o)
  joined_to_rel s at (Some units) = k.adds (text units)
  joined_to_rel s at None = throw_new_rel k s.known at ArgumentError Null

  pub join_rel : (s : Setting) (at : Place) (vs : List Value) → Rel (join s at vs) (join s at vs)
  join_rel s at vs = k.reads (λ n st. joined_to s at (joined s n.heap vs) st) _ (λ n. joined_to_rel s at (joined s n.heap vs))

  -- ---- labels and loops

  left_by_rel : (b : Bool) (w : Way) (n : ℕ) → Rel (left_by b w n) (left_by b w n)
  left_by_rel true way.Break n = k.stays (answer Null)
  left_by_rel b w n = k.stays (jumps w n)

  pub labelled_rel : (n : ℕ) (d d' : Meaning) → Rel d d' → Rel (λ st. labelled n (d st)) (λ st. labelled n (d' st))
  labelled_rel n d d' q = k.bind (labelled n) (labelled n) (clear (λ e st. refl)) (clear (λ e st. refl)) cases d d' q
    where
      cases : (c : Completion) → Rel (λ st. labelled n (ends c st)) (λ st. labelled n (ends c st))
      cases (jumps w m) = left_by_rel (nat_eq m n) w m
      cases c = k.stays c

  loop_jump_rel : (b : Bool) (w : Way) (n : ℕ) (d d' : Meaning) → Rel d d' → Rel (loop_jump b w n d) (loop_jump b w n d')
  loop_jump_rel true way.Break n d d' q = k.stays (answer Null)
  loop_jump_rel true way.Continue n d d' q = q
  loop_jump_rel b w n d d' q = k.stays (jumps w n)

  pub after_body_rel : (n : ℕ) (next next' : Meaning) → Rel next next' → (d d' : Meaning) → Rel d d' →
      Rel (λ st. after_body n next (d st)) (λ st. after_body n next' (d' st))
  after_body_rel n next next' r d d' q = k.bind (after_body n next) (after_body n next') (clear (λ e st. refl))
      (clear (λ e st. refl)) cases d d' q
    where
      cases : (c : Completion) → Rel (λ st. after_body n next (ends c st)) (λ st. after_body n next' (ends c st))
      cases (answer v) = r
      cases (jumps w m) = loop_jump_rel (nat_eq m n) w m next next' r
      cases c = k.stays c

  pub after_update_rel : (n : ℕ) (next next' : Meaning) → Rel next next' → (d d' : Meaning) → Rel d d' →
      Rel (λ st. after_update n next (d st)) (λ st. after_update n next' (d' st))
  after_update_rel n next next' r d d' q = k.bind (after_update n next) (after_update n next') (clear (λ e st. refl))
      (clear (λ e st. refl)) cases d d' q
    where
      cases : (c : Completion) → Rel (λ st. after_update n next (ends c st)) (λ st. after_update n next' (ends c st))
      cases (answer v) = r
      cases (jumps w m) = left_by_rel (nat_eq m n) w m
      cases c = k.stays c

  module _ (s : Setting) (n : ℕ) (xs : List ℕ) (c c' u u' b b' : Meaning) (rc : Rel c c') (ru : Rel u u') (rb : Rel b b') where
    pub going_on_rel : (next next' : Meaning) → Rel next next' → Rel (going_on s n xs u next) (going_on s n xs u' next')
    going_on_rel next next' r =
        answers k (λ _ st. after_update n next (u st)) (λ _ st. after_update n next' (u' st))
        (λ _. after_update_rel n next next' r u u' ru) (copies s xs) (copies s xs) (copies_rel s xs)

    pub turn_rest_rel : (next next' : Meaning) → Rel next next' → (v : Value) →
        Rel (branch v (body_of_turn s n xs u b next) done) (branch v (body_of_turn s n xs u' b' next') done)
    turn_rest_rel next next' r v =
        chosen_rel k (is_true v) (body_of_turn s n xs u b next) (body_of_turn s n xs u' b' next') done done
        (after_body_rel n _ _ (going_on_rel next next' r) b b' rb) (k.stays (answer Null))

    pub turn_rel : (next next' : Meaning) → Rel next next' → Rel (turn s n xs c u b next) (turn s n xs c' u' b' next')
    turn_rel next next' r = steps k _ _ (answers k _ _ (turn_rest_rel next next' r) c c' rc)

    pub turns_rel : (m : ℕ) → Rel (turns m s n xs c u b) (turns m s n xs c' u' b')
    turns_rel zero = k.stays (ended out_of_steps)
    turns_rel (suc m) = turn_rel _ _ (turns_rel m)

    pub loop_rel : Rel (loop s n xs c u b) (loop s n xs c' u' b')
    loop_rel = k.reads (λ x st. turns x.left s n xs c u b st) (λ x st. turns x.left s n xs c' u' b' st) (λ x. turns_rel x.left)

  -- ---- try

  declare_if_rel : (s : Setting) (x : Option ℕ) (v : Value) → Rel (declare_if s x v) (declare_if s x v)
  declare_if_rel s None v = k.stays (answer v)
  declare_if_rel s (Some x) v = declare_rel s x v

  trace_for_rel : (s : Setting) (x : Option ℕ) → Rel (trace_for s x) (trace_for s x)
  trace_for_rel s None = k.stays (answer Null)
  trace_for_rel s (Some x) = k.adds (an_instance s.known.trace_class [] [])

  forgotten : (around : Option Thrown) (c : Completion) →
      Rel (λ st. ends c (record st { activation = with_caught st.activation around }))
      (λ st. ends c (record st { activation = with_caught st.activation around }))
  forgotten around c =
      k.reads (λ n st. ends c (record st { activation = with_caught n.activation around })) _
      (λ n. k.activations (with_caught n.activation around) (λ st. ends c st) _ (k.stays c))

  pub forgetting_rel : (around : Option Thrown) (d d' : Meaning) → Rel d d'
      → Rel (λ st. forgetting around (d st)) (λ st. forgetting around (d' st))
  forgetting_rel around d d' q =
      k.bind (forgetting around) (forgetting around) (record
      { activation = λ e st. with_caught st.activation around; ended = λ e st. refl })
      (record { activation = λ e st. with_caught st.activation around; ended = λ e st. refl }) (forgotten around) d d' q

  module _ (s : Setting) (t t' : ClauseTest) (x y : Option ℕ) (d d' : Meaning) (q : Rel d d') where
    abbrev one : Clause
    one = record { test = t; exception = x; trace = y; body = d }

    abbrev two : Clause
    two = record { test = t'; exception = x; trace = y; body = d' }

    handle_rel : (v : Value) → Rel (handle s one v) (handle s two v)
    handle_rel v =
        answers k (λ trace st. on_answer (λ _ st. on_answer (λ _. d) (declare_if s y trace st)) (declare_if s x v st))
        (λ trace st. on_answer (λ _ st. on_answer (λ _. d') (declare_if s y trace st)) (declare_if s x v st))
        (λ trace. answers k (λ _ st. on_answer (λ _. d) (declare_if s y trace st)) (λ _ st. on_answer (λ _. d') (declare_if s y trace st))
        (λ _. answers k (λ _. d) (λ _. d') (λ _. q) (declare_if s y trace) (declare_if s y trace) (declare_if_rel s y trace))
        (declare_if s x v) (declare_if s x v) (declare_if_rel s x v)) (trace_for s y) (trace_for s y) (trace_for_rel s y)

    pub handling_rel : (v : Value) (place : Place) → Rel (handling s one v place) (handling s two v place)
    handling_rel v place =
        k.reads (λ n st. forgetting n.activation.caught (handle s one v
        (record st { activation = with_caught n.activation (Some (record { value = v; place = place })) })))
        (λ n st. forgetting n.activation.caught (handle s two v
        (record st { activation = with_caught n.activation (Some (record { value = v; place = place })) })))
        (λ n. forgetting_rel n.activation.caught _ _ (k.activations (with_caught n.activation (Some (record { value = v; place = place })))
        _ _ (handle_rel v)))

  pub tried_type_rel : (s : Setting) (t : Ty) (v : Value) (here here' further further' : Meaning) → Rel here here' → Rel further further' →
      Rel (tried s (takes t) v here further) (tried s (takes t) v here' further')
  tried_type_rel s t v here here' further further' q r =
      with_type_rel s t (λ t st. chosen (is_of s st.heap v t) here further st) (λ t st. chosen (is_of s st.heap v t) here' further' st)
      (λ t. k.reads (λ n st. chosen (is_of s n.heap v t) here further st) (λ n st. chosen (is_of s n.heap v t) here' further' st)
      (λ n. chosen_rel k (is_of s n.heap v t) here here' further further' q r))

  pub then_ends_rel : (c : Completion) (d d' : Meaning) → Rel d d' → Rel (λ st. then_ends c (d st)) (λ st. then_ends c (d' st))
  then_ends_rel c d d' q = k.bind (then_ends c) (then_ends c) (clear (λ e st. refl)) (clear (λ e st. refl)) cases d d' q
    where
      cases : (e : Completion) → Rel (λ st. then_ends c (ends e st)) (λ st. then_ends c (ends e st))
      cases (answer v) = k.stays c
      cases e = k.stays e

  pub finally_rel : (last last' : Meaning) → Rel last last' → (d d' : Meaning) → Rel d d'
      → Rel (λ st. finally last (d st)) (λ st. finally last' (d' st))
  finally_rel last last' r d d' q = k.bind (finally last) (finally last') (clear (λ e st. refl)) (clear (λ e st. refl)) cases d d' q
    where
      cases : (c : Completion) → Rel (λ st. finally last (ends c st)) (λ st. finally last' (ends c st))
      cases (ended e) = k.stays (ended e)
      cases c = then_ends_rel c last last' r

  thrown_again_rel : (t : Option Thrown) → Rel (thrown_again t) (thrown_again t)
  thrown_again_rel None = k.stays (answer Null)
  thrown_again_rel (Some t) = k.stays (throws t.value t.place)

  pub rethrow_rel : Rel rethrow rethrow
  rethrow_rel = k.reads (λ n st. thrown_again n.activation.caught st) _ (λ n. thrown_again_rel n.activation.caught)

  pub caught_by_rel : (s : Setting) (cs cs' : List Clause) →
      ((v : Value) (place : Place) → Rel (handled s cs v place) (handled s cs' v place)) → (d d' : Meaning) → Rel d d' →
      Rel (λ st. caught_by s cs (d st)) (λ st. caught_by s cs' (d' st))
  caught_by_rel s cs cs' h d d' q = k.bind (caught_by s cs) (caught_by s cs') (clear (λ e st. refl)) (clear (λ e st. refl)) cases d d' q
    where
      cases : (c : Completion) → Rel (λ st. caught_by s cs (ends c st)) (λ st. caught_by s cs' (ends c st))
      cases (throws v place) = h v place
      cases c = k.stays c
