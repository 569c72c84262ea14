-- Relations of what forms do that the parts of the definition keep: what each combinator makes of them.
use Rattle.std.proofs.Common.{◌≡◌, ℕ, ◌-◌, ◌++◌, List, [], ◌∷◌, refl, Bool, true, false, nat_lt}
use Rattle.dart_base.specs.declared.place.Place.{Place}
use Rattle.dart_ir.specs.declared.kind.ThrowKind.{ThrowKind}
use Rattle.dart_ir.specs.declared.native.Answer.{Answer}
use Rattle.dart_ir.specs.declared.native.NativeId.{NativeId}
use Rattle.dart_ir.specs.declared.value.Value.{Value}
use Rattle.dart_ir.specs.declared.value.Value.TheVariants.{Null}
use Rattle.dart_ir.specs.Object.{HeapObject, instance, text}
use Rattle.dart_ir.specs.Ty.{Ty}
use Rattle.dart_store.specs.Heap.{with_field_at, with_static}
use Rattle.dart_store.specs.declared.store.Static.{Static}
use Rattle.evaluation.specs.State.{State, Activation, Now, now, Port, Note, Ending, out_of_steps, Completion, answer, jumps, returns, throws, ended, Outcome, ends, Meaning, Known, Setting, Natives}
use Rattle.evaluation.specs.Sequence.{on_answer, taken, taking, entering, chosen, in_order, on_answers}
use Rattle.evaluation.specs.Values.{shown_name, ending_in}
use Rattle.evaluation.specs.Objects.{add, throw_new, throw_text, throw_named, throw_value}
use Rattle.evaluation.specs.Invocation.{leaving}
use Rattle.evaluation.specs.Externals.{noted, with_ports, native_call}

-- An ending passes, with everything but the body at work as it is.
pub record Clear (f : Outcome → Outcome) : Type 0 where
  pub activation : Ending → State → Activation
  pub ended : (e : Ending) (st : State) → f (ends (ended e) st) ≡ ends (ended e) (record st { activation = activation e st })

pub clear : {f : Outcome → Outcome} → ((e : Ending) (st : State) → f (ends (ended e) st) ≡ ends (ended e) st) → Clear f
clear h = record { activation = λ e st. st.activation; ended = h }

-- A relation that the primitive parts of the definition keep.
pub record Logic (Rel : Meaning → Meaning → Type 0) : Type 0 where
  pub stays : (c : Completion) → Rel (λ st. ends c st) (λ st. ends c st)
  pub bind : (f f' : Outcome → Outcome) → Clear f → Clear f' → ((c : Completion) → Rel (λ st. f (ends c st)) (λ st. f' (ends c st)))
      → (d d' : Meaning) → Rel d d' → Rel (λ st. f (d st)) (λ st. f' (d' st))
  pub reads : (g g' : Now → Meaning) → ((n : Now) → Rel (g n) (g' n)) → Rel (λ st. g (now st) st) (λ st. g' (now st) st)
  pub lefts : (n : ℕ) (d d' : Meaning) → Rel d d' → Rel (λ st. d (record st { left = st.left - n }))
      (λ st. d' (record st { left = st.left - n }))
  pub spent : Rel (λ st. ends (ended out_of_steps) (record st { left = 0 })) (λ st. ends (ended out_of_steps) (record st { left = 0 }))
  pub activations : (a : Activation) (d d' : Meaning) → Rel d d'
      → Rel (λ st. d (record st { activation = a })) (λ st. d' (record st { activation = a }))
  pub adds : (object : HeapObject) → Rel (add object) (add object)
  pub fields : (r i : ℕ) (v : Value) (d d' : Meaning) → Rel d d'
      → Rel (λ st. d (record st { heap = with_field_at st.heap r i v })) (λ st. d' (record st { heap = with_field_at st.heap r i v }))
  pub statics : (i : ℕ) (x : Static) (d d' : Meaning) → Rel d d'
      → Rel (λ st. d (record st { heap = with_static st.heap i x })) (λ st. d' (record st { heap = with_static st.heap i x }))
  pub natives : (natives : Natives) (id : NativeId) (ts : List Ty) (vs : List Value) (go go' : Answer → Meaning)
      → ((x : Answer) → Rel (go x) (go' x)) → Rel (native_call natives id ts vs go) (native_call natives id ts vs go')
  pub ports : (ports : List Port) (d d' : Meaning) → Rel d d' → Rel (with_ports ports d) (with_ports ports d')
  pub notes : (note : Note) (d d' : Meaning) → Rel d d' → Rel (noted note d) (noted note d')

module _ {Rel : Meaning → Meaning → Type 0} (k : Logic Rel) where
  -- ---- steps and order

  pub taken_rel : (b : Bool) (n : ℕ) (d d' : Meaning) → Rel d d' → Rel (taken b n d) (taken b n d')
  taken_rel true n d d' q = k.spent
  taken_rel false n d d' q = k.lefts n d d' q

  pub taking_rel : (n : ℕ) (d d' : Meaning) → Rel d d' → Rel (taking n d) (taking n d')
  taking_rel n d d' q =
      k.reads (λ x st. taken (nat_lt x.left n) n d st) (λ x st. taken (nat_lt x.left n) n d' st)
      (λ x. taken_rel (nat_lt x.left n) n d d' q)

  pub steps : (d d' : Meaning) → Rel d d' → Rel (entering d) (entering d')
  steps d d' q = taking_rel 1 d d' q

  pub answers : (go go' : Value → Meaning) → ((v : Value) → Rel (go v) (go' v)) → (d d' : Meaning) → Rel d d'
      → Rel (λ st. on_answer go (d st)) (λ st. on_answer go' (d' st))
  answers go go' r d d' q = k.bind (on_answer go) (on_answer go') (clear (λ e st. refl)) (clear (λ e st. refl)) cases d d' q
    where
      cases : (c : Completion) → Rel (λ st. on_answer go (ends c st)) (λ st. on_answer go' (ends c st))
      cases (answer v) = r v
      cases (jumps way n) = k.stays (jumps way n)
      cases (returns v) = k.stays (returns v)
      cases (throws v place) = k.stays (throws v place)
      cases (ended e) = k.stays (ended e)

  pub chosen_rel : (b : Bool) (d d' e e' : Meaning) → Rel d d' → Rel e e' → Rel (chosen b d e) (chosen b d' e')
  chosen_rel true d d' e e' q r = q
  chosen_rel false d d' e e' q r = r

  pub data Rows : List Meaning → List Meaning → Type 0 where
    no_rows : Rows [] []
    row_more : (d d' : Meaning) (ds ds' : List Meaning) → Rel d d' → Rows ds ds' → Rows (d ∷ ds) (d' ∷ ds')

  pub in_order_rel : (ds ds' : List Meaning) → Rows ds ds' → (v : Value) → Rel (in_order ds v) (in_order ds' v)
  in_order_rel _ _ no_rows v = k.stays (answer v)
  in_order_rel _ _ (row_more d d' ds ds' q r) v = answers (in_order ds) (in_order ds') (in_order_rel ds ds' r) d d' q

  pub on_answers_rel : (go go' : List Value → Meaning) → ((vs : List Value) → Rel (go vs) (go' vs)) → (ds ds' : List Meaning)
      → Rows ds ds' → (vs : List Value) → Rel (on_answers go ds vs) (on_answers go' ds' vs)
  on_answers_rel go go' h _ _ no_rows vs = h vs
  on_answers_rel go go' h _ _ (row_more d d' ds ds' q r) vs =
      answers (λ v. on_answers go ds (vs ++ v ∷ [])) (λ v. on_answers go' ds' (vs ++ v ∷ []))
      (λ v. on_answers_rel go go' h ds ds' r (vs ++ v ∷ [])) d d' q

  -- ---- objects and errors

  -- a completion that is read off
  pub own : (c : Now → Completion) → Rel (λ st. ends (c (now st)) st) (λ st. ends (c (now st)) st)
  own c = k.reads (λ n st. ends (c n) st) (λ n st. ends (c n) st) (λ n. k.stays (c n))

  -- an object that is read off is added
  pub own_adds : (object : Now → HeapObject) → Rel (λ st. add (object (now st)) st) (λ st. add (object (now st)) st)
  own_adds object = k.reads (λ n st. add (object n) st) (λ n st. add (object n) st) (λ n. k.adds (object n))

  pub throw_new_rel : (s : Known) (at : Place) (kind : ThrowKind) (v : Value) → Rel (throw_new s at kind v) (throw_new s at kind v)
  throw_new_rel s at kind v = answers _ _ (λ error. k.stays (throws error at)) _ _ (k.adds (instance (s.error_class kind) [] (v ∷ [])))

  pub throw_text_rel : (s : Known) (at : Place) (kind : ThrowKind) (units : List ℕ)
      → Rel (throw_text s at kind units) (throw_text s at kind units)
  throw_text_rel s at kind units = answers _ _ (throw_new_rel s at kind) _ _ (k.adds (text units))

  pub throw_named_rel : (s : Setting) (at : Place) (kind : ThrowKind) (name : ℕ) (b : Bool)
      → Rel (throw_named s at kind name b) (throw_named s at kind name b)
  throw_named_rel s at kind name b = throw_text_rel s.known at kind (ending_in b (shown_name s.names name))

  pub throw_value_rel : (s : Known) (at : Place) (v : Value) → Rel (throw_value s at v) (throw_value s at v)
  throw_value_rel s at Null = throw_new_rel s at _ Null
  throw_value_rel s at v = k.stays (throws v at)

  pub leaving_rel : (at : Place) (d d' : Meaning) → Rel d d' → Rel (λ st. leaving at (d st)) (λ st. leaving at (d' st))
  leaving_rel at d d' q = k.bind (leaving at) (leaving at) (clear (λ e st. refl)) (clear (λ e st. refl)) cases d d' q
    where
      cases : (c : Completion) → Rel (λ st. leaving at (ends c st)) (λ st. leaving at (ends c st))
      cases (throws v place) = k.stays _
      cases (answer v) = k.stays (answer v)
      cases (jumps way n) = k.stays (jumps way n)
      cases (returns v) = k.stays (returns v)
      cases (ended e) = k.stays (ended e)
