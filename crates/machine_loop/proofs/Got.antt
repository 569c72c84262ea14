-- Getters that read a field, or are a native of `this`: what they come to.
use Rattle.std.proofs.Common.{◌≡◌, ◌≢◌, ℕ, ◌-◌, ◌≤◌, List, [], ◌∷◌, Bool, true, false, Option, Some, None, IfSome, refl, sym, subst, ap, ◌∙◌, arith}
use Rattle.std.proofs.lemmas.Option.{none-some}
use Rattle.dart_base.specs.declared.place.Place.{Place}
use Rattle.dart_ir.specs.declared.class.Role.TheVariants.{Method, Getter}
use Rattle.dart_ir.specs.declared.native.NativeId.{NativeId}
use Rattle.dart_ir.specs.declared.value.Value.{Value}
use Rattle.dart_ir.specs.declared.value.Value.TheVariants.{Null}
use Rattle.dart_store.specs.Heap.{field_of}
use Rattle.core_program.specs.Core as c
use Rattle.core_program.specs.Program.{Parameter, Function, Program}
use Rattle.evaluation.specs.State.{State, answer, Outcome, ends, World}
use Rattle.evaluation.specs.Sequence.{on_answer, on_answers}
use Rattle.evaluation.specs.Arguments.{nothing_given}
use Rattle.evaluation.specs.Checks.{reaction}
use Rattle.evaluation.specs.Classes.{function_at, member, member_at, member_function, member_owner}
use Rattle.evaluation.specs.Evaluation.{eval, evals, part, row, binding, returned, activation, body_of}
use Rattle.evaluation.specs.Externals.{native}
use Rattle.evaluation.specs.Invocation.{leaving, receiving, member_call, got, get_from, get}
use Rattle.evaluation.specs.Parts.{form_of, is_block_part}
use Rattle.evaluation.specs.Values.{class_of, object_at}
use Rattle.machine_lookup.specs.declared.linked.Found.{Found}
use Rattle.machine_lookup.specs.declared.shapes.Reads.{Reads}
use Rattle.machine_lookup.specs.Found.{IsFound, reading}
use Rattle.machine_lookup.specs.Shapes.{is_this, native_of_job, Reading, a_field, a_native, native_reading, reading_of_row, reading_of_leaf, reading_of_body, reading_over, reading_of_function, reading_of_member}
use Rattle.machine_frame.specs.declared.around.Around.{Around}
use Rattle.machine_frame.specs.Outside.{checking_of, setting_of, failing, world_in}
use Rattle.machine_frame.proofs.Quick.{leaf_enters, row_enters}
use Rattle.machine_frame.proofs.Resume.{calls_suc}
use Rattle.machine_loop.specs.Operator.{ReadsAtOnce, IsReading}
use Rattle.machine_loop.proofs.Operated.{is_this_of, of_job}

-- what a table has found of a getter
pub found_reading : (p : Program ℕ) (f : Found) (k name : ℕ) (x : Reads) → IsFound p f → f.class ≡ k → f.name ≡ name → f.method ≡ None → f.reads ≡ Some x
    → IsReading p k name (reading x)
found_reading p f k name x is_found class named method e =
    let here : (m : Option ℕ) → m ≡ member p (Some f.class) f.name Method → m ≡ member p (Some k) name Method = λ m h. h ∙ ap (λ k. member p (Some k) f.name Method) class ∙ ap (λ n. member p (Some k) n Method) named in (
      sym (here f.method is_found.method) ∙ method,
      sym (ap (reading_of_member p) (is_found.getter ∙ ap (λ k. member p (Some k) f.name Getter) class ∙ ap (λ n. member p (Some k) n Getter) named))
          ∙ subst (λ o. IfSome o (λ x. reading_of_member p f.getter ≡ Some (reading x))) e is_found.reads,
    )

-- so many steps less
abbrev less : ℕ → State → State
less n st = record st { left = st.left - n }

-- ---- bodies that read

leaf_is : (leaf : c.Leaf ℕ) (i : ℕ) → reading_of_leaf leaf ≡ Some (a_field i) → leaf ≡ c.field i
leaf_is (c.field j) i e = ap c.field (cc)
leaf_is leaf i e = absurd (cc)

no_leaf : (leaf : c.Leaf ℕ) (id : NativeId) → reading_of_leaf leaf ≡ Some (a_native id) → ⊥
no_leaf (c.field j) id e = absurd (cc)
no_leaf leaf id e = absurd (cc)

no_row : (b : Bool) (o : Option NativeId) (i : ℕ) → native_reading b o ≡ Some (a_field i) → ⊥
no_row true (Some id) i e = absurd (cc)
no_row b o i e = absurd (cc)

no_row_forms : (job : c.Job ℕ) (forms : c.Cores ℕ) (i : ℕ) → reading_of_row job forms ≡ Some (a_field i) → ⊥
no_row_forms job (c.core_more first c.no_cores) i e = no_row (is_this (form_of first)) (native_of_job job) i e
no_row_forms job forms i e = absurd (cc)

record IsField (body : c.Part ℕ) (i : ℕ) : Type 0 where
  at : Place
  is : body ≡ c.given (c.at at (c.leaf (c.field i)))

field_is : (body : c.Part ℕ) (i : ℕ) → reading_of_body body ≡ Some (a_field i) → IsField body i
field_is (c.given (c.at p (c.leaf leaf))) i e = record { at = p; is = ap (λ q. c.given (c.at p (c.leaf q))) (leaf_is leaf i e) }
field_is (c.given (c.at p (c.row job forms []))) i e = absurd (no_row_forms job forms i e)
field_is body i e = absurd (cc)

native_reads : (b : Bool) (o : Option NativeId) (id : NativeId) → native_reading b o ≡ Some (a_native id) → (b ≡ true) × (o ≡ Some id)
native_reads true (Some id') id e = (refl, ap Some (cc))
native_reads b o id e = absurd (cc)

record IsNativeOfThis (body : c.Part ℕ) (id : NativeId) : Type 0 where
  at : Place
  this_at : Place
  is : body ≡ c.given (c.at at (c.row (c.native id) (c.core_more (c.at this_at (c.leaf c.this)) c.no_cores) []))

record IsRowOfThis (job : c.Job ℕ) (forms : c.Cores ℕ) (id : NativeId) : Type 0 where
  this_at : Place
  is_job : job ≡ c.native id
  is_forms : forms ≡ c.core_more (c.at this_at (c.leaf c.this)) c.no_cores

row_of_this : (job : c.Job ℕ) (forms : c.Cores ℕ) (id : NativeId) → reading_of_row job forms ≡ Some (a_native id) → IsRowOfThis job forms id
row_of_this job (c.core_more (c.at q one) c.no_cores) id e =
    let b = native_reads (is_this one) (native_of_job job) id e in
    record { this_at = q; is_job = of_job job id b.1; is_forms = ap (λ f. c.core_more (c.at q f) c.no_cores) (is_this_of one b.0) }
row_of_this job forms id e = absurd (cc)

native_of_this : (body : c.Part ℕ) (id : NativeId) → reading_of_body body ≡ Some (a_native id) → IsNativeOfThis body id
native_of_this (c.given (c.at p (c.leaf leaf))) id e = absurd (no_leaf leaf id e)
native_of_this (c.given (c.at p (c.row job forms []))) id e =
    let b = row_of_this job forms id e in
    record {
      at = p;
      this_at = b.this_at;
      is = ap (λ j. c.given (c.at p (c.row j forms []))) b.is_job ∙ ap (λ fs. c.given (c.at p (c.row (c.native id) fs []))) b.is_forms;
    }
native_of_this body id e = absurd (cc)

one_answer : (w : World) (at : Place) (id : NativeId) (first : c.Core ℕ) (st st' : State) (x : Value) (o : Outcome)
    → eval first w st ≡ ends (answer x) st' → native w.setting at id (x ∷ []) st' ≡ o
    → on_answers (row w at (c.native id) []) (evals false (c.core_more first c.no_cores) w) [] st ≡ o
one_answer w at id first st st' x o ex e = ap (on_answer (λ v. on_answers (row w at (c.native id) []) [] (v ∷ []))) ex ∙ e

-- ---- the call of a getter

module _ (around : Around) (d name k : ℕ) (this u : Value) (st : State) (h : d ≢ 0) (at : Place) where
  abbrev P : Program ℕ
  P = (setting_of around).program

  abbrev W : World
  W = world_in around (d - 1)

  abbrev inside : ℕ → ℕ → ℕ → State
  inside f owner vars = record st { activation = activation f vars (receiving this owner) }

  -- a body without parameters that answers at once
  by_body : (m left : ℕ) (one : Function ℕ) → function_at P (member_function (member_at P m)) ≡ Some one → one.parameters ≡ [] → is_block_part one.body ≡ false
      → part one.body W Null (inside (member_function (member_at P m)) (member_owner (member_at P m)) one.vars)
      ≡ ends (answer u) (record (inside (member_function (member_at P m)) (member_owner (member_at P m)) one.vars) { left = left })
      → member_call (world_in around d) at m this nothing_given st ≡ ends (answer u) (record st { left = left })
  by_body m left one found takes no_block does =
      let S = setting_of around in
      let f = member_function (member_at P m) in
      let callee = receiving this (member_owner (member_at P m)) in
      let first = record st { activation = activation f one.vars callee } in
      ap (leaving at) (calls_suc S (reaction (checking_of around) S (failing around.setup.now.annotated)) d f callee nothing_given st h
      ∙ ap (λ o. body_of o f W callee nothing_given st) found
      ∙ ap (λ qs. returned (is_block_part one.body) st.activation (binding W nothing_given qs 0 (part one.body W Null) first)) takes
      ∙ ap (λ b. returned b st.activation (part one.body W Null first)) no_block
      ∙ ap (returned false st.activation) does)

  -- where no method has the name
  by_getter : (m : ℕ) (o : Outcome) → class_of (setting_of around) st.heap this ≡ Some k → member P (Some k) name Method ≡ None → member P (Some k) name Getter ≡ Some m
      → member_call (world_in around d) at m this nothing_given st ≡ o → get (world_in around d) at name this st ≡ o
  by_getter m o is_of none some e =
      ap (λ q. get_from (world_in around d) at q name this st) is_of
      ∙ ap (λ q. got (world_in around d) at (Some k) name this q (member P (Some k) name Getter) st) none
      ∙ ap (λ q. got (world_in around d) at (Some k) name this None q st) some ∙ e

  module _ (x : Reading) (o : Outcome) (is_of : class_of (setting_of around) st.heap this ≡ Some k) (is : IsReading P k name x)
      (goes : (m : ℕ) (one : Function ℕ) → function_at P (member_function (member_at P m)) ≡ Some one → one.parameters ≡ [] → reading_of_body one.body ≡ Some x
      → member_call (world_in around d) at m this nothing_given st ≡ o) where
    by_parameters : (m : ℕ) (one : Function ℕ) (qs : List (Parameter ℕ)) → function_at P (member_function (member_at P m)) ≡ Some one → one.parameters ≡ qs
        → reading_over qs one.body ≡ Some x → member_call (world_in around d) at m this nothing_given st ≡ o
    by_parameters m one [] found takes e = goes m one found takes e
    by_parameters m one (q ∷ qs) found takes e = absurd (none-some x e)

    by_function : (m : ℕ) (f : Option (Function ℕ)) → function_at P (member_function (member_at P m)) ≡ f → reading_of_function f ≡ Some x
        → member_call (world_in around d) at m this nothing_given st ≡ o
    by_function m None found e = absurd (none-some x e)
    by_function m (Some one) found e = by_parameters m one one.parameters found refl e

    by_member : (m : Option ℕ) → member P (Some k) name Getter ≡ m → reading_of_member P m ≡ Some x → get (world_in around d) at name this st ≡ o
    by_member None some e = absurd (none-some x e)
    by_member (Some m) some e = by_getter m o is_of is.0 some (by_function m (function_at P (member_function (member_at P m))) refl e)

    gets : get (world_in around d) at name this st ≡ o
    gets = by_member (member P (Some k) name Getter) refl is.1

-- a getter that reads a field
pub field_got : (around : Around) (d name k : ℕ) (this : Value) (i : ℕ) (st : State) → d ≢ 0 → 2 ≤ st.left → class_of (setting_of around) st.heap this ≡ Some k
    → IsReading (setting_of around).program k name (a_field i) → (at : Place)
    → get (world_in around d) at name this st ≡ ends (answer (field_of (object_at st.heap this) i)) (less 1 st)
field_got around d name k this i st h l is_of is at =
    let u = field_of (object_at st.heap this) i in
    let p = (setting_of around).program in
    gets around d name k this u st h at (a_field i) (ends (answer u) (less 1 st)) is_of is
    (λ m one found takes body.
    let b = field_is one.body i body in
    let s = record st { activation = activation (member_function (member_at p m)) one.vars (receiving this (member_owner (member_at p m))) } in
    by_body around d name k this u st h at m (st.left - 1) one found takes (ap is_block_part b.is)
    (ap (λ q. part q (world_in around (d - 1)) Null s) b.is ∙ leaf_enters b.at (c.field i) (world_in around (d - 1)) s (let g : st.left ≢ 0 = omega (arith, l) in g)))

-- a getter that is a native of `this`
pub native_got : (around : Around) (d name k : ℕ) (this u : Value) (id : NativeId) (st : State) → d ≢ 0 → 2 ≤ st.left → class_of (setting_of around) st.heap this ≡ Some k
    → IsReading (setting_of around).program k name (a_native id) → ReadsAtOnce around id this st.heap u → (at : Place)
    → get (world_in around d) at name this st ≡ ends (answer u) (less 2 st)
native_got around d name k this u id st h l is_of is reads at =
    let p = (setting_of around).program in
    let w = world_in around (d - 1) in
    gets around d name k this u st h at (a_native id) (ends (answer u) (less 2 st)) is_of is
    (λ m one found takes body.
    let b = native_of_this one.body id body in
    let s = record st { activation = activation (member_function (member_at p m)) one.vars (receiving this (member_owner (member_at p m))) } in
    let first = c.at b.this_at (c.leaf c.this) in
    by_body around d name k this u st h at m (st.left - 2) one found takes (ap is_block_part b.is)
    (ap (λ q. part q w Null s) b.is
    ∙ row_enters b.at (c.native id) (c.core_more first c.no_cores) [] w s (ends (answer u) (less 2 s)) (let g : st.left ≢ 0 = omega (arith, l) in g)
    (one_answer w b.at id first (less 1 s) (less 2 s) this (ends (answer u) (less 2 s))
    (leaf_enters b.this_at c.this w (less 1 s) (let g : st.left - 1 ≢ 0 = omega (arith, l) in g)
    ∙ ap (λ m. ends (answer this) (record s { left = m })) (let g : st.left - 1 - 1 ≡ st.left - 2 = omega arith in g))
    (reads b.at (less 2 s) refl))))
