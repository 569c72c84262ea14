-- Operators that are natives of numbers: what a call of one comes to.
use Rattle.std.proofs.Common.{◌≡◌, ◌≢◌, ℕ, ◌+◌, ◌-◌, ◌≤◌, ◌<◌, nat_le, ◌==◌, not, List, [], ◌∷◌, length, replicate, Bool, true, false, ◌&&◌, nat_eq, nat_lt, Option, Some, None, IfSome, cond, position, is_some, map, refl, sym, subst, ap, ◌∙◌, arith}
use Rattle.std.proofs.lemmas.Bool.{eqb-true, ltb-true}
use Rattle.std.proofs.lemmas.List.{get_or-set_same, length-replicate}
use Rattle.std.proofs.lemmas.Option.{none-some, same_Some}
use Rattle.dart_base.specs.declared.place.Place.{Place}
use Rattle.dart_ir.specs.declared.class.Role.TheVariants.{Method, Getter}
use Rattle.dart_ir.specs.declared.kind.Shape.{Shape}
use Rattle.dart_ir.specs.declared.kind.Shape.TheVariants.{Required}
use Rattle.dart_ir.specs.declared.native.Answer.TheVariants as a
use Rattle.dart_ir.specs.declared.native.NativeId.{NativeId}
use Rattle.dart_ir.specs.declared.native.NativeId.TheVariants as n
use Rattle.dart_ir.specs.declared.value.Value.{Value}
use Rattle.dart_ir.specs.declared.value.Value.TheVariants.{Null, Bool as Truth, Int}
use Rattle.dart_store.specs.Heap.{Heap}
use Rattle.std.specs.Global.{Box}
use Rattle.dart_base.specs.declared.name.Name.{Name}
use Rattle.dart_ir.specs.declared.number.SiteId.{SiteId}
use Rattle.core_program.specs.declared.form.Arguments.{Arguments}
use Rattle.core_program.specs.declared.form.Binary.TheVariants as of_two
use Rattle.core_program.specs.declared.form.Core.{Core}
use Rattle.core_program.specs.declared.form.Form.{Form}
use Rattle.core_program.specs.declared.form.Form as k
use Rattle.core_program.specs.declared.form.Form.TheViews.{out-Core, out-Arguments}
use Rattle.core_program.specs.declared.form.Job.{Job}
use Rattle.core_program.specs.declared.form.Unary.{Unary}
use Rattle.core_program.specs.declared.form.Unary.TheVariants as of_one
use Rattle.core_program.specs.View as v
use Rattle.core_program.proofs.Views.{core_out, view_row, view_binary, view_unary, arguments_out}
use Rattle.core_program.specs.Core as c
use Rattle.core_program.specs.Program.{Parameter, Function, Program}
use Rattle.native_number.specs.Number.{number_native}
use Rattle.evaluation.specs.State.{Event, State, Activation, Source, a_function, now, tested, with_event, answer, Outcome, ends, Meaning, Callee, World}
use Rattle.evaluation.specs.Sequence.{on_answer, on_answers, chosen}
use Rattle.evaluation.specs.Arguments.{alone, is_required, is_named, one_if, fit, fits, value_by}
use Rattle.evaluation.specs.Classes.{function_at, member, member_at, member_function, member_owner}
use Rattle.evaluation.specs.Values.{class_of, head_of, arguments_here}
use Rattle.evaluation.specs.Externals.{native}
use Rattle.evaluation.specs.Parts.{form_of, is_block_part, is_closure, is_join, takes_step}
use Rattle.evaluation.specs.Checks.{reaction}
use Rattle.evaluation.specs.Variables.{function_cells, function_captures, has_cell, own_room, room_at, value_in, variable, with_slot, declared, declare}
use Rattle.evaluation.specs.Evaluation.{eval, evals, act, part, row, unary, binary, before_operand, site, binding, returned, activation, body_of}
use Rattle.evaluation.specs.Invocation.{leaving, receiving, member_call, missing_from, fitting, sent, send_from, send, equal}
use Rattle.machine_frame.specs.declared.around.Around.{Around}
use Rattle.machine_frame.specs.declared.run.Run.{Run}
use Rattle.machine_frame.specs.Outside.{checking_of, failing, setting_of, world_in, IsAdmitted}
use Rattle.machine_frame.specs.Frames.{seen, below_of, resume, does, does_row, mute}
use Rattle.evaluation.proofs.Kept.{Kept, Keeps, kept_logic}
use Rattle.evaluation.proofs.Logic.{answers, on_answers_rel}
use Rattle.machine_frame.proofs.Mute.{quiet, admitted, keeps_mute, form_kept, rows, going_on, unary_kept, binary_kept, row_keeps, site_kept, site_admitted}
use Rattle.machine_frame.proofs.Natives.{native_gives, integers_equal}
use Rattle.machine_frame.proofs.Quick.{two_answers, leaf_enters, row_enters}
use Rattle.machine_frame.proofs.Resume.{calls_suc}
use Rattle.machine_frame.proofs.Steps.{binding_begins, form_enters}
use Rattle.machine_lookup.specs.Rows.{but_last}
use Rattle.machine_lookup.specs.declared.linked.Found.{Found}
use Rattle.machine_lookup.specs.Found.{IsFound}
use Rattle.machine_lookup.specs.Shapes.{is_this, is_this_leaf, reads, reads_leaf, are_operands, native_of_job, native_of_body, native_over, is_none, native_of_function, native_of_member, operator, operand_site, site_of_member, site_of_function, site_of_parameters}
use Rattle.machine_loop.specs.Operator.{AnswersAtOnce, IsTaken}

-- so many steps less
abbrev less : ℕ → State → State
less n st = record st { left = st.left - n }

pub chosen_some : {A : Type 0} (b : Bool) (o : Option A) (id : A) → cond b o None ≡ Some id → (b ≡ true) × (o ≡ Some id)
chosen_some true o id e = (refl, e)
chosen_some false o id e = absurd (none-some id e)

pub both_true : (b d : Bool) → b && d ≡ true → (b ≡ true) × (d ≡ true)
both_true true d e = (refl, e)
both_true false d e = absurd (cc)

pub none_of : (xs : List ℕ) → is_none xs ≡ true → xs ≡ []
none_of [] e = refl
none_of (x ∷ xs) e = absurd (cc)

pub required_is : (s : Shape) → is_required s ≡ true → s ≡ Required
required_is Required e = refl
required_is s e = absurd (cc)

-- ---- bodies that are natives

pub of_job : (job : c.Job ℕ) (id : NativeId) → native_of_job job ≡ Some id → job ≡ c.native id
of_job (c.native other) id e = ap c.native (same_Some other id e)
of_job job id e = absurd (none-some id e)

is_this_leaf_of : (leaf : c.Leaf ℕ) → is_this_leaf leaf ≡ true → leaf ≡ c.this
is_this_leaf_of c.this e = refl
is_this_leaf_of leaf e = absurd (cc)

pub is_this_of : (form : c.Form ℕ) → is_this form ≡ true → form ≡ c.leaf c.this
is_this_of (c.leaf leaf) e = ap c.leaf (is_this_leaf_of leaf e)
is_this_of form e = absurd (cc)

reads_leaf_of : (leaf : c.Leaf ℕ) (x : ℕ) → reads_leaf leaf x ≡ true → leaf ≡ c.read x
reads_leaf_of (c.read y) x e = ap c.read (eqb-true y x e)
reads_leaf_of leaf x e = absurd (cc)

pub reads_of : (form : c.Form ℕ) (x : ℕ) → reads form x ≡ true → form ≡ c.leaf (c.read x)
reads_of (c.leaf leaf) x e = ap c.leaf (reads_leaf_of leaf x e)
reads_of form x e = absurd (cc)

record AreOperands (forms : c.Cores ℕ) (x : ℕ) : Type 0 where
  this_at : Place
  read_at : Place
  is : forms ≡ c.core_more (c.at this_at (c.leaf c.this)) (c.core_more (c.at read_at (c.leaf (c.read x))) c.no_cores)

operands_are : (forms : c.Cores ℕ) (x : ℕ) → are_operands forms x ≡ true → AreOperands forms x
operands_are (c.core_more (c.at p one) (c.core_more (c.at q other) c.no_cores)) x e =
    let b = both_true (is_this one) (reads other x) e in
    record {
      this_at = p;
      read_at = q;
      is = ap (λ f. c.core_more (c.at p f) (c.core_more (c.at q other) c.no_cores)) (is_this_of one b.0)
          ∙ ap (λ f. c.core_more (c.at p (c.leaf c.this)) (c.core_more (c.at q f) c.no_cores)) (reads_of other x b.1);
    }
operands_are forms x e = absurd (cc)

record IsNative (body : c.Part ℕ) (x : ℕ) (id : NativeId) : Type 0 where
  at : Place
  this_at : Place
  read_at : Place
  is : body ≡ c.given (c.at at (c.row (c.native id) (c.core_more (c.at this_at (c.leaf c.this)) (c.core_more (c.at read_at (c.leaf (c.read x))) c.no_cores)) []))

native_is : (body : c.Part ℕ) (x : ℕ) (id : NativeId) → native_of_body body x ≡ Some id → IsNative body x id
native_is (c.given (c.at p (c.row job forms []))) x id e =
    let y = chosen_some (are_operands forms x) (native_of_job job) id e in
    let o = operands_are forms x y.0 in
    record {
      at = p;
      this_at = o.this_at;
      read_at = o.read_at;
      is = ap (λ j. c.given (c.at p (c.row j forms []))) (of_job job id y.1) ∙ ap (λ fs. c.given (c.at p (c.row (c.native id) fs []))) o.is;
    }
native_is body x id e = absurd (none-some id e)

module _ (around : Around) (d : ℕ) where
  abbrev W : World
  W = world_in around d

  -- the body, in which `this` and the parameter stand
  body_answers : (body : c.Part ℕ) (x : ℕ) (id : NativeId) (v u : Value) (st : State) → native_of_body body x ≡ Some id → 3 ≤ st.left
      → variable (setting_of around) (now (less 2 st)) x ≡ v → AnswersAtOnce around id st.activation.this v st.heap u
      → part body W Null st ≡ ends (answer u) (less 3 st)
  body_answers body x id v u st e l h n =
      let b = native_is body x id e in
      let first = c.at b.this_at (c.leaf c.this) in
      let second = c.at b.read_at (c.leaf (c.read x)) in
      let st' = less 1 st in
      let st'' = less 2 st in
      ap (λ p. part p W Null st) b.is
      ∙ row_enters b.at (c.native id) (c.core_more first (c.core_more second c.no_cores)) [] W st (ends (answer u) (less 3 st))
      (let f : st.left ≢ 0 = omega (arith, l) in f)
      (two_answers W b.at id [] first second st' st'' (less 3 st) st.activation.this v (ends (answer u) (less 3 st))
      (leaf_enters b.this_at c.this W st' (let f : st.left - 1 ≢ 0 = omega (arith, l) in f)
      ∙ ap (λ m. ends (answer st.activation.this) (record st { left = m })) (let f : st.left - 1 - 1 ≡ st.left - 2 = omega arith in f))
      (leaf_enters b.read_at (c.read x) W st'' (let f : st.left - 2 ≢ 0 = omega (arith, l) in f)
      ∙ ap (λ m. ends (answer (variable (setting_of around) (now (record st { left = m })) x)) (record st { left = m })) (let f : st.left - 2 - 1 ≡ st.left - 3 = omega arith in f)
      ∙ ap (λ z. ends (answer z) (less 3 st)) h)
      (n b.at (less 3 st) refl))

  -- ---- the call of a function of one parameter, none of whose variables has a cell

  module _ (f : ℕ) (one : Function ℕ) (q : Parameter ℕ) (found : function_at (setting_of around).program f ≡ Some one)
      (takes : one.parameters ≡ q ∷ []) (required : q.shape ≡ Required) (slots : q.var < one.vars) (no_cells : one.cells ≡ []) (no_captures : one.captures ≡ []) where
    module _ (callee : Callee) (v : Value) where
      abbrev pub bound : Activation
      bound = with_slot (activation f one.vars callee) q.var v

      without_cell : (z : Activation) → z.source ≡ a_function f → has_cell (setting_of around) z q.var ≡ false
      without_cell z e =
          ap (λ (s : Source). has_cell (setting_of around) (record z { source = s }) q.var) e
          ∙ ap (λ o. is_some (position (nat_eq q.var) (function_cells o))) found ∙ ap (λ xs. is_some (position (nat_eq q.var) xs)) no_cells

      -- the parameter is a variable with the value
      pub reads_back : (st : State) → st.activation ≡ bound → variable (setting_of around) (now st) q.var ≡ v
      reads_back st e =
          ap (λ z. variable (setting_of around) (record (now st) { activation = z }) q.var) e
          ∙ ap (λ o. value_in st.heap bound (room_at (position (nat_eq q.var) (function_captures o)) (setting_of around) st.heap bound q.var)) found
          ∙ ap (λ xs. value_in st.heap bound (room_at (position (nat_eq q.var) xs) (setting_of around) st.heap bound q.var)) no_captures
          ∙ ap (λ b. value_in st.heap bound (own_room b bound q.var)) (without_cell bound refl)
          ∙ get_or-set_same (replicate one.vars Null) q.var v Null
          (let h : q.var < length (replicate one.vars Null) = omega (arith, slots, length-replicate one.vars Null) in h)

      abbrev pub event : State → ℕ → ℕ → Event
      event st = tested q.site (head_of (setting_of around) st.heap v) (arguments_here (setting_of around) (now st))

      -- entered with the value, which has passed its site
      abbrev pub entered : State → State
      entered st =
          let st' = less 1 (record st { activation = activation f one.vars callee }) in
          record (with_event st' (event st')) { activation = bound }

      -- its body, and the caller's activation behind it
      pub body_goes : (u : Value) (end st : State) → IsAdmitted around st.heap q.site v → st.left ≢ 0 → is_block_part one.body ≡ false → part one.body W Null (entered st) ≡ ends (answer u) end
          → body_of (Some one) f W callee (alone v) st ≡ ends (answer u) (record end { activation = st.activation })
      body_goes u end st goes_on l no_block goes =
          let b = is_block_part one.body in
          let go = part one.body W Null in
          let first = record st { activation = activation f one.vars callee } in
          let st' = less 1 first in
          let come = with_event st' (event st') in
          ap (λ qs. returned b st.activation (binding W (alone v) qs 0 go first)) takes
          ∙ ap (returned b st.activation) (binding_begins W (alone v) q [] 0 go first l
          ∙ ap (λ (s : Shape). on_answer (λ _. go) (on_answer (declare (setting_of around) q.var) (site W q.site (value_by s (alone v) 0 q) st'))) required
          ∙ ap (λ o. on_answer (λ _. go) (on_answer (declare (setting_of around) q.var) o))
          (admitted around st.heap q.site v (arguments_here (setting_of around) (now st')) come goes_on)
          ∙ ap (λ c. on_answer (λ _. go) (declared c q.var v come)) (without_cell (activation f one.vars callee) refl)
          ∙ goes)
          ∙ ap (λ c. returned c st.activation (ends (answer u) end)) no_block

      -- that of a function that is an operator
      body_does : (id : NativeId) (body : native_of_body one.body q.var ≡ Some id) (u : Value) (st : State) → IsAdmitted around st.heap q.site v → 4 ≤ st.left
          → AnswersAtOnce around id callee.this v st.heap u → body_of (Some one) f W callee (alone v) st ≡ ends (answer u) (record (less 3 (entered st)) { activation = st.activation })
      body_does id body u st goes_on l n =
          body_goes u (less 3 (entered st)) st goes_on (let h : st.left ≢ 0 = omega (arith, l) in h) (ap is_block_part (native_is one.body q.var id body).is)
          (body_answers one.body q.var id v u (entered st) body (let h : 3 ≤ st.left - 1 = omega (arith, l) in h) (reads_back (less 2 (entered st)) refl) n)

pub fit_one : (q : Parameter ℕ) (v : Value) → q.shape ≡ Required → fit (q ∷ []) (alone v) ≡ true
fit_one q v e = ap (λ (s : Shape). nat_le (one_if (is_required s) + 0) 1 && (nat_le 1 (one_if (not (is_named s)) + 0) && true)) e

module _ (around : Around) (d name k : ℕ) (this v u : Value) (id : NativeId) (st : State) (taken : IsTaken around st.heap k name v) (h : d ≢ 0)
    (l : 4 ≤ st.left) (n : AnswersAtOnce around id this v st.heap u) (at : Place) where
  abbrev P : Program ℕ
  P = (setting_of around).program

  -- what is there behind it, with the event aside
  abbrev there : Outcome
  there = mute (ends (answer u) (less 4 st))

  by_parameters : (m : ℕ) (one : Function ℕ) (qs : List (Parameter ℕ)) → member P (Some k) name Method ≡ Some m → function_at P (member_function (member_at P m)) ≡ Some one → one.parameters ≡ qs
      → is_none one.cells && is_none one.captures ≡ true → native_over qs one ≡ Some id
      → mute (fitting (world_in around d) at (Some k) Method name this (alone v) m st) ≡ there
  by_parameters m one (q ∷ []) listed found takes none x =
      let S = setting_of around in
      let w = world_in around d in
      let f = member_function (member_at P m) in
      let callee = receiving this (member_owner (member_at P m)) in
      let cells = both_true (is_none one.cells) (is_none one.captures) none in
      let y = chosen_some (is_required q.shape && nat_lt q.var one.vars) (native_of_body one.body q.var) id x in
      let z = both_true (is_required q.shape) (nat_lt q.var one.vars) y.0 in
      let required = required_is q.shape z.0 in
      let goes_on = taken q.site (ap (site_of_member P) listed ∙ ap site_of_function found ∙ ap site_of_parameters takes) in
      ap (λ b. mute (chosen b (member_call w at m this (alone v)) (missing_from w at (Some k) Method name this (alone v)) st))
      (ap (λ o. fits o (alone v)) found ∙ ap (λ qs. fit qs (alone v)) takes ∙ fit_one q v required)
      ∙ ap (λ o. mute (leaving at o)) (calls_suc S (reaction (checking_of around) S (failing around.setup.now.annotated)) d f callee (alone v) st h
      ∙ ap (λ o. body_of o f (world_in around (d - 1)) callee (alone v) st) found
      ∙ body_does around (d - 1) f one q found takes required (ltb-true q.var one.vars z.1) (none_of one.cells cells.0) (none_of one.captures cells.1) callee v id y.1 u st goes_on l n)
      ∙ ap (λ m. ends (answer u) (record st { left = m; events = [] })) (let e : st.left - 1 - 3 ≡ st.left - 4 = omega arith in e)
  by_parameters m one qs listed found takes none x = absurd (cc)

  by_function : (m : ℕ) (o : Option (Function ℕ)) → member P (Some k) name Method ≡ Some m → function_at P (member_function (member_at P m)) ≡ o → native_of_function o ≡ Some id
      → mute (fitting (world_in around d) at (Some k) Method name this (alone v) m st) ≡ there
  by_function m None listed found x = absurd (none-some id x)
  by_function m (Some one) listed found x =
      let y = chosen_some (is_none one.cells && is_none one.captures) (native_over one.parameters one) id x in
      by_parameters m one one.parameters listed found refl y.0 y.1

  by_member : (o : Option ℕ) → member P (Some k) name Method ≡ o → native_of_member P o ≡ Some id
      → mute (send_from (world_in around d) at (Some k) name this (alone v) st) ≡ there
  by_member None e x = absurd (none-some id x)
  by_member (Some m) e x =
      ap (λ o. mute (sent (world_in around d) at (Some k) name this (alone v) o (member P (Some k) name Getter) st)) e
      ∙ by_function m (function_at P (member_function (member_at P m))) e refl x

-- a native of numbers that answers a value
pub number_at_once : (around : Around) (id : NativeId) (x y : Value) (h : Heap) (u : Value) → number_native id x y ≡ Some (a.Value u) → AnswersAtOnce around id x y h u
number_at_once around id x y h u n at st e = native_gives around at id x y st u n

-- an operator of an object of class k, which surely takes the value
pub operated : (around : Around) (d name k : ℕ) (this v u : Value) (id : NativeId) (st : State) → IsTaken around st.heap k name v → d ≢ 0 → 4 ≤ st.left
    → class_of (setting_of around) st.heap this ≡ Some k → operator (setting_of around).program k name ≡ Some id → AnswersAtOnce around id this v st.heap u → (at : Place)
    → mute (send (world_in around d) at name this (alone v) st) ≡ mute (ends (answer u) (less 4 st))
operated around d name k this v u id st taken h l is_of x n at =
    ap (λ o. mute (send_from (world_in around d) at o name this (alone v) st)) is_of
    ∙ by_member around d name k this v u id st taken h l n at (member (setting_of around).program (Some k) name Method) refl x

-- the operator that a table has found
pub found_operator : (p : Program ℕ) (f : Found) (k name : ℕ) (id : NativeId) → IsFound p f → f.class ≡ k → f.name ≡ name → f.operator ≡ Some id
    → operator p k name ≡ Some id
found_operator p f k name id is_found class named e =
    sym (ap (λ k. native_of_member p (member p (Some k) f.name Method)) class ∙ ap (λ n. native_of_member p (member p (Some k) n Method)) named)
    ∙ sym (ap (native_of_member p) is_found.method)
    ∙ subst (λ o. IfSome o (λ id. native_of_member p f.method ≡ Some id)) e is_found.operator

-- the site of its parameter
pub found_operand : (p : Program ℕ) (f : Found) (k name : ℕ) → IsFound p f → f.class ≡ k → f.name ≡ name → operand_site p k name ≡ f.operand
found_operand p f k name is_found class named =
    sym (ap (λ k. site_of_member p (member p (Some k) f.name Method)) class ∙ ap (λ n. site_of_member p (member p (Some k) n Method)) named)
    ∙ sym (ap (site_of_member p) is_found.method)
    ∙ sym is_found.operand

-- the answer, where the operands at the end are no longer needed
pub row_answered : (around : Around) (r : Run) (count left : ℕ) (u : Value) (m : World → Meaning)
    → mute (m (world_in around r.depth) (seen r)) ≡ mute (ends (answer u) (record (seen r) { left = left }))
    → mute (resume around (record (below_of r) { operands = but_last count r.operands.items }) r.frames.items (ends (answer u) (record (seen r) { left = left })))
    ≡ does_row around r count m
row_answered around r count left u m e =
    sym (quiet around (record (below_of r) { operands = but_last count r.operands.items }) r.frames.items (m (world_in around r.depth) (seen r)) (ends (answer u) (record (seen r) { left = left })) e)

-- the same, where no operand was there
pub answered_at_once : (around : Around) (r : Run) (left : ℕ) (u : Value) (m : World → Meaning)
    → mute (m (world_in around r.depth) (seen r)) ≡ mute (ends (answer u) (record (seen r) { left = left }))
    → mute (resume around (below_of r) r.frames.items (ends (answer u) (record (seen r) { left = left }))) ≡ does around r m
answered_at_once around r left u m e =
    sym (quiet around (below_of r) r.frames.items (m (world_in around r.depth) (seen r)) (ends (answer u) (record (seen r) { left = left })) e)

-- ---- forms whose operands are answered at once

module _ (around : Around) (d : ℕ) where
  abbrev V : World
  V = world_in around d

  -- what a kept meaning makes of an outcome that is known but for events
  goes : (g : Outcome → Outcome) → Keeps g → (o o' : Outcome) → mute o ≡ mute o' → mute (g o) ≡ mute (g o')
  goes g k o o' e = keeps_mute g k o ∙ ap (λ o. mute (g o)) e ∙ sym (keeps_mute g k o')

  row_kept : (at : Place) (job : c.Job ℕ) (vs : List Value) → Kept (row V at job [] vs)
  row_kept at job vs = row_keeps around d at job [] vs

  binary_of : (at : Place) (first second : c.Core ℕ) (st st' st'' : State) (x y : Value) (o : Outcome)
      → mute (eval first V st) ≡ mute (ends (answer x) st') → mute (eval second V st') ≡ mute (ends (answer y) st'') → mute (equal V at x y st'') ≡ o
      → mute (on_answer (λ v st. on_answer (λ u. binary V at c.equal v u) (eval second V st)) (eval first V st)) ≡ o
  binary_of at first second st st' st'' x y o ex ey e =
      goes (on_answer (λ v st. on_answer (λ u. binary V at c.equal v u) (eval second V st)))
      (going_on around d (λ v st. on_answer (λ u. binary V at c.equal v u) (eval second V st))
      (λ v. answers kept_logic (λ u. binary V at c.equal v u) (λ u. binary V at c.equal v u) (binary_kept around d at c.equal v) (eval second V) (eval second V) (form_kept around d second)))
      (eval first V st) (ends (answer x) st') ex
      ∙ goes (on_answer (λ u. binary V at c.equal x u)) (going_on around d (λ u. binary V at c.equal x u) (binary_kept around d at c.equal x)) (eval second V st') (ends (answer y) st'') ey
      ∙ e

  row_goes : (at : Place) (job : c.Job ℕ) (first second : c.Core ℕ) (st st' st'' : State) (x y : Value) (o : Outcome)
      → mute (eval first V st) ≡ mute (ends (answer x) st') → mute (eval second V st') ≡ mute (ends (answer y) st'') → mute (row V at job [] (x ∷ y ∷ []) st'') ≡ o
      → mute (on_answers (row V at job []) (evals false (c.core_more first (c.core_more second c.no_cores)) V) [] st) ≡ o
  row_goes at job first second st st' st'' x y o ex ey e =
      goes (on_answer (λ v. on_answers (row V at job []) (evals false (c.core_more second c.no_cores) V) (v ∷ [])))
      (going_on around d (λ v. on_answers (row V at job []) (evals false (c.core_more second c.no_cores) V) (v ∷ []))
      (λ v. on_answers_rel kept_logic (row V at job []) (row V at job []) (λ vs. row_kept at job vs)
      (evals false (c.core_more second c.no_cores) V) (evals false (c.core_more second c.no_cores) V) (rows around d false (c.core_more second c.no_cores)) (v ∷ [])))
      (eval first V st) (ends (answer x) st') ex
      ∙ goes (on_answer (λ v. row V at job [] (x ∷ v ∷ []))) (going_on around d (λ v. row V at job [] (x ∷ v ∷ [])) (λ v. row_kept at job (x ∷ v ∷ []))) (eval second V st') (ends (answer y) st'') ey
      ∙ e

  -- a form that is seen so is entered
  enters_as : (core : Core) (at : Place) (x : c.Form ℕ) (st : State) (o : Outcome) → v.core core ≡ c.at at x → takes_step x ≡ true → st.left ≢ 0
      → mute (act x at V (record st { left = st.left - 1 })) ≡ o → mute (eval (v.core core) V st) ≡ o
  enters_as core at x st o is takes h e =
      ap (λ (y : c.Core ℕ). mute (eval y V st)) is ∙ ap mute (form_enters at x V st takes h) ∙ e

  pub row_at_once : (core : Core) (job : Job) (r : Arguments) (first second : Core) (st st' st'' : State) (x y : Value) (o : Outcome)
      → (out-Core core).form ≡ k.Row job r → (out-Arguments r).forms.items ≡ first ∷ second ∷ [] → (out-Arguments r).names.items ≡ [] → is_join (v.job job) ≡ false → st.left ≢ 0
      → mute (eval (v.core first) V (record st { left = st.left - 1 })) ≡ mute (ends (answer x) st') → mute (eval (v.core second) V st') ≡ mute (ends (answer y) st'')
      → ((at : Place) → mute (row V at (v.job job) [] (x ∷ y ∷ []) st'') ≡ o) → mute (eval (v.core core) V st) ≡ o
  row_at_once core job r first second st st' st'' x y o form forms names join h ex ey e =
      let at = (out-Core core).place in
      let two = c.core_more (v.core first) (c.core_more (v.core second) c.no_cores) in
      enters_as core at (c.row (v.job job) two []) st o
      (core_out core ∙ ap (λ (x : Form). c.at at (v.form x)) form ∙ ap (c.at at) (view_row job r
      ∙ ap (λ (p : v.Row). c.row (v.job job) p.0 p.1) (arguments_out r)
      ∙ ap (λ (l : List Core). c.row (v.job job) (c.cores (map v.core l)) (v.names (out-Arguments r).names.items)) forms
      ∙ ap (λ (l : List Name). c.row (v.job job) two (v.names l)) names)) refl h
      (ap (λ (b : Bool). mute (on_answers (row V at (v.job job) []) (evals b two V) [] (record st { left = st.left - 1 }))) join
      ∙ row_goes at (v.job job) (v.core first) (v.core second) (record st { left = st.left - 1 }) st' st'' x y o ex ey (e at))

  pub equal_at_last : (core : Core) (first second : Box Core) (one other : Core) (st st' st'' : State) (x y : Value) (o : Outcome)
      → (out-Core core).form ≡ k.Binary of_two.Equal first second → one ≡ first.value → other ≡ second.value → st.left ≢ 0
      → mute (eval (v.core one) V (record st { left = st.left - 1 })) ≡ mute (ends (answer x) st') → mute (eval (v.core other) V st') ≡ mute (ends (answer y) st'')
      → ((at : Place) → mute (equal V at x y st'') ≡ o) → mute (eval (v.core core) V st) ≡ o
  equal_at_last core first second one other st st' st'' x y o form is_one is_other h ex ey e =
      let at = (out-Core core).place in
      enters_as core at (c.binary c.equal (v.core first.value) (v.core second.value)) st o
      (core_out core ∙ ap (λ (x : Form). c.at at (v.form x)) form ∙ ap (c.at at) (view_binary of_two.Equal first second)) refl h
      (binary_of at (v.core first.value) (v.core second.value) (record st { left = st.left - 1 }) st' st'' x y o
      (ap (λ q. mute (eval (v.core q) V (record st { left = st.left - 1 }))) (sym is_one) ∙ ex) (ap (λ q. mute (eval (v.core q) V st')) (sym is_other) ∙ ey) (e at))

  pub check_at_once : (core : Core) (number : SiteId) (box : Box Core) (inner : Core) (st : State) (x : Value) (left : ℕ) → IsAdmitted around st.heap number.0 x
      → (out-Core core).form ≡ k.Unary (of_one.Check number) box → inner ≡ box.value → is_closure (form_of (v.core inner)) ≡ false → st.left ≢ 0
      → mute (eval (v.core inner) V (record st { left = st.left - 1 })) ≡ mute (ends (answer x) (record st { left = left }))
      → mute (eval (v.core core) V st) ≡ mute (ends (answer x) (record st { left = left }))
  check_at_once core number box inner st x left goes_on form is bare h e =
      let at = (out-Core core).place in
      let operand = v.core inner in
      let st' = record st { left = st.left - 1 } in
      enters_as core at (c.unary (c.check number.0) operand) st (mute (ends (answer x) (record st { left = left })))
      (core_out core ∙ ap (λ (x : Form). c.at at (v.form x)) form ∙ ap (c.at at) (view_unary (of_one.Check number) box) ∙ ap (λ q. c.at at (c.unary (c.check number.0) (v.core q))) (sym is)) refl h
      (ap (λ (b : Bool). mute (on_answer (site V number.0) (before_operand V b (c.check number.0) (eval operand V) st'))) bare
      ∙ goes (on_answer (site V number.0)) (going_on around d (site V number.0) (λ u. site_kept around d number.0 u)) (eval operand V st') (ends (answer x) (record st { left = left })) e
      ∙ site_admitted around d number.0 x (record st { left = left }) goes_on)

  -- a form with one operand that is answered at once
  pub unary_at_once : (core : Core) (one : Unary) (box : Box Core) (inner : Core) (st : State) (x : Value) (middle : ℕ) (o : Outcome)
      → (out-Core core).form ≡ k.Unary one box → inner ≡ box.value → is_closure (form_of (v.core inner)) ≡ false → st.left ≢ 0
      → mute (eval (v.core inner) V (record st { left = st.left - 1 })) ≡ mute (ends (answer x) (record st { left = middle }))
      → ((at : Place) → mute (unary V at false (v.unary one) x (record st { left = middle })) ≡ o) → mute (eval (v.core core) V st) ≡ o
  unary_at_once core one box inner st x middle o form is bare h e f =
      let at = (out-Core core).place in
      let operand = v.core inner in
      let st' = record st { left = st.left - 1 } in
      let u = v.unary one in
      enters_as core at (c.unary u operand) st o
      (core_out core ∙ ap (λ (x : Form). c.at at (v.form x)) form ∙ ap (c.at at) (view_unary one box) ∙ ap (λ q. c.at at (c.unary u (v.core q))) (sym is)) refl h
      (ap (λ (b : Bool). mute (on_answer (unary V at b u) (before_operand V b u (eval operand V) st'))) bare
      ∙ goes (on_answer (unary V at false u)) (going_on around d (unary V at false u) (λ x. unary_kept around d at false u x)) (eval operand V st') (ends (answer x) (record st { left = middle }))
      e
      ∙ f at)

-- a native of numbers that answers a value
pub native_done : (around : Around) (d : ℕ) (id : NativeId) (x y u : Value) (st : State) → number_native id x y ≡ Some (a.Value u) → (at : Place)
    → mute (row (world_in around d) at (c.native id) [] (x ∷ y ∷ []) st) ≡ mute (ends (answer u) st)
native_done around d id x y u st n at = ap mute (native_gives around at id x y st u n)

-- two values that are integers
pub equal_is : (x y : Value) (high low other_high other_low : ℕ) (b : Bool) → x ≡ Int high low → y ≡ Int other_high other_low → (high == other_high && low == other_low) ≡ b
    → (around : Around) (h : Heap) → AnswersAtOnce around n.ObjectEqual x y h (Truth b)
equal_is x y high low other_high other_low b is_x is_y same around h at st e =
    ap (λ z. native (setting_of around) at n.ObjectEqual (z ∷ y ∷ []) st) is_x ∙ ap (λ z. native (setting_of around) at n.ObjectEqual (Int high low ∷ z ∷ []) st) is_y
    ∙ integers_equal around at high low other_high other_low st ∙ ap (λ b. ends (answer (Truth b)) st) same

-- integers are compared by a call
pub compared : (w : World) (at : Place) (x y : Value) (high low other_high other_low : ℕ) (st : State) → x ≡ Int high low → y ≡ Int other_high other_low
    → equal w at x y st ≡ send w at w.setting.known.equals x (alone y) st
compared w at x y high low other_high other_low st is_x is_y =
    ap (λ z. equal w at z y st) is_x ∙ ap (λ z. equal w at (Int high low) z st) is_y
    ∙ sym (ap (λ z. send w at w.setting.known.equals z (alone y) st) is_x ∙ ap (λ z. send w at w.setting.known.equals (Int high low) (alone z) st) is_y)

pub if_some : {A : Type 0} (o : Option A) (P Q : A → Type 0) → ((x : A) → P x → Q x) → IfSome o P → IfSome o Q
if_some None P Q f h = h
if_some (Some x) P Q f h = f x h

pub if_both : {A : Type 0} (o : Option A) (P R Q : A → Type 0) → ((x : A) → P x → R x → Q x) → IfSome o P → IfSome o R → IfSome o Q
if_both None P R Q f h g = h
if_both (Some x) P R Q f h g = f x h g
