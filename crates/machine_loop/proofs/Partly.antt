-- Forms of which some is done without a frame, and what is left of them.
use Rattle.std.proofs.Common.{◌≡◌, ◌≢◌, ℕ, ◌-◌, ◌<◌, List, [], ◌∷◌, Bool, true, false, cond, Option, Some, None, Result, Ok, Err, IfOk, MatchOption, refl, sym, subst, ap, ◌∙◌, arith}
use Rattle.std.specs.Global.{Vec, Box}
use Rattle.std.specs.Borrow.{Bor}
use Rattle.dart_ir.specs.declared.value.Value.{Value}
use Rattle.dart_ir.specs.declared.value.Value.TheVariants.{Null}
use Rattle.core_program.specs.declared.form.Core.{Core}
use Rattle.core_program.specs.declared.form.Form.{Form}
use Rattle.core_program.specs.declared.form.Form as k
use Rattle.core_program.specs.declared.form.Form.TheViews.{out-Core}
use Rattle.core_program.specs.declared.form.Part.{Part}
use Rattle.core_program.specs.declared.form.Part as pt
use Rattle.core_program.specs.Core as c
use Rattle.core_program.specs.View as v
use Rattle.core_program.proofs.Views.{core_out, view_let, view_block, view_if, view_missing, view_given}
use Rattle.evaluation.specs.State.{State, answer, jumps, returns, throws, ended, Outcome, ends, Meaning, World}
use Rattle.evaluation.specs.Sequence.{on_answer, in_order, chosen, branch, is_true}
use Rattle.evaluation.specs.Variables.{declare}
use Rattle.evaluation.specs.Evaluation.{eval, evals, part}
use Rattle.evaluation.proofs.Kept.{Kept, Keeps, kept_logic}
use Rattle.evaluation.proofs.Logic.{chosen_rel}
use Rattle.machine_frame.specs.declared.around.Around.{Around}
use Rattle.machine_frame.specs.declared.run.Frame.{Frame}
use Rattle.machine_frame.specs.declared.run.Frame.TheVariants as f
use Rattle.machine_frame.specs.declared.run.Exit.TheVariants as exit
use Rattle.machine_frame.specs.declared.run.Control.TheVariants.{Enter, Leave}
use Rattle.machine_frame.specs.declared.run.Run.{Run}
use Rattle.machine_frame.specs.Outside.{setting_of, world_in}
use Rattle.machine_frame.specs.Frames.{Below, seen, below_of, going, resume, resumed, does, mute, forms_of, IsBeside}
use Rattle.machine_frame.proofs.Mute.{quiet, answered_goes, resumed_keeps, keeps_mute, going_on, part_kept}
use Rattle.machine_frame.proofs.Beside.{beside_does}
use Rattle.machine_frame.proofs.Steps.{form_enters}
use Rattle.machine_loop.specs.Simple.{IsDone, IsLeft}

-- nothing in order comes to what was there
pub none_in_order : (o : Outcome) → on_answer (in_order []) o ≡ o
none_in_order (ends (answer v) st) = refl
none_in_order (ends (jumps way n) st) = refl
none_in_order (ends (returns v) st) = refl
none_in_order (ends (throws v p) st) = refl
none_in_order (ends (ended e) st) = refl

goes : (g : Outcome → Outcome) → Keeps g → (o o' : Outcome) → mute o ≡ mute o' → mute (g o) ≡ mute (g o')
goes g k o o' e = keeps_mute g k o ∙ ap (λ o. mute (g o)) e ∙ sym (keeps_mute g k o')

-- ---- what a result says

pub of_none : {A : Type 0} {P : Type 0} (Q : A → Type 0) (o : Option A) → o ≡ None → MatchOption o P Q → P
of_none {A} {P} Q o is h = let T : Option A → Type 0 = λ o. MatchOption o P Q in subst T is h

pub of_some : {A : Type 0} (P : Type 0) (Q : A → Type 0) (o : Option A) (x : A) → o ≡ Some x → MatchOption o P Q → Q x
of_some {A} P Q o x is h = let T : Option A → Type 0 = λ o. MatchOption o P Q in subst T is h

pub each : {A : Type 0} {P P' : Type 0} {Q Q' : A → Type 0} (o : Option A) → (P → P') → ((x : A) → Q x → Q' x) → MatchOption o P Q → MatchOption o P' Q'
each None f g h = f h
each (Some x) f g h = g x h

pub where_ok : {A E : Type 0} {P Q : A → Type 0} (r : Result A E) → ((x : A) → P x → Q x) → IfOk r P → IfOk r Q
where_ok (Ok x) f h = f x h
where_ok (Err e) f h = h

-- ---- one after another

-- the whole form is left
pub all_left : (a : Around) (one : Core) (old new : Run) → new ≡ old → IsLeft a one one old new
all_left a one old new e = record {
  does = ap (λ (r : Run). mute (eval (v.core one) (world_in a old.depth) (seen r))) (sym e);
  below = ap below_of e;
  frames = ap (λ (r : Run). r.frames.items) e;
  depth = ap (λ (r : Run). r.depth) e;
  less = omega (arith, ap (λ (r : Run). r.left) e);
}

pub left_done : (a : Around) (one more : Core) (old middle new : Run) → IsLeft a one more old middle → IsDone a more middle.left middle new → IsDone a one old.left old new
left_done a one more old middle new l d = record {
  does = l.does ∙ ap (λ n. mute (eval (v.core more) (world_in a n) (seen middle))) (sym l.depth) ∙ d.does;
  below = d.below ∙ l.below;
  frames = d.frames ∙ l.frames;
  depth = d.depth ∙ l.depth;
  less = omega (arith, l.less, d.less);
}

pub left_left : (a : Around) (one more rest : Core) (old middle new : Run) → IsLeft a one more old middle → IsLeft a more rest middle new → IsLeft a one rest old new
left_left a one more rest old middle new l d = record {
  does = l.does ∙ ap (λ n. mute (eval (v.core more) (world_in a n) (seen middle))) (sym l.depth) ∙ d.does ∙ ap (λ n. mute (eval (v.core rest) (world_in a n) (seen new))) l.depth;
  below = d.below ∙ l.below;
  frames = d.frames ∙ l.frames;
  depth = d.depth ∙ l.depth;
  less = omega (arith, l.less, d.less);
}

-- ---- the whole form

pub done_does : (a : Around) (one : Core) (old new : Run) → IsDone a one old.left old new → going a new (Leave exit.Answered) ≡ does a old (eval (v.core one))
done_does a one old new d =
    let o = ends (answer new.answer) (seen new) in
    ap (λ fs. mute (resume a (below_of new) fs o)) d.frames ∙ ap (λ b. mute (resume a b old.frames.items o)) d.below
    ∙ quiet a (below_of old) old.frames.items o (eval (v.core one) (world_in a old.depth) (seen old)) (sym d.does)

pub left_does : (a : Around) (one : Core) (more : Bor Core) (old new : Run) → IsLeft a one more.now old new → going a new (Enter more) ≡ does a old (eval (v.core one))
left_does a one more old new d =
    let o : ℕ → Outcome = λ n. eval (v.core more.now) (world_in a n) (seen new) in
    ap (λ fs. mute (resume a (below_of new) fs (o new.depth))) d.frames ∙ ap (λ b. mute (resume a b old.frames.items (o new.depth))) d.below
    ∙ ap (λ n. mute (resume a (below_of old) old.frames.items (o n))) d.depth
    ∙ quiet a (below_of old) old.frames.items (o old.depth) (eval (v.core one) (world_in a old.depth) (seen old)) (sym d.does)

-- ---- what waits

-- what a frame makes of a form that is done
pub done_resumes : (a : Around) (old new : Run) (one : Core) (frame : Frame) → IsDone a one old.left old new
    → mute (resume a (below_of new) new.frames.items (resumed (world_in a new.depth) (below_of new) frame (ends (answer new.answer) (seen new))))
    ≡ mute (resume a (below_of old) old.frames.items (resumed (world_in a old.depth) (below_of old) frame (eval (v.core one) (world_in a old.depth) (seen old))))
done_resumes a old new one frame d =
    let o = ends (answer new.answer) (seen new) in
    let go : Below → ℕ → Outcome = λ b n. mute (resume a b old.frames.items (resumed (world_in a n) b frame o)) in
    ap (λ fs. mute (resume a (below_of new) fs (resumed (world_in a new.depth) (below_of new) frame o))) d.frames
    ∙ ap (λ b. go b new.depth) d.below ∙ ap (go (below_of old)) d.depth
    ∙ sym (answered_goes a old (resumed (world_in a old.depth) (below_of old) frame) (resumed_keeps a old.depth (below_of old) frame)
    (eval (v.core one) (world_in a old.depth) (seen old)) o d.does)

-- and of what is left of one
pub left_resumes : (a : Around) (old new : Run) (one more : Core) (frame : Frame) → IsLeft a one more old new
    → mute (resume a (below_of new) new.frames.items (resumed (world_in a new.depth) (below_of new) frame (eval (v.core more) (world_in a new.depth) (seen new))))
    ≡ mute (resume a (below_of old) old.frames.items (resumed (world_in a old.depth) (below_of old) frame (eval (v.core one) (world_in a old.depth) (seen old))))
left_resumes a old new one more frame d =
    let o : ℕ → Outcome = λ n. eval (v.core more) (world_in a n) (seen new) in
    let go : Below → ℕ → Outcome = λ b n. mute (resume a b old.frames.items (resumed (world_in a n) b frame (o n))) in
    ap (λ fs. mute (resume a (below_of new) fs (resumed (world_in a new.depth) (below_of new) frame (o new.depth)))) d.frames
    ∙ ap (λ b. go b new.depth) d.below ∙ ap (go (below_of old)) d.depth
    ∙ sym (answered_goes a old (resumed (world_in a old.depth) (below_of old) frame) (resumed_keeps a old.depth (below_of old) frame)
    (eval (v.core one) (world_in a old.depth) (seen old)) (o old.depth) d.does)

-- ---- variables, blocks and choices

-- one of two parts
either : (b : Bool) (first second : Part) (w : World) (st : State)
    → chosen b (part (v.part first) w Null) (part (v.part second) w Null) st ≡ part (v.part (cond b first second)) w Null st
either true first second w st = refl
either false first second w st = refl

choice_kept : (a : Around) (d : ℕ) (first second : c.Part ℕ) (x : Value) → Kept (branch x (part first (world_in a d) Null) (part second (world_in a d) Null))
choice_kept a d first second x =
    let w = world_in a d in
    chosen_rel kept_logic (is_true x) (part first w Null) (part first w Null) (part second w Null) (part second w Null) (part_kept a d first Null) (part_kept a d second Null)

module _ (around : Around) (d : ℕ) (b : Below) (core : Core) (st : State) (h : st.left ≢ 0) where
  -- a variable that stands in its body
  pub bound : (x : ℕ) (p q : Box Core) (value : Core) (body : Bor Core) (st' st'' : State) (u held : Value)
      → (out-Core core).form ≡ k.Let x p q → value ≡ p.value → body.now ≡ q.value
      → mute (eval (v.core value) (world_in around d) (record st { left = st.left - 1 })) ≡ mute (ends (answer u) st')
      → declare (setting_of around) x u st' ≡ ends (answer held) st''
      → mute (eval (v.core core) (world_in around d) st) ≡ mute (eval (v.core body.now) (world_in around d) st'')
  bound x p q value body st' st'' u held form is_value is_body e declared =
      let at = (out-Core core).place in
      let w = world_in around d in
      let st0 = record st { left = st.left - 1 } in
      ap (λ (y : c.Core ℕ). mute (eval y w st)) (core_out core ∙ ap (λ (x : Form). c.at at (v.form x)) form ∙ ap (c.at at) (view_let x p q)
      ∙ ap (λ y. c.at at (c.let_in x (v.core y) (v.core q.value))) (sym is_value) ∙ ap (λ y. c.at at (c.let_in x (v.core value) (v.core y))) (sym is_body))
      ∙ ap mute (form_enters at (c.let_in x (v.core value) (v.core body.now)) w st refl h)
      ∙ goes (resumed w b (f.Let x body)) (resumed_keeps around d b (f.Let x body)) (eval (v.core value) w st0) (ends (answer u) st') e
      ∙ ap (λ o. mute (on_answer (λ _. eval (v.core body.now) w) o)) declared

  -- a block of two, the first of which is done
  pub paired : (fs : Vec Core) (first second : Core) (rest : Bor (List Core)) (st' : State) (u : Value)
      → (out-Core core).form ≡ k.Block fs → fs.items ≡ first ∷ rest.now → rest.now ≡ second ∷ []
      → mute (eval (v.core first) (world_in around d) (record st { left = st.left - 1 })) ≡ mute (ends (answer u) st')
      → mute (eval (v.core core) (world_in around d) st) ≡ mute (eval (v.core second) (world_in around d) st')
  paired fs first second rest st' u form items others e =
      let at = (out-Core core).place in
      let w = world_in around d in
      let st0 = record st { left = st.left - 1 } in
      ap (λ (y : c.Core ℕ). mute (eval y w st)) (core_out core ∙ ap (λ (x : Form). c.at at (v.form x)) form ∙ ap (c.at at) (view_block fs)
      ∙ ap (λ l. c.at at (c.block (forms_of l))) items)
      ∙ ap mute (form_enters at (c.block (forms_of (first ∷ rest.now))) w st refl h)
      ∙ goes (resumed w b (f.Rest rest)) (resumed_keeps around d b (f.Rest rest)) (eval (v.core first) w st0) (ends (answer u) st') e
      ∙ ap (λ l. mute (in_order (evals false (forms_of l) w) u st')) others
      ∙ ap mute (none_in_order (eval (v.core second) w st'))

  -- a block of one, whose step is taken
  pub alone : (fs : Vec Core) (only : Core) → (out-Core core).form ≡ k.Block fs → fs.items ≡ only ∷ []
      → mute (eval (v.core core) (world_in around d) st) ≡ mute (eval (v.core only) (world_in around d) (record st { left = st.left - 1 }))
  alone fs only form items =
      let at = (out-Core core).place in
      let w = world_in around d in
      ap (λ (y : c.Core ℕ). mute (eval y w st)) (core_out core ∙ ap (λ (x : Form). c.at at (v.form x)) form ∙ ap (c.at at) (view_block fs)
      ∙ ap (λ l. c.at at (c.block (forms_of l))) items)
      ∙ ap mute (form_enters at (c.block (forms_of (only ∷ []))) w st refl h)
      ∙ ap mute (none_in_order (eval (v.core only) w (record st { left = st.left - 1 })))

  -- a choice whose condition is answered
  pub chosen_part : (p : Box Core) (first second : Part) (condition : Core) (st' : State) (u : Value)
      → (out-Core core).form ≡ k.If p first second → condition ≡ p.value
      → mute (eval (v.core condition) (world_in around d) (record st { left = st.left - 1 })) ≡ mute (ends (answer u) st')
      → mute (eval (v.core core) (world_in around d) st) ≡ mute (part (v.part (cond (is_true u) first second)) (world_in around d) Null st')
  chosen_part p first second condition st' u form is_condition e =
      let at = (out-Core core).place in
      let w = world_in around d in
      let st0 = record st { left = st.left - 1 } in
      let go : Value → Meaning = λ x. branch x (part (v.part first) w Null) (part (v.part second) w Null) in
      ap (λ (y : c.Core ℕ). mute (eval y w st)) (core_out core ∙ ap (λ (x : Form). c.at at (v.form x)) form ∙ ap (c.at at) (view_if p first second)
      ∙ ap (λ y. c.at at (c.choice (v.core y) (v.part first) (v.part second))) (sym is_condition))
      ∙ ap mute (form_enters at (c.choice (v.core condition) (v.part first) (v.part second)) w st refl h)
      ∙ goes (on_answer go) (going_on around d go (choice_kept around d (v.part first) (v.part second))) (eval (v.core condition) w st0) (ends (answer u) st') e
      ∙ ap mute (either (is_true u) first second w st')

-- ---- runs

module _ (a : Around) (core : Core) (old : Run) (left : ℕ) (p : Box Core) (first second : Part) (condition : Core) (u : Value) (h : old.left ≢ 0)
    (form : (out-Core core).form ≡ k.If p first second) (is_condition : condition ≡ p.value)
    (e : mute (eval (v.core condition) (world_in a old.depth) (record (seen old) { left = old.left - 1 })) ≡ mute (ends (answer u) (record (seen old) { left = left })))
    (less : left < old.left - 1) where
  pub choice_left : (box : Box Core) (inner : Core) → cond (is_true u) first second ≡ pt.Given box → inner ≡ box.value → IsLeft a core inner old (record old { left = left })
  choice_left box inner is is_inner =
      let w = world_in a old.depth in
      let st : State = record (seen old) { left = left } in
      record {
        does = chosen_part a old.depth (below_of old) core (seen old) h p first second condition st u form is_condition e
            ∙ ap (λ (q : Part). mute (part (v.part q) w Null st)) is ∙ ap (λ (q : c.Part ℕ). mute (part q w Null st)) (view_given box)
            ∙ ap (λ (q : Core). mute (eval (v.core q) w st)) (sym is_inner);
        below = refl;
        frames = refl;
        depth = refl;
        less = omega (arith, less);
      }

  pub choice_done : cond (is_true u) first second ≡ pt.Missing → IsDone a core old.left old (record old { left = left; answer = Null })
  choice_done is =
      let w = world_in a old.depth in
      let st : State = record (seen old) { left = left } in
      record {
        does = chosen_part a old.depth (below_of old) core (seen old) h p first second condition st u form is_condition e
            ∙ ap (λ (q : Part). mute (part (v.part q) w Null st)) is ∙ ap (λ (q : c.Part ℕ). mute (part q w Null st)) view_missing;
        below = refl;
        frames = refl;
        depth = refl;
        less = omega (arith, less);
      }

pub only_left : (a : Around) (core : Core) (old : Run) (fs : Vec Core) (only : Core) → old.left ≢ 0
    → (out-Core core).form ≡ k.Block fs → fs.items ≡ only ∷ [] → IsLeft a core only old (record old { left = old.left - 1 })
only_left a core old fs only h form items = record {
  does = alone a old.depth (below_of old) core (seen old) h fs only form items;
  below = refl;
  frames = refl;
  depth = refl;
  less = omega arith;
}

pub pair_left : (a : Around) (core : Core) (old new : Run) (fs : Vec Core) (first second : Core) (rest : Bor (List Core)) → old.left ≢ 0
    → (out-Core core).form ≡ k.Block fs → fs.items ≡ first ∷ rest.now → rest.now ≡ second ∷ [] → IsDone a first (old.left - 1) old new → IsLeft a core second old new
pair_left a core old new fs first second rest h form items others d = record {
  does = paired a old.depth (below_of old) core (seen old) h fs first second rest (seen new) new.answer form items others d.does;
  below = d.below;
  frames = d.frames;
  depth = d.depth;
  less = omega (arith, d.less);
}

pub let_left : (a : Around) (core : Core) (old new : Run) (left : ℕ) (x : ℕ) (p q : Box Core) (value : Core) (body : Bor Core) (u held : Value) → old.left ≢ 0
    → (out-Core core).form ≡ k.Let x p q → value ≡ p.value → body.now ≡ q.value
    → mute (eval (v.core value) (world_in a old.depth) (record (seen old) { left = old.left - 1 })) ≡ mute (ends (answer u) (record (seen old) { left = left }))
    → declare (setting_of a) x u (record (seen old) { left = left }) ≡ ends (answer held) (seen new) → below_of new ≡ below_of old → IsBeside (record old { left = left }) new
    → left < old.left - 1 → IsLeft a core body.now old new
let_left a core old new left x p q value body u held h form is_value is_body e declared below beside less = record {
  does = bound a old.depth (below_of old) core (seen old) h x p q value body (record (seen old) { left = left }) (seen new) u held form is_value is_body e declared;
  below = below;
  frames = beside.0;
  depth = beside.5;
  less = omega (arith, beside.6, less);
}

-- a block whose step is taken
pub block_does : (a : Around) (core : Core) (old : Run) (fs : Vec Core) (forms : List Core) → old.left ≢ 0 → (out-Core core).form ≡ k.Block fs → forms ≡ fs.items
    → does a (record old { left = old.left - 1 }) (λ w. in_order (evals false (forms_of forms) w) Null) ≡ does a old (eval (v.core core))
block_does a core old fs forms h form is =
    let at = (out-Core core).place in
    let w = world_in a old.depth in
    sym (ap (λ (y : c.Core ℕ). mute (resume a (below_of old) old.frames.items (eval y w (seen old)))) (core_out core ∙ ap (λ (x : Form). c.at at (v.form x)) form ∙ ap (c.at at) (view_block fs)
    ∙ ap (λ l. c.at at (c.block (forms_of l))) (sym is))
    ∙ ap (λ o. mute (resume a (below_of old) old.frames.items o)) (form_enters at (c.block (forms_of forms)) w (seen old) refl h))

-- a variable that is there, and the body in which it stands
pub let_does : (a : Around) (old new : Run) (x : ℕ) (u held : Value) (body : Core) → declare (setting_of a) x u (seen old) ≡ ends (answer held) (seen new) → IsBeside old new
    → does a new (eval (v.core body)) ≡ does a old (λ w st. on_answer (λ _. eval (v.core body) w) (declare w.setting x u st))
let_does a old new x u held body declared beside =
    beside_does a old new beside (eval (v.core body))
    ∙ ap (λ o. mute (resume a (below_of old) old.frames.items (on_answer (λ _. eval (v.core body) (world_in a old.depth)) o))) (sym declared)
