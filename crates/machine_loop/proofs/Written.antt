-- Setters that write a field: what they come to.
use Rattle.std.proofs.Common.{◌≡◌, ◌≢◌, ℕ, ◌-◌, ◌≤◌, nat_lt, List, [], ◌∷◌, true, false, ◌&&◌, Option, Some, None, IfSome, inl, refl, sym, subst, ap, ◌∙◌, arith}
use Rattle.std.proofs.lemmas.Bool.{ltb-true}
use Rattle.std.proofs.lemmas.Option.{none-some}
use Rattle.dart_base.specs.declared.place.Place.{Place}
use Rattle.dart_ir.specs.declared.class.Role.TheVariants.{Setter}
use Rattle.dart_ir.specs.declared.number.Ref.{Ref}
use Rattle.dart_ir.specs.declared.value.Value.{Value}
use Rattle.dart_ir.specs.declared.value.Value.TheVariants.{Null, At}
use Rattle.dart_store.specs.Heap.{with_field_at}
use Rattle.core_program.specs.Core as c
use Rattle.core_program.specs.Program.{Parameter, Function, Program}
use Rattle.evaluation.specs.State.{State, now, answer, Outcome, ends, World}
use Rattle.evaluation.specs.Sequence.{on_answer, chosen}
use Rattle.evaluation.specs.Arguments.{alone, is_required, fit, fits}
use Rattle.evaluation.specs.Checks.{reaction}
use Rattle.evaluation.specs.Classes.{function_at, member, member_at, member_function, member_owner}
use Rattle.evaluation.specs.Evaluation.{part, unary, body_of}
use Rattle.evaluation.specs.Invocation.{leaving, receiving, member_call, missing_from, fitting, setting, set_from}
use Rattle.evaluation.specs.Parts.{is_block_part}
use Rattle.evaluation.specs.Values.{class_of, object_at}
use Rattle.evaluation.specs.Variables as vars
use Rattle.machine_lookup.specs.declared.linked.Found.{Found}
use Rattle.machine_lookup.specs.Found.{IsFound}
use Rattle.machine_lookup.specs.Shapes.{reads, is_none, field_written, writing_of_body, writing_over, writing_of_function, writing_of_member}
use Rattle.machine_frame.specs.declared.around.Around.{Around}
use Rattle.machine_frame.specs.Outside.{checking_of, setting_of, failing, world_in}
use Rattle.machine_frame.specs.Frames.{mute}
use Rattle.machine_frame.proofs.Quick.{leaf_enters}
use Rattle.machine_frame.proofs.Resume.{calls_suc}
use Rattle.machine_frame.proofs.Steps.{form_enters}
use Rattle.machine_loop.proofs.Operated.{chosen_some, both_true, none_of, required_is, reads_of, fit_one, entered, reads_back, body_goes}

-- so many steps less
abbrev less : ℕ → State → State
less n st = record st { left = st.left - n }

-- the field that a table has found
pub found_writing : (p : Program ℕ) (f : Found) (k name i : ℕ) → IsFound p f → f.class ≡ k → f.name ≡ name → f.writes ≡ Some i
    → writing_of_member p (member p (Some k) name Setter) ≡ Some i
found_writing p f k name i is_found class named e =
    sym (ap (writing_of_member p) (is_found.setter ∙ ap (λ k. member p (Some k) f.name Setter) class ∙ ap (λ n. member p (Some k) n Setter) named))
    ∙ subst (λ o. IfSome o (λ i. writing_of_member p f.setter ≡ Some i)) e is_found.writes

of_unary : (one : c.Unary ℕ) (i : ℕ) → field_written one ≡ Some i → one ≡ c.field_write i
of_unary (c.field_write j) i e = ap c.field_write (cc)
of_unary one i e = absurd (none-some i e)

record IsWriting (body : c.Part ℕ) (x i : ℕ) : Type 0 where
  at : Place
  read_at : Place
  is : body ≡ c.given (c.at at (c.unary (c.field_write i) (c.at read_at (c.leaf (c.read x)))))

writing_is : (body : c.Part ℕ) (x i : ℕ) → writing_of_body body x ≡ Some i → IsWriting body x i
writing_is (c.given (c.at p (c.unary one (c.at q operand)))) x i e =
    let y = chosen_some (reads operand x) (field_written one) i e in
    record {
      at = p;
      read_at = q;
      is = ap (λ u. c.given (c.at p (c.unary u (c.at q operand)))) (of_unary one i y.1) ∙ ap (λ f. c.given (c.at p (c.unary (c.field_write i) (c.at q f)))) (reads_of operand x y.0);
    }
writing_is body x i e = absurd (none-some i e)

module _ (around : Around) (d : ℕ) where
  abbrev W : World
  W = world_in around d

  -- the body, in which `this` and the parameter stand
  body_writes : (body : c.Part ℕ) (x i : ℕ) (r : Ref) (v : Value) (st : State) → writing_of_body body x ≡ Some i → 2 ≤ st.left
      → vars.variable (setting_of around) (now (less 2 st)) x ≡ v → st.activation.this ≡ At r → nat_lt i (vars.field_total (object_at st.heap (At r))) ≡ true
      → part body W Null st ≡ ends (answer v) (record (less 2 st) { heap = with_field_at st.heap r.0 i v })
  body_writes body x i r v st e l h this there =
      let b = writing_is body x i e in
      let operand = c.at b.read_at (c.leaf (c.read x)) in
      ap (λ p. part p W Null st) b.is
      ∙ form_enters b.at (c.unary (c.field_write i) operand) W st refl (let f : st.left ≢ 0 = omega (arith, l) in f)
      ∙ ap (on_answer (unary W b.at false (c.field_write i)))
      (leaf_enters b.read_at (c.read x) W (less 1 st) (let f : st.left - 1 ≢ 0 = omega (arith, l) in f)
      ∙ ap (λ m. ends (answer (vars.variable (setting_of around) (now (record st { left = m })) x)) (record st { left = m })) (let f : st.left - 1 - 1 ≡ st.left - 2 = omega arith in f)
      ∙ ap (λ z. ends (answer z) (less 2 st)) h)
      ∙ ap (λ t. vars.field_written (nat_lt i (vars.field_total (object_at st.heap t))) t i v (less 2 st)) this
      ∙ ap (λ b. vars.field_written b (At r) i v (less 2 st)) there

module _ (around : Around) (production : around.setup.now.annotated ≡ None) (d name k i : ℕ) (r : Ref) (v : Value) (st : State) (h : d ≢ 0) (l : 3 ≤ st.left)
    (there : nat_lt i (vars.field_total (object_at st.heap (At r))) ≡ true) (at : Place) where
  abbrev P : Program ℕ
  P = (setting_of around).program

  -- what is there behind it, with the event aside
  abbrev done : Outcome
  done = mute (ends (answer v) (record (less 3 st) { heap = with_field_at st.heap r.0 i v }))

  abbrev sets : Outcome → Outcome
  sets o = mute (on_answer (λ _ st. ends (answer v) st) o)

  by_parameters : (m : ℕ) (one : Function ℕ) (qs : List (Parameter ℕ)) → function_at P (member_function (member_at P m)) ≡ Some one → one.parameters ≡ qs
      → is_none one.cells && is_none one.captures ≡ true → writing_over qs one ≡ Some i
      → sets (fitting (world_in around d) at (Some k) Setter name (At r) (alone v) m st) ≡ done
  by_parameters m one (q ∷ []) found takes none e =
      let S = setting_of around in
      let w = world_in around d in
      let f = member_function (member_at P m) in
      let callee = receiving (At r) (member_owner (member_at P m)) in
      let cells = both_true (is_none one.cells) (is_none one.captures) none in
      let y = chosen_some (is_required q.shape && nat_lt q.var one.vars) (writing_of_body one.body q.var) i e in
      let z = both_true (is_required q.shape) (nat_lt q.var one.vars) y.0 in
      let required = required_is q.shape z.0 in
      let slots = ltb-true q.var one.vars z.1 in
      let no_cells = none_of one.cells cells.0 in
      let no_captures = none_of one.captures cells.1 in
      let inside = entered around (d - 1) f one q found takes required slots no_cells no_captures callee v st in
      let end = record (less 2 inside) { heap = with_field_at st.heap r.0 i v } in
      ap (λ b. sets (chosen b (member_call w at m (At r) (alone v)) (missing_from w at (Some k) Setter name (At r) (alone v)) st))
      (ap (λ o. fits o (alone v)) found ∙ ap (λ qs. fit qs (alone v)) takes ∙ fit_one q v required)
      ∙ ap (λ o. sets (leaving at o)) (calls_suc S (reaction (checking_of around) S (failing around.setup.now.annotated)) d f callee (alone v) st h
      ∙ ap (λ o. body_of o f (world_in around (d - 1)) callee (alone v) st) found
      ∙ body_goes around (d - 1) f one q found takes required slots no_cells no_captures callee v v end st (inl production) (let g : st.left ≢ 0 = omega (arith, l) in g)
      (ap is_block_part (writing_is one.body q.var i y.1).is)
      (body_writes around (d - 1) one.body q.var i r v inside y.1 (let g : 2 ≤ st.left - 1 = omega (arith, l) in g)
      (reads_back around (d - 1) f one q found takes required slots no_cells no_captures callee v (less 2 inside) refl) refl there))
      ∙ ap (λ m. ends (answer v) (record st { left = m; events = []; heap = with_field_at st.heap r.0 i v })) (let g : st.left - 1 - 2 ≡ st.left - 3 = omega arith in g)
  by_parameters m one qs found takes none e = absurd (cc)

  by_function : (m : ℕ) (o : Option (Function ℕ)) → function_at P (member_function (member_at P m)) ≡ o → writing_of_function o ≡ Some i
      → sets (fitting (world_in around d) at (Some k) Setter name (At r) (alone v) m st) ≡ done
  by_function m None found e = absurd (none-some i e)
  by_function m (Some one) found e =
      let y = chosen_some (is_none one.cells && is_none one.captures) (writing_over one.parameters one) i e in
      by_parameters m one one.parameters found refl y.0 y.1

  by_member : (o : Option ℕ) → writing_of_member P o ≡ Some i → sets (setting (world_in around d) at (Some k) name (At r) v o st) ≡ done
  by_member None e = absurd (none-some i e)
  by_member (Some m) e = by_function m (function_at P (member_function (member_at P m))) refl e

-- a setter of an object of class k that writes a field, in production
pub written : (around : Around) → around.setup.now.annotated ≡ None → (d name k i : ℕ) (r : Ref) (this v : Value) (st : State) → d ≢ 0 → 3 ≤ st.left → this ≡ At r
    → class_of (setting_of around) st.heap this ≡ Some k → writing_of_member (setting_of around).program (member (setting_of around).program (Some k) name Setter) ≡ Some i
    → nat_lt i (vars.field_total (object_at st.heap (At r))) ≡ true → (at : Place)
    → mute (set_from (world_in around d) at (Some k) name this v st) ≡ mute (ends (answer v) (record (less 3 st) { heap = with_field_at st.heap r.0 i v }))
written around production d name k i r this v st h l is is_of e there at =
    ap (λ t. mute (set_from (world_in around d) at (Some k) name t v st)) is
    ∙ by_member around production d name k i r v st h l there at (member (setting_of around).program (Some k) name Setter) e
