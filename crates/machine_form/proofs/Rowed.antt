-- Rows of operands.
use Rattle.std.specs.Borrow.{Bor}
use Rattle.std.proofs.Common.{◌≡◌, ℕ, ◌+◌, List, [], ◌∷◌, ◌++◌, length, sym, ap, ◌∙◌}
use Rattle.dart_base.specs.declared.name.Name.{Name}
use Rattle.dart_ir.specs.declared.value.Value.{Value}
use Rattle.core_program.specs.declared.form.Core.{Core}
use Rattle.core_program.specs.View as v
use Rattle.machine_lookup.specs.Rows.{last_of, but_last}
use Rattle.evaluation.specs.State.{State, answer, Outcome, ends, Meaning, World}
use Rattle.evaluation.specs.Sequence.{on_answer, on_answers}
use Rattle.evaluation.specs.Parts.{form_of, constant_of}
use Rattle.evaluation.specs.Arguments.{alone, given}
use Rattle.evaluation.specs.Evaluation.{eval, evals, piece}
use Rattle.machine_frame.specs.declared.around.Around.{Around}
use Rattle.machine_frame.specs.declared.run.Frame.TheVariants as f
use Rattle.machine_frame.specs.declared.run.Run.{Run}
use Rattle.machine_frame.specs.Outside.{world_in}
use Rattle.machine_frame.specs.Frames.{seen, below_of, resume, mute, does, ending_row, does_row, done, joins, forms_of}
use Rattle.machine_frame.proofs.Mute.{resumed_keeps, row_answered_goes}
use Rattle.machine_frame.proofs.Rows.{last_push, but_push}
use Rattle.machine_form.proofs.Entered.{does_pushed}

module _ (a : Around) (r : Run) (one : Bor Core) (count : ℕ) where
  -- what a row of these forms comes to, behind those that are there
  abbrev pub row_of : List Core → World → Meaning
  row_of forms w = on_answers (done w (v.core one.now)) (evals (joins (v.core one.now)) (forms_of forms) w) (last_of count r.operands.items)

  pub row_ends : (forms : List Core) → forms ≡ [] → does_row a r count (λ w. done w (v.core one.now) (last_of count r.operands.items)) ≡ does_row a r count (row_of forms)
  row_ends forms e = ap (λ (l : List Core). does_row a r count (row_of l)) (sym e)

  -- the next form is entered
  pub row_waits : (m : Run) (forms : List Core) (first : Core) (rest : Bor (List Core)) → forms ≡ first ∷ rest.now
      → m.frames.items ≡ r.frames.items ++ f.Row one rest count ∷ [] → m ≡ record r { frames = m.frames }
      → piece (joins (v.core one.now)) (constant_of (form_of (v.core first))) (eval (v.core first) (world_in a r.depth)) (seen r) ≡ eval (v.core first) (world_in a r.depth) (seen r)
      → does a m (eval (v.core first)) ≡ does_row a r count (row_of forms)
  row_waits m forms first rest e pushed stays same =
      let w = world_in a r.depth in
      does_pushed a r m (f.Row one rest count) (eval (v.core first)) pushed stays
      ∙ ap (λ (o : Outcome). ending_row a r count (on_answer (λ x. on_answers (done w (v.core one.now)) (evals (joins (v.core one.now)) (forms_of rest.now) w) (last_of count r.operands.items ++ x ∷ [])) o)) (sym same)
      ∙ ap (λ (l : List Core). does_row a r count (row_of l)) (sym e)

  -- what the others come to, behind a value that is there
  abbrev pub row_behind : List Core → Value → ℕ → World → Meaning
  row_behind rest value left w st =
      on_answers (done w (v.core one.now)) (evals (joins (v.core one.now)) (forms_of rest) w) (last_of count r.operands.items ++ value ∷ []) (record st { left = left })

  -- the next one is answered, and the others come by a frame
  pub row_leaves : (m : Run) (rest : Bor (List Core)) (value : Value) (left : ℕ) → m.frames.items ≡ r.frames.items ++ f.Row one rest count ∷ [] → m ≡ record r { left = left; frames = m.frames }
      → does a m (λ w st. ends (answer value) st) ≡ does_row a r count (row_behind rest.now value left)
  row_leaves m rest value left pushed stays = does_pushed a (record r { left = left }) m (f.Row one rest count) (λ w st. ends (answer value) st) pushed stays

  module _ (forms : List Core) (first : Core) (rest : Bor (List Core)) (value : Value) (left : ℕ) (is : forms ≡ first ∷ rest.now)
      (same : mute (piece (joins (v.core one.now)) (constant_of (form_of (v.core first))) (eval (v.core first) (world_in a r.depth)) (seen r)) ≡ mute (ends (answer value) (record (seen r) { left = left }))) where
    pub row_answers : does_row a r count (row_behind rest.now value left) ≡ does_row a r count (row_of forms)
    row_answers =
        let w = world_in a r.depth in
        let go : List Value → Meaning = on_answers (done w (v.core one.now)) (evals (joins (v.core one.now)) (forms_of rest.now) w) in
        sym (row_answered_goes a r count (on_answer (λ x. go (last_of count r.operands.items ++ x ∷ [])))
        (resumed_keeps a r.depth (below_of r) (f.Row one rest count))
        (piece (joins (v.core one.now)) (constant_of (form_of (v.core first))) (eval (v.core first) w) (seen r)) (ends (answer value) (record (seen r) { left = left })) same)
        ∙ ap (λ (l : List Core). does_row a r count (row_of l)) (sym is)

    -- the next one is answered at once, and is among the operands
    pub row_goes : (m : Run) (more : ℕ) → more ≡ count + 1 → m.operands.items ≡ r.operands.items ++ value ∷ [] → m ≡ record r { left = left; operands = m.operands }
        → does_row a m more (λ w. on_answers (done w (v.core one.now)) (evals (joins (v.core one.now)) (forms_of rest.now) w) (last_of more m.operands.items)) ≡ does_row a r count (row_of forms)
    row_goes m more next pushed stays =
        let w = world_in a r.depth in
        let go : List Value → Meaning = on_answers (done w (v.core one.now)) (evals (joins (v.core one.now)) (forms_of rest.now) w) in
        let st : State = record (seen r) { left = left } in
        ap (λ (q : Run). mute (resume a (record (below_of q) { operands = but_last more m.operands.items }) q.frames.items
        (on_answers (done (world_in a q.depth) (v.core one.now)) (evals (joins (v.core one.now)) (forms_of rest.now) (world_in a q.depth)) (last_of more m.operands.items) (seen q)))) stays
        ∙ ap (λ (n : ℕ). mute (resume a (record (below_of r) { operands = but_last n m.operands.items }) r.frames.items (go (last_of n m.operands.items) st))) next
        ∙ ap (λ (l : List Value). mute (resume a (record (below_of r) { operands = but_last (count + 1) l }) r.frames.items (go (last_of (count + 1) l) st))) pushed
        ∙ ap (λ (l : List Value). mute (resume a (record (below_of r) { operands = l }) r.frames.items (go (last_of (count + 1) (r.operands.items ++ value ∷ [])) st))) (but_push count r.operands.items value)
        ∙ ap (λ (l : List Value). ending_row a r count (go l st)) (last_push count r.operands.items value)
        ∙ row_answers

-- one value, by place
pub only : (names : List Name) (values rest : List Value) (value : Value) → values ≡ value ∷ rest → length rest ≡ 0 → length names ≡ 0
    → given (v.names names) values ≡ alone value
only [] values [] value e r n = ap (given []) e
only (x ∷ names) values rest value e r n = absurd (cc)
only names values (x ∷ rest) value e r n = absurd (cc)
