-- Rows whose first operand is called, or has a member called.
use Rattle.std.proofs.Common.{◌≡◌, ℕ, Bool, true, false, List, [], ◌∷◌, drop, sym, ap, ◌∙◌}
use Rattle.dart_base.specs.declared.name.Name.{Name}
use Rattle.dart_base.specs.declared.place.Place.{Place}
use Rattle.dart_ir.specs.declared.class.Role.{Role}
use Rattle.dart_ir.specs.declared.number.DeclId.{DeclId}
use Rattle.dart_ir.specs.declared.value.Value.{Value}
use Rattle.dart_ir.specs.declared.value.Value.TheVariants.{Null}
use Rattle.core_program.specs.declared.form.Job.{Job}
use Rattle.core_program.specs.declared.form.Job.TheVariants as j
use Rattle.core_program.specs.Core as c
use Rattle.core_program.specs.View as v
use Rattle.machine_lookup.specs.Rows.{last_of, past}
use Rattle.evaluation.specs.State.{answer, ends, Meaning, World}
use Rattle.evaluation.specs.Arguments.{given}
use Rattle.evaluation.specs.Invocation.{send, apply, static_call}
use Rattle.evaluation.specs.Evaluation.{row, super}
use Rattle.evaluation.specs.Creation.{construct}
use Rattle.machine_frame.specs.declared.around.Around.{Around}
use Rattle.machine_frame.specs.declared.run.Passed.{Passed}
use Rattle.machine_frame.specs.declared.run.Run.{Run}
use Rattle.machine_frame.specs.Frames.{does_row, given_of}

module _ (a : Around) (r : Run) (at : Place) (p : Passed) where
  abbrev whole : Job → World → Meaning
  whole job w = row w at (v.job job) (v.names p.names.now) (last_of p.count r.operands.items)

  -- what is passed on without its first
  passed_on : (q : Passed) (go : World → List ℕ → List Value → Meaning) → q.names.now ≡ p.names.now → q.skip ≡ true → q.count ≡ p.count
      → does_row a r q.count (λ w. go w (v.names q.names.now) (past q.skip (last_of q.count r.operands.items)))
      ≡ does_row a r p.count (λ w. go w (v.names p.names.now) (drop 1 (last_of p.count r.operands.items)))
  passed_on q go names skip count =
      ap (λ (ns : List Name). does_row a r q.count (λ w. go w (v.names ns) (past q.skip (last_of q.count r.operands.items)))) names
      ∙ ap (λ (b : Bool). does_row a r q.count (λ w. go w (v.names p.names.now) (past b (last_of q.count r.operands.items)))) skip
      ∙ ap (λ (n : ℕ). does_row a r n (λ w. go w (v.names p.names.now) (past true (last_of n r.operands.items)))) count

  pub send_nobody : (job : Job) (name : Name) → job ≡ j.Send name → last_of p.count r.operands.items ≡ []
      → does_row a r p.count (λ _ st. ends (answer Null) st) ≡ does_row a r p.count (whole job)
  send_nobody job name is e =
      ap (λ (l : List Value). does_row a r p.count (λ w. row w at (c.send name.0) (v.names p.names.now) l)) (sym e) ∙ ap (λ (x : Job). does_row a r p.count (whole x)) (sym is)

  pub send_goes : (job : Job) (name : Name) (q : Passed) (this : Value) → job ≡ j.Send name → q.names.now ≡ p.names.now → q.skip ≡ true → q.count ≡ p.count
      → last_of p.count r.operands.items ≡ this ∷ drop 1 (last_of p.count r.operands.items)
      → does_row a r q.count (λ w. send w at name.0 this (given_of q r.operands.items)) ≡ does_row a r p.count (whole job)
  send_goes job name q this is names skip count e =
      passed_on q (λ w ns vs. send w at name.0 this (given ns vs)) names skip count
      ∙ ap (λ (l : List Value). does_row a r p.count (λ w. row w at (c.send name.0) (v.names p.names.now) l)) (sym e) ∙ ap (λ (x : Job). does_row a r p.count (whole x)) (sym is)

  pub apply_nobody : (job : Job) → job ≡ j.Apply → last_of p.count r.operands.items ≡ []
      → does_row a r p.count (λ _ st. ends (answer Null) st) ≡ does_row a r p.count (whole job)
  apply_nobody job is e =
      ap (λ (l : List Value). does_row a r p.count (λ w. row w at c.apply (v.names p.names.now) l)) (sym e) ∙ ap (λ (x : Job). does_row a r p.count (whole x)) (sym is)

  pub apply_goes : (job : Job) (q : Passed) (callee : Value) → job ≡ j.Apply → q.names.now ≡ p.names.now → q.skip ≡ true → q.count ≡ p.count
      → last_of p.count r.operands.items ≡ callee ∷ drop 1 (last_of p.count r.operands.items)
      → does_row a r q.count (λ w. apply w at callee (given_of q r.operands.items)) ≡ does_row a r p.count (whole job)
  apply_goes job q callee is names skip count e =
      passed_on q (λ w ns vs. apply w at callee (given ns vs)) names skip count
      ∙ ap (λ (l : List Value). does_row a r p.count (λ w. row w at c.apply (v.names p.names.now) l)) (sym e) ∙ ap (λ (x : Job). does_row a r p.count (whole x)) (sym is)

  pub super_goes : (job : Job) (role : Role) (name : Name) → job ≡ j.Super role name → p.skip ≡ false
      → does_row a r p.count (λ w. super w at role name.0 (given_of p r.operands.items)) ≡ does_row a r p.count (whole job)
  super_goes job role name is e =
      ap (λ (b : Bool). does_row a r p.count (λ w. super w at role name.0 (given (v.names p.names.now) (past b (last_of p.count r.operands.items))))) e
      ∙ ap (λ (x : Job). does_row a r p.count (whole x)) (sym is)

  pub call_goes : (job : Job) (f : DeclId) → job ≡ j.Call f → p.skip ≡ false
      → does_row a r p.count (λ w. static_call w at f.0 (given_of p r.operands.items)) ≡ does_row a r p.count (whole job)
  call_goes job f is e =
      ap (λ (b : Bool). does_row a r p.count (λ w. static_call w at f.0 (given (v.names p.names.now) (past b (last_of p.count r.operands.items))))) e
      ∙ ap (λ (x : Job). does_row a r p.count (whole x)) (sym is)

  pub super_new_goes : (job : Job) (f : DeclId) → job ≡ j.SuperNew f → p.skip ≡ false
      → does_row a r p.count (λ w. construct w at f.0 (given_of p r.operands.items)) ≡ does_row a r p.count (whole job)
  super_new_goes job f is e =
      ap (λ (b : Bool). does_row a r p.count (λ w. construct w at f.0 (given (v.names p.names.now) (past b (last_of p.count r.operands.items))))) e
      ∙ ap (λ (x : Job). does_row a r p.count (whole x)) (sym is)
