-- Rows whose operands are all answered.
use Rattle.std.proofs.Common.{◌≡◌, ℕ, Bool, false, List, map, sym, ap, ◌∙◌}
use Rattle.std.specs.Global.{Vec}
use Rattle.dart_base.specs.declared.name.Name.{Name}
use Rattle.dart_base.specs.declared.place.Place.{Place}
use Rattle.dart_ir.specs.declared.number.ClassId.{ClassId}
use Rattle.dart_ir.specs.declared.number.DeclId.{DeclId}
use Rattle.dart_ir.specs.declared.types.TypeRef.{TypeRef}
use Rattle.dart_ir.specs.declared.value.Value.{Value}
use Rattle.dart_ir.specs.Ty.{ty}
use Rattle.core_program.specs.declared.form.Arguments.{Arguments}
use Rattle.core_program.specs.declared.form.Core.{Core}
use Rattle.core_program.specs.declared.form.Form.{Form}
use Rattle.core_program.specs.declared.form.Form as k
use Rattle.core_program.specs.declared.form.Form.TheViews.{out-Core, out-Arguments}
use Rattle.core_program.specs.declared.form.Job.{Job}
use Rattle.core_program.specs.Core as c
use Rattle.core_program.specs.View as v
use Rattle.core_program.proofs.Views.{core_out, view_row, view_new, view_list, arguments_out}
use Rattle.machine_lookup.specs.Rows.{last_of, past}
use Rattle.evaluation.specs.Arguments.{given}
use Rattle.evaluation.specs.Creation.{new, new_list}
use Rattle.evaluation.specs.Evaluation.{row}
use Rattle.machine_frame.specs.declared.around.Around.{Around}
use Rattle.machine_frame.specs.declared.run.Passed.{Passed}
use Rattle.machine_frame.specs.declared.run.Run.{Run}
use Rattle.machine_frame.specs.Frames.{does_row, done, done_of, forms_of, given_of}

module _ (a : Around) (r : Run) (count : ℕ) (core : Core) where
  abbrev at : Place
  at = (out-Core core).place

  abbrev values : List Value
  values = last_of count r.operands.items

  -- a form as it is seen
  pub row_done : (x : c.Form ℕ) (form : Form) → form ≡ (out-Core core).form → v.form form ≡ x
      → does_row a r count (λ w. done_of x (out-Core core).place w (last_of count r.operands.items)) ≡ does_row a r count (λ w. done w (v.core core) (last_of count r.operands.items))
  row_done x form here e =
      ap (λ (y : c.Core ℕ). does_row a r count (λ w. done w y values)) (sym (core_out core ∙ ap (λ (f : Form). c.at at (v.form f)) (sym here) ∙ ap (c.at at) e))

  pub job_done : (job : Job) (x : Arguments) (p : Passed) (names : List Name) → (out-Core core).form ≡ k.Row job x → names ≡ (out-Arguments x).names.items → p.names.now ≡ names → p.count ≡ count
      → does_row a r p.count (λ w. row w (out-Core core).place (v.job job) (v.names p.names.now) (last_of p.count r.operands.items))
      ≡ does_row a r count (λ w. done w (v.core core) (last_of count r.operands.items))
  job_done job x p names is items same n =
      ap (λ (l : List Name). does_row a r p.count (λ w. row w at (v.job job) (v.names l) (last_of p.count r.operands.items))) (same ∙ items)
      ∙ ap (λ (m : ℕ). does_row a r m (λ w. row w at (v.job job) (v.names (out-Arguments x).names.items) (last_of m r.operands.items))) n
      ∙ row_done (c.row (v.job job) (forms_of (out-Arguments x).forms.items) (v.names (out-Arguments x).names.items)) (k.Row job x) (sym is)
      (view_row job x ∙ ap (λ (q : v.Row). c.row (v.job job) q.0 q.1) (arguments_out x))

  pub new_done : (g : ClassId) (f : DeclId) (ts : Vec TypeRef) (x : Arguments) (p : Passed) (names : List Name) (types : List TypeRef) → (out-Core core).form ≡ k.New g f ts x
      → types ≡ ts.items → names ≡ (out-Arguments x).names.items → p.names.now ≡ names → p.skip ≡ false → p.count ≡ count
      → does_row a r p.count (λ w. new w (out-Core core).place g.0 f.0 (map ty types) (given_of p r.operands.items))
      ≡ does_row a r count (λ w. done w (v.core core) (last_of count r.operands.items))
  new_done g f ts x p names types is t items same skip n =
      ap (λ (l : List TypeRef). does_row a r p.count (λ w. new w at g.0 f.0 (map ty l) (given_of p r.operands.items))) t
      ∙ ap (λ (l : List Name). does_row a r p.count (λ w. new w at g.0 f.0 (map ty ts.items) (given (v.names l) (past p.skip (last_of p.count r.operands.items))))) (same ∙ items)
      ∙ ap (λ (b : Bool). does_row a r p.count (λ w. new w at g.0 f.0 (map ty ts.items) (given (v.names (out-Arguments x).names.items) (past b (last_of p.count r.operands.items))))) skip
      ∙ ap (λ (m : ℕ). does_row a r m (λ w. new w at g.0 f.0 (map ty ts.items) (given (v.names (out-Arguments x).names.items) (last_of m r.operands.items)))) n
      ∙ row_done (c.new g.0 f.0 (map ty ts.items) (forms_of (out-Arguments x).forms.items) (v.names (out-Arguments x).names.items)) (k.New g f ts x) (sym is)
      (view_new g f ts x ∙ ap (λ (q : v.Row). c.new g.0 f.0 (map ty ts.items) q.0 q.1) (arguments_out x))

  pub list_done : (ts : Vec TypeRef) (x : Vec Core) (types : List TypeRef) → (out-Core core).form ≡ k.List ts x → types ≡ ts.items
      → does_row a r count (λ w. new_list w.setting (map ty types) (last_of count r.operands.items))
      ≡ does_row a r count (λ w. done w (v.core core) (last_of count r.operands.items))
  list_done ts x types is t =
      ap (λ (l : List TypeRef). does_row a r count (λ w. new_list w.setting (map ty l) values)) t
      ∙ row_done (c.list (map ty ts.items) (forms_of x.items)) (k.List ts x) (sym is) (view_list ts x)
