-- Functions that are natives or that read or write a field, as the code sees them.
use Rattle.std.proofs.Common.{◌≡◌, ℕ, List, [], ◌∷◌, map, Option, Some, None, true, ◌&&◌, cond, nat_lt, ◌<◌, sym, ap, ◌∙◌}
use Rattle.std.proofs.lemmas.Bool.{lt-ltb}
use Rattle.dart_base.specs.declared.name.Name.{Name}
use Rattle.dart_ir.specs.declared.kind.Shape.{Shape}
use Rattle.dart_ir.specs.declared.kind.Shape.TheVariants.{Required}
use Rattle.dart_ir.specs.declared.native.NativeId.{NativeId}
use Rattle.std.specs.Global.{Box}
use Rattle.core_program.specs.declared.form.Arguments.{Arguments}
use Rattle.core_program.specs.declared.form.Core.{Core}
use Rattle.core_program.specs.declared.form.Form.{Form}
use Rattle.core_program.specs.declared.form.Form as k
use Rattle.core_program.specs.declared.form.Form.TheViews.{out-Core, out-Arguments}
use Rattle.core_program.specs.declared.form.Job.{Job}
use Rattle.core_program.specs.declared.form.Job.TheVariants as j
use Rattle.core_program.specs.declared.form.Leaf.{Leaf}
use Rattle.core_program.specs.declared.form.Unary.{Unary}
use Rattle.core_program.specs.declared.program.Function.{Function}
use Rattle.core_program.specs.declared.program.Parameter.{Parameter}
use Rattle.core_program.specs.Core as c
use Rattle.core_program.specs.View as v
use Rattle.core_program.specs.ProgramView as p
use Rattle.core_program.proofs.Views.{core_out, view_row, view_unary, view_leaf, arguments_out}
use Rattle.evaluation.specs.Arguments.{is_required}
use Rattle.evaluation.specs.Parts.{form_of}
use Rattle.machine_lookup.specs.Shapes.{is_this, is_this_leaf, reads, reads_leaf, native_of_job, native_of_form, native_of_body, native_over, native_of, is_none, a_native, native_reading, reading_of_form, field_written, writing_of_form, writing_of_body, writing_over, writing_of}

pub this_seen : (core : Core) (leaf : Leaf) → (out-Core core).form ≡ k.Leaf leaf → is_this_leaf (v.leaf leaf) ≡ true → is_this (v.form (out-Core core).form) ≡ true
this_seen core leaf is this = ap (λ q. is_this (v.form q)) is ∙ ap is_this (view_leaf leaf) ∙ this

pub variable_seen : (core : Core) (leaf : Leaf) (x : ℕ) → (out-Core core).form ≡ k.Leaf leaf → reads_leaf (v.leaf leaf) x ≡ true → reads (v.form (out-Core core).form) x ≡ true
variable_seen core leaf x is read = ap (λ q. reads (v.form q) x) is ∙ ap (λ q. reads q x) (view_leaf leaf) ∙ read

pub native_seen : (form : Form) (job : Job) (r : Arguments) (id : NativeId) (x : ℕ) (first second : Core) → form ≡ k.Row job r → job ≡ j.Native id
    → (out-Arguments r).forms.items ≡ first ∷ second ∷ [] → (out-Arguments r).names.items ≡ []
    → is_this (v.form (out-Core first).form) ≡ true → reads (v.form (out-Core second).form) x ≡ true → native_of_form (v.form form) x ≡ Some id
native_seen form job r id x first second is native forms names this read =
    ap (λ (q : Form). native_of_form (v.form q) x) is
    ∙ ap (λ (q : c.Form ℕ). native_of_form q x) (view_row job r ∙ ap (λ (p : v.Row). c.row (v.job job) p.0 p.1) (arguments_out r)
    ∙ ap (λ (l : List Core). c.row (v.job job) (c.cores (map v.core l)) (v.names (out-Arguments r).names.items)) forms
    ∙ ap (λ (l : List Name). c.row (v.job job) (c.core_more (v.core first) (c.core_more (v.core second) c.no_cores)) (v.names l)) names)
    ∙ ap (λ (y : c.Core ℕ). cond (is_this (form_of y) && reads (form_of (v.core second)) x) (native_of_job (v.job job)) None) (core_out first)
    ∙ ap (λ (y : c.Core ℕ). cond (is_this (v.form (out-Core first).form) && reads (form_of y) x) (native_of_job (v.job job)) None) (core_out second)
    ∙ ap (λ b. cond (b && reads (v.form (out-Core second).form) x) (native_of_job (v.job job)) None) this
    ∙ ap (λ b. cond b (native_of_job (v.job job)) None) read
    ∙ ap (λ q. native_of_job (v.job q)) native

pub reading_seen : (job : Job) (r : Arguments) (id : NativeId) (first : Core) → job ≡ j.Native id → (out-Arguments r).forms.items ≡ first ∷ [] → (out-Arguments r).names.items ≡ []
    → is_this (v.form (out-Core first).form) ≡ true → reading_of_form (v.form (k.Row job r)) ≡ Some (a_native id)
reading_seen job r id first native forms names this =
    ap reading_of_form (view_row job r ∙ ap (λ (p : v.Row). c.row (v.job job) p.0 p.1) (arguments_out r)
    ∙ ap (λ (l : List Core). c.row (v.job job) (c.cores (map v.core l)) (v.names (out-Arguments r).names.items)) forms
    ∙ ap (λ (l : List Name). c.row (v.job job) (c.core_more (v.core first) c.no_cores) (v.names l)) names)
    ∙ ap (λ (y : c.Core ℕ). native_reading (is_this (form_of y)) (native_of_job (v.job job))) (core_out first)
    ∙ ap (λ b. native_reading b (native_of_job (v.job job))) this
    ∙ ap (λ q. native_reading true (native_of_job (v.job q))) native

pub writing_seen : (form : Form) (one : Unary) (box : Box Core) (inner : Core) (x : ℕ) → form ≡ k.Unary one box → inner ≡ box.value
    → reads (v.form (out-Core inner).form) x ≡ true → writing_of_form (v.form form) x ≡ field_written (v.unary one)
writing_seen form one box inner x is boxed read =
    ap (λ (q : Form). writing_of_form (v.form q) x) is
    ∙ ap (λ (q : c.Form ℕ). writing_of_form q x) (view_unary one box)
    ∙ ap (λ y. cond (reads (form_of (v.core y)) x) (field_written (v.unary one)) None) (sym boxed)
    ∙ ap (λ (y : c.Core ℕ). cond (reads (form_of y) x) (field_written (v.unary one)) None) (core_out inner)
    ∙ ap (λ b. cond b (field_written (v.unary one)) None) read

-- a function of one parameter alone, none of whose variables has a cell
module _ (f : Function) (x : Parameter) (takes : f.parameters.items ≡ x ∷ []) (required : x.shape ≡ Required) (slots : x.var < f.vars)
    (no_cells : f.cells.items ≡ []) (no_captures : f.captures.items ≡ []) where
  over : {A : Type 0} (go : Option A) → cond (is_required x.shape && nat_lt x.var f.vars) go None ≡ go
  over go =
      ap (λ (s : Shape). cond (is_required s && nat_lt x.var f.vars) go None) required
      ∙ ap (λ b. cond b go None) (lt-ltb x.var f.vars slots)

  bare : {A : Type 0} (go : Option A) → cond (is_none f.cells.items && is_none f.captures.items) go None ≡ go
  bare go =
      ap (λ xs. cond (is_none xs && is_none f.captures.items) go None) no_cells
      ∙ ap (λ xs. cond (is_none xs) go None) no_captures

  pub native_over_one : (id : NativeId) → native_of_body (v.part f.body) x.var ≡ Some id → native_of (p.function f) ≡ Some id
  native_over_one id e =
      bare (native_over (map p.parameter f.parameters.items) (p.function f))
      ∙ ap (λ xs. native_over (map p.parameter xs) (p.function f)) takes
      ∙ over (native_of_body (v.part f.body) x.var) ∙ e

  pub writing_over_one : (i : ℕ) → writing_of_body (v.part f.body) x.var ≡ Some i → writing_of (p.function f) ≡ Some i
  writing_over_one i e =
      bare (writing_over (map p.parameter f.parameters.items) (p.function f))
      ∙ ap (λ xs. writing_over (map p.parameter xs) (p.function f)) takes
      ∙ over (writing_of_body (v.part f.body) x.var) ∙ e
