-- Forms whose step is taken.
use Rattle.std.proofs.Common.{◌≡◌, ℕ, true, false, List, [], map, sym, ap, ◌∙◌}
use Rattle.std.specs.Global.{Vec, Box}
use Rattle.dart_base.specs.declared.place.Place.{Place}
use Rattle.dart_ir.specs.declared.number.ClassId.{ClassId}
use Rattle.dart_ir.specs.declared.number.DeclId.{DeclId}
use Rattle.dart_ir.specs.declared.types.TypeRef.{TypeRef}
use Rattle.dart_ir.specs.declared.value.Value.TheVariants.{Null, Bool as Truth}
use Rattle.dart_ir.specs.Ty.{ty}
use Rattle.core_program.specs.declared.form.Arguments.{Arguments}
use Rattle.core_program.specs.declared.form.Attempt.{Attempt}
use Rattle.core_program.specs.declared.form.Binary.{Binary}
use Rattle.core_program.specs.declared.form.Case.{Case}
use Rattle.core_program.specs.declared.form.Core.{Core}
use Rattle.core_program.specs.declared.form.Form.{Form}
use Rattle.core_program.specs.declared.form.Form as k
use Rattle.core_program.specs.declared.form.Form.TheViews.{out-Core, out-Arguments, out-Attempt}
use Rattle.core_program.specs.declared.form.Job.{Job}
use Rattle.core_program.specs.declared.form.Leaf.{Leaf}
use Rattle.core_program.specs.declared.form.Part.{Part}
use Rattle.core_program.specs.declared.form.Unary.{Unary}
use Rattle.core_program.specs.Core as c
use Rattle.core_program.specs.View as v
use Rattle.core_program.proofs.Views.{core_out, view_leaf, view_unary, view_binary, view_row, view_let, view_block, view_if, view_new, view_list, view_is, view_as, view_type_literal, view_loop, view_return, view_try, view_switch, arguments_out, attempt_out}
use Rattle.evaluation.specs.State.{returns, ends}
use Rattle.evaluation.specs.Sequence.{on_answer, on_answers, in_order, branch}
use Rattle.evaluation.specs.Parts.{form_of, is_closure}
use Rattle.evaluation.specs.Types.{is_type, as_type, type_object}
use Rattle.evaluation.specs.Statements as s
use Rattle.evaluation.specs.Variables.{declare}
use Rattle.evaluation.specs.Evaluation.{eval, evals, act, part, leaf, unary, before_operand, binary, clauses}
use Rattle.machine_frame.specs.declared.around.Around.{Around}
use Rattle.machine_frame.specs.declared.run.Run.{Run}
use Rattle.machine_frame.specs.Frames.{does, done, joins, forms_of, branches_of}

module _ (a : Around) (r : Run) (at : Place) (form : Form) where
  -- a form in the place of what it is
  acts : (x : c.Form ℕ) → v.form form ≡ x → does a r (act x at) ≡ does a r (act (v.form form) at)
  acts x e = ap (λ (y : c.Form ℕ). does a r (act y at)) (sym e)

  pub acts_leaf : (one : Leaf) → form ≡ k.Leaf one → does a r (λ w. leaf w at (v.leaf one)) ≡ does a r (act (v.form form) at)
  acts_leaf one is = acts (c.leaf (v.leaf one)) (ap v.form is ∙ view_leaf one)

  pub acts_unary : (one : Unary) (x : Box Core) (operand : Core) → form ≡ k.Unary one x → operand ≡ x.value
      → does a r (λ w st. on_answer (unary w at (is_closure (form_of (v.core operand))) (v.unary one)) (before_operand w (is_closure (form_of (v.core operand))) (v.unary one) (eval (v.core operand) w) st))
      ≡ does a r (act (v.form form) at)
  acts_unary one x operand is e =
      ap (λ (o : Core). does a r (act (c.unary (v.unary one) (v.core o)) at)) e ∙ acts (c.unary (v.unary one) (v.core x.value)) (ap v.form is ∙ view_unary one x)

  pub acts_binary : (one : Binary) (x y : Box Core) (first second : Core) → form ≡ k.Binary one x y → first ≡ x.value → second ≡ y.value
      → does a r (λ w st. on_answer (λ x st. on_answer (λ y. binary w at (v.binary one) x y) (eval (v.core second) w st)) (eval (v.core first) w st)) ≡ does a r (act (v.form form) at)
  acts_binary one x y first second is e h =
      ap (λ (o : Core). does a r (act (c.binary (v.binary one) (v.core o) (v.core second)) at)) e
      ∙ ap (λ (o : Core). does a r (act (c.binary (v.binary one) (v.core x.value) (v.core o)) at)) h
      ∙ acts (c.binary (v.binary one) (v.core x.value) (v.core y.value)) (ap v.form is ∙ view_binary one x y)

  pub acts_row : (core : Core) → v.core core ≡ c.at at (v.form form) → (job : Job) (x : Arguments) (forms : List Core) → form ≡ k.Row job x → forms ≡ (out-Arguments x).forms.items
      → does a r (λ w. on_answers (done w (v.core core)) (evals (joins (v.core core)) (forms_of forms) w) []) ≡ does a r (act (v.form form) at)
  acts_row core same job x forms is e =
      let names = v.names (out-Arguments x).names.items in
      let row = ap v.form is ∙ view_row job x ∙ ap (λ (p : v.Row). c.row (v.job job) p.0 p.1) (arguments_out x) in
      ap (λ (y : c.Core ℕ). does a r (λ w. on_answers (done w y) (evals (joins y) (forms_of forms) w) [])) (same ∙ ap (c.at at) row)
      ∙ ap (λ (l : List Core). does a r (act (c.row (v.job job) (forms_of l) names) at)) e
      ∙ acts (c.row (v.job job) (forms_of (out-Arguments x).forms.items) names) row

  pub acts_let : (i : ℕ) (x y : Box Core) (value body : Core) → form ≡ k.Let i x y → value ≡ x.value → body ≡ y.value
      → does a r (λ w st. on_answer (λ _. eval (v.core body) w) (on_answer (declare w.setting i) (eval (v.core value) w st))) ≡ does a r (act (v.form form) at)
  acts_let i x y value body is e h =
      ap (λ (o : Core). does a r (act (c.let_in i (v.core o) (v.core body)) at)) e ∙ ap (λ (o : Core). does a r (act (c.let_in i (v.core x.value) (v.core o)) at)) h
      ∙ acts (c.let_in i (v.core x.value) (v.core y.value)) (ap v.form is ∙ view_let i x y)

  pub acts_block : (x : Vec Core) (forms : List Core) → form ≡ k.Block x → forms ≡ x.items → does a r (λ w. in_order (evals false (forms_of forms) w) Null) ≡ does a r (act (v.form form) at)
  acts_block x forms is e = ap (λ (l : List Core). does a r (act (c.block (forms_of l)) at)) e ∙ acts (c.block (forms_of x.items)) (ap v.form is ∙ view_block x)

  pub acts_if : (x : Box Core) (p q : Part) (condition : Core) → form ≡ k.If x p q → condition ≡ x.value
      → does a r (λ w st. on_answer (λ x. branch x (part (v.part p) w Null) (part (v.part q) w Null)) (eval (v.core condition) w st)) ≡ does a r (act (v.form form) at)
  acts_if x p q condition is e =
      ap (λ (o : Core). does a r (act (c.choice (v.core o) (v.part p) (v.part q)) at)) e ∙ acts (c.choice (v.core x.value) (v.part p) (v.part q)) (ap v.form is ∙ view_if x p q)

  pub acts_new : (core : Core) → v.core core ≡ c.at at (v.form form) → (g : ClassId) (f : DeclId) (ts : Vec TypeRef) (x : Arguments) (forms : List Core) → form ≡ k.New g f ts x
      → forms ≡ (out-Arguments x).forms.items
      → does a r (λ w. on_answers (done w (v.core core)) (evals (joins (v.core core)) (forms_of forms) w) []) ≡ does a r (act (v.form form) at)
  acts_new core same g f ts x forms is e =
      let names = v.names (out-Arguments x).names.items in
      let row = ap v.form is ∙ view_new g f ts x ∙ ap (λ (p : v.Row). c.new g.0 f.0 (map ty ts.items) p.0 p.1) (arguments_out x) in
      ap (λ (y : c.Core ℕ). does a r (λ w. on_answers (done w y) (evals (joins y) (forms_of forms) w) [])) (same ∙ ap (c.at at) row)
      ∙ ap (λ (l : List Core). does a r (act (c.new g.0 f.0 (map ty ts.items) (forms_of l) names) at)) e
      ∙ acts (c.new g.0 f.0 (map ty ts.items) (forms_of (out-Arguments x).forms.items) names) row

  pub acts_list : (core : Core) → v.core core ≡ c.at at (v.form form) → (ts : Vec TypeRef) (x : Vec Core) (forms : List Core) → form ≡ k.List ts x → forms ≡ x.items
      → does a r (λ w. on_answers (done w (v.core core)) (evals (joins (v.core core)) (forms_of forms) w) []) ≡ does a r (act (v.form form) at)
  acts_list core same ts x forms is e =
      let row = ap v.form is ∙ view_list ts x in
      ap (λ (y : c.Core ℕ). does a r (λ w. on_answers (done w y) (evals (joins y) (forms_of forms) w) [])) (same ∙ ap (c.at at) row)
      ∙ ap (λ (l : List Core). does a r (act (c.list (map ty ts.items) (forms_of l)) at)) e
      ∙ acts (c.list (map ty ts.items) (forms_of x.items)) row

  pub acts_type : (t : TypeRef) → form ≡ k.TypeLiteral t → does a r (λ w. type_object w.setting (ty t)) ≡ does a r (act (v.form form) at)
  acts_type t is = acts (c.type_literal (ty t)) (ap v.form is ∙ view_type_literal t)

  pub acts_is : (x : Box Core) (t : TypeRef) (operand : Core) → form ≡ k.Is x t → operand ≡ x.value
      → does a r (λ w st. on_answer (is_type w.setting (ty t)) (eval (v.core operand) w st)) ≡ does a r (act (v.form form) at)
  acts_is x t operand is e = ap (λ (o : Core). does a r (act (c.is_type (v.core o) (ty t)) at)) e ∙ acts (c.is_type (v.core x.value) (ty t)) (ap v.form is ∙ view_is x t)

  pub acts_as : (x : Box Core) (t : TypeRef) (operand : Core) → form ≡ k.As x t → operand ≡ x.value
      → does a r (λ w st. on_answer (as_type w.setting at (ty t)) (eval (v.core operand) w st)) ≡ does a r (act (v.form form) at)
  acts_as x t operand is e = ap (λ (o : Core). does a r (act (c.as_type (v.core o) (ty t)) at)) e ∙ acts (c.as_type (v.core x.value) (ty t)) (ap v.form is ∙ view_as x t)

  pub acts_return : (p : Part) → form ≡ k.Return p → does a r (λ w st. on_answer (λ x st. ends (returns x) st) (part (v.part p) w Null st)) ≡ does a r (act (v.form form) at)
  acts_return p is = acts (c.return (v.part p)) (ap v.form is ∙ view_return p)

  pub acts_try : (x : Box Attempt) (attempt : Attempt) → form ≡ k.Try x → attempt ≡ x.value
      → does a r (λ w st. s.finally (part (v.part (out-Attempt attempt).last) w Null) (s.caught_by w.setting (clauses (c.handlers (map v.handler (out-Attempt attempt).handlers.items)) w) (eval (v.core (out-Attempt attempt).body) w st)))
      ≡ does a r (act (v.form form) at)
  acts_try x attempt is e =
      ap (λ (o : Attempt). does a r (act (c.try (v.core (out-Attempt o).body) (c.handlers (map v.handler (out-Attempt o).handlers.items)) (v.part (out-Attempt o).last)) at)) e
      ∙ acts (c.try (v.core (out-Attempt x.value).body) (c.handlers (map v.handler (out-Attempt x.value).handlers.items)) (v.part (out-Attempt x.value).last))
      (ap v.form is ∙ view_try x ∙ attempt_out x.value)

  pub acts_switch : (n : ℕ) (x : Box Core) (ks : Vec Case) (operand : Core) (cases : List Case) → form ≡ k.Switch n x ks → operand ≡ x.value → cases ≡ ks.items
      → does a r (λ w st. on_answer (s.switch w.setting at n (branches_of w cases)) (eval (v.core operand) w st)) ≡ does a r (act (v.form form) at)
  acts_switch n x ks operand cases is e h =
      ap (λ (o : Core). does a r (λ w st. on_answer (s.switch w.setting at n (branches_of w cases)) (eval (v.core o) w st))) e
      ∙ ap (λ (l : List Case). does a r (act (c.switch n (v.core x.value) (c.cases (map v.case l))) at)) h
      ∙ acts (c.switch n (v.core x.value) (c.cases (map v.case ks.items))) (ap v.form is ∙ view_switch n x ks)

-- a loop takes no step of its own
pub loop_goes : (a : Around) (r : Run) (core : Core) (n : ℕ) (xs : Vec ℕ) (p q o : Part) (copies : List ℕ) → (out-Core core).form ≡ k.Loop n xs p q o → copies ≡ xs.items
    → does a r (λ w. s.loop w.setting n copies (part (v.part p) w (Truth true)) (part (v.part q) w Null) (part (v.part o) w Null)) ≡ does a r (eval (v.core core))
loop_goes a r core n xs p q o copies is e =
    ap (λ (l : List ℕ). does a r (λ w. s.loop w.setting n l (part (v.part p) w (Truth true)) (part (v.part q) w Null) (part (v.part o) w Null))) e
    ∙ ap (λ (x : c.Core ℕ). does a r (eval x)) (sym (core_out core ∙ ap (c.at (out-Core core).place) (ap v.form is ∙ view_loop n xs p q o)))
