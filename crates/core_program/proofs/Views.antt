-- How each form is seen.
use Rattle.std.proofs.Common.{◌≡◌, ℕ, List, [], ◌∷◌, map, refl, ap, ◌∙◌, sym}
use Rattle.std.specs.Global.{Vec, Box}
use Rattle.dart_ir.specs.Ty.{ty}
use Rattle.dart_ir.specs.declared.number.ClassId.{ClassId}
use Rattle.dart_ir.specs.declared.number.DeclId.{DeclId}
use Rattle.dart_ir.specs.declared.types.TypeRef.{TypeRef}
use Rattle.core_program.specs.declared.form.Leaf.{Leaf}
use Rattle.core_program.specs.declared.form.Unary.{Unary}
use Rattle.core_program.specs.declared.form.Binary.{Binary}
use Rattle.core_program.specs.declared.form.Job.{Job}
use Rattle.core_program.specs.declared.form.Form.{Form}
use Rattle.core_program.specs.declared.form.Form as k
use Rattle.core_program.specs.declared.form.Core.{Core}
use Rattle.core_program.specs.declared.form.Part.{Part}
use Rattle.core_program.specs.declared.form.Part as pt
use Rattle.core_program.specs.declared.form.Test.{Test}
use Rattle.core_program.specs.declared.form.Test as te
use Rattle.core_program.specs.declared.form.Arguments.{Arguments}
use Rattle.core_program.specs.declared.form.Attempt.{Attempt}
use Rattle.core_program.specs.declared.form.Handler.{Handler}
use Rattle.core_program.specs.declared.form.Case.{Case}
use Rattle.core_program.specs.declared.form.Form.TheOpen as layer
use Rattle.core_program.specs.declared.form.Form.TheVariants.{rolls-Leaf, rolls-TypeLiteral, rolls-Unary, rolls-Binary, rolls-Row, rolls-Let, rolls-Block, rolls-If, rolls-New, rolls-List, rolls-Is, rolls-As, rolls-Loop, rolls-Return, rolls-Try, rolls-Switch, rolls-Labelled}
use Rattle.core_program.specs.declared.form.Part.TheVariants.{rolls-Missing, rolls-Given}
use Rattle.core_program.specs.declared.form.Test.TheVariants.{rolls-Everything, rolls-On, rolls-Malformed}
use Rattle.core_program.specs.declared.form.Form.TheViews.{roll-Arguments, out-Arguments, roll-Attempt, out-Attempt, roll-Case, out-Case, roll-Core, out-Core, roll-Handler, out-Handler}
use Rattle.core_program.specs.declared.form.Form.TheFolds.{fold-roll-Form, fold-roll-Part, fold-roll-Test, fold-roll-Arguments, fold_out-Arguments, fold-roll-Attempt, fold_out-Attempt, fold-roll-Case, fold_out-Case, fold-roll-Core, fold_out-Core, fold-roll-Handler, fold_out-Handler}
use Rattle.core_program.specs.Core as c
use Rattle.core_program.specs.View as v

pub view_leaf : (x : Leaf) → v.form (k.Leaf x) ≡ c.leaf (v.leaf x)
unfolding v.form v.part v.test v.arguments v.attempt v.case v.core v.handler
view_leaf x = ap v.form (sym (rolls-Leaf x)) ∙ fold-roll-Form (c.Form ℕ) (c.Part ℕ) (c.Test ℕ) v.Row (c.Form ℕ) (c.Case ℕ) (c.Core ℕ) (c.Handler ℕ) v.form_form v.part_form v.test_form v.arguments_form v.attempt_form v.case_form v.core_form v.handler_form (layer.Leaf x)

pub view_type_literal : (t : TypeRef) → v.form (k.TypeLiteral t) ≡ c.type_literal (ty t)
unfolding v.form v.part v.test v.arguments v.attempt v.case v.core v.handler
view_type_literal t = ap v.form (sym (rolls-TypeLiteral t)) ∙ fold-roll-Form (c.Form ℕ) (c.Part ℕ) (c.Test ℕ) v.Row (c.Form ℕ) (c.Case ℕ) (c.Core ℕ) (c.Handler ℕ) v.form_form v.part_form v.test_form v.arguments_form v.attempt_form v.case_form v.core_form v.handler_form (layer.TypeLiteral t)

pub view_unary : (x : Unary) (a : Box Core) → v.form (k.Unary x a) ≡ c.unary (v.unary x) (v.core a.value)
unfolding v.form v.part v.test v.arguments v.attempt v.case v.core v.handler
view_unary x a = ap v.form (sym (rolls-Unary x a)) ∙ fold-roll-Form (c.Form ℕ) (c.Part ℕ) (c.Test ℕ) v.Row (c.Form ℕ) (c.Case ℕ) (c.Core ℕ) (c.Handler ℕ) v.form_form v.part_form v.test_form v.arguments_form v.attempt_form v.case_form v.core_form v.handler_form (layer.Unary x a)

pub view_binary : (x : Binary) (a : Box Core) (b : Box Core) → v.form (k.Binary x a b) ≡ c.binary (v.binary x) (v.core a.value) (v.core b.value)
unfolding v.form v.part v.test v.arguments v.attempt v.case v.core v.handler
view_binary x a b = ap v.form (sym (rolls-Binary x a b)) ∙ fold-roll-Form (c.Form ℕ) (c.Part ℕ) (c.Test ℕ) v.Row (c.Form ℕ) (c.Case ℕ) (c.Core ℕ) (c.Handler ℕ) v.form_form v.part_form v.test_form v.arguments_form v.attempt_form v.case_form v.core_form v.handler_form (layer.Binary x a b)

pub view_row : (x : Job) (r : Arguments) → v.form (k.Row x r) ≡ c.row (v.job x) (v.arguments r).0 (v.arguments r).1
unfolding v.form v.part v.test v.arguments v.attempt v.case v.core v.handler
view_row x r = ap v.form (sym (rolls-Row x r)) ∙ fold-roll-Form (c.Form ℕ) (c.Part ℕ) (c.Test ℕ) v.Row (c.Form ℕ) (c.Case ℕ) (c.Core ℕ) (c.Handler ℕ) v.form_form v.part_form v.test_form v.arguments_form v.attempt_form v.case_form v.core_form v.handler_form (layer.Row x r)

pub view_let : (x : ℕ) (a : Box Core) (b : Box Core) → v.form (k.Let x a b) ≡ c.let_in x (v.core a.value) (v.core b.value)
unfolding v.form v.part v.test v.arguments v.attempt v.case v.core v.handler
view_let x a b = ap v.form (sym (rolls-Let x a b)) ∙ fold-roll-Form (c.Form ℕ) (c.Part ℕ) (c.Test ℕ) v.Row (c.Form ℕ) (c.Case ℕ) (c.Core ℕ) (c.Handler ℕ) v.form_form v.part_form v.test_form v.arguments_form v.attempt_form v.case_form v.core_form v.handler_form (layer.Let x a b)

pub view_block : (fs : Vec Core) → v.form (k.Block fs) ≡ c.block (c.cores (map v.core fs.items))
unfolding v.form v.part v.test v.arguments v.attempt v.case v.core v.handler
view_block fs = ap v.form (sym (rolls-Block fs)) ∙ fold-roll-Form (c.Form ℕ) (c.Part ℕ) (c.Test ℕ) v.Row (c.Form ℕ) (c.Case ℕ) (c.Core ℕ) (c.Handler ℕ) v.form_form v.part_form v.test_form v.arguments_form v.attempt_form v.case_form v.core_form v.handler_form (layer.Block fs)

pub view_if : (a : Box Core) (p : Part) (q : Part) → v.form (k.If a p q) ≡ c.choice (v.core a.value) (v.part p) (v.part q)
unfolding v.form v.part v.test v.arguments v.attempt v.case v.core v.handler
view_if a p q = ap v.form (sym (rolls-If a p q)) ∙ fold-roll-Form (c.Form ℕ) (c.Part ℕ) (c.Test ℕ) v.Row (c.Form ℕ) (c.Case ℕ) (c.Core ℕ) (c.Handler ℕ) v.form_form v.part_form v.test_form v.arguments_form v.attempt_form v.case_form v.core_form v.handler_form (layer.If a p q)

pub view_new : (g : ClassId) (f : DeclId) (ts : Vec TypeRef) (r : Arguments) → v.form (k.New g f ts r) ≡ c.new g.0 f.0 (map ty ts.items) (v.arguments r).0 (v.arguments r).1
unfolding v.form v.part v.test v.arguments v.attempt v.case v.core v.handler
view_new g f ts r = ap v.form (sym (rolls-New g f ts r)) ∙ fold-roll-Form (c.Form ℕ) (c.Part ℕ) (c.Test ℕ) v.Row (c.Form ℕ) (c.Case ℕ) (c.Core ℕ) (c.Handler ℕ) v.form_form v.part_form v.test_form v.arguments_form v.attempt_form v.case_form v.core_form v.handler_form (layer.New g f ts r)

pub view_list : (ts : Vec TypeRef) (fs : Vec Core) → v.form (k.List ts fs) ≡ c.list (map ty ts.items) (c.cores (map v.core fs.items))
unfolding v.form v.part v.test v.arguments v.attempt v.case v.core v.handler
view_list ts fs = ap v.form (sym (rolls-List ts fs)) ∙ fold-roll-Form (c.Form ℕ) (c.Part ℕ) (c.Test ℕ) v.Row (c.Form ℕ) (c.Case ℕ) (c.Core ℕ) (c.Handler ℕ) v.form_form v.part_form v.test_form v.arguments_form v.attempt_form v.case_form v.core_form v.handler_form (layer.List ts fs)

pub view_is : (a : Box Core) (t : TypeRef) → v.form (k.Is a t) ≡ c.is_type (v.core a.value) (ty t)
unfolding v.form v.part v.test v.arguments v.attempt v.case v.core v.handler
view_is a t = ap v.form (sym (rolls-Is a t)) ∙ fold-roll-Form (c.Form ℕ) (c.Part ℕ) (c.Test ℕ) v.Row (c.Form ℕ) (c.Case ℕ) (c.Core ℕ) (c.Handler ℕ) v.form_form v.part_form v.test_form v.arguments_form v.attempt_form v.case_form v.core_form v.handler_form (layer.Is a t)

pub view_as : (a : Box Core) (t : TypeRef) → v.form (k.As a t) ≡ c.as_type (v.core a.value) (ty t)
unfolding v.form v.part v.test v.arguments v.attempt v.case v.core v.handler
view_as a t = ap v.form (sym (rolls-As a t)) ∙ fold-roll-Form (c.Form ℕ) (c.Part ℕ) (c.Test ℕ) v.Row (c.Form ℕ) (c.Case ℕ) (c.Core ℕ) (c.Handler ℕ) v.form_form v.part_form v.test_form v.arguments_form v.attempt_form v.case_form v.core_form v.handler_form (layer.As a t)

pub view_loop : (n : ℕ) (xs : Vec ℕ) (p : Part) (q : Part) (o : Part) → v.form (k.Loop n xs p q o) ≡ c.loop n xs.items (v.part p) (v.part q) (v.part o)
unfolding v.form v.part v.test v.arguments v.attempt v.case v.core v.handler
view_loop n xs p q o = ap v.form (sym (rolls-Loop n xs p q o)) ∙ fold-roll-Form (c.Form ℕ) (c.Part ℕ) (c.Test ℕ) v.Row (c.Form ℕ) (c.Case ℕ) (c.Core ℕ) (c.Handler ℕ) v.form_form v.part_form v.test_form v.arguments_form v.attempt_form v.case_form v.core_form v.handler_form (layer.Loop n xs p q o)

pub view_return : (p : Part) → v.form (k.Return p) ≡ c.return (v.part p)
unfolding v.form v.part v.test v.arguments v.attempt v.case v.core v.handler
view_return p = ap v.form (sym (rolls-Return p)) ∙ fold-roll-Form (c.Form ℕ) (c.Part ℕ) (c.Test ℕ) v.Row (c.Form ℕ) (c.Case ℕ) (c.Core ℕ) (c.Handler ℕ) v.form_form v.part_form v.test_form v.arguments_form v.attempt_form v.case_form v.core_form v.handler_form (layer.Return p)

pub view_try : (a : Box Attempt) → v.form (k.Try a) ≡ v.attempt a.value
unfolding v.form v.part v.test v.arguments v.attempt v.case v.core v.handler
view_try a = ap v.form (sym (rolls-Try a)) ∙ fold-roll-Form (c.Form ℕ) (c.Part ℕ) (c.Test ℕ) v.Row (c.Form ℕ) (c.Case ℕ) (c.Core ℕ) (c.Handler ℕ) v.form_form v.part_form v.test_form v.arguments_form v.attempt_form v.case_form v.core_form v.handler_form (layer.Try a)

pub view_switch : (n : ℕ) (a : Box Core) (ks : Vec Case) → v.form (k.Switch n a ks) ≡ c.switch n (v.core a.value) (c.cases (map v.case ks.items))
unfolding v.form v.part v.test v.arguments v.attempt v.case v.core v.handler
view_switch n a ks = ap v.form (sym (rolls-Switch n a ks)) ∙ fold-roll-Form (c.Form ℕ) (c.Part ℕ) (c.Test ℕ) v.Row (c.Form ℕ) (c.Case ℕ) (c.Core ℕ) (c.Handler ℕ) v.form_form v.part_form v.test_form v.arguments_form v.attempt_form v.case_form v.core_form v.handler_form (layer.Switch n a ks)

pub view_labelled : (n : ℕ) (a : Box Core) → v.form (k.Labelled n a) ≡ c.labelled n (v.core a.value)
unfolding v.form v.part v.test v.arguments v.attempt v.case v.core v.handler
view_labelled n a = ap v.form (sym (rolls-Labelled n a)) ∙ fold-roll-Form (c.Form ℕ) (c.Part ℕ) (c.Test ℕ) v.Row (c.Form ℕ) (c.Case ℕ) (c.Core ℕ) (c.Handler ℕ) v.form_form v.part_form v.test_form v.arguments_form v.attempt_form v.case_form v.core_form v.handler_form (layer.Labelled n a)

pub view_missing : v.part pt.Missing ≡ c.missing
unfolding v.form v.part v.test v.arguments v.attempt v.case v.core v.handler
view_missing = ap v.part (sym rolls-Missing) ∙ fold-roll-Part (c.Form ℕ) (c.Part ℕ) (c.Test ℕ) v.Row (c.Form ℕ) (c.Case ℕ) (c.Core ℕ) (c.Handler ℕ) v.form_form v.part_form v.test_form v.arguments_form v.attempt_form v.case_form v.core_form v.handler_form layer.Missing

pub view_given : (a : Box Core) → v.part (pt.Given a) ≡ c.given (v.core a.value)
unfolding v.form v.part v.test v.arguments v.attempt v.case v.core v.handler
view_given a = ap v.part (sym (rolls-Given a)) ∙ fold-roll-Part (c.Form ℕ) (c.Part ℕ) (c.Test ℕ) v.Row (c.Form ℕ) (c.Case ℕ) (c.Core ℕ) (c.Handler ℕ) v.form_form v.part_form v.test_form v.arguments_form v.attempt_form v.case_form v.core_form v.handler_form (layer.Given a)

pub view_everything : v.test te.Everything ≡ c.everything
unfolding v.form v.part v.test v.arguments v.attempt v.case v.core v.handler
view_everything = ap v.test (sym rolls-Everything) ∙ fold-roll-Test (c.Form ℕ) (c.Part ℕ) (c.Test ℕ) v.Row (c.Form ℕ) (c.Case ℕ) (c.Core ℕ) (c.Handler ℕ) v.form_form v.part_form v.test_form v.arguments_form v.attempt_form v.case_form v.core_form v.handler_form layer.Everything

pub view_on : (t : TypeRef) → v.test (te.On t) ≡ c.on (ty t)
unfolding v.form v.part v.test v.arguments v.attempt v.case v.core v.handler
view_on t = ap v.test (sym (rolls-On t)) ∙ fold-roll-Test (c.Form ℕ) (c.Part ℕ) (c.Test ℕ) v.Row (c.Form ℕ) (c.Case ℕ) (c.Core ℕ) (c.Handler ℕ) v.form_form v.part_form v.test_form v.arguments_form v.attempt_form v.case_form v.core_form v.handler_form (layer.On t)

pub view_malformed : (a : Box Core) → v.test (te.Malformed a) ≡ c.malformed (v.core a.value)
unfolding v.form v.part v.test v.arguments v.attempt v.case v.core v.handler
view_malformed a = ap v.test (sym (rolls-Malformed a)) ∙ fold-roll-Test (c.Form ℕ) (c.Part ℕ) (c.Test ℕ) v.Row (c.Form ℕ) (c.Case ℕ) (c.Core ℕ) (c.Handler ℕ) v.form_form v.part_form v.test_form v.arguments_form v.attempt_form v.case_form v.core_form v.handler_form (layer.Malformed a)

pub arguments_out : (x : Arguments) → v.arguments x ≡ (c.cores (map v.core (out-Arguments x).forms.items), v.names (out-Arguments x).names.items)
unfolding v.form v.part v.test v.arguments v.attempt v.case v.core v.handler
arguments_out x = fold_out-Arguments (c.Form ℕ) (c.Part ℕ) (c.Test ℕ) v.Row (c.Form ℕ) (c.Case ℕ) (c.Core ℕ) (c.Handler ℕ) v.form_form v.part_form v.test_form v.arguments_form v.attempt_form v.case_form v.core_form v.handler_form x

pub arguments_roll : (x : layer.Arguments-F Form Part Test Arguments Attempt Case Core Handler) → v.arguments (roll-Arguments x) ≡ (c.cores (map v.core x.forms.items), v.names x.names.items)
unfolding v.form v.part v.test v.arguments v.attempt v.case v.core v.handler
arguments_roll x = fold-roll-Arguments (c.Form ℕ) (c.Part ℕ) (c.Test ℕ) v.Row (c.Form ℕ) (c.Case ℕ) (c.Core ℕ) (c.Handler ℕ) v.form_form v.part_form v.test_form v.arguments_form v.attempt_form v.case_form v.core_form v.handler_form x

pub attempt_out : (x : Attempt) → v.attempt x ≡ c.try (v.core (out-Attempt x).body) (c.handlers (map v.handler (out-Attempt x).handlers.items)) (v.part (out-Attempt x).last)
unfolding v.form v.part v.test v.arguments v.attempt v.case v.core v.handler
attempt_out x = fold_out-Attempt (c.Form ℕ) (c.Part ℕ) (c.Test ℕ) v.Row (c.Form ℕ) (c.Case ℕ) (c.Core ℕ) (c.Handler ℕ) v.form_form v.part_form v.test_form v.arguments_form v.attempt_form v.case_form v.core_form v.handler_form x

pub attempt_roll : (x : layer.Attempt-F Form Part Test Arguments Attempt Case Core Handler) → v.attempt (roll-Attempt x) ≡ c.try (v.core x.body) (c.handlers (map v.handler x.handlers.items)) (v.part x.last)
unfolding v.form v.part v.test v.arguments v.attempt v.case v.core v.handler
attempt_roll x = fold-roll-Attempt (c.Form ℕ) (c.Part ℕ) (c.Test ℕ) v.Row (c.Form ℕ) (c.Case ℕ) (c.Core ℕ) (c.Handler ℕ) v.form_form v.part_form v.test_form v.arguments_form v.attempt_form v.case_form v.core_form v.handler_form x

pub case_out : (x : Case) → v.case x ≡ c.case (out-Case x).value (v.core (out-Case x).body)
unfolding v.form v.part v.test v.arguments v.attempt v.case v.core v.handler
case_out x = fold_out-Case (c.Form ℕ) (c.Part ℕ) (c.Test ℕ) v.Row (c.Form ℕ) (c.Case ℕ) (c.Core ℕ) (c.Handler ℕ) v.form_form v.part_form v.test_form v.arguments_form v.attempt_form v.case_form v.core_form v.handler_form x

pub case_roll : (x : layer.Case-F Form Part Test Arguments Attempt Case Core Handler) → v.case (roll-Case x) ≡ c.case x.value (v.core x.body)
unfolding v.form v.part v.test v.arguments v.attempt v.case v.core v.handler
case_roll x = fold-roll-Case (c.Form ℕ) (c.Part ℕ) (c.Test ℕ) v.Row (c.Form ℕ) (c.Case ℕ) (c.Core ℕ) (c.Handler ℕ) v.form_form v.part_form v.test_form v.arguments_form v.attempt_form v.case_form v.core_form v.handler_form x

pub core_out : (x : Core) → v.core x ≡ c.at (out-Core x).place (v.form (out-Core x).form)
unfolding v.form v.part v.test v.arguments v.attempt v.case v.core v.handler
core_out x = fold_out-Core (c.Form ℕ) (c.Part ℕ) (c.Test ℕ) v.Row (c.Form ℕ) (c.Case ℕ) (c.Core ℕ) (c.Handler ℕ) v.form_form v.part_form v.test_form v.arguments_form v.attempt_form v.case_form v.core_form v.handler_form x

pub core_roll : (x : layer.Core-F Form Part Test Arguments Attempt Case Core Handler) → v.core (roll-Core x) ≡ c.at x.place (v.form x.form)
unfolding v.form v.part v.test v.arguments v.attempt v.case v.core v.handler
core_roll x = fold-roll-Core (c.Form ℕ) (c.Part ℕ) (c.Test ℕ) v.Row (c.Form ℕ) (c.Case ℕ) (c.Core ℕ) (c.Handler ℕ) v.form_form v.part_form v.test_form v.arguments_form v.attempt_form v.case_form v.core_form v.handler_form x

pub handler_out : (x : Handler) → v.handler x ≡ c.handler (v.test (out-Handler x).test) (out-Handler x).exception (out-Handler x).trace (v.core (out-Handler x).body)
unfolding v.form v.part v.test v.arguments v.attempt v.case v.core v.handler
handler_out x = fold_out-Handler (c.Form ℕ) (c.Part ℕ) (c.Test ℕ) v.Row (c.Form ℕ) (c.Case ℕ) (c.Core ℕ) (c.Handler ℕ) v.form_form v.part_form v.test_form v.arguments_form v.attempt_form v.case_form v.core_form v.handler_form x

pub handler_roll : (x : layer.Handler-F Form Part Test Arguments Attempt Case Core Handler) → v.handler (roll-Handler x) ≡ c.handler (v.test x.test) x.exception x.trace (v.core x.body)
unfolding v.form v.part v.test v.arguments v.attempt v.case v.core v.handler
handler_roll x = fold-roll-Handler (c.Form ℕ) (c.Part ℕ) (c.Test ℕ) v.Row (c.Form ℕ) (c.Case ℕ) (c.Core ℕ) (c.Handler ℕ) v.form_form v.part_form v.test_form v.arguments_form v.attempt_form v.case_form v.core_form v.handler_form x

-- how each form is seen
pub ruleset views = (view_leaf, view_type_literal, view_unary, view_binary, view_row, view_let, view_block, view_if, view_new, view_list, view_is, view_as, view_loop, view_return, view_try, view_switch, view_labelled, view_missing, view_given, view_everything, view_on, view_malformed, arguments_out, arguments_roll, attempt_out, attempt_roll, case_out, case_roll, core_out, core_roll, handler_out, handler_roll)
