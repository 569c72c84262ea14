-- The form that a value of the code is, with names as their numbers.
use Rattle.std.specs.Prelude.{ℕ, List, map, Option, Some, None}
use Rattle.dart_base.specs.declared.name.Name.{Name}
use Rattle.dart_ir.specs.Ty.{ty}
use Rattle.core_program.specs.declared.form.Leaf.{Leaf}
use Rattle.core_program.specs.declared.form.Leaf.TheVariants as l
use Rattle.core_program.specs.declared.form.Unary.{Unary}
use Rattle.core_program.specs.declared.form.Unary.TheVariants as u
use Rattle.core_program.specs.declared.form.Binary.{Binary}
use Rattle.core_program.specs.declared.form.Binary.TheVariants as b
use Rattle.core_program.specs.declared.form.Job.{Job}
use Rattle.core_program.specs.declared.form.Job.TheVariants as j
use Rattle.core_program.specs.declared.form.Form.{Form}
use Rattle.core_program.specs.declared.form.Core.{Core}
use Rattle.core_program.specs.declared.form.Part.{Part}
use Rattle.core_program.specs.declared.form.Test.{Test}
use Rattle.core_program.specs.declared.form.Arguments.{Arguments}
use Rattle.core_program.specs.declared.form.Attempt.{Attempt}
use Rattle.core_program.specs.declared.form.Handler.{Handler}
use Rattle.core_program.specs.declared.form.Case.{Case}
use Rattle.core_program.specs.declared.form.Form.TheOpen as layer
use Rattle.core_program.specs.declared.form.Form.TheFolds.{fold-Form, fold-Core, fold-Part, fold-Test, fold-Arguments, fold-Attempt, fold-Handler, fold-Case}
use Rattle.core_program.specs.Core as c

abbrev pub leaf : Leaf → c.Leaf ℕ
leaf (l.Const value) = c.constant value
leaf l.This = c.this
leaf (l.Read x) = c.read x
leaf (l.StaticRead d) = c.static_read d.0
leaf (l.Field i) = c.field i
leaf (l.Closure f) = c.closure f.0
leaf (l.Jump way target) = c.jump way target
leaf l.Rethrow = c.rethrow
leaf (l.Raise thrown name is_setter) = c.raise thrown name.0 is_setter

abbrev pub unary : Unary → c.Unary ℕ
unary (u.Var x) = c.var x
unary (u.Write x) = c.write x
unary (u.StaticWrite d) = c.static_write d.0
unary (u.FieldWrite i) = c.field_write i
unary (u.Get name) = c.get name.0
unary (u.Check site) = c.check site.0
unary u.Throw = c.throw

abbrev pub binary : Binary → c.Binary ℕ
binary b.Equal = c.equal
binary (b.Set name) = c.set name.0

abbrev pub job : Job → c.Job ℕ
job (j.Send name) = c.send name.0
job (j.Super role name) = c.super role name.0
job (j.Call f) = c.call f.0
job j.Apply = c.apply
job (j.SuperNew f) = c.super_new f.0
job j.Join = c.join
job (j.Native native) = c.native native

abbrev pub names : List Name → List ℕ
names = map (λ (n : Name). n.0)

-- operands, and the names of the last of them
abbrev pub Row : Type 0
Row = c.Cores ℕ × List ℕ

-- one form, over the forms in it
abbrev pub form_form : layer.Form-F (c.Form ℕ) (c.Part ℕ) (c.Test ℕ) Row (c.Form ℕ) (c.Case ℕ) (c.Core ℕ) (c.Handler ℕ) → c.Form ℕ
form_form (layer.Leaf x) = c.leaf (leaf x)
form_form (layer.TypeLiteral t) = c.type_literal (ty t)
form_form (layer.Unary x operand) = c.unary (unary x) operand.value
form_form (layer.Binary x first second) = c.binary (binary x) first.value second.value
form_form (layer.Row x arguments) = c.row (job x) arguments.0 arguments.1
form_form (layer.Let x value body) = c.let_in x value.value body.value
form_form (layer.Block forms) = c.block (c.cores forms.items)
form_form (layer.If condition first second) = c.choice condition.value first second
form_form (layer.New class constructor types arguments) =
    c.new class.0 constructor.0 (map ty types.items) arguments.0 arguments.1
form_form (layer.List types items) = c.list (map ty types.items) (c.cores items.items)
form_form (layer.Is value t) = c.is_type value.value (ty t)
form_form (layer.As value t) = c.as_type value.value (ty t)
form_form (layer.Loop target copies condition update body) = c.loop target copies.items condition update body
form_form (layer.Return value) = c.return value
form_form (layer.Try attempt) = attempt.value
form_form (layer.Switch target value cases) = c.switch target value.value (c.cases cases.items)
form_form (layer.Labelled target body) = c.labelled target body.value

abbrev pub part_form : layer.Part-F (c.Form ℕ) (c.Part ℕ) (c.Test ℕ) Row (c.Form ℕ) (c.Case ℕ) (c.Core ℕ) (c.Handler ℕ) → c.Part ℕ
part_form layer.Missing = c.missing
part_form (layer.Given form) = c.given form.value

abbrev pub test_form : layer.Test-F (c.Form ℕ) (c.Part ℕ) (c.Test ℕ) Row (c.Form ℕ) (c.Case ℕ) (c.Core ℕ) (c.Handler ℕ) → c.Test ℕ
test_form layer.Everything = c.everything
test_form (layer.On t) = c.on (ty t)
test_form (layer.Malformed form) = c.malformed form.value

abbrev pub arguments_form : layer.Arguments-F (c.Form ℕ) (c.Part ℕ) (c.Test ℕ) Row (c.Form ℕ) (c.Case ℕ) (c.Core ℕ) (c.Handler ℕ) → Row
arguments_form x = (c.cores x.forms.items, names x.names.items)

abbrev pub attempt_form : layer.Attempt-F (c.Form ℕ) (c.Part ℕ) (c.Test ℕ) Row (c.Form ℕ) (c.Case ℕ) (c.Core ℕ) (c.Handler ℕ) → c.Form ℕ
attempt_form x = c.try x.body (c.handlers x.handlers.items) x.last

abbrev pub case_form : layer.Case-F (c.Form ℕ) (c.Part ℕ) (c.Test ℕ) Row (c.Form ℕ) (c.Case ℕ) (c.Core ℕ) (c.Handler ℕ) → c.Case ℕ
case_form x = c.case x.value x.body

abbrev pub core_form : layer.Core-F (c.Form ℕ) (c.Part ℕ) (c.Test ℕ) Row (c.Form ℕ) (c.Case ℕ) (c.Core ℕ) (c.Handler ℕ) → c.Core ℕ
core_form x = c.at x.place x.form

abbrev pub handler_form : layer.Handler-F (c.Form ℕ) (c.Part ℕ) (c.Test ℕ) Row (c.Form ℕ) (c.Case ℕ) (c.Core ℕ) (c.Handler ℕ) → c.Handler ℕ
handler_form x = c.handler x.test x.exception x.trace x.body

-- the form that a value of the program stands for
unfoldable pub form : Form → c.Form ℕ
form = fold-Form (c.Form ℕ) (c.Part ℕ) (c.Test ℕ) Row (c.Form ℕ) (c.Case ℕ) (c.Core ℕ) (c.Handler ℕ) form_form part_form test_form arguments_form attempt_form case_form core_form handler_form

unfoldable pub part : Part → c.Part ℕ
part = fold-Part (c.Form ℕ) (c.Part ℕ) (c.Test ℕ) Row (c.Form ℕ) (c.Case ℕ) (c.Core ℕ) (c.Handler ℕ) form_form part_form test_form arguments_form attempt_form case_form core_form handler_form

unfoldable pub test : Test → c.Test ℕ
test = fold-Test (c.Form ℕ) (c.Part ℕ) (c.Test ℕ) Row (c.Form ℕ) (c.Case ℕ) (c.Core ℕ) (c.Handler ℕ) form_form part_form test_form arguments_form attempt_form case_form core_form handler_form

unfoldable pub arguments : Arguments → Row
arguments = fold-Arguments (c.Form ℕ) (c.Part ℕ) (c.Test ℕ) Row (c.Form ℕ) (c.Case ℕ) (c.Core ℕ) (c.Handler ℕ) form_form part_form test_form arguments_form attempt_form case_form core_form handler_form

unfoldable pub attempt : Attempt → c.Form ℕ
attempt = fold-Attempt (c.Form ℕ) (c.Part ℕ) (c.Test ℕ) Row (c.Form ℕ) (c.Case ℕ) (c.Core ℕ) (c.Handler ℕ) form_form part_form test_form arguments_form attempt_form case_form core_form handler_form

unfoldable pub case : Case → c.Case ℕ
case = fold-Case (c.Form ℕ) (c.Part ℕ) (c.Test ℕ) Row (c.Form ℕ) (c.Case ℕ) (c.Core ℕ) (c.Handler ℕ) form_form part_form test_form arguments_form attempt_form case_form core_form handler_form

unfoldable pub core : Core → c.Core ℕ
core = fold-Core (c.Form ℕ) (c.Part ℕ) (c.Test ℕ) Row (c.Form ℕ) (c.Case ℕ) (c.Core ℕ) (c.Handler ℕ) form_form part_form test_form arguments_form attempt_form case_form core_form handler_form

unfoldable pub handler : Handler → c.Handler ℕ
handler = fold-Handler (c.Form ℕ) (c.Part ℕ) (c.Test ℕ) Row (c.Form ℕ) (c.Case ℕ) (c.Core ℕ) (c.Handler ℕ) form_form part_form test_form arguments_form attempt_form case_form core_form handler_form
