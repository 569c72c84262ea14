-- What a form of the core language does (ECMA-408, 16 Expressions, 17 Statements, 9 Functions): big-step, in text order.
use Rattle.std.specs.Prelude.{ℕ, zero, suc, List, [], ◌∷◌, Bool, true, false, Option, Some, None, replicate, slice_index_or}
use Rattle.dart_base.specs.declared.place.Place.{Place}
use Rattle.dart_ir.specs.declared.class.Role.{Role}
use Rattle.dart_ir.specs.declared.class.Role.TheVariants.{Method, Getter, Setter}
use Rattle.dart_ir.specs.declared.value.Value.{Value}
use Rattle.dart_ir.specs.declared.value.Value.TheVariants.{Null, Bool as Truth}
use Rattle.core_program.specs.Core.{Core, Form, Cores, Part, Handler, Test, Handlers, Case, Cases}
use Rattle.core_program.specs.Core as c
use Rattle.core_program.specs.Program.{Parameter, Function, Static}
use Rattle.evaluation.specs.State.{Activation, Source, a_function, an_initialiser, now, tested, with_event, Completion, answer, jumps, returns, ended, out_of_depth, Outcome, ends, Meaning, Setting, Given, Callee, Reaction, World}
use Rattle.evaluation.specs.Sequence.{on_answer, entering, branch, in_order, on_answers}
use Rattle.evaluation.specs.Classes.{superclass, function_at, static_of, class_of_function}
use Rattle.evaluation.specs.Values.{head_of, arguments_here}
use Rattle.evaluation.specs.Objects.{throw_value, throw_named}
use Rattle.evaluation.specs.Parts.{form_of, is_block_part, takes_step, is_closure, constant_of, is_join, has_no_forms}
use Rattle.evaluation.specs.Variables as x
use Rattle.evaluation.specs.Arguments.{given, value_for}
use Rattle.evaluation.specs.Invocation as call
use Rattle.evaluation.specs.Types.{is_type, as_type, type_object}
use Rattle.evaluation.specs.Creation as creation
use Rattle.evaluation.specs.Statements as s
use Rattle.evaluation.specs.Externals.{native}

-- ---- checks

-- A value comes to a site: the event, and what follows it there.
abbrev pub site : World → ℕ → Value → Meaning
site w number v st =
    w.react number (head_of w.setting st.heap v) (arguments_here w.setting (now st)) v
    (with_event st (tested number (head_of w.setting st.heap v) (arguments_here w.setting (now st))))

-- ---- forms by themselves, over the answers of their parts

abbrev pub leaf : World → Place → c.Leaf ℕ → Meaning
leaf w at (c.constant v) st = ends (answer v) st
leaf w at c.this st = ends (answer st.activation.this) st
leaf w at (c.read v) st = x.read w.setting v st
leaf w at (c.static_read d) st = call.leaving at (x.static_read w at d st)
leaf w at (c.field i) st = x.field i st
leaf w at (c.closure f) st = x.make_closure w.setting f st
leaf w at (c.jump way target) st = ends (jumps way target) st
leaf w at c.rethrow st = s.rethrow st
leaf w at (c.raise kind name is_setter) st = throw_named w.setting at kind name is_setter st

-- A local function's variable is there before the function is made, which may name it.
abbrev pub before_operand : World → Bool → c.Unary ℕ → Meaning → Meaning
before_operand w true (c.var v) operand st = on_answer (λ _. operand) (x.declare w.setting v Null st)
before_operand w is_function unary operand st = operand st

abbrev pub declared_with : Setting → Bool → ℕ → Value → Meaning
declared_with setting true v value st = x.write setting v value st
declared_with setting false v value st = x.declare setting v value st

abbrev pub unary : World → Place → Bool → c.Unary ℕ → Value → Meaning
unary w at is_function (c.var v) value st = declared_with w.setting is_function v value st
unary w at is_function (c.write v) value st = x.write w.setting v value st
unary w at is_function (c.static_write d) value st = x.static_write d value st
unary w at is_function (c.field_write i) value st = x.field_write i value st
unary w at is_function (c.get name) value st = call.get w at name value st
unary w at is_function (c.check number) value st = site w number value st
unary w at is_function c.throw value st = throw_value w.setting.known at value st

abbrev pub binary : World → Place → c.Binary ℕ → Value → Value → Meaning
binary w at c.equal first second st = call.equal w at first second st
binary w at (c.set name) first second st = call.set w at name first second st

-- the value that a setter of the superclass is given
abbrev pub only : Given → Value
only g = slice_index_or g.values 0 Null

-- A member looked up from the superclass of class c, on `this`; null where there is none (16.17.3 Super Invocation).
abbrev pub super_member : World → Place → Role → ℕ → Given → Option ℕ → Value → Meaning
super_member w at role name g None this st = ends (answer Null) st
super_member w at Method name g (Some k) this st = call.send_from w at (Some k) name this g st
super_member w at Getter name g (Some k) this st = call.get_from w at (Some k) name this st
super_member w at Setter name g (Some k) this st = call.set_from w at (Some k) name this (only g) st

abbrev pub superclass_of : Setting → Option ℕ → Option ℕ
superclass_of setting None = None
superclass_of setting (Some k) = superclass setting.program k

abbrev pub class_of_source : Setting → Source → Option ℕ
class_of_source setting (a_function f) = class_of_function (function_at setting.program f)
class_of_source setting (an_initialiser d) = None

abbrev pub super : World → Place → Role → ℕ → Given → Meaning
super w at role name g st =
    super_member w at role name g (superclass_of w.setting (class_of_source w.setting st.activation.source))
    st.activation.this st

-- The receiver, where there is one, comes first.
abbrev pub row : World → Place → c.Job ℕ → List ℕ → List Value → Meaning
row w at (c.send name) names (v ∷ vs) st = call.send w at name v (given names vs) st
row w at (c.send name) names [] st = ends (answer Null) st
row w at (c.super role name) names vs st = super w at role name (given names vs) st
row w at (c.call f) names vs st = call.static_call w at f (given names vs) st
row w at c.apply names (v ∷ vs) st = call.apply w at v (given names vs) st
row w at c.apply names [] st = ends (answer Null) st
row w at (c.super_new f) names vs st = creation.construct w at f (given names vs) st
row w at c.join names vs st = creation.join w.setting at vs st
row w at (c.native id) names vs st = native w.setting at id vs st

-- a constant piece of a string with parts is no form
abbrev pub piece : Bool → Option Value → Meaning → Meaning
piece true (Some v) operand st = ends (answer v) st
piece join constant operand st = operand st

abbrev pub stepped : Bool → Meaning → Meaning
stepped true form st = entering form st
stepped false form st = form st

-- ---- forms with forms in them

abbrev mutual
  -- what a form does: its step, where it takes one, and then its parts in order
  pub eval : Core ℕ → World → Meaning
  eval (c.at at form) w st = stepped (takes_step form) (act form at w) st

  pub act : Form ℕ → Place → World → Meaning
  act (c.leaf one) at w st = leaf w at one st
  act (c.type_literal t) at w st = type_object w.setting t st
  act (c.unary one operand) at w st =
      on_answer (unary w at (is_closure (form_of operand)) one)
      (before_operand w (is_closure (form_of operand)) one (eval operand w) st)
  act (c.binary one first second) at w st =
      on_answer (λ v st. on_answer (λ u. binary w at one v u) (eval second w st)) (eval first w st)
  act (c.row job operands names) at w st = on_answers (row w at job names) (evals (is_join job) operands w) [] st
  act (c.let_in v value body) at w st =
      on_answer (λ _. eval body w) (on_answer (x.declare w.setting v) (eval value w st))
  act (c.block forms) at w st = in_order (evals false forms w) Null st
  act (c.choice condition first second) at w st =
      on_answer (λ v. branch v (part first w Null) (part second w Null)) (eval condition w st)
  act (c.new k f types operands names) at w st =
      on_answers (λ vs. creation.new w at k f types (given names vs)) (evals false operands w) [] st
  act (c.list types items) at w st = on_answers (creation.new_list w.setting types) (evals false items w) [] st
  act (c.is_type operand t) at w st = on_answer (is_type w.setting t) (eval operand w st)
  act (c.as_type operand t) at w st = on_answer (as_type w.setting at t) (eval operand w st)
  act (c.loop n xs condition update body) at w st =
      s.loop w.setting n xs (part condition w (Truth true)) (part update w Null) (part body w Null) st
  act (c.return value) at w st = on_answer (λ v st. ends (returns v) st) (part value w Null st)
  act (c.try body handlers last) at w st =
      s.finally (part last w Null) (s.caught_by w.setting (clauses handlers w) (eval body w st))
  act (c.switch n operand cases) at w st =
      on_answer (s.switch w.setting at n (branches cases w)) (eval operand w st)
  act (c.labelled n body) at w st = s.labelled n (eval body w st)

  -- operands or statements in order; in a string with parts the constants among them take no step
  pub evals : Bool → Cores ℕ → World → List Meaning
  evals join c.no_cores w = []
  evals join (c.core_more one more) w =
      (λ st. piece join (constant_of (form_of one)) (eval one w) st) ∷ evals join more w

  -- a part that is missing takes no step and has the value
  pub part : Part ℕ → World → Value → Meaning
  part c.missing w v st = ends (answer v) st
  part (c.given one) w v st = eval one w st

  pub clauses : Handlers ℕ → World → List s.Clause
  clauses c.no_handlers w = []
  clauses (c.handler_more one more) w = clause one w ∷ clauses more w

  pub clause : Handler ℕ → World → s.Clause
  clause (c.handler condition exception trace body) w =
      record { test = test condition w; exception = exception; trace = trace; body = λ st. eval body w st }

  pub test : Test ℕ → World → s.ClauseTest
  test c.everything w = s.takes_all
  test (c.on t) w = s.takes t
  test (c.malformed form) w = s.malformed (λ st. eval form w st)

  pub branches : Cases ℕ → World → List s.Branch
  branches c.no_cases w = []
  branches (c.case_more one more) w = branch_of one w ∷ branches more w

  pub branch_of : Case ℕ → World → s.Branch
  branch_of (c.case value body) w =
      record { value = value; is_empty = has_no_forms (form_of body); body = λ st. eval body w st }

-- ---- bodies (9 Functions, 16.14.2 Binding Actuals to Formals)

-- each parameter takes a step, then its value comes to its site, and then the parameter is a variable with the value
abbrev pub bind_one : World → Given → ℕ → Parameter ℕ → Meaning
bind_one w g i q st = on_answer (x.declare w.setting q.var) (site w q.site (value_for g i q) st)

abbrev pub binding : World → Given → List (Parameter ℕ) → ℕ → Meaning → Meaning
binding w g [] i body st = body st
binding w g (q ∷ qs) i body st =
    entering (λ st. on_answer (λ _. binding w g qs (suc i) body) (bind_one w g i q st)) st

-- What a call answers. A block that is done answers null, and another body its value.
abbrev pub body_value : Bool → Value → Value
body_value true v = Null
body_value false v = v

abbrev pub answered_by : Bool → Completion → Completion
answered_by is_block (answer v) = answer (body_value is_block v)
answered_by is_block (returns v) = answer v
answered_by is_block (jumps way n) = answer Null
answered_by is_block c = c

-- the caller goes on
abbrev pub returned : Bool → Activation → Outcome → Outcome
returned is_block caller (ends c st) = ends (answered_by is_block c) (record st { activation = caller })

abbrev pub activation : ℕ → ℕ → Callee → Activation
activation f vars callee = record {
  source = a_function f;
  owner = callee.owner;
  slots = replicate vars Null;
  this = callee.this;
  closure = callee.closure;
  types = callee.types;
  caught = None;
}

abbrev pub body_of : Option (Function ℕ) → ℕ → World → Callee → Given → Meaning
body_of None f w callee g st = ends (answer Null) st
body_of (Some one) f w callee g st =
    returned (is_block_part one.body) st.activation (binding w g one.parameters 0 (part one.body w Null)
    (record st { activation = activation f one.vars callee }))

abbrev pub initial : ℕ → ℕ → Activation
initial d vars = record {
  source = an_initialiser d;
  owner = 0;
  slots = replicate vars Null;
  this = Null;
  closure = Null;
  types = [];
  caught = None;
}

-- the initialiser of a static variable
abbrev pub init_of : Option (Static ℕ) → ℕ → World → Meaning
init_of None d w st = ends (answer Null) st
init_of (Some one) d w st =
    returned false st.activation (part one.init w Null (record st { activation = initial d one.vars }))

-- ---- nested calls: each body and each initialiser of a static variable is one

pub record Calls : Type 0 where
  pub calls : ℕ → Callee → Given → Meaning
  pub inits : ℕ → Meaning

abbrev pub world_over : Setting → Reaction → Calls → World
world_over setting react inner = record { setting = setting; react = react; calls = inner.calls; inits = inner.inits }

-- calls that nest so deep at most
abbrev pub nested : Setting → Reaction → ℕ → Calls
nested setting react zero = record {
  calls = λ f callee g st. ends (ended out_of_depth) st;
  inits = λ d st. ends (ended out_of_depth) st;
}
nested setting react (suc depth) = record {
  calls = λ f. body_of (function_at setting.program f) f (world_over setting react (nested setting react depth));
  inits = λ d. init_of (static_of setting.program d) d (world_over setting react (nested setting react depth));
}
