-- The core of each production of the grammar: a source form on the left, and the core form on the right, which the files
-- named after the standard's chapters define.
use Rattle.std.specs.Prelude.{List, [], ◌∷◌, ◌++◌, Option, None, Some, Bool, false}
use Rattle.dart_base.specs.declared.place.Place.{Place}
use Rattle.dart_tree.specs.declared.identifier.Label.{Label}
use Rattle.dart_tree.specs.Places.{place_of}
use Rattle.dart_tree.specs.Types as y
use Rattle.dart_tree.specs.Tree as t
use Rattle.dart_ir.specs.Ty.{dynamic}
use Rattle.core_program.specs.Core as c
use Rattle.translation.specs.Surroundings.{Text, Core}
use Rattle.translation.specs.Walk.{Asked, unasked, State, Walk, went, on, bad_constructor, scoped, refused}
use Rattle.translation.specs.Strings.{constant_units, parts_of}
use Rattle.translation.specs.Firsts as first
use Rattle.translation.specs.Types.{word_of, text_of, kept_type, kept_arguments, asked_of_kind, asked_of_result, function_type, result_type, is_final, is_const}
use Rattle.translation.specs.References.{Arguments, Reference, evaluated, super_member, super_item, null, block, own_name, read, callable, member_of}
use Rattle.translation.specs.Expressions as e
use Rattle.translation.specs.Statements as s
use Rattle.translation.specs.Functions as f

abbrev pub label_name : Option Label → State → List Text
label_name None st = []
label_name (Some label) st = own_name (word_of label.name) st ∷ []

abbrev pub with_argument : Core → List Text → Arguments → Arguments
with_argument form name more = record { forms = form ∷ more.forms; names = name ++ more.names }

abbrev pub no_arguments : Arguments
no_arguments = record { forms = []; names = [] }

abbrev pub without_parts : s.TryParts
without_parts = record { handlers = []; last = c.missing }

abbrev pub with_last : Core → s.TryParts → s.TryParts
with_last form parts = record parts { last = c.given form }

abbrev mutual
  -- ---- expressions

  pub expr : t.Expr → Walk Core
  expr (t.assign target operator given) st = on (reference target st)
      (e.assigning (e.compound_operator operator) (first.first_of_operand target) (first.first_of_expr given) (expr given))
  expr (t.plain base more) st =
      on (operand base st) (e.cascaded (e.has_cascades more) (first.first_of_operand base) (λ x. sections x more))
  expr (t.throw word given) st = on (expr given st) (λ form st. went (c.at word (c.unary c.throw form)) st)

  -- the sections of a cascade on a variable
  pub sections : Core → t.Cascades → Walk (List Core)
  sections x t.no_cascades st = went [] st
  sections x (t.cascade dots more term rest) st = on (selectors dots more (evaluated x) st) (λ target st.
      on (section dots term target st) (λ form st. on (sections x rest st) (λ forms st. went (form ∷ forms) st)))

  pub section : Place → t.Value → Reference → Walk Core
  section dots t.omitted target st = read dots target st
  section dots (t.given operator given) target st =
      e.assigning (e.option_compound operator) dots (first.first_of_expr given) (expr given) target st

  -- an operand that is read
  pub operand : t.Operand → Walk Core
  operand (t.conditional condition question one colon other) st =
      e.conditional (first.first_of_operand condition) (operand condition) (expr one) (expr other) st
  operand (t.binary base more) st = e.chained (e.super_of base) (operand base)
      (λ form. tails (first.first_of_operand base) form more) (λ word. super_tails word more) st
  operand (t.is_type base word bang of) st = on (operand base st) (λ form st. on (kept_type of st)
      (λ of st. e.type_tested (first.first_of_operand base) bang of form st))
  operand (t.as_type base word of) st = on (operand base st) (λ form st. on (kept_type of st)
      (λ of st. went (e.cast (first.first_of_operand base) of form) st))
  operand (t.prefix operator base) st = e.prefixed_on (e.super_of base) (e.prefix operator)
      (first.place_of_operator operator) (first.first_of_operand base) (operand base) (reference base) st
  operand (t.postfix base more operator) st = on (primary base st) (λ target st.
      on (selectors (first.first_of_primary base) more target st) (e.postfixed operator (first.first_of_primary base)))
  operand (t.primary base) st = on (primary base st) (read (first.first_of_primary base))

  -- an operand that is assigned; the grammar has no others than these
  pub reference : t.Operand → Walk Reference
  reference (t.postfix base more operator) st =
      on (primary base st) (selectors (first.first_of_primary base) more)
  reference (t.primary base) st = primary base st
  reference (t.conditional condition question one colon other) st = e.no_target question st
  reference (t.binary base more) st = e.no_target (first.first_of_operand base) st
  reference (t.is_type base word bang of) st = e.no_target word st
  reference (t.as_type base word of) st = e.no_target word st
  reference (t.prefix operator base) st = e.no_target (first.place_of_operator operator) st

  -- a row of operators behind `super`, which has one at least
  pub super_tails : Place → t.Tails → Walk Core
  super_tails word t.no_tails st = e.this_form word st
  super_tails word (t.tail operator next rest) st =
      on (e.with_instance word (e.super_binary word (e.operation operator) (operand next)) st)
      (λ form st. tails word form rest st)

  -- a row of operators, from the left
  pub tails : Place → Core → t.Tails → Walk Core
  tails place form t.no_tails st = went form st
  tails place form (t.tail operator next rest) st =
      on (e.binary place (e.operation operator) form (first.first_of_operand next) (operand next) st)
      (λ form st. tails place form rest st)

  pub primary : t.Primary → Walk Reference
  primary (t.super_access word next) st = super_selected word next st
  primary (t.bare_super word) st = e.as_value (e.this_form word) st
  primary (t.atom atom) st = e.atom_reference atom st
  primary (t.text all) st =
      e.as_value (e.string_form (first.first_of_pieces all) (constant_units all) (pieces (first.first_of_pieces all) all [])) st
  primary (t.list_literal types opening all comma closing) st = on (kept_arguments types st) (λ types_of st.
      on (elements (e.asked_at 0 types_of) all st)
      (λ forms st. went (evaluated (e.list_form (first.first_of_arguments types opening) types_of forms)) st))
  primary (t.map_literal types opening all comma closing) st = on (kept_arguments types st) (λ types_of st.
      e.as_value (e.map_form (first.first_of_arguments types opening) types_of
      (λ map. entries (e.asked_at 0 types_of) (e.asked_at 1 types_of) (first.first_of_arguments types opening) map all)) st)
  primary (t.new_object creation of constructor given) st =
      on (kept_type (e.creating st of constructor).node (e.meeting_constant (e.is_constant creation) st)) (λ typed after.
      on (arguments given after) (λ all after. e.as_value (e.created (first.place_of_creation creation) typed
      (e.type_name st (e.creating st of constructor).node) (e.creating st of constructor).id all) after))
  primary (t.function_literal given inner) st =
      on (f.inner_function [] (function_type st dynamic given) unasked (f.bind_parameters false st given) (body inner) st)
      (λ n st. went (evaluated (f.closure (first.first_of_parameters given) n)) st)
  primary (t.parenthesized opening given closing) st = e.as_value (expr given) st

  pub super_selected : Place → t.Selector → Walk Reference
  super_selected word (t.member dot name) st = e.with_instance word (λ st. went (super_member (own_name (word_of name) st)) st) st
  super_selected word (t.index opening given closing) st =
      e.with_instance word (λ st. on (expr given st) (λ form st. went (super_item form) st)) st
  super_selected word (t.call given) st = refused (bad_constructor word)

  -- selectors from the left, in a node that begins at the place
  pub selectors : Place → t.Selectors → Reference → Walk Reference
  selectors place t.no_selectors target st = went target st
  selectors place (t.selector next rest) target st = on (selected place next target st) (selectors place rest)

  pub selected : Place → t.Selector → Reference → Walk Reference
  selected place (t.member dot name) target st = member_of place (word_of name) target st
  selected place (t.index opening given closing) target st = on (read place target st) (e.indexed (expr given))
  selected place (t.call given) target st = on (callable target st) (e.call_of place (arguments given))

  pub arguments : t.Arguments → Walk Arguments
  arguments (t.the_arguments opening all closing) st = items all st

  pub items : t.Items → Walk Arguments
  items t.no_items st = went no_arguments st
  items (t.item comma label given rest) st = on (expr given st) (λ form st. on (items rest st)
      (λ more st. went (with_argument form (label_name label st) more) st))

  pub elements : Asked → t.Items → Walk (List Core)
  elements asked t.no_items st = went [] st
  elements asked (t.item comma label given rest) st = on (e.element asked (first.first_of_expr given) (expr given) st)
      (λ form st. on (elements asked rest st) (λ forms st. went (form ∷ forms) st))

  pub entries : Asked → Asked → Place → Core → t.Entries → Walk (List Core)
  entries key_asked asked place map t.no_entries st = went [] st
  entries key_asked asked place map (t.entry comma key colon given rest) st =
      on (e.element key_asked (first.first_of_expr key) (expr key) st) (λ one st.
      on (e.element asked (first.first_of_expr given) (expr given) st) (λ other st.
      on (entries key_asked asked place map rest st) (λ forms st. went (e.put place map one other ∷ forms) st)))

  -- the operands of a string, behind constant text
  pub pieces : Place → t.Pieces → Text → Walk (List Core)
  pieces place t.no_pieces pending st = e.pending_literal place pending st
  pieces place (t.piece kind at text term rest) pending st = on (e.join_parts place at (parts_of kind text) pending st)
      (λ joined st. on (interpolated place term joined.pending st) (λ next st. on (pieces place rest next.pending st)
      (λ forms st. went (joined.forms ++ next.forms ++ forms) st)))

  pub interpolated : Place → t.Value → Text → Walk e.Joined
  interpolated place t.omitted pending st = went (record { forms = []; pending = pending }) st
  interpolated place (t.given operator given) pending st = on (e.pending_literal place pending st) (λ before st.
      on (expr given st) (λ form st. went (record { forms = before ++ e.to_string place form ∷ []; pending = [] }) st))

  -- ---- bodies and statements

  pub body : t.Body → Walk (c.Part Text)
  body (t.arrow_body arrow given semicolon) st =
      on (s.returned (first.first_of_expr given) (first.first_of_expr given) (expr given) st) (λ form st. went (c.given form) st)
  body (t.block_body inside) st = on (block_of inside st) (λ form st. went (c.given form) st)
  body (t.no_body semicolon) st = went c.missing st

  pub block_of : t.Block → Walk Core
  block_of (t.the_block opening statements closing) st =
      on (scoped (stmts statements) st) (λ forms st. went (block opening forms) st)

  pub stmts : t.Stmts → Walk (List Core)
  stmts t.no_stmts st = went [] st
  stmts (t.stmt one rest) st = on (stmt one [] st) (λ forms st. on (stmts rest st) (λ more st. went (forms ++ more) st))

  -- a statement behind labels
  pub stmt : t.Stmt → List Text → Walk (List Core)
  stmt (t.labelled label inner) labels st = stmt inner (s.label_text label ∷ labels) st
  stmt (t.block_stmt inside) labels st = s.labelling labels (s.alone (block_of inside)) st
  stmt (t.variables_stmt declared) labels st = s.labelling labels (variables declared) st
  stmt (t.function_stmt made) labels st = s.labelling labels (local_function made) st
  stmt (t.if_stmt word opening condition closing one) labels st = s.labelling labels
      (s.if_form word (first.first_of_expr condition) (expr condition) (s.part (stmt one [])) s.no_part) st
  stmt (t.if_else word opening condition closing one other two) labels st = s.labelling labels
      (s.if_form word (first.first_of_expr condition) (expr condition) (s.part (stmt one [])) (s.part (stmt two []))) st
  stmt (t.loop again) labels st = loop again labels st
  stmt (t.switch_stmt word opening given closing left parts right) labels st = s.switch_form labels word
      (first.first_of_expr given) parts (expr given) (cases word (s.kind_of_cases parts) parts) st
  stmt (t.try_stmt word inside parts) labels st = s.labelling labels (s.try_form word (block_of inside) (try_parts parts)) st
  stmt (t.return_stmt word term semicolon) labels st = s.labelling labels (s.alone (return_value word term)) st
  stmt (t.jump jump) labels st = s.labelling labels (s.jumping jump) st
  stmt (t.expression_stmt term semicolon) labels st = s.labelling labels (expression term) st

  pub expression : t.Value → Walk (List Core)
  expression t.omitted st = went [] st
  expression (t.given operator given) st = s.alone (expr given) st

  pub return_value : Place → t.Value → Walk Core
  return_value word t.omitted st = went (s.return_form word c.missing) st
  return_value word (t.given operator given) st = s.returned_if st.inside.gives_value word (first.first_of_expr given) (expr given) st

  pub loop : t.Loop → List Text → Walk (List Core)
  loop (t.for_loop word opening start first_semicolon condition semicolon updates closing inner) labels st =
      s.for_form labels word (expression start) (condition_part condition) (steps updates) (s.part (stmt inner [])) st
  loop (t.for_variables word opening declared condition semicolon updates closing inner) labels st =
      s.for_form labels word (variables declared) (condition_part condition) (steps updates) (s.part (stmt inner [])) st
  loop (t.for_in word opening kind name inside iterated closing inner) labels st = s.for_in_form labels word
      (first.first_of_expr iterated) (expr iterated) (s.next word (word_of name) (asked_of_kind st kind) kind) (stmt inner []) st
  loop (t.while_loop word opening condition closing inner) labels st =
      s.while_form labels word (first.first_of_expr condition) (expr condition) (s.part (stmt inner [])) st
  loop (t.do_loop word inner again opening condition closing semicolon) labels st =
      s.do_form labels word (first.first_of_expr condition) (s.part (stmt inner [])) (expr condition) st

  pub condition_part : t.Value → Walk (c.Part Text)
  condition_part t.omitted st = s.no_part st
  condition_part (t.given operator given) st =
      on (s.condition (first.first_of_expr given) (expr given) st) (λ form st. went (c.given form) st)

  -- the updates of a `for`
  pub steps : t.Items → Walk (List Core)
  steps t.no_items st = went [] st
  steps (t.item comma label given rest) st =
      on (expr given st) (λ form st. on (steps rest st) (λ forms st. went (form ∷ forms) st))

  pub cases : Place → s.CaseKind → t.SwitchParts → Walk (List (c.Case Text))
  cases place kind t.no_switch_parts st = went [] st
  cases place kind (t.switch_part labels word term colon statements rest) st =
      on (s.case_form place (s.case_value kind term) (stmts statements) st) (λ one st.
      on (cases place kind rest st) (λ more st. went (one ∷ more) st))

  pub try_parts : t.TryParts → Walk s.TryParts
  try_parts t.no_try_parts st = went without_parts st
  try_parts (t.try_part (y.on_part word of names) inside rest) st = on (kept_type of st) (λ typed st.
      on (s.caught (s.catch_names names) (block_of inside) st) (λ caught st. on (try_parts rest st)
      (λ parts st. went (s.with_handler (s.handler_of (s.test_of (first.first_of_type of) typed) caught) parts) st)))
  try_parts (t.try_part (y.catch_part names) inside rest) st =
      on (s.caught (s.catch_names (Some names)) (block_of inside) st) (λ caught st. on (try_parts rest st)
      (λ parts st. went (s.with_handler (s.handler_of c.everything caught) parts) st))
  try_parts (t.try_part (y.finally_part word) inside rest) st =
      on (block_of inside st) (λ form st. on (try_parts rest st) (λ parts st. went (with_last form parts) st))

  -- ---- local variables and functions

  pub initial : Place → Asked → t.Value → Walk Core
  initial place asked t.omitted st = went (null place) st
  initial place asked (t.given operator given) st = s.initial place (first.first_of_expr given) asked (expr given) st

  -- Several variables of one statement are Vars one after another.
  pub variables : t.Variables → Walk (List Core)
  variables (t.the_variables kind name term more semicolon) st = on (s.variable (first.first_of_variables kind name)
      (asked_of_kind st kind) (is_final kind) (text_of name)
      (initial (first.first_of_variables kind name) (asked_of_kind st kind) term) (e.meeting_constant (is_const kind) st)) (λ form after.
      on (more_variables (first.first_of_variables kind name) (asked_of_kind st kind) (is_final kind) more after)
      (λ forms after. went (form ∷ forms) after))

  pub more_variables : Place → Asked → Bool → t.MoreVariables → Walk (List Core)
  more_variables place asked final_one t.no_variables st = went [] st
  more_variables place asked final_one (t.variable comma name term rest) st =
      on (s.variable place asked final_one (text_of name) (initial place asked term) st) (λ form st.
      on (more_variables place asked final_one rest st) (λ forms st. went (form ∷ forms) st))

  pub local_function : t.Function → Walk (List Core)
  local_function (t.the_function external result name given inner) st =
      f.local_function (place_of name) (text_of name) (λ outer. f.inner_function (own_name (word_of name) st)
      (function_type outer (result_type outer result) given) (asked_of_result outer result) (f.bind_parameters false outer given)
      (body inner) outer) st
