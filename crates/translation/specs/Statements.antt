-- The forms of statements over walks that give the forms of their parts (ECMA-408, 17 Statements). A statement gives a list of
-- forms: none where it is empty, and one for each variable that it declares.
use Rattle.std.specs.Prelude.{ℕ, ◌+◌, List, [], ◌∷◌, ◌++◌, map, length, Option, None, Some, Bool, true, false, codes, bytes_eq, pos, if◌then◌else◌}
use Rattle.std.specs.List.{list_any, flat_map}
use Rattle.dart_base.specs.declared.place.Place.{Place}
use Rattle.dart_tree.specs.declared.identifier.Identifier.{Identifier}
use Rattle.dart_tree.specs.declared.identifier.CommaName.{CommaName}
use Rattle.dart_tree.specs.declared.identifier.Label.{Label}
use Rattle.dart_tree.specs.declared.expression.Atom.{Atom}
use Rattle.dart_tree.specs.declared.expression.Atom.TheVariants as a
use Rattle.dart_tree.specs.declared.operator.Operator.{Operator}
use Rattle.dart_tree.specs.declared.operator.Operator.TheVariants as o
use Rattle.dart_token.specs.declared.sign.Sign.TheVariants as sg
use Rattle.dart_tree.specs.declared.statement.Catch.{Catch}
use Rattle.dart_tree.specs.declared.statement.Jump.{Jump}
use Rattle.dart_tree.specs.declared.statement.Jump.TheVariants as j
use Rattle.dart_tree.specs.Types as y
use Rattle.dart_tree.specs.Tree as t
use Rattle.dart_pieces.specs.Numbers as numbers
use Rattle.dart_ir.specs.Integer.{integer_value}
use Rattle.dart_ir.specs.Ty.{class, nil}
use Rattle.dart_ir.specs.declared.kind.SiteKind.TheVariants as kind
use Rattle.dart_ir.specs.declared.kind.ThrowKind.TheVariants.{MalformedTypeError}
use Rattle.dart_ir.specs.declared.value.Value.{Value}
use Rattle.dart_ir.specs.declared.value.Value.TheVariants as v
use Rattle.core_program.specs.Core as c
use Rattle.core_program.specs.declared.form.Way.{Way}
use Rattle.core_program.specs.declared.form.Way.TheVariants as way
use Rattle.translation.specs.Surroundings.{Text, Core}
use Rattle.translation.specs.Walk.{Asked, unasked, Target, TargetKind, a_loop, a_switch, another, State, Walk, went, refused, on, bad_label, bad_switch, bad_constructor, bad_word, place_of_core, checked, tested, declared, scoped, in_handler, targeted, with_literal}
use Rattle.translation.specs.Strings.{constant_units}
use Rattle.translation.specs.Firsts.{first_of_expr}
use Rattle.translation.specs.Types.{PlacedName, text_of, Typed, well_formed, malformed}
use Rattle.translation.specs.References.{by_place, block, raise, send, in_let, identifier, write}

-- ---- parts

-- where one form is wanted
abbrev pub one_part : List Core → c.Part Text
one_part [] = c.missing
one_part (form ∷ []) = c.given form
one_part (form ∷ more ∷ rest) = c.given (block (place_of_core form) (form ∷ more ∷ rest))

-- a branch or a body, in a scope of its own
abbrev pub part : Walk (List Core) → Walk (c.Part Text)
part walk st = on (scoped walk st) (λ forms st. went (one_part forms) st)

abbrev pub alone : Walk Core → Walk (List Core)
alone walk st = on (walk st) (λ form st. went (form ∷ []) st)

abbrev pub forms_of : c.Part Text → List Core
forms_of c.missing = []
forms_of (c.given form) = form ∷ []

-- ---- labels and jumps (17.13 Labels to 17.15 Continue)

abbrev pub label_text : Label → Text
label_text label = text_of label.name

-- what labels stand before, where that is neither a loop nor a switch
abbrev pub labelled_forms : ℕ → List Core → List Core
labelled_forms target [] = []
labelled_forms target (form ∷ []) = c.at (place_of_core form) (c.labelled target form) ∷ []
labelled_forms target (form ∷ more ∷ rest) =
    c.at (place_of_core form) (c.labelled target (block (place_of_core form) (form ∷ more ∷ rest))) ∷ []

-- A label is no form. The number of a target is how many stand around it.
abbrev pub labelling : List Text → Walk (List Core) → Walk (List Core)
labelling [] walk st = walk st
labelling (label ∷ labels) walk st = on (targeted (record { labels = label ∷ labels; kind = another }) walk st)
    (λ forms after. went (labelled_forms (length st.targets) forms) after)

abbrev pub has_label : Text → List Text → Bool
has_label name labels = list_any (bytes_eq name) labels

abbrev pub breaks : TargetKind → Bool
breaks another = false
breaks other = true

abbrev pub may_break : Option Text → Target → Bool
may_break None target = breaks target.kind
may_break (Some name) target = has_label name target.labels

abbrev pub case_from : ℕ → Text → List (List Text) → Option ℕ
case_from n name [] = None
case_from n name (labels ∷ more) = if has_label name labels then Some n else case_from (n + 1) name more

abbrev pub continue_if : Bool → Option Way
continue_if true = Some way.Continue
continue_if false = None

abbrev pub case_way : Option ℕ → Option Way
case_way None = None
case_way (Some n) = Some (way.Case n)

-- how a `continue` goes on with the target, if it does
abbrev pub continues : Option Text → Target → TargetKind → Option Way
continues None target a_loop = Some way.Continue
continues None target other = None
continues (Some name) target a_loop = continue_if (has_label name target.labels)
continues (Some name) target (a_switch cases) = case_way (case_from 0 name cases)
continues (Some name) target another = None

-- a jump to a target by its number
pub record Landing : Type 0 where
  pub way : Way
  pub target : ℕ

abbrev pub landing : ℕ → Option Way → Option Landing → Option Landing
landing n None further = further
landing n (Some way) further = Some (record { way = way; target = n })

abbrev pub break_way : Bool → Option Way
break_way true = Some way.Break
break_way false = None

-- the innermost that a jump may take, the innermost standing last
abbrev pub break_from : ℕ → Option Text → List Target → Option Landing → Option Landing
break_from n name [] best = best
break_from n name (target ∷ targets) best = break_from (n + 1) name targets (landing n (break_way (may_break name target)) best)

abbrev pub continue_from : ℕ → Option Text → List Target → Option Landing → Option Landing
continue_from n name [] best = best
continue_from n name (target ∷ targets) best =
    continue_from (n + 1) name targets (landing n (continues name target target.kind) best)

abbrev pub jump_to : Place → Option Landing → Walk (List Core)
jump_to place None st = refused (bad_label place)
jump_to place (Some to) st = went (c.at place (c.leaf (c.jump to.way to.target)) ∷ []) st

abbrev pub rethrow_if : Bool → Place → Walk (List Core)
rethrow_if true place st = went (c.at place (c.leaf c.rethrow) ∷ []) st
rethrow_if false place st = refused (bad_word place)

abbrev pub option_text : Option Identifier → Option Text
option_text None = None
option_text (Some name) = Some (text_of name)

abbrev pub jumping : Jump → Walk (List Core)
jumping (j.Break word label semicolon) st = jump_to word (break_from 0 (option_text label) st.targets None) st
jumping (j.Continue word label semicolon) st = jump_to word (continue_from 0 (option_text label) st.targets None) st
jumping (j.Rethrow word semicolon) st = rethrow_if st.inside.in_handler word st

-- ---- if and loops (17.5 If to 17.8 Do)

abbrev pub condition : Place → Walk Core → Walk Core
condition at test st = on (test st) (tested at)

-- if (c) a else b
abbrev pub if_form : Place → Place → Walk Core → Walk (c.Part Text) → Walk (c.Part Text) → Walk (List Core)
if_form place at test first second st =
    on (condition at test st) (λ test st. on (first st) (λ one st. on (second st)
    (λ other st. went (c.at place (c.choice test one other) ∷ []) st)))

abbrev pub no_part : Walk (c.Part Text)
no_part st = went c.missing st

-- in a loop with these labels
abbrev pub looping : {A : Type 0} → List Text → Walk A → Walk A
looping labels walk st = targeted (record { labels = labels; kind = a_loop }) walk st

abbrev pub loop : Place → ℕ → List ℕ → c.Part Text → c.Part Text → c.Part Text → Core
loop place target copies test update body = c.at place (c.loop target copies test update body)

-- while (c) b
abbrev pub while_form : List Text → Place → Place → Walk Core → Walk (c.Part Text) → Walk (List Core)
while_form labels place at test body st =
    on (looping labels (λ after. on (condition at test after) (λ test after. on (body after)
    (λ body after. went (loop place (length st.targets) [] (c.given test) c.missing body ∷ []) after))) st) went

-- do b while (c): the step of the loop leaves it where the condition fails
abbrev pub do_form : List Text → Place → Place → Walk (c.Part Text) → Walk Core → Walk (List Core)
do_form labels place at body test st =
    on (looping labels (λ after. on (body after) (λ body after. on (condition at test after)
    (λ test after. went (loop place (length st.targets) [] c.missing (c.given (c.at place (c.choice test c.missing
    (c.given (c.at place (c.leaf (c.jump way.Break (length st.targets)))))))) body ∷ []) after))) st) went

abbrev pub update_part : Place → List Core → c.Part Text
update_part place [] = c.missing
update_part place (form ∷ forms) = c.given (block place (form ∷ forms))

abbrev pub var_of : Core → List ℕ
var_of (c.at place (c.unary (c.var x) form)) = x ∷ []
var_of other = []

-- for (i; c; u) b is Block(i, Loop(xs, c, Block(u), b)), xs being the variables that i declares
abbrev pub for_form :
    List Text → Place → Walk (List Core) → Walk (c.Part Text) → Walk (List Core) → Walk (c.Part Text) → Walk (List Core)
for_form labels place start test updates body st =
    scoped (λ st. on (start st) (λ forms after. on (looping labels (λ after. on (test after) (λ test after. on (updates after)
    (λ steps after. on (body after) (λ body after. went (block place (forms ++
    loop place (length st.targets) (flat_map var_of forms) test (update_part place steps) body ∷ []) ∷ []) after)))) after) went)) st

-- what the turn of a for-in does with the next value: a new variable, or an assignment
abbrev pub next_variable : Place → PlacedName → Asked → Bool → Core → Walk Core
next_variable place name asked is_final form st =
    on (checked kind.VarInit name.place asked form st) (λ form st. on (declared name.text asked is_final st)
    (λ x st. went (c.at place (c.unary (c.var x) form)) st))

abbrev pub next_assigned : Place → PlacedName → Core → Walk Core
next_assigned place name form st = write place name.place (identifier name st) form st

abbrev pub next : Place → PlacedName → Asked → y.VariableKind → Core → Walk Core
next place name asked y.no_kind form st = next_assigned place name form st
next place name asked (y.var_kind at) form st = next_variable place name asked false form st
next place name asked (y.final_kind at of) form st = next_variable place name asked true form st
next place name asked (y.const_kind at of) form st = next_variable place name asked true form st
next place name asked (y.typed_kind of) form st = next_variable place name asked false form st

abbrev pub get : Place → Core → Text → Core
get place form name = c.at place (c.unary (c.get name) form)

-- for (x in e) b is Let(t, Get(e, iterator), Loop(Send(t, moveNext), Block(next x, b)))
abbrev pub for_in_form :
    List Text → Place → Place → Walk Core → (Core → Walk Core) → Walk (List Core) → Walk (List Core)
for_in_form labels place at iterated next body st =
    on (iterated st) (λ form after. on (in_let place (get place form (codes "iterator")) (λ t after.
    on (looping labels (λ after. on (tested at (send place t (codes "moveNext") (by_place [])) after) (λ test after.
    on (scoped (λ after. on (next (get place t (codes "current")) after) (λ first after. on (part body after)
    (λ rest after. went (block place (first ∷ forms_of rest)) after))) after)
    (λ body after. went (loop place (length st.targets) [] (c.given test) c.missing (c.given body)) after))) after) went) after)
    (λ form after. went (form ∷ []) after))

-- ---- switch (17.9 Switch)

-- the value of a case, and what a default value of a parameter may be
pub data Literal : Type 0 where
  no_literal : Literal
  a_null : Literal
  a_bool : Bool → Literal
  an_integer : ℕ → Literal
  a_negative : ℕ → Literal
  a_string : Text → Literal

abbrev pub string_literal : Option Text → Literal
string_literal None = no_literal
string_literal (Some units) = a_string units

abbrev pub atom_literal : Atom → Literal
atom_literal (a.This place) = no_literal
atom_literal (a.Null place) = a_null
atom_literal (a.True place) = a_bool true
atom_literal (a.False place) = a_bool false
atom_literal (a.Integer place text) = an_integer (numbers.integer_value text)
atom_literal (a.Name name) = no_literal

abbrev pub primary_literal : t.Primary → Literal
primary_literal (t.atom atom) = atom_literal atom
primary_literal (t.text pieces) = string_literal (constant_units pieces)
primary_literal other = no_literal

abbrev pub is_minus : Operator → Bool
is_minus (o.Sign place sg.Minus) = true
is_minus other = false

abbrev pub negative : Bool → Literal → Literal
negative true (an_integer n) = a_negative n
negative other _ = no_literal

abbrev pub minus_literal : Operator → t.Operand → Literal
minus_literal operator (t.primary inner) = negative (is_minus operator) (primary_literal inner)
minus_literal operator other = no_literal

abbrev pub operand_literal : t.Operand → Literal
operand_literal (t.primary inner) = primary_literal inner
operand_literal (t.prefix operator inner) = minus_literal operator inner
operand_literal other = no_literal

abbrev pub literal_of : t.Expr → Literal
literal_of (t.plain operand t.no_cascades) = operand_literal operand
literal_of other = no_literal

-- All cases are integers, or all are strings.
pub data CaseKind : Type 0 where
  no_kind : CaseKind
  integers : CaseKind
  strings : CaseKind

abbrev pub fits_case : CaseKind → Literal → Bool
fits_case strings (an_integer n) = false
fits_case integers (a_string units) = false
fits_case kind (an_integer n) = true
fits_case kind (a_string units) = true
fits_case kind other = false

abbrev pub kind_of_literal : Literal → CaseKind
kind_of_literal (an_integer n) = integers
kind_of_literal (a_string units) = strings
kind_of_literal other = no_kind

-- the kind of the first case
abbrev pub kind_of_value : t.Value → CaseKind → CaseKind
kind_of_value t.omitted later = later
kind_of_value (t.given operator value) later = kind_of_literal (literal_of value)

abbrev pub kind_of_cases : t.SwitchParts → CaseKind
kind_of_cases t.no_switch_parts = no_kind
kind_of_cases (t.switch_part labels word value colon statements rest) = kind_of_value value (kind_of_cases rest)

abbrev pub labels_of_cases : t.SwitchParts → List (List Text)
labels_of_cases t.no_switch_parts = []
labels_of_cases (t.switch_part labels word value colon statements rest) = map label_text labels ∷ labels_of_cases rest

-- the class of the cases, which erasure keeps
abbrev pub asked_of_cases : CaseKind → State → Asked
asked_of_cases no_kind st = unasked
asked_of_cases integers st = record { of = Some (class st.tables.int_class nil); annotated = false }
asked_of_cases strings st = record { of = Some (class st.tables.string_class nil); annotated = false }

abbrev pub case_literal : Literal → Walk Value
case_literal (a_string units) st = on (with_literal units st) (λ n st. went (v.Literal n) st)
case_literal (an_integer n) st = went (integer_value (pos n)) st
case_literal other st = went v.Null st

abbrev pub case_if : Bool → Place → Literal → Walk (Option Value)
case_if true place literal st = on (case_literal literal st) (λ value st. went (Some value) st)
case_if false place _ st = refused (bad_switch place)

abbrev pub case_value : CaseKind → t.Value → Walk (Option Value)
case_value kind t.omitted st = went None st
case_value kind (t.given operator value) st = case_if (fits_case kind (literal_of value)) (first_of_expr value) (literal_of value) st

-- a case, whose statements are one Block
abbrev pub case_form : Place → Walk (Option Value) → Walk (List Core) → Walk (c.Case Text)
case_form place value statements st = on (value st) (λ value st. on (scoped statements st)
    (λ forms st. went (c.case value (block place forms)) st))

abbrev pub switch_form : List Text → Place → Place → t.SwitchParts → Walk Core → Walk (List (c.Case Text)) → Walk (List Core)
switch_form labels place at parts operand cases st = on (operand st) (λ form after.
    on (checked kind.SwitchClass at (asked_of_cases (kind_of_cases parts) after) form after) (λ form after.
    on (targeted (record { labels = labels; kind = a_switch (labels_of_cases parts) }) cases after)
    (λ all after. went (c.at place (c.switch (length st.targets) form (c.cases all)) ∷ []) after)))

-- ---- try (17.11 Try)

-- the handlers and the final part
pub record TryParts : Type 0 where
  pub handlers : List (c.Handler Text)
  pub last : c.Part Text

-- what is caught, and the body
pub record Caught : Type 0 where
  pub exception : Option ℕ
  pub trace : Option ℕ
  pub body : Core

-- A malformed type raises where the test is reached.
abbrev pub test_of : Place → Typed → c.Test Text
test_of place (well_formed of) = c.on of
test_of place (malformed name) = c.malformed (raise place MalformedTypeError name false)

abbrev pub caught_trace : ℕ → Option Text → Walk Core → Walk Caught
caught_trace exception None body st =
    on (in_handler body st) (λ form st. went (record { exception = Some exception; trace = None; body = form }) st)
caught_trace exception (Some name) body st = on (declared name unasked false st) (λ trace st. on (in_handler body st)
    (λ form st. went (record { exception = Some exception; trace = Some trace; body = form }) st))

-- catch (e, s) and its Block, in a scope
abbrev pub caught : Option (Text × Option Text) → Walk Core → Walk Caught
caught None body st = on (in_handler body st) (λ form st. went (record { exception = None; trace = None; body = form }) st)
caught (Some names) body st =
    scoped (λ st. on (declared names.0 unasked false st) (λ exception st. caught_trace exception names.1 body st)) st

abbrev pub comma_text : Option CommaName → Option Text
comma_text None = None
comma_text (Some x) = Some (text_of x.name)

abbrev pub trace_text : Catch → Option Text
trace_text x = comma_text x.trace

abbrev pub catch_names : Option Catch → Option (Text × Option Text)
catch_names None = None
catch_names (Some x) = Some (text_of x.exception, trace_text x)

abbrev pub handler_of : c.Test Text → Caught → c.Handler Text
handler_of test x = c.handler test x.exception x.trace x.body

abbrev pub with_handler : c.Handler Text → TryParts → TryParts
with_handler one parts = record parts { handlers = one ∷ parts.handlers }

abbrev pub try_form : Place → Walk Core → Walk TryParts → Walk (List Core)
try_form place body parts st = on (body st) (λ form st. on (parts st)
    (λ all st. went (c.at place (c.try form (c.handlers all.handlers) all.last) ∷ []) st))

-- ---- return (17.12 Return)

abbrev pub return_form : Place → c.Part Text → Core
return_form place value = c.at place (c.return value)

abbrev pub returned : Place → Place → Walk Core → Walk Core
returned place at value st =
    on (value st) (λ form st. on (checked kind.Return at st.inside.result form st) (λ form st. went (return_form place (c.given form)) st))

-- A generative constructor returns no value.
abbrev pub returned_if : Bool → Place → Place → Walk Core → Walk Core
returned_if true place at value st = returned place at value st
returned_if false place at value st = refused (bad_constructor place)

-- ---- variables (17.3 Local Variable Declaration)

-- the initial value, null where none is written
abbrev pub initial : Place → Place → Asked → Walk Core → Walk Core
initial place at asked value st = on (value st) (checked kind.VarInit at asked)

-- After its initial value a variable is in scope.
abbrev pub variable_form : Place → Text → Asked → Bool → Core → Walk Core
variable_form place name asked is_final form st =
    on (declared name asked is_final st) (λ x st. went (c.at place (c.unary (c.var x) form)) st)

abbrev pub variable : Place → Asked → Bool → Text → Walk Core → Walk Core
variable place asked is_final name value st = on (value st) (variable_form place name asked is_final)
