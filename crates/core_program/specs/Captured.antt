-- Which variables a function shares with the functions inside it.
use Rattle.std.specs.Prelude.{ℕ, ◌<◌, List, [], ◌∷◌, ◌++◌, Option, Some, None, Bool, true, false, ◌||◌, ◌⊎◌, ◌↔◌, IsTrue, nat_eq, slice_get}
use Rattle.std.specs.List.{list_any}
use Rattle.core_program.specs.Core.{Core, Form, Cores, Part, Handler, Test, Handlers, Case, Cases}
use Rattle.core_program.specs.Core as c
use Rattle.core_program.specs.Program.{Parameter, Function}

-- ---- all forms in a form, itself included, in order; a function inside is a form by itself, and its body is not in it

abbrev mutual
  pub nodes : {N : Type 0} → Core N → List (Core N)
  nodes (c.at place x) = c.at place x ∷ form_nodes x

  -- those in its parts
  pub form_nodes : {N : Type 0} → Form N → List (Core N)
  form_nodes (c.leaf x) = []
  form_nodes (c.type_literal t) = []
  form_nodes (c.unary x operand) = nodes operand
  form_nodes (c.binary x first second) = nodes first ++ nodes second
  form_nodes (c.row x operands names) = cores_nodes operands
  form_nodes (c.let_in x value body) = nodes value ++ nodes body
  form_nodes (c.block forms) = cores_nodes forms
  form_nodes (c.choice condition first second) = nodes condition ++ part_nodes first ++ part_nodes second
  form_nodes (c.new k d types operands names) = cores_nodes operands
  form_nodes (c.list types items) = cores_nodes items
  form_nodes (c.is_type value t) = nodes value
  form_nodes (c.as_type value t) = nodes value
  form_nodes (c.loop target copies condition update body) = part_nodes condition ++ part_nodes update ++ part_nodes body
  form_nodes (c.return value) = part_nodes value
  form_nodes (c.try body handlers last) = nodes body ++ handlers_nodes handlers ++ part_nodes last
  form_nodes (c.switch target value cases) = nodes value ++ cases_nodes cases
  form_nodes (c.labelled target body) = nodes body

  pub cores_nodes : {N : Type 0} → Cores N → List (Core N)
  cores_nodes c.no_cores = []
  cores_nodes (c.core_more x xs) = nodes x ++ cores_nodes xs

  pub part_nodes : {N : Type 0} → Part N → List (Core N)
  part_nodes c.missing = []
  part_nodes (c.given x) = nodes x

  pub handler_nodes : {N : Type 0} → Handler N → List (Core N)
  handler_nodes (c.handler x exception trace body) = test_nodes x ++ nodes body

  pub test_nodes : {N : Type 0} → Test N → List (Core N)
  test_nodes c.everything = []
  test_nodes (c.on t) = []
  test_nodes (c.malformed x) = nodes x

  pub handlers_nodes : {N : Type 0} → Handlers N → List (Core N)
  handlers_nodes c.no_handlers = []
  handlers_nodes (c.handler_more x xs) = handler_nodes x ++ handlers_nodes xs

  pub case_nodes : {N : Type 0} → Case N → List (Core N)
  case_nodes (c.case value body) = nodes body

  pub cases_nodes : {N : Type 0} → Cases N → List (Core N)
  cases_nodes c.no_cases = []
  cases_nodes (c.case_more x xs) = case_nodes x ++ cases_nodes xs

abbrev pub form_of : {N : Type 0} → Core N → Form N
form_of (c.at place x) = x

-- ---- what a form by itself does with a variable

abbrev pub is_variable : ℕ → Option ℕ → Bool
is_variable x None = false
is_variable x (Some y) = nat_eq x y

abbrev pub handler_declares : {N : Type 0} → ℕ → Handler N → Bool
handler_declares x (c.handler test exception trace body) = is_variable x exception || is_variable x trace

abbrev pub handlers_declare : {N : Type 0} → ℕ → Handlers N → Bool
handlers_declare x c.no_handlers = false
handlers_declare x (c.handler_more one more) = handler_declares x one || handlers_declare x more

abbrev pub unary_declares : {N : Type 0} → ℕ → c.Unary N → Bool
unary_declares x (c.var y) = nat_eq x y
unary_declares x other = false

abbrev pub declares : {N : Type 0} → ℕ → Form N → Bool
declares x (c.unary one operand) = unary_declares x one
declares x (c.let_in y value body) = nat_eq x y
declares x (c.try body handlers last) = handlers_declare x handlers
declares x other = false

abbrev pub leaf_names : {N : Type 0} → ℕ → c.Leaf N → Bool
leaf_names x (c.read y) = nat_eq x y
leaf_names x other = false

abbrev pub unary_names : {N : Type 0} → ℕ → c.Unary N → Bool
unary_names x (c.write y) = nat_eq x y
unary_names x other = false

abbrev pub names : {N : Type 0} → ℕ → Form N → Bool
names x (c.leaf one) = leaf_names x one
names x (c.unary one operand) = unary_names x one
names x other = false

-- whether it makes a closure of the function
abbrev pub leaf_makes : {N : Type 0} → ℕ → c.Leaf N → Bool
leaf_makes g (c.closure h) = nat_eq g h
leaf_makes g other = false

abbrev pub makes : {N : Type 0} → ℕ → Form N → Bool
makes g (c.leaf one) = leaf_makes g one
makes g other = false

-- ---- functions, by their numbers in a list

abbrev pub any_form : (Form ℕ → Bool) → Part ℕ → Bool
any_form f body = list_any (λ x. f (form_of x)) (part_nodes body)

abbrev pub is_parameter : ℕ → List (Parameter ℕ) → Bool
is_parameter x parameters = list_any (λ q. nat_eq q.var x) parameters

abbrev pub function_declares : ℕ → Option (Function ℕ) → Bool
function_declares x None = false
function_declares x (Some f) = is_parameter x f.parameters || any_form (declares x) f.body

abbrev pub function_names : ℕ → Option (Function ℕ) → Bool
function_names x None = false
function_names x (Some f) = any_form (names x) f.body

abbrev pub function_makes : ℕ → Option (Function ℕ) → Bool
function_makes g None = false
function_makes g (Some f) = any_form (makes g) f.body

abbrev pub function_captures : ℕ → Option (Function ℕ) → Bool
function_captures x None = false
function_captures x (Some f) = list_any (nat_eq x) f.captures

abbrev pub Declares : List (Function ℕ) → ℕ → ℕ → Type 0
Declares fs f x = IsTrue (function_declares x (slice_get fs f))

abbrev pub NamesVar : List (Function ℕ) → ℕ → ℕ → Type 0
NamesVar fs f x = IsTrue (function_names x (slice_get fs f))

-- g is a function literal or local function that stands directly in f
abbrev pub Makes : List (Function ℕ) → ℕ → ℕ → Type 0
Makes fs f g = IsTrue (function_makes g (slice_get fs f))

-- x is listed among the variables that g takes along
abbrev pub Captures : List (Function ℕ) → ℕ → ℕ → Type 0
Captures fs g x = IsTrue (function_captures x (slice_get fs g))

-- h stands inside f, at any depth
pub data IsInside (fs : List (Function ℕ)) : ℕ → ℕ → Type 0 where
  directly : (f g : ℕ) → Makes fs f g → IsInside fs f g
  deeper : (f g h : ℕ) → Makes fs f g → IsInside fs g h → IsInside fs f h

-- The function declares the variable, and a function literal or local function inside it names it.
pub record IsCaptured (fs : List (Function ℕ)) (f x : ℕ) : Type 0 where
  pub declared : Declares fs f x
  pub named : (h : ℕ) × (IsInside fs f h × NamesVar fs h x)

-- a function that stands directly in g takes x along
abbrev pub CapturesWithin : List (Function ℕ) → ℕ → ℕ → Type 0
CapturesWithin fs g x = (h : ℕ) × (Makes fs g h × Captures fs h x)

-- What the functions of a program list as captured is what they capture.
pub record ListCaptures (fs : List (Function ℕ)) : Type 0 where
  -- No function stands inside itself: each has a rank, which falls inwards.
  pub nested : (rank : (ℕ → ℕ)) × ((f g : ℕ) → Makes fs f g → rank g < rank f)
  -- A variable is declared by one function alone.
  pub once : (f h x : ℕ) → Declares fs f x → IsInside fs f h → ¬ Declares fs h x
  -- A function takes along what it or a function directly in it needs of variables that it doesn't declare.
  pub listed : (g x : ℕ) → Captures fs g x ↔ ((¬ Declares fs g x) × (NamesVar fs g x ⊎ CapturesWithin fs g x))
