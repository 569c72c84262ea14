-- What is asked of a form by itself, before it is entered.
use Rattle.std.specs.Prelude.{ℕ, Bool, true, false, Option, Some, None}
use Rattle.dart_ir.specs.declared.value.Value.{Value}
use Rattle.core_program.specs.Core.{Core, Form, Leaf, Cores, Part}
use Rattle.core_program.specs.Core as c

abbrev pub is_given : Part ℕ → Bool
is_given c.missing = false
is_given (c.given x) = true

abbrev pub form_of : Core ℕ → Form ℕ
form_of (c.at place x) = x

abbrev pub is_block : Form ℕ → Bool
is_block (c.block forms) = true
is_block form = false

-- a body that falls off its end
abbrev pub is_block_part : Part ℕ → Bool
is_block_part c.missing = false
is_block_part (c.given x) = is_block (form_of x)

-- A loop takes a step before each test of its condition and none beside, and a statement with a label takes none of its own.
abbrev pub takes_step : Form ℕ → Bool
takes_step (c.loop target xs condition update body) = false
takes_step (c.labelled target body) = false
takes_step form = true

abbrev pub is_closure_leaf : Leaf ℕ → Bool
is_closure_leaf (c.closure f) = true
is_closure_leaf leaf = false

-- the function of a local function declaration, whose variable it may name
abbrev pub is_closure : Form ℕ → Bool
is_closure (c.leaf x) = is_closure_leaf x
is_closure form = false

abbrev pub constant_leaf : Leaf ℕ → Option Value
constant_leaf (c.constant v) = Some v
constant_leaf leaf = None

-- the value of a constant piece of a string with parts, which is no form and takes no step
abbrev pub constant_of : Form ℕ → Option Value
constant_of (c.leaf x) = constant_leaf x
constant_of form = None

abbrev pub is_join : c.Job ℕ → Bool
is_join c.join = true
is_join job = false

-- the statements of a case are none
abbrev pub has_no_forms : Form ℕ → Bool
has_no_forms (c.block c.no_cores) = true
has_no_forms form = false
