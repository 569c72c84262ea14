-- Means of proof: what the code looks for among the forms of a function.
use Rattle.std.specs.Prelude.{ℕ, List, Option, Some, None, Bool, true, false, ◌||◌, ◌&&◌, slice_get}
use Rattle.core_program.specs.Core.{Core, Form}
use Rattle.core_program.specs.Core as c
use Rattle.core_program.specs.Program.{Function}
use Rattle.core_program.specs.Captured.{declares, function_captures, form_of, any_form, is_parameter}
use Rattle.core_program.specs.declared.captured.Wanted.{Wanted}
use Rattle.core_program.specs.declared.captured.Wanted.TheVariants.{Declaration, Capture}

-- a closure of a function that takes the variable along
abbrev pub leaf_takes : List (Function ℕ) → ℕ → c.Leaf ℕ → Bool
leaf_takes fs x (c.closure h) = function_captures x (slice_get fs h)
leaf_takes fs x other = false

abbrev pub takes : List (Function ℕ) → ℕ → Form ℕ → Bool
takes fs x (c.leaf one) = leaf_takes fs x one
takes fs x other = false

abbrev pub seeks_form : List (Function ℕ) → Wanted → Form ℕ → Bool
seeks_form fs (Declaration x) form = declares x form
seeks_form fs (Capture x) form = takes fs x form

abbrev pub seeks : List (Function ℕ) → Wanted → Core ℕ → Bool
seeks fs wanted core = seeks_form fs wanted (form_of core)

abbrev pub function_shares : List (Function ℕ) → ℕ → Option (Function ℕ) → Bool
function_shares fs x None = false
function_shares fs x (Some f) = (is_parameter x f.parameters || any_form (declares x) f.body) && any_form (takes fs x) f.body

-- the function declares the variable, and a function directly in it takes it along
abbrev pub takes_declared : List (Function ℕ) → ℕ → ℕ → Bool
takes_declared fs f x = function_shares fs x (slice_get fs f)
