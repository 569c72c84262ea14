-- The last values of a stack, and which functions are factories.
use Rattle.core_program.specs.declared.program.FunctionKind.{FunctionKind}
use Rattle.core_program.specs.declared.program.FunctionKind.TheVariants as kind
use Rattle.std.specs.Prelude.{ℕ, ◌-◌, List, length, take, drop, Bool, true, false}

-- the last n
abbrev pub last_of : {A : Type 0} → ℕ → List A → List A
last_of n xs = drop (length xs - n) xs

-- all but the last n
abbrev pub but_last : {A : Type 0} → ℕ → List A → List A
but_last n xs = take (length xs - n) xs

-- maybe without the first
abbrev pub past : {A : Type 0} → Bool → List A → List A
past true xs = drop 1 xs
past false xs = xs

abbrev pub is_factory_kind : FunctionKind → Bool
is_factory_kind kind.Factory = true
is_factory_kind other = false
