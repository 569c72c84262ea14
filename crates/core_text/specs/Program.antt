-- Whole programs.
use Rattle.std.specs.Prelude.{ℕ, ◌+◌, List, [], ◌∷◌, ◌++◌, ◌&&◌, ◌||◌, not, codes, Option, Some, None, Bool, true, false, nat_eq, nat_lt, if◌then◌else◌, slice_get}
use Rattle.dart_ir.specs.declared.class.ClassInfo.{ClassInfo}
use Rattle.dart_ir.specs.declared.number.ClassId.{ClassId}
use Rattle.core_program.specs.Core as c
use Rattle.core_program.specs.View as v
use Rattle.core_program.specs.declared.program.CoreProgram.{CoreProgram}
use Rattle.core_program.specs.declared.program.Function.{Function}
use Rattle.core_program.specs.declared.program.FunctionKind.{FunctionKind}
use Rattle.core_program.specs.declared.program.FunctionKind.TheVariants as kind
use Rattle.core_program.specs.declared.program.StaticVar.{StaticVar}
use Rattle.core_text.specs.declared.program.Choice.{Choice}
use Rattle.core_text.specs.declared.program.Choice.TheVariants as choice
use Rattle.core_text.specs.Name.{function as reference, name}
use Rattle.core_text.specs.Declaration.{function, variable}

-- a part that stands in another unit than the root
abbrev pub is_elsewhere : c.Part ℕ → Bool
is_elsewhere c.missing = false
is_elsewhere (c.given (c.at place form)) = not (nat_eq place.unit 0)

-- How many declarations the root has: the first unit behind it is `dart:core`, whose first declaration is a function with a body.
abbrev pub root_count : List Function → ℕ
root_count [] = 0
root_count (f ∷ fs) = if is_elsewhere (v.part f.body) then 0 else root_count fs + 1

abbrev pub stands_in_root : Option ClassInfo → Bool
stands_in_root None = false
stands_in_root (Some class) = nat_eq class.place.unit 0

abbrev pub is_called : Option ClassInfo → ℕ → Bool
is_called None n = false
is_called (Some class) n = nat_eq class.name.0 n

-- Whether a function stands in the root, which has so many declarations: what translation adds is a member of a class.
abbrev pub is_in_root : CoreProgram → ℕ → ℕ → Option ClassId → Bool
is_in_root x count n None = nat_lt n count
is_in_root x count n (Some class) = stands_in_root (slice_get x.classes.classes.items class.0)

abbrev pub is_member_of : CoreProgram → ℕ → Option ClassId → Bool
is_member_of x n None = false
is_member_of x n (Some class) = is_called (slice_get x.classes.classes.items class.0) n

abbrev pub is_chosen : CoreProgram → Choice → ℕ → ℕ → Function → Bool
is_chosen x choice.Root count n f = is_in_root x count n f.class
is_chosen x (choice.Named named) count n f = nat_eq f.name.0 named.0 || is_member_of x named.0 f.class

abbrev pub is_function : FunctionKind → Bool
is_function kind.Absent = false
is_function other = true

abbrev pub is_shown : CoreProgram → Choice → ℕ → ℕ → Function → Bool
is_shown x chosen count n f = is_function f.kind && is_chosen x chosen count n f

-- What is no variable has no name.
abbrev pub is_variable : List ℕ → Bool
is_variable [] = false
is_variable (first ∷ rest) = true

abbrev pub is_chosen_variable : Choice → ℕ → ℕ → StaticVar → Bool
is_chosen_variable choice.Root count n s = nat_lt n count
is_chosen_variable (choice.Named named) count n s = nat_eq s.name.0 named.0

abbrev pub is_variable_shown : CoreProgram → Choice → ℕ → ℕ → StaticVar → Bool
is_variable_shown x chosen count n s = is_variable (name x s.name.0) && is_chosen_variable chosen count n s

unfoldable pub shown_function : CoreProgram → Choice → ℕ → ℕ → Function → List ℕ
shown_function x chosen count n f = if is_shown x chosen count n f then function x n f else []

unfoldable pub shown_variable : CoreProgram → Choice → ℕ → ℕ → StaticVar → List ℕ
shown_variable x chosen count n s = if is_variable_shown x chosen count n s then variable x n s else []

-- those that are shown, the first having the number n, where the root has so many declarations
abbrev pub functions : CoreProgram → Choice → ℕ → ℕ → List Function → List ℕ
functions x chosen count n [] = []
functions x chosen count n (f ∷ fs) = shown_function x chosen count n f ++ functions x chosen count (n + 1) fs

abbrev pub variables : CoreProgram → Choice → ℕ → ℕ → List StaticVar → List ℕ
variables x chosen count n [] = []
variables x chosen count n (s ∷ ss) = shown_variable x chosen count n s ++ variables x chosen count (n + 1) ss

-- the function with which a program starts, the functions and then the variables that are shown
abbrev pub program_text : CoreProgram → Choice → List ℕ
program_text x chosen = codes "main " ++ (reference x x.main.0 ++ (codes "\n" ++
    (functions x chosen (root_count x.functions.items) 0 x.functions.items ++
    variables x chosen (root_count x.functions.items) 0 x.statics.items)))
