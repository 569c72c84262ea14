-- The names of what a program declares; of a number that is none, no text.
use Rattle.std.specs.Prelude.{ℕ, List, [], ◌++◌, codes, Option, Some, None, slice_get}
use Rattle.std.specs.Fmt.{decimal}
use Rattle.std.specs.List.{flat_map}
use Rattle.dart_ir.specs.declared.class.ClassInfo.{ClassInfo}
use Rattle.dart_ir.specs.declared.number.ClassId.{ClassId}
use Rattle.core_program.specs.ProgramView.{text_at}
use Rattle.core_program.specs.declared.program.CoreProgram.{CoreProgram}
use Rattle.core_program.specs.declared.program.Function.{Function}
use Rattle.core_program.specs.declared.program.StaticVar.{StaticVar}
use Rattle.core_text.specs.Line.{word}

abbrev pub name : CoreProgram → ℕ → List ℕ
name x n = text_at x.names n

abbrev pub class_in : CoreProgram → Option ClassInfo → List ℕ
class_in x None = []
class_in x (Some class) = name x class.name.0

abbrev pub class_name : CoreProgram → ℕ → List ℕ
class_name x k = class_in x (slice_get x.classes.classes.items k)

abbrev pub function_in : CoreProgram → Option Function → List ℕ
function_in x None = []
function_in x (Some function) = name x function.name.0

abbrev pub function_name : CoreProgram → ℕ → List ℕ
function_name x f = function_in x (slice_get x.functions.items f)

abbrev pub static_in : CoreProgram → Option StaticVar → List ℕ
static_in x None = []
static_in x (Some variable) = name x variable.name.0

abbrev pub static_name : CoreProgram → ℕ → List ℕ
static_name x d = static_in x (slice_get x.statics.items d)

-- the name of a class, where there is one
abbrev pub class_or_nothing : CoreProgram → Option ClassId → List ℕ
class_or_nothing x None = []
class_or_nothing x (Some class) = class_name x class.0

abbrev pub owner_in : CoreProgram → Option Function → List ℕ
owner_in x None = []
owner_in x (Some function) = class_or_nothing x function.class

-- the name of the class that a function is declared in
abbrev pub owner_name : CoreProgram → ℕ → List ℕ
owner_name x f = owner_in x (slice_get x.functions.items f)

-- the number of a function, and its name if it has one
abbrev pub function : CoreProgram → ℕ → List ℕ
function x f = decimal f ++ word (function_name x f)

abbrev pub static : CoreProgram → ℕ → List ℕ
static x d = decimal d ++ word (static_name x d)

-- each behind a blank
abbrev pub names : CoreProgram → List ℕ → List ℕ
names x ns = flat_map (λ n. codes " " ++ name x n) ns
