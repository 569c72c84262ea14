-- Functions and variables.
use Rattle.std.specs.Prelude.{ℕ, List, [], ◌++◌, codes, Option, Some, None, Bool, true, false}
use Rattle.std.specs.List.{flat_map}
use Rattle.dart_ir.specs.Ty.{function_ty}
use Rattle.dart_ir.specs.declared.kind.Shape.{Shape}
use Rattle.dart_ir.specs.declared.kind.Shape.TheVariants as shape
use Rattle.dart_ir.specs.declared.number.ClassId.{ClassId}
use Rattle.dart_ir.specs.declared.value.Value.{Value}
use Rattle.core_program.specs.View as v
use Rattle.core_program.specs.declared.program.CoreProgram.{CoreProgram}
use Rattle.core_program.specs.declared.program.Function.{Function}
use Rattle.core_program.specs.declared.program.FunctionKind.{FunctionKind}
use Rattle.core_program.specs.declared.program.FunctionKind.TheVariants as kind
use Rattle.core_program.specs.declared.program.Parameter.{Parameter}
use Rattle.core_program.specs.declared.program.StaticVar.{StaticVar}
use Rattle.core_text.specs.Line.{after_blank, numbers, word}
use Rattle.core_text.specs.Name.{class_or_nothing, name}
use Rattle.core_text.specs.Constant.{constant}
use Rattle.core_text.specs.Types.{type_text}
use Rattle.core_text.specs.Head.{site}
use Rattle.core_text.specs.Form.{part}

abbrev pub kind_text : FunctionKind → List ℕ
kind_text kind.Plain = codes "function"
kind_text kind.Inner = codes "inner"
kind_text kind.Generative = codes "constructor"
kind_text kind.Factory = codes "factory"
kind_text kind.Absent = codes "absent"

-- A member of a class goes by its class, and any other function by its number, a function inside one too.
abbrev pub member_key : FunctionKind → ℕ → List ℕ
member_key kind.Inner n = after_blank n
member_key other n = []

abbrev pub key : Option ClassId → FunctionKind → ℕ → List ℕ
key None is n = after_blank n
key (Some class) is n = member_key is n

-- what a function is, its number or class, and its name
unfoldable pub function_line : CoreProgram → ℕ → Function → List ℕ
function_line x n f = kind_text f.kind ++ (key f.class f.kind n ++ (word (class_or_nothing x f.class) ++ (word (name x f.name.0) ++ codes "\n")))

-- how many variables are numbered, and which of them have cells
unfoldable pub slots : ℕ → List ℕ → List ℕ
slots vars cells = (codes "  variables" ++ after_blank vars) ++ (codes " cells" ++ numbers cells)

unfoldable pub signature : CoreProgram → Function → List ℕ
signature x f = codes "  type " ++ (type_text x (function_ty f.signature) ++ codes "\n")

-- how a parameter takes its argument, and its value where it is given none
abbrev pub shape_text : CoreProgram → Shape → Value → List ℕ
shape_text x shape.Required value = codes " required"
shape_text x shape.Optional value = codes " optional " ++ constant x value
shape_text x shape.Named value = codes " named " ++ constant x value

unfoldable pub parameter : CoreProgram → Parameter → List ℕ
parameter x q = (codes "  parameter" ++ after_blank q.var) ++ (word (name x q.name.0) ++
    (shape_text x q.shape q.default ++ (site x q.site.0 ++ codes "\n")))

abbrev pub parameters : CoreProgram → List Parameter → List ℕ
parameters x qs = flat_map (parameter x) qs

unfoldable pub function_lines : CoreProgram → Function → List ℕ
function_lines x f = slots f.vars f.cells.items ++ (codes " captures" ++ (numbers f.captures.items ++
    (codes "\n" ++ (signature x f ++ parameters x f.parameters.items))))

-- a function behind an empty line
unfoldable pub function : CoreProgram → ℕ → Function → List ℕ
function x n f = codes "\n" ++ (function_line x n f ++ (function_lines x f ++ part x 2 (v.part f.body)))

abbrev pub variable_word : Bool → List ℕ
variable_word true = codes "final"
variable_word false = codes "var"

unfoldable pub variable_line : CoreProgram → ℕ → StaticVar → List ℕ
variable_line x n s = variable_word s.is_final ++ (after_blank n ++ (word (name x s.name.0) ++ codes "\n"))

-- a variable behind an empty line
unfoldable pub variable : CoreProgram → ℕ → StaticVar → List ℕ
variable x n s = codes "\n" ++ (variable_line x n s ++ (slots s.vars s.cells.items ++ (codes "\n" ++ part x 2 (v.part s.init))))
