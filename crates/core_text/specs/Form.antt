-- Forms, each on a line of its own, and the forms in it on the lines below, a level deeper.
use Rattle.std.specs.Prelude.{ℕ, List, [], ◌++◌, codes, Option, Some, None}
use Rattle.dart_base.specs.declared.place.Place.{Place}
use Rattle.dart_ir.specs.declared.value.Value.{Value}
use Rattle.core_program.specs.declared.program.CoreProgram.{CoreProgram}
use Rattle.core_program.specs.Core as c
use Rattle.core_text.specs.Line.{after_blank, deeper, margin, place}
use Rattle.core_text.specs.Constant.{constant}
use Rattle.core_text.specs.Head.{head, typed}

-- the line of a form, with its place
unfoldable pub form_line : CoreProgram → ℕ → Place → c.Form ℕ → List ℕ
form_line x blanks at form = margin blanks ++ (head x form ++ (codes " @" ++ (place x at ++ codes "\n")))

-- what a handler takes
abbrev pub test : CoreProgram → c.Test ℕ → List ℕ
test x c.everything = codes "catch"
test x (c.on of) = typed x (codes "on ") of
test x (c.malformed form) = codes "on malformed"

abbrev pub variable : List ℕ → Option ℕ → List ℕ
variable text None = []
variable text (Some n) = text ++ after_blank n

unfoldable pub handler_line : CoreProgram → ℕ → c.Test ℕ → Option ℕ → Option ℕ → List ℕ
handler_line x blanks taken exception trace = margin blanks ++ (test x taken ++
    (variable (codes " exception") exception ++ (variable (codes " trace") trace ++ codes "\n")))

abbrev pub case_value : CoreProgram → Option Value → List ℕ
case_value x None = codes "default\n"
case_value x (Some value) = codes "case " ++ (constant x value ++ codes "\n")

unfoldable pub case_line : CoreProgram → ℕ → Option Value → List ℕ
case_line x blanks value = margin blanks ++ case_value x value

-- the line that stands for a part that is missing
abbrev pub missing : ℕ → List ℕ
missing blanks = margin blanks ++ codes "none\n"

abbrev mutual
  pub core : CoreProgram → ℕ → c.Core ℕ → List ℕ
  core x blanks (c.at place form) = form_line x blanks place form ++ parts x (deeper blanks) form

  -- the forms in a form
  pub parts : CoreProgram → ℕ → c.Form ℕ → List ℕ
  parts x blanks (c.leaf one) = []
  parts x blanks (c.type_literal of) = []
  parts x blanks (c.unary one operand) = core x blanks operand
  parts x blanks (c.binary one first second) = core x blanks first ++ core x blanks second
  parts x blanks (c.row one operands ns) = cores x blanks operands
  parts x blanks (c.let_in n value body) = core x blanks value ++ core x blanks body
  parts x blanks (c.block forms) = cores x blanks forms
  parts x blanks (c.choice condition first second) = core x blanks condition ++ (part x blanks first ++ part x blanks second)
  parts x blanks (c.new k f types operands ns) = cores x blanks operands
  parts x blanks (c.list types items) = cores x blanks items
  parts x blanks (c.is_type value of) = core x blanks value
  parts x blanks (c.as_type value of) = core x blanks value
  parts x blanks (c.loop target copies condition update body) =
      part x blanks condition ++ (part x blanks update ++ part x blanks body)
  parts x blanks (c.return value) = part x blanks value
  parts x blanks (c.try body handled last) = core x blanks body ++ (handlers x blanks handled ++ part x blanks last)
  parts x blanks (c.switch target value choices) = core x blanks value ++ cases x blanks choices
  parts x blanks (c.labelled target body) = core x blanks body

  pub cores : CoreProgram → ℕ → c.Cores ℕ → List ℕ
  cores x blanks c.no_cores = []
  cores x blanks (c.core_more one more) = core x blanks one ++ cores x blanks more

  pub part : CoreProgram → ℕ → c.Part ℕ → List ℕ
  part x blanks c.missing = missing blanks
  part x blanks (c.given form) = core x blanks form

  pub handlers : CoreProgram → ℕ → c.Handlers ℕ → List ℕ
  handlers x blanks c.no_handlers = []
  handlers x blanks (c.handler_more one more) = handler x blanks one ++ handlers x blanks more

  pub handler : CoreProgram → ℕ → c.Handler ℕ → List ℕ
  handler x blanks (c.handler taken exception trace body) =
      handler_line x blanks taken exception trace ++ (test_part x (deeper blanks) taken ++ core x (deeper blanks) body)

  -- the form that stands in place of a test
  pub test_part : CoreProgram → ℕ → c.Test ℕ → List ℕ
  test_part x blanks c.everything = []
  test_part x blanks (c.on of) = []
  test_part x blanks (c.malformed form) = core x blanks form

  pub cases : CoreProgram → ℕ → c.Cases ℕ → List ℕ
  cases x blanks c.no_cases = []
  cases x blanks (c.case_more one more) = case x blanks one ++ cases x blanks more

  pub case : CoreProgram → ℕ → c.Case ℕ → List ℕ
  case x blanks (c.case value body) = case_line x blanks value ++ core x (deeper blanks) body
