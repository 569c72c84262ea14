-- What contracts see of the parts of statements.
use Rattle.std.specs.Prelude.{ℕ, List, [], ◌∷◌, ◌++◌, map, Option, Some, None, false}
use Rattle.std.specs.List.{flat_map}
use Rattle.std.specs.Global.{Vec}
use Rattle.dart_base.specs.declared.place.Place.{Place}
use Rattle.core_program.specs.Core as c
use Rattle.core_program.specs.Named as with_names
use Rattle.core_program.specs.ProgramView.{text_at}
use Rattle.core_program.specs.View as v
use Rattle.core_program.specs.declared.form.Case.{Case}
use Rattle.core_program.specs.declared.form.Handler.{Handler}
use Rattle.core_program.specs.declared.form.Test.{Test}
use Rattle.core_program.specs.declared.form.Way.TheVariants as way
use Rattle.dart_ir.specs.declared.value.Value.{Value}
use Rattle.translation.specs.References as r
use Rattle.translation.specs.Statements as s
use Rattle.translation.specs.Surroundings.{Text, Core}
use Rattle.translation.specs.Walk as w
use Rattle.lower_leaf.specs.Around.{Around}
use Rattle.lower_leaf.specs.Forms.{core, part}
use Rattle.lower_clause.specs.declared.case.CaseKind.{CaseKind}
use Rattle.lower_clause.specs.declared.case.CaseKind.TheVariants as k
use Rattle.lower_clause.specs.declared.handler.Caught.{Caught}
use Rattle.lower_clause.specs.declared.handler.Handled.{Handled}

unfoldable pub case : Around → Case → c.Case Text
case a x = with_names.case (text_at a.texts) (v.case x)

abbrev pub all_cases : Around → Vec Case → List (c.Case Text)
all_cases a xs = map (case a) xs.items

unfoldable pub handler : Around → Handler → c.Handler Text
handler a x = with_names.handler (text_at a.texts) (v.handler x)

abbrev pub all_handlers : Around → Vec Handler → List (c.Handler Text)
all_handlers a xs = map (handler a) xs.items

unfoldable pub handler_test : Around → Test → c.Test Text
handler_test a x = with_names.test (text_at a.texts) (v.test x)

abbrev pub case_kind : CaseKind → s.CaseKind
case_kind k.Missing = s.no_kind
case_kind k.Integers = s.integers
case_kind k.Strings = s.strings

abbrev pub option_value : Option Value → Option Value
option_value x = x

abbrev pub caught : Around → Caught → s.Caught
caught a x = record { exception = x.exception; trace = x.trace; body = core a x.body }

abbrev pub handled : Around → Handled → s.TryParts
handled a x = record { handlers = all_handlers a x.handlers; last = part a x.last }

abbrev pub option_number : Option ℕ → Option ℕ
option_number x = x

-- ---- branches

abbrev pub option_part : Option Core → c.Part Text
option_part None = c.missing
option_part (Some form) = c.given form

-- ---- loops

abbrev pub option_list : Option ℕ → List ℕ
option_list None = []
option_list (Some x) = x ∷ []

abbrev pub unary_var : c.Unary Text → List ℕ
unary_var (c.var x) = x ∷ []
unary_var other = []

abbrev pub for_block : Place → ℕ → List Core → c.Part Text → List Core → c.Part Text → Core
for_block place number forms test steps body = r.block place
    (forms ++ s.loop place number (flat_map s.var_of forms) test (s.update_part place steps) body ∷ [])

abbrev pub turn_block : Place → Core → c.Part Text → Core
turn_block place first rest = r.block place (first ∷ s.forms_of rest)

-- the step of a `do`
abbrev pub left_unless : Place → ℕ → Core → Core
left_unless place number test =
    c.at place (c.choice test c.missing (c.given (c.at place (c.leaf (c.jump way.Break number)))))

-- ---- switch

abbrev pub case_core : Place → Option Value → List Core → c.Case Text
case_core place value forms = c.case value (r.block place forms)

abbrev pub switch_core : Place → ℕ → Core → List (c.Case Text) → Core
switch_core place target value cases = c.at place (c.switch target value (c.cases cases))

-- ---- try

abbrev pub try_core : Place → Core → s.TryParts → Core
try_core place body all = c.at place (c.try body (c.handlers all.handlers) all.last)

abbrev pub part_or : c.Part Text → c.Part Text → c.Part Text
part_or c.missing later = later
part_or (c.given form) later = c.given form

-- parts of a `try` behind those before them; the first final part counts
abbrev pub handled_behind : s.TryParts → s.TryParts → s.TryParts
handled_behind before more = record { handlers = before.handlers ++ more.handlers; last = part_or before.last more.last }

abbrev pub declared_trace : Option Text → w.Walk (Option ℕ)
declared_trace None st = w.went None st
declared_trace (Some name) st = w.on (w.declared name w.unasked false st) (λ x st. w.went (Some x) st)
