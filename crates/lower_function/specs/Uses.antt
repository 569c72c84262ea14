-- What the forms of a body do with variables.
use Rattle.std.specs.Prelude.{ℕ, List, [], ◌∷◌, ◌++◌, map, nat_eq, Option, Some, None, Bool, true, false, ◌||◌, if◌then◌else◌}
use Rattle.std.specs.List.{list_any, flat_map}
use Rattle.std.specs.Global.{Vec}
use Rattle.core_program.specs.Captured.{form_of}
use Rattle.core_program.specs.Core as c
use Rattle.core_program.specs.Named as with_names
use Rattle.core_program.specs.Program as p
use Rattle.core_program.specs.View as v
use Rattle.core_program.specs.ProgramView.{text_at}
use Rattle.core_program.specs.declared.form.Form.{Form}
use Rattle.core_program.specs.declared.form.Attempt.{Attempt}
use Rattle.core_program.specs.declared.form.Handler.{Handler}
use Rattle.core_program.specs.declared.form.Case.{Case}
use Rattle.core_program.specs.declared.form.Test.{Test}
use Rattle.core_program.specs.declared.program.Parameter.{Parameter}
use Rattle.translation.specs.Surroundings.{Text, Core}
use Rattle.translation.specs.Walk as w
use Rattle.lower_leaf.specs.Around.{Around}
use Rattle.lower_leaf.specs.Seen.{numbered_function}
use Rattle.lower_leaf.specs.declared.state.NumberedFunction.{NumberedFunction}
use Rattle.lower_function.specs.declared.uses.Use.{Use}
use Rattle.lower_function.specs.declared.uses.Use.TheVariants as u

-- ---- what contracts see of the forms that are looked through

unfoldable pub form : Around → Form → c.Form Text
form a x = with_names.form (text_at a.texts) (v.form x)

unfoldable pub attempt : Around → Attempt → c.Form Text
attempt a x = with_names.form (text_at a.texts) (v.attempt x)

unfoldable pub handler : Around → Handler → c.Handler Text
handler a x = with_names.handler (text_at a.texts) (v.handler x)

unfoldable pub test : Around → Test → c.Test Text
test a x = with_names.test (text_at a.texts) (v.test x)

unfoldable pub case : Around → Case → c.Case Text
case a x = with_names.case (text_at a.texts) (v.case x)

abbrev pub handlers : Around → List Handler → c.Handlers Text
handlers a xs = c.handlers (map (handler a) xs)

abbrev pub cases : Around → List Case → c.Cases Text
cases a xs = c.cases (map (case a) xs)

abbrev pub functions_of : Around → Vec NumberedFunction → List (w.Made (p.Function Text))
functions_of a xs = map (numbered_function a) xs.items

-- ---- uses

abbrev pub takes_of : List ℕ → List Use
takes_of captures = map u.Takes captures

abbrev pub taken_of : ℕ → w.Made (p.Function Text) → List Use
taken_of n f = if nat_eq f.number n then takes_of f.made.captures else []

abbrev pub leaf_uses : List (w.Made (p.Function Text)) → c.Leaf Text → List Use
leaf_uses functions (c.read x) = u.Names x ∷ []
leaf_uses functions (c.closure n) = flat_map (taken_of n) functions
leaf_uses functions other = []

abbrev pub unary_uses : c.Unary Text → List Use
unary_uses (c.var x) = u.Declares x ∷ []
unary_uses (c.write x) = u.Names x ∷ []
unary_uses other = []

abbrev pub handler_uses : Option ℕ → List Use
handler_uses None = []
handler_uses (Some x) = u.Declares x ∷ []

abbrev pub handlers_uses : c.Handlers Text → List Use
handlers_uses c.no_handlers = []
handlers_uses (c.handler_more (c.handler test exception trace body) more) =
    (handler_uses exception ++ handler_uses trace) ++ handlers_uses more

abbrev pub form_uses : List (w.Made (p.Function Text)) → c.Form Text → List Use
form_uses functions (c.leaf of) = leaf_uses functions of
form_uses functions (c.unary of operand) = unary_uses of
form_uses functions (c.let_in x value body) = u.Declares x ∷ []
form_uses functions (c.try body all last) = handlers_uses all
form_uses functions other = []

abbrev pub core_uses : List (w.Made (p.Function Text)) → Core → List Use
core_uses functions x = form_uses functions (form_of x)

-- of several forms, each by itself
abbrev pub uses_in : List (w.Made (p.Function Text)) → List Core → List Use
uses_in functions xs = flat_map (core_uses functions) xs

abbrev pub declares : ℕ → Use → Bool
declares x (u.Declares y) = nat_eq x y
declares x other = false

abbrev pub names : ℕ → Use → Bool
names x (u.Names y) = nat_eq x y
names x other = false

abbrev pub takes : ℕ → Use → Bool
takes x (u.Takes y) = nat_eq x y
takes x other = false

abbrev pub is_declared : ℕ → List Parameter → List Use → Bool
is_declared x parameters uses = list_any (λ q. nat_eq q.var x) parameters || list_any (declares x) uses

abbrev pub one_if : Bool → ℕ → List ℕ
one_if true x = x ∷ []
one_if false x = []
