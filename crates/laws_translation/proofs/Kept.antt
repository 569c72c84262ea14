-- What is left once annotations and columns are forgotten.
use Rattle.std.proofs.Common.{◌≡◌, map, None, false}
use Rattle.dart_ir.specs.Ty.{dynamic}
use Rattle.core_program.specs.Core as c
use Rattle.core_program.specs.Program as p
use Rattle.core_program.specs.Alike as alike
use Rattle.core_program.specs.Stripped as stripped
use Rattle.translation.specs.Surroundings.{Text, Core, Tables}
use Rattle.translation.specs.Walk.{Reason, left_out, not_constant, bad_label, bad_constructor, bad_switch, bad_word, too_large, Asked, Entry, Inside, Made, State, Went, Walk, went, refused}
use Rattle.translation.specs.Types.{PlacedName}
use Rattle.translation.specs.References.{Arguments, Bound, local, outer, alias_behind, Reference, evaluated, named, member, item, super_member, super_item}
pub use Rattle.core_program.specs.Alike.{line}

unfoldable pub core : Core → Core
core x = alike.core x

unfoldable pub cores : c.Cores Text → c.Cores Text
cores x = alike.cores x

unfoldable pub part : c.Part Text → c.Part Text
part x = alike.part x

unfoldable pub test : c.Test Text → c.Test Text
test x = alike.test x

unfoldable pub handler : c.Handler Text → c.Handler Text
handler x = alike.handler x

unfoldable pub case : c.Case Text → c.Case Text
case x = alike.case x

abbrev pub word : PlacedName → PlacedName
word x = record { place = line x.place; text = x.text }

abbrev pub asked : Asked → Asked
asked x = record { of = stripped.asked x.annotated x.of; annotated = false }

abbrev pub site : p.Site Text → p.Site Text
site x = alike.site (stripped.site x)

abbrev pub entry : Entry → Entry
entry x = record { name = x.name; variable = x.variable; asked = asked x.asked; is_final = x.is_final }

abbrev pub arguments : Arguments → Arguments
arguments x = record { forms = map core x.forms; names = x.names }

abbrev pub bound : Bound → Bound
bound (local e) = local (entry e)
bound (outer of_this meaning) = outer of_this meaning
bound (alias_behind at) = alias_behind (line at)

abbrev pub reference : Reference → Reference
reference (evaluated form) = evaluated (core form)
reference (named x b) = named (word x) (bound b)
reference (member form name) = member (core form) name
reference (item form index) = item (core form) (core index)
reference (super_member name) = super_member name
reference (super_item index) = super_item (core index)

abbrev pub inside : Inside → Inside
inside x = record x { result = asked x.result }

abbrev pub tables : Tables → Tables
tables x = record x { variable_type = λ n. None; alias_type = λ n given. dynamic }

unfoldable pub function_made : p.Function Text → p.Function Text
function_made x = alike.function (stripped.function x)

abbrev pub function : Made (p.Function Text) → Made (p.Function Text)
function x = record { number = x.number; made = function_made x.made }

unfoldable pub static_made : p.Static Text → p.Static Text
static_made x = alike.static x

abbrev pub static : Made (p.Static Text) → Made (p.Static Text)
static x = record { number = x.number; made = static_made x.made }

abbrev pub state : State → State
state x = record x {
  tables = tables x.tables;
  inside = inside x.inside;
  scopes = map entry x.scopes;
  sites = map site x.sites;
  functions = map function x.functions;
  statics = map static x.statics;
}

abbrev pub reason : Reason → Reason
reason (left_out place feature) = left_out (line place) feature
reason (not_constant place) = not_constant (line place)
reason (bad_label place) = bad_label (line place)
reason (bad_constructor place) = bad_constructor (line place)
reason (bad_switch place) = bad_switch (line place)
reason (bad_word place) = bad_word (line place)
reason (too_large place) = too_large (line place)

-- how a walk ends, with its answer seen by f
unfoldable pub ends : {A : Type 0} → (A → A) → Went A → Went A
ends f (went a st) = went (f a) (state st)
ends f (refused why) = refused (reason why)

-- two walks of which one goes as the other
abbrev pub Goes : {A : Type 0} → (A → A) → Walk A → Walk A → Type 0
Goes f w' w = (s : State) → w' (state s) ≡ ends f (w s)
