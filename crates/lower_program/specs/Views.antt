-- What contracts see of units, programs and answers.
use Rattle.std.specs.Prelude.{◌≡◌, ℕ, List, [], ◌∷◌, map, Option, None, Some}
use Rattle.std.specs.Global.{Vec}
use Rattle.dart_ir.specs.declared.class.Classes.{Classes}
use Rattle.dart_ir.specs.declared.class.MemberInfo.{MemberInfo}
use Rattle.dart_ir.specs.declared.number.DeclId.{DeclId}
use Rattle.dart_tree.specs.UnitView as unit_view
use Rattle.core_program.specs.Named as with_names
use Rattle.core_program.specs.Program as c
use Rattle.core_program.specs.ProgramView as pv
use Rattle.core_program.specs.declared.program.Function.{Function}
use Rattle.core_program.specs.declared.program.StaticVar.{StaticVar}
use Rattle.translation.specs.Applications.{added}
use Rattle.translation.specs.ClassBodies as b
use Rattle.translation.specs.Program as p
use Rattle.translation.specs.Surroundings.{Text}
use Rattle.translation.specs.Walk as w
use Rattle.lower_leaf.specs.Around.{Around}
use Rattle.lower_leaf.specs.Seen.{function, static, site}
use Rattle.lower_leaf.specs.declared.fault.LowerFault.{LowerFault}
use Rattle.lower_leaf.specs.declared.fault.LowerFault.TheVariants as f
use Rattle.lower_leaf.specs.declared.meaning.Outer.{Outer}
use Rattle.lower_body.specs.Views.{class_made}
use Rattle.lower_body.specs.declared.class.ClassMade.{ClassMade}
use Rattle.lower_mixin.specs.Views.{class_info}
use Rattle.lower_program.specs.declared.declaration.SourceUnit.{SourceUnit}
use Rattle.lower_program.specs.declared.program.Program.{Program}
use Rattle.lower_program.specs.declared.program.Outcome.{Outcome}
use Rattle.lower_program.specs.declared.program.Outcome.TheVariants as o
use Rattle.lower_program.specs.declared.reason.Reason.{Reason}
use Rattle.lower_program.specs.declared.reason.Reason.TheVariants as r

-- ---- units

-- where the names of a library are looked up
abbrev pub library_outer : ℕ → Outer
library_outer n = record { library = n; class = None }

abbrev pub source_unit : Around → SourceUnit → p.SourceUnit
source_unit a x = record {
  names = a.names (library_outer x.library);
  declarations = map unit_view.decl x.declarations.now.items;
}

abbrev pub all_made : Around → Vec ClassMade → List b.ClassMade
all_made a xs = map (class_made a) xs.items

-- the class that a declaration is, if it is one
abbrev pub option_made : Around → Option ClassMade → List b.ClassMade
option_made a None = []
option_made a (Some x) = class_made a x ∷ []

-- ---- programs

abbrev pub member_info : Around → MemberInfo → c.Member Text
member_info a x = with_names.member (pv.text_at a.texts) (pv.member x)

abbrev pub given : Around → List SourceUnit → Classes → Vec Text → DeclId → p.Given
given a units classes files main = record {
  units = map (source_unit a) units;
  first_names = a.names (library_outer 0);
  tables = a.tables;
  files = files.items;
  classes = map (class_info a) classes.classes.items;
  members = map (member_info a) classes.members.items;
  function_class = classes.function.0;
  main = main.0;
}

-- what a declaration is as a function, and as a variable
abbrev pub function_slot : Around → Option Function → c.Function Text
function_slot a None = p.no_function
function_slot a (Some x) = function a x

abbrev pub static_slot : Around → Option StaticVar → c.Static Text
static_slot a None = p.no_static
static_slot a (Some x) = static a x

abbrev pub program : Around → Program → c.Program Text
program a x = record {
  units = x.units.items;
  classes = map (class_info a) x.classes.classes.items;
  members = map (member_info a) x.classes.members.items;
  function_class = x.classes.function.0;
  functions = map (function_slot a) x.functions.items;
  statics = map (static_slot a) x.statics.items;
  sites = map (site a) x.sites.items;
  literals = x.literals.items;
  constants = [];
  main = x.main.0;
}

abbrev pub reason : Reason → w.Reason
reason (r.LeftOut place feature) = w.left_out place feature
reason (r.NotConstant place) = w.not_constant place
reason (r.BadLabel place) = w.bad_label place
reason (r.BadConstructor place) = w.bad_constructor place
reason (r.BadSwitch place) = w.bad_switch place
reason (r.BadWord place) = w.bad_word place
reason (r.TooLarge place) = w.too_large place

abbrev pub outcome : Around → Outcome → p.Answer
outcome a (o.Accepted x) = p.accepted (program a x)
outcome a (o.Rejected why) = p.rejected (reason why)
outcome a o.NotBuilt = p.not_built

-- the reason that a fault is
abbrev pub IsReason : LowerFault → w.Reason → Type 0
IsReason (f.LeftOut place feature) why = why ≡ w.left_out place feature
IsReason (f.NotConstant place) why = why ≡ w.not_constant place
IsReason (f.BadLabel place) why = why ≡ w.bad_label place
IsReason (f.BadConstructor place) why = why ≡ w.bad_constructor place
IsReason (f.BadSwitch place) why = why ≡ w.bad_switch place
IsReason (f.BadWord place) why = why ≡ w.bad_word place
IsReason (f.TooLarge place) why = why ≡ w.too_large place
IsReason f.Memory why = ⊥

-- ---- the walk over a program

abbrev pub walk_of : List p.SourceUnit → List (c.Class Text) → w.Walk ℕ
walk_of units classes st = w.on (p.units units st) (λ made st. added 0 classes made [] st)

-- the state before anything is made
abbrev pub first_state : Around → w.State
first_state a = p.start (record {
  units = [];
  first_names = a.names (library_outer 0);
  tables = a.tables;
  files = [];
  classes = [];
  members = [];
  function_class = 0;
  main = 0;
})

abbrev pub program_of : Around → Classes → Vec Text → DeclId → w.State → c.Program Text
program_of a classes files main st = p.program (given a [] classes files main) st

abbrev pub answer_of : p.Given → p.Answer
answer_of x = p.answer x (p.walk x (p.start x))
