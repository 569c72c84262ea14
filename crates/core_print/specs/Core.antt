-- The core of a program whose units are all loaded, with nothing against them, and when it has none (ECMA-408, 10 Classes, 18.4 Scripts).
use Rattle.std.specs.Prelude.{◌≡◌, ◌⊎◌, ℕ, List, Option, None, Some}
use Rattle.dart_base.specs.Names.{AreDistinct}
use Rattle.dart_base.specs.declared.place.Place.{Place}
use Rattle.dart_ir.specs.declared.class.Classes.{Classes}
use Rattle.class_fault.specs.declared.fault.Fault.{Fault}
use Rattle.class_reader.specs.Built.{IsRefusedIn, IsOverlargeIn}
use Rattle.core_program.specs.declared.program.CoreProgram.{CoreProgram}
use Rattle.dart_class.specs.Given.{class_given, source_units}
use Rattle.dart_execute.specs.Execution.{IsCoreOf, IsTableOf}
use Rattle.dart_lower.specs.Given.{given_of}
use Rattle.scope_load.specs.State.{State}
use Rattle.scope_program.specs.Program.{Scoping, IsScoping}
use Rattle.translation.specs.Program as p
use Rattle.translation.specs.Surroundings.{Text}

-- What translation over a table of classes comes to: the core that runs, or none, where it finds a reason or what isn't built.
abbrev pub TranslatesTo : List Text → Classes → p.Answer → Option CoreProgram → Type 0
TranslatesTo texts k (p.accepted of) (Some x) = IsCoreOf texts k of x
TranslatesTo texts k (p.accepted of) None = ⊥
TranslatesTo texts k (p.rejected why) (Some x) = ⊥
TranslatesTo texts k (p.rejected why) None = Unit {0}
TranslatesTo texts k p.not_built (Some x) = ⊥
TranslatesTo texts k p.not_built None = Unit {0}

-- The program has a table of classes, and starts at its function `main`; translation over that table comes to this.
pub record IsTranslatedTo (state : State) (s : Scoping) (found : Option CoreProgram) : Type 0 where
  pub classes : Classes
  pub main : ℕ
  pub table : IsTableOf state s classes
  pub starts : s.main ≡ Some main
  pub comes_to : TranslatesTo s.texts classes (p.core (given_of s state classes main)) found

-- There is no table, since the header of a class is refused, or is too large.
abbrev pub LacksTable : State → Scoping → Type 0
LacksTable state s = ((f : Fault) × IsRefusedIn (class_given state s) (source_units state) s.texts f)
    ⊎ ((place : Place) × IsOverlargeIn (class_given state s) (source_units state) s.texts place)

abbrev pub MakesIn : State → Scoping → Option CoreProgram → Type 0
MakesIn state s (Some x) = IsTranslatedTo state s (Some x)
MakesIn state s None = LacksTable state s ⊎ IsTranslatedTo state s None

-- The core of a loaded program, whose names mean this, or none where it has none. No text has two numbers.
abbrev pub MakesCore : State → Option CoreProgram → Type 0
MakesCore state found = (s : Scoping) × IsScoping state s × AreDistinct s.texts × MakesIn state s found
