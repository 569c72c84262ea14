-- Programs as they are once annotations and columns are forgotten, and what is left of the answers for them.
use Rattle.std.specs.Prelude.{map, None}
use Rattle.dart_tree.specs.Unit as u
use Rattle.dart_erase.specs.UnitErased as erased
use Rattle.dart_ir.specs.Ty.{dynamic}
use Rattle.core_program.specs.Program as p
use Rattle.core_program.specs.Alike as alike
use Rattle.core_program.specs.Stripped as stripped
use Rattle.translation.specs.Surroundings.{Text, Tables}
use Rattle.translation.specs.Walk.{Reason, left_out, not_constant, bad_label, bad_constructor, bad_switch, bad_word, too_large}
use Rattle.translation.specs.Program.{SourceUnit, Given, Answer, accepted, rejected, not_built}
use Rattle.laws_translation.specs.LinedUnit as lined

abbrev pub reason : Reason → Reason
reason (left_out place feature) = left_out (alike.line place) feature
reason (not_constant place) = not_constant (alike.line place)
reason (bad_label place) = bad_label (alike.line place)
reason (bad_constructor place) = bad_constructor (alike.line place)
reason (bad_switch place) = bad_switch (alike.line place)
reason (bad_word place) = bad_word (alike.line place)
reason (too_large place) = too_large (alike.line place)

-- what is left of an answer once annotations and columns are forgotten
abbrev pub forgotten : Answer → Answer
forgotten (accepted made) = accepted (alike.program (stripped.program made))
forgotten (rejected why) = rejected (reason why)
forgotten not_built = not_built

abbrev pub tables_without : Tables → Tables
tables_without x = record x { variable_type = λ n. None; alias_type = λ n given. dynamic }

abbrev pub erased_unit : SourceUnit → SourceUnit
erased_unit x = record x { declarations = map erased.decl x.declarations }

abbrev pub lined_unit : SourceUnit → SourceUnit
lined_unit x = record x { declarations = map lined.decl x.declarations }

abbrev pub bare_unit : SourceUnit → SourceUnit
bare_unit x = record x { declarations = map (λ (y : u.Decl). lined.decl (erased.decl y)) x.declarations }

-- the program of the erased units
abbrev pub erased_given : Given → Given
erased_given x = record x { units = map erased_unit x.units }

-- A program without columns, and without what its tables have from annotations.
abbrev pub lines : Given → Given
lines x = record x {
  units = map lined_unit x.units;
  tables = tables_without x.tables;
  classes = map alike.class x.classes;
  members = map (λ (y : p.Member Text). alike.member (stripped.member y)) x.members;
}

-- the lines of the program of the erased units
abbrev pub bare : Given → Given
bare x = record (lines x) { units = map bare_unit x.units }
