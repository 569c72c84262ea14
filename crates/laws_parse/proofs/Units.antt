-- Units, where members are found (ECMA-408, 18 Libraries and Scripts).
use Rattle.std.proofs.Common.{ℕ}
use Rattle.laws_unit.specs.Statements.{UnitPartsReadAt, UnitReadAt}
use Rattle.laws_unit.proofs.Units.{units_at}
use Rattle.laws_choice.proofs.MetadataGrow.{metadata_grow_at}
use Rattle.laws_parse.specs.Statements.{MembersRead}
use Rattle.laws_parse.proofs.Parts.{strings_read, metadata_read}
use Rattle.laws_parse.proofs.Declarations.{decl_kinds_read}

module _ (M : MembersRead) where
  unit_parts : (n : ℕ) → UnitPartsReadAt n
  unit_parts n = record {
    metadata = metadata_read n;
    strings = λ m lt. strings_read m;
    decl_kind = decl_kinds_read M n;
  }

  pub units_read : (n : ℕ) → UnitReadAt n
  units_read n = units_at n (unit_parts n) metadata_grow_at
