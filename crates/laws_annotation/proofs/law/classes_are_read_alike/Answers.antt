use Rattle.laws_annotation.proofs.Given.{unsigned_same, units_same}
use Rattle.laws_annotation.proofs.law.classes_are_read_alike.Goals as goal

pub returns-clause-given : goal.returns-clause-given
returns-clause-given c = unsigned_same

pub returns-clause-units : goal.returns-clause-units
returns-clause-units c = units_same
