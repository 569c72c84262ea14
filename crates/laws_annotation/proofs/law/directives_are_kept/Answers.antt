use Rattle.laws_annotation.proofs.Heads.{mentions_same, part_place_same, part_of_same}
use Rattle.laws_annotation.proofs.law.directives_are_kept.Goals as goal

pub returns-clause-mentions : goal.returns-clause-mentions
returns-clause-mentions c = mentions_same

pub returns-clause-part : goal.returns-clause-part
returns-clause-part c = part_place_same

pub returns-clause-part_of : goal.returns-clause-part_of
returns-clause-part_of c = part_of_same
