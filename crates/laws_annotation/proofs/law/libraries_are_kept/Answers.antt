use Rattle.laws_annotation.proofs.Libraries.{libraries_same, homes_same}
use Rattle.laws_annotation.proofs.law.libraries_are_kept.Goals as goal

pub returns-clause-libraries : goal.returns-clause-libraries
returns-clause-libraries c = libraries_same

pub returns-clause-homes : goal.returns-clause-homes
returns-clause-homes c = homes_same
