use Rattle.laws_annotation.proofs.Scopes.{scoping_goes, own_scoping, program_goes}
use Rattle.laws_annotation.proofs.law.scopings_are_kept.Goals as goal

pub returns-clause-of_a_program : goal.returns-clause-of_a_program
returns-clause-of_a_program c = program_goes

pub returns-clause-of_its_own : goal.returns-clause-of_its_own
returns-clause-of_its_own c = own_scoping

pub returns-clause-under_a_table : goal.returns-clause-under_a_table
returns-clause-under_a_table c = scoping_goes
