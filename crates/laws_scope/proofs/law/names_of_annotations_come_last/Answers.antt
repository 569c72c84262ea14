use Rattle.laws_scope.proofs.Absorbing.{all_begin, all_erased, kept_erased}
use Rattle.laws_scope.proofs.law.names_of_annotations_come_last.Goals as goal

pub returns-clause-begins : goal.returns-clause-begins
returns-clause-begins c = all_begin

pub returns-clause-kept : goal.returns-clause-kept
returns-clause-kept c = kept_erased

pub returns-clause-all : goal.returns-clause-all
returns-clause-all c = all_erased
