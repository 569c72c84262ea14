use Rattle.laws_annotation.proofs.Scopes.{headers_same, members_same}
use Rattle.laws_annotation.proofs.law.surroundings_are_kept.Goals as goal

pub returns-clause-headers : goal.returns-clause-headers
returns-clause-headers c = headers_same

pub returns-clause-members : goal.returns-clause-members
returns-clause-members c = members_same
