use Rattle.lower_class.proofs.member.constructor.Goals as goal

pub returns-in-Redirecting : goal.returns-in-Redirecting
returns-in-Redirecting g c = rw c.in-Redirecting.is c.redirecting_constructor.ensures
