use Rattle.std.proofs.Common.{refl}
use Rattle.dart_machine.proofs.leave.answered.Goals as goal

pub returns-in-Rest-clause-meaning : goal.returns-in-Rest-clause-meaning
returns-in-Rest-clause-meaning c = rw c.in-Rest.is c.go_on.ensures.meaning

pub returns-in-Choice-clause-meaning : goal.returns-in-Choice-clause-meaning
returns-in-Choice-clause-meaning c = rw c.in-Choice.is c.choose.ensures.meaning

pub returns-in-Operand-clause-meaning : goal.returns-in-Operand-clause-meaning
returns-in-Operand-clause-meaning c = rw c.in-Operand.is c.finish_unary.ensures.meaning

pub returns-in-First-clause-meaning : goal.returns-in-First-clause-meaning
returns-in-First-clause-meaning c = rw c.in-First.is c.second_operand.ensures.meaning

pub returns-in-Second-clause-meaning : goal.returns-in-Second-clause-meaning
returns-in-Second-clause-meaning c = rw c.in-Second.is c.finish_binary.ensures.meaning

pub returns-in-Row-clause-meaning : goal.returns-in-Row-clause-meaning
returns-in-Row-clause-meaning c = rw c.in-Row.is c.next_operand.ensures.meaning

pub returns-in-Test-clause-meaning : goal.returns-in-Test-clause-meaning
returns-in-Test-clause-meaning c = rw c.in-Test.is c.decided.ensures.meaning

pub returns-in-Body-clause-meaning : goal.returns-in-Body-clause-meaning
returns-in-Body-clause-meaning c = rw c.in-Body.is c.update.ensures.meaning

pub returns-in-Update-clause-meaning : goal.returns-in-Update-clause-meaning
returns-in-Update-clause-meaning c = rw c.in-Update.is c.begin_turn.ensures.meaning

pub returns-in-Caller-clause-meaning : goal.returns-in-Caller-clause-meaning
returns-in-Caller-clause-meaning c = rw c.in-Caller.is c.leave_call.ensures.meaning

pub returns-in-Returning-clause-meaning : goal.returns-in-Returning-clause-meaning
returns-in-Returning-clause-meaning c = rw c.in-Returning.is refl
