use Rattle.std.proofs.Common.{refl}
use Rattle.machine_frame.proofs.Labels.{labels_answer}
use Rattle.dart_machine.proofs.leave.answered_by_any.Goals as goal

pub returns-in-Rest-clause-meaning : goal.returns-in-Rest-clause-meaning
returns-in-Rest-clause-meaning c = rw c.in-Rest.is c.go_on.ensures.meaning

pub returns-in-Choice-clause-meaning : goal.returns-in-Choice-clause-meaning
returns-in-Choice-clause-meaning c = rw c.in-Choice.is c.choose.ensures.meaning

pub returns-in-Let-clause-meaning : goal.returns-in-Let-clause-meaning
returns-in-Let-clause-meaning c = rw c.in-Let.is c.bind_let.ensures.meaning

pub returns-in-Operand-clause-meaning : goal.returns-in-Operand-clause-meaning
returns-in-Operand-clause-meaning c = rw c.in-Operand.is c.finish_unary.ensures.meaning

pub returns-in-First-clause-meaning : goal.returns-in-First-clause-meaning
returns-in-First-clause-meaning c = rw c.in-First.is c.second_operand.ensures.meaning

pub returns-in-Second-clause-meaning : goal.returns-in-Second-clause-meaning
returns-in-Second-clause-meaning c = rw c.in-Second.is c.finish_binary.ensures.meaning

pub returns-in-Row-clause-meaning : goal.returns-in-Row-clause-meaning
returns-in-Row-clause-meaning c = rw c.in-Row.is c.next_operand.ensures.meaning

pub returns-in-Test-clause-meaning : goal.returns-in-Test-clause-meaning
returns-in-Test-clause-meaning c = rw c.in-Test.is c.decided.ensures.meaning

pub returns-in-Body-clause-meaning : goal.returns-in-Body-clause-meaning
returns-in-Body-clause-meaning c = rw c.in-Body.is c.update.ensures.meaning

pub returns-in-Update-clause-meaning : goal.returns-in-Update-clause-meaning
returns-in-Update-clause-meaning c = rw c.in-Update.is c.begin_turn.ensures.meaning

pub returns-in-Is-clause-meaning : goal.returns-in-Is-clause-meaning
returns-in-Is-clause-meaning c = rw c.in-Is.is c.is_type.ensures.meaning

pub returns-in-As-clause-meaning : goal.returns-in-As-clause-meaning
returns-in-As-clause-meaning c = rw c.in-As.is c.as_type.ensures.meaning

pub returns-in-Refused-clause-meaning : goal.returns-in-Refused-clause-meaning
returns-in-Refused-clause-meaning c = rw c.in-Refused.is c.leave_refused.ensures.meaning

pub returns-in-Trying-clause-meaning : goal.returns-in-Trying-clause-meaning
returns-in-Trying-clause-meaning c = rw c.in-Trying.is c.finish_try.ensures.meaning

pub returns-in-Handling-clause-meaning : goal.returns-in-Handling-clause-meaning
returns-in-Handling-clause-meaning c = rw c.in-Handling.is c.leave_handler.ensures.meaning

pub returns-in-Ending-clause-meaning : goal.returns-in-Ending-clause-meaning
returns-in-Ending-clause-meaning c = rw c.in-Ending.is c.end_with.ensures.meaning

pub returns-in-Applying-clause-meaning : goal.returns-in-Applying-clause-meaning
returns-in-Applying-clause-meaning c = rw c.in-Applying.is c.apply.ensures.meaning

pub returns-in-Answering-clause-meaning : goal.returns-in-Answering-clause-meaning
returns-in-Answering-clause-meaning c = rw c.in-Answering.is c.answer.ensures.meaning

pub returns-in-Caller-clause-meaning : goal.returns-in-Caller-clause-meaning
returns-in-Caller-clause-meaning c = rw c.in-Caller.is c.leave_call.ensures.meaning

pub returns-in-Restoring-clause-meaning : goal.returns-in-Restoring-clause-meaning
returns-in-Restoring-clause-meaning c = rw c.in-Restoring.is c.leave_initialiser.ensures.meaning

pub returns-in-Settling-clause-meaning : goal.returns-in-Settling-clause-meaning
returns-in-Settling-clause-meaning c = rw c.in-Settling.is c.settle.ensures.meaning

pub returns-in-Returning-clause-meaning : goal.returns-in-Returning-clause-meaning
returns-in-Returning-clause-meaning c = rw c.in-Returning.is refl

pub returns-in-Labelled-clause-meaning : goal.returns-in-Labelled-clause-meaning
returns-in-Labelled-clause-meaning c = rw (c.in-Labelled.is, labels_answer) refl

pub returns-in-Switch-clause-meaning : goal.returns-in-Switch-clause-meaning
returns-in-Switch-clause-meaning c = rw c.in-Switch.is c.choose_case.ensures.meaning

pub returns-in-Case-clause-meaning : goal.returns-in-Case-clause-meaning
returns-in-Case-clause-meaning c = rw c.in-Case.is c.leave_case.ensures.meaning
