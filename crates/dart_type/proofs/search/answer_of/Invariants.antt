use Rattle.std.proofs.Common.{Bool, drop}
use Rattle.dart_type.specs.Answers.{IsKept}
use Rattle.dart_type.proofs.search.answer_of.Given as goal

abbrev pub invariant-loop-answer : goal.invariant-loop-answer
invariant-loop-answer l = (b : Bool) → IsKept (drop l.answer-index l.answers) l.t l.s b → IsKept l.answers l.t l.s b
