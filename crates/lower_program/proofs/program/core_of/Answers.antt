use Rattle.lower_program.proofs.program.core_of.Goals as goal

pub answer-requires-clause-nests : goal.answer-requires-clause-nests
answer-requires-clause-nests g c = record {
  callable = λ alloc outside old depth parameters body below. tt;
  gives = λ alloc outside old new depth parameters body result made. made.1;
}
