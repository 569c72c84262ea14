use Rattle.machine_loop.proofs.passing.bare.Goals as goal

pub returns-clause-passes : goal.returns-clause-passes
returns-clause-passes c = λ d st x after e. c.passed_by-middle.ensures.passes d st x after (c.passed_by.ensures.passes d st x after e)
