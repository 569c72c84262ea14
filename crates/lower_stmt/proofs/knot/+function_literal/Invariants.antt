use Rattle.lower_stmt.proofs.knot.+function_literal.Given as goal

abbrev pub decreases-function_literal : goal.decreases-function_literal
decreases-function_literal g l = l.depth
