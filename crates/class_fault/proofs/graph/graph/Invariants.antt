use Rattle.class_fault.proofs.Graphs.{AreHeaders}
use Rattle.class_fault.proofs.graph.graph.Given as goal

abbrev pub invariant-loop-d : goal.invariant-loop-d
invariant-loop-d l = AreHeaders l.program l.d l.headers.items
