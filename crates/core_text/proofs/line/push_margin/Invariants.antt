use Rattle.std.proofs.Common.{◌≡◌, ◌++◌}
use Rattle.core_text.specs.Line.{margin}
use Rattle.core_text.proofs.line.push_margin.Given as goal

abbrev pub invariant-loop-blank : goal.invariant-loop-blank
invariant-loop-blank l = l.bytes ≡ l.fn.bytes ++ margin l._blank
