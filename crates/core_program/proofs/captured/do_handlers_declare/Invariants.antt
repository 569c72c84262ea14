use Rattle.std.proofs.Common.{◌≡◌, map, drop}
use Rattle.core_program.specs.Core as c
use Rattle.core_program.specs.View as v
use Rattle.core_program.specs.Captured.{handlers_declare}
use Rattle.core_program.proofs.captured.do_handlers_declare.Given as goal

abbrev pub invariant-loop-one : goal.invariant-loop-one
invariant-loop-one l =
    handlers_declare l.var (c.handlers (map v.handler (drop l.one-index l.handlers))) ≡ handlers_declare l.var (c.handlers (map v.handler l.handlers))
