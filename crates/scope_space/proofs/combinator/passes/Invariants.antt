use Rattle.std.proofs.Common.{◌≡◌, drop}
use Rattle.std.specs.List.{list_all}
use Rattle.scope_space.specs.Library.{lets}
use Rattle.scope_space.proofs.combinator.passes.Given as goal

-- the combinators that are left decide
abbrev pub invariant-loop-combinator : goal.invariant-loop-combinator
invariant-loop-combinator l = list_all (lets l.name.0) (drop l.combinator-index l.combinators) ≡ list_all (lets l.name.0) l.combinators
