use Rattle.std.proofs.Common.{◌≡◌, ℕ, take, map}
use Rattle.dart_tree.specs.UnitView as uv
use Rattle.scope_declared.specs.Number.{number_of}
use Rattle.scope_space.specs.Library.{passes}
use Rattle.scope_entry.specs.Directives.{written_passes}
use Rattle.scope_entry.proofs.directive.combinators.Given as goal

-- the combinators so far let through what those that are written so far do
abbrev pub invariant-loop-one : goal.invariant-loop-one
invariant-loop-one l = (name : ℕ) → passes name l.made.items ≡ written_passes (number_of l.names l.library) name (map uv.combinator (take l.one-index l.written))
