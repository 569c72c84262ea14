use Rattle.std.proofs.Common.{◌≡◌, ◌++◌, drop, map}
use Rattle.dart_tree.specs.UnitView as uv
use Rattle.dart_tree.specs.declared.identifier.CommaName.{CommaName}
use Rattle.scope_declared.specs.Number.{number_of}
use Rattle.scope_entry.specs.Directives.{name_of, combinator_names}
use Rattle.scope_entry.proofs.directive.combinator_names.Given as goal

-- the names so far and those that are left are all
abbrev pub invariant-loop-more : goal.invariant-loop-more
invariant-loop-more l = l.listed.items ++ map (λ (x : CommaName). name_of (number_of l.names l.library) x.name) (drop l.more-index l.written.more.items)
    ≡ combinator_names (number_of l.names l.library) (uv.combinator l.written)
