use Rattle.std.proofs.Common.{◌≡◌, drop}
use Rattle.dart_tree.specs.Lists.{selectors_of}
use Rattle.scope_declared.specs.Last.{selectors_last}
use Rattle.scope_declared.proofs.last.selectors_last.Given as goal

-- the last token of what is left is that of all
abbrev pub invariant-loop-selector : goal.invariant-loop-selector
invariant-loop-selector l = selectors_last l.last (selectors_of (drop l.selector-index l.all.items)) ≡ selectors_last l.fn.before (selectors_of l.all.items)
