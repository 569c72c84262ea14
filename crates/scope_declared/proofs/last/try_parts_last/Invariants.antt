use Rattle.std.proofs.Common.{◌≡◌, drop}
use Rattle.dart_tree.specs.Lists.{try_parts_of}
use Rattle.scope_declared.specs.Last.{try_parts_last}
use Rattle.scope_declared.proofs.last.try_parts_last.Given as goal

-- the last token of what is left is that of all
abbrev pub invariant-loop-part : goal.invariant-loop-part
invariant-loop-part l = try_parts_last l.last (try_parts_of (drop l.part-index l.all.items)) ≡ try_parts_last l.fn.before (try_parts_of l.all.items)
