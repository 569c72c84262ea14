use Rattle.std.proofs.Common.{◌≡◌, ◌++◌, drop}
use Rattle.dart_tree.specs.Lists.{more_variables_of}
use Rattle.scope_entry.specs.Kinds.{more_kinds}
use Rattle.scope_entry.proofs.kind.add_more.Given as goal

-- the kinds so far and those that are left are all
abbrev pub invariant-loop-one : goal.invariant-loop-one
invariant-loop-one l = l.kinds.items ++ more_kinds (more_variables_of (drop l._one-index l.all.items)) ≡ l.fn.kinds.items ++ more_kinds (more_variables_of l.all.items)
