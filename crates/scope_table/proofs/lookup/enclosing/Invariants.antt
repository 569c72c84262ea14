use Rattle.std.proofs.Common.{◌≡◌, length}
use Rattle.scope_table.specs.Order.{Encloses}
use Rattle.scope_table.proofs.lookup.enclosing.Given as goal

-- each entry up to here has its index
abbrev pub invariant-loop-index : goal.invariant-loop-index
invariant-loop-index l = record {
  one_each : length l.outer.items ≡ l.index;
  enclosing : Encloses l.entries l.outer.items;
}
