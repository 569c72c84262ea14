use Rattle.std.proofs.Common.{◌≡◌, drop}
use Rattle.scope_name.specs.Names.{with_piece}
use Rattle.scope_name.proofs.table.add_piece.Given as goal

-- the bytes that are left lead to the same table
abbrev pub invariant-loop-index : goal.invariant-loop-index
invariant-loop-index l = with_piece l.library l.names (drop l.index l.text) ≡ with_piece l.library l.initial.names l.text
