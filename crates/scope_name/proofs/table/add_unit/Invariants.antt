use Rattle.std.proofs.Common.{◌≡◌, drop}
use Rattle.std.specs.Prelude.{fold}
use Rattle.scope_name.specs.Names.{with_token}
use Rattle.scope_name.proofs.table.add_unit.Given as goal

-- the tokens that are left lead to the same table
abbrev pub invariant-loop-token : goal.invariant-loop-token
invariant-loop-token l = fold (with_token l.library) l.names (drop l.token-index l.token-items) ≡ fold (with_token l.library) l.initial.names l.token-items
