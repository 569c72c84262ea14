use Rattle.std.proofs.Common.{◌≡◌, [], take, drop}
use Rattle.std.specs.HashSet.{contains}
use Rattle.std.specs.List.{list_any}
use Rattle.scope_table.specs.Duplicate.{NameKey, same_key, first_clash}
use Rattle.scope_table.proofs.Clash.{reading, setting}
use Rattle.scope_table.proofs.duplicate.duplicate.Given as goal

-- the keys that were seen are those of the declarations up to here, and none of these clashes
abbrev pub invariant-loop-one : goal.invariant-loop-one
invariant-loop-one l = record {
  reads : (q : NameKey) → contains same_key l.read q ≡ list_any (reading q) (take l.one-index l.declared);
  sets : (q : NameKey) → contains same_key l.set q ≡ list_any (setting q) (take l.one-index l.declared);
  search : first_clash (take l.one-index l.declared) (drop l.one-index l.declared) ≡ first_clash [] l.declared;
}
