use Rattle.std.proofs.Common.{◌≡◌, ◌+◌, ◌≤◌, length, take}
use Rattle.std.specs.List.{suffix_len}
use Rattle.scope_load.specs.Names.{is_no_slash}
use Rattle.scope_load.proofs.follow.folder_len.Given as goal

-- what stands behind the length is no slash
abbrev pub invariant-loop-len : goal.invariant-loop-len
invariant-loop-len l = (l.len ≤ length l.name) × (l.len + suffix_len is_no_slash l.name ≡ length l.name + suffix_len is_no_slash (take l.len l.name))

abbrev pub decreases-loop-len : goal.decreases-loop-len
decreases-loop-len l = l.len
