-- what is looked for is not among those that were passed
use Rattle.std.proofs.Common.{◌≡◌, drop}
use Rattle.std.specs.Prelude.{find}
use Rattle.native_name.specs.Name.{is_named}
use Rattle.native_name.proofs.name.first_named.Given as goal

abbrev pub invariant-loop-native : goal.invariant-loop-native
invariant-loop-native l = find (is_named l.class l.member) l.natives ≡ find (is_named l.class l.member) (drop l.native-index l.natives)
