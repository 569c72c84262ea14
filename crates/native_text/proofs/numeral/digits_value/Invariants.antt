-- the digits that are left make the number whole
use Rattle.std.proofs.Common.{◌≡◌, ◌+◌, ◌-◌, ◌*◌, drop}
use Rattle.std.specs.Prelude.{fold}
use Rattle.native_text.specs.Text.{digits_value}
use Rattle.native_text.proofs.numeral.digits_value.Given as goal

abbrev pub invariant-loop-unit : goal.invariant-loop-unit
invariant-loop-unit l = fold (λ n u. n * 10 + (u - 48)) l.number (drop l.unit-index l.digits) ≡ digits_value l.digits
