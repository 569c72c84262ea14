use Rattle.native_text.proofs.Digits.{too_large}
use Rattle.native_text.proofs.numeral.digits_value.Goals as goal

pub returns-in_default : goal.returns-in_default
returns-in_default c =
    too_large c.loop-unit.number c.loop-unit.unit-index _ c.args.digits.now c.loop-unit-test.true c.loop-unit.invariant c.in_default.ensures
