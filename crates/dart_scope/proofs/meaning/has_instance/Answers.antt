use Rattle.std.proofs.Common.{◌∙◌, not, sym, ap, arith}
use Rattle.dart_base.specs.declared.place.Place.{Place}
use Rattle.scope_table.specs.declared.instance.Stretch.{Stretch}
use Rattle.dart_scope.specs.Meaning.{is_within}
use Rattle.dart_scope.proofs.Passing.{any_passed, any_met, none_met}
use Rattle.dart_scope.proofs.meaning.has_instance.Goals as goal

abbrev start : Place
start = record { unit = 0; line = 0; column = 0 }

abbrev nowhere : Stretch
nowhere = record { first = start; last = start }

pub loop-stretch-preserved : goal.loop-stretch-preserved
loop-stretch-preserved c = any_passed (is_within c.args.at) c.args.stretches.now c.loop-stretch.stretch-index nowhere (omega (arith, c.loop-stretch-test.true))
    (sym c.is_within.ensures ∙ c.if-is_within.false) c.loop-stretch.invariant

pub returns-then-is_within : goal.returns-then-is_within
returns-then-is_within c = sym (ap not (any_met (is_within c.args.at) c.args.stretches.now c.loop-stretch.stretch-index nowhere (omega (arith, c.loop-stretch-test.true))
    (sym c.is_within.ensures ∙ c.if-is_within.true) c.loop-stretch.invariant))

pub returns : goal.returns
returns c = sym (ap not (none_met (is_within c.args.at) c.args.stretches.now c.loop-stretch.stretch-index (omega (arith, c.loop-stretch-test.false)) c.loop-stretch.invariant))
