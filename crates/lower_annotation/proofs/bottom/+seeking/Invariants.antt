use Rattle.std.proofs.Common.{◌≡◌, drop}
use Rattle.dart_ir.specs.Ty.{tys, named_tys}
use Rattle.lower_annotation.specs.Instance as i
use Rattle.lower_annotation.proofs.bottom.+seeking.Given as goal

-- it isn't in those that were passed
abbrev pub invariant-have_bottom-loop-one : goal.invariant-have_bottom-loop-one
invariant-have_bottom-loop-one l = i.have_bottom (tys l.fn.all) ≡ i.have_bottom (tys (drop l.one-index l.all))

abbrev pub invariant-named_have_bottom-loop-one : goal.invariant-named_have_bottom-loop-one
invariant-named_have_bottom-loop-one l = i.named_have_bottom (named_tys l.fn.all) ≡ i.named_have_bottom (named_tys (drop l.one-index l.all))
