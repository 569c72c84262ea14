use Rattle.std.proofs.Common.{◌∙◌, ap, sym}
use Rattle.dart_base.specs.Names.{interned}
use Rattle.dart_base.proofs.Texts.{interned-next}
use Rattle.dart_base.proofs.names.Names.try_clone.Goals as goal

pub loop-number-preserved : goal.loop-number-preserved
loop-number-preserved c =
    c.in_ok-intern.ensures.texts ∙ ap (λ names. interned names c.text.result.now) c.loop-number.invariant
    ∙ interned-next c.args.self.now c.loop-number.number c.text.result.now c.count-number-end.ensures.distinct c.text.ensures
