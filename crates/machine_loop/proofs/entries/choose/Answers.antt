use Rattle.std.proofs.Common.{◌≡◌, true, false, sym, ap, rules, arith}
use Rattle.dart_ir.specs.declared.value.Value.TheVariants.{Null}
use Rattle.core_program.specs.View as v
use Rattle.evaluation.specs.Sequence.{is_true, chosen}
use Rattle.evaluation.specs.Evaluation.{part}
use Rattle.machine_frame.specs.Frames.{does}
use Rattle.machine_loop.proofs.Turned.{comes_to}
use Rattle.machine_loop.proofs.entries.choose.Goals as goal

pub returns-then-is_true-clause-meaning : goal.returns-then-is_true-clause-meaning
returns-then-is_true-clause-meaning c =
    let holds : is_true c.args.value ≡ true = first_of (cc, search rules, grind arith) in
    comes_to c.args.a c.enter_part.new.run c.enter_part.result _ _
    (ap (λ b. does c.args.a c.args.run.now (λ w. chosen b (part (v.part c.args.first.now) w Null) (part (v.part c.args.second.now) w Null))) (sym holds)) c.enter_part.ensures.meaning

pub returns-else-is_true-clause-meaning : goal.returns-else-is_true-clause-meaning
returns-else-is_true-clause-meaning c =
    let fails : is_true c.args.value ≡ false = first_of (cc, search rules, grind arith) in
    comes_to c.args.a c.enter_part-else-is_true.new.run c.enter_part-else-is_true.result _ _
    (ap (λ b. does c.args.a c.args.run.now (λ w. chosen b (part (v.part c.args.first.now) w Null) (part (v.part c.args.second.now) w Null))) (sym fails)) c.enter_part-else-is_true.ensures.meaning
