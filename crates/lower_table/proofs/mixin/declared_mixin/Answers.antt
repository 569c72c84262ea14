use Rattle.std.proofs.Common.{◌≡◌, ◌∙◌, ◌+◌, ◌-◌, suc, length, Option, arith, sym, ap}
use Rattle.std.specs.Option.{option_map, option_map_or}
use Rattle.core_program.specs.Named as with_names
use Rattle.core_program.specs.ProgramView.{text_at}
use Rattle.translation.specs.Surroundings.{Ty}
use Rattle.lower_table.specs.Rows.{declared_mixin}
use Rattle.lower_table.specs.Seen.{rows, ty}
use Rattle.lower_table.proofs.mixin.declared_mixin.Goals as goal

pub loop-step-init : goal.loop-step-init
loop-step-init c = λ texts left all.
    let e : left ≡ length c.args.classes.now = omega (arith, all) in
    (λ i. declared_mixin (rows texts c.args.classes.now) c.args.applications.now (e i) (with_names.ty (text_at texts) (c.in_ok-mixin.ensures i)))

pub loop-step-preserved : goal.loop-step-preserved
loop-step-preserved c = λ texts left all.
    let from = declared_mixin (rows texts c.args.classes.now) c.args.applications.now left in
    ap (λ (o : Option Ty). option_map_or from o (ty texts c.loop-step.mixin)) (ap (option_map (ty texts)) (sym c.in-Some.is) ∙ c.in_ok-found.ensures texts)
    ∙ c.loop-step.invariant texts (suc left) (omega (arith, all))

pub returns-in-None : goal.returns-in-None
returns-in-None c = λ texts.
    let left = length c.args.classes.now - (c.loop-step._step + 1) in
    let from = declared_mixin (rows texts c.args.classes.now) c.args.applications.now left in
    ap (λ (o : Option Ty). option_map_or from o (ty texts c.loop-step.mixin)) (ap (option_map (ty texts)) (sym c.in-None.is) ∙ c.in_ok-found.ensures texts)
    ∙ c.loop-step.invariant texts (suc left) (omega (arith, c.loop-step-test.true))

pub returns : goal.returns
returns c = λ texts. c.loop-step.invariant texts 0 (omega (arith, c.loop-step-test.false, c.loop-step.auto._step-end))
