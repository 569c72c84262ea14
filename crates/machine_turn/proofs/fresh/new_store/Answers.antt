use Rattle.std.proofs.Common.{List, length, replicate, ap, ◌∙◌}
use Rattle.dart_store.specs.declared.store.Static.TheVariants.{Unset}
use Rattle.core_program.specs.declared.program.StaticVar.{StaticVar}
use Rattle.machine_turn.proofs.Constants.{fresh_heap, no_heap}
use Rattle.machine_turn.proofs.fresh.new_store.Goals as goal

pub returns-then-all : goal.returns-then-all
returns-then-all c =
    let listed = c.as_slice-constants in
    let all = c.in_ok-all.ensures in
    let unset = c.in_ok-statics.ensures ∙ ap (λ (l : List StaticVar). replicate (length l) Unset) c.as_slice-variables.ensures.value in
    fresh_heap c.args.program.now c.args.units c.in_ok-statics.statics.items listed.result.now c.new-store.result listed.ensures.value c.new-store.ensures
    c.add_constants.new.store unset (all.added c.if-all.true) (all.room c.if-all.true)

pub returns-else-all : goal.returns-else-all
returns-else-all c =
    let listed = c.as_slice-constants in
    no_heap c.args.program.now c.args.units c.in_ok-statics.statics.items listed.result.now c.new-store.result listed.ensures.value c.new-store.ensures
    (c.in_ok-all.ensures.full c.if-all.false)
