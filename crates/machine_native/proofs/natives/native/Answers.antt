use Rattle.std.proofs.Common.{◌≡◌, List, Some, slice_index_or, sym, ap, ◌∙◌}
use Rattle.dart_ir.specs.declared.native.Answer.TheVariants as a
use Rattle.dart_ir.specs.declared.value.Value.{Value}
use Rattle.dart_ir.specs.declared.value.Value.TheVariants.{Null}
use Rattle.native_number.specs.Number.{number_native}
use Rattle.machine_lookup.specs.Rows.{last_of}
use Rattle.evaluation.specs.State.{answer, ends}
use Rattle.evaluation.specs.Externals.{native}
use Rattle.machine_frame.specs.Outside.{setting_of}
use Rattle.machine_frame.specs.Frames.{seen}
use Rattle.machine_frame.proofs.Natives.{number_answers}
use Rattle.machine_native.proofs.Carried.{rest}
use Rattle.machine_native.proofs.natives.native.Goals as goal

pub returns-in-Some-clause-meaning : goal.returns-in-Some-clause-meaning
returns-in-Some-clause-meaning c =
    let r = c.args.run.now in
    let vs = last_of c.args.count r.operands.items in
    let z = c.in-Some.value in
    let values : c.last_of-values.result.now ≡ vs = c.last_of-values.ensures ∙ ap (last_of c.args.count) c.as_slice.ensures.value in
    let first : c.value_at-first.result ≡ slice_index_or vs 0 Null = c.value_at-first.ensures ∙ ap (λ (l : List Value). slice_index_or l 0 Null) values in
    let second : c.value_at-second.result ≡ slice_index_or vs 1 Null = c.value_at-second.ensures ∙ ap (λ (l : List Value). slice_index_or l 1 Null) values in
    let e : number_native c.args.id (slice_index_or vs 0 Null) (slice_index_or vs 1 Null) ≡ Some (a.Value z) =
    sym (ap (λ (x : Value). number_native c.args.id x c.value_at-second.result) first ∙ ap (number_native c.args.id (slice_index_or vs 0 Null)) second) ∙ c.in-Some.ensures in
    c.answer.ensures.meaning
    ∙ rest c.args.a r c.args.count c.cut.new.values.items (ends (answer z) (seen r)) (native (setting_of c.args.a) c.args.at c.args.id vs (seen r)) c.cut.ensures
    (sym (number_answers c.args.a c.args.at c.args.id vs (seen r) z e))
