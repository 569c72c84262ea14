use Rattle.std.proofs.Common.{◌≡◌, ◌∙◌, sym, ap, Option, None, Some, Err, subst}
use Rattle.dart_edge.specs.Files.{Files}
use Rattle.dart_run.specs.declared.written.Written.{Written}
use Rattle.dart_tool.specs.declared.outcome.Outcome.{Outcome}
use Rattle.dart_tool.specs.declared.program.RunStop.{RunStop}
use Rattle.dart_tool.specs.declared.status.Refusal.TheVariants.{NotBuilt}
use Rattle.dart_tool.specs.Language.{GivesEnd, RefusedFor}
use Rattle.dart_tool.specs.Outcome.{is_cut_short}
use Rattle.dart_tool.specs.Program.{Judges, WhereHas}
use Rattle.dart_tool.proofs.Outcomes.{written_given, not_built, refusal_given}
use Rattle.dart_tool.proofs.Statuses.{refused_status, written_status, written_whole}
use Rattle.dart_tool.proofs.outcome.run_outcome.Goals as goal

pub returns-in-Ok-Some-clause-gives : goal.returns-in-Ok-Some-clause-gives
returns-in-Ok-Some-clause-gives g c =
    let told : Option Files = g.S.Sources.files c.args.sources.now in
    let name = c.args.name.now in
    let text = c.args.text.now in
    let gives : GivesEnd told name text c.args.options (Some c.in-Ok-Some.made) = subst (λ (o : Option Written). GivesEnd told name text c.args.options o) c.in-Ok-Some.field-0-is c.in-Ok-Some.ensures.runs in
    written_given told name text c.args.options c.in-Ok-Some.made c.written_outcome.result gives c.written_outcome.ensures

pub returns-in_ok-refused-in-Ok-None-clause-gives : goal.returns-in_ok-refused-in-Ok-None-clause-gives
returns-in_ok-refused-in-Ok-None-clause-gives g c =
    let told : Option Files = g.S.Sources.files c.args.sources.now in
    let name = c.args.name.now in
    let text = c.args.text.now in
    let none : c.in-Ok-None.field-0 ≡ None = c.in-Ok-None.field-0-is in
    let gives : GivesEnd told name text c.args.options None = subst (λ (o : Option Written). GivesEnd told name text c.args.options o) none c.in-Ok-None.ensures.runs in
    not_built told name text c.args.options c.in_ok-refused-in-Ok-None.field-0 c.in-Ok-None.ensures.answer gives (rw c.as_bytes.ensures.value at c.in_ok-refused-in-Ok-None.ensures)

pub returns-in_ok-refused-in-Err-Refused-clause-gives : goal.returns-in_ok-refused-in-Err-Refused-clause-gives
returns-in_ok-refused-in-Err-Refused-clause-gives g c =
    let told : Option Files = g.S.Sources.files c.args.sources.now in
    let name = c.args.name.now in
    let text = c.args.text.now in
    let refusal : WhereHas told name text (λ files. RefusedFor files name c.args.options c.in-Err-Refused.against) =
    subst (λ (stop : RunStop). Judges {T = Option Written} (λ files. RefusedFor files name c.args.options) told name text (Err stop)) c.in-Err-Refused.field-0-is c.in-Err-Refused.ensures.answer in
    refusal_given told name text c.args.options c.in-Err-Refused.against c.in_ok-refused-in-Err-Refused.field-0 refusal (rw c.as_slice.ensures at c.in_ok-refused-in-Err-Refused.ensures)

pub returns-in-Ok-Some-clause-usage : goal.returns-in-Ok-Some-clause-usage
returns-in-Ok-Some-clause-usage g c = λ is. written_status c.in-Ok-Some.made.finish (sym (ap (λ (o : Outcome). o.status) c.written_outcome.ensures) ∙ is)

pub returns-in-Ok-Some-clause-ended : goal.returns-in-Ok-Some-clause-ended
returns-in-Ok-Some-clause-ended g c = ap (λ (o : Outcome). is_cut_short o.status) c.written_outcome.ensures ∙ written_whole c.in-Ok-Some.made.finish

pub returns-in_ok-refused-in-Ok-None-clause-usage : goal.returns-in_ok-refused-in-Ok-None-clause-usage
returns-in_ok-refused-in-Ok-None-clause-usage g c = refused_status NotBuilt c.as_bytes.result.now c.in_ok-refused-in-Ok-None.field-0 c.in_ok-refused-in-Ok-None.ensures

pub returns-in_ok-refused-in-Err-Refused-clause-usage : goal.returns-in_ok-refused-in-Err-Refused-clause-usage
returns-in_ok-refused-in-Err-Refused-clause-usage g c = refused_status _ _ c.in_ok-refused-in-Err-Refused.field-0 c.in_ok-refused-in-Err-Refused.ensures
