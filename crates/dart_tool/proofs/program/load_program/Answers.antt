use Rattle.std.proofs.Common.{Option, subst}
use Rattle.dart_edge.specs.Files.{Files}
use Rattle.scope_files.specs.declared.check.Checked.{Checked}
use Rattle.scope_files.specs.declared.check.Checked.TheVariants.{Sound, Against}
use Rattle.scope_files.specs.Files.{NameGives, known}
use Rattle.scope_load.specs.Load.{Stops}
use Rattle.dart_tool.proofs.ProgramLaws.{FoundWith, told_loaded, told_whole_stop, told_stop}
use Rattle.dart_tool.proofs.program.load_program.Goals as goal

pub returns-in-Ok-Sound-clause-answer : goal.returns-in-Ok-Sound-clause-answer
returns-in-Ok-Sound-clause-answer g c =
    let told : Option Files = g.S.Sources.files c.args.sources.now in
    let name = c.args.name.now in
    let text = c.args.text.now in
    let found : FoundWith told name text c.in-Ok-Sound.field-0 = rw c.as_bytes.ensures.value at c.in-Ok-Sound.ensures.answer in
    told_loaded told name text c.in-Ok-Sound.loaded (subst (λ (x : Checked). FoundWith told name text x) c.in-Ok-Sound.field-0-is found)

pub returns-in-Ok-Against-clause-answer : goal.returns-in-Ok-Against-clause-answer
returns-in-Ok-Against-clause-answer g c =
    let told : Option Files = g.S.Sources.files c.args.sources.now in
    let name = c.args.name.now in
    let text = c.args.text.now in
    let found : FoundWith told name text c.in-Ok-Against.field-0 = rw c.as_bytes.ensures.value at c.in-Ok-Against.ensures.answer in
    let against : FoundWith told name text (Against c.in-Ok-Against.reason) = subst (λ (x : Checked). FoundWith told name text x) c.in-Ok-Against.field-0-is found in
    told_whole_stop told name text c.in-Ok-Against.reason c.whole_stop.result c.whole_stop.ensures.stop against

pub returns-in-Ok-Against-clause-cause : goal.returns-in-Ok-Against-clause-cause
returns-in-Ok-Against-clause-cause g c = rw c.whole_stop.ensures.failed c.in-Ok-Against.ensures.cause

pub returns-in-Err-clause-answer : goal.returns-in-Err-clause-answer
returns-in-Err-clause-answer g c =
    let told : Option Files = g.S.Sources.files c.args.sources.now in
    let text = c.args.text.now in
    let given : Stops (NameGives (known c.as_bytes.result.now text told)) c.as_bytes.result.now c.in-Err.fault = c.in-Err.ensures.answer in
    let stops : Stops (NameGives (known c.args.name.now text told)) c.args.name.now c.in-Err.fault = rw c.as_bytes.ensures.value at given in
    told_stop told c.args.name.now text c.in-Err.fault c.stop_of.result c.stop_of.ensures.stop stops

pub returns-in-Err-clause-cause : goal.returns-in-Err-clause-cause
returns-in-Err-clause-cause g c = rw c.stop_of.ensures.failed c.in-Err.ensures.cause
