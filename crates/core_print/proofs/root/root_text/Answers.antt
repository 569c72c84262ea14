use Rattle.std.proofs.Common.{ℕ, List, [], Option, None, ap, subst}
use Rattle.dart_edge.specs.Files.{Files}
use Rattle.dart_tool.specs.declared.status.Refusal.TheVariants.{ProgramTooLarge}
use Rattle.dart_tool.specs.Program.{load_stop, unit_refusal}
use Rattle.dart_tool.proofs.ProgramLaws.{FoundWith}
use Rattle.scope_files.specs.declared.check.Checked.{Checked}
use Rattle.scope_files.specs.declared.check.Checked.TheVariants.{Sound, Against}
use Rattle.scope_files.specs.Files.{NameGives, known}
use Rattle.scope_load.specs.Load.{Stops}
use Rattle.core_print.proofs.Shown.{sound_shown, whole_shown, stop_shown}
use Rattle.core_print.proofs.root.root_text.Goals as goal

pub returns-in-Ok-clause-shows : goal.returns-in-Ok-clause-shows
returns-in-Ok-clause-shows g c =
    let told : Option Files = g.S.Sources.files c.args.sources.now in
    let name = c.args.file.now in
    let text = c.args.text.now in
    let found : FoundWith told name text c.in-Ok-Sound.field-0 =
    subst (λ (n : List ℕ). FoundWith told n text c.in-Ok-Sound.field-0) c.as_bytes.ensures.value c.in-Ok-Sound.ensures.answer in
    let sound : FoundWith told name text (Sound c.in-Ok-Sound.loaded) = subst (λ (x : Checked). FoundWith told name text x) c.in-Ok-Sound.field-0-is found in
    sound_shown told name text _ c.in-Ok.found c.in-Ok-Sound.loaded sound c.in-Ok.ensures

pub returns-in-Ok-Against-clause-shows : goal.returns-in-Ok-Against-clause-shows
returns-in-Ok-Against-clause-shows g c =
    let told : Option Files = g.S.Sources.files c.args.sources.now in
    let name = c.args.file.now in
    let text = c.args.text.now in
    let found : FoundWith told name text c.in-Ok-Against.field-0 =
    subst (λ (n : List ℕ). FoundWith told n text c.in-Ok-Against.field-0) c.as_bytes.ensures.value c.in-Ok-Against.ensures.answer in
    let against : FoundWith told name text (Against c.in-Ok-Against.field-0-0) = subst (λ (x : Checked). FoundWith told name text x) c.in-Ok-Against.field-0-is found in
    whole_shown told name text None c.in-Ok-Against.field-0-0 against

pub returns-in-Err-Refused-clause-shows : goal.returns-in-Err-Refused-clause-shows
returns-in-Err-Refused-clause-shows g c =
    let told : Option Files = g.S.Sources.files c.args.sources.now in
    let name = c.args.file.now in
    let text = c.args.text.now in
    let fault = c.in-Err-Refused.field-0 in
    let stops : Stops (NameGives (known name text told)) name fault =
    subst (λ (n : List ℕ). Stops (NameGives (known n text told)) n fault) c.as_bytes.ensures.value c.in-Err-Refused.ensures.answer in
    stop_shown told name text None fault (unit_refusal c.in-Err-Refused.field-0-0 c.in-Err-Refused.field-0-1) (ap load_stop c.in-Err-Refused.field-0-is) stops

pub returns-in-Err-TooLarge-clause-shows : goal.returns-in-Err-TooLarge-clause-shows
returns-in-Err-TooLarge-clause-shows g c =
    let told : Option Files = g.S.Sources.files c.args.sources.now in
    let name = c.args.file.now in
    let text = c.args.text.now in
    let fault = c.in-Err-TooLarge.field-0 in
    let stops : Stops (NameGives (known name text told)) name fault =
    subst (λ (n : List ℕ). Stops (NameGives (known n text told)) n fault) c.as_bytes.ensures.value c.in-Err-TooLarge.ensures.answer in
    stop_shown told name text None fault (record { file = []; why = ProgramTooLarge }) (ap load_stop c.in-Err-TooLarge.field-0-is) stops
