use Rattle.std.specs.Prelude.{IfSome}
use Rattle.std.specs.Option.{option_map}
use Rattle.std.proofs.Common.{ℕ, List, Option, subst}
use Rattle.dart_edge.specs.Files.{Files}
use Rattle.core_print.specs.Root.{FileShows}
use Rattle.core_print.proofs.Shown.{core_printed, run_printed}
use Rattle.core_print.proofs.printer.print_file.Goals as goal

pub returns-in-Ok-None-clause-answer : goal.returns-in-Ok-None-clause-answer
returns-in-Ok-None-clause-answer g c =
    let told : Option Files = g.S.Sources.files c.args.sources.now in
    let file = c.args.file.now in
    let name : Option (List ℕ) = option_map (λ text. text.now) c.args.name in
    run_printed file name _ _ _ told _ c.in-Ok-None.ensures.same
    (subst (λ (found : Option (List ℕ)). IfSome told (λ files. FileShows files file name found)) c.in-Ok-None.field-0-is c.in-Ok-None.ensures.shows)
    c.run_file.ensures.answer

pub returns-in-Ok-Some-clause-answer : goal.returns-in-Ok-Some-clause-answer
returns-in-Ok-Some-clause-answer g c =
    let told : Option Files = g.S.Sources.files c.args.sources.now in
    let file = c.args.file.now in
    let name : Option (List ℕ) = option_map (λ text. text.now) c.args.name in
    core_printed file name c.in-Ok-Some.bytes c.deliver.result (g.K.Sink.written c.args.sink.now) (g.K.Sink.written c.deliver.new.sink) told
    (subst (λ (found : Option (List ℕ)). IfSome told (λ files. FileShows files file name found)) c.in-Ok-Some.field-0-is c.in-Ok-Some.ensures.shows)
    (rw c.as_slice.ensures at c.deliver.ensures.delivers)
