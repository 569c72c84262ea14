use Rattle.std.specs.Prelude.{IfSome}
use Rattle.std.proofs.Common.{◌≡◌, ℕ, List, Option, None, subst}
use Rattle.dart_edge.specs.Files.{Files, file_of}
use Rattle.core_print.proofs.Shown.{absent_shown}
use Rattle.core_print.proofs.root.file_text.Goals as goal

pub returns-in-Ok-None-clause-shows : goal.returns-in-Ok-None-clause-shows
returns-in-Ok-None-clause-shows g c =
    let told : Option Files = g.S.Sources.files c.args.sources.now in
    let name = c.args.file.now in
    absent_shown told name None
    (subst (λ (content : Option (List ℕ)). IfSome told (λ files. content ≡ file_of files name)) c.in-Ok-None.field-0-is c.in-Ok-None.ensures.content)
