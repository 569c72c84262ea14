use Rattle.std.proofs.Common.{◌∙◌, ap}
use Rattle.dart_base.specs.Names.{interned}
use Rattle.scope_name.proofs.Text.{text-added, text-kept}
use Rattle.scope_name.proofs.table.add_text.Goals as goal

pub returns-in_default : goal.returns-in_default
returns-in_default c = text-kept c.args.names.now c.args.text.now c.in_default.ensures.cases.0

pub returns : goal.returns
returns c =
    c.in_ok-intern.ensures.texts ∙ ap (interned c.args.names.now) c.in-Ok.ensures.cases.0 ∙
    text-added c.args.names.now c.args.text.now c.in-Ok.ensures.cases.1
