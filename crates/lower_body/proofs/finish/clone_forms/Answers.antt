use Rattle.std.proofs.Common.{◌∙◌, map, ap}
use Rattle.core_program.specs.View as v
use Rattle.lower_body.proofs.Copied.{forms_copied}
use Rattle.lower_body.proofs.finish.clone_forms.Goals as goal

pub returns : goal.returns
returns g c =
    forms_copied (g.S.Surroundings.around c.args.outside.now) c.in_ok-try_clone_cores.field-0.items c.args.forms.now.items
    (c.in_ok-try_clone_cores.ensures ∙ ap (map v.core) c.deref.ensures.value)
