use Rattle.std.proofs.Common.{◌∙◌, not, ap}
use Rattle.std.specs.List.{list_any}
use Rattle.scope_space.specs.Library.{is_named}
use Rattle.scope_space.proofs.Parts.{any_filter}
use Rattle.scope_space.proofs.library.Library.shares.Goals as goal

pub returns : goal.returns
returns c =
    c.are_shared.ensures ∙ ap (list_any (λ declaration. not declaration.is_private)) c.under.ensures
    ∙ any_filter (is_named c.args.name.0) (λ declaration. not declaration.is_private) c.args.self.now.declarations
