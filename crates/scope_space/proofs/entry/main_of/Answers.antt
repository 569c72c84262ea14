use Rattle.std.proofs.Common.{◌∙◌, find, option_map, ap}
use Rattle.scope_space.specs.Library.{is_named}
use Rattle.scope_space.specs.Entry.{can_start}
use Rattle.scope_space.proofs.Parts.{find_filter}
use Rattle.scope_space.proofs.entry.main_of.Goals as goal

pub returns-in-Some : goal.returns-in-Some
returns-in-Some c =
    ap (option_map (λ declaration. declaration.number)) (c.in-Some.ensures ∙ ap (find (λ declaration. can_start declaration.kind)) c.under.ensures
    ∙ find_filter (is_named c.args.main.0) (λ declaration. can_start declaration.kind) c.args.root.now.declarations)

pub returns-in-None : goal.returns-in-None
returns-in-None c =
    ap (option_map (λ declaration. declaration.number)) (c.in-None.ensures ∙ ap (find (λ declaration. can_start declaration.kind)) c.under.ensures
    ∙ find_filter (is_named c.args.main.0) (λ declaration. can_start declaration.kind) c.args.root.now.declarations)
