use Rattle.std.proofs.Common.{◌∙◌, ◌<◌, length, arith, ap}
use Rattle.std.specs.Option.{option_map}
use Rattle.std.specs.Prelude.{find}
use Rattle.scope_declared.specs.Number.{number_of}
use Rattle.scope_space.specs.Entry.{can_start}
use Rattle.scope_space.specs.Namespace.{own}
use Rattle.scope_space.specs.declared.declaration.Declaration.{Declaration}
use Rattle.scope_program.proofs.Programs.{started}
use Rattle.scope_program.proofs.program.main_in.Goals as goal

pub returns-in-len1-up : goal.returns-in-len1-up
unfolding number_of
returns-in-len1-up c =
    let below : 0 < length c.libraries.result.now = omega arith in
    c.main_of.ensures ∙ started c.args.spaces.now c.libraries.result.now c.in_ok-main.main.0 c.root-item.result c.libraries.ensures below c.root-item.is
    ∙ ap (λ name. option_map (λ (d : Declaration). d.number) (find (λ (d : Declaration). can_start d.kind) (own c.args.spaces.now 0 name))) c.in_ok-main.ensures
