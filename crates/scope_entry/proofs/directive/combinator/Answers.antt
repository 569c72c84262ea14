use Rattle.std.proofs.Common.{◌∙◌, ◌==◌, Bool, not, sym, ap}
use Rattle.std.specs.List.{list_any}
use Rattle.dart_base.specs.declared.name.Name.{Name}
use Rattle.dart_tree.specs.declared.unit.CombinatorKind.{CombinatorKind}
use Rattle.dart_tree.specs.UnitView as uv
use Rattle.scope_declared.specs.Number.{number_of}
use Rattle.scope_entry.specs.Directives.{combinator_names, lets_by}
use Rattle.scope_entry.proofs.Lists.{same_any}
use Rattle.scope_entry.proofs.directive.combinator.Goals as goal

pub returns-in-Show : goal.returns-in-Show
returns-in-Show c = λ name.
    let number = number_of c.args.names.now c.args.library in
    let named : Name → Bool = λ one. one.0 == name in
    let names = combinator_names number (uv.combinator c.args.written.now) in
    same_any named c.in_ok-table.table c.in_ok-listed.listed.items (c.in_ok-table.ensures name) ∙ ap (list_any named) c.in_ok-listed.ensures
    ∙ ap (λ (kind : CombinatorKind). lets_by number kind name names) (sym c.in-Show.is)

pub returns-in-Hide : goal.returns-in-Hide
returns-in-Hide c = λ name.
    let number = number_of c.args.names.now c.args.library in
    let named : Name → Bool = λ one. one.0 == name in
    let names = combinator_names number (uv.combinator c.args.written.now) in
    ap not (same_any named c.in_ok-table.table c.in_ok-listed.listed.items (c.in_ok-table.ensures name) ∙ ap (list_any named) c.in_ok-listed.ensures)
    ∙ ap (λ (kind : CombinatorKind). lets_by number kind name names) (sym c.in-Hide.is)
