use Rattle.std.proofs.Common.{◌∙◌, ℕ, List, Option, false, sym, ap}
use Rattle.std.specs.List.{list_any}
use Rattle.std.specs.Option.{is_some, option_map_or}
use Rattle.core_program.specs.Program as p
use Rattle.lower_table.proofs.Rowed.{row-found}
use Rattle.lower_table.proofs.table.TableScopesSurroundings.is_bounded.Goals as goal

pub returns-in-Some : goal.returns-in-Some
returns-in-Some c =
    let texts = c.args.self.now.scopes.now.names in
    c.is_bounded.ensures texts ∙ ap (λ (o : Option (p.Class (List ℕ))). option_map_or (λ (x : p.Class (List ℕ)). list_any is_some x.bounds) o false)
    (sym (row-found texts c.args.self.now.classes.now c.args.of.0 c.row_at.result c.in-Some.info c.in-Some.is c.row_at.ensures))
