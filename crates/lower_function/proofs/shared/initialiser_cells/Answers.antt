use Rattle.std.proofs.Common.{◌≡◌, ℕ, List, IfOk, subst}
use Rattle.core_program.specs.Captured.{part_nodes}
use Rattle.lower_leaf.specs.Forms.{part}
use Rattle.lower_function.specs.Uses.{functions_of, uses_in}
use Rattle.lower_function.proofs.Alike.{begun, taken_same}
use Rattle.lower_function.proofs.shared.initialiser_cells.Goals as goal

pub returns : goal.returns
returns g c =
    let a = g.S.Surroundings.around c.args.outside.now in
    let fs = functions_of a c.args.functions.now in
    let same : c.uses_of.new.found.items ≡ uses_in fs (part_nodes (part a c.args.init.now)) = begun _ _ _ c.in_ok-uses_of.ensures c.new-uses.ensures.items in
    subst (λ (z : List ℕ). IfOk c.taken_by.result (λ made. made.items ≡ z)) (taken_same fs c.args.count (part a c.args.init.now) c.uses_of.new.found.items same) c.taken_by.ensures
