use Rattle.std.proofs.Common.{◌≡◌, ◌∙◌}
use Rattle.core_program.specs.Captured.{part_nodes}
use Rattle.lower_leaf.specs.Forms.{part}
use Rattle.lower_function.specs.Uses.{functions_of, uses_in}
use Rattle.lower_function.proofs.Alike.{begun, cells_same, captures_same}
use Rattle.lower_function.proofs.shared.shared_by.Goals as goal

pub returns-clause-cells : goal.returns-clause-cells
returns-clause-cells g c =
    let a = g.S.Surroundings.around c.args.outside.now in
    let fs = functions_of a c.args.functions.now in
    let same : c.uses_of.new.found.items ≡ uses_in fs (part_nodes (part a c.args.body.now)) = begun _ _ _ c.in_ok-uses_of.ensures c.new-uses.ensures.items in
    c.in_ok-cells_by.ensures ∙ cells_same a fs c.args.count c.args.of.now.items (part a c.args.body.now) c.uses_of.new.found.items same

pub returns-clause-captures : goal.returns-clause-captures
returns-clause-captures g c =
    let a = g.S.Surroundings.around c.args.outside.now in
    let fs = functions_of a c.args.functions.now in
    let same : c.uses_of.new.found.items ≡ uses_in fs (part_nodes (part a c.args.body.now)) = begun _ _ _ c.in_ok-uses_of.ensures c.new-uses.ensures.items in
    c.in_ok-captures_by.ensures ∙ captures_same a fs c.args.count c.args.of.now.items (part a c.args.body.now) c.uses_of.new.found.items same
