use Rattle.std.proofs.Common.{◌≡◌, ◌++◌, drop}
use Rattle.dart_tree.specs.Lists.{stmts_of, switch_parts_of, try_parts_of}
use Rattle.translation.specs.Productions as low
use Rattle.translation.specs.Walk as w
use Rattle.lower_leaf.specs.Forms.{cores}
use Rattle.lower_leaf.specs.Seen.{seen}
use Rattle.lower_stmt.proofs.Rest.{behind_forms}
use Rattle.lower_clause.specs.Parts.{all_cases, case_kind, handled, handled_behind}
use Rattle.lower_stmt.proofs.+statements.Given as goal

abbrev pub invariant-statement::statements-loop-one : goal.invariant-statement::statements-loop-one
invariant-statement::statements-loop-one g l = let a = g.S.Surroundings.around l.outside in
    behind_forms (cores a l.found.items) (low.stmts (stmts_of (drop l.one-index l.all.items)) (seen a l.state))
    ≡ low.stmts (stmts_of l.all.items) (seen a l.fn.state)

abbrev pub invariant-choose::cases-loop-one : goal.invariant-choose::cases-loop-one
invariant-choose::cases-loop-one g l = let a = g.S.Surroundings.around l.outside in
    w.on (low.cases l.place (case_kind l.kind) (switch_parts_of (drop l.one-index l.parts.items)) (seen a l.state))
    (λ more st. w.went (all_cases a l.found ++ more) st)
    ≡ low.cases l.place (case_kind l.kind) (switch_parts_of l.parts.items) (seen a l.fn.state)

abbrev pub invariant-attempt::try_parts-loop-one : goal.invariant-attempt::try_parts-loop-one
invariant-attempt::try_parts-loop-one g l = let a = g.S.Surroundings.around l.outside in
    w.on (low.try_parts (try_parts_of (drop l.one-index l.parts.items)) (seen a l.state))
    (λ more st. w.went (handled_behind (handled a l.found) more) st)
    ≡ low.try_parts (try_parts_of l.parts.items) (seen a l.fn.state)
