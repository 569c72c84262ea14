use Rattle.std.proofs.Common.{◌≡◌, drop, []}
use Rattle.dart_tree.specs.Lists.{cascades_of, items_of, entries_of, tails_of, pieces_of}
use Rattle.lower_expr.proofs.Cascades.{all_sections, all_selectors}
use Rattle.lower_expr.proofs.Rowing.{elements_from, entries_from, values_from, super_from, row_from, pieces_from, joined_of}
use Rattle.lower_expr.specs.Made.{option_core}
use Rattle.lower_leaf.specs.Around.{types}
use Rattle.lower_leaf.specs.Forms.{cores, core}
use Rattle.lower_leaf.specs.Seen.{seen, asked}
use Rattle.lower_reference.specs.Referred.{reference}
use Rattle.translation.specs.Expressions as e
use Rattle.translation.specs.Productions as low
use Rattle.translation.specs.References as r
use Rattle.lower_expr.proofs.+lower.Given as goal

abbrev pub invariant-lower::sections-loop-one : goal.invariant-lower::sections-loop-one
invariant-lower::sections-loop-one g l = let a = g.S.Surroundings.around l.outside in
    all_sections (r.variable l.place l.x) (drop l.one-index l.all.items) (cores a l.found.items) (seen a l.state)
    ≡ low.sections (r.variable l.place l.x) (cascades_of l.all.items) (seen a l.fn.state)

abbrev pub invariant-selector::selectors-loop-one : goal.invariant-selector::selectors-loop-one
invariant-selector::selectors-loop-one g l = let a = g.S.Surroundings.around l.outside in
    all_selectors l.place (drop l.one-index l.all.items) (reference a l.target) (seen a l.state)
    ≡ all_selectors l.place l.all.items (reference a l.fn.first) (seen a l.fn.state)

abbrev pub invariant-list::elements-loop-one : goal.invariant-list::elements-loop-one
invariant-list::elements-loop-one g l = let a = g.S.Surroundings.around l.outside in
    elements_from (asked a l.wanted) (drop l.one-index l.all.items) (cores a l.found.items) (seen a l.state)
    ≡ low.elements (e.asked_at 0 (types a l.given.items)) (items_of l.all.items) (seen a l.fn.state)

abbrev pub invariant-list::entries-loop-one : goal.invariant-list::entries-loop-one
invariant-list::entries-loop-one g l = let a = g.S.Surroundings.around l.outside in
    entries_from (asked a l.of_keys) (asked a l.of_values) l.place (r.variable l.place l.x) (drop l.one-index l.all.items) (cores a l.found.items) (seen a l.state)
    ≡ low.entries (asked a l.of_keys) (asked a l.of_values) l.place (r.variable l.place l.x) (entries_of l.all.items) (seen a l.fn.state)

abbrev pub invariant-list::values-loop-one : goal.invariant-list::values-loop-one
invariant-list::values-loop-one g l = let a = g.S.Surroundings.around l.outside in
    values_from (drop l.one-index l.all.items) (cores a l.found.items) (seen a l.state)
    ≡ low.steps (items_of l.all.items) (seen a l.fn.state)

abbrev pub invariant-row::super_tails-loop-one : goal.invariant-row::super_tails-loop-one
invariant-row::super_tails-loop-one g l = let a = g.S.Surroundings.around l.outside in
    super_from l.word (drop l.one-index l.all.items) (option_core a l.made) (seen a l.state)
    ≡ low.super_tails l.word (tails_of l.all.items) (seen a l.fn.state)

abbrev pub invariant-row::tails-loop-one : goal.invariant-row::tails-loop-one
invariant-row::tails-loop-one g l = let a = g.S.Surroundings.around l.outside in
    row_from l.place (drop l.one-index l.all.items) (core a l.made) (seen a l.state)
    ≡ low.tails l.place (core a l.fn.first) (tails_of l.all.items) (seen a l.fn.state)

abbrev pub invariant-text::pieces-loop-one : goal.invariant-text::pieces-loop-one
invariant-text::pieces-loop-one g l = let a = g.S.Surroundings.around l.outside in
    pieces_from l.place (drop l.one-index l.all.items) (joined_of (cores a l.forms.items) l.pending) (seen a l.state)
    ≡ low.pieces l.place (pieces_of l.all.items) [] (seen a l.fn.state)
