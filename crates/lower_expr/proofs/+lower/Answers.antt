use Rattle.std.proofs.Common.{◌+◌, sym, rules, List, ◌∙◌, ap, Some, [], Bool, subst, drop}
use Rattle.std.proofs.lemmas.Result.{err_from_is_err_and}
use Rattle.dart_tree.proofs.Rows.{view_omitted, view_given, view_postfix, view_assign}
use Rattle.dart_tree.specs.Lists.{cascades_of, items_of, entries_of, tails_of, pieces_of, selectors_of}
use Rattle.dart_tree.specs.Tree as tree
use Rattle.dart_tree.specs.View as view
use Rattle.dart_tree.specs.declared.expression.Expr.{Expr}
use Rattle.lower_expr.proofs.Cascades.{all_sections, one_section, sections_law, section_made, target_stops, section_stops, all_selectors, one_selector, selectors_law}
use Rattle.lower_expr.proofs.Making.{new_met, new_argued, new_created}
use Rattle.lower_expr.proofs.Pushing.{pushed_as, entry_made, piece_made, appended_as}
use Rattle.lower_expr.proofs.Rowing.{elements_from, element_next, elements_law, entries_from, entry_next, entries_law, items_law, with_names, arguments_of, values_from, value_next, values_law, super_from, super_next, super_law, kept_as, row_from, row_next, row_law, pieces_from, piece_next, pieces_law, pieces_end, joined_of, interpolated_omitted, interpolated_given}
use Rattle.lower_expr.proofs.Walking.{next_item, step_item, stops}
use Rattle.lower_expr.specs.Made.{option_core, behind_super}
use Rattle.lower_leaf.specs.Around.{types}
use Rattle.lower_leaf.specs.Forms.{core, cores, row_of}
use Rattle.lower_leaf.specs.Kept.{typed}
use Rattle.lower_leaf.specs.Seen.{seen, asked}
use Rattle.lower_operand.specs.Made.{joined, word_option}
use Rattle.lower_operand.specs.Operators.{name_option}
use Rattle.lower_reference.specs.Referred.{reference}
use Rattle.translation.specs.Expressions as e
use Rattle.translation.specs.Firsts.{first_of_expr, first_of_primary}
use Rattle.translation.specs.Productions as low
use Rattle.translation.specs.References as r
use Rattle.translation.specs.Surroundings.{Text, Core}
use Rattle.translation.specs.Walk as w
use Rattle.dart_tree.specs.declared.expression.Primary.{Primary}
use Rattle.lower_leaf.specs.Gives.{Gives}
use Rattle.lower_expr.proofs.Targets.{postfix_next, postfix_made, assign_made}
use Rattle.lower_expr.proofs.+lower.Goals as goal

pub lower::sections-returns-in_err-target : goal.lower::sections-returns-in_err-target
lower::sections-returns-in_err-target g t c = let a = g.S.Surroundings.around c.args.outside.now in
    let x = r.variable c.args.place c.args.x in
    let p = err_from_is_err_and c.from_residual.result c.from_residual.ensures.1 in
    rw (p.1, p.2) (target_stops a x c.variable.result c.one-item.result (cores a c.loop-one.found.items) c.in_err-target.field-0.0
    (seen a c.loop-one.state) (seen a c.selectors.new.state) (seen a c.selectors.new.state) (all_sections x (drop (c.loop-one.one-index + 1) c.args.all.now.items))
    (low.sections x (cascades_of c.args.all.now.items) (seen a c.args.state.now))
    (next_item (all_sections x) (one_section x) (sections_law x) c.args.all.now.items c.deref-one-items.result.now
    c.loop-one.one-index c.one-item.result (cores a c.loop-one.found.items) (seen a c.loop-one.state)
    (low.sections x (cascades_of c.args.all.now.items) (seen a c.args.state.now))
    c.deref-one-items.ensures.value c.loop-one-test.true c.one-item.is c.loop-one.invariant) c.variable.ensures c.in_err-target.ensures)

pub lower::sections-returns-in_err-section : goal.lower::sections-returns-in_err-section
lower::sections-returns-in_err-section g t c = let a = g.S.Surroundings.around c.args.outside.now in
    let x = r.variable c.args.place c.args.x in
    let p = err_from_is_err_and c.from_residual-in_err-section.result c.from_residual-in_err-section.ensures.1 in
    rw (p.1, p.2) (section_stops a x c.variable.result c.one-item.result (cores a c.loop-one.found.items) c.in_ok-target.target c.in_err-section.field-0.0
    (seen a c.loop-one.state) (seen a c.selectors.new.state) (seen a c.section.new.state) (seen a c.section.new.state) (all_sections x (drop (c.loop-one.one-index + 1) c.args.all.now.items))
    (low.sections x (cascades_of c.args.all.now.items) (seen a c.args.state.now))
    (next_item (all_sections x) (one_section x) (sections_law x) c.args.all.now.items c.deref-one-items.result.now
    c.loop-one.one-index c.one-item.result (cores a c.loop-one.found.items) (seen a c.loop-one.state)
    (low.sections x (cascades_of c.args.all.now.items) (seen a c.args.state.now))
    c.deref-one-items.ensures.value c.loop-one-test.true c.one-item.is c.loop-one.invariant) c.variable.ensures c.in_ok-target.ensures c.in_err-section.ensures)

pub lower::sections-loop-one-preserved : goal.lower::sections-loop-one-preserved
lower::sections-loop-one-preserved g t c = let a = g.S.Surroundings.around c.args.outside.now in
    let x = r.variable c.args.place c.args.x in
    step_item (all_sections x) (one_section x) (sections_law x) c.args.all.now.items c.deref-one-items.result.now
    c.loop-one.one-index c.one-item.result (cores a c.loop-one.found.items) (cores a c.push.new.self.items) (seen a c.loop-one.state) (seen a c.section.new.state)
    (low.sections x (cascades_of c.args.all.now.items) (seen a c.args.state.now))
    c.deref-one-items.ensures.value c.loop-one-test.true c.one-item.is c.loop-one.invariant
    (section_made a x c.variable.result c.one-item.result c.loop-one.found.items c.push.new.self.items c.in_ok-target.target c.in_ok-section.field-0
    (seen a c.loop-one.state) (seen a c.selectors.new.state) (seen a c.section.new.state) c.variable.ensures c.in_ok-target.ensures c.in_ok-section.ensures c.in_ok-push.ensures.items)

pub selector::selectors-returns-in_err-target : goal.selector::selectors-returns-in_err-target
selector::selectors-returns-in_err-target g t c = let a = g.S.Surroundings.around c.args.outside.now in
    let p = err_from_is_err_and c.from_residual.result c.from_residual.ensures.1 in
    rw (p.1, p.2) (stops (reference a) (reference a) c.in_err-target.field-0.0 (seen a c.selected.new.state) (seen a c.selected.new.state)
    (one_selector c.args.place c.one-item.result (reference a c.loop-one.target) (seen a c.loop-one.state))
    (all_selectors c.args.place (drop (c.loop-one.one-index + 1) c.args.all.now.items))
    (all_selectors c.args.place c.args.all.now.items (reference a c.args.first) (seen a c.args.state.now))
    (next_item (all_selectors c.args.place) (one_selector c.args.place) (selectors_law c.args.place) c.args.all.now.items c.deref-one-items.result.now
    c.loop-one.one-index c.one-item.result (reference a c.loop-one.target) (seen a c.loop-one.state)
    (all_selectors c.args.place c.args.all.now.items (reference a c.args.first) (seen a c.args.state.now))
    c.deref-one-items.ensures.value c.loop-one-test.true c.one-item.is c.loop-one.invariant) c.in_err-target.ensures)

pub selector::selectors-loop-one-preserved : goal.selector::selectors-loop-one-preserved
selector::selectors-loop-one-preserved g t c = let a = g.S.Surroundings.around c.args.outside.now in
    step_item (all_selectors c.args.place) (one_selector c.args.place) (selectors_law c.args.place) c.args.all.now.items c.deref-one-items.result.now
    c.loop-one.one-index c.one-item.result (reference a c.loop-one.target) (reference a c.in_ok-target.target) (seen a c.loop-one.state) (seen a c.selected.new.state)
    (all_selectors c.args.place c.args.all.now.items (reference a c.args.first) (seen a c.args.state.now))
    c.deref-one-items.ensures.value c.loop-one-test.true c.one-item.is c.loop-one.invariant c.in_ok-target.ensures

pub list::elements-returns-in_err-form : goal.list::elements-returns-in_err-form
unfolding w.on
list::elements-returns-in_err-form g t c = let a = g.S.Surroundings.around c.args.outside.now in
    rw (next_item (elements_from (asked a c.in_ok-wanted.wanted)) (element_next (asked a c.in_ok-wanted.wanted)) (elements_law (asked a c.in_ok-wanted.wanted)) c.args.all.now.items c.deref-one-items.result.now c.loop-one.one-index c.one-item.result
    (cores a c.loop-one.found.items) (seen a c.loop-one.state) (low.elements (e.asked_at 0 (types a c.args.given.now.items)) (items_of c.args.all.now.items) (seen a c.args.state.now))
    c.deref-one-items.ensures.value c.loop-one-test.true c.one-item.is c.loop-one.invariant) (search rules)

pub list::elements-loop-one-preserved : goal.list::elements-loop-one-preserved
list::elements-loop-one-preserved g t c = let a = g.S.Surroundings.around c.args.outside.now in
    step_item (elements_from (asked a c.in_ok-wanted.wanted)) (element_next (asked a c.in_ok-wanted.wanted)) (elements_law (asked a c.in_ok-wanted.wanted)) c.args.all.now.items c.deref-one-items.result.now c.loop-one.one-index c.one-item.result
    (cores a c.loop-one.found.items) (cores a c.push.new.self.items) (seen a c.loop-one.state) (seen a c.element.new.state) (low.elements (e.asked_at 0 (types a c.args.given.now.items)) (items_of c.args.all.now.items) (seen a c.args.state.now))
    c.deref-one-items.ensures.value c.loop-one-test.true c.one-item.is c.loop-one.invariant (pushed_as a (e.element (asked a c.in_ok-wanted.wanted) (first_of_expr (view.expr c.one-item.result.value)) (low.expr (view.expr c.one-item.result.value)) (seen a c.loop-one.state)) c.in_ok-form.form (seen a c.element.new.state) c.loop-one.found.items c.push.new.self.items c.in_ok-form.ensures c.in_ok-push.ensures.items)

pub list::entries-returns-in_err-key : goal.list::entries-returns-in_err-key
unfolding w.on
list::entries-returns-in_err-key g t c = let a = g.S.Surroundings.around c.args.outside.now in
    rw (next_item (entries_from (asked a c.args.of_keys.now) (asked a c.args.of_values.now) c.args.place (r.variable c.args.place c.args.x)) (entry_next (asked a c.args.of_keys.now) (asked a c.args.of_values.now) c.args.place (r.variable c.args.place c.args.x)) (entries_law (asked a c.args.of_keys.now) (asked a c.args.of_values.now) c.args.place (r.variable c.args.place c.args.x)) c.args.all.now.items c.deref-one-items.result.now c.loop-one.one-index c.one-item.result
    (cores a c.loop-one.found.items) (seen a c.loop-one.state) (low.entries (asked a c.args.of_keys.now) (asked a c.args.of_values.now) c.args.place (r.variable c.args.place c.args.x) (entries_of c.args.all.now.items) (seen a c.args.state.now))
    c.deref-one-items.ensures.value c.loop-one-test.true c.one-item.is c.loop-one.invariant) (search rules)

pub list::entries-returns-in_err-value : goal.list::entries-returns-in_err-value
unfolding w.on
list::entries-returns-in_err-value g t c = let a = g.S.Surroundings.around c.args.outside.now in
    rw (next_item (entries_from (asked a c.args.of_keys.now) (asked a c.args.of_values.now) c.args.place (r.variable c.args.place c.args.x)) (entry_next (asked a c.args.of_keys.now) (asked a c.args.of_values.now) c.args.place (r.variable c.args.place c.args.x)) (entries_law (asked a c.args.of_keys.now) (asked a c.args.of_values.now) c.args.place (r.variable c.args.place c.args.x)) c.args.all.now.items c.deref-one-items.result.now c.loop-one.one-index c.one-item.result
    (cores a c.loop-one.found.items) (seen a c.loop-one.state) (low.entries (asked a c.args.of_keys.now) (asked a c.args.of_values.now) c.args.place (r.variable c.args.place c.args.x) (entries_of c.args.all.now.items) (seen a c.args.state.now))
    c.deref-one-items.ensures.value c.loop-one-test.true c.one-item.is c.loop-one.invariant) (search rules)

pub list::entries-loop-one-preserved : goal.list::entries-loop-one-preserved
list::entries-loop-one-preserved g t c = let a = g.S.Surroundings.around c.args.outside.now in
    step_item (entries_from (asked a c.args.of_keys.now) (asked a c.args.of_values.now) c.args.place (r.variable c.args.place c.args.x)) (entry_next (asked a c.args.of_keys.now) (asked a c.args.of_values.now) c.args.place (r.variable c.args.place c.args.x)) (entries_law (asked a c.args.of_keys.now) (asked a c.args.of_values.now) c.args.place (r.variable c.args.place c.args.x)) c.args.all.now.items c.deref-one-items.result.now c.loop-one.one-index c.one-item.result
    (cores a c.loop-one.found.items) (cores a c.push.new.self.items) (seen a c.loop-one.state) (seen a c.element-in-loop-one.new.state) (low.entries (asked a c.args.of_keys.now) (asked a c.args.of_values.now) c.args.place (r.variable c.args.place c.args.x) (entries_of c.args.all.now.items) (seen a c.args.state.now))
    c.deref-one-items.ensures.value c.loop-one-test.true c.one-item.is c.loop-one.invariant (entry_made a (asked a c.args.of_keys.now) (asked a c.args.of_values.now) c.args.place (r.variable c.args.place c.args.x) c.one-item.result c.loop-one.found.items c.push.new.self.items
    c.in_ok-key.key c.in_ok-value.value c.in_ok-form.form c.variable-map.result (seen a c.loop-one.state) (seen a c.element.new.state) (seen a c.element-in-loop-one.new.state)
    c.in_ok-key.ensures c.in_ok-value.ensures c.variable-map.ensures c.in_ok-form.ensures c.in_ok-push.ensures.items)

pub list::items-returns-in_err-forms : goal.list::items-returns-in_err-forms
unfolding w.on
list::items-returns-in_err-forms g t c = let a = g.S.Surroundings.around c.args.outside.now in
    rw (items_law (items_of c.args.all.now.items) (seen a c.args.state.now)) (search rules)

pub list::items-returns : goal.list::items-returns
unfolding w.on
list::items-returns g t c = let a = g.S.Surroundings.around c.args.outside.now in
    items_law (items_of c.args.all.now.items) (seen a c.args.state.now)
    ∙ ap (λ (walk : w.Went (List Core)). w.on walk (with_names (items_of c.args.all.now.items))) c.in_ok-forms.ensures
    ∙ ap (λ (l : List Text). w.went (arguments_of (cores a c.in_ok-forms.forms.items) l) (seen a c.values.new.state)) (sym c.in_ok-names.ensures)

pub list::values-returns-in_err-form : goal.list::values-returns-in_err-form
unfolding w.on
list::values-returns-in_err-form g t c = let a = g.S.Surroundings.around c.args.outside.now in
    rw (next_item (values_from) (value_next) (values_law) c.args.all.now.items c.deref-one-items.result.now c.loop-one.one-index c.one-item.result
    (cores a c.loop-one.found.items) (seen a c.loop-one.state) (low.steps (items_of c.args.all.now.items) (seen a c.args.state.now))
    c.deref-one-items.ensures.value c.loop-one-test.true c.one-item.is c.loop-one.invariant) (search rules)

pub list::values-loop-one-preserved : goal.list::values-loop-one-preserved
list::values-loop-one-preserved g t c = let a = g.S.Surroundings.around c.args.outside.now in
    step_item (values_from) (value_next) (values_law) c.args.all.now.items c.deref-one-items.result.now c.loop-one.one-index c.one-item.result
    (cores a c.loop-one.found.items) (cores a c.push.new.self.items) (seen a c.loop-one.state) (seen a c.expr.new.state) (low.steps (items_of c.args.all.now.items) (seen a c.args.state.now))
    c.deref-one-items.ensures.value c.loop-one-test.true c.one-item.is c.loop-one.invariant (pushed_as a (low.expr (view.expr c.one-item.result.value) (seen a c.loop-one.state)) c.in_ok-form.form (seen a c.expr.new.state) c.loop-one.found.items c.push.new.self.items c.in_ok-form.ensures c.in_ok-push.ensures.items)

pub row::super_tails-returns-in_err-form : goal.row::super_tails-returns-in_err-form
unfolding w.on
row::super_tails-returns-in_err-form g t c = let a = g.S.Surroundings.around c.args.outside.now in
    rw (next_item (super_from c.args.word) (super_next c.args.word) (super_law c.args.word) c.args.all.now.items c.deref-one-items.result.now c.loop-one.one-index c.one-item.result
    (option_core a c.loop-one.made) (seen a c.loop-one.state) (low.super_tails c.args.word (tails_of c.args.all.now.items) (seen a c.args.state.now))
    c.deref-one-items.ensures.value c.loop-one-test.true c.one-item.is c.loop-one.invariant) (search rules)

pub row::super_tails-loop-one-preserved : goal.row::super_tails-loop-one-preserved
row::super_tails-loop-one-preserved g t c = let a = g.S.Surroundings.around c.args.outside.now in
    step_item (super_from c.args.word) (super_next c.args.word) (super_law c.args.word) c.args.all.now.items c.deref-one-items.result.now c.loop-one.one-index c.one-item.result
    (option_core a c.loop-one.made) (Some (core a c.in_ok-form.form)) (seen a c.loop-one.state) (seen a c.next_tail.new.state) (low.super_tails c.args.word (tails_of c.args.all.now.items) (seen a c.args.state.now))
    c.deref-one-items.ensures.value c.loop-one-test.true c.one-item.is c.loop-one.invariant (kept_as (λ (x : Core). Some x) (behind_super c.args.word (option_core a c.loop-one.made) c.one-item.result.operator (view.operand c.one-item.result.operand) (seen a c.loop-one.state)) (core a c.in_ok-form.form) (seen a c.next_tail.new.state) c.in_ok-form.ensures)

pub row::tails-returns-in_err-made : goal.row::tails-returns-in_err-made
unfolding w.on
row::tails-returns-in_err-made g t c = let a = g.S.Surroundings.around c.args.outside.now in
    rw (next_item (row_from c.args.place) (row_next c.args.place) (row_law c.args.place) c.args.all.now.items c.deref-one-items.result.now c.loop-one.one-index c.one-item.result
    (core a c.loop-one.made) (seen a c.loop-one.state) (low.tails c.args.place (core a c.args.first) (tails_of c.args.all.now.items) (seen a c.args.state.now))
    c.deref-one-items.ensures.value c.loop-one-test.true c.one-item.is c.loop-one.invariant) (search rules)

pub row::tails-loop-one-preserved : goal.row::tails-loop-one-preserved
row::tails-loop-one-preserved g t c = let a = g.S.Surroundings.around c.args.outside.now in
    step_item (row_from c.args.place) (row_next c.args.place) (row_law c.args.place) c.args.all.now.items c.deref-one-items.result.now c.loop-one.one-index c.one-item.result
    (core a c.loop-one.made) (core a c.in_ok-made.made) (seen a c.loop-one.state) (seen a c.binary.new.state) (low.tails c.args.place (core a c.args.first) (tails_of c.args.all.now.items) (seen a c.args.state.now))
    c.deref-one-items.ensures.value c.loop-one-test.true c.one-item.is c.loop-one.invariant (c.in_ok-made.ensures)

pub text::pieces-returns-in_err-more : goal.text::pieces-returns-in_err-more
unfolding w.on
text::pieces-returns-in_err-more g t c = let a = g.S.Surroundings.around c.args.outside.now in
    rw (next_item (pieces_from c.args.place) (piece_next c.args.place) (pieces_law c.args.place) c.args.all.now.items c.deref-one-items.result.now c.loop-one.one-index c.one-item.result
    (joined_of (cores a c.loop-one.forms.items) c.loop-one.pending) (seen a c.loop-one.state) (low.pieces c.args.place (pieces_of c.args.all.now.items) [] (seen a c.args.state.now))
    c.deref-one-items.ensures.value c.loop-one-test.true c.one-item.is c.loop-one.invariant) (search rules)

pub text::pieces-loop-one-preserved : goal.text::pieces-loop-one-preserved
text::pieces-loop-one-preserved g t c = let a = g.S.Surroundings.around c.args.outside.now in
    step_item (pieces_from c.args.place) (piece_next c.args.place) (pieces_law c.args.place) c.args.all.now.items c.deref-one-items.result.now c.loop-one.one-index c.one-item.result
    (joined_of (cores a c.loop-one.forms.items) c.loop-one.pending) (joined_of (cores a c.append.new.forms.items) c.in_ok-more.more.pending) (seen a c.loop-one.state) (seen a c.piece.new.state) (low.pieces c.args.place (pieces_of c.args.all.now.items) [] (seen a c.args.state.now))
    c.deref-one-items.ensures.value c.loop-one-test.true c.one-item.is c.loop-one.invariant (piece_made a c.args.place c.one-item.result c.loop-one.forms.items c.append.new.forms.items c.loop-one.pending c.in_ok-more.more (seen a c.loop-one.state) (seen a c.piece.new.state)
    c.in_ok-more.ensures c.in_ok-append.ensures)

pub text::pieces-returns-in_err-last : goal.text::pieces-returns-in_err-last
unfolding w.on
text::pieces-returns-in_err-last g t c = let a = g.S.Surroundings.around c.args.outside.now in
    rw (pieces_end c.args.place c.args.all.now.items c.deref-one-items.result.now c.loop-one.one-index (joined_of (cores a c.loop-one.forms.items) c.loop-one.pending) (seen a c.loop-one.state)
    (low.pieces c.args.place (pieces_of c.args.all.now.items) [] (seen a c.args.state.now)) c.deref-one-items.ensures.value c.loop-one-test.false c.loop-one.invariant) (search rules)

pub text::pieces-returns : goal.text::pieces-returns
text::pieces-returns g t c = let a = g.S.Surroundings.around c.args.outside.now in
    pieces_end c.args.place c.args.all.now.items c.deref-one-items.result.now c.loop-one.one-index (joined_of (cores a c.loop-one.forms.items) c.loop-one.pending) (seen a c.loop-one.state)
    (low.pieces c.args.place (pieces_of c.args.all.now.items) [] (seen a c.args.state.now)) c.deref-one-items.ensures.value c.loop-one-test.false c.loop-one.invariant
    ∙ appended_as a (e.pending_literal c.args.place c.loop-one.pending (seen a c.loop-one.state)) c.in_ok-last.last.items (seen a c.pending_literal.new.state) c.loop-one.forms.items c.append-2.new.forms.items
    c.in_ok-last.ensures c.in_ok-append-2.ensures

pub text::interpolated-returns-in-Omitted : goal.text::interpolated-returns-in-Omitted
text::interpolated-returns-in-Omitted g t c = let a = g.S.Surroundings.around c.args.outside.now in
    interpolated_omitted c.args.place (view.value c.args.value.now) (joined a c.args.before) (seen a c.args.state.now) (ap view.value c.in-Omitted.is ∙ view_omitted)

pub text::interpolated-returns-in_err-more-in-Given : goal.text::interpolated-returns-in_err-more-in-Given
unfolding w.on
text::interpolated-returns-in_err-more-in-Given g t c = let a = g.S.Surroundings.around c.args.outside.now in
    rw (interpolated_given c.args.place (view.value c.args.value.now) c.in-Given.field-0 (view.expr c.deref.result.now) (joined a c.args.before) (seen a c.args.state.now)
    (ap view.value c.in-Given.is ∙ view_given c.in-Given.field-0 c.in-Given.given ∙ ap (λ (x : Expr). tree.given c.in-Given.field-0 (view.expr x)) (sym c.deref.ensures))) (search rules)

pub object::new_object-returns-in_err-of : goal.object::new_object-returns-in_err-of
unfolding w.on
object::new_object-returns-in_err-of g t c = let a = g.S.Surroundings.around c.args.outside.now in
    rw (new_met c.args.creation (view.type_node c.args.class.now) c.args.constructor.now (view.arguments c.args.given.now) (seen a c.args.state.now) (seen a c.meeting_constant.new.state)
    (c.meeting_constant.ensures ∙ ap (λ (m : Bool). e.meeting_constant m (seen a c.args.state.now)) c.is_constant.ensures)) (search rules)

pub object::new_object-returns-in_err-operands : goal.object::new_object-returns-in_err-operands
unfolding w.on
object::new_object-returns-in_err-operands g t c = let a = g.S.Surroundings.around c.args.outside.now in
    rw (new_met c.args.creation (view.type_node c.args.class.now) c.args.constructor.now (view.arguments c.args.given.now) (seen a c.args.state.now) (seen a c.meeting_constant.new.state)
    (c.meeting_constant.ensures ∙ ap (λ (m : Bool). e.meeting_constant m (seen a c.args.state.now)) c.is_constant.ensures)
    ∙ new_argued c.args.creation (view.type_node c.args.class.now) c.args.constructor.now (view.arguments c.args.given.now) (seen a c.meeting_constant.new.state) (typed a c.in_ok-of.of) c.in_ok-of.ensures) (search rules)

pub object::new_object-returns-in_err-made : goal.object::new_object-returns-in_err-made
unfolding w.on
object::new_object-returns-in_err-made g t c = let a = g.S.Surroundings.around c.args.outside.now in
    rw (new_met c.args.creation (view.type_node c.args.class.now) c.args.constructor.now (view.arguments c.args.given.now) (seen a c.args.state.now) (seen a c.meeting_constant.new.state)
    (c.meeting_constant.ensures ∙ ap (λ (m : Bool). e.meeting_constant m (seen a c.args.state.now)) c.is_constant.ensures)
    ∙ new_created c.args.creation (view.type_node c.args.class.now) c.args.constructor.now (view.arguments c.args.given.now) (seen a c.meeting_constant.new.state) (seen a c.arguments.new.state) (typed a c.in_ok-of.of)
    (row_of a c.in_ok-operands.operands) c.place_of_creation-place.result c.as_slice-text.result.now (word_option c.created_id-id.result)
    c.in_ok-of.ensures c.in_ok-operands.ensures c.place_of_creation-place.ensures (c.as_slice-text.ensures ∙ c.in_ok-name.ensures) c.created_id-id.ensures) (search rules)

pub object::new_object-returns : goal.object::new_object-returns
object::new_object-returns g t c = let a = g.S.Surroundings.around c.args.outside.now in
    new_met c.args.creation (view.type_node c.args.class.now) c.args.constructor.now (view.arguments c.args.given.now) (seen a c.args.state.now) (seen a c.meeting_constant.new.state)
    (c.meeting_constant.ensures ∙ ap (λ (m : Bool). e.meeting_constant m (seen a c.args.state.now)) c.is_constant.ensures)
    ∙ new_created c.args.creation (view.type_node c.args.class.now) c.args.constructor.now (view.arguments c.args.given.now) (seen a c.meeting_constant.new.state) (seen a c.arguments.new.state) (typed a c.in_ok-of.of)
    (row_of a c.in_ok-operands.operands) c.place_of_creation-place.result c.as_slice-text.result.now (word_option c.created_id-id.result)
    c.in_ok-of.ensures c.in_ok-operands.ensures c.place_of_creation-place.ensures (c.as_slice-text.ensures ∙ c.in_ok-name.ensures) c.created_id-id.ensures
    ∙ kept_as (λ (form : Core). r.evaluated form) (e.created c.place_of_creation-place.result (typed a c.in_ok-of.of) c.as_slice-text.result.now (word_option c.created_id-id.result)
    (row_of a c.in_ok-operands.operands) (seen a c.arguments.new.state)) (core a c.in_ok-made.made) (seen a c.created.new.state) c.in_ok-made.ensures

pub lower::operand-returns-in_err-target-in-Postfix-2 : goal.lower::operand-returns-in_err-target-in-Postfix-2
lower::operand-returns-in_err-target-in-Postfix-2 g t c = let a = g.S.Surroundings.around c.args.outside.now in
    let p = err_from_is_err_and c.from_residual-in_err-target-in-Postfix-2.result c.from_residual-in_err-target-in-Postfix-2.ensures.1 in
    rw (p.1, p.2) (stops (reference a) (core a) c.in_err-target-in-Postfix-2.field-0.0 (seen a c.selectors.new.state) (seen a c.selectors.new.state)
    (low.selectors c.first_of_primary-place.result (selectors_of c.in-Postfix.more.items) (reference a c.in_ok-target-in-Postfix.target) (seen a c.primary.new.state))
    (e.postfixed c.in-Postfix.operator c.first_of_primary-place.result) (low.operand (view.operand c.args.tree.now) (seen a c.args.state.now))
    (postfix_next (view.operand c.args.tree.now) (view.primary c.in-Postfix.base.value) (selectors_of c.in-Postfix.more.items) c.in-Postfix.operator c.first_of_primary-place.result
    (reference a c.in_ok-target-in-Postfix.target) (seen a c.args.state.now) (seen a c.primary.new.state)
    (ap view.operand c.in-Postfix.is ∙ view_postfix c.in-Postfix.base c.in-Postfix.more c.in-Postfix.operator)
    (c.first_of_primary-place.ensures ∙ ap (λ (x : Primary). first_of_primary (view.primary x)) c.deref-in-Postfix-2.ensures)
    (ap (λ (x : Primary). low.primary (view.primary x) (seen a c.args.state.now)) (sym c.deref-in-Postfix.ensures) ∙ c.in_ok-target-in-Postfix.ensures))
    c.in_err-target-in-Postfix-2.ensures)

pub lower::operand-returns-in_ok-target-in-Postfix-2 : goal.lower::operand-returns-in_ok-target-in-Postfix-2
lower::operand-returns-in_ok-target-in-Postfix-2 g t c = let a = g.S.Surroundings.around c.args.outside.now in
    subst (λ (walk : w.Went Core). Gives (core a) c.postfixed.result (seen a c.postfixed.new.state) walk)
    (sym (postfix_made (view.operand c.args.tree.now) (view.primary c.in-Postfix.base.value) (selectors_of c.in-Postfix.more.items) c.in-Postfix.operator c.first_of_primary-place.result
    (reference a c.in_ok-target-in-Postfix.target) (reference a c.in_ok-target-in-Postfix-2.target) (seen a c.args.state.now) (seen a c.primary.new.state) (seen a c.selectors.new.state)
    (ap view.operand c.in-Postfix.is ∙ view_postfix c.in-Postfix.base c.in-Postfix.more c.in-Postfix.operator)
    (c.first_of_primary-place.ensures ∙ ap (λ (x : Primary). first_of_primary (view.primary x)) c.deref-in-Postfix-2.ensures)
    (ap (λ (x : Primary). low.primary (view.primary x) (seen a c.args.state.now)) (sym c.deref-in-Postfix.ensures) ∙ c.in_ok-target-in-Postfix.ensures)
    c.in_ok-target-in-Postfix-2.ensures)) c.postfixed.ensures

pub lower::expr-returns-in_ok-name-in-Assign : goal.lower::expr-returns-in_ok-name-in-Assign
lower::expr-returns-in_ok-name-in-Assign g t c = let a = g.S.Surroundings.around c.args.outside.now in
    subst (λ (walk : w.Went Core). Gives (core a) c.assigning.result (seen a c.assigning.new.state) walk)
    (sym (assign_made (view.expr c.args.tree.now) (view.operand c.in-Assign.target) c.in-Assign.operator (view.expr c.in-Assign.value.value) (name_option a c.in_ok-name-in-Assign.name)
    c.first_of_operand-place.result (reference a c.in_ok-of-in-Assign.of) (seen a c.args.state.now) (seen a c.reference_of.new.state)
    (ap view.expr c.in-Assign.is ∙ view_assign c.in-Assign.target c.in-Assign.operator c.in-Assign.value) c.in_ok-of-in-Assign.ensures c.in_ok-name-in-Assign.ensures
    c.first_of_operand-place.ensures
    ∙ ap (λ (v : Expr). e.assigning (name_option a c.in_ok-name-in-Assign.name) c.first_of_operand-place.result (first_of_expr (view.expr v)) (low.expr (view.expr v))
    (reference a c.in_ok-of-in-Assign.of) (seen a c.reference_of.new.state)) (sym c.deref.ensures))) c.assigning.ensures
