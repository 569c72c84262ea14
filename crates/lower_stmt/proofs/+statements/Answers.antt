use Rattle.std.proofs.Common.{◌∙◌, ℕ, List, [], ap, sym, subst, refl, rules, false}
use Rattle.core_program.specs.declared.program.FunctionKind.TheVariants.{Inner}
use Rattle.dart_tree.specs.Tree as tree
use Rattle.dart_tree.specs.declared.statement.Function.{out-Function}
use Rattle.dart_tree.specs.Lists.{switch_parts_of, try_parts_of}
use Rattle.dart_tree.specs.View as view
use Rattle.dart_tree.proofs.Rows.{view_switch_stmt, view_the_function}
use Rattle.translation.specs.Productions as low
use Rattle.translation.specs.Statements as s
use Rattle.translation.specs.Firsts.{first_of_expr}
use Rattle.translation.specs.Surroundings.{Ty, Core, name_in}
use Rattle.translation.specs.Types as y
use Rattle.translation.specs.Walk as w
use Rattle.lower_leaf.specs.Around.{text}
use Rattle.lower_leaf.specs.Forms.{core, cores, part}
use Rattle.lower_leaf.specs.Gives.{Gives, itself}
use Rattle.lower_leaf.specs.Seen.{seen, asked}
use Rattle.lower_function.specs.Formals.{bind_formals, formals}
use Rattle.lower_function.specs.Made.{entered, parameters, signature}
use Rattle.lower_function.specs.declared.function.Head.{Head}
use Rattle.lower_stmt.specs.Parts.{local_made}
use Rattle.lower_stmt.proofs.Closed.{closed_on, inner_begun, inner_bound, inner_same}
use Rattle.lower_clause.specs.Jumps.{all_forms, case_labels}
use Rattle.lower_clause.specs.Parts.{case_kind, handled}
use Rattle.lower_stmt.proofs.Local.{local_from, local_ended}
use Rattle.lower_stmt.proofs.Looping.{loop_gives, stmt_gives, for_loop_seen, for_variables_seen, for_in_seen, while_seen, do_seen, for_in_from, for_in_made, switch_from}
use Rattle.lower_stmt.proofs.Looped.{parts_next, parts_step}
use Rattle.lower_stmt.proofs.Labelled.{labelling_from, labelling_made}
use Rattle.lower_stmt.proofs.+statements.Goals as goal

pub body::inner_function-returns : goal.body::inner_function-returns
body::inner_function-returns g t c =
    let a = g.S.Surroundings.around c.args.outside.now in
    let head : Head = record { number = c.in_ok-number.number; kind = Inner; name = c.args.name; class = c.numbered.new.state.inside.class; signature = c.args.of } in
    closed_on a c.enter_function-before.result head (text a c.args.name) (signature a c.args.of) (asked a c.args.wanted)
    (bind_formals false (formals a c.args.given.now)) (low.body (view.body c.args.tree.now))
    (seen a c.args.state.now) (seen a c.numbered.new.state) (seen a c.enter_function-before.new.state) (seen a c.bind_formals.new.state)
    (seen a c.body_of.new.state) (seen a c.close_function.new.state) c.in_ok-number.number (parameters a c.in_ok-bound.bound) (part a c.in_ok-made.made)
    c.in_ok-number.ensures
    (c.enter_function-before.ensures.inside ∙ ap (λ (x : w.Inside). entered x (seen a c.numbered.new.state)) c.in_ok-around.ensures)
    c.in_ok-bound.ensures c.in_ok-made.ensures c.in_ok-close_function.ensures
    c.enter_function-before.ensures.around c.enter_function-before.ensures.depth c.enter_function-before.ensures.targets refl refl refl refl refl

pub body::inner_function-returns-in_err-bound : goal.body::inner_function-returns-in_err-bound
unfolding w.on
body::inner_function-returns-in_err-bound g t c =
    let a = g.S.Surroundings.around c.args.outside.now in
    subst (λ (walk : w.Went ℕ). Gives itself c.from_residual-in_err-bound.result (seen a c.bind_formals.new.state) walk)
    (sym (inner_begun (text a c.args.name) (signature a c.args.of) (asked a c.args.wanted) (bind_formals false (formals a c.args.given.now)) (low.body (view.body c.args.tree.now))
    (seen a c.args.state.now) (seen a c.numbered.new.state) (seen a c.enter_function-before.new.state) c.in_ok-number.number c.in_ok-number.ensures
    (c.enter_function-before.ensures.inside ∙ ap (λ (x : w.Inside). entered x (seen a c.numbered.new.state)) c.in_ok-around.ensures))) (search rules)

pub body::inner_function-returns-in_err-made : goal.body::inner_function-returns-in_err-made
unfolding w.on
body::inner_function-returns-in_err-made g t c =
    let a = g.S.Surroundings.around c.args.outside.now in
    subst (λ (walk : w.Went ℕ). Gives itself c.from_residual-in_err-made.result (seen a c.body_of.new.state) walk)
    (sym (inner_bound (text a c.args.name) (signature a c.args.of) (asked a c.args.wanted) (bind_formals false (formals a c.args.given.now)) (low.body (view.body c.args.tree.now))
    (seen a c.args.state.now) (seen a c.numbered.new.state) (seen a c.enter_function-before.new.state) (seen a c.bind_formals.new.state) c.in_ok-number.number
    (parameters a c.in_ok-bound.bound) c.in_ok-number.ensures
    (c.enter_function-before.ensures.inside ∙ ap (λ (x : w.Inside). entered x (seen a c.numbered.new.state)) c.in_ok-around.ensures) c.in_ok-bound.ensures)) (search rules)

pub body::local_made-returns : goal.body::local_made-returns
body::local_made-returns g t c =
    let a = g.S.Surroundings.around c.args.outside.now in
    let st = seen a c.args.state.now in
    let made = out-Function c.args.tree.now in
    subst (λ (x : tree.Function). Gives itself c.inner_function.result (seen a c.inner_function.new.state) (local_made (text a c.args.name) x st)) (sym (view_the_function c.args.tree.now))
    (subst (λ (walk : w.Went ℕ). Gives itself c.inner_function.result (seen a c.inner_function.new.state) walk)
    (inner_same (text a c.args.name) (text a c.args.name) (signature a c.in_ok-of.of) (y.function_type st (y.result_type st (view.result_option made.result_type)) (view.parameters made.parameters))
    (asked a c.in_ok-wanted.wanted) (y.asked_of_result st (view.result_option made.result_type)) (formals a c.in_ok-given.given) st (view.parameters made.parameters) (low.body (view.body made.body)) st
    refl (c.in_ok-of.ensures ∙ ap (λ (x : Ty). y.function_type st x (view.parameters made.parameters)) c.in_ok-answer.ensures) c.in_ok-wanted.ensures c.in_ok-given.ensures)
    c.inner_function.ensures)

pub statement::labelling-returns : goal.statement::labelling-returns
statement::labelling-returns g t c =
    let a = g.S.Surroundings.around c.args.outside.now in
    labelling_made c.args.labels.items (low.stmt (view.stmt c.args.tree.now) []) (seen a c.args.state.now) (seen a c.enter_target.new.state) (seen a c.statement-2.new.state)
    (seen a c.leave_target.new.state) c.args.labels.len c.in_ok-number.number c.in_ok-depth.depth c.is_empty.result (cores a c.in_ok-forms.forms.items) (cores a c.in_ok-labelled_forms.field-0.items)
    c.args.labels.ok.0 c.is_empty.ensures c.if-is_empty.false c.in_ok-number.ensures c.in_ok-depth.ensures.depth c.in_ok-depth.ensures.target c.in_ok-forms.ensures c.leave_target.ensures
    c.in_ok-labelled_forms.ensures

pub statement::labelling-returns-in_err-forms : goal.statement::labelling-returns-in_err-forms
unfolding w.on
statement::labelling-returns-in_err-forms g t c =
    let a = g.S.Surroundings.around c.args.outside.now in
    rw (labelling_from c.args.labels.items (low.stmt (view.stmt c.args.tree.now) []) (seen a c.args.state.now) (seen a c.enter_target.new.state) c.args.labels.len c.is_empty.result
    c.args.labels.ok.0 c.is_empty.ensures c.if-is_empty.false c.in_ok-depth.ensures.target) (search rules)

pub attempt::try_parts-loop-one-preserved : goal.attempt::try_parts-loop-one-preserved
attempt::try_parts-loop-one-preserved g t c =
    let a = g.S.Surroundings.around c.args.outside.now in
    parts_step c.args.parts.now.items c.deref-one-items.result.now c.loop-one.one-index c.one-item.result (handled a c.loop-one.found) (handled a c.in_ok-found.found)
    (seen a c.loop-one.state) (seen a c.try_part.new.state) (low.try_parts (try_parts_of c.args.parts.now.items) (seen a c.args.state.now))
    c.deref-one-items.ensures.value c.loop-one-test.true c.one-item.is c.loop-one.invariant c.in_ok-found.ensures

pub attempt::try_parts-returns-in_err-found : goal.attempt::try_parts-returns-in_err-found
unfolding w.on
attempt::try_parts-returns-in_err-found g t c =
    let a = g.S.Surroundings.around c.args.outside.now in
    subst (λ (walk : w.Went s.TryParts). Gives (handled a) c.from_residual.result (seen a c.try_part.new.state) walk)
    (sym (parts_next c.args.parts.now.items c.deref-one-items.result.now c.loop-one.one-index c.one-item.result (handled a c.loop-one.found)
    (seen a c.loop-one.state) (low.try_parts (try_parts_of c.args.parts.now.items) (seen a c.args.state.now))
    c.deref-one-items.ensures.value c.loop-one-test.true c.one-item.is c.loop-one.invariant)) (search rules)

pub iterate::loop_of-returns-in-For : goal.iterate::loop_of-returns-in-For
iterate::loop_of-returns-in-For g t c =
    let a = g.S.Surroundings.around c.args.outside.now in
    loop_gives (all_forms a) c.for_loop.result (seen a c.args.state.now) (seen a c.for_loop.new.state) c.args.labels.items c.args.tree.now _
    (for_loop_seen c.args.tree.now c.in-For.word c.in-For.opening c.in-For.start c.in-For.first_semicolon c.in-For.condition c.in-For.second_semicolon c.in-For.updates c.in-For.closing c.in-For.body c.deref.result.now c.in-For.is c.deref.ensures)
    c.for_loop.ensures

pub iterate::loop_of-returns-in-ForVariables : goal.iterate::loop_of-returns-in-ForVariables
iterate::loop_of-returns-in-ForVariables g t c =
    let a = g.S.Surroundings.around c.args.outside.now in
    loop_gives (all_forms a) c.for_variables.result (seen a c.args.state.now) (seen a c.for_variables.new.state) c.args.labels.items c.args.tree.now _
    (for_variables_seen c.args.tree.now c.in-ForVariables.word c.in-ForVariables.opening c.in-ForVariables.variables c.in-ForVariables.condition c.in-ForVariables.semicolon c.in-ForVariables.updates c.in-ForVariables.closing c.in-ForVariables.body c.deref-in-ForVariables.result.now c.in-ForVariables.is c.deref-in-ForVariables.ensures)
    c.for_variables.ensures

pub iterate::loop_of-returns-in-ForIn : goal.iterate::loop_of-returns-in-ForIn
iterate::loop_of-returns-in-ForIn g t c =
    let a = g.S.Surroundings.around c.args.outside.now in
    loop_gives (all_forms a) c.for_in.result (seen a c.args.state.now) (seen a c.for_in.new.state) c.args.labels.items c.args.tree.now _
    (for_in_seen c.args.tree.now c.in-ForIn.word c.in-ForIn.opening c.in-ForIn.kind c.in-ForIn.name c.in-ForIn.in_word c.in-ForIn.iterated c.in-ForIn.closing c.in-ForIn.body c.deref-in-ForIn.result.now c.in-ForIn.is c.deref-in-ForIn.ensures)
    c.for_in.ensures

pub iterate::loop_of-returns-in-While : goal.iterate::loop_of-returns-in-While
iterate::loop_of-returns-in-While g t c =
    let a = g.S.Surroundings.around c.args.outside.now in
    loop_gives (all_forms a) c.while_loop.result (seen a c.args.state.now) (seen a c.while_loop.new.state) c.args.labels.items c.args.tree.now _
    (while_seen c.args.tree.now c.in-While.word c.in-While.opening c.in-While.condition c.in-While.closing c.in-While.body c.deref-in-While.result.now c.in-While.is c.deref-in-While.ensures)
    c.while_loop.ensures

pub iterate::loop_of-returns-in-Do : goal.iterate::loop_of-returns-in-Do
iterate::loop_of-returns-in-Do g t c =
    let a = g.S.Surroundings.around c.args.outside.now in
    loop_gives (all_forms a) c.do_loop.result (seen a c.args.state.now) (seen a c.do_loop.new.state) c.args.labels.items c.args.tree.now _
    (do_seen c.args.tree.now c.in-Do.word c.in-Do.body c.in-Do.while_word c.in-Do.opening c.in-Do.condition c.in-Do.closing c.in-Do.semicolon c.deref-in-Do.result.now c.in-Do.is c.deref-in-Do.ensures)
    c.do_loop.ensures

pub statement::behind_labels-returns-in-Switch : goal.statement::behind_labels-returns-in-Switch
statement::behind_labels-returns-in-Switch g t c =
    let a = g.S.Surroundings.around c.args.outside.now in
    stmt_gives (all_forms a) c.switch.result (seen a c.args.state.now) (seen a c.switch.new.state) c.args.labels.items c.args.tree.now _
    (ap view.stmt c.in-Switch.is ∙ view_switch_stmt c.in-Switch.word c.in-Switch.opening c.in-Switch.value c.in-Switch.closing c.in-Switch.opening_brace c.in-Switch.parts c.in-Switch.closing_brace)
    c.switch.ensures

pub iterate::for_in-returns : goal.iterate::for_in-returns
iterate::for_in-returns g t c =
    let a = g.S.Surroundings.around c.args.outside.now in
    for_in_made c.args.labels.items c.args.place (first_of_expr (view.expr c.args.iterated.now)) c.first_of_expr.result (low.expr (view.expr c.args.iterated.now)) (y.word_of c.args.name.now)
    (view.variable_kind c.args.kind.now) (low.stmt (view.stmt c.args.body.now) []) (seen a c.args.state.now) (seen a c.expr.new.state) (seen a c.fresh.new.state)
    (seen a c.enter_target.new.state) (seen a c.moved.new.state) (seen a c.turn.new.state) (seen a c.leave_target.new.state) (core a c.in_ok-form.form) (core a c.in_ok-test.test) (core a c.in_ok-body.body) (core a c.in_ok-made.made)
    c.in_ok-t.t c.in_ok-number.number c.in_ok-around.around (asked a c.in_ok-wanted.wanted) (cores a c.in_ok-alone.field-0.items)
    c.first_of_expr.ensures c.in_ok-wanted.ensures c.in_ok-form.ensures c.in_ok-t.ensures c.in_ok-around.ensures.target c.in_ok-test.ensures c.in_ok-body.ensures
    c.in_ok-number.ensures c.in_ok-around.ensures.depth c.leave_target.ensures c.in_ok-alone.ensures c.in_ok-made.ensures

pub iterate::for_in-returns-in_err-body : goal.iterate::for_in-returns-in_err-body
unfolding w.on
iterate::for_in-returns-in_err-body g t c =
    let a = g.S.Surroundings.around c.args.outside.now in
    subst (λ (walk : w.Went (List Core)). Gives (all_forms a) c.from_residual-in_err-body.result (seen a c.turn.new.state) walk)
    (sym (for_in_from c.args.labels.items c.args.place (first_of_expr (view.expr c.args.iterated.now)) c.first_of_expr.result (low.expr (view.expr c.args.iterated.now)) (y.word_of c.args.name.now)
    (view.variable_kind c.args.kind.now) (low.stmt (view.stmt c.args.body.now) []) (seen a c.args.state.now) (seen a c.expr.new.state) (seen a c.fresh.new.state)
    (seen a c.enter_target.new.state) (seen a c.moved.new.state) (core a c.in_ok-form.form) (core a c.in_ok-test.test) c.in_ok-t.t (asked a c.in_ok-wanted.wanted)
    c.first_of_expr.ensures c.in_ok-wanted.ensures c.in_ok-form.ensures c.in_ok-t.ensures c.in_ok-around.ensures.target c.in_ok-test.ensures)) (search rules)

pub choose::switch-returns-in_err-all : goal.choose::switch-returns-in_err-all
unfolding w.on
choose::switch-returns-in_err-all g t c =
    let a = g.S.Surroundings.around c.args.outside.now in
    subst (λ (walk : w.Went (List Core)). Gives (all_forms a) c.from_residual-in_err-all.result (seen a c.cases.new.state) walk)
    (sym (switch_from c.args.labels.items c.args.place (first_of_expr (view.expr c.args.value.now)) c.first_of_expr-at.result (switch_parts_of c.args.parts.now.items)
    (low.expr (view.expr c.args.value.now)) (seen a c.args.state.now) (seen a c.expr.new.state) (seen a c.checked.new.state) (seen a c.enter_target.new.state)
    (core a c.in_ok-form.form) (core a c.in_ok-form-2.form) (case_kind c.in_ok-kind.kind) (asked a c.asked_of_cases-wanted.result) (case_labels c.in_ok-cases_labels.cases_labels)
    c.first_of_expr-at.ensures c.in_ok-kind.ensures c.asked_of_cases-wanted.ensures c.in_ok-cases_labels.ensures c.in_ok-form.ensures c.in_ok-form-2.ensures
    c.in_ok-around.ensures.target)) (search rules)

pub body::local_function-returns : goal.body::local_function-returns
body::local_function-returns g t c =
    let a = g.S.Surroundings.around c.args.outside.now in
    local_ended c.args.tree.now (seen a c.args.state.now) (seen a c.declared.new.state) (seen a c.local_made.new.state) c.place_of-place.result c.in_ok-text.text (text a c.in_ok-name.name) (asked a c.unasked.result) c.in_ok-x.x c.in_ok-number.number (core a c.closure-made.result) (core a c.in_ok-form.form) (cores a c.in_ok-alone.field-0.items)
    c.place_of-place.ensures (c.in_ok-text.ensures ∙ c.text_of-2.ensures) (c.in_ok-name.ensures ∙ ap (name_in (seen a c.args.state.now).names.library) c.text_of.ensures)
    (c.unasked.ensures a) c.in_ok-x.ensures c.in_ok-number.ensures
    c.in_ok-alone.ensures c.in_ok-form.ensures c.closure-made.ensures

pub body::local_function-returns-in_err-number : goal.body::local_function-returns-in_err-number
unfolding w.on
body::local_function-returns-in_err-number g t c =
    let a = g.S.Surroundings.around c.args.outside.now in
    subst (λ (walk : w.Went (List Core)). Gives (all_forms a) c.from_residual-in_err-number.result (seen a c.local_made.new.state) walk)
    (sym (local_from c.args.tree.now (seen a c.args.state.now) (seen a c.declared.new.state) c.place_of-place.result c.in_ok-text.text (text a c.in_ok-name.name) (asked a c.unasked.result) c.in_ok-x.x
    c.place_of-place.ensures (c.in_ok-text.ensures ∙ c.text_of-2.ensures) (c.in_ok-name.ensures ∙ ap (name_in (seen a c.args.state.now).names.library) c.text_of.ensures)
    (c.unasked.ensures a) c.in_ok-x.ensures)) (search rules)
