use Rattle.std.proofs.Common.{◌≡◌, ◌∙◌, List, true, false, sym, ap}
use Rattle.dart_tree.specs.declared.statement.Loop.{Loop}
use Rattle.dart_tree.specs.declared.statement.Stmt.{Stmt}
use Rattle.dart_tree.specs.declared.statement.TryPart.{TryPart}
use Rattle.dart_tree.specs.Lists.{try_parts_of}
use Rattle.dart_tree.specs.Tree as tree
use Rattle.dart_tree.specs.View as view
use Rattle.dart_tree.proofs.Rows.{view_labelled, view_if_stmt, view_if_else, view_loop, view_try_stmt, view_for_loop, view_for_variables, view_for_in, view_while_loop, view_do_loop}
use Rattle.syntax_readers.specs.Statements.{open_try, open_try_in, ends_open}
use Rattle.parse_block.specs.Views.{room_of}
use Rattle.parse_block.proofs.Ends.{open_behind, room_inside, room_here, no_room}
use Rattle.parse_block.proofs.edge.+rooms.Goals as goal

pub type_room-returns-in-Labelled : goal.type_room-returns-in-Labelled
type_room-returns-in-Labelled t c =
    let d = c.args.depth in
    c.type_room.ensures ∙ ap (λ (x : Stmt). room_of d (open_try (view.stmt x))) c.deref.ensures
    ∙ sym (ap (λ (x : Stmt). room_of d (open_try (view.stmt x))) c.in-Labelled.is ∙ ap (λ (x : tree.Stmt). room_of d (open_try x)) (view_labelled c.in-Labelled.field-0 c.in-Labelled.body)
    ∙ ap (room_of d) (open_behind c.in-Labelled.field-0.items (view.stmt c.in-Labelled.body.value)))

pub type_room-returns-in-If : goal.type_room-returns-in-If
unfolding open_try
type_room-returns-in-If t c =
    let d = c.args.depth in
    let m = c.saturating_sub-inside.result in
    room_inside d m (open_try (view.stmt c.in-If.first.value)) c.type_room-in-If.result c.saturating_sub-inside.ensures
    (c.type_room-in-If.ensures ∙ ap (λ (x : Stmt). room_of m (open_try (view.stmt x))) c.deref-in-If.ensures)
    ∙ sym (ap (λ (x : Stmt). room_of d (open_try (view.stmt x))) c.in-If.is ∙ ap (λ (x : tree.Stmt). room_of d (open_try x)) (view_if_stmt c.in-If.word c.in-If.opening c.in-If.condition c.in-If.closing c.in-If.first))

pub type_room-returns-in-IfElse : goal.type_room-returns-in-IfElse
unfolding open_try
type_room-returns-in-IfElse t c =
    let d = c.args.depth in
    let m = c.saturating_sub-inside.result in
    room_inside d m (open_try (view.stmt c.in-IfElse.second.value)) c.type_room-in-IfElse.result c.saturating_sub-inside.ensures
    (c.type_room-in-IfElse.ensures ∙ ap (λ (x : Stmt). room_of m (open_try (view.stmt x))) c.deref-in-IfElse.ensures)
    ∙ sym (ap (λ (x : Stmt). room_of d (open_try (view.stmt x))) c.in-IfElse.is ∙ ap (λ (x : tree.Stmt). room_of d (open_try x)) (view_if_else c.in-IfElse.word c.in-IfElse.opening c.in-IfElse.condition c.in-IfElse.closing c.in-IfElse.first c.in-IfElse.else_word c.in-IfElse.second))

pub type_room-returns-in-Loop : goal.type_room-returns-in-Loop
unfolding open_try
type_room-returns-in-Loop t c =
    let d = c.args.depth in
    c.type_room_in.ensures ∙ ap (λ (x : Loop). room_of d (open_try_in (view.loop x))) c.deref-in-Loop.ensures
    ∙ sym (ap (λ (x : Stmt). room_of d (open_try (view.stmt x))) c.in-Loop.is ∙ ap (λ (x : tree.Stmt). room_of d (open_try x)) (view_loop c.in-Loop.tree))

pub type_room-returns-then-ends_open : goal.type_room-returns-then-ends_open
unfolding open_try
type_room-returns-then-ends_open t c =
    let d = c.args.depth in
    let on : ends_open (try_parts_of c.in-Try.parts.items) ≡ true = sym (c.ends_open.ensures ∙ ap (λ (l : List TryPart). ends_open (try_parts_of l)) c.deref-in-Try.ensures.value) ∙ c.if-ends_open.true in
    room_here d c.saturating_sub-inside.result (ends_open (try_parts_of c.in-Try.parts.items)) c.saturating_sub-inside.ensures on
    ∙ sym (ap (λ (x : Stmt). room_of d (open_try (view.stmt x))) c.in-Try.is ∙ ap (λ (x : tree.Stmt). room_of d (open_try x)) (view_try_stmt c.in-Try.word c.in-Try.block c.in-Try.parts))

pub type_room-returns-else-ends_open : goal.type_room-returns-else-ends_open
unfolding open_try
type_room-returns-else-ends_open t c =
    let d = c.args.depth in
    let on : ends_open (try_parts_of c.in-Try.parts.items) ≡ false = sym (c.ends_open.ensures ∙ ap (λ (l : List TryPart). ends_open (try_parts_of l)) c.deref-in-Try.ensures.value) ∙ c.if-ends_open.false in
    no_room d (ends_open (try_parts_of c.in-Try.parts.items)) on
    ∙ sym (ap (λ (x : Stmt). room_of d (open_try (view.stmt x))) c.in-Try.is ∙ ap (λ (x : tree.Stmt). room_of d (open_try x)) (view_try_stmt c.in-Try.word c.in-Try.block c.in-Try.parts))

pub type_room_in-returns-in-For : goal.type_room_in-returns-in-For
unfolding open_try_in
type_room_in-returns-in-For t c =
    let d = c.args.depth in
    let m = c.saturating_sub-inside.result in
    room_inside d m (open_try (view.stmt c.in-For.body.value)) c.type_room.result c.saturating_sub-inside.ensures
    (c.type_room.ensures ∙ ap (λ (x : Stmt). room_of m (open_try (view.stmt x))) c.deref.ensures)
    ∙ sym (ap (λ (x : Loop). room_of d (open_try_in (view.loop x))) c.in-For.is ∙ ap (λ (x : tree.Loop). room_of d (open_try_in x)) (view_for_loop c.in-For.word c.in-For.opening c.in-For.start c.in-For.first_semicolon c.in-For.condition c.in-For.second_semicolon c.in-For.updates c.in-For.closing c.in-For.body))

pub type_room_in-returns-in-ForVariables : goal.type_room_in-returns-in-ForVariables
unfolding open_try_in
type_room_in-returns-in-ForVariables t c =
    let d = c.args.depth in
    let m = c.saturating_sub-inside.result in
    room_inside d m (open_try (view.stmt c.in-ForVariables.body.value)) c.type_room-in-ForVariables.result c.saturating_sub-inside.ensures
    (c.type_room-in-ForVariables.ensures ∙ ap (λ (x : Stmt). room_of m (open_try (view.stmt x))) c.deref-in-ForVariables.ensures)
    ∙ sym (ap (λ (x : Loop). room_of d (open_try_in (view.loop x))) c.in-ForVariables.is ∙ ap (λ (x : tree.Loop). room_of d (open_try_in x)) (view_for_variables c.in-ForVariables.word c.in-ForVariables.opening c.in-ForVariables.variables c.in-ForVariables.condition c.in-ForVariables.semicolon c.in-ForVariables.updates c.in-ForVariables.closing c.in-ForVariables.body))

pub type_room_in-returns-in-ForIn : goal.type_room_in-returns-in-ForIn
unfolding open_try_in
type_room_in-returns-in-ForIn t c =
    let d = c.args.depth in
    let m = c.saturating_sub-inside.result in
    room_inside d m (open_try (view.stmt c.in-ForIn.body.value)) c.type_room-in-ForIn.result c.saturating_sub-inside.ensures
    (c.type_room-in-ForIn.ensures ∙ ap (λ (x : Stmt). room_of m (open_try (view.stmt x))) c.deref-in-ForIn.ensures)
    ∙ sym (ap (λ (x : Loop). room_of d (open_try_in (view.loop x))) c.in-ForIn.is ∙ ap (λ (x : tree.Loop). room_of d (open_try_in x)) (view_for_in c.in-ForIn.word c.in-ForIn.opening c.in-ForIn.kind c.in-ForIn.name c.in-ForIn.in_word c.in-ForIn.iterated c.in-ForIn.closing c.in-ForIn.body))

pub type_room_in-returns-in-While : goal.type_room_in-returns-in-While
unfolding open_try_in
type_room_in-returns-in-While t c =
    let d = c.args.depth in
    let m = c.saturating_sub-inside.result in
    room_inside d m (open_try (view.stmt c.in-While.body.value)) c.type_room-in-While.result c.saturating_sub-inside.ensures
    (c.type_room-in-While.ensures ∙ ap (λ (x : Stmt). room_of m (open_try (view.stmt x))) c.deref-in-While.ensures)
    ∙ sym (ap (λ (x : Loop). room_of d (open_try_in (view.loop x))) c.in-While.is ∙ ap (λ (x : tree.Loop). room_of d (open_try_in x)) (view_while_loop c.in-While.word c.in-While.opening c.in-While.condition c.in-While.closing c.in-While.body))

pub type_room_in-returns-in-Do : goal.type_room_in-returns-in-Do
unfolding open_try_in
type_room_in-returns-in-Do t c =
    let d = c.args.depth in
    sym (ap (λ (x : Loop). room_of d (open_try_in (view.loop x))) c.in-Do.is ∙ ap (λ (x : tree.Loop). room_of d (open_try_in x)) (view_do_loop c.in-Do.word c.in-Do.body c.in-Do.while_word c.in-Do.opening c.in-Do.condition c.in-Do.closing c.in-Do.semicolon))
