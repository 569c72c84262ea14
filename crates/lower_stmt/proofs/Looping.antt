-- What the trees of loops and of a switch are, and for-in and switch from where their bodies begin.
use Rattle.std.proofs.Common.{◌≡◌, ◌∙◌, ℕ, List, [], ◌∷◌, Vec, Box, Global, Result, length, codes, sym, ap, subst}
use Rattle.dart_base.specs.declared.place.Place.{Place}
use Rattle.dart_ir.specs.declared.kind.SiteKind.TheVariants as kind
use Rattle.dart_tree.specs.Lists.{items_of}
use Rattle.dart_tree.specs.Tree as t
use Rattle.dart_tree.specs.Types as ty
use Rattle.dart_tree.specs.View as view
use Rattle.dart_tree.specs.declared.expression.Expr.{Expr}
use Rattle.dart_tree.specs.declared.expression.Item.{Item}
use Rattle.dart_tree.specs.declared.expression.Value.{Value}
use Rattle.dart_tree.specs.declared.identifier.Identifier.{Identifier}
use Rattle.dart_tree.specs.declared.parameter.VariableKind.{VariableKind}
use Rattle.dart_tree.specs.declared.statement.Loop.{Loop}
use Rattle.dart_tree.specs.declared.statement.Loop.TheVariants as l
use Rattle.dart_tree.specs.declared.statement.Stmt.{Stmt}
use Rattle.dart_tree.specs.declared.statement.Variables.{Variables}
use Rattle.dart_tree.proofs.Rows.{view_for_loop, view_for_variables, view_for_in, view_while_loop, view_do_loop}
use Rattle.core_program.specs.Core as c
use Rattle.translation.specs.Productions as low
use Rattle.translation.specs.References as r
use Rattle.translation.specs.Statements as s
use Rattle.translation.specs.Surroundings.{Text, Core}
use Rattle.translation.specs.Types as y
use Rattle.translation.specs.Walk as w
use Rattle.lower_leaf.specs.Gives.{Gives}
use Rattle.lower_leaf.specs.declared.fault.LowerFault.{LowerFault}
use Rattle.lower_clause.specs.Jumps.{with_target, left_targets}
use Rattle.lower_stmt.specs.Parts.{for_in, for_in_core, turn}

-- ---- trees

pub loop_gives : {X : Type 0} (f : X → List Core) (result : Result X LowerFault) (before after : w.State) (labels : List Text) (code : Loop) (tree : t.Loop) →
    view.loop code ≡ tree → Gives f result after (low.loop tree labels before) → Gives f result after (low.loop (view.loop code) labels before)
loop_gives f result before after labels code tree is gives =
    subst (λ (x : t.Loop). Gives f result after (low.loop x labels before)) (sym is) gives

pub stmt_gives : {X : Type 0} (f : X → List Core) (result : Result X LowerFault) (before after : w.State) (labels : List Text) (code : Stmt) (tree : t.Stmt) →
    view.stmt code ≡ tree → Gives f result after (low.stmt tree labels before) → Gives f result after (low.stmt (view.stmt code) labels before)
stmt_gives f result before after labels code tree is gives =
    subst (λ (x : t.Stmt). Gives f result after (low.stmt x labels before)) (sym is) gives

pub for_loop_seen : (code : Loop) (word opening : Place) (start : Value) (first_semicolon : Place) (condition : Value) (semicolon : Place) (updates : Vec Item Global)
    (closing : Place) (inner : Box Stmt Global) (body : Stmt) → code ≡ l.For word opening start first_semicolon condition semicolon updates closing inner → body ≡ inner.value →
    view.loop code ≡ t.for_loop word opening (view.value start) first_semicolon (view.value condition) semicolon (items_of updates.items) closing (view.stmt body)
for_loop_seen code word opening start first_semicolon condition semicolon updates closing inner body is same =
    ap view.loop is ∙ view_for_loop word opening start first_semicolon condition semicolon updates closing inner
    ∙ ap (λ (b : Stmt). t.for_loop word opening (view.value start) first_semicolon (view.value condition) semicolon (items_of updates.items) closing (view.stmt b)) (sym same)

pub for_variables_seen : (code : Loop) (word opening : Place) (declared : Variables) (condition : Value) (semicolon : Place) (updates : Vec Item Global)
    (closing : Place) (inner : Box Stmt Global) (body : Stmt) → code ≡ l.ForVariables word opening declared condition semicolon updates closing inner → body ≡ inner.value →
    view.loop code ≡ t.for_variables word opening (view.variables declared) (view.value condition) semicolon (items_of updates.items) closing (view.stmt body)
for_variables_seen code word opening declared condition semicolon updates closing inner body is same =
    ap view.loop is ∙ view_for_variables word opening declared condition semicolon updates closing inner
    ∙ ap (λ (b : Stmt). t.for_variables word opening (view.variables declared) (view.value condition) semicolon (items_of updates.items) closing (view.stmt b)) (sym same)

pub for_in_seen : (code : Loop) (word opening : Place) (kind : VariableKind) (name : Identifier) (inside : Place) (given : Expr) (closing : Place)
    (inner : Box Stmt Global) (body : Stmt) → code ≡ l.ForIn word opening kind name inside given closing inner → body ≡ inner.value →
    view.loop code ≡ t.for_in word opening (view.variable_kind kind) name inside (view.expr given) closing (view.stmt body)
for_in_seen code word opening kind name inside given closing inner body is same =
    ap view.loop is ∙ view_for_in word opening kind name inside given closing inner
    ∙ ap (λ (b : Stmt). t.for_in word opening (view.variable_kind kind) name inside (view.expr given) closing (view.stmt b)) (sym same)

pub while_seen : (code : Loop) (word opening : Place) (condition : Expr) (closing : Place) (inner : Box Stmt Global) (body : Stmt) →
    code ≡ l.While word opening condition closing inner → body ≡ inner.value →
    view.loop code ≡ t.while_loop word opening (view.expr condition) closing (view.stmt body)
while_seen code word opening condition closing inner body is same =
    ap view.loop is ∙ view_while_loop word opening condition closing inner
    ∙ ap (λ (b : Stmt). t.while_loop word opening (view.expr condition) closing (view.stmt b)) (sym same)

pub do_seen : (code : Loop) (word : Place) (inner : Box Stmt Global) (again opening : Place) (condition : Expr) (closing semicolon : Place) (body : Stmt) →
    code ≡ l.Do word inner again opening condition closing semicolon → body ≡ inner.value →
    view.loop code ≡ t.do_loop word (view.stmt body) again opening (view.expr condition) closing semicolon
do_seen code word inner again opening condition closing semicolon body is same =
    ap view.loop is ∙ view_do_loop word inner again opening condition closing semicolon
    ∙ ap (λ (b : Stmt). t.do_loop word (view.stmt b) again opening (view.expr condition) closing semicolon) (sym same)

-- ---- for-in

abbrev behind_test : Place → ℕ → w.Walk Core → Core → w.Walk Core
behind_test place number turns test st = w.on (turns st) (λ body after. w.went (s.loop place number [] (c.given test) c.missing (c.given body)) after)

abbrev left_behind : w.State → w.Went Core → w.Went Core
left_behind around walk = w.on walk (λ form after. w.went form (left_targets (length around.targets) after))

abbrev let_behind : Place → ℕ → Core → w.Went Core → w.Went Core
let_behind place x form walk = w.on (w.on walk w.went) (λ inner after. w.went (c.at place (c.let_in x (s.get place form (codes "iterator")) inner)) after)

abbrev alone_behind : w.Went Core → w.Went (List Core)
alone_behind walk = w.on walk (λ form after. w.went (form ∷ []) after)

abbrev move : Place → Place → ℕ → w.Walk Core
move place at x st = w.tested at (r.send place (r.variable place x) (codes "moveNext") (r.by_place [])) st

abbrev pub turned : Place → ℕ → ℕ → Core → Core → w.State → w.Went Core → w.Went (List Core)
turned place number x form test around walk = alone_behind (let_behind place x form (left_behind around
    (w.on walk (λ body after. w.went (s.loop place number [] (c.given test) c.missing (c.given body)) after))))

-- the loop, from where its variable is numbered
abbrev in_loop : List Text → Place → Place → y.PlacedName → w.Asked → ty.VariableKind → w.Walk (List Core) → ℕ → Core → w.Went ℕ → w.Went (List Core)
in_loop labels place at name asked of body number form walk = alone_behind (w.on walk (λ x after. let_behind place x form (left_behind after
    (w.on (move place at x (with_target (record { labels = labels; kind = w.a_loop }) after))
    (behind_test place number (turn place (s.next place name asked of) body (r.variable place x)))))))

-- from where the first turn begins
pub for_in_from : (labels : List Text) (place at at2 : Place) (operand : w.Walk Core) (name : y.PlacedName) (of : ty.VariableKind) (body : w.Walk (List Core))
    (st st1 st2 st3 st4 : w.State) (form test : Core) (x : ℕ) (asked : w.Asked) → at2 ≡ at → asked ≡ y.asked_of_kind st of →
    operand st ≡ w.went form st1 → w.fresh st1 ≡ w.went x st2 → st3 ≡ with_target (record { labels = labels; kind = w.a_loop }) st2 →
    move place at2 x st3 ≡ w.went test st4 →
    for_in labels place at operand name of body st
    ≡ turned place (length st.targets) x form test st2 (turn place (s.next place name asked of) body (r.variable place x) st4)
unfolding w.on
for_in_from labels place at at2 operand name of body st st1 st2 st3 st4 form test x asked eat ea e1 e2 e3 e4 =
    let n = length st.targets in
    let turns = turn place (s.next place name asked of) body (r.variable place x) in
    ap (λ (z : w.Asked). s.for_in_form labels place at operand (s.next place name z of) body st) (sym ea)
    ∙ ap (λ (z : Place). s.for_in_form labels place z operand (s.next place name asked of) body st) (sym eat)
    ∙ ap (λ (q : w.Went Core). w.on q (λ form after. in_loop labels place at2 name asked of body n form (w.fresh after))) e1
    ∙ ap (λ (q : w.Went ℕ). in_loop labels place at2 name asked of body n form q) e2
    ∙ ap (λ (z : w.State). alone_behind (let_behind place x form (left_behind st2 (w.on (move place at2 x z) (behind_test place n turns))))) (sym e3)
    ∙ ap (λ (q : w.Went Core). alone_behind (let_behind place x form (left_behind st2 (w.on q (behind_test place n turns))))) e4

-- to where it ends
pub for_in_made : (labels : List Text) (place at at2 : Place) (operand : w.Walk Core) (name : y.PlacedName) (of : ty.VariableKind) (body : w.Walk (List Core))
    (st st1 st2 st3 st4 st5 end : w.State) (form test inner built : Core) (x number depth : ℕ) (asked : w.Asked) (made : List Core) → at2 ≡ at → asked ≡ y.asked_of_kind st of →
    operand st ≡ w.went form st1 → w.fresh st1 ≡ w.went x st2 → st3 ≡ with_target (record { labels = labels; kind = w.a_loop }) st2 →
    move place at2 x st3 ≡ w.went test st4 → turn place (s.next place name asked of) body (r.variable place x) st4 ≡ w.went inner st5 →
    number ≡ length st.targets → depth ≡ length st2.targets → end ≡ left_targets depth st5 → made ≡ built ∷ [] → built ≡ for_in_core place number x form test inner →
    for_in labels place at operand name of body st ≡ w.went made end
unfolding w.on
for_in_made labels place at at2 operand name of body st st1 st2 st3 st4 st5 end form test inner built x number depth asked made eat ea e1 e2 e3 e4 e5 en ed ends is core =
    for_in_from labels place at at2 operand name of body st st1 st2 st3 st4 form test x asked eat ea e1 e2 e3 e4
    ∙ ap (λ (q : w.Went Core). turned place (length st.targets) x form test st2 q) e5
    ∙ ap (λ (n : ℕ). w.went (for_in_core place n x form test inner ∷ []) (left_targets (length st2.targets) st5)) (sym en)
    ∙ ap (λ (n : ℕ). w.went (for_in_core place number x form test inner ∷ []) (left_targets n st5)) (sym ed)
    ∙ ap (λ (z : w.State). w.went (for_in_core place number x form test inner ∷ []) z) (sym ends)
    ∙ ap (λ (z : Core). w.went (z ∷ []) end) (sym core)
    ∙ ap (λ (z : List Core). w.went z end) (sym is)

-- ---- switch

abbrev pub switched : Place → ℕ → Core → w.State → w.Went (List (c.Case Text)) → w.Went (List Core)
switched place number form around walk =
    w.on (w.on walk (λ all after. w.went all (left_targets (length around.targets) after)))
    (λ all after. w.went (c.at place (c.switch number form (c.cases all)) ∷ []) after)

-- from where its value is known
abbrev on_cases : List Text → Place → s.CaseKind → List (List Text) → t.SwitchParts → ℕ → w.Went Core → w.Went (List Core)
on_cases labels place k all parts number walk = w.on walk (λ form after. switched place number form after
    (low.cases place k parts (with_target (record { labels = labels; kind = w.a_switch all }) after)))

-- from where its cases begin
pub switch_from : (labels : List Text) (place at at2 : Place) (parts : t.SwitchParts) (operand : w.Walk Core) (st st1 st2 st3 : w.State) (form checked : Core)
    (k : s.CaseKind) (asked : w.Asked) (all : List (List Text)) → at2 ≡ at → k ≡ s.kind_of_cases parts → asked ≡ s.asked_of_cases k st1 → all ≡ s.labels_of_cases parts →
    operand st ≡ w.went form st1 → w.checked kind.SwitchClass at2 asked form st1 ≡ w.went checked st2 →
    st3 ≡ with_target (record { labels = labels; kind = w.a_switch all }) st2 →
    s.switch_form labels place at parts operand (low.cases place (s.kind_of_cases parts) parts) st
    ≡ switched place (length st.targets) checked st2 (low.cases place k parts st3)
unfolding w.on
switch_from labels place at at2 parts operand st st1 st2 st3 form checked k asked all eat ek ea el e1 e2 e3 =
    let n = length st.targets in
    ap (λ (q : w.Went Core). w.on q (λ form after. on_cases labels place (s.kind_of_cases parts) (s.labels_of_cases parts) parts n
    (w.checked kind.SwitchClass at (s.asked_of_cases (s.kind_of_cases parts) after) form after))) e1
    ∙ ap (λ (z : s.CaseKind). on_cases labels place z (s.labels_of_cases parts) parts n (w.checked kind.SwitchClass at (s.asked_of_cases z st1) form st1)) (sym ek)
    ∙ ap (λ (z : List (List Text)). on_cases labels place k z parts n (w.checked kind.SwitchClass at (s.asked_of_cases k st1) form st1)) (sym el)
    ∙ ap (λ (z : Place). on_cases labels place k all parts n (w.checked kind.SwitchClass z (s.asked_of_cases k st1) form st1)) (sym eat)
    ∙ ap (λ (z : w.Asked). on_cases labels place k all parts n (w.checked kind.SwitchClass at2 z form st1)) (sym ea)
    ∙ ap (λ (q : w.Went Core). on_cases labels place k all parts n q) e2
    ∙ ap (λ (z : w.State). switched place n checked st2 (low.cases place k parts z)) (sym e3)
