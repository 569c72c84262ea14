use Rattle.std.proofs.Common.{◌++◌, ◌∷◌, [], ℕ, List, Some, None, take, ap, sym, ◌∙◌, arith}
use Rattle.std.proofs.lemmas.List.{append-nil}
use Rattle.std.proofs.Common.{Vec, Global}
use Rattle.class_fault.specs.Graph.{named_classes}
use Rattle.class_fault.proofs.Graphs.{named_next}
use Rattle.class_fault.proofs.graph.add_named.Goals as goal
use Rattle.class_fault.proofs.graph.add_named.Goals.{in-Some+in_ok-push, in_default}

pub loop-t-preserved : goal.loop-t-preserved
loop-t-preserved c =
    elim c.match-class_named.branch [
      | in-Some+in_ok-push w ↦ ap (λ (v : Vec ℕ Global). v.items) w.above-is ∙ w.in_ok-push.ensures.items ∙ ap (λ (z : List ℕ). z ++ w.in-Some.class ∷ []) c.loop-t.invariant ∙ named_next c.args.types.now c.loop-t.t-index c.t-item.result (Some w.in-Some.class) c.args.above.now.items c.loop-t-test.true c.t-item.is (sym w.in-Some.is ∙ c.class_named.ensures)
      | in_default w ↦ ap (λ (v : Vec ℕ Global). v.items) w.above-is ∙ c.loop-t.invariant ∙ sym (append-nil (c.args.above.now.items ++ named_classes (take c.loop-t.t-index c.args.types.now))) ∙ named_next c.args.types.now c.loop-t.t-index c.t-item.result None c.args.above.now.items c.loop-t-test.true c.t-item.is (sym w.in_default.is ∙ c.class_named.ensures)
    ]
