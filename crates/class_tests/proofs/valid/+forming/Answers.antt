use Rattle.std.proofs.Common.{◌≡◌, rules, ◌∙◌, length, subst as transport}
use Rattle.dart_ir.specs.Ty.{tys}
use Rattle.class_table.specs.Program.{AreFormedIn}
use Rattle.dart_ir.proofs.View.{ty_class}
use Rattle.class_tests.proofs.Tested.{count_tys, formed_step, formed_end, named_step, named_end}
use Rattle.class_tests.proofs.valid.+forming.Goals as goal

pub are_formed-loop-t-preserved : goal.are_formed-loop-t-preserved
are_formed-loop-t-preserved t c = λ rest.
    formed_step c.args.p.now c.args.n c.args.ts.now c.loop-t.t-index c.t-item.result c.loop-t-test.true c.t-item.is (c.is_formed.ensures c.if-not-is_formed.false) c.loop-t.invariant rest

pub are_formed-returns : goal.are_formed-returns
are_formed-returns t c = λ h. formed_end c.args.p.now c.args.n c.args.ts.now c.loop-t.t-index c.loop-t-test.false c.loop-t.invariant

pub are_named_formed-loop-m-preserved : goal.are_named_formed-loop-m-preserved
are_named_formed-loop-m-preserved t c = λ rest.
    named_step c.args.p.now c.args.n c.args.ns.now c.loop-m.m-index c.m-item.result c.loop-m-test.true c.m-item.is (c.is_named_formed.ensures c.if-not-is_named_formed.false) c.loop-m.invariant rest

pub are_named_formed-returns : goal.are_named_formed-returns
are_named_formed-returns t c = λ h. named_end c.args.p.now c.args.n c.args.ns.now c.loop-m.m-index c.loop-m-test.false c.loop-m.invariant

pub is_formed-returns-then-has_parameters : goal.is_formed-returns-then-has_parameters
is_formed-returns-then-has_parameters t c = λ h.
    let p = c.has_parameters.ensures c.if-has_parameters.true in
    let e : length c.in-Class.ts.items ≡ c.len.result = search rules in
    rw (c.in-Class.is, ty_class)
    (p.0, count_tys c.in-Class.ts.items ∙ e ∙ p.1, transport (λ us. AreFormedIn c.args.p.now c.args.n (tys us)) c.deref.ensures.value (c.are_formed.ensures h))
