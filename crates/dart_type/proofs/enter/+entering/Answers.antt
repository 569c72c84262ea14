use Rattle.std.proofs.Common.{◌∙◌, ap, sym, map, subst as transport}
use Rattle.dart_ir.specs.Ty.{ty, named_ty, function_ty}
use Rattle.dart_ir.proofs.View.{ty_dynamic, ty_bottom, ty_void, ty_class, ty_param, ty_function, named_out}
use Rattle.dart_type.specs.Instance.{instance, named_instance}
use Rattle.dart_type.specs.Intern.{types, reads, GivesAll, GivesNamed}
use Rattle.dart_type.proofs.Entered.{given_as, given_after, class_entered, function_grows, function_entered, entered_more, named_entered_more}
use Rattle.dart_type.proofs.enter.+entering.Goals as goal

pub enter-returns-in-Dynamic : goal.enter-returns-in-Dynamic
enter-returns-in-Dynamic t c =
    given_as c.args.nodes.now.items c.intern.new.nodes.items c.intern.result _ _ (sym (ap (instance (reads (types c.args.nodes.now.items) c.args.args.now)) (ap ty c.in-Dynamic.is ∙ ty_dynamic))) c.intern.ensures

pub enter-returns-in-Bottom : goal.enter-returns-in-Bottom
enter-returns-in-Bottom t c =
    given_as c.args.nodes.now.items c.intern-in-Bottom.new.nodes.items c.intern-in-Bottom.result _ _ (sym (ap (instance (reads (types c.args.nodes.now.items) c.args.args.now)) (ap ty c.in-Bottom.is ∙ ty_bottom))) c.intern-in-Bottom.ensures

pub enter-returns-in-Void : goal.enter-returns-in-Void
enter-returns-in-Void t c =
    given_as c.args.nodes.now.items c.intern-in-Void.new.nodes.items c.intern-in-Void.result _ _ (sym (ap (instance (reads (types c.args.nodes.now.items) c.args.args.now)) (ap ty c.in-Void.is ∙ ty_void))) c.intern-in-Void.ensures

pub enter-returns-in_ok-is-in-Class : goal.enter-returns-in_ok-is-in-Class
enter-returns-in_ok-is-in-Class t c =
    let A = reads (types c.args.nodes.now.items) c.args.args.now in
    let g = transport (λ us. GivesAll c.args.nodes.now.items c.enter_all.new.nodes.items c.in_ok-is-in-Class.is'.items (map (λ u. instance A (ty u)) us)) c.deref.ensures.value c.in_ok-is-in-Class.ensures in
    given_after c.args.nodes.now.items c.enter_all.new.nodes.items c.intern-in-Class.new.nodes.items c.intern-in-Class.result _ _ g.grows
    (class_entered c.args.nodes.now.items c.enter_all.new.nodes.items c.args.args.now c.in_ok-is-in-Class.is'.items c.in-Class.ts.items c.in-Class.c.0 g ∙ sym (ap (instance A) (ap ty c.in-Class.is ∙ ty_class c.in-Class.c c.in-Class.ts)))
    c.intern-in-Class.ensures

pub enter-returns-in-Param : goal.enter-returns-in-Param
enter-returns-in-Param t c =
    given_as c.args.nodes.now.items c.argument.new.nodes.items c.argument.result _ _ (sym (ap (instance (reads (types c.args.nodes.now.items) c.args.args.now)) (ap ty c.in-Param.is ∙ ty_param c.in-Param.i))) c.argument.ensures

pub enter-returns-in-Function : goal.enter-returns-in-Function
enter-returns-in-Function t c =
    given_as c.args.nodes.now.items c.enter_function.new.nodes.items c.enter_function.result _ _
    (sym (ap (instance (reads (types c.args.nodes.now.items) c.args.args.now)) (ap ty c.in-Function.is ∙ ty_function c.in-Function.f ∙ ap function_ty (sym c.deref-in-Function.ensures)))) c.enter_function.ensures

pub enter_all-loop-t-preserved : goal.enter_all-loop-t-preserved
enter_all-loop-t-preserved t c =
    rw c.in_ok-push.ensures.items
    (entered_more c.args.nodes.now.items c.loop-t.nodes.items c.enter.new.nodes.items c.args.args.now c.loop-t.is.items c.args.ts.now c.loop-t.t-index c.t-item.result c.in_ok-i.i c.requires.listed c.loop-t-test.true c.t-item.is c.loop-t.invariant c.in_ok-i.ensures)

pub enter_function-returns : goal.enter_function-returns
enter_function-returns t c =
    let n0 = c.args.nodes.now.items in
    let n1 = c.enter.new.nodes.items in
    let n2 = c.enter_all.new.nodes.items in
    let n3 = c.enter_all-2.new.nodes.items in
    let n4 = c.enter_named.new.nodes.items in
    let args = c.args.args.now in
    let gq = transport (λ us. GivesAll n1 n2 c.in_ok-required.required.items (map (λ u. instance (reads (types n1) args) (ty u)) us)) c.deref.ensures.value c.in_ok-required.ensures in
    let go = transport (λ us. GivesAll n2 n3 c.in_ok-optional.optional.items (map (λ u. instance (reads (types n2) args) (ty u)) us)) c.deref-2.ensures.value c.in_ok-optional.ensures in
    let gm = transport (λ us. GivesNamed n3 n4 c.in_ok-named.named.items (map (λ u. named_instance (reads (types n3) args) (named_ty u)) us)) c.deref-3.ensures.value c.in_ok-named.ensures in
    given_after n0 n4 c.intern.new.nodes.items c.intern.result _ _
    (function_grows n0 n1 n2 n3 n4 args c.requires.listed c.args.f.now c.in_ok-result.result c.in_ok-required.required.items c.in_ok-optional.optional.items c.in_ok-named.named.items c.in_ok-result.ensures gq go gm)
    (function_entered n0 n1 n2 n3 n4 args c.requires.listed c.args.f.now c.in_ok-result.result c.in_ok-required.required.items c.in_ok-optional.optional.items c.in_ok-named.named.items c.in_ok-result.ensures gq go gm)
    c.intern.ensures

pub enter_named-loop-n-preserved : goal.enter_named-loop-n-preserved
enter_named-loop-n-preserved t c =
    rw c.in_ok-push.ensures.items
    (named_entered_more c.args.nodes.now.items c.loop-n.nodes.items c.enter_parameter.new.nodes.items c.args.args.now c.loop-n.is.items c.args.ns.now c.loop-n.n-index c.n-item.result c.in_ok-i.i _ c.requires.listed c.loop-n-test.true c.n-item.is (sym (ap (λ p. p.0) (named_out c.n-item.result))) c.loop-n.invariant c.in_ok-i.ensures)

pub enter_parameter-returns : goal.enter_parameter-returns
enter_parameter-returns t c =
    given_as c.args.nodes.now.items c.enter.new.nodes.items c.enter.result _ _ (ap (instance (reads (types c.args.nodes.now.items) c.args.args.now)) (ap (λ p. p.1) (sym (named_out c.args.n.now)))) c.enter.ensures
