use Rattle.std.proofs.Common.{◌∙◌, ap, sym, map, subst as transport}
use Rattle.dart_type.specs.Relation.{floor}
use Rattle.dart_type.specs.Intern.{types, read, node_type, GivesAll, GivesNamed}
use Rattle.dart_type.proofs.Entered.{given_after}
use Rattle.dart_type.proofs.Floored.{named_floor, floor_more, named_floor_more, class_floored, floor_grows, function_floored}
use Rattle.dart_type.proofs.floor.+flooring.Goals as goal

pub floor_all-loop-i-preserved : goal.floor_all-loop-i-preserved
floor_all-loop-i-preserved t c =
    rw c.in_ok-push.ensures.items
    (floor_more c.args.nodes.now.items c.loop-i.nodes.items c.floor_of.new.nodes.items c.loop-i.low.items c.args.is.now c.args.end c.loop-i.i-index c.in_ok-j.j _ c.requires.listed c.requires.below c.loop-i-test.true c.loop-i.invariant c.in_ok-j.ensures)

pub floor_named-loop-n-preserved : goal.floor_named-loop-n-preserved
floor_named-loop-n-preserved t c =
    rw c.in_ok-push.ensures.items
    (named_floor_more c.args.nodes.now.items c.loop-n.nodes.items c.floor_of.new.nodes.items c.loop-n.low.items c.args.ns.now c.args.end c.loop-n.n-index c.in_ok-j.j _ c.requires.listed c.requires.below c.loop-n-test.true c.loop-n.invariant c.in_ok-j.ensures)

pub floor_function-returns : goal.floor_function-returns
floor_function-returns t c =
    let n0 = c.args.nodes.now.items in
    let n1 = c.floor_of.new.nodes.items in
    let n2 = c.floor_all.new.nodes.items in
    let n3 = c.floor_all-2.new.nodes.items in
    let n4 = c.floor_named.new.nodes.items in
    let f = c.args.f.now in
    let gq = transport (λ is. GivesAll n1 n2 c.in_ok-required.required.items (map (λ i. floor (read (types n1) i)) is)) c.deref.ensures.value c.in_ok-required.ensures in
    let go = transport (λ is. GivesAll n2 n3 c.in_ok-optional.optional.items (map (λ i. floor (read (types n2) i)) is)) c.deref-2.ensures.value c.in_ok-optional.ensures in
    let gn = transport (λ ns. GivesNamed n3 n4 c.in_ok-named.named.items (map (named_floor (types n3)) ns)) c.deref-3.ensures.value c.in_ok-named.ensures in
    given_after n0 n4 c.intern.new.nodes.items c.intern.result _ _
    (floor_grows n0 n1 n2 n3 n4 c.args.end c.requires.listed f c.requires.below c.in_ok-result.result c.in_ok-required.required.items c.in_ok-optional.optional.items c.in_ok-named.named.items c.in_ok-result.ensures gq go gn)
    (function_floored n0 n1 n2 n3 n4 c.args.end c.requires.listed f c.requires.below c.in_ok-result.result c.in_ok-required.required.items c.in_ok-optional.optional.items c.in_ok-named.named.items c.in_ok-result.ensures gq go gn)
    c.intern.ensures

pub floor_of-returns-in_ok-low-in-Class : goal.floor_of-returns-in_ok-low-in-Class
floor_of-returns-in_ok-low-in-Class t c =
    let n0 = c.args.nodes.now.items in
    let n1 = c.floor_all.new.nodes.items in
    let g = transport (λ is. GivesAll n0 n1 c.in_ok-low-in-Class.low.items (map (λ i. floor (read (types n0) i)) is)) c.deref.ensures.value c.in_ok-low-in-Class.ensures in
    given_after n0 n1 c.intern-in-Class.new.nodes.items c.intern-in-Class.result _ _ g.grows
    (class_floored n0 n1 c.in_ok-low-in-Class.low.items c.in-Class.is'.items c.in-Class.c g ∙ sym (ap floor (c.in_ok-node_of.ensures.shows ∙ ap (node_type (types n0)) c.in-Class.is)))
    c.intern-in-Class.ensures
