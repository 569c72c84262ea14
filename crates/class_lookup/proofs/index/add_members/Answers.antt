use Rattle.std.proofs.Common.{◌≡◌, drop, sym, refl, arith, subst as transport}
use Rattle.std.proofs.lemmas.List.{drop_all}
use Rattle.class_lookup.specs.Index.{IsAdded}
use Rattle.class_lookup.proofs.Names.{added_none, added_down}
use Rattle.class_lookup.proofs.index.add_members.Goals as goal

pub loop-j-init : goal.loop-j-init
loop-j-init c =
    transport (λ ms. IsAdded c.args.classes.now c.args.nodes.now.items c.args.nodes.now.items c.args.levels ms c.args.inherited c.args.inherited) (sym (drop_all _ c.args.members.now (omega arith)))
    (added_none c.args.classes.now c.args.nodes.now.items c.args.levels c.args.inherited c.requires.trees)

pub add_member-requires-clause-trees : goal.add_member-requires-clause-trees
add_member-requires-clause-trees c = c.loop-j.invariant.trees

pub loop-j-preserved : goal.loop-j-preserved
loop-j-preserved c =
    let y = c.in_ok-roots.ensures in
    added_down c.args.classes.now c.args.nodes.now.items c.loop-j.nodes.items c.add_member.new.nodes.items c.args.levels c.loop-j.j c.args.members.now _ _ c.args.inherited c.loop-j.roots c.in_ok-roots.roots c.loop-j-test.true c.loop-j.auto.j refl c.loop-j.invariant y

pub returns : goal.returns
returns c =
    let q : c.loop-j.j ≡ 0 = omega (arith, c.loop-j-test.false) in
    transport (λ n. IsAdded c.args.classes.now c.args.nodes.now.items c.loop-j.nodes.items c.args.levels (drop n c.args.members.now) c.args.inherited c.loop-j.roots) q c.loop-j.invariant
