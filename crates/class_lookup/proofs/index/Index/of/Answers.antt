use Rattle.std.proofs.Common.{◌≡◌, ◌∙◌, Some, length, slice_get, sym, ap, refl, arith, subst as transport}
use Rattle.std.proofs.lemmas.Option.{slice_get_read}
use Rattle.dart_ir.specs.Classes.{class_at}
use Rattle.dart_type.specs.Member.{superclass_number}
use Rattle.class_lookup.specs.Index.{AreNames, HasTrees, IsIndexed, inherited_roots}
use Rattle.class_lookup.proofs.Indexed.{indexed_none, inherited_trees, indexed_pushed}
use Rattle.class_lookup.proofs.index.Index.of.Goals as goal

pub loop-info-init : goal.loop-info-init
loop-info-init c = record {
  indexed = transport (λ rs. IsIndexed c.args.classes.now c.new-nodes.result.items rs c.levels_of-levels.result) (sym c.new-roots.ensures.items) (indexed_none c.args.classes.now c.new-nodes.result.items c.levels_of-levels.result);
  size = ap length c.new-roots.ensures.items;
}

pub add_members-requires-clause-trees : goal.add_members-requires-clause-trees
add_members-requires-clause-trees c =
    transport (HasTrees c.loop-info.nodes.items c.levels_of-levels.result) (sym (c.inherited-inherited.ensures ∙ ap (λ rs. inherited_roots rs (superclass_number c.info-item.result.superclass)) c.deref-in-loop-info.ensures.value))
    (inherited_trees c.args.classes.now c.loop-info.nodes.items c.loop-info.roots.items c.levels_of-levels.result c.loop-info.invariant.indexed (superclass_number c.info-item.result.superclass))

pub loop-info-preserved : goal.loop-info-preserved
loop-info-preserved c =
    let i = c.info-item.result in
    let at : class_at c.args.classes.now (length c.loop-info.roots.items) ≡ Some i =
    ap (slice_get c.args.classes.now.classes.items) c.loop-info.invariant.size
    ∙ ap (λ xs. slice_get xs c.loop-info.info-index) (sym c.deref-info-items.ensures.value)
    ∙ slice_get_read c.deref-info-items.result.now (length c.deref-info-items.result.now) c.loop-info.info-index i refl c.loop-info-test.true c.info-item.is in
    let from : c.inherited-inherited.result ≡ inherited_roots c.loop-info.roots.items (superclass_number i.superclass) =
    c.inherited-inherited.ensures ∙ ap (λ rs. inherited_roots rs (superclass_number i.superclass)) c.deref-in-loop-info.ensures.value in
    indexed_pushed c.args.classes.now c.requires c.loop-info.nodes.items c.add_members.new.nodes.items c.loop-info.roots.items c.levels_of-levels.result c.loop-info.invariant.indexed i at c.deref-in-loop-info-2.result.now c.deref-in-loop-info-2.ensures.value c.inherited-inherited.result c.in_ok-own.own from c.in_ok-own.ensures c.loop-info.info-index c.loop-info.invariant.size c.push.new.self.items c.in_ok-push.ensures.items

pub returns : goal.returns
returns c = record {
  names = transport (λ ms. AreNames ms c.levels_of-levels.result) c.deref.ensures.value c.levels_of-levels.ensures;
  size = let l = c.loop-info.auto.info-index-end in let m = c.loop-info-test.false in let s = c.loop-info.invariant.size in let e = ap length c.deref-info-items.ensures.value in omega (arith, l, m, s, e);
  indexed = c.loop-info.invariant.indexed;
}
