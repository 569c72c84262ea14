use Rattle.std.proofs.Common.{◌≡◌, ◌∙◌, Some, length, slice_get, refl, sym, ap, subst as transport}
use Rattle.std.proofs.lemmas.Option.{slice_get_read, slice_get_past}
use Rattle.class_lookup.specs.Tree.{IsPut}
use Rattle.class_lookup.proofs.Names.{added_unchanged, added_one, absent, bodiless}
use Rattle.class_lookup.proofs.index.add_member.Goals as goal

pub returns-in-None : goal.returns-in-None
returns-in-None c =
    added_unchanged c.args.classes.now c.args.nodes.now.items c.args.levels c.args.roots c.args.member c.requires.trees
    (absent c.args.classes.now c.args.member (ap (λ xs. slice_get xs c.args.member.0) (sym c.deref.ensures.value) ∙ slice_get_past c.deref.result.now c.args.member.0 c.in-None.ensures.lookup.3))

pub returns-then-not-info : goal.returns-then-not-info
returns-then-not-info c =
    let h = c.in-Some.ensures.lookup in
    added_unchanged c.args.classes.now c.args.nodes.now.items c.args.levels c.args.roots c.args.member c.requires.trees
    (bodiless c.args.classes.now c.args.member c.in-Some.info.now (ap (λ xs. slice_get xs c.args.member.0) (sym c.deref.ensures.value) ∙ slice_get_read c.deref.result.now (length c.deref.result.now) c.args.member.0 c.in-Some.info.now refl h.3.0 h.1) c.if-not-info.true)

pub returns-in_ok-new-in-Some : goal.returns-in_ok-new-in-Some
returns-in_ok-new-in-Some c =
    let h = c.in-Some.ensures.lookup in
    let at : slice_get c.args.classes.now.members.items c.args.member.0 ≡ Some c.in-Some.info.now =
    ap (λ xs. slice_get xs c.args.member.0) (sym c.deref.ensures.value)
    ∙ slice_get_read c.deref.result.now (length c.deref.result.now) c.args.member.0 c.in-Some.info.now refl h.3.0 h.1 in
    added_one c.args.classes.now c.args.nodes.now.items c.put.new.nodes.items c.args.levels c.args.roots c.with_root.result c.args.member c.in-Some.info.now at c.if-not-info.false c.requires.trees (c.requires.names c.args.member.0 c.in-Some.info.now at) c.in_ok-new-in-Some.new
    (transport (λ x. IsPut c.args.nodes.now.items c.put.new.nodes.items c.args.levels x c.in-Some.info.now.name.0 c.args.member.0 c.in_ok-new-in-Some.new) c.root-old.ensures c.in_ok-new-in-Some.ensures)
    c.with_root.ensures
