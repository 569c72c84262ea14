use Rattle.std.proofs.Common.{◌≡◌, ◌∙◌, Some, length, slice_get, option_map, sym, ap, refl, arith, subst as transport}
use Rattle.std.proofs.lemmas.Option.{slice_get_read}
use Rattle.dart_type.specs.Member.{IsFirstMember}
use Rattle.class_lookup.specs.Tree.{entry, rest_of}
use Rattle.class_lookup.specs.Index.{member_id}
use Rattle.class_lookup.proofs.Indexed.{index_finds, unlisted_finds}
use Rattle.class_lookup.proofs.index.Index.member.Goals as goal

pub returns-in-None : goal.returns-in-None
returns-in-None c = λ k x.
    unlisted_finds k c.args.self.now x c.args.class.0 c.args.name c.args.role
    (let h = c.in-None.ensures.lookup.3 in let e = ap length c.deref.ensures.value in omega (arith, h, e))

pub returns-in-Some : goal.returns-in-Some
returns-in-Some c = λ k x.
    let h = c.in-Some.ensures.lookup in
    let at : slice_get c.args.self.now.roots.items c.args.class.0 ≡ Some c.in-Some.roots.now =
    ap (λ xs. slice_get xs c.args.class.0) (sym c.deref.ensures.value)
    ∙ slice_get_read c.deref.result.now (length c.deref.result.now) c.args.class.0 c.in-Some.roots.now refl h.3.0 h.1 in
    let levels = c.args.self.now.levels in
    transport (IsFirstMember k c.args.class.0 c.args.name c.args.role)
    (sym (c.member_id.ensures ∙ ap (option_map member_id) (c.find-found.ensures ∙ ap (λ ns. entry ns levels c.root.result c.args.name.0) c.deref-in-Some.ensures.value ∙ ap (λ r. entry c.args.self.now.nodes.items levels r c.args.name.0) c.root.ensures)))
    (index_finds k c.args.self.now x c.args.class.0 c.in-Some.roots.now c.args.name c.args.role at (rest_of levels c.args.name.0) refl)
