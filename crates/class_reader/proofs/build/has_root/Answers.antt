use Rattle.std.proofs.Common.{◌≡◌, ◌∙◌, ap, sym, refl, length, slice_get, Some}
use Rattle.std.proofs.lemmas.Option.{slice_get_read}
use Rattle.class_reader.proofs.Programs.{rooted}
use Rattle.class_reader.proofs.build.has_root.Goals as goal

pub returns-in-Some : goal.returns-in-Some
returns-in-Some c = λ true.
    let h = c.in-Some.ensures.lookup in
    let is : slice_get c.args.program.now.declarations.items c.args.number ≡ Some c.in-Some.class.now =
    ap (λ xs. slice_get xs c.args.number) (sym c.deref.ensures.value) ∙ slice_get_read c.deref.result.now (length c.deref.result.now) c.args.number c.in-Some.class.now refl h.3.0 h.1 in
    rooted c.args.program.now c.args.number c.in-Some.class.now is (c.is_root.ensures c.args.program.now refl true)
