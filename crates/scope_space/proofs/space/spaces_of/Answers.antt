use Rattle.std.proofs.Common.{◌∙◌, ◌<◌, ◌+◌, ◌∷◌, [], length, slice_get, sym, ap, subst, inl, inr, length-append, arith}
use Rattle.std.proofs.lemmas.Option.{slice_get_read, same_Some}
use Rattle.scope_space.specs.Building.{IsSpaceFrom}
use Rattle.scope_space.proofs.Entries.{got_more}
use Rattle.scope_space.proofs.space.spaces_of.Goals as goal

pub loop-library-preserved : goal.loop-library-preserved
loop-library-preserved c =
    let libraries = c.args.libraries.now in
    let handed = c.args.handed.now in
    let now = c.loop-library.spaces.items in
    let i = c.loop-library.library-index in
    let made = c.in_ok-space.space in
    let here = c.library-item.result in
    let items = c.in_ok-push.ensures.items in
    let listed : i < length libraries = omega (arith, c.loop-library-test.true) in
    let read = slice_get_read libraries (length libraries) i here (λ _. length libraries) listed c.library-item.is in
    record {
      long = ap length items ∙ length-append now (made ∷ []) ∙ ap (λ n. n + 1) c.loop-library.invariant.long;
      each = λ at library space is got.
          elim (got_more now made space at (sym (ap (λ spaces. slice_get spaces at) items) ∙ got)) [
            | inl before ↦ c.loop-library.invariant.each at library space is before
            | inr last ↦
                let same = same_Some here library (sym read ∙ ap (slice_get libraries) (sym (last.0 ∙ c.loop-library.invariant.long)) ∙ is) in
                subst (IsSpaceFrom handed library) last.1 (subst (λ library. IsSpaceFrom handed library made) same c.in_ok-space.ensures)
          ];
    }
