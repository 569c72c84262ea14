use Rattle.std.proofs.Common.{◌≡◌, ◌∙◌, [], ◌∷◌, inl, inr, List, ℕ, length, slice_get, length-append, arith, sym, ap, subst}
use Rattle.scope_space.proofs.Entries.{got_more}
use Rattle.scope_outer.specs.Outside.{scopes_of}
use Rattle.scope_dictionary.specs.Names.{AreNames, names_of}
use Rattle.scope_dictionary.specs.declared.library.LibraryNames.{LibraryNames}
use Rattle.scope_dictionary.proofs.library.all_names.Goals as goal

pub loop-library-preserved : goal.loop-library-preserved
loop-library-preserved c =
    let old = c.loop-library.made.items in
    let one = c.in_ok-library_names.field-0 in
    let Of : ℕ → LibraryNames → Type 0 = λ library made. AreNames c.args.names.now (scopes_of c.args.scopes) library (names_of made) in
    record {
      count = ap length c.in_ok-push.ensures.items ∙ length-append old (one ∷ []) ∙ omega (arith, c.loop-library.invariant.count);
      each = λ library made got. elim (got_more old one made library (ap (λ (l : List LibraryNames). slice_get l library) (sym c.in_ok-push.ensures.items) ∙ got)) [
        | inl before ↦ c.loop-library.invariant.each library made before
        | inr last ↦
            let at : library ≡ c.loop-library.library = last.0 ∙ c.loop-library.invariant.count in
            subst (λ n. Of n made) (sym at) (subst (Of c.loop-library.library) last.1 c.in_ok-library_names.ensures)
      ];
    }
