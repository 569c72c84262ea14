use Rattle.std.proofs.Common.{◌≡◌, ◌∙◌, List, Some, length, slice_get, arith, refl, sym, ap, subst}
use Rattle.std.specs.Prelude.{IsSome}
use Rattle.std.proofs.lemmas.Option.{same_Some, slice_get_read}
use Rattle.scope_space.specs.declared.library.Import.{Import}
use Rattle.scope_space.specs.declared.library.Library.{Library}
use Rattle.dart_base.specs.declared.name.Name.{Name}
use Rattle.scope_outer.specs.Outside.{scopes_of}
use Rattle.scope_dictionary.specs.Entries.{at_text}
use Rattle.scope_dictionary.specs.Dictionary.{AreDictionaries}
use Rattle.scope_dictionary.proofs.Prefixes.{KnowsPrefixes, prefixes-next, means-behind}
use Rattle.scope_dictionary.proofs.library.prefixes.Goals as goal
use Rattle.scope_dictionary.proofs.library.prefixes.Goals.{in-Some+in_ok-add_prefix, in_default}

pub loop-import-preserved : goal.loop-import-preserved
loop-import-preserved c =
    let texts = c.args.home.names.now in
    let library = c.args.home.library in
    let imports = c.deref-import-items.result.now in
    let next = c.import-item.result in
    let at = slice_get_read imports (length imports) c.loop-import.import-index next refl c.loop-import-test.true c.import-item.is in
    elim c.match-import.branch [
      | in-Some+in_ok-add_prefix w ↦ record {
        sound = subst (AreDictionaries texts (scopes_of c.args.home.scopes) library) (sym w.behind-is) w.in_ok-add_prefix.ensures.found;
        all = prefixes-next texts library imports (at_text c.loop-import.behind) (at_text c.match-import.behind) c.loop-import.import-index next at
            (λ prefix had. subst (λ b. IsSome (at_text b prefix)) (sym w.behind-is) (w.in_ok-add_prefix.ensures.kept prefix had))
            (λ name has prefix same.
            let this : name ≡ w.in-Some.prefix = same_Some name w.in-Some.prefix (sym has ∙ w.in-Some.is) in
            subst (λ b. IsSome (at_text b prefix)) (sym w.behind-is) (w.in_ok-add_prefix.ensures.put prefix (same ∙ ap (λ (n : Name). n.0) this)))
            c.loop-import.invariant.all;
      }
      | in_default w ↦ record {
        sound = subst (AreDictionaries texts (scopes_of c.args.home.scopes) library) (sym w.behind-is) c.loop-import.invariant.sound;
        all = prefixes-next texts library imports (at_text c.loop-import.behind) (at_text c.match-import.behind) c.loop-import.import-index next at
            (λ prefix had. subst (λ b. IsSome (at_text b prefix)) (sym w.behind-is) had)
            (λ name has prefix same. absurd (w.in_default.not-Some name has))
            c.loop-import.invariant.all;
      }
    ]

pub returns : goal.returns
returns c =
    let home = c.index-libraries-home.result in
    let libraries = c.libraries.result.now in
    let imports : c.deref-import-items.result.now ≡ home.imports.items =
    c.deref-import-items.ensures.value ∙ ap (λ (l : Library). l.imports.items) (sym c.index-libraries-home.is) in
    let among = slice_get_read libraries (length libraries) c.args.home.library home refl (omega (arith, ap length c.libraries.ensures, c.requires.listed)) c.index-libraries-home.is in
    let at : slice_get (scopes_of c.args.home.scopes).libraries c.args.home.library ≡ Some home =
    ap (λ (l : List Library). slice_get l c.args.home.library) (sym c.libraries.ensures) ∙ among in
    means-behind c.args.home.names.now (scopes_of c.args.home.scopes) c.args.home.library c.loop-import.import-index c.loop-import.behind home at
    (omega (arith, ap length imports)) c.loop-import.invariant.sound
    (subst (λ (l : List Import). KnowsPrefixes c.args.home.names.now c.args.home.library l (at_text c.loop-import.behind) c.loop-import.import-index) imports c.loop-import.invariant.all)
