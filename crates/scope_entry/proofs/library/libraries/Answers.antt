use Rattle.std.proofs.Common.{◌+◌, ◌<◌, ◌∙◌, List, [], ◌∷◌, ◌++◌, length, map, take, sym, ap, subst, arith}
use Rattle.std.specs.List.{AllZip}
use Rattle.std.proofs.lemmas.List.{take_all}
use Rattle.scope_load.specs.State.{state_of}
use Rattle.scope_library.specs.declared.library.Library.{Library as Read}
use Rattle.scope_library.specs.Library.{LibraryIs, library_is}
use Rattle.scope_space.specs.declared.library.Library.{Library}
use Rattle.scope_entry.specs.Libraries.{IsLibrary}
use Rattle.scope_entry.proofs.Lists.{zip_more, zipped_map}
use Rattle.scope_entry.proofs.library.libraries.Goals as goal

pub loop-of-preserved : goal.loop-of-preserved
loop-of-preserved c =
    let all = c.as_slice-read.result.now in
    let i = c.loop-of.of-index in
    let of = c.of-item.result in
    let R : Read → Library → Type 0 = λ of made. IsLibrary c.args.names.now c.args.entries.now (state_of c.args.loaded.now) (library_is of) made in
    let below : i < length all = omega (arith, c.loop-of-test.true) in
    let more : AllZip R (take (i + 1) all) (c.loop-of.made.items ++ c.in_ok-one.one ∷ []) =
    zip_more R all c.loop-of.made.items i of c.in_ok-one.one below c.of-item.is c.loop-of.invariant c.in_ok-one.ensures in
    let P : List Library → Type 0 = λ made. AllZip R (take (i + 1) all) made in
    subst P (sym c.in_ok-push.ensures.items) more

pub returns : goal.returns
returns c =
    let all = c.as_slice-read.result.now in
    let state = state_of c.args.loaded.now in
    let S : LibraryIs → Library → Type 0 = IsLibrary c.args.names.now c.args.entries.now state in
    let R : Read → Library → Type 0 = λ of made. S (library_is of) made in
    let P : List Read → Type 0 = λ some. AllZip R some c.loop-of.made.items in
    let whole = subst P (take_all c.loop-of.of-index all (omega (arith, c.loop-of-test.false))) c.loop-of.invariant in
    let Q : List LibraryIs → Type 0 = λ some. AllZip S some c.loop-of.made.items in
    subst Q (ap (map library_is) c.as_slice-read.ensures.value ∙ c.in_ok-all.ensures) (zipped_map library_is S all c.loop-of.made.items whole)
