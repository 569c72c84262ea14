use Rattle.std.proofs.Common.{◌∙◌, ℕ, ◌<◌, ◌≤◌, List, [], ◌∷◌, ◌++◌, length, get_or, map, ap, arith}
use Rattle.std.specs.List.{zip}
use Rattle.std.proofs.lemmas.List.{get_or_default}
use Rattle.std.proofs.lemmas.Slice.Zip.{length-zip}
use Rattle.dart_base.specs.declared.place.Place.{Place}
use Rattle.scope_declared.specs.declared.declaration.Declared.{Declared}
use Rattle.scope_declared.specs.declared.declaration.DeclaredKind.TheVariants.{LocalVariable}
use Rattle.scope_space.specs.declared.declaration.Kind.{Kind}
use Rattle.scope_space.specs.declared.declaration.Kind.TheVariants.{Class}
use Rattle.scope_entry.specs.declared.entry.Entry.{Entry}
use Rattle.scope_entry.specs.Entries.{entry_of}
use Rattle.scope_entry.proofs.Lists.{mapped_more, mapped_end}
use Rattle.scope_entry.proofs.entry.entries.Goals as goal

abbrev no_place : Place
no_place = record { unit = 0; line = 0; column = 0 }

abbrev no_one : Declared
no_one = record { name = record { 0 = 0 }; place = no_place; kind = LocalVariable; extent = record { scope = no_place; after = no_place; last = no_place } }

pub loop-at-preserved : goal.loop-at-preserved
loop-at-preserved c =
    let found = c.as_slice-found.result.now in
    let kinds = c.args.kinds.now in
    let at = c.loop-at.at in
    let x : ℕ × Declared = get_or found at (0, no_one) in
    let y : Kind = get_or kinds at Class in
    let in_found : at < length found = omega (arith, c.loop-at-test.true) in
    let in_kinds : at < length kinds = omega (arith, c.if-at-kinds.false) in
    mapped_more (entry_of c.args.names.now) found kinds c.loop-at.all.items c.push.new.self.items at x y in_found in_kinds
    (get_or_default found at x (0, no_one) in_found) (get_or_default kinds at y Class in_kinds) c.loop-at.invariant
    (c.in_ok-push.ensures.items ∙ ap (λ (one : Entry). c.loop-at.all.items ++ one ∷ []) c.entry_of.ensures)

pub returns-then-at-kinds : goal.returns-then-at-kinds
returns-then-at-kinds c =
    let found = c.as_slice-found.result.now in
    let kinds = c.args.kinds.now in
    let past : length (zip found kinds) ≤ c.loop-at.at = omega (arith, length-zip found kinds, c.if-at-kinds.true) in
    mapped_end (entry_of c.args.names.now) found kinds c.loop-at.all.items c.loop-at.at past c.loop-at.invariant
    ∙ ap (λ (own : List (ℕ × Declared)). map (entry_of c.args.names.now) (zip own kinds)) (c.as_slice-found.ensures.value ∙ c.in_ok-own.ensures)

pub returns : goal.returns
returns c =
    let found = c.as_slice-found.result.now in
    let kinds = c.args.kinds.now in
    let past : length (zip found kinds) ≤ c.loop-at.at = omega (arith, length-zip found kinds, c.loop-at-test.false) in
    mapped_end (entry_of c.args.names.now) found kinds c.loop-at.all.items c.loop-at.at past c.loop-at.invariant
    ∙ ap (λ (own : List (ℕ × Declared)). map (entry_of c.args.names.now) (zip own kinds)) (c.as_slice-found.ensures.value ∙ c.in_ok-own.ensures)
