use Rattle.std.proofs.Common.{◌∙◌, ◌≤◌, List, ℕ, Some, length, arith, refl, sym, ap, subst}
use Rattle.std.specs.Prelude.{IsSome}
use Rattle.std.specs.Str.{IsUtf8}
use Rattle.std.proofs.lemmas.Option.{none-some, same_Some}
use Rattle.scope_declared.specs.Number.{no_name}
use Rattle.scope_outer.specs.Outside.{scopes_of}
use Rattle.scope_dictionary.specs.Entries.{at_text}
use Rattle.scope_dictionary.proofs.Building.{named-as, number-as}
use Rattle.scope_dictionary.proofs.Putting.{some-put, some-kept, dictionaries-put}
use Rattle.scope_dictionary.proofs.library.add_prefix.Goals as goal

pub returns-then-contains_key-clause-put : goal.returns-then-contains_key-clause-put
returns-then-contains_key-clause-put c = λ text number.
    let texts = c.args.home.names.now in
    let few : length texts ≤ no_name = omega arith in
    let name = named-as texts c.args.home.library c.as_bytes.result.now c.args.suffix.now c.args.prefix.0 c.requires.end few
    (c.text-name.ensures ∙ ap Some (sym c.as_bytes.ensures.value)) text number in
    let same = same_Some c.in-Some.text.now text ((c.in-Some.ensures text).0 name) in
    subst (λ (t : List ℕ). IsSome (at_text c.args.behind.now t)) same (sym c.contains_key.ensures ∙ c.if-contains_key.true)

pub returns-in-None-clause-put : goal.returns-in-None-clause-put
returns-in-None-clause-put c = λ text number.
    let texts = c.args.home.names.now in
    let few : length texts ≤ no_name = omega arith in
    let name = named-as texts c.args.home.library c.as_bytes.result.now c.args.suffix.now c.args.prefix.0 c.requires.end few
    (c.text-name.ensures ∙ ap Some (sym c.as_bytes.ensures.value)) text number in
    absurd (none-some text ((c.in-None.ensures text).0 name))

pub returns-in_ok-insert-in-Some-clause-found : goal.returns-in_ok-insert-in-Some-clause-found
returns-in_ok-insert-in-Some-clause-found c =
    let number = number-as c.args.home.names.now c.args.home.library c.as_bytes.result.now c.args.suffix.now c.args.prefix.0 c.requires.end c.count.ensures.distinct
    (subst IsUtf8 (sym c.as_bytes.ensures.value) c.text-name.utf8) (c.text-name.ensures ∙ ap Some (sym c.as_bytes.ensures.value))
    c.in-Some.text.now ((c.in-Some.ensures c.in-Some.text.now).1 refl) in
    dictionaries-put c.in_ok-owned-in-Some.owned c.args.behind.now c.insert.new.self c.in_ok-made-in-Some.made
    c.in-Some.text.now c.in_ok-owned-in-Some.ensures.items c.in_ok-insert-in-Some.ensures.updates
    c.args.home.names.now (scopes_of c.args.home.scopes) c.args.home.library c.args.prefix number c.in_ok-made-in-Some.ensures c.requires.found

pub returns-in_ok-insert-in-Some-clause-kept : goal.returns-in_ok-insert-in-Some-clause-kept
returns-in_ok-insert-in-Some-clause-kept c =
    some-kept c.in_ok-owned-in-Some.owned c.args.behind.now c.insert.new.self c.in_ok-made-in-Some.made
    c.in-Some.text.now c.in_ok-owned-in-Some.ensures.items c.in_ok-insert-in-Some.ensures.updates

pub returns-in_ok-insert-in-Some-clause-put : goal.returns-in_ok-insert-in-Some-clause-put
returns-in_ok-insert-in-Some-clause-put c = λ text number.
    let texts = c.args.home.names.now in
    let few : length texts ≤ no_name = omega arith in
    let name = named-as texts c.args.home.library c.as_bytes.result.now c.args.suffix.now c.args.prefix.0 c.requires.end few
    (c.text-name.ensures ∙ ap Some (sym c.as_bytes.ensures.value)) text number in
    some-put c.in_ok-owned-in-Some.owned c.args.behind.now c.insert.new.self c.in_ok-made-in-Some.made
    c.in-Some.text.now c.in_ok-owned-in-Some.ensures.items c.in_ok-insert-in-Some.ensures.updates
    text (same_Some c.in-Some.text.now text ((c.in-Some.ensures text).0 name))
