use Rattle.std.proofs.Common.{◌∙◌, ◌≤◌, Some, length, arith, sym, ap, subst}
use Rattle.std.specs.Option.{option_map}
use Rattle.std.specs.Str.{IsUtf8}
use Rattle.std.proofs.lemmas.Option.{none-some}
use Rattle.lower_leaf.specs.Around.{meaning}
use Rattle.scope_declared.specs.Number.{no_name}
use Rattle.scope_dictionary.specs.Entries.{at_text}
use Rattle.scope_class.specs.Building.{joined}
use Rattle.scope_class.proofs.Adding.{member-left, member-added}
use Rattle.scope_class.proofs.members.add_member.Goals as goal

pub returns-in-None : goal.returns-in-None
returns-in-None c =
    let texts = c.args.names.now in
    let few : length texts ≤ no_name = omega arith in
    member-left texts c.args.suffix.now c.as_bytes.result.now c.args.number c.args.one.now few (omega arith)
    (c.text-name.ensures ∙ ap Some (sym c.as_bytes.ensures.value))
    (λ text same. none-some text ((c.in-None.ensures text).0 same)) (at_text c.args.senses.now)

pub returns-in_ok-put-in-Some : goal.returns-in_ok-put-in-Some
returns-in_ok-put-in-Some c =
    let texts = c.args.names.now in
    let few : length texts ≤ no_name = omega arith in
    member-added texts c.args.suffix.now c.as_bytes.result.now c.args.number c.args.one.now few (omega arith)
    (c.text-name.ensures ∙ ap Some (sym c.as_bytes.ensures.value))
    c.count.ensures.distinct (subst IsUtf8 (sym c.as_bytes.ensures.value) c.text-name.utf8)
    c.in-Some.text.now c.in-Some.ensures (at_text c.args.senses.now) (at_text c.put.new.senses) c.joined-found.result
    (c.joined-found.ensures ∙ ap (λ had. joined (option_map meaning had) c.args.number c.args.one.now.kind) (c.copied.ensures ∙ c.get.ensures.value))
    c.in_ok-put-in-Some.ensures.here c.in_ok-put-in-Some.ensures.apart
