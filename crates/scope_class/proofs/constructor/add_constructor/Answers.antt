use Rattle.std.proofs.Common.{◌∙◌, sym, ap}
use Rattle.std.specs.Option.{option_map}
use Rattle.lower_leaf.specs.Around.{constructor}
use Rattle.scope_dictionary.specs.Entries.{at_text}
use Rattle.scope_dictionary.proofs.Entries.{put-here, put-apart}
use Rattle.scope_class.proofs.Parameters.{none-from, entry-put}
use Rattle.scope_class.proofs.constructor.add_constructor.Goals as goal

pub returns : goal.returns
returns c =
    let id = c.args.id.now in
    let old = c.args.made.now in
    let new = c.insert.new.self in
    entry-put id (constructor c.args.found) (λ other. option_map constructor (at_text old other)) (λ other. option_map constructor (at_text new other))
    (ap (option_map constructor) (none-from (at_text old id) (sym c.contains_key.ensures ∙ c.if-contains_key.false)))
    (λ other same. ap (option_map constructor) (put-here c.in_ok-owned.owned old new c.args.found id c.in_ok-owned.ensures.items c.in_ok-insert.ensures.updates other same))
    (λ other differs. ap (option_map constructor) (put-apart c.in_ok-owned.owned old new c.args.found id c.in_ok-owned.ensures.items c.in_ok-insert.ensures.updates other differs))
