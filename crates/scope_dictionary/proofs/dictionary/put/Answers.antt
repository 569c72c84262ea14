use Rattle.scope_dictionary.proofs.Entries.{put-apart}
use Rattle.scope_dictionary.proofs.dictionary.put.Goals as goal

pub returns-clause-apart : goal.returns-clause-apart
returns-clause-apart c =
    put-apart c.in_ok-owned.owned c.args.senses.now c.insert.new.self c.args.found c.args.text.now c.in_ok-owned.ensures.items c.in_ok-insert.ensures.updates
