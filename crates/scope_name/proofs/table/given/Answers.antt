use Rattle.scope_name.specs.Names.{given_names}
use Rattle.scope_name.proofs.table.given.Goals as goal

pub returns : goal.returns
unfolding given_names
returns c = rw c.new-names.ensures at c.in_ok-add_texts.ensures
