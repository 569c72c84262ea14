use Rattle.token_cursor.proofs.Skipping.{skips_from}
use Rattle.token_cursor.proofs.cursor.Cursor.behind.Goals as goal

pub new-requires : goal.new-requires
new-requires c = skips_from c.min-count.result c.self.inside.rest.now c.self.inside.skips.now c.self.invariant.1
