use Rattle.scope_mention.proofs.Directives.{other_pieces}
use Rattle.scope_mention.proofs.mention.uri_of.Goals as goal

pub returns-then-pieces-ne1 : goal.returns-then-pieces-ne1
returns-then-pieces-ne1 c = other_pieces c.args.pieces.now c.if-pieces-ne1.true
