use Rattle.std.proofs.Common.{sym}
use Rattle.parse_head.proofs.Naming.{named_is, not_named}
use Rattle.parse_head.proofs.name.class_name.Goals as goal

pub returns-then-not-sees_named : goal.returns-then-not-sees_named
returns-then-not-sees_named c = not_named c.args.class.now c.args.cursor.now (sym c.if-not-sees_named.ensures)

pub returns : goal.returns
returns c = rw (named_is c.args.class.now c.args.cursor.now (sym c.if-not-sees_named.ensures)) c.plain_identifier.ensures
