use Rattle.dart_tree.proofs.Rows.{view_listed_types}
use Rattle.parse_type.proofs.types.listed_types.Goals as goal

pub returns : goal.returns
returns c = view_listed_types c.args.opening c.args.arguments c.args.closing
