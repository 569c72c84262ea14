use Rattle.dart_pieces.proofs.StringLaws.{element_within}
use Rattle.dart_pieces.proofs.strings.next_element.Goals as goal

pub returns-clause-within : goal.returns-clause-within
returns-clause-within c = rw c.element_len.ensures (element_within c.args.quote c.args.text.now)
