use Rattle.dart_pieces.proofs.CutLaws.{found_longest}
use Rattle.dart_pieces.proofs.PieceLaws.{sound}
use Rattle.dart_pieces.proofs.reader.next_piece.Goals as goal

pub returns-clause-longest : goal.returns-clause-longest
returns-clause-longest c = rw c.piece_at.ensures (found_longest c.args.around c.args.text.now c.requires)

pub returns-clause-within : goal.returns-clause-within
returns-clause-within c = rw c.piece_at.ensures ((sound c.args.around c.args.text.now c.requires).1)

pub returns-clause-some : goal.returns-clause-some
returns-clause-some c = rw c.piece_at.ensures ((sound c.args.around c.args.text.now c.requires).0)
