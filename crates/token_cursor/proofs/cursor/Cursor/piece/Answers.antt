use Rattle.std.proofs.Common.{◌∙◌, sym, ap, List, ℕ}
use Rattle.dart_base.specs.declared.place.Place.{Place}
use Rattle.grammar_laws.proofs.Cuts.{gave}
use Rattle.token_cursor.proofs.Takes.{piece_takes, piece_refuses}
use Rattle.token_cursor.proofs.cursor.Cursor.piece.Goals as goal

pub returns-then-not-sees_code : goal.returns-then-not-sees_code
returns-then-not-sees_code c = piece_refuses c.args.code c.args.self.now (sym c.if-not-sees_code.ensures)

pub returns : goal.returns
returns c =
    piece_takes c.args.code c.args.self.now c.take-token.result.now c.take-token.new.self (sym c.if-not-sees_code.ensures) c.take-token.ensures
    ∙ ap (λ (x : Place × List ℕ). gave x c.take-token.new.self) (sym c.in_ok-placed_text.ensures)
