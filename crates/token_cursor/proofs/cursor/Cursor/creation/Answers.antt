use Rattle.std.proofs.Common.{◌∙◌, sym, ap}
use Rattle.dart_tree.specs.declared.expression.Creation.{Creation}
use Rattle.grammar_laws.proofs.Cuts.{gave}
use Rattle.token_cursor.proofs.Takes.{creation_takes, creation_refuses}
use Rattle.token_cursor.proofs.cursor.Cursor.creation.Goals as goal

pub returns-then-not-sees_creation : goal.returns-then-not-sees_creation
returns-then-not-sees_creation c = creation_refuses c.args.self.now (sym c.if-not-sees_creation.ensures)

pub returns : goal.returns
returns c =
    creation_takes c.args.self.now c.take-token.result.now c.take-token.new.self (sym c.if-not-sees_creation.ensures) c.take-token.ensures
    ∙ ap (λ (x : Creation). gave x c.take-token.new.self) (sym c.created.ensures)
