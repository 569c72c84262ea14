use Rattle.std.proofs.Common.{◌∙◌, sym, ap}
use Rattle.dart_tree.specs.declared.identifier.Identifier.{Identifier}
use Rattle.grammar_laws.proofs.Cuts.{gave}
use Rattle.token_cursor.proofs.Takes.{plain_name_takes, plain_name_refuses}
use Rattle.token_cursor.proofs.cursor.Cursor.plain_identifier.Goals as goal

pub returns-then-not-sees_plain_name : goal.returns-then-not-sees_plain_name
returns-then-not-sees_plain_name c = plain_name_refuses c.args.self.now (sym c.if-not-sees_plain_name.ensures)

pub returns : goal.returns
returns c =
    plain_name_takes c.args.self.now c.take-token.result.now c.take-token.new.self (sym c.if-not-sees_plain_name.ensures) c.take-token.ensures
    ∙ ap (λ (x : Identifier). gave x c.take-token.new.self) (sym c.in_ok-name_of.ensures)
