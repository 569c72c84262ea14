use Rattle.std.proofs.Common.{◌∙◌, sym, ap}
use Rattle.dart_tree.specs.declared.identifier.Identifier.{Identifier}
use Rattle.grammar_laws.proofs.Cuts.{gave}
use Rattle.token_cursor.proofs.Takes.{name_takes, name_refuses}
use Rattle.token_cursor.proofs.cursor.Cursor.identifier.Goals as goal

pub returns-then-not-sees_name : goal.returns-then-not-sees_name
returns-then-not-sees_name c = name_refuses c.args.self.now (sym c.if-not-sees_name.ensures)

pub returns : goal.returns
returns c =
    name_takes c.args.self.now c.take-token.result.now c.take-token.new.self (sym c.if-not-sees_name.ensures) c.take-token.ensures
    ∙ ap (λ (x : Identifier). gave x c.take-token.new.self) (sym c.in_ok-name_of.ensures)
