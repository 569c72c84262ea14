use Rattle.std.proofs.Common.{◌∙◌, sym, ap, List, ℕ}
use Rattle.dart_base.specs.declared.place.Place.{Place}
use Rattle.dart_token.specs.declared.token.Quote.{Quote}
use Rattle.grammar_laws.proofs.Cuts.{gave}
use Rattle.token_cursor.proofs.Takes.{head_takes, head_refuses}
use Rattle.token_cursor.proofs.cursor.Cursor.head.Goals as goal

pub returns-then-not-sees_head : goal.returns-then-not-sees_head
returns-then-not-sees_head c = head_refuses c.args.self.now (sym c.if-not-sees_head.ensures)

pub returns : goal.returns
returns c =
    head_takes c.args.self.now c.take-token.result.now c.take-token.new.self (sym c.if-not-sees_head.ensures) c.take-token.ensures
    ∙ ap (λ (x : Quote × (Place × List ℕ)). gave x c.take-token.new.self) (sym c.in_ok-headed.ensures)
