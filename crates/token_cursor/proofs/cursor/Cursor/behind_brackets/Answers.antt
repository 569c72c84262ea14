use Rattle.std.proofs.Common.{List, ◌∙◌, sym, ap, drop, get_or}
use Rattle.dart_token.specs.declared.token.Token.{Token}
use Rattle.syntax_readers.specs.Combinators.{behind_brackets}
use Rattle.token_cursor.proofs.Skipping.{first_skip}
use Rattle.token_cursor.proofs.cursor.Cursor.behind_brackets.Goals as goal

pub returns : goal.returns
returns c =
    c.behind.ensures
    ∙ ap (λ (ts : List Token). drop (get_or c.self.inside.skips.now 0 0) ts) (sym c.self.view_is)
    ∙ first_skip c.self.inside.rest.now c.self.inside.skips.now c.self.invariant.1 (sym c.is_empty.ensures ∙ c.if-is_empty.false)
    ∙ ap behind_brackets c.self.view_is
