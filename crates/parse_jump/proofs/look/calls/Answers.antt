use Rattle.std.proofs.Common.{◌∙◌, ap, sym, not}
use Rattle.syntax_readers.specs.Combinators.{behind_brackets}
use Rattle.syntax_readers.specs.Primaries.{body_comes}
use Rattle.parse_jump.proofs.Looking.{calls_not, calls_if}
use Rattle.parse_jump.proofs.look.calls.Goals as goal

pub returns-then-not-name_before : goal.returns-then-not-name_before
returns-then-not-name_before c = sym (calls_not c.args.cursor.now (sym c.if-not-name_before.ensures))

pub returns : goal.returns
returns c =
    ap not (c.sees_body.ensures ∙ ap body_comes (c.behind_brackets.ensures ∙ ap behind_brackets c.behind_next.ensures))
    ∙ sym (calls_if c.args.cursor.now (sym c.if-not-name_before.ensures))
