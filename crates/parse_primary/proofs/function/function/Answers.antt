use Rattle.std.proofs.Common.{◌≡◌, ◌+◌, ◌-◌, ℕ, sym, subst, arith}
use Rattle.dart_token.specs.declared.token.Token.{Token}
use Rattle.dart_tree.specs.Tree as tree
use Rattle.grammar_laws.specs.Readers.{Outcome}
use Rattle.token_cursor.specs.Gives.{GivesHigh}
use Rattle.syntax_readers.specs.Combinators.{Open}
use Rattle.parse_primary.specs.Views.{open_primary, open_primary_height}
use Rattle.parse_primary.proofs.Staged.{function_never, function_at}
use Rattle.parse_primary.proofs.function.function.Goals as goal
use Rattle.parse_nest.specs.Stages.{exprs_at}

pub returns-then-depth-eq0 : goal.returns-then-depth-eq0
returns-then-depth-eq0 g c = function_never c.args.depth c.args.cursor.now (omega (arith, c.if-depth-eq0.true))

pub returns : goal.returns
returns g c =
    let some = c.if-depth-eq0.false in
    let d : (c.args.depth - 1) + 1 ≡ c.args.depth = omega (arith, some) in
    let r = c.function_over.result in
    let new = c.function_over.new.cursor in
    subst (λ (m : ℕ). GivesHigh open_primary open_primary_height m ((exprs_at c.args.depth).function c.args.cursor.now) r new) d
    (subst (λ (o : Outcome Token (Open tree.Primary)). GivesHigh open_primary open_primary_height ((c.args.depth - 1) + 1) o r new) (sym (function_at c.args.depth c.args.cursor.now (omega (arith, some)))) c.function_over.ensures)
