use Rattle.std.proofs.Common.{◌≡◌, ◌+◌, ◌-◌, ℕ, sym, subst, arith}
use Rattle.dart_token.specs.declared.token.Token.{Token}
use Rattle.dart_tree.specs.Depth as height
use Rattle.dart_tree.specs.Tree as tree
use Rattle.dart_tree.specs.View as view
use Rattle.grammar_laws.specs.Readers.{Outcome}
use Rattle.token_cursor.specs.Gives.{GivesHigh}
use Rattle.parse_primary.proofs.Staged.{arguments_never, arguments_at}
use Rattle.parse_primary.proofs.arguments.arguments.Goals as goal
use Rattle.parse_nest.specs.Stages.{exprs_at}

pub returns-then-depth-eq0 : goal.returns-then-depth-eq0
returns-then-depth-eq0 g c = arguments_never c.args.depth c.args.cursor.now (omega (arith, c.if-depth-eq0.true))

pub returns : goal.returns
returns g c =
    let some = c.if-depth-eq0.false in
    let d : (c.args.depth - 1) + 1 ≡ c.args.depth = omega (arith, some) in
    let r = c.arguments_over.result in
    let new = c.arguments_over.new.cursor in
    subst (λ (m : ℕ). GivesHigh view.arguments height.arguments_height m ((exprs_at c.args.depth).arguments c.args.cursor.now) r new) d
    (subst (λ (o : Outcome Token (tree.Arguments)). GivesHigh view.arguments height.arguments_height ((c.args.depth - 1) + 1) o r new) (sym (arguments_at c.args.depth c.args.cursor.now (omega (arith, some)))) c.arguments_over.ensures)
