use Rattle.std.proofs.Common.{◌≡◌, ◌+◌, ◌-◌, ℕ, sym, subst, arith}
use Rattle.dart_token.specs.declared.token.Token.{Token}
use Rattle.dart_tree.specs.Depth as height
use Rattle.dart_tree.specs.Tree as tree
use Rattle.dart_tree.specs.View as view
use Rattle.grammar_laws.specs.Readers.{Outcome}
use Rattle.token_cursor.specs.Gives.{GivesHigh}
use Rattle.parse_literal.proofs.Staged.{collection_never, collection_at}
use Rattle.parse_literal.proofs.collections.collection.Goals as goal
use Rattle.parse_nest.specs.Stages.{exprs_at}

pub returns-then-depth-eq0 : goal.returns-then-depth-eq0
returns-then-depth-eq0 g c = collection_never c.args.depth c.args.cursor.now (omega (arith, c.if-depth-eq0.true))

pub returns : goal.returns
returns g c =
    let some = c.if-depth-eq0.false in
    let d : (c.args.depth - 1) + 1 ≡ c.args.depth = omega (arith, some) in
    let r = c.collection_over.result in
    let new = c.collection_over.new.cursor in
    subst (λ (m : ℕ). GivesHigh view.primary height.primary_height m ((exprs_at c.args.depth).collection c.args.cursor.now) r new) d
    (subst (λ (o : Outcome Token (tree.Primary)). GivesHigh view.primary height.primary_height ((c.args.depth - 1) + 1) o r new) (sym (collection_at c.args.depth c.args.cursor.now (omega (arith, some)))) c.collection_over.ensures)
