use Rattle.std.proofs.Common.{refl}
use Rattle.dart_tree.specs.LeafTokens.{dot_names_tokens, dot_name_tokens}
use Rattle.dart_unparse.proofs.Turns.{turn, over}
use Rattle.dart_unparse.proofs.leaf.Writer.dot_names.Goals as goal

pub loop-name-preserved : goal.loop-name-preserved
loop-name-preserved c = turn dot_names_tokens dot_name_tokens (λ x rest. refl) c.args.names.now.items c.deref-name-items.result.now c.loop-name.name-index c.name-item.result c.loop-name.self.tokens.items _ _ c.deref-name-items.ensures.value c.loop-name-test.true c.name-item.is c.loop-name.invariant c.in_ok-dot_name.ensures

pub returns : goal.returns
returns c = over dot_names_tokens refl c.args.names.now.items c.deref-name-items.result.now c.loop-name.name-index c.loop-name.self.tokens.items _ c.deref-name-items.ensures.value c.loop-name-test.false c.loop-name.invariant
