use Rattle.std.proofs.Common.{◌≡◌, ◌++◌, drop}
use Rattle.dart_tree.specs.LeafTokens.{labels_tokens}
use Rattle.dart_unparse.proofs.leaf.Writer.labels.Given as goal

-- what was written and what is left to write are all
abbrev pub invariant-loop-label : goal.invariant-loop-label
invariant-loop-label l = l.self.tokens.items ++ labels_tokens (drop l.label-index l.labels.items) ≡ l.fn.self.tokens.items ++ labels_tokens l.labels.items
