use Rattle.std.proofs.Common.{◌≡◌, ◌++◌, drop}
use Rattle.dart_tree.specs.LeafTokens.{dot_names_tokens}
use Rattle.dart_unparse.proofs.leaf.Writer.dot_names.Given as goal

-- what was written and what is left to write are all
abbrev pub invariant-loop-name : goal.invariant-loop-name
invariant-loop-name l = l.self.tokens.items ++ dot_names_tokens (drop l.name-index l.names.items) ≡ l.fn.self.tokens.items ++ dot_names_tokens l.names.items
