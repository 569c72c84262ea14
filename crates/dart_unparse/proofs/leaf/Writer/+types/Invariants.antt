use Rattle.std.proofs.Common.{◌≡◌, ◌++◌, drop}
use Rattle.dart_tree.specs.LeafTokens.{type_list_tokens}
use Rattle.dart_tree.specs.Lists.{type_list_of}
use Rattle.dart_unparse.proofs.leaf.Writer.+types.Given as goal

-- what was written and what is left to write are all
abbrev pub invariant-type_list-loop-one : goal.invariant-type_list-loop-one
invariant-type_list-loop-one l = l.self.tokens.items ++ type_list_tokens (type_list_of (drop l.one-index l.listed.items)) ≡ l.fn.self.tokens.items ++ type_list_tokens (type_list_of l.listed.items)
