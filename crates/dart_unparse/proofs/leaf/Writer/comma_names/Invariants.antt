use Rattle.std.proofs.Common.{◌≡◌, ◌++◌, drop, flat_map}
use Rattle.dart_tree.specs.UnitTokens.{comma_name_tokens}
use Rattle.dart_unparse.proofs.leaf.Writer.comma_names.Given as goal

-- what was written and what is left to write are all
abbrev pub invariant-loop-one : goal.invariant-loop-one
invariant-loop-one l = l.self.tokens.items ++ flat_map comma_name_tokens (drop l.one-index l.all.items) ≡ l.fn.self.tokens.items ++ flat_map comma_name_tokens l.all.items
