use Rattle.std.proofs.Common.{◌≡◌, ◌++◌, drop, map, flat_map}
use Rattle.dart_tree.specs.UnitTokens.{combinator_tokens}
use Rattle.dart_tree.specs.UnitView as uv
use Rattle.dart_unparse.proofs.leaf.Writer.combinators.Given as goal

-- what was written and what is left to write are all
abbrev pub invariant-loop-one : goal.invariant-loop-one
invariant-loop-one l = l.self.tokens.items ++ flat_map combinator_tokens (map uv.combinator (drop l.one-index l.all.items)) ≡ l.fn.self.tokens.items ++ flat_map combinator_tokens (map uv.combinator l.all.items)
