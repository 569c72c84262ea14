use Rattle.std.proofs.Common.{◌≡◌, ◌++◌, drop, map, flat_map}
use Rattle.dart_tree.specs.UnitTokens.{init_tokens}
use Rattle.dart_tree.specs.UnitView as uv
use Rattle.dart_unparse.proofs.leaf.Writer.inits.Given as goal

-- what was written and what is left to write are all
abbrev pub invariant-loop-one : goal.invariant-loop-one
invariant-loop-one l = l.self.tokens.items ++ flat_map init_tokens (map uv.init (drop l.one-index l.all.items)) ≡ l.fn.self.tokens.items ++ flat_map init_tokens (map uv.init l.all.items)
