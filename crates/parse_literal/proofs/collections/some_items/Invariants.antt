use Rattle.std.proofs.Common.{◌-◌}
use Rattle.dart_token.specs.declared.sign.Sign.TheVariants as s
use Rattle.dart_tree.specs.Lists.{items_of}
use Rattle.token_codes.specs.Leaves.{sign}
use Rattle.parse_loop.specs.Lists.{TrailSoFar}
use Rattle.parse_nest.specs.Stages.{closed_at}
use Rattle.syntax_readers.specs.Primaries.{expr_first}
use Rattle.parse_literal.specs.Views.{some_items}
use Rattle.parse_literal.proofs.Listings.{items_list}
use Rattle.parse_literal.proofs.collections.some_items.Given as goal

abbrev pub invariant-loop-turn : goal.invariant-loop-turn
invariant-loop-turn g l = TrailSoFar (items_list (closed_at l.depth)) expr_first (sign s.Comma) (closed_at l.depth) l.depth (some_items (closed_at l.depth) l.fn.cursor) (items_of l.found.items) l.highest (l._turn-end - l._turn) l.cursor
