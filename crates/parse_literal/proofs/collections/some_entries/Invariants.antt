use Rattle.std.proofs.Common.{◌-◌}
use Rattle.dart_token.specs.declared.sign.Sign.TheVariants as s
use Rattle.dart_tree.specs.Lists.{entries_of}
use Rattle.token_codes.specs.Leaves.{sign}
use Rattle.parse_loop.specs.Lists.{TrailSoFar}
use Rattle.parse_nest.specs.Stages.{closed_at}
use Rattle.syntax_readers.specs.Primaries.{expr_first, entry}
use Rattle.parse_literal.specs.Views.{some_entries}
use Rattle.parse_literal.proofs.Listings.{entries_list}
use Rattle.parse_literal.proofs.collections.some_entries.Given as goal

abbrev pub invariant-loop-turn : goal.invariant-loop-turn
invariant-loop-turn g l = TrailSoFar (entries_list (closed_at l.depth)) expr_first (sign s.Comma) (entry (closed_at l.depth)) l.depth (some_entries (closed_at l.depth) l.fn.cursor) (entries_of l.found.items) l.highest (l._turn-end - l._turn) l.cursor
