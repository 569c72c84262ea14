use Rattle.std.proofs.Common.{◌-◌}
use Rattle.dart_token.specs.declared.sign.Sign.TheVariants as s
use Rattle.token_codes.specs.Codes.{these}
use Rattle.token_codes.specs.Leaves.{comma_name}
use Rattle.parse_loop.specs.Lists.{SoFar}
use Rattle.parse_loop.proofs.Alike.{flat}
use Rattle.parse_head.specs.Heads.{comma_names}
use Rattle.parse_head.proofs.listing.comma_names.Given as goal

abbrev pub invariant-loop-turn : goal.invariant-loop-turn
invariant-loop-turn l = SoFar (flat (these s.Comma) comma_name) 0 (comma_names l.fn.cursor) l.found.items 0 (l._turn-end - l._turn) l.cursor
