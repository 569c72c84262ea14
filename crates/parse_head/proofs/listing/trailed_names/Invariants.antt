use Rattle.std.proofs.Common.{◌-◌, map}
use Rattle.dart_token.specs.declared.sign.Sign.TheVariants as s
use Rattle.token_codes.specs.Codes.{names}
use Rattle.token_codes.specs.Leaves.{sign, identifier}
use Rattle.parse_loop.specs.Lists.{TrailSoFar}
use Rattle.parse_head.specs.Heads.{trailed_names, pair_of}
use Rattle.parse_head.proofs.Naming.{names_list}
use Rattle.parse_head.proofs.listing.trailed_names.Given as goal

abbrev pub invariant-loop-turn : goal.invariant-loop-turn
invariant-loop-turn l = TrailSoFar names_list names (sign s.Comma) identifier 0 (trailed_names l.fn.cursor) (map pair_of l.found.items) 0 (l._turn-end - l._turn) l.cursor
