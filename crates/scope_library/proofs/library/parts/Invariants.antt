use Rattle.std.proofs.Common.{◌≡◌, [], drop, fold}
use Rattle.scope_library.specs.Library.{with_part}
use Rattle.scope_library.proofs.library.parts.Given as goal

abbrev pub invariant-loop-link : goal.invariant-loop-link
invariant-loop-link l = fold (with_part l.by) l.found.items (drop l.link-index l.links) ≡ fold (with_part l.by) [] l.links
