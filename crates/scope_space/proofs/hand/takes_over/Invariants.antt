use Rattle.std.proofs.Common.{◌≡◌, ◌&&◌, drop, slice_index_or, false}
use Rattle.std.specs.List.{list_any}
use Rattle.scope_space.specs.Library.{passes}
use Rattle.scope_space.proofs.hand.takes_over.Given as goal

-- the exports that are left decide
abbrev pub invariant-loop-export : goal.invariant-loop-export
invariant-loop-export l =
    list_any (λ export. slice_index_or l.marks export.target false && passes l.name.0 export.combinators.items) (drop l.export-index l.library.exports.items)
    ≡ list_any (λ export. slice_index_or l.marks export.target false && passes l.name.0 export.combinators.items) l.library.exports.items
