use Rattle.std.proofs.Common.{◌≡◌, ◌++◌, drop, true}
use Rattle.dart_ir.specs.Ty.{tys, named_tys}
use Rattle.core_text.specs.Types.{listed, listed_named}
use Rattle.core_text.proofs.types.+typing.Given as goal

abbrev pub invariant-push_types-loop-one : goal.invariant-push_types-loop-one
invariant-push_types-loop-one l =
    l.bytes ++ listed l.program l.is_first (tys (drop l.one-index l.types.items)) ≡ l.fn.bytes ++ listed l.program true (tys l.types.items)

abbrev pub invariant-push_entries-loop-one : goal.invariant-push_entries-loop-one
invariant-push_entries-loop-one l =
    l.bytes ++ listed_named l.program l.is_first (named_tys (drop l.one-index l.named.items)) ≡ l.fn.bytes ++ listed_named l.program true (named_tys l.named.items)
