use Rattle.std.proofs.Common.{take}
use Rattle.std.specs.List.{AllZip}
use Rattle.scope_load.specs.State.{state_of}
use Rattle.scope_library.specs.declared.library.Library.{Library as Read}
use Rattle.scope_library.specs.Library.{library_is}
use Rattle.scope_space.specs.declared.library.Library.{Library}
use Rattle.scope_entry.specs.Libraries.{IsLibrary}
use Rattle.scope_entry.proofs.library.libraries.Given as goal

abbrev pub invariant-loop-of : goal.invariant-loop-of
invariant-loop-of l = AllZip (λ (of : Read) (made : Library). IsLibrary l.names l.entries (state_of l.loaded) (library_is of) made) (take l.of-index l.read) l.made.items
