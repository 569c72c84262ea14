-- How many libraries a program has.
use Rattle.std.proofs.Common.{ℕ, ◌+◌, ◌≤◌, Bool, true, false, cond, List, [], ◌∷◌, length, arith}
use Rattle.dart_tree.specs.Unit.{UnitTree}
use Rattle.scope_mention.specs.Head.{is_part}
use Rattle.scope_load.specs.State.{State}
use Rattle.scope_library.specs.Library.{LibraryIs, libraries_from, library_at}

one_more : (b : Bool) (some : List LibraryIs) (one : LibraryIs) (n : ℕ) → length some ≤ n → length (cond b some (one ∷ some)) ≤ n + 1
one_more true some one n few = omega arith
one_more false some one n few = omega arith

-- no more than units
pub few_libraries : (state : State) (at : ℕ) (units : List UnitTree) → length (libraries_from state at units) ≤ length units
few_libraries state at [] = omega arith
few_libraries state at (unit ∷ units) =
    omega (arith, one_more (is_part unit) (libraries_from state (at + 1) units) (library_at state at) (length units) (few_libraries state (at + 1) units))
