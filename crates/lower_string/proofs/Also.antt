-- Texts that follow one another.
use Rattle.std.proofs.Common.{◌≡◌, ℕ, List, [], ◌++◌, Option, Some, None, refl, ap, append_assoc, append-nil}
use Rattle.std.proofs.lemmas.List.{map-append}
use Rattle.dart_tree.proofs.Rows.{view_omitted, view_given}
use Rattle.translation.specs.Strings as s

pub also_more : (a b : List ℕ) (more : Option (List ℕ)) → s.also (Some a) (s.also (Some b) more) ≡ s.also (Some (a ++ b)) more
also_more a b None = refl
also_more a b (Some c) = ap Some (rw append_assoc refl)

pub also_nothing : (more : Option (List ℕ)) → s.also (Some []) more ≡ more
also_nothing None = refl
also_nothing (Some c) = refl

-- a piece before the rest
pub also_piece : (one value more : Option (List ℕ)) → s.also one (s.also value more) ≡ s.also (s.also one value) more
also_piece None value more = refl
also_piece (Some a) None more = refl
also_piece (Some a) (Some b) more = also_more a b more

-- behind the last text
pub also_end : (one : Option (List ℕ)) → s.also one (Some []) ≡ one
also_end None = refl
also_end (Some a) = ap Some (append-nil a)

-- a text that is not constant
pub also_none : (one : Option (List ℕ)) → s.also one None ≡ None
also_none None = refl
also_none (Some a) = refl

pub ruleset also_laws = (also_more, also_nothing, also_piece, also_end)

-- a piece with or without an expression behind it
pub ruleset piece_laws = (view_omitted, view_given, also_end, also_none)

-- parts with one more
pub ruleset pushed = (map-append)
