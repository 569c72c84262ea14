-- Tables of members.
use Rattle.std.proofs.Common.{◌≡◌, ℕ, zero, suc, List, [], ◌∷◌, replicate, Option, Some, None, IfSome, slice_index_or, slice_set, subst}
use Rattle.std.proofs.lemmas.Option.{none-some}
use Rattle.core_program.specs.Program.{Program}
use Rattle.machine_lookup.specs.declared.linked.Found.{Found}
use Rattle.machine_lookup.specs.Found.{IsFound, AreFound}

-- a table that says nothing
pub none_found : (p : Program ℕ) (n : ℕ) → AreFound p (replicate n None)
none_found p zero = tt
none_found p (suc n) = (tt, none_found p n)

-- what a slot says that is filled
pub slot_says : (p : Program ℕ) (slots : List (Option Found)) (i : ℕ) (f : Found) → AreFound p slots → slice_index_or slots i None ≡ Some f → IsFound p f
slot_says p [] i f h e = absurd (none-some f e)
slot_says p (s ∷ slots) zero f h e = subst (λ o. IfSome o (IsFound p)) e h.0
slot_says p (s ∷ slots) (suc i) f h e = slot_says p slots i f h.1 e

-- a slot is written
pub slot_put : (p : Program ℕ) (slots : List (Option Found)) (i : ℕ) (f : Found) → AreFound p slots → IsFound p f → AreFound p (slice_set slots i (Some f))
slot_put p [] i f h x = tt
slot_put p (s ∷ slots) zero f h x = (x, h.1)
slot_put p (s ∷ slots) (suc i) f h x = (h.0, slot_put p slots i f h.1 x)
