-- What is found at the front of a text: a piece there, and no shorter than each other.
use Rattle.std.proofs.Common.{◌≡◌, ap, refl, ℕ, suc, ◌<◌, ◌≤◌, List, zero, arith, length, take, ◌⊎◌, inl, inr, Option}
use Rattle.dart_token.specs.declared.token.Quote.{Quote}
use Rattle.dart_pieces.specs.declared.piece.PieceClass.{PieceClass}
use Rattle.dart_pieces.specs.Pieces.{IsPiece}
use Rattle.dart_pieces.specs.Marks.{Found}

-- longer than a piece of this class and length, or the same
abbrev pub Reaches : PieceClass → ℕ → Found → Type 0
Reaches kind n found = (n < found.1) ⊎ ((found.0 ≡ kind) × (found.1 ≡ n))

abbrev pub SoundAt : Option Quote → List ℕ → Found → Type 0
SoundAt around text found = (0 < found.1) × (found.1 ≤ length text) × IsPiece around found.0 (take found.1 text)

pub more_or_same : (n m : ℕ) → n ≤ m → (n < m) ⊎ (m ≡ n)
more_or_same zero zero le = inr refl
more_or_same zero (suc m) le = inl (omega arith)
more_or_same (suc n) zero le = absurd (omega arith)
more_or_same (suc n) (suc m) le = elim (more_or_same n m (omega arith)) as (λ _. (suc n < suc m) ⊎ (suc m ≡ suc n)) [ inl lt ↦ inl (omega arith) | inr e ↦ inr (ap suc e) ]

-- at least as long, and of the same class
pub at_least : (kind : PieceClass) (n m : ℕ) → n ≤ m → Reaches kind n (kind, m)
at_least kind n m le = elim (more_or_same n m le) as (λ _. Reaches kind n (kind, m)) [ inl lt ↦ inl lt | inr e ↦ inr (refl, e) ]
