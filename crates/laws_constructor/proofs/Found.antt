-- What is asked of the grammar where generative constructors are read holds, and so they are found where what stands inside is.
use Rattle.std.proofs.Common.{ℕ}
use Rattle.laws_unit.specs.Statements.{MemberPartsReadAt}
use Rattle.laws_unit.specs.Members.{BlockReadAt, InitsCloseAt}
use Rattle.laws_unit.proofs.Generatives.{generatives_at}
use Rattle.laws_unit.proofs.Mending.{mended_at}
use Rattle.laws_constructor.specs.Statements.{BracesCloseAt, ConstructorsFoundAt}
use Rattle.laws_constructor.proofs.Blocks.{block_closes}
use Rattle.laws_constructor.proofs.Lasts.{closes_at, last_brace_at}
use Rattle.laws_constructor.proofs.Scanned.{goes_on_at, scanned_at}

pub inits_close_at : (n : ℕ) → InitsCloseAt n
inits_close_at n = record { goes_on = goes_on_at n; closes = closes_at n; block_ends = block_closes n }

pub braces_close_at : (n : ℕ) → BracesCloseAt n
braces_close_at n = record { inits = inits_close_at n; scanned = scanned_at n; last = last_brace_at n }

pub constructors_at : (n : ℕ) → MemberPartsReadAt n → BlockReadAt n → ConstructorsFoundAt n
constructors_at n parts block = record {
  found = generatives_at n parts block (inits_close_at n) (scanned_at n);
  mends = mended_at n parts block (inits_close_at n) (last_brace_at n);
}
