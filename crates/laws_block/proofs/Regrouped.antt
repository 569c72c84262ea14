-- Three in a row, however they are grouped.
use Rattle.std.proofs.Common.{◌≡◌, List, Ok, Err, refl}
use Rattle.grammar_laws.specs.Readers.{Outcome, Reader, and_then, both, mapped}

module _ {T A B C D : Type 0} (f : (A × B) × C → D) (p : Reader T A) (q : Reader T B) (r : Reader T C) where
  abbrev split : A × (B × C) → D
  split x = f ((x.0, x.1.0), x.1.1)

  abbrev joined : (A × B) × C → Reader T D
  joined x rest = Ok (f x, rest)

  abbrev parted : A × (B × C) → Reader T D
  parted x rest = Ok (split x, rest)

  abbrev last : A × B → Reader T ((A × B) × C)
  last x mid = and_then (r mid) (λ c rest. Ok ((x, c), rest))

  third : (a : A) (b : B) (o : Outcome T C) → and_then (and_then o (λ c rest. Ok (((a, b), c), rest))) joined ≡ and_then (and_then (and_then o (λ c rest. Ok ((b, c), rest))) (λ y rest. Ok ((a, y), rest))) parted
  third a b (Ok x) = refl
  third a b (Err x) = refl

  second : (a : A) (o : Outcome T B) → and_then (and_then (and_then o (λ b rest. Ok ((a, b), rest))) last) joined ≡ and_then (and_then (and_then o (λ b mid. and_then (r mid) (λ c rest. Ok ((b, c), rest)))) (λ y rest. Ok ((a, y), rest))) parted
  second a (Ok x) = third a x.0 (r x.1)
  second a (Err x) = refl

  first : (o : Outcome T A) → and_then (and_then (and_then o (λ a mid. and_then (q mid) (λ b rest. Ok ((a, b), rest)))) last) joined ≡ and_then (and_then o (λ a mid. and_then (both q r mid) (λ y rest. Ok ((a, y), rest)))) parted
  first (Ok x) = second x.0 (q x.1)
  first (Err x) = refl

  pub regrouped : (ts : List T) → mapped f (both (both p q) r) ts ≡ mapped split (both p (both q r)) ts
  regrouped ts = first (p ts)
