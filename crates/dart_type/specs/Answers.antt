-- Means of proof, which no public contract cites: comparisons of interned types that are decided.
use Rattle.std.specs.Prelude.{◌≡◌, ℕ, ◌<◌, ◌↔◌, List, [], ◌∷◌, Bool, IsTrue, length, ◌⊎◌}
use Rattle.dart_type.specs.declared.intern.Node.{Node}
use Rattle.dart_type.specs.declared.search.Answer.{Answer}
use Rattle.dart_type.specs.Relation.{Table, IsMoreSpecific}
use Rattle.dart_type.specs.Search.{Goal}
use Rattle.dart_type.specs.Intern.{read, types, Grows}

-- the comparison is derived
abbrev pub Holds : Table → Goal → Type 0
Holds k g = IsMoreSpecific k g.0 g.1

-- the answer says whether the first type is more specific than the second
pub record IsRight (k : Table) (ns : List Node) (a : Answer) : Type 0 where
  pub t_listed : a.t < length ns
  pub s_listed : a.s < length ns
  pub says : IsTrue a.holds ↔ IsMoreSpecific k (read (types ns) a.t) (read (types ns) a.s)

abbrev pub AreRight : Table → List Node → List Answer → Type 0
AreRight k ns [] = Unit {0}
AreRight k ns (a ∷ bs) = IsRight k ns a × AreRight k ns bs

-- after it: more nodes, right answers, and what the answer says in terms of before
pub record Decides (k : Table) (old new : List Node) (kept : List Answer) (b : Bool) (P : Type 0) :
    Type 0 where
  pub grows : Grows old new
  pub right : AreRight k new kept
  pub says : IsTrue b ↔ P

-- the answer to the comparison of t and s stands in the list
abbrev pub IsKept : List Answer → ℕ → ℕ → Bool → Type 0
IsKept [] t s b = ⊥
IsKept (a ∷ bs) t s b = ((a.t ≡ t) × (a.s ≡ s) × (a.holds ≡ b)) ⊎ IsKept bs t s b
