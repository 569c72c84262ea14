-- Means of proof, which no public contract cites: the clauses of a comparison over the numbers of
-- interned types.
use Rattle.std.specs.Prelude.{◌≡◌, ℕ, ◌<◌, List, [], ◌∷◌, ◌++◌, Bool, true, false, cond, nat_eq, nat_le, map, length}
use Rattle.std.specs.Global.{Vec}
use Rattle.dart_ir.specs.Ty.{Ty, Tys, NamedTys, bottom, void, function, nil, cons, unnamed, named}
use Rattle.dart_ir.specs.Classes.{count}
use Rattle.dart_type.specs.declared.intern.Node.{Node}
use Rattle.dart_type.specs.declared.clauses.Comparison.{Comparison}
use Rattle.dart_type.specs.Relation.{append}
use Rattle.dart_type.specs.Search.{Goal, truth, assign}
use Rattle.dart_type.specs.Intern.{read, reads, types, AreBelow, Grows}

-- the comparison of the types of two numbers
abbrev pub goal_of : List Ty → Comparison → Goal
goal_of ts c = (read ts c.t, read ts c.s)

abbrev pub ways_of : List Ty → List Comparison → List Goal
ways_of ts ws = map (goal_of ts) ws

abbrev pub clauses_of : List Ty → List (Vec Comparison) → List (List Goal)
clauses_of ts cs = map (λ c. ways_of ts c.items) cs

-- each number in it is below n
abbrev pub AreListed : ℕ → List Comparison → Type 0
AreListed n [] = Unit {0}
AreListed n (c ∷ cs) = ((c.t < n) × (c.s < n)) × AreListed n cs

abbrev pub AllListed : ℕ → List (Vec Comparison) → Type 0
AllListed n [] = Unit {0}
AllListed n (c ∷ cs) = AreListed n c.items × AllListed n cs

-- The pairs of types of which the function rule asks that they are assignable, in clauses.

abbrev pub is_bottom : Ty → Bool
is_bottom bottom = true
is_bottom _ = false

abbrev pub is_void : Ty → Bool
is_void void = true
is_void _ = false

abbrev pub result_pairs : Ty → Ty → List (List Goal)
result_pairs r s = cond (is_void s) [] (((r, s) ∷ []) ∷ [])

abbrev pub positional_pairs : Tys → Tys → List (List Goal)
positional_pairs ts nil = []
positional_pairs nil (cons s ss) = [] ∷ []
positional_pairs (cons t ts) (cons s ss) = ((t, s) ∷ []) ∷ positional_pairs ts ss

abbrev pub named_pair_ways : NamedTys → ℕ → Ty → List Goal
named_pair_ways unnamed x v = []
named_pair_ways (named y u us) x v = cond (nat_eq y x) ((u, v) ∷ []) [] ++ named_pair_ways us x v

abbrev pub named_pairs : NamedTys → NamedTys → List (List Goal)
named_pairs n unnamed = []
named_pairs n (named x v vs) = named_pair_ways n x v ∷ named_pairs n vs

abbrev pub rule_pairs : Ty → Ty → List (List Goal)
rule_pairs (function r q o n) (function s p e m) = result_pairs r s
    ++ (truth (nat_le (count q) (count p))
    ++ (positional_pairs (append q o) (append p e) ++ named_pairs n m))
rule_pairs _ _ = []

-- the comparisons that make each pair assignable
abbrev pub assign_ways : List Goal → List Goal
assign_ways [] = []
assign_ways (g ∷ gs) = assign g.0 g.1 ++ assign_ways gs

abbrev pub assign_clauses : List (List Goal) → List (List Goal)
assign_clauses [] = []
assign_clauses (c ∷ cs) = assign_ways c ∷ assign_clauses cs

-- the numbers have these types
pub record GivesTys (old new : List Node) (is : List ℕ) (ts : Tys) : Type 0 where
  pub grows : Grows old new
  pub listed : AreBelow (length new) is
  pub are : reads (types new) is ≡ ts

pub record GivesWays (old new : List Node) (ws : List Comparison) (gs : List Goal) : Type 0 where
  pub grows : Grows old new
  pub listed : AreListed (length new) ws
  pub are : ways_of (types new) ws ≡ gs

pub record GivesClauses (old new : List Node) (cs : List (Vec Comparison)) (gs : List (List Goal)) :
    Type 0 where
  pub grows : Grows old new
  pub listed : AllListed (length new) cs
  pub are : clauses_of (types new) cs ≡ gs
