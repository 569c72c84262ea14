-- Whether a type is a subtype of another, as a test (ECMA-408, 16.34 Type Test, 19.4 Interface Types).
use Rattle.std.specs.Prelude.{ℕ, zero, suc, List, [], ◌∷◌, length, Bool, true, false, ◌&&◌, ◌||◌, nat_eq, nat_lt}
use Rattle.dart_ir.specs.Ty.{Ty, Tys, NamedTys, dynamic, bottom, void, class, parameter, function, nil, cons, unnamed, named}
use Rattle.dart_ir.specs.Classes.{count, class_at, parameter_count}
use Rattle.dart_ir.specs.declared.class.Classes.{Classes}
use Rattle.dart_type.specs.Relation.{Table, table_of, floor}
use Rattle.dart_type.specs.Search.{Goal, goals, measure}

-- each class in it is listed and has as many arguments as parameters, and no type parameter stands in it
abbrev mutual
  pub is_formed : Classes → Ty → Bool
  is_formed k dynamic = true
  is_formed k bottom = true
  is_formed k void = true
  is_formed k (class c ts) = nat_lt c (length k.classes.items) && (nat_eq (count ts) (parameter_count (class_at k c)) && are_formed k ts)
  is_formed k (parameter i) = false
  is_formed k (function r q o n) = is_formed k r && (are_formed k q && (are_formed k o && are_named_formed k n))

  pub are_formed : Classes → Tys → Bool
  are_formed k nil = true
  are_formed k (cons t ts) = is_formed k t && are_formed k ts

  pub are_named_formed : Classes → NamedTys → Bool
  are_named_formed k unnamed = true
  are_named_formed k (named x t ts) = is_formed k t && are_named_formed k ts

-- one of the comparisons
abbrev pub any_way : (Goal → Bool) → List Goal → Bool
any_way holds [] = false
any_way holds (g ∷ gs) = holds g || any_way holds gs

-- in each clause one of the comparisons
abbrev pub all_clauses : (Goal → Bool) → List (List Goal) → Bool
all_clauses holds [] = true
all_clauses holds (c ∷ cs) = any_way holds c && all_clauses holds cs

-- whether a comparison holds, by its clauses, of which so many are looked at one inside another
unfoldable pub holds_within : ℕ → Table → Goal → Bool
holds_within zero k g = false
holds_within (suc n) k g = all_clauses (holds_within n k) (goals k g.0 g.1)

-- Whether the first type is a subtype of the second. The measure falls from each comparison to those of its clauses, so none is cut off.
-- A type that isn't formed is no subtype, and has none.
unfoldable pub is_subtype : Classes → Ty → Ty → Bool
is_subtype k t s =
    is_formed k t
    && (is_formed k s && holds_within (suc (measure (table_of k) (length k.classes.items) (floor t, s))) (table_of k) (floor t, s))
