-- Means of proof, which no public contract cites: how the search takes a comparison of types apart,
-- into clauses, each of which asks for one of several comparisons.
use Rattle.std.specs.Prelude.{◌≡◌, ℕ, ◌+◌, ◌*◌, ◌⊎◌, List, [], ◌∷◌, ◌++◌, Bool, true, false, cond, nat_eq, nat_lt, nat_le, max}
use Rattle.dart_ir.specs.Ty.{Ty, Tys, NamedTys, dynamic, bottom, void, class, parameter, function, nil, cons, unnamed, named}
use Rattle.dart_ir.specs.Classes.{count}
use Rattle.dart_type.specs.Instance.{instances, node_count}
use Rattle.dart_type.specs.Relation.{Table, floor, append}

-- a comparison: whether the first type is more specific than the second
abbrev pub Goal : Type 0
Goal = Ty × Ty

-- the class `Function`, where a class has a method `call`
abbrev pub if_call : Bool → ℕ → Tys
if_call true f = cons (class f nil) nil
if_call false f = nil

-- the types directly above a type
abbrev pub above : Table → Ty → Tys
above k (class c ts) = append (instances ts (k.supertypes c)) (if_call (k.has_call c) k.function_class)
above k (function r q o n) = cons (class k.function_class nil) nil
above k (parameter i) = k.bounds i
above k _ = nil

-- each of the types against s
abbrev pub each_below : Tys → Ty → List Goal
each_below nil s = []
each_below (cons t ts) s = (t, s) ∷ each_below ts s

-- arguments that face each other, or one of the other ways
abbrev pub facing : Tys → Tys → List Goal → List (List Goal)
facing nil nil ways = []
facing nil (cons s ss) ways = ways ∷ []
facing (cons t ts) nil ways = ways ∷ []
facing (cons t ts) (cons s ss) ways = ((t, s) ∷ ways) ∷ facing ts ss ways

-- no clause where it holds, and a clause without a way where it doesn't
abbrev pub truth : Bool → List (List Goal)
truth true = []
truth false = [] ∷ []

abbrev pub assign : Ty → Ty → List Goal
assign t s = (floor t, s) ∷ (floor s, t) ∷ []

abbrev pub result_goals : Ty → Ty → List (List Goal)
result_goals r void = []
result_goals r dynamic = assign r dynamic ∷ []
result_goals r bottom = assign r bottom ∷ []
result_goals r (class c ts) = assign r (class c ts) ∷ []
result_goals r (parameter i) = assign r (parameter i) ∷ []
result_goals r (function s q o n) = assign r (function s q o n) ∷ []

abbrev pub positional_goals : Tys → Tys → List (List Goal)
positional_goals ts nil = []
positional_goals nil (cons s ss) = [] ∷ []
positional_goals (cons t ts) (cons s ss) = assign t s ∷ positional_goals ts ss

-- a named parameter of that name, assignable to v
abbrev pub named_ways : NamedTys → ℕ → Ty → List Goal
named_ways unnamed x v = []
named_ways (named y u us) x v = cond (nat_eq y x) (assign u v) [] ++ named_ways us x v

abbrev pub named_goals : NamedTys → NamedTys → List (List Goal)
named_goals n unnamed = []
named_goals n (named x v vs) = named_ways n x v ∷ named_goals n vs

abbrev pub to_bottom : Ty → List (List Goal)
to_bottom bottom = []
to_bottom _ = [] ∷ []

abbrev pub to_void : Ty → List (List Goal)
to_void bottom = []
to_void void = []
to_void _ = [] ∷ []

abbrev pub to_parameter : ℕ → Ty → List (List Goal)
to_parameter i bottom = []
to_parameter i (parameter j) = truth (nat_eq j i)
to_parameter i _ = [] ∷ []

abbrev pub to_class : Table → ℕ → Tys → Ty → List (List Goal)
to_class k d ss bottom = []
to_class k d ss (class c ts) = cond (nat_eq c d)
    (facing ts ss (each_below (above k (class c ts)) (class d ss)))
    (each_below (above k (class c ts)) (class d ss) ∷ [])
to_class k d ss dynamic = [] ∷ []
to_class k d ss void = [] ∷ []
to_class k d ss (parameter i) = each_below (k.bounds i) (class d ss) ∷ []
to_class k d ss (function r q o n) = each_below (above k (function r q o n)) (class d ss) ∷ []

abbrev pub to_function : Table → Ty → Tys → Tys → NamedTys → Ty → List (List Goal)
to_function k s p e m bottom = []
to_function k s p e m (class c ts) = truth (k.has_call c)
to_function k s p e m (function r q o n) = result_goals r s
    ++ (truth (nat_le (count q) (count p))
    ++ (positional_goals (append q o) (append p e) ++ named_goals n m))
to_function k s p e m _ = [] ∷ []

-- the clauses of a comparison
abbrev pub goals : Table → Ty → Ty → List (List Goal)
goals k t dynamic = []
goals k t bottom = to_bottom t
goals k t void = to_void t
goals k t (parameter i) = to_parameter i t
goals k t (class d ss) = to_class k d ss t
goals k t (function s p e m) = to_function k s p e m t

abbrev pub AnyWay : (Goal → Type 0) → List Goal → Type 0
AnyWay P [] = ⊥
AnyWay P (g ∷ gs) = P g ⊎ AnyWay P gs

abbrev pub AllClauses : (Goal → Type 0) → List (List Goal) → Type 0
AllClauses P [] = Unit {0}
AllClauses P (c ∷ cs) = AnyWay P c × AllClauses P cs

-- the size of the largest function type in a type
abbrev mutual
  pub wide : Ty → ℕ
  wide (function r q o n) = node_count (function r q o n)
  wide (class c ts) = wides ts
  wide _ = 0

  pub wides : Tys → ℕ
  wides nil = 0
  wides (cons t ts) = max (wide t) (wides ts)

-- how many steps up a type has at most, where the table has n classes
abbrev pub rank : Table → ℕ → Ty → ℕ
rank k n (class c ts) = cond (nat_lt c n) (c + 1) 0
rank k n (function r q o m) = k.function_class + 2
rank k n _ = 0

-- It falls from a comparison to those of its clauses.
abbrev pub measure : Table → ℕ → Goal → ℕ
measure k n g = (wide g.0 + node_count g.1) * (n + k.function_class + 3) + rank k n g.0

abbrev pub largest : Table → ℕ → List Goal → ℕ
largest k n [] = 0
largest k n (g ∷ gs) = max (measure k n g) (largest k n gs)

abbrev pub largest_of : Table → ℕ → List (List Goal) → ℕ
largest_of k n [] = 0
largest_of k n (c ∷ cs) = max (largest k n c) (largest_of k n cs)

abbrev pub HasCall : Table → Ty → Type 0
HasCall k (class c ts) = k.has_call c ≡ true
HasCall k _ = ⊥
