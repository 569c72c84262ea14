-- The clauses of a comparison, as the code takes them from interned types.
use Rattle.std.proofs.Common.{◌≡◌, ℕ, zero, suc, ◌<◌, List, [], ◌∷◌, ◌++◌, length, map, Bool, true, false, cond, nat_eq, nat_le, refl, sym, ap, ◌∙◌, arith, Result, Ok, Err, IfOk, subst as transport}
use Rattle.std.specs.Global.{Vec}
use Rattle.std.proofs.lemmas.Bool.{eq-eqb}
use Rattle.dart_ir.specs.Ty.{Ty, Tys, NamedTys, dynamic, bottom, void, class, parameter, function, nil, cons, unnamed, named}
use Rattle.dart_ir.specs.Classes.{count}
use Rattle.dart_type.specs.declared.intern.Node.{Node}
use Rattle.dart_type.specs.declared.clauses.Comparison.{Comparison}
use Rattle.dart_type.specs.Relation.{Table, append}
use Rattle.dart_type.specs.Search.{Goal, above, each_below, facing, truth, assign, result_goals, positional_goals, named_ways, named_goals, to_class, goals}
use Rattle.dart_type.specs.Intern.{read, reads, types, AreBelow, IsBuilt}
use Rattle.dart_type.specs.Clauses.{ways_of, clauses_of, AreListed, AllListed, result_pairs, positional_pairs, named_pair_ways, named_pairs, rule_pairs, assign_ways, assign_clauses, GivesTys, GivesWays, GivesClauses}
use Rattle.dart_type.proofs.Interned.{grows_refl, below_more, kept_all}

pub if_both : {E T : Type 0} (r : Result T E) (P Q R : T → Type 0) → ((x : T) → P x → Q x → R x) → IfOk r P → IfOk r Q → IfOk r R
if_both (Ok x) P Q R f g h = f x g h
if_both (Err e) P Q R f g h = tt

each_are : (us : List Ty) (is : List ℕ) (s : ℕ) → ways_of us (map (λ u. record { t = u; s = s }) is) ≡ each_below (reads us is) (read us s)
each_are us [] s = refl
each_are us (i ∷ is) s = ap (λ z. (read us i, read us s) ∷ z) (each_are us is s)

each_listed : (n : ℕ) (is : List ℕ) (s : ℕ) → AreBelow n is → s < n → AreListed n (map (λ u. record { t = u; s = s }) is)
each_listed n [] s b h = tt
each_listed n (i ∷ is) s b h = ((b zero i (omega arith), h), each_listed n is s (λ k d l. b (suc k) d (omega (arith, l))) h)

pub ways_given : (a b : List Node) (us : List ℕ) (ts : Tys) (s : ℕ) (ws : List Comparison) → GivesTys a b us ts → s < length a → ws ≡ map (λ u. record { t = u; s = s }) us → GivesWays a b ws (each_below ts (read (types a) s))
ways_given a b us ts s ws g h e = record {
  grows = g.grows;
  listed = transport (AreListed (length b)) (sym e) (each_listed (length b) us s g.listed (let x = g.grows.longer in omega (arith, h, x)));
  are = ap (ways_of (types b)) e ∙ each_are (types b) us s ∙ ap (λ z. each_below z (read (types b) s)) g.are ∙ ap (each_below ts) (g.grows.same s h);
}

pub class_facing : (k : Table) (a b : List Node) (t s c d : ℕ) (ts ss : List ℕ) (ways : List Comparison) (cs : List (Vec Comparison)) → read (types a) t ≡ class c (reads (types a) ts) → read (types a) s ≡ class d (reads (types a) ss) → c ≡ d
    → AreBelow (length a) ts → AreBelow (length a) ss → GivesWays a b ways (each_below (above k (read (types a) t)) (read (types a) s))
    → ((us : List Ty) → clauses_of us cs ≡ facing (reads us ts) (reads us ss) (ways_of us ways))
    → ((n : ℕ) → AreBelow n ts → AreBelow n ss → AreListed n ways → AllListed n cs) → GivesClauses a b cs (to_class k d (reads (types a) ss) (read (types a) t))
class_facing k a b t s c d ts ss ways cs is_t is_s e lt ls g are listed = record {
  grows = g.grows;
  listed = listed (length b) (below_more (length a) (length b) g.grows.longer ts lt) (below_more (length a) (length b) g.grows.longer ss ls) g.listed;
  are =
      let A = types a in
      let W = each_below (above k (class c (reads A ts))) (class d (reads A ss)) in
      let w : ways_of (types b) ways ≡ W = g.are ∙ ap (λ z. each_below (above k z) (read A s)) is_t ∙ ap (each_below (above k (class c (reads A ts)))) is_s in
      are (types b)
      ∙ ap (λ z. facing z (reads (types b) ss) (ways_of (types b) ways)) (kept_all a b g.grows ts lt)
      ∙ ap (λ z. facing (reads A ts) z (ways_of (types b) ways)) (kept_all a b g.grows ss ls)
      ∙ ap (facing (reads A ts) (reads A ss)) w
      ∙ ap (λ z. cond z (facing (reads A ts) (reads A ss) W) (W ∷ [])) (sym (eq-eqb c d e))
      ∙ sym (ap (to_class k d (reads A ss)) is_t);
}

pub class_other : (k : Table) (a b : List Node) (t s c d : ℕ) (ts ss : List ℕ) (v : Vec Comparison) (cs : List (Vec Comparison)) → read (types a) t ≡ class c (reads (types a) ts) → read (types a) s ≡ class d (reads (types a) ss) → nat_eq c d ≡ false
    → GivesWays a b v.items (each_below (above k (read (types a) t)) (read (types a) s)) → cs ≡ v ∷ [] → GivesClauses a b cs (to_class k d (reads (types a) ss) (read (types a) t))
class_other k a b t s c d ts ss v cs is_t is_s e g made = record {
  grows = g.grows;
  listed = transport (AllListed (length b)) (sym made) (g.listed, tt);
  are =
      let A = types a in
      let W = each_below (above k (class c (reads A ts))) (class d (reads A ss)) in
      let w : ways_of (types b) v.items ≡ W = g.are ∙ ap (λ z. each_below (above k z) (read A s)) is_t ∙ ap (each_below (above k (class c (reads A ts)))) is_s in
      ap (clauses_of (types b)) made
      ∙ ap (λ z. z ∷ []) w
      ∙ ap (λ z. cond z (facing (reads A ts) (reads A ss) W) (W ∷ [])) (sym e)
      ∙ sym (ap (to_class k d (reads A ss)) is_t);
}

pub class_from_function : (k : Table) (a b : List Node) (t s d : ℕ) (ss : List ℕ) (r : Ty) (q o : Tys) (n : NamedTys) (v : Vec Comparison) (cs : List (Vec Comparison)) → read (types a) t ≡ function r q o n → read (types a) s ≡ class d (reads (types a) ss)
    → GivesWays a b v.items (each_below (above k (read (types a) t)) (read (types a) s)) → cs ≡ v ∷ [] → GivesClauses a b cs (to_class k d (reads (types a) ss) (read (types a) t))
class_from_function k a b t s d ss r q o n v cs is_t is_s g made = record {
  grows = g.grows;
  listed = transport (AllListed (length b)) (sym made) (g.listed, tt);
  are =
      ap (clauses_of (types b)) made
      ∙ ap (λ z. z ∷ []) (g.are ∙ ap (λ z. each_below (above k z) (read (types a) s)) is_t ∙ ap (each_below (above k (function r q o n))) is_s)
      ∙ sym (ap (to_class k d (reads (types a) ss)) is_t);
}

assign_join : (xs ys : List (List Goal)) → assign_clauses (xs ++ ys) ≡ assign_clauses xs ++ assign_clauses ys
assign_join [] ys = refl
assign_join (x ∷ xs) ys = ap (λ z. assign_ways x ∷ z) (assign_join xs ys)

ways_join : (xs ys : List Goal) → assign_ways (xs ++ ys) ≡ assign_ways xs ++ assign_ways ys
ways_join [] ys = refl
ways_join (x ∷ xs) ys = ap (λ z. assign x.0 x.1 ++ z) (ways_join xs ys)

truth_same : (b : Bool) → assign_clauses (truth b) ≡ truth b
truth_same true = refl
truth_same false = refl

result_same : (r s : Ty) → assign_clauses (result_pairs r s) ≡ result_goals r s
result_same r void = refl
result_same r dynamic = refl
result_same r bottom = refl
result_same r (class c ts) = refl
result_same r (parameter i) = refl
result_same r (function s q o n) = refl

positional_same : (ts ss : Tys) → assign_clauses (positional_pairs ts ss) ≡ positional_goals ts ss
positional_same nil nil = refl
positional_same (cons t ts) nil = refl
positional_same nil (cons s ss) = refl
positional_same (cons t ts) (cons s ss) = ap (λ z. assign t s ∷ z) (positional_same ts ss)

cond_same : (b : Bool) (u v : Ty) → assign_ways (cond b ((u, v) ∷ []) []) ≡ cond b (assign u v) []
cond_same true u v = refl
cond_same false u v = refl

ways_same : (n : NamedTys) (x : ℕ) (v : Ty) → assign_ways (named_pair_ways n x v) ≡ named_ways n x v
ways_same unnamed x v = refl
ways_same (named y u us) x v =
    ways_join (cond (nat_eq y x) ((u, v) ∷ []) []) (named_pair_ways us x v)
    ∙ ap (λ z. z ++ assign_ways (named_pair_ways us x v)) (cond_same (nat_eq y x) u v)
    ∙ ap (λ z. cond (nat_eq y x) (assign u v) [] ++ z) (ways_same us x v)

named_same : (n m : NamedTys) → assign_clauses (named_pairs n m) ≡ named_goals n m
named_same n unnamed = refl
named_same n (named x v vs) = ap (λ z. z ∷ assign_clauses (named_pairs n vs)) (ways_same n x v) ∙ ap (λ z. named_ways n x v ∷ z) (named_same n vs)

pub rule_same : (k : Table) (r s : Ty) (q p o e : Tys) (n m : NamedTys) → assign_clauses (rule_pairs (function r q o n) (function s p e m)) ≡ goals k (function r q o n) (function s p e m)
rule_same k r s q p o e n m =
    let R = result_pairs r s in
    let T = truth (nat_le (count q) (count p)) in
    let P = positional_pairs (append q o) (append p e) in
    let N = named_pairs n m in
    assign_join R (T ++ (P ++ N))
    ∙ ap (λ z. assign_clauses R ++ z) (assign_join T (P ++ N) ∙ ap (λ z. assign_clauses T ++ z) (assign_join P N))
    ∙ ap (λ z. z ++ (assign_clauses T ++ (assign_clauses P ++ assign_clauses N))) (result_same r s)
    ∙ ap (λ z. result_goals r s ++ (z ++ (assign_clauses P ++ assign_clauses N))) (truth_same (nat_le (count q) (count p)))
    ∙ ap (λ z. result_goals r s ++ (T ++ (z ++ assign_clauses N))) (positional_same (append q o) (append p e))
    ∙ ap (λ z. result_goals r s ++ (T ++ (positional_goals (append q o) (append p e) ++ z))) (named_same n m)

pub clauses_as : (a b : List Node) (cs : List (Vec Comparison)) (g h : List (List Goal)) → g ≡ h → GivesClauses a b cs g → GivesClauses a b cs h
clauses_as a b cs g h e k = transport (GivesClauses a b cs) e k

pub test_given : (a : List Node) (made cs : List (Vec Comparison)) (b : Bool) → IsBuilt a → made ≡ [] → ((us : List Ty) → clauses_of us cs ≡ clauses_of us made ++ truth b) → ((n : ℕ) → AllListed n made → AllListed n cs) → GivesClauses a a cs (truth b)
test_given a made cs b h e are listed = record {
  grows = grows_refl a h;
  listed = listed (length a) (transport (AllListed (length a)) (sym e) tt);
  are = are (types a) ∙ ap (λ z. clauses_of (types a) z ++ truth b) e;
}
