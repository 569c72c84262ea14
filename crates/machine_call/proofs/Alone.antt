-- Calls that are given nothing, or the last operand alone.
use Rattle.std.proofs.Common.{◌≡◌, ℕ, Bool, false, List, [], ◌∷◌, ◌++◌, map, ap, ◌∙◌}
use Rattle.dart_base.specs.declared.name.Name.{Name}
use Rattle.dart_ir.specs.declared.value.Value.{Value}
use Rattle.machine_lookup.specs.Rows.{last_of, but_last, past}
use Rattle.machine_frame.proofs.Rows.{last_push, but_push, last_none, but_none}

pub none_given : (b : Bool) (n : ℕ) (xs : List Value) → b ≡ false → n ≡ 0 → past b (last_of n xs) ≡ []
none_given b n xs e f = ap (λ c. past c (last_of n xs)) e ∙ ap (λ m. last_of m xs) f ∙ last_none xs

pub none_cut : (n : ℕ) (xs : List Value) → n ≡ 0 → but_last n xs ≡ xs
none_cut n xs f = ap (λ m. but_last m xs) f ∙ but_none xs

pub one_given : (b : Bool) (n : ℕ) (xs : List Value) (x : Value) → b ≡ false → n ≡ 1 → past b (last_of n (xs ++ x ∷ [])) ≡ x ∷ []
one_given b n xs x e f =
    ap (λ c. past c (last_of n (xs ++ x ∷ []))) e ∙ ap (λ m. last_of m (xs ++ x ∷ [])) f ∙ last_push 0 xs x ∙ ap (λ l. l ++ x ∷ []) (last_none xs)

pub one_cut : (n : ℕ) (xs : List Value) (x : Value) → n ≡ 1 → but_last n (xs ++ x ∷ []) ≡ xs
one_cut n xs x f = ap (λ m. but_last m (xs ++ x ∷ [])) f ∙ but_push 0 xs x ∙ but_none xs

pub no_names : (names : List Name) → names ≡ [] → map (λ (n : Name). n.0) names ≡ []
no_names names e = ap (map (λ (n : Name). n.0)) e

pub ruleset alone_laws = (none_given, none_cut, one_given, one_cut, no_names)
