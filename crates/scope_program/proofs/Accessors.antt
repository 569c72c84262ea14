-- How many accessors variables have, as their trees are seen.
use Rattle.std.proofs.Common.{◌≡◌, ◌∙◌, ℕ, ◌+◌, ◌*◌, Bool, true, false, cond, List, [], ◌∷◌, length, arith, refl, ap}
use Rattle.dart_tree.specs.declared.statement.Variable.{Variable}
use Rattle.dart_tree.specs.declared.statement.Variables.{Variables, out-Variables}
use Rattle.dart_tree.specs.Lists.{more_variables_of}
use Rattle.dart_tree.specs.View as view
use Rattle.dart_tree.proofs.Rows.{view_the_variables}
use Rattle.translation.specs.Types.{is_final}
use Rattle.scope_program.specs.Classes.{more_count, variable_accessors}

more-counted : (xs : List Variable) → more_count (more_variables_of xs) ≡ length xs
more-counted [] = refl
more-counted (x ∷ xs) = let more = more-counted xs in omega arith

counted : (x : Variables) (b : Bool) → is_final (view.variable_kind (out-Variables x).kind) ≡ b
    → variable_accessors (view.variables x) ≡ (length (out-Variables x).more.items + 1) * cond b 1 2
counted x b e =
    rw (view_the_variables x)
    (ap (λ n. (n + 1) * cond (is_final (view.variable_kind (out-Variables x).kind)) 1 2) (more-counted (out-Variables x).more.items)
    ∙ ap (λ final. (length (out-Variables x).more.items + 1) * cond final 1 2) e)

pub final-counted : (x : Variables) (n : ℕ) → n ≡ length (out-Variables x).more.items + 1 → is_final (view.variable_kind (out-Variables x).kind) ≡ true
    → n ≡ variable_accessors (view.variables x)
final-counted x n is e = let all = counted x true e in omega (arith, all, is)

pub other-counted : (x : Variables) (n all : ℕ) → n ≡ length (out-Variables x).more.items + 1 → all ≡ n * 2
    → is_final (view.variable_kind (out-Variables x).kind) ≡ false → all ≡ variable_accessors (view.variables x)
other-counted x n all is twice e = let made = counted x false e in omega (arith, made, is, twice)
