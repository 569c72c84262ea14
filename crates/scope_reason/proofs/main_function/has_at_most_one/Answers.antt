use Rattle.std.proofs.Common.{◌≡◌, ◌∙◌, ℕ, List, [], ◌∷◌, length, ltb, refl, ap, arith}
use Rattle.std.proofs.lemmas.Bool.{le-ltb}
use Rattle.dart_tree.specs.declared.parameter.Parameter.{Parameter}
use Rattle.dart_tree.specs.Lists.{parameter_list_of}
use Rattle.scope_reason.specs.Main.{has_at_most_one}
use Rattle.scope_reason.proofs.main_function.has_at_most_one.Goals as goal

by_length : (xs : List Parameter) → ltb (length xs) 2 ≡ has_at_most_one (parameter_list_of xs)
by_length [] = refl
by_length (x ∷ []) = refl
by_length (x ∷ (y ∷ xs)) = le-ltb (length (x ∷ (y ∷ xs))) 2 (omega arith)

pub returns : goal.returns
returns c =
    let e : c.len.result ≡ length c.args.all.now.items = omega (arith, c.len.ensures, c.args.all.now.ok) in
    ap (λ (n : ℕ). ltb n 2) e ∙ by_length c.args.all.now.items
