use Rattle.std.proofs.Common.{◌≡◌, ◌∙◌, ℕ, ◌==◌, List, [], ◌∷◌, length, vec_len, refl, ap, arith}
use Rattle.std.proofs.lemmas.Bool.{ne_eqb}
use Rattle.dart_tree.specs.declared.parameter.Parameter.{Parameter}
use Rattle.dart_tree.specs.Lists.{parameter_list_of}
use Rattle.scope_declared.specs.Making.{is_no_list}
use Rattle.scope_walk.proofs.member.is_no_list.Goals as goal

none-from_length : (xs : List Parameter) → (length xs == 0) ≡ is_no_list (parameter_list_of xs)
none-from_length [] = refl
none-from_length (x ∷ xs) = ne_eqb (length (x ∷ xs)) 0 (λ same. absurd (omega (arith, same)))

pub returns : goal.returns
returns c =
    c.is_empty.ensures ∙ ap (λ (n : ℕ). n == 0) (let e : vec_len c.args.all.now ≡ length c.args.all.now.items = omega (arith, c.args.all.now.ok) in e)
    ∙ none-from_length c.args.all.now.items
