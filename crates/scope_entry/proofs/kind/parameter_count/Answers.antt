use Rattle.std.proofs.Common.{◌≡◌, ◌∙◌, List, [], ◌∷◌, length, vec_len, refl, arith}
use Rattle.dart_tree.specs.declared.parameter.Parameter.{Parameter}
use Rattle.dart_tree.specs.Lists.{parameter_list_of}
use Rattle.scope_entry.specs.Kinds.{parameter_count}
use Rattle.scope_entry.proofs.kind.parameter_count.Goals as goal

counted : (xs : List Parameter) → length xs ≡ parameter_count (parameter_list_of xs)
counted [] = refl
counted (x ∷ xs) = omega (arith, counted xs)

pub returns : goal.returns
returns c =
    c.len.ensures ∙ (let e : vec_len c.args.all.now ≡ length c.args.all.now.items = omega (arith, c.args.all.now.ok) in e) ∙ counted c.args.all.now.items
