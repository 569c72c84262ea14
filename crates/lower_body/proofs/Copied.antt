-- Equal forms have equal texts.
use Rattle.std.proofs.Common.{◌≡◌, ◌∙◌, ℕ, List, [], ◌∷◌, map, refl, sym, ap}
use Rattle.core_program.specs.Core as c
use Rattle.core_program.specs.Named as with_names
use Rattle.core_program.specs.ProgramView.{text_at}
use Rattle.core_program.specs.View as v
use Rattle.core_program.specs.declared.form.Core.{Core as Form}
use Rattle.translation.specs.Surroundings.{Text, Core}
use Rattle.lower_leaf.specs.Around.{Around}
use Rattle.lower_leaf.specs.Forms.{core, cores}

forms_named : (f : ℕ → Text) (xs : List Form) → map (with_names.core f) (map v.core xs) ≡ map (λ x. with_names.core f (v.core x)) xs
forms_named f [] = refl
forms_named f (x ∷ xs) = ap (λ (rest : List Core). with_names.core f (v.core x) ∷ rest) (forms_named f xs)

pub forms_copied : (a : Around) (xs ys : List Form) → map v.core xs ≡ map v.core ys → cores a xs ≡ cores a ys
unfolding core
forms_copied a xs ys same =
    sym (forms_named (text_at a.texts) xs) ∙ ap (map (with_names.core (text_at a.texts))) same ∙ forms_named (text_at a.texts) ys
