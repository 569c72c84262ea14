-- Tables that are seen alike.
use Rattle.std.proofs.Common.{◌≡◌, ◌∙◌, List, [], ◌∷◌, map, refl, sym, ap}

twice : {A B C : Type 0} (f : B → C) (g : A → B) (xs : List A) → map (λ x. f (g x)) xs ≡ map f (map g xs)
twice f g [] = refl
twice {A} {B} {C} f g (x ∷ xs) = ap (λ (l : List C). f (g x) ∷ l) (twice f g xs)

-- what is made of the views of lists that have equal ones
pub seen-alike : {A B C : Type 0} (f : B → C) (g : A → B) (xs ys : List A) → map g xs ≡ map g ys → map (λ x. f (g x)) xs ≡ map (λ x. f (g x)) ys
seen-alike f g xs ys same = twice f g xs ∙ ap (map f) same ∙ sym (twice f g ys)
