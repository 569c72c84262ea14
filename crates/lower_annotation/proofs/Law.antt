-- What is made of the annotations of a program is what they ask for.
use Rattle.std.proofs.Common.{◌≡◌, ◌∙◌, ℕ, List, [], ◌∷◌, map, slice_get, Option, Some, None, refl, sym, ap}
use Rattle.std.specs.Prelude.{option_and_then}
use Rattle.std.specs.Option.{option_map}
use Rattle.std.proofs.lemmas.Option.{slice_get-map}
use Rattle.dart_tree.specs.declared.declaration.TypeParameter.{TypeParameter}
use Rattle.dart_tree.specs.UnitView as unit_view
use Rattle.dart_tree.specs.Unit as u
use Rattle.translation.specs.Types.{text_of}
use Rattle.lower_annotation.specs.Seen.{texts}

-- ---- what is found at a place of lists that are seen alike

abbrev joined : {A : Type 0} → Option (Option A) → Option A
joined None = None
joined (Some x) = x

at-joined : {X Z : Type 0} (f : X → Option Z) (o : Option X) → option_and_then f o ≡ joined (option_map f o)
at-joined f None = refl
at-joined f (Some x) = refl

pub found-alike : {X Y Z : Type 0} (f : X → Option Z) (g : Y → Option Z) (xs : List X) (ys : List Y) → map f xs ≡ map g ys → (n : ℕ)
    → option_and_then f (slice_get xs n) ≡ option_and_then g (slice_get ys n)
found-alike {Z = Z} f g xs ys same n = at-joined f (slice_get xs n)
    ∙ ap joined (sym (slice_get-map f xs n) ∙ ap (λ (l : List (Option Z)). slice_get l n) same ∙ slice_get-map g ys n)
    ∙ sym (at-joined g (slice_get ys n))

pub twice : {A B C : Type 0} (f : B → C) (g : A → B) (xs : List A) → map (λ x. f (g x)) xs ≡ map f (map g xs)
twice f g [] = refl
twice {A} {B} {C} f g (x ∷ xs) = ap (λ (l : List C). f (g x) ∷ l) (twice f g xs)

-- the texts of type parameters
pub texts-seen : (xs : List TypeParameter) → texts xs ≡ map (λ (p : u.TypeParameter). text_of p.name) (map unit_view.type_parameter xs)
texts-seen xs = twice (λ (p : u.TypeParameter). text_of p.name) unit_view.type_parameter xs

-- at the place of a number, where it has one
pub found-at : {X Y Z : Type 0} (f : X → Option Z) (g : Y → Option Z) (xs : List X) (ys : List Y) → map f xs ≡ map g ys → (place : Option ℕ)
    → option_and_then f (option_and_then (slice_get xs) place) ≡ option_and_then g (option_and_then (slice_get ys) place)
found-at f g xs ys same None = refl
found-at f g xs ys same (Some n) = found-alike f g xs ys same n
