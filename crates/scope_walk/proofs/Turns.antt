-- A loop that walks over a list, part by part.
use Rattle.std.proofs.Common.{◌≡◌, ℕ, suc, ◌+◌, ◌<◌, ◌≤◌, List, [], ◌∷◌, ◌++◌, refl, sym, ap, ◌∙◌, subst, length, get_or, drop, add-one, append_assoc, drop-cons}
use Rattle.std.proofs.lemmas.List.{append-nil, drop_all}
use Rattle.scope_declared.specs.declared.declaration.Declared.{Declared}

-- two parts, one after the other
pub then_more : {o1 o2 : List Declared} (o0 a b : List Declared) → o1 ≡ o0 ++ a → o2 ≡ o1 ++ b → o2 ≡ o0 ++ (a ++ b)
then_more o0 a b e f = f ∙ ap (λ (o : List Declared). o ++ b) e ∙ rw append_assoc refl

module _ {A : Type 0} (F : List A → List Declared) (f : A → List Declared) (more : (x : A) (rest : List A) → F (x ∷ rest) ≡ f x ++ F rest) where
  pub turn : (xs ys : List A) (i : ℕ) (x : A) (out out2 all : List Declared) → ys ≡ xs → i < length ys → x ≡ get_or ys i x → out ++ F (drop i xs) ≡ all → out2 ≡ out ++ f x → out2 ++ F (drop (i + 1) xs) ≡ all
  turn xs ys i x out out2 all same below is inv step = ap (λ (o : List Declared). o ++ F rest) step ∙ assoc ∙ ap (λ (r : List Declared). out ++ r) (sym (more x rest) ∙ ap F (sym cut)) ∙ inv where
    rest : List A
    rest = drop (i + 1) xs

    below2 : i < length xs
    below2 = let P : List A → Type 0 = λ l. i < length l in subst P same below

    cut : drop i xs ≡ x ∷ drop (i + 1) xs
    cut = drop-cons xs i x below2 ∙ ap (λ (y : A). y ∷ drop (suc i) xs) (sym (is ∙ ap (λ (l : List A). get_or l i x) same)) ∙ ap (λ (n : ℕ). x ∷ drop n xs) (sym (add-one i))

    assoc : (out ++ f x) ++ F rest ≡ out ++ (f x ++ F rest)
    assoc = rw append_assoc refl

pub over : {A : Type 0} (F : List A → List Declared) → F [] ≡ [] → (xs ys : List A) (i : ℕ) (out all : List Declared) → ys ≡ xs → length ys ≤ i → out ++ F (drop i xs) ≡ all → out ≡ all
over {A = A} F none xs ys i out all same past inv = sym (append-nil out) ∙ ap (λ (r : List Declared). out ++ r) (sym none ∙ ap F (sym (drop_all i xs past2))) ∙ inv where
  past2 : length xs ≤ i
  past2 = let P : List A → Type 0 = λ l. length l ≤ i in subst P same past
