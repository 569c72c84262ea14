-- A loop that makes a list of what it makes of each part of another list.
use Rattle.std.proofs.Common.{◌≡◌, ℕ, suc, ◌+◌, ◌<◌, ◌≤◌, List, [], ◌∷◌, ◌++◌, refl, sym, ap, ◌∙◌, subst, length, get_or, drop, add-one, append_assoc, drop-cons, Result, Ok, Err, IfOk}
use Rattle.std.proofs.lemmas.List.{append-nil, drop_all}

-- whatever comes of the parts that are left, all of it comes of all parts
abbrev pub Done : {A B : Type 0} → (List A → B) → (List A → B) → List A → ℕ → List A → Type 0
Done {A = A} F G found i all = (ys : List A) → F ys ≡ G (drop i all) → F (found ++ ys) ≡ G all

-- what a call gave, as something equal to it
pub become : {A E B : Type 0} {v w : B} (V : A → B) (r : Result A E) → IfOk r (λ x. V x ≡ v) → v ≡ w → IfOk r (λ x. V x ≡ w)
become V (Ok x) f e = f ∙ e
become V (Err x) f e = f

module _ {A B : Type 0} (F G : List A → B) where
  pub turn : (xs ys : List A) (i : ℕ) (x y : A) (found found2 : List A) → ys ≡ xs → i < length ys → x ≡ get_or ys i x → Done F G found i xs → found2 ≡ found ++ y ∷ [] → ((rest more : List A) → F more ≡ G rest → F (y ∷ more) ≡ G (x ∷ rest)) → Done F G found2 (i + 1) xs
  turn xs ys i x y found found2 same below is done pushed step more e = ap F (ap (λ (l : List A). l ++ more) pushed ∙ assoc) ∙ done (y ∷ more) (step rest more e ∙ ap G (sym cut)) where
    rest : List A
    rest = drop (i + 1) xs

    below2 : i < length xs
    below2 = let P : List A → Type 0 = λ l. i < length l in subst P same below

    cut : drop i xs ≡ x ∷ drop (i + 1) xs
    cut = drop-cons xs i x below2 ∙ ap (λ (z : A). z ∷ drop (suc i) xs) (sym (is ∙ ap (λ (l : List A). get_or l i x) same)) ∙ ap (λ (n : ℕ). x ∷ drop n xs) (sym (add-one i))

    assoc : (found ++ y ∷ []) ++ more ≡ found ++ y ∷ more
    assoc = rw append_assoc refl

  pub over : F [] ≡ G [] → (xs ys : List A) (i : ℕ) (found : List A) → ys ≡ xs → length ys ≤ i → Done F G found i xs → F found ≡ G xs
  over none xs ys i found same past done = ap F (sym (append-nil found)) ∙ done [] (none ∙ ap G (sym (drop_all i xs past2))) where
    past2 : length xs ≤ i
    past2 = let P : List A → Type 0 = λ l. length l ≤ i in subst P same past
