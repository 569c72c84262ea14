-- The generative constructors among declarations, with one declaration more.
use Rattle.std.proofs.Common.{◌≡◌, ◌∙◌, ℕ, ◌+◌, ◌<◌, ◌≤◌, Bool, true, false, cond, List, [], ◌∷◌, ◌++◌, length, drop, get_or, refl, sym, ap, arith}
use Rattle.std.specs.Prelude.{filter_map, option_to_list}
use Rattle.std.specs.List.{enumerate_from, zip}
use Rattle.std.proofs.lemmas.List.{drop_more, drop_all}
use Rattle.scope_declared.specs.declared.declaration.Declared.{Declared}
use Rattle.scope_class.specs.Constructors.{constructors_among, is_constructor}
use Rattle.scope_class.specs.declared.constructor.Making.{Making}
use Rattle.scope_class.specs.declared.constructor.Making.TheVariants.{Generative, Factory}
use Rattle.scope_class.proofs.Nothing.{nothing}
use Rattle.lower_added.specs.Added as added
use Rattle.lower_added.specs.Written.{generatives, generative_by, generative_of}

-- those that a way makes of one declaration
abbrev one_by : Making → List (List ℕ) → ℕ → Declared → List added.Generative
one_by way texts n one = option_to_list (generative_by way texts n one)

without-ways : {X Y : Type 0} (xs : List X) → zip xs (let none : List Y = [] in none) ≡ []
without-ways [] = refl
without-ways (x ∷ xs) = refl

module _ (texts : List (List ℕ)) (n i place : ℕ) (xs : List Declared) (ways : List Making) (below : i < length xs) where
  abbrev one : Declared
  one = get_or xs i nothing

  abbrev before : List added.Generative
  before = generatives texts (enumerate_from n (drop i xs)) (drop place ways)

  abbrev behind : ℕ → List added.Generative
  behind next = generatives texts (enumerate_from (n + 1) (drop (i + 1) xs)) (drop next ways)

  cut : before ≡ generatives texts ((n, one) ∷ enumerate_from (n + 1) (drop (i + 1) xs)) (drop place ways)
  cut = ap (λ (l : List Declared). generatives texts (enumerate_from n l) (drop place ways)) (drop_more xs i nothing below)

  abbrev filtered : Bool → List Making → List added.Generative
  filtered b ways = filter_map (generative_of texts) (zip (cond b ((n, one) ∷ constructors_among (enumerate_from (n + 1) (drop (i + 1) xs)))
      (constructors_among (enumerate_from (n + 1) (drop (i + 1) xs)))) ways)

  -- a constructor that is written in this way
  pub generatives-made : is_constructor one.kind ≡ true → place < length ways → (way : Making) → way ≡ get_or ways place way
      → before ≡ one_by way texts n one ++ behind (place + 1)
  generatives-made is less way there = cut ∙ ap (λ b. filtered b (drop place ways)) is
      ∙ ap (filtered true) (drop_more ways place way less ∙ ap (λ (w : Making). w ∷ drop (place + 1) ways) (sym there)) ∙ by way
    where
      by : (way : Making) → filtered true (way ∷ drop (place + 1) ways) ≡ one_by way texts n one ++ behind (place + 1)
      by Generative = refl
      by Factory = refl

  -- one of which nothing is said
  pub generatives-past : is_constructor one.kind ≡ true → length ways ≤ place → before ≡ behind (place + 1)
  generatives-past is past = cut ∙ ap (λ b. filtered b (drop place ways)) is ∙ ap (filtered true) (drop_all place ways past)
      ∙ sym (ap (λ (l : List Making). generatives texts (enumerate_from (n + 1) (drop (i + 1) xs)) l) (drop_all (place + 1) ways (omega (arith, past)))
      ∙ ap (filter_map (generative_of texts)) (without-ways (constructors_among (enumerate_from (n + 1) (drop (i + 1) xs)))))

  -- another declaration
  pub generatives-other : is_constructor one.kind ≡ false → before ≡ behind place
  generatives-other is = cut ∙ ap (λ b. filtered b (drop place ways)) is
