-- What the constructors of a class are with one declaration more.
use Rattle.std.proofs.Common.{◌≡◌, ◌∙◌, ℕ, ◌+◌, ◌<◌, ◌≤◌, arith, Bool, true, false, cond, true≢false, List, [], ◌∷◌, ◌++◌, length, take, get_or, slice_get, length-take, length-append, append-nil, Option, Some, None, is_some, bytes_eq, refl, sym, ap}
use Rattle.std.specs.Prelude.{find}
use Rattle.std.specs.Option.{option_map, option_or}
use Rattle.std.specs.List.{enumerate_from, zip}
use Rattle.std.proofs.lemmas.List.{take_more}
use Rattle.std.proofs.lemmas.List.Elements.{filter-append}
use Rattle.std.proofs.lemmas.List.Folds.{find-append}
use Rattle.std.proofs.lemmas.Option.{same_Some}
use Rattle.scope_declared.specs.declared.declaration.Declared.{Declared}
use Rattle.translation.specs.Surroundings.{Made}
use Rattle.scope_class.specs.declared.constructor.Making.{Making}
use Rattle.scope_class.specs.Constructors.{is_constructor, constructors_among, constructor_among, constructor_id, is_called, made_by, made_from}
use Rattle.scope_class.proofs.Senses.{enumerated-push}

-- pairs with one item more on the left
zip-more : {K X : Type 0} (ks : List K) (k : K) (vs : List X) (v : X) → slice_get vs (length ks) ≡ Some v → zip (ks ++ k ∷ []) vs ≡ zip ks vs ++ (k, v) ∷ []
zip-more [] k [] v at = absurd (true≢false (sym (ap is_some at)))
zip-more {K} {X} [] k (w ∷ vs) v at = ap (λ (w : X). let p : K × X = (k, w) in p ∷ []) (same_Some w v at)
zip-more (q ∷ ks) k [] v at = absurd (true≢false (sym (ap is_some at)))
zip-more {K} {X} (q ∷ ks) k (w ∷ vs) v at = ap (λ (l : List (K × X)). (q, w) ∷ l) (zip-more ks k vs v at)

zip-past : {K X : Type 0} (ks : List K) (k : K) (vs : List X) → length vs ≤ length ks → zip (ks ++ k ∷ []) vs ≡ zip ks vs
zip-past [] k [] past = refl
zip-past [] k (w ∷ vs) past = absurd (omega (arith, past))
zip-past (q ∷ ks) k [] past = refl
zip-past {K} {X} (q ∷ ks) k (w ∷ vs) past = ap (λ (l : List (K × X)). (q, w) ∷ l) (zip-past ks k vs (omega (arith, past)))

module _ (texts : List (List ℕ)) (id : List ℕ) where
  -- the constructor of an id with one more behind the others
  found-push : (zs : List ((ℕ × Declared) × Making)) (p : (ℕ × Declared) × Making)
      → option_map made_from (find (is_called texts id) (zs ++ p ∷ [])) ≡ option_or (option_map made_from (find (is_called texts id) zs)) (cond (is_called texts id p) (Some (made_from p)) None)
  found-push zs p = ap (option_map made_from) (find-append (is_called texts id) zs (p ∷ [])) ∙ by (find (is_called texts id) zs) (is_called texts id p)
    where
      by : (o : Option ((ℕ × Declared) × Making)) (b : Bool) → option_map made_from (option_or o (cond b (Some p) None)) ≡ option_or (option_map made_from o) (cond b (Some (made_from p)) None)
      by (Some q) b = refl
      by None true = refl
      by None false = refl

module _ (first i : ℕ) (xs : List Declared) (x : Declared) (below : i < length xs) (at : x ≡ get_or xs i x) where
  abbrev before : List (ℕ × Declared)
  before = enumerate_from first (take i xs)

  abbrev behind : List (ℕ × Declared)
  behind = enumerate_from first (take (i + 1) xs)

  more : constructors_among behind ≡ constructors_among before ++ cond (is_constructor x.kind) ((first + i, x) ∷ []) []
  more = ap (λ (l : List Declared). constructors_among (enumerate_from first l)) cut ∙ ap constructors_among (enumerated-push first (take i xs) x)
      ∙ ap (λ n. constructors_among (before ++ (n, x) ∷ [])) long ∙ filter-append (λ p. is_constructor p.1.kind) before ((first + i, x) ∷ [])
    where
      cut : take (i + 1) xs ≡ take i xs ++ x ∷ []
      cut = take_more xs i x below ∙ ap (λ (y : Declared). take i xs ++ y ∷ []) (sym at)

      long : first + length (take i xs) ≡ first + i
      long = omega (arith, length-take i xs, below)

  with-one : is_constructor x.kind ≡ true → constructors_among behind ≡ constructors_among before ++ (first + i, x) ∷ []
  with-one is = more ∙ ap (λ b. constructors_among before ++ cond b ((first + i, x) ∷ []) []) is

  -- no constructor more
  pub same-constructors : is_constructor x.kind ≡ false → constructors_among behind ≡ constructors_among before
  same-constructors is = more ∙ ap (λ b. constructors_among before ++ cond b ((first + i, x) ∷ []) []) is ∙ append-nil (constructors_among before)

  -- one more
  pub one-constructor : is_constructor x.kind ≡ true → length (constructors_among behind) ≡ length (constructors_among before) + 1
  one-constructor is = ap length (with-one is) ∙ length-append (constructors_among before) ((first + i, x) ∷ [])

  module _ (texts : List (List ℕ)) (ways : List Making) (number place : ℕ) (count : number ≡ first + i) (placed : place ≡ length (constructors_among before))
      (old new : List ℕ → Option Made) (known : (id : List ℕ) → old id ≡ constructor_among texts before ways id) where
    -- a constructor that is written in this way
    pub next-made : is_constructor x.kind ≡ true → (way : Making) → slice_get ways place ≡ Some way
        → ((id : List ℕ) → new id ≡ option_or (old id) (cond (bytes_eq id (constructor_id texts x)) (Some (made_by way number)) None))
        → (id : List ℕ) → new id ≡ constructor_among texts behind ways id
    next-made is way there put id =
        put id
        ∙ ap (λ o. option_or o (cond (bytes_eq id (constructor_id texts x)) (Some (made_by way number)) None)) (known id)
        ∙ ap (λ n. option_or (constructor_among texts before ways id) (cond (bytes_eq id (constructor_id texts x)) (Some (made_by way n)) None)) count
        ∙ sym (found-push texts id (zip (constructors_among before) ways) ((first + i, x), way))
        ∙ sym (ap (λ (l : List ((ℕ × Declared) × Making)). option_map made_from (find (is_called texts id) l)) pairs)
      where
        pairs : zip (constructors_among behind) ways ≡ zip (constructors_among before) ways ++ ((first + i, x), way) ∷ []
        pairs = ap (λ (l : List (ℕ × Declared)). zip l ways) (with-one is)
            ∙ zip-more (constructors_among before) (first + i, x) ways way (ap (slice_get ways) (sym placed) ∙ there)

    -- one of which nothing is said
    pub next-past : is_constructor x.kind ≡ true → length ways ≤ place → ((id : List ℕ) → new id ≡ old id) → (id : List ℕ) → new id ≡ constructor_among texts behind ways id
    next-past is past same id =
        same id ∙ known id ∙ sym (ap (λ (l : List ((ℕ × Declared) × Making)). option_map made_from (find (is_called texts id) l)) pairs)
      where
        pairs : zip (constructors_among behind) ways ≡ zip (constructors_among before) ways
        pairs = ap (λ (l : List (ℕ × Declared)). zip l ways) (with-one is)
            ∙ zip-past (constructors_among before) (first + i, x) ways (omega (arith, past, placed))

    -- another declaration
    pub next-other : is_constructor x.kind ≡ false → ((id : List ℕ) → new id ≡ old id) → (id : List ℕ) → new id ≡ constructor_among texts behind ways id
    next-other is same id =
        same id ∙ known id
        ∙ sym (ap (λ (l : List (ℕ × Declared)). option_map made_from (find (is_called texts id) (zip l ways))) (same-constructors is))
