-- A list of tokens has one answer at most.
use Rattle.std.proofs.Common.{◌≡◌, ℕ, ◌+◌, List, [], ◌∷◌, ◌++◌, length, take, drop, Some, Result, Ok, Err, inl, inr, sym, ap, ◌∙◌, subst, arith}
use Rattle.std.proofs.lemmas.List.{take-append-drop}
use Rattle.grammar_laws.proofs.Wholes.{first_bad_once}
use Rattle.dart_base.specs.declared.place.Place.{Place}
use Rattle.dart_base.specs.declared.feature.Feature.{Feature}
use Rattle.dart_token.specs.declared.token.Token.{Token}
use Rattle.dart_tree.specs.Unit.{UnitTree}
use Rattle.dart_tree.specs.UnitTokens.{unit_tokens}
use Rattle.dart_syntax.specs.Units.{unit_within}
use Rattle.dart_syntax.specs.Syntax.{FormsUnit, SyntaxReason, left_out_at, syntax_at, too_deep_at, StandsAt, EndsAt, behind, FirstWrong, GoesDeeper, Unfinished, Answers}
use Rattle.dart_syntax.specs.Agreement.{Agrees}
use Rattle.dart_syntax.proofs.AgreeingUnits.{units_agree}

-- ---- one place

heads : (xs ys zs : List Token) (t u : Token) → xs ++ t ∷ ys ≡ xs ++ u ∷ zs → t ≡ u
heads [] ys zs t u e = cc
heads (x ∷ xs) ys zs t u e = heads xs ys zs t u cc

lasts : (xs ys : List Token) (t u : Token) → xs ++ t ∷ [] ≡ ys ++ u ∷ [] → t ≡ u
lasts [] [] t u e = cc
lasts [] (y ∷ []) t u e = absurd cc
lasts [] (y ∷ z ∷ ys) t u e = absurd cc
lasts (x ∷ []) [] t u e = absurd cc
lasts (x ∷ z ∷ xs) [] t u e = absurd cc
lasts (x ∷ xs) (y ∷ ys) t u e = lasts xs ys t u cc

one_place : (tokens : List Token) (at : ℕ) (p q : Place) → StandsAt tokens at p → StandsAt tokens at q → p ≡ q
one_place tokens at p q (t, rest, e, is) (u, more, f, was) = is ∙ ap (λ (v : Token). v.place) (heads (take at tokens) rest more t u (sym e ∙ f)) ∙ sym was

one_end : (tokens : List Token) (p q : Place) → EndsAt tokens p → EndsAt tokens q → p ≡ q
one_end tokens p q (xs, t, e, is) (ys, u, f, was) = is ∙ ap behind (lasts xs ys t u (sym e ∙ f)) ∙ sym was

-- ---- no unit is refused

fronts : (depth : ℕ) (tokens : List Token) (unit : UnitTree) → FormsUnit depth tokens unit → (i : ℕ) → (unit_within depth).front (take i tokens)
fronts depth tokens unit S i =
    let agrees : Agrees unit_tokens (unit_within depth) = (units_agree depth).unit in
    let whole : (unit_within depth).front tokens = subst (unit_within depth).front (sym S.same) (agrees.whole unit S.fits) in
    agrees.closed (take i tokens) (drop i tokens) (subst (unit_within depth).front (sym (take-append-drop i tokens)) whole)

never_wrong : (depth : ℕ) (tokens : List Token) (unit : UnitTree) (at : ℕ) (place : Place) → FormsUnit depth tokens unit → FirstWrong depth tokens at place → ⊥
never_wrong depth tokens unit at place S (bad, less, stands) = bad.bad less (fronts depth tokens unit S (at + 1))

never_refused : (depth further : ℕ) (tokens : List Token) (unit : UnitTree) (r : SyntaxReason) → FormsUnit depth tokens unit → Answers depth further tokens (Err r) → ⊥
unfolding Answers
never_refused depth further tokens unit (left_out_at place feature) S e = let whole = S.whole in absurd cc
never_refused depth further tokens unit (too_deep_at place) S (none, at, wrong, deeper) = never_wrong depth tokens unit at place S wrong
never_refused depth further tokens unit (syntax_at place) S (none, inl (at, wrong, deeper)) = never_wrong depth tokens unit at place S wrong
never_refused depth further tokens unit (syntax_at place) S (none, inr (unfinished, ends)) = unfinished.1 unit S

-- ---- one refusal

same_number : (depth : ℕ) (tokens : List Token) (i j : ℕ) (p q : Place) → FirstWrong depth tokens i p → FirstWrong depth tokens j q → i ≡ j
same_number depth tokens i j p q (bad, less, stands) (other, below, there) = first_bad_once bad other

wrong_once : (depth : ℕ) (tokens : List Token) (i j : ℕ) (p q : Place) → FirstWrong depth tokens i p → FirstWrong depth tokens j q → p ≡ q
wrong_once depth tokens i j p q v w = one_place tokens i p q v.2 (subst (λ k. StandsAt tokens k q) (sym (same_number depth tokens i j p q v w)) w.2)

not_at_end : (depth : ℕ) (tokens : List Token) (i : ℕ) (p : Place) → FirstWrong depth tokens i p → Unfinished depth tokens → ⊥
not_at_end depth tokens i p (bad, less, stands) (end, none) =
    let same : i ≡ length tokens = first_bad_once bad end in
    absurd (omega arith)

not_deeper : (depth further : ℕ) (tokens : List Token) (i j : ℕ) (p q : Place) → FirstWrong depth tokens i p → GoesDeeper further tokens i → FirstWrong depth tokens j q → (GoesDeeper further tokens j → ⊥) → ⊥
not_deeper depth further tokens i j p q v deeper w none = none (subst (GoesDeeper further tokens) (same_number depth tokens i j p q v w) deeper)

some_once : (x y : Place × Feature) → Some x ≡ Some y → x ≡ y
some_once x y e = cc

module _ (depth further : ℕ) (tokens : List Token) where
  one_refusal : (r q : SyntaxReason) → Answers depth further tokens (Err r) → Answers depth further tokens (Err q) → r ≡ q
  unfolding Answers
  one_refusal (left_out_at p f) (left_out_at q g) e other =
      let same : p ≡ q = ap (λ (x : Place × Feature). x.0) (some_once _ _ (sym e ∙ other)) in
      let also : f ≡ g = ap (λ (x : Place × Feature). x.1) (some_once _ _ (sym e ∙ other)) in
      cc
  one_refusal (left_out_at p f) (too_deep_at q) e (none, j, w, c) = absurd cc
  one_refusal (left_out_at p f) (syntax_at q) e (none, more) = absurd cc
  one_refusal (too_deep_at p) (left_out_at q f) (none, i, v, d) e = absurd cc
  one_refusal (syntax_at p) (left_out_at q f) (none, more) e = absurd cc
  one_refusal (too_deep_at p) (too_deep_at q) (none, i, v, d) (also, j, w, c) = ap too_deep_at (wrong_once depth tokens i j p q v w)
  one_refusal (too_deep_at p) (syntax_at q) (none, i, v, d) (also, inl (j, w, c)) = absurd (not_deeper depth further tokens i j p q v d w c)
  one_refusal (too_deep_at p) (syntax_at q) (none, i, v, d) (also, inr (u, ends)) = absurd (not_at_end depth tokens i p v u)
  one_refusal (syntax_at p) (too_deep_at q) (none, inl (i, v, d)) (also, j, w, c) = absurd (not_deeper depth further tokens j i q p w c v d)
  one_refusal (syntax_at p) (too_deep_at q) (none, inr (u, ends)) (also, j, w, c) = absurd (not_at_end depth tokens j q w u)
  one_refusal (syntax_at p) (syntax_at q) (none, inl (i, v, d)) (also, inl (j, w, c)) = ap syntax_at (wrong_once depth tokens i j p q v w)
  one_refusal (syntax_at p) (syntax_at q) (none, inl (i, v, d)) (also, inr (u, ends)) = absurd (not_at_end depth tokens i p v u)
  one_refusal (syntax_at p) (syntax_at q) (none, inr (u, ends)) (also, inl (j, w, c)) = absurd (not_at_end depth tokens j q w u)
  one_refusal (syntax_at p) (syntax_at q) (none, inr (u, ends)) (also, inr (v, there)) = ap syntax_at (one_end tokens p q ends there)

  pub one_answer : (x y : Result UnitTree SyntaxReason) → Answers depth further tokens x → Answers depth further tokens y → x ≡ y
  unfolding Answers
  one_answer (Ok a) (Ok b) (A, only) (B, other) = ap Ok (other a A)
  one_answer (Ok a) (Err r) A R = absurd (never_refused depth further tokens a r A.0 R)
  one_answer (Err r) (Ok b) R B = absurd (never_refused depth further tokens b r B.0 R)
  one_answer (Err r) (Err q) R Q = ap Err (one_refusal r q R Q)
