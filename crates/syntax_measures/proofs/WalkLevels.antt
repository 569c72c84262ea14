-- The walk over the levels of operators, and over expressions.
use Rattle.std.proofs.Common.{◌≡◌, ℕ, zero, suc, max, ◌≤◌, arith, Bool, true, false, List, [], ◌∷◌, inl, inr, refl, sym, ap, ◌∙◌, append_assoc, flat_map, length}
use Rattle.std.specs.List.{AllByRecursion}
use Rattle.std.proofs.lemmas.List.{append-nil}
use Rattle.grammar_laws.specs.Fronts.{Made, EitherFit, both_spelling}
use Rattle.dart_base.specs.declared.place.Place.{Place}
use Rattle.dart_token.specs.declared.token.Token.{Token}
use Rattle.dart_token.specs.declared.sign.Sign.{Sign}
use Rattle.dart_token.specs.declared.sign.Sign.TheVariants as s
use Rattle.dart_token.specs.declared.word.Word.TheVariants as w
use Rattle.dart_tree.specs.declared.operator.Operator.{Operator}
use Rattle.dart_tree.specs.LeafTokens.{operator_tokens}
use Rattle.dart_tree.specs.Tree as t
use Rattle.dart_tree.specs.Tree.{Expr, Operand, Primary, Selector, Selectors, Value}
use Rattle.dart_tree.specs.Tokens.{expr_tokens, operand_tokens, primary_tokens, selector_tokens}
use Rattle.dart_tree.specs.Depth as height
use Rattle.dart_tree.specs.Depth.{highest}
use Rattle.dart_syntax.specs.Phrases.{Phrase, either, made}
use Rattle.dart_syntax.specs.Levels.{sign_level}
use Rattle.dart_syntax.specs.Edges.{dots, question, compares, opens_dot, opens_nothing, leaves, leaves_less, primary_leaves, leaves_cascade}
use Rattle.dart_syntax.specs.Expressions.{ExprNodes, Levels, to_tails, primary_assigns, ends_in_target, type_takes_names, cascaded_over, expr_over, without_over, primary_of, prefixed, once, chain, shifting, member, selected_over, postfix_over, target_of, unary_over, Row, chained, shifts, single, comparison, logical, choice, no_row, rows, row_at, row_over, rows_over, levels_over, flat_levels}
use Rattle.dart_syntax.proofs.AgreeingExpressions.{said_sign, said_selectors, said_cascades, said_tails}
use Rattle.dart_syntax.specs.Agreement.{section_tokens}
use Rattle.syntax_measures.specs.Relations.{Relation, ExprsRelate, LevelsRelate, section_height}
use Rattle.syntax_measures.proofs.Walk.{Walk, flat, higher}
use Rattle.syntax_measures.proofs.Walking.{the_sign, the_word, a_dot_name, after, before_if, maybe_flat, enclosed}
use Rattle.syntax_measures.proofs.WalkExpressions.{high_selectors, high_cascades, an_atom, a_creation, all_plain, the_one_of, an_assigning, walk_strings, walk_member, walk_selector, walk_bracketed}
use Rattle.syntax_measures.proofs.BracketKinds.{Bracket, parentheses}

-- ---- heights

high_tails : (xs : List (Operator × Operand)) → height.tails_height (to_tails xs) ≡ highest (λ x. height.operand_height x.1) xs
unfolding height.tails_height
high_tails [] = refl
high_tails (x ∷ xs) = ap (λ (k : ℕ). max (height.operand_height x.1) k) (high_tails xs)

abbrev is_node : Operand → Bool
is_node (t.primary x) = false
is_node x = true

node_high : (x : Operand) → is_node x ≡ true → height.operand_height x ≤ 0 → ⊥
unfolding height.operand_height
node_high (t.conditional condition question first colon second) node low = omega arith
node_high (t.binary first more) node low = omega arith
node_high (t.is_type operand word bang of) node low = omega arith
node_high (t.as_type operand word of) node low = omega arith
node_high (t.prefix operator operand) node low = omega arith
node_high (t.postfix first more operator) node low = omega arith
node_high (t.primary first) node low = let bad : false ≡ true = node in absurd cc

abbrev High : (Operand → Type 0) → Type 0
High Fits = (x : Operand) → Fits x → height.operand_height x ≤ 0 → ⊥

made_high : {A : Type 0} {f : A → Operand} {Fits : A → Type 0} → ((a : A) → is_node (f a) ≡ true) → High (Made f Fits)
made_high node x (a, fits, is) low = node_high x (ap is_node (sym is) ∙ node a) low

or_high : {F G : Operand → Type 0} → High F → High G → High (EitherFit F G)
or_high f g x (inl fits) low = f x fits low
or_high f g x (inr fits) low = g x fits low

postfix_high : (under : Levels) → High (postfix_over under).Fits
postfix_high under = or_high (made_high (λ a. refl)) (or_high (made_high (λ a. refl)) (made_high (λ a. refl)))

unary_high : (bare : Phrase Operand) (under : Levels) → High (unary_over bare under).Fits
unary_high bare under = or_high (made_high (λ a. refl)) (or_high (made_high (λ a. refl)) (made_high (λ a. refl)))

row_high : (row : Row) (inner : ExprNodes) (under : Phrase Operand) → High (row_over row inner under).Fits
row_high (chained sign more) inner under = made_high (λ a. refl)
row_high shifts inner under = made_high (λ a. refl)
row_high (single sign more) inner under = made_high (λ a. refl)
row_high comparison inner under = or_high (made_high (λ a. refl)) (or_high (made_high (λ a. refl)) (or_high (made_high (λ a. refl)) (made_high (λ a. refl))))
row_high (logical sign) inner under = made_high (λ a. refl)
row_high choice inner under = made_high (λ a. refl)
row_high no_row inner under = λ x fits low. absurd fits

-- ---- the signs of each row are no parentheses

abbrev is_plain_row : Row → Bool
is_plain_row (chained sign more) = all_plain (sign ∷ more)
is_plain_row (single sign more) = all_plain (sign ∷ more)
is_plain_row (logical sign) = all_plain (sign ∷ [])
is_plain_row row = true

plain_at : (all : List Row) → AllByRecursion (λ row. is_plain_row row ≡ true) all → (i : ℕ) → is_plain_row (row_at all i) ≡ true
plain_at [] plain i = refl
plain_at (row ∷ more) plain zero = plain.0
plain_at (row ∷ more) plain (suc i) = plain_at more plain.1 i

pub each_row_plain : (i : ℕ) → is_plain_row (row_at rows i) ≡ true
each_row_plain = plain_at rows (refl, (refl, (refl, (refl, (refl, (refl, (refl, (refl, (refl, (refl, (refl, tt)))))))))))

-- a primary with its selectors, and an operand with its cascades
abbrev selected_tokens : Primary × (Selector × List Selector) → List Token
selected_tokens = both_spelling primary_tokens (both_spelling selector_tokens (flat_map selector_tokens))

abbrev pub cascaded_tokens : Operand × List (Place × (Selectors × Value)) → List Token
cascaded_tokens = both_spelling operand_tokens (flat_map section_tokens)

abbrev stepping : List Sign
stepping = s.PlusPlus ∷ s.MinusMinus ∷ []

module _ {R : ℕ → Relation} {C : Bracket → ℕ → Relation} {Pair : ℕ → ℕ → Type 0} (W : Walk R C Pair) {m : ℕ} where
  walk_primary : {p q : ExprNodes} → ExprsRelate (R m) p q → R m Primary height.primary_height primary_tokens (primary_of p) (primary_of q)
  unfolding primary_tokens height.primary_height
  walk_primary H = W.one (W.make primary_tokens height.primary_height t.atom (an_atom W) (λ x. refl) (λ x. refl))
      (W.one (W.make primary_tokens height.primary_height t.text (walk_strings W H.expr) (λ x. refl) (λ x. refl))
      (W.one (W.make primary_tokens height.primary_height _ (after W (the_word W w.Super) (walk_selector W H)) (λ x. refl) (λ x. refl))
      (W.one (W.make primary_tokens height.primary_height _ (after W (a_creation W) (W.good type_takes_names (W.both H.type (after W (maybe_flat W (a_dot_name W)) H.arguments)))) (λ x. refl) (λ x. refl))
      (W.one (W.make primary_tokens height.primary_height _ (enclosed W parentheses H.expr) (λ x. refl) (λ x. refl))
      H.literal))))

  -- ---- nodes of operators

  module _ {operator : Phrase Operator} (O : R m Operator flat operator_tokens operator operator) {p q : Phrase Operand} (P : R m Operand height.operand_height operand_tokens p q) where
    walk_prefixed : R (suc m) Operand height.operand_height operand_tokens (prefixed operator p) (prefixed operator q)
    unfolding operand_tokens height.operand_height
    walk_prefixed = W.make operand_tokens height.operand_height _ (W.node (after W O P)) (λ x. refl) (λ x. refl)

    module _ {first other : Phrase Operand} (F : R m Operand height.operand_height operand_tokens first other) where
      walk_once : (may : Operand → Bool) → R (suc m) Operand height.operand_height operand_tokens (once may first operator p) (once may other operator q)
      unfolding operand_tokens height.operand_height height.tails_height
      walk_once may = W.make operand_tokens height.operand_height _ (W.node (W.both_if may F (after W O P))) (λ x. simp append-nil) (λ x. omega arith)

      walk_chain : (next : ℕ) → R (suc m) Operand height.operand_height operand_tokens (chain next first operator p) (chain next other operator q)
      unfolding operand_tokens height.operand_height
      walk_chain next = W.make operand_tokens height.operand_height _ (W.node (W.both_if (leaves next) F (W.some (λ x. leaves next x.1) (after W O P)))) (λ x. simp said_tails) (λ x. simp high_tails)

  walk_shifting : R m Operator flat operator_tokens shifting shifting
  walk_shifting = W.one (the_one_of W (s.ShiftLeft ∷ []) refl) (W.make operator_tokens flat _ (after W (the_sign W s.Greater refl) (the_sign W s.Greater refl)) (λ x. refl) (λ x. refl))

  module _ {under below : Levels} (U : LevelsRelate (R m) under below) where
    walk_any_selector : R m Selector height.selector_height selector_tokens (either member under.bracketed) (either member below.bracketed)
    walk_any_selector = W.one (walk_member W) U.bracketed

    walk_selected : R m (Primary × (Selector × List Selector)) (higher height.primary_height (higher height.selector_height (highest height.selector_height))) selected_tokens (selected_over under) (selected_over below)
    walk_selected = W.one (W.both_if (primary_leaves opens_dot) U.primary (W.both (walk_member W) (W.all walk_any_selector)))
        (W.both_if (primary_leaves opens_nothing) U.primary (W.both U.bracketed (W.all walk_any_selector)))

    walk_postfix : R (suc m) Operand height.operand_height operand_tokens (postfix_over under) (postfix_over below)
    unfolding operand_tokens height.operand_height height.selectors_height
    walk_postfix = W.one (W.make operand_tokens height.operand_height _ (W.node walk_selected) (λ x. simp (said_selectors, append-nil)) (λ x. simp high_selectors))
        (W.one (W.make operand_tokens height.operand_height _ (W.node (before_if W primary_assigns U.primary (the_one_of W stepping refl))) (λ x. refl) (λ x. omega arith))
        (W.make operand_tokens height.operand_height _ (W.node (before_if W ends_in_target walk_selected (the_one_of W stepping refl))) (λ x. simp (said_selectors, append_assoc)) (λ x. simp high_selectors)))

    walk_target : {p q : Phrase Primary} → R (suc m) Primary height.primary_height primary_tokens p q → R (suc m) Operand height.operand_height operand_tokens (target_of p under) (target_of q below)
    unfolding operand_tokens height.operand_height height.selectors_height
    walk_target P = W.one (W.make operand_tokens height.operand_height t.primary (W.good primary_assigns P) (λ x. refl) (λ x. refl))
        (W.make operand_tokens height.operand_height _ (W.node (W.good ends_in_target walk_selected)) (λ x. simp (said_selectors, append-nil)) (λ x. simp high_selectors))

    walk_unary : {p q : Phrase Operand} → R m Operand height.operand_height operand_tokens p q → R (suc m) Operand height.operand_height operand_tokens (unary_over p under) (unary_over q below)
    walk_unary B = W.one (walk_prefixed (the_one_of W (s.Minus ∷ s.Tilde ∷ []) refl) (W.one (U.row 0) B))
        (W.one (walk_prefixed (the_one_of W (s.Bang ∷ []) refl) (U.row 0)) (walk_prefixed (the_one_of W stepping refl) U.target))

  -- ---- the rows of operators

  module _ {p q : ExprNodes} (I : ExprsRelate (R m) p q) where
    pub walk_row : (row : Row) → is_plain_row row ≡ true → {under below : Phrase Operand} → R m Operand height.operand_height operand_tokens under below → R (suc m) Operand height.operand_height operand_tokens (row_over row p under) (row_over row q below)
    unfolding operand_tokens height.operand_height
    walk_row (chained sign more) plain P = walk_chain (the_one_of W (sign ∷ more) plain) P (W.one P I.bare) (sign_level sign)
    walk_row shifts plain P = walk_chain walk_shifting P (W.one P I.bare) (sign_level s.ShiftLeft)
    walk_row (single sign more) plain P = walk_once (the_one_of W (sign ∷ more) plain) P (W.one P I.bare) (leaves (sign_level sign))
    walk_row comparison plain P = W.one (walk_once (the_one_of W (s.Less ∷ []) refl) P (W.one P I.bare) leaves_less)
        (W.one (walk_once (the_one_of W (s.Greater ∷ s.LessEqual ∷ s.GreaterEqual ∷ []) refl) P (W.one P I.bare) (leaves compares))
        (W.one (W.make operand_tokens height.operand_height _ (W.node (W.both_if (leaves compares) P (after W (the_word W w.Is) (after W (maybe_flat W (the_sign W s.Bang refl)) I.type)))) (λ x. simp said_sign) (λ x. refl))
        (W.make operand_tokens height.operand_height _ (W.node (W.both_if (leaves compares) P (after W (the_word W w.As) I.type))) (λ x. refl) (λ x. refl))))
    walk_row (logical sign) plain P = walk_chain (the_one_of W (sign ∷ []) plain) P P (sign_level sign)
    walk_row choice plain P = W.make operand_tokens height.operand_height _ (W.node (W.both_if (leaves question) P (after W (the_sign W s.Question refl) (W.both I.without (after W (the_sign W s.Colon refl) I.without))))) (λ x. refl) (λ x. refl)
    walk_row no_row plain P = W.empty (λ a. refl) refl

    walk_rows : {unary other : Phrase Operand} → R (suc m) Operand height.operand_height operand_tokens unary other → (under below : ℕ → Phrase Operand) → ((i : ℕ) → R m Operand height.operand_height operand_tokens (under i) (below i)) → (i : ℕ) → R (suc m) Operand height.operand_height operand_tokens (rows_over unary p under i) (rows_over other q below i)
    walk_rows N under below U zero = N
    walk_rows N under below U (suc i) = W.one (walk_rows N under below U i) (walk_row (row_at rows i) (each_row_plain i) (U i))

    -- ---- expressions

    module _ {under below : Levels} (U : LevelsRelate (R m) under below) where
      pub walk_cascaded : R m (Operand × List (Place × (Selectors × Value))) (higher height.operand_height (highest section_height)) cascaded_tokens (cascaded_over p under) (cascaded_over q below)
      walk_cascaded = W.one (W.both (U.row (length rows)) (W.none I.cascade)) (W.both_if (leaves dots) (U.row (length rows)) (W.some leaves_cascade I.cascade))

      pub walk_expr : R (suc m) Expr height.expr_height expr_tokens (expr_over p under) (expr_over q below)
      unfolding expr_tokens height.expr_height
      walk_expr = W.one (W.make expr_tokens height.expr_height _ (W.node (W.both U.target (after W (an_assigning W) I.expr))) (λ x. refl) (λ x. refl))
          (W.one (W.make expr_tokens height.expr_height _ (W.node walk_cascaded) (λ x. simp said_cascades) (λ x. simp high_cascades))
          (W.make expr_tokens height.expr_height _ (W.node (after W (the_word W w.Throw) I.expr)) (λ x. refl) (λ x. refl)))

      pub walk_without : R (suc m) Expr height.expr_height expr_tokens (without_over p under) (without_over q below)
      unfolding expr_tokens height.expr_height height.cascades_height
      walk_without = W.one (W.make expr_tokens height.expr_height _ (W.node (W.both U.target (after W (an_assigning W) I.without))) (λ x. refl) (λ x. refl))
          (W.one (W.make expr_tokens height.expr_height _ (W.node (U.row (length rows))) (λ x. append-nil (operand_tokens x)) (λ x. omega arith))
          (W.make expr_tokens height.expr_height _ (W.node (after W (the_word W w.Throw) I.expr)) (λ x. refl) (λ x. refl)))

  -- ---- the levels

  walk_operand : {p q : Phrase Primary} → R m Primary height.primary_height primary_tokens p q → R m Operand height.operand_height operand_tokens (made operand_tokens t.primary p) (made operand_tokens t.primary q)
  unfolding operand_tokens height.operand_height
  walk_operand P = W.make operand_tokens height.operand_height t.primary P (λ x. refl) (λ x. refl)

  pub walk_flat : (here there : ExprNodes) → ExprsRelate (R m) here there → LevelsRelate (R m) (flat_levels here) (flat_levels there)
  walk_flat here there H =
      let primary : R m Primary height.primary_height primary_tokens (primary_of here) (primary_of there) = walk_primary H in
      let operand : R m Operand height.operand_height operand_tokens (made operand_tokens t.primary (primary_of here)) (made operand_tokens t.primary (primary_of there)) = walk_operand primary in
      record { primary = primary; bracketed = walk_bracketed W H; target = walk_operand (W.good primary_assigns primary); postfix = operand; row = λ i. operand }

module _ {R : ℕ → Relation} {C : Bracket → ℕ → Relation} {Pair : ℕ → ℕ → Type 0} (W : Walk R C Pair) where
  pub walk_levels : (m : ℕ) (here there inner other : ExprNodes) (under below : Levels) → ExprsRelate (R (suc m)) here there → ExprsRelate (R m) inner other → LevelsRelate (R m) under below → LevelsRelate (R (suc m)) (levels_over here inner under) (levels_over there other below)
  walk_levels m here there inner other under below H I U =
      let p : Levels = levels_over here inner under in
      let q : Levels = levels_over there other below in
      let primary : R (suc m) Primary height.primary_height primary_tokens p.primary q.primary = walk_primary W H in
      let postfix : R (suc m) Operand height.operand_height operand_tokens p.postfix q.postfix = W.one (walk_operand W primary) (walk_postfix W U) in
      record { primary = primary; bracketed = walk_bracketed W H; target = walk_target W U primary; postfix = postfix; row = walk_rows W I (W.one postfix (walk_unary W U I.bare)) under.row below.row U.row }

  -- from where there is no room for a node
  module _ {m : ℕ} (pair : Pair zero (suc m)) {p : Phrase Operand} (other : ExprNodes) (below : ℕ → Phrase Operand) where
    raised_rows : {unary : Phrase Operand} → R (suc m) Operand height.operand_height operand_tokens p unary → (i : ℕ) → R (suc m) Operand height.operand_height operand_tokens p (rows_over unary other below i)
    raised_rows N zero = N
    raised_rows N (suc i) = W.wide _ _ pair (raised_rows N i)

  pub walk_raised : {m : ℕ} → Pair zero (suc m) → (here there other : ExprNodes) (below : Levels) → ExprsRelate (R (suc m)) here there → LevelsRelate (R (suc m)) (flat_levels here) (levels_over there other below)
  walk_raised {m} pair here there other below H =
      let flat : LevelsRelate (R (suc m)) (flat_levels here) (flat_levels there) = walk_flat W here there H in
      let postfix : R (suc m) Operand height.operand_height operand_tokens (flat_levels here).postfix (levels_over there other below).postfix = W.wide _ _ pair flat.postfix in
      record {
        primary = flat.primary;
        bracketed = flat.bracketed;
        target = W.wide _ _ pair flat.target;
        postfix = postfix;
        row = raised_rows pair other below.row (W.wide _ _ pair postfix);
      }

  -- to where there is none
  module _ {n : ℕ} (pair : Pair (suc n) zero) {q : Phrase Operand} (inner : ExprNodes) (under : ℕ → Phrase Operand) where
    lowered_rows : {unary : Phrase Operand} → R zero Operand height.operand_height operand_tokens unary q → (i : ℕ) → R zero Operand height.operand_height operand_tokens (rows_over unary inner under i) q
    lowered_rows N zero = N
    lowered_rows N (suc i) = W.narrow _ _ pair (lowered_rows N i) (row_high (row_at rows i) inner (under i))

  pub walk_lowered : {n : ℕ} → Pair (suc n) zero → (here there inner : ExprNodes) (under : Levels) → ExprsRelate (R zero) here there → LevelsRelate (R zero) (levels_over here inner under) (flat_levels there)
  walk_lowered pair here there inner under H =
      let flat : LevelsRelate (R zero) (flat_levels here) (flat_levels there) = walk_flat W here there H in
      let postfix : R zero Operand height.operand_height operand_tokens (levels_over here inner under).postfix (flat_levels there).postfix = W.narrow _ _ pair flat.postfix (postfix_high under) in
      record {
        primary = flat.primary;
        bracketed = flat.bracketed;
        target = W.narrow _ _ pair flat.target (made_high (λ a. refl));
        postfix = postfix;
        row = lowered_rows pair inner under.row (W.narrow _ _ pair postfix (unary_high inner.bare under));
      }
