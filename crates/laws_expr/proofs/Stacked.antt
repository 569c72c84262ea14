-- The operands of a row at a depth, as those of the row before it and the nodes that it adds, with the tokens that their trees have.
use Rattle.std.proofs.Common.{◌≡◌, ℕ, zero, suc, ◌-◌, ◌<◌, Bool, true, false, not, List, ◌∙◌, inl, inr, ap, sym, arith}
use Rattle.dart_token.specs.declared.token.Token.{Token}
use Rattle.dart_tree.specs.Types.{TypeNode}
use Rattle.dart_tree.specs.LeafTokens.{type_tokens}
use Rattle.dart_tree.specs.Tree.{Operand}
use Rattle.dart_tree.specs.Tokens.{expr_tokens, operand_tokens, primary_tokens, arguments_tokens, parameters_tokens, block_tokens}
use Rattle.grammar_laws.specs.Readers.{Reader}
use Rattle.grammar_laws.specs.Fronts.{Either, EitherFit, GoodFit}
use Rattle.dart_syntax.specs.Phrases.{Phrase}
use Rattle.dart_syntax.specs.Agreement.{Agrees, section_tokens}
use Rattle.dart_syntax.specs.Edges.{operand_takes}
use Rattle.dart_syntax.specs.Expressions as g
use Rattle.dart_syntax.specs.Statements as gs
use Rattle.dart_syntax.specs.Statements.{within}
use Rattle.dart_syntax.proofs.AgreeingStages.{within_agrees}
use Rattle.syntax_readers.specs.Combinators.{Open}
use Rattle.syntax_readers.specs.Primaries.{operand_first}
use Rattle.syntax_readers.specs.Levels.{whole, is_bare}
use Rattle.syntax_measures.specs.Relations.{ExprsRelate}
use Rattle.syntax_measures.specs.Fronts.{Grows, grows}
use Rattle.syntax_measures.proofs.Grows.{grows_walk}
use Rattle.syntax_measures.proofs.WalkLevels.{each_row_plain, walk_row}
use Rattle.laws_expr.proofs.Open.{OpenLaws, Settled, open_restated, restated_settled, open_checked_laws, checked_settled}
use Rattle.laws_expr.proofs.Rows.{operands}
use Rattle.laws_expr.proofs.Depths.{row_of, bare_of, RowFits, row_front}
use Rattle.laws_expr.proofs.Rising.{rising_at, bare_rises_at, not_bare_at, bare_at}

-- ---- the same phrases, with the tokens that their trees have

abbrev pub plainly : {A : Type 0} → (A → List Token) → Phrase A → Phrase A
plainly tokens p = record { spelling = tokens; Fits = p.Fits; front = p.front }

pub to_plain : {A : Type 0} {tokens : A → List Token} {p : Phrase A} → Agrees tokens p → Grows p (plainly tokens p)
to_plain P = record { same = P.spells; fits = λ a fits. fits; begins = λ ts f. f }

pub from_plain : {A : Type 0} {tokens : A → List Token} {p : Phrase A} → Agrees tokens p → Grows (plainly tokens p) p
from_plain P = record { same = λ a. sym (P.spells a); fits = λ a fits. fits; begins = λ ts f. f }

-- what stands inside
abbrev pub nodes_at : ℕ → g.ExprNodes
nodes_at n =
    let p : g.ExprNodes = (within n).nodes.expr_nodes in
    record {
      type = plainly type_tokens p.type;
      expr = plainly expr_tokens p.expr;
      without = plainly expr_tokens p.without;
      cascade = plainly section_tokens p.cascade;
      bare = plainly operand_tokens p.bare;
      literal = plainly primary_tokens p.literal;
      arguments = plainly arguments_tokens p.arguments;
      parameters = plainly parameters_tokens p.parameters;
      block = plainly block_tokens p.block;
    }

-- an operand of a row one node less deep
abbrev pub under_at : ℕ → ℕ → Phrase Operand
under_at n i = operands (row_of n i).Fits (row_of n i).front

-- the nodes of a row
abbrev pub node_at : ℕ → ℕ → Phrase Operand
node_at n i = g.row_over (g.row_at g.rows i) (nodes_at n) (under_at n i)

module _ (n : ℕ) where
  abbrev nodes : g.ExprNodes
  nodes = (within n).nodes.expr_nodes

  pub nodes_from : ExprsRelate grows (nodes_at n) nodes
  nodes_from =
      let A = (within_agrees n).nodes.expr_nodes in
      record {
        type = from_plain A.type;
        expr = from_plain A.expr;
        without = from_plain A.without;
        cascade = from_plain A.cascade;
        bare = from_plain A.bare;
        literal = from_plain A.literal;
        arguments = from_plain A.arguments;
        parameters = from_plain A.parameters;
        block = from_plain A.block;
      }

  pub nodes_to : ExprsRelate grows nodes (nodes_at n)
  nodes_to =
      let A = (within_agrees n).nodes.expr_nodes in
      record {
        type = to_plain A.type;
        expr = to_plain A.expr;
        without = to_plain A.without;
        cascade = to_plain A.cascade;
        bare = to_plain A.bare;
        literal = to_plain A.literal;
        arguments = to_plain A.arguments;
        parameters = to_plain A.parameters;
        block = to_plain A.block;
      }

  node_from : (i : ℕ) → Grows (node_at n i) (g.row_over (g.row_at g.rows i) nodes (row_of n i))
  node_from i = walk_row grows_walk {m = n} nodes_from (g.row_at g.rows i) (each_row_plain i) (from_plain ((within_agrees n).levels.row i))

  node_to : (i : ℕ) → Grows (g.row_over (g.row_at g.rows i) nodes (row_of n i)) (node_at n i)
  node_to i = walk_row grows_walk {m = n} nodes_to (g.row_at g.rows i) (each_row_plain i) (to_plain ((within_agrees n).levels.row i))

  -- ---- the next row, with `super` alone and without

  pub next_forth : (i : ℕ) (x : Operand) → EitherFit (RowFits (suc n) i) (node_at n i).Fits x → RowFits (suc n) (suc i) x
  unfolding gs.within gs.nodes_over
  next_forth i x (inl (inl fits)) = inl (inl fits)
  next_forth i x (inl (inr fits)) = inr fits
  next_forth i x (inr fits) = inl (inr ((node_from i).fits x fits))

  pub next_back : (i : ℕ) (x : Operand) → RowFits (suc n) (suc i) x → EitherFit (RowFits (suc n) i) (node_at n i).Fits x
  unfolding gs.within gs.nodes_over
  next_back i x (inl (inl fits)) = inl (inl fits)
  next_back i x (inl (inr fits)) = inr ((node_to i).fits x fits)
  next_back i x (inr fits) = inl (inr fits)

  pub next_out : (i : ℕ) (ts : List Token) → Either (row_front (suc n) i) (node_at n i).front ts → row_front (suc n) (suc i) ts
  unfolding gs.within gs.nodes_over
  next_out i ts (inl (inl f)) = inl (inl f)
  next_out i ts (inl (inr f)) = inr f
  next_out i ts (inr f) = inl (inr ((node_from i).begins ts f))

  pub next_into : (i : ℕ) (ts : List Token) → row_front (suc n) (suc i) ts → Either (row_front (suc n) i) (node_at n i).front ts
  unfolding gs.within gs.nodes_over
  next_into i ts (inl (inl f)) = inl (inl f)
  next_into i ts (inl (inr f)) = inr ((node_to i).begins ts f)
  next_into i ts (inr f) = inl (inr f)

  pub plain_forth : (i : ℕ) (x : Operand) → EitherFit (row_of (suc n) i).Fits (node_at n i).Fits x → (row_of (suc n) (suc i)).Fits x
  unfolding gs.within gs.nodes_over
  plain_forth i x (inl fits) = inl fits
  plain_forth i x (inr fits) = inr ((node_from i).fits x fits)

  pub plain_back : (i : ℕ) (x : Operand) → (row_of (suc n) (suc i)).Fits x → EitherFit (row_of (suc n) i).Fits (node_at n i).Fits x
  unfolding gs.within gs.nodes_over
  plain_back i x (inl fits) = inl fits
  plain_back i x (inr fits) = inr ((node_to i).fits x fits)

  pub plain_out : (i : ℕ) (ts : List Token) → Either (row_of (suc n) i).front (node_at n i).front ts → (row_of (suc n) (suc i)).front ts
  unfolding gs.within gs.nodes_over
  plain_out i ts (inl f) = inl f
  plain_out i ts (inr f) = inr ((node_from i).begins ts f)

  pub plain_into : (i : ℕ) (ts : List Token) → (row_of (suc n) (suc i)).front ts → Either (row_of (suc n) i).front (node_at n i).front ts
  unfolding gs.within gs.nodes_over
  plain_into i ts (inl f) = inl f
  plain_into i ts (inr f) = inr ((node_to i).begins ts f)

  -- behind a row of one operator `super` alone is refused
  pub whole_forth : (i : ℕ) (x : Operand) → GoodFit (EitherFit (RowFits (suc n) i) (node_at n i).Fits) (λ y. not (is_bare y)) x → (row_of (suc n) (suc i)).Fits x
  whole_forth i x (inl (inl fits), good) = plain_forth i x (inl fits)
  whole_forth i x (inl (inr bare), good) = let bad : false ≡ true = sym (ap not (bare_at (suc n) x bare)) ∙ good in absurd cc
  whole_forth i x (inr fits, good) = plain_forth i x (inr fits)

  either_row : (i : ℕ) (x : Operand) → EitherFit (row_of (suc n) i).Fits (node_at n i).Fits x → EitherFit (RowFits (suc n) i) (node_at n i).Fits x
  either_row i x (inl fits) = inl (inl fits)
  either_row i x (inr fits) = inr fits

  pub whole_back : (i : ℕ) (x : Operand) → (row_of (suc n) (suc i)).Fits x → GoodFit (EitherFit (RowFits (suc n) i) (node_at n i).Fits) (λ y. not (is_bare y)) x
  whole_back i x fits = (either_row i x (plain_back i x fits), ap not (not_bare_at (suc n) (suc i) x fits))

  -- `super` begins an operand with a selector behind it
  bare_begins : (i : ℕ) (ts : List Token) → (bare_of (suc n)).front ts → (row_of (suc n) i).front ts
  unfolding gs.within gs.nodes_over
  bare_begins zero ts f = inl (inl (inr (inr (inl (inl f)))))
  bare_begins (suc i) ts f = inl (bare_begins i ts f)

  pub whole_out : (i : ℕ) (ts : List Token) → Either (row_front (suc n) i) (node_at n i).front ts → (row_of (suc n) (suc i)).front ts
  whole_out i ts (inl (inl f)) = plain_out i ts (inl f)
  whole_out i ts (inl (inr f)) = bare_begins (suc i) ts f
  whole_out i ts (inr f) = plain_out i ts (inr f)

  pub whole_into : (i : ℕ) (ts : List Token) → (row_of (suc n) (suc i)).front ts → Either (row_front (suc n) i) (node_at n i).front ts
  whole_into i ts f = either_front (plain_into i ts f) where
    either_front : Either (row_of (suc n) i).front (node_at n i).front ts → Either (row_front (suc n) i) (node_at n i).front ts
    either_front (inl f) = inl (inl f)
    either_front (inr f) = inr f

  pub rises_at : (i next : ℕ) (x : Operand) → RowFits (suc n) i x → (opens : TypeNode → Bool) → next < 12 - i → operand_takes next opens next x ≡ true
  rises_at i next x (inl fits) opens lt = rising_at (suc n) i x fits next opens (omega (arith, lt))
  rises_at i next x (inr fits) opens lt = bare_rises_at (suc n) x fits next opens (omega (arith, lt))

  -- ---- a row where `super` alone is refused

  module _ (i : ℕ) where
    clean_forth : (x : Operand) → GoodFit (RowFits (suc n) i) (λ y. not (is_bare y)) x → (row_of (suc n) i).Fits x
    clean_forth x (inl fits, good) = fits
    clean_forth x (inr bare, good) = let bad : false ≡ true = sym (ap not (bare_at (suc n) x bare)) ∙ good in absurd cc

    clean_back : (x : Operand) → (row_of (suc n) i).Fits x → GoodFit (RowFits (suc n) i) (λ y. not (is_bare y)) x
    clean_back x fits = (inl fits, ap not (not_bare_at (suc n) i x fits))

    clean_out : (ts : List Token) → row_front (suc n) i ts → (row_of (suc n) i).front ts
    clean_out ts (inl f) = f
    clean_out ts (inr f) = bare_begins i ts f

  module _ (i : ℕ) {q : Reader Token (Open Operand)} {next half : Operand → List ℕ} where
    pub whole_row : OpenLaws q operand_tokens (RowFits (suc n) i) (row_front (suc n) i) operand_first next half → OpenLaws (whole q) operand_tokens (row_of (suc n) i).Fits (row_of (suc n) i).front operand_first next half
    unfolding whole
    whole_row P = open_restated (open_checked_laws P (λ y. not (is_bare y))) (clean_forth i) (clean_back i) (clean_out i) (λ ts f. inl f)

    pub whole_settled : (P : OpenLaws q operand_tokens (RowFits (suc n) i) (row_front (suc n) i) operand_first next half) (x : Operand) → (row_of (suc n) i).Fits x → Settled P x → Settled (whole_row P) x
    unfolding whole whole_row
    whole_settled P x fits settled = restated_settled (open_checked_laws P (λ y. not (is_bare y))) (clean_forth i) (clean_back i) (clean_out i) (λ ts f. inl f) x (checked_settled P (λ y. not (is_bare y)) x (ap not (not_bare_at (suc n) i x fits)) settled)

    pub whole_plain : OpenLaws q operand_tokens (row_of (suc n) i).Fits (row_of (suc n) i).front operand_first next half → OpenLaws (whole q) operand_tokens (row_of (suc n) i).Fits (row_of (suc n) i).front operand_first next half
    unfolding whole
    whole_plain P = open_restated (open_checked_laws P (λ y. not (is_bare y))) (λ x fits. fits.0) (λ x fits. (fits, ap not (not_bare_at (suc n) i x fits))) (λ ts f. f) (λ ts f. f)

    pub whole_plain_settled : (P : OpenLaws q operand_tokens (row_of (suc n) i).Fits (row_of (suc n) i).front operand_first next half) (x : Operand) → (row_of (suc n) i).Fits x → Settled P x → Settled (whole_plain P) x
    unfolding whole whole_plain
    whole_plain_settled P x fits settled = restated_settled (open_checked_laws P (λ y. not (is_bare y))) (λ x fits. fits.0) (λ x fits. (fits, ap not (not_bare_at (suc n) i x fits))) (λ ts f. f) (λ ts f. f) x (checked_settled P (λ y. not (is_bare y)) x (ap not (not_bare_at (suc n) i x fits)) settled)
