-- The operands of a row at a depth and one node less deep, as the laws of the rows ask for them: by the heights of trees.
use Rattle.std.proofs.Common.{ℕ, suc, ◌<◌, List, inl, inr, arith}
use Rattle.dart_token.specs.declared.token.Token.{Token}
use Rattle.dart_tree.specs.Depth.{operand_height}
use Rattle.dart_tree.specs.Tree.{Operand}
use Rattle.grammar_laws.specs.Fronts.{Front, Either, EitherFit}
use Rattle.dart_syntax.specs.Phrases.{Phrase}
use Rattle.dart_syntax.specs.Statements.{within}
use Rattle.syntax_measures.proofs.Laws.{within_no_deeper, within_fits_by_height, within_fronts_grow}

-- operands of a row, with `super` alone and without
abbrev pub row_of : ℕ → ℕ → Phrase Operand
row_of n i = (within n).levels.row i

abbrev pub bare_of : ℕ → Phrase Operand
bare_of n = (within n).nodes.expr_nodes.bare

abbrev pub RowFits : ℕ → ℕ → Operand → Type 0
RowFits n i = EitherFit (row_of n i).Fits (bare_of n).Fits

abbrev pub row_front : ℕ → ℕ → Front Token
row_front n i = Either (row_of n i).front (bare_of n).front

module _ (n : ℕ) where
  pub row_down : (i : ℕ) (x : Operand) → (row_of (suc n) i).Fits x → operand_height x < suc n → (row_of n i).Fits x
  row_down i x fits low = ((within_fits_by_height (suc n) n).levels.row i).fits x fits (omega (arith, low))

  pub row_up : (i : ℕ) (x : Operand) → (row_of n i).Fits x → (row_of (suc n) i).Fits x × (operand_height x < suc n)
  row_up i x fits = (((within_fronts_grow n (suc n) (omega arith)).levels.row i).fits x fits, omega (arith, ((within_no_deeper n).levels.row i).at_most x fits))

  pub row_rise : (i : ℕ) (ts : List Token) → (row_of n i).front ts → (row_of (suc n) i).front ts
  row_rise i ts f = ((within_fronts_grow n (suc n) (omega arith)).levels.row i).begins ts f

  -- what is no deeper than a node more allows stands one node less deep, and the other way round
  pub down_at : (i : ℕ) (x : Operand) → RowFits (suc n) i x → operand_height x < suc n → RowFits n i x
  down_at i x (inl fits) low = inl (row_down i x fits low)
  down_at i x (inr fits) low = inr ((within_fits_by_height (suc n) n).nodes.expr_nodes.bare.fits x fits (omega (arith, low)))

  bare_up : (x : Operand) → (bare_of n).Fits x → (bare_of (suc n)).Fits x × (operand_height x < suc n)
  bare_up x fits = ((within_fronts_grow n (suc n) (omega arith)).nodes.expr_nodes.bare.fits x fits, omega (arith, (within_no_deeper n).nodes.expr_nodes.bare.at_most x fits))

  pub up_at : (i : ℕ) (x : Operand) → RowFits n i x → RowFits (suc n) i x × (operand_height x < suc n)
  up_at i x (inl fits) = let w = row_up i x fits in (inl w.0, w.1)
  up_at i x (inr fits) = let w = bare_up x fits in (inr w.0, w.1)

  pub rise_at : (i : ℕ) (ts : List Token) → row_front n i ts → row_front (suc n) i ts
  rise_at i ts (inl f) = inl (row_rise i ts f)
  rise_at i ts (inr f) = inr ((within_fronts_grow n (suc n) (omega arith)).nodes.expr_nodes.bare.begins ts f)
