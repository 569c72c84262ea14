-- Metadata grow with the depth, by the walks over the productions.
use Rattle.std.proofs.Common.{ℕ, suc, ◌≤◌, ◌<◌, arith}
use Rattle.dart_tree.specs.Depth.{metadata_height}
use Rattle.grammar_laws.proofs.Depth.{below_is, is_below_by}
use Rattle.syntax_measures.specs.Fronts.{Grows}
use Rattle.syntax_measures.specs.Heights.{NoDeeper, FitsBy}
use Rattle.syntax_measures.proofs.WalkStatements.{walk_metadata}
use Rattle.syntax_measures.proofs.NoDeeper.{no_deeper_walk}
use Rattle.syntax_measures.proofs.FitsBy.{fits_by_walk}
use Rattle.syntax_measures.proofs.Grows.{grows_walk}
use Rattle.syntax_measures.proofs.Laws.{within_no_deeper, within_fits_by_height, within_fronts_grow}
use Rattle.laws_unit.specs.Statements.{metadata_at, MetadataGrowsAt}

next_at_least : (n : ℕ) → n ≤ suc n
next_at_least n = omega arith

less : (k n : ℕ) → k ≤ n → k < suc n
less k n h = omega arith

at_most : (k n : ℕ) → k < suc n → k ≤ n
at_most k n h = omega arith

grow : (n : ℕ) → Grows (metadata_at n) (metadata_at (suc n))
grow n = walk_metadata grows_walk {m = n} (within_fronts_grow n (suc n) (next_at_least n)).nodes.expr_nodes

no_deeper : (n : ℕ) → NoDeeper metadata_height n (metadata_at n)
no_deeper n = walk_metadata no_deeper_walk {m = n} (within_no_deeper n).nodes.expr_nodes

fit_by_height : (n : ℕ) → FitsBy metadata_height n (metadata_at (suc n)) (metadata_at n)
fit_by_height n = walk_metadata fits_by_walk {m = n} (within_fits_by_height (suc n) n).nodes.expr_nodes

pub metadata_grow_at : (n : ℕ) → MetadataGrowsAt n
metadata_grow_at n = record {
  fits_more = λ x fits. (grow n).fits x fits;
  begins_more = λ ts f. (grow n).begins ts f;
  below = λ x fits. is_below_by metadata_height (suc n) x (less (metadata_height x) n ((no_deeper n).at_most x fits));
  fits_less = λ x fits low. (fit_by_height n).fits x fits (at_most (metadata_height x) n (below_is metadata_height (suc n) x low));
}
