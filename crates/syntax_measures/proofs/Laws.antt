-- The laws: the walk for each relation.
use Rattle.std.proofs.Common.{◌≡◌, ℕ, ◌≤◌, refl}
use Rattle.grammar_laws.specs.Fronts.{Alone}
use Rattle.dart_tree.specs.Tree.{Stmt}
use Rattle.dart_tree.specs.Tokens.{stmt_tokens}
use Rattle.dart_syntax.specs.Types.{type_within}
use Rattle.dart_syntax.specs.Statements.{declaration_of, other_statement_of, within}
use Rattle.syntax_measures.specs.Relations.{TypesRelate, WithinRelate, DeclarationsRelate, UnitsRelate}
use Rattle.syntax_measures.specs.Heights.{no_deeper, fits_by}
use Rattle.syntax_measures.specs.Fronts.{grows}
use Rattle.syntax_measures.proofs.WalkTypes.{walk_all_types}
use Rattle.syntax_measures.proofs.WalkStages.{still_at_same, walk_within}
use Rattle.syntax_measures.proofs.WalkDeclarations.{others_at_same, walk_declarations}
use Rattle.syntax_measures.proofs.WalkUnits.{walk_units}
use Rattle.syntax_measures.proofs.NoDeeper.{no_deeper_walk}
use Rattle.syntax_measures.proofs.FitsBy.{fits_by_walk}
use Rattle.syntax_measures.proofs.Grows.{grows_walk}
use Rattle.syntax_measures.proofs.DeclaresOrActs.{declares_or_acts}
use Rattle.syntax_measures.proofs.LikeConstructors.{still_alone}

-- ---- no deeper

no_deeper_below : (n m : ℕ) → n ≡ m → WithinRelate (no_deeper m) (within n) (within m)
no_deeper_below = walk_within no_deeper_walk still_at_same

pub types_no_deeper : (n : ℕ) → TypesRelate (no_deeper n) (type_within n) (type_within n)
types_no_deeper n = walk_all_types no_deeper_walk n n refl

pub within_no_deeper : (n : ℕ) → WithinRelate (no_deeper n) (within n) (within n)
within_no_deeper n = no_deeper_below n n refl

pub declarations_no_deeper : (n : ℕ) → DeclarationsRelate (no_deeper n) n n
declarations_no_deeper n = walk_declarations no_deeper_walk no_deeper_below others_at_same n n refl

pub units_no_deeper : (n : ℕ) → UnitsRelate (no_deeper n) n n
units_no_deeper n = walk_units no_deeper_walk no_deeper_below others_at_same n n refl

-- ---- by height

-- at any depths no statement that acts has the tokens of one that declares something
still : (n m : ℕ) (x : Stmt) → (other_statement_of (within n).nodes).Fits x → Alone stmt_tokens (declaration_of (within m).nodes).Fits x
still n m x fits y declared same = declares_or_acts m n y x declared fits same

fits_below : (n m : ℕ) → Unit {0} → WithinRelate (fits_by m) (within n) (within m)
fits_below = walk_within fits_by_walk (λ n m any x fits alone. still n m x fits)

pub types_fit_by_height : (n m : ℕ) → TypesRelate (fits_by m) (type_within n) (type_within m)
types_fit_by_height n m = walk_all_types fits_by_walk n m tt

pub within_fits_by_height : (n m : ℕ) → WithinRelate (fits_by m) (within n) (within m)
within_fits_by_height n m = fits_below n m tt

pub declarations_fit_by_height : (n m : ℕ) → DeclarationsRelate (fits_by m) n m
declarations_fit_by_height n m = walk_declarations fits_by_walk fits_below (λ class n m any. still_alone class n m) n m tt

pub units_fit_by_height : (n m : ℕ) → UnitsRelate (fits_by m) n m
units_fit_by_height n m = walk_units fits_by_walk fits_below (λ class n m any. still_alone class n m) n m tt

-- ---- growth

pub within_fronts_grow : (n m : ℕ) → n ≤ m → WithinRelate grows (within n) (within m)
within_fronts_grow = walk_within grows_walk (λ n m le x fits alone. still n m x fits)
