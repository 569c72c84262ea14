-- The law of units, over their directives and declarations (ECMA-408, 18 Libraries and Scripts).
use Rattle.std.proofs.Common.{ℕ, true, List, [], ◌∷◌}
use Rattle.dart_tree.specs.UnitTokens.{unit_tokens}
use Rattle.grammar_laws.specs.Codes.{Within, nowhere, after_list_from}
use Rattle.grammar_laws.specs.Laws.{Laws}
use Rattle.grammar_laws.proofs.Codes.{apart_none, within_self}
use Rattle.grammar_laws.proofs.Restated.{mapped_laws, refront}
use Rattle.grammar_laws.proofs.Stated.{many_from_laws}
use Rattle.dart_syntax.specs.Units as p
use Rattle.token_codes.specs.Codes.{class_of}
use Rattle.syntax_readers.specs.Units as i
use Rattle.syntax_readers.specs.Units.{Item, Still, all_directives, still_behind, to_unit, item_first}
use Rattle.laws_unit.specs.Statements.{MetadataGrowsAt, UnitPartsReadAt, UnitReadAt}
use Rattle.laws_unit.proofs.Standing.{item_laws}
use Rattle.laws_unit.proofs.Sorted.{units_fit, units_back}
use Rattle.laws_unit.proofs.Beginning.{units_begin, units_begun}

-- behind items another one may come
under : (still : Still) (all : List Item) → Within (after_list_from (λ t. item_first) (λ t x. true) still_behind nowhere still all) item_first
under still [] = within_self item_first
under still (a ∷ []) = within_self item_first
under still (a ∷ b ∷ more) = under (still_behind still a) (b ∷ more)

pub unit_laws : (n : ℕ) → UnitPartsReadAt n → ((m : ℕ) → MetadataGrowsAt m) → Laws class_of (i.unit_over n) unit_tokens (p.unit_over n).Fits (p.unit_over n).front item_first (λ x. item_first) true
unfolding i.unit_over
unit_laws n U G = refront (mapped_laws (many_from_laws (λ still. item_laws n U G still) (λ still x. true) still_behind (λ still a fits on. apart_none item_first) all_directives) to_unit unit_tokens {Fits_q = (p.unit_over n).Fits} (λ x. item_first)
    (λ all each. let v = units_fit n all each in (v.0, v.1, under all_directives all)) (units_back n)) (units_begin n) (units_begun n)

pub units_at : (n : ℕ) → UnitPartsReadAt n → ((m : ℕ) → MetadataGrowsAt m) → UnitReadAt n
unfolding i.unit_reader p.unit_within
units_at n U G = unit_laws n U G
