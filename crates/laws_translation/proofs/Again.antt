-- A program that is read again from the text of the erased one.
use Rattle.std.proofs.Common.{◌≡◌, refl, sym, ap, ◌∙◌, List, [], ◌∷◌, map, None}
use Rattle.dart_tree.specs.Unit as u
use Rattle.dart_erase.specs.UnitErased as erased
use Rattle.dart_erase.proofs.Twice.{twice_unit}
use Rattle.laws_translation.specs.LinedUnit as lined
use Rattle.translation.specs.Program as pg
use Rattle.laws_translation.specs.Bare as bare
use Rattle.laws_translation.proofs.Either.{decls_either}
use Rattle.laws_translation.proofs.Named.{none_again}
use Rattle.laws_translation.proofs.Whole.{alike_cores}

both : (xs : List u.Decl) → map (λ (y : u.Decl). lined.decl (erased.decl y)) xs ≡ map lined.decl (map erased.decl xs)
both [] = refl
both (x ∷ xs) = ap (λ (z : List u.Decl). lined.decl (erased.decl x) ∷ z) (both xs)

unit_either : (x : pg.SourceUnit) → bare.bare_unit x ≡ bare.erased_unit (bare.lined_unit x)
unit_either x = λ i. record x { declarations = (both x.declarations ∙ sym (decls_either x.declarations)) i }

units_either : (xs : List pg.SourceUnit) → map bare.bare_unit xs ≡ map bare.erased_unit (map bare.lined_unit xs)
units_either [] = refl
units_either (x ∷ xs) = λ i. unit_either x i ∷ units_either xs i

bare_lines : (x : pg.Given) → bare.bare x ≡ bare.erased_given (bare.lines x)
bare_lines x = λ i. record (bare.bare x) { units = units_either x.units i }

twice : (xs : List u.Decl) → map erased.decl (map erased.decl xs) ≡ map erased.decl xs
twice xs = ap (λ (z : u.UnitTree). z.declarations) (twice_unit (record { directives = []; declarations = xs }))

unit_twice : (x : pg.SourceUnit) → bare.bare_unit (bare.erased_unit x) ≡ bare.bare_unit x
unit_twice x = λ i. record x { declarations = (both (map erased.decl x.declarations) ∙ ap (map lined.decl) (twice x.declarations) ∙ sym (both x.declarations)) i }

units_twice : (xs : List pg.SourceUnit) → map bare.bare_unit (map bare.erased_unit xs) ≡ map bare.bare_unit xs
units_twice [] = refl
units_twice (x ∷ xs) = λ i. unit_twice x i ∷ units_twice xs i

bare_twice : (x : pg.Given) → bare.bare (bare.erased_given x) ≡ bare.bare x
bare_twice x = λ i. record (bare.bare x) { units = units_twice x.units i }

bare_again : (x q : pg.Given) → bare.lines q ≡ bare.lines (bare.erased_given x) → bare.bare q ≡ bare.bare x
bare_again x q e = bare_lines q ∙ ap bare.erased_given e ∙ sym (bare_lines (bare.erased_given x)) ∙ bare_twice x

pub read_again : (x q : pg.Given) → pg.named_as_class x.units ≡ None → bare.lines q ≡ bare.lines (bare.erased_given x) →
    bare.forgotten (pg.core q) ≡ bare.forgotten (pg.core x)
read_again x q l e = alike_cores x q l (none_again x q e) (bare_again x q e)
