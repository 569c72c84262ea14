-- Members that have a result type and their class's name: an erased unit has none, and columns don't matter.
use Rattle.std.proofs.Common.{◌≡◌, refl, sym, ap, ◌∙◌, List, [], ◌∷◌, map, Option, None, Some, Bool, true, false, ◌&&◌}
use Rattle.std.proofs.lemmas.Bool.{false≢true}
use Rattle.std.specs.Prelude.{bytes_eq}
use Rattle.std.specs.Option.{is_some, option_or}
use Rattle.dart_base.specs.declared.place.Place.{Place}
use Rattle.dart_tree.specs.declared.identifier.Identifier.{Identifier}
use Rattle.dart_tree.specs.Places.{place_of}
use Rattle.dart_tree.specs.UnitView.{maybe}
use Rattle.dart_tree.specs.Types as y
use Rattle.dart_tree.specs.Tree as t
use Rattle.dart_tree.specs.Unit as u
use Rattle.laws_translation.specs.LinedLeaf as leaf
use Rattle.laws_translation.specs.Lined as lined
use Rattle.laws_translation.specs.LinedUnit as unit_lined
use Rattle.dart_erase.specs.Erased as erased
use Rattle.dart_erase.specs.UnitErased as unit_erased
use Rattle.translation.specs.Surroundings.{Text}
use Rattle.translation.specs.Types.{text_of}
use Rattle.translation.specs.MemberNames as n
use Rattle.translation.specs.Program as pg
use Rattle.laws_translation.specs.Bare as bare
use Rattle.laws_translation.proofs.Kept.{line}
use Rattle.laws_translation.proofs.Firsts.{place_line}
use Rattle.laws_translation.proofs.TypesSame.{text_same}

-- ---- erased units

function_none : (c : Text) (x : t.Function) → n.of_function c (erased.function x) ≡ None
unfolding erased.function
function_none c (t.the_function external result name given inner) = refl

member_none : (c : Text) (x : u.MemberKind) → n.of_member c (unit_erased.member_kind x) ≡ None
member_none c (u.constructor_member x) = refl
member_none c (u.function_member x) = function_none c x
member_none c (u.accessor_member x) = refl
member_none c (u.variables_member x) = refl
member_none c (u.operator_member x) = refl

members_none : (c : Text) (xs : List u.Member) → n.of_members c (map unit_erased.member xs) ≡ None
members_none c [] = refl
members_none c (x ∷ xs) = λ i. option_or (member_none c x.kind i) (members_none c xs i)

class_none : (c : Text) (x : u.ClassKind) → n.of_class c (unit_erased.class_kind x) ≡ None
class_none c (u.declared_class above interfaces opening members closing) = members_none c members
class_none c (u.mixed_class equals above mixins interfaces semicolon) = refl

declaration_none : (x : u.DeclKind) → n.of_declaration (unit_erased.decl_kind x) ≡ None
declaration_none (u.class_decl x) = class_none (text_of x.name) x.kind
declaration_none (u.alias_decl x) = refl
declaration_none (u.function_decl x) = refl
declaration_none (u.accessor_decl x) = refl
declaration_none (u.variables_decl x) = refl
declaration_none (u.enum_decl x) = refl

declarations_none : (xs : List u.Decl) → n.of_declarations (map unit_erased.decl xs) ≡ None
declarations_none [] = refl
declarations_none (x ∷ xs) = λ i. option_or (declaration_none x.kind i) (declarations_none xs i)

units_none : (xs : List pg.SourceUnit) → pg.named_as_class (map bare.erased_unit xs) ≡ None
units_none [] = refl
units_none (x ∷ xs) = λ i. option_or (declarations_none x.declarations i) (units_none xs i)

-- ---- units without columns

place_if_line : (b : Bool) (p' p : Place) → p' ≡ line p → n.place_if b p' ≡ maybe line (n.place_if b p)
place_if_line true p' p e = ap Some e
place_if_line false p' p e = refl

some_same : (o : Option y.ResultType) → is_some (maybe leaf.result_type o) ≡ is_some o
some_same None = refl
some_same (Some x) = refl

named_line : (c' c : Text) (o : Option y.ResultType) (name : Identifier) → c' ≡ c →
    n.named_as c' (maybe leaf.result_type o) (leaf.identifier name) ≡ maybe line (n.named_as c o name)
named_line c' c o name e = (λ i. n.place_if (some_same o i && bytes_eq (text_same name i) (e i)) (place_of (leaf.identifier name))) ∙
    place_if_line (is_some o && bytes_eq (text_of name) c) _ (place_of name) (place_line name)

function_line : (c' c : Text) (x : t.Function) → c' ≡ c → n.of_function c' (lined.function x) ≡ maybe line (n.of_function c x)
unfolding lined.function
function_line c' c (t.the_function external result name given inner) e = named_line c' c result name e

accessor_line : (c' c : Text) (o : Option y.ResultType) (x : u.AccessorKind) → c' ≡ c →
    n.named_as c' (maybe leaf.result_type o) (n.accessor_name (unit_lined.accessor_kind x)) ≡ maybe line (n.named_as c o (n.accessor_name x))
accessor_line c' c o (u.getter place name) e = named_line c' c o name e
accessor_line c' c o (u.setter place name given) e = named_line c' c o name e

member_line : (c' c : Text) (x : u.MemberKind) → c' ≡ c → n.of_member c' (unit_lined.member_kind x) ≡ maybe line (n.of_member c x)
member_line c' c (u.constructor_member x) e = refl
member_line c' c (u.function_member x) e = function_line c' c x e
member_line c' c (u.accessor_member x) e = accessor_line c' c x.result_type x.kind e
member_line c' c (u.variables_member x) e = refl
member_line c' c (u.operator_member x) e = refl

or_line : (a b : Option Place) → option_or (maybe line a) (maybe line b) ≡ maybe line (option_or a b)
or_line None b = refl
or_line (Some a) b = refl

members_line : (c' c : Text) (xs : List u.Member) → c' ≡ c → n.of_members c' (map unit_lined.member xs) ≡ maybe line (n.of_members c xs)
members_line c' c [] e = refl
members_line c' c (x ∷ xs) e = (λ i. option_or (member_line c' c x.kind e i) (members_line c' c xs e i)) ∙ or_line (n.of_member c x.kind) (n.of_members c xs)

class_line : (c' c : Text) (x : u.ClassKind) → c' ≡ c → n.of_class c' (unit_lined.class_kind x) ≡ maybe line (n.of_class c x)
class_line c' c (u.declared_class above interfaces opening members closing) e = members_line c' c members e
class_line c' c (u.mixed_class equals above mixins interfaces semicolon) e = refl

declaration_line : (x : u.DeclKind) → n.of_declaration (unit_lined.decl_kind x) ≡ maybe line (n.of_declaration x)
declaration_line (u.class_decl x) = class_line _ (text_of x.name) x.kind (text_same x.name)
declaration_line (u.alias_decl x) = refl
declaration_line (u.function_decl x) = refl
declaration_line (u.accessor_decl x) = refl
declaration_line (u.variables_decl x) = refl
declaration_line (u.enum_decl x) = refl

declarations_line : (xs : List u.Decl) → n.of_declarations (map unit_lined.decl xs) ≡ maybe line (n.of_declarations xs)
declarations_line [] = refl
declarations_line (x ∷ xs) = (λ i. option_or (declaration_line x.kind i) (declarations_line xs i)) ∙ or_line (n.of_declaration x.kind) (n.of_declarations xs)

units_line : (xs : List pg.SourceUnit) → pg.named_as_class (map bare.lined_unit xs) ≡ maybe line (pg.named_as_class xs)
units_line [] = refl
units_line (x ∷ xs) = (λ i. option_or (declarations_line x.declarations i) (units_line xs i)) ∙ or_line (n.of_declarations x.declarations) (pg.named_as_class xs)

-- ---- both

twice_mapped : (xs : List u.Decl) → map (λ (y : u.Decl). unit_lined.decl (unit_erased.decl y)) xs ≡ map unit_lined.decl (map unit_erased.decl xs)
twice_mapped [] = refl
twice_mapped (x ∷ xs) = ap (λ (z : List u.Decl). unit_lined.decl (unit_erased.decl x) ∷ z) (twice_mapped xs)

units_twice : (xs : List pg.SourceUnit) → map bare.bare_unit xs ≡ map bare.lined_unit (map bare.erased_unit xs)
units_twice [] = refl
units_twice (x ∷ xs) = λ i. record x { declarations = twice_mapped x.declarations i } ∷ units_twice xs i

pub none_named : (xs : List pg.SourceUnit) → pg.named_as_class (map bare.bare_unit xs) ≡ None
none_named xs = ap pg.named_as_class (units_twice xs) ∙ units_line (map bare.erased_unit xs) ∙ ap (maybe line) (units_none xs)

none_from_line : (o : Option Place) → maybe line o ≡ None → o ≡ None
none_from_line None e = refl
none_from_line (Some place) e = absurd (false≢true (sym (ap is_some e)))

-- A program that is read again from the text of an erased one has none.
pub none_again : (x q : pg.Given) → bare.lines q ≡ bare.lines (bare.erased_given x) → pg.named_as_class q.units ≡ None
none_again x q e = none_from_line (pg.named_as_class q.units) (sym (units_line q.units) ∙ ap (λ (z : pg.Given). pg.named_as_class z.units) e ∙
    units_line (map bare.erased_unit x.units) ∙ ap (maybe line) (units_none x.units))
