-- Whole programs go alike once annotations and columns are forgotten.
use Rattle.std.proofs.Common.{◌≡◌, refl, sym, ap, ◌∙◌, ℕ, List, [], ◌∷◌, ◌++◌, map, nat_eq, Option, None, Some, Bool, true, false, if◌then◌else◌}
use Rattle.std.proofs.lemmas.Bool.{false≢true}
use Rattle.std.proofs.lemmas.List.{map-append}
use Rattle.std.specs.Prelude.{◌≢◌}
use Rattle.std.specs.List.{range_with_len}
use Rattle.std.specs.Option.{is_some}
use Rattle.dart_base.specs.declared.place.Place.{Place}
use Rattle.dart_tree.specs.Unit as u
use Rattle.core_program.specs.Program as p
use Rattle.core_program.specs.Alike as alike
use Rattle.core_program.specs.Stripped as stripped
use Rattle.laws_translation.specs.Lined as lined
use Rattle.laws_translation.specs.LinedUnit as unit_lined
use Rattle.dart_erase.specs.Erased as erased
use Rattle.dart_erase.specs.UnitErased as unit_erased
use Rattle.translation.specs.Surroundings.{Text}
use Rattle.translation.specs.Walk.{Made, State, Went, Walk, went, refused}
use Rattle.translation.specs.Declarations as d
use Rattle.translation.specs.Program as pg
use Rattle.laws_translation.specs.Bare as bare
use Rattle.laws_translation.proofs.Kept as k
use Rattle.laws_translation.proofs.Kept.{line, Goes, ends}
use Rattle.laws_translation.proofs.Ends.{on_ends, done}
use Rattle.laws_translation.proofs.Closed.{numbered_goes}
use Rattle.laws_translation.proofs.Declared.{declared_goes, function_bare, accessor_bare, variables_goes}
use Rattle.laws_translation.proofs.Bodied.{class_made, class_goes, type_parameters_goes}
use Rattle.laws_translation.proofs.Added.{added_goes}
use Rattle.laws_translation.proofs.Named.{none_named}

-- ---- programs

no_class_goes : (w' w : Walk ℕ) → Goes (λ n. n) w' w → Goes (map class_made) (pg.no_class w') (pg.no_class w)
no_class_goes w' w h q = on_ends _ _ _ _ _ _ (h q) (λ n q. done _ _ [] _ q refl refl)

abbrev bare_decl : u.DeclKind → u.DeclKind
bare_decl x = unit_lined.decl_kind (unit_erased.decl_kind x)

declaration_goes : (x : u.DeclKind) → Goes (map class_made) (pg.declaration (bare_decl x)) (pg.declaration x)
declaration_goes (u.class_decl x) q = on_ends _ _ _ _ _ _ (class_goes x q) (λ made q. done _ _ (made ∷ []) _ q refl refl)
declaration_goes (u.alias_decl x) q = no_class_goes (pg.alias_declared (unit_lined.alias (unit_erased.alias x))) (pg.alias_declared x)
    (λ q. on_ends _ _ _ _ _ _ (numbered_goes q) (λ n q. type_parameters_goes x.type_parameters q)) q
declaration_goes (u.function_decl x) q = no_class_goes (d.declared_function d.static_standing (d.function_declared (lined.function (erased.function x)))) (d.declared_function d.static_standing (d.function_declared x))
    (declared_goes d.static_standing _ (d.function_declared x) (function_bare x)) q
declaration_goes (u.accessor_decl x) q = no_class_goes (d.declared_function d.static_standing (d.accessor_declared (unit_lined.accessor (unit_erased.accessor x)))) (d.declared_function d.static_standing (d.accessor_declared x))
    (declared_goes d.static_standing _ (d.accessor_declared x) (accessor_bare x)) q
declaration_goes (u.variables_decl x) q = no_class_goes (d.variables_declared (lined.variables (erased.variables x))) (d.variables_declared x) (variables_goes x) q
declaration_goes (u.enum_decl x) q = no_class_goes pg.enum_declared pg.enum_declared (λ q. numbered_goes (record q { has_constants = true })) q

declarations_goes : (xs : List u.Decl) → Goes (map class_made) (pg.declarations (map (λ (y : u.Decl). unit_lined.decl (unit_erased.decl y)) xs)) (pg.declarations xs)
declarations_goes [] q = done _ _ [] _ q refl refl
declarations_goes (x ∷ xs) q = on_ends _ _ _ _ _ _ (declaration_goes x.kind q) (λ made q. on_ends _ _ _ _ _ _ (declarations_goes xs q)
    (λ more q. done _ _ (made ++ more) _ q (sym (map-append class_made made more)) refl))

units_goes : (xs : List pg.SourceUnit) → Goes (map class_made) (pg.units (map bare.bare_unit xs)) (pg.units xs)
units_goes [] q = done _ _ [] _ q refl refl
units_goes (x ∷ xs) q = on_ends _ _ _ _ _ _ (declarations_goes x.declarations (record q { names = x.names })) (λ made q. on_ends _ _ _ _ _ _ (units_goes xs q)
    (λ more q. done _ _ (made ++ more) _ q (sym (map-append class_made made more)) refl))

walk_goes : (x : pg.Given) → Goes (λ n. n) (pg.walk (bare.bare x)) (pg.walk x)
walk_goes x q = on_ends _ _ _ _ _ _ (units_goes x.units q) (λ made q. added_goes 0 x.classes made [] q)

-- ---- answers

function_if : (v : Bool) (x : Made (p.Function Text)) (y : p.Function Text) →
    (if v then k.function_made x.made else alike.function (stripped.function y)) ≡ alike.function (stripped.function (if v then x.made else y))
unfolding k.function_made
function_if true x y = refl
function_if false x y = refl

function_as : (xs : List (Made (p.Function Text))) (n : ℕ) → pg.made_as pg.no_function (map k.function xs) n ≡ alike.function (stripped.function (pg.made_as pg.no_function xs n))
function_as [] n = refl
function_as (x ∷ xs) n = (λ i. if nat_eq x.number n then k.function_made x.made else function_as xs n i) ∙ function_if (nat_eq x.number n) x (pg.made_as pg.no_function xs n)

functions_same : (xs : List (Made (p.Function Text))) (ns : List ℕ) → map (pg.made_as pg.no_function (map k.function xs)) ns ≡ map alike.function (map stripped.function (map (pg.made_as pg.no_function xs) ns))
functions_same xs [] = refl
functions_same xs (n ∷ ns) = λ i. function_as xs n i ∷ functions_same xs ns i

static_if : (v : Bool) (x : Made (p.Static Text)) (y : p.Static Text) → (if v then k.static_made x.made else alike.static y) ≡ alike.static (if v then x.made else y)
unfolding k.static_made
static_if true x y = refl
static_if false x y = refl

static_as : (xs : List (Made (p.Static Text))) (n : ℕ) → pg.made_as pg.no_static (map k.static xs) n ≡ alike.static (pg.made_as pg.no_static xs n)
static_as [] n = refl
static_as (x ∷ xs) n = (λ i. if nat_eq x.number n then k.static_made x.made else static_as xs n i) ∙ static_if (nat_eq x.number n) x (pg.made_as pg.no_static xs n)

statics_same : (xs : List (Made (p.Static Text))) (ns : List ℕ) → map (pg.made_as pg.no_static (map k.static xs)) ns ≡ map alike.static (map (pg.made_as pg.no_static xs) ns)
statics_same xs [] = refl
statics_same xs (n ∷ ns) = λ i. static_as xs n i ∷ statics_same xs ns i

sites_same : (xs : List (p.Site Text)) → map k.site xs ≡ map alike.site (map stripped.site xs)
sites_same [] = refl
sites_same (x ∷ xs) = ap (λ (z : List (p.Site Text)). k.site x ∷ z) (sites_same xs)

members_same : (xs : List (p.Member Text)) → map (λ (y : p.Member Text). alike.member (stripped.member y)) xs ≡ map alike.member (map stripped.member xs)
members_same [] = refl
members_same (x ∷ xs) = ap (λ (z : List (p.Member Text)). alike.member (stripped.member x) ∷ z) (members_same xs)

program_same : (x : pg.Given) (q : State) → pg.program (bare.bare x) (k.state q) ≡ alike.program (stripped.program (pg.program x q))
program_same x q = λ i. record (alike.program (stripped.program (pg.program x q))) {
  members = members_same x.members i;
  functions = functions_same q.functions (range_with_len 0 q.declarations) i;
  statics = statics_same q.statics (range_with_len 0 q.declarations) i;
  sites = sites_same q.sites i;
}

built_same : (v : Bool) (x : pg.Given) (q : State) → pg.built v (pg.program (bare.bare x) (k.state q)) ≡ bare.forgotten (pg.built v (pg.program x q))
built_same true x q = refl
built_same false x q = ap pg.accepted (program_same x q)

answer_same : (x : pg.Given) (w : Went ℕ) → pg.answer (bare.bare x) (ends (λ n. n) w) ≡ bare.forgotten (pg.answer x w)
unfolding ends
answer_same x (went n q) = built_same q.has_constants x q
answer_same x (refused why) = refl

walked_same : (x : pg.Given) → pg.answer (bare.bare x) (pg.walk (bare.bare x) (pg.start (bare.bare x))) ≡ bare.forgotten (pg.answer x (pg.walk x (pg.start x)))
walked_same x = ap (pg.answer (bare.bare x)) (walk_goes x (pg.start x)) ∙ answer_same x (pg.walk x (pg.start x))

-- where no member has a result type and its class's name
pub bare_core : (x : pg.Given) → pg.named_as_class x.units ≡ None → pg.core (bare.bare x) ≡ bare.forgotten (pg.core x)
bare_core x e = (λ i. pg.refused_at (none_named x.units i) (walked_same x i)) ∙
    ap (λ (o : Option Place). bare.forgotten (pg.refused_at o (pg.answer x (pg.walk x (pg.start x))))) (sym e)

pub alike_cores : (x y : pg.Given) → pg.named_as_class x.units ≡ None → pg.named_as_class y.units ≡ None → bare.bare y ≡ bare.bare x →
    bare.forgotten (pg.core y) ≡ bare.forgotten (pg.core x)
alike_cores x y l r e = sym (bare_core y r) ∙ ap pg.core e ∙ bare_core x l

-- A program that has a core has no such member.
abbrev is_accepted : pg.Answer → Bool
is_accepted (pg.accepted made) = true
is_accepted (pg.rejected why) = false
is_accepted pg.not_built = false

not_earlier : (place : Place) (answer : pg.Answer) → is_accepted (pg.earlier place answer) ≡ false
not_earlier place (pg.accepted made) = refl
not_earlier place (pg.rejected why) = refl
not_earlier place pg.not_built = refl

accepted_named : (o : Option Place) (answer : pg.Answer) (made : p.Program Text) → pg.refused_at o answer ≡ pg.accepted made → o ≡ None
accepted_named None answer made e = refl
accepted_named (Some place) answer made e = absurd (false≢true (sym (not_earlier place answer) ∙ ap is_accepted e))

pub named_refused : (x : pg.Given) (place : Place) (made : p.Program Text) → pg.named_as_class x.units ≡ Some place → pg.core x ≢ pg.accepted made
named_refused x place made e a =
    false≢true (ap is_some (sym (accepted_named (pg.named_as_class x.units) (pg.answer x (pg.walk x (pg.start x))) made a) ∙ e))

pub erased_core : (x : pg.Given) (made : p.Program Text) → pg.core x ≡ pg.accepted made → pg.core (bare.bare x) ≡ pg.accepted (alike.program (stripped.program made))
erased_core x made e = bare_core x (accepted_named (pg.named_as_class x.units) (pg.answer x (pg.walk x (pg.start x))) made e) ∙ ap bare.forgotten e
