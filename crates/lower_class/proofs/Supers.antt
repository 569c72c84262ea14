-- Calls of the superclass's constructor, and which initialiser is the last.
use Rattle.std.proofs.Common.{◌≡◌, ◌≢◌, ℕ, zero, suc, ◌+◌, ◌<◌, ◌≤◌, ◌∙◌, List, [], ◌∷◌, Bool, true, false, Option, Some, None, map, length, drop, nat_eq, ◌||◌, refl, sym, ap, arith}
use Rattle.std.specs.List.{list_any}
use Rattle.std.proofs.lemmas.Bool.{true≢false, eqb-true, eqb-false}
use Rattle.std.proofs.lemmas.List.{drop_all}
use Rattle.dart_base.specs.declared.place.Place.{Place}
use Rattle.dart_tree.specs.declared.identifier.DotName.{DotName}
use Rattle.dart_tree.specs.declared.declaration.Init.{Init}
use Rattle.dart_tree.specs.Unit as u
use Rattle.dart_tree.specs.UnitView as unit_view
use Rattle.translation.specs.Classes as cl
use Rattle.translation.specs.References.{Arguments}
use Rattle.translation.specs.Walk as w
use Rattle.lower_class.specs.Views.{is_object, super_above, initializer_at}

pub super_object : (place : Place) (n : ℕ) (dot : Option DotName) (arguments : w.Walk Arguments) (st : w.State) → is_object n dot ≡ true →
    super_above place n dot arguments st ≡ w.on (arguments st) (λ all st. w.went all.forms st)
super_object place zero None arguments st object = refl
super_object place (suc n) None arguments st object = let none : suc n ≡ 0 = eqb-true (suc n) 0 object in absurd (omega arith)
super_object place n (Some dot) arguments st object = absurd (true≢false (sym object))

pub super_named : (place : Place) (n : ℕ) (dot : Option DotName) (arguments : w.Walk Arguments) (st : w.State) → is_object n dot ≡ false →
    super_above place n dot arguments st ≡ cl.super_new place (cl.generative n dot st) arguments st
super_named place zero None arguments st other = absurd (true≢false other)
super_named place (suc n) None arguments st other = refl
super_named place zero (Some dot) arguments st other = refl
super_named place (suc n) (Some dot) arguments st other = refl

pub ruleset supers = (super_object, super_named)

-- ---- the last initialiser

abbrev pub is_nothing : {A : Type 0} → List A → Bool
is_nothing [] = true
is_nothing (x ∷ xs) = false

pub initializer_last : (around : cl.Around) (rest : List u.Init) (of : u.InitKind) (st : w.State) →
    cl.initializer around rest of st ≡ initializer_at around (is_nothing rest) of st
initializer_last around [] (u.super_init word dot given) st = refl
initializer_last around [] (u.field_init this_dot name equals operand _) st = refl
initializer_last around (x ∷ rest) (u.super_init word dot given) st = refl
initializer_last around (x ∷ rest) (u.field_init this_dot name equals operand _) st = refl

pub nothing_mapped : {A B : Type 0} (f : A → B) (xs : List A) → is_nothing (map f xs) ≡ is_nothing xs
nothing_mapped f [] = refl
nothing_mapped f (x ∷ xs) = refl

something_left : {A : Type 0} (xs : List A) (k : ℕ) → k < length xs → is_nothing (drop k xs) ≡ false
something_left [] k within = absurd (omega arith)
something_left (x ∷ xs) zero within = refl
something_left (x ∷ xs) (suc k) within = something_left xs k (omega arith)

pub nothing_left : {A : Type 0} (xs : List A) (k : ℕ) (b : Bool) → k ≤ length xs → b ≡ nat_eq k (length xs) → is_nothing (drop k xs) ≡ b
nothing_left xs k true within is = let same : k ≡ length xs = eqb-true k (length xs) (sym is) in ap is_nothing (drop_all k xs (omega arith))
nothing_left xs k false within is =
    let other : k ≢ length xs = eqb-false k (length xs) (sym is) in let below : k < length xs = omega (arith, other) in something_left xs k below

-- whether there is a call of `super`
pub any_super : (xs : List Init) → list_any (λ (x : u.Init). cl.is_super x.kind) (map unit_view.init xs) ≡ list_any (λ (x : Init). cl.is_super (unit_view.init_kind x.kind)) xs
any_super [] = refl
any_super (x ∷ xs) = ap (λ (b : Bool). cl.is_super (unit_view.init_kind x.kind) || b) (any_super xs)

-- an initialiser of a list by its index
pub initializer_by : (around : cl.Around) (all : List Init) (i : ℕ) (is_last : Bool) (x : Init) (st : w.State) → i < length all → is_last ≡ nat_eq (i + 1) (length all) →
    cl.initializer around (map unit_view.init (drop (i + 1) all)) (unit_view.init_kind x.kind) st ≡ initializer_at around is_last (unit_view.init_kind x.kind) st
initializer_by around all i is_last x st below is =
    let within : i + 1 ≤ length all = omega arith in
    initializer_last around (map unit_view.init (drop (i + 1) all)) (unit_view.init_kind x.kind) st
    ∙ ap (λ (b : Bool). initializer_at around b (unit_view.init_kind x.kind) st)
    (nothing_mapped unit_view.init (drop (i + 1) all) ∙ nothing_left all (i + 1) is_last within is)
