-- A program that was translated over a table of classes has that table.
use Rattle.std.proofs.Common.{◌≡◌, ◌∙◌, sym, ap, refl, subst, ℕ, List, map, Bool, true, false, Option, None, Some}
use Rattle.std.proofs.lemmas.Simd.{map-map}
use Rattle.dart_base.specs.declared.place.Place.{Place}
use Rattle.dart_ir.specs.declared.class.Classes.{Classes}
use Rattle.core_program.specs.declared.program.CoreProgram.{CoreProgram}
use Rattle.core_program.specs.Named as named
use Rattle.core_program.specs.Program as c
use Rattle.core_program.specs.ProgramView as pv
use Rattle.lower_leaf.specs.Around.{Around}
use Rattle.lower_mixin.specs.Views.{class_info}
use Rattle.lower_program.specs.Views as views
use Rattle.lower_program.specs.Views.{member_info}
use Rattle.lower_program.specs.declared.program.Program.{Program}
use Rattle.translation.specs.Program as p
use Rattle.translation.specs.Surroundings.{Text}
use Rattle.translation.specs.Walk.{State, Went, went, refused}
use Rattle.dart_execute.specs.Joined.{IsJoined}

-- ---- the core of what is handed to translation

pub record HasTables (given : p.Given) (x : c.Program Text) : Type 0 where
  pub classes : x.classes ≡ given.classes
  pub members : x.members ≡ given.members
  pub function : x.function_class ≡ given.function_class

abbrev Accepts : p.Given → p.Answer → Type 0
Accepts given (p.accepted x) = HasTables given x
Accepts given (p.rejected why) = Unit {0}
Accepts given p.not_built = Unit {0}

built_has : (given : p.Given) (constants : Bool) (st : State) → Accepts given (p.built constants (p.program given st))
built_has given true st = tt
built_has given false st = record { classes = refl; members = refl; function = refl }

answer_has : (given : p.Given) (w : Went ℕ) → Accepts given (p.answer given w)
answer_has given (went n st) = built_has given st.has_constants st
answer_has given (refused reason) = tt

earlier_has : (given : p.Given) (place : Place) (x : p.Answer) → Accepts given (p.earlier place x)
earlier_has given place (p.rejected why) = tt
earlier_has given place (p.accepted x) = tt
earlier_has given place p.not_built = tt

refused_has : (given : p.Given) (place : Option Place) (x : p.Answer) → Accepts given x → Accepts given (p.refused_at place x)
refused_has given None x has = has
refused_has given (Some place) x has = earlier_has given place x

core_has : (given : p.Given) → Accepts given (p.core given)
core_has given = refused_has given (p.named_as_class given.units) (p.answer given (p.walk given (p.start given))) (answer_has given (p.walk given (p.start given)))

-- the core of a program has the tables that were handed in
pub accepted_has : (given : p.Given) (x : c.Program Text) → p.core given ≡ p.accepted x → HasTables given x
accepted_has given x is = subst (Accepts given) is (core_has given)

-- what is translated has the table over which it was translated
pub joined : (a : Around) (given : p.Given) (k : Classes) (made : Program) → given.classes ≡ map (class_info a) k.classes.items → given.members ≡ map (member_info a) k.members.items
    → given.function_class ≡ k.function.0 → p.core given ≡ p.accepted (views.program a made) → IsJoined a made.classes k
joined a given k made classes members function is =
    let has = accepted_has given (views.program a made) is in
    record { classes = has.classes ∙ classes; members = has.members ∙ members; function = has.function ∙ function }

-- ---- with another table in its place

seen_classes : (texts : List Text) (xs : List Rattle.dart_ir.specs.declared.class.ClassInfo.ClassInfo) → map (named.class (pv.text_at texts)) (map pv.class xs) ≡ map (λ x. named.class (pv.text_at texts) (pv.class x)) xs
seen_classes texts xs = map-map (named.class (pv.text_at texts)) pv.class xs

pub same_texts : (a : Around) (x : CoreProgram) (k : Classes) → x.names ≡ a.texts → IsJoined a x.classes k → pv.text_program (record x { classes = k }) ≡ pv.text_program x
same_texts a x k names is = λ i. record (pv.text_program x) {
  classes = (classes_of k ∙ sym is.classes ∙ sym (classes_of x.classes)) i;
  members = (members_of k ∙ sym is.members ∙ sym (members_of x.classes)) i;
  function_class = sym is.function i;
}
  where
    classes_of : (l : Classes) → map (named.class (pv.text_at x.names)) (map pv.class l.classes.items) ≡ map (class_info a) l.classes.items
    classes_of l = map-map (named.class (pv.text_at x.names)) pv.class l.classes.items
        ∙ ap (λ (t : List Text). map (λ y. named.class (pv.text_at t) (pv.class y)) l.classes.items) names

    members_of : (l : Classes) → map (named.member (pv.text_at x.names)) (map pv.member l.members.items) ≡ map (member_info a) l.members.items
    members_of l = map-map (named.member (pv.text_at x.names)) pv.member l.members.items
        ∙ ap (λ (t : List Text). map (λ y. named.member (pv.text_at t) (pv.member y)) l.members.items) names
