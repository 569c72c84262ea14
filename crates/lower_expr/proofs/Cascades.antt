-- Selectors and the sections of a cascade, one after another.
use Rattle.std.proofs.Common.{◌≡◌, ◌∙◌, List, [], ◌∷◌, ◌++◌, Err, refl, sym, ap, subst}
use Rattle.core_program.specs.declared.form.Core.{Core as Form}
use Rattle.dart_base.specs.declared.place.Place.{Place}
use Rattle.dart_tree.specs.declared.expression.Cascade.{Cascade}
use Rattle.dart_tree.specs.declared.expression.Selector.{Selector}
use Rattle.dart_tree.specs.Lists.{cascades_of, selectors_of}
use Rattle.dart_tree.specs.View as view
use Rattle.translation.specs.Surroundings.{Core}
use Rattle.translation.specs.Productions as low
use Rattle.translation.specs.References as r
use Rattle.translation.specs.Walk as w
use Rattle.lower_leaf.specs.declared.fault.LowerFault.{LowerFault}
use Rattle.lower_leaf.specs.Around.{Around}
use Rattle.lower_leaf.specs.Forms.{core, cores}
use Rattle.lower_leaf.specs.Gives.{Gives}
use Rattle.lower_reference.specs.declared.reference.Reference.{Reference}
use Rattle.lower_reference.specs.Referred.{reference}
use Rattle.lower_operand.specs.Made.{all_forms}
use Rattle.lower_expr.proofs.Pushing.{pushed_as}
use Rattle.lower_expr.proofs.Rest.{behind_forms}
use Rattle.lower_expr.proofs.Walking.{on_on, behind_one, stopped, stops}

abbrev pub one_selector : Place → Selector → r.Reference → w.Walk r.Reference
one_selector place x target st = low.selected place (view.selector x) target st

abbrev pub all_selectors : Place → List Selector → r.Reference → w.Walk r.Reference
all_selectors place xs target st = low.selectors place (selectors_of xs) target st

pub selectors_law : (place : Place) (x : Selector) (xs : List Selector) (target : r.Reference) (st : w.State) →
    all_selectors place (x ∷ xs) target st ≡ w.on (one_selector place x target st) (all_selectors place xs)
selectors_law place x xs target st = refl

-- a section behind those before it
abbrev pub target_of : Core → Cascade → w.Walk r.Reference
target_of x one st = low.selectors one.dots (selectors_of one.selectors.items) (r.evaluated x) st

abbrev pub section_of : Cascade → r.Reference → w.Walk Core
section_of one target st = low.section one.dots (view.value one.value) target st

abbrev pub one_section : Core → Cascade → List Core → w.Walk (List Core)
one_section x one forms st = w.on (w.on (target_of x one st) (section_of one)) (λ form st. w.went (forms ++ form ∷ []) st)

abbrev pub all_sections : Core → List Cascade → List Core → w.Walk (List Core)
all_sections x xs forms st = behind_forms forms (low.sections x (cascades_of xs) st)

pub sections_law : (x : Core) (one : Cascade) (xs : List Cascade) (forms : List Core) (st : w.State) →
    all_sections x (one ∷ xs) forms st ≡ w.on (one_section x one forms st) (all_sections x xs)
sections_law x one xs forms st =
    ap (behind_forms forms) (on_on (target_of x one st) (section_of one)
    (λ form st. w.on (low.sections x (cascades_of xs) st) (λ more st. w.went (form ∷ more) st)))
    ∙ behind_one forms (w.on (target_of x one st) (section_of one)) (low.sections x (cascades_of xs))

-- a section that is put behind those before it
pub section_made : (a : Around) (x : Core) (base : Form) (one : Cascade) (before after : List Form) (target : Reference) (form : Form) (st st2 st3 : w.State) →
    core a base ≡ x → target_of (core a base) one st ≡ w.went (reference a target) st2 → section_of one (reference a target) st2 ≡ w.went (core a form) st3 →
    after ≡ before ++ form ∷ [] → one_section x one (cores a before) st ≡ w.went (cores a after) st3
unfolding w.on
section_made a x base one before after target form st st2 st3 based selected made is =
    pushed_as a (w.on (target_of x one st) (section_of one)) form st3 before after
    (ap (λ (y : Core). w.on (target_of y one st) (section_of one)) (sym based)
    ∙ ap (λ (walk : w.Went r.Reference). w.on walk (section_of one)) selected ∙ made) is

-- a section that a reason stops
pub target_stops : (a : Around) (x : Core) (base : Form) (one : Cascade) (before : List Core) (fault : LowerFault) (st st2 st3 : w.State)
    (next : List Core → w.State → w.Went (List Core)) (whole : w.Went (List Core)) →
    whole ≡ w.on (one_section x one before st) next → core a base ≡ x → Gives (reference a) (Err fault) st2 (target_of (core a base) one st) →
    Gives (all_forms a) (Err fault) st3 whole
target_stops a x base one before fault st st2 st3 next whole is based h =
    stops (all_forms a) (all_forms a) fault st2 st3 (one_section x one before st) next whole is
    (stopped (core a) (all_forms a) fault st2 st2 (w.on (target_of x one st) (section_of one)) (λ form st. w.went (before ++ form ∷ []) st)
    (stopped (reference a) (core a) fault st2 st2 (target_of x one st) (section_of one)
    (subst (λ (y : Core). Gives (reference a) (Err fault) st2 (target_of y one st)) based h)))

pub section_stops : (a : Around) (x : Core) (base : Form) (one : Cascade) (before : List Core) (target : Reference) (fault : LowerFault) (st st2 st3 st4 : w.State)
    (next : List Core → w.State → w.Went (List Core)) (whole : w.Went (List Core)) →
    whole ≡ w.on (one_section x one before st) next → core a base ≡ x → target_of (core a base) one st ≡ w.went (reference a target) st2 →
    Gives (core a) (Err fault) st3 (section_of one (reference a target) st2) → Gives (all_forms a) (Err fault) st4 whole
unfolding w.on
section_stops a x base one before target fault st st2 st3 st4 next whole is based selected h =
    stops (all_forms a) (all_forms a) fault st3 st4 (one_section x one before st) next whole is
    (stopped (core a) (all_forms a) fault st3 st3 (w.on (target_of x one st) (section_of one)) (λ form st. w.went (before ++ form ∷ []) st)
    (subst (λ (walk : w.Went Core). Gives (core a) (Err fault) st3 walk)
    (sym (ap (λ (y : Core). w.on (target_of y one st) (section_of one)) (sym based) ∙ ap (λ (walk : w.Went r.Reference). w.on walk (section_of one)) selected)) h))
