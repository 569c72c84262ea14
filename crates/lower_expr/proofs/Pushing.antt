-- Forms that are put behind those before them.
use Rattle.std.proofs.Common.{◌≡◌, ◌∙◌, List, [], ◌∷◌, ◌++◌, sym, ap}
use Rattle.std.proofs.lemmas.List.{map-append}
use Rattle.core_program.specs.declared.form.Core.{Core as Form}
use Rattle.dart_base.specs.declared.place.Place.{Place}
use Rattle.dart_tree.specs.declared.expression.Entry.{Entry}
use Rattle.dart_tree.specs.declared.expression.StringPiece.{StringPiece}
use Rattle.dart_tree.specs.View as view
use Rattle.translation.specs.Expressions as e
use Rattle.translation.specs.Firsts.{first_of_expr}
use Rattle.translation.specs.Productions as low
use Rattle.translation.specs.Surroundings.{Text, Core}
use Rattle.translation.specs.Walk as w
use Rattle.lower_leaf.specs.Around.{Around}
use Rattle.lower_leaf.specs.Forms.{core, cores}
use Rattle.lower_operand.specs.declared.literal.Joined.{Joined}
use Rattle.lower_operand.specs.Made.{joined}
use Rattle.lower_expr.specs.Made.{piece_joined}
use Rattle.lower_expr.proofs.Rowing.{kept_as, entry_next, piece_next, joined_of, joined_behind}

pushed : (a : Around) (before after : List Form) (x : Form) → after ≡ before ++ x ∷ [] → cores a before ++ core a x ∷ [] ≡ cores a after
pushed a before after x is = sym (map-append (core a) before (x ∷ [])) ∙ ap (cores a) (sym is)

pub pushed_as : (a : Around) (walk : w.Went Core) (x : Form) (st : w.State) (before after : List Form) → walk ≡ w.went (core a x) st → after ≡ before ++ x ∷ [] →
    w.on walk (λ form st. w.went (cores a before ++ form ∷ []) st) ≡ w.went (cores a after) st
pushed_as a walk x st before after made is =
    kept_as (λ (form : Core). cores a before ++ form ∷ []) walk (core a x) st made ∙ ap (λ (l : List Core). w.went l st) (pushed a before after x is)

pub appended_as : (a : Around) (walk : w.Went (List Core)) (last : List Form) (st : w.State) (before after : List Form) →
    walk ≡ w.went (cores a last) st → after ≡ before ++ last → w.on walk (λ more st. w.went (cores a before ++ more) st) ≡ w.went (cores a after) st
appended_as a walk last st before after made is =
    kept_as (λ (more : List Core). cores a before ++ more) walk (cores a last) st made
    ∙ ap (λ (l : List Core). w.went l st) (sym (map-append (core a) before last) ∙ ap (cores a) (sym is))

pub entry_made : (a : Around) (of_keys of_values : w.Asked) (place : Place) (map : Core) (x : Entry) (before after : List Form) (key value form base : Form) (st st2 st3 : w.State) →
    e.element of_keys (first_of_expr (view.expr x.key)) (low.expr (view.expr x.key)) st ≡ w.went (core a key) st2 →
    e.element of_values (first_of_expr (view.expr x.value)) (low.expr (view.expr x.value)) st2 ≡ w.went (core a value) st3 →
    core a base ≡ map → core a form ≡ e.put place (core a base) (core a key) (core a value) → after ≡ before ++ form ∷ [] →
    entry_next of_keys of_values place map x (cores a before) st ≡ w.went (cores a after) st3
unfolding w.on
entry_made a of_keys of_values place map x before after key value form base st st2 st3 keyed valued based made is =
    ap (λ (walk : w.Went Core). w.on walk (λ one st. w.on (e.element of_values (first_of_expr (view.expr x.value)) (low.expr (view.expr x.value)) st)
    (λ other st. w.went (cores a before ++ e.put place map one other ∷ []) st))) keyed
    ∙ kept_as (λ (other : Core). cores a before ++ e.put place map (core a key) other ∷ [])
    (e.element of_values (first_of_expr (view.expr x.value)) (low.expr (view.expr x.value)) st2) (core a value) st3 valued
    ∙ ap (λ (l : List Core). w.went l st3) (ap (λ (m : Core). cores a before ++ e.put place m (core a key) (core a value) ∷ []) (sym based)
    ∙ ap (λ (f : Core). cores a before ++ f ∷ []) (sym made) ∙ pushed a before after form is)

pub piece_made : (a : Around) (place : Place) (x : StringPiece) (before after : List Form) (pending : Text) (more : Joined) (st st2 : w.State) →
    piece_joined place x.kind x.place x.text (view.value x.value) pending st ≡ w.went (joined a more) st2 → after ≡ before ++ more.forms.items →
    piece_next place x (joined_of (cores a before) pending) st ≡ w.went (joined_of (cores a after) more.pending) st2
piece_made a place x before after pending more st st2 made is =
    kept_as (joined_behind (cores a before)) (piece_joined place x.kind x.place x.text (view.value x.value) pending st) (joined a more) st2 made
    ∙ ap (λ (l : List Core). w.went (joined_of l more.pending) st2) (sym (map-append (core a) before more.forms.items) ∙ ap (cores a) (sym is))
