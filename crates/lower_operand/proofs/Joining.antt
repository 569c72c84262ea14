-- The parts of a piece of a string, while they are walked over.
use Rattle.std.proofs.Common.{◌≡◌, ◌∙◌, ℕ, suc, ◌+◌, ◌<◌, List, [], ◌∷◌, ◌++◌, length, map, drop, get_or, refl, sym, ap, subst, append_assoc, add-one, drop-cons}
use Rattle.dart_base.specs.declared.place.Place.{Place}
use Rattle.translation.specs.Surroundings.{Text, Core}
use Rattle.translation.specs.Expressions as e
use Rattle.translation.specs.Strings.{Part, units, shown}
use Rattle.translation.specs.Walk as w
use Rattle.lower_string.specs.declared.part.StringPart.{StringPart}
use Rattle.lower_string.specs.Parts.{part}
use Rattle.lower_operand.specs.Made.{part_joined}

-- forms before those of a walk
abbrev pub behind_joined : List Core → w.Went e.Joined → w.Went e.Joined
behind_joined forms walk = w.on walk (λ more st. w.went (record more { forms = forms ++ more.forms }) st)

-- the other parts, behind what is joined
abbrev pub others_joined : Place → Place → List Part → e.Joined → w.Walk e.Joined
others_joined place at parts before st = behind_joined before.forms (e.join_parts place at parts before.pending st)

joined_all : (f before : List Core) (x : Core) (rest : List Core) → f ++ (before ++ x ∷ rest) ≡ (f ++ (before ++ x ∷ [])) ++ rest
joined_all f before x rest = sym (append_assoc f (before ++ x ∷ []) rest ∙ ap (λ (l : List Core). f ++ l) (append_assoc before (x ∷ []) rest))

behind_form : (f before : List Core) (x : Core) (walk : w.Went e.Joined) →
    behind_joined f (w.on walk (λ j st. w.went (e.joined_more before x j) st)) ≡ behind_joined (f ++ (before ++ x ∷ [])) walk
unfolding w.on
behind_form f before x (w.went j st) = ap (λ (l : List Core). w.went (record j { forms = l }) st) (joined_all f before x j.forms)
behind_form f before x (w.refused reason) = refl

abbrev pub without_text : List Core → e.Joined
without_text forms = record { forms = forms; pending = [] }

behind_pending : (f : List Core) (show : Core → Core) (walk : w.Went (List Core)) (name : w.State → w.Went Core) (rest : Text → w.State → w.Went e.Joined) →
    behind_joined f (w.on walk (λ before st. w.on (name st) (λ form st. w.on (rest [] st) (λ j st. w.went (e.joined_more before (show form) j) st))))
    ≡ w.on (w.on (w.on walk (λ before st. w.on (name st) (λ form st. w.went (before ++ show form ∷ []) st))) (λ (more : List Core) st. w.went (without_text (f ++ more)) st))
    (λ j st. behind_joined j.forms (rest j.pending st))
unfolding w.on
behind_pending f show (w.went before st) name rest = ended (name st) where
  ended : (two : w.Went Core) →
      behind_joined f (w.on two (λ form st. w.on (rest [] st) (λ j st. w.went (e.joined_more before (show form) j) st)))
      ≡ w.on (w.on (w.on two (λ form st. w.went (before ++ show form ∷ []) st)) (λ (more : List Core) st. w.went (without_text (f ++ more)) st))
      (λ j st. behind_joined j.forms (rest j.pending st))
  ended (w.went form st) = behind_form f before (show form) (rest [] st)
  ended (w.refused reason) = refl
behind_pending f show (w.refused reason) name rest = refl

-- the next part
pub next_part : (place at : Place) (one : Part) (parts : List Part) (before : e.Joined) (st : w.State) →
    others_joined place at (one ∷ parts) before st ≡ w.on (part_joined place at one before st) (λ j st. others_joined place at parts j st)
unfolding w.on
next_part place at (units text) parts before st = refl
next_part place at (shown text) parts before st =
    behind_pending before.forms (e.to_string place) (e.pending_literal place before.pending st) (λ st. e.shown_form at text st) (λ pending st. e.join_parts place at parts pending st)

rest_at : (all : List StringPart) (i : ℕ) (x : StringPart) → i < length all → x ≡ get_or all i x → drop i all ≡ x ∷ drop (i + 1) all
rest_at all i x below is =
    drop-cons all i x below ∙ ap (λ (z : StringPart). z ∷ drop (suc i) all) (sym is) ∙ ap (λ (n : ℕ). x ∷ drop n all) (sym (add-one i))

-- the walk from the part at an index on
pub part_next : (place at : Place) (all ys : List StringPart) (i : ℕ) (x : StringPart) (before : e.Joined) (st : w.State) (whole : w.Went e.Joined) →
    ys ≡ all → i < length ys → x ≡ get_or ys i x → others_joined place at (map part (drop i all)) before st ≡ whole →
    whole ≡ w.on (part_joined place at (part x) before st) (λ j st. others_joined place at (map part (drop (i + 1) all)) j st)
part_next place at all ys i x before st whole same below is done =
    sym done ∙ ap (λ (l : List StringPart). others_joined place at (map part l) before st)
    (rest_at all i x (let P : List StringPart → Type 0 = λ l. i < length l in subst P same below) (is ∙ ap (λ (l : List StringPart). get_or l i x) same))
    ∙ next_part place at (part x) (map part (drop (i + 1) all)) before st

pub part_step : (place at : Place) (all ys : List StringPart) (i : ℕ) (x : StringPart) (before after : e.Joined) (st st2 : w.State) (whole : w.Went e.Joined) →
    ys ≡ all → i < length ys → x ≡ get_or ys i x → others_joined place at (map part (drop i all)) before st ≡ whole →
    part_joined place at (part x) before st ≡ w.went after st2 → others_joined place at (map part (drop (i + 1) all)) after st2 ≡ whole
unfolding w.on
part_step place at all ys i x before after st st2 whole same below is done made =
    sym (part_next place at all ys i x before st whole same below is done
    ∙ ap (λ (walk : w.Went e.Joined). w.on walk (λ j st. others_joined place at (map part (drop (i + 1) all)) j st)) made)
