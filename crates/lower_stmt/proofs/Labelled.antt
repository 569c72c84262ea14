-- Statements behind labels.
use Rattle.std.proofs.Common.{◌≡◌, ◌∙◌, ℕ, List, [], ◌∷◌, Bool, true, false, nat_eq, length, refl, sym, ap, arith}
use Rattle.dart_tree.specs.declared.identifier.Label.{Label}
use Rattle.dart_tree.specs.Tree as t
use Rattle.translation.specs.Productions as low
use Rattle.translation.specs.Statements as s
use Rattle.translation.specs.Surroundings.{Text, Core}
use Rattle.translation.specs.Walk as w
use Rattle.lower_clause.specs.Jumps.{labels_before, left_targets, with_target}

pub labels_on : (labels : List Label) (x : t.Stmt) (around : List Text) (st : w.State) →
    low.stmt (t.with_labels labels x) around st ≡ low.stmt x (labels_before labels around) st
labels_on [] x around st = refl
labels_on (label ∷ labels) x around st = labels_on labels x (s.label_text label ∷ around) st

pub labelling_none : (labels : List Text) (walk : w.Walk (List Core)) (st : w.State) → length labels ≡ 0 → s.labelling labels walk st ≡ walk st
labelling_none [] walk st none = refl
labelling_none (label ∷ labels) walk st none = absurd (omega arith)

-- the count of labels is n, and b whether there are none
pub labelling_some : (labels : List Text) (walk : w.Walk (List Core)) (st : w.State) (n : ℕ) (b : Bool) → n ≡ length labels → b ≡ nat_eq n 0 → b ≡ false →
    s.labelling labels walk st
    ≡ w.on (w.targeted (record { labels = labels; kind = w.another }) walk st) (λ forms after. w.went (s.labelled_forms (length st.targets) forms) after)
labelling_some [] walk st n b count none some = let is : nat_eq n 0 ≡ true = ap (λ (m : ℕ). nat_eq m 0) count in cc
labelling_some (label ∷ labels) walk st n b count none some = refl

abbrev left_behind : w.State → w.Went (List Core) → w.Went (List Core)
left_behind st made = w.on made (λ forms after. w.went forms (left_targets (length st.targets) after))

abbrev behind_number : w.State → w.Went (List Core) → w.Went (List Core)
behind_number st made = w.on made (λ forms after. w.went (s.labelled_forms (length st.targets) forms) after)

-- from where the statement begins
pub labelling_from : (labels : List Text) (walk : w.Walk (List Core)) (st inside : w.State) (n : ℕ) (b : Bool) → n ≡ length labels → b ≡ nat_eq n 0 → b ≡ false →
    inside ≡ with_target (record { labels = labels; kind = w.another }) st →
    s.labelling labels walk st ≡ behind_number st (left_behind st (walk inside))
labelling_from labels walk st inside n b count none some begins =
    labelling_some labels walk st n b count none some ∙ ap (λ (z : w.State). behind_number st (left_behind st (walk z))) (sym begins)

-- to where it ends
pub labelling_made : (labels : List Text) (walk : w.Walk (List Core)) (st inside after end : w.State) (n number depth : ℕ) (b : Bool) (forms made : List Core) →
    n ≡ length labels → b ≡ nat_eq n 0 → b ≡ false → number ≡ length st.targets → depth ≡ length st.targets →
    inside ≡ with_target (record { labels = labels; kind = w.another }) st → walk inside ≡ w.went forms after → end ≡ left_targets depth after →
    made ≡ s.labelled_forms number forms → s.labelling labels walk st ≡ w.went made end
unfolding w.on
labelling_made labels walk st inside after end n number depth b forms made count none some same_number same_depth begins is ends is_made =
    labelling_from labels walk st inside n b count none some begins
    ∙ ap (λ (q : w.Went (List Core)). behind_number st (left_behind st q)) is
    ∙ ap (λ (m : ℕ). w.went (s.labelled_forms m forms) (left_targets (length st.targets) after)) (sym same_number)
    ∙ ap (λ (m : ℕ). w.went (s.labelled_forms number forms) (left_targets m after)) (sym same_depth)
    ∙ ap (λ (z : List Core). w.went z (left_targets depth after)) (sym is_made)
    ∙ ap (λ (z : w.State). w.went made z) (sym ends)

pub ruleset labelled = (labels_on, labelling_none)
