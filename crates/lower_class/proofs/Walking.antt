-- Walks over lists, item by item.
use Rattle.std.proofs.Common.{◌≡◌, ◌∙◌, ℕ, ◌+◌, ◌<◌, ◌≤◌, List, [], ◌∷◌, ◌++◌, length, drop, get_or, refl, sym, ap, append_assoc, append-nil}
use Rattle.translation.specs.Classes as cl
use Rattle.translation.specs.Surroundings.{Core}
use Rattle.translation.specs.Walk as w
use Rattle.lower_class.proofs.Items.{rest_at, none_at}

-- ---- what is joined

abbrev pub Associative : {A : Type 0} → (A → A → A) → Type 0
Associative {A} join = (x y z : A) → join (join x y) z ≡ join x (join y z)

abbrev pub lists : List Core → List Core → List Core
lists x y = x ++ y

pub lists_join : Associative lists
lists_join x y z = append_assoc x y z

pub nothing_behind : (x : List Core) → lists x [] ≡ x
nothing_behind x = append-nil x

abbrev with_lists : List Core → List cl.Draft → cl.Parts
with_lists values drafts = record { values = values; drafts = drafts }

pub parts_join : Associative cl.with_parts
parts_join x y z = ap (λ (v : List Core). with_lists v ((x.drafts ++ y.drafts) ++ z.drafts)) (append_assoc x.values y.values z.values)
    ∙ ap (λ (v : List cl.Draft). with_lists (x.values ++ (y.values ++ z.values)) v) (append_assoc x.drafts y.drafts z.drafts)

pub no_parts_behind : (x : cl.Parts) → cl.with_parts x cl.no_parts ≡ x
no_parts_behind x = ap (λ (v : List Core). with_lists v (x.drafts ++ [])) (append-nil x.values)
    ∙ ap (λ (v : List cl.Draft). with_lists x.values v) (append-nil x.drafts)

-- ---- items

-- what a walk gives, behind what is there
abbrev pub behind : {A : Type 0} → (A → A → A) → A → w.Went A → w.Went A
behind join before walked = w.on walked (λ more st. w.went (join before more) st)

-- one item of the list, and then the others
abbrev pub then : {A : Type 0} → (A → A → A) → w.Went A → w.Walk A → w.Went A
then join item rest = w.on item (λ one st. w.on (rest st) (λ more st. w.went (join one more) st))

behind_next : {A : Type 0} (join : A → A → A) → Associative join → (before one : A) (rest : w.Went A) →
    behind join before (w.on rest (λ more st. w.went (join one more) st)) ≡ behind join (join before one) rest
unfolding w.on
behind_next {A} join assoc before one (w.went more st) = ap (λ (l : A). w.went l st) (sym (assoc before one more))
behind_next join assoc before one (w.refused reason) = refl

-- the item behind what is there, and then the others
pub behind_then : {A : Type 0} (join : A → A → A) → Associative join → (before : A) (item : w.Went A) (rest : w.Walk A) →
    behind join before (then join item rest) ≡ w.on item (λ one st. behind join (join before one) (rest st))
unfolding w.on
behind_then join assoc before (w.went one st) rest = behind_next join assoc before one (rest st)
behind_then join assoc before (w.refused reason) rest = refl

-- the walk from the item at an index on; an item knows those behind it
pub next_item : {X A : Type 0} (join : A → A → A) → Associative join → (walk : List X → w.Walk A) (one : X → List X → w.Walk A) →
    ((x : X) (xs : List X) (st : w.State) → walk (x ∷ xs) st ≡ then join (one x xs st) (walk xs)) →
    (all ys : List X) (i : ℕ) (x : X) (before : A) (st : w.State) (whole : w.Went A) →
    ys ≡ all → i < length ys → x ≡ get_or ys i x → behind join before (walk (drop i all) st) ≡ whole →
    whole ≡ w.on (one x (drop (i + 1) all) st) (λ forms st. behind join (join before forms) (walk (drop (i + 1) all) st))
next_item {X} {A} join assoc walk one law all ys i x before st whole same below is done =
    sym done ∙ ap (λ (l : List X). behind join before (walk l st)) (rest_at all ys i x same below is)
    ∙ ap (λ (walked : w.Went A). behind join before walked) (law x (drop (i + 1) all) st)
    ∙ behind_then join assoc before (one x (drop (i + 1) all) st) (walk (drop (i + 1) all))

-- behind the item
pub step_item : {X A : Type 0} (join : A → A → A) → Associative join → (walk : List X → w.Walk A) (one : X → List X → w.Walk A) →
    ((x : X) (xs : List X) (st : w.State) → walk (x ∷ xs) st ≡ then join (one x xs st) (walk xs)) →
    (all ys : List X) (i : ℕ) (x : X) (before forms after : A) (st st2 : w.State) (whole : w.Went A) →
    ys ≡ all → i < length ys → x ≡ get_or ys i x → behind join before (walk (drop i all) st) ≡ whole →
    one x (drop (i + 1) all) st ≡ w.went forms st2 → after ≡ join before forms → behind join after (walk (drop (i + 1) all) st2) ≡ whole
unfolding w.on
step_item {X} {A} join assoc walk one law all ys i x before forms after st st2 whole same below is done made joined =
    ap (λ (l : A). behind join l (walk (drop (i + 1) all) st2)) joined
    ∙ sym (next_item join assoc walk one law all ys i x before st whole same below is done
    ∙ ap (λ (walked : w.Went A). w.on walked (λ forms st. behind join (join before forms) (walk (drop (i + 1) all) st))) made)

-- behind the last
pub end_items : {X A : Type 0} (join : A → A → A) (none : A) → ((x : A) → join x none ≡ x) → (walk : List X → w.Walk A) →
    ((st : w.State) → walk [] st ≡ w.went none st) →
    (all ys : List X) (i : ℕ) (before : A) (st : w.State) (whole : w.Went A) → ys ≡ all → length ys ≤ i →
    behind join before (walk (drop i all) st) ≡ whole → whole ≡ w.went before st
unfolding w.on
end_items {X} {A} join none unit walk law all ys i before st whole same past done =
    sym done ∙ ap (λ (l : List X). behind join before (walk l st)) (none_at all ys i same past) ∙ ap (λ (walked : w.Went A). behind join before walked) (law st)
    ∙ ap (λ (l : A). w.went l st) (unit before)

-- where nothing is there yet
pub begun : {A : Type 0} (join : A → A → A) (none : A) → ((x : A) → join none x ≡ x) → (walked : w.Went A) → behind join none walked ≡ walked
unfolding w.on
begun {A} join none unit (w.went more st) = ap (λ (l : A). w.went l st) (unit more)
begun join none unit (w.refused reason) = refl
