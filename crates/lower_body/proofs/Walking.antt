-- Walks over lists, item by item.
use Rattle.std.proofs.Common.{◌≡◌, ◌∙◌, ℕ, suc, ◌+◌, ◌<◌, ◌≤◌, List, [], ◌∷◌, ◌++◌, length, drop, get_or, refl, sym, ap, subst, append_assoc, append-nil, add-one, drop-cons}
use Rattle.std.proofs.lemmas.List.{drop_all}
use Rattle.translation.specs.Walk as w

pub rest_at : {X : Type 0} (all ys : List X) (i : ℕ) (x : X) → ys ≡ all → i < length ys → x ≡ get_or ys i x → drop i all ≡ x ∷ drop (i + 1) all
rest_at {X} all ys i x same below is =
    drop-cons all i x (let P : List X → Type 0 = λ l. i < length l in subst P same below)
    ∙ ap (λ (z : X). z ∷ drop (suc i) all) (sym (is ∙ ap (λ (l : List X). get_or l i x) same)) ∙ ap (λ (n : ℕ). x ∷ drop n all) (sym (add-one i))

pub none_at : {X : Type 0} (all ys : List X) (i : ℕ) → ys ≡ all → length ys ≤ i → drop i all ≡ []
none_at {X} all ys i same past = drop_all i all (let P : List X → Type 0 = λ l. length l ≤ i in subst P same past)

-- the walk from the item at an index on
pub next_item : {X B C : Type 0} (walk : List X → B → w.Walk C) (one : X → B → w.Walk B) →
    ((x : X) (xs : List X) (b : B) (st : w.State) → walk (x ∷ xs) b st ≡ w.on (one x b st) (walk xs)) →
    (all ys : List X) (i : ℕ) (x : X) (before : B) (st : w.State) (whole : w.Went C) →
    ys ≡ all → i < length ys → x ≡ get_or ys i x → walk (drop i all) before st ≡ whole →
    whole ≡ w.on (one x before st) (walk (drop (i + 1) all))
next_item {X} walk one law all ys i x before st whole same below is done =
    sym done ∙ ap (λ (l : List X). walk l before st) (rest_at all ys i x same below is) ∙ law x (drop (i + 1) all) before st

-- behind the item
pub step_item : {X B C : Type 0} (walk : List X → B → w.Walk C) (one : X → B → w.Walk B) →
    ((x : X) (xs : List X) (b : B) (st : w.State) → walk (x ∷ xs) b st ≡ w.on (one x b st) (walk xs)) →
    (all ys : List X) (i : ℕ) (x : X) (before after : B) (st st2 : w.State) (whole : w.Went C) →
    ys ≡ all → i < length ys → x ≡ get_or ys i x → walk (drop i all) before st ≡ whole →
    one x before st ≡ w.went after st2 → walk (drop (i + 1) all) after st2 ≡ whole
unfolding w.on
step_item {X} {B} {C} walk one law all ys i x before after st st2 whole same below is done made =
    sym (next_item walk one law all ys i x before st whole same below is done
    ∙ ap (λ (went : w.Went B). w.on went (walk (drop (i + 1) all))) made)

-- behind the last
pub end_items : {X B C : Type 0} (walk : List X → B → w.Walk C) (all ys : List X) (i : ℕ) (before : B) (st : w.State) (whole : w.Went C) →
    ys ≡ all → length ys ≤ i → walk (drop i all) before st ≡ whole → whole ≡ walk [] before st
end_items {X} walk all ys i before st whole same past done =
    sym done ∙ ap (λ (l : List X). walk l before st) (none_at all ys i same past)

-- one item after another
pub on_on : {A B C : Type 0} (first : w.Went A) (next : A → w.State → w.Went B) (last : B → w.State → w.Went C) →
    w.on first (λ a st. w.on (next a st) last) ≡ w.on (w.on first next) last
unfolding w.on
on_on (w.went a st) next last = refl
on_on (w.refused reason) next last = refl

-- ---- lists that grow

-- what a walk gives, behind what is there
abbrev pub behind : {D : Type 0} → List D → w.Went (List D) → w.Went (List D)
behind before walked = w.on walked (λ more st. w.went (before ++ more) st)

-- where nothing is there yet
pub behind_none : {D : Type 0} (walked : w.Went (List D)) → behind [] walked ≡ walked
unfolding w.on
behind_none (w.went more st) = refl
behind_none (w.refused reason) = refl

behind_more : {D : Type 0} (before some : List D) (rest : w.Went (List D)) →
    behind before (w.on rest (λ more st. w.went (some ++ more) st)) ≡ behind (before ++ some) rest
unfolding w.on
behind_more {D} before some (w.went more st) = ap (λ (l : List D). w.went l st) (sym (append_assoc before some more))
behind_more before some (w.refused reason) = refl

behind_some : {D : Type 0} (before : List D) (item : w.Went (List D)) (rest : w.Walk (List D)) →
    behind before (w.on item (λ some st. w.on (rest st) (λ more st. w.went (some ++ more) st))) ≡ w.on item (λ some st. behind (before ++ some) (rest st))
unfolding w.on
behind_some before (w.went some st) rest = behind_more before some (rest st)
behind_some before (w.refused reason) rest = refl

behind_one : {D : Type 0} (before : List D) (item : w.Went D) (rest : w.Walk (List D)) →
    behind before (w.on item (λ one st. w.on (rest st) (λ more st. w.went (one ∷ more) st))) ≡ w.on item (λ one st. behind (before ++ one ∷ []) (rest st))
unfolding w.on
behind_one before (w.went one st) rest = behind_more before (one ∷ []) (rest st)
behind_one before (w.refused reason) rest = refl

-- the items from one at an index on, which may give several things
pub next_some : {X D : Type 0} (walk : List X → w.Walk (List D)) (item : X → w.Walk (List D)) →
    ((x : X) (xs : List X) (st : w.State) → walk (x ∷ xs) st ≡ w.on (item x st) (λ some st. w.on (walk xs st) (λ more st. w.went (some ++ more) st))) →
    (all ys : List X) (i : ℕ) (x : X) (before : List D) (st : w.State) (whole : w.Went (List D)) →
    ys ≡ all → i < length ys → x ≡ get_or ys i x → behind before (walk (drop i all) st) ≡ whole →
    whole ≡ w.on (item x st) (λ some st. behind (before ++ some) (walk (drop (i + 1) all) st))
next_some {X} {D} walk item law all ys i x before st whole same below is done =
    sym done ∙ ap (λ (l : List X). behind before (walk l st)) (rest_at all ys i x same below is)
    ∙ ap (λ (walked : w.Went (List D)). behind before walked) (law x (drop (i + 1) all) st)
    ∙ behind_some before (item x st) (walk (drop (i + 1) all))

pub step_some : {X D : Type 0} (walk : List X → w.Walk (List D)) (item : X → w.Walk (List D)) →
    ((x : X) (xs : List X) (st : w.State) → walk (x ∷ xs) st ≡ w.on (item x st) (λ some st. w.on (walk xs st) (λ more st. w.went (some ++ more) st))) →
    (all ys : List X) (i : ℕ) (x : X) (before some after : List D) (st st2 : w.State) (whole : w.Went (List D)) →
    ys ≡ all → i < length ys → x ≡ get_or ys i x → behind before (walk (drop i all) st) ≡ whole →
    item x st ≡ w.went some st2 → after ≡ before ++ some → behind after (walk (drop (i + 1) all) st2) ≡ whole
unfolding w.on
step_some {X} {D} walk item law all ys i x before some after st st2 whole same below is done made joined =
    ap (λ (l : List D). behind l (walk (drop (i + 1) all) st2)) joined
    ∙ sym (next_some walk item law all ys i x before st whole same below is done
    ∙ ap (λ (walked : w.Went (List D)). w.on walked (λ some st. behind (before ++ some) (walk (drop (i + 1) all) st))) made)

-- the items from one at an index on, each of which gives one thing
pub next_one : {X D : Type 0} (walk : List X → w.Walk (List D)) (item : X → w.Walk D) →
    ((x : X) (xs : List X) (st : w.State) → walk (x ∷ xs) st ≡ w.on (item x st) (λ one st. w.on (walk xs st) (λ more st. w.went (one ∷ more) st))) →
    (all ys : List X) (i : ℕ) (x : X) (before : List D) (st : w.State) (whole : w.Went (List D)) →
    ys ≡ all → i < length ys → x ≡ get_or ys i x → behind before (walk (drop i all) st) ≡ whole →
    whole ≡ w.on (item x st) (λ one st. behind (before ++ one ∷ []) (walk (drop (i + 1) all) st))
next_one {X} {D} walk item law all ys i x before st whole same below is done =
    sym done ∙ ap (λ (l : List X). behind before (walk l st)) (rest_at all ys i x same below is)
    ∙ ap (λ (walked : w.Went (List D)). behind before walked) (law x (drop (i + 1) all) st)
    ∙ behind_one before (item x st) (walk (drop (i + 1) all))

pub step_one : {X D : Type 0} (walk : List X → w.Walk (List D)) (item : X → w.Walk D) →
    ((x : X) (xs : List X) (st : w.State) → walk (x ∷ xs) st ≡ w.on (item x st) (λ one st. w.on (walk xs st) (λ more st. w.went (one ∷ more) st))) →
    (all ys : List X) (i : ℕ) (x : X) (before after : List D) (one : D) (st st2 : w.State) (whole : w.Went (List D)) →
    ys ≡ all → i < length ys → x ≡ get_or ys i x → behind before (walk (drop i all) st) ≡ whole →
    item x st ≡ w.went one st2 → after ≡ before ++ one ∷ [] → behind after (walk (drop (i + 1) all) st2) ≡ whole
unfolding w.on
step_one {X} {D} walk item law all ys i x before after one st st2 whole same below is done made joined =
    ap (λ (l : List D). behind l (walk (drop (i + 1) all) st2)) joined
    ∙ sym (next_one walk item law all ys i x before st whole same below is done
    ∙ ap (λ (walked : w.Went D). w.on walked (λ one st. behind (before ++ one ∷ []) (walk (drop (i + 1) all) st))) made)

-- behind the last
pub end_list : {X D : Type 0} (walk : List X → w.Walk (List D)) → ((st : w.State) → walk [] st ≡ w.went [] st) →
    (all ys : List X) (i : ℕ) (before : List D) (st : w.State) (whole : w.Went (List D)) → ys ≡ all → length ys ≤ i →
    behind before (walk (drop i all) st) ≡ whole → whole ≡ w.went before st
unfolding w.on
end_list {X} {D} walk law all ys i before st whole same past done =
    sym done ∙ ap (λ (l : List X). behind before (walk l st)) (none_at all ys i same past)
    ∙ ap (λ (walked : w.Went (List D)). behind before walked) (law st) ∙ ap (λ (l : List D). w.went l st) (append-nil before)
