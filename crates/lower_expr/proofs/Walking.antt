-- Walks over lists, item by item, and what stops them.
use Rattle.std.proofs.Common.{◌≡◌, ◌∙◌, ℕ, suc, ◌+◌, ◌<◌, List, [], ◌∷◌, ◌++◌, length, drop, get_or, refl, sym, ap, subst, append_assoc, add-one, drop-cons, Err}
use Rattle.translation.specs.Walk as w
use Rattle.lower_leaf.specs.declared.fault.LowerFault.{LowerFault}
use Rattle.lower_leaf.specs.declared.fault.LowerFault.TheVariants as f
use Rattle.lower_leaf.specs.Gives.{Gives}

pub rest_at : {X : Type 0} (all : List X) (i : ℕ) (x : X) → i < length all → x ≡ get_or all i x → drop i all ≡ x ∷ drop (i + 1) all
rest_at {X} all i x below is =
    drop-cons all i x below ∙ ap (λ (z : X). z ∷ drop (suc i) all) (sym is) ∙ ap (λ (n : ℕ). x ∷ drop n all) (sym (add-one i))

-- the walk from the item at an index on
pub next_item : {X B C : Type 0} (walk : List X → B → w.Walk C) (one : X → B → w.Walk B) →
    ((x : X) (xs : List X) (b : B) (st : w.State) → walk (x ∷ xs) b st ≡ w.on (one x b st) (walk xs)) →
    (all ys : List X) (i : ℕ) (x : X) (before : B) (st : w.State) (whole : w.Went C) →
    ys ≡ all → i < length ys → x ≡ get_or ys i x → walk (drop i all) before st ≡ whole →
    whole ≡ w.on (one x before st) (walk (drop (i + 1) all))
next_item {X} walk one law all ys i x before st whole same below is done =
    sym done ∙ ap (λ (l : List X). walk l before st)
    (rest_at all i x (let P : List X → Type 0 = λ l. i < length l in subst P same below) (is ∙ ap (λ (l : List X). get_or l i x) same))
    ∙ law x (drop (i + 1) all) before st

-- behind the item
pub step_item : {X B C : Type 0} (walk : List X → B → w.Walk C) (one : X → B → w.Walk B) →
    ((x : X) (xs : List X) (b : B) (st : w.State) → walk (x ∷ xs) b st ≡ w.on (one x b st) (walk xs)) →
    (all ys : List X) (i : ℕ) (x : X) (before after : B) (st st2 : w.State) (whole : w.Went C) →
    ys ≡ all → i < length ys → x ≡ get_or ys i x → walk (drop i all) before st ≡ whole →
    one x before st ≡ w.went after st2 → walk (drop (i + 1) all) after st2 ≡ whole
unfolding w.on
step_item {X} {B} {C} walk one law all ys i x before after st st2 whole same below is done made =
    sym (next_item walk one law all ys i x before st whole same below is done
    ∙ ap (λ (went : w.Went B). w.on went (walk (drop (i + 1) all))) made)

-- a reason stops all that follows
pub stopped : {X Y A B : Type 0} (view : X → A) (other : Y → B) (fault : LowerFault) (st st2 : w.State) (walk : w.Went A) (next : A → w.State → w.Went B) →
    Gives view (Err fault) st walk → Gives other (Err fault) st2 (w.on walk next)
unfolding w.on
stopped {A = A} view other (f.LeftOut place feature) st st2 walk next h = ap (λ (went : w.Went A). w.on went next) h
stopped {A = A} view other (f.NotConstant place) st st2 walk next h = ap (λ (went : w.Went A). w.on went next) h
stopped {A = A} view other (f.BadLabel place) st st2 walk next h = ap (λ (went : w.Went A). w.on went next) h
stopped {A = A} view other (f.BadConstructor place) st st2 walk next h = ap (λ (went : w.Went A). w.on went next) h
stopped {A = A} view other (f.BadSwitch place) st st2 walk next h = ap (λ (went : w.Went A). w.on went next) h
stopped {A = A} view other (f.BadWord place) st st2 walk next h = ap (λ (went : w.Went A). w.on went next) h
stopped {A = A} view other (f.TooLarge place) st st2 walk next h = ap (λ (went : w.Went A). w.on went next) h
stopped view other f.Memory st st2 walk next h = tt

pub stops : {X Y A B : Type 0} (view : X → A) (other : Y → B) (fault : LowerFault) (st st2 : w.State) (walk : w.Went A) (next : A → w.State → w.Went B) (whole : w.Went B) →
    whole ≡ w.on walk next → Gives view (Err fault) st walk → Gives other (Err fault) st2 whole
stops {B = B} view other fault st st2 walk next whole is h =
    subst (λ (went : w.Went B). Gives other (Err fault) st2 went) (sym is) (stopped view other fault st st2 walk next h)

-- one item after another
pub on_on : {A B C : Type 0} (first : w.Went A) (next : A → w.State → w.Went B) (last : B → w.State → w.Went C) →
    w.on first (λ a st. w.on (next a st) last) ≡ w.on (w.on first next) last
unfolding w.on
on_on (w.went a st) next last = refl
on_on (w.refused reason) next last = refl

-- an item of a list, behind those before it
pub behind_one : {A : Type 0} (before : List A) (item : w.Went A) (rest : w.Walk (List A)) →
    w.on (w.on item (λ one st. w.on (rest st) (λ more st. w.went (one ∷ more) st))) (λ more st. w.went (before ++ more) st)
    ≡ w.on (w.on item (λ one st. w.went (before ++ one ∷ []) st)) (λ (all : List A) st. w.on (rest st) (λ more st. w.went (all ++ more) st))
unfolding w.on
behind_one {A} before (w.went one st) rest = ended (rest st) where
  ended : (walk : w.Went (List A)) →
      w.on (w.on walk (λ more st. w.went (one ∷ more) st)) (λ more st. w.went (before ++ more) st)
      ≡ w.on walk (λ more st. w.went ((before ++ one ∷ []) ++ more) st)
  ended (w.went more st) = ap (λ (l : List A). w.went l st) (sym (append_assoc before (one ∷ []) more))
  ended (w.refused reason) = refl
behind_one before (w.refused reason) rest = refl
