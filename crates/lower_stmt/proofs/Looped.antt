-- The parts of a try, of which some are behind those found before.
use Rattle.std.proofs.Common.{◌≡◌, ◌∙◌, ℕ, suc, ◌+◌, ◌<◌, List, ◌∷◌, length, drop, get_or, sym, ap, subst, add-one, drop-cons}
use Rattle.dart_tree.specs.declared.statement.TryPart.{TryPart}
use Rattle.dart_tree.specs.Lists.{try_parts_of, block_of}
use Rattle.dart_tree.specs.View as view
use Rattle.translation.specs.Productions as low
use Rattle.translation.specs.Statements as s
use Rattle.translation.specs.Walk as w
use Rattle.lower_clause.specs.Parts.{handled_behind}
use Rattle.lower_stmt.specs.Parts.{try_part}
use Rattle.lower_stmt.proofs.Tried.{tried_on}

-- what a walk finds, behind what was found before
abbrev pub behind : {A : Type 0} → (A → A → A) → A → w.Went A → w.Went A
behind put found walk = w.on walk (λ more st. w.went (put found more) st)

rest_at : {X : Type 0} (all ys : List X) (i : ℕ) (x : X) → ys ≡ all → i < length ys → x ≡ get_or ys i x → drop i all ≡ x ∷ drop (i + 1) all
rest_at {X = X} all ys i x same below is =
    drop-cons all i x (let P : List X → Type 0 = λ l. i < length l in subst P same below)
    ∙ ap (λ (z : X). z ∷ drop (suc i) all) (sym (is ∙ ap (λ (l : List X). get_or l i x) same))
    ∙ ap (λ (n : ℕ). x ∷ drop n all) (sym (add-one i))

abbrev pub parts_behind : s.TryParts → List TryPart → w.Walk s.TryParts
parts_behind found all st = behind handled_behind found (low.try_parts (try_parts_of all) st)

pub parts_next : (all ys : List TryPart) (i : ℕ) (x : TryPart) (found : s.TryParts) (st : w.State) (whole : w.Went s.TryParts) →
    ys ≡ all → i < length ys → x ≡ get_or ys i x → parts_behind found (drop i all) st ≡ whole →
    whole ≡ w.on (try_part (view.try_kind x.kind) (block_of x.block) found st) (λ after st. parts_behind after (drop (i + 1) all) st)
parts_next all ys i x found st whole same below is done =
    sym done ∙ ap (λ (l : List TryPart). parts_behind found l st) (rest_at all ys i x same below is)
    ∙ tried_on (view.try_kind x.kind) (block_of x.block) (try_parts_of (drop (i + 1) all)) found st

pub parts_step : (all ys : List TryPart) (i : ℕ) (x : TryPart) (found after : s.TryParts) (st st2 : w.State) (whole : w.Went s.TryParts) →
    ys ≡ all → i < length ys → x ≡ get_or ys i x → parts_behind found (drop i all) st ≡ whole →
    try_part (view.try_kind x.kind) (block_of x.block) found st ≡ w.went after st2 → parts_behind after (drop (i + 1) all) st2 ≡ whole
unfolding w.on
parts_step all ys i x found after st st2 whole same below is done made =
    sym (parts_next all ys i x found st whole same below is done
    ∙ ap (λ (r : w.Went s.TryParts). w.on r (λ after st. parts_behind after (drop (i + 1) all) st)) made)
