-- Where a number stands, with one place more.
use Rattle.std.proofs.Common.{◌≡◌, ◌∙◌, ℕ, ◌+◌, ◌<◌, Bool, true, false, cond, List, length, drop, get_or, Option, Some, None, refl, sym, ap}
use Rattle.std.specs.Option.{option_or}
use Rattle.std.specs.List.{position_from}
use Rattle.std.proofs.lemmas.List.{drop_more}
use Rattle.lower_table.specs.Rows.{is_number}

pub placed-more : (among : List (Option ℕ)) (i place n : ℕ) → i < length among → (old new : Option ℕ)
    → new ≡ option_or old (cond (is_number n (get_or among i None)) (Some place) None)
    → option_or old (position_from (is_number n) place (drop i among)) ≡ option_or new (position_from (is_number n) (place + 1) (drop (i + 1) among))
placed-more among i place n below old new put =
    ap (λ (l : List (Option ℕ)). option_or old (position_from (is_number n) place l)) (drop_more among i None below)
    ∙ by old (is_number n (get_or among i None)) ∙ sym (ap (λ o. option_or o rest) put)
  where
    rest : Option ℕ
    rest = position_from (is_number n) (place + 1) (drop (i + 1) among)

    by : (o : Option ℕ) (b : Bool) → option_or o (cond b (Some place) rest) ≡ option_or (option_or o (cond b (Some place) None)) rest
    by (Some k) b = refl
    by None true = refl
    by None false = refl
