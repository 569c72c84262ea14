-- What is counted with one declaration more.
use Rattle.std.proofs.Common.{◌≡◌, ◌∙◌, ℕ, ◌+◌, ◌<◌, Bool, true, false, cond, List, length, drop, get_or, ap}
use Rattle.std.proofs.lemmas.List.{drop_more}
use Rattle.scope_declared.specs.declared.declaration.Declared.{Declared}
use Rattle.scope_class.proofs.Nothing.{nothing}
use Rattle.lower_added.specs.Written.{inner_count, is_field, is_inner}

module _ (xs : List Declared) (i : ℕ) (in_field : Bool) (below : i < length xs) where
  abbrev one : Declared
  one = get_or xs i nothing

  at : inner_count in_field (drop i xs) ≡ cond (is_inner one.kind) (cond in_field 1 0 + inner_count in_field (drop (i + 1) xs)) (inner_count (is_field one.kind) (drop (i + 1) xs))
  at = ap (inner_count in_field) (drop_more xs i nothing below)

  -- a function
  pub inner-function : is_inner one.kind ≡ true → inner_count in_field (drop i xs) ≡ cond in_field 1 0 + inner_count in_field (drop (i + 1) xs)
  inner-function is = at ∙ ap (λ b. cond b (cond in_field 1 0 + inner_count in_field (drop (i + 1) xs)) (inner_count (is_field one.kind) (drop (i + 1) xs))) is

  -- a member, or what is no function of an initial value
  pub inner-other : is_inner one.kind ≡ false → inner_count in_field (drop i xs) ≡ inner_count (is_field one.kind) (drop (i + 1) xs)
  inner-other is = at ∙ ap (λ b. cond b (cond in_field 1 0 + inner_count in_field (drop (i + 1) xs)) (inner_count (is_field one.kind) (drop (i + 1) xs))) is
