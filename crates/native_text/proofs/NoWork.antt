-- Natives of strings that make no string.
use Rattle.std.proofs.Common.{◌≡◌, ℕ, ◌+◌, List, length, drop, Option, Some, None, refl, sym}
use Rattle.std.specs.Prelude.{ℤ, pos, slice_index}
use Rattle.dart_ir.specs.declared.kind.ThrowKind.TheVariants.{ArgumentError}
use Rattle.native_base.specs.Plan.{Plan, answers, number, needs, place, work}
use Rattle.native_number.specs.Number.{whole}
use Rattle.native_text.specs.Text.{parsed, integer, code_unit, index_of, order, first_place, place_or_minus_one}
use Rattle.dart_ir.specs.declared.kind.ThrowKind.{ThrowKind}

-- what follows makes nothing, so the whole doesn't
none : {A : Type 0} (kind : ThrowKind) (o : Option A) (go : A → Plan) → ((x : A) → work (go x) ≡ 0) → work (needs kind o go) ≡ 0
none kind (Some x) go h = h x
none kind None go h = refl

pub parsed_work : (s : List ℕ) → 0 ≡ work (parsed s)
parsed_work s = sym (none _ (integer s) (λ z. answers (whole z)) (λ z. refl))

pub unit_work : (s : List ℕ) (o : Option ℤ) → 0 ≡ work (needs ArgumentError o (code_unit s))
unit_work s o = sym (none _ o (code_unit s) (λ i. none _ (place (length s) i) (λ k. number (pos (slice_index s k))) (λ k. refl)))

pub order_work : (s : List ℕ) (o : Option (List ℕ)) → 0 ≡ work (needs ArgumentError o (λ t. number (order s t)))
order_work s o = sym (none _ o (λ t. number (order s t)) (λ t. refl))

pub place_work : (s : List ℕ) (o : Option (List ℕ)) (u : Option ℤ) → 0 ≡ work (needs ArgumentError o (λ p. needs ArgumentError u (index_of s p)))
place_work s o u =
    sym (none _ o (λ p. needs ArgumentError u (index_of s p))
    (λ p. none _ u (index_of s p)
    (λ i. none _ (place (length s + 1) i) (λ k. number (place_or_minus_one k (first_place p (drop k s)))) (λ k. refl))))

pub ruleset no_work = (parsed_work, unit_work, order_work, place_work)
