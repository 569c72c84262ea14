-- Rounds in which aliases are written out, or begin to wait.
use Rattle.std.proofs.Common.{◌≡◌, ◌∙◌, arith, ℕ, zero, suc, ◌+◌, ◌<◌, Bool, true, false, cond, ◌&&◌, true≢false, List, [], ◌∷◌, length, map, get_or, drop, Option, Some, None, is_some, refl, sym, ap}
use Rattle.std.specs.Option.{option_or}
use Rattle.dart_ir.specs.declared.types.TypeRef.{TypeRef}
use Rattle.translation.specs.Surroundings.{Ty}
use Rattle.lower_leaf.specs.Around.{Around, option_type}
use Rattle.lower_annotation.specs.Instance.{has_bottom}
use Rattle.lower_annotation.specs.Numbered as d
use Rattle.lower_annotation.specs.Written as w
use Rattle.lower_annotation.specs.Written.{with_each, next_entry, round, rounds}
use Rattle.lower_annotation.specs.Seen.{alike, entry, entries, is_same}
use Rattle.lower_annotation.specs.declared.entry.Entry.{Entry}
use Rattle.lower_annotation.proofs.Items.{rest_at}

-- one alias more of a round
pub each-more : {X Y : Type 0} (next : d.Alias → w.Entry → w.Entry) (see : X → d.Alias) (show : Y → w.Entry) (xs : List X) (ys : List Y) (i : ℕ) (x : X) (y : Y)
    → i < length xs → i < length ys → x ≡ get_or xs i x → y ≡ get_or ys i y
    → with_each next (map see (drop i xs)) (map show (drop i ys)) ≡ next (see x) (show y) ∷ with_each next (map see (drop (i + 1) xs)) (map show (drop (i + 1) ys))
each-more next see show xs ys i x y below beside is at =
    λ j. with_each next (map see (rest_at xs xs i x refl below is j)) (map show (rest_at ys ys i y refl beside at j))

first-true : (b rest : Bool) → (b && rest) ≡ true → b ≡ true
first-true true rest e = refl
first-true false rest e = e

second-true : (b rest : Bool) → (b && rest) ≡ true → rest ≡ true
second-true true rest e = e
second-true false rest e = absurd (true≢false (sym e))

abbrev first-of : {X : Type 0} → X → List X → X
first-of x [] = x
first-of x (y ∷ ys) = y

abbrev behind : {X : Type 0} → List X → List X
behind [] = []
behind (x ∷ xs) = xs

module _ (a : Around) where
  written-kept : (read : Option Ty) (before after : Option TypeRef) → option_type a after ≡ option_or (option_type a before) read
      → is_same (is_some before) (is_some after) ≡ true → option_or (option_type a before) read ≡ option_type a before
  written-kept read (Some t) after is same = refl
  written-kept read None None is same = sym is
  written-kept read None (Some t) is same = absurd (true≢false (sym same))

  waiting-kept : (waits : Bool) (before after : Option TypeRef) → option_type a after ≡ cond waits None (option_type a before)
      → is_same (is_some before) (is_some after) ≡ true → cond waits None (option_type a before) ≡ option_type a before
  waiting-kept false before after is same = refl
  waiting-kept true None after is same = refl
  waiting-kept true (Some t) None is same = absurd (true≢false (sym same))
  waiting-kept true (Some t) (Some u) is same = absurd (true≢false (ap is_some is))

  module _ (place : ℕ → Option ℕ) where
    kept : (writes : Bool) (given : List w.Entry) (x : d.Alias) (before after : Entry) → entry a after ≡ next_entry writes a place given x (entry a before)
        → is_same (is_some before.of) (is_some after.of) ≡ true → next_entry writes a place given x (entry a before) ≡ entry a before
    kept true given x before after is same = λ j. record {
      parameters = before.parameters;
      of = written-kept (w.settled (w.alias_read a (w.waiting_type place given) x)) before.of after.of (ap (λ (e : w.Entry). e.of) is) same j;
    }
    kept false given x before after is same = λ j. record {
      parameters = before.parameters;
      of = waiting-kept (has_bottom (w.alias_read a (w.waiting_type place given) x)) before.of after.of (ap (λ (e : w.Entry). e.of) is) same j;
    }

    -- a round behind which the same are written out changes nothing
    pub alike-same : (writes : Bool) (given : List w.Entry) (xs : List d.Alias) (es fs : List Entry) → length es ≡ length xs
        → entries a fs ≡ with_each (next_entry writes a place given) xs (entries a es) → alike es fs ≡ true → entries a fs ≡ entries a es
    alike-same writes given [] [] fs long is same = is
    alike-same writes given [] (e ∷ es) fs long is same = absurd (omega (arith, long))
    alike-same writes given (x ∷ xs) [] fs long is same = absurd (omega (arith, long))
    alike-same writes given (x ∷ xs) (e ∷ es) [] long is same = absurd (omega (arith, ap length is))
    alike-same writes given (x ∷ xs) (e ∷ es) (f ∷ fs) long is same =
        let one : entry a f ≡ next_entry writes a place given x (entry a e) = ap (first-of (entry a f)) is in
        let head : entry a f ≡ entry a e = one ∙ kept writes given x e f one (first-true (is_same (is_some e.of) (is_some f.of)) (alike es fs) same) in
        let rest : entries a fs ≡ entries a es =
        alike-same writes given xs es fs (omega (arith, long)) (ap behind is) (second-true (is_same (is_some e.of) (is_some f.of)) (alike es fs) same) in
        λ j. head j ∷ rest j

    -- nor do those behind it
    pub rounds-kept : (writes : Bool) (xs : List d.Alias) (k : ℕ) (es : List w.Entry) → round writes a place xs es ≡ es → rounds writes a place xs k es ≡ es
    rounds-kept writes xs zero es same = refl
    rounds-kept writes xs (suc k) es same = ap (rounds writes a place xs k) same ∙ rounds-kept writes xs k es same
