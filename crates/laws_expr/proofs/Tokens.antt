-- Where a list does not begin as a reader wants it, and what that says of fronts.
use Rattle.std.proofs.Common.{◌≡◌, ℕ, Bool, true, false, if◌then◌else◌, List, [], ◌∷◌, ◌++◌, length, Ok, Err, refl, sym, ap, ◌∙◌, ltb, arith}
use Rattle.std.proofs.lemmas.Bool.{ltb-true, ltb-false}
use Rattle.std.proofs.lemmas.List.{length-append}
use Rattle.grammar_laws.specs.Readers.{Outcome, Reader, and_then, starts, mapped, both, farther, tried}
use Rattle.grammar_laws.specs.Fronts.{Front}
use Rattle.grammar_laws.specs.Laws.{Laws, Stuck}
use Rattle.grammar_laws.specs.Codes.{has, Apart}
use Rattle.grammar_laws.proofs.Codes.{not_true, clash}
use Rattle.grammar_laws.proofs.Joints.{begins}

module _ {T : Type 0} {class_of : T → ℕ} {A : Type 0} {read : Reader T A} {spelling : A → List T} {Fits : A → Type 0} {front : Front T} {first : List ℕ} {next : A → List ℕ} (P : Laws class_of read spelling Fits front first next false) where
  stuck_here : (ts rest : List T) → starts class_of first ts ≡ false → Stuck front ts rest → rest ≡ ts
  stuck_here ts rest off ([], e, f, ends) = sym e
  stuck_here ts rest off (t ∷ before, e, f, ends) = clash (has first (class_of t)) (P.firsts t before f) (ap (starts class_of first) (sym e) ∙ off)

  refuses_by : (ts : List T) (o : Outcome T A) → read ts ≡ o → starts class_of first ts ≡ false → o ≡ Err ts
  refuses_by ts (Ok (a, rest)) e off =
      let l : Fits a × (ts ≡ spelling a ++ rest) = P.sound ts a rest e in
      clash (starts class_of first (spelling a ++ rest)) (begins P a rest l.0) (ap (starts class_of first) (sym l.1) ∙ off)
  refuses_by ts (Err rest) e off = ap (λ (r : List T). Err r) (stuck_here ts rest off (P.fault ts rest e))

  -- a list that begins with none of its tokens is refused where it begins
  pub refuses : (ts : List T) → starts class_of first ts ≡ false → read ts ≡ Err ts
  refuses ts off = refuses_by ts (read ts) refl off

-- no code is in both sets
pub starts_apart : {T : Type 0} (class_of : T → ℕ) {xs ys : List ℕ} → Apart xs ys → (ts : List T) → starts class_of xs ts ≡ true → starts class_of ys ts ≡ false
starts_apart class_of off [] on = refl
starts_apart class_of {ys = ys} off (t ∷ ts) on = not_true (has ys (class_of t)) (λ h. off.never_both (class_of t) on h)

-- of two faults the one that is no earlier
module _ {T A : Type 0} where
  abbrev choose : Bool → List T → List T → Outcome T A
  choose c d e = if c then Err d else Err e

  first_kept : (ts d before : List T) (c : Bool) → ltb (length d) (length ts) ≡ c → ts ≡ before ++ d → choose c d ts ≡ Err d
  first_kept ts d before true h e = refl
  first_kept ts d [] false h e = ap (λ (r : List T). Err r) e
  first_kept ts d (t ∷ before) false h e = absurd (omega (arith, ltb-false (length d) (length ts) h, ap length e, length-append before d))

  second_kept : (ts e before : List T) (c : Bool) → ltb (length ts) (length e) ≡ c → ts ≡ before ++ e → choose c ts e ≡ Err e
  second_kept ts e before false h is = refl
  second_kept ts e before true h is = absurd (omega (arith, ltb-true (length ts) (length e) h, ap length is, length-append before e))

module _ {T : Type 0} {class_of : T → ℕ} {A : Type 0} {read : Reader T A} {spelling : A → List T} {Fits : A → Type 0} {front : Front T} {first : List ℕ} {next : A → List ℕ} {empty : Bool} (P : Laws class_of read spelling Fits front first next empty) where
  kept : (ts : List T) (o : Outcome T A) → read ts ≡ o → farther o (Err ts) ≡ o
  kept ts (Ok x) e = refl
  kept ts (Err d) e = let s = P.fault ts d e in first_kept ts d s.0 (ltb (length d) (length ts)) refl s.1

  taken : (ts : List T) (o : Outcome T A) → read ts ≡ o → farther (Err ts) o ≡ o
  taken ts (Ok x) e = refl
  taken ts (Err d) e = let s = P.fault ts d e in second_kept ts d s.0 (ltb (length ts) (length d)) refl s.1

  -- a second try that gets nowhere, and a first
  pub only_first : (q : Reader T A) (ts : List T) → q ts ≡ Err ts → tried read q ts ≡ read ts
  only_first q ts e = ap (λ (o : Outcome T A). farther (read ts) o) e ∙ kept ts (read ts) refl

  pub only_second : (q : Reader T A) (ts : List T) → q ts ≡ Err ts → tried q read ts ≡ read ts
  only_second q ts e = ap (λ (o : Outcome T A). farther o (read ts)) e ∙ taken ts (read ts) refl

-- what is made of a part may be made at once
module _ {T A B C D E : Type 0} (f : B → C) (s : Reader T A) (p : Reader T B) (q : Reader T D) (g : A → C → D → E) where
  abbrev late : A × (B × D) → E
  late x = g x.0 (f x.1.0) x.1.1

  abbrev early : A × (C × D) → E
  early x = g x.0 x.1.0 x.1.1

  abbrev ended : {X : Type 0} → (A × X → E) → A → Outcome T X → Outcome T E
  ended h a o = and_then (and_then o (λ y r. Ok ((a, y), r))) (λ x r. Ok (h x, r))

  third : (a : A) (b : B) (o : Outcome T D) → ended late a (and_then o (λ d r. Ok ((b, d), r))) ≡ ended early a (and_then o (λ d r. Ok ((f b, d), r)))
  third a b (Ok x) = refl
  third a b (Err x) = refl

  second : (a : A) (o : Outcome T B) → ended late a (and_then o (λ b m. and_then (q m) (λ d r. Ok ((b, d), r)))) ≡ ended early a (and_then (and_then o (λ b r. Ok (f b, r))) (λ c m. and_then (q m) (λ d r. Ok ((c, d), r))))
  second a (Ok x) = third a x.0 (q x.1)
  second a (Err x) = refl

  whole : (o : Outcome T A) → and_then (and_then o (λ a m. and_then (both p q m) (λ y r. Ok ((a, y), r)))) (λ x r. Ok (late x, r)) ≡ and_then (and_then o (λ a m. and_then (both (mapped f p) q m) (λ y r. Ok ((a, y), r)))) (λ x r. Ok (early x, r))
  whole (Ok x) = second x.0 (p x.1)
  whole (Err x) = refl

  pub mapped_inside : (ts : List T) → mapped (λ (x : A × (B × D)). g x.0 (f x.1.0) x.1.1) (both s (both p q)) ts ≡ mapped (λ (x : A × (C × D)). g x.0 x.1.0 x.1.1) (both s (both (mapped f p) q)) ts
  mapped_inside ts = whole (s ts)
