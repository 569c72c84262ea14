-- A reader with what is begun behind it, and a second behind it where it may follow and one of its first tokens comes.
use Rattle.std.proofs.Common.{◌≡◌, ℕ, Bool, true, false, ◌&&◌, inl, inr, List, [], ◌∷◌, ◌++◌, Option, None, Some, Ok, Err, refl, sym, ap, ◌∙◌, append_assoc}
use Rattle.std.proofs.lemmas.List.{append-nil}
use Rattle.dart_token.specs.declared.token.Token.{Token}
use Rattle.grammar_laws.specs.Codes.{Apart, Within, given, is_empty, after_followed}
use Rattle.grammar_laws.specs.Readers.{Outcome, Reader, and_then, both_by, starts, when, followed}
use Rattle.grammar_laws.specs.Fronts.{Joint, both_spelling, joined_spelling, BothFitBy, FollowedFit}
use Rattle.grammar_laws.specs.Laws.{Laws, Stops}
use Rattle.grammar_laws.proofs.Codes.{and_both, and_true, and_false, apart_none, apart_union, cases_bool, has_left, has_right, has_given, within_self, within_then, within_union, within_given, within_left, within_right}
use Rattle.grammar_laws.proofs.Cuts.{gave}
use Rattle.grammar_laws.proofs.Steps.{followed_stops, followed_gives}
use Rattle.grammar_laws.proofs.Joints.{stops_within}
use Rattle.grammar_laws.proofs.Restated.{refront, reread, mapped_laws}
use Rattle.grammar_laws.proofs.Followed.{followed_laws}
use Rattle.dart_syntax.specs.Phrases.{Phrase}
use Rattle.token_codes.specs.Codes.{class_of, on_code}
use Rattle.laws_block.specs.Begun.{begun, Begins, part_begins, on_codes, every_code, after_begun, ReadsBegun}
use Rattle.laws_block.proofs.Begun.{Gives, gives, begins_none, begins_on, part_off}
use Rattle.laws_block.proofs.Single.{one_begins}
use Rattle.laws_block.proofs.Combined.{stops_apart}

-- the level of a first alone, or of the second behind it
abbrev pub level_by : {A B : Type 0} → (A → Option ℕ) → (B → Option ℕ) → A × Option B → Option ℕ
level_by f g (a, None) = f a
level_by f g (a, Some b) = g b

abbrev pub still_by : {A B : Type 0} → (A → List ℕ) → (A → Bool) → List ℕ → (B → List ℕ) → A × Option B → List ℕ
still_by f may codes g (a, None) = f a ++ given (may a) codes
still_by f may codes g (a, Some b) = g b

abbrev pub followed_phrase : {A B : Type 0} → (A → Bool) → Phrase A → Phrase B → Phrase (A × Option B)
followed_phrase may p q = record { spelling = joined_spelling p.spelling q.spelling; Fits = FollowedFit p.Fits may q.Fits; front = Joint p.spelling p.Fits may p.front q.front }

within_given_by : (b : Bool) (codes : List ℕ) → b ≡ true → Within codes (given b codes)
within_given_by true codes e = within_self codes
within_given_by false codes e = absurd cc

both_tests : (m d : Bool) → ((m && true) && d) ≡ (m && d)
both_tests true d = refl
both_tests false d = refl

neither_test : (m d : Bool) → ((m && false) && d) ≡ false
neither_test true d = refl
neither_test false d = refl

never_true : (m : Bool) → (m && false) ≡ true → ⊥
never_true true e = absurd cc
never_true false e = absurd cc

module _ {A B : Type 0} {head : Reader Token A} {p : Phrase A} {first : List ℕ} {level : A → Option ℕ} {still : A → List ℕ} (H : ReadsBegun head p first level still)
    {second : Reader Token B} {q : Phrase B} {codes : List ℕ} {level' : B → Option ℕ} {still' : B → List ℕ} (E : ReadsBegun second q codes level' still')
    (may : A → Bool) (off : (a : A) → p.Fits a → may a ≡ true → Apart (still a) codes) (on_off : Apart (on_code ∷ []) codes) where
  abbrev level_of : A × Option B → Option ℕ
  level_of = level_by level level'

  abbrev still_of : A × Option B → List ℕ
  still_of = still_by still may codes still'

  abbrev Whole : Phrase (A × Option B)
  Whole = followed_phrase may p q

  abbrev HeadFits : A × List Token → Type 0
  HeadFits = BothFitBy p.Fits (λ a. Begins (level a))

  abbrev SecondFits : B × List Token → Type 0
  SecondFits = BothFitBy q.Fits (λ b. Begins (level' b))

  abbrev may_none : A × List Token → Bool
  may_none x = may x.0 && is_empty x.1

  abbrev of : A → List Token → A × List Token
  of a m = (a, m)

  abbrev second_of : B → List Token → B × List Token
  second_of b m = (b, m)

  abbrev heads : Reader Token (A × List Token)
  heads = both_by head (λ a. begun (level a))

  abbrev seconds : Reader Token (B × List Token)
  seconds = both_by second (λ b. begun (level' b))

  on_apart : (o : Option ℕ) → Apart (on_codes o) codes
  on_apart None = apart_none codes
  on_apart (Some n) = on_off

  head_apart : (a : A) (m : List Token) → p.Fits a → may_none (of a m) ≡ true → Apart (after_begun (level a) (still a) m) codes
  head_apart a [] fits go = apart_union (off a fits (and_both (may a) true go).0) (on_apart (level a))
  head_apart a (t ∷ m) fits go = absurd (never_true (may a) go)

  parts_laws : Laws class_of (followed class_of may_none codes heads seconds) (joined_spelling (both_spelling p.spelling (λ m. m)) (both_spelling q.spelling (λ m. m))) (FollowedFit HeadFits may_none SecondFits)
      (Joint (both_spelling p.spelling (λ m. m)) HeadFits may_none p.front q.front) first
      (after_followed (λ x. after_begun (level x.0) (still x.0) x.1) may_none codes (λ x. after_begun (level' x.0) (still' x.0) x.1)) false
  parts_laws = followed_laws H.laws E.laws may_none (λ x fits go. head_apart x.0 x.1 fits.0 go)

  -- ---- what is begun behind both

  abbrev shape : (A × List Token) × Option (B × List Token) → (A × Option B) × List Token
  shape ((a, m), None) = ((a, None), m)
  shape ((a, m), Some (b, k)) = ((a, Some b), k)

  abbrev spell : (A × Option B) × List Token → List Token
  spell = both_spelling Whole.spelling (λ m. m)

  abbrev Fits : (A × Option B) × List Token → Type 0
  Fits = BothFitBy Whole.Fits (λ x. Begins (level_of x))

  abbrev after : (A × Option B) × List Token → List ℕ
  after x = after_begun (level_of x.0) (still_of x.0) x.1

  none_within : (a : A) (m : List Token) → Within (after_begun (level a) (still a) m ++ given (may_none (of a m)) codes) (after_begun (level a) (still a ++ given (may a) codes) m)
  none_within a [] =
      let on : List ℕ = on_codes (level a) in
      let g : List ℕ = given (may a) codes in
      within_union
      (within_union (within_then (within_left (still a) g) (within_left (still a ++ g) on)) (within_right (still a ++ g) on))
      (within_given (may a && true) (λ e. within_then (within_given_by (may a) codes (and_both (may a) true e).0) (within_then (within_right (still a) g) (within_left (still a ++ g) on))))
  none_within a (t ∷ m) = within_union (within_self every_code) (within_given (may a && false) (λ e. absurd (never_true (may a) e)))

  forth : (x : (A × List Token) × Option (B × List Token)) → FollowedFit HeadFits may_none SecondFits x → Fits (shape x) × (spell (shape x) ≡ joined_spelling (both_spelling p.spelling (λ m. m)) (both_spelling q.spelling (λ m. m)) x) ×
      Within (after_followed (λ x. after_begun (level x.0) (still x.0) x.1) may_none codes (λ x. after_begun (level' x.0) (still' x.0) x.1) x) (after (shape x))
  forth ((a, m), None) fits = (
    ((fits.0.0, tt), fits.0.1),
    ap (λ (l : List Token). l ++ m) (append-nil (p.spelling a)) ∙ sym (append-nil (p.spelling a ++ m)),
    none_within a m,
  )
  forth ((a, []), Some (b, k)) fits = (
    ((fits.0.0, ((and_both (may a) true fits.1.0).0, fits.1.1.0)), fits.1.1.1),
    append_assoc (p.spelling a) (q.spelling b) k ∙ ap (λ (l : List Token). l ++ (q.spelling b ++ k)) (sym (append-nil (p.spelling a))),
    within_self _,
  )
  forth ((a, (t ∷ m)), Some (b, k)) fits = absurd (never_true (may a) fits.1.0)

  abbrev head_alone : A → List Token → (A × List Token) × Option (B × List Token)
  head_alone a m = ((a, m), None)

  abbrev both_of : A → B → List Token → (A × List Token) × Option (B × List Token)
  both_of a b k = ((a, []), Some (b, k))

  back : (y : (A × Option B) × List Token) → Fits y → (x : (A × List Token) × Option (B × List Token)) × FollowedFit HeadFits may_none SecondFits x × (shape x ≡ y)
  back ((a, None), m) fits = (head_alone a m, ((fits.0.0, fits.1), tt), refl)
  back ((a, Some b), k) fits = (both_of a b k, ((fits.0.0, begins_none (level a)), (and_true (may a) true fits.0.1.0 refl, (fits.0.1.1, fits.1))), refl)

  out : (ts : List Token) → Joint (both_spelling p.spelling (λ m. m)) HeadFits may_none p.front q.front ts → Whole.front ts
  out ts (inl f) = inl f
  out ts (inr ((a, []), more, fits, on, e, f)) = inr (a, more, fits.0, (and_both (may a) true on).0, e ∙ ap (λ (m : List Token). m ++ more) (append-nil (p.spelling a)), f)
  out ts (inr ((a, (t ∷ m)), more, fits, on, e, f)) = absurd (never_true (may a) on)

  into : (ts : List Token) → Whole.front ts → Joint (both_spelling p.spelling (λ m. m)) HeadFits may_none p.front q.front ts
  into ts (inl f) = inl f
  into ts (inr (a, more, fits, on, e, f)) = inr (of a [], more, (fits, begins_none (level a)), and_true (may a) true on refl, e ∙ ap (λ (m : List Token). m ++ more) (sym (append-nil (p.spelling a))), f)

  -- ---- the readers are one

  abbrev tail : (A × Option B) → Reader Token ((A × Option B) × List Token)
  tail x r = and_then (begun (level_of x) r) (λ m k. Ok ((x, m), k))

  abbrev late : A → Bool → Reader Token ((A × Option B) × List Token)
  late a c mid = and_then (and_then (when c second mid) (λ b r. Ok ((a, b), r))) tail

  abbrev early_by : A × List Token → Bool → Reader Token ((A × Option B) × List Token)
  early_by x c mid = and_then (and_then (when c seconds mid) (λ b r. Ok ((x, b), r))) (λ y r. Ok (shape y, r))

  abbrev early : A → Outcome Token (List Token) → Outcome Token ((A × Option B) × List Token)
  early a o = and_then (and_then (and_then o (λ m r. Ok ((a, m), r))) (λ x ts. and_then (when (may_none x && starts class_of codes ts) seconds ts) (λ b r. Ok ((x, b), r)))) (λ y r. Ok (shape y, r))

  with_third : (a : A) (b : B) (o : Outcome Token (List Token)) → and_then o (λ m k. Ok (((a, Some b), m), k)) ≡ and_then (and_then (and_then (and_then o (λ m r. Ok ((b, m), r))) (λ z r. Ok (Some z, r))) (λ z r. Ok ((of a [], z), r))) (λ y r. Ok (shape y, r))
  with_third a b (Ok x) = refl
  with_third a b (Err x) = refl

  with_second : (a : A) (o : Outcome Token B) → and_then (and_then (and_then o (λ b r. Ok (Some b, r))) (λ b r. Ok ((a, b), r))) tail ≡
      and_then (and_then (and_then (and_then o (λ b mid. and_then (begun (level' b) mid) (λ m r. Ok ((b, m), r)))) (λ z r. Ok (Some z, r))) (λ z r. Ok ((of a [], z), r))) (λ y r. Ok (shape y, r))
  with_second a (Ok x) = with_third a x.0 (begun (level' x.0) x.1)
  with_second a (Err x) = refl

  by_test : (a : A) (mid : List Token) (c : Bool) → begun (level a) mid ≡ Ok ([], mid) → late a c mid ≡ early_by (of a []) c mid
  by_test a mid true e = with_second a (second mid)
  by_test a mid false e = ap (λ (o : Outcome Token (List Token)). and_then o (λ m k. Ok (((a, None), m), k))) e

  one_turn : (a : A) (mid m rest : List Token) → begun (level a) mid ≡ Ok (m, rest) → mid ≡ m ++ rest → Begins (level a) m → late a (may a && starts class_of codes mid) mid ≡ early a (begun (level a) mid)
  one_turn a mid [] rest e is b =
      let here : begun (level a) mid ≡ Ok ([], mid) = e ∙ ap (λ (l : List Token). gave [] l) (sym is) in
      by_test a mid (may a && starts class_of codes mid) here ∙ ap (λ (c : Bool). early_by (of a []) c mid) (sym (both_tests (may a) (starts class_of codes mid))) ∙ ap (early a) (sym here)
  one_turn a mid (t ∷ m) rest e is b =
      let off : starts class_of codes mid ≡ false = stops_apart codes (on_code ∷ []) (record { never_both = λ n h k. on_off.never_both n k h }) mid (ap (starts class_of (on_code ∷ [])) is ∙ begins_on (level a) t m b) in
      ap (λ (c : Bool). late a c mid) (and_false (may a) (starts class_of codes mid) off) ∙ ap (λ (o : Outcome Token (List Token)). and_then o (λ m k. Ok (((a, None), m), k))) e
      ∙ ap (λ (c : Bool). early_by (of a (t ∷ m)) c rest) (sym (neither_test (may a) (starts class_of codes rest))) ∙ ap (early a) (sym e)

  same_reader : (o : Outcome Token A) → and_then (and_then o (λ a ts. and_then (when (may a && starts class_of codes ts) second ts) (λ b r. Ok ((a, b), r)))) tail ≡
      and_then (and_then (and_then o (λ a mid. and_then (begun (level a) mid) (λ m r. Ok ((a, m), r)))) (λ x ts. and_then (when (may_none x && starts class_of codes ts) seconds ts) (λ b r. Ok ((x, b), r)))) (λ y r. Ok (shape y, r))
  same_reader (Ok x) = go (gives (level x.0) x.1) where
    go : Gives (level x.0) x.1 → late x.0 (may x.0 && starts class_of codes x.1) x.1 ≡ early x.0 (begun (level x.0) x.1)
    go g = one_turn x.0 x.1 g.tokens g.rest g.read g.cuts g.fits
  same_reader (Err x) = refl

  -- ---- the tokens of a tree

  complete : (a : A) (o : Option B) (rest : List Token) → Whole.Fits (a, o) → Stops class_of (still_of (a, o)) rest → part_begins (level_of (a, o)) rest ≡ false → followed class_of may codes head second (Whole.spelling (a, o) ++ rest) ≡ Ok ((a, o), rest)
  complete a None rest fits stop none =
      let e = H.complete a rest fits.0 (stops_within class_of (still a) (still a ++ given (may a) codes) (λ k h. has_left (still a) _ k h) rest stop) none in
      ap (λ (m : List Token). followed class_of may codes head second (m ++ rest)) (append-nil (p.spelling a)) ∙ elim (cases_bool (may a)) [
        | inl on ↦ followed_stops class_of may codes head second (p.spelling a ++ rest) rest a e (inr (stops_within class_of codes (still a ++ given (may a) codes) (λ k h. has_right (still a) _ k (has_given (may a) codes k on h)) rest stop))
        | inr never ↦ followed_stops class_of may codes head second (p.spelling a ++ rest) rest a e (inl never)
      ]
  complete a (Some b) rest fits stop none =
      let begins : starts class_of codes (q.spelling b ++ rest) ≡ true = one_begins E b rest fits.1.1 in
      let e = H.complete a (q.spelling b ++ rest) fits.0 (stops_apart (still a) codes (off a fits.0 fits.1.0) (q.spelling b ++ rest) begins) (part_off (level a) (q.spelling b ++ rest) (stops_apart (on_code ∷ []) codes on_off (q.spelling b ++ rest) begins)) in
      ap (followed class_of may codes head second) (append_assoc (p.spelling a) (q.spelling b) rest)
      ∙ followed_gives class_of may codes head second (p.spelling a ++ (q.spelling b ++ rest)) (q.spelling b ++ rest) rest a b e fits.1.0 begins (E.complete b rest fits.1.1 stop none)

  pub followed_begun : ReadsBegun (followed class_of may codes head second) (followed_phrase may p q) first (level_by level level') (still_by still may codes still')
  followed_begun = record {
    laws = reread (refront (mapped_laws parts_laws shape spell after forth back) out into) (λ ts. same_reader (head ts));
    complete = λ x rest fits stop none. complete x.0 x.1 rest fits stop none;
  }
