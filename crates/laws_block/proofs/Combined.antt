-- Readers with what is begun behind them, made of others: a first part before one, another shape of its tree, a choice.
use Rattle.std.proofs.Common.{◌≡◌, ℕ, Bool, true, false, if◌then◌else◌, inl, inr, List, [], ◌∷◌, ◌++◌, Option, None, Ok, Err, refl, sym, ap, subst, ◌∙◌, append_assoc}
use Rattle.std.proofs.lemmas.List.{append-nil}
use Rattle.dart_token.specs.declared.token.Token.{Token}
use Rattle.grammar_laws.specs.Codes.{has, Apart, Within}
use Rattle.grammar_laws.specs.Readers.{Outcome, Reader, and_then, both_by, both, mapped, starts, by_first}
use Rattle.grammar_laws.specs.Fronts.{Front, both_spelling, BothFitBy, EitherFit, Made}
use Rattle.grammar_laws.specs.Laws.{Laws, Stops}
use Rattle.grammar_laws.proofs.Codes.{not_true, within_none, within_self, within_then, within_union, within_left, within_right}
use Rattle.grammar_laws.proofs.Cuts.{gave}
use Rattle.grammar_laws.proofs.Steps.{both_gives}
use Rattle.grammar_laws.proofs.Joints.{stops_within}
use Rattle.grammar_laws.proofs.Restated.{restated, reread, refit, mapped_laws}
use Rattle.grammar_laws.proofs.Combined.{both_laws, both_any_laws}
use Rattle.grammar_laws.proofs.Chosen.{by_first_laws}
use Rattle.dart_syntax.specs.Phrases.{Phrase, ◌~◌, ◌<|>◌, made}
use Rattle.token_codes.specs.Codes.{class_of}
use Rattle.token_codes.specs.Reads.{Reads}
use Rattle.laws_block.specs.Begun.{begun, Begins, part_begins, on_codes, every_code, after_begun, ReadsBegun}
use Rattle.laws_block.proofs.Single.{one_sound, one_begins}

pub stops_apart : (xs ys : List ℕ) → Apart xs ys → (ts : List Token) → starts class_of ys ts ≡ true → Stops class_of xs ts
stops_apart xs ys off [] on = refl
stops_apart xs ys off (t ∷ ts) on = not_true (has xs (class_of t)) (λ h. off.never_both (class_of t) h on)

-- a larger set behind a tree
pub wider_begun : (o o' : Option ℕ) (c c' : List ℕ) (m : List Token) → o' ≡ o → Within c c' → Within (after_begun o c m) (after_begun o' c' m)
wider_begun o o' c c' m e w = subst (λ (k : Option ℕ). Within (after_begun o c m) (after_begun k c' m)) (sym e) (at m) where
  at : (m : List Token) → Within (after_begun o c m) (after_begun o c' m)
  at [] = within_union (within_then w (within_left c' (on_codes o))) (within_right c' (on_codes o))
  at (t ∷ m) = within_self every_code

-- ---- a part before it

module _ {A B : Type 0} (q : Reader Token A) (read : Reader Token B) (level : B → Option ℕ) where
  abbrev pub assoc : A × (B × List Token) → (A × B) × List Token
  assoc y = ((y.0, y.1.0), y.1.1)

  abbrev tail : (A × B) → Reader Token ((A × B) × List Token)
  tail x mid = and_then (begun (level x.1) mid) (λ m r. Ok ((x, m), r))

  third : (a : A) (b : B) (o : Outcome Token (List Token)) → and_then o (λ m r. Ok (((a, b), m), r)) ≡ and_then (and_then (and_then o (λ m r. Ok ((b, m), r))) (λ y r. Ok ((a, y), r))) (λ y r. Ok (assoc y, r))
  third a b (Ok x) = refl
  third a b (Err x) = refl

  second : (a : A) (o : Outcome Token B) → and_then (and_then o (λ b r. Ok ((a, b), r))) tail ≡ and_then (and_then (and_then o (λ b mid. and_then (begun (level b) mid) (λ m r. Ok ((b, m), r)))) (λ y r. Ok ((a, y), r))) (λ y r. Ok (assoc y, r))
  second a (Ok x) = third a x.0 (begun (level x.0) x.1)
  second a (Err x) = refl

  then_all : (o : Outcome Token A) → and_then (and_then o (λ a mid. and_then (read mid) (λ b r. Ok ((a, b), r)))) tail ≡ and_then (and_then o (λ a mid. and_then (both_by read (λ b. begun (level b)) mid) (λ y r. Ok ((a, y), r)))) (λ y r. Ok (assoc y, r))
  then_all (Ok x) = second x.0 (read x.1)
  then_all (Err x) = refl

  -- what is begun behind both is begun behind the second
  pub then_same : (ts : List Token) → both_by (both q read) (λ x. begun (level x.1)) ts ≡ mapped assoc (both q (both_by read (λ b. begun (level b)))) ts
  then_same ts = then_all (q ts)

module _ {A B : Type 0} {q : Reader Token A} {r : Phrase A} {first : List ℕ} {next : A → List ℕ} (P : Reads q r first next false)
    {read : Reader Token B} {p : Phrase B} {codes : List ℕ} {level : B → Option ℕ} {still : B → List ℕ} (S : ReadsBegun read p codes level still)
    (off : (a : A) → r.Fits a → Apart (next a) codes) where
  abbrev group : A × (B × List Token) → (A × B) × List Token
  group = assoc q read level

  abbrev spell : (A × B) × List Token → List Token
  spell = both_spelling (r ~ p).spelling (λ m. m)

  abbrev Fits : (A × B) × List Token → Type 0
  Fits = BothFitBy (r ~ p).Fits (λ x. Begins (level x.1))

  abbrev after : (A × B) × List Token → List ℕ
  after x = after_begun (level x.0.1) (still x.0.1) x.1

  forth : (y : A × (B × List Token)) → (r.Fits y.0 × (p.Fits y.1.0 × Begins (level y.1.0) y.1.1)) → Fits (group y) × (spell (group y) ≡ r.spelling y.0 ++ (p.spelling y.1.0 ++ y.1.1)) × Within (after_begun (level y.1.0) (still y.1.0) y.1.1) (after (group y))
  forth y fits = (((fits.0, fits.1.0), fits.1.1), append_assoc (r.spelling y.0) (p.spelling y.1.0) y.1.1, within_self _)

  back : (x : (A × B) × List Token) → Fits x → (y : A × (B × List Token)) × (r.Fits y.0 × (p.Fits y.1.0 × Begins (level y.1.0) y.1.1)) × (group y ≡ x)
  back x fits = ((x.0.0, (x.0.1, x.1)), (fits.0.0, (fits.0.1, fits.1)), refl)

  pub then_begun : ReadsBegun (both q read) (r ~ p) first (λ x. level x.1) (λ x. still x.1)
  then_begun = record {
    laws = reread (mapped_laws (both_laws P S.laws off) group spell after forth back) (λ ts. then_same q read level ts);
    complete = λ x rest fits stop none.
        let e = S.complete x.1 rest fits.1 stop none in
        let l = P.complete x.0 (p.spelling x.1 ++ rest) fits.0 (stops_apart (next x.0) codes (off x.0 fits.0) (p.spelling x.1 ++ rest) (one_begins S x.1 rest fits.1)) in
        ap (both q read) (append_assoc (r.spelling x.0) (p.spelling x.1) rest) ∙ both_gives q (λ a. read) (r.spelling x.0 ++ (p.spelling x.1 ++ rest)) (p.spelling x.1 ++ rest) rest x.0 x.1 l e;
  }

-- the same where the first part may be empty
module _ {A B : Type 0} {q : Reader Token A} {r : Phrase A} {first : List ℕ} {next : A → List ℕ} (P : Reads q r first next true)
    {read : Reader Token B} {p : Phrase B} {codes : List ℕ} {level : B → Option ℕ} {still : B → List ℕ} (S : ReadsBegun read p codes level still)
    (off : (a : A) → r.Fits a → Apart (next a) codes) where
  abbrev any_group : A × (B × List Token) → (A × B) × List Token
  any_group = assoc q read level

  abbrev any_spell : (A × B) × List Token → List Token
  any_spell = both_spelling (r ~ p).spelling (λ m. m)

  abbrev AnyFits : (A × B) × List Token → Type 0
  AnyFits = BothFitBy (r ~ p).Fits (λ x. Begins (level x.1))

  abbrev any_after : (A × B) × List Token → List ℕ
  any_after x = after_begun (level x.0.1) (still x.0.1) x.1

  any_forth : (y : A × (B × List Token)) → (r.Fits y.0 × (p.Fits y.1.0 × Begins (level y.1.0) y.1.1)) → AnyFits (any_group y) × (any_spell (any_group y) ≡ r.spelling y.0 ++ (p.spelling y.1.0 ++ y.1.1)) ×
      Within (after_begun (level y.1.0) (still y.1.0) y.1.1 ++ []) (any_after (any_group y))
  any_forth y fits = (((fits.0, fits.1.0), fits.1.1), append_assoc (r.spelling y.0) (p.spelling y.1.0) y.1.1, within_union (within_self _) (within_none _))

  any_back : (x : (A × B) × List Token) → AnyFits x → (y : A × (B × List Token)) × (r.Fits y.0 × (p.Fits y.1.0 × Begins (level y.1.0) y.1.1)) × (any_group y ≡ x)
  any_back x fits = ((x.0.0, (x.0.1, x.1)), (fits.0.0, (fits.0.1, fits.1)), refl)

  pub then_any_begun : ReadsBegun (both q read) (r ~ p) (first ++ codes) (λ x. level x.1) (λ x. still x.1)
  then_any_begun = record {
    laws = reread (mapped_laws (both_any_laws P S.laws off) any_group any_spell any_after any_forth any_back) (λ ts. then_same q read level ts);
    complete = λ x rest fits stop none.
        let e = S.complete x.1 rest fits.1 stop none in
        let l = P.complete x.0 (p.spelling x.1 ++ rest) fits.0 (stops_apart (next x.0) codes (off x.0 fits.0) (p.spelling x.1 ++ rest) (one_begins S x.1 rest fits.1)) in
        ap (both q read) (append_assoc (r.spelling x.0) (p.spelling x.1) rest) ∙ both_gives q (λ a. read) (r.spelling x.0 ++ (p.spelling x.1 ++ rest)) (p.spelling x.1 ++ rest) rest x.0 x.1 l e;
  }

-- ---- another shape of its tree

module _ {A B : Type 0} {read : Reader Token A} {p : Phrase A} {first : List ℕ} {level : A → Option ℕ} {still : A → List ℕ} (S : ReadsBegun read p first level still)
    (f : A → B) (tokens : B → List Token) (level' : B → Option ℕ) (still' : B → List ℕ) (same : (a : A) → p.Fits a → level' (f a) ≡ level a)
    (said : (a : A) → p.Fits a → tokens (f a) ≡ p.spelling a) (inside : (a : A) → p.Fits a → Within (still a) (still' (f a))) where
  abbrev shape : A × List Token → B × List Token
  shape y = (f y.0, y.1)

  abbrev made_spell : B × List Token → List Token
  made_spell = both_spelling tokens (λ m. m)

  abbrev MadeFits : B × List Token → Type 0
  MadeFits = BothFitBy (Made f p.Fits) (λ b. Begins (level' b))

  abbrev made_after : B × List Token → List ℕ
  made_after x = after_begun (level' x.0) (still' x.0) x.1

  made_forth : (y : A × List Token) → (p.Fits y.0 × Begins (level y.0) y.1) → MadeFits (shape y) × (made_spell (shape y) ≡ p.spelling y.0 ++ y.1) × Within (after_begun (level y.0) (still y.0) y.1) (made_after (shape y))
  made_forth y fits = (
    ((y.0, fits.0, refl), subst (λ (o : Option ℕ). Begins o y.1) (sym (same y.0 fits.0)) fits.1),
    ap (λ (m : List Token). m ++ y.1) (said y.0 fits.0),
    wider_begun (level y.0) (level' (f y.0)) (still y.0) (still' (f y.0)) y.1 (same y.0 fits.0) (inside y.0 fits.0),
  )

  made_back : (x : B × List Token) → MadeFits x → (y : A × List Token) × (p.Fits y.0 × Begins (level y.0) y.1) × (shape y ≡ x)
  made_back x ((a, fits, e), b) = ((a, x.1), (fits, subst (λ (o : Option ℕ). Begins o x.1) (ap level' (sym e) ∙ same a fits) b), ap (λ (c : B). (c, x.1)) e)

  made_third : (a : A) (o : Outcome Token (List Token)) → and_then o (λ m r. Ok ((f a, m), r)) ≡ and_then (and_then o (λ m r. Ok ((a, m), r))) (λ y r. Ok (shape y, r))
  made_third a (Ok x) = refl
  made_third a (Err x) = refl

  made_all : (ts : List Token) (o : Outcome Token A) → read ts ≡ o → and_then (and_then o (λ a r. Ok (f a, r))) (λ b mid. and_then (begun (level' b) mid) (λ m r. Ok ((b, m), r))) ≡ and_then (and_then o (λ a mid. and_then (begun (level a) mid) (λ m r. Ok ((a, m), r)))) (λ y r. Ok (shape y, r))
  made_all ts (Ok x) e = ap (λ (o : Option ℕ). and_then (begun o x.1) (λ m r. Ok ((f x.0, m), r))) (same x.0 (one_sound S ts x.0 x.1 e).0) ∙ made_third x.0 (begun (level x.0) x.1)
  made_all ts (Err x) e = refl

  made_complete : (b : B) (rest : List Token) → Made f p.Fits b → Stops class_of (still' b) rest → part_begins (level' b) rest ≡ false → mapped f read (tokens b ++ rest) ≡ Ok (b, rest)
  made_complete b rest (a, fits, e) stop none =
      let still_off : Stops class_of (still' (f a)) rest = subst (λ (c : B). Stops class_of (still' c) rest) (sym e) stop in
      let off : part_begins (level a) rest ≡ false = ap (λ (o : Option ℕ). part_begins o rest) (sym (same a fits) ∙ ap level' e) ∙ none in
      ap (λ (c : B). mapped f read (tokens c ++ rest)) (sym e) ∙ ap (λ (m : List Token). mapped f read (m ++ rest)) (said a fits)
      ∙ ap (λ (o : Outcome Token A). and_then o (λ a r. Ok (f a, r))) (S.complete a rest fits (stops_within class_of (still a) (still' (f a)) (inside a fits).in_second rest still_off) off)
      ∙ ap (λ (c : B). gave c rest) e

  pub made_begun : ReadsBegun (mapped f read) (made tokens f p) first level' still'
  made_begun = record {
    laws = reread (mapped_laws S.laws shape made_spell made_after made_forth made_back) (λ ts. made_all ts (read ts) refl);
    complete = made_complete;
  }

-- ---- what no part may go on behind

module _ {A : Type 0} {read : Reader Token A} {p : Phrase A} {first : List ℕ} {next : A → List ℕ} (P : Reads read p first next false)
    (level : A → Option ℕ) (still : A → List ℕ) (never : (a : A) → p.Fits a → level a ≡ None) where
  abbrev lone : A → A × List Token
  lone a = (a, [])

  lone_by : (o : Option ℕ) (a : A) (mid : List Token) → o ≡ None → and_then (begun o mid) (λ m r. Ok ((a, m), r)) ≡ Ok (lone a, mid)
  lone_by o a mid e = ap (λ (k : Option ℕ). and_then (begun k mid) (λ m r. Ok ((a, m), r))) e

  lone_all : (ts : List Token) (o : Outcome Token A) → read ts ≡ o → and_then o (λ a mid. and_then (begun (level a) mid) (λ m r. Ok ((a, m), r))) ≡ and_then o (λ a r. Ok (lone a, r))
  lone_all ts (Ok x) e = lone_by (level x.0) x.0 x.1 (never x.0 (P.sound ts x.0 x.1 e).0)
  lone_all ts (Err x) e = refl

  abbrev LoneLaws : (A × List Token → List ℕ) → Type 0
  LoneLaws codes = Laws class_of (both_by read (λ a. begun (level a))) (both_spelling p.spelling (λ m. m)) (BothFitBy p.Fits (λ a. Begins (level a))) p.front first codes false

  lone_forth : (codes : A × List Token → List ℕ) → ((a : A) → p.Fits a → Within (next a) (codes (lone a))) → (a : A) → p.Fits a → (p.Fits a × Begins (level a) []) × (p.spelling a ++ [] ≡ p.spelling a) × Within (next a) (codes (lone a))
  lone_forth codes w a fits = ((fits, subst (λ (o : Option ℕ). Begins o []) (sym (never a fits)) refl), append-nil (p.spelling a), w a fits)

  lone_back : (x : A × List Token) → BothFitBy p.Fits (λ a. Begins (level a)) x → (a : A) × p.Fits a × (lone a ≡ x)
  lone_back (a, m) (fits, b) =
      let e : m ≡ [] = subst (λ (o : Option ℕ). Begins o m) (never a fits) b in
      (a, fits, ap (λ (k : List Token). (a, k)) (sym e))

  -- whatever goes on behind it
  pub lone_laws : (codes : A × List Token → List ℕ) → ((a : A) → p.Fits a → Within (next a) (codes (lone a))) → LoneLaws codes
  lone_laws codes w = reread (mapped_laws P lone (both_spelling p.spelling (λ m. m)) codes (lone_forth codes w) lone_back) (λ ts. lone_all ts (read ts) refl)

  pub plain_begun : ((a : A) → p.Fits a → Within (next a) (still a)) → ReadsBegun read p first level still
  plain_begun under = record {
    laws = lone_laws (λ x. after_begun (level x.0) (still x.0) x.1) (λ a fits. within_then (under a fits) (within_left (still a) (on_codes (level a))));
    complete = λ a rest fits stop none. P.complete a rest fits (stops_within class_of (next a) (still a) (under a fits).in_second rest stop);
  }

-- ---- other words for the same

module _ {A : Type 0} {read : Reader Token A} {p : Phrase A} {first : List ℕ} {level : A → Option ℕ} {still : A → List ℕ} (S : ReadsBegun read p first level still) where
  pub restated_begun : {Fits : A → Type 0} {front : Front Token} {first' : List ℕ} → ((a : A) → p.Fits a → Fits a) → ((a : A) → Fits a → p.Fits a) → ((ts : List Token) → p.front ts → front ts) → ((ts : List Token) → front ts → p.front ts) →
      Within first first' → ReadsBegun read (record { spelling = p.spelling; Fits = Fits; front = front }) first' level still
  restated_begun forth back out into w = record {
    laws = restated S.laws (λ x fits. (forth x.0 fits.0, fits.1)) (λ x fits. (back x.0 fits.0, fits.1)) out into w (λ x fits. within_self _) (λ h. h);
    complete = λ a rest fits stop none. S.complete a rest (back a fits) stop none;
  }

-- ---- one of two, by the next token

module _ {A : Type 0} {tokens : A → List Token} {level : A → Option ℕ} {still : A → List ℕ}
    {read : Reader Token A} {Fits : A → Type 0} {front : Front Token} {first : List ℕ} (P : ReadsBegun read (record { spelling = tokens; Fits = Fits; front = front }) first level still)
    {other : Reader Token A} {OtherFits : A → Type 0} {other_front : Front Token} {codes : List ℕ} (Q : ReadsBegun other (record { spelling = tokens; Fits = OtherFits; front = other_front }) codes level still)
    (off : Apart first codes) where
  abbrev with : Reader Token A → Reader Token (A × List Token)
  with r = both_by r (λ a. begun (level a))

  chosen : (ts : List Token) (c : Bool) → and_then (if c then read ts else other ts) (λ a mid. and_then (begun (level a) mid) (λ m r. Ok ((a, m), r))) ≡ (if c then with read ts else with other ts)
  chosen ts true = refl
  chosen ts false = refl

  pair_forth : (x : A × List Token) → EitherFit (BothFitBy Fits (λ a. Begins (level a))) (BothFitBy OtherFits (λ a. Begins (level a))) x → BothFitBy (EitherFit Fits OtherFits) (λ a. Begins (level a)) x
  pair_forth x (inl fits) = (inl fits.0, fits.1)
  pair_forth x (inr fits) = (inr fits.0, fits.1)

  pair_back : (x : A × List Token) → BothFitBy (EitherFit Fits OtherFits) (λ a. Begins (level a)) x → EitherFit (BothFitBy Fits (λ a. Begins (level a))) (BothFitBy OtherFits (λ a. Begins (level a))) x
  pair_back x (inl fits, b) = inl (fits, b)
  pair_back x (inr fits, b) = inr (fits, b)

  first_complete : (a : A) (rest : List Token) → EitherFit Fits OtherFits a → Stops class_of (still a) rest → part_begins (level a) rest ≡ false → by_first class_of first read other (tokens a ++ rest) ≡ Ok (a, rest)
  first_complete a rest (inl fits) stop none = ap (λ (c : Bool). if c then read (tokens a ++ rest) else other (tokens a ++ rest)) (one_begins P a rest fits) ∙ P.complete a rest fits stop none
  first_complete a rest (inr fits) stop none = ap (λ (c : Bool). if c then read (tokens a ++ rest) else other (tokens a ++ rest)) (stops_apart first codes off (tokens a ++ rest) (one_begins Q a rest fits)) ∙ Q.complete a rest fits stop none

  pub by_first_begun : ReadsBegun (by_first class_of first read other) (record { spelling = tokens; Fits = Fits; front = front } <|> record { spelling = tokens; Fits = OtherFits; front = other_front }) (first ++ codes) level still
  by_first_begun = record {
    laws = reread (refit (by_first_laws P.laws Q.laws off) pair_forth pair_back) (λ ts. chosen ts (starts class_of first ts));
    complete = first_complete;
  }
