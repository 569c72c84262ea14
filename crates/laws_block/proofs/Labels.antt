-- The law of labels before a statement (ECMA-408, 17.13 Labels): a name is one where a colon stands behind it, and begins the statement
-- elsewhere.
use Rattle.std.proofs.Common.{◌≡◌, ℕ, zero, suc, Bool, true, false, ◌&&◌, if◌then◌else◌, inl, inr, List, [], ◌∷◌, ◌++◌, length, Option, Ok, Err, refl, sym, ap, subst, ◌∙◌, append_assoc, ltb, arith}
use Rattle.std.proofs.lemmas.List.{append-nil}
use Rattle.std.specs.List.{flat_map, AllByRecursion}
use Rattle.dart_token.specs.declared.token.Token.{Token}
use Rattle.dart_token.specs.declared.sign.Sign.TheVariants as s
use Rattle.dart_tree.specs.declared.identifier.Label.{Label}
use Rattle.grammar_laws.specs.Codes.{has, Within}
use Rattle.grammar_laws.specs.Readers.{Outcome, Reader, and_then, both_by, both, one, starts, farther, cons_to, always}
use Rattle.grammar_laws.specs.Fronts.{Front, Either, OneOf, GoesOn, both_spelling, BothFitBy}
use Rattle.grammar_laws.specs.Laws.{Laws, Stops, Stuck}
use Rattle.grammar_laws.proofs.Codes.{and_both, and_true, cases_bool, clash, not_true, within_self}
use Rattle.grammar_laws.proofs.Cuts.{same, longer, shorter, cut, gave, failed, both_ok, both_err, both_empty, then_err}
use Rattle.grammar_laws.proofs.Joints.{begins, ends}
use Rattle.grammar_laws.proofs.Steps.{both_gives}
use Rattle.grammar_laws.proofs.Restated.{mapped_laws, reread}
use Rattle.grammar_laws.proofs.Tried.{never_ok}
use Rattle.grammar_laws.proofs.Wholes.{no_front}
use Rattle.grammar_laws.proofs.Words.{one_laws}
use Rattle.dart_syntax.specs.Phrases.{Phrase, ◌~◌, many}
use Rattle.dart_syntax.specs.Leaves as l
use Rattle.token_codes.specs.Codes.{class_of, names, these}
use Rattle.token_codes.specs.Leaves.{place_of, name_of, identifier, sign, label}
use Rattle.token_codes.proofs.Leaves.{name_said, label_reads}
use Rattle.syntax_readers.specs.Combinators.{past_name, many_where, many_where_turns}
use Rattle.syntax_readers.specs.Statements.{label_comes}
use Rattle.laws_block.specs.Begun.{begun, Begins, after_begun, ReadsBegun}
use Rattle.laws_block.proofs.Faults.{later_stuck}
use Rattle.laws_block.proofs.Begun.{Gives, gives}
use Rattle.laws_block.proofs.Combined.{assoc, then_same}
use Rattle.laws_block.proofs.Single.{one_fault, one_whole, one_filled}
use Rattle.laws_block.proofs.Told.{plain_laws, peel, sound_turns, complete_turns, nothing_next}

-- ---- one label

abbrev a_label : Token → Token → Label
a_label a c = record { name = name_of a; colon = place_of c }

label_by : (a c : Token) (ts : List Token) → has names (class_of a) ≡ true → has (these s.Colon) (class_of c) ≡ true → label (a ∷ c ∷ ts) ≡ Ok (a_label a c, ts)
unfolding label identifier sign
label_by a c ts n e = rw (n, e) refl

label_no_colon : (a c : Token) (ts : List Token) → has names (class_of a) ≡ true → has (these s.Colon) (class_of c) ≡ false → label (a ∷ c ∷ ts) ≡ Err (c ∷ ts)
unfolding label identifier sign
label_no_colon a c ts n e = rw (n, e) refl

label_short : (a : Token) (n : Bool) → has names (class_of a) ≡ n → (x : Label) (rest : List Token) → label (a ∷ []) ≡ Ok (x, rest) → ⊥
unfolding label identifier sign
label_short a true n x rest e = let bad : failed {A = Label} [] ≡ gave x rest = sym (rw n refl) ∙ e in absurd cc
label_short a false n x rest e = let bad : failed {A = Label} (a ∷ []) ≡ gave x rest = sym (rw n refl) ∙ e in absurd cc

label_reading : (ts : List Token) → label_comes ts ≡ true → (x : Label) × (mid : List Token) × (label ts ≡ Ok (x, mid))
label_reading [] on = absurd cc
label_reading (a ∷ []) on = absurd cc
label_reading (a ∷ c ∷ ts) on = let b = and_both (has names (class_of a)) (has (these s.Colon) (class_of c)) on in (a_label a c, ts, label_by a c ts b.0 b.1)

pub label_two : (a c : Token) (ts : List Token) → l.label.front (a ∷ c ∷ ts) → label_comes (a ∷ c ∷ ts) ≡ true
label_two a c ts f = and_true (has names (class_of a)) (has (these s.Colon) (class_of c)) named (elim (cases_bool (has (these s.Colon) (class_of c))) [
  | inl on ↦ on
  | inr off ↦ absurd (no_front label_reads (a ∷ c ∷ []) c [] (label_no_colon a c [] named off) (label_reads.closed (a ∷ c ∷ []) ts f))
]) where
  named : has names (class_of a) ≡ true
  named = label_reads.firsts a (c ∷ ts) f

pub label_comes_at : (x : Label) (rest : List Token) → l.label.Fits x → label_comes (l.label.spelling x ++ rest) ≡ true
label_comes_at x rest fits = of (l.label.spelling x) refl where
  of : (m : List Token) → l.label.spelling x ≡ m → label_comes (m ++ rest) ≡ true
  of [] e = clash false (label_reads.empties x fits e) refl
  of (a ∷ []) e = absurd (label_short a (has names (class_of a)) refl x [] (ap label (ap (λ (m : List Token). m ++ []) (sym e)) ∙ label_reads.complete x [] fits refl))
  of (a ∷ c ∷ m) e = label_two a c m (subst l.label.front e (label_reads.whole x fits))

-- ---- labels behind one another

abbrev labels : Reader Token (List Label)
labels = many_where label_comes label

abbrev Labels_fit : List Label → Type 0
Labels_fit = AllByRecursion l.label.Fits

abbrev label_list : List Label → List Token
label_list = flat_map l.label.spelling

abbrev on_label : ℕ → Bool → Reader Token (List Label)
on_label m c ts = if c then and_then (label ts) (λ x mid. cons_to x (many_where_turns label_comes label m mid)) else Ok ([], ts)

abbrev label_more : ℕ → Label → Reader Token (List Label)
label_more m x mid = cons_to x (many_where_turns label_comes label m mid)

abbrev label_first : Label → List Label → Reader Token (List Label)
label_first x xs rest = Ok (x ∷ xs, rest)

-- they are never at fault
abbrev Go : ℕ → Type 0
Go m = (ts rest : List Token) → many_where_turns label_comes label m ts ≡ Err rest → ⊥

label_goes : (m : ℕ) → Go m → (ts rest : List Token) (c : Bool) → label_comes ts ≡ c → on_label m c ts ≡ Err rest → ⊥
label_goes m before ts rest false off h = absurd cc
label_goes m before ts rest true on h =
    elim (then_err (label ts) (label_more m) rest h) as (λ _. ⊥) [
      | inl e ↦ let r = label_reading ts on in let bad : failed {A = Label} rest ≡ gave r.0 r.1 = sym e ∙ r.2 in absurd cc
      | inr v ↦ elim (then_err (many_where_turns label_comes label m v.1) (label_first v.0) rest v.3) as (λ _. ⊥) [
        | inl e ↦ before v.1 rest e
        | inr u ↦ absurd cc
      ]
    ]

labels_go : (m : ℕ) → Go m
labels_go zero ts rest h = absurd cc
labels_go (suc m) ts rest h = label_goes m (labels_go m) ts rest (label_comes ts) refl h

-- ---- a statement behind them

module _ {A : Type 0} {read : Reader Token A} {u : Phrase A} {first : List ℕ} {level : A → Option ℕ} {still : A → List ℕ} (U : ReadsBegun read u first level still) (named : Within names first)
    (no_label : (a c : Token) (ts : List Token) → has names (class_of a) ≡ true → has (these s.Colon) (class_of c) ≡ true → u.front (a ∷ c ∷ ts) → ⊥)
    (no_name : (x : A) (a : Token) → u.Fits x → u.spelling x ≡ a ∷ [] → has names (class_of a) ≡ true → ⊥) where
  abbrev G : Front Token
  G = (many l.label ~ u).front

  abbrev VF : Front Token
  VF = Either (OneOf class_of names) u.front

  -- ---- fronts

  not_unlabelled : (ts : List Token) → label_comes ts ≡ true → u.front ts → ⊥
  not_unlabelled [] on f = absurd cc
  not_unlabelled (a ∷ []) on f = absurd cc
  not_unlabelled (a ∷ c ∷ ts) on f = let b = and_both (has names (class_of a)) (has (these s.Colon) (class_of c)) on in no_label a c ts b.0 b.1 f

  step : (x : Label) → l.label.Fits x → (z : List Token) → G (l.label.spelling x ++ z) → G z
  step x fx z (inl f) = inl (peel label_comes label_reads refl label_comes_at x fx z f)
  step x fx z (inr ([], more, fits, on, e, f)) = absurd (not_unlabelled (l.label.spelling x ++ z) (label_comes_at x z fx) (subst u.front (sym e) f))
  step x fx z (inr (y ∷ ys, more, fits, on, e, f)) =
      elim (cut (l.label.spelling x) z (l.label.spelling y) (label_list ys ++ more) (e ∙ append_assoc (l.label.spelling y) (label_list ys) more)) as (λ _. G z) [
        | same a b ↦ inr (ys, more, fits.1, refl, b, f)
        | longer t m a b ↦ absurd (nothing_next label_comes label_reads refl label_comes_at x t m fx (subst l.label.front a (label_reads.whole y fits.0)))
        | shorter t m a b ↦ absurd (nothing_next label_comes label_reads refl label_comes_at y t m fits.0 (subst l.label.front a (label_reads.whole x fx)))
      ]

  steps : (xs : List Label) → Labels_fit xs → (z : List Token) → G (label_list xs ++ z) → G z
  steps [] fits z f = f
  steps (x ∷ xs) fits z f = steps xs fits.1 z (step x fits.0 (label_list xs ++ z) (subst G (append_assoc (l.label.spelling x) (label_list xs) z) f))

  one_label : (z w : List Token) → label_comes (z ++ w) ≡ false → l.label.front z → VF z
  one_label [] w off f = inl (inl refl)
  one_label (a ∷ []) w off f = inl (inr (a, refl, label_reads.firsts a [] f))
  one_label (a ∷ c ∷ z) w off f = clash (label_comes (a ∷ c ∷ z)) (label_two a c z f) off

  -- where no label comes the statement begins
  pub unlabelled : (z w : List Token) → label_comes (z ++ w) ≡ false → G z → VF z
  unlabelled z w off (inl ([], more, fits, e, f)) = one_label z w off (subst l.label.front (sym e) f)
  unlabelled z w off (inl (y ∷ ys, more, fits, e, f)) = clash (label_comes (z ++ w)) (behind_one y (label_list ys ++ more) fits.0.0 (e ∙ append_assoc (l.label.spelling y) (label_list ys) more)) off where
    behind_one : (y : Label) (k : List Token) → l.label.Fits y → z ≡ l.label.spelling y ++ k → label_comes (z ++ w) ≡ true
    behind_one y k fits e = ap label_comes (ap (λ (m : List Token). m ++ w) e ∙ append_assoc (l.label.spelling y) k w) ∙ label_comes_at y (k ++ w) fits
  unlabelled z w off (inr ([], more, fits, on, e, f)) = inr (subst u.front (sym e) f)
  unlabelled z w off (inr (y ∷ ys, more, fits, on, e, f)) = clash (label_comes (z ++ w)) (behind_one y (label_list ys ++ more) fits.0 (e ∙ append_assoc (l.label.spelling y) (label_list ys) more)) off where
    behind_one : (y : Label) (k : List Token) → l.label.Fits y → z ≡ l.label.spelling y ++ k → label_comes (z ++ w) ≡ true
    behind_one y k fits e = ap label_comes (ap (λ (m : List Token). m ++ w) e ∙ append_assoc (l.label.spelling y) k w) ∙ label_comes_at y (k ++ w) fits

  pub no_label_comes : (x : A) (rest : List Token) → u.Fits x → label_comes (u.spelling x ++ rest) ≡ false
  no_label_comes x rest fits = of (u.spelling x) refl where
    short : (a : Token) (rest : List Token) → has names (class_of a) ≡ false → label_comes (a ∷ rest) ≡ false
    short a [] off = refl
    short a (c ∷ rest) off = ap (λ (b : Bool). b && has (these s.Colon) (class_of c)) off

    of : (m : List Token) → u.spelling x ≡ m → label_comes (m ++ rest) ≡ false
    of [] e = absurd (one_filled U x fits e)
    of (a ∷ []) e = short a rest (not_true (has names (class_of a)) (λ n. no_name x a fits e n))
    of (a ∷ c ∷ m) e = not_true (label_comes (a ∷ c ∷ m)) (λ on. not_unlabelled (a ∷ c ∷ m) on (subst u.front e (one_whole U x fits)))

  -- ---- a name too much

  abbrev beyond_name : Outcome Token Token → Outcome Token A → Outcome Token A
  beyond_name o r = farther (and_then o (λ t rest. Err rest)) r

  name_gives : (x : A) (mid : List Token) (o : Outcome Token Token) (r : Outcome Token A) → r ≡ Ok (x, mid) → beyond_name o r ≡ Ok (x, mid)
  name_gives x mid (Ok t) r e = ap (λ (q : Outcome Token A). farther (Err t.1) q) e
  name_gives x mid (Err d) r e = ap (λ (q : Outcome Token A). farther (Err d) q) e

  name_ok : (x : A) (mid : List Token) (o : Outcome Token Token) (r : Outcome Token A) → beyond_name o r ≡ Ok (x, mid) → r ≡ Ok (x, mid)
  name_ok x mid (Ok t) (Ok y) h = h
  name_ok x mid (Err d) (Ok y) h = h
  name_ok x mid (Ok t) (Err e) h = absurd (never_ok (ltb (length t.1) (length e)) t.1 e (x, mid) h)
  name_ok x mid (Err d) (Err e) h = absurd (never_ok (ltb (length d) (length e)) d e (x, mid) h)

  name_stuck : (ts rest : List Token) (o : Outcome Token Token) (r : Outcome Token A) → one class_of names ts ≡ o → read ts ≡ r → beyond_name o r ≡ Err rest → Stuck VF ts rest
  name_stuck ts rest (Ok t) (Ok y) e f h = absurd cc
  name_stuck ts rest (Err d) (Ok y) e f h = absurd cc
  name_stuck ts rest (Ok t) (Err x) e f h =
      let k = one_laws class_of names in
      let v = k.sound ts t.0 t.1 e in
      later_stuck (λ a b g. k.closed a b g) (λ a b g. U.laws.closed a b g) {A = A} ts t.1 x rest (ltb (length t.1) (length x)) refl (t.0 ∷ [], v.1, k.whole t.0 v.0, ends k ts t.0 t.1 e) (one_fault U ts x f) h
  name_stuck ts rest (Err d) (Err x) e f h =
      let k = one_laws class_of names in
      later_stuck (λ a b g. k.closed a b g) (λ a b g. U.laws.closed a b g) {A = A} ts d x rest (ltb (length d) (length x)) refl (k.fault ts d e) (one_fault U ts x f) h

  -- ---- the law of labels and a statement with what is begun behind it

  abbrev with : Reader Token (A × List Token)
  with = both_by read (λ x. begun (level x))

  abbrev past : Reader Token (A × List Token)
  past = both_by (past_name read) (λ x. begun (level x))

  abbrev spell : A × List Token → List Token
  spell = both_spelling u.spelling (λ m. m)

  abbrev PairFits : A × List Token → Type 0
  PairFits = BothFitBy u.Fits (λ x. Begins (level x))

  abbrev whole_spell : List Label × (A × List Token) → List Token
  whole_spell = both_spelling label_list spell

  abbrev WholeFits : List Label × (A × List Token) → Type 0
  WholeFits x = Labels_fit x.0 × PairFits x.1

  abbrev after : List Label × (A × List Token) → List ℕ
  after x = after_begun (level x.1.0) (still x.1.0) x.1.1

  past_ok : (ts : List Token) (y : A × List Token) (rest : List Token) → past ts ≡ Ok (y, rest) → with ts ≡ Ok (y, rest)
  past_ok ts y rest h =
      let v = both_ok (past_name read) (λ x. begun (level x)) ts y rest h in
      both_gives read (λ x. begun (level x)) ts v.0 rest y.0 y.1 (name_ok y.0 v.0 (one class_of names ts) (read ts) v.1) v.2

  past_gives : (ts : List Token) (y : A × List Token) (rest : List Token) → with ts ≡ Ok (y, rest) → past ts ≡ Ok (y, rest)
  past_gives ts y rest h =
      let v = both_ok read (λ x. begun (level x)) ts y rest h in
      both_gives (past_name read) (λ x. begun (level x)) ts v.0 rest y.0 y.1 (name_gives y.0 v.0 (one class_of names ts) (read ts) v.1) v.2

  past_err : (ts rest : List Token) → past ts ≡ Err rest → Stuck VF ts rest
  past_err ts rest h = elim (both_err (past_name read) (λ x. begun (level x)) ts rest h) as (λ _. Stuck VF ts rest) [
    | inl e ↦ name_stuck ts rest (one class_of names ts) (read ts) refl refl e
    | inr v ↦ absurd (never (gives (level v.0) v.1) v.3)
  ] where
    never : {o : Option ℕ} {mid : List Token} → Gives o mid → begun o mid ≡ Err rest → ⊥
    never g e = let bad : gave g.tokens g.rest ≡ failed rest = sym g.read ∙ e in absurd cc

  abbrev all : Reader Token (List Label × (A × List Token))
  all = both labels past

  abbrev Sounds : List Token → List Label → List Token → Type 0
  Sounds ts xs mid = Labels_fit xs × (ts ≡ label_list xs ++ mid) × (label_comes mid ≡ false)

  labels_sound : (ts : List Token) (xs : List Label) (mid : List Token) → labels ts ≡ Ok (xs, mid) → Sounds ts xs mid
  labels_sound ts xs mid h = sound_turns label_comes label_reads refl label_comes_at (length ts) ts xs mid (omega arith) h

  labels_complete : (xs : List Label) (rest : List Token) → Labels_fit xs → label_comes rest ≡ false → labels (label_list xs ++ rest) ≡ Ok (xs, rest)
  labels_complete xs rest fits off = complete_turns label_comes label_reads refl label_comes_at (length (label_list xs ++ rest)) xs rest (omega arith) fits off

  sound : (ts : List Token) (x : List Label × (A × List Token)) (rest : List Token) → all ts ≡ Ok (x, rest) → WholeFits x × (ts ≡ whole_spell x ++ rest)
  sound ts x rest h =
      let v = both_ok labels (λ a. past) ts x rest h in
      let k = labels_sound ts x.0 v.0 v.1 in
      let m = U.laws.sound v.0 x.1 rest (past_ok v.0 x.1 rest v.2) in
      ((k.0, m.0), k.1 ∙ ap (λ (a : List Token). label_list x.0 ++ a) m.1 ∙ sym (append_assoc (label_list x.0) (spell x.1) rest))

  -- a statement's tokens and one more are no name
  no_one : (y : A × List Token) (t : Token) (ts : List Token) → PairFits y → OneOf class_of names (spell y ++ t ∷ ts) → ⊥
  no_one y t ts fits (inl e) = let bad : t ∷ ts ≡ [] = (both_empty (spell y) (t ∷ ts) e).1 in absurd cc
  no_one y t ts fits (inr (a, e, n)) = single (u.spelling y.0) (λ b. one_filled U y.0 fits.0 b) (sym (append_assoc (u.spelling y.0) y.1 (t ∷ ts)) ∙ e) where
    single : (m : List Token) → (m ≡ [] → ⊥) → m ++ (y.1 ++ t ∷ ts) ≡ a ∷ [] → ⊥
    single [] some e = some refl
    single (b ∷ m) some e =
        let tails : m ++ (y.1 ++ t ∷ ts) ≡ [] = cc in
        let bad : t ∷ ts ≡ [] = (both_empty y.1 (t ∷ ts) (both_empty m (y.1 ++ t ∷ ts) tails).1).1 in
        absurd cc

  longest : (ts : List Token) (x : List Label × (A × List Token)) (t : Token) (rest : List Token) → all ts ≡ Ok (x, t ∷ rest) → G (whole_spell x ++ t ∷ []) → ⊥
  longest ts x t rest h j =
      let v = both_ok labels (λ a. past) ts x (t ∷ rest) h in
      let k = labels_sound ts x.0 v.0 v.1 in
      let e = past_ok v.0 x.1 (t ∷ rest) v.2 in
      let m = U.laws.sound v.0 x.1 (t ∷ rest) e in
      let off : label_comes ((spell x.1 ++ t ∷ []) ++ rest) ≡ false = ap label_comes (append_assoc (spell x.1) (t ∷ []) rest ∙ sym m.1) ∙ k.2 in
      elim (unlabelled (spell x.1 ++ t ∷ []) rest off (steps x.0 k.0 (spell x.1 ++ t ∷ []) (subst G (append_assoc (label_list x.0) (spell x.1) (t ∷ [])) j))) as (λ _. ⊥) [
        | inl f ↦ no_one x.1 t [] m.0 f
        | inr f ↦ U.laws.longest v.0 x.1 t rest e f
      ]

  each : (xs : List Label) → Labels_fit xs → AllByRecursion (GoesOn l.label.Fits always) xs
  each [] fits = tt
  each (x ∷ xs) fits = ((fits.0, refl), each xs fits.1)

  begins_so : (xs : List Label) (z : List Token) → Labels_fit xs → VF z → G (label_list xs ++ z)
  begins_so xs z fits (inl (inl e)) = inl (xs, z, each xs fits, refl, subst l.label.front (sym e) label_reads.none)
  begins_so xs z fits (inl (inr (a, e, n))) = inl (xs, z, each xs fits, refl, subst l.label.front (sym e) (inl (inr (name_of a, sym (name_said a n)))))
  begins_so xs z fits (inr f) = inr (xs, z, fits, refl, refl, f)

  fault : (ts rest : List Token) → all ts ≡ Err rest → Stuck G ts rest
  fault ts rest h = elim (both_err labels (λ a. past) ts rest h) as (λ _. Stuck G ts rest) [
    | inl e ↦ absurd (labels_go (length ts) ts rest e)
    | inr v ↦ behind v.0 v.1 (labels_sound ts v.0 v.1 v.2) (past_err v.1 rest v.3)
  ] where
    behind : (xs : List Label) (mid : List Token) → Sounds ts xs mid → Stuck VF mid rest → Stuck G ts rest
    behind xs mid k c = (
      label_list xs ++ c.0,
      k.1 ∙ ap (λ (a : List Token). label_list xs ++ a) c.1 ∙ sym (append_assoc (label_list xs) c.0 rest),
      begins_so xs c.0 k.0 c.2,
      λ t more is j. c.3 t more is (unlabelled (c.0 ++ t ∷ []) more (ap label_comes (append_assoc c.0 (t ∷ []) more ∙ ap (λ (a : List Token). c.0 ++ a) (sym is) ∙ sym c.1) ∙ k.2)
          (steps xs k.0 (c.0 ++ t ∷ []) (subst G (append_assoc (label_list xs) c.0 (t ∷ [])) j))),
    )

  complete : (x : List Label × (A × List Token)) (rest : List Token) → WholeFits x → Stops class_of (after x) rest → all (whole_spell x ++ rest) ≡ Ok (x, rest)
  complete x rest fits stop =
      let off : label_comes (spell x.1 ++ rest) ≡ false = ap label_comes (append_assoc (u.spelling x.1.0) x.1.1 rest) ∙ no_label_comes x.1.0 (x.1.1 ++ rest) fits.1.0 in
      ap all (append_assoc (label_list x.0) (spell x.1) rest)
      ∙ both_gives labels (λ a. past) (label_list x.0 ++ (spell x.1 ++ rest)) (spell x.1 ++ rest) rest x.0 x.1 (labels_complete x.0 (spell x.1 ++ rest) fits.0 off) (past_gives (spell x.1 ++ rest) x.1 rest (U.laws.complete x.1 rest fits.1 stop))

  closed : (x y : List Token) → G (x ++ y) → G x
  closed x y (inl f) = inl ((plain_laws label_comes label_reads refl label_comes_at).closed x y f)
  closed x y (inr (xs, more, fits, on, e, f)) =
      elim (cut x y (label_list xs) more e) as (λ _. G x) [
        | same a b ↦ inr (xs, [], fits, refl, a ∙ sym (append-nil (label_list xs)), U.laws.none)
        | longer t z a b ↦ inl ((plain_laws label_comes label_reads refl label_comes_at).closed x (t ∷ z) (xs, [], each xs fits, sym a ∙ sym (append-nil (label_list xs)), label_reads.none))
        | shorter t z a b ↦ inr (xs, t ∷ z, fits, refl, a, U.laws.closed (t ∷ z) y (subst u.front b f))
      ]

  firsts : (t : Token) (ts : List Token) → G (t ∷ ts) → has first (class_of t) ≡ true
  firsts t ts (inl f) = named.in_second (class_of t) ((plain_laws label_comes label_reads refl label_comes_at).firsts t ts f)
  firsts t ts (inr ([], more, fits, on, e, f)) = U.laws.firsts t ts (subst u.front (sym e) f)
  firsts t ts (inr (y ∷ ys, more, fits, on, e, f)) = named.in_second (class_of t) (ap (starts class_of names) (e ∙ append_assoc (l.label.spelling y) (label_list ys) more) ∙ begins label_reads y (label_list ys ++ more) fits.0)

  nexts : (x : List Label × (A × List Token)) (t : Token) (ts : List Token) → WholeFits x → G (whole_spell x ++ t ∷ ts) → has (after x) (class_of t) ≡ true
  nexts x t ts fits j =
      let off : label_comes ((spell x.1 ++ t ∷ ts) ++ []) ≡ false = ap label_comes (append-nil (spell x.1 ++ t ∷ ts) ∙ append_assoc (u.spelling x.1.0) x.1.1 (t ∷ ts)) ∙ no_label_comes x.1.0 (x.1.1 ++ t ∷ ts) fits.1.0 in
      elim (unlabelled (spell x.1 ++ t ∷ ts) [] off (steps x.0 fits.0 (spell x.1 ++ t ∷ ts) (subst G (append_assoc (label_list x.0) (spell x.1) (t ∷ ts)) j))) as (λ _. has (after x) (class_of t) ≡ true) [
        | inl f ↦ absurd (no_one x.1 t ts fits.1 f)
        | inr f ↦ U.laws.nexts x.1 t ts fits.1 f
      ]

  all_laws : Laws class_of all whole_spell WholeFits G first after false
  all_laws = record {
    sound = sound;
    longest = longest;
    fault = fault;
    complete = complete;
    whole = λ x fits. inr (x.0, spell x.1, fits.0, refl, refl, U.laws.whole x.1 fits.1);
    none = inl (plain_laws label_comes label_reads refl label_comes_at).none;
    closed = closed;
    firsts = firsts;
    nexts = nexts;
    empties = λ x fits e. U.laws.empties x.1 fits.1 (both_empty (label_list x.0) (spell x.1) e).1;
  }

  abbrev group : List Label × (A × List Token) → (List Label × A) × List Token
  group = assoc labels (past_name read) level

  abbrev group_spell : (List Label × A) × List Token → List Token
  group_spell = both_spelling (many l.label ~ u).spelling (λ m. m)

  abbrev GroupFits : (List Label × A) × List Token → Type 0
  GroupFits = BothFitBy (many l.label ~ u).Fits (λ x. Begins (level x.1))

  abbrev group_after : (List Label × A) × List Token → List ℕ
  group_after x = after_begun (level x.0.1) (still x.0.1) x.1

  forth : (y : List Label × (A × List Token)) → WholeFits y → GroupFits (group y) × (group_spell (group y) ≡ whole_spell y) × Within (after y) (group_after (group y))
  forth y fits = (((fits.0, fits.1.0), fits.1.1), append_assoc (label_list y.0) (u.spelling y.1.0) y.1.1, within_self _)

  back : (x : (List Label × A) × List Token) → GroupFits x → (y : List Label × (A × List Token)) × WholeFits y × (group y ≡ x)
  back x fits = ((x.0.0, (x.0.1, x.1)), (fits.0.0, (fits.0.1, fits.1)), refl)

  pub labelled_begun : ReadsBegun (both (many_where label_comes label) (past_name read)) (many l.label ~ u) first (λ x. level x.1) (λ x. still x.1)
  labelled_begun = record {
    laws = reread (mapped_laws all_laws group group_spell group_after forth back) (λ ts. then_same labels (past_name read) level ts);
    complete = λ x rest fits stop none.
        let e = name_gives x.1 rest (one class_of names (u.spelling x.1 ++ rest)) (read (u.spelling x.1 ++ rest)) (U.complete x.1 rest fits.1 stop none) in
        ap (both labels (past_name read)) (append_assoc (label_list x.0) (u.spelling x.1) rest)
        ∙ both_gives labels (λ a. past_name read) (label_list x.0 ++ (u.spelling x.1 ++ rest)) (u.spelling x.1 ++ rest) rest x.0 x.1 (labels_complete x.0 (u.spelling x.1 ++ rest) fits.0 (no_label_comes x.1 rest fits.1)) e;
  }
