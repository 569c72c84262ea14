-- What tells a further part of a `switch` from a statement: the word behind the labels (ECMA-408, 17.9 Switch).
use Rattle.std.proofs.Common.{◌≡◌, ℕ, Bool, true, false, not, ◌&&◌, ◌⊎◌, inl, inr, List, [], ◌∷◌, ◌++◌, Option, None, Some, refl, sym, ap, subst, ◌∙◌, append_assoc}
use Rattle.std.proofs.lemmas.List.{append-nil}
use Rattle.std.specs.List.{flat_map, AllByRecursion}
use Rattle.dart_base.specs.declared.place.Place.{Place}
use Rattle.dart_token.specs.declared.token.Token.{Token}
use Rattle.dart_token.specs.declared.token.TokenKind.TheVariants as tk
use Rattle.dart_token.specs.declared.sign.Sign.TheVariants as s
use Rattle.dart_token.specs.declared.word.Word.TheVariants as w
use Rattle.dart_tree.specs.declared.identifier.Label.{Label}
use Rattle.dart_tree.specs.LeafTokens.{sign_at, on_text}
use Rattle.dart_tree.specs.Types.{TypeNode}
use Rattle.dart_syntax.proofs.AgreeingTypes.{one_name}
use Rattle.dart_tree.specs.Tree.{Stmt}
use Rattle.grammar_laws.specs.Codes.{has, Apart, Within}
use Rattle.grammar_laws.specs.Readers.{Reader, starts, always}
use Rattle.grammar_laws.specs.Fronts.{GoesOn}
use Rattle.grammar_laws.specs.Laws.{Stops}
use Rattle.grammar_laws.proofs.Codes.{apart, and_both, and_true, and_false, or_cases, or_left, clash, inside, not_true, has_left}
use Rattle.grammar_laws.proofs.Cuts.{same, longer, shorter, cut, both_empty}
use Rattle.grammar_laws.proofs.Joints.{stops_within}
use Rattle.dart_syntax.specs.Phrases.{Phrase, ◌~◌, many, opt}
use Rattle.dart_syntax.specs.Leaves as l
use Rattle.dart_syntax.specs.Types.{type_within}
use Rattle.token_codes.specs.Codes.{class_of, names, on_code, word_code, these}
use Rattle.token_codes.specs.Leaves.{name_of}
use Rattle.token_codes.proofs.Leaves.{name_said, label_reads}
use Rattle.syntax_readers.specs.Types.{type_first}
use Rattle.syntax_readers.specs.Statements.{stmt_first, stmt_comes, part_comes, stmt_in_part_comes, label_comes}
use Rattle.laws_type.proofs.Types.{types_read_at}
use Rattle.laws_apart.specs.Statements.{body_codes}
use Rattle.laws_block.specs.Begun.{on_phrase, Begins, ReadsBegun}
use Rattle.laws_block.proofs.On.{on_reads}
use Rattle.laws_block.proofs.Begun.{begins_on}
use Rattle.laws_block.proofs.Beginnings.{on_second}
use Rattle.laws_block.proofs.Told.{peel, nothing_next}
use Rattle.laws_block.proofs.Labels.{label_comes_at, label_two, no_label_comes}
use Rattle.laws_block.proofs.Single.{one_whole, one_filled}
use Rattle.laws_block.proofs.Ends.{Ends_run, behind_run, still}

abbrev pub part_codes_first : List ℕ
part_codes_first = word_code w.Case ∷ word_code w.Default ∷ names

abbrev pub case_codes : List ℕ
case_codes = word_code w.Case ∷ word_code w.Default ∷ []

abbrev label_list : List Label → List Token
label_list = flat_map l.label.spelling

abbrev Labels_fit : List Label → Type 0
Labels_fit = AllByRecursion l.label.Fits

each : (xs : List Label) → Labels_fit xs → AllByRecursion (GoesOn l.label.Fits always) xs
each [] fits = tt
each (x ∷ xs) fits = ((fits.0, refl), each xs fits.1)

-- ---- the test

names_off : (a : Token) → has names (class_of a) ≡ true → has case_codes (class_of a) ≡ false
names_off a on = not_true (has case_codes (class_of a)) (λ c. (apart {xs = names} {ys = case_codes} refl).never_both (class_of a) on c)

skip_by : (a c : Token) (ts : List Token) → label_comes (a ∷ c ∷ ts) ≡ true → part_comes (a ∷ c ∷ ts) ≡ part_comes ts
skip_by a c ts on = at (has case_codes (class_of a)) (has names (class_of a)) (has (these s.Colon) (class_of c)) refl refl refl (and_both (has names (class_of a)) (has (these s.Colon) (class_of c)) on) where
  at : (d n k : Bool) → has case_codes (class_of a) ≡ d → has names (class_of a) ≡ n → has (these s.Colon) (class_of c) ≡ k → (has names (class_of a) ≡ true) × (has (these s.Colon) (class_of c) ≡ true) → part_comes (a ∷ c ∷ ts) ≡ part_comes ts
  at d n k e f g b = rw (names_off a b.0, b.0, b.1) refl

part_skip : (x : Label) (ts : List Token) → l.label.Fits x → part_comes (l.label.spelling x ++ ts) ≡ part_comes ts
part_skip x ts fits =
    let one = one_name x.name in
    let said : l.label.spelling x ++ ts ≡ one.0 ∷ sign_at x.colon s.Colon ∷ ts = ap (λ (m : List Token). (m ++ sign_at x.colon s.Colon ∷ []) ++ ts) one.1 in
    ap part_comes said ∙ skip_by one.0 (sign_at x.colon s.Colon) ts (ap label_comes (sym said) ∙ label_comes_at x ts fits)

skip_all : (xs : List Label) (ts : List Token) → Labels_fit xs → part_comes (label_list xs ++ ts) ≡ part_comes ts
skip_all [] ts fits = refl
skip_all (x ∷ xs) ts fits = ap part_comes (append_assoc (l.label.spelling x) (label_list xs) ts) ∙ part_skip x (label_list xs ++ ts) fits.0 ∙ skip_all xs ts fits.1

at_case : (ts : List Token) → starts class_of case_codes ts ≡ true → part_comes ts ≡ true
at_case [] on = absurd cc
at_case (t ∷ []) on = on
at_case (t ∷ u ∷ ts) on = or_left (has case_codes (class_of t)) _ on

part_then : (a c : Token) (ts : List Token) → has case_codes (class_of a) ≡ false → part_comes (a ∷ c ∷ ts) ≡ true → (has names (class_of a) ≡ true) × (has (these s.Colon) (class_of c) ≡ true)
part_then a c ts off on = elim (or_cases (has case_codes (class_of a)) _ on) [
  | inl h ↦ clash (has case_codes (class_of a)) h off
  | inr h ↦ and_both (has names (class_of a)) (has (these s.Colon) (class_of c)) (and_both (has names (class_of a) && has (these s.Colon) (class_of c)) (part_comes ts) h).0
]

colon_no_type : (t : Token) → has type_first (class_of t) ≡ true → has (these s.Colon) (class_of t) ≡ true → ⊥
colon_no_type t on h = (apart {xs = type_first} {ys = these s.Colon} refl).never_both (class_of t) on h

name_label : (a : Token) → has names (class_of a) ≡ true → l.label.front (a ∷ [])
name_label a on = inl (inr (name_of a, sym (name_said a on)))

-- a list that begins a label, where no label comes, is a name
abbrev on_text_at : Place → Token
on_text_at place = record { kind = tk.Identifier; place = place; lexeme = on_text }

abbrev LabelFront : List Token → Type 0
LabelFront = (many l.label).front

one_name_only : (m w : List Token) → label_comes (m ++ w) ≡ false → LabelFront m → (m ≡ []) ⊎ ((a : Token) × (m ≡ a ∷ []) × (has names (class_of a) ≡ true))
one_name_only m w off ([], more, fits, e, f) = single m (subst l.label.front (sym e) f) off where
  single : (m : List Token) → l.label.front m → label_comes (m ++ w) ≡ false → (m ≡ []) ⊎ ((a : Token) × (m ≡ a ∷ []) × (has names (class_of a) ≡ true))
  single [] f off = inl refl
  single (a ∷ []) f off = inr (a, refl, label_reads.firsts a [] f)
  single (a ∷ c ∷ m) f off = clash (label_comes (a ∷ c ∷ m)) (label_two a c m f) off
one_name_only m w off (y ∷ ys, more, fits, e, f) =
    clash (label_comes (m ++ w)) (ap label_comes (ap (λ (k : List Token). k ++ w) (e ∙ append_assoc (l.label.spelling y) (label_list ys) more) ∙ append_assoc (l.label.spelling y) (label_list ys ++ more) w) ∙ label_comes_at y ((label_list ys ++ more) ++ w) fits.0.0) off

-- ---- statements with their labels, and parts with theirs

module _ {read : Reader Token Stmt} {u : Phrase Stmt} {first : List ℕ} {level : Stmt → Option ℕ} {still_of : Stmt → List ℕ} (U : ReadsBegun read u first level still_of) (named : Within names first) (bare_off : Apart first case_codes)
    (no_label : (a c : Token) (ts : List Token) → has names (class_of a) ≡ true → has (these s.Colon) (class_of c) ≡ true → u.front (a ∷ c ∷ ts) → ⊥)
    (no_name : (x : Stmt) (a : Token) → u.Fits x → u.spelling x ≡ a ∷ [] → has names (class_of a) ≡ true → ⊥)
    (p : Phrase Stmt) (labelled : (x : Stmt) → p.Fits x → (xs : List Label) × (y : Stmt) × Labels_fit xs × u.Fits y × (p.spelling x ≡ label_list xs ++ u.spelling y))
    (out : (ts : List Token) → p.front ts → (many l.label ~ u).front ts) (into : (ts : List Token) → (many l.label ~ u).front ts → p.front ts)
    (p_firsts : (t : Token) (ts : List Token) → p.front (t ∷ ts) → has stmt_first (class_of t) ≡ true) (p_begins : (x : Stmt) (rest : List Token) → p.Fits x → stmt_comes (p.spelling x ++ rest) ≡ true)
    {R : Type 0} (r : Phrase R) (r_firsts : (t : Token) (ts : List Token) → r.front (t ∷ ts) → has case_codes (class_of t) ≡ true) (r_begins : (y : R) (rest : List Token) → r.Fits y → starts class_of case_codes (r.spelling y ++ rest) ≡ true)
    (next : List ℕ) where
  abbrev Q : Phrase (Option (List Label × R))
  Q = opt (many l.label ~ r)

  abbrev test : List Token → Bool
  test = stmt_in_part_comes

  bare_case : (a : Token) (ts : List Token) → u.front (a ∷ ts) → has case_codes (class_of a) ≡ false
  bare_case a ts f = not_true (has case_codes (class_of a)) (λ h. bare_off.never_both (class_of a) (U.laws.firsts a ts f) h)

  bare_no_part : (y : Stmt) (w : List Token) → u.Fits y → part_comes (u.spelling y ++ w) ≡ false
  bare_no_part y w fits = of (u.spelling y) refl where
    of : (m : List Token) → u.spelling y ≡ m → part_comes (m ++ w) ≡ false
    of [] e = absurd (one_filled U y fits e)
    of (a ∷ []) e = single w where
      off : has case_codes (class_of a) ≡ false
      off = bare_case a [] (subst u.front e (one_whole U y fits))

      single : (w : List Token) → part_comes (a ∷ w) ≡ false
      single [] = off
      single (c ∷ w) = not_true (part_comes (a ∷ c ∷ w)) (λ on. no_name y a fits e (part_then a c w off on).0)
    of (a ∷ c ∷ m) e =
        let f : u.front (a ∷ c ∷ m) = subst u.front e (one_whole U y fits) in
        not_true (part_comes (a ∷ c ∷ (m ++ w))) (λ on. let b = part_then a c (m ++ w) (bare_case a (c ∷ m) f) on in no_label a c m b.0 b.1 f)

  no_part_at : (x : Stmt) (w : List Token) → p.Fits x → part_comes (p.spelling x ++ w) ≡ false
  no_part_at x w fits =
      let v = labelled x fits in
      ap (λ (m : List Token). part_comes (m ++ w)) v.4 ∙ ap part_comes (append_assoc (label_list v.0) (u.spelling v.1) w) ∙ skip_all v.0 (u.spelling v.1 ++ w) v.2 ∙ bare_no_part v.1 w v.3

  statement : (x : Stmt) (w : List Token) → p.Fits x → test (p.spelling x ++ w) ≡ true
  statement x w fits = and_true (stmt_comes (p.spelling x ++ w)) (not (part_comes (p.spelling x ++ w))) (p_begins x w fits) (ap not (no_part_at x w fits))

  -- where the test holds no part comes
  no_part_by : (ts : List Token) → test ts ≡ true → part_comes ts ≡ false
  no_part_by ts on = flip (part_comes ts) (and_both (stmt_comes ts) (not (part_comes ts)) on).1 where
    flip : (b : Bool) → not b ≡ true → b ≡ false
    flip true e = absurd cc
    flip false e = refl

  part_by : (t : Token) (ts : List Token) → test (t ∷ ts) ≡ false → has stmt_first (class_of t) ≡ true → part_comes (t ∷ ts) ≡ true
  part_by t ts off on = flip (part_comes (t ∷ ts)) (ap (λ (b : Bool). b && not (part_comes (t ∷ ts))) (sym on) ∙ off) where
    flip : (b : Bool) → not b ≡ false → b ≡ true
    flip true e = refl
    flip false e = absurd cc

  rest_part : (xs : List Label) (b : Token) (m w : List Token) → Labels_fit xs → r.front (b ∷ m) → part_comes (label_list xs ++ (b ∷ (m ++ w))) ≡ true
  rest_part xs b m w fits f = skip_all xs (b ∷ (m ++ w)) fits ∙ at_case (b ∷ (m ++ w)) (r_firsts b m f)

  labels_in : (m : List Token) → LabelFront m → p.front m
  labels_in m f = into m (inl f)

  goes_on : (z w : List Token) (t : Token) → test ((z ++ t ∷ []) ++ w) ≡ true → Q.front (z ++ t ∷ []) → p.front (z ++ t ∷ [])
  goes_on z w t on (inl f) = labels_in (z ++ t ∷ []) f
  goes_on z w t on (inr (xs, [], fits, go, e, f)) = labels_in (z ++ t ∷ []) (xs, [], each xs fits, e, label_reads.none)
  goes_on z w t on (inr (xs, b ∷ more, fits, go, e, f)) =
      clash (part_comes ((z ++ t ∷ []) ++ w)) (ap part_comes (ap (λ (m : List Token). m ++ w) e ∙ append_assoc (label_list xs) (b ∷ more) w) ∙ rest_part xs b more w fits f) (no_part_by ((z ++ t ∷ []) ++ w) on)

  stops_by : (t : Token) (z w : List Token) → part_comes (t ∷ (z ++ w)) ≡ true → (many l.label ~ u).front (t ∷ z) → Q.front (t ∷ z)
  stops_by t z w on (inl f) = inl f
  stops_by t z w on (inr (xs, [], fits, go, e, f)) = inl (xs, [], each xs fits, e, label_reads.none)
  stops_by t z w on (inr (xs, b ∷ [], fits, go, e, f)) = inl (xs, b ∷ [], each xs fits, e, name_label b (behind w here)) where
    here : part_comes (b ∷ w) ≡ true
    here = sym (ap part_comes (ap (λ (m : List Token). m ++ w) e ∙ append_assoc (label_list xs) (b ∷ []) w) ∙ skip_all xs (b ∷ w) fits) ∙ on

    behind : (w : List Token) → part_comes (b ∷ w) ≡ true → has names (class_of b) ≡ true
    behind [] h = clash (has case_codes (class_of b)) h (bare_case b [] f)
    behind (c ∷ w) h = (part_then b c w (bare_case b [] f) h).0
  stops_by t z w on (inr (xs, b ∷ c ∷ more, fits, go, e, f)) =
      let here : part_comes (b ∷ c ∷ (more ++ w)) ≡ true = sym (ap part_comes (ap (λ (m : List Token). m ++ w) e ∙ append_assoc (label_list xs) (b ∷ c ∷ more) w) ∙ skip_all xs (b ∷ c ∷ (more ++ w)) fits) ∙ on in
      let k = part_then b c (more ++ w) (bare_case b (c ∷ more) f) here in
      absurd (no_label b c more k.0 k.1 f)

  stops : (z w : List Token) → test (z ++ w) ≡ false → p.front z → Q.front z
  stops [] w off f = inl ([], [], tt, refl, label_reads.none)
  stops (t ∷ z) w off f = stops_by t z w (part_by t (z ++ w) off (p_firsts t z f)) (out (t ∷ z) f)

  on_stmt : (t : Token) → has (on_code ∷ []) (class_of t) ≡ true → has stmt_first (class_of t) ≡ true
  on_stmt t on = (inside {xs = on_code ∷ []} {ys = stmt_first} refl).in_second (class_of t) on

  on_name : (t : Token) → has (on_code ∷ []) (class_of t) ≡ true → has names (class_of t) ≡ true
  on_name t on = (inside {xs = on_code ∷ []} {ys = names} refl).in_second (class_of t) on

  second_type : (o : Option ℕ) (t c : Token) (z : List Token) → Begins o (t ∷ c ∷ z) → has type_first (class_of c) ≡ true
  second_type None t c z e = absurd cc
  second_type (Some k) t c z f = (types_read_at k).type.firsts c z (on_second k t c z f)

  begun_by : (o : Option ℕ) (z w : List Token) → test (z ++ w) ≡ false → Begins o z → Q.front z
  begun_by o [] w off b = inl ([], [], tt, refl, label_reads.none)
  begun_by o (t ∷ []) w off b = inl ([], t ∷ [], tt, refl, name_label t (on_name t (begins_on o t [] b)))
  begun_by o (t ∷ c ∷ z) w off b =
      let on = begins_on o t (c ∷ z) b in
      let k = part_then t c (z ++ w) (names_off t (on_name t on)) (part_by t (c ∷ (z ++ w)) off (on_stmt t on)) in
      absurd (colon_no_type c (second_type o t c z b) k.1)

  -- ---- no part begins with a statement

  label_ends : (y : Stmt) (z : List Token) → u.Fits y → LabelFront (u.spelling y ++ z) → ⊥
  label_ends y z fits f = elim (one_name_only (u.spelling y ++ z) [] (ap label_comes (append-nil (u.spelling y ++ z)) ∙ no_label_comes U named no_label no_name y z fits) f) as (λ _. ⊥) [
    | inl e ↦ one_filled U y fits (both_empty (u.spelling y) z e).0
    | inr v ↦ of (u.spelling y) refl v.0 v.1 v.2
  ] where
    of : (m : List Token) → u.spelling y ≡ m → (a : Token) → u.spelling y ++ z ≡ a ∷ [] → has names (class_of a) ≡ true → ⊥
    of [] e a h n = one_filled U y fits e
    of (b ∷ []) e a h n = let full : b ∷ z ≡ a ∷ [] = ap (λ (m : List Token). m ++ z) (sym e) ∙ h in let is : a ≡ b = cc in no_name y b fits e (subst (λ (c : Token). has names (class_of c) ≡ true) is n)
    of (b ∷ c ∷ m) e a h n = let full : b ∷ c ∷ (m ++ z) ≡ a ∷ [] = ap (λ (k : List Token). k ++ z) (sym e) ∙ h in absurd cc

  rest_ends : (y : Stmt) (z : List Token) → u.Fits y → r.front (u.spelling y ++ z) → ⊥
  rest_ends y z fits f = of (u.spelling y) refl where
    of : (m : List Token) → u.spelling y ≡ m → ⊥
    of [] e = one_filled U y fits e
    of (b ∷ m) e = bare_off.never_both (class_of b) (U.laws.firsts b m (subst u.front e (one_whole U y fits))) (r_firsts b (m ++ z) (subst r.front (ap (λ (k : List Token). k ++ z) e) f))

  bare_over : (y : Stmt) (z : List Token) → u.Fits y → (many l.label ~ r).front (u.spelling y ++ z) → ⊥
  bare_over y z fits (inl f) = label_ends y z fits f
  bare_over y z fits (inr ([], more, all, go, e, f)) = rest_ends y z fits (subst r.front (sym e) f)
  bare_over y z fits (inr (x ∷ xs, more, all, go, e, f)) =
      clash (label_comes (u.spelling y ++ z)) (ap label_comes (e ∙ append_assoc (l.label.spelling x) (label_list xs) more) ∙ label_comes_at x (label_list xs ++ more) all.0) (no_label_comes U named no_label no_name y z fits)

  no_rest : (ts : List Token) → label_comes ts ≡ true → r.front ts → ⊥
  no_rest [] on f = absurd cc
  no_rest (a ∷ []) on f = absurd cc
  no_rest (a ∷ c ∷ ts) on f = (apart {xs = names} {ys = case_codes} refl).never_both (class_of a) (and_both (has names (class_of a)) (has (these s.Colon) (class_of c)) on).0 (r_firsts a (c ∷ ts) f)

  step : (x : Label) → l.label.Fits x → (z : List Token) → (many l.label ~ r).front (l.label.spelling x ++ z) → (many l.label ~ r).front z
  step x fx z (inl f) = inl (peel label_comes label_reads refl label_comes_at x fx z f)
  step x fx z (inr ([], more, fits, on, e, f)) = absurd (no_rest (l.label.spelling x ++ z) (label_comes_at x z fx) (subst r.front (sym e) f))
  step x fx z (inr (y ∷ ys, more, fits, on, e, f)) =
      elim (cut (l.label.spelling x) z (l.label.spelling y) (label_list ys ++ more) (e ∙ append_assoc (l.label.spelling y) (label_list ys) more)) as (λ _. (many l.label ~ r).front z) [
        | same a b ↦ inr (ys, more, fits.1, refl, b, f)
        | longer t m a b ↦ absurd (nothing_next label_comes label_reads refl label_comes_at x t m fx (subst l.label.front a (label_reads.whole y fits.0)))
        | shorter t m a b ↦ absurd (nothing_next label_comes label_reads refl label_comes_at y t m fits.0 (subst l.label.front a (label_reads.whole x fx)))
      ]

  steps : (xs : List Label) → Labels_fit xs → (z : List Token) → (many l.label ~ r).front (label_list xs ++ z) → (many l.label ~ r).front z
  steps [] fits z f = f
  steps (x ∷ xs) fits z f = steps xs fits.1 z (step x fits.0 (label_list xs ++ z) (subst (many l.label ~ r).front (append_assoc (l.label.spelling x) (label_list xs) z) f))

  over : (x : Stmt) (z : List Token) → p.Fits x → Q.front (p.spelling x ++ z) → ⊥
  over x z fits f =
      let v = labelled x fits in
      bare_over v.1 z v.3 (steps v.0 v.2 (u.spelling v.1 ++ z) (subst (many l.label ~ r).front (ap (λ (m : List Token). m ++ z) v.4 ∙ append_assoc (label_list v.0) (u.spelling v.1) z) f))

  -- ---- what stands behind the statements

  other : (y : Option (List Label × R)) (w : List Token) → Q.Fits y → Stops class_of (behind_run part_codes_first next) w → test (Q.spelling y ++ w) ≡ false
  other None w fits stop = ap (λ (b : Bool). b && not (part_comes w)) (stops_within class_of stmt_first (behind_run part_codes_first next) (λ k h. has_left (stmt_first ++ (part_codes_first ++ still)) next k (has_left stmt_first (part_codes_first ++ still) k h)) w stop)
  other (Some (xs, y)) w fits stop =
      and_false (stmt_comes ((label_list xs ++ r.spelling y) ++ w)) (not (part_comes ((label_list xs ++ r.spelling y) ++ w)))
      (ap not (ap part_comes (append_assoc (label_list xs) (r.spelling y) w) ∙ skip_all xs (r.spelling y ++ w) fits.0 ∙ at_case (r.spelling y ++ w) (r_begins y w fits.1)))

  on_label : (k : ℕ) (ts : List Token) → (on_phrase k).front ts → label_comes ts ≡ true → ⊥
  on_label k [] f on = absurd cc
  on_label k (a ∷ []) f on = absurd cc
  on_label k (a ∷ c ∷ ts) f on = colon_no_type c (second_type (Some k) a c ts f) (and_both (has names (class_of a)) (has (these s.Colon) (class_of c)) on).1

  on_case : (k : ℕ) (ts : List Token) → (on_phrase k).front ts → starts class_of case_codes ts ≡ true → ⊥
  on_case k [] f on = absurd cc
  on_case k (a ∷ ts) f on = (apart {xs = on_code ∷ []} {ys = case_codes} refl).never_both (class_of a) (begins_on (Some k) a ts f) on

  no_part_of : (k : ℕ) (a b : Token) (m : List Token) → has (on_code ∷ []) (class_of a) ≡ true → has type_first (class_of b) ≡ true → Q.front (a ∷ b ∷ m) → ⊥
  no_part_of k a b m on tb (inl f) = elim (one_name_only (a ∷ b ∷ m) [] (not_true (label_comes (a ∷ b ∷ (m ++ []))) (λ h. colon_no_type b tb (and_both (has names (class_of a)) (has (these s.Colon) (class_of b)) h).1)) f) as (λ _. ⊥) [
    | inl e ↦ absurd cc
    | inr v ↦ let bad : a ∷ b ∷ m ≡ v.0 ∷ [] = v.1 in absurd cc
  ]
  no_part_of k a b m on tb (inr ([], more, fits, go, e, f)) = (apart {xs = on_code ∷ []} {ys = case_codes} refl).never_both (class_of a) on (r_firsts a (b ∷ m) (subst r.front (sym e) f))
  no_part_of k a b m on tb (inr (x ∷ xs, more, fits, go, e, f)) =
      colon_no_type b tb (and_both (has names (class_of a)) (has (these s.Colon) (class_of b)) (ap label_comes (e ∙ append_assoc (l.label.spelling x) (label_list xs) more) ∙ label_comes_at x (label_list xs ++ more) fits.0)).1

  no_part : (k : ℕ) (x : Place × TypeNode) (t : Token) → (on_phrase k).Fits x → has body_codes (class_of t) ≡ true → Q.front ((on_phrase k).spelling x ++ t ∷ []) → ⊥
  no_part k (place, of) t fits body f = by ((type_within k).spelling of) refl where
    by : (m : List Token) → (type_within k).spelling of ≡ m → ⊥
    by [] e = clash false ((types_read_at k).type.empties of fits.1 e) refl
    by (b ∷ m) e = no_part_of k _ b (m ++ t ∷ []) ((on_reads k).firsts _ ((type_within k).spelling of) ((on_reads k).whole (place, of) fits)) ((types_read_at k).type.firsts b m (subst (type_within k).front e ((types_read_at k).type.whole of fits.1)))
        (subst (λ (c : List Token). Q.front (on_text_at place ∷ (c ++ t ∷ []))) e f)

  not_begun : (k : ℕ) (y : Option (List Label × R)) (t : Token) (ts : List Token) → Q.Fits y → Q.spelling y ≡ t ∷ ts → (on_phrase k).front (Q.spelling y) → ⊥
  not_begun k None t ts fits e f = absurd cc
  not_begun k (Some ([], y)) t ts fits e f = on_case k (r.spelling y) f (ap (starts class_of case_codes) (sym (append-nil (r.spelling y))) ∙ r_begins y [] fits.1)
  not_begun k (Some (x ∷ xs, y)) t ts fits e f =
      on_label k ((l.label.spelling x ++ label_list xs) ++ r.spelling y) f (ap label_comes (append_assoc (l.label.spelling x) (label_list xs) (r.spelling y)) ∙ label_comes_at x (label_list xs ++ r.spelling y) fits.0.0)

  pub ends_run : Ends_run p stmt_in_part_comes (opt (many l.label ~ r)) part_codes_first next
  ends_run = record {
    none = refl;
    goes_on = goes_on;
    stops = stops;
    begun = begun_by;
    over = over;
    statement = statement;
    other = other;
    no_part = no_part;
    not_begun = not_begun;
  }
