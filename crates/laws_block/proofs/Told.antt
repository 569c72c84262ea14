-- Items that a test of what comes tells (`many_where`), where nothing goes on behind an item.
use Rattle.std.proofs.Common.{◌≡◌, ℕ, zero, suc, ◌<◌, ◌≤◌, Bool, true, false, if◌then◌else◌, inl, inr, List, [], ◌∷◌, ◌++◌, length, Ok, Err, refl, sym, ap, subst, ◌∙◌, append_assoc, arith}
use Rattle.std.specs.List.{flat_map, AllByRecursion}
use Rattle.dart_token.specs.declared.token.Token.{Token}
use Rattle.grammar_laws.specs.Codes.{has, nowhere, after_list}
use Rattle.grammar_laws.specs.Readers.{Outcome, Reader, and_then, cons_to, always, many as many_reader}
use Rattle.grammar_laws.specs.Fronts.{Front, EachFit}
use Rattle.grammar_laws.specs.Laws.{Laws, Stuck}
use Rattle.grammar_laws.proofs.Codes.{apart_none, clash}
use Rattle.grammar_laws.proofs.Cuts.{same, longer, shorter, cut, gave, failed, then_ok, then_err, same_value, same_rest, fewer}
use Rattle.grammar_laws.proofs.Repeated.{many_laws}
use Rattle.grammar_laws.proofs.Tried.{stops_nowhere}
use Rattle.dart_syntax.specs.Phrases.{Phrase, many}
use Rattle.token_codes.specs.Codes.{class_of}
use Rattle.token_codes.specs.Reads.{Reads}
use Rattle.syntax_readers.specs.Combinators.{many_where_turns}
use Rattle.laws_block.proofs.Faults.{by_one}

module _ {A : Type 0} (comes : List Token → Bool) {item : Reader Token A} {q : Phrase A} {first : List ℕ} (P : Reads item q first nowhere false)
    (none_comes : comes [] ≡ false) (comes_at : (x : A) (rest : List Token) → q.Fits x → comes (q.spelling x ++ rest) ≡ true) where
  abbrev L : Front Token
  L = (many q).front

  abbrev F : List A → Type 0
  F = AllByRecursion q.Fits

  abbrev tokens : List A → List Token
  tokens = flat_map q.spelling

  pub plain_laws : Laws class_of (many_reader class_of always first item) (flat_map q.spelling) (EachFit q.Fits always) (many q).front first (after_list first always nowhere) true
  plain_laws = many_laws P always (λ x fits go. apart_none first)

  pub nothing_next : (x : A) (t : Token) (ts : List Token) → q.Fits x → q.front (q.spelling x ++ t ∷ ts) → ⊥
  nothing_next x t ts fits f = none (class_of t) (P.nexts x t ts fits f) where
    none : (n : ℕ) → has [] n ≡ true → ⊥
    none n e = cc

  pub reads : (x : A) (rest : List Token) → q.Fits x → item (q.spelling x ++ rest) ≡ Ok (x, rest)
  reads x rest fits = P.complete x rest fits (stops_nowhere class_of rest)

  pub filled : (x : A) → q.Fits x → q.spelling x ≡ [] → ⊥
  filled x fits e = clash false (P.empties x fits e) refl

  -- ---- fronts of lists

  pub peel : (x : A) → q.Fits x → (z : List Token) → L (q.spelling x ++ z) → L z
  peel x fx [] f = plain_laws.none
  peel x fx (t ∷ z) ([], more, fits, e, f) = absurd (nothing_next x t z fx (subst q.front (sym e) f))
  peel x fx (t ∷ z) (y ∷ ys, more, fits, e, f) =
      elim (cut (q.spelling x) (t ∷ z) (q.spelling y) (tokens ys ++ more) (e ∙ append_assoc (q.spelling y) (tokens ys) more)) as (λ _. L (t ∷ z)) [
        | same u v ↦ (ys, more, fits.1, v, f)
        | longer s m u v ↦ absurd (nothing_next x s m fx (subst q.front u (P.whole y fits.0.0)))
        | shorter s m u v ↦ absurd (nothing_next y s m fits.0.0 (subst q.front u (P.whole x fx)))
      ]

  pub peel_all : (xs : List A) → F xs → (z : List Token) → L (tokens xs ++ z) → L z
  peel_all [] fits z f = f
  peel_all (x ∷ xs) fits z f = peel_all xs fits.1 z (peel x fits.0 (tokens xs ++ z) (subst L (append_assoc (q.spelling x) (tokens xs) z) f))

  pub item_stuck : (ts rest : List Token) → item ts ≡ Err rest → Stuck L ts rest
  item_stuck ts rest e = at (P.fault ts rest e) where
    never : (y : A) (u : List Token) → ts ≡ q.spelling y ++ u → q.Fits y → ⊥
    never y u is fits = let bad : failed {A = A} rest ≡ gave y u = sym e ∙ ap item is ∙ reads y u fits in absurd cc

    no_further : (c : Stuck q.front ts rest) (t : Token) (more : List Token) → rest ≡ t ∷ more → L (c.0 ++ t ∷ []) → ⊥
    no_further c t more is ([], m, fits, g, f) = c.3 t more is (subst q.front (sym g) f)
    no_further c t more is (y ∷ ys, m, fits, g, f) =
        elim (cut c.0 (t ∷ []) (q.spelling y) (tokens ys ++ m) (g ∙ append_assoc (q.spelling y) (tokens ys) m)) as (λ _. ⊥) [
          | same u v ↦ never y rest (c.1 ∙ ap (λ (a : List Token). a ++ rest) u) fits.0.0
          | longer s z u v ↦
              let first : t ≡ s = cc in
              c.3 t more is (subst (λ (b : Token). q.front (c.0 ++ b ∷ [])) (sym first) (by_one P.closed c.0 s z (subst q.front u (P.whole y fits.0.0))))
          | shorter s z u v ↦ never y (s ∷ (z ++ rest)) (c.1 ∙ ap (λ (a : List Token). a ++ rest) u ∙ append_assoc (q.spelling y) (s ∷ z) rest) fits.0.0
        ]

    at : Stuck q.front ts rest → Stuck L ts rest
    at c = (c.0, c.1, ([], c.0, tt, refl, c.2), λ t more is j. no_further c t more is j)

  -- ---- turns

  abbrev pub turns : ℕ → Reader Token (List A)
  turns = many_where_turns comes item

  abbrev goes_on : ℕ → A → Reader Token (List A)
  goes_on m x mid = cons_to x (turns m mid)

  abbrev turn : ℕ → Bool → Reader Token (List A)
  turn m c ts = if c then and_then (item ts) (goes_on m) else Ok ([], ts)

  abbrev consed : A → List A → Reader Token (List A)
  consed x xs rest = Ok (x ∷ xs, rest)

  less : (m : ℕ) (ts : List Token) (x : A) (mid : List Token) → item ts ≡ Ok (x, mid) → length ts ≤ suc m → length mid ≤ m
  less m ts x mid e few =
      let l = P.sound ts x mid e in
      let f : length mid < suc m = fewer (q.spelling x) mid (suc m) (λ b. filled x l.0 b) (subst (λ (a : List Token). length a ≤ suc m) l.1 few) in
      omega (arith, f)

  abbrev pub Read : List Token → List A → List Token → Type 0
  Read ts xs mid = F xs × (ts ≡ tokens xs ++ mid) × (comes mid ≡ false)

  none_read : (ts : List Token) (xs : List A) (mid : List Token) → comes ts ≡ false → gave [] ts ≡ gave xs mid → Read ts xs mid
  none_read ts xs mid off h =
      let e : [] ≡ xs = same_value [] xs ts mid h in
      let r : ts ≡ mid = same_rest [] xs ts mid h in
      (subst F e tt, r ∙ ap (λ (l : List A). tokens l ++ mid) e, ap comes (sym r) ∙ off)

  abbrev pub Sound : ℕ → Type 0
  Sound m = (ts : List Token) (xs : List A) (mid : List Token) → length ts ≤ m → turns m ts ≡ Ok (xs, mid) → Read ts xs mid

  sound_turn : (m : ℕ) → Sound m → (ts : List Token) (xs : List A) (mid : List Token) (c : Bool) → comes ts ≡ c → length ts ≤ suc m → turn m c ts ≡ Ok (xs, mid) → Read ts xs mid
  sound_turn m before ts xs mid false off few h = none_read ts xs mid off h
  sound_turn m before ts xs mid true on few h =
      let v = then_ok (item ts) (goes_on m) xs mid h in
      let u = then_ok (turns m v.1) (consed v.0) xs mid v.3 in
      let l = P.sound ts v.0 v.1 v.2 in
      let b = before v.1 u.0 u.1 (less m ts v.0 v.1 v.2 few) u.2 in
      let is : v.0 ∷ u.0 ≡ xs = same_value (v.0 ∷ u.0) xs u.1 mid u.3 in
      let ends : u.1 ≡ mid = same_rest (v.0 ∷ u.0) xs u.1 mid u.3 in (
        subst F is (l.0, b.0),
        l.1 ∙ ap (λ (a : List Token). q.spelling v.0 ++ a) b.1 ∙ sym (append_assoc (q.spelling v.0) (tokens u.0) u.1) ∙ ap (λ (a : List Token). tokens (v.0 ∷ u.0) ++ a) ends ∙ ap (λ (a : List A). tokens a ++ mid) is,
        ap comes (sym ends) ∙ b.2,
      )

  pub sound_turns : (m : ℕ) → Sound m
  sound_turns zero [] xs mid few h = none_read [] xs mid none_comes h
  sound_turns zero (t ∷ ts) xs mid few h = absurd (omega arith)
  sound_turns (suc m) ts xs mid few h = sound_turn m (sound_turns m) ts xs mid (comes ts) refl few h

  abbrev pub Fault : ℕ → Type 0
  Fault m = (ts rest : List Token) → length ts ≤ m → turns m ts ≡ Err rest → Stuck L ts rest

  pub list_behind : (x : A) → q.Fits x → (z : List Token) → L z → L (q.spelling x ++ z)
  list_behind x fits z (all, more, fs, e, f) = (x ∷ all, more, ((fits, refl), fs), ap (λ (m : List Token). q.spelling x ++ m) e ∙ sym (append_assoc (q.spelling x) (tokens all) more), f)

  behind_one : (ts rest : List Token) (x : A) (mid : List Token) → item ts ≡ Ok (x, mid) → Stuck L mid rest → Stuck L ts rest
  behind_one ts rest x mid e c =
      let l = P.sound ts x mid e in (
        q.spelling x ++ c.0,
        l.1 ∙ ap (λ (a : List Token). q.spelling x ++ a) c.1 ∙ sym (append_assoc (q.spelling x) c.0 rest),
        list_behind x l.0 c.0 c.2,
        λ t more is j. c.3 t more is (peel x l.0 (c.0 ++ t ∷ []) (subst L (append_assoc (q.spelling x) c.0 (t ∷ [])) j)),
      )

  fault_turn : (m : ℕ) → Fault m → (ts rest : List Token) (c : Bool) → length ts ≤ suc m → turn m c ts ≡ Err rest → Stuck L ts rest
  fault_turn m before ts rest false few h = absurd cc
  fault_turn m before ts rest true few h =
      elim (then_err (item ts) (goes_on m) rest h) as (λ _. Stuck L ts rest) [
        | inl e ↦ item_stuck ts rest e
        | inr v ↦ elim (then_err (turns m v.1) (consed v.0) rest v.3) as (λ _. Stuck L ts rest) [
          | inl e ↦ behind_one ts rest v.0 v.1 v.2 (before v.1 rest (less m ts v.0 v.1 v.2 few) e)
          | inr e ↦ absurd cc
        ]
      ]

  pub fault_turns : (m : ℕ) → Fault m
  fault_turns zero ts rest few h = absurd cc
  fault_turns (suc m) ts rest few h = fault_turn m (fault_turns m) ts rest (comes ts) few h

  pub complete_turns : (m : ℕ) (xs : List A) (rest : List Token) → length (tokens xs ++ rest) ≤ m → F xs → comes rest ≡ false → turns m (tokens xs ++ rest) ≡ Ok (xs, rest)
  complete_turns zero [] rest few fits off = refl
  complete_turns (suc m) [] rest few fits off = ap (λ (c : Bool). turn m c rest) off
  complete_turns zero (x ∷ xs) rest few fits off =
      absurd (omega (arith, fewer (q.spelling x) (tokens xs ++ rest) 0 (λ b. filled x fits.0 b) (subst (λ (a : List Token). length a ≤ 0) (append_assoc (q.spelling x) (tokens xs) rest) few)))
  complete_turns (suc m) (x ∷ xs) rest few fits off =
      let group = append_assoc (q.spelling x) (tokens xs) rest in
      let f : length (tokens xs ++ rest) < suc m = fewer (q.spelling x) (tokens xs ++ rest) (suc m) (λ b. filled x fits.0 b) (subst (λ (a : List Token). length a ≤ suc m) group few) in
      ap (turns (suc m)) group ∙ ap (λ (c : Bool). turn m c (q.spelling x ++ (tokens xs ++ rest))) (comes_at x (tokens xs ++ rest) fits.0)
      ∙ ap (λ (r : Outcome Token A). and_then r (goes_on m)) (reads x (tokens xs ++ rest) fits.0) ∙ ap (λ (r : Outcome Token (List A)). and_then r (consed x)) (complete_turns m xs rest (omega (arith, f)) fits.1 off)
