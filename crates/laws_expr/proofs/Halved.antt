-- The law of a reader that takes the first `>` behind a tree, where its own reader leaves it.
use Rattle.std.proofs.Common.{◌≡◌, ℕ, Bool, true, false, ◌&&◌, List, [], ◌∷◌, ◌++◌, None, Some, Ok, Err, ◌⊎◌, inl, inr, refl, ap, sym, ◌∙◌, subst, append_assoc}
use Rattle.std.proofs.lemmas.List.{append-nil}
use Rattle.dart_base.specs.declared.place.Place.{Place}
use Rattle.dart_token.specs.declared.token.Token.{Token}
use Rattle.dart_token.specs.declared.sign.Sign.TheVariants as s
use Rattle.dart_tree.specs.LeafTokens.{sign_at}
use Rattle.grammar_laws.specs.Codes.{has, given}
use Rattle.grammar_laws.specs.Readers.{Outcome, Reader, and_then, starts, when}
use Rattle.grammar_laws.specs.Halves.{no_half}
use Rattle.grammar_laws.specs.Fronts.{Front, Joint}
use Rattle.grammar_laws.specs.Laws.{Laws, Stops, Stuck}
use Rattle.grammar_laws.proofs.Codes.{clash, has_left, has_right, has_given, and_both, and_true}
use Rattle.grammar_laws.proofs.Cuts.{gave, failed, same_value, same_rest, same, longer, shorter, cut, both_empty}
use Rattle.grammar_laws.proofs.Joints.{one_reading, stops_within}
use Rattle.dart_syntax.specs.Leaves as l
use Rattle.token_codes.specs.Codes.{class_of, these}
use Rattle.token_codes.specs.Leaves.{sign}
use Rattle.token_codes.proofs.Leaves.{sign_reads}
use Rattle.token_codes.proofs.Only.{only_sign}
use Rattle.grammar_laws.proofs.Tried.{stops_nowhere}
use Rattle.syntax_readers.specs.Combinators.{Open, take_half, halved}
use Rattle.laws_expr.proofs.Open.{OpenLaws, Settled, open_spelling, half_tokens, after_open, behind, half_said}

abbrev is_greater : Token → Bool
is_greater t = has (these s.Greater) (class_of t)

greater_code : (g : Place) → has (these s.Greater) (class_of (sign_at g s.Greater)) ≡ true
unfolding class_of
greater_code g = refl

-- two lists that end in one token each
last_same : {T : Type 0} (a b : List T) (t u : T) → a ++ t ∷ [] ≡ b ++ u ∷ [] → (a ≡ b) × (t ≡ u)
last_same [] [] t u e = (refl, cc)
last_same [] (v ∷ b) t u e = let tails : [] ≡ b ++ u ∷ [] = cc in let none : u ∷ [] ≡ [] = (both_empty b (u ∷ []) (sym tails)).1 in absurd cc
last_same (v ∷ a) [] t u e = let tails : a ++ t ∷ [] ≡ [] = cc in let none : t ∷ [] ≡ [] = (both_empty a (t ∷ []) tails).1 in absurd cc
last_same (v ∷ a) (w ∷ b) t u e =
    let heads : v ≡ w = cc in
    let tails : a ++ t ∷ [] ≡ b ++ u ∷ [] = cc in
    let k = last_same a b t u tails in
    (cc, k.1)

module _ {A : Type 0} {read : Reader Token (Open A)} {tokens : A → List Token} {F : A → Type 0} {front : Front Token} {first : List ℕ} {next half : A → List ℕ} (P : OpenLaws read tokens F front first next half)
    (may : A → Bool) (decide : (x : A) → F x → may x ≡ true → Settled P x) where
  abbrev pub Half : Open A → Type 0
  Half (x, None) = P.Fits (x, None)
  Half (x, Some g) = P.Fits (x, Some g) ⊎ (F x × (may x ≡ true))

  abbrev pub half_front : Front Token
  half_front = Joint tokens F may front (l.sign s.Greater).front

  abbrev pub next_half : A → List ℕ
  next_half x = next x ++ given (may x) (these s.Greater)

  abbrev plain : A → Open A
  plain x = (x, None)

  abbrev with : A → Place → Open A
  with x g = (x, Some g)

  -- ---- the laws of the tree alone, without the empty half

  alone : (x : A) (m : List Token) → open_spelling tokens (x, None) ++ m ≡ tokens x ++ m
  alone x m = ap (λ (n : List Token). n ++ m) (append-nil (tokens x))

  whole_none : (x : A) → F x → front (tokens x)
  whole_none x fits = subst front (append-nil (tokens x)) (P.laws.whole (x, None) (P.none_in x fits))

  longest_none : (ts : List Token) (x : A) (t : Token) (rest : List Token) → read ts ≡ Ok (plain x, t ∷ rest) → front (tokens x ++ t ∷ []) → ⊥
  longest_none ts x t rest e f = P.laws.longest ts (x, None) t rest e (subst front (sym (alone x (t ∷ []))) f)

  one_tree : (x y : A) → F x → F y → tokens x ≡ tokens y → x ≡ y
  one_tree x y fx fy e = ap (λ (z : Open A). z.0) (one_reading P.laws (x, None) (y, None) (P.none_in x fx) (P.none_in y fy) (append-nil (tokens x) ∙ e ∙ sym (append-nil (tokens y))))

  never_both : (x y : A) (g : Place) → P.Fits (x, Some g) → F y → tokens y ≡ tokens x ++ half_tokens g → ⊥
  never_both x y g fx fy e =
      let k : plain y ≡ with x g = one_reading P.laws (y, None) (x, Some g) (P.none_in y fy) fx (append-nil (tokens y) ∙ e) in
      let h : None ≡ Some g = ap behind k in absurd cc

  -- a list that a tree and a `>` behind it or none begin
  one_greater : (more : List Token) → (l.sign s.Greater).front more → (more ≡ []) ⊎ ((g : Place) × (more ≡ half_tokens g))
  one_greater more (inl e) = inl e
  one_greater more (inr w) = inr w

  -- where the reader stops before a `>` no front goes on with it
  abbrev Stays : A → Type 0
  Stays x = (g : Place) (ts : List Token) → read (open_spelling tokens (x, None) ++ sign_at g s.Greater ∷ ts) ≡ Ok (plain x, sign_at g s.Greater ∷ ts)

  no_more : (y : A) (k : Place) (m : List Token) → Stays y → front (tokens y ++ (half_tokens k ++ m)) → ⊥
  no_more y k m stays h = longest_none (open_spelling tokens (y, None) ++ sign_at k s.Greater ∷ []) y (sign_at k s.Greater) [] (stays k []) (P.laws.closed (tokens y ++ half_tokens k) m (subst front (sym (append_assoc (tokens y) (half_tokens k) m)) h))

  -- a half goes on in the front only where it is read
  reached : (x : A) (g : Place) (more : List Token) → Half (x, Some g) → front (tokens x ++ (half_tokens g ++ more)) → P.Fits (x, Some g)
  reached x g more (inl fits) f = fits
  reached x g more (inr (fits, on)) f = elim (decide x fits on) [
    | inl known ↦ known g
    | inr stays ↦ absurd (no_more x g more stays f)
  ]

  -- ---- what the reader gives

  abbrev takes : Open A → List Token → Bool
  takes x mid = (no_half x && may x.0) && starts class_of (these s.Greater) mid

  abbrev step : Bool → Open A → List Token → Outcome Token (Open A)
  step b x mid = and_then (and_then (when b (sign s.Greater) mid) (λ o r. Ok ((x, o), r))) (λ y r. Ok (take_half y, r))

  ran : (ts : List Token) (x : Open A) (mid : List Token) → read ts ≡ Ok (x, mid) → halved may read ts ≡ step (takes x mid) x mid
  ran ts x mid e = rw e refl

  fails : (ts rest : List Token) → read ts ≡ Err rest → halved may read ts ≡ failed rest
  fails ts rest e = rw e refl

  passed : (x : Open A) (mid : List Token) → step false x mid ≡ gave x mid
  passed (x, None) mid = refl
  passed (x, Some g) mid = refl

  taken_step : (x : A) (g : Place) (rest : List Token) → step true (x, None) (sign_at g s.Greater ∷ rest) ≡ gave (with x g) rest
  taken_step x g rest = rw ((sign_reads s.Greater).complete g rest tt (stops_nowhere class_of rest)) refl

  abbrev Kept : List Token → Open A → List Token → Type 0
  Kept ts x rest = (read ts ≡ gave x rest) × (takes x rest ≡ false)

  abbrev Took : List Token → Open A → List Token → Type 0
  Took ts x rest = (g : Place) × (x ≡ with x.0 g) × (may x.0 ≡ true) × (read ts ≡ gave (plain x.0) (sign_at g s.Greater ∷ rest))

  took : (ts : List Token) (x : A) (t : Token) (mid : List Token) (y : Open A) (rest : List Token) → read ts ≡ gave (plain x) (t ∷ mid) → may x ≡ true → is_greater t ≡ true → step true (x, None) (t ∷ mid) ≡ gave y rest → Took ts y rest
  took ts x t mid y rest e on is h =
      let token : sign_at t.place s.Greater ≡ t = only_sign s.Greater t is in
      let given : gave (with x t.place) mid ≡ gave y rest = sym (taken_step x t.place mid) ∙ ap (λ (u : Token). step true (x, None) (u ∷ mid)) token ∙ h in
      let tree : with x t.place ≡ y = same_value (with x t.place) y mid rest given in
      let ended : mid ≡ rest = same_rest (with x t.place) y mid rest given in
      (t.place, sym tree ∙ ap (λ (z : A). with z t.place) (ap (λ (z : Open A). z.0) tree), ap may (sym (ap (λ (z : Open A). z.0) tree)) ∙ on, e ∙ ap (λ (u : Token). gave (plain x) (u ∷ mid)) (sym token) ∙ ap (λ (z : A). gave (plain z) (sign_at t.place s.Greater ∷ mid)) (ap (λ (z : Open A). z.0) tree) ∙ ap (λ (m : List Token). gave (plain y.0) (sign_at t.place s.Greater ∷ m)) ended)

  inverse_by : (ts : List Token) (x : Open A) (mid : List Token) (b : Bool) (y : Open A) (rest : List Token) → read ts ≡ gave x mid → takes x mid ≡ b → step b x mid ≡ gave y rest → Kept ts y rest ⊎ Took ts y rest
  inverse_by ts x mid false y rest e off h =
      let given : gave x mid ≡ gave y rest = sym (passed x mid) ∙ h in
      let tree : x ≡ y = same_value x y mid rest given in
      let ended : mid ≡ rest = same_rest x y mid rest given in
      inl (e ∙ given, ap (λ (z : Open A). takes z rest) (sym tree) ∙ ap (takes x) (sym ended) ∙ off)
  inverse_by ts (x, None) [] true y rest e on h = let bad = (and_both (may x) false on).1 in absurd cc
  inverse_by ts (x, None) (t ∷ mid) true y rest e on h = let w = and_both (may x) (is_greater t) on in inr (took ts x t mid y rest e w.0 w.1 h)
  inverse_by ts (x, Some g) mid true y rest e on h = let bad : false ≡ true = on in absurd cc

  inverse : (ts : List Token) (y : Open A) (rest : List Token) (o : Outcome Token (Open A)) → read ts ≡ o → halved may read ts ≡ gave y rest → Kept ts y rest ⊎ Took ts y rest
  inverse ts y rest (Ok x) e h = inverse_by ts x.0 x.1 (takes x.0 x.1) y rest e refl (sym (ran ts x.0 x.1 e) ∙ h)
  inverse ts y rest (Err r) e h = let bad : failed r ≡ gave y rest = sym (fails ts r e) ∙ h in absurd cc

  step_never_fails : (x : Open A) (mid : List Token) (b : Bool) (rest : List Token) → takes x mid ≡ b → step b x mid ≡ failed rest → ⊥
  step_never_fails x mid false rest e h = let bad : gave x mid ≡ failed rest = sym (passed x mid) ∙ h in absurd cc
  step_never_fails (x, None) [] true rest e h = let bad = (and_both (may x) false e).1 in absurd cc
  step_never_fails (x, None) (t ∷ mid) true rest e h =
      let token : sign_at t.place s.Greater ≡ t = only_sign s.Greater t (and_both (may x) (is_greater t) e).1 in
      let bad : gave (with x t.place) mid ≡ failed rest = sym (taken_step x t.place mid) ∙ ap (λ (u : Token). step true (x, None) (u ∷ mid)) token ∙ h in absurd cc
  step_never_fails (x, Some g) mid true rest e h = let bad : false ≡ true = e in absurd cc

  fails_as : (ts rest : List Token) (o : Outcome Token (Open A)) → read ts ≡ o → halved may read ts ≡ failed rest → read ts ≡ failed rest
  fails_as ts rest (Ok x) e h = absurd (step_never_fails x.0 x.1 (takes x.0 x.1) rest refl (sym (ran ts x.0 x.1 e) ∙ h))
  fails_as ts rest (Err r) e h = e ∙ sym (fails ts r e) ∙ h

  -- ---- the laws

  half_of_fits : (x : Open A) → P.Fits x → Half x
  half_of_fits (x, None) fits = fits
  half_of_fits (x, Some g) fits = inl fits

  sound : (ts : List Token) (y : Open A) (rest : List Token) → halved may read ts ≡ Ok (y, rest) → Half y × (ts ≡ open_spelling tokens y ++ rest)
  sound ts y rest h = elim (inverse ts y rest (read ts) refl h) [
    | inl kept ↦ let l = P.laws.sound ts y rest kept.0 in (half_of_fits y l.0, l.1)
    | inr w ↦ let l = P.laws.sound ts (y.0, None) (sign_at w.0 s.Greater ∷ rest) w.3 in
        (subst Half (sym w.1) (inr (P.none_out y.0 l.0, w.2)), l.1 ∙ half_said tokens y.0 w.0 rest ∙ ap (λ (z : Open A). open_spelling tokens z ++ rest) (sym w.1))
  ]

  -- a front of the whole that ends in this token
  ends_in : (ts : List Token) (t : Token) → half_front (ts ++ t ∷ []) → front (ts ++ t ∷ []) ⊎ ((y : A) × F y × (may y ≡ true) × (ts ≡ tokens y) × (is_greater t ≡ true))
  ends_in ts t (inl f) = inl f
  ends_in ts t (inr (y, more, fits, on, e, f)) = elim (one_greater more f) [
    | inl none ↦ inl (subst front (sym (e ∙ ap (λ (m : List Token). tokens y ++ m) none ∙ append-nil (tokens y))) (whole_none y fits))
    | inr w ↦ let k = last_same ts (tokens y) t (sign_at w.0 s.Greater) (e ∙ ap (λ (m : List Token). tokens y ++ m) w.1) in
        inr (y, fits, on, k.0, ap is_greater k.1 ∙ greater_code w.0)
  ]

  no_longer : (ts : List Token) (x : Open A) (t : Token) (rest : List Token) → read ts ≡ gave x (t ∷ rest) → takes x (t ∷ rest) ≡ false → half_front (open_spelling tokens x ++ t ∷ []) → ⊥
  no_longer ts (x, None) t rest e off f = elim (ends_in (open_spelling tokens (x, None)) t f) [
    | inl g ↦ P.laws.longest ts (x, None) t rest e g
    | inr w ↦
        let fits : F x = P.none_out x (P.laws.sound ts (x, None) (t ∷ rest) e).0 in
        let same : x ≡ w.0 = one_tree x w.0 fits w.1 (sym (append-nil (tokens x)) ∙ w.3) in
        clash (takes (x, None) (t ∷ rest)) (ap (λ (b : Bool). b && is_greater t) (ap may same ∙ w.2) ∙ w.4) off
  ]
  no_longer ts (x, Some k) t rest e off f = elim (ends_in (open_spelling tokens (x, Some k)) t f) [
    | inl g ↦ P.laws.longest ts (x, Some k) t rest e g
    | inr w ↦ never_both x w.0 k (P.laws.sound ts (x, Some k) (t ∷ rest) e).0 w.1 (sym w.3)
  ]

  longest : (ts : List Token) (y : Open A) (t : Token) (rest : List Token) → halved may read ts ≡ Ok (y, t ∷ rest) → half_front (open_spelling tokens y ++ t ∷ []) → ⊥
  longest ts y t rest h f = elim (inverse ts y (t ∷ rest) (read ts) refl h) [
    | inl kept ↦ no_longer ts y t rest kept.0 kept.1 f
    | inr w ↦
        let begun : open_spelling tokens y ≡ tokens y.0 ++ sign_at w.0 s.Greater ∷ [] = ap (open_spelling tokens) w.1 in
        longest_none ts y.0 (sign_at w.0 s.Greater) (t ∷ rest) w.3 (elim (ends_in (open_spelling tokens y) t f) [
          | inl g ↦ P.laws.closed (tokens y.0 ++ sign_at w.0 s.Greater ∷ []) (t ∷ []) (subst front (ap (λ (m : List Token). m ++ t ∷ []) begun) g)
          | inr v ↦ subst front (sym v.3 ∙ begun) (whole_none v.0 v.1)
        ])
  ]

  keeps : (x : A) (rest : List Token) (b : Bool) → may x ≡ b → (may x ≡ true → starts class_of (these s.Greater) rest ≡ false) → takes (x, None) rest ≡ false
  keeps x rest true e off = ap (λ (b : Bool). b && starts class_of (these s.Greater) rest) e ∙ off e
  keeps x rest false e off = ap (λ (b : Bool). b && starts class_of (these s.Greater) rest) e

  complete_read : (x : A) (g : Place) (rest : List Token) → P.Fits (x, Some g) → Stops class_of (half x) rest → halved may read (open_spelling tokens (x, Some g) ++ rest) ≡ gave (with x g) rest
  complete_read x g rest fits stop = ran (open_spelling tokens (x, Some g) ++ rest) (x, Some g) rest (P.laws.complete (x, Some g) rest fits stop)

  complete_taken : (x : A) (g : Place) (rest : List Token) → may x ≡ true → Stays x → halved may read (open_spelling tokens (x, Some g) ++ rest) ≡ gave (with x g) rest
  complete_taken x g rest on stays =
      ap (halved may read) (sym (half_said tokens x g rest))
      ∙ ran (open_spelling tokens (x, None) ++ sign_at g s.Greater ∷ rest) (x, None) (sign_at g s.Greater ∷ rest) (stays g rest)
      ∙ ap (λ (b : Bool). step b (x, None) (sign_at g s.Greater ∷ rest)) (and_true (may x) (is_greater (sign_at g s.Greater)) on (greater_code g)) ∙ taken_step x g rest

  complete : (y : Open A) (rest : List Token) → Half y → Stops class_of (after_open next_half half y) rest → halved may read (open_spelling tokens y ++ rest) ≡ Ok (y, rest)
  complete (x, None) rest fits stop =
      let on : Stops class_of (next x) rest = stops_within class_of (next x) (next_half x) (λ n h. has_left (next x) (given (may x) (these s.Greater)) n h) rest stop in
      let off : may x ≡ true → starts class_of (these s.Greater) rest ≡ false = λ h. stops_within class_of (these s.Greater) (next_half x) (λ n k. has_right (next x) (given (may x) (these s.Greater)) n (has_given (may x) (these s.Greater) n h k)) rest stop in
      ran (open_spelling tokens (x, None) ++ rest) (x, None) rest (P.laws.complete (x, None) rest fits on) ∙ ap (λ (b : Bool). step b (x, None) rest) (keeps x rest (may x) refl off) ∙ passed (x, None) rest
  complete (x, Some g) rest (inl fits) stop = complete_read x g rest fits stop
  complete (x, Some g) rest (inr (fits, on)) stop = elim (decide x fits on) [
    | inl known ↦ complete_read x g rest (known g) stop
    | inr stays ↦ complete_taken x g rest on stays
  ]

  stuck : (ts rest : List Token) → halved may read ts ≡ Err rest → Stuck half_front ts rest
  stuck ts rest h =
      let e : read ts ≡ failed rest = fails_as ts rest (read ts) refl h in
      let k = P.laws.fault ts rest e in (
        k.0,
        k.1,
        inl k.2,
        λ t more is j. elim (ends_in k.0 t j) as (λ _. ⊥) [
          | inl g ↦ k.3 t more is g
          | inr w ↦ elim (decide w.0 w.1 w.2) as (λ _. ⊥) [
            | inl known ↦ k.3 t more is (subst front (ap (λ (m : List Token). m ++ half_tokens t.place) (sym w.3) ∙ ap (λ (u : Token). k.0 ++ u ∷ []) (only_sign s.Greater t w.4)) (P.laws.whole (w.0, Some t.place) (known t.place)))
            | inr stays ↦
                let token : sign_at t.place s.Greater ≡ t = only_sign s.Greater t w.4 in
                never_read ts rest w.0 t more e (k.1 ∙ ap (λ (m : List Token). k.0 ++ m) is ∙ ap (λ (m : List Token). m ++ t ∷ more) (w.3 ∙ sym (append-nil (tokens w.0))))
                (subst (λ (u : Token). read (open_spelling tokens (w.0, None) ++ u ∷ more) ≡ gave (plain w.0) (u ∷ more)) token (stays t.place more))
          ]
        ],
      ) where
        never_read : (ts rest : List Token) (y : A) (t : Token) (more : List Token) → read ts ≡ failed rest → ts ≡ open_spelling tokens (y, None) ++ t ∷ more → read (open_spelling tokens (y, None) ++ t ∷ more) ≡ gave (plain y) (t ∷ more) → ⊥
        never_read ts rest y t more e is o = let bad : failed rest ≡ gave (plain y) (t ∷ more) = sym e ∙ ap read is ∙ o in absurd cc

  whole : (y : Open A) → Half y → half_front (open_spelling tokens y)
  whole (x, None) fits = inl (P.laws.whole (x, None) fits)
  whole (x, Some g) (inl fits) = inl (P.laws.whole (x, Some g) fits)
  whole (x, Some g) (inr (fits, on)) = inr (x, half_tokens g, fits, on, refl, inr (g, refl))

  one_token : (t u : Token) (z y : List Token) → t ∷ (z ++ y) ≡ u ∷ [] → (t ≡ u) × (z ≡ [])
  one_token t u z y e = let heads : t ≡ u = cc in let tails : z ++ y ≡ [] = cc in (heads, (both_empty z y tails).0)

  closed : (x y : List Token) → half_front (x ++ y) → half_front x
  closed x y (inl f) = inl (P.laws.closed x y f)
  closed x y (inr (a, more, fits, on, e, f)) = elim (cut x y (tokens a) more e) [
    | same q r ↦ inl (subst front (sym q) (whole_none a fits))
    | longer t z q r ↦ inl (P.laws.closed x (t ∷ z) (subst front q (whole_none a fits)))
    | shorter t z q r ↦ elim (one_greater more f) [
      | inl none ↦ let bad : t ∷ (z ++ y) ≡ [] = sym r ∙ none in absurd cc
      | inr w ↦ let k = one_token t (sign_at w.0 s.Greater) z y (sym r ∙ w.1) in inr (a, half_tokens w.0, fits, on, q ∙ ap (λ (m : List Token). tokens a ++ t ∷ m) k.1 ∙ ap (λ (u : Token). tokens a ++ u ∷ []) k.0, inr (w.0, refl))
    ]
  ]

  begins_by : (a : A) (m : List Token) (t : Token) (ts more : List Token) → F a → tokens a ≡ m → t ∷ ts ≡ m ++ more → has first (class_of t) ≡ true
  begins_by a [] t ts more fits is e = clash false (P.laws.empties (a, None) (P.none_in a fits) (append-nil (tokens a) ∙ is)) refl
  begins_by a (u ∷ m) t ts more fits is e = let heads : t ≡ u = cc in ap (λ (v : Token). has first (class_of v)) heads ∙ P.laws.firsts u m (subst front is (whole_none a fits))

  firsts : (t : Token) (ts : List Token) → half_front (t ∷ ts) → has first (class_of t) ≡ true
  firsts t ts (inl f) = P.laws.firsts t ts f
  firsts t ts (inr (a, more, fits, on, e, f)) = begins_by a (tokens a) t ts more fits refl e

  -- what goes on behind this list, where a tree and a `>` behind it go past it
  past : (x : Open A) (t : Token) (ts : List Token) → half_front (open_spelling tokens x ++ t ∷ ts) → ((z : List Token) → front (open_spelling tokens x ++ t ∷ z) → has (after_open next half x) (class_of t) ≡ true) →
      (has (after_open next half x) (class_of t) ≡ true) ⊎ ((a : A) × F a × (may a ≡ true) × (open_spelling tokens x ≡ tokens a) × (is_greater t ≡ true))
  past x t ts (inl f) goes = inl (goes ts f)
  past x t ts (inr (a, more, fits, on, e, f)) goes = elim (one_greater more f) [
    | inl none ↦ inl (goes ts (subst front (sym (e ∙ ap (λ (m : List Token). tokens a ++ m) none ∙ append-nil (tokens a))) (whole_none a fits)))
    | inr w ↦ elim (cut (open_spelling tokens x) (t ∷ ts) (tokens a) (half_tokens w.0) (e ∙ ap (λ (m : List Token). tokens a ++ m) w.1)) [
      | same q r ↦ inr (a, fits, on, q, ap is_greater (first_of_one t (sign_at w.0 s.Greater) ts r) ∙ greater_code w.0)
      | longer u z q r ↦ let heads : t ≡ u = cc in inl (goes z (subst front (q ∙ ap (λ (v : Token). open_spelling tokens x ++ v ∷ z) (sym heads)) (whole_none a fits)))
      | shorter u z q r ↦ let k = one_token u (sign_at w.0 s.Greater) z (t ∷ ts) (sym r) in let bad : t ∷ ts ≡ [] = none_left u (sign_at w.0 s.Greater) z (t ∷ ts) (sym r) in absurd cc
    ]
  ] where
    first_of_one : (v u : Token) (rest : List Token) → v ∷ rest ≡ u ∷ [] → v ≡ u
    first_of_one v u rest h = cc

    none_left : (v u : Token) (z y : List Token) → v ∷ (z ++ y) ≡ u ∷ [] → y ≡ []
    none_left v u z y h = let tails : z ++ y ≡ [] = cc in (both_empty z y tails).1

  nexts : (y : Open A) (t : Token) (ts : List Token) → Half y → half_front (open_spelling tokens y ++ t ∷ ts) → has (after_open next_half half y) (class_of t) ≡ true
  nexts (x, None) t ts fits j = elim (past (x, None) t ts j (λ z f. P.laws.nexts (x, None) t z fits f)) [
    | inl h ↦ has_left (next x) (given (may x) (these s.Greater)) (class_of t) h
    | inr w ↦ has_right (next x) (given (may x) (these s.Greater)) (class_of t) (has_given (may x) (these s.Greater) (class_of t) (ap may (one_tree x w.0 (P.none_out x fits) w.1 (sym (append-nil (tokens x)) ∙ w.3)) ∙ w.2) w.4)
  ]
  nexts (x, Some g) t ts fits j = elim (past (x, Some g) t ts j (λ z f. P.laws.nexts (x, Some g) t z (reached x g (t ∷ z) fits (subst front (append_assoc (tokens x) (half_tokens g) (t ∷ z)) f)) f)) [
    | inl h ↦ h
    | inr w ↦ absurd (never_both x w.0 g (reached x g [] fits (subst front (sym w.3 ∙ ap (λ (m : List Token). tokens x ++ m) (sym (append-nil (half_tokens g)))) (whole_none w.0 w.1))) w.1 (sym w.3))
  ]

  empties : (y : Open A) → Half y → open_spelling tokens y ≡ [] → false ≡ true
  empties (x, None) fits e = P.laws.empties (x, None) fits e
  empties (x, Some g) fits e = let bad : half_tokens g ≡ [] = (both_empty (tokens x) (half_tokens g) e).1 in absurd cc

  pub half_none_out : (x : A) → Half (x, None) → F x
  half_none_out x fits = P.none_out x fits

  pub half_some_out : (x : A) (g : Place) → Half (x, Some g) → F x
  half_some_out x g (inl fits) = P.some_out x g fits
  half_some_out x g (inr fits) = fits.0

  pub half_laws : Laws class_of (halved may read) (open_spelling tokens) Half half_front first (after_open next_half half) false
  half_laws = record {
    sound = sound;
    longest = longest;
    fault = stuck;
    complete = complete;
    whole = whole;
    none = inl P.laws.none;
    closed = closed;
    firsts = firsts;
    nexts = nexts;
    empties = empties;
  }

  -- the first `>` is read where the test allows it
  abbrev pub halved_laws : OpenLaws (halved may read) tokens F half_front first next_half half
  halved_laws = record { Fits = Half; none_in = P.none_in; none_out = half_none_out; some_out = half_some_out; laws = half_laws }

  pub halved_settled : (x : A) → F x → (may x ≡ false → Settled P x) → Settled halved_laws x
  halved_settled x fits settled = by_may (may x) refl where
    by_may : (b : Bool) → may x ≡ b → Settled halved_laws x
    by_may true on = inl (λ g. inr (fits, on))
    by_may false off = elim (settled off) as (λ _. Settled halved_laws x) [
      | inl known ↦ inl (λ g. inl (known g))
      | inr stays ↦ inr (λ g ts. ran (open_spelling tokens (x, None) ++ sign_at g s.Greater ∷ ts) (x, None) (sign_at g s.Greater ∷ ts) (stays g ts) ∙ ap (λ (b : Bool). step (b && is_greater (sign_at g s.Greater)) (x, None) (sign_at g s.Greater ∷ ts)) off ∙ passed (x, None) (sign_at g s.Greater ∷ ts))
    ]
