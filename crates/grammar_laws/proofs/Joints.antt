-- Fronts of one thing after another: how a front of both parts is cut by what the first reader read.
use Rattle.std.proofs.Common.{◌≡◌, ℕ, ◌≤◌, Bool, true, false, ◌⊎◌, inl, inr, List, [], ◌∷◌, ◌++◌, length, Ok, Err, refl, sym, ap, subst, ◌∙◌, append_assoc, arith}
use Rattle.std.proofs.lemmas.List.{length-append}
use Rattle.grammar_laws.specs.Codes.{has, Apart, Within, given}
use Rattle.grammar_laws.specs.Readers.{Reader, starts}
use Rattle.grammar_laws.specs.Fronts.{Front, JointBy}
use Rattle.grammar_laws.specs.Laws.{Stops, Ends, Stuck, Laws}
use Rattle.grammar_laws.proofs.Codes.{not_true, clash, has_left, has_right, has_given}
use Rattle.grammar_laws.proofs.Cuts.{same, longer, shorter, cut, not_empty, gave, same_value}

pub one_on : {Token : Type 0} (a : List Token) (t : Token) (z : List Token) → a ++ t ∷ z ≡ (a ++ t ∷ []) ++ z
one_on a t z = sym (append_assoc a (t ∷ []) z)

-- nothing of a smaller set comes next
pub stops_within : {Token : Type 0} (class_of : Token → ℕ) (xs ys : List ℕ) → ((n : ℕ) → has xs n ≡ true → has ys n ≡ true) → (rest : List Token) → Stops class_of ys rest → Stops class_of xs rest
stops_within class_of xs ys w [] s = refl
stops_within class_of xs ys w (t ∷ rest) s = not_true (has xs (class_of t)) (λ h. clash (has ys (class_of t)) (w (class_of t) h) s)

-- the tokens of a tree that is not empty begin with one of its first tokens
pub begins : {Token : Type 0} {class_of : Token → ℕ} {B : Type 0} {q : Reader Token B} {spell : B → List Token} {Fits : B → Type 0} {front : Front Token} {first : List ℕ} {next : B → List ℕ} →
    Laws class_of q spell Fits front first next false → (b : B) (rest : List Token) → Fits b → starts class_of first (spell b ++ rest) ≡ true
begins {Token} {class_of} {B} {q} {spell} {Fits} {front} {first} Q b rest fits = go (spell b) refl where
  go : (m : List Token) → spell b ≡ m → starts class_of first (m ++ rest) ≡ true
  go [] is = clash false (Q.empties b fits is) refl
  go (t ∷ m) is = Q.firsts t m (subst front is (Q.whole b fits))

module _ {Token : Type 0} {class_of : Token → ℕ} {A : Type 0} {read : Reader Token A} {spelling : A → List Token} {Fits : A → Type 0} {front : Front Token} {first : List ℕ} {next : A → List ℕ} {may_be_empty : Bool}
    (laws : Laws class_of read spelling Fits front first next may_be_empty) where
  -- a front that goes on after this list goes on by one token
  pub one_more : (a : List Token) (t : Token) (z : List Token) → front (a ++ t ∷ z) → front (a ++ t ∷ [])
  one_more a t z h = laws.closed (a ++ t ∷ []) z (subst front (one_on a t z) h)

  -- two trees of one spelling are one
  pub one_reading : (a b : A) → Fits a → Fits b → spelling a ≡ spelling b → a ≡ b
  one_reading a b fits_a fits_b e =
      let l : read (spelling a ++ []) ≡ Ok (a, []) = laws.complete a [] fits_a refl in
      let r : read (spelling b ++ []) ≡ Ok (b, []) = laws.complete b [] fits_b refl in
      same_value a b [] [] (sym l ∙ ap (λ (m : List Token). read (m ++ [])) e ∙ r)

  -- what was read is as long as it can be
  pub ends : (ts : List Token) (a : A) (rest : List Token) → read ts ≡ Ok (a, rest) → Ends front (spelling a) rest
  ends ts a rest e t more is = laws.longest ts a t more (e ∙ ap (λ (r : List Token). gave a r) is)

  -- a front that goes past the place where there is none
  pub beyond : (x d y more : List Token) (t : Token) → x ++ d ≡ y ++ t ∷ more → length (t ∷ more) ≤ length d → front (y ++ t ∷ []) → Ends front x d → ⊥
  beyond x d y more t is few h none =
      elim (cut x d y (t ∷ more) is) as (λ _. ⊥) [
        | same a b ↦ none t more b (subst (λ (m : List Token). front (m ++ t ∷ [])) (sym a) h)
        | longer s z a b ↦ none s (z ++ t ∷ more) b (one_more x s z (subst front a (laws.closed y (t ∷ []) h)))
        | shorter s z a b ↦ omega (arith, few, ap length b, length-append z d)
      ]

  module _ (may : A → Bool) (second : A → Front Token) (second_first : A → List ℕ)
      (second_closed : (a : A) → Fits a → (x y : List Token) → second a (x ++ y) → second a x)
      (second_firsts : (a : A) → Fits a → (t : Token) (ts : List Token) → second a (t ∷ ts) → has (second_first a) (class_of t) ≡ true)
      (apart : (a : A) → Fits a → may a ≡ true → Apart (next a) (second_first a)) where
    abbrev Both : Front Token
    Both = JointBy spelling Fits may front second

    -- behind a first that ended, a front of both is a front of the second
    pub joint_second : (a : A) (t : Token) (z : List Token) → Fits a → (front (spelling a ++ t ∷ []) → ⊥) → Both (spelling a ++ t ∷ z) → second a (t ∷ z) × (may a ≡ true)
    joint_second a t z fits max (inl h) = absurd (max (one_more (spelling a) t z h))
    joint_second a t z fits max (inr (b, y, fits_b, may_b, e, h)) =
        elim (cut (spelling a) (t ∷ z) (spelling b) y e) [
          | same p q ↦
              let is : b ≡ a = sym (one_reading a b fits fits_b p) in
              (subst (λ (x : A). second x (t ∷ z)) is (subst (second b) (sym q) h), sym (ap may is) ∙ may_b)
          | longer s w p q ↦
              let there : front (spelling a ++ s ∷ w) = subst front p (laws.whole b fits_b) in
              let is : t ≡ s = cc in
              absurd (max (subst (λ (k : Token). front (spelling a ++ k ∷ [])) (sym is) (one_more (spelling a) s w there)))
          | shorter s w p q ↦
              let there : front (spelling b ++ s ∷ w) = subst front p (laws.whole a fits) in
              absurd ((apart b fits_b may_b).never_both (class_of s) (laws.nexts b s w fits_b there) (second_firsts b fits_b s (w ++ t ∷ z) (subst (second b) q h)))
        ]

    -- the same behind what was read of the second
    pub joint_after : (a : A) (m : List Token) (t : Token) (rest : List Token) → Fits a → Ends front (spelling a) (m ++ t ∷ rest) → Both (spelling a ++ (m ++ t ∷ [])) → second a (m ++ t ∷ [])
    joint_after a [] t rest fits ends j = (joint_second a t [] fits (ends t rest refl) j).0
    joint_after a (s ∷ m) t rest fits ends j = (joint_second a s (m ++ t ∷ []) fits (ends s (m ++ t ∷ rest) refl) j).0

    -- a fault in the first is one of both
    pub joint_stuck : (ts rest : List Token) → read ts ≡ Err rest → Stuck Both ts rest
    joint_stuck ts rest e =
        let stuck = laws.fault ts rest e in
        let before = stuck.0 in (
          before,
          stuck.1,
          inl stuck.2,
          λ t more is joint.
              elim joint as (λ _. ⊥) [
                | inl h ↦ stuck.3 t more is h
                | inr w ↦ elim (cut before (t ∷ []) (spelling w.0) w.1 w.4) [
                  | same p q ↦
                      let begins : has (second_first w.0) (class_of t) ≡ true = second_firsts w.0 w.2 t [] (subst (second w.0) (sym q) w.5) in
                      let stops : Stops class_of (next w.0) rest = subst (Stops class_of (next w.0)) (sym is) (not_true (has (next w.0) (class_of t)) (λ n. (apart w.0 w.2 w.3).never_both (class_of t) n begins)) in
                      let whole = laws.complete w.0 rest w.2 stops in
                      let parts : ts ≡ spelling w.0 ++ rest = stuck.1 ∙ ap (λ (l : List Token). l ++ rest) p in
                      let gave : read ts ≡ Ok (w.0, rest) = ap read parts ∙ whole in
                      cc
                  | longer s z p q ↦
                      let there : front (before ++ s ∷ z) = subst front p (laws.whole w.0 w.2) in
                      let heads : t ≡ s = cc in
                      stuck.3 t more is (subst (λ (k : Token). front (before ++ k ∷ [])) (sym heads) (one_more before s z there))
                  | shorter s z p q ↦
                      let there : front (spelling w.0 ++ s ∷ z) = subst front p stuck.2 in
                      (apart w.0 w.2 w.3).never_both (class_of s) (laws.nexts w.0 s z w.2 there) (second_firsts w.0 w.2 s (z ++ t ∷ []) (subst (second w.0) q w.5))
                ]
              ],
        )

    pub joint_closed : (x y : List Token) → Both (x ++ y) → Both x
    joint_closed x y (inl h) = inl (laws.closed x y h)
    joint_closed x y (inr (b, m, fits_b, may_b, e, h)) =
        elim (cut x y (spelling b) m e) [
          | same p q ↦ inl (subst front (sym p) (laws.whole b fits_b))
          | longer s z p q ↦ inl (laws.closed x (s ∷ z) (subst front p (laws.whole b fits_b)))
          | shorter s z p q ↦ inr (b, s ∷ z, fits_b, may_b, p, second_closed b fits_b (s ∷ z) y (subst (second b) q h))
        ]

    pub joint_firsts : (union : List ℕ) → (may_be_empty ≡ true → (a : A) → Fits a → Within (second_first a) union) → (t : Token) (ts : List Token) → Both (t ∷ ts) → has (first ++ given may_be_empty union) (class_of t) ≡ true
    joint_firsts union under t ts (inl h) = has_left first _ (class_of t) (laws.firsts t ts h)
    joint_firsts union under t ts (inr (b, m, fits_b, may_b, e, h)) =
        elim (cut [] (t ∷ ts) (spelling b) m e) [
          | same p q ↦ has_right first _ (class_of t) (has_given may_be_empty union (class_of t) (laws.empties b fits_b (sym p)) ((under (laws.empties b fits_b (sym p)) b fits_b).in_second (class_of t) (second_firsts b fits_b t ts (subst (second b) (sym q) h))))
          | longer s z p q ↦
              let heads : t ≡ s = cc in
              has_left first _ (class_of t) (subst (λ (k : Token). has first (class_of k) ≡ true) (sym heads) (laws.firsts s z (subst front p (laws.whole b fits_b))))
          | shorter s z p q ↦ absurd (not_empty (spelling b) s z p)
        ]

    -- what goes on behind a whole first and the tokens of a second
    pub joint_nexts : (a : A) (rest : List Token) (t : Token) (ts : List Token) → Fits a → second a rest → ((s : Token) (z : List Token) → rest ≡ s ∷ z → may a ≡ true) → Both (spelling a ++ (rest ++ t ∷ ts)) →
        (second a (rest ++ t ∷ ts) × (may a ≡ true)) ⊎ ((rest ≡ []) × (has (next a) (class_of t) ≡ true))
    joint_nexts a [] t ts fits h on (inl j) = inr (refl, laws.nexts a t ts fits j)
    joint_nexts a (s ∷ rest) t ts fits h on (inl j) = absurd ((apart a fits (on s rest refl)).never_both (class_of s) (laws.nexts a s (rest ++ t ∷ ts) fits j) (second_firsts a fits s rest h))
    joint_nexts a [] t ts fits h on (inr (b, y, fits_b, may_b, e, j)) =
        elim (cut (spelling a) (t ∷ ts) (spelling b) y e) [
          | same p q ↦
              let is : b ≡ a = sym (one_reading a b fits fits_b p) in
              inl (subst (λ (x : A). second x (t ∷ ts)) is (subst (second b) (sym q) j), sym (ap may is) ∙ may_b)
          | longer s z p q ↦
              let heads : t ≡ s = cc in
              inr (refl, subst (λ (k : Token). has (next a) (class_of k) ≡ true) (sym heads) (laws.nexts a s z fits (subst front p (laws.whole b fits_b))))
          | shorter s z p q ↦ absurd ((apart b fits_b may_b).never_both (class_of s) (laws.nexts b s z fits_b (subst front p (laws.whole a fits))) (second_firsts b fits_b s (z ++ t ∷ ts) (subst (second b) q j)))
        ]
    joint_nexts a (r ∷ rest) t ts fits h on (inr (b, y, fits_b, may_b, e, j)) =
        elim (cut (spelling a) (r ∷ (rest ++ t ∷ ts)) (spelling b) y e) [
          | same p q ↦
              let is : b ≡ a = sym (one_reading a b fits fits_b p) in
              inl (subst (λ (x : A). second x (r ∷ (rest ++ t ∷ ts))) is (subst (second b) (sym q) j), on r rest refl)
          | longer s z p q ↦
              let heads : r ≡ s = cc in
              absurd ((apart a fits (on r rest refl)).never_both (class_of s) (laws.nexts a s z fits (subst front p (laws.whole b fits_b))) (subst (λ (k : Token). has (second_first a) (class_of k) ≡ true) heads (second_firsts a fits r rest h)))
          | shorter s z p q ↦ absurd ((apart b fits_b may_b).never_both (class_of s) (laws.nexts b s z fits_b (subst front p (laws.whole a fits))) (second_firsts b fits_b s (z ++ r ∷ (rest ++ t ∷ ts)) (subst (second b) q j)))
        ]
