-- What a reader's laws say of whole lists: the answer is exact both ways, a list has one tree, a larger depth reaches no less far.
use Rattle.std.proofs.Common.{◌≡◌, ◌↔◌, ℕ, zero, suc, ◌+◌, ◌-◌, ◌<◌, ◌≤◌, Bool, ◌⊎◌, inl, inr, List, [], ◌∷◌, ◌++◌, length, take, Result, Ok, Err, refl, sym, ap, subst, ◌∙◌, arith}
use Rattle.std.proofs.lemmas.List.{append-nil, length-append, take-append-le}
use Rattle.std.proofs.Math.Seq.{take-append-add}
use Rattle.grammar_laws.specs.Readers.{Outcome, Reader}
use Rattle.grammar_laws.specs.Fronts.{Front}
use Rattle.grammar_laws.specs.Laws.{Ends, Laws}
use Rattle.grammar_laws.specs.Wholes.{IsWhole, FirstBad, answer_of, answer, IsAnswer}
use Rattle.grammar_laws.proofs.Cuts.{gave, same_value, same_rest}
use Rattle.grammar_laws.proofs.Joints.{one_more, ends}

-- ---- cutting lists

abbrev cut_off : {T : Type 0} → ℕ → List T → List T
cut_off zero xs = xs
cut_off (suc i) [] = []
cut_off (suc i) (x ∷ xs) = cut_off i xs

joined : {T : Type 0} (i : ℕ) (xs : List T) → take i xs ++ cut_off i xs ≡ xs
joined zero xs = refl
joined (suc i) [] = refl
joined (suc i) (x ∷ xs) = ap (λ (m : List _). x ∷ m) (joined i xs)

taken : {T : Type 0} (i j : ℕ) (xs : List T) → i ≤ j → take i (take j xs) ≡ take i xs
taken zero j xs le = refl
taken (suc i) zero xs le = absurd (omega arith)
taken (suc i) (suc j) [] le = refl
taken (suc i) (suc j) (x ∷ xs) le = ap (λ (m : List _). x ∷ m) (taken i j xs (omega arith))

take_all : {T : Type 0} (xs : List T) → take (length xs) xs ≡ xs
take_all [] = refl
take_all (x ∷ xs) = ap (λ (m : List _). x ∷ m) (take_all xs)

less_or : (i j : ℕ) → (i < j) ⊎ (j ≤ i)
less_or i j = grind arith

-- ---- the first bad token is one

pub first_bad_once : {Token : Type 0} {front : Front Token} {ts : List Token} {i j : ℕ} → FirstBad front ts i → FirstBad front ts j → i ≡ j
first_bad_once {front = front} {ts = ts} {i = i} {j = j} b c = omega (arith, not_less i j b c, not_less j i c b) where
  not_less : (i j : ℕ) → FirstBad front ts i → FirstBad front ts j → j ≤ i
  not_less i j b c = go (less_or i j) where
    go : (i < j) ⊎ (j ≤ i) → j ≤ i
    go (inl less) = absurd (b.bad (omega (arith, c.within)) (c.fronts (i + 1) (omega arith)))
    go (inr le) = le

module _ {Token : Type 0} {class_of : Token → ℕ} {A : Type 0} {read : Reader Token A} {spelling : A → List Token} {Fits : A → Type 0} {front : Front Token} {first : List ℕ} {next : A → List ℕ} {e : Bool}
    (laws : Laws class_of read spelling Fits front first next e) where
  -- what begins a front is a front, counted in tokens
  pub fronts_before : (i j : ℕ) (ts : List Token) → i ≤ j → front (take j ts) → front (take i ts)
  fronts_before i j ts le h = subst front (taken i j ts le) (laws.closed (take i (take j ts)) (cut_off i (take j ts)) (subst front (sym (joined i (take j ts))) h))

  before_rest : (i : ℕ) (before rest : List Token) → front before → i ≤ length before → front (take i (before ++ rest))
  before_rest i before rest h le =
      subst front (sym (take-append-le i before rest le)) (laws.closed (take i before) (cut_off i before) (subst front (sym (joined i before)) h))

  behind : (before rest : List Token) → Ends front before rest → 0 < length rest → front (take (length before + 1) (before ++ rest)) → ⊥
  behind before [] bad some h = omega arith
  behind before (t ∷ more) bad some h = bad t more refl (subst front (take-append-add before (t ∷ more) 1) h)

  bad_at : (ts before rest : List Token) → ts ≡ before ++ rest → front before → Ends front before rest → FirstBad front ts (length ts - length rest)
  bad_at ts before rest is h bad =
      let count : length ts - length rest ≡ length before = omega (arith, ap length is, length-append before rest) in
      record {
        within = omega arith;
        fronts = λ i le. subst (λ (m : List Token). front (take i m)) (sym is) (before_rest i before rest h (omega (arith, count, le)));
        bad = λ less there.
            let at : front (take (length before + 1) (before ++ rest)) = subst (λ (k : ℕ). front (take (k + 1) (before ++ rest))) count (subst (λ (m : List Token). front (take (length ts - length rest + 1) m)) is there) in
            behind before rest bad (omega (arith, less)) at;
      }

  -- a well-formed tree is what is read of its tokens
  pub reads_whole : (ts : List Token) (a : A) → IsWhole spelling Fits ts a → read ts ≡ Ok (a, [])
  reads_whole ts a s = ap read (s.1 ∙ sym (append-nil (spelling a))) ∙ laws.complete a [] s.0 refl

  -- a list has one tree
  pub one_tree : (ts : List Token) (a b : A) → IsWhole spelling Fits ts a → IsWhole spelling Fits ts b → a ≡ b
  one_tree ts a b p q = same_value a b [] [] (sym (reads_whole ts a p) ∙ reads_whole ts b q)

  spelled : (ts : List Token) (a : A) → read ts ≡ Ok (a, []) → IsWhole spelling Fits ts a
  spelled ts a h = let l = laws.sound ts a [] h in (l.0, l.1 ∙ append-nil (spelling a))

  left_over : (ts : List Token) (a : A) (t : Token) (rest : List Token) → read ts ≡ Ok (a, t ∷ rest) → FirstBad front ts (length ts - length (t ∷ rest)) × ((b : A) → IsWhole spelling Fits ts b → ⊥)
  left_over ts a t rest h =
      let l = laws.sound ts a (t ∷ rest) h in (
        bad_at ts (spelling a) (t ∷ rest) l.1 (laws.whole a l.0) (ends laws ts a (t ∷ rest) h),
        λ b s.
            let both : gave a (t ∷ rest) ≡ gave b [] = sym h ∙ reads_whole ts b s in
            omega (arith, ap length (same_rest a b (t ∷ rest) [] both)),
      )

  stopped : (ts rest : List Token) → read ts ≡ Err rest → FirstBad front ts (length ts - length rest) × ((b : A) → IsWhole spelling Fits ts b → ⊥)
  stopped ts rest h = let s = laws.fault ts rest h in (bad_at ts s.0 rest s.1 s.2 s.3, λ b spells. let w = reads_whole ts b spells in absurd cc)

  answered : (ts : List Token) (o : Outcome Token A) → read ts ≡ o → IsAnswer spelling Fits front ts (answer_of (length ts) o)
  answered ts (Ok (a, [])) h = (spelled ts a h, λ b s. one_tree ts b a s (spelled ts a h))
  answered ts (Ok (a, (t ∷ rest))) h = left_over ts a t rest h
  answered ts (Err rest) h = stopped ts rest h

  -- the answer is the only tree, or no tree and the first bad place
  pub answer_is : (ts : List Token) → IsAnswer spelling Fits front ts (answer read ts)
  answer_is ts = answered ts (read ts) refl

  -- and nothing else is
  pub one_answer : (ts : List Token) (r s : Result A ℕ) → IsAnswer spelling Fits front ts r → IsAnswer spelling Fits front ts s → r ≡ s
  one_answer ts (Ok a) (Ok b) p q = ap (λ (x : A). Ok x) (q.1 a p.0)
  one_answer ts (Ok a) (Err at) p q = absurd (q.1 a p.0)
  one_answer ts (Err at) (Ok b) p q = absurd (p.1 b q.0)
  one_answer ts (Err i) (Err j) p q = ap (λ (x : ℕ). Err x) (first_bad_once p.0 q.0)

  pub answer_only : (ts : List Token) (r : Result A ℕ) → IsAnswer spelling Fits front ts r → answer read ts ≡ r
  answer_only ts r p = one_answer ts (answer read ts) r (answer_is ts) p

  front_by : (ts : List Token) (o : Outcome Token A) → read ts ≡ o → (front ts) ⊎ (front ts → ⊥)
  front_by ts (Ok (a, [])) h = let s = spelled ts a h in inl (subst front (sym s.1) (laws.whole a s.0))
  front_by ts (Ok (a, (t ∷ rest))) h = let l = laws.sound ts a (t ∷ rest) h in inr (λ f. laws.longest ts a t rest h (one_more laws (spelling a) t rest (subst front l.1 f)))
  front_by ts (Err []) h = let s = laws.fault ts [] h in inl (subst front (sym (s.1 ∙ append-nil s.0)) s.2)
  front_by ts (Err (t ∷ rest)) h = let s = laws.fault ts (t ∷ rest) h in inr (λ f. s.3 t rest refl (one_more laws s.0 t rest (subst front s.1 f)))

  -- whether a list is a front is decided by reading it
  pub front_or_not : (ts : List Token) → (front ts) ⊎ (front ts → ⊥)
  front_or_not ts = front_by ts (read ts) refl

  -- where reading stops before the end, the list is no front: the reader may compute this
  pub no_front : (ts : List Token) (t : Token) (rest : List Token) → read ts ≡ Err (t ∷ rest) → front ts → ⊥
  no_front ts t rest h f = let s = laws.fault ts (t ∷ rest) h in s.3 t rest refl (one_more laws s.0 t rest (subst front s.1 f))

  pub no_longer_front : (ts : List Token) (a : A) (t : Token) (rest : List Token) → read ts ≡ Ok (a, t ∷ rest) → front ts → ⊥
  no_longer_front ts a t rest h f = let l = laws.sound ts a (t ∷ rest) h in laws.longest ts a t rest h (one_more laws (spelling a) t rest (subst front l.1 f))

  -- each beginning of a list that has a tree is a front
  pub fronts_of : (ts : List Token) (a : A) → IsWhole spelling Fits ts a → (i : ℕ) → front (take i ts)
  fronts_of ts a s i = laws.closed (take i ts) (cut_off i ts) (subst front (sym (joined i ts ∙ s.1)) (laws.whole a s.0))

  -- where a list has a tree, no token is bad
  pub reaches_end : (ts : List Token) (a : A) → IsWhole spelling Fits ts a → FirstBad front ts (length ts)
  reaches_end ts a s = record { within = omega arith; fronts = λ i le. fronts_of ts a s i; bad = λ less. absurd (omega arith) }

  -- which tokens are reached, by the first bad one
  pub reached : (ts : List Token) (i j : ℕ) → FirstBad front ts j → i < j → front (take (i + 1) ts)
  reached ts i j b less = b.fronts (i + 1) (omega arith)

  pub not_reached : (ts : List Token) (i j : ℕ) → FirstBad front ts j → j ≤ i → i < length ts → front (take (i + 1) ts) → ⊥
  not_reached ts i j b le less h = b.bad (omega arith) (fronts_before (j + 1) (i + 1) ts (omega arith) h)

  -- a token is reached exactly where it stands before the first bad one
  pub reached_iff : (ts : List Token) (i j : ℕ) → FirstBad front ts j → i < length ts → front (take (i + 1) ts) ↔ (i < j)
  reached_iff ts i j b less = (λ h. go h (less_or i j), λ before. reached ts i j b before) where
    go : front (take (i + 1) ts) → (i < j) ⊎ (j ≤ i) → i < j
    go h (inl before) = before
    go h (inr le) = absurd (not_reached ts i j b le less h)

-- ---- two depths

-- fronts of which one are all fronts of the other reach no less far
pub no_less_far : {Token : Type 0} {near far : Front Token} {ts : List Token} {i j : ℕ} → ((xs : List Token) → near xs → far xs) → FirstBad near ts i → FirstBad far ts j → i ≤ j
no_less_far {ts = ts} {i = i} {j = j} more b c = go (less_or j i) where
  go : (j < i) ⊎ (i ≤ j) → i ≤ j
  go (inl less) = absurd (c.bad (omega (arith, b.within)) (more (take (j + 1) ts) (b.fronts (j + 1) (omega arith))))
  go (inr le) = le

-- what is read at one depth is read at a depth that lets more trees stand
pub still_read : {Token : Type 0} {class_of : Token → ℕ} {A : Type 0} {near far : Reader Token A} {spelling : A → List Token} {Fits_near Fits_far : A → Type 0} {front_near front_far : Front Token} {first_near first_far : List ℕ} {next_near next_far : A → List ℕ} {e f : Bool} →
    Laws class_of near spelling Fits_near front_near first_near next_near e → Laws class_of far spelling Fits_far front_far first_far next_far f → ((a : A) → Fits_near a → Fits_far a) → (ts : List Token) (a : A) → near ts ≡ Ok (a, []) → far ts ≡ Ok (a, [])
still_read N F more ts a h = let l = spelled N ts a h in reads_whole F ts a (more a l.0, l.1)

-- two readers of the same trees and fronts answer alike on whole lists: the code may follow either
pub same_answer : {Token : Type 0} {class_of : Token → ℕ} {A : Type 0} {p q : Reader Token A} {spelling : A → List Token} {Fits : A → Type 0} {front : Front Token} {first_p first_q : List ℕ} {next_p next_q : A → List ℕ} {e f : Bool} →
    Laws class_of p spelling Fits front first_p next_p e → Laws class_of q spelling Fits front first_q next_q f → (ts : List Token) → answer p ts ≡ answer q ts
same_answer {q = q} P Q ts = answer_only P ts (answer q ts) (answer_is Q ts)
