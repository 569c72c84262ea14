-- Sets of classes of tokens, each written as a list of codes.
use Rattle.std.specs.Prelude.{◌≡◌, ℕ, Bool, true, false, not, ◌==◌, ◌||◌, ◌&&◌, if◌then◌else◌, List, [], ◌∷◌, ◌++◌, Option, Some, None, ◌⊎◌}
use Rattle.std.proofs.Common.{inl, inr}

-- the list has this code
abbrev pub has : List ℕ → ℕ → Bool
has [] n = false
has (m ∷ ms) n = n == m || has ms n

-- no code stands in both lists, as a test that computes
abbrev pub disjoint : List ℕ → List ℕ → Bool
disjoint [] ys = true
disjoint (x ∷ xs) ys = not (has ys x) && disjoint xs ys

-- each code of the first list stands in the second, as a test that computes
abbrev pub within : List ℕ → List ℕ → Bool
within [] ys = true
within (x ∷ xs) ys = has ys x && within xs ys

-- no code is in both
pub record Apart (xs ys : List ℕ) : Type 0 where
  pub never_both : (n : ℕ) → has xs n ≡ true → has ys n ≡ true → ⊥

-- each code of the first is in the second
pub record Within (xs ys : List ℕ) : Type 0 where
  pub in_second : (n : ℕ) → has xs n ≡ true → has ys n ≡ true

-- these codes where the condition holds, and none elsewhere
abbrev pub given : Bool → List ℕ → List ℕ
given true xs = xs
given false xs = []

-- ---- what may go on behind a whole tree, by its parts

-- nothing
abbrev pub nowhere : {A : Type 0} → A → List ℕ
nowhere a = []

-- behind two in a row, of which the second may be empty
abbrev pub after_both : {A B : Type 0} → (A → List ℕ) → (B → List ℕ) → Bool → A × B → List ℕ
after_both f g empty x = g x.1 ++ given empty (f x.0)

-- behind a part that may be absent
abbrev pub after_option : {B : Type 0} → List ℕ → (B → List ℕ) → Option B → List ℕ
after_option first g None = first
after_option first g (Some b) = g b

-- behind a first that a second may follow, and behind that second; what begins the second may depend on the first
abbrev pub after_followed_by : {A B : Type 0} → (A → List ℕ) → (A → Bool) → (A → List ℕ) → (A → B → List ℕ) → A × Option B → List ℕ
after_followed_by f may first g x = after_option (f x.0 ++ given (may x.0) (first x.0)) (g x.0) x.1

abbrev pub after_followed : {A B : Type 0} → (A → List ℕ) → (A → Bool) → List ℕ → (B → List ℕ) → A × Option B → List ℕ
after_followed f may first g = after_followed_by f may (λ _. first) (λ _. g)

abbrev pub is_empty : {A : Type 0} → List A → Bool
is_empty [] = true
is_empty (a ∷ more) = false

-- behind the last of a list
abbrev pub after_list : {A : Type 0} → List ℕ → (A → Bool) → (A → List ℕ) → List A → List ℕ
after_list first may f [] = first
after_list first may f (a ∷ more) = if is_empty more then f a ++ given (may a) first else after_list first may f more

-- behind whole items and a half item or none
abbrev pub after_ended : {B H : Type 0} → List ℕ → (B ⊎ H → List ℕ) → List B × Option H → List ℕ
after_ended first f (all, None) = after_list first (λ b. true) (λ b. f (inl b)) all
after_ended first f (all, Some h) = f (inr h)

-- behind the last of a list whose items change a state
abbrev pub after_list_from : {State A : Type 0} → (State → List ℕ) → (State → A → Bool) → (State → A → State) → (A → List ℕ) → State → List A → List ℕ
after_list_from first may step f s [] = first s
after_list_from first may step f s (a ∷ more) = if is_empty more then f a ++ given (may s a) (first (step s a)) else after_list_from first may step f (step s a) more
