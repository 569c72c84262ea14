-- What a table of texts has with one type parameter more.
use Rattle.std.proofs.Common.{◌≡◌, ◌∙◌, ℕ, ◌+◌, ◌<◌, arith, Bool, true, false, cond, true≢false, List, [], ◌∷◌, ◌++◌, length, map, take, get_or, length-take, Option, Some, None, is_some, bytes_eq, refl, sym, ap}
use Rattle.std.specs.Option.{option_map, option_or}
use Rattle.std.specs.List.{position_from}
use Rattle.std.proofs.lemmas.List.{length-map, map-append, take_more}
use Rattle.std.specs.Cmp.Lexicographic.{bytes_decides}
use Rattle.translation.specs.Surroundings.{Meaning}
use Rattle.translation.specs.Surroundings as m
use Rattle.scope_class.specs.Inside.{parameter_sense}

position-push : {X : Type 0} (test : X → Bool) (n : ℕ) (xs : List X) (x : X)
    → position_from test n (xs ++ x ∷ []) ≡ option_or (position_from test n xs) (cond (test x) (Some (n + length xs)) None)
position-push test n [] x = let at : n ≡ n + 0 = omega arith in ap (λ k. cond (test x) (Some k) None) at
position-push test n (y ∷ ys) x = by (test y) (position-push test (n + 1) ys x)
  where
    by : (b : Bool) → position_from test (n + 1) (ys ++ x ∷ []) ≡ option_or (position_from test (n + 1) ys) (cond (test x) (Some (n + 1 + length ys)) None)
        → cond b (Some n) (position_from test (n + 1) (ys ++ x ∷ []))
        ≡ option_or (cond b (Some n) (position_from test (n + 1) ys)) (cond (test x) (Some (n + length (y ∷ ys))) None)
    by true rest = refl
    by false rest =
        let at : n + 1 + length ys ≡ n + length (y ∷ ys) = omega arith in
        rest ∙ ap (λ k. option_or (position_from test (n + 1) ys) (cond (test x) (Some k) None)) at

-- what a text means with one type parameter more behind those that there are
pub parameters-push : (had : Option Meaning) (all : List (List ℕ)) (one text : List ℕ)
    → option_or had (parameter_sense (all ++ one ∷ []) text)
    ≡ option_or (option_or had (parameter_sense all text)) (cond (bytes_eq text one) (Some (m.type_parameter (length all))) None)
parameters-push had all one text =
    ap (λ o. option_or had (option_map m.type_parameter o)) (position-push (bytes_eq text) 0 all one) ∙ by had (position_from (bytes_eq text) 0 all) (bytes_eq text one)
  where
    by : (had : Option Meaning) (found : Option ℕ) (b : Bool)
        → option_or had (option_map m.type_parameter (option_or found (cond b (Some (0 + length all)) None)))
        ≡ option_or (option_or had (option_map m.type_parameter found)) (cond b (Some (m.type_parameter (length all))) None)
    by (Some x) found b = refl
    by None (Some n) b = refl
    by None None true = let at : 0 + length all ≡ length all = omega arith in ap (λ n. Some (m.type_parameter n)) at
    by None None false = refl

-- what stands under a text once a value is put there where nothing stood
module _ {V : Type 0} (one : List ℕ) (value : V) where
  abbrev next : List ℕ → Option V → Option V
  next text had = option_or had (cond (bytes_eq text one) (Some value) None)

  left-as : (text : List ℕ) (had : Option V) → bytes_eq text one ≡ false → had ≡ next text had
  left-as text (Some x) e = refl
  left-as text None e = sym (ap (λ b. cond b (Some value) None) e)

  some-as : (text : List ℕ) (had : Option V) → is_some had ≡ true → had ≡ next text had
  some-as text (Some x) e = refl
  some-as text None e = absurd (true≢false (sym e))

  -- where the text has an entry, it stays
  pub entry-kept : (old : List ℕ → Option V) → is_some (old one) ≡ true → (text : List ℕ) → old text ≡ next text (old text)
  entry-kept old had text = by (bytes_eq text one) refl
    where
      by : (b : Bool) → bytes_eq text one ≡ b → old text ≡ next text (old text)
      by true e = some-as text (old text) (ap (λ t. is_some (old t)) ((bytes_decides text one).0 e) ∙ had)
      by false e = left-as text (old text) e

  -- where it has none, the value is put there
  pub entry-put : (old new : List ℕ → Option V) → old one ≡ None → ((text : List ℕ) → one ≡ text → new text ≡ Some value)
      → ((text : List ℕ) → (one ≡ text → ⊥) → new text ≡ old text) → (text : List ℕ) → new text ≡ next text (old text)
  entry-put old new none here apart text = by (bytes_eq text one) refl
    where
      by : (b : Bool) → bytes_eq text one ≡ b → new text ≡ next text (old text)
      by true e =
          let same = (bytes_decides text one).0 e in
          here text (sym same) ∙ sym (ap (λ o. next text o) (ap old same ∙ none) ∙ ap (λ b. cond b (Some value) None) e)
      by false e = apart text (λ same. true≢false (sym ((bytes_decides text one).1 (sym same)) ∙ e)) ∙ left-as text (old text) e

pub none-from : {X : Type 0} (o : Option X) → is_some o ≡ false → o ≡ None
none-from (Some x) e = absurd (true≢false e)
none-from None e = refl

-- what texts mean with the first type parameters, and with one more
pub parameters-next : {X : Type 0} (name : X → List ℕ) (all : List X) (i number : ℕ) (x : X) (one : List ℕ) → i < length all → x ≡ get_or all i x → number ≡ i → one ≡ name x
    → (entry old new : List ℕ → Option Meaning)
    → ((text : List ℕ) → old text ≡ option_or (entry text) (parameter_sense (map name (take i all)) text))
    → ((text : List ℕ) → new text ≡ option_or (old text) (cond (bytes_eq text one) (Some (m.type_parameter number)) None))
    → (text : List ℕ) → new text ≡ option_or (entry text) (parameter_sense (map name (take (i + 1) all)) text)
parameters-next {X} name all i number x one below at count is entry old new known step text =
    step text
    ∙ ap (λ o. option_or o (cond (bytes_eq text one) (Some (m.type_parameter number)) None)) (known text)
    ∙ ap (λ n. option_or had (cond (bytes_eq text one) (Some (m.type_parameter n)) None)) long
    ∙ ap (λ t. option_or had (cond (bytes_eq text t) (Some (m.type_parameter (length named))) None)) is
    ∙ sym (parameters-push (entry text) named (name x) text)
    ∙ ap (λ l. option_or (entry text) (parameter_sense l text)) (sym more)
  where
    named : List (List ℕ)
    named = map name (take i all)

    had : Option Meaning
    had = option_or (entry text) (parameter_sense named text)

    long : number ≡ length named
    long = omega (arith, count, length-map (take i all) name, length-take i all, below)

    more : map name (take (i + 1) all) ≡ named ++ name x ∷ []
    more = ap (map name) (take_more all i x below ∙ ap (λ (y : X). take i all ++ y ∷ []) (sym at)) ∙ map-append name (take i all) (x ∷ [])

pub some-mapped : {X Y : Type 0} (f : X → Y) (o : Option X) → is_some o ≡ true → is_some (option_map f o) ≡ true
some-mapped f (Some x) e = refl
some-mapped f None e = e

-- the same entry, by equal texts and values
pub entry-at : {V : Type 0} (text : List ℕ) (had : Option V) (one other : List ℕ) (value same : V) → one ≡ other → value ≡ same
    → option_or had (cond (bytes_eq text one) (Some value) None) ≡ option_or had (cond (bytes_eq text other) (Some same) None)
entry-at text had one other value same is equal =
    ap (λ t. option_or had (cond (bytes_eq text t) (Some value) None)) is ∙ ap (λ v. option_or had (cond (bytes_eq text other) (Some v) None)) equal
