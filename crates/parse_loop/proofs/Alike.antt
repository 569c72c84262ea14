-- Lists whose items are all alike: what is read is the list of the items.
use Rattle.std.proofs.Common.{◌≡◌, ℕ, max, List, [], ◌∷◌, ◌++◌, map, Ok, Err, refl, ap, ◌∙◌, arith}
use Rattle.std.proofs.lemmas.List.{map-append}
use Rattle.dart_token.specs.declared.token.Token.{Token}
use Rattle.dart_tree.specs.Depth.{highest}
use Rattle.grammar_laws.specs.Readers.{Reader, Outcome, and_then, mapped}
use Rattle.parse_loop.specs.Lists.{Growing}

abbrev pub behind : {Y : Type 0} → List Y → Y → List Y
behind items y = items ++ y ∷ []

pub behind_grows : {Y : Type 0} (first : Unit {0}) (items : List Y) (y : Y) → items ++ y ∷ [] ≡ behind items y
behind_grows first items y = refl

pub behind_taller : {Y : Type 0} (tall : Y → ℕ) (items : List Y) (y : Y) → highest tall (behind items y) ≡ max (highest tall items) (tall y)
behind_taller tall [] y = omega arith
behind_taller tall (x ∷ items) y = let e = behind_taller tall items y in omega arith

pub flat_taller : {Y : Type 0} (items : List Y) (y : Y) → 0 ≡ max 0 0
flat_taller items y = omega arith

-- items with heights, and items without
abbrev pub alike : {Y : Type 0} → List ℕ → Reader Token Y → (Y → ℕ) → Growing (Unit {0}) Y (List Y)
alike codes item tall = record {
  codes = codes;
  item = item;
  give = λ first items. items;
  snoc = behind;
  high = highest tall;
  tall = tall;
  grows = behind_grows;
  taller = behind_taller tall;
}

abbrev pub flat : {Y : Type 0} → List ℕ → Reader Token Y → Growing (Unit {0}) Y (List Y)
flat codes item = record {
  codes = codes;
  item = item;
  give = λ first items. items;
  snoc = behind;
  high = λ items. 0;
  tall = λ y. 0;
  grows = behind_grows;
  taller = flat_taller;
}

-- what is pushed stands behind the others, also as contracts see it
pub pushed : {X Y : Type 0} (view : X → Y) (items new : List X) (x : X) → new ≡ items ++ x ∷ [] → map view new ≡ behind (map view items) (view x)
pushed view items new x e = ap (map view) e ∙ map-append view items (x ∷ [])

-- a reader is the same with its tree put into the same shape
same_by : {A : Type 0} (o : Outcome Token A) → o ≡ and_then o (λ a rest. Ok (a, rest))
same_by (Ok x) = refl
same_by (Err rest) = refl

pub same_shape : {A : Type 0} (p : Reader Token A) (ts : List Token) → p ts ≡ mapped (λ a. a) p ts
same_shape p ts = same_by (p ts)

same_pair_by : {A B : Type 0} (o : Outcome Token (A × B)) → o ≡ and_then o (λ x rest. Ok ((x.0, x.1), rest))
same_pair_by (Ok x) = refl
same_pair_by (Err rest) = refl

pub same_pair : {A B : Type 0} (p : Reader Token (A × B)) (ts : List Token) → p ts ≡ mapped (λ x. (x.0, x.1)) p ts
same_pair p ts = same_pair_by (p ts)
