-- A list whose items stand one behind the other.
use Rattle.std.proofs.Common.{◌≡◌, ℕ, ◌+◌, ◌-◌, ◌<◌, ◌≤◌, max, true, false, List, [], ◌∷◌, ◌++◌, Ok, Err, length, refl, sym, ap, ◌∙◌, arith}
use Rattle.dart_token.specs.declared.token.Token.{Token}
use Rattle.grammar_laws.specs.Readers.{Reader, Outcome, and_then, mapped, both, prepend, many, many_turns, always, starts}
use Rattle.grammar_laws.proofs.Cuts.{gave}
use Rattle.grammar_laws.proofs.Turns.{prepend_none, many_over, many_stops, many_fails, many_more}
use Rattle.token_codes.specs.Codes.{class_of}
use Rattle.parse_loop.specs.Lists.{Growing, SoFar, given}

-- what is read behind a first is given with it
behind_first : {F Y L : Type 0} (give : F → List Y → L) (first : F) (o : Outcome Token (List Y)) →
    and_then (and_then {B = F × List Y} o (λ items rest. Ok ((first, items), rest))) (λ x rest. Ok (give x.0 x.1, rest)) ≡ given (give first) (prepend [] o)
behind_first give first (Ok x) = refl
behind_first give first (Err rest) = refl

module _ {F Y L : Type 0} (g : Growing F Y L) (depth : ℕ) (whole : Outcome Token L) where
  -- ---- before the first turn

  -- where nothing was read before the list
  pub begins : (first : F) (start : List Token) (list : L) (h left : ℕ) → whole ≡ mapped (g.give first) (many class_of always g.codes g.item) start → list ≡ g.give first [] → h ≡ g.high list → h ≤ depth → left ≡ length start → SoFar g depth whole list h left start
  begins first start list h left is same high low few = record {
    first = first;
    items = [];
    same = same;
    high = high;
    low = low;
    read = is ∙ ap (given (g.give first)) (prepend_none (many class_of always g.codes g.item start)) ∙ ap (λ (n : ℕ). given (g.give first) (prepend [] (many_turns class_of always g.codes g.item n start))) (sym few);
  }

  -- where this was read before it
  pub begins_behind : (p : Reader Token F) (first : F) (start mid : List Token) (list : L) (h left : ℕ) → whole ≡ mapped (λ x. g.give x.0 x.1) (both p (many class_of always g.codes g.item)) start → p start ≡ Ok (first, mid) → list ≡ g.give first [] → h ≡ g.high list → h ≤ depth → left ≡ length mid → SoFar g depth whole list h left mid
  begins_behind p first start mid list h left is e same high low few = record {
    first = first;
    items = [];
    same = same;
    high = high;
    low = low;
    read = is ∙ rw (e, few) (behind_first g.give first (many class_of always g.codes g.item mid));
  }

  -- what stands before it is not there
  pub no_first : (p : Reader Token F) (start end : List Token) → whole ≡ mapped (λ x. g.give x.0 x.1) (both p (many class_of always g.codes g.item)) start → p start ≡ Err end → whole ≡ Err end
  no_first p start end is e = is ∙ rw e refl

  -- ---- at a turn: `at` turns of `n` are made

  ended : (list : L) (h left : ℕ) (rest end : List Token) (i : SoFar g depth whole list h left rest) → prepend i.items (many_turns class_of always g.codes g.item left rest) ≡ Ok (i.items, end) → whole ≡ Ok (list, end)
  ended list h left rest end i e = i.read ∙ ap (given (g.give i.first)) e ∙ ap (λ (x : L). gave x end) (sym i.same)

  -- no further item begins
  pub stops : (list : L) (h n at : ℕ) (rest : List Token) → SoFar g depth whole list h (n - at) rest → at < n → starts class_of g.codes rest ≡ false → whole ≡ Ok (list, rest)
  stops list h n at rest i below off = ended list h (n - at) rest rest i (many_stops class_of always g.codes g.item n at i.items rest below off)

  -- no turn is left
  pub over : (list : L) (h n at : ℕ) (rest : List Token) → SoFar g depth whole list h (n - at) rest → n ≤ at → whole ≡ Ok (list, rest)
  over list h n at rest i done = ended list h (n - at) rest rest i (many_over class_of always g.codes g.item n at i.items rest done)

  -- an item begins that is none
  pub fails : (list : L) (h n at : ℕ) (rest end : List Token) → SoFar g depth whole list h (n - at) rest → at < n → starts class_of g.codes rest ≡ true → g.item rest ≡ Err end → whole ≡ Err end
  fails list h n at rest end i below on e = i.read ∙ ap (given (g.give i.first)) (many_fails class_of always g.codes g.item n at i.items rest end below on e)

  -- an item makes the list longer
  pub goes_on : (list longer : L) (h high n at : ℕ) (rest mid : List Token) (y : Y) → SoFar g depth whole list h (n - at) rest → at < n → starts class_of g.codes rest ≡ true → g.item rest ≡ Ok (y, mid) →
      longer ≡ g.snoc list y → high ≡ max h (g.tall y) → g.tall y ≤ depth → SoFar g depth whole longer high (n - (at + 1)) mid
  goes_on list longer h high n at rest mid y i below on e is hi le = record {
    first = i.first;
    items = i.items ++ y ∷ [];
    same = is ∙ ap (λ (x : L). g.snoc x y) i.same ∙ sym (g.grows i.first i.items y);
    high = let a = i.high in let t = g.taller list y in let k = ap g.high is in omega arith;
    low = let l = i.low in omega arith;
    read = i.read ∙ ap (given (g.give i.first)) (many_more class_of always g.codes g.item n at i.items rest mid y below on e refl);
  }
