-- A list that a loop reads turn by turn, by what is still to be read behind what the turns before have read.
use Rattle.std.proofs.Common.{◌≡◌, ℕ, suc, ◌+◌, ◌-◌, ◌<◌, ◌≤◌, max, Bool, true, false, List, [], ◌∷◌, ◌++◌, Ok, Err, refl, sym, ap, ◌∙◌, arith}
use Rattle.dart_token.specs.declared.token.Token.{Token}
use Rattle.grammar_laws.specs.Readers.{Reader, Outcome, mapped, prepend, cons_to, many_turns, starts}
use Rattle.grammar_laws.proofs.Cuts.{gave}
use Rattle.grammar_laws.proofs.Turns.{prepend_none, prepend_one, prepend_end}
use Rattle.token_codes.specs.Codes.{class_of}
use Rattle.syntax_readers.specs.Combinators.{many_where_turns}
use Rattle.parse_loop.specs.Lists.{Growing, given}

-- this list was read, and that is what is left
pub record ReadSoFar {F Y L : Type 0} (g : Growing F Y L) (depth : ℕ) (whole : Outcome Token L) (list : L) (highest : ℕ) (left : Outcome Token (List Y)) : Type 0 where
  pub first : F
  pub items : List Y
  pub same : list ≡ g.give first items
  pub high : highest ≡ g.high list
  pub low : highest ≤ depth
  pub read : whole ≡ given (g.give first) (prepend items left)

module _ {F Y L : Type 0} (g : Growing F Y L) (depth : ℕ) (whole : Outcome Token L) where
  pub begins : (first : F) (p : Reader Token (List Y)) (start : List Token) (list : L) (h : ℕ) (left : Outcome Token (List Y)) → whole ≡ mapped (g.give first) p start → left ≡ p start → list ≡ g.give first [] → h ≡ g.high list → h ≤ depth → ReadSoFar g depth whole list h left
  begins first p start list h left is e same high low = record {
    first = first;
    items = [];
    same = same;
    high = high;
    low = low;
    read = is ∙ ap (given (g.give first)) (sym e ∙ prepend_none left);
  }

  -- nothing is left
  pub ended : (list : L) (h : ℕ) (left : Outcome Token (List Y)) (rest : List Token) → ReadSoFar g depth whole list h left → left ≡ Ok ([], rest) → whole ≡ Ok (list, rest)
  ended list h left rest i e =
      i.read ∙ ap (λ (o : Outcome Token (List Y)). given (g.give i.first) (prepend i.items o)) e
      ∙ ap (given (g.give i.first)) (prepend_end i.items rest) ∙ ap (λ (x : L). gave x rest) (sym i.same)

  -- what is left is not to be read
  pub stopped : (list : L) (h : ℕ) (left : Outcome Token (List Y)) (end : List Token) → ReadSoFar g depth whole list h left → left ≡ Err end → whole ≡ Err end
  stopped list h left end i e = i.read ∙ ap (λ (o : Outcome Token (List Y)). given (g.give i.first) (prepend i.items o)) e

  -- an item makes the list longer
  pub goes_on : (list longer : L) (h high : ℕ) (left more : Outcome Token (List Y)) (y : Y) → ReadSoFar g depth whole list h left → left ≡ cons_to y more →
      longer ≡ g.snoc list y → high ≡ max h (g.tall y) → g.tall y ≤ depth → ReadSoFar g depth whole longer high more
  goes_on list longer h high left more y i e is hi le = record {
    first = i.first;
    items = i.items ++ y ∷ [];
    same = is ∙ ap (λ (x : L). g.snoc x y) i.same ∙ sym (g.grows i.first i.items y);
    high = let a = i.high in let t = g.taller list y in let k = ap g.high is in omega arith;
    low = let l = i.low in omega arith;
    read = i.read ∙ ap (λ (o : Outcome Token (List Y)). given (g.give i.first) (prepend i.items o)) e
        ∙ ap (given (g.give i.first)) (prepend_one i.items y more);
  }

-- ---- turns: `at` of `n` are made

one_less : (n at : ℕ) → at < n → n - at ≡ suc (n - (at + 1))
one_less n at below = omega arith

none_left : (n at : ℕ) → n ≤ at → n - at ≡ 0
none_left n at over = omega arith

-- whether there is a further item is told by a test
module _ {A : Type 0} (test : List Token → Bool) (p : Reader Token A) where
  pub where_over : (n at : ℕ) (ts : List Token) → n ≤ at → many_where_turns test p (n - at) ts ≡ Ok ([], ts)
  where_over n at ts over = ap (λ (k : ℕ). many_where_turns test p k ts) (none_left n at over)

  pub where_stops : (n at : ℕ) (ts : List Token) → at < n → test ts ≡ false → many_where_turns test p (n - at) ts ≡ Ok ([], ts)
  where_stops n at ts below off = rw (one_less n at below, off) refl

  pub where_fails : (n at : ℕ) (ts end : List Token) → at < n → test ts ≡ true → p ts ≡ Err end → many_where_turns test p (n - at) ts ≡ Err end
  where_fails n at ts end below on e = rw (one_less n at below, on, e) refl

  pub where_more : (n at : ℕ) (ts mid : List Token) (a : A) → at < n → test ts ≡ true → p ts ≡ Ok (a, mid) → many_where_turns test p (n - at) ts ≡ cons_to a (many_where_turns test p (n - (at + 1)) mid)
  where_more n at ts mid a below on e = rw (one_less n at below, on, e) refl

-- the next token tells it, and whether the item before allows another
module _ {A : Type 0} (may : A → Bool) (first : List ℕ) (p : Reader Token A) where
  pub turns_over : (n at : ℕ) (ts : List Token) → n ≤ at → many_turns class_of may first p (n - at) ts ≡ Ok ([], ts)
  turns_over n at ts over = ap (λ (k : ℕ). many_turns class_of may first p k ts) (none_left n at over)

  pub turns_stop : (n at : ℕ) (ts : List Token) → at < n → starts class_of first ts ≡ false → many_turns class_of may first p (n - at) ts ≡ Ok ([], ts)
  turns_stop n at ts below off = rw (one_less n at below, off) refl

  pub turns_fail : (n at : ℕ) (ts end : List Token) → at < n → starts class_of first ts ≡ true → p ts ≡ Err end → many_turns class_of may first p (n - at) ts ≡ Err end
  turns_fail n at ts end below on e = rw (one_less n at below, on, e) refl

  pub turns_more : (n at : ℕ) (ts mid : List Token) (a : A) → at < n → starts class_of first ts ≡ true → p ts ≡ Ok (a, mid) → may a ≡ true → many_turns class_of may first p (n - at) ts ≡ cons_to a (many_turns class_of may first p (n - (at + 1)) mid)
  turns_more n at ts mid a below on e m = rw (one_less n at below, on, e, m) refl

  pub turns_last : (n at : ℕ) (ts mid : List Token) (a : A) → at < n → starts class_of first ts ≡ true → p ts ≡ Ok (a, mid) → may a ≡ false → many_turns class_of may first p (n - at) ts ≡ cons_to a (gave [] mid)
  turns_last n at ts mid a below on e m = rw (one_less n at below, on, e, m) refl
