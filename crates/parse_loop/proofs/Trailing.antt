-- A list whose items separators begin, and one more separator or none.
use Rattle.std.proofs.Common.{◌≡◌, ℕ, ◌+◌, ◌-◌, ◌<◌, ◌≤◌, max, true, false, List, [], ◌∷◌, ◌++◌, map, Ok, Err, Some, None, length, refl, sym, ap, ◌∙◌, arith, inl, inr, ◌⊎◌, Option}
use Rattle.std.proofs.lemmas.List.{map-append}
use Rattle.dart_token.specs.declared.token.Token.{Token}
use Rattle.grammar_laws.specs.Readers.{Reader, Outcome, and_then, mapped, both, prepend, many, many_turns, is_left, split, starts, trailed}
use Rattle.grammar_laws.proofs.Cuts.{gave}
use Rattle.grammar_laws.proofs.Turns.{many_over, many_stops, many_fails, many_more, many_last}
use Rattle.token_codes.specs.Codes.{class_of}
use Rattle.parse_loop.specs.Lists.{Growing, TrailSoFar, given, pair_or_half, trail, whole_item}

split_whole : {S A : Type 0} (items : List (S × A)) → split {B = S × A} {H = S} (map whole_item items) ≡ (items, None)
split_whole [] = refl
split_whole (x ∷ items) = ap (λ (r : List _ × _). (x ∷ r.0, r.1)) (split_whole items)

split_half : {S A : Type 0} (items : List (S × A)) (s : S) → split {B = S × A} {H = S} (map whole_item items ++ inr s ∷ []) ≡ (items, Some s)
split_half [] s = refl
split_half (x ∷ items) s = ap (λ (r : List _ × _). (x ∷ r.0, r.1)) (split_half items s)

module _ {S A : Type 0} (begins : List ℕ) (s : Reader Token S) (p : Reader Token A) where
  -- a separator with an item behind it, and one with none
  whole_read : (ts mid end : List Token) (sep : S) (a : A) → s ts ≡ Ok (sep, mid) → starts class_of begins mid ≡ true → p mid ≡ Ok (a, end) → pair_or_half begins s p ts ≡ Ok (inl (sep, a), end)
  whole_read ts mid end sep a es on ep = rw (es, on, ep) refl

  half_read : (ts mid : List Token) (sep : S) → s ts ≡ Ok (sep, mid) → starts class_of begins mid ≡ false → pair_or_half begins s p ts ≡ Ok (inr sep, mid)
  half_read ts mid sep es off = rw (es, off) refl

  item_missing : (ts mid end : List Token) (sep : S) → s ts ≡ Ok (sep, mid) → starts class_of begins mid ≡ true → p mid ≡ Err end → pair_or_half begins s p ts ≡ Err end
  item_missing ts mid end sep es on ep = rw (es, on, ep) refl

  no_separator : (ts end : List Token) → s ts ≡ Err end → pair_or_half begins s p ts ≡ Err end
  no_separator ts end es = rw es refl

-- what `trailed` splits is what the list gives, behind nothing and behind a first
alone : {F S A L : Type 0} (give : F → List (S × A) → L) (first : F) (o : Outcome Token (List ((S × A) ⊎ S))) →
    and_then {B = L × Option S} (and_then {B = List (S × A) × Option S} o (λ found rest. Ok (split found, rest))) (λ x rest. Ok ((give first x.0, x.1), rest)) ≡ given (trail (give first)) (prepend [] o)
alone give first (Ok x) = refl
alone give first (Err rest) = refl

behind_first : {F S A L : Type 0} (give : F → List (S × A) → L) (first : F) (o : Outcome Token (List ((S × A) ⊎ S))) →
    and_then {B = L × Option S} (and_then {B = F × (List (S × A) × Option S)} (and_then {B = List (S × A) × Option S} o (λ found rest. Ok (split found, rest))) (λ x rest. Ok ((first, x), rest))) (λ x rest. Ok ((give x.0 x.1.0, x.1.1), rest)) ≡ given (trail (give first)) (prepend [] o)
behind_first give first (Ok x) = refl
behind_first give first (Err rest) = refl

module _ {F S A L : Type 0} (g : Growing F (S × A) L) (begins : List ℕ) (s : Reader Token S) (p : Reader Token A) (depth : ℕ) (whole : Outcome Token (L × Option S)) where
  abbrev turn : Reader Token ((S × A) ⊎ S)
  turn = pair_or_half begins s p

  abbrev So : L → ℕ → ℕ → List Token → Type 0
  So list h left rest = TrailSoFar g begins s p depth whole list h left rest

  -- ---- before the first turn

  pub trail_begins : (first : F) (start : List Token) (list : L) (h left : ℕ) → whole ≡ mapped (λ x. (g.give first x.0, x.1)) (trailed class_of g.codes begins s p) start → list ≡ g.give first [] → h ≡ g.high list → h ≤ depth → left ≡ length start → So list h left start
  trail_begins first start list h left is same high low few = record {
    first = first;
    items = [];
    same = same;
    high = high;
    low = low;
    read = is ∙ alone g.give first (many class_of is_left g.codes turn start) ∙ ap (λ (n : ℕ). given (trail (g.give first)) (prepend [] (many_turns class_of is_left g.codes turn n start))) (sym few);
  }

  pub trail_begins_behind : (q : Reader Token F) (first : F) (start mid : List Token) (list : L) (h left : ℕ) → whole ≡ mapped (λ x. (g.give x.0 x.1.0, x.1.1)) (both q (trailed class_of g.codes begins s p)) start → q start ≡ Ok (first, mid) → list ≡ g.give first [] → h ≡ g.high list → h ≤ depth → left ≡ length mid → So list h left mid
  trail_begins_behind q first start mid list h left is e same high low few = record {
    first = first;
    items = [];
    same = same;
    high = high;
    low = low;
    read = is ∙ rw (e, few) (behind_first g.give first (many class_of is_left g.codes turn mid));
  }

  pub trail_no_first : (q : Reader Token F) (start end : List Token) → whole ≡ mapped (λ x. (g.give x.0 x.1.0, x.1.1)) (both q (trailed class_of g.codes begins s p)) start → q start ≡ Err end → whole ≡ Err end
  trail_no_first q start end is e = is ∙ rw e refl

  -- ---- at a turn: `at` turns of `n` are made

  abbrev turned : ℕ → List Token → Outcome Token (List ((S × A) ⊎ S))
  turned left rest = many_turns class_of is_left g.codes turn left rest

  abbrev pair : L → Option S → L × Option S
  pair list half = (list, half)

  ended : (list : L) (h left : ℕ) (rest end : List Token) (i : So list h left rest) → prepend (map whole_item i.items) (turned left rest) ≡ Ok (map whole_item i.items, end) → whole ≡ Ok ((list, None), end)
  ended list h left rest end i e =
      i.read ∙ ap (given (trail (g.give i.first))) e
      ∙ ap (λ (r : List (S × A) × Option S). gave (pair (g.give i.first r.0) r.1) end) (split_whole i.items)
      ∙ ap (λ (x : L). gave (pair x None) end) (sym i.same)

  -- no separator comes
  pub trail_stops : (list : L) (h n at : ℕ) (rest : List Token) → So list h (n - at) rest → at < n → starts class_of g.codes rest ≡ false → whole ≡ Ok ((list, None), rest)
  trail_stops list h n at rest i below off = ended list h (n - at) rest rest i (many_stops class_of is_left g.codes turn n at (map whole_item i.items) rest below off)

  -- no turn is left
  pub trail_over : (list : L) (h n at : ℕ) (rest : List Token) → So list h (n - at) rest → n ≤ at → whole ≡ Ok ((list, None), rest)
  trail_over list h n at rest i done = ended list h (n - at) rest rest i (many_over class_of is_left g.codes turn n at (map whole_item i.items) rest done)

  failing : (list : L) (h n at : ℕ) (rest end : List Token) → So list h (n - at) rest → at < n → starts class_of g.codes rest ≡ true → turn rest ≡ Err end → whole ≡ Err end
  failing list h n at rest end i below on e = i.read ∙ ap (given (trail (g.give i.first))) (many_fails class_of is_left g.codes turn n at (map whole_item i.items) rest end below on e)

  -- a separator begins that is none
  pub trail_fails : (list : L) (h n at : ℕ) (rest end : List Token) → So list h (n - at) rest → at < n → starts class_of g.codes rest ≡ true → s rest ≡ Err end → whole ≡ Err end
  trail_fails list h n at rest end i below on e = failing list h n at rest end i below on (no_separator begins s p rest end e)

  -- an item begins behind the separator that is none
  pub trail_item_fails : (list : L) (h n at : ℕ) (rest mid end : List Token) (sep : S) → So list h (n - at) rest → at < n → starts class_of g.codes rest ≡ true → s rest ≡ Ok (sep, mid) → starts class_of begins mid ≡ true → p mid ≡ Err end → whole ≡ Err end
  trail_item_fails list h n at rest mid end sep i below on es begun ep = failing list h n at rest end i below on (item_missing begins s p rest mid end sep es begun ep)

  -- no item begins behind the separator
  pub trail_last : (list : L) (h n at : ℕ) (rest mid : List Token) (sep : S) → So list h (n - at) rest → at < n → starts class_of g.codes rest ≡ true → s rest ≡ Ok (sep, mid) → starts class_of begins mid ≡ false → whole ≡ Ok ((list, Some sep), mid)
  trail_last list h n at rest mid sep i below on es off =
      i.read ∙ ap (given (trail (g.give i.first))) (many_last class_of is_left g.codes turn n at (map whole_item i.items) rest mid (inr sep) below on (half_read begins s p rest mid sep es off) refl)
      ∙ ap (λ (r : List (S × A) × Option S). gave (pair (g.give i.first r.0) r.1) mid) (split_half i.items sep)
      ∙ ap (λ (x : L). gave (pair x (Some sep)) mid) (sym i.same)

  -- a separator and an item make the list longer
  pub trail_goes_on : (list longer : L) (h high n at : ℕ) (rest mid end : List Token) (sep : S) (a : A) → So list h (n - at) rest → at < n → starts class_of g.codes rest ≡ true → s rest ≡ Ok (sep, mid) → starts class_of begins mid ≡ true → p mid ≡ Ok (a, end) →
      longer ≡ g.snoc list (sep, a) → high ≡ max h (g.tall (sep, a)) → g.tall (sep, a) ≤ depth → So longer high (n - (at + 1)) end
  trail_goes_on list longer h high n at rest mid end sep a i below on es begun ep is hi le = record {
    first = i.first;
    items = i.items ++ (sep, a) ∷ [];
    same = is ∙ ap (λ (x : L). g.snoc x (sep, a)) i.same ∙ sym (g.grows i.first i.items (sep, a));
    high = let k = i.high in let t = g.taller list (sep, a) in let j = ap g.high is in omega arith;
    low = let l = i.low in omega arith;
    read = i.read
        ∙ ap (given (trail (g.give i.first))) (many_more class_of is_left g.codes turn n at (map whole_item i.items) rest end (inl (sep, a)) below on (whole_read begins s p rest mid end sep a es begun ep) refl
        ∙ ap (λ (l : List ((S × A) ⊎ S)). prepend l (turned (n - (at + 1)) end)) (sym (map-append whole_item i.items ((sep, a) ∷ []))));
  }
