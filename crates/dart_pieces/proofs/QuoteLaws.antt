-- Strings, raw strings and the pieces of a string, as they are found.
use Rattle.std.proofs.Common.{◌≡◌, ◌∙◌, sym, ap, refl, subst, ℕ, suc, ◌+◌, List, [], ◌∷◌, ◌++◌, true, false, arith, length, take, drop, Option, inl, inr, ◌&&◌, ◌==◌, append_assoc}
use Rattle.std.proofs.lemmas.Bool.Decides.{nat_tests}
use Rattle.std.proofs.lemmas.List.{length-append}
use Rattle.std.specs.List.{prefix_len}
use Rattle.dart_token.specs.declared.token.Quote.{Quote}
use Rattle.dart_token.specs.declared.token.Quote.TheVariants as q
use Rattle.dart_token.specs.declared.token.TokenKind.TheVariants as t
use Rattle.dart_pieces.specs.declared.piece.PieceClass.{PieceClass}
use Rattle.dart_pieces.specs.declared.piece.PieceClass.TheVariants as k
use Rattle.dart_pieces.specs.declared.piece.LexReason.TheVariants as r
use Rattle.dart_pieces.specs.Bytes.{is_name_byte, Passes, Stops}
use Rattle.dart_pieces.specs.Strings.{quote_byte, Element, plain, escaped, two, four, braced, named, element_bytes, elements_bytes, is_plain, Fits, AllFit, IsString, interpolation, in_raw, IsRaw}
use Rattle.dart_pieces.specs.Pieces.{IsPiece}
use Rattle.dart_pieces.specs.Marks.{Found}
use Rattle.dart_pieces.specs.Reader.{begins, element_len, body_len, string_end, string_at, begins_quotes, quoted_at, raw_at}
use Rattle.dart_pieces.proofs.RunLaws.{and_no, by_bool, and_true, passes_run, run_stops, drop_front, take_one, take_two}
use Rattle.dart_pieces.proofs.StringLaws.{begins_is, body_reach, body_sound}
use Rattle.dart_pieces.proofs.Found.{Reaches, SoundAt}

-- ---- where a string ends

end_quote : (quote : Quote) (rest : List ℕ) → element_len quote (quote_byte quote ∷ rest) ≡ 0
end_quote q.Single rest = refl
end_quote q.Double rest = refl

end_dollar : (quote : Quote) (rest : List ℕ) → element_len quote (36 ∷ 123 ∷ rest) ≡ 0
end_dollar q.Single rest = refl
end_dollar q.Double rest = refl

quote_stops : (quote : Quote) (rest : List ℕ) → Stops is_name_byte (quote_byte quote ∷ rest)
quote_stops q.Single rest = refl
quote_stops q.Double rest = refl

closed_end : (quote : Quote) (ended head : PieceClass) (n : ℕ) (rest : List ℕ) → string_end quote ended head n (quote_byte quote ∷ rest) ≡ (ended, 2 + n)
closed_end q.Single ended head n [] = refl
closed_end q.Single ended head n (x ∷ rest) = refl
closed_end q.Double ended head n [] = refl
closed_end q.Double ended head n (x ∷ rest) = refl

open_end : (quote : Quote) (ended head : PieceClass) (n : ℕ) (rest : List ℕ) → string_end quote ended head n (36 ∷ 123 ∷ rest) ≡ (head, 3 + n)
open_end q.Single ended head n rest = refl
open_end q.Double ended head n rest = refl

pub closed_found : (quote : Quote) (ended head : PieceClass) (es : List Element) (rest : List ℕ) → AllFit quote es → string_at quote ended head (elements_bytes es ++ (quote_byte quote ∷ rest)) ≡ (ended, 2 + length (elements_bytes es))
closed_found quote ended head es rest h =
    let n = body_reach quote es (quote_byte quote ∷ rest) h (end_quote quote rest) (quote_stops quote rest) in
    rw n (rw (drop_front (elements_bytes es) (quote_byte quote ∷ rest)) (closed_end quote ended head (length (elements_bytes es)) rest))

pub open_found : (quote : Quote) (ended head : PieceClass) (es : List Element) (rest : List ℕ) → AllFit quote es → string_at quote ended head (elements_bytes es ++ (36 ∷ 123 ∷ rest)) ≡ (head, 3 + length (elements_bytes es))
open_found quote ended head es rest h =
    let n = body_reach quote es (36 ∷ 123 ∷ rest) h (end_dollar quote rest) refl in
    rw n (rw (drop_front (elements_bytes es) (36 ∷ 123 ∷ rest)) (open_end quote ended head (length (elements_bytes es)) rest))

-- ---- three quotes

pub no_quotes : (quote : Quote) (b : ℕ) (more : List ℕ) → (b == quote_byte quote) ≡ false → begins_quotes quote (b ∷ more) ≡ false
no_quotes quote b [] e = refl
no_quotes quote b (c ∷ more) e = rw e refl

plain_no_quote : (quote : Quote) (b : ℕ) → is_plain quote b ≡ true → (b == quote_byte quote) ≡ false
plain_no_quote q.Single b e = grind (arith, nat_tests)
plain_no_quote q.Double b e = grind (arith, nat_tests)

raw_no_quote : (quote : Quote) (b : ℕ) → in_raw quote b ≡ true → (b == quote_byte quote) ≡ false
raw_no_quote q.Single b e = grind (arith, nat_tests)
raw_no_quote q.Double b e = grind (arith, nat_tests)

slash_no_quote : (quote : Quote) → (92 == quote_byte quote) ≡ false
slash_no_quote q.Single = refl
slash_no_quote q.Double = refl

dollar_no_quote : (quote : Quote) → (36 == quote_byte quote) ≡ false
dollar_no_quote q.Single = refl
dollar_no_quote q.Double = refl

element_no_quotes : (quote : Quote) (e : Element) (behind more : List ℕ) → Fits quote e behind → begins_quotes quote (element_bytes e ++ more) ≡ false
element_no_quotes quote (plain b) behind more h = no_quotes quote b more (plain_no_quote quote b h)
element_no_quotes quote (escaped b) behind more h = no_quotes quote 92 (b ∷ more) (slash_no_quote quote)
element_no_quotes quote (two a b) behind more h = no_quotes quote 92 (120 ∷ a ∷ b ∷ more) (slash_no_quote quote)
element_no_quotes quote (four a b c d) behind more h = no_quotes quote 92 (117 ∷ a ∷ b ∷ c ∷ d ∷ more) (slash_no_quote quote)
element_no_quotes quote (braced digits) behind more h = no_quotes quote 92 (117 ∷ 123 ∷ ((digits ++ 125 ∷ []) ++ more)) (slash_no_quote quote)
element_no_quotes quote (named name) behind more h = no_quotes quote 36 (name ++ more) (dollar_no_quote quote)

-- quotes begin a body only where it is empty
pub quotes_empty : (quote : Quote) (es : List Element) (end : List ℕ) → AllFit quote es → begins_quotes quote (elements_bytes es ++ end) ≡ true → length (elements_bytes es) ≡ 0
quotes_empty quote [] end h e = refl
quotes_empty quote (x ∷ es) end h e =
    let more : (element_bytes x ++ elements_bytes es) ++ end ≡ element_bytes x ++ (elements_bytes es ++ end) = append_assoc (element_bytes x) (elements_bytes es) end in
    let no = element_no_quotes quote x (elements_bytes es) (elements_bytes es ++ end) h.0 in
    let bad : false ≡ true = sym no ∙ sym (ap (begins_quotes quote) more) ∙ e in
    absurd cc

pub open_no_quotes : (quote : Quote) (es : List Element) (rest : List ℕ) → AllFit quote es → begins_quotes quote (elements_bytes es ++ (36 ∷ 123 ∷ rest)) ≡ false
open_no_quotes quote [] rest h = no_quotes quote 36 (123 ∷ rest) (dollar_no_quote quote)
open_no_quotes quote (x ∷ es) rest h =
    let more : (element_bytes x ++ elements_bytes es) ++ (36 ∷ 123 ∷ rest) ≡ element_bytes x ++ (elements_bytes es ++ (36 ∷ 123 ∷ rest)) = append_assoc (element_bytes x) (elements_bytes es) (36 ∷ 123 ∷ rest) in
    rw more (element_no_quotes quote x (elements_bytes es) (elements_bytes es ++ (36 ∷ 123 ∷ rest)) h.0)

pub closed_no_quotes : (quote : Quote) (es : List Element) (b : ℕ) (rest : List ℕ) → AllFit quote es → (b == quote_byte quote) ≡ false → begins_quotes quote (elements_bytes es ++ (quote_byte quote ∷ b ∷ rest)) ≡ false
closed_no_quotes quote [] b rest h e = and_no (quote_byte quote == quote_byte quote) (b == quote_byte quote) e
closed_no_quotes quote (x ∷ es) b rest h e =
    let more : (element_bytes x ++ elements_bytes es) ++ (quote_byte quote ∷ b ∷ rest) ≡ element_bytes x ++ (elements_bytes es ++ (quote_byte quote ∷ b ∷ rest)) = append_assoc (element_bytes x) (elements_bytes es) (quote_byte quote ∷ b ∷ rest) in
    rw more (element_no_quotes quote x (elements_bytes es) (elements_bytes es ++ (quote_byte quote ∷ b ∷ rest)) h.0)

-- ---- each piece of a string is reached

size_closed : (quote : Quote) (bytes : List ℕ) → length (bytes ++ quote_byte quote ∷ []) ≡ length bytes + 1
size_closed quote bytes = length-append bytes (quote_byte quote ∷ [])

size_open : (bytes : List ℕ) → length (bytes ++ interpolation) ≡ length bytes + 2
size_open bytes = length-append bytes interpolation

pub reach_ended : (quote : Quote) (first : ℕ) (ended head : PieceClass) (p rest : List ℕ) → (found : List ℕ → Found) → ((more : List ℕ) → found (first ∷ more) ≡ string_at quote ended head more)
    → IsString quote first (quote_byte quote ∷ []) p → Reaches ended (length p) (found (p ++ rest))
reach_ended quote first ended head p rest found at (es, e, fit) =
    let more : (elements_bytes es ++ quote_byte quote ∷ []) ++ rest ≡ elements_bytes es ++ (quote_byte quote ∷ rest) = append_assoc (elements_bytes es) (quote_byte quote ∷ []) rest in
    let size = size_closed quote (elements_bytes es) in
    let n : 2 + length (elements_bytes es) ≡ suc (length (elements_bytes es ++ quote_byte quote ∷ [])) = omega arith in
    rw e (rw (at ((elements_bytes es ++ quote_byte quote ∷ []) ++ rest)) (rw more (rw (closed_found quote ended head es rest fit) (inr (refl, n)))))

pub reach_opened : (quote : Quote) (first : ℕ) (ended head : PieceClass) (p rest : List ℕ) → (found : List ℕ → Found) → ((more : List ℕ) → found (first ∷ more) ≡ string_at quote ended head more)
    → IsString quote first interpolation p → Reaches head (length p) (found (p ++ rest))
reach_opened quote first ended head p rest found at (es, e, fit) =
    let more : (elements_bytes es ++ interpolation) ++ rest ≡ elements_bytes es ++ (36 ∷ 123 ∷ rest) = append_assoc (elements_bytes es) interpolation rest in
    let size = size_open (elements_bytes es) in
    let n : 3 + length (elements_bytes es) ≡ suc (length (elements_bytes es ++ interpolation)) = omega arith in
    rw e (rw (at ((elements_bytes es ++ interpolation) ++ rest)) (rw more (rw (open_found quote ended head es rest fit) (inr (refl, n)))))

pub reach_whole : (quote : Quote) (p rest : List ℕ) (found : List ℕ → Found) → ((more : List ℕ) → found (quote_byte quote ∷ more) ≡ quoted_at quote more)
    → IsString quote (quote_byte quote) (quote_byte quote ∷ []) p → Reaches (k.Lexeme t.Whole) (length p) (found (p ++ rest))
reach_whole quote p rest found at (es, e, fit) =
    let more : (elements_bytes es ++ quote_byte quote ∷ []) ++ rest ≡ elements_bytes es ++ (quote_byte quote ∷ rest) = append_assoc (elements_bytes es) (quote_byte quote ∷ []) rest in
    let size = size_closed quote (elements_bytes es) in
    let n : 2 + length (elements_bytes es) ≡ suc (length (elements_bytes es ++ quote_byte quote ∷ [])) = omega arith in
    rw e (rw (at ((elements_bytes es ++ quote_byte quote ∷ []) ++ rest)) (rw more (by_bool (begins_quotes quote (elements_bytes es ++ (quote_byte quote ∷ rest)))
    (λ y. let none = quotes_empty quote es (quote_byte quote ∷ rest) fit y in rw y (inl (omega arith)))
    (λ y. rw y (rw (closed_found quote (k.Lexeme t.Whole) (k.Lexeme (t.Head quote)) es rest fit) (inr (refl, n)))))))

pub reach_head : (quote : Quote) (p rest : List ℕ) (found : List ℕ → Found) → ((more : List ℕ) → found (quote_byte quote ∷ more) ≡ quoted_at quote more)
    → IsString quote (quote_byte quote) interpolation p → Reaches (k.Lexeme (t.Head quote)) (length p) (found (p ++ rest))
reach_head quote p rest found at (es, e, fit) =
    let more : (elements_bytes es ++ interpolation) ++ rest ≡ elements_bytes es ++ (36 ∷ 123 ∷ rest) = append_assoc (elements_bytes es) interpolation rest in
    let size = size_open (elements_bytes es) in
    let n : 3 + length (elements_bytes es) ≡ suc (length (elements_bytes es ++ interpolation)) = omega arith in
    rw e (rw (at ((elements_bytes es ++ interpolation) ++ rest)) (rw more (rw (open_no_quotes quote es rest fit) (rw (open_found quote (k.Lexeme t.Whole) (k.Lexeme (t.Head quote)) es rest fit) (inr (refl, n))))))

-- what begins a string, as far as it is read
string_some : (quote : Quote) (ended head : PieceClass) (n : ℕ) (rest : List ℕ) → Reaches (k.Refused r.Unknown) 1 (string_end quote ended head n rest)
string_some quote ended head n [] = inr (refl, refl)
string_some quote ended head n (a ∷ []) = by_bool (a == quote_byte quote) (λ e. rw e (inl (omega arith))) (λ e. rw e (inr (refl, refl)))
string_some quote ended head n (a ∷ b ∷ rest) = by_bool (a == quote_byte quote) (λ e. rw e (inl (omega arith)))
    (λ e. by_bool ((a == 36) && (b == 123)) (λ o. rw (e, o) (inl (omega arith))) (λ o. rw (e, o) (inr (refl, refl))))

pub string_more : (quote : Quote) (ended head : PieceClass) (more : List ℕ) → Reaches (k.Refused r.Unknown) 1 (string_at quote ended head more)
string_more quote ended head more = string_some quote ended head (body_len quote more) (drop (body_len quote more) more)

pub quoted_more : (quote : Quote) (more : List ℕ) → Reaches (k.Refused r.Unknown) 1 (quoted_at quote more)
quoted_more quote more = by_bool (begins_quotes quote more)
    (λ y. rw y (inl (omega arith)))
    (λ y. rw y (string_more quote (k.Lexeme t.Whole) (k.Lexeme (t.Head quote)) more))

pub quoted_triple : (quote : Quote) (rest : List ℕ) → quoted_at quote (quote_byte quote ∷ quote_byte quote ∷ rest) ≡ (k.Refused r.TripleQuotes, 3)
quoted_triple q.Single rest = refl
quoted_triple q.Double rest = refl

-- ---- raw strings

pub raw_triple : (quote : Quote) (rest : List ℕ) → raw_at quote (quote_byte quote ∷ quote_byte quote ∷ rest) ≡ (k.Refused r.TripleQuotes, 4)
raw_triple q.Single rest = refl
raw_triple q.Double rest = refl

raw_stops : (quote : Quote) (rest : List ℕ) → Stops (in_raw quote) (quote_byte quote ∷ rest)
raw_stops q.Single rest = refl
raw_stops q.Double rest = refl

begins_quote : (quote : Quote) (rest : List ℕ) → begins (quote_byte quote) (quote_byte quote ∷ rest) ≡ true
begins_quote q.Single rest = refl
begins_quote q.Double rest = refl

raw_found : (quote : Quote) (bytes rest : List ℕ) → Passes (in_raw quote) bytes → Reaches (k.Lexeme t.Whole) (3 + length bytes) (raw_at quote (bytes ++ (quote_byte quote ∷ rest)))
raw_found quote bytes rest h =
    let n : prefix_len (in_raw quote) (bytes ++ (quote_byte quote ∷ rest)) ≡ length bytes = run_stops (in_raw quote) bytes (quote_byte quote ∷ rest) h (raw_stops quote rest) in
    by_bool (begins_quotes quote (bytes ++ (quote_byte quote ∷ rest)))
    (λ y. let none = quotes_first quote bytes rest h y in rw y (inl (omega arith)))
    (λ y. rw y (rw n (rw (drop_front bytes (quote_byte quote ∷ rest)) (rw (begins_quote quote rest) (inr (refl, refl))))))
  where
    quotes_first : (quote : Quote) (bytes rest : List ℕ) → Passes (in_raw quote) bytes → begins_quotes quote (bytes ++ (quote_byte quote ∷ rest)) ≡ true → length bytes ≡ 0
    quotes_first quote [] rest h e = refl
    quotes_first quote (b ∷ bytes) rest h e = let no = no_quotes quote b (bytes ++ (quote_byte quote ∷ rest)) (raw_no_quote quote b h.0) in absurd cc

pub raw_exact : (quote : Quote) (bytes : List ℕ) (b : ℕ) (rest : List ℕ) → Passes (in_raw quote) bytes → (b == quote_byte quote) ≡ false → raw_at quote (bytes ++ (quote_byte quote ∷ b ∷ rest)) ≡ (k.Lexeme t.Whole, 3 + length bytes)
raw_exact quote bytes b rest h e =
    let n : prefix_len (in_raw quote) (bytes ++ (quote_byte quote ∷ b ∷ rest)) ≡ length bytes = run_stops (in_raw quote) bytes (quote_byte quote ∷ b ∷ rest) h (raw_stops quote (b ∷ rest)) in
    rw (no_front quote bytes b rest h e) (rw n (rw (drop_front bytes (quote_byte quote ∷ b ∷ rest)) (rw (begins_quote quote (b ∷ rest)) refl)))
  where
    no_front : (quote : Quote) (bytes : List ℕ) (b : ℕ) (rest : List ℕ) → Passes (in_raw quote) bytes → (b == quote_byte quote) ≡ false → begins_quotes quote (bytes ++ (quote_byte quote ∷ b ∷ rest)) ≡ false
    no_front quote [] b rest h e = and_no (quote_byte quote == quote_byte quote) (b == quote_byte quote) e
    no_front quote (x ∷ bytes) b rest h e = no_quotes quote x (bytes ++ (quote_byte quote ∷ b ∷ rest)) (raw_no_quote quote x h.0)

pub reach_raw : (quote : Quote) (p rest : List ℕ) (found : List ℕ → Found) → ((more : List ℕ) → found (114 ∷ quote_byte quote ∷ more) ≡ raw_at quote more) → IsRaw quote p → Reaches (k.Lexeme t.Whole) (length p) (found (p ++ rest))
reach_raw quote p rest found at (bytes, e, h) =
    let more : (bytes ++ quote_byte quote ∷ []) ++ rest ≡ bytes ++ (quote_byte quote ∷ rest) = append_assoc bytes (quote_byte quote ∷ []) rest in
    let size = size_closed quote bytes in
    let n : 3 + length bytes ≡ suc (suc (length (bytes ++ quote_byte quote ∷ []))) = omega arith in
    rw e (rw (at ((bytes ++ quote_byte quote ∷ []) ++ rest)) (rw more (subst (λ m. Reaches (k.Lexeme t.Whole) m (raw_at quote (bytes ++ (quote_byte quote ∷ rest)))) n (raw_found quote bytes rest h))))

pub raw_more : (quote : Quote) (more : List ℕ) → Reaches (k.Refused r.OpenRaw) 2 (raw_at quote more)
raw_more quote more = by_bool (begins_quotes quote more)
    (λ y. rw y (inl (omega arith)))
    (λ y. by_bool (begins (quote_byte quote) (drop (prefix_len (in_raw quote) more) more))
    (λ z. rw (y, z) (inl (omega arith)))
    (λ z. rw (y, z) (inr (refl, refl))))

-- ---- what is found is a piece

two_quotes : (quote : Quote) (more : List ℕ) → begins_quotes quote more ≡ true → (rest : List ℕ) × (more ≡ quote_byte quote ∷ quote_byte quote ∷ rest)
two_quotes quote [] e = absurd cc
two_quotes quote (a ∷ []) e = absurd cc
two_quotes quote (a ∷ b ∷ rest) e =
    let both = and_true (a == quote_byte quote) (b == quote_byte quote) e in
    let ea : a ≡ quote_byte quote = let y = both.0 in grind (arith, nat_tests) in
    let eb : b ≡ quote_byte quote = let y = both.1 in grind (arith, nat_tests) in
    (rest, ap (λ x. x ∷ b ∷ rest) ea ∙ ap (λ x. quote_byte quote ∷ x ∷ rest) eb)

module _ (around : Option Quote) (quote : Quote) (first : ℕ) (ended head : PieceClass)
    (is_ended : (p : List ℕ) → IsString quote first (quote_byte quote ∷ []) p → IsPiece around ended p)
    (is_head : (p : List ℕ) → IsString quote first interpolation p → IsPiece around head p)
    (is_short : IsPiece around (k.Refused r.Unknown) (first ∷ [])) where
  closed_sound : (more : List ℕ) (a : ℕ) (rest : List ℕ) → drop (body_len quote more) more ≡ a ∷ rest → (a == quote_byte quote) ≡ true → SoundAt around (first ∷ more) (ended, 2 + body_len quote more)
  closed_sound more a rest e y =
      let same : a ≡ quote_byte quote = grind (arith, nat_tests) in
      let one = take_one (body_len quote more) more a rest e in
      let le = one.1 in
      let (es, body, fit) = body_sound quote more in
      let n : 2 + body_len quote more ≡ suc (suc (body_len quote more)) = omega arith in
      let piece : take (suc (suc (body_len quote more))) (first ∷ more) ≡ first ∷ (elements_bytes es ++ quote_byte quote ∷ []) =
      ap (λ x. first ∷ x) (one.0 ∙ ap (λ x. x ++ a ∷ []) body ∙ ap (λ x. elements_bytes es ++ x ∷ []) same) in
      rw n (omega arith, omega arith, is_ended _ (es, piece, fit))

  open_sound : (more : List ℕ) (a b : ℕ) (rest : List ℕ) → drop (body_len quote more) more ≡ a ∷ b ∷ rest → ((a == 36) && (b == 123)) ≡ true → SoundAt around (first ∷ more) (head, 3 + body_len quote more)
  open_sound more a b rest e y =
      let ea : a ≡ 36 = grind (arith, nat_tests) in
      let eb : b ≡ 123 = grind (arith, nat_tests) in
      let two_more = take_two (body_len quote more) more a b rest e in
      let le = two_more.1 in
      let (es, body, fit) = body_sound quote more in
      let n : 3 + body_len quote more ≡ suc (suc (suc (body_len quote more))) = omega arith in
      let piece : take (suc (suc (suc (body_len quote more)))) (first ∷ more) ≡ first ∷ (elements_bytes es ++ interpolation) =
      ap (λ x. first ∷ x) (two_more.0 ∙ ap (λ x. x ++ a ∷ b ∷ []) body ∙ ap (λ x. elements_bytes es ++ x ∷ b ∷ []) ea ∙ ap (λ x. elements_bytes es ++ 36 ∷ x ∷ []) eb) in
      rw n (omega arith, omega arith, is_head _ (es, piece, fit))

  end_sound : (more rest : List ℕ) → drop (body_len quote more) more ≡ rest → SoundAt around (first ∷ more) (string_end quote ended head (body_len quote more) rest)
  end_sound more [] e = (omega arith, omega arith, is_short)
  end_sound more (a ∷ []) e = by_bool (a == quote_byte quote)
      (λ y. rw y (closed_sound more a [] e y))
      (λ y. rw y (omega arith, omega arith, is_short))
  end_sound more (a ∷ b ∷ rest) e = by_bool (a == quote_byte quote)
      (λ y. rw y (closed_sound more a (b ∷ rest) e y))
      (λ y. by_bool ((a == 36) && (b == 123))
      (λ o. rw (y, o) (open_sound more a b rest e o))
      (λ o. rw (y, o) (omega arith, omega arith, is_short)))

  pub string_sound : (more : List ℕ) → SoundAt around (first ∷ more) (string_at quote ended head more)
  string_sound more = end_sound more (drop (body_len quote more) more) refl

pub quoted_sound : (around : Option Quote) (quote : Quote) (more : List ℕ) → SoundAt around (quote_byte quote ∷ more) (quoted_at quote more)
quoted_sound around quote more = by_bool (begins_quotes quote more)
    (λ y. let (rest, e) = two_quotes quote more y in rw y (rw e (omega arith, omega arith, (quote, inl refl))))
    (λ y. rw y (string_sound around quote (quote_byte quote) (k.Lexeme t.Whole) (k.Lexeme (t.Head quote)) (λ p h. (quote, inl h)) (λ p h. h) (inr (inr (inl (quote, refl)))) more))

pub raw_sound : (around : Option Quote) (quote : Quote) (more : List ℕ) → SoundAt around (114 ∷ quote_byte quote ∷ more) (raw_at quote more)
raw_sound around quote more = by_bool (begins_quotes quote more)
    (λ y. let (rest, e) = two_quotes quote more y in rw y (rw e (omega arith, omega arith, (quote, inr refl))))
    (λ y. by_bool (begins (quote_byte quote) (drop (prefix_len (in_raw quote) more) more))
    (λ z.
    let close = begins_is (quote_byte quote) (drop (prefix_len (in_raw quote) more) more) z in
    let one = take_one (prefix_len (in_raw quote) more) more (quote_byte quote) close.0 close.1 in
    let le = one.1 in
    let n : 3 + prefix_len (in_raw quote) more ≡ suc (suc (suc (prefix_len (in_raw quote) more))) = omega arith in
    rw (y, z) (rw n (omega arith, omega arith, (quote, inr (take (prefix_len (in_raw quote) more) more, ap (λ x. 114 ∷ quote_byte quote ∷ x) one.0, passes_run (in_raw quote) more)))))
    (λ z. rw (y, z) (omega arith, omega arith, (quote, refl))))
