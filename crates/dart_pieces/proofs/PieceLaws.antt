-- What is found at the front of a text is a piece of its class, and each piece there is found or a longer one is.
use Rattle.std.proofs.Common.{◌≡◌, ◌∙◌, sym, ap, refl, subst, ℕ, suc, ◌+◌, ◌<◌, ◌≤◌, List, [], ◌∷◌, ◌++◌, Bool, true, false, cond, arith, length, take, Option, Some, None, ◌⊎◌, inl, inr, ◌&&◌, ◌==◌}
use Rattle.std.proofs.lemmas.Bool.Decides.{nat_tests}
use Rattle.std.specs.List.{prefix_len}
use Rattle.dart_token.specs.declared.sign.Sign.{Sign}
use Rattle.dart_token.specs.declared.sign.Sign.TheVariants as s
use Rattle.dart_token.specs.declared.token.Quote.{Quote}
use Rattle.dart_token.specs.declared.token.Quote.TheVariants as q
use Rattle.dart_token.specs.declared.token.TokenKind.TheVariants as t
use Rattle.dart_token.specs.Sign.{sign_text}
use Rattle.dart_token.specs.Word.{word_text}
use Rattle.dart_pieces.specs.declared.piece.PieceClass.{PieceClass}
use Rattle.dart_pieces.specs.declared.piece.PieceClass.TheVariants as k
use Rattle.dart_pieces.specs.declared.piece.LexReason.TheVariants as r
use Rattle.dart_pieces.specs.Bytes.{is_blank, is_digit, is_letter, in_line, Passes, IsRun}
use Rattle.dart_pieces.specs.Comments.{Mark, marks_bytes, Closing}
use Rattle.dart_pieces.specs.Numbers.{IsDouble}
use Rattle.dart_pieces.specs.Strings.{quote_byte, quote_of}
use Rattle.dart_pieces.specs.Pieces.{IsAllowed, IsOther, IsPiece}
use Rattle.dart_pieces.specs.Marks.{one_mark, first_mark, second_mark, third_mark, mark_at}
use Rattle.dart_pieces.specs.Reader.{is_comment, is_block, after_two, scan, block_found, number_at, letter_at, quoted_at, raw_at, string_at, closes_around, string_or, piece_at}
use Rattle.dart_pieces.proofs.RunLaws.{by_bool, prefix_within, passes_run, run_within, run_taken}
use Rattle.dart_pieces.proofs.CommentLaws.{scan_reach, scan_sound, scan_some}
use Rattle.dart_pieces.proofs.NumberLaws.{reach_digits, reach_hex, reach_double, number_sound}
use Rattle.dart_pieces.proofs.QuoteLaws.{reach_ended, reach_opened, reach_whole, reach_head, string_more, quoted_more, quoted_triple, raw_triple, reach_raw, raw_more, string_sound, quoted_sound}
use Rattle.dart_pieces.proofs.NameLaws.{quote_is, reach_name, identifier_kind, word_kind, word_run, letter_sound}
use Rattle.dart_pieces.proofs.MarkLaws.{IsMark, one_sound, begins_sign, reach_sign, third_is, second_is}
use Rattle.dart_pieces.proofs.Found.{Reaches, SoundAt, at_least}

abbrev pub Sound : Option Quote → List ℕ → Type 0
Sound around text = SoundAt around text (piece_at around text)

-- ---- by the first byte

digit_no_letter : (b : ℕ) → is_digit b ≡ true → is_letter b ≡ false
digit_no_letter b d = grind (arith, nat_tests)

blank_no_letter : (b : ℕ) → is_blank b ≡ true → is_letter b ≡ false
blank_no_letter b d = grind (arith, nat_tests)

blank_no_digit : (b : ℕ) → is_blank b ≡ true → is_digit b ≡ false
blank_no_digit b d = grind (arith, nat_tests)

pub at_letter : (around : Option Quote) (x : ℕ) (more : List ℕ) → is_letter x ≡ true → piece_at around (x ∷ more) ≡ letter_at (x ∷ more)
at_letter around x more e = rw e refl

pub at_digit : (around : Option Quote) (x : ℕ) (more : List ℕ) → is_digit x ≡ true → piece_at around (x ∷ more) ≡ number_at (x ∷ more)
at_digit around x more e = rw (digit_no_letter x e, e) refl

pub at_blank : (around : Option Quote) (x : ℕ) (more : List ℕ) → is_blank x ≡ true → piece_at around (x ∷ more) ≡ (k.Blank, prefix_len is_blank (x ∷ more))
at_blank around x more e = rw (blank_no_letter x e, blank_no_digit x e, e) refl

at_other : (around : Option Quote) (x : ℕ) (more : List ℕ) → is_letter x ≡ false → is_digit x ≡ false → is_blank x ≡ false
    → piece_at around (x ∷ more) ≡ cond (is_comment (x ∷ more)) (k.Comment, 2 + prefix_len in_line (after_two (x ∷ more)))
    (cond (is_block (x ∷ more)) (block_found (scan 1 (after_two (x ∷ more)))) (string_or (quote_of x) (closes_around around x) more (mark_at (x ∷ more))))
at_other around x more l d b = rw (l, d, b) refl

pub at_quote : (around : Option Quote) (quote : Quote) (more : List ℕ) → piece_at around (quote_byte quote ∷ more) ≡ quoted_at quote more
at_quote around q.Single [] = refl
at_quote around q.Single (x ∷ more) = refl
at_quote around q.Double [] = refl
at_quote around q.Double (x ∷ more) = refl

pub at_brace : (quote : Quote) (more : List ℕ) → piece_at (Some quote) (125 ∷ more) ≡ string_at quote (k.Lexeme t.Tail) (k.Lexeme t.Middle) more
at_brace quote [] = refl
at_brace quote (x ∷ more) = refl

pub at_raw : (around : Option Quote) (quote : Quote) (more : List ℕ) → piece_at around (114 ∷ quote_byte quote ∷ more) ≡ raw_at quote more
at_raw around q.Single more = refl
at_raw around q.Double more = refl

-- ---- each piece is reached

reach_blank : (around : Option Quote) (p rest : List ℕ) → IsRun is_blank is_blank p → Reaches k.Blank (length p) (piece_at around (p ++ rest))
reach_blank around [] rest h = absurd h
reach_blank around (x ∷ p) rest h =
    let le : length (x ∷ p) ≤ prefix_len is_blank (x ∷ (p ++ rest)) = run_within is_blank (x ∷ p) rest h in
    rw (at_blank around x (p ++ rest) h.0) (at_least k.Blank (length (x ∷ p)) (prefix_len is_blank (x ∷ (p ++ rest))) le)

reach_line : (around : Option Quote) (more rest : List ℕ) → Passes in_line more → Reaches k.Comment (length (47 ∷ 47 ∷ more)) (piece_at around (47 ∷ 47 ∷ (more ++ rest)))
reach_line around more rest h =
    let le : length more ≤ prefix_len in_line (more ++ rest) = run_within in_line more rest h in
    let both : length (47 ∷ 47 ∷ more) ≤ 2 + prefix_len in_line (more ++ rest) = omega arith in
    at_least k.Comment (length (47 ∷ 47 ∷ more)) (2 + prefix_len in_line (more ++ rest)) both

reach_block : (around : Option Quote) (ms : List Mark) (rest : List ℕ) → Closing 1 ms → Reaches k.Comment (length (47 ∷ 42 ∷ marks_bytes ms)) (piece_at around (47 ∷ 42 ∷ (marks_bytes ms ++ rest)))
reach_block around ms rest h =
    let n : 2 + length (marks_bytes ms) ≡ length (47 ∷ 42 ∷ marks_bytes ms) = omega arith in
    rw (scan_reach 1 ms rest h) (inr (refl, n))

reach_opening : (around : Option Quote) (rest : List ℕ) → Reaches (k.Refused r.Unknown) 2 (piece_at around (47 ∷ 42 ∷ rest))
reach_opening around rest = (elim (scan 1 rest) as (λ o. scan 1 rest ≡ o → Reaches (k.Refused r.Unknown) 2 (block_found (scan 1 rest))) [
  | None ↦ λ e. rw e (inr (refl, refl))
  | Some n ↦ λ e. let some = scan_some rest n e in rw e (inl (omega arith))
]) refl

name_reached : (around : Option Quote) (p rest : List ℕ) → (kind : PieceClass) → IsRun is_letter (λ b. true) p → Reaches kind (length p) (letter_at (p ++ rest)) → Reaches kind (length p) (piece_at around (p ++ rest))
name_reached around [] rest kind h g = absurd h
name_reached around (x ∷ p) rest kind h g = rw (at_letter around x (p ++ rest) h.0) g

any_run : (p : ℕ → Bool) (bytes : List ℕ) → IsRun is_letter p bytes → IsRun is_letter (λ b. true) bytes
any_run p [] h = absurd h
any_run p (x ∷ bytes) h = (h.0, all bytes)
  where
    all : (bytes : List ℕ) → Passes (λ b. true) bytes
    all [] = tt
    all (b ∷ bytes) = (refl, all bytes)

number_reached : (around : Option Quote) (kind : PieceClass) (digits more rest : List ℕ) → IsRun is_digit is_digit digits → (n : ℕ) → Reaches kind n (number_at ((digits ++ more) ++ rest)) → Reaches kind n (piece_at around ((digits ++ more) ++ rest))
number_reached around kind [] more rest h n g = absurd h
number_reached around kind (x ∷ digits) more rest h n g = rw (at_digit around x ((digits ++ more) ++ rest) h.0) g

digits_reached : (around : Option Quote) (kind : PieceClass) (digits rest : List ℕ) → IsRun is_digit is_digit digits → (n : ℕ) → Reaches kind n (number_at (digits ++ rest)) → Reaches kind n (piece_at around (digits ++ rest))
digits_reached around kind [] rest h n g = absurd h
digits_reached around kind (x ∷ digits) rest h n g = rw (at_digit around x (digits ++ rest) h.0) g

reach_point : (around : Option Quote) (d : ℕ) (rest : List ℕ) → is_digit d ≡ true → Reaches (k.Refused r.Fraction) 2 (piece_at around (46 ∷ d ∷ rest))
reach_point around d [] e = let no : (d == 46) ≡ false = grind (arith, nat_tests) in rw (no, e) (inr (refl, refl))
reach_point around d (x ∷ rest) e = let no : (d == 46) ≡ false = grind (arith, nat_tests) in rw (no, e) (inr (refl, refl))

reach_null_aware : (around : Option Quote) (b : ℕ) (rest : List ℕ) → ((b ≡ 63) ⊎ (b ≡ 46)) → Reaches (k.Refused r.NullAware) 2 (piece_at around (63 ∷ b ∷ rest))
reach_null_aware around b [] (inl e) = rw e (inr (refl, refl))
reach_null_aware around b [] (inr e) = rw e (inr (refl, refl))
reach_null_aware around b (x ∷ rest) (inr e) = rw e (inr (refl, refl))
reach_null_aware around b (x ∷ rest) (inl e) = rw e (by_bool (x == 61) (λ y. rw y (inl (omega arith))) (λ y. rw y (inr (refl, refl))))

-- ---- bytes that begin nothing

by_option : {A : Type 0} (o : Option PieceClass) → ((p : PieceClass) → o ≡ Some p → A) → (o ≡ None → A) → A
by_option {A} o one other = (elim o as (λ c. o ≡ c → A) [ Some p ↦ one p | None ↦ other ]) refl

no_comment : (b : ℕ) (rest : List ℕ) → IsOther b → is_comment (b ∷ rest) ≡ false
no_comment b [] h = refl
no_comment b (x ∷ rest) h = by_bool ((b == 47) && (x == 47))
    (λ e. let same : b ≡ 47 = grind (arith, nat_tests) in absurd (h.5 s.Slash [] (ap (λ n. n ∷ []) (sym same))))
    (λ e. e)

no_block : (b : ℕ) (rest : List ℕ) → IsOther b → is_block (b ∷ rest) ≡ false
no_block b [] h = refl
no_block b (x ∷ rest) h = by_bool ((b == 47) && (x == 42))
    (λ e. let same : b ≡ 47 = grind (arith, nat_tests) in absurd (h.5 s.Slash [] (ap (λ n. n ∷ []) (sym same))))
    (λ e. e)

no_brace : (around : Option Quote) (b : ℕ) → IsOther b → closes_around around b ≡ None
no_brace around b h = by_bool (b == 125)
    (λ e. let same : b ≡ 125 = grind (arith, nat_tests) in absurd (h.5 s.RightBrace [] (ap (λ n. n ∷ []) (sym same))))
    (λ e. rw e refl)

no_double : (b : ℕ) (more : List ℕ) → IsDouble (b ∷ more) → IsOther b → ⊥
no_double b more (inl (d, e, isd)) h = let same : b ≡ 46 = cc in h.5 s.Dot [] (ap (λ n. n ∷ []) (sym same))
no_double b more (inr (digits, tail, e, run, makes)) h = begins digits e run
  where
    begins : (digits : List ℕ) → b ∷ more ≡ digits ++ tail → IsRun is_digit is_digit digits → ⊥
    begins [] e run = run
    begins (d ∷ digits) e run = let same : b ≡ d = cc in let bad : is_digit b ≡ true = ap is_digit same ∙ run.0 in let no_digit = h.1 in absurd cc

no_mark : (p : PieceClass) (b : ℕ) (more : List ℕ) → IsMark p (b ∷ more) → IsOther b → ⊥
no_mark (k.Lexeme (t.Sign sign)) b more e h = h.5 sign more (sym e)
no_mark (k.Refused r.Fraction) b more e h = no_double b more e h
no_mark (k.Refused r.NullAware) b more (inl e) h = let same : b ≡ 63 = cc in h.5 s.Question [] (ap (λ n. n ∷ []) (sym same))
no_mark (k.Refused r.NullAware) b more (inr (inl e)) h = let same : b ≡ 63 = cc in h.5 s.Question [] (ap (λ n. n ∷ []) (sym same))
no_mark (k.Refused r.NullAware) b more (inr (inr e)) h = let same : b ≡ 63 = cc in h.5 s.Question [] (ap (λ n. n ∷ []) (sym same))
no_mark (k.Refused r.Symbol) b more e h = let same : b ≡ 35 = cc in h.4 same
no_mark k.Blank b more e h = absurd e
no_mark k.Comment b more e h = absurd e
no_mark (k.Lexeme t.Identifier) b more e h = absurd e
no_mark (k.Lexeme (t.Word word)) b more e h = absurd e
no_mark (k.Lexeme t.Integer) b more e h = absurd e
no_mark (k.Lexeme t.Whole) b more e h = absurd e
no_mark (k.Lexeme (t.Head quote)) b more e h = absurd e
no_mark (k.Lexeme t.Middle) b more e h = absurd e
no_mark (k.Lexeme t.Tail) b more e h = absurd e
no_mark (k.Refused r.Unknown) b more e h = absurd e
no_mark (k.Refused r.OpenRaw) b more e h = absurd e
no_mark (k.Refused r.TripleQuotes) b more e h = absurd e

other_mark : (b : ℕ) (rest : List ℕ) → IsOther b → mark_at (b ∷ rest) ≡ (k.Refused r.Unknown, 1)
other_mark b rest h = by_option (third_mark (b ∷ rest))
    (λ p e. absurd (no_mark p b (take 2 rest) ((third_is b rest p e).1) h))
    (λ e3. by_option (second_mark (b ∷ rest))
    (λ p e. absurd (no_mark p b (take 1 rest) ((second_is b rest p e).1) h))
    (λ e2. by_option (first_mark (b ∷ rest))
    (λ p e. absurd (no_mark p b [] (one_sound b p e) h))
    (λ e1. rw (e3, e2, e1) refl)))

reach_other : (around : Option Quote) (b : ℕ) (rest : List ℕ) → IsOther b → Reaches (k.Refused r.Unknown) 1 (piece_at around (b ∷ rest))
reach_other around b rest h =
    rw (at_other around b rest h.0 h.1 h.2) (rw (no_comment b rest h, no_block b rest h, h.3, no_brace around b h) (rw (other_mark b rest h) (inr (refl, refl))))

reach_closing : (around : Option Quote) (rest : List ℕ) → ¬ (around ≡ None) → Reaches (k.Refused r.Unknown) 1 (piece_at around (125 ∷ rest))
reach_closing None rest h = absurd (h refl)
reach_closing (Some quote) rest h = rw (at_brace quote rest) (string_more quote (k.Lexeme t.Tail) (k.Lexeme t.Middle) rest)

-- ----

pub reach : (around : Option Quote) (kind : PieceClass) (p rest : List ℕ) → IsPiece around kind p → Reaches kind (length p) (piece_at around (p ++ rest))
reach around k.Blank p rest h = reach_blank around p rest h
reach around k.Comment p rest (inl (more, e, h)) = rw e (reach_line around more rest h)
reach around k.Comment p rest (inr (ms, e, h)) = rw e (reach_block around ms rest h)
reach around (k.Lexeme t.Identifier) p rest h = name_reached around p rest (k.Lexeme t.Identifier) (any_run _ p h.0) (reach_name t.Identifier p rest h.0 (identifier_kind p h.1))
reach around (k.Lexeme (t.Word word)) p rest e = rw e (name_reached around (word_text word) rest (k.Lexeme (t.Word word)) (any_run _ (word_text word) (word_run word)) (reach_name (t.Word word) (word_text word) rest (word_run word) (word_kind word)))
reach around (k.Lexeme t.Integer) p rest (inl h) = digits_reached around (k.Lexeme t.Integer) p rest h (length p) (reach_digits p rest h)
reach around (k.Lexeme t.Integer) p rest (inr (x, digits, e, isx, h)) = rw e (reach_hex x digits rest isx h)
reach around (k.Lexeme t.Whole) p rest (quote, inl h) = reach_whole quote p rest (piece_at around) (at_quote around quote) h
reach around (k.Lexeme t.Whole) p rest (quote, inr h) = reach_raw quote p rest (piece_at around) (at_raw around quote) h
reach around (k.Lexeme (t.Head quote)) p rest h = reach_head quote p rest (piece_at around) (at_quote around quote) h
reach None (k.Lexeme t.Middle) p rest h = absurd h
reach (Some quote) (k.Lexeme t.Middle) p rest h = reach_opened quote 125 (k.Lexeme t.Tail) (k.Lexeme t.Middle) p rest (piece_at (Some quote)) (at_brace quote) h
reach None (k.Lexeme t.Tail) p rest h = absurd h
reach (Some quote) (k.Lexeme t.Tail) p rest h = reach_ended quote 125 (k.Lexeme t.Tail) (k.Lexeme t.Middle) p rest (piece_at (Some quote)) (at_brace quote) h
reach around (k.Lexeme (t.Sign sign)) p rest h = rw h.0 (reach_sign around sign rest h.1)
reach around (k.Refused r.Unknown) p rest (inl (b, e, h)) = rw e (reach_other around b rest h)
reach around (k.Refused r.Unknown) p rest (inr (inl e)) = rw e (reach_opening around rest)
reach around (k.Refused r.Unknown) p rest (inr (inr (inl (quote, e)))) = rw e (rw (at_quote around quote rest) (quoted_more quote rest))
reach around (k.Refused r.Unknown) p rest (inr (inr (inr (e, h)))) = rw e (reach_closing around rest h)
reach around (k.Refused r.OpenRaw) p rest (quote, e) = rw e (rw (at_raw around quote rest) (raw_more quote rest))
reach around (k.Refused r.TripleQuotes) p rest (quote, inl e) = rw e (rw (at_quote around quote (quote_byte quote ∷ quote_byte quote ∷ rest)) (rw (quoted_triple quote rest) (inr (refl, refl))))
reach around (k.Refused r.TripleQuotes) p rest (quote, inr e) = rw e (rw (at_raw around quote (quote_byte quote ∷ quote_byte quote ∷ rest)) (rw (raw_triple quote rest) (inr (refl, refl))))
reach around (k.Refused r.Fraction) p rest (inl (d, e, isd)) = rw e (reach_point around d rest isd)
reach around (k.Refused r.Fraction) p rest (inr (digits, tail, e, run, makes)) = rw e (number_reached around (k.Refused r.Fraction) digits tail rest run (length (digits ++ tail)) (reach_double digits tail rest run makes))
reach around (k.Refused r.NullAware) p rest (inl e) = rw e (reach_null_aware around 63 rest (inl refl))
reach around (k.Refused r.NullAware) p rest (inr (inl e)) = rw e (reach_null_aware around 46 rest (inr refl))
reach around (k.Refused r.NullAware) p rest (inr (inr e)) = rw e (inr (refl, refl))
reach around (k.Refused r.Symbol) p rest e = rw e (symbol rest)
  where
    symbol : (rest : List ℕ) → Reaches (k.Refused r.Symbol) 1 (piece_at around (35 ∷ rest))
    symbol [] = inr (refl, refl)
    symbol (x ∷ []) = inr (refl, refl)
    symbol (x ∷ y ∷ rest) = inr (refl, refl)

-- ---- what is found is a piece

line_sound : (around : Option Quote) (text : List ℕ) → is_comment text ≡ true → SoundAt around text (k.Comment, 2 + prefix_len in_line (after_two text))
line_sound around [] e = absurd cc
line_sound around (a ∷ []) e = absurd cc
line_sound around (a ∷ b ∷ more) e =
    let ea : a ≡ 47 = grind (arith, nat_tests) in
    let eb : b ≡ 47 = grind (arith, nat_tests) in
    let within : prefix_len in_line more ≤ length more = prefix_within in_line more in
    let n : 2 + prefix_len in_line more ≡ suc (suc (prefix_len in_line more)) = omega arith in
    let P : ℕ → Type 0 = λ i. IsPiece around k.Comment (take i (a ∷ b ∷ more)) in
    let head : a ∷ b ∷ take (prefix_len in_line more) more ≡ 47 ∷ 47 ∷ take (prefix_len in_line more) more = cc in
    (omega arith, omega arith, subst P (sym n) (inl (take (prefix_len in_line more) more, head, passes_run in_line more)))

block_sound : (around : Option Quote) (text : List ℕ) → is_block text ≡ true → SoundAt around text (block_found (scan 1 (after_two text)))
block_sound around [] e = absurd cc
block_sound around (a ∷ []) e = absurd cc
block_sound around (a ∷ b ∷ more) e =
    let ea : a ≡ 47 = grind (arith, nat_tests) in
    let eb : b ≡ 42 = grind (arith, nat_tests) in
    (elim (scan 1 more) as (λ o. scan 1 more ≡ o → SoundAt around (a ∷ b ∷ more) (block_found (scan 1 more))) [
      | None ↦ λ g. rw g (omega arith, omega arith, inr (inl cc))
      | Some n ↦ λ g.
          let (within, (ms, same, closing)) = scan_sound 1 more n g in
          let two : 2 + n ≡ suc (suc n) = omega arith in
          rw g (rw two (omega arith, omega arith, inr (ms, cc, closing)))
    ]) refl

brace_sound : (quote : Quote) (more : List ℕ) → SoundAt (Some quote) (125 ∷ more) (string_at quote (k.Lexeme t.Tail) (k.Lexeme t.Middle) more)
brace_sound quote more = string_sound (Some quote) quote 125 (k.Lexeme t.Tail) (k.Lexeme t.Middle) (λ p h. h) (λ p h. h) (inr (inr (inr (refl, λ e. absurd cc)))) more

allowed : (around : Option Quote) (b : ℕ) (sign : Sign) (more : List ℕ) → closes_around around b ≡ None → b ∷ more ≡ sign_text sign → IsAllowed around sign
allowed None b sign more c e = tt
allowed (Some quote) b sign more c e = λ f.
    let same : b ≡ 125 = cc in
    let bad : closes_around (Some quote) 125 ≡ None = ap (closes_around (Some quote)) (sym same) ∙ c in absurd cc

mark_is : (around : Option Quote) (p : PieceClass) (b : ℕ) (more : List ℕ) → closes_around around b ≡ None → IsMark p (b ∷ more) → IsPiece around p (b ∷ more)
mark_is around (k.Lexeme (t.Sign sign)) b more c e = (e, allowed around b sign more c e)
mark_is around (k.Refused r.Fraction) b more c e = e
mark_is around (k.Refused r.NullAware) b more c e = e
mark_is around (k.Refused r.Symbol) b more c e = e
mark_is around k.Blank b more c e = absurd e
mark_is around k.Comment b more c e = absurd e
mark_is around (k.Lexeme t.Identifier) b more c e = absurd e
mark_is around (k.Lexeme (t.Word word)) b more c e = absurd e
mark_is around (k.Lexeme t.Integer) b more c e = absurd e
mark_is around (k.Lexeme t.Whole) b more c e = absurd e
mark_is around (k.Lexeme (t.Head quote)) b more c e = absurd e
mark_is around (k.Lexeme t.Middle) b more c e = absurd e
mark_is around (k.Lexeme t.Tail) b more c e = absurd e
mark_is around (k.Refused r.Unknown) b more c e = absurd e
mark_is around (k.Refused r.OpenRaw) b more c e = absurd e
mark_is around (k.Refused r.TripleQuotes) b more c e = absurd e

mark_sound : (around : Option Quote) (b : ℕ) (rest : List ℕ) → is_letter b ≡ false → is_digit b ≡ false → is_blank b ≡ false → quote_of b ≡ None → closes_around around b ≡ None → SoundAt around (b ∷ rest) (mark_at (b ∷ rest))
mark_sound around b rest l d w o c = by_option (third_mark (b ∷ rest))
    (λ p e. let h = third_is b rest p e in let le : 2 ≤ length rest = h.0 in rw e (omega arith, omega arith, mark_is around p b (take 2 rest) c h.1))
    (λ e3. by_option (second_mark (b ∷ rest))
    (λ p e. let h = second_is b rest p e in let le : 1 ≤ length rest = h.0 in rw (e3, e) (omega arith, omega arith, mark_is around p b (take 1 rest) c h.1))
    (λ e2. by_option (first_mark (b ∷ rest))
    (λ p e. rw (e3, e2, e) (omega arith, omega arith, mark_is around p b [] c (one_sound b p e)))
    (λ e1. rw (e3, e2, e1) (omega arith, omega arith, inl (b, refl, (l, d, w, o, no_hash b e1, λ sign more e. begins_sign sign b more e e1))))))
  where
    no_hash : (b : ℕ) → one_mark b ≡ None → ¬ (b ≡ 35)
    no_hash b e = λ same. let bad : one_mark 35 ≡ None = sym (ap one_mark same) ∙ e in absurd cc

other_sound : (around : Option Quote) (x : ℕ) (more : List ℕ) → is_letter x ≡ false → is_digit x ≡ false → is_blank x ≡ false → SoundAt around (x ∷ more) (string_or (quote_of x) (closes_around around x) more (mark_at (x ∷ more)))
other_sound around x more l d b = (elim (quote_of x) as (λ o. quote_of x ≡ o → SoundAt around (x ∷ more) (string_or (quote_of x) (closes_around around x) more (mark_at (x ∷ more)))) [
  | Some quote ↦ λ e. rw e (subst (λ y. SoundAt around (y ∷ more) (quoted_at quote more)) (sym (quote_is x quote e)) (quoted_sound around quote more))
  | None ↦ λ e. rw e (around_sound around x more l d b e)
]) refl
  where
    around_sound : (around : Option Quote) (x : ℕ) (more : List ℕ) → is_letter x ≡ false → is_digit x ≡ false → is_blank x ≡ false → quote_of x ≡ None → SoundAt around (x ∷ more) (string_or None (closes_around around x) more (mark_at (x ∷ more)))
    around_sound None x more l d b e =
        let c : closes_around None x ≡ None = by_bool (x == 125) (λ y. rw y refl) (λ y. rw y refl) in
        rw c (mark_sound None x more l d b e c)
    around_sound (Some quote) x more l d b e = by_bool (x == 125)
        (λ y. let same : x ≡ 125 = grind (arith, nat_tests) in rw y (subst (λ z. SoundAt (Some quote) (z ∷ more) (string_at quote (k.Lexeme t.Tail) (k.Lexeme t.Middle) more)) (sym same) (brace_sound quote more)))
        (λ y. let c : closes_around (Some quote) x ≡ None = rw y refl in rw c (mark_sound (Some quote) x more l d b e c))

blank_sound : (around : Option Quote) (x : ℕ) (more : List ℕ) → is_blank x ≡ true → SoundAt around (x ∷ more) (k.Blank, prefix_len is_blank (x ∷ more))
blank_sound around x more e = let run = run_taken is_blank is_blank x more e e in (run.0, prefix_within is_blank (x ∷ more), run.1)

pub sound : (around : Option Quote) (text : List ℕ) → 0 < length text → Sound around text
sound around [] lt = absurd (omega arith)
sound around (x ∷ more) lt = by_bool (is_letter x)
    (λ l. subst (SoundAt around (x ∷ more)) (sym (at_letter around x more l)) (letter_sound around x more l))
    (λ l. by_bool (is_digit x)
    (λ d. subst (SoundAt around (x ∷ more)) (sym (at_digit around x more d)) (number_sound around x more d))
    (λ d. by_bool (is_blank x)
    (λ b. subst (SoundAt around (x ∷ more)) (sym (at_blank around x more b)) (blank_sound around x more b))
    (λ b. subst (SoundAt around (x ∷ more)) (sym (at_other around x more l d b)) (by_bool (is_comment (x ∷ more))
    (λ c. rw c (line_sound around (x ∷ more) c))
    (λ c. by_bool (is_block (x ∷ more))
    (λ e. rw (c, e) (block_sound around (x ∷ more) e))
    (λ e. rw (c, e) (other_sound around x more l d b)))))))
