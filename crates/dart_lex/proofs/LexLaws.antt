-- What is read turn by turn, and what a whole text gives.
use Rattle.std.proofs.Common.{◌≡◌, ◌∙◌, sym, ap, refl, subst, ℕ, suc, ◌+◌, ◌-◌, ◌<◌, ◌≤◌, List, [], ◌∷◌, ◌++◌, zero, Bool, true, false, cond, arith, length, take, drop, get_or, count_by, Option, Some, None, Result, Ok, Err, append_assoc, ◌||◌, nat_lt}
use Rattle.std.proofs.lemmas.Bool.Decides.{nat_tests}
use Rattle.std.proofs.lemmas.List.{take-append-drop, drop_all, drop-drop, append-nil}
use Rattle.std.proofs.lemmas.List.Recursion.{is_count_by}
use Rattle.std.specs.Str.Lossy.{utf8_valid_len}
use Rattle.dart_base.specs.declared.limit.TheConstants.{UNIT_BYTES, UNIT_LINES, UNIT_WEIGHT}
use Rattle.dart_base.specs.declared.place.Place.{Place}
use Rattle.dart_token.specs.declared.token.Quote.{Quote}
use Rattle.dart_token.specs.declared.token.Token.{Token}
use Rattle.dart_lex.specs.declared.lexer.LexFault.{LexFault}
use Rattle.dart_lex.specs.declared.lexer.LexFault.TheVariants as lf
use Rattle.dart_pieces.specs.declared.piece.PieceClass.{PieceClass}
use Rattle.dart_pieces.specs.Bytes.{is_line_end}
use Rattle.dart_pieces.specs.Cuts.{Piece, found_piece, Longest, Cut, CutOf, opened, innermost, script_len}
use Rattle.dart_lex.specs.Spelling.{after, fault_of, spelled, behind, tokens_of, lines, weight, first_place, answer, within_limits, Spells, HasReason}
use Rattle.dart_lex.specs.Held.{IsHeld, HasRead}
use Rattle.dart_pieces.proofs.RunLaws.{by_bool}
use Rattle.dart_pieces.proofs.CutLaws.{cut_of, cut_of_text, one_cut_of}

-- ---- a text spells one list, or has one reason

pub one_spelling : (unit : ℕ) (text : List ℕ) (tokens others : List Token) → Spells unit text tokens → Spells unit text others → tokens ≡ others
one_spelling unit text tokens others (pieces, cut, e) (more, same, f) =
    let one : pieces ≡ more = one_cut_of text pieces more cut same in
    let g : answer unit text pieces ≡ Ok others = rw one f in
    cc

pub one_reason : (unit : ℕ) (text : List ℕ) (fault other : LexFault) → HasReason unit text fault → HasReason unit text other → fault ≡ other
one_reason unit text fault other (pieces, cut, e) (more, same, f) =
    let one : pieces ≡ more = one_cut_of text pieces more cut same in
    let g : answer unit text pieces ≡ Err other = rw one f in
    cc

pub spelled_or_refused : (unit : ℕ) (text : List ℕ) (tokens : List Token) (fault : LexFault) → Spells unit text tokens → HasReason unit text fault → ⊥
spelled_or_refused unit text tokens fault (pieces, cut, e) (more, same, f) =
    let one : pieces ≡ more = one_cut_of text pieces more cut same in
    let g : answer unit text pieces ≡ Err fault = rw one f in
    absurd cc

-- ---- the answer of a text that is UTF-8

within_bytes : (text : List ℕ) → length text ≤ UNIT_BYTES → nat_lt UNIT_BYTES (length text) ≡ false
within_bytes text le = grind (arith, nat_tests)

answer_read : (unit : ℕ) (text : List ℕ) (pieces : List Piece) → length text ≤ UNIT_BYTES → utf8_valid_len text ≡ length text → answer unit text pieces ≡ within_limits text (tokens_of (first_place unit text) pieces)
answer_read unit text pieces le e =
    let f = within_bytes text le in
    let g : nat_lt (utf8_valid_len text) (length text) ≡ false = grind (arith, nat_tests) in
    rw (f, g) refl

-- ---- turns

-- what a cut of the rest gives is what a cut of the text gives, behind the tokens found so far
abbrev pub Kept : ℕ → List ℕ → List Token → List (Option Quote) → Place → ℕ → Type 0
Kept unit text found nesting place at = (pieces : List Piece) → Cut nesting (drop at text) pieces → (all : List Piece) × CutOf text all × (behind found (tokens_of place pieces) ≡ tokens_of (first_place unit text) all)

-- with the tokens that are kept and their weight
abbrev pub Going : ℕ → List ℕ → List Token → ℕ → List (Option Quote) → Place → ℕ → Type 0
Going unit text held total nesting place at = (found : List Token) × Kept unit text found nesting place at × IsHeld found held total

behind_none : (read : Result (List Token) LexFault) → behind [] read ≡ read
behind_none (Ok tokens) = refl
behind_none (Err fault) = refl

behind_twice : (a b : List Token) (read : Result (List Token) LexFault) → behind a (behind b read) ≡ behind (a ++ b) read
behind_twice a b (Ok tokens) = ap Ok (sym (append_assoc a b tokens))
behind_twice a b (Err fault) = refl

pub going_first : (unit : ℕ) (text : List ℕ) → Going unit text [] 0 [] (first_place unit text) (script_len text)
going_first unit text = ([], λ pieces h. (pieces, h, behind_none (tokens_of (first_place unit text) pieces)), (refl, λ le. refl))

module _ (unit : ℕ) (text : List ℕ) (nesting : List (Option Quote)) (place : Place) (at : ℕ) (found : PieceClass × ℕ) (longest : Longest (innermost nesting) (found_piece found (drop at text)) (drop found.1 (drop at text))) where
  -- the piece, before a cut of the rest
  cut_next : (pieces : List Piece) → Cut (opened nesting found.0) (drop (at + found.1) text) pieces → Cut nesting (drop at text) (found_piece found (drop at text) ∷ pieces)
  cut_next pieces h =
      let here : Cut (opened nesting found.0) (drop found.1 (drop at text)) pieces = subst (λ x. Cut (opened nesting found.0) x pieces) (sym (drop-drop found.1 at text)) h in
      (drop found.1 (drop at text), sym (take-append-drop found.1 (drop at text)), longest, here)

  -- a turn that reads a piece
  pub going_next : (held next : List Token) (total sum : ℕ) (open_next : List (Option Quote)) (place_next : Place)
      → fault_of place found.0 (take found.1 (drop at text)) ≡ None
      → ((tokens : List Token) → IsHeld tokens held total → IsHeld (tokens ++ spelled place found.0 (take found.1 (drop at text))) next sum)
      → open_next ≡ opened nesting found.0 → place_next ≡ after place (take found.1 (drop at text))
      → Going unit text held total nesting place at → Going unit text next sum open_next place_next (at + found.1)
  going_next held next total sum open_next place_next good add f g (tokens, kept, is_held) =
      (tokens ++ spelled place found.0 (take found.1 (drop at text)), after_it, add tokens is_held)
    where
      after_it : Kept unit text (tokens ++ spelled place found.0 (take found.1 (drop at text))) open_next place_next (at + found.1)
      after_it pieces h =
          let (all, whole, same) = kept (found_piece found (drop at text) ∷ pieces) (cut_next pieces (subst (λ x. Cut x (drop (at + found.1) text) pieces) f h)) in
          let step : tokens_of place (found_piece found (drop at text) ∷ pieces) ≡ behind (spelled place found.0 (take found.1 (drop at text))) (tokens_of (after place (take found.1 (drop at text))) pieces) = rw good refl in
          let there : tokens_of place_next pieces ≡ tokens_of (after place (take found.1 (drop at text))) pieces = ap (λ p. tokens_of p pieces) g in (
            all,
            whole,
            ap (behind (tokens ++ spelled place found.0 (take found.1 (drop at text)))) there
                ∙ sym (behind_twice tokens (spelled place found.0 (take found.1 (drop at text))) (tokens_of (after place (take found.1 (drop at text))) pieces)) ∙ ap (behind tokens) (sym step) ∙ same,
          )

  -- a turn whose piece is refused
  pub going_refused : (held : List Token) (total : ℕ) (fault : LexFault) → fault_of place found.0 (take found.1 (drop at text)) ≡ Some fault
      → Going unit text held total nesting place at → length text ≤ UNIT_BYTES → utf8_valid_len text ≡ length text → HasReason unit text fault
  going_refused held total fault bad (tokens, kept, is_held) short utf8 =
      let more = cut_of (opened nesting found.0) (drop (at + found.1) text) in
      let (all, whole, same) = kept (found_piece found (drop at text) ∷ more.0) (cut_next more.0 more.1) in
      let step : tokens_of place (found_piece found (drop at text) ∷ more.0) ≡ Err fault = rw bad refl in
      (all, whole, answer_read unit text all short utf8 ∙ ap (within_limits text) (sym same ∙ ap (behind tokens) step))

pub going_last : (unit : ℕ) (text : List ℕ) (held : List Token) (total : ℕ) (nesting : List (Option Quote)) (place : Place) (at : ℕ) → length text ≤ at → Going unit text held total nesting place at → HasRead unit text held total
going_last unit text held total nesting place at le (found, kept, is_held) =
    let (all, whole, same) = kept [] (drop_all at text le) in
    (all, found, whole, sym same ∙ ap Ok (append-nil found), is_held)

pub none_of : (o : Option LexFault) → ((fault : LexFault) → o ≡ Some fault → ⊥) → o ≡ None
none_of None h = refl
none_of (Some fault) h = absurd (h fault refl)

-- ---- lines

abbrev pub line_ends : List ℕ → ℕ
line_ends [] = 0
line_ends (x ∷ xs) = cond (is_line_end x) (1 + line_ends xs) (line_ends xs)

-- the LFs, and whether bytes follow the last one
lines_rest : (x : ℕ) (more : List ℕ) → lines (x ∷ more) ≡ line_ends (x ∷ more) + cond (is_line_end (get_or (x ∷ more) (length more) 0)) 0 1
lines_rest x [] = by_bool (is_line_end x) (λ y. rw y refl) (λ y. rw y refl)
lines_rest x (z ∷ more) =
    let rest = lines_rest z more in
    by_bool (is_line_end x) (λ y. rw y (omega arith)) (λ y. rw y rest)

ends_counted : (text : List ℕ) → line_ends text ≡ count_by is_line_end text
ends_counted text = is_count_by line_ends is_line_end refl (λ x xs. refl) text

last_byte : (x : ℕ) (more : List ℕ) (d : ℕ) → get_or (x ∷ more) (length more) 0 ≡ get_or (x ∷ more) (length (x ∷ more) - 1) d
last_byte x more d = let n : length (x ∷ more) - 1 ≡ length more = omega arith in rw n (within (length more) (x ∷ more) d (omega arith))
  where
    within : (i : ℕ) (xs : List ℕ) (d : ℕ) → i < length xs → get_or xs i 0 ≡ get_or xs i d
    within i [] d lt = absurd (omega arith)
    within zero (x ∷ xs) d lt = refl
    within (suc i) (x ∷ xs) d lt = within i xs d (omega arith)

pub lines_ended : (text : List ℕ) (d : ℕ) → 0 < length text → is_line_end (get_or text (length text - 1) d) ≡ true → lines text ≡ count_by is_line_end text
lines_ended [] d lt e = absurd (omega arith)
lines_ended (x ∷ more) d lt e =
    let last : is_line_end (get_or (x ∷ more) (length more) 0) ≡ true = ap is_line_end (last_byte x more d) ∙ e in
    lines_rest x more ∙ rw last (omega (arith, ends_counted (x ∷ more)))

pub lines_open : (text : List ℕ) (d : ℕ) → 0 < length text → is_line_end (get_or text (length text - 1) d) ≡ false → lines text ≡ count_by is_line_end text + 1
lines_open [] d lt e = absurd (omega arith)
lines_open (x ∷ more) d lt e =
    let last : is_line_end (get_or (x ∷ more) (length more) 0) ≡ false = ap is_line_end (last_byte x more d) ∙ e in
    lines_rest x more ∙ rw last (omega (arith, ends_counted (x ∷ more)))

-- ---- the answer

pub too_many_bytes : (unit : ℕ) (text : List ℕ) → UNIT_BYTES < length text → HasReason unit text lf.TooLarge
too_many_bytes unit text lt =
    let (pieces, cut) = cut_of_text text in
    let e : nat_lt UNIT_BYTES (length text) ≡ true = grind (arith, nat_tests) in
    (pieces, cut, rw e refl)

pub no_utf8 : (unit : ℕ) (text : List ℕ) (n : ℕ) → length text ≤ UNIT_BYTES → n ≡ utf8_valid_len text → n < length text → HasReason unit text (lf.NotUtf8 n)
no_utf8 unit text n le e lt =
    let (pieces, cut) = cut_of_text text in
    let f = within_bytes text le in
    let short : utf8_valid_len text < length text = rw (← e) lt in
    let g : nat_lt (utf8_valid_len text) (length text) ≡ true = grind (arith, nat_tests) in
    (pieces, cut, rw (f, g) (ap (λ m. Err (lf.NotUtf8 m)) (sym e)))

pub read_too_large : (unit : ℕ) (text : List ℕ) (held : List Token) (total : ℕ) → length text ≤ UNIT_BYTES → utf8_valid_len text ≡ length text → (nat_lt UNIT_LINES (lines text) || nat_lt UNIT_WEIGHT total) ≡ true → HasRead unit text held total → HasReason unit text lf.TooLarge
read_too_large unit text held total le e large (pieces, found, cut, read, (sum, kept)) =
    let over : (nat_lt UNIT_LINES (lines text) || nat_lt UNIT_WEIGHT (weight found)) ≡ true = rw sum at large in
    let limited : within_limits text (Ok found) ≡ Err lf.TooLarge = rw over refl in
    (pieces, cut, answer_read unit text pieces le e ∙ ap (within_limits text) read ∙ limited)

or_none : (a b : Bool) → (a || b) ≡ false → b ≡ false
or_none true b e = absurd cc
or_none false b e = e

pub read_spelled : (unit : ℕ) (text : List ℕ) (held : List Token) (total : ℕ) → length text ≤ UNIT_BYTES → utf8_valid_len text ≡ length text → (nat_lt UNIT_LINES (lines text) || nat_lt UNIT_WEIGHT total) ≡ false → HasRead unit text held total → Spells unit text held
read_spelled unit text held total le e small (pieces, found, cut, read, (sum, kept)) =
    let under : (nat_lt UNIT_LINES (lines text) || nat_lt UNIT_WEIGHT (weight found)) ≡ false = rw sum at small in
    let limited : within_limits text (Ok found) ≡ Ok found = rw under refl in
    let light : total ≤ UNIT_WEIGHT = let z = or_none (nat_lt UNIT_LINES (lines text)) (nat_lt UNIT_WEIGHT total) small in grind (arith, nat_tests) in
    (pieces, cut, answer_read unit text pieces le e ∙ ap (within_limits text) read ∙ limited ∙ ap Ok (sym (kept light)))
