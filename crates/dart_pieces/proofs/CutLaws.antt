-- The piece that is found is the longest, and so each text has one cut.
use Rattle.std.proofs.Common.{◌≡◌, ◌∙◌, sym, ap, refl, subst, ℕ, suc, ◌-◌, ◌<◌, ◌≤◌, List, [], ◌∷◌, ◌++◌, zero, arith, length, take, drop, Option, Some, None, inl, inr}
use Rattle.std.proofs.lemmas.List.{take-append-drop, length-take-le, length-drop}
use Rattle.dart_token.specs.declared.sign.Sign.{Sign}
use Rattle.dart_token.specs.declared.token.Quote.{Quote}
use Rattle.dart_token.specs.declared.token.TokenKind.TheVariants as t
use Rattle.dart_token.specs.declared.word.Word.{Word}
use Rattle.dart_token.specs.Sign.{sign_text}
use Rattle.dart_token.specs.Word.{word_text}
use Rattle.dart_pieces.specs.declared.piece.PieceClass.{PieceClass}
use Rattle.dart_pieces.specs.declared.piece.PieceClass.TheVariants as k
use Rattle.dart_pieces.specs.declared.piece.LexReason.TheVariants as r
use Rattle.dart_pieces.specs.Bytes.{is_digit, is_letter, is_word_byte, IsRun}
use Rattle.dart_pieces.specs.Pieces.{IsPiece}
use Rattle.dart_pieces.specs.Cuts.{Piece, Longest, Cut, CutOf, opened, innermost, script_len}
use Rattle.dart_pieces.specs.Reader.{piece_at}
use Rattle.dart_pieces.proofs.RunLaws.{cut_at}
use Rattle.dart_pieces.proofs.MarkLaws.{placed}
use Rattle.dart_pieces.proofs.NameLaws.{word_run}
use Rattle.dart_pieces.proofs.PieceLaws.{Sound, sound, reach}
use Rattle.dart_pieces.proofs.Found.{Reaches}

-- ---- a piece has a byte

sign_some : (sign : Sign) → [] ≡ sign_text sign → ⊥
sign_some sign e = elim (placed sign []) as (λ _. ⊥) [
  | inl h ↦ let n = h.1 in let z : 0 ≡ length (sign_text sign) = ap length e in omega arith
  | inr h ↦ elim h as (λ _. ⊥) [ inl g ↦ let n = g.1 in let z : 0 ≡ length (sign_text sign) = ap length e in omega arith | inr g ↦ let n = g.1 in let z : 0 ≡ length (sign_text sign) = ap length e in omega arith ]
]

word_some : (word : Word) → [] ≡ word_text word → ⊥
word_some word e = subst (IsRun is_letter is_word_byte) (sym e) (word_run word)

no_digits : (digits tail : List ℕ) → [] ≡ digits ++ tail → IsRun is_digit is_digit digits → ⊥
no_digits [] tail e h = h
no_digits (d ∷ digits) tail e h = absurd cc

no_bytes : (around : Option Quote) (kind : PieceClass) → IsPiece around kind [] → ⊥
no_bytes around k.Blank h = h
no_bytes around k.Comment (inl (more, e, h)) = absurd cc
no_bytes around k.Comment (inr (ms, e, h)) = absurd cc
no_bytes around (k.Lexeme t.Identifier) h = h.0
no_bytes around (k.Lexeme (t.Word word)) e = word_some word e
no_bytes around (k.Lexeme t.Integer) (inl h) = h
no_bytes around (k.Lexeme t.Integer) (inr (x, digits, e, isx, h)) = absurd cc
no_bytes around (k.Lexeme t.Whole) (quote, inl (es, e, fit)) = absurd cc
no_bytes around (k.Lexeme t.Whole) (quote, inr (bytes, e, h)) = absurd cc
no_bytes around (k.Lexeme (t.Head quote)) (es, e, fit) = absurd cc
no_bytes None (k.Lexeme t.Middle) h = h
no_bytes (Some quote) (k.Lexeme t.Middle) (es, e, fit) = absurd cc
no_bytes None (k.Lexeme t.Tail) h = h
no_bytes (Some quote) (k.Lexeme t.Tail) (es, e, fit) = absurd cc
no_bytes around (k.Lexeme (t.Sign sign)) h = sign_some sign h.0
no_bytes around (k.Refused r.Unknown) (inl (b, e, h)) = absurd cc
no_bytes around (k.Refused r.Unknown) (inr (inl e)) = absurd cc
no_bytes around (k.Refused r.Unknown) (inr (inr (inl (quote, e)))) = absurd cc
no_bytes around (k.Refused r.Unknown) (inr (inr (inr (e, h)))) = absurd cc
no_bytes around (k.Refused r.OpenRaw) (quote, e) = absurd cc
no_bytes around (k.Refused r.TripleQuotes) (quote, inl e) = absurd cc
no_bytes around (k.Refused r.TripleQuotes) (quote, inr e) = absurd cc
no_bytes around (k.Refused r.Fraction) (inl (d, e, isd)) = absurd cc
no_bytes around (k.Refused r.Fraction) (inr (digits, tail, e, run, makes)) = no_digits digits tail e run
no_bytes around (k.Refused r.NullAware) (inl e) = absurd cc
no_bytes around (k.Refused r.NullAware) (inr (inl e)) = absurd cc
no_bytes around (k.Refused r.NullAware) (inr (inr e)) = absurd cc
no_bytes around (k.Refused r.Symbol) e = absurd cc

pub some_bytes : (around : Option Quote) (kind : PieceClass) (p rest : List ℕ) → IsPiece around kind p → 0 < length (p ++ rest)
some_bytes around kind [] rest h = absurd (no_bytes around kind h)
some_bytes around kind (x ∷ p) rest h = omega arith

-- ---- the longest piece is the one that is found

abbrev pub longest_piece : Option Quote → List ℕ → Piece
longest_piece around text = record { class = (piece_at around text).0; bytes = take (piece_at around text).1 text }

pub found_longest : (around : Option Quote) (text : List ℕ) → 0 < length text → Longest around (longest_piece around text) (drop (piece_at around text).1 text)
found_longest around text lt =
    let s : Sound around text = sound around text lt in
    let whole : take (piece_at around text).1 text ++ drop (piece_at around text).1 text ≡ text = take-append-drop (piece_at around text).1 text in
    let size : length (take (piece_at around text).1 text) ≡ (piece_at around text).1 = length-take-le (piece_at around text).1 text s.1 in (
      s.2,
      λ other piece more e h.
          let same : piece ++ more ≡ text = sym e ∙ whole in
          let n : (piece_at around (piece ++ more)).1 ≡ (piece_at around text).1 = ap (λ x. (piece_at around x).1) same in
          elim (reach around other piece more h) as (λ _. length piece ≤ length (take (piece_at around text).1 text)) [ inl longer ↦ omega arith | inr q ↦ let q1 = q.1 in omega arith ],
    )

same_piece : (a b : Piece) → a.class ≡ b.class → a.bytes ≡ b.bytes → a ≡ b
same_piece a b e f = ap (λ (p : PieceClass × List ℕ). record { class = p.0; bytes = p.1 }) (pair e f)
  where
    pair : {x y : PieceClass} {u v : List ℕ} → x ≡ y → u ≡ v → ◌≡◌ {A = PieceClass × List ℕ} (x, u) (y, v)
    pair e f = cc

pub longest_found : (around : Option Quote) (piece : Piece) (rest text : List ℕ) → piece.bytes ++ rest ≡ text → 0 < length text → Longest around piece rest → (piece ≡ longest_piece around text) × (rest ≡ drop (piece_at around text).1 text)
longest_found around piece rest text whole lt h =
    let s : Sound around text = sound around text lt in
    let found : Reaches piece.class (length piece.bytes) (piece_at around text) = subst (λ x. Reaches piece.class (length piece.bytes) (piece_at around x)) whole (reach around piece.class piece.bytes rest h.0) in
    let parts : take (piece_at around text).1 text ++ drop (piece_at around text).1 text ≡ text = take-append-drop (piece_at around text).1 text in
    let size : length (take (piece_at around text).1 text) ≡ (piece_at around text).1 = length-take-le (piece_at around text).1 text s.1 in
    let most : length (take (piece_at around text).1 text) ≤ length piece.bytes = h.1 (piece_at around text).0 (take (piece_at around text).1 text) (drop (piece_at around text).1 text) (whole ∙ sym parts) s.2 in
    elim found as (λ _. (piece ≡ longest_piece around text) × (rest ≡ drop (piece_at around text).1 text)) [
      | inl longer ↦ absurd (omega arith)
      | inr q ↦
          let n : (piece_at around text).1 ≡ length piece.bytes = q.1 in
          let kinds : (piece_at around text).0 ≡ piece.class = q.0 in
          let cut = cut_at piece.bytes rest (take (piece_at around text).1 text) (drop (piece_at around text).1 text) (whole ∙ sym parts) (omega arith) in
          (same_piece piece (longest_piece around text) (sym kinds) cut.0, cut.1)
    ]

-- ---- one cut

some_text : (around : Option Quote) (text : List ℕ) (piece : Piece) (rest : List ℕ) → text ≡ piece.bytes ++ rest → Longest around piece rest → 0 < length text
some_text around text piece rest e h = rw e (some_bytes around piece.class piece.bytes rest h.0)

no_text : (around : Option Quote) (text : List ℕ) (piece : Piece) (rest : List ℕ) → text ≡ piece.bytes ++ rest → text ≡ [] → Longest around piece rest → ⊥
no_text around text piece rest e n h = let lt : 0 < length text = some_text around text piece rest e h in let z : length text ≡ 0 = ap length n in omega arith

-- a text has no two cuts
pub one_cut : (nesting : List (Option Quote)) (text : List ℕ) (pieces others : List Piece) → Cut nesting text pieces → Cut nesting text others → pieces ≡ others
one_cut nesting text [] [] a b = refl
one_cut nesting text [] (o ∷ os) a (rest, e, h, more) = absurd (no_text (innermost nesting) text o rest e a h)
one_cut nesting text (c ∷ cs) [] (rest, e, h, more) b = absurd (no_text (innermost nesting) text c rest e b h)
one_cut nesting text (c ∷ cs) (o ∷ os) (rest, d, g, more) (other, e, h, others) =
    let lt : 0 < length text = some_text (innermost nesting) text c rest d g in
    let left = longest_found (innermost nesting) c rest text (sym d) lt g in
    let right = longest_found (innermost nesting) o other text (sym e) lt h in
    let heads : c ≡ o = left.0 ∙ sym right.0 in
    let rests : rest ≡ other = left.1 ∙ sym right.1 in
    let there : Cut (opened nesting c.class) other os = subst (λ (x : Piece). Cut (opened nesting x.class) other os) (sym heads) others in
    let tails : cs ≡ os = one_cut (opened nesting c.class) rest cs os more (subst (λ x. Cut (opened nesting c.class) x os) (sym rests) there) in
    cc

-- the piece that is found, before a cut of the rest
pub one_more : (nesting : List (Option Quote)) (text : List ℕ) (pieces : List Piece) → 0 < length text → Cut (opened nesting (piece_at (innermost nesting) text).0) (drop (piece_at (innermost nesting) text).1 text) pieces → Cut nesting text (longest_piece (innermost nesting) text ∷ pieces)
one_more nesting text pieces lt h = (drop (piece_at (innermost nesting) text).1 text, sym (take-append-drop (piece_at (innermost nesting) text).1 text), found_longest (innermost nesting) text lt, h)

-- a text has a cut
cut_within : (nesting : List (Option Quote)) (n : ℕ) (text : List ℕ) → length text ≤ n → (pieces : List Piece) × Cut nesting text pieces
cut_within nesting n [] le = ([], refl)
cut_within nesting zero (x ∷ text) le = absurd (omega arith)
cut_within nesting (suc n) (x ∷ text) le =
    let s : Sound (innermost nesting) (x ∷ text) = sound (innermost nesting) (x ∷ text) (omega arith) in
    let some = s.0 in
    let size : length (drop (piece_at (innermost nesting) (x ∷ text)).1 (x ∷ text)) ≡ length (x ∷ text) - (piece_at (innermost nesting) (x ∷ text)).1 = length-drop (piece_at (innermost nesting) (x ∷ text)).1 (x ∷ text) in
    let more = cut_within (opened nesting (piece_at (innermost nesting) (x ∷ text)).0) n (drop (piece_at (innermost nesting) (x ∷ text)).1 (x ∷ text)) (omega arith) in
    (longest_piece (innermost nesting) (x ∷ text) ∷ more.0, one_more nesting (x ∷ text) more.0 (omega arith) more.1)

pub cut_of : (nesting : List (Option Quote)) (text : List ℕ) → (pieces : List Piece) × Cut nesting text pieces
cut_of nesting text = cut_within nesting (length text) text (omega arith)

-- the same of a whole text
pub one_cut_of : (text : List ℕ) (pieces others : List Piece) → CutOf text pieces → CutOf text others → pieces ≡ others
one_cut_of text pieces others a b = one_cut [] (drop (script_len text) text) pieces others a b

pub cut_of_text : (text : List ℕ) → (pieces : List Piece) × CutOf text pieces
cut_of_text text = cut_of [] (drop (script_len text) text)
