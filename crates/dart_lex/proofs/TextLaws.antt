-- No text is without an answer, and none is refused for want of memory.
use Rattle.std.proofs.Common.{◌≡◌, refl, ℕ, List, [], ◌∷◌, length, Option, Some, None, Result, Ok, Err, ◌⊎◌, inl, inr, ◌||◌, nat_lt}
use Rattle.std.specs.Str.Lossy.{utf8_valid_len}
use Rattle.dart_base.specs.declared.limit.TheConstants.{GREATEST_INTEGER, UNIT_BYTES, UNIT_LINES, UNIT_WEIGHT}
use Rattle.dart_base.specs.declared.place.Place.{Place}
use Rattle.dart_token.specs.declared.token.Token.{Token}
use Rattle.dart_token.specs.declared.token.TokenKind.TheVariants as t
use Rattle.dart_lex.specs.declared.lexer.LexFault.{LexFault}
use Rattle.dart_lex.specs.declared.lexer.LexFault.TheVariants as lf
use Rattle.dart_pieces.specs.declared.piece.PieceClass.{PieceClass}
use Rattle.dart_pieces.specs.declared.piece.PieceClass.TheVariants as k
use Rattle.dart_pieces.specs.declared.piece.LexReason.{LexReason}
use Rattle.dart_pieces.specs.declared.piece.LexReason.TheVariants as r
use Rattle.dart_pieces.specs.Cuts.{Piece, CutOf}
use Rattle.dart_pieces.specs.Numbers.{integer_value}
use Rattle.dart_pieces.proofs.RunLaws.{by_bool}
use Rattle.dart_pieces.proofs.CutLaws.{cut_of_text}
use Rattle.dart_lex.specs.Spelling.{reason_fault, fault_of, spelled, behind, fault_or, tokens_of, after, lines, weight, within_limits, first_place, answer, Spells, HasReason}

reason_is_no_memory : (place : Place) (reason : LexReason) → reason_fault place reason ≡ lf.Memory → ⊥
reason_is_no_memory place r.Unknown e = cc
reason_is_no_memory place r.OpenRaw e = cc
reason_is_no_memory place r.TripleQuotes e = cc
reason_is_no_memory place r.Fraction e = cc
reason_is_no_memory place r.NullAware e = cc
reason_is_no_memory place r.Symbol e = cc

some_same : (a b : LexFault) → Some a ≡ Some b → a ≡ b
some_same a b e = cc

piece_no_memory : (place : Place) (class : PieceClass) (bytes : List ℕ) → fault_of place class bytes ≡ Some lf.Memory → ⊥
piece_no_memory place k.Blank bytes e = cc
piece_no_memory place k.Comment bytes e = cc
piece_no_memory place (k.Refused reason) bytes e = reason_is_no_memory place reason (some_same (reason_fault place reason) lf.Memory e)
piece_no_memory place (k.Lexeme t.Integer) bytes e = by_bool (nat_lt GREATEST_INTEGER (integer_value bytes))
    (λ y. let bad : ◌≡◌ {A = Option LexFault} (Some (lf.IntegerTooLarge place)) (Some lf.Memory) = rw y at e in cc)
    (λ y. let bad : ◌≡◌ {A = Option LexFault} None (Some lf.Memory) = rw y at e in cc)
piece_no_memory place (k.Lexeme t.Identifier) bytes e = cc
piece_no_memory place (k.Lexeme (t.Word word)) bytes e = cc
piece_no_memory place (k.Lexeme t.Whole) bytes e = cc
piece_no_memory place (k.Lexeme (t.Head quote)) bytes e = cc
piece_no_memory place (k.Lexeme t.Middle) bytes e = cc
piece_no_memory place (k.Lexeme t.Tail) bytes e = cc
piece_no_memory place (k.Lexeme (t.Sign sign)) bytes e = cc

fault_or_err : (fault : Option LexFault) (read : Result (List Token) LexFault) (why : LexFault) → fault_or fault read ≡ Err why → (fault ≡ Some why) ⊎ (read ≡ Err why)
fault_or_err None read why e = inr e
fault_or_err (Some fault) read why e = inl cc

behind_err : (found : List Token) (read : Result (List Token) LexFault) (why : LexFault) → behind found read ≡ Err why → read ≡ Err why
behind_err found (Ok tokens) why e = absurd cc
behind_err found (Err fault) why e = cc

pieces_no_memory : (place : Place) (pieces : List Piece) → tokens_of place pieces ≡ Err lf.Memory → ⊥
pieces_no_memory place [] e = cc
pieces_no_memory place (piece ∷ pieces) e = elim (fault_or_err (fault_of place piece.class piece.bytes) (behind (spelled place piece.class piece.bytes) (tokens_of (after place piece.bytes) pieces)) lf.Memory e) as (λ _. ⊥) [
  | inl f ↦ piece_no_memory place piece.class piece.bytes f
  | inr f ↦ pieces_no_memory (after place piece.bytes) pieces (behind_err (spelled place piece.class piece.bytes) (tokens_of (after place piece.bytes) pieces) lf.Memory f)
]

limits_no_memory : (text : List ℕ) (read : Result (List Token) LexFault) → within_limits text read ≡ Err lf.Memory → read ≡ Err lf.Memory
limits_no_memory text (Err fault) e = e
limits_no_memory text (Ok tokens) e = by_bool (nat_lt UNIT_LINES (lines text) || nat_lt UNIT_WEIGHT (weight tokens))
    (λ y. let bad : ◌≡◌ {A = Result (List Token) LexFault} (Err lf.TooLarge) (Err lf.Memory) = rw y at e in absurd cc)
    (λ y. let bad : ◌≡◌ {A = Result (List Token) LexFault} (Ok tokens) (Err lf.Memory) = rw y at e in absurd cc)

answer_no_memory : (unit : ℕ) (text : List ℕ) (pieces : List Piece) → answer unit text pieces ≡ Err lf.Memory → ⊥
answer_no_memory unit text pieces e = by_bool (nat_lt UNIT_BYTES (length text))
    (λ y. let bad : ◌≡◌ {A = Result (List Token) LexFault} (Err lf.TooLarge) (Err lf.Memory) = rw y at e in cc)
    (λ y. by_bool (nat_lt (utf8_valid_len text) (length text))
    (λ z. let bad : ◌≡◌ {A = Result (List Token) LexFault} (Err (lf.NotUtf8 (utf8_valid_len text))) (Err lf.Memory) = rw z at (rw y at e) in cc)
    (λ z. pieces_no_memory (first_place unit text) pieces (limits_no_memory text (tokens_of (first_place unit text) pieces) (rw z at (rw y at e)))))

-- want of memory is no reason of a text
pub no_memory_reason : (unit : ℕ) (text : List ℕ) → HasReason unit text lf.Memory → ⊥
no_memory_reason unit text (pieces, cut, e) = answer_no_memory unit text pieces e

-- a text spells tokens, or has a reason
pub some_answer : (unit : ℕ) (text : List ℕ) → ((tokens : List Token) × Spells unit text tokens) ⊎ ((fault : LexFault) × HasReason unit text fault)
some_answer unit text =
    let (pieces, cut) = cut_of_text text in
    either_answer unit text pieces cut (answer unit text pieces) refl
  where
    either_answer : (unit : ℕ) (text : List ℕ) (pieces : List Piece) → CutOf text pieces → (read : Result (List Token) LexFault) → answer unit text pieces ≡ read → ((tokens : List Token) × Spells unit text tokens) ⊎ ((fault : LexFault) × HasReason unit text fault)
    either_answer unit text pieces cut (Ok tokens) e = inl (tokens, (pieces, cut, e))
    either_answer unit text pieces cut (Err fault) e = inr (fault, (pieces, cut, e))
