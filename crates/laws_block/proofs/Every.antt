-- Each token has one of the codes.
use Rattle.std.proofs.Common.{◌≡◌, ℕ, Bool, true, false, if◌then◌else◌, List, refl}
use Rattle.std.specs.Str.{bytes_eq}
use Rattle.std.specs.Prelude.{codes}
use Rattle.dart_token.specs.declared.token.Token.{Token}
use Rattle.dart_token.specs.declared.token.TokenKind.{TokenKind}
use Rattle.dart_token.specs.declared.token.TokenKind.TheVariants as tk
use Rattle.dart_token.specs.declared.token.Quote.TheVariants as q
use Rattle.dart_token.specs.declared.sign.Sign.{Sign}
use Rattle.dart_token.specs.declared.sign.Sign.TheVariants as s
use Rattle.dart_token.specs.declared.word.Word.{Word}
use Rattle.dart_token.specs.declared.word.Word.TheVariants as w
use Rattle.dart_token.specs.Sign.{sign_text}
use Rattle.dart_token.specs.Word.{word_text}
use Rattle.grammar_laws.specs.Codes.{has}
use Rattle.token_codes.specs.Codes.{class_of, kind_code, own_or_odd, word_code, sign_code, on_code, of_code, show_code, hide_code, name_code}
use Rattle.laws_block.specs.Begun.{codes_below, every_code}

every_own : (b : Bool) (c : ℕ) → has (codes_below 127) c ≡ true → has (codes_below 127) (own_or_odd b c) ≡ true
every_own true c h = h
every_own false c h = refl

every_word : (x : Word) → has (codes_below 127) (word_code x) ≡ true
every_word w.Assert = refl
every_word x = refl

every_sign : (x : Sign) → has (codes_below 127) (sign_code x) ≡ true
every_sign s.Comma = refl
every_sign x = refl

every_name : (b c d e : Bool) → has (codes_below 127) (if b then on_code else if c then of_code else if d then show_code else if e then hide_code else name_code) ≡ true
every_name true c d e = refl
every_name false true d e = refl
every_name false false true e = refl
every_name false false false true = refl
every_name false false false false = refl

every_kind : (kind : TokenKind) (text : List ℕ) → has (codes_below 127) (kind_code kind text) ≡ true
every_kind tk.Identifier text = every_name (bytes_eq text (codes "on")) (bytes_eq text (codes "of")) (bytes_eq text (codes "show")) (bytes_eq text (codes "hide"))
every_kind (tk.Word x) text = every_own (bytes_eq text (word_text x)) (word_code x) (every_word x)
every_kind tk.Integer text = refl
every_kind tk.Whole text = refl
every_kind (tk.Head q.Single) text = refl
every_kind (tk.Head q.Double) text = refl
every_kind tk.Middle text = refl
every_kind tk.Tail text = refl
every_kind (tk.Sign x) text = every_own (bytes_eq text (sign_text x)) (sign_code x) (every_sign x)

pub every_token : (t : Token) → has every_code (class_of t) ≡ true
unfolding class_of every_code
every_token t = every_kind t.kind t.lexeme
