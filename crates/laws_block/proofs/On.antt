-- The law of what begins another part of a `try`: `on` and a type (ECMA-408, 17.11 Try).
use Rattle.std.proofs.Common.{◌≡◌, ℕ, Bool, true, false, if◌then◌else◌, List, [], ◌∷◌, inl, inr, refl, sym, ap, ap₂, ◌∙◌}
use Rattle.std.specs.Str.{bytes_eq}
use Rattle.std.specs.Prelude.{codes}
use Rattle.dart_base.specs.declared.place.Place.{Place}
use Rattle.dart_token.specs.declared.token.Token.{Token}
use Rattle.dart_token.specs.declared.token.TokenKind.{TokenKind}
use Rattle.dart_token.specs.declared.token.TokenKind.TheVariants as tk
use Rattle.dart_token.specs.declared.token.Quote.TheVariants as q
use Rattle.dart_token.specs.declared.sign.Sign.{Sign}
use Rattle.dart_token.specs.declared.sign.Sign.TheVariants as s
use Rattle.dart_token.specs.declared.word.Word.{Word}
use Rattle.dart_token.specs.declared.word.Word.TheVariants as w
use Rattle.dart_token.specs.Sign.{sign_text}
use Rattle.dart_token.specs.Word.{word_text}
use Rattle.dart_tree.specs.LeafTokens.{on_text}
use Rattle.grammar_laws.specs.Codes.{has, nowhere}
use Rattle.grammar_laws.specs.Fronts.{OneOf}
use Rattle.grammar_laws.proofs.Codes.{apart_none}
use Rattle.grammar_laws.proofs.Restated.{refront}
use Rattle.grammar_laws.proofs.Combined.{both_laws}
use Rattle.grammar_laws.proofs.Words.{word_laws}
use Rattle.dart_syntax.specs.Phrases.{LeafFront}
use Rattle.dart_syntax.specs.Leaves.{named, named_tokens}
use Rattle.token_codes.specs.Codes.{class_of, kind_code, own_or_odd, word_code, sign_code, on_code, of_code, show_code, hide_code, name_code}
use Rattle.token_codes.specs.Leaves.{place_of, contextual}
use Rattle.token_codes.specs.Reads.{Reads}
use Rattle.token_codes.proofs.Only.{own_text}
use Rattle.syntax_readers.specs.Types.{type_reader}
use Rattle.syntax_readers.specs.Statements.{on_type}
use Rattle.laws_type.specs.Nexts.{after_type}
use Rattle.laws_type.proofs.Types.{types_read_at}
use Rattle.laws_block.specs.Begun.{on_phrase}

abbrev on : List ℕ
on = on_code ∷ []

-- ---- a token with the code of `on` is an identifier that is written so, and no token with another one of these is

no_odd : (b : Bool) (c : ℕ) → has on c ≡ false → has on (own_or_odd b c) ≡ true → ⊥
no_odd true c off e = absurd cc
no_odd false c off e = absurd cc

no_word : (x : Word) → has on (word_code x) ≡ false
no_word w.Assert = refl
no_word x = refl

no_sign : (x : Sign) → has on (sign_code x) ≡ false
no_sign s.Comma = refl
no_sign x = refl

named_on : (b c d e : Bool) → has on (if b then on_code else if c then of_code else if d then show_code else if e then hide_code else name_code) ≡ true → b ≡ true
named_on true c d e h = refl
named_on false true d e h = absurd cc
named_on false false true e h = absurd cc
named_on false false false true h = absurd cc
named_on false false false false h = absurd cc

abbrev IsOn : TokenKind → List ℕ → Type 0
IsOn kind text = (kind ≡ tk.Identifier) × (text ≡ on_text)

is_on : (kind : TokenKind) (text : List ℕ) → has on (kind_code kind text) ≡ true → IsOn kind text
is_on tk.Identifier text h = (refl, own_text text (codes "on") (named_on (bytes_eq text (codes "on")) (bytes_eq text (codes "of")) (bytes_eq text (codes "show")) (bytes_eq text (codes "hide")) h))
is_on (tk.Word x) text h = absurd (no_odd (bytes_eq text (word_text x)) (word_code x) (no_word x) h)
is_on tk.Integer text h = absurd cc
is_on tk.Whole text h = absurd cc
is_on (tk.Head q.Single) text h = absurd cc
is_on (tk.Head q.Double) text h = absurd cc
is_on tk.Middle text h = absurd cc
is_on tk.Tail text h = absurd cc
is_on (tk.Sign x) text h = absurd (no_odd (bytes_eq text (sign_text x)) (sign_code x) (no_sign x) h)

abbrev with_parts : TokenKind → Place → List ℕ → Token
with_parts kind place text = record { kind = kind; place = place; lexeme = text }

abbrev on_at : Place → Token
on_at place = with_parts tk.Identifier place on_text

only_on : (t : Token) → has on (class_of t) ≡ true → on_at t.place ≡ t
unfolding class_of
only_on t h = let is = is_on t.kind t.lexeme h in sym (ap₂ (λ (k : TokenKind) (l : List ℕ). with_parts k t.place l) is.0 is.1)

on_has : (place : Place) → has on (class_of (on_at place)) ≡ true
unfolding class_of
on_has place = refl

out : (ts : List Token) → OneOf class_of on ts → LeafFront (named_tokens on_text) ts
out ts (inl e) = inl e
out ts (inr (t, e, h)) = inr (t.place, e ∙ ap (λ (x : Token). x ∷ []) (sym (only_on t h)))

into : (ts : List Token) → LeafFront (named_tokens on_text) ts → OneOf class_of on ts
into ts (inl e) = inl e
into ts (inr (place, e)) = inr (on_at place, e, on_has place)

pub word_on_reads : Reads (contextual on_code) (named on_text) (on_code ∷ []) nowhere false
unfolding contextual
word_on_reads = refront (word_laws class_of on place_of on_at (λ t h. (tt, only_on t h)) (λ place fits. (on_has place, refl))) out into

-- ---- `on` and a type

pub on_reads : (n : ℕ) → Reads (on_type (type_reader n)) (on_phrase n) (on_code ∷ []) (λ x. after_type x.1) false
unfolding on_type
on_reads n = both_laws word_on_reads (types_read_at n).type (λ place fits. apart_none _)
