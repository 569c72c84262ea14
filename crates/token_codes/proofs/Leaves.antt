-- The laws of the readers of one token, and of the names made of them.
use Rattle.std.proofs.Common.{◌≡◌, ℕ, Bool, true, false, if◌then◌else◌, List, [], ◌∷◌, inl, inr, refl, sym, ap, ◌∙◌}
use Rattle.std.specs.Str.{bytes_eq}
use Rattle.std.specs.Prelude.{codes}
use Rattle.dart_base.specs.declared.place.Place.{Place}
use Rattle.dart_token.specs.declared.token.Token.{Token}
use Rattle.dart_token.specs.declared.token.TokenKind.{TokenKind}
use Rattle.dart_token.specs.declared.token.TokenKind.TheVariants as tk
use Rattle.dart_token.specs.declared.token.Quote.TheVariants as q
use Rattle.dart_token.specs.Word.{word_text}
use Rattle.dart_token.specs.Sign.{sign_text}
use Rattle.dart_token.specs.declared.sign.Sign.{Sign}
use Rattle.dart_token.specs.declared.sign.Sign.TheVariants as s
use Rattle.dart_token.specs.declared.word.Word.{Word}
use Rattle.dart_token.specs.declared.word.Word.TheVariants as w
use Rattle.dart_tree.specs.declared.identifier.Identifier.{Identifier}
use Rattle.dart_tree.specs.declared.identifier.Identifier.TheVariants as i
use Rattle.dart_tree.specs.declared.operator.Operator.TheVariants as o
use Rattle.dart_tree.specs.LeafTokens.{sign_at, word_at, identifier_tokens, dot_name_tokens, label_tokens, operator_tokens}
use Rattle.grammar_laws.specs.Codes.{has, Apart, nowhere}
use Rattle.grammar_laws.specs.Fronts.{OneOf}
use Rattle.grammar_laws.specs.Laws.{Laws}
use Rattle.grammar_laws.proofs.Codes.{apart, within_self}
use Rattle.grammar_laws.proofs.Restated.{refront, made_laws, mapped_laws, nothing_laws}
use Rattle.grammar_laws.proofs.Chosen.{by_first_laws}
use Rattle.grammar_laws.proofs.Combined.{both_laws}
use Rattle.grammar_laws.proofs.Words.{one_laws, word_laws}
use Rattle.dart_syntax.specs.Phrases.{LeafFront, Anything}
use Rattle.dart_syntax.specs.Leaves as p
use Rattle.token_codes.specs.Codes.{class_of, sign_code, word_code, names, kind_code, code_of_name, own_or_odd, these, this_word, sign_codes, name_code, on_code, of_code, show_code, hide_code}
use Rattle.token_codes.specs.Leaves.{place_of, sign, word, signed, one_of, name_of, named_by, identifier, dot_name, label, comma_name}
use Rattle.token_codes.specs.Reads.{Reads}
use Rattle.token_codes.proofs.Only.{only_sign, only_word, sign_has, word_has, own_text}

-- a front by codes is a front by the tokens
module _ {B : Type 0} (set : List ℕ) (f : Token → B) (g : B → Token) (forth : (t : Token) → has set (class_of t) ≡ true → g (f t) ≡ t) (back : (b : B) → has set (class_of (g b)) ≡ true) where
  leaf_out : (ts : List Token) → OneOf class_of set ts → LeafFront (λ b. g b ∷ []) ts
  leaf_out ts (inl e) = inl e
  leaf_out ts (inr (t, e, h)) = inr (f t, e ∙ ap (λ (x : Token). x ∷ []) (sym (forth t h)))

  leaf_into : (ts : List Token) → LeafFront (λ b. g b ∷ []) ts → OneOf class_of set ts
  leaf_into ts (inl e) = inl e
  leaf_into ts (inr (b, e)) = inr (g b, e, back b)

-- ---- signs, words and operators

pub sign_reads : (which : Sign) → Reads (sign which) (p.sign which) (these which) nowhere false
unfolding sign
sign_reads which = refront (word_laws class_of (these which) place_of (λ place. sign_at place which) (λ t fits. (tt, only_sign which t fits)) (λ place fits. (sign_has which place, refl)))
    (leaf_out (these which) place_of (λ place. sign_at place which) (only_sign which) (sign_has which)) (leaf_into (these which) place_of (λ place. sign_at place which) (only_sign which) (sign_has which))

pub word_reads : (which : Word) → Reads (word which) (p.word which) (this_word which) nowhere false
unfolding word
word_reads which = refront (word_laws class_of (this_word which) place_of (λ place. word_at place which) (λ t fits. (tt, only_word which t fits)) (λ place fits. (word_has which place, refl)))
    (leaf_out (this_word which) place_of (λ place. word_at place which) (only_word which) (word_has which)) (leaf_into (this_word which) place_of (λ place. word_at place which) (only_word which) (word_has which))

-- no sign's code is among those behind it
abbrev pub Distinct : List Sign → Type 0
Distinct [] = Unit {0}
Distinct (x ∷ xs) = Apart (these x) (sign_codes xs) × Distinct xs

pub one_of_reads : (signs : List Sign) → Distinct signs →
    Laws class_of (one_of signs) operator_tokens (p.one_of signs).Fits (p.one_of signs).front (sign_codes signs) nowhere false
unfolding one_of signed
one_of_reads [] d = nothing_laws operator_tokens [] nowhere false
one_of_reads (x ∷ xs) d = by_first_laws (made_laws (sign_reads x) (λ place. o.Sign place x) operator_tokens nowhere (λ place fits. refl) (λ place fits. within_self [])) (one_of_reads xs d.1) d.0

-- ---- identifiers

abbrev with_parts : TokenKind → Place → List ℕ → Token
with_parts kind place text = record { kind = kind; place = place; lexeme = text }

word_said : (x : Word) (place : Place) (text : List ℕ) → bytes_eq text (word_text x) ≡ true → has names (word_code x) ≡ true → identifier_tokens (named_by (tk.Word x) place text) ≡ with_parts (tk.Word x) place text ∷ []
word_said w.Get place text own h = ap (λ (l : List ℕ). with_parts (tk.Word w.Get) place l ∷ []) (sym (own_text text (word_text w.Get) own))
word_said w.Set place text own h = ap (λ (l : List ℕ). with_parts (tk.Word w.Set) place l ∷ []) (sym (own_text text (word_text w.Set) own))
word_said x place text own h = absurd cc

word_said_by : (x : Word) (place : Place) (text : List ℕ) (b : Bool) → bytes_eq text (word_text x) ≡ b → has names (own_or_odd b (word_code x)) ≡ true → identifier_tokens (named_by (tk.Word x) place text) ≡ with_parts (tk.Word x) place text ∷ []
word_said_by x place text true own h = word_said x place text own h
word_said_by x place text false own h = absurd cc

no_sign : (x : Sign) → has names (sign_code x) ≡ true → ⊥
no_sign s.Comma h = absurd cc
no_sign x h = absurd cc

no_sign_by : (x : Sign) (b : Bool) → has names (own_or_odd b (sign_code x)) ≡ true → ⊥
no_sign_by x true h = no_sign x h
no_sign_by x false h = absurd cc

said : (kind : TokenKind) (place : Place) (text : List ℕ) → has names (kind_code kind text) ≡ true → identifier_tokens (named_by kind place text) ≡ with_parts kind place text ∷ []
said tk.Identifier place text h = refl
said (tk.Word x) place text h = word_said_by x place text (bytes_eq text (word_text x)) refl h
said tk.Integer place text h = absurd cc
said tk.Whole place text h = absurd cc
said (tk.Head q.Single) place text h = absurd cc
said (tk.Head q.Double) place text h = absurd cc
said tk.Middle place text h = absurd cc
said tk.Tail place text h = absurd cc
said (tk.Sign x) place text h = absurd (no_sign_by x (bytes_eq text (sign_text x)) h)

pub name_said : (t : Token) → has names (class_of t) ≡ true → identifier_tokens (name_of t) ≡ t ∷ []
unfolding class_of
name_said t h = said t.kind t.place t.lexeme h

in_names : (b c d e : Bool) → has names (if b then on_code else if c then of_code else if d then show_code else if e then hide_code else name_code) ≡ true
in_names true c d e = refl
in_names false true d e = refl
in_names false false true e = refl
in_names false false false true = refl
in_names false false false false = refl

pub name_has : (text : List ℕ) → has names (code_of_name text) ≡ true
name_has text = in_names (bytes_eq text (codes "on")) (bytes_eq text (codes "of")) (bytes_eq text (codes "show")) (bytes_eq text (codes "hide"))

pub written : (x : Identifier) → (t : Token) × (has names (class_of t) ≡ true) × (name_of t ≡ x)
unfolding class_of
written (i.Name place text) = (with_parts tk.Identifier place text, name_has text, refl)
written (i.Get place) = (word_at place w.Get, refl, refl)
written (i.Set place) = (word_at place w.Set, refl, refl)

name_out : (ts : List Token) → OneOf class_of names ts → LeafFront identifier_tokens ts
name_out ts (inl e) = inl e
name_out ts (inr (t, e, h)) = inr (name_of t, e ∙ sym (name_said t h))

name_into : (ts : List Token) → LeafFront identifier_tokens ts → OneOf class_of names ts
name_into ts (inl e) = inl e
name_into ts (inr (x, e)) = let known = written x in inr (known.0, e ∙ ap identifier_tokens (sym known.2) ∙ name_said known.0 known.1, known.1)

pub identifier_reads : Reads identifier p.identifier names nowhere false
unfolding identifier
identifier_reads = refront (mapped_laws (one_laws class_of names) name_of identifier_tokens {Fits_q = Anything} nowhere (λ t h. (tt, name_said t h, within_self [])) (λ x fits. written x)) name_out name_into

pub dot_name_reads : Reads dot_name p.dot_name (these s.Dot) nowhere false
unfolding dot_name
dot_name_reads = made_laws (both_laws (sign_reads s.Dot) identifier_reads (λ place fits. apart refl)) (λ x. record { dot = x.0; name = x.1 }) dot_name_tokens nowhere (λ x fits. refl) (λ x fits. within_self [])

pub label_reads : Reads label p.label names nowhere false
unfolding label
label_reads = made_laws (both_laws identifier_reads (sign_reads s.Colon) (λ place fits. apart refl)) (λ x. record { name = x.0; colon = x.1 }) label_tokens nowhere (λ x fits. refl) (λ x fits. within_self [])

pub comma_name_reads : Reads comma_name p.comma_name (these s.Comma) nowhere false
unfolding comma_name
comma_name_reads = made_laws (both_laws (sign_reads s.Comma) identifier_reads (λ place fits. apart refl)) (λ x. record { comma = x.0; name = x.1 }) p.comma_name_tokens nowhere (λ x fits. refl) (λ x fits. within_self [])
