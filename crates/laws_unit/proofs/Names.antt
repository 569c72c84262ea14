-- The laws of the readers of identifiers that are written in one way, and of those that are not `get` or `set`.
use Rattle.std.proofs.Common.{◌≡◌, ℕ, Bool, true, false, ◌&&◌, if◌then◌else◌, List, [], ◌∷◌, Ok, Err, inl, inr, refl, sym, ap, ◌∙◌}
use Rattle.std.specs.Str.{bytes_eq}
use Rattle.std.specs.Prelude.{codes}
use Rattle.dart_base.specs.declared.place.Place.{Place}
use Rattle.dart_token.specs.declared.token.Token.{Token}
use Rattle.dart_token.specs.declared.token.TokenKind.{TokenKind}
use Rattle.dart_token.specs.declared.token.TokenKind.TheVariants as tk
use Rattle.dart_token.specs.declared.token.Quote.TheVariants as q
use Rattle.dart_token.specs.declared.sign.Sign.{Sign}
use Rattle.dart_token.specs.declared.sign.Sign.TheVariants as s
use Rattle.dart_token.specs.declared.word.Word.{Word}
use Rattle.dart_token.specs.declared.word.Word.TheVariants as w
use Rattle.dart_token.specs.Sign.{sign_text}
use Rattle.dart_token.specs.Word.{word_text}
use Rattle.dart_tree.specs.declared.identifier.Identifier.TheVariants as i
use Rattle.dart_tree.specs.LeafTokens.{identifier_tokens}
use Rattle.dart_tree.specs.UnitTokens.{of_text, show_text, hide_text}
use Rattle.grammar_laws.specs.Codes.{has, Within, nowhere}
use Rattle.grammar_laws.specs.Readers.{Outcome, Reader, and_then, mapped, one}
use Rattle.grammar_laws.specs.Fronts.{Front, OneOf}
use Rattle.grammar_laws.specs.Laws.{Laws}
use Rattle.grammar_laws.proofs.Codes.{inside, within_self, and_both, and_true}
use Rattle.grammar_laws.proofs.Restated.{mapped_laws, refront, reread}
use Rattle.grammar_laws.proofs.Tried.{stops_nowhere}
use Rattle.grammar_laws.proofs.Words.{one_laws, word_laws}
use Rattle.dart_syntax.specs.Phrases.{LeafFront, Anything}
use Rattle.dart_syntax.specs.Leaves as p
use Rattle.dart_syntax.specs.Leaves.{named_tokens}
use Rattle.token_codes.specs.Codes.{class_of, names, plain_names, kind_code, code_of_name, own_or_odd, word_code, sign_code, name_code, on_code, of_code, show_code, hide_code}
use Rattle.token_codes.specs.Leaves.{place_of, name_of, contextual, plain_identifier, named}
use Rattle.token_codes.specs.Reads.{Reads}
use Rattle.token_codes.proofs.Leaves.{name_said}
use Rattle.token_codes.proofs.Only.{own_text, same_text}

abbrev with_parts : TokenKind → Place → List ℕ → Token
with_parts kind place text = record { kind = kind; place = place; lexeme = text }

-- ---- a token with the code of an identifier that is not `get` or `set` is an identifier

no_odd : (b : Bool) (c : ℕ) → has plain_names c ≡ false → has plain_names (own_or_odd b c) ≡ true → ⊥
no_odd true c off e = absurd cc
no_odd false c off e = absurd cc

no_word : (x : Word) → has plain_names (word_code x) ≡ false
no_word w.Assert = refl
no_word x = refl

no_sign : (x : Sign) → has plain_names (sign_code x) ≡ false
no_sign s.Comma = refl
no_sign x = refl

plain_kind : (kind : TokenKind) (text : List ℕ) → has plain_names (kind_code kind text) ≡ true → kind ≡ tk.Identifier
plain_kind tk.Identifier text h = refl
plain_kind (tk.Word x) text h = absurd (no_odd (bytes_eq text (word_text x)) (word_code x) (no_word x) h)
plain_kind tk.Integer text h = absurd cc
plain_kind tk.Whole text h = absurd cc
plain_kind (tk.Head q.Single) text h = absurd cc
plain_kind (tk.Head q.Double) text h = absurd cc
plain_kind tk.Middle text h = absurd cc
plain_kind tk.Tail text h = absurd cc
plain_kind (tk.Sign x) text h = absurd (no_odd (bytes_eq text (sign_text x)) (sign_code x) (no_sign x) h)

abbrev identifier_at : List ℕ → Place → Token
identifier_at text place = with_parts tk.Identifier place text

plain_token : (t : Token) → has plain_names (class_of t) ≡ true → identifier_at t.lexeme t.place ≡ t
unfolding class_of
plain_token t h = ap (λ (k : TokenKind). with_parts k t.place t.lexeme) (sym (plain_kind t.kind t.lexeme h))

named_plain : (b c d e : Bool) → has plain_names (if b then on_code else if c then of_code else if d then show_code else if e then hide_code else name_code) ≡ true
named_plain true c d e = refl
named_plain false true d e = refl
named_plain false false true e = refl
named_plain false false false true = refl
named_plain false false false false = refl

plain_has : (text : List ℕ) (place : Place) → has plain_names (class_of (identifier_at text place)) ≡ true
unfolding class_of
plain_has text place = named_plain (bytes_eq text (codes "on")) (bytes_eq text (codes "of")) (bytes_eq text (codes "show")) (bytes_eq text (codes "hide"))

-- ---- identifiers that are not `get` or `set`

name_is : (t : Token) → has plain_names (class_of t) ≡ true → name_of t ≡ i.Name t.place t.lexeme
name_is t h = ap name_of (sym (plain_token t h))

plain_out : (ts : List Token) → OneOf class_of plain_names ts → p.plain_identifier.front ts
plain_out ts (inl e) = inl e
plain_out ts (inr (t, e, h)) = inr ((t.place, t.lexeme), e ∙ ap (λ (x : Token). x ∷ []) (sym (plain_token t h)))

plain_into : (ts : List Token) → p.plain_identifier.front ts → OneOf class_of plain_names ts
plain_into ts (inl e) = inl e
plain_into ts (inr ((place, text), e)) = inr (identifier_at text place, e, plain_has text place)

pub plain_identifier_reads : Reads plain_identifier p.plain_identifier plain_names nowhere false
unfolding plain_identifier
plain_identifier_reads = refront (mapped_laws (one_laws class_of plain_names) name_of identifier_tokens {Fits_q = p.plain_identifier.Fits} nowhere
    (λ t h. (((t.place, t.lexeme), tt, sym (name_is t h)), name_said t ((inside {xs = plain_names} {ys = names} refl).in_second (class_of t) h), within_self []))
    (λ x fits. let at = fits.0 in (identifier_at at.1 at.0, plain_has at.1 at.0, fits.2))) plain_out plain_into

-- ---- identifiers that have a code of their own

abbrev code_by : Bool → Bool → Bool → Bool → ℕ
code_by b c d e = if b then on_code else if c then of_code else if d then show_code else if e then hide_code else name_code

is_of : (b c d e : Bool) → has (of_code ∷ []) (code_by b c d e) ≡ true → c ≡ true
is_of true c d e h = absurd cc
is_of false true d e h = refl
is_of false false true e h = absurd cc
is_of false false false true h = absurd cc
is_of false false false false h = absurd cc

is_show : (b c d e : Bool) → has (show_code ∷ []) (code_by b c d e) ≡ true → d ≡ true
is_show true c d e h = absurd cc
is_show false true d e h = absurd cc
is_show false false true e h = refl
is_show false false false true h = absurd cc
is_show false false false false h = absurd cc

is_hide : (b c d e : Bool) → has (hide_code ∷ []) (code_by b c d e) ≡ true → e ≡ true
is_hide true c d e h = absurd cc
is_hide false true d e h = absurd cc
is_hide false false true e h = absurd cc
is_hide false false false true h = refl
is_hide false false false false h = absurd cc

module _ (code : ℕ) (text : List ℕ) (plain : Within (code ∷ []) plain_names) (written : (l : List ℕ) → has (code ∷ []) (code_of_name l) ≡ true → l ≡ text) (own : has (code ∷ []) (code_of_name text) ≡ true) where
  only_named : (t : Token) → has (code ∷ []) (class_of t) ≡ true → identifier_at text t.place ≡ t
  unfolding class_of
  only_named t h =
      let is = plain_kind t.kind t.lexeme (plain.in_second (class_of t) h) in
      let so : t.lexeme ≡ text = written t.lexeme (ap (λ (k : TokenKind). has (code ∷ []) (kind_code k t.lexeme)) (sym is) ∙ h) in
      ap (λ (l : List ℕ). identifier_at l t.place) (sym so) ∙ ap (λ (k : TokenKind). with_parts k t.place t.lexeme) (sym is)

  named_has : (place : Place) → has (code ∷ []) (class_of (identifier_at text place)) ≡ true
  unfolding class_of
  named_has place = own

  out : (ts : List Token) → OneOf class_of (code ∷ []) ts → LeafFront (named_tokens text) ts
  out ts (inl e) = inl e
  out ts (inr (t, e, h)) = inr (t.place, e ∙ ap (λ (x : Token). x ∷ []) (sym (only_named t h)))

  into : (ts : List Token) → LeafFront (named_tokens text) ts → OneOf class_of (code ∷ []) ts
  into ts (inl e) = inl e
  into ts (inr (place, e)) = inr (identifier_at text place, e, named_has place)

  contextual_reads : Reads (contextual code) (p.named text) (code ∷ []) nowhere false
  unfolding contextual
  contextual_reads = refront (word_laws class_of (code ∷ []) place_of (identifier_at text) (λ t h. (tt, only_named t h)) (λ place fits. (named_has place, refl))) out into

pub of_reads : Reads (contextual of_code) (p.named of_text) (of_code ∷ []) nowhere false
of_reads = contextual_reads of_code of_text (inside refl) (λ l h. own_text l of_text (is_of (bytes_eq l (codes "on")) (bytes_eq l (codes "of")) (bytes_eq l (codes "show")) (bytes_eq l (codes "hide")) h)) refl

pub show_reads : Reads (contextual show_code) (p.named show_text) (show_code ∷ []) nowhere false
show_reads = contextual_reads show_code show_text (inside refl) (λ l h. own_text l show_text (is_show (bytes_eq l (codes "on")) (bytes_eq l (codes "of")) (bytes_eq l (codes "show")) (bytes_eq l (codes "hide")) h)) refl

pub hide_reads : Reads (contextual hide_code) (p.named hide_text) (hide_code ∷ []) nowhere false
hide_reads = contextual_reads hide_code hide_text (inside refl) (λ l h. own_text l hide_text (is_hide (bytes_eq l (codes "on")) (bytes_eq l (codes "of")) (bytes_eq l (codes "show")) (bytes_eq l (codes "hide")) h)) refl

-- ---- an identifier that is written so

-- what nothing goes on behind may have its codes changed
module _ {A : Type 0} {class_a : Token → ℕ} {read : Reader Token A} {spell : A → List Token} {Fits : A → Type 0} {front : Front Token} {first : List ℕ} (P : Laws class_a read spell Fits front first nowhere false)
    (codes_of : List ℕ) (begin : (t : Token) (ts : List Token) → front (t ∷ ts) → has codes_of (class_of t) ≡ true) where
  none_has : (n : ℕ) → has [] n ≡ true → ⊥
  none_has n h = absurd cc

  recoded : Laws class_of read spell Fits front codes_of nowhere false
  recoded = record {
    sound = P.sound;
    longest = P.longest;
    fault = P.fault;
    complete = λ a rest fits stop. P.complete a rest fits (stops_nowhere class_a rest);
    whole = P.whole;
    none = P.none;
    closed = P.closed;
    firsts = begin;
    nexts = λ a t ts fits f. absurd (none_has (class_a t) (P.nexts a t ts fits f));
    empties = P.empties;
  }

module _ (text : List ℕ) where
  abbrev is_so : Token → Bool
  is_so t = has plain_names (class_of t) && bytes_eq t.lexeme text

  abbrev code_so : Token → ℕ
  code_so t = if is_so t then 0 else 1

  abbrev so : List ℕ
  so = 0 ∷ []

  so_by : (b : Bool) → has so (if b then 0 else 1) ≡ true → b ≡ true
  so_by true h = refl
  so_by false h = absurd cc

  so_token : (t : Token) → is_so t ≡ true → identifier_at text t.place ≡ t
  so_token t h = let w = and_both (has plain_names (class_of t)) (bytes_eq t.lexeme text) h in ap (λ (l : List ℕ). identifier_at l t.place) (sym (own_text t.lexeme text w.1)) ∙ plain_token t w.0

  so_has : (place : Place) → is_so (identifier_at text place) ≡ true
  so_has place = and_true (has plain_names (class_of (identifier_at text place))) (bytes_eq text text) (plain_has text place) (same_text text)

  so_out : (ts : List Token) → OneOf code_so so ts → LeafFront (named_tokens text) ts
  so_out ts (inl e) = inl e
  so_out ts (inr (t, e, h)) = inr (t.place, e ∙ ap (λ (x : Token). x ∷ []) (sym (so_token t (so_by (is_so t) h))))

  so_into : (ts : List Token) → LeafFront (named_tokens text) ts → OneOf code_so so ts
  so_into ts (inl e) = inl e
  so_into ts (inr (place, e)) = inr (identifier_at text place, e, ap (λ (b : Bool). has so (if b then 0 else 1)) (so_has place))

  so_laws : Laws code_so (mapped place_of (one code_so so)) (named_tokens text) Anything (LeafFront (named_tokens text)) so nowhere false
  so_laws = refront (word_laws code_so so place_of (identifier_at text) (λ t h. (tt, so_token t (so_by (is_so t) h))) (λ place fits. (ap (λ (b : Bool). has so (if b then 0 else 1)) (so_has place), refl))) so_out so_into

  begun : (t : Token) (ts : List Token) → LeafFront (named_tokens text) (t ∷ ts) → has plain_names (class_of t) ≡ true
  begun t ts (inl e) = absurd cc
  begun t ts (inr (place, e)) = let same : identifier_at text place ≡ t = cc in ap (λ (x : Token). has plain_names (class_of x)) (sym same) ∙ plain_has text place

  abbrev read_by : Bool → Bool → Token → List Token → Outcome Token Place
  read_by a b t ts = if (a && b) then (if a then Ok (t.place, ts) else Err (t ∷ ts)) else Err (t ∷ ts)

  same_by : (a b : Bool) (t : Token) (ts : List Token) → read_by a b t ts ≡ and_then {B = Place} (if has so (if (a && b) then 0 else 1) then Ok (t, ts) else Err (t ∷ ts)) (λ x rest. Ok (place_of x, rest))
  same_by true true t ts = refl
  same_by true false t ts = refl
  same_by false b t ts = refl

  same : (a : Bool) (t : Token) (ts : List Token) → (if a then and_then {B = Place} (if has plain_names (class_of t) then Ok (t, ts) else Err (t ∷ ts)) (λ x rest. Ok (place_of x, rest)) else Err (t ∷ ts)) ≡ (if a then (if has plain_names (class_of t) then Ok (t.place, ts) else Err (t ∷ ts)) else Err (t ∷ ts))
  same false t ts = refl
  same true t ts = at (has plain_names (class_of t)) where
    at : (c : Bool) → and_then {B = Place} (if c then Ok (t, ts) else Err (t ∷ ts)) (λ x rest. Ok (place_of x, rest)) ≡ (if c then Ok (t.place, ts) else Err (t ∷ ts))
    at true = refl
    at false = refl

  alike : (ts : List Token) → named text ts ≡ mapped place_of (one code_so so) ts
  unfolding named
  alike [] = refl
  alike (t ∷ ts) = same (is_so t) t ts ∙ same_by (has plain_names (class_of t)) (bytes_eq t.lexeme text) t ts

  pub named_reads : Reads (named text) (p.named text) plain_names nowhere false
  named_reads = reread (recoded so_laws plain_names begun) alike
