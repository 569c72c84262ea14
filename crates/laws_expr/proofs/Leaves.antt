-- The laws of the readers of atoms, of `new` and `const`, and of the pieces of strings.
use Rattle.std.proofs.Common.{◌≡◌, ℕ, Bool, true, false, if◌then◌else◌, List, [], ◌∷◌, inl, inr, refl, sym, ap, ◌∙◌}
use Rattle.std.specs.Str.{bytes_eq}
use Rattle.std.specs.Prelude.{codes}
use Rattle.dart_base.specs.declared.place.Place.{Place}
use Rattle.dart_token.specs.declared.token.Token.{Token}
use Rattle.dart_token.specs.declared.token.TokenKind.{TokenKind}
use Rattle.dart_token.specs.declared.token.TokenKind.TheVariants as tk
use Rattle.dart_token.specs.declared.token.Quote.{Quote}
use Rattle.dart_token.specs.declared.token.Quote.TheVariants as q
use Rattle.dart_token.specs.Word.{word_text}
use Rattle.dart_token.specs.Sign.{sign_text}
use Rattle.dart_token.specs.declared.sign.Sign.{Sign}
use Rattle.dart_token.specs.declared.sign.Sign.TheVariants as s
use Rattle.dart_token.specs.declared.word.Word.{Word}
use Rattle.dart_token.specs.declared.word.Word.TheVariants as w
use Rattle.dart_tree.specs.declared.identifier.Identifier.TheVariants as i
use Rattle.dart_tree.specs.declared.expression.Atom.{Atom}
use Rattle.dart_tree.specs.declared.expression.Atom.TheVariants as a
use Rattle.dart_tree.specs.declared.expression.Creation.{Creation}
use Rattle.dart_tree.specs.declared.expression.Creation.TheVariants as c
use Rattle.dart_tree.specs.declared.expression.PieceKind.{PieceKind}
use Rattle.dart_tree.specs.declared.expression.PieceKind.TheVariants as pk
use Rattle.dart_tree.specs.LeafTokens.{word_at, atom_tokens, creation_token, piece_token, piece_kind}
use Rattle.grammar_laws.specs.Codes.{has, Within, nowhere}
use Rattle.grammar_laws.specs.Fronts.{OneOf}
use Rattle.grammar_laws.proofs.Codes.{inside, within_self}
use Rattle.grammar_laws.proofs.Restated.{refront, mapped_laws}
use Rattle.grammar_laws.proofs.Words.{one_laws, word_laws}
use Rattle.dart_syntax.specs.Phrases.{LeafFront, Anything}
use Rattle.dart_syntax.specs.Leaves as p
use Rattle.dart_syntax.specs.Expressions as e
use Rattle.token_codes.specs.Codes.{class_of, sign_code, word_code, atoms, creations, heads, kind_code, code_of_name, own_or_odd, name_code, on_code, of_code, show_code, hide_code, head_code, whole_code, middle_code, tail_code}
use Rattle.token_codes.specs.Leaves.{atom_by, atom_of, atom, created_by, created, creation, piece, placed_text, quote_by, headed, head}
use Rattle.token_codes.specs.Reads.{Reads}
use Rattle.token_codes.proofs.Only.{own_text}

abbrev with_parts : TokenKind → Place → List ℕ → Token
with_parts kind place text = record { kind = kind; place = place; lexeme = text }

-- a front by codes is a front by the tokens
module _ {B : Type 0} (set : List ℕ) (f : Token → B) (g : B → Token) (forth : (t : Token) → has set (class_of t) ≡ true → g (f t) ≡ t) (back : (b : B) → has set (class_of (g b)) ≡ true) where
  leaf_out : (ts : List Token) → OneOf class_of set ts → LeafFront (λ b. g b ∷ []) ts
  leaf_out ts (inl e) = inl e
  leaf_out ts (inr (t, e, h)) = inr (f t, e ∙ ap (λ (x : Token). x ∷ []) (sym (forth t h)))

  leaf_into : (ts : List Token) → LeafFront (λ b. g b ∷ []) ts → OneOf class_of set ts
  leaf_into ts (inl e) = inl e
  leaf_into ts (inr (b, e)) = inr (g b, e, back b)

-- ---- atoms

named_atom : (b c d e : Bool) → has atoms (if b then on_code else if c then of_code else if d then show_code else if e then hide_code else name_code) ≡ true
named_atom true c d e = refl
named_atom false true d e = refl
named_atom false false true e = refl
named_atom false false false true = refl
named_atom false false false false = refl

name_has : (text : List ℕ) → has atoms (code_of_name text) ≡ true
name_has text = named_atom (bytes_eq text (codes "on")) (bytes_eq text (codes "of")) (bytes_eq text (codes "show")) (bytes_eq text (codes "hide"))

abbrev Written : Word → Place → List ℕ → Type 0
Written x place text = atom_tokens (atom_by (tk.Word x) place text) ≡ with_parts (tk.Word x) place text ∷ []

with_own_text : (x : Word) (place : Place) (text : List ℕ) → bytes_eq text (word_text x) ≡ true → with_parts (tk.Word x) place (word_text x) ∷ [] ≡ with_parts (tk.Word x) place text ∷ []
with_own_text x place text own = ap (λ (l : List ℕ). with_parts (tk.Word x) place l ∷ []) (sym (own_text text (word_text x) own))

word_said : (x : Word) (place : Place) (text : List ℕ) → bytes_eq text (word_text x) ≡ true → has atoms (word_code x) ≡ true → Written x place text
word_said w.This place text own h = with_own_text w.This place text own
word_said w.Null place text own h = with_own_text w.Null place text own
word_said w.True place text own h = with_own_text w.True place text own
word_said w.False place text own h = with_own_text w.False place text own
word_said w.Get place text own h = with_own_text w.Get place text own
word_said w.Set place text own h = with_own_text w.Set place text own
word_said x place text own h = absurd cc

word_said_by : (x : Word) (place : Place) (text : List ℕ) (b : Bool) → bytes_eq text (word_text x) ≡ b → has atoms (own_or_odd b (word_code x)) ≡ true → Written x place text
word_said_by x place text true own h = word_said x place text own h
word_said_by x place text false own h = absurd cc

no_sign : (x : Sign) → has atoms (sign_code x) ≡ true → ⊥
no_sign s.Comma h = absurd cc
no_sign x h = absurd cc

no_sign_by : (x : Sign) (b : Bool) → has atoms (own_or_odd b (sign_code x)) ≡ true → ⊥
no_sign_by x true h = no_sign x h
no_sign_by x false h = absurd cc

said : (kind : TokenKind) (place : Place) (text : List ℕ) → has atoms (kind_code kind text) ≡ true → atom_tokens (atom_by kind place text) ≡ with_parts kind place text ∷ []
said tk.Identifier place text h = refl
said (tk.Word x) place text h = word_said_by x place text (bytes_eq text (word_text x)) refl h
said tk.Integer place text h = refl
said tk.Whole place text h = absurd cc
said (tk.Head q.Single) place text h = absurd cc
said (tk.Head q.Double) place text h = absurd cc
said tk.Middle place text h = absurd cc
said tk.Tail place text h = absurd cc
said (tk.Sign x) place text h = absurd (no_sign_by x (bytes_eq text (sign_text x)) h)

atom_said : (t : Token) → has atoms (class_of t) ≡ true → atom_tokens (atom_of t) ≡ t ∷ []
unfolding class_of
atom_said t h = said t.kind t.place t.lexeme h

written : (x : Atom) → (t : Token) × (has atoms (class_of t) ≡ true) × (atom_of t ≡ x)
unfolding class_of
written (a.This place) = (word_at place w.This, refl, refl)
written (a.Null place) = (word_at place w.Null, refl, refl)
written (a.True place) = (word_at place w.True, refl, refl)
written (a.False place) = (word_at place w.False, refl, refl)
written (a.Integer place digits) = (with_parts tk.Integer place digits, refl, refl)
written (a.Name (i.Name place text)) = (with_parts tk.Identifier place text, name_has text, refl)
written (a.Name (i.Get place)) = (word_at place w.Get, refl, refl)
written (a.Name (i.Set place)) = (word_at place w.Set, refl, refl)

atom_out : (ts : List Token) → OneOf class_of atoms ts → LeafFront atom_tokens ts
atom_out ts (inl e) = inl e
atom_out ts (inr (t, e, h)) = inr (atom_of t, e ∙ sym (atom_said t h))

atom_into : (ts : List Token) → LeafFront atom_tokens ts → OneOf class_of atoms ts
atom_into ts (inl e) = inl e
atom_into ts (inr (x, e)) = let known = written x in inr (known.0, e ∙ ap atom_tokens (sym known.2) ∙ atom_said known.0 known.1, known.1)

pub atom_reads : Reads atom p.atom atoms nowhere false
unfolding atom
atom_reads = refront (mapped_laws (one_laws class_of atoms) atom_of atom_tokens {Fits_q = Anything} nowhere (λ t h. (tt, atom_said t h, within_self [])) (λ x fits. written x)) atom_out atom_into

-- ---- `new` and `const`

created_said : (x : Word) (place : Place) (text : List ℕ) → bytes_eq text (word_text x) ≡ true → has creations (word_code x) ≡ true → creation_token (created_by (tk.Word x) place) ≡ with_parts (tk.Word x) place text
created_said w.New place text own h = ap (λ (l : List ℕ). with_parts (tk.Word w.New) place l) (sym (own_text text (word_text w.New) own))
created_said w.Const place text own h = ap (λ (l : List ℕ). with_parts (tk.Word w.Const) place l) (sym (own_text text (word_text w.Const) own))
created_said x place text own h = absurd cc

created_said_by : (x : Word) (place : Place) (text : List ℕ) (b : Bool) → bytes_eq text (word_text x) ≡ b → has creations (own_or_odd b (word_code x)) ≡ true → creation_token (created_by (tk.Word x) place) ≡ with_parts (tk.Word x) place text
created_said_by x place text true own h = created_said x place text own h
created_said_by x place text false own h = absurd cc

no_name : (b c d e : Bool) → has creations (if b then on_code else if c then of_code else if d then show_code else if e then hide_code else name_code) ≡ true → ⊥
no_name true c d e h = absurd cc
no_name false true d e h = absurd cc
no_name false false true e h = absurd cc
no_name false false false true h = absurd cc
no_name false false false false h = absurd cc

no_creation : (x : Sign) → has creations (sign_code x) ≡ true → ⊥
no_creation s.Comma h = absurd cc
no_creation x h = absurd cc

no_creation_by : (x : Sign) (b : Bool) → has creations (own_or_odd b (sign_code x)) ≡ true → ⊥
no_creation_by x true h = no_creation x h
no_creation_by x false h = absurd cc

created_kind : (kind : TokenKind) (place : Place) (text : List ℕ) → has creations (kind_code kind text) ≡ true → creation_token (created_by kind place) ≡ with_parts kind place text
created_kind tk.Identifier place text h = absurd (no_name (bytes_eq text (codes "on")) (bytes_eq text (codes "of")) (bytes_eq text (codes "show")) (bytes_eq text (codes "hide")) h)
created_kind (tk.Word x) place text h = created_said_by x place text (bytes_eq text (word_text x)) refl h
created_kind tk.Integer place text h = absurd cc
created_kind tk.Whole place text h = absurd cc
created_kind (tk.Head q.Single) place text h = absurd cc
created_kind (tk.Head q.Double) place text h = absurd cc
created_kind tk.Middle place text h = absurd cc
created_kind tk.Tail place text h = absurd cc
created_kind (tk.Sign x) place text h = absurd (no_creation_by x (bytes_eq text (sign_text x)) h)

created_forth : (t : Token) → has creations (class_of t) ≡ true → creation_token (created t) ≡ t
unfolding class_of
created_forth t h = created_kind t.kind t.place t.lexeme h

created_has : (x : Creation) → has creations (class_of (creation_token x)) ≡ true
unfolding class_of
created_has (c.New place) = refl
created_has (c.Const place) = refl

created_back : (x : Creation) → created (creation_token x) ≡ x
created_back (c.New place) = refl
created_back (c.Const place) = refl

pub creation_reads : Reads creation p.creation creations nowhere false
unfolding creation
creation_reads = refront (word_laws class_of creations created creation_token {Fits = Anything} (λ t h. (tt, created_forth t h)) (λ x fits. (created_has x, created_back x)))
    (leaf_out creations created creation_token created_forth created_has) (leaf_into creations created creation_token created_forth created_has)

-- ---- the pieces of strings

abbrev pieces : List ℕ
pieces = whole_code ∷ middle_code ∷ tail_code ∷ heads

no_piece_word : (x : Word) → has pieces (word_code x) ≡ true → ⊥
no_piece_word w.Assert h = absurd cc
no_piece_word x h = absurd cc

no_piece_word_by : (x : Word) (b : Bool) → has pieces (own_or_odd b (word_code x)) ≡ true → ⊥
no_piece_word_by x true h = no_piece_word x h
no_piece_word_by x false h = absurd cc

no_piece_sign : (x : Sign) → has pieces (sign_code x) ≡ true → ⊥
no_piece_sign s.Comma h = absurd cc
no_piece_sign x h = absurd cc

no_piece_sign_by : (x : Sign) (b : Bool) → has pieces (own_or_odd b (sign_code x)) ≡ true → ⊥
no_piece_sign_by x true h = no_piece_sign x h
no_piece_sign_by x false h = absurd cc

no_piece_name : (b c d e : Bool) → has pieces (if b then on_code else if c then of_code else if d then show_code else if e then hide_code else name_code) ≡ true → ⊥
no_piece_name true c d e h = absurd cc
no_piece_name false true d e h = absurd cc
no_piece_name false false true e h = absurd cc
no_piece_name false false false true h = absurd cc
no_piece_name false false false false h = absurd cc

-- what has such a code is a piece of a string
piece_only : (kind : TokenKind) (text : List ℕ) → has pieces (kind_code kind text) ≡ true → (x : PieceKind) × (kind ≡ piece_kind x)
piece_only tk.Identifier text h = absurd (no_piece_name (bytes_eq text (codes "on")) (bytes_eq text (codes "of")) (bytes_eq text (codes "show")) (bytes_eq text (codes "hide")) h)
piece_only (tk.Word x) text h = absurd (no_piece_word_by x (bytes_eq text (word_text x)) h)
piece_only tk.Integer text h = absurd cc
piece_only tk.Whole text h = (pk.Whole, refl)
piece_only (tk.Head quote) text h = (pk.Head quote, refl)
piece_only tk.Middle text h = (pk.Middle, refl)
piece_only tk.Tail text h = (pk.Tail, refl)
piece_only (tk.Sign x) text h = absurd (no_piece_sign_by x (bytes_eq text (sign_text x)) h)

abbrev code_of_piece : PieceKind → ℕ
code_of_piece pk.Whole = whole_code
code_of_piece (pk.Head quote) = head_code quote
code_of_piece pk.Middle = middle_code
code_of_piece pk.Tail = tail_code

piece_code : (x : PieceKind) (text : List ℕ) → kind_code (piece_kind x) text ≡ code_of_piece x
piece_code pk.Whole text = refl
piece_code (pk.Head quote) text = refl
piece_code pk.Middle text = refl
piece_code pk.Tail text = refl

-- a token of this code alone is this piece
abbrev Only : List ℕ → PieceKind → Type 0
Only codes x = (y : PieceKind) → has codes (code_of_piece y) ≡ true → y ≡ x

piece_forth : (codes : List ℕ) (x : PieceKind) → Only codes x → Within codes pieces → (t : Token) → has codes (class_of t) ≡ true → piece_token x t.place t.lexeme ≡ t
unfolding class_of
piece_forth codes x only within t h =
    let known : (y : PieceKind) × (t.kind ≡ piece_kind y) = piece_only t.kind t.lexeme (within.in_second (kind_code t.kind t.lexeme) h) in
    let code : kind_code t.kind t.lexeme ≡ code_of_piece known.0 = ap (λ k. kind_code k t.lexeme) known.1 ∙ piece_code known.0 t.lexeme in
    let same : known.0 ≡ x = only known.0 (sym (ap (has codes) code) ∙ h) in
    ap (λ k. with_parts k t.place t.lexeme) (sym (known.1 ∙ ap piece_kind same))

piece_has : (codes : List ℕ) (x : PieceKind) → has codes (code_of_piece x) ≡ true → (y : Place × List ℕ) → has codes (class_of (piece_token x y.0 y.1)) ≡ true
unfolding class_of
piece_has codes x e y = ap (has codes) (piece_code x y.1) ∙ e

abbrev spelt : PieceKind → Place × List ℕ → Token
spelt x y = piece_token x y.0 y.1

only_whole : Only (whole_code ∷ []) pk.Whole
only_whole pk.Whole h = refl
only_whole (pk.Head q.Single) h = absurd cc
only_whole (pk.Head q.Double) h = absurd cc
only_whole pk.Middle h = absurd cc
only_whole pk.Tail h = absurd cc

only_middle : Only (middle_code ∷ []) pk.Middle
only_middle pk.Whole h = absurd cc
only_middle (pk.Head q.Single) h = absurd cc
only_middle (pk.Head q.Double) h = absurd cc
only_middle pk.Middle h = refl
only_middle pk.Tail h = absurd cc

only_tail : Only (tail_code ∷ []) pk.Tail
only_tail pk.Whole h = absurd cc
only_tail (pk.Head q.Single) h = absurd cc
only_tail (pk.Head q.Double) h = absurd cc
only_tail pk.Middle h = absurd cc
only_tail pk.Tail h = refl

module _ (code : ℕ) (x : PieceKind) (only : Only (code ∷ []) x) (within : Within (code ∷ []) pieces) (own : has (code ∷ []) (code_of_piece x) ≡ true) where
  piece_reads : Reads (piece code) (p.piece x) (code ∷ []) nowhere false
  unfolding piece
  piece_reads = refront (word_laws class_of (code ∷ []) placed_text (spelt x) {Fits = Anything} (λ t h. (tt, piece_forth (code ∷ []) x only within t h)) (λ y fits. (piece_has (code ∷ []) x own y, refl)))
      (leaf_out (code ∷ []) placed_text (spelt x) (piece_forth (code ∷ []) x only within) (piece_has (code ∷ []) x own)) (leaf_into (code ∷ []) placed_text (spelt x) (piece_forth (code ∷ []) x only within) (piece_has (code ∷ []) x own))

pub whole_reads : Reads (piece whole_code) (p.piece pk.Whole) (whole_code ∷ []) nowhere false
whole_reads = piece_reads whole_code pk.Whole only_whole (inside refl) refl

pub middle_reads : Reads (piece middle_code) (p.piece pk.Middle) (middle_code ∷ []) nowhere false
middle_reads = piece_reads middle_code pk.Middle only_middle (inside refl) refl

pub tail_reads : Reads (piece tail_code) (p.piece pk.Tail) (tail_code ∷ []) nowhere false
tail_reads = piece_reads tail_code pk.Tail only_tail (inside refl) refl

-- the first piece, with its quotes
quote_said : (x : PieceKind) (place : Place) (text : List ℕ) → has heads (code_of_piece x) ≡ true → piece_token (pk.Head (quote_by (piece_kind x))) place text ≡ with_parts (piece_kind x) place text
quote_said pk.Whole place text h = absurd cc
quote_said (pk.Head quote) place text h = refl
quote_said pk.Middle place text h = absurd cc
quote_said pk.Tail place text h = absurd cc

abbrev head_token : Quote × (Place × List ℕ) → Token
head_token x = piece_token (pk.Head x.0) x.1.0 x.1.1

head_forth : (t : Token) → has heads (class_of t) ≡ true → head_token (headed t) ≡ t
unfolding class_of
head_forth t h =
    let known : (y : PieceKind) × (t.kind ≡ piece_kind y) = piece_only t.kind t.lexeme ((inside {xs = heads} {ys = pieces} refl).in_second (kind_code t.kind t.lexeme) h) in
    let code : kind_code t.kind t.lexeme ≡ code_of_piece known.0 = ap (λ k. kind_code k t.lexeme) known.1 ∙ piece_code known.0 t.lexeme in
    ap (λ k. piece_token (pk.Head (quote_by k)) t.place t.lexeme) known.1 ∙ quote_said known.0 t.place t.lexeme (sym (ap (has heads) code) ∙ h) ∙ ap (λ k. with_parts k t.place t.lexeme) (sym known.1)

head_has : (x : Quote × (Place × List ℕ)) → has heads (class_of (head_token x)) ≡ true
unfolding class_of
head_has (q.Single, (place, text)) = refl
head_has (q.Double, (place, text)) = refl

pub head_reads : Reads head e.head heads nowhere false
unfolding head
head_reads = refront (word_laws class_of heads headed head_token {Fits = Anything} (λ t h. (tt, head_forth t h)) (λ x fits. (head_has x, refl)))
    (leaf_out heads headed head_token head_forth head_has) (leaf_into heads headed head_token head_forth head_has)
