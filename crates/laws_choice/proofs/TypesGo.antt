-- A type goes on behind a name with the name's part or with arguments, and one that is `get` or `set` alone leaves no name behind it.
use Rattle.std.proofs.Common.{◌≡◌, ℕ, zero, suc, Bool, true, false, List, [], ◌∷◌, ◌++◌, None, Some, inl, inr, refl, sym, ap, ◌∙◌, subst}
use Rattle.std.proofs.lemmas.List.{append-nil}
use Rattle.dart_token.specs.declared.token.Token.{Token}
use Rattle.dart_token.specs.declared.token.TokenKind.{TokenKind}
use Rattle.dart_token.specs.declared.token.TokenKind.TheVariants as tk
use Rattle.dart_token.specs.declared.word.Word.TheVariants as w
use Rattle.dart_tree.specs.declared.identifier.Identifier.TheVariants as i
use Rattle.dart_tree.specs.LeafTokens.{identifier_tokens, type_tokens}
use Rattle.dart_tree.specs.Types.{TypeNode, dynamic_type, named_type, no_types, listed_types}
use Rattle.grammar_laws.specs.Codes.{has}
use Rattle.grammar_laws.proofs.Codes.{clash, has_cases}
use Rattle.dart_syntax.specs.Types.{type_within, is_no_accessor}
use Rattle.dart_syntax.specs.Statements.{within, nodes_over}
use Rattle.token_codes.specs.Codes.{class_of, names, this_word}
use Rattle.token_codes.specs.Leaves.{name_of}
use Rattle.token_codes.proofs.Leaves.{name_said}
use Rattle.token_codes.proofs.Only.{only_word}
use Rattle.laws_type.proofs.Types.{types_read_at}
use Rattle.laws_unit.specs.Statements.{behind_type, accessor_words, TypesGoAt}

-- ---- behind a name

goes_on : (n : ℕ) (t u : Token) (ts : List Token) → has names (class_of t) ≡ true → (type_within n).front (t ∷ u ∷ ts) → has behind_type (class_of u) ≡ true
unfolding type_within
goes_on zero t u ts h f = absurd cc
goes_on (suc n) t u ts h f =
    let x : TypeNode = named_type (name_of t) None no_types in
    let is : t ∷ u ∷ ts ≡ type_tokens x ++ u ∷ ts = sym (ap (λ (m : List Token). m ++ u ∷ ts) (append-nil (identifier_tokens (name_of t)) ∙ name_said t h)) in
    let fits : (type_within (suc n)).Fits x = inr ((name_of t, (None, no_types)), (tt, (tt, (None, tt, refl))), refl) in
    (types_read_at (suc n)).type.nexts x u ts fits (subst (type_within (suc n)).front is f)

goes_at : (n : ℕ) (t u : Token) (ts : List Token) → has names (class_of t) ≡ true → (within n).nodes.expr_nodes.type.front (t ∷ u ∷ ts) →
    has behind_type (class_of u) ≡ true
unfolding within nodes_over
goes_at zero t u ts h f = absurd cc
goes_at (suc n) t u ts h f = goes_on (suc n) t u ts h f

-- ---- one word

abbrev is_accessor_word : TokenKind → Bool
is_accessor_word (tk.Word w.Get) = true
is_accessor_word (tk.Word w.Set) = true
is_accessor_word kind = false

abbrev begins_with_word : List Token → Bool
begins_with_word [] = false
begins_with_word (t ∷ ts) = is_accessor_word t.kind

abbrev is_one : List Token → Bool
is_one [] = false
is_one (t ∷ []) = true
is_one (t ∷ u ∷ ts) = false

word_kind : (t : Token) → has accessor_words (class_of t) ≡ true → is_accessor_word t.kind ≡ true
word_kind t h = elim (has_cases (this_word w.Get) (this_word w.Set) (class_of t) h) as (λ _. is_accessor_word t.kind ≡ true) [
  | inl k ↦ ap (λ (u : Token). is_accessor_word u.kind) (sym (only_word w.Get t k))
  | inr k ↦ ap (λ (u : Token). is_accessor_word u.kind) (sym (only_word w.Set t k))
]

no_word : (x : TypeNode) (t : Token) → type_tokens x ≡ t ∷ [] → is_accessor_word t.kind ≡ true → begins_with_word (type_tokens x) ≡ false →
    is_no_accessor x ≡ false
no_word x t e h off = clash (is_accessor_word t.kind) h (ap begins_with_word (sym e) ∙ off)

no_one : (x : TypeNode) (t : Token) → type_tokens x ≡ t ∷ [] → is_one (type_tokens x) ≡ false → is_no_accessor x ≡ false
no_one x t e off = clash true refl (ap is_one (sym e) ∙ off)

lone : (x : TypeNode) (t : Token) → type_tokens x ≡ t ∷ [] → is_accessor_word t.kind ≡ true → is_no_accessor x ≡ false
lone (dynamic_type place) t e h = no_word (dynamic_type place) t e h refl
lone (named_type (i.Name place text) member arguments) t e h = no_word (named_type (i.Name place text) member arguments) t e h refl
lone (named_type (i.Get place) None no_types) t e h = refl
lone (named_type (i.Get place) None (listed_types opening listed closing)) t e h =
    no_one (named_type (i.Get place) None (listed_types opening listed closing)) t e refl
lone (named_type (i.Get place) (Some member) arguments) t e h = no_one (named_type (i.Get place) (Some member) arguments) t e refl
lone (named_type (i.Set place) None no_types) t e h = refl
lone (named_type (i.Set place) None (listed_types opening listed closing)) t e h =
    no_one (named_type (i.Set place) None (listed_types opening listed closing)) t e refl
lone (named_type (i.Set place) (Some member) arguments) t e h = no_one (named_type (i.Set place) (Some member) arguments) t e refl

pub types_go_at : (n : ℕ) → TypesGoAt n
types_go_at n = record { goes = goes_at n; lone = λ x t fits e h. lone x t e (word_kind t h) }
