-- Brackets by their kind, and tokens that are none.
use Rattle.std.proofs.Common.{◌≡◌, Bool, true, false, List, [], ◌⊎◌, inl, inr, refl}
use Rattle.std.specs.List.{AllByRecursion}
use Rattle.dart_token.specs.declared.token.Token.{Token}
use Rattle.dart_token.specs.declared.token.TokenKind.{TokenKind}
use Rattle.dart_token.specs.declared.token.TokenKind.TheVariants as tk
use Rattle.dart_token.specs.declared.sign.Sign.{Sign}
use Rattle.dart_token.specs.declared.sign.Sign.TheVariants as s
use Rattle.dart_syntax.specs.Phrases.{Phrase, LeafFront, leaf}

pub data Bracket : Type 0 where
  parentheses : Bracket
  squares : Bracket
  braces : Bracket

abbrev pub left_sign : Bracket → Sign
left_sign parentheses = s.LeftParenthesis
left_sign squares = s.LeftBracket
left_sign braces = s.LeftBrace

abbrev pub right_sign : Bracket → Sign
right_sign parentheses = s.RightParenthesis
right_sign squares = s.RightBracket
right_sign braces = s.RightBrace

abbrev pub is_plain : Sign → Bool
is_plain s.LeftParenthesis = false
is_plain s.RightParenthesis = false
is_plain s.LeftBracket = false
is_plain s.RightBracket = false
is_plain s.LeftBrace = false
is_plain s.RightBrace = false
is_plain x = true

abbrev pub is_plain_kind : TokenKind → Bool
is_plain_kind (tk.Sign x) = is_plain x
is_plain_kind kind = true

-- no token is a bracket
abbrev pub Plain : List Token → Type 0
Plain ts = AllByRecursion (λ t. is_plain_kind t.kind ≡ true) ts

-- trees of tokens that are no brackets, which are there whole or not at all
pub record Single {A : Type 0} (tokens : A → List Token) (p : Phrase A) : Type 0 where
  pub spells : (a : A) → p.spelling a ≡ tokens a
  pub plain : (a : A) → p.Fits a → Plain (tokens a)
  pub begun : (ts : List Token) → p.front ts → (ts ≡ []) ⊎ ((a : A) × p.Fits a × (ts ≡ tokens a))

leaf_begun : {A : Type 0} (tokens : A → List Token) (ts : List Token) → LeafFront tokens ts → (ts ≡ []) ⊎ ((a : A) × (leaf tokens).Fits a × (ts ≡ tokens a))
leaf_begun tokens ts (inl e) = inl e
leaf_begun tokens ts (inr (a, e)) = inr (a, tt, e)

pub single_leaf : {A : Type 0} (tokens : A → List Token) → ((a : A) → Plain (tokens a)) → Single tokens (leaf tokens)
single_leaf tokens plain = record { spells = λ a. refl; plain = λ a fits. plain a; begun = leaf_begun tokens }
