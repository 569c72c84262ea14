-- What a list of tokens is: a unit, or refused with its reason and place.
use Rattle.std.specs.Prelude.{◌≡◌, ℕ, ◌+◌, ◌<◌, nat_lt, Bool, true, false, ◌&&◌, ◌||◌, if◌then◌else◌, List, [], ◌∷◌, ◌++◌, codes, length, take, Option, None, Some, Result, Ok, Err, ◌⊎◌}
use Rattle.std.specs.Str.{bytes_eq}
use Rattle.dart_base.specs.declared.place.Place.{Place}
use Rattle.dart_base.specs.declared.feature.Feature.{Feature}
use Rattle.dart_base.specs.declared.feature.Feature.TheVariants as f
use Rattle.dart_token.specs.declared.token.Token.{Token}
use Rattle.dart_token.specs.declared.token.TokenKind.{TokenKind}
use Rattle.dart_token.specs.declared.token.TokenKind.TheVariants as tk
use Rattle.dart_token.specs.declared.sign.Sign.TheVariants as s
use Rattle.dart_token.specs.declared.word.Word.{Word}
use Rattle.dart_token.specs.declared.word.Word.TheVariants as w
use Rattle.grammar_laws.specs.Wholes.{FirstBad}
use Rattle.dart_tree.specs.Unit.{UnitTree}
use Rattle.dart_tree.specs.UnitTokens.{unit_tokens}
use Rattle.dart_syntax.specs.Units.{unit_within}

-- ---- what the profile leaves out, by tokens alone

-- what makes a list, a map or a factory of a `const` that stands directly before it
abbrev pub makes_constant : TokenKind → Bool
makes_constant (tk.Sign s.LeftBracket) = true
makes_constant (tk.Sign s.LeftBrace) = true
makes_constant (tk.Sign s.Less) = true
makes_constant (tk.Word w.Factory) = true
makes_constant x = false

abbrev pub is_async_text : List ℕ → Bool
is_async_text text = bytes_eq text (codes "async") || bytes_eq text (codes "sync")

-- what begins the body of a function, also behind `async*` and `sync*`
abbrev pub begins_body : TokenKind → Bool
begins_body (tk.Sign s.LeftBrace) = true
begins_body (tk.Sign s.Arrow) = true
begins_body (tk.Sign s.Star) = true
begins_body x = false

abbrev pub closes_parenthesis : TokenKind → Bool
closes_parenthesis (tk.Sign s.RightParenthesis) = true
closes_parenthesis x = false

-- the next token is of such a kind
abbrev pub comes : (TokenKind → Bool) → List Token → Bool
comes test [] = false
comes test (t ∷ ts) = test t.kind

abbrev pub word_left_out : Word → List Token → Option Feature
word_left_out w.Assert behind = Some f.Assert
word_left_out w.Deferred behind = Some f.Deferred
word_left_out w.Const behind = if comes makes_constant behind then Some f.Constants else None
word_left_out x behind = None

-- what a token stands for, by whether `)` comes directly before it and by what comes behind it
abbrev pub token_left_out : Bool → TokenKind → List ℕ → List Token → Option Feature
token_left_out after_parenthesis (tk.Word word) text behind = word_left_out word behind
token_left_out true tk.Identifier text behind =
    if is_async_text text && comes begins_body behind then Some f.Async else None
token_left_out after_parenthesis x text behind = None

abbrev pub placed_or : Option Feature → Place → Option (Place × Feature) → Option (Place × Feature)
placed_or None place other = other
placed_or (Some feature) place other = Some (place, feature)

abbrev pub left_out_from : Bool → List Token → Option (Place × Feature)
left_out_from after_parenthesis [] = None
left_out_from after_parenthesis (t ∷ ts) =
    placed_or (token_left_out after_parenthesis t.kind t.lexeme ts) t.place
    (left_out_from (closes_parenthesis t.kind) ts)

-- the first token that is `assert` or `deferred`, or `const` directly before `[`, `{`, `<` or
-- `factory`, or `async` or `sync` directly between `)` and `{`, `=>` or `*`
unfoldable pub left_out : List Token → Option (Place × Feature)
left_out tokens = left_out_from false tokens

-- ---- units

-- the list has the tokens of this unit, which is well formed and no deeper than so many nodes
pub record FormsUnit (depth : ℕ) (tokens : List Token) (unit : UnitTree) : Type 0 where
  pub fits : (unit_within depth).Fits unit
  pub same : tokens ≡ unit_tokens unit
  pub whole : left_out tokens ≡ None

-- ---- what a list is refused for

pub data SyntaxReason : Type 0 where
  left_out_at : Place → Feature → SyntaxReason
  syntax_at : Place → SyntaxReason
  too_deep_at : Place → SyntaxReason

-- a token of the list stands at this number and this place
abbrev pub StandsAt : List Token → ℕ → Place → Type 0
StandsAt tokens at place =
    (t : Token) × (rest : List Token) × (tokens ≡ take at tokens ++ t ∷ rest) × (place ≡ t.place)

abbrev pub last_column : ℕ
last_column = 4294967295

abbrev pub capped : ℕ → ℕ
capped column = if nat_lt last_column column then last_column else column

-- the place directly behind a token, and behind the last of the list
abbrev pub behind : Token → Place
behind t = record {
  unit = t.place.unit;
  line = t.place.line;
  column = capped (t.place.column + length t.lexeme);
}

abbrev pub EndsAt : List Token → Place → Type 0
EndsAt tokens place =
    (before : List Token) × (t : Token) × (tokens ≡ before ++ t ∷ []) × (place ≡ behind t)

-- the first token with which the list begins no unit within the depth
abbrev pub FirstWrong : ℕ → List Token → ℕ → Place → Type 0
FirstWrong depth tokens at place =
    FirstBad (unit_within depth).front tokens at × (at < length tokens) × StandsAt tokens at place

-- up to that token the list begins a unit within the further depth
abbrev pub GoesDeeper : ℕ → List Token → ℕ → Type 0
GoesDeeper further tokens at = (unit_within further).front (take (at + 1) tokens)

-- the list begins a unit, and is none
abbrev pub Unfinished : ℕ → List Token → Type 0
Unfinished depth tokens =
    FirstBad (unit_within depth).front tokens (length tokens)
    × ((unit : UnitTree) → FormsUnit depth tokens unit → ⊥)

-- the answer on a list: the one unit that it forms; what the profile leaves out, before all else;
-- or the first token that is too deep or wrong, or the end where nothing is wrong but the unit is
-- unfinished
unfoldable pub Answers : ℕ → ℕ → List Token → Result UnitTree SyntaxReason → Type 0
Answers depth further tokens (Ok unit) =
    FormsUnit depth tokens unit × ((other : UnitTree) → FormsUnit depth tokens other → other ≡ unit)
Answers depth further tokens (Err (left_out_at place feature)) =
    left_out tokens ≡ Some (place, feature)
Answers depth further tokens (Err (too_deep_at place)) =
    (left_out tokens ≡ None)
    × (at : ℕ) × FirstWrong depth tokens at place × GoesDeeper further tokens at
Answers depth further tokens (Err (syntax_at place)) =
    (left_out tokens ≡ None)
    × (((at : ℕ) × FirstWrong depth tokens at place × (GoesDeeper further tokens at → ⊥))
    ⊎ (Unfinished depth tokens × EndsAt tokens place))
