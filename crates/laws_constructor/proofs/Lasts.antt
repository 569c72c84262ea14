-- Initialisers that go on with a brace close it, and within a block behind them its own brace is the last one outside all brackets.
use Rattle.std.proofs.Common.{◌≡◌, ℕ, suc, ◌+◌, ◌<◌, arith, true, false, List, [], ◌∷◌, ◌++◌, length, None, Some, inl, inr, ◌⊎◌, refl, ap, ap₂, ◌∙◌}
use Rattle.dart_token.specs.declared.token.Token.{Token}
use Rattle.dart_token.specs.declared.sign.Sign.TheVariants as s
use Rattle.dart_tree.specs.Tree.{Block}
use Rattle.dart_tree.specs.Tokens.{block_tokens}
use Rattle.dart_tree.specs.Unit.{Initializers}
use Rattle.dart_tree.specs.UnitTokens.{initializers_tokens}
use Rattle.grammar_laws.specs.Codes.{has}
use Rattle.grammar_laws.specs.Readers.{starts}
use Rattle.grammar_laws.proofs.Codes.{inside}
use Rattle.dart_syntax.specs.Statements.{within}
use Rattle.token_codes.specs.Codes.{class_of, these}
use Rattle.syntax_readers.specs.Combinators.{opening, behind_brackets}
use Rattle.laws_unit.specs.Members.{inits_at}
use Rattle.laws_unit.specs.Mending.{or_here, last_brace, LastBraceAt}
use Rattle.laws_constructor.proofs.Nesting.{opened, even_closes, even_rest, even_steps, last_steps, none_inside, none_behind}
use Rattle.laws_constructor.proofs.Blocks.{inits_encloses, block_begins, block_closes, block_opens, brace_first}

-- a brace that is here, and none behind it
brace_here : (u : Token) (l : List Token) (k : ℕ) → has (these s.LeftBrace) (class_of u) ≡ true → last_brace 1 k l ≡ None → last_brace 0 (suc k) (u ∷ l) ≡ Some 0
brace_here u l k h none =
    ap₂ or_here (ap (λ (d : ℕ). last_brace d k l) (opened 0 (class_of u) ((inside {xs = these s.LeftBrace} {ys = opening} refl).in_second (class_of u) h)) ∙ none) h

within_begun : (m rest : List Token) (k : ℕ) → (m ≡ []) ⊎ (starts class_of (these s.LeftBrace) m ≡ true) → behind_brackets m ≡ [] → k < length m → last_brace 0 (suc k) (m ++ rest) ≡ Some 0
within_begun [] rest k opens none few = absurd (omega (arith, few))
within_begun (u ∷ l) rest k (inl is) none few = absurd cc
within_begun (u ∷ l) rest k (inr h) none few = brace_here u (l ++ rest) k h (none_inside l rest k 0 none (omega (arith, few)))

behind_whole : (m rest : List Token) → starts class_of (these s.LeftBrace) m ≡ true → behind_brackets (m ++ rest) ≡ rest → starts class_of (these s.LeftBrace) rest ≡ false → last_brace 0 (suc (length m)) (m ++ rest) ≡ Some 0
behind_whole [] rest h ends off = absurd cc
behind_whole (u ∷ l) rest h ends off = brace_here u (l ++ rest) (suc (length l)) h (none_behind l rest 0 ends off)

module _ (n : ℕ) where
  -- behind initialisers
  after_inits : (x : Initializers) (w : List Token) (k : ℕ) → (inits_at n).Fits x → last_brace 0 k w ≡ Some 0 → last_brace 0 (length (initializers_tokens x) + k) (initializers_tokens x ++ w) ≡ Some (length (initializers_tokens x))
  after_inits x w k fits h =
      let few : length (initializers_tokens x) ≡ length (initializers_tokens x) + 0 = omega arith in
      last_steps 0 (initializers_tokens x) 0 (even_steps (initializers_tokens x) ((inits_encloses n).within x fits)) w k 0 (length (initializers_tokens x) + k) (length (initializers_tokens x)) h refl few

  inside_at : (x : Initializers) (m rest : List Token) (k : ℕ) → (inits_at n).Fits x → (within n).nodes.expr_nodes.block.front m → k < length m → last_brace 0 (length (initializers_tokens x) + suc k) (initializers_tokens x ++ (m ++ rest)) ≡ Some (length (initializers_tokens x))
  inside_at x m rest k fits f few = after_inits x (m ++ rest) (suc k) fits (within_begun m rest k (block_opens n m f) (block_begins n m f) few)

  behind_at : (x : Initializers) (b : Block) (rest : List Token) → (inits_at n).Fits x → (within n).nodes.expr_nodes.block.Fits b → starts class_of (these s.LeftBrace) rest ≡ false → last_brace 0 (length (initializers_tokens x) + suc (length (block_tokens b))) (initializers_tokens x ++ (block_tokens b ++ rest)) ≡ Some (length (initializers_tokens x))
  behind_at x b rest fits own off = after_inits x (block_tokens b ++ rest) (suc (length (block_tokens b))) fits (behind_whole (block_tokens b) rest (brace_first b) (block_closes n b rest own) off)

  pub closes_at : (x y : Initializers) (m rest : List Token) → (inits_at n).Fits x → (inits_at n).Fits y → initializers_tokens y ≡ initializers_tokens x ++ m → starts class_of (these s.LeftBrace) m ≡ true → behind_brackets (m ++ rest) ≡ behind_brackets m ++ rest
  closes_at x y m rest fits whole e h = even_closes m rest (even_rest (initializers_tokens x) m (initializers_tokens y) ((inits_encloses n).within x fits) ((inits_encloses n).within y whole) e) h

pub last_brace_at : (n : ℕ) → LastBraceAt n
last_brace_at n = record { inside = inside_at n; behind = behind_at n; begins = block_begins n }
