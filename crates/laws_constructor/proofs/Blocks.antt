-- Initialisers close each bracket that they open, and a block goes exactly as far as the brace that closes its own (10.6.1 Generative Constructors,
-- 17.1 Blocks).
use Rattle.std.proofs.Common.{◌≡◌, ℕ, zero, suc, true, List, [], ◌∷◌, ◌++◌, inl, inr, ◌⊎◌, refl, sym, ap, ◌∙◌, subst, append_assoc, flat_map}
use Rattle.std.proofs.lemmas.List.{append-nil}
use Rattle.dart_token.specs.declared.token.Token.{Token}
use Rattle.dart_token.specs.declared.sign.Sign.TheVariants as s
use Rattle.dart_tree.specs.LeafTokens.{sign_at}
use Rattle.dart_tree.specs.Tree as t
use Rattle.dart_tree.specs.Tree.{Block, Stmt}
use Rattle.dart_tree.specs.Tokens.{block_tokens, stmt_tokens, stmts_tokens}
use Rattle.dart_tree.specs.UnitTokens.{init_kind_tokens, initializers_tokens}
use Rattle.grammar_laws.specs.Readers.{starts}
use Rattle.dart_syntax.specs.Phrases.{many, seq}
use Rattle.dart_syntax.specs.Leaves.{sign}
use Rattle.dart_syntax.specs.Statements.{Within, block_over, nodes_over, to_stmts, within}
use Rattle.dart_syntax.specs.Declarations as c
use Rattle.dart_syntax.proofs.AgreeingStages.{said_stmts}
use Rattle.token_codes.specs.Codes.{class_of, these}
use Rattle.token_codes.proofs.Only.{sign_has}
use Rattle.syntax_readers.specs.Combinators.{behind_open, behind_brackets}
use Rattle.syntax_measures.specs.Relations.{WithinRelate}
use Rattle.syntax_measures.proofs.BracketKinds.{braces}
use Rattle.laws_expr.proofs.Enclosed.{Encloses, spelled_even, encloses, encloses_walk, nothing_open, right_step, within_encloses}
use Rattle.laws_unit.specs.Members.{inits_at}
use Rattle.laws_constructor.proofs.Walked.{walk_init, walk_initializers, walk_stmts}

-- ---- initialisers

init_encloses : (n : ℕ) → Encloses init_kind_tokens (c.init_within n)
init_encloses zero = record { same = λ a. refl; within = λ a fits. absurd fits; begins = λ ts is k. nothing_open k ts is }
init_encloses (suc n) = walk_init encloses_walk {m = n} {p = within n} {q = within n} (within_encloses n)

pub inits_encloses : (n : ℕ) → Encloses initializers_tokens (inits_at n)
inits_encloses n = walk_initializers encloses_walk {m = n} {p = (within n).nodes} {q = (within n).nodes} (within_encloses n).nodes {init = c.init_within n} {other = c.init_within n} (init_encloses n) []

-- ---- blocks

-- a block begins with a brace
pub brace_first : (b : Block) → starts class_of (these s.LeftBrace) (block_tokens b) ≡ true
unfolding block_tokens
brace_first (t.the_block opening stmts closing) = sign_has s.LeftBrace opening

module _ (n : ℕ) (inner : Within) (I : WithinRelate (encloses n) inner inner) where
  statements : Encloses (flat_map stmt_tokens) (many inner.stmt)
  statements = walk_stmts encloses_walk {m = n} {p = inner.stmt} {q = inner.stmt} I.stmt

  closing_begins : (ts : List Token) → (sign s.RightBrace).front ts → behind_open 1 ts ≡ []
  closing_begins ts (inl is) = ap (behind_open 1) is
  closing_begins ts (inr (place, is)) = ap (behind_open 1) is ∙ right_step braces place 0 []

  rest_begins : (ts : List Token) → (seq (many inner.stmt) (sign s.RightBrace)).front ts → behind_open 1 ts ≡ []
  rest_begins ts (inl f) = ap (behind_open 1) (sym (append-nil ts)) ∙ (statements.begins ts f 0).1 []
  rest_begins ts (inr (a, rest, fits, on, e, f)) = ap (behind_open 1) e ∙ spelled_even statements a fits 0 rest ∙ closing_begins rest f

  over_begins : (ts : List Token) → (block_over inner).front ts → behind_brackets ts ≡ []
  over_begins ts (inl (inl is)) = ap behind_brackets is
  over_begins ts (inl (inr (place, is))) = ap behind_brackets is
  over_begins ts (inr (place, more, at, on, e, f)) = ap behind_brackets e ∙ rest_begins more f

  over_opens : (ts : List Token) → (block_over inner).front ts → (ts ≡ []) ⊎ (starts class_of (these s.LeftBrace) ts ≡ true)
  over_opens ts (inl (inl is)) = inl is
  over_opens ts (inl (inr (place, is))) = inr (ap (starts class_of (these s.LeftBrace)) is ∙ sign_has s.LeftBrace place)
  over_opens ts (inr (place, more, at, on, e, f)) = inr (ap (starts class_of (these s.LeftBrace)) e ∙ sign_has s.LeftBrace place)

  over_ends : (b : Block) (rest : List Token) → (block_over inner).Fits b → behind_brackets (block_tokens b ++ rest) ≡ rest
  unfolding block_tokens
  over_ends b rest ((opening, (stmts, closing)), fits, is) = subst (λ x. behind_brackets (block_tokens x ++ rest) ≡ rest) is
      (ap (behind_open 1) (append_assoc (stmts_tokens (to_stmts stmts)) (sign_at closing s.RightBrace ∷ []) rest)
      ∙ ap (λ m. behind_open 1 (m ++ sign_at closing s.RightBrace ∷ rest)) (said_stmts stmts)
      ∙ statements.within stmts fits.1.0 0 (sign_at closing s.RightBrace ∷ rest)
      ∙ right_step braces closing 0 rest)

pub block_begins : (n : ℕ) (ts : List Token) → (within n).nodes.expr_nodes.block.front ts → behind_brackets ts ≡ []
unfolding within nodes_over
block_begins zero ts is = ap behind_brackets is
block_begins (suc n) ts f = over_begins n (within n) (within_encloses n) ts f

pub block_opens : (n : ℕ) (ts : List Token) → (within n).nodes.expr_nodes.block.front ts → (ts ≡ []) ⊎ (starts class_of (these s.LeftBrace) ts ≡ true)
unfolding within nodes_over
block_opens zero ts is = inl is
block_opens (suc n) ts f = over_opens n (within n) (within_encloses n) ts f

pub block_closes : (n : ℕ) (b : Block) (rest : List Token) → (within n).nodes.expr_nodes.block.Fits b → behind_brackets (block_tokens b ++ rest) ≡ rest
unfolding within nodes_over
block_closes zero b rest fits = absurd fits
block_closes (suc n) b rest fits = over_ends n (within n) (within_encloses n) b rest fits
