-- A second try of a generative constructor that takes for its own block the last brace outside all brackets before the place where the first stops
-- (ECMA-408, 10.6.1 Generative Constructors), and what is asked for its laws.
use Rattle.std.specs.Prelude.{◌≡◌, ℕ, zero, suc, ◌+◌, ◌-◌, ◌<◌, Bool, true, false, List, [], ◌∷◌, ◌++◌, length, Option, None, Some, Ok, Err}
use Rattle.dart_token.specs.declared.token.Token.{Token}
use Rattle.dart_token.specs.declared.sign.Sign.TheVariants as s
use Rattle.dart_tree.specs.Tree as t
use Rattle.dart_tree.specs.Tree.{Block, Body}
use Rattle.dart_tree.specs.Tokens.{block_tokens}
use Rattle.dart_tree.specs.Unit as d
use Rattle.dart_tree.specs.Unit.{Initializers, InitKind, Constructor}
use Rattle.dart_tree.specs.UnitTokens.{initializers_tokens}
use Rattle.grammar_laws.specs.Codes.{has}
use Rattle.grammar_laws.specs.Readers.{Outcome, Reader, mapped, both, starts, deeper}
use Rattle.dart_syntax.specs.Statements.{within}
use Rattle.dart_syntax.specs.Declarations as c
use Rattle.token_codes.specs.Codes.{class_of, plain_names, these}
use Rattle.token_codes.specs.Reads.{Reads}
use Rattle.syntax_readers.specs.Combinators.{behind_brackets, open_behind, up_to}
use Rattle.syntax_readers.specs.Statements.{stage}
use Rattle.syntax_readers.specs.Declarations as r
use Rattle.laws_unit.specs.Statements.{MemberPartsReadAt}
use Rattle.laws_unit.specs.Members.{after_constructor, inits_at, BlockReadAt, InitsCloseAt}

-- ---- where the last brace stands that no bracket holds, among so many tokens

abbrev pub is_free : ℕ → Token → Bool
is_free zero t = has (these s.LeftBrace) (class_of t)
is_free (suc n) t = false

abbrev pub or_here : Option ℕ → Bool → Option ℕ
or_here (Some k) free = Some (suc k)
or_here None true = Some 0
or_here None false = None

abbrev pub last_brace : ℕ → ℕ → List Token → Option ℕ
last_brace n zero ts = None
last_brace n (suc k) [] = None
last_brace n (suc k) (t ∷ ts) = or_here (last_brace (open_behind n (class_of t)) k ts) (is_free n t)

-- ---- the two tries

abbrev pub Rest : Type 0
Rest = Option Initializers × Body

abbrev pub owning : Reader Token InitKind → Reader Token Block → ℕ → Reader Token Rest
owning init block k = both (mapped (λ x. Some x) (up_to k (r.initializers init))) (mapped t.block_body block)

-- where the first stopped here
abbrev pub with_brace : Reader Token InitKind → Reader Token Block → Option ℕ → List Token → Reader Token Rest
with_brace init block None stopped ts = Err stopped
with_brace init block (Some k) stopped ts = deeper (Err stopped) (owning init block k ts)

abbrev pub or_owning : Reader Token InitKind → Reader Token Block → Outcome Token Rest → Reader Token Rest
or_owning init block (Ok found) ts = Ok found
or_owning init block (Err stopped) ts = with_brace init block (last_brace 0 (suc (length ts - length stopped)) ts) stopped ts

abbrev pub mended_rest : Reader Token InitKind → Reader Token Block → Reader Token Rest
mended_rest init block ts = or_owning init block (r.with_initializers init block ts) ts

abbrev pub mended : ℕ → List ℕ → Reader Token Constructor
mended n class = mapped (λ x. d.generative None x.0 x.1.0 x.1.1.0 x.1.1.1)
    (both (r.constructor_name class) (both (stage n).nodes.exprs.parameters (mended_rest (r.init n) (stage n).nodes.exprs.block)))

-- ---- what is asked of the grammar beside `InitsCloseAt`

pub record LastBraceAt (n : ℕ) : Type 0 where
  -- within what begins a block behind initialisers, its own brace is the last one
  pub inside : (x : Initializers) (m rest : List Token) (k : ℕ) → (inits_at n).Fits x → (within n).nodes.expr_nodes.block.front m → k < length m → last_brace 0 (length (initializers_tokens x) + suc k) (initializers_tokens x ++ (m ++ rest)) ≡ Some (length (initializers_tokens x))
  -- and with one token more that is no brace
  pub behind : (x : Initializers) (b : Block) (rest : List Token) → (inits_at n).Fits x → (within n).nodes.expr_nodes.block.Fits b → starts class_of (these s.LeftBrace) rest ≡ false → last_brace 0 (length (initializers_tokens x) + suc (length (block_tokens b))) (initializers_tokens x ++ (block_tokens b ++ rest)) ≡ Some (length (initializers_tokens x))
  -- what begins a block does not close its brace before it ends
  pub begins : (ts : List Token) → (within n).nodes.expr_nodes.block.front ts → behind_brackets ts ≡ []

abbrev pub MendedRead : Type 0
MendedRead = (n : ℕ) → MemberPartsReadAt n → BlockReadAt n → InitsCloseAt n → LastBraceAt n → (class : List ℕ) → Reads (mended n class) (c.generative_over (within n).nodes (c.init_within n) class) plain_names after_constructor false
