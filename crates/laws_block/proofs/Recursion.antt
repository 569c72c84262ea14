-- The recursion over depths: expressions, parameters, blocks and statements of each depth, from blocks and statements of the smaller ones.
use Rattle.std.proofs.Common.{◌≡◌, ℕ, zero, suc, ◌≤◌, false, ◌⊎◌, inl, inr, subst, ltb, arith}
use Rattle.std.proofs.lemmas.Bool.{ltb-true, ltb-false}
use Rattle.dart_token.specs.declared.sign.Sign.TheVariants as s
use Rattle.dart_tree.specs.Tokens.{block_tokens, stmt_tokens}
use Rattle.grammar_laws.specs.Codes.{nowhere}
use Rattle.grammar_laws.proofs.Codes.{cases_bool}
use Rattle.grammar_laws.proofs.Restated.{nothing_laws}
use Rattle.dart_syntax.specs.Statements as p
use Rattle.token_codes.specs.Codes.{these}
use Rattle.syntax_readers.specs.Statements as i
use Rattle.syntax_readers.specs.Statements.{compound_first}
use Rattle.laws_block.specs.Begun.{level_of, still_of}
use Rattle.laws_stmt.specs.Statements.{BlockReadAt, ReadOverBlocksAt}
use Rattle.laws_stmt.specs.Besides.{BesidesReadAt}
use Rattle.laws_block.specs.Statements.{StatementsReadAt, CompoundReadAt, AllReadAt}
use Rattle.laws_stmt.proofs.Besides.{besides_at}
use Rattle.laws_stmt.proofs.Recursion.{read_over_blocks}
use Rattle.laws_apart.proofs.Apart.{apart_at, heads_apart_at}
use Rattle.laws_block.proofs.Combined.{plain_begun}
use Rattle.laws_block.proofs.Depths.{blocks_at, holders_at, tries_at, compounds_at}
use Rattle.laws_block.proofs.For.{for_begun}
use Rattle.laws_block.proofs.SwitchDepths.{switches_at}
use Rattle.laws_block.proofs.Whole.{statements_at}

-- where there is no room for a node, there are none
no_blocks : BlockReadAt zero
unfolding i.stage p.within
no_blocks = nothing_laws block_tokens (these s.LeftBrace) nowhere false

no_compounds : CompoundReadAt zero
unfolding i.stage p.within
no_compounds = plain_begun (nothing_laws stmt_tokens compound_first nowhere false) (level_of zero) (still_of zero) (λ x none. absurd none) (λ x none. absurd none)

last_or_below : (m n : ℕ) → m ≤ suc n → (m ≤ n) ⊎ (suc n ≡ m)
last_or_below m n le = elim (cases_bool (ltb m (suc n))) [
  | inl h ↦ inl (omega (arith, ltb-true m (suc n) h))
  | inr h ↦ inr (omega (arith, le, ltb-false m (suc n) h))
]

from : (n : ℕ) → ((m : ℕ) → m ≤ n → BlockReadAt m) → CompoundReadAt n → AllReadAt n
from n blocks compound =
    let R : ReadOverBlocksAt n = read_over_blocks n (λ m lt. blocks m (omega (arith, lt))) in
    let block : BlockReadAt n = blocks n (omega arith) in
    record {
      expressions = R.expressions;
      parameters = R.parameters;
      others = R.others block;
      declared = R.declared block;
      compound = compound;
      statements = statements_at n (besides_at n blocks).singles block compound (apart_at n);
    }

record UpTo (n : ℕ) : Type 0 where
  blocks : (m : ℕ) → m ≤ n → BlockReadAt m
  here : AllReadAt n

next_blocks : (n : ℕ) → UpTo n → (m : ℕ) → m ≤ suc n → BlockReadAt m
next_blocks n below m le = elim (last_or_below m n le) [
  | inl less ↦ below.blocks m less
  | inr same ↦ subst BlockReadAt same (blocks_at n below.here.statements)
]

next_compound : (n : ℕ) → UpTo n → CompoundReadAt (suc n)
next_compound n below =
    let b : BesidesReadAt n = besides_at n below.blocks in
    let st : StatementsReadAt n = below.here.statements in
    compounds_at n (for_begun n st b.for_parts (heads_apart_at n)) (holders_at n st b.condition)
    (switches_at n b below.here.others.block below.here.compound (apart_at n)) (tries_at n below.here.others.block b.catch_clause)

none_below : (m : ℕ) → m ≤ 0 → BlockReadAt m
none_below m le = let e : 0 ≡ m = omega (arith, le) in subst BlockReadAt e no_blocks

up_to : (n : ℕ) → UpTo n
up_to zero = record { blocks = none_below; here = from zero none_below no_compounds }
up_to (suc n) =
    let below : UpTo n = up_to n in
    record { blocks = next_blocks n below; here = from (suc n) (next_blocks n below) (next_compound n below) }

pub all_at : (n : ℕ) → AllReadAt n
all_at n = (up_to n).here
