-- The law of the statements without labels that are no declarations (ECMA-408, 17 Statements): blocks, compound statements, jumps and
-- expression statements.
use Rattle.std.proofs.Common.{◌≡◌, ℕ, Bool, true, false, if◌then◌else◌, inl, inr, List, [], ◌++◌, Option, None, Ok, Err, refl, sym, ap, subst, ◌∙◌}
use Rattle.dart_token.specs.declared.token.Token.{Token}
use Rattle.dart_token.specs.declared.sign.Sign.TheVariants as s
use Rattle.dart_tree.specs.Tree as t
use Rattle.dart_tree.specs.Tree.{Stmt}
use Rattle.dart_tree.specs.Tokens.{stmt_tokens}
use Rattle.grammar_laws.specs.Codes.{nowhere}
use Rattle.grammar_laws.specs.Readers.{Outcome, Reader, and_then, mapped, starts, either, nothing, by_first}
use Rattle.grammar_laws.proofs.Codes.{apart, within_none, within_self}
use Rattle.grammar_laws.proofs.Restated.{made_laws, reread}
use Rattle.dart_syntax.specs.Phrases.{Phrase, made}
use Rattle.dart_syntax.specs.Statements as p
use Rattle.dart_syntax.specs.Statements.{within}
use Rattle.dart_syntax.proofs.AgreeingStages.{within_agrees}
use Rattle.token_codes.specs.Codes.{class_of, these}
use Rattle.syntax_readers.specs.Statements as i
use Rattle.syntax_readers.specs.Statements.{stage, closed, compound_first, jump_first, open_try}
use Rattle.laws_block.specs.Begun.{begun, level_of, still_of, ReadsBegun}
use Rattle.laws_stmt.specs.Statements.{BlockReadAt, unbraced_first}
use Rattle.laws_stmt.specs.Besides.{SinglesReadAt}
use Rattle.laws_block.specs.Statements.{CompoundReadAt}
use Rattle.laws_block.proofs.Combined.{made_begun, plain_begun, by_first_begun, restated_begun}

-- another reader that gives the same
pub reread_begun : {A : Type 0} {read : Reader Token A} {p : Phrase A} {first : List ℕ} {level : A → Option ℕ} {still : A → List ℕ} → ReadsBegun read p first level still →
    {other : Reader Token A} → ((ts : List Token) → other ts ≡ read ts) → ReadsBegun other p first level still
reread_begun {A} {read} {p} {first} {level} {still} S {other} same = record {
  laws = reread S.laws (λ ts. ap (λ (o : Outcome Token A). and_then o (λ a mid. and_then (begun (level a) mid) (λ m r. Ok ((a, m), r)))) (same ts));
  complete = λ a rest fits stop none. same (p.spelling a ++ rest) ∙ S.complete a rest fits stop none;
}

-- the same tokens, by another name
pub respelled_begun : {A : Type 0} {read : Reader Token A} {p : Phrase A} {first : List ℕ} {level : A → Option ℕ} {still : A → List ℕ} → ReadsBegun read p first level still →
    (tokens : A → List Token) → ((a : A) → p.Fits a → tokens a ≡ p.spelling a) → ReadsBegun read (record { spelling = tokens; Fits = p.Fits; front = p.front }) first level still
respelled_begun {A} {read} {p} {first} {level} {still} S tokens said = reread_begun (restated_begun (made_begun S (λ a. a) tokens level still (λ a fits. refl) said (λ a fits. within_self (still a))) forth (λ a fits. (a, fits, refl)) (λ ts f. f) (λ ts f. f) (within_self first))
    (λ ts. same (read ts)) where
      forth : (a : A) → (made tokens (λ (x : A). x) p).Fits a → p.Fits a
      forth a (b, fits, e) = subst p.Fits e fits

      same : (o : Outcome Token A) → o ≡ and_then o (λ a r. Ok (a, r))
      same (Ok x) = refl
      same (Err x) = refl

module _ (n : ℕ) (B : BlockReadAt n) (C : CompoundReadAt n) (I : SinglesReadAt n) where
  abbrev nodes : p.StmtNodes
  nodes = (within n).nodes

  abbrev BlockStmt : Phrase Stmt
  BlockStmt = made stmt_tokens t.block_stmt nodes.expr_nodes.block

  block_said : (x : t.Block) → nodes.expr_nodes.block.Fits x → stmt_tokens (t.block_stmt x) ≡ nodes.expr_nodes.block.spelling x
  unfolding stmt_tokens
  block_said x fits = sym ((within_agrees n).nodes.expr_nodes.block.spells x)

  block_never : (x : Stmt) → BlockStmt.Fits x → level_of n x ≡ None
  unfolding open_try
  block_never x (b, fits, e) = ap (level_of n) (sym e)

  pub block_begun : ReadsBegun (mapped t.block_stmt (stage n).nodes.exprs.block) BlockStmt (these s.LeftBrace) (level_of n) (still_of n)
  block_begun = plain_begun (made_laws B t.block_stmt stmt_tokens nowhere block_said (λ x fits. within_none [])) (level_of n) (still_of n) block_never (λ x fits. within_none _)

  pub compound_begun : ReadsBegun (stage n).nodes.compound (record { spelling = stmt_tokens; Fits = nodes.compound.Fits; front = nodes.compound.front }) compound_first (level_of n) (still_of n)
  compound_begun = respelled_begun C stmt_tokens (λ x fits. sym ((within_agrees n).nodes.compound.spells x))

  jump_never : (x : Stmt) → (p.jump_of nodes).Fits x → level_of n x ≡ None
  unfolding open_try
  jump_never x (inl (y, fits, e)) = ap (level_of n) (sym e)
  jump_never x (inr (inl (y, fits, e))) = ap (level_of n) (sym e)
  jump_never x (inr (inr (inl (y, fits, e)))) = ap (level_of n) (sym e)
  jump_never x (inr (inr (inr (y, fits, e)))) = ap (level_of n) (sym e)

  expression_never : (x : Stmt) → (p.expression_of nodes).Fits x → level_of n x ≡ None
  unfolding open_try
  expression_never x ((y, fits, e), free) = ap (level_of n) (sym e)

  abbrev expression : Reader Token Stmt
  expression = i.expression_stmt (closed (stage n).nodes.exprs)

  abbrev guarded : Reader Token Stmt
  guarded = either (starts class_of unbraced_first) expression nothing

  abbrev jumps : Reader Token Stmt
  jumps = i.jump (closed (stage n).nodes.exprs)

  abbrev blocks : Reader Token Stmt
  blocks = mapped t.block_stmt (stage n).nodes.exprs.block

  abbrev compounds : Reader Token Stmt
  compounds = (stage n).nodes.compound

  abbrev Whole : Phrase Stmt
  Whole = p.other_statement_of nodes

  chain : ReadsBegun (by_first class_of (these s.LeftBrace) blocks (by_first class_of compound_first compounds (by_first class_of jump_first jumps guarded))) Whole
      (these s.LeftBrace ++ (compound_first ++ (jump_first ++ unbraced_first))) (level_of n) (still_of n)
  chain = by_first_begun block_begun (by_first_begun compound_begun (by_first_begun (plain_begun I.jump (level_of n) (still_of n) jump_never (λ x fits. within_none _))
      (plain_begun I.expression (level_of n) (still_of n) expression_never (λ x fits. within_none _)) (apart refl)) (apart refl)) (apart refl)

  -- where one of its first tokens comes the reader is asked, and elsewhere it refuses
  abbrev guarded_if : Bool → Reader Token Stmt
  guarded_if c ts = if c then expression ts else Err ts

  abbrev by : Bool → Bool → Bool → Reader Token Stmt → Reader Token Stmt
  by b c j last ts = if b then blocks ts else if c then compounds ts else if j then jumps ts else last ts

  same_last : (ts : List Token) (x : Bool) → starts class_of (these s.LeftBrace) ts ≡ false → starts class_of unbraced_first ts ≡ x → expression ts ≡ guarded_if x ts
  same_last ts true off e = refl
  same_last ts false off e = I.refused ts off e

  same_chain : (ts : List Token) (b c j : Bool) → starts class_of (these s.LeftBrace) ts ≡ b → by b c j expression ts ≡ by b c j guarded ts
  same_chain ts true c j e = refl
  same_chain ts false true j e = refl
  same_chain ts false false true e = refl
  same_chain ts false false false e = same_last ts (starts class_of unbraced_first ts) e refl

  pub others_begun : ReadsBegun (i.other_stmt (stage n).nodes) (p.other_statement_of (within n).nodes) (these s.LeftBrace ++ (compound_first ++ (jump_first ++ unbraced_first))) (level_of n) (still_of n)
  unfolding i.other_stmt
  others_begun = reread_begun chain (λ ts. same_chain ts (starts class_of (these s.LeftBrace) ts) (starts class_of compound_first ts) (starts class_of jump_first ts) refl)
