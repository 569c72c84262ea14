-- All that is known of the readers at a depth, as the next depth asks for it, and what is claimed of them.
use Rattle.std.proofs.Common.{◌≡◌, ℕ, zero, suc, ◌-◌, ◌<◌, ◌⊎◌, Bool, true, false, List, refl, sym, subst, arith}
use Rattle.std.proofs.Math.Path.{fun_ext}
use Rattle.dart_base.specs.declared.place.Place.{Place}
use Rattle.dart_token.specs.declared.token.Token.{Token}
use Rattle.dart_token.specs.declared.sign.Sign.TheVariants as s
use Rattle.dart_tree.specs.Tree.{Expr, Operand, Primary, Selectors, Value}
use Rattle.dart_tree.specs.Tokens.{expr_tokens, operand_tokens, primary_tokens}
use Rattle.grammar_laws.specs.Codes.{nowhere}
use Rattle.grammar_laws.specs.Readers.{Reader}
use Rattle.grammar_laws.specs.Halves.{strict}
use Rattle.grammar_laws.specs.Laws.{Laws}
use Rattle.grammar_laws.proofs.Codes.{inside}
use Rattle.dart_syntax.specs.Phrases.{Phrase}
use Rattle.dart_syntax.specs.Agreement.{Agrees, section_tokens}
use Rattle.dart_syntax.specs.Edges.{question, leaves}
use Rattle.dart_syntax.specs.Statements.{within}
use Rattle.dart_syntax.proofs.AgreeingStages.{within_agrees}
use Rattle.token_codes.specs.Codes.{class_of, these}
use Rattle.token_codes.specs.Reads.{Reads}
use Rattle.syntax_readers.specs.Primaries.{operand_first, expr_first}
use Rattle.syntax_readers.specs.Levels.{whole, assigns}
use Rattle.syntax_readers.specs.Statements.{stage}
use Rattle.laws_expr.specs.Nexts.{after_expr, after_without, after_operand, after_primary, after_cascade}
use Rattle.laws_expr.specs.Statements.{InsideReadAt, ExpressionsReadAt, collection_first, collections_within, functions_within}
use Rattle.laws_expr.proofs.Open.{OpenLaws, Settled, open_strict_laws, open_first}
use Rattle.laws_expr.proofs.Chain.{half_operand}
use Rattle.laws_expr.proofs.Once.{half_without}
use Rattle.laws_expr.proofs.Functions.{half_expr, half_primary}
use Rattle.laws_expr.proofs.Cascades.{half_cascade}
use Rattle.laws_expr.proofs.Unary.{primary_first}
use Rattle.laws_expr.proofs.Stages.{type_at}
use Rattle.laws_expr.proofs.Depths.{row_of, RowFits, row_front}
use Rattle.laws_expr.proofs.Refusing.{refuses, expr_refuses, cascade_refuses}
use Rattle.laws_expr.proofs.Nodes.{cascaded_at}

-- shifts and comparisons: of a `>` that one of them asks for it is known whether it is given as a half
abbrev pub Asked : ℕ → Type 0
Asked next = (next ≡ 9) ⊎ (next ≡ 5)

pub record ReadAt (n : ℕ) : Type 1 where
  -- what ends in no operand
  pub arguments : Reads (stage n).nodes.exprs.arguments (within n).nodes.expr_nodes.arguments (these s.LeftParenthesis) nowhere false
  pub collection : Laws class_of (stage n).nodes.exprs.collection primary_tokens (collections_within n).Fits (collections_within n).front collection_first nowhere false
  -- the other nodes
  pub function : OpenLaws (stage n).nodes.exprs.function primary_tokens (functions_within n).Fits (functions_within n).front (these s.LeftParenthesis) after_primary half_primary
  pub expr : OpenLaws (stage n).nodes.exprs.expr expr_tokens (within n).nodes.expr_nodes.expr.Fits (within n).nodes.expr_nodes.expr.front expr_first after_expr half_expr
  pub expr_settled : (next : ℕ) → Asked next → (x : Expr) → (within n).nodes.expr_nodes.expr.Fits x → expr_refuses next x ≡ true → Settled expr x
  pub without : OpenLaws (stage n).nodes.exprs.without expr_tokens (within n).nodes.expr_nodes.without.Fits (within n).nodes.expr_nodes.without.front expr_first after_without half_without
  pub without_settled : (next : ℕ) → Asked next → (x : Expr) → (within n).nodes.expr_nodes.without.Fits x → expr_refuses next x ≡ true → Settled without x
  pub cascade : OpenLaws (stage n).nodes.exprs.cascade section_tokens (within n).nodes.expr_nodes.cascade.Fits (within n).nodes.expr_nodes.cascade.front (these s.DotDot) after_cascade half_cascade
  pub cascade_settled : (next : ℕ) → Asked next → (x : Place × (Selectors × Value)) → (within n).nodes.expr_nodes.cascade.Fits x → cascade_refuses next x ≡ true → Settled cascade x
  -- targets, and unary expressions with `super` alone
  pub target : OpenLaws (stage n).levels.target operand_tokens ((within n).levels.target).Fits ((within n).levels.target).front primary_first (after_operand 12) (half_operand 12)
  pub target_settled : (next : ℕ) → Asked next → (x : Operand) → ((within n).levels.target).Fits x → leaves next x ≡ true → Settled target x
  pub unary : OpenLaws ((stage n).levels.row 0) operand_tokens (RowFits n 0) (row_front n 0) operand_first (after_operand 12) (half_operand 12)
  pub unary_settled : (next : ℕ) → Asked next → (x : Operand) → RowFits n 0 x → leaves next x ≡ true → Settled unary x
  -- the rows
  pub rows : (i : ℕ) → i < 12 → OpenLaws (whole ((stage n).levels.row i)) operand_tokens (row_of n i).Fits (row_of n i).front operand_first (after_operand (12 - i)) (half_operand (12 - i))
  pub low_settled : (i : ℕ) (lt : i < 12) → i < 7 → (next : ℕ) → Asked next → (x : Operand) → (row_of n i).Fits x → leaves next x ≡ true → Settled (rows i lt) x
  pub high_settled : (i : ℕ) (lt : i < 12) → 6 < i → (next : ℕ) → Asked next → (x : Operand) → (row_of n i).Fits x → refuses next x ≡ true → Settled (rows i lt) x
  -- conditional expressions
  pub last : OpenLaws ((stage n).levels.row 11) operand_tokens (row_of n 11).Fits (row_of n 11).front operand_first (after_operand question) (half_operand question)
  pub last_settled : (next : ℕ) → Asked next → (x : Operand) → (row_of n 11).Fits x → refuses next x ≡ true → Settled last x
  pub assign_settled : (x : Operand) → (row_of n 11).Fits x → assigns x ≡ true → Settled last x

-- ---- the phrases with the tokens of their trees, and with their own

module _ {A : Type 0} {read : Reader Token A} {tokens : A → List Token} {p : Phrase A} {first : List ℕ} {next : A → List ℕ} {empty : Bool} (P : Agrees tokens p) where
  pub of_phrase : Laws class_of read tokens p.Fits p.front first next empty → Reads read p first next empty
  of_phrase L = subst (λ (said : A → List Token). Laws class_of read said p.Fits p.front first next empty) (fun_ext (λ a. sym (P.spells a))) L

  pub of_trees : Reads read p first next empty → Laws class_of read tokens p.Fits p.front first next empty
  of_trees L = subst (λ (said : A → List Token). Laws class_of read said p.Fits p.front first next empty) (fun_ext P.spells) L

function_said : (n : ℕ) (x : Primary) → (functions_within n).spelling x ≡ primary_tokens x
unfolding functions_within
function_said zero x = refl
function_said (suc n) x = refl

collection_said : (n : ℕ) (x : Primary) → (collections_within n).spelling x ≡ primary_tokens x
unfolding collections_within
collection_said zero x = refl
collection_said (suc n) x = refl

-- ---- what is claimed

module _ (n : ℕ) (R : ReadAt n) where
  pub inside_at : InsideReadAt n
  inside_at = record { expr = of_phrase (within_agrees n).nodes.expr_nodes.expr (open_strict_laws R.expr); arguments = R.arguments }

  pub claimed_at : ExpressionsReadAt n
  claimed_at =
      let A = within_agrees n in
      record {
        type = type_at n;
        expr = inside_at.expr;
        without = of_phrase A.nodes.expr_nodes.without (open_strict_laws R.without);
        cascade = of_phrase A.nodes.expr_nodes.cascade (open_strict_laws R.cascade);
        collection = subst (λ (said : Primary → List Token). Laws class_of (stage n).nodes.exprs.collection said (collections_within n).Fits (collections_within n).front collection_first nowhere false) (fun_ext (λ x. sym (collection_said n x))) R.collection;
        function = subst (λ (said : Primary → List Token). Laws class_of (strict (stage n).nodes.exprs.function) said (functions_within n).Fits (functions_within n).front (these s.LeftParenthesis) after_primary false) (fun_ext (λ x. sym (function_said n x))) (open_strict_laws R.function);
        arguments = R.arguments;
        target = of_phrase A.levels.target (open_strict_laws (open_first R.target (inside refl)));
        row = λ i le. of_phrase (A.levels.row i) (open_strict_laws (R.rows i (omega (arith, le))));
        cascaded = open_strict_laws (cascaded_at n inside_at R.expr R.without R.cascade R.last R.assign_settled);
      }
