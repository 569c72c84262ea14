-- Statements by the number of nodes above one another, and what one type's reader gives in them.
use Rattle.std.proofs.Common.{◌≡◌, ℕ, zero, suc, ◌-◌, ◌<◌, List, Result, Err, refl, sym, ap, ◌∙◌, subst, arith}
use Rattle.dart_token.specs.declared.token.Token.{Token}
use Rattle.dart_token.specs.declared.word.Word.TheVariants as w
use Rattle.dart_tree.specs.Tree as t
use Rattle.dart_tree.specs.Types as y
use Rattle.dart_syntax.specs.Statements.{on_parts}
use Rattle.grammar_laws.specs.Readers.{Reader, Outcome, option, by_first, tried}
use Rattle.syntax_readers.specs.Combinators.{◌~◌, made₂, made₃, many_where}
use Rattle.syntax_readers.specs.Statements as spec
use Rattle.token_codes.specs.Codes.{class_of, this_word}
use Rattle.token_codes.specs.Leaves.{word}
use Rattle.token_cursor.specs.declared.error.ReadFault.{ReadFault}
use Rattle.token_cursor.specs.Gives.{GivesHigh}
use Rattle.parse_jump.specs.Views.{catch_at}
use Rattle.parse_nest.specs.Stages.{nodes_at, closed_at, block_at, stmt_at}
use Rattle.parse_parameter.proofs.Stages.{type_at}
use Rattle.parse_stmt.specs.Views.{catch_part_at, finally_at, counted_at, for_at, try_at, compound_at}

-- the same reader under another name
pub gives_by : {X A : Type 0} (view : X → A) (height : A → ℕ) (d : ℕ) (o p : Outcome Token A) (result : Result (X × ℕ) ReadFault) (new : List Token) →
    o ≡ p → GivesHigh view height d p result new → GivesHigh view height d o result new
gives_by view height d o p result new e h = subst (λ (x : Outcome Token _). GivesHigh view height d x result new) (sym e) h

-- ---- statements

pub stmt_is : (n : ℕ) (ts : List Token) → stmt_at n ts ≡ spec.stmt_of (nodes_at n) ts
unfolding spec.stage
stmt_is zero ts = refl
stmt_is (suc n) ts = refl

compound_none : (ts : List Token) → compound_at 0 ts ≡ Err ts
unfolding spec.stage
compound_none ts = refl

compound_same : (n : ℕ) (ts : List Token) → compound_at (suc n) ts ≡ spec.compound_over n (spec.stage n) ts
unfolding spec.stage spec.nodes_over
compound_same n ts = refl

pub compound_never : (depth : ℕ) (ts : List Token) → depth ≡ 0 → compound_at depth ts ≡ Err ts
compound_never depth ts none = subst (λ (d : ℕ). compound_at d ts ≡ Err ts) (sym none) (compound_none ts)

pub compound_is : (depth : ℕ) (ts : List Token) → 0 < depth → compound_at depth ts ≡ spec.compound_over (depth - 1) (spec.stage (depth - 1)) ts
compound_is depth ts some =
    let d : suc (depth - 1) ≡ depth = omega arith in
    subst (λ (m : ℕ). compound_at m ts ≡ spec.compound_over (depth - 1) (spec.stage (depth - 1)) ts) d (compound_same (depth - 1) ts)

-- ---- with one type's reader

module _ (type : Reader Token y.TypeNode) (n : ℕ) where
  abbrev for_by : Reader Token t.Loop
  for_by = tried (spec.for_in_over type (closed_at n) (stmt_at n)) (counted_at n)

  abbrev part_by : Reader Token t.TryParts
  part_by = by_first class_of (this_word w.Catch) (catch_part_at n)
      (made₃ (λ on clause body. t.try_part (y.on_part on.0 on.1 clause) body t.no_try_parts)
      (spec.on_type type ~ option class_of (this_word w.Catch) (catch_at n) ~ block_at n))

  abbrev try_by : Reader Token t.Stmt
  try_by = made₃ t.try_stmt (word w.Try ~ block_at n ~ by_first class_of (this_word w.Finally) (finally_at n)
      (made₂ on_parts ((part_by ~ many_where (spec.try_part_comes type) part_by) ~ option class_of (this_word w.Finally) (spec.finally_over (block_at n)))))

for_parts : (n : ℕ) (ts : List Token) → spec.for_over (nodes_at n) (stmt_at n) ts ≡ for_by (nodes_at n).exprs.type n ts
unfolding spec.for_over
for_parts n ts = refl

pub for_is : (n : ℕ) (ts : List Token) → spec.for_over (nodes_at n) (stmt_at n) ts ≡ for_at n ts
for_is n ts = for_parts n ts ∙ ap (λ (type : Reader Token y.TypeNode). for_by type n ts) (type_at n)

try_parts : (n : ℕ) (ts : List Token) → spec.try_over (nodes_at n) ts ≡ try_by (nodes_at n).exprs.type n ts
unfolding spec.try_over spec.try_parts_over spec.try_part_over
try_parts n ts = refl

pub try_is : (n : ℕ) (ts : List Token) → spec.try_over (nodes_at n) ts ≡ try_at n ts
try_is n ts = try_parts n ts ∙ ap (λ (type : Reader Token y.TypeNode). try_by type n ts) (type_at n)
