-- What is found on a list of tokens is its answer, within the limits of depth (ECMA-408, 18 Libraries and Scripts).
use Rattle.std.proofs.Common.{◌≡◌, ℕ, suc, ◌-◌, List, refl, subst}
use Rattle.dart_base.specs.declared.limit.TheConstants.{TREE_DEPTH, FURTHER_TREE_DEPTH}
use Rattle.dart_token.specs.declared.token.Token.{Token}
use Rattle.dart_syntax.specs.Syntax.{Answers}
use Rattle.syntax_readers.specs.Units.{found_within, found}
use Rattle.laws_unit.specs.Statements.{UnitReadAt}
use Rattle.laws_unit.proofs.Answered.{answered_at}
use Rattle.laws_parse.specs.Statements.{MembersRead}
use Rattle.laws_parse.proofs.Units.{units_read}

answered_within : (n m depth further : ℕ) → suc n ≡ depth → suc m ≡ further → UnitReadAt n → UnitReadAt m → (tokens : List Token) →
    Answers depth further tokens (found_within depth further tokens)
answered_within n m depth further near far N M tokens =
    subst (λ (k : ℕ). Answers k further tokens (found_within k further tokens)) near
    (subst (λ (k : ℕ). Answers (suc n) k tokens (found_within (suc n) k tokens)) far (answered_at n m N M tokens))

pub found_answered : MembersRead → (tokens : List Token) → Answers TREE_DEPTH FURTHER_TREE_DEPTH tokens (found tokens)
unfolding found
found_answered M tokens = answered_within (TREE_DEPTH - 1) (FURTHER_TREE_DEPTH - 1) TREE_DEPTH FURTHER_TREE_DEPTH refl refl
    (units_read M (TREE_DEPTH - 1)) (units_read M (FURTHER_TREE_DEPTH - 1)) tokens
