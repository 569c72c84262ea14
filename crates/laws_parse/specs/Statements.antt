-- What is proved of the readers of directives, declarations and units at every depth.
use Rattle.std.specs.Prelude.{ℕ, List}
use Rattle.dart_base.specs.declared.limit.TheConstants.{TREE_DEPTH, FURTHER_TREE_DEPTH}
use Rattle.dart_token.specs.declared.token.Token.{Token}
use Rattle.dart_syntax.specs.Syntax.{Answers}
use Rattle.syntax_readers.specs.Units.{found}
use Rattle.laws_unit.specs.Statements.{StringsReadAt, DirectivesReadAt, HeadPartsReadAt, HeadsReadAt, ValueReadAt, InitsReadAt, MemberPartsReadAt}
use Rattle.laws_unit.specs.Statements.{MemberKindsReadAt, AliasReadAt, MembersReadAt, ClassReadAt, CallableReadAt, DeclKindReadAt, UnitReadAt}

-- ---- what holds at every depth

-- what directives, heads and members ask of what stands inside (16.5 Strings, 15 Metadata, 9.2 Formal Parameters, 16.14.1 Actual Argument
-- List Evaluation, 19.1 Static Types)
pub record PartsReadAt (n : ℕ) : Type 0 where
  pub strings : StringsReadAt n
  pub heads : HeadPartsReadAt n
  pub value : ValueReadAt n
  pub members : MemberPartsReadAt n

abbrev pub PartsRead : Type 0
PartsRead = (n : ℕ) → PartsReadAt n

abbrev pub DirectivesReadAll : Type 0
DirectivesReadAll = (n : ℕ) → DirectivesReadAt n

abbrev pub HeadsReadAll : Type 0
HeadsReadAll = (n : ℕ) → HeadsReadAt n

abbrev pub InitsReadAll : Type 0
InitsReadAll = (n : ℕ) → InitsReadAt n

abbrev pub MemberKindsReadAll : Type 0
MemberKindsReadAll = (n : ℕ) → MemberKindsReadAt n

abbrev pub AliasesReadAll : Type 0
AliasesReadAll = (n : ℕ) → AliasReadAt n

abbrev pub CallablesReadAll : Type 0
CallablesReadAll = (n : ℕ) → CallableReadAt n

-- ---- what holds where members are found

abbrev pub ClassesReadAll : Type 0
ClassesReadAll = (n : ℕ) → MembersReadAt n → ClassReadAt n

-- at every depth
abbrev pub MembersRead : Type 0
MembersRead = (n : ℕ) → MembersReadAt n

abbrev pub DeclKindsReadAll : Type 0
DeclKindsReadAll = MembersRead → (n : ℕ) → DeclKindReadAt n

abbrev pub UnitsReadAll : Type 0
UnitsReadAll = MembersRead → (n : ℕ) → UnitReadAt n

-- ---- within the limits of depth

-- what is found on a list of tokens, which the parser's call gives where memory suffices, is the answer of the grammar
abbrev pub FoundAnswers : Type 0
FoundAnswers = MembersRead → (tokens : List Token) → Answers TREE_DEPTH FURTHER_TREE_DEPTH tokens (found tokens)
