-- That no list of tokens is two kinds of statements, or a constructor and another member, but for
-- the one kind of function that could be a constructor too.
use Rattle.std.specs.Prelude.{◌≡◌, ℕ, Bool, true, false, List, None}
use Rattle.grammar_laws.specs.Fronts.{both_spelling}
use Rattle.dart_base.specs.declared.place.Place.{Place}
use Rattle.dart_token.specs.declared.token.Token.{Token}
use Rattle.dart_tree.specs.declared.identifier.Identifier.TheVariants as i
use Rattle.dart_tree.specs.declared.declaration.Modifier.{Modifier}
use Rattle.dart_tree.specs.declared.declaration.Modifier.TheVariants as m
use Rattle.dart_tree.specs.Tree as t
use Rattle.dart_tree.specs.Tree.{Stmt, Body, Parameters}
use Rattle.dart_tree.specs.Tokens.{stmt_tokens}
use Rattle.dart_tree.specs.Unit as d
use Rattle.dart_tree.specs.Unit.{Constructor, MemberKind}
use Rattle.dart_tree.specs.UnitTokens.{modifier_tokens, member_kind_tokens, constructor_tokens}
use Rattle.dart_syntax.specs.Statements.{declaration_of, other_statement_of, within}
use Rattle.dart_syntax.specs.Declarations.{constructor_within, other_member}

-- ---- statements that declare something, and the others (ECMA-408, 17 Statements)

-- at no depths do one of these and one of the others have the same tokens
abbrev pub DeclaresOrActs : Type 0
DeclaresOrActs = (n m : ℕ) (x y : Stmt) → (declaration_of (within n).nodes).Fits x →
    (other_statement_of (within m).nodes).Fits y → stmt_tokens x ≡ stmt_tokens y → ⊥

-- ---- members behind their metadata: constructors, and the others (10 Classes)

abbrev pub bare_member_tokens : Modifier × MemberKind → List Token
bare_member_tokens = both_spelling modifier_tokens member_kind_tokens

-- the body is a block or a semicolon
abbrev pub has_no_arrow : Body → Bool
has_no_arrow (t.arrow_body arrow value semicolon) = false
has_no_arrow body = true

-- a function that could be a constructor: without `static` and `external`, without a result, and of
-- the class's name
abbrev pub IsLikeConstructor : List ℕ → Modifier × MemberKind → Type 0
IsLikeConstructor class member = (place : Place) × (given : Parameters) × (body : Body) ×
    (has_no_arrow body ≡ true) ×
    (member ≡ (
      m.Omitted,
      d.function_member
          (t.the_function None None (i.Name place class) given body),
    ))

-- of other members none but these has the tokens of a constructor of any depth
abbrev pub OnlyFunctionsConstruct : Type 0
OnlyFunctionsConstruct = (class : List ℕ) (n m : ℕ) (member : Modifier × MemberKind)
    (x : Constructor) → (other_member n).Fits member → (constructor_within class m).Fits x →
    constructor_tokens x ≡ bare_member_tokens member → IsLikeConstructor class member

-- each of these has the tokens of a constructor of its own depth
abbrev pub LikeOnesConstruct : Type 0
LikeOnesConstruct = (class : List ℕ) (n : ℕ) (member : Modifier × MemberKind) →
    (other_member n).Fits member → IsLikeConstructor class member →
    (x : Constructor) × (constructor_within class n).Fits x ×
    (constructor_tokens x ≡ bare_member_tokens member)
