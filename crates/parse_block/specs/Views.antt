-- What contracts see of blocks, lists of statements, `do` and `switch`, and the readers of their parts.
use Rattle.std.specs.Prelude.{ℕ, ◌+◌, ◌-◌, max, Bool, true, false, List, map, Option, Some, None, Ok, Err}
use Rattle.std.specs.Global.{Vec}
use Rattle.dart_base.specs.declared.place.Place.{Place}
use Rattle.dart_syntax.specs.Statements.{to_stmts}
use Rattle.dart_token.specs.declared.sign.Sign.TheVariants as s
use Rattle.dart_token.specs.declared.token.Token.{Token}
use Rattle.dart_token.specs.declared.word.Word.TheVariants as w
use Rattle.dart_tree.specs.declared.statement.Stmt.{Stmt}
use Rattle.dart_tree.specs.declared.statement.SwitchPart.{SwitchPart}
use Rattle.dart_tree.specs.Depth as height
use Rattle.dart_tree.specs.Tree as t
use Rattle.dart_tree.specs.Types as y
use Rattle.dart_tree.specs.View as view
use Rattle.grammar_laws.specs.Readers.{Reader, Outcome, mapped, many, tried}
use Rattle.parse_block.specs.declared.condition.Parenthesized.{Parenthesized}
use Rattle.parse_block.specs.declared.repeat.DoRest.{DoRest}
use Rattle.parse_block.specs.declared.switch.PartRest.{PartRest}
use Rattle.parse_jump.specs.Views.{comes_in}
use Rattle.parse_nest.specs.Stages.{closed_at, stmt_at}
use Rattle.syntax_readers.specs.Combinators.{◌~◌, always_gives, halting}
use Rattle.syntax_readers.specs.Statements as spec
use Rattle.syntax_readers.specs.Types.{type_reader}
use Rattle.token_codes.specs.Codes.{class_of}
use Rattle.token_codes.specs.Leaves.{sign, word}

-- ---- what stands at the end of a statement

abbrev pub is_finally_kind : y.TryKind → Bool
is_finally_kind (y.on_part word type clause) = false
is_finally_kind (y.catch_part clause) = false
is_finally_kind (y.finally_part word) = true

-- the room of the types in the parts of a `try` that so many of n nodes stand round
abbrev pub room_of : ℕ → Option ℕ → Option ℕ
room_of n None = None
room_of n (Some above) = Some (n - (above + 1))

-- where a reader stops
abbrev pub end_of : {A : Type 0} → Outcome Token A → List Token
end_of (Ok x) = x.1
end_of (Err rest) = rest

-- what stands behind a statement that ends in such a `try`, or in none
abbrev pub behind_room : {A : Type 0} → Option ℕ → Reader Token A → Reader Token A
behind_room None p = p
behind_room (Some n) p = tried (halting (spec.on_type (type_reader n))) p

-- ---- lists of statements

abbrev pub list_of : Vec Stmt → List t.Stmt
list_of v = map view.stmt v.items

abbrev pub list_height : List t.Stmt → ℕ
list_height items = height.stmts_height (to_stmts items)

-- statements, in a part of a `switch` or elsewhere, with at most so many nodes above one another
abbrev pub stmts_at : ℕ → Bool → Reader Token (List t.Stmt)
stmts_at n in_part = spec.stmts_where n (comes_in in_part) (stmt_at n)

-- ---- conditions, and `do`

abbrev pub condition_of : Parenthesized → Place × (t.Expr × Place)
condition_of x = (x.opening, (view.expr x.value, x.closing))

abbrev pub condition_height : Place × (t.Expr × Place) → ℕ
condition_height x = height.expr_height x.1.0

-- what stands behind the body of a `do`
abbrev pub Again : Type 0
Again = Place × ((Place × (t.Expr × Place)) × Place)

abbrev pub again_of : DoRest → Again
again_of x = (x.word, (condition_of x.condition, x.semicolon))

abbrev pub again_height : Again → ℕ
again_height x = condition_height x.1.0

abbrev pub again_at : ℕ → Reader Token Again
again_at n = word w.While ~ spec.condition_over (closed_at n) ~ sign s.Semicolon

-- ---- `switch`

-- a part without its labels
abbrev pub Rest : Type 0
Rest = Place × (t.Value × (Place × List t.Stmt))

abbrev pub rest_of : PartRest → Rest
rest_of x = (x.word, (view.value x.value, (x.colon, list_of x.statements)))

abbrev pub rest_height : Rest → ℕ
rest_height x = max (height.value_height x.1.0) (list_height x.1.1.1)

abbrev pub default_at : ℕ → Reader Token Rest
default_at n = word w.Default ~ always_gives t.omitted ~ sign s.Colon ~ stmts_at n false

abbrev pub case_at : ℕ → Reader Token Rest
case_at n = word w.Case ~ mapped (t.given None) (closed_at n) ~ sign s.Colon ~ stmts_at n true

abbrev pub part_of : SwitchPart → spec.Part
part_of x = (x.labels.items, (x.word, (view.value x.value, (x.colon, list_of x.statements))))

abbrev pub part_height : spec.Part → ℕ
part_height x = rest_height x.1

abbrev pub part_at : ℕ → Reader Token spec.Part
part_at n = spec.part_over n (closed_at n) (stmt_at n)

abbrev pub parts_of : Vec SwitchPart → List spec.Part
parts_of v = map part_of v.items

abbrev pub parts_height : List spec.Part → ℕ
parts_height items = height.switch_parts_height (spec.to_parts items)

abbrev pub parts_at : ℕ → Reader Token (List spec.Part)
parts_at n = many class_of spec.is_case spec.part_first (part_at n)
