-- What contracts see of the parts of statements that hold no other, and their readers by the number of nodes above one another.
use Rattle.std.specs.Prelude.{ℕ, Bool, true, false, List, [], ◌∷◌}
use Rattle.std.specs.Global.{Vec}
use Rattle.dart_base.specs.declared.place.Place.{Place}
use Rattle.dart_token.specs.declared.sign.Sign.TheVariants as s
use Rattle.dart_token.specs.declared.token.Token.{Token}
use Rattle.dart_token.specs.declared.word.Word.TheVariants as w
use Rattle.dart_tree.specs.declared.identifier.Label.{Label}
use Rattle.dart_tree.specs.declared.statement.Catch.{Catch}
use Rattle.dart_tree.specs.declared.statement.Jump.TheVariants as j
use Rattle.dart_tree.specs.declared.types.TypeNode.{TypeNode}
use Rattle.dart_tree.specs.Depth as height
use Rattle.dart_tree.specs.Tree as t
use Rattle.dart_tree.specs.Types as y
use Rattle.dart_tree.specs.View as view
use Rattle.grammar_laws.specs.Readers.{Reader, option}
use Rattle.parse_nest.specs.Stages.{closed_at}
use Rattle.syntax_readers.specs.Combinators.{◌~◌, made₂, made₃}
use Rattle.syntax_readers.specs.Primaries.{maybe_expr}
use Rattle.syntax_readers.specs.Statements.{stage, stmt_comes, stmt_in_part_comes}
use Rattle.token_codes.specs.Codes.{class_of, names, word_code}
use Rattle.token_codes.specs.Leaves.{sign, word, identifier}

-- ---- what comes

-- what begins a part of a `switch` behind its labels
abbrev pub case_first : List ℕ
case_first = word_code w.Case ∷ word_code w.Default ∷ []

-- whether a statement comes, in a part of a `switch` or elsewhere
abbrev pub comes_in : Bool → List Token → Bool
comes_in true = stmt_in_part_comes
comes_in false = stmt_comes

-- ---- jumps

abbrev pub return_reader : ℕ → Reader Token t.Stmt
return_reader n = made₃ t.return_stmt (word w.Return ~ maybe_expr (closed_at n) ~ sign s.Semicolon)

abbrev pub break_reader : Reader Token t.Stmt
break_reader = made₃ (λ word name semicolon. t.jump (j.Break word name semicolon))
    (word w.Break ~ option class_of names identifier ~ sign s.Semicolon)

abbrev pub continue_reader : Reader Token t.Stmt
continue_reader = made₃ (λ word name semicolon. t.jump (j.Continue word name semicolon))
    (word w.Continue ~ option class_of names identifier ~ sign s.Semicolon)

abbrev pub rethrow_reader : Reader Token t.Stmt
rethrow_reader = made₂ (λ word semicolon. t.jump (j.Rethrow word semicolon)) (word w.Rethrow ~ sign s.Semicolon)

-- ---- labels

abbrev pub labels_of : Vec Label → List Label
labels_of v = v.items

-- ---- parts of a `try`

abbrev pub on_of : Place × TypeNode → Place × y.TypeNode
on_of x = (x.0, view.type_node x.1)

abbrev pub on_height : Place × y.TypeNode → ℕ
on_height x = height.type_height x.1

-- `catch` and its names, with at most so many nodes above one another
abbrev pub catch_at : ℕ → Reader Token Catch
catch_at n = (stage n).nodes.catch_clause

abbrev pub one_height : {A : Type 0} → A → ℕ
one_height x = 1
