-- Readers of statements (ECMA-408, 17 Statements), and the stages: the readers of all that has at
-- most so many nodes above one
-- another.
use Rattle.std.specs.Prelude.{ℕ, zero, suc, ◌+◌, ◌-◌, Bool, true, false, not, ◌&&◌, ◌||◌, if◌then◌else◌, List, [], ◌∷◌, ◌++◌, length, Option, Some, None, Ok, Err}
use Rattle.dart_base.specs.declared.place.Place.{Place}
use Rattle.dart_token.specs.declared.token.Token.{Token}
use Rattle.dart_token.specs.declared.sign.Sign.TheVariants as s
use Rattle.dart_token.specs.declared.word.Word.TheVariants as w
use Rattle.dart_tree.specs.declared.identifier.Label.{Label}
use Rattle.dart_tree.specs.declared.statement.Catch.{Catch}
use Rattle.dart_tree.specs.declared.statement.Jump.TheVariants as j
use Rattle.dart_tree.specs.Types.{TypeNode, on_part, catch_part, finally_part}
use Rattle.dart_tree.specs.Tree as t
use Rattle.dart_tree.specs.Tree.{Expr, Value, Stmt, Loop, Variables, Function, Block, Items, ParameterKind, Metadata, SwitchParts, TryParts}
use Rattle.grammar_laws.specs.Codes.{has}
use Rattle.grammar_laws.specs.Readers.{Reader, Outcome, and_then, nothing, always, mapped, both_by, starts, starts_two, either, option, followed, many, separated, by_first, tried, cons_to}
use Rattle.grammar_laws.specs.Halves.{strict}
use Rattle.dart_syntax.specs.Expressions.{plain_items}
use Rattle.dart_syntax.specs.Statements.{to_stmts, an_if, an_if_else, a_while, a_do, a_switch, is_shut, on_parts}
use Rattle.token_codes.specs.Codes.{class_of, names, on_code, sign_code, word_code, these, this_word}
use Rattle.token_codes.specs.Leaves.{sign, word, identifier, contextual, comma_name, label}
use Rattle.syntax_readers.specs.Combinators.{◌~◌, made₂, made₃, made₅, made₈, made₉, always_gives, many_where, halting, past_name, behind_brackets}
use Rattle.syntax_readers.specs.Types.{type_reader, type_first}
use Rattle.syntax_readers.specs.Primaries.{ExprReaders, expr_first, maybe_expr, body_comes, arguments_over, collection_over, function_literal_over}
use Rattle.syntax_readers.specs.Levels.{LevelReaders, levels_over, flat_levels}
use Rattle.syntax_readers.specs.Expressions.{expr_over, without_over, cascade_over}
use Rattle.syntax_readers.specs.Parameters.{whole_body, parameter_over, parameters_over, maybe_kind, variables_over, function_over}

-- the readers of the nodes that statements and declarations are made of, each no deeper than some
-- number of nodes
pub record StmtReaders : Type 0 where
  pub exprs : ExprReaders
  pub variables : Reader Token Variables
  pub local_function : Reader Token Function
  pub parameter : Reader Token (Metadata × ParameterKind)
  pub catch_clause : Reader Token Catch
  pub compound : Reader Token Stmt

-- the nodes, and the operands and statements of the same depth
pub record Stage : Type 0 where
  pub nodes : StmtReaders
  pub levels : LevelReaders
  pub stmt : Reader Token Stmt

-- an expression that is closed
abbrev pub closed : ExprReaders → Reader Token Expr
closed here = strict here.expr

-- ---- single statements

-- what begins a statement
abbrev pub compound_first : List ℕ
compound_first = word_code w.If ∷ word_code w.For ∷ word_code w.While ∷ word_code w.Do
    ∷ word_code w.Switch ∷ word_code w.Try ∷ []

abbrev pub stmt_first : List ℕ
stmt_first = compound_first ++ word_code w.Return ∷ word_code w.Break ∷ word_code w.Continue
    ∷ word_code w.Rethrow
    ∷ word_code w.Var ∷ word_code w.Final ∷ word_code w.Const ∷ word_code w.Void
    ∷ word_code w.Dynamic
    ∷ sign_code s.Semicolon ∷ expr_first

-- a label comes: an identifier and a colon
abbrev pub label_comes : List Token → Bool
label_comes ts = starts_two class_of names (these s.Colon) ts

-- behind labels comes `case` or `default`
abbrev pub part_comes : List Token → Bool
part_comes [] = false
part_comes (t ∷ []) = has (word_code w.Case ∷ word_code w.Default ∷ []) (class_of t)
part_comes (t ∷ u ∷ ts) = has (word_code w.Case ∷ word_code w.Default ∷ []) (class_of t)
    || (has names (class_of t) && has (these s.Colon) (class_of u) && part_comes ts)

-- ---- behind a `try` that has parts, `on` begins another part only where a type follows, and then
-- `catch` or a block

-- so many nodes of this statement stand round a `try` that ends it and has no `finally`
abbrev pub ends_open : TryParts → Bool
ends_open t.no_try_parts = false
ends_open (t.try_part (finally_part word) block t.no_try_parts) = false
ends_open (t.try_part kind block t.no_try_parts) = true
ends_open (t.try_part kind block more) = ends_open more

abbrev pub deeper_try : Option ℕ → Option ℕ
deeper_try None = None
deeper_try (Some n) = Some (suc n)

unfoldable mutual
  pub open_try : Stmt → Option ℕ
  open_try (t.labelled name body) = open_try body
  open_try (t.if_stmt word opening condition closing body) = deeper_try (open_try body)
  open_try (t.if_else word opening condition closing first other second) = deeper_try
      (open_try second)
  open_try (t.loop loop) = open_try_in loop
  open_try (t.try_stmt word block parts) = if ends_open parts then Some 0 else None
  open_try x = None

  pub open_try_in : Loop → Option ℕ
  open_try_in (t.for_loop word opening start first condition second updates closing body) =
      deeper_try (open_try body)
  open_try_in (t.for_variables word opening variables condition semicolon updates closing body) =
      deeper_try (open_try body)
  open_try_in (t.for_in word opening kind name inside iterated closing body) = deeper_try
      (open_try body)
  open_try_in (t.while_loop word opening condition closing body) = deeper_try (open_try body)
  open_try_in (t.do_loop word body again opening condition closing semicolon) = None

-- what begins such a part
unfoldable pub on_type : Reader Token TypeNode → Reader Token (Place × TypeNode)
on_type type = contextual on_code ~ type

abbrev pub body_or_catch : List Token → Bool
body_or_catch ts = starts class_of (word_code w.Catch ∷ sign_code s.LeftBrace ∷ []) ts

abbrev pub read_on : Outcome Token (Place × TypeNode) → Bool
read_on (Ok (x, rest)) = body_or_catch rest
read_on (Err rest) = false

-- another part comes
abbrev pub on_comes : Reader Token TypeNode → List Token → Bool
on_comes type ts = read_on (on_type type ts)

-- what stands behind a statement of n nodes: where that ends in such a `try`, a part may have begun
-- too
abbrev pub behind_try : {A : Type 0} → ℕ → Option ℕ → Reader Token A → Reader Token A
behind_try n None p = p
behind_try n (Some above) p = tried (halting (on_type (type_reader (n - (above + 1))))) p

-- ---- lists of statements

-- statements, as long as the test holds of what comes
module _ (n : ℕ) (test : List Token → Bool) (stmt : Reader Token Stmt) where
  abbrev pub stmt_turns : ℕ → Option ℕ → Reader Token (List Stmt)
  stmt_turns zero before ts = Ok ([], ts)
  stmt_turns (suc turns) before ts =
      if test ts
      then and_then (behind_try n before stmt ts)
      (λ x mid. cons_to x (stmt_turns turns (open_try x) mid))
      else Ok ([], ts)

  abbrev pub stmts_where : Reader Token (List Stmt)
  stmts_where ts = stmt_turns (length ts) None ts

abbrev pub stmt_comes : List Token → Bool
stmt_comes ts = starts class_of stmt_first ts

abbrev pub stmt_in_part_comes : List Token → Bool
stmt_in_part_comes ts = starts class_of stmt_first ts && not (part_comes ts)

-- block: { {statement} } (17.1 Blocks)
unfoldable pub block_over : ℕ → Reader Token Stmt → Reader Token Block
block_over n stmt = made₃ (λ opening stmts closing. t.the_block opening (to_stmts stmts) closing)
    (sign s.LeftBrace ~ stmts_where n stmt_comes stmt ~ sign s.RightBrace)

-- ---- statements that hold statements, over what is one node less deep

-- ( expression )
unfoldable pub condition_over : Reader Token Expr → Reader Token (Place × (Expr × Place))
condition_over expr = sign s.LeftParenthesis ~ expr ~ sign s.RightParenthesis

-- ifStatement: if ( expression ) statement [else statement] (17.5 If)
abbrev pub IfHead : Type 0
IfHead = Place × ((Place × (Expr × Place)) × Stmt)

abbrev pub ends_shut : IfHead → Bool
ends_shut x = is_shut x.1.1

abbrev pub an_if_of : IfHead × Option (Place × Stmt) → Stmt
an_if_of ((word, (condition, body)), None) = an_if word condition body
an_if_of ((word, (condition, body)), Some second) = an_if_else word condition (body, second)

unfoldable pub if_over : Reader Token Expr → Reader Token Stmt → Reader Token Stmt
if_over expr stmt = mapped an_if_of (followed class_of ends_shut (this_word w.Else)
    (word w.If ~ condition_over expr ~ stmt) (word w.Else ~ stmt))

-- [expressionList]
abbrev pub items_of : Option (Expr × List (Place × Expr)) → Items
items_of None = t.no_items
items_of (Some x) = plain_items x

unfoldable pub updates_over : Reader Token Expr → Reader Token Items
updates_over expr = mapped items_of (option class_of expr_first
    (separated class_of (these s.Comma) expr (sign s.Comma)))

-- forStatement: for ( [expression] ; [expression] ; [expressionList] ) statement (17.6.1 For Loop)
unfoldable pub for_loop_over : Reader Token Expr → Reader Token Stmt → Reader Token Loop
for_loop_over expr stmt = made₉ t.for_loop (word w.For ~ sign s.LeftParenthesis ~ maybe_expr expr
    ~ sign s.Semicolon
    ~ maybe_expr expr ~ sign s.Semicolon ~ updates_over expr ~ sign s.RightParenthesis ~ stmt)

-- for ( variableDeclaration [expression] ; [expressionList] ) statement
unfoldable pub for_variables_over : Reader Token Variables → Reader Token Expr → Reader Token Stmt →
    Reader Token Loop
for_variables_over variables expr stmt = made₈ t.for_variables
    (word w.For ~ sign s.LeftParenthesis ~ variables
    ~ maybe_expr expr ~ sign s.Semicolon ~ updates_over expr ~ sign s.RightParenthesis ~ stmt)

-- for ( [finalConstVarOrType] id in expression ) statement (17.6.2 For-in)
unfoldable pub for_in_over : Reader Token TypeNode → Reader Token Expr → Reader Token Stmt →
    Reader Token Loop
for_in_over type expr stmt = made₈ t.for_in (word w.For ~ sign s.LeftParenthesis ~ maybe_kind type
    ~ identifier
    ~ word w.In ~ expr ~ sign s.RightParenthesis ~ stmt)

-- one of them, told by what stands behind the bracket
unfoldable pub for_over : StmtReaders → Reader Token Stmt → Reader Token Loop
for_over inner stmt = tried (for_in_over inner.exprs.type (closed inner.exprs) stmt)
    (tried (for_variables_over inner.variables (closed inner.exprs) stmt)
    (for_loop_over (closed inner.exprs) stmt))

-- whileStatement: while ( expression ) statement (17.7 While)
unfoldable pub while_over : Reader Token Expr → Reader Token Stmt → Reader Token Loop
while_over expr stmt = made₃ a_while (word w.While ~ condition_over expr ~ stmt)

-- doStatement: do statement while ( expression ) ; (17.8 Do)
abbrev pub a_do_of : (Place × Stmt) × (Place × ((Place × (Expr × Place)) × Place)) → Loop
a_do_of ((word, body), (again, (condition, semicolon))) = a_do word body again condition semicolon

unfoldable pub do_over : ℕ → Reader Token Expr → Reader Token Stmt → Reader Token Loop
do_over n expr stmt = mapped a_do_of (both_by (word w.Do ~ stmt)
    (λ x. behind_try n (open_try x.1) (word w.While ~ condition_over expr ~ sign s.Semicolon)))

-- ---- switchStatement: switch ( expression ) { {switchCase} [defaultCase] } (17.9 Switch)

-- a part: labels, its word, its value or none, a colon and statements
abbrev pub Part : Type 0
Part = List Label × (Place × (Value × (Place × List Stmt)))

abbrev pub is_case : Part → Bool
is_case (labels, (word, (t.omitted, behind))) = false
is_case (labels, (word, (t.given operator value, behind))) = true

abbrev pub to_parts : List Part → SwitchParts
to_parts [] = t.no_switch_parts
to_parts ((labels, (word, (value, (colon, stmts)))) ∷ more) =
    t.switch_part labels word value colon (to_stmts stmts) (to_parts more)

-- switchCase: {label} case expression : {statement}, defaultCase: {label} default : {statement}
unfoldable pub part_over : ℕ → Reader Token Expr → Reader Token Stmt → Reader Token Part
part_over n expr stmt = many class_of always names label
    ~ by_first class_of (this_word w.Default)
    (word w.Default ~ always_gives t.omitted ~ sign s.Colon ~ stmts_where n stmt_comes stmt)
    (word w.Case ~ mapped (t.given None) expr ~ sign s.Colon
    ~ stmts_where n stmt_in_part_comes stmt)

abbrev pub part_first : List ℕ
part_first = word_code w.Case ∷ word_code w.Default ∷ names

unfoldable pub switch_over : ℕ → Reader Token Expr → Reader Token Stmt → Reader Token Stmt
switch_over n expr stmt = made₅ a_switch (word w.Switch ~ condition_over expr ~ sign s.LeftBrace
    ~ mapped to_parts (many class_of is_case part_first (part_over n expr stmt))
    ~ sign s.RightBrace)

-- ---- tryStatement: try block (onPart {onPart} [finallyPart] | finallyPart) (17.11 Try)

-- catchPart: catch ( id [, id] )
unfoldable pub catch_over : Reader Token Catch
catch_over = made₅ (λ word opening exception trace closing.
    record {
      word =
          word;
      opening = opening;
      exception = exception;
      trace = trace;
      closing = closing;
    })
    (word w.Catch ~ sign s.LeftParenthesis ~ identifier ~ option class_of
    (these s.Comma) comma_name ~ sign s.RightParenthesis)

-- onPart: on type [catchPart] block | catchPart block
unfoldable pub try_part_over : StmtReaders → Reader Token TryParts
try_part_over inner = by_first class_of (this_word w.Catch)
    (made₂ (λ clause body. t.try_part (catch_part clause) body t.no_try_parts)
    (inner.catch_clause ~ inner.exprs.block))
    (made₃ (λ on clause body. t.try_part (on_part on.0 on.1 clause) body t.no_try_parts)
    (on_type inner.exprs.type ~ option class_of (this_word w.Catch) inner.catch_clause
    ~ inner.exprs.block))

abbrev pub try_part_comes : Reader Token TypeNode → List Token → Bool
try_part_comes type ts = starts class_of (this_word w.Catch) ts || on_comes type ts

-- finallyPart: finally block
unfoldable pub finally_over : Reader Token Block → Reader Token (Place × Block)
finally_over block = word w.Finally ~ block

unfoldable pub try_parts_over : StmtReaders → Reader Token TryParts
try_parts_over inner = by_first class_of (this_word w.Finally)
    (made₂ (λ word body. t.try_part (finally_part word) body t.no_try_parts)
    (finally_over inner.exprs.block))
    (made₂ on_parts
    ((try_part_over inner ~ many_where (try_part_comes inner.exprs.type) (try_part_over inner))
    ~ option class_of (this_word w.Finally) (finally_over inner.exprs.block)))

unfoldable pub try_over : StmtReaders → Reader Token Stmt
try_over inner = made₃ t.try_stmt (word w.Try ~ inner.exprs.block ~ try_parts_over inner)

-- the statements that are nodes and hold statements of n nodes
unfoldable pub compound_over : ℕ → Stage → Reader Token Stmt
compound_over n inner =
    let expr = closed inner.nodes.exprs in
    by_first class_of (this_word w.If) (if_over expr inner.stmt)
    (by_first class_of (this_word w.For) (mapped t.loop (for_over inner.nodes inner.stmt))
    (by_first class_of (this_word w.While) (mapped t.loop (while_over expr inner.stmt))
    (by_first class_of (this_word w.Do) (mapped t.loop (do_over n expr inner.stmt))
    (by_first class_of (this_word w.Switch) (switch_over n expr inner.stmt)
    (try_over inner.nodes)))))

-- ---- statements of the same depth

-- returnStatement: return [expression] ; (17.12), breakStatement: break [id] ; (17.14)
-- continueStatement: continue [id] ; (17.15), rethrowStatement: rethrow ; (17.10)
unfoldable pub jump : Reader Token Expr → Reader Token Stmt
jump expr = by_first class_of (this_word w.Return) (made₃ t.return_stmt
    (word w.Return ~ maybe_expr expr ~ sign s.Semicolon))
    (by_first class_of (this_word w.Break)
    (made₃ (λ word name semicolon. t.jump (j.Break word name semicolon))
    (word w.Break ~ option class_of names identifier ~ sign s.Semicolon))
    (by_first class_of (this_word w.Continue)
    (made₃ (λ word name semicolon. t.jump (j.Continue word name semicolon))
    (word w.Continue ~ option class_of names identifier ~ sign s.Semicolon))
    (made₂ (λ word semicolon. t.jump (j.Rethrow word semicolon))
    (word w.Rethrow ~ sign s.Semicolon))))

abbrev pub jump_first : List ℕ
jump_first = word_code w.Return ∷ word_code w.Break ∷ word_code w.Continue ∷ word_code w.Rethrow
    ∷ []

-- expressionStatement: [expression] ; (17.2 Expression Statements)
unfoldable pub expression_stmt : Reader Token Expr → Reader Token Stmt
expression_stmt expr = made₂ t.expression_stmt (maybe_expr expr ~ sign s.Semicolon)

-- localVariableDeclaration or localFunctionDeclaration
unfoldable pub declaration : StmtReaders → Reader Token Stmt
declaration here = by_first class_of (word_code w.Var ∷ word_code w.Final ∷ word_code w.Const ∷ [])
    (mapped t.variables_stmt here.variables)
    (tried (mapped t.function_stmt here.local_function) (mapped t.variables_stmt here.variables))

-- what begins a declaration
abbrev pub declaration_first : List ℕ
declaration_first = word_code w.Var ∷ word_code w.Final ∷ word_code w.Const ∷ word_code w.Void
    ∷ type_first

-- a name and something in parentheses, behind which no body comes: a call, if it is anything
abbrev pub calls : List Token → Bool
calls [] = false
calls (t ∷ ts) = starts_two class_of names (these s.LeftParenthesis) (t ∷ ts) && not
    (body_comes (behind_brackets ts))

-- the statements that are no declarations
unfoldable pub other_stmt : StmtReaders → Reader Token Stmt
other_stmt here = by_first class_of (these s.LeftBrace) (mapped t.block_stmt here.exprs.block)
    (by_first class_of compound_first here.compound
    (by_first class_of jump_first (jump (closed here.exprs)) (expression_stmt (closed here.exprs))))

-- nonLabelledStatement: a declaration wherever the tokens can be read so, and else one of the
-- others
unfoldable pub unlabelled : StmtReaders → Reader Token Stmt
unlabelled here = either (starts class_of declaration_first)
    (either calls (tried (other_stmt here) (declaration here))
    (tried (declaration here) (other_stmt here)))
    (other_stmt here)

-- statement: {label} nonLabelledStatement
unfoldable pub stmt_of : StmtReaders → Reader Token Stmt
stmt_of here = made₂ t.with_labels (many_where label_comes label ~ past_name (unlabelled here))

-- ---- the stages

-- the nodes over what is one node less deep
unfoldable pub nodes_over : ℕ → Stage → StmtReaders
nodes_over n inner =
    let expr = closed inner.nodes.exprs in
    record {
      exprs = record {
        type = type_reader (suc n);
        expr = expr_over inner.nodes.exprs inner.levels;
        without = without_over inner.nodes.exprs inner.levels;
        cascade = cascade_over inner.nodes.exprs;
        collection = collection_over inner.nodes.exprs.type expr;
        function = function_literal_over inner.nodes.exprs;
        arguments = arguments_over expr;
        parameters = parameters_over inner.nodes.parameter expr;
        block = block_over n inner.stmt;
      };
      variables = variables_over inner.nodes.exprs.type expr;
      local_function = function_over inner.nodes.exprs (always_gives None)
          (whole_body inner.nodes.exprs);
      parameter = parameter_over inner.nodes.exprs;
      catch_clause = catch_over;
      compound = compound_over n inner;
    }

abbrev pub no_nodes : StmtReaders
no_nodes = record {
  exprs = record {
    type = nothing;
    expr = nothing;
    without = nothing;
    cascade = nothing;
    collection = nothing;
    function = nothing;
    arguments = nothing;
    parameters = nothing;
    block = nothing;
  };
  variables = nothing;
  local_function = nothing;
  parameter = nothing;
  catch_clause = nothing;
  compound = nothing;
}

-- the nodes, with the operands and statements that are no deeper
abbrev pub with_levels : StmtReaders → LevelReaders → Stage
with_levels here levels = record { nodes = here; levels = levels; stmt = stmt_of here }

-- the readers of what has at most so many nodes above one another
unfoldable pub stage : ℕ → Stage
stage zero = with_levels no_nodes (flat_levels no_nodes.exprs)
stage (suc n) =
    let here = nodes_over n (stage n) in
    with_levels here (levels_over (suc n) here.exprs (stage n).nodes.exprs (stage n).levels)
