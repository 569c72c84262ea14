use Rattle.std.proofs.Common.{◌∙◌, refl, arith}
use Rattle.std.proofs.lemmas.Result.{err_from_is_err_and}
use Rattle.token_cursor.specs.Gives.{same}
use Rattle.syntax_readers.specs.Statements.{catch_over}
use Rattle.parse_jump.specs.Views.{catch_at, one_height}
use Rattle.parse_jump.proofs.Behind.{passes_low}
use Rattle.parse_jump.proofs.Stages.{catch_never, catch_is}
use Rattle.parse_jump.proofs.catching.catch_clause.Goals as goal

pub returns-then-depth-eq0 : goal.returns-then-depth-eq0
returns-then-depth-eq0 c = catch_never c.args.depth c.args.cursor.now (omega (arith, c.if-depth-eq0.true))

pub returns-in_err-found : goal.returns-in_err-found
returns-in_err-found c =
    let p = err_from_is_err_and c.from_residual.result c.from_residual.ensures.1 in
    let d = c.args.depth in
    let start = c.args.cursor.now in
    rw (p.1, p.2) (passes_low same (catch_over start) same one_height d (catch_at d start) c.in_err-found.field-0.0 c.catch_over.new.cursor
    (λ end e. catch_is d start (omega (arith, c.if-depth-eq0.false)) ∙ e) c.in_err-found.ensures)

pub returns : goal.returns
returns c = (catch_is c.args.depth c.args.cursor.now (omega (arith, c.if-depth-eq0.false)) ∙ c.in_ok-found.ensures, refl, omega (arith, c.if-depth-eq0.false))
