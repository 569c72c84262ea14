use Rattle.std.proofs.Common.{sym, arith}
use Rattle.std.proofs.lemmas.Result.{err_from_is_err_and}
use Rattle.token_cursor.proofs.Passing.{passes}
use Rattle.syntax_readers.specs.Parameters as spec
use Rattle.parse_nest.specs.Stages.{closed_at}
use Rattle.parse_parameter.specs.Views.{parameter_at, required_of, required_height, optional_of, optional_height, listed, listed_of, listed_height}
use Rattle.parse_parameter.proofs.Listed.{no_required, required_alone, no_optional, with_optional}
use Rattle.parse_parameter.proofs.list.listed.Goals as goal

pub returns-in_err-required : goal.returns-in_err-required
returns-in_err-required g c =
    let p = err_from_is_err_and c.from_residual.result c.from_residual.ensures.1 in
    let d = c.args.depth in
    let start = c.args.cursor.now in
    rw (p.1, p.2) (passes required_of required_height d (spec.required (parameter_at d) start) listed_of listed_height d (listed (parameter_at d) (closed_at d) start) c.in_err-required.field-0.0 c.required.new.cursor
    (λ end e. no_required (parameter_at d) (closed_at d) start end e) c.in_err-required.ensures)

pub returns-then-not-optional_follow : goal.returns-then-not-optional_follow
returns-then-not-optional_follow g c =
    let r = c.in_ok-required.ensures in
    let d = c.args.depth in
    (required_alone (parameter_at d) (closed_at d) c.args.cursor.now (required_of c.in_ok-required.required) c.required.new.cursor r.0 (sym c.if-not-optional_follow.ensures), r.1, r.2)

pub returns-in_err-optional : goal.returns-in_err-optional
returns-in_err-optional g c =
    let p = err_from_is_err_and c.from_residual-in_err-optional.result c.from_residual-in_err-optional.ensures.1 in
    let d = c.args.depth in
    let start = c.args.cursor.now in
    let mid = c.required.new.cursor in
    rw (p.1, p.2) (passes optional_of optional_height d (spec.optional_over (parameter_at d) (closed_at d) mid) listed_of listed_height d (listed (parameter_at d) (closed_at d) start) c.in_err-optional.field-0.0 c.bracketed.new.cursor
    (λ end e. no_optional (parameter_at d) (closed_at d) start (required_of c.in_ok-required.required) mid end c.in_ok-required.ensures.0 (sym c.if-not-optional_follow.ensures) e) c.in_err-optional.ensures)

pub returns : goal.returns
returns g c =
    let r = c.in_ok-required.ensures in
    let q = c.in_ok-optional.ensures in
    let d = c.args.depth in
    (with_optional (parameter_at d) (closed_at d) c.args.cursor.now (required_of c.in_ok-required.required) c.required.new.cursor (optional_of c.in_ok-optional.optional) c.bracketed.new.cursor r.0 (sym c.if-not-optional_follow.ensures) q.0, omega (arith, r.1, q.1), omega (arith, r.2, q.2))
