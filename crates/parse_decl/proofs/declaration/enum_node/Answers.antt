use Rattle.std.proofs.Common.{◌∙◌, refl, arith}
use Rattle.std.proofs.lemmas.Result.{err_from_is_err_and}
use Rattle.dart_tree.specs.UnitView as view
use Rattle.parse_decl.specs.Views.{enum_at, one_height}
use Rattle.parse_decl.proofs.Nodes.{enum_is, enum_never}
use Rattle.parse_decl.proofs.declaration.enum_node.Goals as goal
use Rattle.parse_parameter.proofs.Trying.{passes_low}
use Rattle.syntax_readers.specs.Declarations.{enum}

pub returns-then-depth-eq0 : goal.returns-then-depth-eq0
returns-then-depth-eq0 c = enum_never c.args.depth c.args.cursor.now (omega (arith, c.if-depth-eq0.true))

pub returns-in_err-found : goal.returns-in_err-found
returns-in_err-found c =
    let p = err_from_is_err_and c.from_residual.result c.from_residual.ensures.1 in
    let d = c.args.depth in
    let start = c.args.cursor.now in
    rw (p.1, p.2) (passes_low view.enum (enum start) view.enum one_height d (enum_at d start) c.in_err-found.field-0.0 c.enumeration.new.cursor
    (λ end e. enum_is d start (omega (arith, c.if-depth-eq0.false)) ∙ e) c.in_err-found.ensures)

pub returns : goal.returns
returns c = (enum_is c.args.depth c.args.cursor.now (omega (arith, c.if-depth-eq0.false)) ∙ c.in_ok-found.ensures, refl, omega (arith, c.if-depth-eq0.false))
