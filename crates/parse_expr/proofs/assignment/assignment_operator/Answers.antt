use Rattle.std.proofs.Common.{Option, sym, subst}
use Rattle.dart_base.specs.declared.place.Place.{Place}
use Rattle.token_cursor.specs.Gives.{Gives, same}
use Rattle.syntax_readers.specs.Expressions.{assignment_operator}
use Rattle.parse_expr.proofs.assignment.assignment_operator.Goals as goal

pub returns-in-None : goal.returns-in-None
unfolding assignment_operator
returns-in-None c = subst (λ (half : Option Place). Gives same (assignment_operator half c.args.cursor.now) c.one_of.result c.one_of.new.cursor) (sym c.in-None.is) c.one_of.ensures
