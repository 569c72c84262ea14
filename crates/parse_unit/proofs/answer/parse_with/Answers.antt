use Rattle.std.proofs.Common.{nat_lt, sym, subst, Ok, ◌∙◌, ap}
use Rattle.dart_base.specs.declared.limit.TheConstants.{TREE_DEPTH}
use Rattle.syntax_readers.specs.Units.{reason_at}
use Rattle.parse_unit.specs.Finds.{AnswersWithin, Refuses}
use Rattle.parse_unit.proofs.Found.{none, left, whole, stopped}
use Rattle.parse_unit.proofs.answer.parse_with.Goals as goal

pub returns-in_default : goal.returns-in_default
returns-in_default g c = none c.args.tokens.now c.in_default.ensures ∙ ap (λ unit. Ok unit) (sym c.empty_unit.ensures)

pub returns-in-Some-left_out : goal.returns-in-Some-left_out
returns-in-Some-left_out g c = left c.args.tokens.now c.in-Some.end c.in-Some-left_out.place c.in-Some-left_out.feature c.in-Some.ensures (sym c.in-Some-left_out.ensures)

pub returns-in-Ok : goal.returns-in-Ok
returns-in-Ok g c =
    whole c.args.tokens.now c.in-Some.end _ c.in-Some.ensures (sym c.in_default-left_out.ensures)
    (subst (λ x. AnswersWithin TREE_DEPTH c.args.tokens.now (Ok x)) c.in-Ok.is c.in_ok-unit.ensures)

pub returns : goal.returns
returns g c =
    stopped c.args.tokens.now c.in-Some.end c.in-Err.at c.in_ok-further.further c.reason.result c.in-Some.ensures (sym c.in_default-left_out.ensures)
    (subst (λ x. AnswersWithin TREE_DEPTH c.args.tokens.now (Ok x)) c.in-Err.is c.in_ok-unit.ensures) c.in_ok-further.ensures
    (subst (λ rest. Refuses (reason_at (nat_lt c.in-Err.at c.in_ok-further.further) c.in-Some.end rest) c.reason.result) c.tokens_from.ensures c.reason.ensures)
