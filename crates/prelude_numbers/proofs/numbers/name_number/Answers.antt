use Rattle.std.proofs.Common.{◌∙◌, sym, true≢false}
use Rattle.prelude_numbers.proofs.Texts.{found, absent}
use Rattle.prelude_numbers.proofs.numbers.name_number.Goals as goal

pub returns-in-Some : goal.returns-in-Some
returns-in-Some c = found c.args.names.now c.args.text.now c.in-Some.name.0 c.count-next.ensures.distinct c.in-Some.ensures.found

pub returns-in-None : goal.returns-in-None
returns-in-None c = c.count-next.ensures.count ∙ absent c.args.names.now c.args.text.now (λ there. true≢false (sym (c.in-None.ensures.known.1 there)))
