use Rattle.laws_checked.proofs.Silent.{production_reports_nothing}
use Rattle.laws_checked.proofs.law.production_reports_nothing.Goals as goal

pub returns : goal.returns
returns c = production_reports_nothing
