use Rattle.std.proofs.Common.{length}
use Rattle.machine_form.proofs.rows.+next.Given as goal

abbrev pub decreases-next : goal.decreases-next
decreases-next l = length l.forms.now
