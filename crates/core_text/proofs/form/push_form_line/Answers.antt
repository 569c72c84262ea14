use Rattle.core_text.specs.Form.{form_line}
use Rattle.core_text.proofs.Added.{behind}
use Rattle.core_text.proofs.form.push_form_line.Goals as goal

pub returns : goal.returns
unfolding form_line
returns c =
    behind c.in_ok-push_margin.ensures (behind c.in_ok-push_head.ensures (behind c.in_ok-push_text.ensures
    (behind c.in_ok-push_place.ensures c.push_text-2.ensures)))
