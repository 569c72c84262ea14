use Rattle.core_text.specs.Head.{site_text}
use Rattle.core_text.proofs.Added.{behind, told}
use Rattle.core_text.proofs.head.push_site_text.Goals as goal

pub returns : goal.returns
unfolding site_text
returns c =
    behind c.in_ok-push_text.ensures (behind (told c.text.ensures c.in_ok-push_text-2.ensures)
    (behind c.in_ok-push_text-3.ensures (behind c.in_ok-push_place.ensures c.push_required.ensures)))
