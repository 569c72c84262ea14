use Rattle.std.proofs.Common.{◌<◌, length, arith, sym, ◌∙◌, false, set, true, subst as transport}
use Rattle.std.proofs.lemmas.List.{get_or_read}
use Rattle.class_fault.specs.Search.{IsSeenMore}
use Rattle.class_fault.proofs.Reached.{see_more}
use Rattle.class_fault.proofs.reach.see.Goals as goal

pub returns-in_ok-push-clause-more : goal.returns-in_ok-push-clause-more
returns-in_ok-push-clause-more c =
    let h = c.requires.search.size in
    let m : c.args.class < length c.args.seen.now.items = omega (arith, h, c.requires.listed) in
    transport (λ z. IsSeenMore c.args.seen.now.items (set c.args.seen.now.items c.args.class true) c.args.queue.now.items z) (sym c.in_ok-push.ensures.items)
    (see_more c.args.headers.now c.args.from c.args.seen.now.items c.args.queue.now.items c.args.class c.requires.search c.requires.listed c.requires.led
    (sym (get_or_read c.args.seen.now.items c.args.class c.index.result.now m c.index.ensures false) ∙ c.if-not-index.true))
