use Rattle.std.proofs.Common.{ℕ, ◌<◌, ◌≡◌, get_or, length, ap, ◌∙◌, sym, arith, below_more, subst as transport}
use Rattle.std.proofs.Common.{List}
use Rattle.class_order.specs.Order.{above}
use Rattle.class_order.proofs.Lists.{header_at}
use Rattle.class_order.proofs.Ordered.{has_above}
use Rattle.std.proofs.Common.{slice_get, refl}
use Rattle.class_tests.proofs.valid.are_listed.Goals as goal

pub loop-header-preserved : goal.loop-header-preserved
loop-header-preserved c =
    let hs = c.args.headers.now in
    let i = c.loop-header.header-index in
    let e : c.deref.result.now ≡ above hs i = c.deref.ensures.value ∙ sym (header_at hs i c.header-item.result (omega (arith, c.loop-header-test.true)) c.header-item.is) in
    below_more (λ d. (k : ℕ) → k < length (above hs d) → get_or (above hs d) k 0 < length hs) i c.loop-header.invariant
    (transport (λ (xs : List ℕ). (k : ℕ) → k < length xs → get_or xs k 0 < length hs) e (c.are_below.ensures c.if-not-are_below.false))

pub returns : goal.returns
returns c _ d k l =
    c.loop-header.invariant d (let m = has_above c.args.headers.now d k (slice_get c.args.headers.now d) refl l in omega (arith, m, c.loop-header-test.false)) k l
