use Rattle.std.proofs.Common.{◌≡◌, ◌+◌, ◌-◌, arith, refl, ◌∙◌, drop, take, length, subst, ℕ, set}
use Rattle.std.proofs.lemmas.List.{length-set, length-drop, take_all}
use Rattle.token_cursor.specs.Brackets.{Measured}
use Rattle.token_cursor.proofs.Skipping.{one_before, skips_are}
use Rattle.token_cursor.proofs.brackets.skips.Goals as goal

pub loop-turn-preserved : goal.loop-turn-preserved
loop-turn-preserved c =
    let i = c.loop-turn.invariant in
    let at = length c.args.tokens.now - c.loop-turn.turn in
    let r = c.skip_before-skip.ensures in
    let n = c.skip_before-skip.result in
    let tokens = c.args.tokens.now in
    let whole : take (length tokens - at) (drop at tokens) ≡ drop at tokens = take_all (length tokens - at) (drop at tokens) (omega (arith, length-drop at tokens)) in
    let less : at - 1 ≡ length c.args.tokens.now - (c.loop-turn.turn + 1) = omega arith in
    record {
      table = subst (λ (k : ℕ). Measured (drop k c.args.tokens.now) (drop k (set c.loop-turn.found.items (at - 1) n))) less
          (one_before c.args.tokens.now c.loop-turn.found.items (set c.loop-turn.found.items (at - 1) n) at n i.table (omega (arith, c.loop-turn-test.true)) (omega arith) i.same refl (rw whole at r.skipped) r.some (rw whole at r.within));
      same = length-set c.loop-turn.found.items (at - 1) n ∙ i.same;
    }

pub returns : goal.returns
returns c =
    let i = c.loop-turn.invariant in
    let none : length c.args.tokens.now - c.loop-turn.turn ≡ 0 = omega (arith, c.loop-turn-test.false) in
    skips_are c.args.tokens.now c.loop-turn.found.items (subst (λ (k : ℕ). Measured (drop k c.args.tokens.now) (drop k c.loop-turn.found.items)) none i.table)
