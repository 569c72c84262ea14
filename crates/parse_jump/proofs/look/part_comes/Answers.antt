use Rattle.std.proofs.Common.{◌≡◌, ◌-◌, ◌∙◌, true, ap, sym, drop, length, arith}
use Rattle.syntax_readers.specs.Statements.{label_comes, part_comes}
use Rattle.parse_jump.proofs.Looking.{case_now, none_now, label_now, label_shortens, none_left}
use Rattle.parse_jump.proofs.look.part_comes.Goals as goal

pub loop-turn-init : goal.loop-turn-init
loop-turn-init c =
    let e = ap length c.fork-ahead.ensures in
    record { same = ap part_comes (sym c.fork-ahead.ensures); few = omega (arith, c.left-turn-end.ensures, e) }

pub returns-then-sees_case : goal.returns-then-sees_case
returns-then-sees_case c = sym (c.loop-turn.invariant.same ∙ case_now c.loop-turn.ahead (sym c.if-sees_case.ensures))

pub returns-then-not-label_comes : goal.returns-then-not-label_comes
returns-then-not-label_comes c = sym (c.loop-turn.invariant.same ∙ none_now c.loop-turn.ahead (sym c.if-sees_case.ensures) (sym c.if-not-label_comes.ensures))

pub loop-turn-preserved : goal.loop-turn-preserved
loop-turn-preserved c =
    let ahead = c.loop-turn.ahead in
    let n : label_comes ahead ≡ true = sym c.if-not-label_comes.ensures in
    let e : c.behind_next-ahead.result ≡ drop 1 (drop 1 ahead) = c.behind_next-ahead.ensures ∙ ap (drop 1) c.behind_next.ensures in
    let f = c.loop-turn.invariant.few in
    let s = label_shortens ahead n in
    let k = ap length e in
    record {
      same = c.loop-turn.invariant.same ∙ label_now ahead (sym c.if-sees_case.ensures) n ∙ ap part_comes (sym e);
      few = omega arith;
    }

pub returns : goal.returns
returns c = sym (c.loop-turn.invariant.same ∙ none_left c.loop-turn.ahead (let f = c.loop-turn.invariant.few in omega (arith, c.loop-turn-test.false)))
