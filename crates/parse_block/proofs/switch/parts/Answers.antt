use Rattle.std.proofs.Common.{◌≡◌, ◌-◌, ◌∙◌, ℕ, [], length, map, refl, sym, ap, arith}
use Rattle.std.proofs.lemmas.Result.{err_from_is_err_and}
use Rattle.grammar_laws.specs.Readers.{many_turns}
use Rattle.grammar_laws.proofs.Cuts.{gave}
use Rattle.syntax_readers.specs.Statements.{is_case, part_first}
use Rattle.token_codes.specs.Codes.{class_of}
use Rattle.token_cursor.proofs.Passing.{passes}
use Rattle.parse_loop.proofs.Alike.{pushed, same_shape}
use Rattle.parse_jump.proofs.Loops.{begins, ended, stopped, goes_on, turns_over, turns_stop, turns_fail, turns_more, turns_last}
use Rattle.parse_block.specs.Views.{part_of, part_height, part_at, parts_of, parts_height, parts_at}
use Rattle.parse_block.proofs.Parts.{part_list, none_high}
use Rattle.parse_block.proofs.switch.parts.Goals as goal

pub loop-turn-init : goal.loop-turn-init
loop-turn-init g c =
    let d = c.args.depth in
    let start = c.args.cursor.now in
    let all : c.left-turn-end.result - 0 ≡ length start = omega (arith, c.left-turn-end.ensures) in
    let none = ap (map part_of) c.new-found.ensures.items in
    begins part_list d (parts_at d start) tt (parts_at d) start _ 0 _ (same_shape (parts_at d) start)
    (ap (λ (k : ℕ). many_turns class_of is_case part_first (part_at d) k start) all) none (none_high ∙ ap parts_height (sym none)) (omega arith)

pub returns-then-not-sees_part : goal.returns-then-not-sees_part
returns-then-not-sees_part g c =
    let d = c.args.depth in
    let i = c.loop-turn.invariant in (
      ended part_list d (parts_at d c.args.cursor.now) (parts_of c.loop-turn.found) c.loop-turn.highest _ c.loop-turn.cursor i
          (turns_stop is_case part_first (part_at d) c.left-turn-end.result c.loop-turn._turn c.loop-turn.cursor c.loop-turn-test.true (sym c.if-not-sees_part.ensures)),
      i.high,
      i.low,
    )

pub returns-in_err-further : goal.returns-in_err-further
returns-in_err-further g c =
    let p = err_from_is_err_and c.from_residual.result c.from_residual.ensures.1 in
    let d = c.args.depth in
    let start = c.args.cursor.now in
    rw (p.1, p.2) (passes part_of part_height d (part_at d c.loop-turn.cursor) parts_of parts_height d (parts_at d start) c.in_err-further.field-0.0 c.part.new.cursor
    (λ end e. stopped part_list d (parts_at d start) (parts_of c.loop-turn.found) c.loop-turn.highest _ end c.loop-turn.invariant
    (turns_fail is_case part_first (part_at d) c.left-turn-end.result c.loop-turn._turn c.loop-turn.cursor end c.loop-turn-test.true (sym c.if-not-sees_part.ensures) e)) c.in_err-further.ensures)

pub returns-then-not-goes_on : goal.returns-then-not-goes_on
returns-then-not-goes_on g c =
    let d = c.args.depth in
    let start = c.args.cursor.now in
    let r = c.in_ok-further.ensures in
    let x = part_of c.in_ok-further.further in
    let end = c.part.new.cursor in
    let i = goes_on part_list d (parts_at d start) (parts_of c.loop-turn.found) (parts_of c.push.new.self) c.loop-turn.highest c.max-highest.result _ (gave [] end) x c.loop-turn.invariant
    (turns_last is_case part_first (part_at d) c.left-turn-end.result c.loop-turn._turn c.loop-turn.cursor end x c.loop-turn-test.true (sym c.if-not-sees_part.ensures) r.0 (sym c.is_case-goes_on.ensures ∙ c.if-not-goes_on.true))
    (pushed part_of c.loop-turn.found.items c.push.new.self.items c.in_ok-further.further c.in_ok-push.ensures.items) (omega (arith, c.max-highest.ensures, r.1)) (omega (arith, r.1, r.2)) in
    (ended part_list d (parts_at d start) (parts_of c.push.new.self) c.max-highest.result (gave [] end) end i refl, i.high, i.low)

pub loop-turn-preserved : goal.loop-turn-preserved
loop-turn-preserved g c =
    let d = c.args.depth in
    let r = c.in_ok-further.ensures in
    let x = part_of c.in_ok-further.further in
    goes_on part_list d (parts_at d c.args.cursor.now) (parts_of c.loop-turn.found) (parts_of c.push.new.self) c.loop-turn.highest c.max-highest.result _ _ x c.loop-turn.invariant
    (turns_more is_case part_first (part_at d) c.left-turn-end.result c.loop-turn._turn c.loop-turn.cursor c.part.new.cursor x c.loop-turn-test.true (sym c.if-not-sees_part.ensures) r.0 (sym c.is_case-goes_on.ensures ∙ c.if-not-goes_on.false))
    (pushed part_of c.loop-turn.found.items c.push.new.self.items c.in_ok-further.further c.in_ok-push.ensures.items) (omega (arith, c.max-highest.ensures, r.1)) (omega (arith, r.1, r.2))

pub returns : goal.returns
returns g c =
    let d = c.args.depth in
    let i = c.loop-turn.invariant in (
      ended part_list d (parts_at d c.args.cursor.now) (parts_of c.loop-turn.found) c.loop-turn.highest _ c.loop-turn.cursor i
          (turns_over is_case part_first (part_at d) c.left-turn-end.result c.loop-turn._turn c.loop-turn.cursor (omega (arith, c.loop-turn-test.false))),
      i.high,
      i.low,
    )
