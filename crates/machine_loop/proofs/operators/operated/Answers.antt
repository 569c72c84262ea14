use Rattle.std.proofs.Common.{◌≡◌, ◌≤◌, true, sym, ◌∙◌, arith, rules}
use Rattle.machine_frame.specs.Frames.{seen}
use Rattle.machine_loop.proofs.Operated.{operated, number_at_once}
use Rattle.machine_loop.proofs.operators.operated.Goals as goal

pub returns-in-Some-answer_at_once-clause-value : goal.returns-in-Some-answer_at_once-clause-value
returns-in-Some-answer_at_once-clause-value c = λ at.
    let a = c.args.a in
    let r = c.args.run.now in
    let st = record (seen r) { left = c.args.left } in
    let enough : 4 ≤ c.args.left = omega (arith, c.if-left-lt4.false) in
    let holds : c.takes.result ≡ true = first_of (cc, search rules) in
    operated a r.depth c.args.name c.class_of-class.result c.args.this c.args.value c.in-Some-answer_at_once.answer c.in-Some.id st
    (λ n is. c.takes.ensures holds n (sym c.in-Some.ensures.operand ∙ is)) c.if-run-eq0.false enough
    c.class_of-class.ensures c.in-Some.ensures.native c.in-Some-answer_at_once.ensures at

pub returns-in-Some-small_value-clause-value : goal.returns-in-Some-small_value-clause-value
returns-in-Some-small_value-clause-value c = λ at.
    let a = c.args.a in
    let r = c.args.run.now in
    let st = record (seen r) { left = c.args.left } in
    let enough : 4 ≤ c.args.left = omega (arith, c.if-left-lt4.false) in
    let holds : c.takes.result ≡ true = first_of (cc, search rules) in
    let u = c.in-Some-small_value.answer in
    operated a r.depth c.args.name c.class_of-class.result c.args.this c.args.value u c.in-Some.id st
    (λ n is. c.takes.ensures holds n (sym c.in-Some.ensures.operand ∙ is)) c.if-run-eq0.false enough
    c.class_of-class.ensures c.in-Some.ensures.native (number_at_once a c.in-Some.id c.args.this c.args.value r.store u c.in-Some-small_value.ensures) at
