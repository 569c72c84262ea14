use Rattle.std.proofs.Common.{◌≡◌, ◌<◌, false, ap, ◌∙◌, rules, arith}
use Rattle.core_program.specs.View as v
use Rattle.core_program.specs.declared.form.Form as k
use Rattle.core_program.specs.declared.form.Unary.TheVariants as of_one
use Rattle.evaluation.specs.Parts.{form_of, is_closure}
use Rattle.evaluation.specs.State.{answer, ends}
use Rattle.machine_frame.specs.Frames.{seen, mute}
use Rattle.machine_loop.proofs.Operated.{unary_at_once}
use Rattle.machine_loop.proofs.Ordered.{below_same}
use Rattle.machine_loop.proofs.statements.written.Goals as goal

pub returns-in_ok-write_variable-in-Some-clause-done : goal.returns-in_ok-write_variable-in-Some-clause-done
returns-in_ok-write_variable-in-Some-clause-done c = λ e.
    let old = c.args.run.now in
    let middle = record old { left = c.in-Some.after } in
    let new = c.write_variable.new.run in
    let beside = c.in_ok-write_variable-in-Some.ensures.beside in
    let inner = c.deref-2.result.now in
    let bare : is_closure (form_of (v.core inner)) ≡ false = first_of (cc, search rules) in
    let form = c.in-Unary in
    record {
      does = unary_at_once c.args.a old.depth c.args.core.now (of_one.Write c.in-Write.var) form.operand inner (record (seen old) { left = c.args.left }) c.in-Some.value c.in-Some.after
          (mute (ends (answer c.in-Some.value) (seen new)))
          (form.is ∙ ap (λ q. k.Unary q form.operand) c.in-Write.is) c.deref-2.ensures bare c.if-left-eq0.false c.in-Some.ensures.value
          (λ at. ap mute c.in_ok-write_variable-in-Some.ensures.written);
      below = below_same middle new beside;
      frames = beside.0;
      depth = beside.5;
      less = (let f : new.left < c.args.left = omega (arith, beside.6, c.in-Some.ensures.less) in f);
    }
