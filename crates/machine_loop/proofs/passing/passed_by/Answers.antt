use Rattle.std.proofs.Common.{◌≡◌, ◌-◌, true, false, sym, ap, ◌∙◌, rules}
use Rattle.core_program.specs.View as v
use Rattle.core_program.specs.declared.form.Core.{Core}
use Rattle.core_program.specs.declared.form.Form as k
use Rattle.evaluation.specs.Evaluation.{eval}
use Rattle.evaluation.specs.Parts.{form_of, is_closure}
use Rattle.machine_frame.specs.Frames.{mute}
use Rattle.machine_frame.specs.Outside.{world_in}
use Rattle.machine_loop.proofs.Operated.{check_at_once}
use Rattle.machine_loop.proofs.passing.passed_by.Goals as goal

pub returns-clause-passes : goal.returns-clause-passes
returns-clause-passes c = λ d st x after e.
    let form = c.in-Unary in
    let inner = c.deref.result.now in
    let same : inner ≡ c.deref-2.result.now = c.deref.ensures ∙ sym c.deref-2.ensures in
    let open_form : is_closure (form_of (v.core inner)) ≡ false = first_of (cc, search rules) in
    let holds : c.admits_all.result ≡ true = first_of (cc, search rules) in
    let admitted = c.admits_all.ensures holds in
    check_at_once c.args.a d c.args.core.now c.in-Check.number form.operand inner (record st { left = c.args.left }) x after (admitted st.heap x)
    (form.is ∙ ap (λ q. k.Unary q form.operand) c.in-Check.is) c.deref.ensures open_form c.if-left-eq0.false
    (ap (λ (q : Core). mute (eval (v.core q) (world_in c.args.a d) (record st { left = c.args.left - 1 }))) same ∙ e)
