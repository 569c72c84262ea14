use Rattle.std.proofs.Common.{◌≡◌, List, [], ◌∷◌, ◌++◌, IfOk, subst, sym, ap, ◌∙◌}
use Rattle.dart_ir.specs.declared.value.Value.{Value}
use Rattle.dart_ir.specs.Object.{text}
use Rattle.evaluation.specs.State.{Outcome, Meaning, answer, ends}
use Rattle.evaluation.specs.Sequence.{on_answer, on_answers}
use Rattle.evaluation.specs.Objects.{add}
use Rattle.evaluation.specs.Arguments.{placed, named_values}
use Rattle.evaluation.specs.Values.{shown_name, ending_in}
use Rattle.evaluation.specs.Invocation.{is_setter, invocation_object, list_of, names_list}
use Rattle.machine_frame.specs.Outside.{setting_of}
use Rattle.machine_frame.specs.Frames.{seen, given_of, value_or_full}
use Rattle.machine_call.proofs.missing.invocation.Goals as goal

pub returns-in_ok-push-in-Some-clause-made : goal.returns-in_ok-push-in-Some-clause-made
returns-in_ok-push-in-Some-clause-made c =
    let s = setting_of c.args.a in
    let go : List Value → Meaning = λ parts. add (invocation_object s c.args.role parts) in
    let rest : List Value → List Meaning = λ l. add (list_of (placed (given_of c.args.passed l))) ∷ names_list s (given_of c.args.passed l) ∷ add (list_of (named_values (given_of c.args.passed l))) ∷ [] in
    let m = c.put_name.new.run in
    let ops = c.args.run.now.operands.items in
    let e : add (text (ending_in (is_setter c.args.role) (shown_name s.names c.args.name))) (seen c.args.run.now) ≡ ends (answer c.in-Some.text) (seen m) =
    ap (λ b. add (text (ending_in b (shown_name s.names c.args.name))) (seen c.args.run.now)) (sym c.is_setter.ensures)
    ∙ c.in_ok-put_name.ensures.made ∙ ap (λ o. ends (value_or_full o) (seen m)) c.in-Some.is in
    let parts : c.push.new.self ≡ [] ++ c.in-Some.text ∷ [] =
    c.in_ok-push-in-Some.ensures.ok ∙ ap (λ (l : List Value). l ++ c.in-Some.text ∷ []) c.new-parts.ensures in
    let same : m.operands.items ≡ ops = c.in_ok-put_name.ensures.beside.3 in
    let P : Outcome → Type 0 = λ o. IfOk c.placed_part.result (λ made. o ≡ ends (value_or_full made) (seen c.placed_part.new.run)) in
    subst P (
    ap (λ (l : List Value). on_answers go (rest l) c.push.new.self (seen m)) same
    ∙ ap (λ (l : List Value). on_answers go (rest ops) l (seen m)) parts
    ∙ ap (λ o. on_answer (λ v. on_answers go (rest ops) ([] ++ v ∷ [])) o) (sym e)
    ) c.placed_part.ensures.made
