use Rattle.std.proofs.Common.{◌≡◌, ℕ, List, [], ◌∷◌, ◌++◌, Some, sym, ap, ◌∙◌, rules, arith}
use Rattle.std.proofs.lemmas.Grind.{common_steps}
use Rattle.dart_ir.specs.declared.ending.Line.{Line}
use Rattle.dart_ir.specs.declared.ending.Line.TheVariants.{Printed}
use Rattle.dart_ir.specs.declared.value.Value.TheVariants.{Null}
use Rattle.evaluation.specs.State.{answer, ends}
use Rattle.evaluation.specs.Creation.{behind}
use Rattle.evaluation.specs.Values.{units_of}
use Rattle.machine_frame.specs.Outside.{setting_of}
use Rattle.machine_frame.specs.Frames.{seen, below_of, resume, mute}
use Rattle.machine_native.proofs.Carried.{alone, printed}
use Rattle.machine_native.proofs.print.print_value.Goals as goal

pub returns-clause-meaning : goal.returns-clause-meaning
returns-clause-meaning c =
    let r = c.args.run.now in
    let text = units_of (setting_of c.args.a) r.store c.args.value in
    let units : List ℕ = c.append_text.new.units in
    let out : c.push.new.self.items ≡ r.output.items ++ Printed units ∷ [] = first_of (cc, search rules, grind (arith, common_steps)) in
    let o : text ≡ Some units =
    alone text units (ap (λ (u : List ℕ). behind (Some u) text) (sym c.new-units.ensures) ∙ c.in_ok-append_text.ensures.text c.if-not-branch.false) in
    c.answer.ensures.meaning
    ∙ ap (λ (l : List Line). mute (resume c.args.a (below_of r) r.frames.items (ends (answer Null) (record (seen r) { output = l })))) out
    ∙ printed c.args.a (below_of r) r.frames.items c.args.at text units (seen r) o
