use Rattle.std.proofs.Common.{◌≡◌, Bool, true, false, Option, Some, None, ap, ◌∙◌, rules, arith}
use Rattle.dart_ir.specs.declared.value.Value.{Value}
use Rattle.core_program.specs.View as v
use Rattle.evaluation.specs.State.{Meaning}
use Rattle.evaluation.specs.Parts.{form_of, constant_of}
use Rattle.evaluation.specs.Evaluation.{eval, piece}
use Rattle.machine_frame.specs.Outside.{world_in}
use Rattle.machine_frame.specs.Frames.{seen, mute, joins}
use Rattle.machine_form.proofs.Pieces.{piece_quick, at_most}
use Rattle.machine_form.proofs.rows.piece_value.Goals as goal

pub returns-in-Some-clause-value : goal.returns-in-Some-clause-value
returns-in-Some-clause-value c =
    let r = c.args.run.now in
    let x = v.core c.args.one.now in
    let m : Meaning = eval x (world_in c.args.a r.depth) in
    let joined : joins (v.core c.args.row.now) ≡ true = first_of (cc, search rules, grind arith) in
    let found : constant_of (form_of x) ≡ Some c.in-Some.value = first_of (cc, search rules, grind arith) in
    ap (λ (b : Bool). mute (piece b (constant_of (form_of x)) m (seen r))) joined ∙ ap (λ (o : Option Value). mute (piece true o m (seen r))) found

pub returns-then-joins-clause-value : goal.returns-then-joins-clause-value
returns-then-joins-clause-value c =
    let r = c.args.run.now in
    let x = v.core c.args.one.now in
    let m : Meaning = eval x (world_in c.args.a r.depth) in
    let joined : joins (v.core c.args.row.now) ≡ true = first_of (cc, search rules, grind arith) in
    let found : constant_of (form_of x) ≡ None = first_of (cc, search rules, grind arith) in
    ap (λ (b : Bool). piece b (constant_of (form_of x)) m (seen r)) joined ∙ ap (λ (o : Option Value). piece true o m (seen r)) found

pub returns-clause-value : goal.returns-clause-value
returns-clause-value c =
    let r = c.args.run.now in
    let x = v.core c.args.one.now in
    let joined : joins (v.core c.args.row.now) ≡ false = first_of (cc, search rules, grind arith) in
    piece_quick c.at_once.result (λ p. p.0) (λ p. p.1) (joins (v.core c.args.row.now)) (constant_of (form_of x)) (eval x (world_in c.args.a r.depth)) (seen r) joined c.at_once.ensures.value

pub returns-clause-less : goal.returns-clause-less
returns-clause-less c = at_most c.at_once.result (λ p. p.1) c.args.run.now.left c.at_once.ensures.less
