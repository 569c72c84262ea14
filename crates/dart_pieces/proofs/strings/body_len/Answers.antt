use Rattle.std.proofs.Common.{◌≡◌, ◌-◌, ◌≤◌, length, drop, arith}
use Rattle.std.proofs.lemmas.List.{take_rest, length-drop}
use Rattle.dart_pieces.specs.Reader.{element_len}
use Rattle.dart_pieces.proofs.StringLaws.{body_next}
use Rattle.dart_pieces.proofs.strings.body_len.Goals as goal

pub elements-preserved : goal.elements-preserved
elements-preserved c =
    let text = c.args.text.now in
    let at = c.elements.at in
    let within = c.elements.invariant.within in
    let n : c.next_element-length.result ≡ element_len c.args.quote (drop at text) = rw take_rest at c.next_element-length.ensures.value in
    let le : c.next_element-length.result ≤ length (drop at text) = rw take_rest at c.next_element-length.ensures.within in
    let size : length (drop at text) ≡ length text - at = length-drop at text in
    let some = c.if-length-eq0.false in
    record { within = omega arith; value = body_next c.args.quote text at c.next_element-length.result n (omega arith) c.elements.invariant.value }
