use Rattle.std.proofs.Common.{◌≡◌, ◌∙◌, sym, ◌+◌, ◌-◌, ◌≤◌, length, take, drop, arith, Some, None, inr}
use Rattle.std.proofs.lemmas.List.{take_rest, length-drop, length-take-le}
use Rattle.dart_pieces.specs.Cuts.{Longest, found_piece, innermost}
use Rattle.dart_lex.specs.Spelling.{after, fault_of}
use Rattle.dart_lex.proofs.LexLaws.{going_next, going_refused, going_last, none_of}
use Rattle.dart_lex.proofs.lexer.read_pieces.Goals as goal

pub returns-in-Some-clause-fault : goal.returns-in-Some-clause-fault
returns-in-Some-clause-fault c =
    let text = c.args.bytes.now in
    let at = c.loop-at.at in
    let longest : Longest (innermost c.loop-at.nesting.items) (found_piece c.next_piece-class.result (drop at text)) (drop c.next_piece-class.result.1 (drop at text)) = rw take_rest at (rw c.innermost.ensures at c.next_piece-class.ensures.longest) in
    let m : (at + c.next_piece-class.result.1) - at ≡ c.next_piece-class.result.1 = omega arith in
    let bad : fault_of c.loop-at.place c.next_piece-class.result.0 (take c.next_piece-class.result.1 (drop at text)) ≡ Some c.in-Some.fault = rw m at (sym c.fault_of.ensures ∙ c.in-Some.is) in
    inr (going_refused c.args.unit text c.loop-at.nesting.items c.loop-at.place at c.next_piece-class.result longest c.loop-at.found.tokens.items c.loop-at.found.weight c.in-Some.fault bad c.loop-at.invariant.going c.requires.short c.requires.utf8)

pub loop-at-preserved : goal.loop-at-preserved
loop-at-preserved c =
    let text = c.args.bytes.now in
    let at = c.loop-at.at in
    let inv = c.loop-at.invariant in
    let line = inv.line in let column = inv.column in let weight = inv.weight in let within = inv.within in
    let longest : Longest (innermost c.loop-at.nesting.items) (found_piece c.next_piece-class.result (drop at text)) (drop c.next_piece-class.result.1 (drop at text)) = rw take_rest at (rw c.innermost.ensures at c.next_piece-class.ensures.longest) in
    let m : (at + c.next_piece-class.result.1) - at ≡ c.next_piece-class.result.1 = omega arith in
    let le : c.next_piece-class.result.1 ≤ length (drop at text) = rw take_rest at c.next_piece-class.ensures.within in
    let some = c.next_piece-class.ensures.some in
    let there : length (drop at text) ≡ length text - at = length-drop at text in
    let size : length (take c.next_piece-class.result.1 (drop at text)) ≡ c.next_piece-class.result.1 = length-take-le c.next_piece-class.result.1 (drop at text) le in
    let good : fault_of c.loop-at.place c.next_piece-class.result.0 (take c.next_piece-class.result.1 (drop at text)) ≡ None = rw m at (sym c.fault_of.ensures ∙ none_of c.fault_of.result c.in_default.not-Some) in
    let add = rw m at c.in_ok-add.ensures.held in
    let grown = rw m at c.in_ok-add.ensures.grown in
    let lines = rw m at c.place_after-place-in-loop-at.ensures.line in
    let columns = rw m at c.place_after-place-in-loop-at.ensures.column in
    let place : c.place_after-place-in-loop-at.result ≡ after c.loop-at.place (take c.next_piece-class.result.1 (drop at text)) = rw m at c.place_after-place-in-loop-at.ensures.value in
    record {
      within = omega arith;
      line = omega arith;
      column = omega arith;
      weight = omega arith;
      going = going_next c.args.unit text c.loop-at.nesting.items c.loop-at.place at c.next_piece-class.result longest c.loop-at.found.tokens.items c.add.new.self.tokens.items c.loop-at.found.weight c.add.new.self.weight c.open_after.new.nesting.items c.place_after-place-in-loop-at.result
          good add c.in_ok-open_after.ensures place inv.going;
    }

pub returns-clause-tokens : goal.returns-clause-tokens
returns-clause-tokens c = going_last c.args.unit c.args.bytes.now c.loop-at.found.tokens.items c.loop-at.found.weight c.loop-at.nesting.items c.loop-at.place c.loop-at.at c.loop-at-test.false c.loop-at.invariant.going
