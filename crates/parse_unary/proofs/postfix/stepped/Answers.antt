use Rattle.std.proofs.Common.{◌≡◌, ◌∙◌, Some, refl, arith}
use Rattle.dart_tree.specs.Tree as tree
use Rattle.dart_tree.specs.View as view
use Rattle.parse_unary.proofs.Staged.{alone_same, alone_room, alone_high, several_same, several_high}
use Rattle.parse_unary.proofs.postfix.stepped.Goals as goal

pub overflow_add-result : goal.overflow_add-result
overflow_add-result c = let r = alone_room c.args.depth c.args.parts.0 c.args.parts.1 c.args.tall c.in-None.is c.requires.steps c.requires.high in omega arith

pub returns-in_ok-operand-in-None : goal.returns-in_ok-operand-in-None
returns-in_ok-operand-in-None c =
    let x = c.args.parts.0 in
    let more = c.args.parts.1 in
    let room = alone_room c.args.depth x more c.args.tall c.in-None.is c.requires.steps c.requires.high in
    let made : view.operand c.in_ok-operand-in-None.operand ≡ tree.postfix (view.primary x.0) tree.no_selectors (Some c.args.operator) = c.in_ok-operand-in-None.ensures ∙ rw c.new.ensures.items refl in
    record {
      same = alone_same x more (view.operand c.in_ok-operand-in-None.operand) c.args.operator c.in-None.is made;
      high = alone_high x more (view.operand c.in_ok-operand-in-None.operand) c.args.operator c.args.tall c.in-None.is made c.requires.high;
      low = omega (arith, room);
    }

pub returns-in_ok-operand-in-Some : goal.returns-in_ok-operand-in-Some
returns-in_ok-operand-in-Some c =
    let x = c.args.parts.0 in
    let more = c.args.parts.1 in
    record {
      same = several_same x more c.in-Some.more (view.operand c.in_ok-operand-in-Some.operand) c.args.operator c.in-Some.is c.in_ok-operand-in-Some.ensures;
      high = several_high x more c.in-Some.more (view.operand c.in_ok-operand-in-Some.operand) c.args.operator c.args.tall c.in-Some.is c.in_ok-operand-in-Some.ensures c.requires.high;
      low = c.requires.low;
    }
