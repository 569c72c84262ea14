use Rattle.std.proofs.Common.{◌∙◌, sym, arith}
use Rattle.dart_pieces.proofs.CommentLaws.{scanned_opens, scanned_closes, scanned_other, scanned_end, scanned_first}
use Rattle.dart_pieces.proofs.comments.scan.Goals as goal

pub loop-depth-init : goal.loop-depth-init
loop-depth-init c = record { within = omega arith; depth = omega arith; value = scanned_first c.args.text.now }

pub returns-then-text-at-lt2-clause-value : goal.returns-then-text-at-lt2-clause-value
returns-then-text-at-lt2-clause-value c = scanned_end c.args.text.now c.loop-depth.at c.loop-depth.depth (omega arith) c.loop-depth-test.true c.loop-depth.invariant.value

pub loop-depth-preserved-then-is_open_mark : goal.loop-depth-preserved-then-is_open_mark
loop-depth-preserved-then-is_open_mark c =
    let inv = c.loop-depth.invariant in
    let le = inv.depth in let within = inv.within in let enough = c.if-text-at-lt2.false in
    record {
      within = omega arith;
      depth = omega arith;
      value = scanned_opens c.args.text.now c.loop-depth.at c.loop-depth.depth (omega arith) c.loop-depth-test.true (sym c.is_open_mark.ensures ∙ c.if-is_open_mark.true) inv.value;
    }

pub loop-depth-preserved-then-is_close_mark : goal.loop-depth-preserved-then-is_close_mark
loop-depth-preserved-then-is_close_mark c =
    let inv = c.loop-depth.invariant in
    let le = inv.depth in let within = inv.within in let enough = c.if-text-at-lt2.false in
    record {
      within = omega arith;
      depth = omega arith;
      value = scanned_closes c.args.text.now c.loop-depth.at c.loop-depth.depth (omega arith) c.loop-depth-test.true (sym c.is_open_mark.ensures ∙ c.if-is_open_mark.false) (sym c.is_close_mark.ensures ∙ c.if-is_close_mark.true) inv.value;
    }

pub loop-depth-preserved : goal.loop-depth-preserved
loop-depth-preserved c =
    let inv = c.loop-depth.invariant in
    let le = inv.depth in let within = inv.within in let enough = c.if-text-at-lt2.false in
    record {
      within = omega arith;
      depth = omega arith;
      value = scanned_other c.args.text.now c.loop-depth.at c.loop-depth.depth (omega arith) c.loop-depth-test.true (sym c.is_open_mark.ensures ∙ c.if-is_open_mark.false) (sym c.is_close_mark.ensures ∙ c.if-is_close_mark.false) inv.value;
    }
