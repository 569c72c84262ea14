use Rattle.std.proofs.Common.{◌≡◌, ◌-◌, ◌<◌, arith}
use Rattle.lower_stmt.proofs.knot.+function_literal.Goals as goal

pub literal_function-requires : goal.literal_function-requires
literal_function-requires g t c =
    let e : c.args.depth ≡ t = c.decreases in
    record {
      callable = λ alloc outside old depth parameters body below.
          (let less : depth < t = omega (arith, e, c.if-depth-eq0.false, below) in less, λ a among. among);
      gives = λ alloc outside old new depth parameters body result made. made.1;
    }
