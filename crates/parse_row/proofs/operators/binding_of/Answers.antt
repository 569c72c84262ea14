use Rattle.std.proofs.Common.{◌≡◌, sym, ap, arith}
use Rattle.parse_row.specs.Rows.{row_binds}
use Rattle.parse_row.proofs.Signs.{binds_at}
use Rattle.parse_row.proofs.operators.binding_of.Goals as goal

pub returns-in-0 : goal.returns-in-0
unfolding row_binds
returns-in-0 c = let e : c.args.row ≡ 0 = omega arith in ap row_binds (sym e)

pub returns-in-1 : goal.returns-in-1
unfolding row_binds
returns-in-1 c = let e : c.args.row ≡ 1 = omega arith in ap row_binds (sym e)

pub returns-in-3 : goal.returns-in-3
unfolding row_binds
returns-in-3 c = let e : c.args.row ≡ 3 = omega arith in ap row_binds (sym e)

pub returns-in-4 : goal.returns-in-4
unfolding row_binds
returns-in-4 c = let e : c.args.row ≡ 4 = omega arith in ap row_binds (sym e)

pub returns-in-5 : goal.returns-in-5
unfolding row_binds
returns-in-5 c = let e : c.args.row ≡ 5 = omega arith in ap row_binds (sym e)

pub returns-in-7 : goal.returns-in-7
unfolding row_binds
returns-in-7 c = let e : c.args.row ≡ 7 = omega arith in ap row_binds (sym e)

pub returns-in-8 : goal.returns-in-8
unfolding row_binds
returns-in-8 c = let e : c.args.row ≡ 8 = omega arith in ap row_binds (sym e)

pub returns-in-9 : goal.returns-in-9
unfolding row_binds
returns-in-9 c = let e : c.args.row ≡ 9 = omega arith in ap row_binds (sym e)

pub returns-in_default : goal.returns-in_default
returns-in_default c = sym (binds_at c.args.row (λ e. omega arith) (λ e. omega arith) (λ e. omega arith) (λ e. omega arith) (λ e. omega arith) (λ e. omega arith) (λ e. omega arith) (λ e. omega arith))
