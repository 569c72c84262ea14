use Rattle.std.proofs.Common.{ℕ, subst}
use Rattle.translation.specs.Walk as w
use Rattle.lower_leaf.specs.Gives.{Gives, itself}
use Rattle.lower_leaf.specs.Seen.{seen, inside}
use Rattle.lower_decl.specs.Standings.{standing, declared, prepared}
use Rattle.lower_decl.proofs.Begun.{written_same}
use Rattle.lower_decl.proofs.declare.written_function.Goals as goal

pub returns : goal.returns
returns g c =
    let a = g.S.Surroundings.around c.args.outside.now in
    subst (λ (walk : w.Went ℕ). Gives itself c.outermost_function.result (seen a c.outermost_function.new.state) walk)
    (written_same (standing a c.args.of.now) (declared c.args.x.now) c.args.native c.args.number (seen a c.args.state.now) (seen a c.prepared_there.new.state)
    (prepared a c.in_ok-made.made) (inside a c.in_ok-inside.inside) c.in_ok-made.ensures.same c.in_ok-made.ensures.made c.in_ok-inside.ensures)
    c.outermost_function.ensures
