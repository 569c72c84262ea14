use Rattle.lower_leaf.specs.Seen.{seen, asked}
use Rattle.lower_class.proofs.Fields.{declared_ok}
use Rattle.lower_class.proofs.field.add_fields.Goals as goal

pub returns : goal.returns
returns g c =
    let a = g.S.Surroundings.around c.args.outside.now in
    declared_ok c.more_fields.result a (seen a c.args.state.now) c.args.first c.args.found.now.items c.add_field.new.found.items c.more_fields.new.found.items
    c.args.tree.now (asked a c.in_ok-wanted.wanted) c.is_final-final_one.result c.in_ok-wanted.ensures c.is_final-final_one.ensures c.in_ok-add_field.ensures
    c.more_fields.ensures
