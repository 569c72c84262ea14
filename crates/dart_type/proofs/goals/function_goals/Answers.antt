use Rattle.std.proofs.Common.{ap, sym, ◌∙◌}
use Rattle.dart_type.specs.declared.intern.Node.TheVariants.{Function}
use Rattle.dart_type.specs.Relation.{table_of}
use Rattle.dart_type.specs.Search.{goals}
use Rattle.dart_type.specs.Intern.{types, read, reads, named_reads, node_type}
use Rattle.dart_type.specs.Clauses.{clauses_of, assign_clauses}
use Rattle.dart_type.proofs.Entered.{if_ok}
use Rattle.dart_type.proofs.Taken.{rule_same, clauses_as}
use Rattle.dart_type.proofs.goals.function_goals.Goals as goal

pub returns : goal.returns
returns c =
    let a = c.args.nodes.now.items in
    let T = types a in
    let k = table_of c.args.classes.now in
    let f = c.in-Function.f in
    let g = c.args.g.now in
    if_ok c.assign_all.result _ _
    (λ cs h. clauses_as a c.assign_all.new.nodes.items cs.items _ _
    (ap (λ z. assign_clauses (clauses_of T z)) c.deref.ensures.value
    ∙ ap assign_clauses c.in_ok-pairs-in-Function.ensures.are
    ∙ rule_same k (read T f.result) (read T g.result) (reads T f.required.items) (reads T g.required.items) (reads T f.optional.items) (reads T g.optional.items) (named_reads T f.named.items) (named_reads T g.named.items)
    ∙ sym (ap (λ z. goals k z (node_type T (Function g))) (c.in_ok-node_of.ensures.shows ∙ ap (node_type T) c.in-Function.is)))
    h)
    c.assign_all.ensures
