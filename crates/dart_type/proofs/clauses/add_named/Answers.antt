use Rattle.dart_type.proofs.Paired.{named_clause_more, named_clause_listed}
use Rattle.dart_type.proofs.clauses.add_named.Goals as goal

pub loop-m-preserved : goal.loop-m-preserved
loop-m-preserved c = record {
  are = λ us. named_clause_more us c.args.ns.now c.args.ms.now c.loop-m.clauses.items c.push.new.self.items c.in_ok-named_ways_of.field-0 c.loop-m.m-index _ _ c.in_ok-push.ensures.items c.in_ok-named_ways_of.ensures c.loop-m-test.true (c.loop-m.invariant.are us);
  listed = λ n a b w. named_clause_listed n c.args.ns.now c.args.ms.now c.loop-m.clauses.items c.push.new.self.items c.in_ok-named_ways_of.field-0 c.loop-m.m-index _ c.in_ok-push.ensures.items c.in_ok-named_ways_of.ensures c.loop-m-test.true a b (c.loop-m.invariant.listed n a b w);
}
