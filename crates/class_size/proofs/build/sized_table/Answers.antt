use Rattle.std.proofs.Common.{◌∙◌, subst as transport}
use Rattle.class_size.specs.Size.{IsFirst, all_user_types}
use Rattle.class_size.proofs.build.sized_table.Goals as goal

pub returns-clause-sized : goal.returns-clause-sized
returns-clause-sized c = record {
  table = record {
    headers = c.args.headers.now;
    rows = c.in_ok-rows.rows.rows.items;
    numbers = c.in_ok-rows.rows.numbers.items;
    graph = c.requires.graph;
    no_fault = c.requires.no_fault;
    are_rows = c.in_ok-rows.ensures;
    table = c.in_ok-classes.ensures.rows;
    members = c.in_ok-classes.ensures.members;
    function = c.in_ok-classes.ensures.function;
  };
  first = transport (λ ns. IsFirst c.in_ok-classes.classes ns (all_user_types c.args.program.now.declarations.items) c.in_ok-too_large.too_large)
      (c.deref-2.ensures.value ∙ c.in_ok-numbers.ensures ∙ c.deref.ensures.value) c.in_ok-too_large.ensures;
}
