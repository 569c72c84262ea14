use Rattle.std.proofs.Common.{sym, ◌∙◌}
use Rattle.class_tests.proofs.valid.have_roots.Goals as goal

pub returns : goal.returns
returns c h = record {
  object = λ i q. sym (c.requires.above c.args.program.now.object i q) ∙ c.names_none.ensures c.if-not-names_none.false;
  function = λ i q. sym (c.requires.above c.args.program.now.function i q) ∙ c.names_one.ensures h;
}
