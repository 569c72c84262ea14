-- The laws of heads at each depth.
use Rattle.std.proofs.Common.{ℕ}
use Rattle.dart_syntax.specs.Statements.{within}
use Rattle.dart_syntax.proofs.AgreeingStages.{within_agrees}
use Rattle.syntax_readers.specs.Statements.{stage}
use Rattle.laws_unit.specs.Statements.{HeadPartsReadAt, HeadsReadAt}
use Rattle.laws_unit.proofs.Heads.{bound_laws, mixins_laws, interfaces_laws, superclass_laws, type_parameters_laws}
use Rattle.laws_unit.proofs.Enums.{enum_laws}

pub heads_at : (n : ℕ) → HeadPartsReadAt n → HeadsReadAt n
heads_at n H = record {
  bound = bound_laws (stage n).nodes.exprs (within n).nodes (within_agrees n).nodes H.type;
  type_parameters = type_parameters_laws (stage n).nodes.exprs (within n).nodes (within_agrees n).nodes H.type H.metadata;
  superclass = superclass_laws (stage n).nodes.exprs (within n).nodes (within_agrees n).nodes H.type;
  mixins = mixins_laws (stage n).nodes.exprs (within n).nodes (within_agrees n).nodes H.type;
  interfaces = interfaces_laws (stage n).nodes.exprs (within n).nodes (within_agrees n).nodes H.type;
  enum = enum_laws;
}
