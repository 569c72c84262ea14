-- What directives and heads ask of strings, types and metadata, from the laws of expressions (ECMA-408, 16.5 Strings, 15 Metadata, 19.1
-- Static Types).
use Rattle.std.proofs.Common.{ℕ}
use Rattle.grammar_laws.proofs.Codes.{within_self}
use Rattle.grammar_laws.proofs.Restated.{wider}
use Rattle.dart_syntax.specs.Statements.{within}
use Rattle.dart_syntax.proofs.AgreeingStages.{within_agrees}
use Rattle.syntax_readers.specs.Types.{type_first}
use Rattle.syntax_readers.specs.Primaries.{string_first}
use Rattle.syntax_readers.specs.Statements.{stage}
use Rattle.laws_type.proofs.Types.{under_type}
use Rattle.laws_expr.specs.Statements.{InsideReadAt}
use Rattle.laws_expr.proofs.Stages.{productions_at}
use Rattle.laws_stmt.proofs.Named.{metadata_laws}
use Rattle.laws_block.proofs.Recursion.{all_at}
use Rattle.laws_unit.specs.Statements.{StringsReadAt, DirectivesReadAt, MetadataReads, TypeReads, HeadPartsReadAt, HeadsReadAt}
use Rattle.laws_unit.proofs.Directives.{directives_at}
use Rattle.laws_unit.proofs.Depths.{heads_at}

inside_read : (n : ℕ) → InsideReadAt n
inside_read n = record { expr = (all_at n).expressions.expr; arguments = (all_at n).expressions.arguments }

pub strings_read : (n : ℕ) → StringsReadAt n
strings_read n = wider (productions_at n (inside_read n)).strings (within_self string_first) (λ x fits. within_self string_first)

pub metadata_read : (n : ℕ) → MetadataReads (stage n).nodes.exprs (within n).nodes
metadata_read n = metadata_laws (stage n).nodes.exprs (within n).nodes.expr_nodes (all_at n).expressions.arguments (within_agrees n).nodes.expr_nodes.arguments

pub type_read : (n : ℕ) → TypeReads (stage n).nodes.exprs (within n).nodes
type_read n = wider (all_at n).expressions.type (within_self type_first) (λ x fits. under_type x)

pub head_parts : (n : ℕ) → HeadPartsReadAt n
head_parts n = record { metadata = metadata_read n; type = type_read n }

pub directives_read : (n : ℕ) → DirectivesReadAt n
directives_read n = directives_at n (strings_read n)

pub heads_read : (n : ℕ) → HeadsReadAt n
heads_read n = heads_at n (head_parts n)
