-- What members ask of values, initialisers, parameters, arguments, bodies, and of a result with a name (ECMA-408, 10.6.1 Generative
-- Constructors, 9 Functions).
use Rattle.std.proofs.Common.{ℕ, zero, suc, false, [], refl}
use Rattle.dart_token.specs.declared.sign.Sign.TheVariants as s
use Rattle.dart_tree.specs.UnitTokens.{init_kind_tokens}
use Rattle.grammar_laws.proofs.Codes.{apart, apart_none, within_self}
use Rattle.grammar_laws.proofs.Restated.{wider, nothing_laws}
use Rattle.dart_syntax.proofs.AgreeingStages.{within_agrees}
use Rattle.token_codes.specs.Codes.{these}
use Rattle.syntax_readers.specs.Primaries.{operand_first}
use Rattle.syntax_readers.specs.Declarations as r
use Rattle.laws_stmt.proofs.Depths.{type_goes_at}
use Rattle.laws_stmt.proofs.Local.{result_name_laws}
use Rattle.laws_block.proofs.Recursion.{all_at}
use Rattle.laws_unit.specs.Statements.{init_first, ValueReadAt, InitsReadAt, MemberPartsReadAt, MemberKindsReadAt}
use Rattle.laws_unit.proofs.Members.{inits_at, member_kinds_at}
use Rattle.laws_parse.specs.Statements.{PartsReadAt}
use Rattle.laws_parse.proofs.Behind.{behind_values, under_cascaded}
use Rattle.laws_parse.proofs.Parts.{strings_read, head_parts}

pub value_read : (n : ℕ) → ValueReadAt n
value_read n = record {
  behind = behind_values;
  reads = wider (all_at n).expressions.cascaded (within_self operand_first) (λ x fits. under_cascaded x);
  off_comma = apart refl;
  off_semicolon = apart refl;
}

-- where there is no room for a node, there are none
no_inits : InitsReadAt zero
unfolding r.init
no_inits = record {
  behind = [];
  reads = nothing_laws init_kind_tokens init_first (λ x. []) false;
  off_comma = apart_none (these s.Comma);
  off_semicolon = apart_none (these s.Semicolon);
}

pub inits_read : (n : ℕ) → InitsReadAt n
inits_read zero = no_inits
inits_read (suc n) = inits_at n (value_read n) (all_at n).expressions.arguments

pub member_parts : (n : ℕ) → MemberPartsReadAt n
member_parts n = record {
  parameters = (all_at n).others.parameters;
  arguments = (all_at n).expressions.arguments;
  inits = inits_read n;
  body = (all_at n).declared.body;
  result_name = result_name_laws (all_at n).expressions.type (within_agrees n).nodes.expr_nodes.type (type_goes_at n);
}

pub member_kinds_read : (n : ℕ) → MemberKindsReadAt n
member_kinds_read n = member_kinds_at n (member_parts n)

pub parts_read_at : (n : ℕ) → PartsReadAt n
parts_read_at n = record { strings = strings_read n; heads = head_parts n; value = value_read n; members = member_parts n }
