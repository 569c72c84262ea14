use Rattle.std.proofs.Common.{◌≡◌, ◌∙◌, length, vec_len, rules, sym}
use Rattle.grammar_laws.specs.Readers.{starts}
use Rattle.syntax_readers.specs.Parameters.{optional_first}
use Rattle.token_codes.specs.Codes.{class_of}
use Rattle.parse_parameter.proofs.Parameters.{follow_some}
use Rattle.parse_parameter.proofs.list.optional_follow.Goals as goal

pub returns-else-is_empty : goal.returns-else-is_empty
returns-else-is_empty c =
    let r = c.args.required.now in
    let n : length r.0.items ≡ vec_len r.0 = search rules in
    c.is_some.ensures ∙ follow_some r.0.items (vec_len r.0) r.1 (starts class_of optional_first c.args.cursor.now) (sym n) (sym c.is_empty.ensures ∙ c.if-is_empty.false)
