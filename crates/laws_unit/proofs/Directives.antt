-- The laws of the readers of directives, over strings (ECMA-408, 18 Libraries and Scripts).
use Rattle.std.proofs.Common.{ℕ, true, false, List, [], ◌∷◌, Option, refl}
use Rattle.dart_base.specs.declared.place.Place.{Place}
use Rattle.dart_token.specs.declared.token.Token.{Token}
use Rattle.dart_token.specs.declared.sign.Sign.TheVariants as s
use Rattle.dart_token.specs.declared.word.Word.TheVariants as w
use Rattle.dart_tree.specs.declared.identifier.CommaName.{CommaName}
use Rattle.dart_tree.specs.declared.identifier.DotName.{DotName}
use Rattle.dart_tree.specs.declared.identifier.Identifier.{Identifier}
use Rattle.dart_tree.specs.declared.unit.CombinatorKind.{CombinatorKind}
use Rattle.dart_tree.specs.declared.unit.CombinatorKind.TheVariants as k
use Rattle.dart_tree.specs.declared.unit.Prefix.{Prefix}
use Rattle.dart_tree.specs.Tree.{Expr, Pieces}
use Rattle.dart_tree.specs.Unit as d
use Rattle.dart_tree.specs.Unit.{Combinator, DirectiveKind}
use Rattle.dart_tree.specs.UnitTokens.{combinator_text, combinator_tokens, prefix_tokens, directive_kind_tokens}
use Rattle.grammar_laws.specs.Codes.{nowhere}
use Rattle.grammar_laws.specs.Readers.{Reader}
use Rattle.grammar_laws.proofs.Codes.{apart, apart_none, inside, within_self, within_none}
use Rattle.grammar_laws.proofs.Restated.{made_laws, wider}
use Rattle.grammar_laws.proofs.Combined.{both_laws, both_any_laws}
use Rattle.grammar_laws.proofs.Followed.{option_plain_laws}
use Rattle.grammar_laws.proofs.Repeated.{many_plain_laws}
use Rattle.grammar_laws.proofs.Chosen.{by_first_laws}
use Rattle.dart_syntax.specs.Phrases.{many}
use Rattle.dart_syntax.specs.Leaves as l
use Rattle.dart_syntax.specs.Expressions as g
use Rattle.dart_syntax.specs.Statements.{within}
use Rattle.dart_syntax.specs.Units as p
use Rattle.token_codes.specs.Codes.{names, plain_names, of_code, show_code, hide_code, these, this_word}
use Rattle.token_codes.specs.Leaves.{contextual}
use Rattle.token_codes.specs.Reads.{Reads}
use Rattle.token_codes.proofs.Leaves.{word_reads, identifier_reads, dot_name_reads, comma_name_reads}
use Rattle.syntax_readers.specs.Primaries.{string_first, strings}
use Rattle.syntax_readers.specs.Statements.{stage, closed}
use Rattle.syntax_readers.specs.Units as i
use Rattle.laws_unit.specs.Statements.{part_of_kind, library_kind, import_kind, export_kind, part_kind, StringsReadAt, behind_export, behind_import, DirectivesReadAt}
use Rattle.laws_unit.proofs.Names.{plain_identifier_reads, of_reads, show_reads, hide_reads}

-- ---- names with dots, combinators, prefixes

pub dotted_laws : Reads i.dotted p.dotted names (λ x. these s.Dot) false
unfolding i.dotted
dotted_laws = wider (both_any_laws identifier_reads (many_plain_laws dot_name_reads {codes = []} (λ x fits. within_self []) (apart_none _)) (λ x fits. apart_none _)) (inside refl) (λ x fits. inside refl)

module _ (kind : CombinatorKind) (code : ℕ) (W : Reads (contextual code) (l.named (combinator_text kind)) (code ∷ []) nowhere false) where
  abbrev to_combinator : Place × (Identifier × List CommaName) → Combinator
  to_combinator x = record { kind = kind; word = x.0; first = x.1.0; more = x.1.1 }

  combinator_as_laws : Reads (i.combinator_as kind code) (p.combinator_as kind) (code ∷ []) (λ x. these s.Comma) false
  unfolding i.combinator_as
  combinator_as_laws = made_laws (both_laws W (wider (both_any_laws identifier_reads (many_plain_laws comma_name_reads {codes = []} (λ x fits. within_self []) (apart_none _)) (λ x fits. apart_none _)) (inside {ys = names} refl) (λ x fits. inside {ys = these s.Comma} refl)) (λ x fits. apart_none names))
      to_combinator combinator_tokens (λ x. these s.Comma) (λ x fits. refl) (λ x fits. within_self (these s.Comma))

abbrev combinator_first : List ℕ
combinator_first = show_code ∷ hide_code ∷ []

pub combinators_laws : Reads i.combinators (many p.combinator) combinator_first (λ x. show_code ∷ hide_code ∷ these s.Comma) true
unfolding i.combinators
combinators_laws = many_plain_laws (by_first_laws (combinator_as_laws k.Show show_code show_reads) (combinator_as_laws k.Hide hide_code hide_reads) (apart refl)) {codes = these s.Comma} (λ x fits. within_self (these s.Comma)) (apart refl)

abbrev to_prefix : Place × Identifier → Prefix
to_prefix x = record { word = x.0; name = x.1 }

pub prefix_laws : Reads i.prefix p.prefix (this_word w.As) nowhere false
unfolding i.prefix
prefix_laws = made_laws (both_laws (word_reads w.As) plain_identifier_reads (λ place fits. apart_none plain_names)) to_prefix prefix_tokens nowhere (λ x fits. refl) (λ x fits. within_self [])

-- ---- directives

abbrev pub to_part_of : Place × (Place × (Identifier × List DotName)) → DirectiveKind
to_part_of x = d.part_of_directive x.0 x.1.0 x.1.1.0 x.1.1.1

pub part_of_laws : Reads i.part_of part_of_kind (this_word w.Part) (λ x. these s.Dot) false
unfolding i.part_of
part_of_laws = made_laws (both_laws (word_reads w.Part) (both_laws of_reads dotted_laws (λ place fits. apart_none names)) (λ place fits. apart_none (of_code ∷ []))) to_part_of directive_kind_tokens (λ x. these s.Dot) (λ x fits. refl) (λ x fits. within_self (these s.Dot))

abbrev to_library : Place × (Identifier × List DotName) → DirectiveKind
to_library x = d.library_directive x.0 x.1.0 x.1.1

pub library_laws : Reads i.library library_kind (this_word w.Library) (λ x. these s.Dot) false
unfolding i.library
library_laws = made_laws (both_laws (word_reads w.Library) dotted_laws (λ place fits. apart_none names)) to_library directive_kind_tokens (λ x. these s.Dot) (λ x fits. refl) (λ x fits. within_self (these s.Dot))

abbrev to_import : Place × (Pieces × (Option Prefix × List Combinator)) → DirectiveKind
to_import x = d.import_directive x.0 x.1.0 x.1.1.0 x.1.1.1

abbrev to_export : Place × (Pieces × List Combinator) → DirectiveKind
to_export x = d.export_directive x.0 x.1.0 x.1.1

abbrev pub to_part : Place × Pieces → DirectiveKind
to_part x = d.part_directive x.0 x.1

module _ (expr : Reader Token Expr) (inner : g.ExprNodes) (S : Reads (strings expr) (g.strings inner.expr) string_first (λ x. string_first) false) where
  pub import_laws : Reads (i.import expr) (import_kind inner) (this_word w.Import) (λ x. behind_import) false
  unfolding i.import
  import_laws = made_laws (both_laws (word_reads w.Import) (both_any_laws S (both_any_laws (option_plain_laws prefix_laws {codes = this_word w.As} (within_self (this_word w.As)) (λ x fits. within_none (this_word w.As))) combinators_laws (λ x fits. apart refl)) (λ x fits. apart refl)) (λ place fits. apart_none _))
      to_import directive_kind_tokens (λ x. behind_import) (λ x fits. refl) (λ x fits. inside refl)

  pub export_laws : Reads (i.export expr) (export_kind inner) (this_word w.Export) (λ x. behind_export) false
  unfolding i.export
  export_laws = made_laws (both_laws (word_reads w.Export) (both_any_laws S combinators_laws (λ x fits. apart refl)) (λ place fits. apart_none _)) to_export directive_kind_tokens (λ x. behind_export) (λ x fits. refl) (λ x fits. inside refl)

  pub part_laws : Reads (i.part expr) (part_kind inner) (this_word w.Part) (λ x. string_first) false
  unfolding i.part
  part_laws = made_laws (both_laws (word_reads w.Part) S (λ place fits. apart_none string_first)) to_part directive_kind_tokens (λ x. string_first) (λ x fits. refl) (λ x fits. within_self string_first)

pub directives_at : (n : ℕ) → StringsReadAt n → DirectivesReadAt n
directives_at n S = record {
  part_of = part_of_laws;
  library = library_laws;
  «import» = import_laws (closed (stage n).nodes.exprs) (within n).nodes.expr_nodes S;
  «export» = export_laws (closed (stage n).nodes.exprs) (within n).nodes.expr_nodes S;
  part = part_laws (closed (stage n).nodes.exprs) (within n).nodes.expr_nodes S;
}
