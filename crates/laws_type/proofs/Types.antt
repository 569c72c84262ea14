-- The laws of the readers of types.
use Rattle.std.proofs.Common.{◌≡◌, ℕ, zero, suc, Bool, true, false, List, [], ◌∷◌, ◌++◌, Option, None, Some, refl, sym, ap}
use Rattle.std.proofs.lemmas.List.{append-nil}
use Rattle.dart_base.specs.declared.place.Place.{Place}
use Rattle.dart_token.specs.declared.token.Token.{Token}
use Rattle.dart_token.specs.declared.sign.Sign.TheVariants as s
use Rattle.dart_token.specs.declared.word.Word.TheVariants as w
use Rattle.dart_tree.specs.declared.identifier.Identifier.{Identifier}
use Rattle.dart_tree.specs.declared.identifier.DotName.{DotName}
use Rattle.dart_tree.specs.Types.{TypeNode, TypeArguments, TypeList, dynamic_type, named_type, no_types, listed_types, void_result, typed_result}
use Rattle.dart_tree.specs.LeafTokens.{type_tokens, type_arguments_tokens, type_list_tokens, result_tokens}
use Rattle.grammar_laws.specs.Codes.{Within, Apart, nowhere, after_option}
use Rattle.grammar_laws.specs.Readers.{Reader}
use Rattle.grammar_laws.proofs.Codes.{apart, apart_none, apart_smaller, inside, within_self}
use Rattle.grammar_laws.proofs.Restated.{made_laws, nothing_laws}
use Rattle.grammar_laws.proofs.Combined.{both_laws}
use Rattle.grammar_laws.proofs.Followed.{option_laws}
use Rattle.grammar_laws.proofs.Separated.{separated_plain_laws}
use Rattle.grammar_laws.proofs.Chosen.{by_first_laws}
use Rattle.grammar_laws.proofs.Exact.{after_blank, both_blank_laws}
use Rattle.dart_syntax.specs.Phrases.{Phrase}
use Rattle.dart_syntax.specs.Agreement.{Agrees}
use Rattle.dart_syntax.specs.Types as y
use Rattle.dart_syntax.proofs.Agreeing.{parts_say, seq_agrees, opt_agrees}
use Rattle.dart_syntax.proofs.AgreeingTypes.{commas_agree, said_more, said_angles, sign_agrees, types_agree, two_types_agree, types_within_agree}
use Rattle.token_codes.specs.Codes.{sign_code, word_code, these}
use Rattle.token_codes.specs.Reads.{Reads}
use Rattle.token_codes.proofs.Leaves.{sign_reads, word_reads, identifier_reads, dot_name_reads}
use Rattle.syntax_readers.specs.Types.{type_first, types, two_types, type_arguments, type_over, type_reader, result}
use Rattle.laws_type.specs.Nexts.{after_type, after_types, after_two, after_arguments, after_result}
use Rattle.laws_type.specs.Statements.{two_over, TypesReadAt}

abbrev behind_types : List ℕ
behind_types = sign_code s.Less ∷ sign_code s.Dot ∷ []

pub under_type : (a : TypeNode) → Within (after_type a) (sign_code s.Less ∷ sign_code s.Dot ∷ [])
under_type (dynamic_type place) = inside refl
under_type (named_type name None no_types) = inside refl
under_type (named_type name (Some member) no_types) = inside refl
under_type (named_type name None (listed_types opening listed closing)) = inside refl
under_type (named_type name (Some member) (listed_types opening listed closing)) = inside refl

abbrev pub no_arguments : TypeArguments → Bool
no_arguments no_types = true
no_arguments (listed_types opening listed closing) = false

pub are_blank : (x : TypeArguments) → type_arguments_tokens x ≡ [] → no_arguments x ≡ true
are_blank no_types e = refl
are_blank (listed_types opening listed closing) e = absurd cc

behind_member : (x : Option DotName) → Apart (after_option (these s.Dot) nowhere x) (these s.Less)
behind_member None = apart refl
behind_member (Some x) = apart refl

-- ---- type arguments, over what stands in the angles

module _ {inner : Reader Token TypeList} {p : Phrase TypeList} {next : TypeList → List ℕ} (I : Reads inner p type_first next false) (A : Agrees type_list_tokens p) (shut : (x : TypeList) → p.Fits x → Apart (next x) (these s.Greater)) where
  arguments_inside : (x : Option (Place × (TypeList × Place))) → Within (after_option (these s.Less) (λ y. []) x) (after_arguments (y.in_angles x))
  arguments_inside None = within_self _
  arguments_inside (Some x) = within_self _

  pub arguments_laws : Reads (type_arguments inner) (y.type_arguments p) (these s.Less) after_arguments true
  unfolding type_arguments
  arguments_laws = made_laws (option_laws (both_laws (sign_reads s.Less) (both_laws I (sign_reads s.Greater) shut) (λ place fits. apart refl))) y.in_angles type_arguments_tokens after_arguments
      (parts_say type_arguments_tokens y.in_angles (opt_agrees (seq_agrees (sign_agrees s.Less) (seq_agrees A (sign_agrees s.Greater)))) (λ x fits. said_angles x)) (λ x fits. arguments_inside x)

-- ---- lists of types, and types, over those that stand inside

module _ {inner : Reader Token TypeNode} {p : Phrase TypeNode} (I : Reads inner p type_first after_type false) (A : Agrees type_tokens p) where
  pub types_laws : Reads (types inner) (y.types p) type_first after_types false
  unfolding types
  types_laws = made_laws (separated_plain_laws I (sign_reads s.Comma) {codes = behind_types} (λ a fits. under_type a) (apart refl) (λ x fits. apart refl)) y.type_list type_list_tokens after_types
      (parts_say type_list_tokens y.type_list (commas_agree A) (λ x fits. ap (λ l. type_tokens x.0 ++ l) (said_more x.1))) (λ x fits. inside refl)

  off_comma : (a : TypeNode) → Apart (after_type a) (these s.Comma)
  off_comma a = apart_smaller (under_type a) (apart refl)

  pub two_laws : Reads (two_types inner) (two_over p) type_first after_two false
  unfolding two_types
  two_laws = made_laws (both_laws I (both_laws (sign_reads s.Comma) I (λ place fits. apart refl)) (λ a fits. off_comma a)) y.pair_of_types type_list_tokens after_two
      (parts_say type_list_tokens y.pair_of_types (seq_agrees A (seq_agrees (sign_agrees s.Comma) A)) (λ x fits. simp append-nil)) (λ x fits. under_type x.1.1)

  pub type_arguments_laws : Reads (type_arguments (types inner)) (y.type_arguments (y.types p)) (these s.Less) after_arguments true
  type_arguments_laws = arguments_laws types_laws (types_agree A) (λ x fits. apart refl)

  pub two_arguments_laws : Reads (type_arguments (two_types inner)) (y.type_arguments (two_over p)) (these s.Less) after_arguments true
  two_arguments_laws = arguments_laws two_laws (two_types_agree A) (λ x fits. apart refl)

  result_laws : Reads (result inner) (y.result_over p) (word_code w.Void ∷ type_first) after_result false
  unfolding result
  result_laws = by_first_laws (made_laws (word_reads w.Void) void_result result_tokens after_result (λ x fits. refl) (λ x fits. within_self []))
      (made_laws I typed_result result_tokens after_result (λ x fits. sym (A.spells x)) (λ x fits. within_self (after_type x))) (apart refl)

  named_inside : (x : Identifier × (Option DotName × TypeArguments)) → Within (after_blank nowhere (after_blank (after_option (these s.Dot) nowhere) after_arguments no_arguments) (λ y. true) x) (after_type (named_type x.0 x.1.0 x.1.1))
  named_inside (name, (None, no_types)) = inside refl
  named_inside (name, (Some member, no_types)) = inside refl
  named_inside (name, (None, listed_types opening listed closing)) = inside refl
  named_inside (name, (Some member, listed_types opening listed closing)) = inside refl

  type_over_laws : Reads (type_over inner) (y.type_over p) type_first after_type false
  unfolding type_over
  type_over_laws = by_first_laws (made_laws (word_reads w.Dynamic) dynamic_type type_tokens after_type (λ x fits. refl) (λ x fits. within_self []))
      (made_laws (both_blank_laws identifier_reads (both_blank_laws (option_laws dot_name_reads) type_arguments_laws no_arguments (λ x fits e. are_blank x e) (λ x fits. behind_member x)) (λ x. true) (λ x fits e. refl) (λ x fits. apart_none _))
      (λ x. named_type x.0 x.1.0 x.1.1) type_tokens after_type (λ x fits. refl) (λ x fits. named_inside x)) (apart refl)

-- ---- of every depth

type_laws : (n : ℕ) → Reads (type_reader n) (y.type_within n) type_first after_type false
unfolding type_reader y.type_within
type_laws zero = nothing_laws type_tokens type_first after_type false
type_laws (suc n) = type_over_laws (type_laws n) (types_within_agree n)

pub types_read_at : (n : ℕ) → TypesReadAt n
types_read_at n = record {
  type = type_laws n;
  list = types_laws (type_laws n) (types_within_agree n);
  two = two_laws (type_laws n) (types_within_agree n);
  arguments = type_arguments_laws (type_laws n) (types_within_agree n);
  two_arguments = two_arguments_laws (type_laws n) (types_within_agree n);
  result = result_laws (type_laws n) (types_within_agree n);
}
