-- Types agree with their tokens, at every depth.
use Rattle.std.proofs.Common.{◌≡◌, ℕ, zero, suc, List, [], ◌∷◌, ◌++◌, Option, None, Some, refl, ap, flat_map}
use Rattle.std.proofs.lemmas.List.{append-nil}
use Rattle.grammar_laws.specs.Fronts.{both_spelling, option_spelling}
use Rattle.dart_base.specs.declared.place.Place.{Place}
use Rattle.dart_token.specs.declared.token.Token.{Token}
use Rattle.dart_token.specs.declared.sign.Sign.{Sign}
use Rattle.dart_token.specs.declared.sign.Sign.TheVariants as s
use Rattle.dart_token.specs.declared.word.Word.{Word}
use Rattle.dart_token.specs.declared.word.Word.TheVariants as w
use Rattle.dart_tree.specs.declared.identifier.Identifier.{Identifier}
use Rattle.dart_tree.specs.declared.identifier.Identifier.TheVariants as i
use Rattle.dart_tree.specs.LeafTokens.{sign_at, identifier_tokens, dot_name_tokens, type_tokens, type_arguments_tokens, type_list_tokens, result_tokens, kind_tokens}
use Rattle.dart_tree.specs.Types.{TypeNode, TypeList, type_more, no_more_types, dynamic_type, void_result, typed_result, var_kind, final_kind, typed_kind}
use Rattle.dart_syntax.specs.Phrases.{Phrase, made, seq}
use Rattle.dart_syntax.specs.Leaves.{sign, sign_tokens, word, word_tokens, named, named_tokens, identifier, creation, creation_tokens, dot_name, commas}
use Rattle.dart_syntax.specs.Types.{more_types, type_list, in_angles, types, type_arguments, type_over, type_within, result_over, kind_over, variables_kind_over, pair_of_types}
use Rattle.dart_syntax.specs.Agreement.{Agrees, TypesAgree}
use Rattle.dart_syntax.proofs.Agreeing.{Single, leaf_agrees, no_room_agrees, seq_agrees, opt_agrees, many_agrees, either_agrees, made_agrees}

-- ---- leaves

pub sign_agrees : (which : Sign) → Agrees (sign_tokens which) (sign which)
sign_agrees which = leaf_agrees (sign_tokens which) (λ p. (_, refl))

pub word_agrees : (which : Word) → Agrees (word_tokens which) (word which)
word_agrees which = leaf_agrees (word_tokens which) (λ p. (_, refl))

pub named_agrees : (text : List ℕ) → Agrees (named_tokens text) (named text)
named_agrees text = leaf_agrees (named_tokens text) (λ p. (_, refl))

pub one_name : (x : Identifier) → Single (identifier_tokens x)
one_name (i.Name place text) = (_, refl)
one_name (i.Get place) = (_, refl)
one_name (i.Set place) = (_, refl)

pub identifier_agrees : Agrees identifier_tokens identifier
identifier_agrees = leaf_agrees identifier_tokens one_name

pub creation_agrees : Agrees creation_tokens creation
creation_agrees = leaf_agrees creation_tokens (λ x. (_, refl))

pub dot_name_agrees : Agrees dot_name_tokens dot_name
dot_name_agrees = made_agrees dot_name_tokens _ (seq_agrees (sign_agrees s.Dot) identifier_agrees) (λ x fits. refl)

-- items with commas between them
abbrev pub commas_tokens : {A : Type 0} → (A → List Token) → A × List (Place × A) → List Token
commas_tokens f = both_spelling f (flat_map (both_spelling (sign_tokens s.Comma) f))

pub commas_agree : {A : Type 0} {f : A → List Token} {p : Phrase A} → Agrees f p → Agrees (commas_tokens f) (commas p)
commas_agree P = seq_agrees P (many_agrees (seq_agrees (sign_agrees s.Comma) P))

-- ---- types

pub said_more : (xs : List (Place × TypeNode)) → type_list_tokens (more_types xs) ≡ flat_map (both_spelling (sign_tokens s.Comma) type_tokens) xs
said_more [] = refl
said_more (x ∷ xs) = ap (λ l. sign_at x.0 s.Comma ∷ (type_tokens x.1 ++ l)) (said_more xs)

pub types_agree : {p : Phrase TypeNode} → Agrees type_tokens p → Agrees type_list_tokens (types p)
types_agree P = made_agrees type_list_tokens type_list (commas_agree P) (λ x fits. ap (λ l. type_tokens x.0 ++ l) (said_more x.1))

pub said_angles : (x : Option (Place × (TypeList × Place))) → type_arguments_tokens (in_angles x) ≡ option_spelling (both_spelling (sign_tokens s.Less) (both_spelling type_list_tokens (sign_tokens s.Greater))) x
said_angles None = refl
said_angles (Some x) = refl

pub type_arguments_agree : {p : Phrase TypeList} → Agrees type_list_tokens p → Agrees type_arguments_tokens (type_arguments p)
type_arguments_agree P = made_agrees type_arguments_tokens in_angles (opt_agrees (seq_agrees (sign_agrees s.Less) (seq_agrees P (sign_agrees s.Greater)))) (λ x fits. said_angles x)

-- one type, and two with a comma between them, as the type arguments of a literal are
pub one_type_agrees : {p : Phrase TypeNode} → Agrees type_tokens p → Agrees type_list_tokens (made type_list_tokens (λ x. type_more None x no_more_types) p)
one_type_agrees P = made_agrees type_list_tokens _ P (λ x fits. append-nil (type_tokens x))

pub two_types_agree : {p : Phrase TypeNode} → Agrees type_tokens p → Agrees type_list_tokens (made type_list_tokens pair_of_types (seq p (seq (sign s.Comma) p)))
two_types_agree P = made_agrees type_list_tokens pair_of_types (seq_agrees P (seq_agrees (sign_agrees s.Comma) P)) (λ x fits. simp append-nil)

type_agrees : {p : Phrase TypeNode} → Agrees type_tokens p → Agrees type_tokens (type_over p)
type_agrees P = either_agrees (made_agrees type_tokens dynamic_type (word_agrees w.Dynamic) (λ x fits. refl))
    (made_agrees type_tokens _ (seq_agrees identifier_agrees (seq_agrees (opt_agrees dot_name_agrees) (type_arguments_agree (types_agree P)))) (λ x fits. refl))

pub types_within_agree : (n : ℕ) → Agrees type_tokens (type_within n)
unfolding type_within
types_within_agree zero = no_room_agrees type_tokens
types_within_agree (suc n) = type_agrees (types_within_agree n)

pub result_agrees : {p : Phrase TypeNode} → Agrees type_tokens p → Agrees result_tokens (result_over p)
result_agrees P = either_agrees (made_agrees result_tokens void_result (word_agrees w.Void) (λ x fits. refl)) (made_agrees result_tokens typed_result P (λ x fits. refl))

pub kind_agrees : {p : Phrase TypeNode} → Agrees type_tokens p → Agrees kind_tokens (kind_over p)
kind_agrees P = either_agrees (made_agrees kind_tokens var_kind (word_agrees w.Var) (λ x fits. refl))
    (either_agrees (made_agrees kind_tokens (λ x. final_kind x.0 x.1) (seq_agrees (word_agrees w.Final) (opt_agrees P)) (λ x fits. refl))
    (made_agrees kind_tokens typed_kind P (λ x fits. refl)))

pub variables_kind_agrees : {p : Phrase TypeNode} → Agrees type_tokens p → Agrees kind_tokens (variables_kind_over p)
variables_kind_agrees P = either_agrees (kind_agrees P) (made_agrees kind_tokens _ (seq_agrees (word_agrees w.Const) (opt_agrees P)) (λ x fits. refl))

pub all_types_agree : (n : ℕ) → TypesAgree n
all_types_agree n = record {
  type = types_within_agree n;
  list = types_agree (types_within_agree n);
  arguments = type_arguments_agree (types_agree (types_within_agree n));
  result = result_agrees (types_within_agree n);
  kind = kind_agrees (types_within_agree n);
  variables_kind = variables_kind_agrees (types_within_agree n);
}
