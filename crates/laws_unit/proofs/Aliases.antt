-- The law of aliases, over metadata, types and parameters (ECMA-408, 19.3.1 Typedef).
use Rattle.std.proofs.Common.{◌≡◌, ℕ, false, List, [], ◌∷◌, ◌++◌, Option, None, Some, inl, inr, refl, sym, ap, ◌∙◌, subst}
use Rattle.dart_base.specs.declared.place.Place.{Place}
use Rattle.dart_token.specs.declared.token.Token.{Token}
use Rattle.dart_token.specs.declared.sign.Sign.TheVariants as s
use Rattle.dart_token.specs.declared.word.Word.TheVariants as w
use Rattle.dart_tree.specs.declared.identifier.Identifier.{Identifier}
use Rattle.dart_tree.specs.LeafTokens.{result_tokens, maybe_result}
use Rattle.dart_tree.specs.Types.{ResultType, void_result, typed_result}
use Rattle.dart_tree.specs.Tree.{Parameters}
use Rattle.dart_tree.specs.Unit.{TypeParameters, Alias}
use Rattle.dart_tree.specs.UnitTokens.{alias_tokens}
use Rattle.grammar_laws.specs.Codes.{nowhere}
use Rattle.grammar_laws.specs.Readers.{Reader, mapped, both, option}
use Rattle.grammar_laws.specs.Fronts.{Either, FirstFit, option_spelling}
use Rattle.grammar_laws.specs.Laws.{Laws}
use Rattle.grammar_laws.proofs.Codes.{apart, apart_none, inside, within_self, within_none}
use Rattle.grammar_laws.proofs.Restated.{made_laws, restated}
use Rattle.grammar_laws.proofs.Combined.{both_laws, both_any_laws}
use Rattle.grammar_laws.proofs.Followed.{option_plain_laws}
use Rattle.grammar_laws.proofs.Chosen.{by_first_laws}
use Rattle.grammar_laws.proofs.Tried.{tried_laws}
use Rattle.dart_syntax.specs.Phrases.{Phrase, ◌~◌, opt}
use Rattle.dart_syntax.specs.Agreement.{StmtsAgree}
use Rattle.dart_syntax.specs.Leaves as l
use Rattle.dart_syntax.specs.Types as y
use Rattle.dart_syntax.specs.Statements.{StmtNodes, within}
use Rattle.dart_syntax.specs.Declarations as c
use Rattle.dart_syntax.proofs.AgreeingStages.{within_agrees}
use Rattle.token_codes.specs.Codes.{class_of, plain_names, word_code, these, this_word}
use Rattle.token_codes.specs.Leaves.{sign, word, plain_identifier}
use Rattle.token_codes.specs.Reads.{Reads}
use Rattle.token_codes.proofs.Leaves.{sign_reads, word_reads}
use Rattle.syntax_readers.specs.Combinators.{always_gives}
use Rattle.syntax_readers.specs.Types.{type_first, result}
use Rattle.syntax_readers.specs.Primaries.{ExprReaders}
use Rattle.syntax_readers.specs.Statements.{stage}
use Rattle.syntax_readers.specs.Declarations as r
use Rattle.laws_unit.specs.Statements.{behind_type, TypeReads, HeadPartsReadAt, ParametersReadAt, alias_with, some_result, no_result, AliasesApartAt, AliasReadAt}
use Rattle.laws_unit.proofs.Names.{plain_identifier_reads}
use Rattle.laws_unit.proofs.Given.{given_laws}
use Rattle.laws_unit.proofs.Heads.{type_parameters_laws}

pub result_laws : (here : ExprReaders) (nodes : StmtNodes) → StmtsAgree nodes → TypeReads here nodes → Reads (result here.type) (y.result_over nodes.expr_nodes.type) (word_code w.Void ∷ type_first) (λ x. behind_type) false
unfolding result
result_laws here nodes A T = by_first_laws (made_laws (word_reads w.Void) void_result result_tokens (λ x. behind_type) (λ x fits. refl) (λ x fits. within_none behind_type))
    (made_laws T typed_result result_tokens (λ x. behind_type) (λ x fits. sym (A.expr_nodes.type.spells x)) (λ x fits. within_self behind_type)) (apart refl)

abbrev Parts : Type 0
Parts = Place × (Option ResultType × (Identifier × (Option TypeParameters × (Parameters × Place))))

abbrev to_alias : Parts → Alias
to_alias x = record {
  word = x.0;
  result_type = x.1.0;
  name = x.1.1.0;
  type_parameters = x.1.1.1.0;
  parameters = x.1.1.1.1.0;
  semicolon = x.1.1.1.1.1;
}

said_result : (x : Option ResultType) → maybe_result x ≡ option_spelling result_tokens x
said_result None = refl
said_result (Some x) = refl

module _ (n : ℕ) (H : HeadPartsReadAt n) (P : ParametersReadAt n) where
  abbrev nodes : StmtNodes
  nodes = (within n).nodes

  abbrev here : ExprReaders
  here = (stage n).nodes.exprs

  abbrev A : StmtsAgree nodes
  A = (within_agrees n).nodes

  abbrev Tail : Type 0
  Tail = Identifier × (Option TypeParameters × (Parameters × Place))

  abbrev tail : Phrase Tail
  tail = l.plain_identifier ~ opt (c.type_parameters_over nodes) ~ nodes.expr_nodes.parameters ~ l.sign s.Semicolon

  tail_laws : Reads (both plain_identifier (both (option class_of (these s.Less) (r.type_parameters here)) (both here.parameters (sign s.Semicolon)))) tail plain_names nowhere false
  tail_laws = both_laws plain_identifier_reads (both_any_laws (option_plain_laws (type_parameters_laws here nodes A H.type H.metadata) {codes = these s.Less} (within_self (these s.Less)) (λ x fits. within_none (these s.Less)))
      (both_laws P (sign_reads s.Semicolon) (λ x fits. apart_none (these s.Semicolon))) (λ x fits. apart refl)) (λ x fits. apart_none _)

  alias_said : (x : Parts) → alias_tokens (to_alias x) ≡ (l.word w.Typedef).spelling x.0 ++ (option_spelling result_tokens x.1.0 ++ tail.spelling x.1.1)
  alias_said x = rw (said_result x.1.0, A.expr_nodes.parameters.spells x.1.1.1.1.0) refl

  abbrev reader_with : Reader Token (Option ResultType) → Reader Token Alias
  reader_with read = mapped to_alias (both (word w.Typedef) (both read (both plain_identifier (both (option class_of (these s.Less) (r.type_parameters here)) (both here.parameters (sign s.Semicolon))))))

  typed_laws : Reads (reader_with (mapped (λ x. Some x) (result here.type))) (alias_with n (some_result n)) (this_word w.Typedef) nowhere false
  typed_laws = made_laws (both_laws (word_reads w.Typedef) (both_laws (made_laws (result_laws here nodes A H.type) (λ x. Some x) (option_spelling result_tokens) (λ x. behind_type) (λ x fits. refl) (λ x fits. within_self behind_type)) tail_laws (λ x fits. apart refl)) (λ x fits. apart_none _))
      to_alias alias_tokens nowhere (λ x fits. alias_said x) (λ x fits. within_none [])

  bare_laws : Reads (reader_with (always_gives None)) (alias_with n no_result) (this_word w.Typedef) nowhere false
  bare_laws = made_laws (both_laws (word_reads w.Typedef) (both_any_laws (given_laws (option_spelling result_tokens) None refl) tail_laws (λ x fits. apart_none plain_names)) (λ x fits. apart_none _))
      to_alias alias_tokens nowhere (λ x fits. alias_said x) (λ x fits. within_none [])

  abbrev Whole : Phrase Alias
  Whole = c.alias_over nodes

  module _ (D : AliasesApartAt n) where
    abbrev Typed : Phrase Alias
    Typed = alias_with n (some_result n)

    abbrev Bare : Phrase Alias
    Bare = alias_with n no_result

    both_laws_of : Laws class_of (r.alias here) alias_tokens (FirstFit alias_tokens Typed.Fits Bare.Fits) (Either Typed.front Bare.front) (this_word w.Typedef ++ this_word w.Typedef) nowhere false
    unfolding r.alias r.alias_over
    both_laws_of = tried_laws typed_laws bare_laws D.over_typed D.over_bare

    forth : (a : Alias) → FirstFit alias_tokens Typed.Fits Bare.Fits a → Whole.Fits a
    forth a (inl ((word, (out, rest)), fits, e)) = ((word, (out, rest)), (fits.0, (opened out fits.1.0, fits.1.1)), e) where
      opened : (x : Option ResultType) → (some_result n).Fits x → (opt (y.result_over nodes.expr_nodes.type)).Fits x
      opened x (of, own, is) = subst (opt (y.result_over nodes.expr_nodes.type)).Fits is own
    forth a (inr (((word, (out, rest)), fits, e), alone)) = ((word, (out, rest)), (fits.0, (subst (opt (y.result_over nodes.expr_nodes.type)).Fits (sym fits.1.0) tt, fits.1.1)), e)

    back : (a : Alias) → Whole.Fits a → FirstFit alias_tokens Typed.Fits Bare.Fits a
    back a ((word, (None, rest)), fits, e) = let bare : Bare.Fits a = ((word, (None, rest)), (fits.0, (refl, fits.1.1)), e) in inr (bare, λ b own same. D.never_both b a own bare same)
    back a ((word, (Some x, rest)), fits, e) = inl ((word, (Some x, rest)), (fits.0, ((x, fits.1.0, refl), fits.1.1)), e)

    out : (ts : List Token) → Either Typed.front Bare.front ts → Whole.front ts
    out ts (inl (inl f)) = inl f
    out ts (inl (inr (word, more, a, b, e, inl f))) = inr (word, more, a, b, e, inl f)
    out ts (inl (inr (word, more, a, b, e, inr (x, rest, (of, own, is), go, so, f)))) = inr (word, more, a, b, e, inr (Some of, rest, own, go, so ∙ ap (λ (z : Option ResultType). option_spelling result_tokens z ++ rest) (sym is), f))
    out ts (inr (inl f)) = inl f
    out ts (inr (inr (word, more, a, b, e, inl f))) = inr (word, more, a, b, e, inr (None, more, tt, refl, refl, subst tail.front (sym f) tail_laws.none))
    out ts (inr (inr (word, more, a, b, e, inr (x, rest, is, go, so, f)))) = inr (word, more, a, b, e, inr (None, rest, tt, refl, so ∙ ap (λ (z : Option ResultType). option_spelling result_tokens z ++ rest) is, f))

    into : (ts : List Token) → Whole.front ts → Either Typed.front Bare.front ts
    into ts (inl f) = inl (inl f)
    into ts (inr (word, more, a, b, e, inl f)) = inl (inr (word, more, a, b, e, inl f))
    into ts (inr (word, more, a, b, e, inr (None, rest, own, go, so, f))) = inr (inr (word, more, a, b, e, inr (None, rest, refl, go, so, f)))
    into ts (inr (word, more, a, b, e, inr (Some x, rest, own, go, so, f))) = inl (inr (word, more, a, b, e, inr (Some x, rest, (x, own, refl), go, so, f)))

    pub alias_laws : AliasReadAt n
    alias_laws = restated both_laws_of forth back out into (inside refl) (λ x fits. within_none []) (λ h. h)

pub aliases_at : (n : ℕ) → HeadPartsReadAt n → ParametersReadAt n → AliasesApartAt n → AliasReadAt n
aliases_at n H P D = alias_laws n H P D
