-- The laws of functions, accessors and variables as members, behind `external` or without it (ECMA-408, 8 Variables, 9 Functions, 10.2 Getters,
-- 10.3 Setters).
use Rattle.std.proofs.Common.{ℕ, suc, false, true, List, [], ◌∷◌, ◌++◌, Option, None, inl, inr, refl, sym}
use Rattle.dart_base.specs.declared.place.Place.{Place}
use Rattle.dart_token.specs.declared.token.Token.{Token}
use Rattle.dart_token.specs.declared.word.Word.TheVariants as w
use Rattle.dart_tree.specs.Unit as d
use Rattle.dart_tree.specs.Unit.{MemberKind}
use Rattle.dart_tree.specs.UnitTokens.{member_kind_tokens}
use Rattle.grammar_laws.specs.Codes.{Apart, Within, nowhere}
use Rattle.grammar_laws.specs.Readers.{Reader, mapped, starts}
use Rattle.grammar_laws.specs.Fronts.{FirstFit, option_spelling}
use Rattle.grammar_laws.proofs.Codes.{apart, inside, within_self, within_none}
use Rattle.grammar_laws.proofs.Restated.{made_laws, restated, reread}
use Rattle.grammar_laws.proofs.Tried.{tried_laws}
use Rattle.dart_syntax.specs.Phrases.{Phrase, ◌<|>◌}
use Rattle.dart_syntax.specs.Agreement.{Agrees}
use Rattle.dart_syntax.specs.Leaves.{word_tokens}
use Rattle.dart_syntax.specs.Statements.{within}
use Rattle.dart_syntax.specs.Declarations as c
use Rattle.dart_syntax.proofs.Agreeing.{exactly_agrees}
use Rattle.dart_syntax.proofs.AgreeingStages.{within_agrees}
use Rattle.token_codes.specs.Codes.{class_of, word_code, this_word}
use Rattle.token_codes.specs.Reads.{Reads}
use Rattle.syntax_readers.specs.Combinators.{always_gives}
use Rattle.syntax_readers.specs.Types.{type_first}
use Rattle.syntax_readers.specs.Statements.{stage}
use Rattle.syntax_readers.specs.Declarations as r
use Rattle.laws_unit.specs.Statements.{TypeReads, TypesGoAt, declared_first, callable_first, variable_first, MemberPartsReadAt}
use Rattle.laws_unit.proofs.Given.{given_laws}
use Rattle.laws_unit.proofs.DeclKinds.{led}
use Rattle.laws_unit.proofs.Members.{external_reads}
use Rattle.laws_unit.proofs.Callables.{callable_laws, external_agrees}
use Rattle.laws_unit.proofs.Choices.{ChoiceOf}

abbrev leads : List ℕ
leads = word_code w.Var ∷ word_code w.Final ∷ word_code w.Const ∷ []

abbrev pub result_first : List ℕ
result_first = word_code w.Void ∷ type_first

module _ (n : ℕ) (D : MemberPartsReadAt n) (T : TypeReads (stage n).nodes.exprs (within n).nodes) (G : TypesGoAt n)
    (V : Reads (stage (suc n)).nodes.variables (within (suc n)).nodes.variables variable_first nowhere false) where
  abbrev variables_reader : Reader Token MemberKind
  variables_reader = mapped d.variables_member (stage (suc n)).nodes.variables

  pub variables_laws : Reads variables_reader (c.variables_within (suc n)) variable_first nowhere false
  variables_laws = made_laws V d.variables_member member_kind_tokens nowhere (λ x fits. sym ((within_agrees (suc n)).nodes.variables.spells x)) (λ x fits. within_none [])

  -- what stands before them is read by `read_e`
  module _ (read_e : Reader Token (Option Place)) (e : Phrase (Option Place)) (first_e : List ℕ) (E : Reads read_e e first_e (λ x. first_e) true) (S : Agrees (option_spelling (word_tokens w.External)) e)
      (off_result : Apart first_e result_first) (off_name : Apart first_e declared_first) (C : ChoiceOf (suc n) e)
      (first : List ℕ) (all : Within ((first_e ++ result_first) ++ (first_e ++ declared_first)) first) (off_leads : Apart leads first) where
    callable_of : Reads (r.callable (suc n) read_e) (c.callable_within (suc n) e) first nowhere false
    unfolding r.callable
    callable_of = callable_laws n D T G read_e e first_e E S off_result off_name member_kind_tokens d.accessor_member d.function_member (λ x. refl) (λ x. refl)
        C.over_accessor C.over_function C.never_two first all

    abbrev Either_of : Phrase MemberKind
    Either_of = c.callable_within (suc n) e <|> c.variables_within (suc n)

    forth : (a : MemberKind) → FirstFit member_kind_tokens (c.callable_within (suc n) e).Fits (c.variables_within (suc n)).Fits a → Either_of.Fits a
    forth a (inl f) = inl f
    forth a (inr f) = inr f.0

    back : (a : MemberKind) → Either_of.Fits a → FirstFit member_kind_tokens (c.callable_within (suc n) e).Fits (c.variables_within (suc n)).Fits a
    back a (inl f) = inl f
    back a (inr f) = inr (f, λ b own same. C.never_both b a own f same)

    kinds_of : Reads (r.callable_or_variables (suc n) read_e) Either_of (first ++ variable_first) nowhere false
    unfolding r.callable_or_variables
    kinds_of = restated (reread (tried_laws callable_of variables_laws C.over_callable C.over_variables) (λ ts. led callable_of variables_laws leads off_leads ts (starts class_of leads ts) refl))
        forth back (λ ts f. f) (λ ts f. f) (within_self (first ++ variable_first)) (λ a fits. within_none []) (λ h. h)

  -- ---- with `external` or none

  module _ (C : ChoiceOf (suc n) c.external_or_none) where
    pub plain_kinds : Reads (r.callable_or_variables (suc n) r.external_or_none) (c.callable_within (suc n) c.external_or_none <|> c.variables_within (suc n)) (callable_first ++ variable_first) nowhere false
    plain_kinds = kinds_of r.external_or_none c.external_or_none (this_word w.External) external_reads external_agrees (apart refl) (apart refl) C callable_first (inside refl) (apart refl)

  -- ---- without

  no_external : Reads (always_gives None) c.without_external [] (λ x. []) true
  no_external = given_laws (option_spelling (word_tokens w.External)) None refl

  no_external_agrees : Agrees (option_spelling (word_tokens w.External)) c.without_external
  no_external_agrees = exactly_agrees (option_spelling (word_tokens w.External)) c.external_or_none.spelling None (λ x. refl) refl

  module _ (C : ChoiceOf (suc n) c.without_external) where
    pub static_callable : Reads (r.callable (suc n) (always_gives None)) (c.callable_within (suc n) c.without_external) result_first nowhere false
    static_callable = callable_of (always_gives None) c.without_external [] no_external no_external_agrees (apart refl) (apart refl) C result_first (inside refl) (apart refl)

    pub static_kinds : Reads (r.callable_or_variables (suc n) (always_gives None)) (c.callable_within (suc n) c.without_external <|> c.variables_within (suc n)) (result_first ++ variable_first) nowhere false
    static_kinds = kinds_of (always_gives None) c.without_external [] no_external no_external_agrees (apart refl) (apart refl) C result_first (inside refl) (apart refl)
