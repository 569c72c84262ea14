-- The laws of redirecting factories, and of factories of both kinds, which are both tried (ECMA-408, 10.6.2 Factories).
use Rattle.std.proofs.Common.{◌≡◌, ℕ, false, List, [], ◌∷◌, ◌++◌, Option, inl, inr, refl, sym, ap, ◌∙◌, subst}
use Rattle.std.proofs.lemmas.List.{append-nil}
use Rattle.dart_base.specs.declared.place.Place.{Place}
use Rattle.dart_token.specs.declared.token.Token.{Token}
use Rattle.dart_token.specs.declared.sign.Sign.TheVariants as s
use Rattle.dart_token.specs.declared.word.Word.TheVariants as w
use Rattle.dart_tree.specs.declared.declaration.ConstructorName.{ConstructorName}
use Rattle.dart_tree.specs.Tree.{Body, Parameters}
use Rattle.dart_tree.specs.Unit as d
use Rattle.dart_tree.specs.Unit.{Constructor}
use Rattle.dart_tree.specs.UnitTokens.{constructor_tokens}
use Rattle.grammar_laws.specs.Codes.{nowhere}
use Rattle.grammar_laws.specs.Readers.{both, option, tried}
use Rattle.grammar_laws.specs.Fronts.{FirstFit}
use Rattle.grammar_laws.proofs.Codes.{apart, apart_none, inside, within_none}
use Rattle.grammar_laws.proofs.Restated.{made_laws, restated}
use Rattle.grammar_laws.proofs.Combined.{both_laws, both_any_laws}
use Rattle.grammar_laws.proofs.Tried.{tried_laws}
use Rattle.dart_syntax.specs.Phrases.{Phrase, ◌~◌, opt, such}
use Rattle.dart_syntax.specs.Agreement.{StmtsAgree}
use Rattle.dart_syntax.specs.Leaves as l
use Rattle.dart_syntax.specs.Statements as p
use Rattle.dart_syntax.specs.Statements.{StmtNodes, within}
use Rattle.dart_syntax.specs.Declarations as c
use Rattle.dart_syntax.specs.Declarations.{target_takes_names}
use Rattle.dart_syntax.proofs.Agreeing.{parts_say, seq_agrees, opt_agrees, such_agrees}
use Rattle.dart_syntax.proofs.AgreeingTypes.{sign_agrees, word_agrees, dot_name_agrees}
use Rattle.dart_syntax.proofs.AgreeingStages.{within_agrees}
use Rattle.dart_syntax.proofs.AgreeingStatements.{said_word, body_agrees}
use Rattle.token_codes.specs.Codes.{class_of, plain_names, these, this_word}
use Rattle.token_codes.specs.Leaves.{sign, word, dot_name}
use Rattle.token_codes.specs.Reads.{Reads}
use Rattle.token_codes.proofs.Leaves.{sign_reads, word_reads}
use Rattle.syntax_readers.specs.Types.{type_first}
use Rattle.syntax_readers.specs.Primaries.{ExprReaders}
use Rattle.syntax_readers.specs.Parameters as q
use Rattle.syntax_readers.specs.Statements.{stage}
use Rattle.syntax_readers.specs.Declarations as r
use Rattle.laws_unit.specs.Statements.{MemberPartsReadAt, factory_phrase}
use Rattle.laws_unit.specs.Members.{TypeReadAt, redirecting_factory_phrase, factory_first, FactoriesReadAt}
use Rattle.laws_unit.proofs.Forking.{NeverBegins, by_firsts, forked}
use Rattle.laws_unit.proofs.Targets.{Target, names_dot, target_laws}
use Rattle.laws_unit.proofs.Members.{to_factory, external_laws, constructor_name_laws, constructor_name_agrees, factory_laws}

abbrev to_redirecting_factory : Option Place × (Place × (ConstructorName × (Parameters × (Place × Target)))) → Constructor
to_redirecting_factory x = d.redirecting_factory x.0 x.1.0 x.1.1.0 x.1.1.1.0 x.1.1.1.1.0 x.1.1.1.1.1.0 x.1.1.1.1.1.1.0 x.1.1.1.1.1.1.1

module _ (n : ℕ) (D : MemberPartsReadAt n) (T : TypeReadAt n) (class : List ℕ) where
  abbrev nodes : StmtNodes
  nodes = (within n).nodes

  abbrev here : ExprReaders
  here = (stage n).nodes.exprs

  abbrev A : StmtsAgree nodes
  A = (within_agrees n).nodes

  -- ---- behind the parameters of both, and from the name and from `factory` on

  abbrev target : Phrase Target
  target = such target_takes_names (nodes.expr_nodes.type ~ opt l.dot_name ~ l.sign s.Semicolon)

  abbrev assigned : Phrase (Place × Target)
  assigned = l.sign s.Assign ~ target

  assigned_laws : Reads (both (sign s.Assign) (both here.type (both (option class_of (these s.Dot) dot_name) (sign s.Semicolon)))) assigned (these s.Assign) nowhere false
  assigned_laws = both_laws (sign_reads s.Assign) (target_laws T A.expr_nodes.type (names_dot n)) (λ place fits. apart_none type_first)

  abbrev bodied : Phrase (Parameters × Body)
  bodied = nodes.expr_nodes.parameters ~ p.body_of nodes.expr_nodes

  bodied_laws : Reads (both here.parameters (q.body here)) bodied (these s.LeftParenthesis) nowhere false
  bodied_laws = both_laws D.parameters D.body (λ x fits. apart_none _)

  abbrev redirected : Phrase (Parameters × (Place × Target))
  redirected = nodes.expr_nodes.parameters ~ assigned

  redirected_laws : Reads (both here.parameters (both (sign s.Assign) (both here.type (both (option class_of (these s.Dot) dot_name) (sign s.Semicolon))))) redirected (these s.LeftParenthesis) nowhere false
  redirected_laws = both_laws D.parameters assigned_laws (λ x fits. apart_none (these s.Assign))

  abbrev named_body : Phrase (ConstructorName × (Parameters × Body))
  named_body = c.constructor_name_over nodes class ~ bodied

  named_body_laws : Reads (both (r.constructor_name class) (both here.parameters (q.body here))) named_body plain_names nowhere false
  named_body_laws = both_laws (constructor_name_laws nodes class) bodied_laws (λ x fits. apart refl)

  abbrev named_target : Phrase (ConstructorName × (Parameters × (Place × Target)))
  named_target = c.constructor_name_over nodes class ~ redirected

  named_target_laws : Reads (both (r.constructor_name class) (both here.parameters (both (sign s.Assign) (both here.type (both (option class_of (these s.Dot) dot_name) (sign s.Semicolon)))))) named_target plain_names nowhere false
  named_target_laws = both_laws (constructor_name_laws nodes class) redirected_laws (λ x fits. apart refl)

  abbrev factory_body : Phrase (Place × (ConstructorName × (Parameters × Body)))
  factory_body = l.word w.Factory ~ named_body

  factory_body_laws : Reads (both (word w.Factory) (both (r.constructor_name class) (both here.parameters (q.body here)))) factory_body (this_word w.Factory) nowhere false
  factory_body_laws = both_laws (word_reads w.Factory) named_body_laws (λ place fits. apart_none plain_names)

  abbrev factory_target : Phrase (Place × (ConstructorName × (Parameters × (Place × Target))))
  factory_target = l.word w.Factory ~ named_target

  factory_target_laws : Reads (both (word w.Factory) (both (r.constructor_name class) (both here.parameters (both (sign s.Assign) (both here.type (both (option class_of (these s.Dot) dot_name) (sign s.Semicolon))))))) factory_target (this_word w.Factory) nowhere false
  factory_target_laws = both_laws (word_reads w.Factory) named_target_laws (λ place fits. apart_none plain_names)

  -- ---- redirecting factories

  abbrev whole_target : Phrase (Option Place × (Place × (ConstructorName × (Parameters × (Place × Target)))))
  whole_target = opt (l.word w.External) ~ factory_target

  redirecting_factory_said : (x : Option Place × (Place × (ConstructorName × (Parameters × (Place × Target))))) → whole_target.Fits x → constructor_tokens (to_redirecting_factory x) ≡ whole_target.spelling x
  redirecting_factory_said = parts_say constructor_tokens to_redirecting_factory (seq_agrees (opt_agrees (word_agrees w.External)) (seq_agrees (word_agrees w.Factory) (seq_agrees (constructor_name_agrees n D class) (seq_agrees A.expr_nodes.parameters (seq_agrees (sign_agrees s.Assign)
      (such_agrees target_takes_names (seq_agrees A.expr_nodes.type (seq_agrees (opt_agrees dot_name_agrees) (sign_agrees s.Semicolon))))))))) (λ x fits. simp said_word)

  pub redirecting_factory_laws : Reads (r.redirecting_factory here class) (redirecting_factory_phrase n class) factory_first nowhere false
  unfolding r.redirecting_factory
  redirecting_factory_laws = made_laws (both_any_laws (external_laws n D) factory_target_laws (λ x fits. apart refl)) to_redirecting_factory constructor_tokens nowhere redirecting_factory_said (λ x fits. within_none [])

  -- ---- none of the one kind begins the other: behind the parameters stands a body, or `=`

  abbrev whole_body : Phrase (Option Place × (Place × (ConstructorName × (Parameters × Body))))
  whole_body = opt (l.word w.External) ~ factory_body

  factory_said : (x : Option Place × (Place × (ConstructorName × (Parameters × Body)))) → whole_body.Fits x → constructor_tokens (to_factory x) ≡ whole_body.spelling x
  factory_said = parts_say constructor_tokens to_factory (seq_agrees (opt_agrees (word_agrees w.External)) (seq_agrees (word_agrees w.Factory) (seq_agrees (constructor_name_agrees n D class) (seq_agrees A.expr_nodes.parameters (body_agrees A.expr_nodes))))) (λ x fits. simp said_word)

  no_target : NeverBegins whole_body.spelling whole_body.Fits whole_target.front
  no_target = forked factory_body_laws factory_target_laws (external_laws n D) (λ x fits. apart refl) (λ x fits. apart refl)
      (forked named_body_laws named_target_laws (word_reads w.Factory) (λ place fits. apart_none plain_names) (λ place fits. apart_none plain_names)
      (forked bodied_laws redirected_laws (constructor_name_laws nodes class) (λ x fits. apart refl) (λ x fits. apart refl)
      (forked D.body assigned_laws D.parameters (λ x fits. apart_none _) (λ x fits. apart_none (these s.Assign))
      (by_firsts D.body assigned_laws (apart refl)))))

  no_body : NeverBegins whole_target.spelling whole_target.Fits whole_body.front
  no_body = forked factory_target_laws factory_body_laws (external_laws n D) (λ x fits. apart refl) (λ x fits. apart refl)
      (forked named_target_laws named_body_laws (word_reads w.Factory) (λ place fits. apart_none plain_names) (λ place fits. apart_none plain_names)
      (forked redirected_laws bodied_laws (constructor_name_laws nodes class) (λ x fits. apart refl) (λ x fits. apart refl)
      (forked assigned_laws D.body D.parameters (λ x fits. apart_none (these s.Assign)) (λ x fits. apart_none _)
      (by_firsts assigned_laws D.body (apart refl)))))

  abbrev Plain : Phrase Constructor
  Plain = factory_phrase n class

  abbrev Redirecting : Phrase Constructor
  Redirecting = redirecting_factory_phrase n class

  over_plain : (a : Constructor) (t : Token) (ts : List Token) → Plain.Fits a → Redirecting.front (constructor_tokens a ++ t ∷ ts) → ⊥
  over_plain a t ts (x, fits, is) f = no_target x (t ∷ ts) fits (subst whole_target.front (ap (λ (m : List Token). m ++ t ∷ ts) (ap constructor_tokens (sym is) ∙ factory_said x fits)) f)

  over_redirecting : (a : Constructor) (t : Token) (ts : List Token) → Redirecting.Fits a → Plain.front (constructor_tokens a ++ t ∷ ts) → ⊥
  over_redirecting a t ts (x, fits, is) f = no_body x (t ∷ ts) fits (subst whole_body.front (ap (λ (m : List Token). m ++ t ∷ ts) (ap constructor_tokens (sym is) ∙ redirecting_factory_said x fits)) f)

  never_both : (a b : Constructor) → Plain.Fits a → Redirecting.Fits b → constructor_tokens a ≡ constructor_tokens b → ⊥
  never_both a b (x, fits, is) own e =
      no_target x [] fits (subst whole_target.front (sym e ∙ ap constructor_tokens (sym is) ∙ factory_said x fits ∙ sym (append-nil (whole_body.spelling x))) (redirecting_factory_laws.whole b own))

  -- ---- both

  forth : (a : Constructor) → FirstFit constructor_tokens Plain.Fits Redirecting.Fits a → (c.factory_over nodes (c.init_within n) class).Fits a
  forth a (inl f) = inl f
  forth a (inr f) = inr f.0

  back : (a : Constructor) → (c.factory_over nodes (c.init_within n) class).Fits a → FirstFit constructor_tokens Plain.Fits Redirecting.Fits a
  back a (inl f) = inl f
  back a (inr f) = inr (f, λ b own e. never_both b a own f e)

  pub any_factory_laws : Reads (tried (r.factory here class) (r.redirecting_factory here class)) (c.factory_over nodes (c.init_within n) class) factory_first nowhere false
  any_factory_laws = restated (tried_laws (factory_laws n D class) redirecting_factory_laws over_plain over_redirecting) forth back (λ ts f. f) (λ ts f. f) (inside refl) (λ a fits. within_none []) (λ e. e)

pub factories_at : (n : ℕ) → MemberPartsReadAt n → TypeReadAt n → FactoriesReadAt n
factories_at n D T = record { redirecting_factory = λ class. redirecting_factory_laws n D T class; any_factory = λ class. any_factory_laws n D T class }
