-- The laws of what members are made of, over metadata, types, parameters, arguments, values and bodies (ECMA-408, 10 Classes).
use Rattle.std.proofs.Common.{◌≡◌, ℕ, zero, suc, true, false, List, [], ◌∷◌, ◌++◌, Option, None, Some, inl, inr, refl, sym, ap, ◌∙◌, append_assoc}
use Rattle.dart_base.specs.declared.place.Place.{Place}
use Rattle.dart_token.specs.declared.token.Token.{Token}
use Rattle.dart_token.specs.declared.sign.Sign.TheVariants as s
use Rattle.dart_token.specs.declared.word.Word.TheVariants as w
use Rattle.dart_tree.specs.declared.declaration.ConstructorName.{ConstructorName}
use Rattle.dart_tree.specs.declared.identifier.DotName.{DotName}
use Rattle.dart_tree.specs.declared.identifier.Identifier.{Identifier}
use Rattle.dart_tree.specs.declared.identifier.Identifier.TheVariants as i
use Rattle.dart_tree.specs.declared.parameter.ThisDot.{ThisDot}
use Rattle.dart_tree.specs.LeafTokens.{identifier_tokens, maybe_this}
use Rattle.dart_tree.specs.Types.{ResultType}
use Rattle.dart_tree.specs.Tree as t
use Rattle.dart_tree.specs.Tree.{Arguments, Body, Cascades, Function, Operand, Parameters}
use Rattle.dart_tree.specs.Tokens.{body_tokens, function_tokens}
use Rattle.dart_tree.specs.Unit as d
use Rattle.dart_tree.specs.Unit.{AccessorKind, InitKind, Initializers, Constructor}
use Rattle.dart_tree.specs.UnitTokens.{accessor_kind_tokens, constructor_name_tokens, init_kind_tokens, initializers_tokens, constructor_tokens}
use Rattle.grammar_laws.specs.Codes.{Apart, nowhere}
use Rattle.grammar_laws.specs.Fronts.{Either, EitherFit, option_spelling}
use Rattle.grammar_laws.specs.Laws.{Laws}
use Rattle.grammar_laws.proofs.Codes.{apart, apart_none, apart_union, inside, within_self, within_none, within_union, within_left, within_right}
use Rattle.grammar_laws.proofs.Restated.{made_laws, refit, wider}
use Rattle.grammar_laws.proofs.Combined.{both_laws, both_any_laws}
use Rattle.grammar_laws.proofs.Followed.{option_plain_laws}
use Rattle.grammar_laws.proofs.Separated.{separated_plain_laws}
use Rattle.grammar_laws.proofs.Chosen.{by_first_laws}
use Rattle.dart_syntax.specs.Phrases.{Phrase, ◌~◌, made, opt}
use Rattle.dart_syntax.specs.Agreement.{Agrees, StmtsAgree}
use Rattle.dart_syntax.specs.Leaves as l
use Rattle.dart_syntax.specs.Leaves.{this_dot_tokens, sign_tokens, commas}
use Rattle.dart_syntax.specs.Expressions.{to_cascades}
use Rattle.dart_syntax.specs.Statements as p
use Rattle.dart_syntax.specs.Statements.{StmtNodes, Within, within, the_function}
use Rattle.dart_syntax.specs.Declarations as c
use Rattle.dart_syntax.specs.Declarations.{to_inits, init_within}
use Rattle.dart_syntax.specs.Types.{result_leaves_name}
use Rattle.dart_syntax.proofs.Agreeing.{parts_say, made_agrees, seq_agrees, seq_if_agrees, opt_agrees}
use Rattle.dart_syntax.proofs.AgreeingTypes.{word_agrees, named_agrees, identifier_agrees, dot_name_agrees, result_agrees}
use Rattle.dart_syntax.proofs.AgreeingDeclarations.{said_inits}
use Rattle.dart_syntax.proofs.AgreeingStages.{within_agrees}
use Rattle.dart_syntax.proofs.AgreeingStatements.{said_word, body_agrees}
use Rattle.token_codes.specs.Codes.{class_of, names, plain_names, word_code, these, this_word}
use Rattle.token_codes.specs.Leaves.{this_dot}
use Rattle.token_codes.specs.Reads.{Reads}
use Rattle.token_codes.proofs.Leaves.{sign_reads, word_reads, identifier_reads, dot_name_reads}
use Rattle.syntax_readers.specs.Parameters as q
use Rattle.syntax_readers.specs.Statements.{stage}
use Rattle.syntax_readers.specs.Declarations as r
use Rattle.laws_unit.specs.Statements.{init_first, ValueReadAt, ArgumentsReadAt, ParametersReadAt, InitsReadAt, declared_first, MemberPartsReadAt, MemberKindsReadAt, factory_phrase, values_at}
use Rattle.laws_unit.proofs.Names.{named_reads}
use Rattle.laws_unit.proofs.Operators.{operator_name_laws}

-- ---- accessors' words and names (10.2 Getters, 10.3 Setters)

abbrev pub to_getter : Place × Identifier → AccessorKind
to_getter x = d.getter x.0 x.1

abbrev pub to_setter : Place × (Identifier × Parameters) → AccessorKind
to_setter x = d.setter x.0 x.1.0 x.1.1

pub accessor_kind_laws : (n : ℕ) → ParametersReadAt n → Reads (r.accessor_kind (stage n).nodes.exprs.parameters) (c.accessor_kind_over (within n).nodes) (word_code w.Get ∷ word_code w.Set ∷ []) nowhere false
unfolding r.accessor_kind
accessor_kind_laws n P = by_first_laws (made_laws (both_laws (word_reads w.Get) identifier_reads (λ place fits. apart_none names)) to_getter accessor_kind_tokens nowhere (λ x fits. refl) (λ x fits. within_none []))
    (made_laws (both_laws (word_reads w.Set) (both_laws identifier_reads P (λ x fits. apart_none (these s.LeftParenthesis))) (λ place fits. apart_none names)) to_setter accessor_kind_tokens nowhere
    (λ x fits. ap (λ (m : List Token). (l.word w.Set).spelling x.0 ++ (identifier_tokens x.1.0 ++ m)) (sym ((within_agrees n).nodes.expr_nodes.parameters.spells x.1.1))) (λ x fits. within_none [])) (apart refl)

-- ---- constructors' names

abbrev to_name : Identifier × Option DotName → ConstructorName
to_name x = record { class = x.0; name = x.1 }

pub constructor_name_laws : (nodes : StmtNodes) (class : List ℕ) → Reads (r.constructor_name class) (c.constructor_name_over nodes class) plain_names (λ x. these s.Dot) false
unfolding r.constructor_name
constructor_name_laws nodes class = made_laws (wider (both_any_laws (made_laws (named_reads class) (λ place. i.Name place class) identifier_tokens nowhere (λ x fits. refl) (λ x fits. within_none [])) (option_plain_laws dot_name_reads {codes = these s.Dot} (within_self (these s.Dot)) (λ x fits. within_none (these s.Dot))) (λ x fits. apart_none (these s.Dot))) (inside {ys = plain_names} refl) (λ x fits. inside {ys = these s.Dot} refl))
    to_name constructor_name_tokens (λ x. these s.Dot) (λ x fits. said x.0 x.1) (λ x fits. within_self (these s.Dot)) where
      said : (x : Identifier) (o : Option DotName) → constructor_name_tokens (to_name (x, o)) ≡ identifier_tokens x ++ option_spelling l.dot_name.spelling o
      said x None = refl
      said x (Some y) = refl

-- ---- initialisers (10.6.1 Generative Constructors)

abbrev to_super : Place × (Option DotName × Arguments) → InitKind
to_super x = d.super_init x.0 x.1.0 x.1.1

abbrev to_field : Option ThisDot × (Identifier × (Place × (Operand × Cascades))) → InitKind
to_field x = d.field_init x.0 x.1.0 x.1.1.0 x.1.1.1.0 x.1.1.1.1

said_this : (x : Option ThisDot) → maybe_this x ≡ option_spelling this_dot_tokens x
said_this None = refl
said_this (Some x) = refl

module _ (n : ℕ) (V : ValueReadAt n) (G : ArgumentsReadAt n) where
  abbrev nodes : StmtNodes
  nodes = (within n).nodes

  this_dot_laws : Reads this_dot (p.this_dot nodes.expr_nodes) (this_word w.This) nowhere false
  unfolding this_dot
  this_dot_laws = made_laws (both_laws (word_reads w.This) (sign_reads s.Dot) (λ place fits. apart_none (these s.Dot))) (λ x. record { this = x.0; dot = x.1 }) this_dot_tokens nowhere (λ x fits. refl) (λ x fits. within_none [])

  abbrev Field : Phrase InitKind
  Field = made init_kind_tokens to_field (opt (p.this_dot nodes.expr_nodes) ~ l.identifier ~ l.sign s.Assign ~ values_at n)

  abbrev after : InitKind → List ℕ
  after x = V.behind

  super_said : (x : Place × (Option DotName × Arguments)) → init_kind_tokens (to_super x) ≡ (l.word w.Super ~ opt l.dot_name ~ nodes.expr_nodes.arguments).spelling x
  super_said (place, (None, given)) = ap (λ (m : List Token). (l.word w.Super).spelling place ++ m) (sym ((within_agrees n).nodes.expr_nodes.arguments.spells given))
  super_said (place, (Some name, given)) = ap (λ (m : List Token). (l.word w.Super).spelling place ++ (l.dot_name.spelling name ++ m)) (sym ((within_agrees n).nodes.expr_nodes.arguments.spells given))

  field_said : (x : Option ThisDot × (Identifier × (Place × (Operand × Cascades)))) → init_kind_tokens (to_field x) ≡ (opt (p.this_dot nodes.expr_nodes) ~ l.identifier ~ l.sign s.Assign ~ values_at n).spelling x
  field_said x = ap (λ (m : List Token). m ++ (identifier_tokens x.1.0 ++ (sign_tokens s.Assign x.1.1.0 ++ (values_at n).spelling x.1.1.1))) (said_this x.0)

  abbrev Super : Phrase InitKind
  Super = made init_kind_tokens to_super (l.word w.Super ~ opt l.dot_name ~ nodes.expr_nodes.arguments)

  two_laws : Laws class_of (r.init_over (stage n)) init_kind_tokens (EitherFit Super.Fits Field.Fits) (Either Super.front Field.front) init_first after false
  unfolding r.init_over
  two_laws = wider (by_first_laws (made_laws (both_laws (word_reads w.Super) (both_any_laws (option_plain_laws dot_name_reads {codes = these s.Dot} (within_self (these s.Dot)) (λ x fits. within_none (these s.Dot))) G (λ x fits. apart refl)) (λ place fits. apart_none _)) to_super init_kind_tokens after (λ x fits. super_said x) (λ x fits. within_none V.behind))
      (made_laws (both_any_laws (option_plain_laws this_dot_laws {codes = this_word w.This} (within_self (this_word w.This)) (λ x fits. within_none (this_word w.This))) (both_laws identifier_reads (both_laws (sign_reads s.Assign) V.reads (λ place fits. apart_none _)) (λ x fits. apart_none (these s.Assign))) (λ x fits. apart refl)) to_field init_kind_tokens after (λ x fits. field_said x) (λ x fits. within_union (within_self V.behind) (within_none V.behind))) (apart refl)) (inside refl) (λ x fits. within_self V.behind)

  -- the grammar makes the node of the cascades' list
  forth : (x : InitKind) → EitherFit Super.Fits Field.Fits x → (c.init_over (within n)).Fits x
  forth x (inl f) = inl f
  forth x (inr ((this, (name, (equals, (v, cs)))), fits, is)) = let y = fits.1.1.1 in inr ((this, (name, (equals, y.0))), (fits.0, (fits.1.0, (fits.1.1.0, y.1))), ap (λ (z : Operand × Cascades). to_field (this, (name, (equals, z)))) y.2 ∙ is)

  back : (x : InitKind) → (c.init_over (within n)).Fits x → EitherFit Super.Fits Field.Fits x
  back x (inl f) = inl f
  back x (inr ((this, (name, (equals, y))), fits, is)) = inr ((this, (name, (equals, (y.0, to_cascades y.1)))), (fits.0, (fits.1.0, (fits.1.1.0, (y, fits.1.1.1, refl)))), is)

  pub init_laws : Reads (r.init_over (stage n)) (c.init_over (within n)) init_first (λ x. V.behind) false
  init_laws = refit two_laws forth back

pub inits_at : (n : ℕ) → ValueReadAt n → ArgumentsReadAt n → InitsReadAt (suc n)
unfolding r.init
inits_at n V G = record { behind = V.behind; reads = init_laws n V G; off_comma = V.off_comma; off_semicolon = V.off_semicolon }

-- ---- constructors but generative ones, and functions

abbrev Init : Type 0
Init = Place × (InitKind × List (Place × InitKind))

abbrev to_initializers : Init → Initializers
to_initializers x = record { colon = x.0; items = to_inits x.1 }

inits_said : (n : ℕ) (x : Init) → initializers_tokens (to_initializers x) ≡ (l.sign s.Colon ~ commas (c.init_within n)).spelling x
inits_said zero x = simp said_inits
inits_said (suc j) x = simp said_inits

abbrev to_constant : Place × (ConstructorName × (Parameters × (Option Initializers × Place))) → Constructor
to_constant x = d.generative (Some x.0) x.1.0 x.1.1.0 x.1.1.1.0 (t.no_body x.1.1.1.1)

abbrev to_redirecting : ConstructorName × (Parameters × (Place × (Place × (Option DotName × (Arguments × Place))))) → Constructor
to_redirecting x = d.redirecting x.0 x.1.0 x.1.1.0 x.1.1.1.0 x.1.1.1.1.0 x.1.1.1.1.1.0 x.1.1.1.1.1.1

abbrev pub to_factory : Option Place × (Place × (ConstructorName × (Parameters × Body))) → Constructor
to_factory x = d.factory x.0 x.1.0 x.1.1.0 x.1.1.1.0 x.1.1.1.1

abbrev pub to_function : Option Place × ((Option ResultType × Identifier) × (Parameters × Body)) → Function
to_function x = the_function x.0 x.1.0 x.1.1.0 x.1.1.1

pub external_reads : Reads r.external_or_none c.external_or_none (this_word w.External) (λ x. this_word w.External) true
unfolding r.external_or_none
external_reads = option_plain_laws (word_reads w.External) {codes = this_word w.External} (within_self (this_word w.External)) (λ x fits. within_none (this_word w.External))

module _ (n : ℕ) (D : MemberPartsReadAt n) where
  abbrev nodes_at : StmtNodes
  nodes_at = (within n).nodes

  abbrev A : StmtsAgree nodes_at
  A = (within_agrees n).nodes

  pub external_laws : Reads r.external_or_none c.external_or_none (this_word w.External) (λ x. this_word w.External) true
  external_laws = external_reads

  pub function_laws : Reads (r.function r.external_or_none (suc n)) (c.function_within c.external_or_none (suc n)) (word_code w.External ∷ declared_first) nowhere false
  unfolding r.function q.function_over function_tokens
  function_laws = made_laws (both_any_laws external_laws (both_laws D.result_name (both_laws D.parameters D.body (λ x fits. apart_none _)) (λ x fits. apart refl)) (λ x fits. apart refl)) to_function function_tokens nowhere
      (parts_say function_tokens to_function (seq_agrees (opt_agrees (word_agrees w.External)) (seq_agrees (seq_if_agrees (opt_agrees (result_agrees A.expr_nodes.type)) identifier_agrees result_leaves_name) (seq_agrees A.expr_nodes.parameters (body_agrees A.expr_nodes)))) (λ x fits. simp (said_word, append_assoc))) (λ x fits. within_none [])

  module _ (class : List ℕ) where
    pub initializers_laws : Reads (r.initializers (r.init n)) (c.initializers_over nodes_at (c.init_within n) class) (these s.Colon) (λ x. these s.Comma ++ D.inits.behind) false
    unfolding r.initializers
    initializers_laws = made_laws (both_laws (sign_reads s.Colon) (separated_plain_laws D.inits.reads (sign_reads s.Comma) {codes = D.inits.behind} (λ x fits. within_self D.inits.behind) D.inits.off_comma (λ x fits. apart_none init_first)) (λ place fits. apart_none init_first))
        to_initializers initializers_tokens (λ x. these s.Comma ++ D.inits.behind) (λ x fits. inits_said n x) (λ x fits. within_self (these s.Comma ++ D.inits.behind))

    abbrev inits_codes : List ℕ
    inits_codes = these s.Colon ++ (these s.Comma ++ D.inits.behind)

    off_end : Apart inits_codes (these s.Semicolon)
    off_end = apart_union {xs = these s.Colon} {ys = these s.Comma ++ D.inits.behind} (apart refl) (apart_union {xs = these s.Comma} {ys = D.inits.behind} (apart refl) D.inits.off_semicolon)

    pub constant_laws : Reads (r.constant (stage n).nodes.exprs (r.init n) class) (c.constant_over nodes_at (c.init_within n) class) (this_word w.Const) nowhere false
    unfolding r.constant body_tokens
    constant_laws = made_laws (both_laws (word_reads w.Const) (both_laws (constructor_name_laws nodes_at class) (both_laws D.parameters (both_any_laws (option_plain_laws initializers_laws {codes = inits_codes} (within_left (these s.Colon) (these s.Comma ++ D.inits.behind)) (λ x fits. within_right (these s.Colon) (these s.Comma ++ D.inits.behind))) (sign_reads s.Semicolon) (λ x fits. off_end))
        (λ x fits. apart_none _)) (λ x fits. apart refl)) (λ place fits. apart_none plain_names)) to_constant constructor_tokens nowhere (λ x fits. simp A.expr_nodes.parameters.spells) (λ x fits. within_none [])

    pub redirecting_laws : Reads (r.redirecting (stage n).nodes.exprs class) (c.redirecting_over nodes_at (c.init_within n) class) plain_names nowhere false
    unfolding r.redirecting
    redirecting_laws = made_laws (both_laws (constructor_name_laws nodes_at class) (both_laws D.parameters (both_laws (sign_reads s.Colon) (both_laws (word_reads w.This) (both_any_laws (option_plain_laws dot_name_reads {codes = these s.Dot} (within_self (these s.Dot)) (λ x fits. within_none (these s.Dot))) (both_laws D.arguments (sign_reads s.Semicolon) (λ x fits. apart_none (these s.Semicolon))) (λ x fits. apart refl))
        (λ place fits. apart_none _)) (λ place fits. apart_none (this_word w.This))) (λ x fits. apart_none (these s.Colon))) (λ x fits. apart refl)) to_redirecting constructor_tokens nowhere (λ x fits. simp (A.expr_nodes.parameters.spells, A.expr_nodes.arguments.spells)) (λ x fits. within_none [])

    pub constructor_name_agrees : Agrees constructor_name_tokens (c.constructor_name_over nodes_at class)
    constructor_name_agrees = made_agrees constructor_name_tokens to_name (seq_agrees (made_agrees identifier_tokens (λ place. i.Name place class) (named_agrees class) (λ x fits. refl)) (opt_agrees dot_name_agrees)) (λ x fits. refl)

    pub factory_laws : Reads (r.factory (stage n).nodes.exprs class) (factory_phrase n class) (word_code w.External ∷ word_code w.Factory ∷ []) nowhere false
    unfolding r.factory
    factory_laws = made_laws (both_any_laws external_laws (both_laws (word_reads w.Factory) (both_laws (constructor_name_laws nodes_at class) (both_laws D.parameters D.body (λ x fits. apart_none _)) (λ x fits. apart refl)) (λ place fits. apart_none plain_names)) (λ x fits. apart refl)) to_factory constructor_tokens nowhere
        (parts_say constructor_tokens to_factory (seq_agrees (opt_agrees (word_agrees w.External)) (seq_agrees (word_agrees w.Factory) (seq_agrees constructor_name_agrees (seq_agrees A.expr_nodes.parameters (body_agrees A.expr_nodes))))) (λ x fits. simp said_word)) (λ x fits. within_none [])

pub member_kinds_at : (n : ℕ) → MemberPartsReadAt n → MemberKindsReadAt n
member_kinds_at n D = record {
  function = function_laws n D;
  accessor_kind = accessor_kind_laws n D.parameters;
  operator_name = operator_name_laws (within n).nodes;
  constant = λ class. constant_laws n D class;
  redirecting = λ class. redirecting_laws n D class;
  factory = λ class. factory_laws n D class;
}
