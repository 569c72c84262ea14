-- The law of one parameter, over expressions, types and the parameters of its own (ECMA-408, 9.2.1 Required Formals).
use Rattle.std.proofs.Common.{◌≡◌, ℕ, Bool, true, false, if◌then◌else◌, List, [], ◌∷◌, ◌++◌, Option, None, Some, Ok, Err, ◌⊎◌, inl, inr, refl, ap, sym, ◌∙◌, subst, append_assoc}
use Rattle.std.proofs.lemmas.List.{append-nil}
use Rattle.dart_base.specs.declared.place.Place.{Place}
use Rattle.dart_token.specs.declared.token.Token.{Token}
use Rattle.dart_token.specs.declared.sign.Sign.TheVariants as s
use Rattle.dart_token.specs.declared.word.Word.TheVariants as w
use Rattle.dart_tree.specs.declared.identifier.Identifier.{Identifier}
use Rattle.dart_tree.specs.declared.parameter.ThisDot.{ThisDot}
use Rattle.dart_tree.specs.Types.{TypeNode, ResultType, VariableKind, no_kind, var_kind, final_kind, const_kind, typed_kind, void_result, typed_result}
use Rattle.dart_tree.specs.LeafTokens.{identifier_tokens, type_tokens, kind_tokens, maybe_this, maybe_result, word_at}
use Rattle.dart_tree.specs.Tree as t
use Rattle.dart_tree.specs.Tree.{ParameterKind, Parameters, Metadata}
use Rattle.dart_tree.specs.Tokens.{parameter_kind_tokens, parameters_tokens}
use Rattle.grammar_laws.specs.Codes.{Within, nowhere, after_followed}
use Rattle.grammar_laws.specs.Readers.{Outcome, Reader, and_then, mapped, both, by_first, starts}
use Rattle.grammar_laws.specs.Fronts.{Front, Joint, Either, EitherFit, ContinuedFit, both_spelling, option_spelling, joined_spelling}
use Rattle.grammar_laws.specs.Laws.{Laws}
use Rattle.grammar_laws.proofs.Codes.{apart, apart_none, inside, within_self, within_none, within_union, within_left, within_right, within_given}
use Rattle.grammar_laws.proofs.Restated.{made_laws, mapped_laws, refit, refront, reread, wider}
use Rattle.grammar_laws.proofs.Combined.{both_laws, both_any_laws}
use Rattle.grammar_laws.proofs.Continued.{continued_laws}
use Rattle.grammar_laws.proofs.Chosen.{by_first_laws}
use Rattle.dart_syntax.specs.Phrases.{Phrase, ◌~◌, ◌<|>◌, made, made₃, made₄, opt}
use Rattle.dart_syntax.specs.Agreement.{Agrees, StmtsAgree}
use Rattle.dart_syntax.specs.Leaves as l
use Rattle.dart_syntax.specs.Leaves.{this_dot_tokens}
use Rattle.dart_syntax.specs.Types.{without_kind, kind_over, result_over}
use Rattle.dart_syntax.specs.Expressions as g
use Rattle.dart_syntax.specs.Statements as p
use Rattle.token_codes.specs.Codes.{class_of, these, this_word}
use Rattle.token_codes.specs.Leaves.{word}
use Rattle.token_codes.specs.Reads.{Reads}
use Rattle.token_codes.proofs.Leaves.{word_reads}
use Rattle.syntax_readers.specs.Types.{type_first, behind_type_name}
use Rattle.syntax_readers.specs.Primaries.{ExprReaders}
use Rattle.syntax_readers.specs.Parameters as r
use Rattle.syntax_readers.specs.Parameters.{ParameterType, ParameterHead, void_type, kind_or_none, parameter_head, parameter_type, maybe_kind, needs_parameters, may_have_parameters, a_parameter, parameter_first}
use Rattle.laws_type.specs.Nexts.{after_type}
use Rattle.laws_stmt.specs.Statements.{behind_parameter}
use Rattle.laws_stmt.proofs.Named.{Goes, this_first, named, named_reader, named_laws, named_begins, named_ends, metadata_laws}
use Rattle.laws_stmt.proofs.Sorts.{kind_name_laws}

-- the tokens of what stands before a name
abbrev before_tokens : ParameterType → List Token
before_tokens (void_type place) = word_at place w.Void ∷ []
before_tokens (kind_or_none kind) = kind_tokens kind

-- what is made of the first of two may be made of both
module _ {A B C : Type 0} (f : A → C) (q : Reader Token B) where
  moved : (a : A) (o : Outcome Token B) → and_then {B = C × B} o (λ b rest. Ok ((f a, b), rest)) ≡ and_then {B = C × B} (and_then {B = A × B} o (λ b rest. Ok ((a, b), rest))) (λ x rest. Ok ((f x.0, x.1), rest))
  moved a (Ok x) = refl
  moved a (Err x) = refl

  pub mapped_first : (o : Outcome Token A) → and_then {B = C × B} (and_then {B = C} o (λ a rest. Ok (f a, rest))) (λ c mid. and_then {B = C × B} (q mid) (λ b rest. Ok ((c, b), rest)))
      ≡ and_then {B = C × B} (and_then {B = A × B} o (λ a mid. and_then {B = A × B} (q mid) (λ b rest. Ok ((a, b), rest)))) (λ x rest. Ok ((f x.0, x.1), rest))
  mapped_first (Ok (a, mid)) = moved a (q mid)
  mapped_first (Err x) = refl

this_said : (x : Option ThisDot) → maybe_this x ≡ option_spelling this_dot_tokens x
this_said None = refl
this_said (Some x) = refl

module _ (here : g.ExprNodes) {type : Reader Token TypeNode} {q : Phrase TypeNode} (T : Reads type q type_first after_type false) (A : Agrees type_tokens q) (G : Goes q) where
  abbrev Name : Type 0
  Name = Option ThisDot × Identifier

  abbrev names_of : Phrase Name
  names_of = named here

  abbrev Kind : Phrase VariableKind
  Kind = without_kind <|> kind_over q

  abbrev KindName : Phrase (VariableKind × Name)
  KindName = Kind ~ names_of

  abbrev head_tokens : ParameterHead → List Token
  head_tokens = both_spelling before_tokens names_of.spelling

  abbrev to_void : Place × Name → ParameterHead
  to_void x = (void_type x.0, x.1)

  abbrev to_kind : VariableKind × Name → ParameterHead
  to_kind x = (kind_or_none x.0, x.1)

  abbrev Void : Phrase ParameterHead
  Void = made head_tokens to_void (l.word w.Void ~ names_of)

  abbrev HeadFits : ParameterHead → Type 0
  HeadFits (void_type place, name) = names_of.Fits name
  HeadFits (kind_or_none kind, name) = Kind.Fits kind × names_of.Fits name

  abbrev head_front : Front Token
  head_front = Either Void.front KindName.front

  abbrev head_first : List ℕ
  head_first = this_word w.Void ++ (this_word w.Var ++ (this_word w.Final ++ (type_first ++ this_first)))

  abbrev after_head : ParameterHead → List ℕ
  after_head x = behind_type_name

  kind_laws : Reads (both (maybe_kind type) (named_reader here)) KindName (this_word w.Var ++ (this_word w.Final ++ (type_first ++ this_first))) (λ x. behind_type_name) false
  kind_laws = kind_name_laws T A G (named_laws here) (inside refl) (apart refl) (apart refl) (named_begins here) (named_ends here) (apart refl) (apart refl)

  abbrev head_chosen : Reader Token ParameterHead
  head_chosen = by_first class_of (this_word w.Void) (mapped to_void (both (word w.Void) (named_reader here))) (mapped to_kind (both (maybe_kind type) (named_reader here)))

  chosen_laws : Laws class_of head_chosen head_tokens HeadFits head_front head_first after_head false
  chosen_laws = refit (by_first_laws (made_laws (both_laws (word_reads w.Void) (named_laws here) (λ place fits. apart_none this_first)) to_void head_tokens after_head (λ x fits. refl) (λ x fits. within_none behind_type_name))
      (made_laws kind_laws to_kind head_tokens after_head (λ x fits. refl) (λ x fits. within_self behind_type_name)) (apart refl)) forth back where
        forth : (x : ParameterHead) → EitherFit Void.Fits (made head_tokens to_kind KindName).Fits x → HeadFits x
        forth x (inl (a, fits, e)) = subst HeadFits e fits.1
        forth x (inr (a, fits, e)) = subst HeadFits e fits

        back : (x : ParameterHead) → HeadFits x → EitherFit Void.Fits (made head_tokens to_kind KindName).Fits x
        back (void_type place, name) fits = inl ((place, name), (tt, fits), refl)
        back (kind_or_none kind, name) fits = inr ((kind, name), fits, refl)

  same : (c : Bool) (ts : List Token) → both (λ r. if c then mapped void_type (word w.Void) r else mapped kind_or_none (maybe_kind type) r) (named_reader here) ts
      ≡ (if c then mapped to_void (both (word w.Void) (named_reader here)) ts else mapped to_kind (both (maybe_kind type) (named_reader here)) ts)
  same true ts = mapped_first void_type (named_reader here) (word w.Void ts)
  same false ts = mapped_first kind_or_none (named_reader here) (maybe_kind type ts)

  head_laws : Laws class_of (parameter_head type) head_tokens HeadFits head_front head_first after_head false
  unfolding parameter_head parameter_type
  head_laws = reread chosen_laws (λ ts. same (starts class_of (this_word w.Void) ts) ts)

  -- ---- the name's own parameters

  only_typed : (x : TypeNode) → Kind.Fits (typed_kind x) → q.Fits x
  only_typed x (inl e) = absurd cc
  only_typed x (inr (inl (place, fits, e))) = absurd cc
  only_typed x (inr (inr (inl (of, fits, e)))) = absurd cc
  only_typed x (inr (inr (inr (of, fits, e)))) = let same : of ≡ x = cc in subst q.Fits same fits

  no_const : (place : Place) (x : Option TypeNode) → Kind.Fits (const_kind place x) → ⊥
  no_const place x (inl e) = absurd cc
  no_const place x (inr (inl (of, fits, e))) = absurd cc
  no_const place x (inr (inr (inl (of, fits, e)))) = absurd cc
  no_const place x (inr (inr (inr (of, fits, e)))) = absurd cc

  only_result : (x : TypeNode) → (result_over q).Fits (typed_result x) → q.Fits x
  only_result x (inl (place, fits, e)) = absurd cc
  only_result x (inr (of, fits, e)) = let same : of ≡ x = cc in subst q.Fits same fits

  allowed : (x : ParameterHead) → needs_parameters x ≡ true → may_have_parameters x ≡ true
  allowed (void_type place, name) on = refl
  allowed (kind_or_none kind, name) on = absurd cc

  module _ {parameters : Reader Token Parameters} {o : Phrase Parameters} (P : Reads parameters o (these s.LeftParenthesis) nowhere false) (S : Agrees parameters_tokens o) where
    abbrev Plain : Phrase ParameterKind
    Plain = made₃ parameter_kind_tokens t.plain_parameter (Kind ~ (opt (p.this_dot here) ~ l.identifier))

    abbrev Called : Phrase ParameterKind
    Called = made₄ parameter_kind_tokens t.function_parameter (opt (result_over q) ~ (opt (p.this_dot here) ~ (l.identifier ~ o)))

    abbrev Both : Phrase ParameterKind
    Both = Plain <|> Called

    abbrev Parts : Type 0
    Parts = ParameterHead × Option Parameters

    abbrev PartsFit : Parts → Type 0
    PartsFit = ContinuedFit HeadFits needs_parameters may_have_parameters o.Fits

    abbrev parts_tokens : Parts → List Token
    parts_tokens = joined_spelling head_tokens o.spelling

    abbrev parts_front : Front Token
    parts_front = Joint head_tokens HeadFits may_have_parameters head_front o.front

    abbrev after_parts : Parts → List ℕ
    after_parts = after_followed after_head may_have_parameters (these s.LeftParenthesis) (nowhere {A = Parameters})

    on_parts : (x : Parts) → Within (after_parts x) behind_parameter
    on_parts (x, None) = within_union (within_left behind_type_name (these s.LeftParenthesis)) (within_given (may_have_parameters x) (λ e. within_right behind_type_name (these s.LeftParenthesis)))
    on_parts (x, Some y) = within_none behind_parameter

    called_said : (r : Option ResultType) (this : Option ThisDot) (name : Identifier) (x : Parameters) → parameter_kind_tokens (t.function_parameter r this name x) ≡ (maybe_result r ++ (option_spelling this_dot_tokens this ++ identifier_tokens name)) ++ o.spelling x
    unfolding parameter_kind_tokens
    called_said r this name x = rw (S.spells x, this_said this) (simp append_assoc)

    plain_said : (k : VariableKind) (this : Option ThisDot) (name : Identifier) → parameter_kind_tokens (t.plain_parameter k this name) ≡ (kind_tokens k ++ (option_spelling this_dot_tokens this ++ identifier_tokens name)) ++ []
    unfolding parameter_kind_tokens
    plain_said k this name = rw (this_said this) (sym (append-nil (kind_tokens k ++ (option_spelling this_dot_tokens this ++ identifier_tokens name))))

    forth : (x : Parts) → PartsFit x → Both.Fits (a_parameter x) × (parameter_kind_tokens (a_parameter x) ≡ parts_tokens x) × Within (after_parts x) behind_parameter
    forth ((void_type place, (this, name)), None) (h, n) = absurd cc
    forth ((void_type place, (this, name)), Some x) (h, n) = (inr ((Some (void_result place), (this, (name, x))), (inl (place, tt, refl), (h.0, (h.1, n.1))), refl), called_said (Some (void_result place)) this name x, within_none behind_parameter)
    forth ((kind_or_none kind, (this, name)), None) (h, n) = (inl ((kind, (this, name)), h, refl), plain_said kind this name, on_parts ((kind_or_none kind, (this, name)), None))
    forth ((kind_or_none no_kind, (this, name)), Some x) (h, n) = (inr ((None, (this, (name, x))), (tt, (h.1.0, (h.1.1, n.1))), refl), called_said None this name x, within_none behind_parameter)
    forth ((kind_or_none (var_kind place), (this, name)), Some x) (h, n) = let bad : false ≡ true = n.0 in absurd cc
    forth ((kind_or_none (final_kind place of), (this, name)), Some x) (h, n) = let bad : false ≡ true = n.0 in absurd cc
    forth ((kind_or_none (const_kind place of), (this, name)), Some x) (h, n) = absurd (no_const place of h.0)
    forth ((kind_or_none (typed_kind of), (this, name)), Some x) (h, n) = (inr ((Some (typed_result of), (this, (name, x))), (inr (of, only_typed of h.0, refl), (h.1.0, (h.1.1, n.1))), refl), called_said (Some (typed_result of)) this name x, within_none behind_parameter)

    back : (y : ParameterKind) → Both.Fits y → (x : Parts) × PartsFit x × (a_parameter x ≡ y)
    back y (inl ((kind, (this, name)), fits, e)) = (((kind_or_none kind, (this, name)), None), (fits, refl), e)
    back y (inr ((None, (this, (name, x))), fits, e)) = (((kind_or_none no_kind, (this, name)), Some x), ((inl refl, (fits.1.0, fits.1.1.0)), (refl, fits.1.1.1)), e)
    back y (inr ((Some (void_result place), (this, (name, x))), fits, e)) = (((void_type place, (this, name)), Some x), ((fits.1.0, fits.1.1.0), (refl, fits.1.1.1)), e)
    back y (inr ((Some (typed_result of), (this, (name, x))), fits, e)) = (((kind_or_none (typed_kind of), (this, name)), Some x), ((inr (inr (inr (of, only_result of fits.0, refl))), (fits.1.0, fits.1.1.0)), (refl, fits.1.1.1)), e)

    -- ---- fronts

    abbrev rest_front : Front Token
    rest_front = (opt (p.this_dot here) ~ (l.identifier ~ o)).front

    longer : (ts : List Token) → names_of.front ts → rest_front ts
    longer ts (inl f) = inl f
    longer ts (inr (x, more, fits, on, e, f)) = inr (x, more, fits, on, e, inl f)

    with_all : (this : Option ThisDot) (name : Identifier) (more : List Token) → names_of.Fits (this, name) → o.front more → rest_front ((option_spelling this_dot_tokens this ++ identifier_tokens name) ++ more)
    with_all this name more fits f = inr (this, identifier_tokens name ++ more, fits.0, refl, append_assoc (option_spelling this_dot_tokens this) (identifier_tokens name) more, inr (name, more, tt, refl, refl, f))

    out : (ts : List Token) → parts_front ts → Both.front ts
    out ts (inl (inl (inl f))) = inr (inl (inl f))
    out ts (inl (inl (inr (place, more, fits, on, e, f)))) = inr (inr (Some (void_result place), more, inl (place, tt, refl), refl, e, longer more f))
    out ts (inl (inr f)) = inl f
    out ts (inr ((void_type place, (this, name)), more, fits, on, e, f)) = inr (inr (Some (void_result place), (option_spelling this_dot_tokens this ++ identifier_tokens name) ++ more, inl (place, tt, refl), refl, e, with_all this name more fits f))
    out ts (inr ((kind_or_none no_kind, (this, name)), more, fits, on, e, f)) = inr (inr (None, (option_spelling this_dot_tokens this ++ identifier_tokens name) ++ more, tt, refl, e, with_all this name more fits.1 f))
    out ts (inr ((kind_or_none (var_kind place), (this, name)), more, fits, on, e, f)) = let bad : false ≡ true = on in absurd cc
    out ts (inr ((kind_or_none (final_kind place of), (this, name)), more, fits, on, e, f)) = let bad : false ≡ true = on in absurd cc
    out ts (inr ((kind_or_none (const_kind place of), (this, name)), more, fits, on, e, f)) = absurd (no_const place of fits.0)
    out ts (inr ((kind_or_none (typed_kind of), (this, name)), more, fits, on, e, f)) =
        inr (inr (Some (typed_result of), (option_spelling this_dot_tokens this ++ identifier_tokens name) ++ more, inr (of, only_typed of fits.0, refl), refl, e ∙ append_assoc (type_tokens of) (option_spelling this_dot_tokens this ++ identifier_tokens name) more, with_all this name more fits.1 f))

    -- the name with what it begins, or with parameters behind it
    abbrev Cut : List Token → Type 0
    Cut ts = names_of.front ts ⊎ ((x : Name) × (more : List Token) × names_of.Fits x × (ts ≡ names_of.spelling x ++ more) × o.front more)

    cut : (ts : List Token) → rest_front ts → Cut ts
    cut ts (inl f) = inl (inl f)
    cut ts (inr (this, more, fits, on, e, inl f)) = inl (inr (this, more, fits, on, e, f))
    cut ts (inr (this, more, fits, on, e, inr (name, rest, at, go, is, f))) =
        inr ((this, name), rest, (fits, at), e ∙ ap (λ (m : List Token). option_spelling this_dot_tokens this ++ m) is ∙ sym (append_assoc (option_spelling this_dot_tokens this) (identifier_tokens name) rest), f)

    -- a head goes on with parameters
    whole : (ts more rest : List Token) (x : ParameterType) (name : Name) → HeadFits (x, name) → may_have_parameters (x, name) ≡ true → ts ≡ before_tokens x ++ more → more ≡ names_of.spelling name ++ rest → o.front rest → parts_front ts
    whole ts more rest x name fits on e is f = inr ((x, name), rest, fits, on, e ∙ ap (λ (m : List Token). before_tokens x ++ m) is ∙ sym (append_assoc (before_tokens x) (names_of.spelling name) rest), f)

    behind_result : (ts : List Token) (x : Option ResultType) (more : List Token) → (opt (result_over q)).Fits x → ts ≡ option_spelling (result_over q).spelling x ++ more → Cut more → parts_front ts
    behind_result ts None more fits e (inl f) = inl (inr (inr (no_kind, more, inl refl, refl, e, f)))
    behind_result ts None more fits e (inr (name, rest, at, is, f)) = whole ts more rest (kind_or_none no_kind) name (inl refl, at) refl e is f
    behind_result ts (Some (void_result place)) more fits e (inl f) = inl (inl (inr (place, more, tt, refl, e, f)))
    behind_result ts (Some (void_result place)) more fits e (inr (name, rest, at, is, f)) = whole ts more rest (void_type place) name at refl e is f
    behind_result ts (Some (typed_result of)) more fits e (inl f) = inl (inr (inr (typed_kind of, more, inr (inr (inr (of, only_result of fits, refl))), refl, e, f)))
    behind_result ts (Some (typed_result of)) more fits e (inr (name, rest, at, is, f)) = whole ts more rest (kind_or_none (typed_kind of)) name (inr (inr (inr (of, only_result of fits, refl))), at) refl e is f

    into : (ts : List Token) → Both.front ts → parts_front ts
    into ts (inl f) = inl (inr f)
    into ts (inr (inl (inl f))) = inl (inl (inl f))
    into ts (inr (inl (inr f))) = inl (inr (inl (inr (inr (inr f)))))
    into ts (inr (inr (x, more, fits, on, e, f))) = behind_result ts x more fits e (cut more f)

    pub kinds_laws : Reads (r.parameter_kind type parameters) Both head_first (λ x. behind_parameter) false
    unfolding r.parameter_kind
    kinds_laws = refront (mapped_laws (continued_laws head_laws P needs_parameters may_have_parameters allowed (λ x fits on. apart refl)) a_parameter parameter_kind_tokens {Fits_q = Both.Fits} (λ x. behind_parameter) forth back) out into

module _ (inner : ExprReaders) (nodes : p.StmtNodes) (T : Reads inner.type nodes.expr_nodes.type type_first after_type false) (G : Goes nodes.expr_nodes.type) (A : StmtsAgree nodes)
    (R : Reads inner.arguments nodes.expr_nodes.arguments (these s.LeftParenthesis) nowhere false) (P : Reads inner.parameters nodes.expr_nodes.parameters (these s.LeftParenthesis) nowhere false) where
  -- metadata, what stands before the name, the name and its own parameters
  pub parameter_laws : Reads (r.parameter_over inner) (p.parameter_over nodes) parameter_first (λ x. behind_parameter) false
  unfolding r.parameter_over
  parameter_laws = wider (both_any_laws (metadata_laws inner nodes.expr_nodes R A.expr_nodes.arguments) (kinds_laws nodes.expr_nodes T A.expr_nodes.type G P A.expr_nodes.parameters) (λ x fits. apart refl)) (inside refl) (λ x fits. within_union (within_self behind_parameter) (within_none behind_parameter))
