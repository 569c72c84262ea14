-- Which members have the tokens of constructors, and that those have them at each depth at which they fit.
use Rattle.std.proofs.Common.{◌≡◌, ℕ, zero, suc, true, false, List, [], ◌∷◌, ◌++◌, Option, None, Some, inl, inr, refl, sym, ap, ap₂, ◌∙◌, subst, append_assoc, flat_map}
use Rattle.grammar_laws.specs.Fronts.{Alone}
use Rattle.dart_base.specs.declared.place.Place.{Place}
use Rattle.dart_token.specs.declared.token.Token.{Token}
use Rattle.dart_token.specs.declared.token.TokenKind.{TokenKind}
use Rattle.dart_token.specs.declared.token.TokenKind.TheVariants as tk
use Rattle.dart_token.specs.declared.sign.Sign.TheVariants as s
use Rattle.dart_token.specs.declared.word.Word.TheVariants as w
use Rattle.dart_tree.specs.declared.identifier.Identifier.{Identifier}
use Rattle.dart_tree.specs.declared.identifier.Identifier.TheVariants as i
use Rattle.dart_tree.specs.declared.identifier.DotName.{DotName}
use Rattle.dart_tree.specs.declared.declaration.ConstructorName.{ConstructorName}
use Rattle.dart_tree.specs.declared.declaration.Modifier.{Modifier}
use Rattle.dart_tree.specs.declared.declaration.Modifier.TheVariants as m
use Rattle.dart_tree.specs.LeafTokens.{sign_at, word_at, maybe_word, maybe_result, maybe_dot_name, identifier_tokens, maybe_type, type_tokens, kind_tokens}
use Rattle.dart_tree.specs.Types.{TypeNode, ResultType, VariableKind, typed_result}
use Rattle.dart_tree.specs.Tree as t
use Rattle.dart_tree.specs.Tree.{Expr, Value, Body, Function, Parameters, Variables}
use Rattle.dart_tree.specs.Tokens.{expr_tokens, parameters_tokens, body_tokens, arguments_tokens, function_tokens, variables_tokens, value_tokens, more_variables_tokens}
use Rattle.dart_tree.specs.Unit as d
use Rattle.dart_tree.specs.Unit.{Constructor, Initializers, MemberKind}
use Rattle.dart_tree.specs.UnitTokens.{tokens_if, init_tokens, initializers_tokens, constructor_name_tokens, constructor_tokens, modifier_tokens, member_kind_tokens, operator_name_tokens}
use Rattle.dart_syntax.specs.Phrases.{Phrase, ◌<|>◌, made}
use Rattle.dart_syntax.specs.Leaves.{sign}
use Rattle.dart_syntax.specs.Expressions.{after_sign}
use Rattle.dart_syntax.specs.Types.{kind_over, variables_kind_over}
use Rattle.dart_syntax.specs.Statements.{StmtNodes, more_variables, body_of, nodes_over, within}
use Rattle.dart_syntax.specs.Declarations.{constructor_name_over, constructor_within, external_or_none, function_within, constructor_member, other_member}
use Rattle.syntax_measures.specs.Readings.{bare_member_tokens, has_no_arrow, IsLikeConstructor, OnlyFunctionsConstruct, LikeOnesConstruct}
use Rattle.syntax_measures.proofs.Scanning.{State, begun, named, called, wrong, scan, scan_append, free_stays}
use Rattle.syntax_measures.proofs.Calling.{parameters_call}
use Rattle.syntax_measures.proofs.DeclaresOrActs.{to_named, block_braced, lead_wrong}
use Rattle.syntax_measures.proofs.ConstructorsOrOthers as shapes
use Rattle.syntax_measures.proofs.ConstructorsOrOthers.{shape, built, built_by_factory, otherwise, otherwise_stays, type_and_name, function_built, with_factory, with_const, without, kind_of, factory_built, built_constant, constant_built, const_type_and_name, const_name_then, function_otherwise, accessor_otherwise, operator_otherwise}

-- ---- what a constructor without a factory's word begins with

abbrev first_kind : List Token → Option TokenKind
first_kind [] = None
first_kind (x ∷ xs) = Some x.kind

abbrev first_lexeme : List Token → List ℕ
first_lexeme [] = []
first_lexeme (x ∷ xs) = x.lexeme

abbrev Fine : State → Type 0
Fine wrong = ⊥
Fine z = Unit {0}

record BeginsAs (class : List ℕ) (ts : List Token) : Type 0 where
  fine : Fine (scan begun ts)
  kind : first_kind ts ≡ Some tk.Identifier
  lexeme : first_lexeme ts ≡ class

abbrev NamedAs : List ℕ → ConstructorName → Type 0
NamedAs class x = (place : Place) × (x.class ≡ i.Name place class)

named_as : (inner : StmtNodes) (class : List ℕ) (x : ConstructorName) → (constructor_name_over inner class).Fits x → NamedAs class x
named_as inner class x ((first, second), ((place, anything, is), fits), same) = (place, ap (λ (c : ConstructorName). c.class) (sym same) ∙ sym is)

begins : (class : List ℕ) (x : ConstructorName) → NamedAs class x → (given : Parameters) (rest : List Token) → scan named (parameters_tokens given) ≡ called → Fine (scan called rest) → BeginsAs class (constructor_name_tokens x ++ (parameters_tokens given ++ rest))
begins class x (place, is) given rest call fine = record {
  fine = subst Fine (sym (
      ap (λ (l : List Token). scan begun l) (append_assoc (identifier_tokens x.class) (maybe_dot_name x.name) (parameters_tokens given ++ rest))
      ∙ to_named x.class x.name (parameters_tokens given ++ rest)
      ∙ scan_append named (parameters_tokens given) rest
      ∙ ap (λ (z : State). scan z rest) call)) fine;
  kind = ap (λ (c : Identifier). first_kind ((identifier_tokens c ++ maybe_dot_name x.name) ++ (parameters_tokens given ++ rest))) is;
  lexeme = ap (λ (c : Identifier). first_lexeme ((identifier_tokens c ++ maybe_dot_name x.name) ++ (parameters_tokens given ++ rest))) is;
}

-- the body of a constructor
abbrev block_or_none : StmtNodes → Phrase Body
block_or_none inner = made body_tokens t.block_body inner.expr_nodes.block <|> made body_tokens t.no_body (sign s.Semicolon)

module _ (inner : StmtNodes) where
  body_fine : (x : Body) → (block_or_none inner).Fits x → Fine (scan called (body_tokens x))
  unfolding body_tokens
  body_fine x (inl (inside, fits, is)) = subst (λ (c : Body). Fine (scan called (body_tokens c))) is (subst Fine (sym (block_braced inside)) tt)
  body_fine x (inr (place, fits, is)) = subst (λ (c : Body). Fine (scan called (body_tokens c))) is tt

  rest_fine : (x : Option Initializers) (body : Body) → (block_or_none inner).Fits body → Fine (scan called (tokens_if initializers_tokens x ++ body_tokens body))
  rest_fine None body fits = body_fine body fits
  rest_fine (Some x) body fits = subst Fine (sym (free_stays (flat_map init_tokens x.items ++ body_tokens body))) tt

abbrev behind_colon : Place → Place → Option DotName → t.Arguments → Place → List Token
behind_colon colon this another handed semicolon = sign_at colon s.Colon ∷ word_at this w.This ∷ (maybe_dot_name another ++ (arguments_tokens handed ++ sign_at semicolon s.Semicolon ∷ []))

colon_fine : (colon this : Place) (another : Option DotName) (handed : t.Arguments) (semicolon : Place) → Fine (scan called (behind_colon colon this another handed semicolon))
colon_fine colon this another handed semicolon = subst Fine (sym (free_stays (word_at this w.This ∷ (maybe_dot_name another ++ (arguments_tokens handed ++ sign_at semicolon s.Semicolon ∷ []))))) tt

constructor_begins : (class : List ℕ) (m : ℕ) (x : Constructor) → (constructor_within class m).Fits x → shape shapes.begun (constructor_tokens x) ≡ built → BeginsAs class (constructor_tokens x)
constructor_begins class zero x fits is_built = absurd fits
constructor_begins class (suc m) x (inl (parts, fits, is)) is_built = subst (λ (c : Constructor). BeginsAs class (constructor_tokens c)) is
    (begins class parts.0 (named_as (within m).nodes class parts.0 fits.0) parts.1.0 (tokens_if initializers_tokens parts.1.1.0 ++ body_tokens parts.1.1.1) ((parameters_call m).call parts.1.0 fits.1.0) (rest_fine (within m).nodes parts.1.1.0 parts.1.1.1 fits.1.1.1))
constructor_begins class (suc m) x (inr (inl (parts, fits, is))) is_built =
    let bad : built_constant ≡ built = sym (constant_built parts.1.0 parts.1.1.0 (tokens_if initializers_tokens parts.1.1.1.0 ++ body_tokens (t.no_body parts.1.1.1.1))) ∙ ap (λ (c : Constructor). shape shapes.begun (constructor_tokens c)) is ∙ is_built in
    cc
constructor_begins class (suc m) x (inr (inr (inl (parts, fits, is)))) is_built = subst (λ (c : Constructor). BeginsAs class (constructor_tokens c)) is
    (begins class parts.0 (named_as (within m).nodes class parts.0 fits.0) parts.1.0 (behind_colon parts.1.1.0 parts.1.1.1.0 parts.1.1.1.1.0 parts.1.1.1.1.1.0 parts.1.1.1.1.1.1) ((parameters_call m).call parts.1.0 fits.1.0) (colon_fine parts.1.1.0 parts.1.1.1.0 parts.1.1.1.1.0 parts.1.1.1.1.1.0 parts.1.1.1.1.1.1))
constructor_begins class (suc m) x (inr (inr (inr (inl (parts, fits, is))))) is_built =
    let bad : built_by_factory ≡ built = sym (factory_built parts.0 parts.1.0 (constructor_name_tokens parts.1.1.0 ++ (parameters_tokens parts.1.1.1.0 ++ body_tokens parts.1.1.1.1))) ∙ ap (λ (c : Constructor). shape shapes.begun (constructor_tokens c)) is ∙ is_built in
    cc
constructor_begins class (suc m) x (inr (inr (inr (inr (parts, fits, is))))) is_built =
    let bad : built_by_factory ≡ built = sym (factory_built parts.0 parts.1.0 (constructor_name_tokens parts.1.1.0 ++ (parameters_tokens parts.1.1.1.0 ++ sign_at parts.1.1.1.1.0 s.Assign ∷ (type_tokens parts.1.1.1.1.1.0 ++ (maybe_dot_name parts.1.1.1.1.1.1.0 ++ sign_at parts.1.1.1.1.1.1.1 s.Semicolon ∷ []))))) ∙ ap (λ (c : Constructor). shape shapes.begun (constructor_tokens c)) is ∙ is_built in
    cc

-- ---- a function that begins so

abbrev Named : List ℕ → Identifier → Body → Type 0
Named class x body = (place : Place) × (x ≡ i.Name place class) × (has_no_arrow body ≡ true)

named_function : (class : List ℕ) (n : ℕ) (x : Identifier) (given : Parameters) (body : Body) → (within n).nodes.expr_nodes.parameters.Fits given → (body_of (within n).nodes.expr_nodes).Fits body → BeginsAs class (identifier_tokens x ++ (parameters_tokens given ++ body_tokens body)) → Named class x body
unfolding body_tokens
named_function class n (i.Get place) given body fits fitting begun_so = let bad : Some (tk.Word w.Get) ≡ Some tk.Identifier = begun_so.kind in absurd cc
named_function class n (i.Set place) given body fits fitting begun_so = let bad : Some (tk.Word w.Set) ≡ Some tk.Identifier = begun_so.kind in absurd cc
named_function class n (i.Name place text) given body fits (inl (inl (parts, arrow_fits, is))) begun_so = absurd (subst Fine (
    scan_append named (parameters_tokens given) (body_tokens body)
    ∙ ap (λ (z : State). scan z (body_tokens body)) ((parameters_call n).call given fits)
    ∙ ap (λ (c : Body). scan called (body_tokens c)) (sym is)
    ∙ lead_wrong called (body_tokens (t.arrow_body parts.0 parts.1.0 (Some parts.1.1))) _ _ refl refl) begun_so.fine)
named_function class n (i.Name place text) given body fits (inl (inr (block, block_fits, is))) begun_so = (place, ap (λ (c : List ℕ). i.Name place c) begun_so.lexeme, ap has_no_arrow (sym is))
named_function class n (i.Name place text) given body fits (inr (semicolon, anything, is)) begun_so = (place, ap (λ (c : List ℕ). i.Name place c) begun_so.lexeme, ap has_no_arrow (sym is))

-- ---- a member that is no constructor and has the tokens of one

not_otherwise : (x : Constructor) (ts : List Token) → constructor_tokens x ≡ ts → shape shapes.begun ts ≡ otherwise → ⊥
not_otherwise x ts same is = elim (kind_of x) [
  | with_factory e ↦ let bad : built_by_factory ≡ otherwise = sym e ∙ ap (λ (l : List Token). shape shapes.begun l) same ∙ is in cc
  | with_const e ↦ let bad : built_constant ≡ otherwise = sym e ∙ ap (λ (l : List Token). shape shapes.begun l) same ∙ is in cc
  | without e ↦ let bad : built ≡ otherwise = sym e ∙ ap (λ (l : List Token). shape shapes.begun l) same ∙ is in cc
]

module _ (class : List ℕ) (x : Constructor) (k : ℕ) (fits : (constructor_within class k).Fits x) where
  function_like : (n : ℕ) (f : Function) → (function_within external_or_none n).Fits f → constructor_tokens x ≡ function_tokens f → IsLikeConstructor class (m.Omitted, d.function_member f)
  unfolding function_tokens
  function_like zero f f_fits same = absurd f_fits
  function_like (suc n) f (parts, f_fits, is) same =
      let behind : List Token = identifier_tokens parts.1.0.1 ++ (parameters_tokens parts.1.1.0 ++ body_tokens parts.1.1.1) in
      elim (function_otherwise parts.0 parts.1.0.0 parts.1.0.1 (parameters_tokens parts.1.1.0 ++ body_tokens parts.1.1.1)) [
        | inl bare ↦
            let short : function_tokens f ≡ behind = ap function_tokens (sym is) ∙ ap (λ (e : Option Place). maybe_word e w.External ++ (maybe_result parts.1.0.0 ++ behind)) bare.0 ∙ ap (λ (y : Option ResultType). maybe_result y ++ behind) bare.1 in
            let begun_so : BeginsAs class behind = subst (BeginsAs class) (same ∙ short) (constructor_begins class k x fits (
            ap (λ (l : List Token). shape shapes.begun l) (same ∙ short) ∙ function_built parts.1.0.1 parts.1.1.0 (body_tokens parts.1.1.1))) in
            let name : Named class parts.1.0.1 parts.1.1.1 = named_function class n parts.1.0.1 parts.1.1.0 parts.1.1.1 f_fits.1.1.0 f_fits.1.1.1 begun_so in (
              name.0,
              parts.1.1.0,
              parts.1.1.1,
              name.2,
              ap (λ (c : Function). (m.Omitted, d.function_member c)) (sym is
                  ∙ ap (λ (e : Option Place). t.the_function e parts.1.0.0 parts.1.0.1 parts.1.1.0 parts.1.1.1) bare.0
                  ∙ ap (λ (y : Option ResultType). t.the_function None y parts.1.0.1 parts.1.1.0 parts.1.1.1) bare.1
                  ∙ ap (λ (y : Identifier). t.the_function None None y parts.1.1.0 parts.1.1.1) name.1),
            )
        | inr not_built ↦ absurd (not_otherwise x (function_tokens f) same (ap (λ (c : Function). shape shapes.begun (function_tokens c)) (sym is) ∙ not_built))
      ]

kind_otherwise : (p : Phrase TypeNode) (y : VariableKind) → (kind_over p).Fits y → (x : Identifier) (rest : List Token) → shape shapes.begun (kind_tokens y ++ (identifier_tokens x ++ rest)) ≡ otherwise
kind_otherwise p y (inl (place, anything, is)) x rest = ap (λ (c : VariableKind). shape shapes.begun (kind_tokens c ++ (identifier_tokens x ++ rest))) (sym is) ∙ otherwise_stays (identifier_tokens x ++ rest)
kind_otherwise p y (inr (inl (parts, fits, is))) x rest = ap (λ (c : VariableKind). shape shapes.begun (kind_tokens c ++ (identifier_tokens x ++ rest))) (sym is) ∙ otherwise_stays (maybe_type parts.1 ++ (identifier_tokens x ++ rest))
kind_otherwise p y (inr (inr (inner, fits, is))) x rest = ap (λ (c : VariableKind). shape shapes.begun (kind_tokens c ++ (identifier_tokens x ++ rest))) (sym is) ∙ type_and_name (typed_result inner) x rest

-- what stands behind a variable's name
more_otherwise : (more : List (Place × (Identifier × Value))) (semicolon : Place) → shape shapes.const_name (more_variables_tokens (more_variables more) ++ sign_at semicolon s.Semicolon ∷ []) ≡ otherwise
unfolding more_variables_tokens
more_otherwise [] semicolon = refl
more_otherwise (x ∷ xs) semicolon = otherwise_stays ((identifier_tokens x.1.0 ++ (value_tokens x.1.1 ++ more_variables_tokens (more_variables xs))) ++ sign_at semicolon s.Semicolon ∷ [])

values_otherwise : (p : Phrase Expr) (x : Value) → (after_sign s.Assign p).Fits x → (more : List (Place × (Identifier × Value))) (semicolon : Place) → shape shapes.const_name (value_tokens x ++ (more_variables_tokens (more_variables more) ++ sign_at semicolon s.Semicolon ∷ [])) ≡ otherwise
unfolding value_tokens
values_otherwise p x (inl is) more semicolon = ap (λ (c : Value). shape shapes.const_name (value_tokens c ++ (more_variables_tokens (more_variables more) ++ sign_at semicolon s.Semicolon ∷ []))) is ∙ more_otherwise more semicolon
values_otherwise p x (inr (parts, fits, is)) more semicolon = ap (λ (c : Value). shape shapes.const_name (value_tokens c ++ (more_variables_tokens (more_variables more) ++ sign_at semicolon s.Semicolon ∷ []))) (sym is)
    ∙ otherwise_stays (expr_tokens parts.1 ++ (more_variables_tokens (more_variables more) ++ sign_at semicolon s.Semicolon ∷ []))

const_otherwise : (y : Option TypeNode) (x : Identifier) (rest : List Token) → shape shapes.const_name rest ≡ otherwise → shape shapes.behind_const (maybe_type y ++ (identifier_tokens x ++ rest)) ≡ otherwise
const_otherwise None x rest ends = const_name_then x rest ends
const_otherwise (Some y) x rest ends = const_type_and_name y x rest

variables_kind_otherwise : (p : Phrase TypeNode) (y : VariableKind) → (variables_kind_over p).Fits y → (x : Identifier) (rest : List Token) → shape shapes.const_name rest ≡ otherwise → shape shapes.begun (kind_tokens y ++ (identifier_tokens x ++ rest)) ≡ otherwise
variables_kind_otherwise p y (inl fits) x rest ends = kind_otherwise p y fits x rest
variables_kind_otherwise p y (inr (parts, fits, is)) x rest ends = ap (λ (c : VariableKind). shape shapes.begun (kind_tokens c ++ (identifier_tokens x ++ rest))) (sym is) ∙ const_otherwise parts.1 x rest ends

variables_otherwise : (n : ℕ) (x : Variables) → (within n).nodes.variables.Fits x → shape shapes.begun (variables_tokens x) ≡ otherwise
unfolding within nodes_over variables_tokens
variables_otherwise zero x fits = absurd fits
variables_otherwise (suc n) x (parts, fits, is) = ap (λ (c : Variables). shape shapes.begun (variables_tokens c)) (sym is)
    ∙ variables_kind_otherwise (within n).nodes.expr_nodes.type parts.0.0 fits.0.0.0 parts.0.1 (value_tokens parts.1.0 ++ (more_variables_tokens (more_variables parts.1.1.0) ++ sign_at parts.1.1.1 s.Semicolon ∷ []))
    (values_otherwise (within n).nodes.expr_nodes.expr parts.1.0 fits.1.0 parts.1.1.0 parts.1.1.1)

-- the tokens of a member without a modifier are those of its kind
bare_tokens : (x : Modifier × MemberKind) (kind : MemberKind) → x.0 ≡ m.Omitted → kind ≡ x.1 → bare_member_tokens x ≡ member_kind_tokens kind
bare_tokens x kind omitted is = ap (λ (c : Modifier). modifier_tokens c ++ member_kind_tokens x.1) omitted ∙ ap member_kind_tokens (sym is)

of_kind : (y : Modifier × MemberKind) (kind : MemberKind) → y.0 ≡ m.Omitted → kind ≡ y.1 → (m.Omitted, kind) ≡ y
of_kind y kind omitted is = ap₂ (λ (c : Modifier) (k : MemberKind). (c, k)) (sym omitted) is

module _ (class : List ℕ) (x : Constructor) (k : ℕ) (fits : (constructor_within class k).Fits x) (n : ℕ) where
  other_like : (y : Modifier × MemberKind) → (other_member n).Fits y → constructor_tokens x ≡ bare_member_tokens y → IsLikeConstructor class y
  other_like y (inl (omitted, inl (inl (f, f_fits, is)))) same =
      subst (IsLikeConstructor class) (of_kind y (d.function_member f) omitted is) (function_like class x k fits n f f_fits (same ∙ bare_tokens y (d.function_member f) omitted is))
  other_like y (inl (omitted, inl (inr (a, a_fits, is)))) same = absurd (not_otherwise x (bare_member_tokens y) same (
      ap (λ (l : List Token). shape shapes.begun l) (bare_tokens y (d.accessor_member a) omitted is) ∙ accessor_otherwise a.external a.result_type a.kind (body_tokens a.body)))
  other_like y (inl (omitted, inr (inl (v, v_fits, is)))) same = absurd (not_otherwise x (bare_member_tokens y) same (
      ap (λ (l : List Token). shape shapes.begun l) (bare_tokens y (d.variables_member v) omitted is) ∙ variables_otherwise n v v_fits))
  other_like y (inl (omitted, inr (inr (o, o_fits, is)))) same = absurd (not_otherwise x (bare_member_tokens y) same (
      ap (λ (l : List Token). shape shapes.begun l) (bare_tokens y (d.operator_member o) omitted is) ∙ operator_otherwise o.external o.result_type o.word (operator_name_tokens o.name ++ (parameters_tokens o.parameters ++ body_tokens o.body))))
  other_like y (inr (inl ((place, anything, is), kind_fits))) same = absurd (not_otherwise x (bare_member_tokens y) same (
      ap (λ (c : Modifier). shape shapes.begun (modifier_tokens c ++ member_kind_tokens y.1)) (sym is) ∙ otherwise_stays (member_kind_tokens y.1)))
  other_like y (inr (inr ((places, anything, is), kind_fits))) same = absurd (not_otherwise x (bare_member_tokens y) same (
      ap (λ (c : Modifier). shape shapes.begun (modifier_tokens c ++ member_kind_tokens y.1)) (sym is) ∙ otherwise_stays (member_kind_tokens y.1)))

pub only_functions_construct : OnlyFunctionsConstruct
only_functions_construct class n k y x y_fits fits same = other_like class x k fits n y y_fits same

-- ---- a constructor of such a function's parts

abbrev Constructed : List ℕ → ℕ → List Token → Type 0
Constructed class n ts = (x : Constructor) × (constructor_within class n).Fits x × (constructor_tokens x ≡ ts)

abbrev like_function : List ℕ → Place → Parameters → Body → Function
like_function class place given body = t.the_function None None (i.Name place class) given body

parts_construct : (class : List ℕ) (n : ℕ) (place : Place) (given : Parameters) (body : Body) → (within n).nodes.expr_nodes.parameters.Fits given → (block_or_none (within n).nodes).Fits body → Constructed class (suc n) (function_tokens (like_function class place given body))
unfolding function_tokens
parts_construct class n place given body fits fitting =
    let name : ConstructorName = record { class = i.Name place class; name = None } in
    (d.generative None name given None body, inl ((name, (given, (None, body))), ((((i.Name place class, None), ((place, tt, refl), tt), refl)), (fits, (tt, fitting))), refl), refl)

plain_body : (inner : StmtNodes) (body : Body) → (body_of inner.expr_nodes).Fits body → has_no_arrow body ≡ true → (block_or_none inner).Fits body
plain_body inner body (inl (inl (parts, fits, is))) plain = let bad : false ≡ true = ap has_no_arrow is ∙ plain in absurd cc
plain_body inner body (inl (inr fits)) plain = inl fits
plain_body inner body (inr fits) plain = inr fits

function_constructs : (class : List ℕ) (n : ℕ) (place : Place) (given : Parameters) (body : Body) → (function_within external_or_none n).Fits (like_function class place given body) → has_no_arrow body ≡ true → Constructed class n (function_tokens (like_function class place given body))
function_constructs class zero place given body fits plain = absurd fits
function_constructs class (suc n) place given body (parts, fits, is) plain =
    let same_given : parts.1.1.0 ≡ given = cc in
    let same_body : parts.1.1.1 ≡ body = cc in
    parts_construct class n place given body (subst (within n).nodes.expr_nodes.parameters.Fits same_given fits.1.1.0)
    (plain_body (within n).nodes body (subst (body_of (within n).nodes.expr_nodes).Fits same_body fits.1.1.1) plain)

-- such a function among the other members is one that fits
function_of : (n : ℕ) (f : Function) → (other_member n).Fits (m.Omitted, d.function_member f) → (function_within external_or_none n).Fits f
function_of n f (inl (omitted, inl (inl (g, fits, is)))) = let same : g ≡ f = cc in subst (function_within external_or_none n).Fits same fits
function_of n f (inl (omitted, inl (inr (a, fits, is)))) = absurd cc
function_of n f (inl (omitted, inr (inl (v, fits, is)))) = absurd cc
function_of n f (inl (omitted, inr (inr (o, fits, is)))) = absurd cc
function_of n f (inr (inl ((place, anything, is), fits))) = absurd cc
function_of n f (inr (inr ((places, anything, is), fits))) = absurd cc

pub like_ones_construct : LikeOnesConstruct
like_ones_construct class n y fits (place, given, body, plain, is) =
    let f : Function = like_function class place given body in
    let found : Constructed class n (function_tokens f) = function_constructs class n place given body (function_of n f (subst (other_member n).Fits is fits)) plain in
    (found.0, found.1, found.2 ∙ ap bare_member_tokens (sym is))

-- where no constructor of one depth has the tokens of another member, none of another depth has
pub still_alone : (class : List ℕ) (n k : ℕ) (y : Modifier × MemberKind) → (other_member n).Fits y → Alone bare_member_tokens (constructor_member n class).Fits y → Alone bare_member_tokens (constructor_member k class).Fits y
still_alone class n k y fits alone z (omitted, (x, x_fits, is)) same =
    let like : IsLikeConstructor class y = only_functions_construct class n k y x fits x_fits (sym (bare_tokens z (d.constructor_member x) omitted is) ∙ same) in
    let found : Constructed class n (bare_member_tokens y) = like_ones_construct class n y fits like in
    alone (m.Omitted, d.constructor_member found.0) (refl, (found.0, found.1, refl)) found.2
