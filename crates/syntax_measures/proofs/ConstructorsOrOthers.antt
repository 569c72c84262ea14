-- A member that is no constructor and has the tokens of one is a function whose parts make a constructor too.
use Rattle.std.proofs.Common.{◌≡◌, ◌⊎◌, List, [], ◌∷◌, ◌++◌, Option, None, Some, inl, inr, refl, ap, ◌∙◌, append_assoc}
use Rattle.dart_base.specs.declared.place.Place.{Place}
use Rattle.dart_token.specs.declared.token.Token.{Token}
use Rattle.dart_token.specs.declared.token.TokenKind.{TokenKind}
use Rattle.dart_token.specs.declared.token.TokenKind.TheVariants as tk
use Rattle.dart_token.specs.declared.sign.Sign.TheVariants as s
use Rattle.dart_token.specs.declared.word.Word.TheVariants as w
use Rattle.dart_tree.specs.declared.identifier.Identifier.{Identifier}
use Rattle.dart_tree.specs.declared.identifier.Identifier.TheVariants as i
use Rattle.dart_tree.specs.declared.identifier.DotName.{DotName}
use Rattle.dart_tree.specs.LeafTokens.{opening_bracket, closing_bracket, sign_at, word_at, maybe_word, maybe_result, maybe_dot_name, identifier_tokens, type_tokens, type_arguments_tokens, type_list_tokens}
use Rattle.dart_tree.specs.Types.{TypeNode, TypeArguments, ResultType, dynamic_type, named_type, no_types, listed_types, void_result, typed_result}
use Rattle.dart_tree.specs.declared.declaration.ConstructorName.{ConstructorName}
use Rattle.dart_tree.specs.Tree as t
use Rattle.dart_tree.specs.Tree.{Parameters}
use Rattle.dart_tree.specs.Tokens.{arguments_tokens, parameters_tokens, body_tokens, parameter_list_tokens}
use Rattle.dart_tree.specs.Unit as d
use Rattle.dart_tree.specs.Unit.{Constructor}
use Rattle.dart_tree.specs.UnitTokens.{tokens_if, initializers_tokens, constructor_name_tokens, accessor_kind_tokens, constructor_tokens}

-- ---- the tokens that matter

pub data Part : Type 0 where
  name : Part
  dot : Part
  left : Part
  external : Part
  factory : Part
  constant : Part
  other : Part

abbrev pub part_of : TokenKind → Part
part_of tk.Identifier = name
part_of (tk.Word w.Get) = name
part_of (tk.Word w.Set) = name
part_of (tk.Word w.External) = external
part_of (tk.Word w.Factory) = factory
part_of (tk.Word w.Const) = constant
part_of (tk.Sign s.Dot) = dot
part_of (tk.Sign s.LeftParenthesis) = left
part_of x = other

-- ---- how a constructor begins

pub data Shape : Type 0 where
  begun : Shape
  behind_external : Shape
  behind_name : Shape
  behind_dot : Shape
  behind_second : Shape
  built : Shape
  built_by_factory : Shape
  behind_const : Shape
  const_name : Shape
  const_dot : Shape
  const_second : Shape
  built_constant : Shape
  otherwise : Shape

abbrev pub build : Shape → Part → Shape
build begun name = behind_name
build begun external = behind_external
build begun factory = built_by_factory
build begun constant = behind_const
build begun x = otherwise
build behind_external factory = built_by_factory
build behind_external x = otherwise
build behind_name left = built
build behind_name dot = behind_dot
build behind_name x = otherwise
build behind_dot name = behind_second
build behind_dot x = otherwise
build behind_second left = built
build behind_second x = otherwise
build behind_const name = const_name
build behind_const x = otherwise
build const_name left = built_constant
build const_name dot = const_dot
build const_name x = otherwise
build const_dot name = const_second
build const_dot x = otherwise
build const_second left = built_constant
build const_second x = otherwise
build built_constant x = built_constant
build built x = built
build built_by_factory x = built_by_factory
build otherwise x = otherwise

abbrev pub shape : Shape → List Token → Shape
shape z [] = z
shape z (x ∷ xs) = shape (build z (part_of x.kind)) xs

built_stays : (xs : List Token) → shape built xs ≡ built
built_stays [] = refl
built_stays (x ∷ xs) = built_stays xs

pub otherwise_stays : (xs : List Token) → shape otherwise xs ≡ otherwise
otherwise_stays [] = refl
otherwise_stays (x ∷ xs) = otherwise_stays xs

name_then : (x : Identifier) (z : Shape) (rest : List Token) → shape z (identifier_tokens x ++ rest) ≡ shape (build z name) rest
name_then (i.Name place text) z rest = refl
name_then (i.Get place) z rest = refl
name_then (i.Set place) z rest = refl

factory_stays : (xs : List Token) → shape built_by_factory xs ≡ built_by_factory
factory_stays [] = refl
factory_stays (x ∷ xs) = factory_stays xs

parameters_built : (z : Shape) → build z left ≡ built → (x : Parameters) (rest : List Token) → shape z (parameters_tokens x ++ rest) ≡ built
unfolding parameters_tokens
parameters_built z is (t.the_parameters opening required brackets optional closing) rest =
    ap (λ (y : Shape). shape y ((parameter_list_tokens required ++ (opening_bracket brackets ++ (parameter_list_tokens optional ++ (closing_bracket brackets ++ sign_at closing s.RightParenthesis ∷ [])))) ++ rest)) is
    ∙ built_stays ((parameter_list_tokens required ++ (opening_bracket brackets ++ (parameter_list_tokens optional ++ (closing_bracket brackets ++ sign_at closing s.RightParenthesis ∷ [])))) ++ rest)

pub function_built : (x : Identifier) (given : Parameters) (rest : List Token) → shape begun (identifier_tokens x ++ (parameters_tokens given ++ rest)) ≡ built
function_built x given rest = name_then x begun (parameters_tokens given ++ rest) ∙ parameters_built behind_name refl given rest

dotted_built : (o : Option DotName) (given : Parameters) (rest : List Token) → shape behind_name (maybe_dot_name o ++ (parameters_tokens given ++ rest)) ≡ built
dotted_built None given rest = parameters_built behind_name refl given rest
dotted_built (Some x) given rest = name_then x.name behind_dot (parameters_tokens given ++ rest) ∙ parameters_built behind_second refl given rest

named_built : (x : ConstructorName) (given : Parameters) (rest : List Token) → shape begun (constructor_name_tokens x ++ (parameters_tokens given ++ rest)) ≡ built
named_built x given rest = ap (λ (l : List Token). shape begun l) (append_assoc (identifier_tokens x.class) (maybe_dot_name x.name) (parameters_tokens given ++ rest))
    ∙ name_then x.class begun (maybe_dot_name x.name ++ (parameters_tokens given ++ rest)) ∙ dotted_built x.name given rest

constant_stays : (xs : List Token) → shape built_constant xs ≡ built_constant
constant_stays [] = refl
constant_stays (x ∷ xs) = constant_stays xs

parameters_constant : (z : Shape) → build z left ≡ built_constant → (x : Parameters) (rest : List Token) → shape z (parameters_tokens x ++ rest) ≡ built_constant
unfolding parameters_tokens
parameters_constant z is (t.the_parameters opening required brackets optional closing) rest =
    ap (λ (y : Shape). shape y ((parameter_list_tokens required ++ (opening_bracket brackets ++ (parameter_list_tokens optional ++ (closing_bracket brackets ++ sign_at closing s.RightParenthesis ∷ [])))) ++ rest)) is
    ∙ constant_stays ((parameter_list_tokens required ++ (opening_bracket brackets ++ (parameter_list_tokens optional ++ (closing_bracket brackets ++ sign_at closing s.RightParenthesis ∷ [])))) ++ rest)

dotted_constant : (o : Option DotName) (given : Parameters) (rest : List Token) → shape const_name (maybe_dot_name o ++ (parameters_tokens given ++ rest)) ≡ built_constant
dotted_constant None given rest = parameters_constant const_name refl given rest
dotted_constant (Some x) given rest = name_then x.name const_dot (parameters_tokens given ++ rest) ∙ parameters_constant const_second refl given rest

pub constant_built : (x : ConstructorName) (given : Parameters) (rest : List Token) → shape behind_const (constructor_name_tokens x ++ (parameters_tokens given ++ rest)) ≡ built_constant
constant_built x given rest = ap (λ (l : List Token). shape behind_const l) (append_assoc (identifier_tokens x.class) (maybe_dot_name x.name) (parameters_tokens given ++ rest))
    ∙ name_then x.class behind_const (maybe_dot_name x.name ++ (parameters_tokens given ++ rest)) ∙ dotted_constant x.name given rest

-- with a factory's word, with `const`, or with neither
pub data Kind : Constructor → Type 0 where
  with_factory : {x : Constructor} → shape begun (constructor_tokens x) ≡ built_by_factory → Kind x
  with_const : {x : Constructor} → shape begun (constructor_tokens x) ≡ built_constant → Kind x
  without : {x : Constructor} → shape begun (constructor_tokens x) ≡ built → Kind x

pub factory_built : (external_word : Option Place) (word : Place) (rest : List Token) → shape begun (maybe_word external_word w.External ++ word_at word w.Factory ∷ rest) ≡ built_by_factory
factory_built None word rest = factory_stays rest
factory_built (Some place) word rest = factory_stays rest

pub kind_of : (x : Constructor) → Kind x
kind_of (d.generative None x given inits body) = without (named_built x given (tokens_if initializers_tokens inits ++ body_tokens body))
kind_of (d.generative (Some word) x given inits body) = with_const (constant_built x given (tokens_if initializers_tokens inits ++ body_tokens body))
kind_of (d.redirecting x given colon this another handed semicolon) = without (named_built x given (sign_at colon s.Colon ∷ word_at this w.This ∷ (maybe_dot_name another ++ (arguments_tokens handed ++ sign_at semicolon s.Semicolon ∷ []))))
kind_of (d.factory external_word word x given body) = with_factory (factory_built external_word word (constructor_name_tokens x ++ (parameters_tokens given ++ body_tokens body)))
kind_of (d.redirecting_factory external_word word x given equals target another semicolon) = with_factory (factory_built external_word word (constructor_name_tokens x ++ (parameters_tokens given ++ sign_at equals s.Assign ∷ (type_tokens target ++ (maybe_dot_name another ++ sign_at semicolon s.Semicolon ∷ [])))))

-- ---- what other members begin with

lead : (z : Shape) (t : Token) (ts : List Token) → build z (part_of t.kind) ≡ otherwise → shape z (t ∷ ts) ≡ otherwise
lead z t ts is = ap (λ (y : Shape). shape y ts) is ∙ otherwise_stays ts

module _ (t : Token) (ts : List Token) (first : build behind_name (part_of t.kind) ≡ otherwise) (then : build behind_second (part_of t.kind) ≡ otherwise) where
  arguments_then : (z : Shape) → build z other ≡ otherwise → build z (part_of t.kind) ≡ otherwise → (given : TypeArguments) → shape z (type_arguments_tokens given ++ t ∷ ts) ≡ otherwise
  arguments_then z angle is no_types = lead z t ts is
  arguments_then z angle is (listed_types opening listed closing) = lead z (sign_at opening s.Less) ((type_list_tokens listed ++ sign_at closing s.Greater ∷ []) ++ t ∷ ts) angle

  member_then : (o : Option DotName) (given : TypeArguments) → shape behind_name (maybe_dot_name o ++ (type_arguments_tokens given ++ t ∷ ts)) ≡ otherwise
  member_then None given = arguments_then behind_name refl first given
  member_then (Some x) given = name_then x.name behind_dot (type_arguments_tokens given ++ t ∷ ts) ∙ arguments_then behind_second refl then given

  type_then : (y : TypeNode) → shape begun (type_tokens y ++ t ∷ ts) ≡ otherwise
  type_then (dynamic_type place) = otherwise_stays (t ∷ ts)
  type_then (named_type x o given) =
      ap (λ (l : List Token). shape begun l) (append_assoc (identifier_tokens x) (maybe_dot_name o ++ type_arguments_tokens given) (t ∷ ts)
      ∙ ap (λ (l : List Token). identifier_tokens x ++ l) (append_assoc (maybe_dot_name o) (type_arguments_tokens given) (t ∷ ts)))
      ∙ name_then x begun (maybe_dot_name o ++ (type_arguments_tokens given ++ t ∷ ts)) ∙ member_then o given

  result_then : (y : ResultType) → shape begun (maybe_result (Some y) ++ t ∷ ts) ≡ otherwise
  result_then (void_result place) = otherwise_stays (t ∷ ts)
  result_then (typed_result y) = type_then y

type_external : (y : TypeNode) (rest : List Token) → shape behind_external (type_tokens y ++ rest) ≡ otherwise
type_external (dynamic_type place) rest = otherwise_stays rest
type_external (named_type x o given) rest = ap (λ (l : List Token). shape behind_external l) (append_assoc (identifier_tokens x) (maybe_dot_name o ++ type_arguments_tokens given) rest)
    ∙ name_then x behind_external ((maybe_dot_name o ++ type_arguments_tokens given) ++ rest) ∙ otherwise_stays ((maybe_dot_name o ++ type_arguments_tokens given) ++ rest)

result_external : (y : Option ResultType) (t : Token) (ts : List Token) → build behind_external (part_of t.kind) ≡ otherwise → shape behind_external (maybe_result y ++ t ∷ ts) ≡ otherwise
result_external None t ts is = lead behind_external t ts is
result_external (Some (void_result place)) t ts is = otherwise_stays (t ∷ ts)
result_external (Some (typed_result y)) t ts is = type_external y (t ∷ ts)

-- behind `const`
const_arguments : (z : Shape) → build z other ≡ otherwise → (t : Token) (ts : List Token) → build z (part_of t.kind) ≡ otherwise → (given : TypeArguments) → shape z (type_arguments_tokens given ++ t ∷ ts) ≡ otherwise
const_arguments z angle t ts is no_types = lead z t ts is
const_arguments z angle t ts is (listed_types opening listed closing) = lead z (sign_at opening s.Less) ((type_list_tokens listed ++ sign_at closing s.Greater ∷ []) ++ t ∷ ts) angle

const_type_then : (t : Token) (ts : List Token) → build const_name (part_of t.kind) ≡ otherwise → build const_second (part_of t.kind) ≡ otherwise → (y : TypeNode) → shape behind_const (type_tokens y ++ t ∷ ts) ≡ otherwise
const_type_then t ts first then (dynamic_type place) = otherwise_stays (t ∷ ts)
const_type_then t ts first then (named_type x None given) =
    ap (λ (l : List Token). shape behind_const l) (append_assoc (identifier_tokens x) (type_arguments_tokens given) (t ∷ ts))
    ∙ name_then x behind_const (type_arguments_tokens given ++ t ∷ ts) ∙ const_arguments const_name refl t ts first given
const_type_then t ts first then (named_type x (Some o) given) =
    ap (λ (l : List Token). shape behind_const l) (append_assoc (identifier_tokens x) (maybe_dot_name (Some o) ++ type_arguments_tokens given) (t ∷ ts)
    ∙ ap (λ (l : List Token). identifier_tokens x ++ l) (append_assoc (maybe_dot_name (Some o)) (type_arguments_tokens given) (t ∷ ts)))
    ∙ name_then x behind_const (maybe_dot_name (Some o) ++ (type_arguments_tokens given ++ t ∷ ts))
    ∙ name_then o.name const_dot (type_arguments_tokens given ++ t ∷ ts) ∙ const_arguments const_second refl t ts then given

-- a first token, for the three kinds of names
named_by : (P : List Token → Type 0) → ((t : Token) (ts : List Token) → part_of t.kind ≡ name → P (t ∷ ts)) → (x : Identifier) (rest : List Token) → P (identifier_tokens x ++ rest)
named_by P each (i.Name place text) rest = each _ rest refl
named_by P each (i.Get place) rest = each _ rest refl
named_by P each (i.Set place) rest = each _ rest refl

pub type_and_name : (y : ResultType) (x : Identifier) (rest : List Token) → shape begun (maybe_result (Some y) ++ (identifier_tokens x ++ rest)) ≡ otherwise
type_and_name y x rest = named_by (λ l. shape begun (maybe_result (Some y) ++ l) ≡ otherwise) (λ t ts is. result_then t ts (ap (λ (c : Part). build behind_name c) is) (ap (λ (c : Part). build behind_second c) is) y) x rest

pub const_type_and_name : (y : TypeNode) (x : Identifier) (rest : List Token) → shape behind_const (type_tokens y ++ (identifier_tokens x ++ rest)) ≡ otherwise
const_type_and_name y x rest = named_by (λ l. shape behind_const (type_tokens y ++ l) ≡ otherwise) (λ t ts is. const_type_then t ts (ap (λ (c : Part). build const_name c) is) (ap (λ (c : Part). build const_second c) is) y) x rest

-- a name of which no parenthesis and no dot follows
pub const_name_then : (x : Identifier) (rest : List Token) → shape const_name rest ≡ otherwise → shape behind_const (identifier_tokens x ++ rest) ≡ otherwise
const_name_then x rest is = name_then x behind_const rest ∙ is

external_and_name : (y : Option ResultType) (x : Identifier) (rest : List Token) → shape behind_external (maybe_result y ++ (identifier_tokens x ++ rest)) ≡ otherwise
external_and_name y x rest = named_by (λ l. shape behind_external (maybe_result y ++ l) ≡ otherwise) (λ t ts is. result_external y t ts (ap (λ (c : Part). build behind_external c) is)) x rest

-- a function without `external` and without a result is the only other member that begins as a constructor does
pub function_otherwise : (e : Option Place) (y : Option ResultType) (x : Identifier) (rest : List Token) → ((e ≡ None) × (y ≡ None)) ⊎ (shape begun (maybe_word e w.External ++ (maybe_result y ++ (identifier_tokens x ++ rest))) ≡ otherwise)
function_otherwise None None x rest = inl (refl, refl)
function_otherwise None (Some y) x rest = inr (type_and_name y x rest)
function_otherwise (Some place) y x rest = inr (external_and_name y x rest)

pub accessor_otherwise : (e : Option Place) (y : Option ResultType) (x : d.AccessorKind) (rest : List Token) → shape begun (maybe_word e w.External ++ (maybe_result y ++ (accessor_kind_tokens x ++ rest))) ≡ otherwise
unfolding parameters_tokens
accessor_otherwise None None (d.getter place x) rest = name_then x behind_name rest ∙ otherwise_stays rest
accessor_otherwise None None (d.setter place x given) rest = ap (λ (l : List Token). shape behind_name l) (append_assoc (identifier_tokens x) (parameters_tokens given) rest) ∙ name_then x behind_name (parameters_tokens given ++ rest) ∙ otherwise_stays (parameters_tokens given ++ rest)
accessor_otherwise None (Some y) (d.getter place x) rest = result_then (word_at place w.Get) (identifier_tokens x ++ rest) refl refl y
accessor_otherwise None (Some y) (d.setter place x given) rest = result_then (word_at place w.Set) ((identifier_tokens x ++ parameters_tokens given) ++ rest) refl refl y
accessor_otherwise (Some at) y (d.getter place x) rest = result_external y (word_at place w.Get) (identifier_tokens x ++ rest) refl
accessor_otherwise (Some at) y (d.setter place x given) rest = result_external y (word_at place w.Set) ((identifier_tokens x ++ parameters_tokens given) ++ rest) refl

pub operator_otherwise : (e : Option Place) (y : Option ResultType) (place : Place) (rest : List Token) → shape begun (maybe_word e w.External ++ (maybe_result y ++ word_at place w.Operator ∷ rest)) ≡ otherwise
operator_otherwise None None place rest = otherwise_stays rest
operator_otherwise None (Some y) place rest = result_then (word_at place w.Operator) rest refl refl y
operator_otherwise (Some at) y place rest = result_external y (word_at place w.Operator) rest refl
