-- Operands are nowhere wrong as expressions, from the beginning and behind a name and `<`.
use Rattle.std.proofs.Common.{◌≡◌, ◌⊎◌, ℕ, suc, Bool, true, false, List, [], ◌∷◌, ◌++◌, ◌&&◌, Option, None, Some, inl, inr, refl, sym, ap, ◌∙◌, subst}
use Rattle.grammar_laws.specs.Fronts.{Front, Made}
use Rattle.dart_base.specs.declared.place.Place.{Place}
use Rattle.dart_token.specs.declared.token.Token.{Token}
use Rattle.dart_token.specs.declared.sign.Sign.{Sign}
use Rattle.dart_token.specs.declared.sign.Sign.TheVariants as s
use Rattle.dart_tree.specs.declared.identifier.Identifier.{Identifier}
use Rattle.dart_tree.specs.declared.identifier.Identifier.TheVariants as i
use Rattle.dart_tree.specs.declared.identifier.DotName.{DotName}
use Rattle.dart_tree.specs.declared.operator.Operator.{Operator}
use Rattle.dart_tree.specs.declared.expression.Atom.{Atom}
use Rattle.dart_tree.specs.declared.expression.Atom.TheVariants as a
use Rattle.dart_tree.specs.declared.expression.Creation.{Creation}
use Rattle.dart_tree.specs.declared.expression.Creation.TheVariants as c
use Rattle.dart_tree.specs.declared.expression.PieceKind.TheVariants as pk
use Rattle.dart_tree.specs.LeafTokens.{sign_at, maybe_sign, maybe_dot_name, type_tokens, type_arguments_tokens, type_list_tokens, opening_bracket, closing_bracket, identifier_tokens, atom_tokens, operator_tokens}
use Rattle.dart_tree.specs.Types.{TypeNode, TypeArguments, TypeList, dynamic_type, named_type, no_types, listed_types, no_more_types, type_more}
use Rattle.dart_tree.specs.Tree as t
use Rattle.dart_tree.specs.Tree.{Expr, Operand, Selector, Pieces, Arguments, Parameters}
use Rattle.dart_tree.specs.Tokens.{expr_tokens, items_tokens, primary_tokens, operand_tokens, selector_tokens, selectors_tokens, arguments_tokens, parameters_tokens, pieces_tokens, tails_tokens, entries_tokens, body_tokens, value_tokens, parameter_list_tokens}
use Rattle.dart_syntax.specs.Phrases.{Phrase, ◌~◌, ◌<|>◌, many, some, some_if, either}
use Rattle.dart_syntax.specs.Edges.{leaves}
use Rattle.dart_syntax.specs.Leaves.{creation_tokens, one_of}
use Rattle.dart_syntax.specs.Expressions.{ExprNodes, to_tails, to_selectors, append_pieces, joined, join_pieces, middles, one_string, strings, literal_over, member, bracketed_of, primary_of, prefixed, chain, shifting}
use Rattle.syntax_measures.proofs.Scanning.{State, Class, name, declaring, constant, const_begun, typed, typed_dotted, angles, dot, less, greater, left, other, begun, named, compared, second, called, free, step, scan, scan_append, free_stays, sign_class, both_true}
use Rattle.syntax_measures.proofs.Calling.{Calls}

-- ---- where operands begin and end

-- what begins an operand and is no name
abbrev pub opens : Class → Bool
opens name = false
opens declaring = false
opens constant = false
opens x = true

-- from this state operands end in these
pub record Entry (from : State) (End : State → Type 0) : Type 0 where
  pub free_end : End free
  pub name_end : End (step from name)
  pub opened : (c : Class) → opens c ≡ true → step from c ≡ free
  pub dotted_end : (z : State) → End z → End (step (step z dot) name)
  pub freed : (z : State) → End z → step z other ≡ free
  pub shifted : (z : State) → End z → step (step z greater) greater ≡ free
  pub constant_leads : (step from constant ≡ const_begun) ⊎ (step from constant ≡ free)
  pub called_end : (z : State) → End z → (x : Arguments) → scan named (arguments_tokens x) ≡ called → End (scan z (arguments_tokens x))

abbrev pub Tight : State → Type 0
Tight named = Unit {0}
Tight called = Unit {0}
Tight free = Unit {0}
Tight z = ⊥

abbrev pub Second : State → Type 0
Second second = Unit {0}
Second free = Unit {0}
Second z = ⊥

begun_opened : (c : Class) → opens c ≡ true → step begun c ≡ free
begun_opened name ok = let bad : false ≡ true = ok in cc
begun_opened declaring ok = let bad : false ≡ true = ok in cc
begun_opened constant ok = let bad : false ≡ true = ok in cc
begun_opened c ok = refl

compared_opened : (c : Class) → opens c ≡ true → step compared c ≡ free
compared_opened name ok = let bad : false ≡ true = ok in cc
compared_opened declaring ok = let bad : false ≡ true = ok in cc
compared_opened constant ok = let bad : false ≡ true = ok in cc
compared_opened c ok = refl

tight_dotted : (z : State) → Tight z → Tight (step (step z dot) name)
tight_dotted named tight = tt
tight_dotted called tight = tt
tight_dotted free tight = tt
tight_dotted z tight = absurd tight

tight_freed : (z : State) → Tight z → step z other ≡ free
tight_freed named tight = refl
tight_freed called tight = refl
tight_freed free tight = refl
tight_freed z tight = absurd tight

tight_shifted : (z : State) → Tight z → step (step z greater) greater ≡ free
tight_shifted named tight = refl
tight_shifted called tight = refl
tight_shifted free tight = refl
tight_shifted z tight = absurd tight

tight_called : (z : State) → Tight z → (x : Arguments) → scan named (arguments_tokens x) ≡ called → Tight (scan z (arguments_tokens x))
unfolding arguments_tokens
tight_called named tight x call = subst Tight (sym call) tt
tight_called called tight (t.the_arguments opening items closing) call = subst Tight (sym (free_stays (items_tokens items ++ sign_at closing s.RightParenthesis ∷ []))) tt
tight_called free tight x call = subst Tight (sym (free_stays (arguments_tokens x))) tt
tight_called z tight x call = absurd tight

pub from_begun : Entry begun Tight
from_begun = record { free_end = tt; name_end = tt; opened = begun_opened; dotted_end = tight_dotted; freed = tight_freed; shifted = tight_shifted; constant_leads = inl refl; called_end = tight_called }

second_dotted_end : (z : State) → Second z → Second (step (step z dot) name)
second_dotted_end second ends = tt
second_dotted_end free ends = tt
second_dotted_end z ends = absurd ends

second_freed : (z : State) → Second z → step z other ≡ free
second_freed second ends = refl
second_freed free ends = refl
second_freed z ends = absurd ends

second_shifted : (z : State) → Second z → step (step z greater) greater ≡ free
second_shifted second ends = refl
second_shifted free ends = refl
second_shifted z ends = absurd ends

second_called : (z : State) → Second z → (x : Arguments) → scan named (arguments_tokens x) ≡ called → Second (scan z (arguments_tokens x))
unfolding arguments_tokens
second_called second ends (t.the_arguments opening items closing) call = subst Second (sym (free_stays (items_tokens items ++ sign_at closing s.RightParenthesis ∷ []))) tt
second_called free ends x call = subst Second (sym (free_stays (arguments_tokens x))) tt
second_called z ends x call = absurd ends

pub from_compared : Entry compared Second
from_compared = record { free_end = tt; name_end = tt; opened = compared_opened; dotted_end = second_dotted_end; freed = second_freed; shifted = second_shifted; constant_leads = inr refl; called_end = second_called }

-- ---- what ends there

-- the tokens of each tree that fits lead from this state to one of these
pub record Scans (from : State) (End : State → Type 0) {A : Type 0} (tokens : A → List Token) (p : Phrase A) : Type 0 where
  pub ends : (a : A) → p.Fits a → End (scan from (tokens a))

made_ends : {A B : Type 0} (from : State) (End : State → Type 0) (tokens : B → List Token) (f : A → B) (Fits : A → Type 0) → ((a : A) → Fits a → End (scan from (tokens (f a)))) → (b : B) → Made f Fits b → End (scan from (tokens b))
made_ends from End tokens f Fits ends b (a, fits, is) = subst (λ c. End (scan from (tokens c))) is (ends a fits)

pub made_scans : {A B : Type 0} {from : State} {End : State → Type 0} {f : A → B} {Fits : A → Type 0} {front : Front Token} (tokens : B → List Token) → ((a : A) → Fits a → End (scan from (tokens (f a)))) → Scans from End tokens (record { spelling = tokens; Fits = Made f Fits; front = front })
made_scans {from = from} {End = End} {f = f} {Fits = Fits} tokens ends = record { ends = made_ends from End tokens f Fits ends }

module _ {from : State} {End : State → Type 0} {A : Type 0} {tokens : A → List Token} {p q : Phrase A} (P : Scans from End tokens p) (Q : Scans from End tokens q) where
  either_ends : (a : A) → (either p q).Fits a → End (scan from (tokens a))
  either_ends a (inl fits) = P.ends a fits
  either_ends a (inr fits) = Q.ends a fits

  pub either_scans : Scans from End tokens (either p q)
  either_scans = record { ends = either_ends }

pub one_name : (x : Identifier) (z : State) → scan z (identifier_tokens x) ≡ step z name
one_name (i.Name place text) z = refl
one_name (i.Get place) z = refl
one_name (i.Set place) z = refl

-- ---- behind `const`

member_stays : (x : Option DotName) (k : ℕ) → scan (angles k) (maybe_dot_name x) ≡ angles k
member_stays None k = refl
member_stays (Some x) k = one_name x.name (angles k)

mutual
  type_stays : (x : TypeNode) (k : ℕ) → scan (angles k) (type_tokens x) ≡ angles k
  type_stays (dynamic_type place) k = refl
  type_stays (named_type x o given) k = scan_append (angles k) (identifier_tokens x) (maybe_dot_name o ++ type_arguments_tokens given)
      ∙ ap (λ (z : State). scan z (maybe_dot_name o ++ type_arguments_tokens given)) (one_name x (angles k))
      ∙ scan_append (angles k) (maybe_dot_name o) (type_arguments_tokens given)
      ∙ ap (λ (z : State). scan z (type_arguments_tokens given)) (member_stays o k)
      ∙ arguments_stay given k

  arguments_stay : (x : TypeArguments) (k : ℕ) → scan (angles k) (type_arguments_tokens x) ≡ angles k
  arguments_stay no_types k = refl
  arguments_stay (listed_types opening listed closing) k = scan_append (angles (suc k)) (type_list_tokens listed) (sign_at closing s.Greater ∷ [])
      ∙ ap (λ (z : State). scan z (sign_at closing s.Greater ∷ [])) (list_stays listed (suc k))

  list_stays : (x : TypeList) (k : ℕ) → scan (angles k) (type_list_tokens x) ≡ angles k
  list_stays no_more_types k = refl
  list_stays (type_more None x more) k = scan_append (angles k) (type_tokens x) (type_list_tokens more) ∙ ap (λ (z : State). scan z (type_list_tokens more)) (type_stays x k) ∙ list_stays more k
  list_stays (type_more (Some comma) x more) k = scan_append (angles k) (type_tokens x) (type_list_tokens more) ∙ ap (λ (z : State). scan z (type_list_tokens more)) (type_stays x k) ∙ list_stays more k

-- a type is behind it
member_typed : (x : Option DotName) → scan typed (maybe_dot_name x) ≡ typed
member_typed None = refl
member_typed (Some x) = one_name x.name typed_dotted

arguments_typed : (x : TypeArguments) → scan typed (type_arguments_tokens x) ≡ typed
arguments_typed no_types = refl
arguments_typed (listed_types opening listed closing) = scan_append (angles 0) (type_list_tokens listed) (sign_at closing s.Greater ∷ [])
    ∙ ap (λ (z : State). scan z (sign_at closing s.Greater ∷ [])) (list_stays listed 0)

pub type_typed : (x : TypeNode) → scan const_begun (type_tokens x) ≡ typed
type_typed (dynamic_type place) = refl
type_typed (named_type x o given) = scan_append const_begun (identifier_tokens x) (maybe_dot_name o ++ type_arguments_tokens given)
    ∙ ap (λ (z : State). scan z (maybe_dot_name o ++ type_arguments_tokens given)) (one_name x const_begun)
    ∙ scan_append typed (maybe_dot_name o) (type_arguments_tokens given)
    ∙ ap (λ (z : State). scan z (type_arguments_tokens given)) (member_typed o)
    ∙ arguments_typed given

given_free : (x : Arguments) → scan typed (arguments_tokens x) ≡ free
unfolding arguments_tokens
given_free (t.the_arguments opening items closing) = free_stays (items_tokens items ++ sign_at closing s.RightParenthesis ∷ [])

object_free : (y : TypeNode) (o : Option DotName) (given : Arguments) → scan const_begun (type_tokens y ++ (maybe_dot_name o ++ arguments_tokens given)) ≡ free
object_free y o given = scan_append const_begun (type_tokens y) (maybe_dot_name o ++ arguments_tokens given)
    ∙ ap (λ (z : State). scan z (maybe_dot_name o ++ arguments_tokens given)) (type_typed y)
    ∙ scan_append typed (maybe_dot_name o) (arguments_tokens given)
    ∙ ap (λ (z : State). scan z (arguments_tokens given)) (member_typed o)
    ∙ given_free given

-- ---- operators of other signs than those that matter

abbrev pub is_other : Class → Bool
is_other other = true
is_other x = false

abbrev pub all_other : List Sign → Bool
all_other [] = true
all_other (x ∷ xs) = is_other (sign_class x) && all_other xs

class_other : (c : Class) → is_other c ≡ true → c ≡ other
class_other other ok = refl
class_other c ok = let bad : false ≡ true = ok in cc

pub operator_other : (xs : List Sign) → all_other xs ≡ true → (x : Operator) → (one_of xs).Fits x → (z : State) → scan z (operator_tokens x) ≡ step z other
operator_other [] all x fits z = absurd fits
operator_other (y ∷ ys) all x (inl (place, anything, is)) z = ap (λ (c : Operator). scan z (operator_tokens c)) (sym is) ∙ ap (λ (c : Class). step z c) (class_other (sign_class y) (both_true (is_other (sign_class y)) (all_other ys) all).0)
operator_other (y ∷ ys) all x (inr fits) z = operator_other ys (both_true (is_other (sign_class y)) (all_other ys) all).1 x fits z

-- behind an operand such an operator leads to where anything may come
pub record Frees (End : State → Type 0) (p : Phrase Operator) : Type 0 where
  pub frees : (x : Operator) → p.Fits x → (z : State) → End z → scan z (operator_tokens x) ≡ free

-- ---- operands

module _ {from : State} {End : State → Type 0} (E : Entry from End) where
  -- what begins with another token than a name
  pub opened_end : (c : Class) → opens c ≡ true → (rest : List Token) → End (scan (step from c) rest)
  opened_end c ok rest = subst End (sym (ap (λ (z : State). scan z rest) (E.opened c ok) ∙ free_stays rest)) E.free_end

  pub other_frees : (xs : List Sign) → all_other xs ≡ true → Frees End (one_of xs)
  other_frees xs all = record { frees = λ x fits z ends. operator_other xs all x fits z ∙ E.freed z ends }

  shift_freed : (x : Operator) → shifting.Fits x → (z : State) → End z → scan z (operator_tokens x) ≡ free
  shift_freed x (inl fits) z ends = operator_other (s.ShiftLeft ∷ []) refl x fits z ∙ E.freed z ends
  shift_freed x (inr (places, anything, is)) z ends = ap (λ (c : Operator). scan z (operator_tokens c)) (sym is) ∙ E.shifted z ends

  pub shifting_frees : Frees End shifting
  shifting_frees = record { frees = shift_freed }

  -- behind an operand and an operator
  pub behind : (p : Phrase Operand) (o : Phrase Operator) → Scans from End operand_tokens p → Frees End o → (x : Operand) (y : Operator) (rest : List Token) → p.Fits x → o.Fits y → End (scan from (operand_tokens x ++ (operator_tokens y ++ rest)))
  behind p o P O x y rest fits fits_too = subst End (sym (
      scan_append from (operand_tokens x) (operator_tokens y ++ rest)
      ∙ scan_append (scan from (operand_tokens x)) (operator_tokens y) rest
      ∙ ap (λ (z : State). scan z rest) (O.frees y fits_too (scan from (operand_tokens x)) (P.ends x fits))
      ∙ free_stays rest)) E.free_end

  pub prefixed_scans : (xs : List Sign) → all_other xs ≡ true → (operand : Phrase Operand) → Scans from End operand_tokens (prefixed (one_of xs) operand)
  unfolding operand_tokens
  prefixed_scans xs all operand = made_scans operand_tokens (λ x fits. subst End (sym (
      scan_append from (operator_tokens x.0) (operand_tokens x.1)
      ∙ ap (λ (z : State). scan z (operand_tokens x.1)) (operator_other xs all x.0 fits.0 from ∙ E.opened other refl)
      ∙ free_stays (operand_tokens x.1))) E.free_end)

  module _ {first : Phrase Operand} {operator : Phrase Operator} (F : Scans from End operand_tokens first) (O : Frees End operator) (operand : Phrase Operand) where
    chain_end : (next : ℕ) (x : Operand) (more : List (Operator × Operand)) → first.Fits x → (some_if (λ y. leaves next y.1) (operator ~ operand)).Fits more → End (scan from (operand_tokens x ++ tails_tokens (to_tails more)))
    unfolding tails_tokens
    chain_end next x [] fits more_fit = let bad : true ≡ false = more_fit.0 in absurd cc
    chain_end next x (y ∷ ys) fits more_fit = behind first operator F O x y.0 (operand_tokens y.1 ++ tails_tokens (to_tails ys)) fits more_fit.1.0.0

    pub chain_scans : (next : ℕ) → Scans from End operand_tokens (chain next first operator operand)
    unfolding operand_tokens
    chain_scans next = made_scans operand_tokens (λ x fits. chain_end next x.0 x.1 fits.0.0 fits.1)

  -- ---- selectors

  -- what stands behind `[`
  abbrev behind_bracket : Place × (Expr × Place) → List Token
  behind_bracket x = expr_tokens x.1.0 ++ sign_at x.1.1 s.RightBracket ∷ []

  pub member_end : (x : Selector) → member.Fits x → (z : State) → End z → End (scan z (selector_tokens x))
  unfolding selector_tokens
  member_end x (parts, fits, is) z ends = subst (λ (c : Selector). End (scan z (selector_tokens c))) is (subst End (sym (one_name parts.1 (step z dot))) (E.dotted_end z ends))

  pub bracketed_end : (n : ExprNodes) → Calls arguments_tokens n.arguments → (x : Selector) → (bracketed_of n).Fits x → (z : State) → End z → End (scan z (selector_tokens x))
  unfolding selector_tokens
  bracketed_end n C x (inl (parts, fits, is)) z ends = subst (λ (c : Selector). End (scan z (selector_tokens c))) is (subst End (sym (ap (λ (y : State). scan y (behind_bracket parts)) (E.freed z ends) ∙ free_stays (behind_bracket parts))) E.free_end)
  bracketed_end n C x (inr (given, fits, is)) z ends = subst (λ (c : Selector). End (scan z (selector_tokens c))) is (E.called_end z ends given (C.call given fits))

  module _ (p : Phrase Selector) (each : (x : Selector) → p.Fits x → (z : State) → End z → End (scan z (selector_tokens x))) where
    pub any_selector_end : (x : Selector) → (member <|> p).Fits x → (z : State) → End z → End (scan z (selector_tokens x))
    any_selector_end x (inl fits) z ends = member_end x fits z ends
    any_selector_end x (inr fits) z ends = each x fits z ends

    pub selectors_end : (xs : List Selector) → (many (member <|> p)).Fits xs → (z : State) → End z → End (scan z (selectors_tokens (to_selectors xs)))
    unfolding selectors_tokens
    selectors_end [] fits z ends = ends
    selectors_end (x ∷ xs) fits z ends = subst End (sym (scan_append z (selector_tokens x) (selectors_tokens (to_selectors xs)))) (selectors_end xs fits.1 (scan z (selector_tokens x)) (any_selector_end x fits.0 z ends))

  -- ---- primaries

  one_string_end : (n : ExprNodes) (x rest : Pieces) → (one_string n.expr).Fits x → End (scan from (pieces_tokens (append_pieces x rest)))
  unfolding pieces_tokens
  one_string_end n x rest (inl (parts, fits, is)) = subst (λ (c : Pieces). End (scan from (pieces_tokens (append_pieces c rest)))) is (opened_end other refl (pieces_tokens rest))
  one_string_end n x rest (inr (parts, fits, is)) = subst (λ (c : Pieces). End (scan from (pieces_tokens (append_pieces c rest)))) is
      (opened_end other refl (value_tokens (t.given None parts.0.1) ++ pieces_tokens (append_pieces (middles parts.1.0 (t.piece pk.Tail parts.1.1.0 parts.1.1.1 t.omitted t.no_pieces)) rest)))

  strings_end : (n : ExprNodes) (x : Pieces × List Pieces) → (some (one_string n.expr)).Fits x → End (scan from (pieces_tokens (join_pieces x)))
  strings_end n x fits = one_string_end n x.0 (joined x.1) fits.0

  parameters_end : (x : Parameters) (rest : List Token) → End (scan from (parameters_tokens x ++ rest))
  unfolding parameters_tokens
  parameters_end (t.the_parameters opening required brackets optional closing) rest = opened_end left refl ((parameter_list_tokens required ++ (opening_bracket brackets ++ (parameter_list_tokens optional ++ (closing_bracket brackets ++ sign_at closing s.RightParenthesis ∷ [])))) ++ rest)

  -- type arguments or none, before a bracket
  literal_end : (x : TypeArguments) (place : Place) (which : Sign) → opens (sign_class which) ≡ true → (rest : List Token) → End (scan from (type_arguments_tokens x ++ sign_at place which ∷ rest))
  literal_end no_types place which ok rest = opened_end (sign_class which) ok rest
  literal_end (listed_types opening listed closing) place which ok rest = opened_end less refl ((type_list_tokens listed ++ sign_at closing s.Greater ∷ []) ++ sign_at place which ∷ rest)

  pub literal_scans : (n : ExprNodes) → Scans from End primary_tokens (literal_over n)
  unfolding primary_tokens
  literal_scans n = either_scans (made_scans primary_tokens (λ x fits. literal_end x.0 x.1.0 s.LeftBracket refl (items_tokens x.1.1.0.0 ++ (maybe_sign x.1.1.0.1 s.Comma ++ sign_at x.1.1.1 s.RightBracket ∷ []))))
      (either_scans (made_scans primary_tokens (λ x fits. literal_end x.0 x.1.0 s.LeftBrace refl (entries_tokens x.1.1.0.0 ++ (maybe_sign x.1.1.0.1 s.Comma ++ sign_at x.1.1.1 s.RightBrace ∷ []))))
      (made_scans primary_tokens (λ x fits. parameters_end x.0 (body_tokens x.1))))

  atom_end : (x : Atom) → End (scan from (atom_tokens x))
  atom_end (a.This place) = opened_end other refl []
  atom_end (a.Null place) = opened_end other refl []
  atom_end (a.True place) = opened_end other refl []
  atom_end (a.False place) = opened_end other refl []
  atom_end (a.Integer place digits) = opened_end other refl []
  atom_end (a.Name x) = subst End (sym (one_name x from)) E.name_end

  -- an object that is made: `new`, or `const` with a type and what makes it
  object_end : (x : Creation) (y : TypeNode) (o : Option DotName) (given : Arguments) → End (scan from (creation_tokens x ++ (type_tokens y ++ (maybe_dot_name o ++ arguments_tokens given))))
  object_end (c.New place) y o given = opened_end other refl (type_tokens y ++ (maybe_dot_name o ++ arguments_tokens given))
  object_end (c.Const place) y o given = elim E.constant_leads [
    | inl is ↦ subst End (sym (ap (λ (z : State). scan z (type_tokens y ++ (maybe_dot_name o ++ arguments_tokens given))) is ∙ object_free y o given)) E.free_end
    | inr is ↦ subst End (sym (ap (λ (z : State). scan z (type_tokens y ++ (maybe_dot_name o ++ arguments_tokens given))) is ∙ free_stays (type_tokens y ++ (maybe_dot_name o ++ arguments_tokens given)))) E.free_end
  ]

  text_end : (n : ExprNodes) (x : Pieces) → (strings n.expr).Fits x → End (scan from (pieces_tokens x))
  text_end n x fits = made_ends from End pieces_tokens join_pieces (some (one_string n.expr)).Fits (strings_end n) x fits

  pub primary_scans : (n : ExprNodes) → Scans from End primary_tokens n.literal → Scans from End primary_tokens (primary_of n)
  unfolding primary_tokens
  primary_scans n L = either_scans (made_scans primary_tokens (λ x fits. atom_end x))
      (either_scans (made_scans primary_tokens (λ x fits. text_end n x fits))
      (either_scans (made_scans primary_tokens (λ x fits. opened_end other refl (selector_tokens x.1)))
      (either_scans (made_scans primary_tokens (λ x fits. object_end x.0 x.1.0 x.1.1.0 x.1.1.1))
      (either_scans (made_scans primary_tokens (λ x fits. opened_end left refl (expr_tokens x.1.0 ++ sign_at x.1.1 s.RightParenthesis ∷ [])))
      L))))
