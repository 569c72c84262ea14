-- Where types and results lead.
use Rattle.std.proofs.Common.{◌≡◌, ℕ, zero, suc, Bool, true, false, List, [], ◌∷◌, ◌++◌, Option, None, Some, inl, inr, refl, ap, ◌∙◌, subst}
use Rattle.dart_base.specs.declared.place.Place.{Place}
use Rattle.dart_token.specs.declared.token.Token.{Token}
use Rattle.dart_token.specs.declared.token.TokenKind.TheVariants as tk
use Rattle.dart_token.specs.declared.sign.Sign.TheVariants as s
use Rattle.dart_token.specs.declared.word.Word.TheVariants as w
use Rattle.dart_tree.specs.declared.identifier.Identifier.{Identifier}
use Rattle.dart_tree.specs.declared.identifier.Identifier.TheVariants as i
use Rattle.dart_tree.specs.declared.identifier.DotName.{DotName}
use Rattle.dart_tree.specs.LeafTokens.{word_at, identifier_tokens, dot_name_tokens, type_tokens, type_arguments_tokens, type_list_tokens, result_tokens}
use Rattle.dart_tree.specs.Types.{TypeNode, TypeArguments, TypeList, ResultType, dynamic_type, named_type, void_result, typed_result}
use Rattle.grammar_laws.specs.Fronts.{both_spelling, option_spelling}
use Rattle.grammar_laws.proofs.Codes.{clash}
use Rattle.dart_syntax.specs.Phrases.{Phrase, ◌~◌, opt}
use Rattle.dart_syntax.specs.Leaves.{sign, sign_tokens, dot_name}
use Rattle.dart_syntax.specs.Types.{type_list, in_angles, types, type_arguments, type_over, type_within, result_over, is_no_accessor, result_leaves_name}
use Rattle.dart_syntax.specs.Statements.{within, nodes_over}
use Rattle.dart_syntax.proofs.AgreeingTypes.{said_more, said_angles, types_within_agree}
use Rattle.laws_apart.proofs.Judges.{through_both, through_none, through_more, none_leads, the_sign, the_word, an_identifier, seq_leads, either_leads}
use Rattle.laws_apart.proofs.Judges.{opt_leads, made_leads, many_leads, eased, absorbs, dot_name_leads}
use Rattle.laws_choice.proofs.Judging.{dynamic_word, dot, less, greater, comma, State, begun, lone, typing, typed, calling, accessing, holding}
use Rattle.laws_choice.proofs.Judging.{aliased, named, listing, listed, closed, resulting, bare, among, outside, under, included}
use Rattle.laws_choice.proofs.Leading.{Through, Leads, one_through, leap, leap_name, judging}

-- ---- a type, by where it begins and where it leads: behind its name, behind a dot there, behind `<`, behind a comma, behind each argument
-- and at last

abbrev Given : Type 0
Given = Place × (TypeList × Place)

abbrev given : Phrase TypeNode → Phrase Given
given p = sign s.Less ~ types p ~ sign s.Greater

abbrev given_tokens : Given → List Token
given_tokens = both_spelling (sign_tokens s.Less) (both_spelling type_list_tokens (sign_tokens s.Greater))

module _ (fine m o again k g : State → Bool) {p : Phrase TypeNode} where
  given_leads : leap fine m less o ≡ true → leap fine k comma again ≡ true → leap fine k greater g ≡ true → Leads fine o k type_tokens p →
      Leads fine again k type_tokens p → Leads fine m g given_tokens (given p)
  given_leads opens more closes I J = seq_leads (the_sign fine m o s.Less opens) (seq_leads
      (made_leads (seq_leads I (many_leads (seq_leads (the_sign fine k again s.Comma more) J))) type_list_tokens type_list
      (λ x. ap (λ l. type_tokens x.0 ++ l) (said_more x.1)))
      (the_sign fine k g s.Greater closes))

  angles_lead : leap fine m less o ≡ true → leap fine k comma again ≡ true → leap fine k greater g ≡ true → under m g ≡ true →
      Leads fine o k type_tokens p → Leads fine again k type_tokens p →
      Leads fine m g type_arguments_tokens (type_arguments (types p))
  angles_lead opens more closes sub I J = made_leads (opt_leads (given_leads opens more closes I J) (included m g sub))
      type_arguments_tokens in_angles said_angles

module _ (fine f m d o again k g : State → Bool) {p : Phrase TypeNode} where
  type_leads : leap fine f dynamic_word g ≡ true → leap_name fine f m ≡ true → leap fine m dot d ≡ true → leap_name fine d m ≡ true →
      leap fine m less o ≡ true → leap fine k comma again ≡ true → leap fine k greater g ≡ true → under m g ≡ true → Leads fine o k type_tokens p →
      Leads fine again k type_tokens p → Leads fine f g type_tokens (type_over p)
  type_leads alone first dots member opens more closes sub I J = either_leads
      (made_leads (the_word fine f g w.Dynamic alone) type_tokens dynamic_type (λ x. refl))
      (made_leads (seq_leads (an_identifier fine f m first)
      (seq_leads (opt_leads (dot_name_leads fine m d m dots member) (λ z h. h)) (angles_lead fine m o again k g opens more closes sub I J))) type_tokens _
      (λ x. refl))

-- ---- types that a declaration begins with

-- what no type leads to
abbrev pub type_fine : State → Bool
type_fine = outside (calling ∷ accessing ∷ holding ∷ [])

abbrev pub at_begin : State → Bool
at_begin = among (begun ∷ [])

abbrev at_lone : State → Bool
at_lone = among (lone ∷ [])

abbrev at_typing : State → Bool
at_typing = among (typing ∷ [])

abbrev pub at_typed : State → Bool
at_typed = among (typed ∷ [])

abbrev pub lone_or_typed : State → Bool
lone_or_typed = among (lone ∷ typed ∷ [])

inner_types : (n : ℕ) → Leads type_fine at_typing at_typed type_tokens (type_within n)
unfolding type_within
inner_types zero = none_leads type_fine at_typing at_typed type_tokens refl
inner_types (suc n) = type_leads type_fine at_typing at_typed at_typing at_typing at_typing at_typed at_typed refl refl refl refl refl refl refl refl
    (inner_types n) (inner_types n)

module _ {p : Phrase TypeNode} (D : Leads type_fine at_typing at_typed type_tokens p) where
  first_type : Leads type_fine at_begin lone_or_typed type_tokens (type_over p)
  first_type = type_leads type_fine at_begin lone_or_typed at_typing at_typing at_typing at_typed lone_or_typed refl refl refl refl refl refl refl refl D D

  arguments_lead : Leads type_fine at_typed at_typed type_arguments_tokens (type_arguments (types p))
  arguments_lead = angles_lead type_fine at_typed at_typing at_typing at_typed at_typed refl refl refl refl D D

  tail_leads : Leads type_fine at_typed at_typed (both_spelling (option_spelling dot_name_tokens) type_arguments_tokens)
      (opt dot_name ~ type_arguments (types p))
  tail_leads = seq_leads (opt_leads (dot_name_leads type_fine at_typed at_typing at_typed refl refl) (λ z h. h)) arguments_lead

  -- behind `get` or `set` goes what makes it more than that
  lone_dot : Leads type_fine at_lone at_typed dot_name_tokens dot_name
  lone_dot = dot_name_leads type_fine at_lone at_typing at_typed refl refl

  lone_given : Leads type_fine at_lone at_typed given_tokens (given p)
  lone_given = given_leads type_fine at_lone at_typing at_typing at_typed at_typed refl refl refl D D

  -- one that is not just `get` or `set` leads to a smaller set
  parts_narrow : (name : Identifier) (member : Option DotName) (x : Option Given) → (opt dot_name).Fits member → (opt (given p)).Fits x →
      is_no_accessor (named_type name member (in_angles x)) ≡ true → (z : State) → at_begin z ≡ true → Through at_typed z
      (type_tokens (named_type name member (in_angles x)))
  parts_narrow (i.Name place text) member x dotted fits h z from = through_both judging at_typed at_typed z (identifier_tokens (i.Name place text))
      (both_spelling (option_spelling dot_name_tokens) type_arguments_tokens (member, in_angles x))
      (one_through at_begin at_typed (record { kind = tk.Identifier; place = place; lexeme = text }) refl z from)
      (tail_leads.ends (member, in_angles x) (dotted, (x, fits, refl)))
  parts_narrow (i.Get place) None None dotted fits h z from = clash false h refl
  parts_narrow (i.Get place) None (Some y) dotted fits h z from = through_both judging at_lone at_typed z (identifier_tokens (i.Get place)) (given_tokens y)
      (one_through at_begin at_lone (word_at place w.Get) refl z from) (lone_given.ends y fits)
  parts_narrow (i.Get place) (Some member) x dotted fits h z from = through_both judging at_lone at_typed z (identifier_tokens (i.Get place))
      (dot_name_tokens member ++ type_arguments_tokens (in_angles x)) (one_through at_begin at_lone (word_at place w.Get) refl z from)
      (λ y at. through_both judging at_typed at_typed y (dot_name_tokens member) (type_arguments_tokens (in_angles x)) (lone_dot.ends member dotted y at)
      (arguments_lead.ends (in_angles x) (x, fits, refl)))
  parts_narrow (i.Set place) None None dotted fits h z from = clash false h refl
  parts_narrow (i.Set place) None (Some y) dotted fits h z from = through_both judging at_lone at_typed z (identifier_tokens (i.Set place)) (given_tokens y)
      (one_through at_begin at_lone (word_at place w.Set) refl z from) (lone_given.ends y fits)
  parts_narrow (i.Set place) (Some member) x dotted fits h z from = through_both judging at_lone at_typed z (identifier_tokens (i.Set place))
      (dot_name_tokens member ++ type_arguments_tokens (in_angles x)) (one_through at_begin at_lone (word_at place w.Set) refl z from)
      (λ y at. through_both judging at_typed at_typed y (dot_name_tokens member) (type_arguments_tokens (in_angles x)) (lone_dot.ends member dotted y at)
      (arguments_lead.ends (in_angles x) (x, fits, refl)))

  type_narrow : (x : TypeNode) → (type_over p).Fits x → is_no_accessor x ≡ true → (z : State) → at_begin z ≡ true → Through at_typed z (type_tokens x)
  type_narrow x (inl (place, fits, is)) h z from = subst (λ (c : TypeNode). Through at_typed z (type_tokens c)) is
      (one_through at_begin at_typed (word_at place w.Dynamic) refl z from)
  type_narrow x (inr ((name, (member, arguments)), (fits, (dotted, (y, inner, e))), is)) h z from =
      let same : named_type name member (in_angles y) ≡ x = ap (λ (c : TypeArguments). named_type name member c) e ∙ is in
      subst (λ (c : TypeNode). Through at_typed z (type_tokens c)) same (parts_narrow name member y dotted inner (ap is_no_accessor same ∙ h) z from)

-- ---- results of aliases

-- what no alias with a result leads to
abbrev pub result_fine : State → Bool
result_fine = outside (bare ∷ [])

abbrev pub at_aliased : State → Bool
at_aliased = among (aliased ∷ [])

abbrev pub at_resulting : State → Bool
at_resulting = among (resulting ∷ [])

abbrev pub behind_result : State → Bool
behind_result = among (named ∷ closed ∷ resulting ∷ [])

abbrev named_or_resulting : State → Bool
named_or_resulting = among (named ∷ resulting ∷ [])

abbrev listing_or_resulting : State → Bool
listing_or_resulting = among (listing ∷ resulting ∷ [])

abbrev listed_or_resulting : State → Bool
listed_or_resulting = among (listed ∷ resulting ∷ [])

resulting_types : (n : ℕ) → Leads result_fine at_resulting at_resulting type_tokens (type_within n)
resulting_types n = absorbs result_fine at_resulting refl (types_within_agree n)

listing_types : (n : ℕ) → Leads result_fine listing_or_resulting listed_or_resulting type_tokens (type_within n)
unfolding type_within
listing_types zero = none_leads result_fine listing_or_resulting listed_or_resulting type_tokens refl
listing_types (suc n) = type_leads result_fine listing_or_resulting listed_or_resulting at_resulting at_resulting at_resulting at_resulting listed_or_resulting
    refl refl refl refl refl refl refl refl (resulting_types n) (resulting_types n)

aliased_types : (n : ℕ) → Leads result_fine at_aliased behind_result type_tokens (type_within n)
unfolding type_within
aliased_types zero = none_leads result_fine at_aliased behind_result type_tokens refl
aliased_types (suc n) = type_leads result_fine at_aliased named_or_resulting at_resulting listing_or_resulting listing_or_resulting listed_or_resulting
    behind_result refl refl refl refl refl refl refl refl (listing_types n) (listing_types n)

-- ---- of a phrase of types, all of that

pub record TypesLead (p : Phrase TypeNode) : Type 0 where
  pub first : Leads type_fine at_begin lone_or_typed type_tokens p
  pub narrow : (x : TypeNode) → p.Fits x → is_no_accessor x ≡ true → (z : State) → at_begin z ≡ true → Through at_typed z (type_tokens x)
  pub result : Leads result_fine at_aliased behind_result type_tokens p

types_lead_within : (n : ℕ) → TypesLead (type_within (suc n))
unfolding type_within
types_lead_within n = record { first = first_type (inner_types n); narrow = type_narrow (inner_types n); result = aliased_types (suc n) }

pub types_lead : (n : ℕ) → TypesLead (within n).nodes.expr_nodes.type
unfolding within nodes_over
types_lead zero = record {
  first = none_leads type_fine at_begin lone_or_typed type_tokens refl;
  narrow = λ x fits h z from. absurd fits;
  result = none_leads result_fine at_aliased behind_result type_tokens refl;
}
types_lead (suc n) = types_lead_within n

-- ---- a result or none before a name

abbrev pub any_result : State → Bool
any_result = among (begun ∷ lone ∷ typed ∷ [])

abbrev pub begun_or_typed : State → Bool
begun_or_typed = among (begun ∷ typed ∷ [])

module _ {p : Phrase TypeNode} (T : TypesLead p) where
  pub result_leads : Leads type_fine at_begin any_result (option_spelling result_tokens) (opt (result_over p))
  result_leads = opt_leads (either_leads (made_leads (the_word type_fine at_begin any_result w.Void refl) result_tokens void_result (λ x. refl))
      (made_leads (eased T.first type_fine at_begin any_result refl) result_tokens typed_result (λ x. refl))) (included at_begin any_result refl)

  -- one that leaves a name
  pub result_narrow : (x : Option ResultType) → (opt (result_over p)).Fits x → result_leaves_name x ≡ true → (z : State) → at_begin z ≡ true →
      Through begun_or_typed z (option_spelling result_tokens x)
  result_narrow None fits h z from = through_none judging begun_or_typed z [] (included at_begin begun_or_typed refl z from) refl
  result_narrow (Some x) (inl (place, fits, is)) h z from = subst (λ (c : ResultType). Through begun_or_typed z (result_tokens c)) is
      (one_through at_begin begun_or_typed (word_at place w.Void) refl z from)
  result_narrow (Some x) (inr (y, fits, is)) h z from = subst (λ (c : ResultType). Through begun_or_typed z (result_tokens c)) is
      (through_more judging at_typed begun_or_typed refl z (type_tokens y)
      (T.narrow y fits (ap (λ (c : ResultType). result_leaves_name (Some c)) is ∙ h) z from))

  pub aliased_result_leads : Leads result_fine at_aliased behind_result result_tokens (result_over p)
  aliased_result_leads = either_leads (made_leads (the_word result_fine at_aliased behind_result w.Void refl) result_tokens void_result (λ x. refl))
      (made_leads T.result result_tokens typed_result (λ x. refl))
