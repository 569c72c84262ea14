-- Where types and the kinds of variables lead.
use Rattle.std.proofs.Common.{◌≡◌, ℕ, zero, suc, Bool, true, [], ◌∷◌, ◌++◌, refl, ap}
use Rattle.dart_token.specs.declared.sign.Sign.TheVariants as s
use Rattle.dart_token.specs.declared.word.Word.TheVariants as w
use Rattle.dart_tree.specs.LeafTokens.{type_tokens, type_arguments_tokens, type_list_tokens, kind_tokens, result_tokens}
use Rattle.dart_tree.specs.Types.{TypeNode, dynamic_type, no_kind, var_kind, typed_kind, void_result, typed_result}
use Rattle.grammar_laws.specs.Fronts.{option_spelling}
use Rattle.dart_syntax.specs.Phrases.{Phrase, either, opt}
use Rattle.dart_syntax.specs.Types.{type_list, in_angles, types, type_arguments, type_over, type_within, result_over, kind_over, variables_kind_over}
use Rattle.dart_syntax.specs.Types.{without_kind}
use Rattle.dart_syntax.specs.Statements.{within, nodes_over}
use Rattle.dart_syntax.proofs.AgreeingTypes.{said_more, said_angles}
use Rattle.laws_apart.proofs.Telling.{dynamic, dot, less, greater, comma, State, begun, named, dotted, compared, second, second_dotted}
use Rattle.laws_apart.proofs.Telling.{closed, opened, shut, typing, typed, free, wrong, neither, among, outside, under, included}
use Rattle.laws_apart.proofs.Judges.{none_leads, empty_leads, the_sign, the_word, an_identifier, seq_leads, either_leads, opt_leads, made_leads, many_leads}
use Rattle.laws_apart.proofs.Judges.{eased, dot_name_leads}
use Rattle.laws_apart.proofs.Leading.{Leads, leap, leap_name}

-- what no kind and name leads to
abbrev pub kind_fine : State → Bool
kind_fine = outside (free ∷ wrong ∷ neither ∷ [])

-- ---- a type, by where it begins and where it leads: behind its name, behind a dot there, behind `<`, behind a comma, behind each argument
-- and at last

module _ (fine f m d o again k g : State → Bool) {p : Phrase TypeNode} where
  pub angles_lead : leap fine m less o ≡ true → leap fine k comma again ≡ true → leap fine k greater g ≡ true → under m g ≡ true →
      Leads fine o k type_tokens p → Leads fine again k type_tokens p →
      Leads fine m g type_arguments_tokens (type_arguments (types p))
  angles_lead opens more closes sub I J = made_leads
      (opt_leads (seq_leads (the_sign fine m o s.Less opens) (seq_leads
      (made_leads (seq_leads I (many_leads (seq_leads (the_sign fine k again s.Comma more) J))) type_list_tokens type_list
      (λ x. ap (λ l. type_tokens x.0 ++ l) (said_more x.1)))
      (the_sign fine k g s.Greater closes))) (included m g sub))
      type_arguments_tokens in_angles said_angles

  pub type_leads : leap fine f dynamic g ≡ true → leap_name fine f m ≡ true → leap fine m dot d ≡ true → leap_name fine d m ≡ true →
      leap fine m less o ≡ true → leap fine k comma again ≡ true → leap fine k greater g ≡ true → under m g ≡ true → Leads fine o k type_tokens p →
      Leads fine again k type_tokens p → Leads fine f g type_tokens (type_over p)
  type_leads alone first dots member opens more closes sub I J = either_leads
      (made_leads (the_word fine f g w.Dynamic alone) type_tokens dynamic_type (λ x. refl))
      (made_leads (seq_leads (an_identifier fine f m first)
      (seq_leads (opt_leads (dot_name_leads fine m d m dots member) (λ z h. h)) (angles_lead opens more closes sub I J))) type_tokens _ (λ x. refl))

-- where it leads from the first set to the second, and so do its parts
pub inner_types : (fine f g : State → Bool) → under f fine ≡ true → leap fine f dynamic g ≡ true → leap_name fine f g ≡ true → leap fine g dot f ≡ true →
    leap fine g less f ≡ true →
    leap fine g comma f ≡ true → leap fine g greater g ≡ true → under g g ≡ true → (n : ℕ) → Leads fine f g type_tokens (type_within n)
unfolding type_within
inner_types fine f g low alone first dots opens more closes sub zero = none_leads fine f g type_tokens low
inner_types fine f g low alone first dots opens more closes sub (suc n) =
    let inner = inner_types fine f g low alone first dots opens more closes sub n in
    type_leads fine f g f f f g g alone first dots first opens more closes sub inner inner

-- ---- types in declarations

abbrev pub at_begin : State → Bool
at_begin = among (begun ∷ [])

abbrev pub at_typing : State → Bool
at_typing = among (typing ∷ [])

abbrev at_typed : State → Bool
at_typed = among (typed ∷ [])

abbrev pub at_opened : State → Bool
at_opened = among (opened ∷ [])

abbrev at_shut : State → Bool
at_shut = among (shut ∷ [])

abbrev second_or_typed : State → Bool
second_or_typed = among (second ∷ typed ∷ [])

-- behind a type that a declaration begins with
abbrev pub behind_type : State → Bool
behind_type = among (named ∷ closed ∷ typed ∷ [])

declared_types : (n : ℕ) → Leads kind_fine at_typing at_typed type_tokens (type_within n)
declared_types = inner_types kind_fine at_typing at_typed refl refl refl refl refl refl refl refl

constant_types : (n : ℕ) → Leads kind_fine at_opened at_shut type_tokens (type_within n)
constant_types = inner_types kind_fine at_opened at_shut refl refl refl refl refl refl refl refl

compared_types : (n : ℕ) → Leads kind_fine (among (compared ∷ [])) second_or_typed type_tokens (type_within n)
unfolding type_within
compared_types zero = none_leads kind_fine (among (compared ∷ [])) second_or_typed type_tokens refl
compared_types (suc n) = type_leads kind_fine (among (compared ∷ [])) (among (second ∷ []))
    (among (second_dotted ∷ [])) at_typing at_typing at_typed second_or_typed
    refl refl refl refl refl refl refl refl (declared_types n) (declared_types n)

first_types : (n : ℕ) → Leads kind_fine at_begin behind_type type_tokens (type_within n)
unfolding type_within
first_types zero = none_leads kind_fine at_begin behind_type type_tokens refl
first_types (suc n) = type_leads kind_fine at_begin (among (named ∷ [])) (among (dotted ∷ [])) (among (compared ∷ [])) at_typing second_or_typed behind_type
    refl refl refl refl refl refl refl refl (compared_types n) (eased (declared_types n) kind_fine at_typing second_or_typed refl)

-- of a phrase of types, all of that
pub record TypesLead (p : Phrase TypeNode) : Type 0 where
  pub declared : Leads kind_fine at_typing at_typed type_tokens p
  pub constant : Leads kind_fine at_opened at_shut type_tokens p
  pub first : Leads kind_fine at_begin behind_type type_tokens p

pub types_lead : (n : ℕ) → TypesLead (within n).nodes.expr_nodes.type
unfolding within nodes_over
types_lead zero = record {
  declared = none_leads kind_fine at_typing at_typed type_tokens refl;
  constant = none_leads kind_fine at_opened at_shut type_tokens refl;
  first = none_leads kind_fine at_begin behind_type type_tokens refl;
}
types_lead (suc n) = record { declared = declared_types (suc n); constant = constant_types (suc n); first = first_types (suc n) }

-- ---- the kinds of variables, and results

abbrev pub behind_kind : State → Bool
behind_kind = among (named ∷ closed ∷ typed ∷ typing ∷ [])

abbrev pub behind_any_kind : State → Bool
behind_any_kind = among (begun ∷ named ∷ closed ∷ typed ∷ typing ∷ [])

abbrev pub behind_variables_kind : State → Bool
behind_variables_kind = among (named ∷ closed ∷ typed ∷ typing ∷ opened ∷ shut ∷ [])

module _ {p : Phrase TypeNode} (T : TypesLead p) where
  kind_leads : Leads kind_fine at_begin behind_kind kind_tokens (kind_over p)
  kind_leads = either_leads (made_leads (the_word kind_fine at_begin behind_kind w.Var refl) kind_tokens var_kind (λ x. refl))
      (either_leads (made_leads (seq_leads (the_word kind_fine at_begin at_typing w.Final refl)
      (opt_leads (eased T.declared kind_fine at_typing behind_kind refl) (included at_typing behind_kind refl))) kind_tokens _ (λ x. refl))
      (made_leads (eased T.first kind_fine at_begin behind_kind refl) kind_tokens typed_kind (λ x. refl)))

  -- a kind or none
  pub any_kind_leads : Leads kind_fine at_begin behind_any_kind kind_tokens (either without_kind (kind_over p))
  any_kind_leads = either_leads (empty_leads kind_fine at_begin behind_any_kind kind_tokens refl kind_tokens (λ x. refl) no_kind refl refl)
      (eased kind_leads kind_fine at_begin behind_any_kind refl)

  pub variables_kind_leads : Leads kind_fine at_begin behind_variables_kind kind_tokens (variables_kind_over p)
  variables_kind_leads = either_leads (eased kind_leads kind_fine at_begin behind_variables_kind refl)
      (made_leads (seq_leads (the_word kind_fine at_begin at_opened w.Const refl)
      (opt_leads (eased T.constant kind_fine at_opened behind_variables_kind refl) (included at_opened behind_variables_kind refl))) kind_tokens _
      (λ x. refl))

  -- a result or none
  pub result_leads : Leads kind_fine at_begin behind_any_kind (option_spelling result_tokens) (opt (result_over p))
  result_leads = opt_leads (either_leads (made_leads (the_word kind_fine at_begin behind_any_kind w.Void refl) result_tokens void_result (λ x. refl))
      (made_leads (eased T.first kind_fine at_begin behind_any_kind refl) result_tokens typed_result (λ x. refl))) (included at_begin behind_any_kind refl)
