-- Parameters and arguments go exactly as far as the parenthesis that closes the one that they begin with.
use Rattle.std.proofs.Common.{◌≡◌, ◌⊎◌, ℕ, zero, suc, List, [], ◌∷◌, ◌++◌, inl, inr, refl, sym, ap, ◌∙◌, subst, append_assoc}
use Rattle.std.proofs.lemmas.List.{append-nil}
use Rattle.dart_base.specs.declared.place.Place.{Place}
use Rattle.dart_token.specs.declared.token.Token.{Token}
use Rattle.dart_token.specs.declared.sign.Sign.TheVariants as s
use Rattle.dart_tree.specs.LeafTokens.{sign_at}
use Rattle.dart_tree.specs.Tree as t
use Rattle.dart_tree.specs.Tree.{Arguments, Parameters}
use Rattle.dart_tree.specs.Tokens.{arguments_tokens, parameters_tokens, items_tokens}
use Rattle.grammar_laws.specs.Fronts.{Front, Joint}
use Rattle.grammar_laws.specs.Readers.{always}
use Rattle.dart_syntax.specs.Phrases.{◌~◌, Anything, LeafFront}
use Rattle.dart_syntax.specs.Leaves.{sign, sign_tokens}
use Rattle.dart_syntax.specs.Expressions.{ExprNodes, argument_items, arguments_over}
use Rattle.dart_syntax.specs.Statements.{StmtNodes, parameters_over, nodes_over, within}
use Rattle.dart_syntax.proofs.AgreeingStages.{within_agrees}
use Rattle.syntax_readers.specs.Combinators.{behind_open, behind_brackets}
use Rattle.syntax_measures.specs.Relations.{ExprsRelate}
use Rattle.syntax_measures.proofs.BracketKinds.{parentheses}
use Rattle.syntax_measures.proofs.WalkExpressions.{walk_argument_items}
use Rattle.laws_expr.proofs.Enclosed.{Encloses, spelled_even, encloses, encloses_walk, right_step, within_encloses}
use Rattle.laws_expr.proofs.Bracketed.{parameters_bracketed}
use Rattle.laws_apart.proofs.Rows.{Brackets}

abbrev Opened : List Token → Type 0
Opened ts = (place : Place) × (more : List Token) × (ts ≡ sign_at place s.LeftParenthesis ∷ more)

left_starts : {second : Front Token} (ts : List Token) → Joint (sign_tokens s.LeftParenthesis) Anything always
    (LeafFront (sign_tokens s.LeftParenthesis)) second ts →
    (ts ≡ []) ⊎ Opened ts
left_starts ts (inl (inl e)) = inl e
left_starts ts (inl (inr (place, e))) = inr (place, [], e)
left_starts ts (inr (place, more, fits, on, e, f)) = inr (place, more, e)

-- ---- parameters

parameters_open : (x : Parameters) → Opened (parameters_tokens x)
unfolding parameters_tokens
parameters_open (t.the_parameters opening required brackets optional closing) = (opening, _, refl)

parameters_start : (inner : StmtNodes) (ts : List Token) → (parameters_over inner).front ts → (ts ≡ []) ⊎ Opened ts
parameters_start inner ts (inl f) = left_starts ts f
parameters_start inner ts (inr (inl f)) = left_starts ts f
parameters_start inner ts (inr (inr f)) = left_starts ts f

parameters_start_at : (n : ℕ) (ts : List Token) → (within n).nodes.expr_nodes.parameters.front ts → (ts ≡ []) ⊎ Opened ts
unfolding within nodes_over
parameters_start_at zero ts e = inl e
parameters_start_at (suc n) ts f = parameters_start (within n).nodes ts f

-- ---- arguments

arguments_open : (x : Arguments) → Opened (arguments_tokens x)
unfolding arguments_tokens
arguments_open (t.the_arguments opening items closing) = (opening, _, refl)

module _ (n : ℕ) {inner : ExprNodes} (I : ExprsRelate (encloses n) inner inner) where
  items_enclose : Encloses items_tokens (argument_items inner)
  items_enclose = walk_argument_items encloses_walk {m = n} I

  closed_end : (ts : List Token) → (sign s.RightParenthesis).front ts → behind_open 1 ts ≡ []
  closed_end ts (inl e) = ap (behind_open 1) e
  closed_end ts (inr (place, e)) = ap (behind_open 1) e ∙ right_step parentheses place 0 []

  items_end : (ts : List Token) → (argument_items inner ~ sign s.RightParenthesis).front ts → behind_open 1 ts ≡ []
  items_end ts (inl f) = ap (behind_open 1) (sym (append-nil ts)) ∙ (items_enclose.begins ts f 0).1 []
  items_end ts (inr (items, more, fits, on, e, f)) = ap (behind_open 1) e ∙ spelled_even items_enclose items fits 0 more ∙ closed_end more f

  arguments_begin : (ts : List Token) → (arguments_over inner).front ts → behind_brackets ts ≡ []
  arguments_begin ts (inl (inl e)) = ap behind_brackets e
  arguments_begin ts (inl (inr (place, e))) = ap behind_brackets e
  arguments_begin ts (inr (place, more, fits, on, e, f)) = ap behind_brackets e ∙ items_end more f

  arguments_end : (x : Arguments) → (arguments_over inner).Fits x → (rest : List Token) → behind_brackets (arguments_tokens x ++ rest) ≡ rest
  unfolding arguments_tokens
  arguments_end x ((opening, (items, closing)), fits, is) rest = subst (λ (y : Arguments). behind_brackets (arguments_tokens y ++ rest) ≡ rest) is
      (ap (behind_open 1) (append_assoc (items_tokens items) (sign_at closing s.RightParenthesis ∷ []) rest)
      ∙ items_enclose.within items fits.1.0 0 (sign_at closing s.RightParenthesis ∷ rest) ∙ right_step parentheses closing 0 rest)

arguments_start_at : (n : ℕ) (ts : List Token) → (within n).nodes.expr_nodes.arguments.front ts → (ts ≡ []) ⊎ Opened ts
unfolding within nodes_over
arguments_start_at zero ts e = inl e
arguments_start_at (suc n) ts f = left_starts ts f

arguments_begin_at : (n : ℕ) (ts : List Token) → (within n).nodes.expr_nodes.arguments.front ts → behind_brackets ts ≡ []
unfolding within nodes_over
arguments_begin_at zero ts e = ap behind_brackets e
arguments_begin_at (suc n) ts f = arguments_begin n (within_encloses n).nodes.expr_nodes ts f

arguments_end_at : (n : ℕ) (x : Arguments) → (within n).nodes.expr_nodes.arguments.Fits x → (rest : List Token) → behind_brackets
    (arguments_tokens x ++ rest) ≡ rest
unfolding within nodes_over
arguments_end_at zero x fits rest = absurd fits
arguments_end_at (suc n) x fits rest = arguments_end n (within_encloses n).nodes.expr_nodes x fits rest

pub brackets : Brackets
brackets = record {
  parameters = λ n. record {
    same = (within_agrees n).nodes.expr_nodes.parameters.spells;
    opens = parameters_open;
    starts = parameters_start_at n;
    ends = (parameters_bracketed n).ends;
    begins = (parameters_bracketed n).begins;
  };
  arguments = λ n. record {
    same = (within_agrees n).nodes.expr_nodes.arguments.spells;
    opens = arguments_open;
    starts = arguments_start_at n;
    ends = arguments_end_at n;
    begins = arguments_begin_at n;
  };
}
