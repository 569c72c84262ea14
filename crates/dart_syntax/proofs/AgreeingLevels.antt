-- The levels of operators, and expressions over them, agree with their tokens.
use Rattle.std.proofs.Common.{ℕ, zero, suc, Bool, List, [], ◌∷◌, length, refl, append_assoc, flat_map}
use Rattle.std.proofs.lemmas.List.{append-nil}
use Rattle.grammar_laws.specs.Fronts.{both_spelling}
use Rattle.dart_token.specs.declared.sign.Sign.{Sign}
use Rattle.dart_token.specs.declared.sign.Sign.TheVariants as s
use Rattle.dart_token.specs.declared.word.Word.TheVariants as w
use Rattle.dart_tree.specs.LeafTokens.{operator_tokens}
use Rattle.dart_tree.specs.Tree as t
use Rattle.dart_tree.specs.Tree.{Expr, Operand, Primary}
use Rattle.dart_tree.specs.declared.operator.Operator.{Operator}
use Rattle.dart_tree.specs.Tokens.{expr_tokens, operand_tokens, primary_tokens, selector_tokens}
use Rattle.dart_syntax.specs.Phrases.{Phrase, made, such}
use Rattle.dart_syntax.specs.Expressions.{ExprNodes, Levels, primary_assigns, ends_in_target, type_takes_names, cascaded_over, expr_over, without_over, primary_of, selected_over, prefixed, once, chain, shifting, postfix_over, target_of, unary_over, Row, chained, shifts, single, comparison, logical, choice, no_row, rows, row_at, row_over, rows_over, levels_over, flat_levels}
use Rattle.dart_syntax.specs.Levels.{sign_level}
use Rattle.dart_syntax.specs.Edges.{dots, question, compares, opens_dot, opens_nothing, leaves, leaves_less, primary_leaves, leaves_cascade}
use Rattle.dart_syntax.specs.Agreement.{Agrees, ExprsAgree, LevelsAgree, section_tokens}
use Rattle.dart_syntax.proofs.Agreeing.{exactly_agrees, no_room_agrees, seq_agrees, seq_if_agrees, opt_agrees, many_agrees, some_if_agrees, either_agrees, made_agrees, such_agrees}
use Rattle.dart_syntax.proofs.AgreeingTypes.{sign_agrees, word_agrees, creation_agrees, dot_name_agrees}
use Rattle.dart_syntax.proofs.AgreeingExpressions.{atom_agrees, one_of_agrees, said_sign, said_selectors, said_cascades, said_tails, strings_agree, member_agrees, bracketed_agrees, selector_agrees, assigning_agrees}

pub primary_agrees : {here : ExprNodes} → ExprsAgree here → Agrees primary_tokens (primary_of here)
unfolding primary_tokens
primary_agrees H = either_agrees (made_agrees primary_tokens t.atom atom_agrees (λ x fits. refl))
    (either_agrees (made_agrees primary_tokens t.text (strings_agree H.expr) (λ x fits. refl))
    (either_agrees (made_agrees primary_tokens _ (seq_agrees (word_agrees w.Super) (selector_agrees H)) (λ x fits. refl))
    (either_agrees (made_agrees primary_tokens _ (seq_agrees creation_agrees (such_agrees type_takes_names (seq_agrees H.type (seq_agrees (opt_agrees dot_name_agrees) H.arguments)))) (λ x fits. refl))
    (either_agrees (made_agrees primary_tokens _ (seq_agrees (sign_agrees s.LeftParenthesis) (seq_agrees H.expr (sign_agrees s.RightParenthesis))) (λ x fits. refl))
    H.literal))))

-- ---- nodes of operators

module _ {operator : Phrase Operator} (O : Agrees operator_tokens operator) {operand : Phrase Operand} (P : Agrees operand_tokens operand) where
  pub prefixed_agrees : Agrees operand_tokens (prefixed operator operand)
  unfolding operand_tokens
  prefixed_agrees = made_agrees operand_tokens _ (seq_agrees O P) (λ x fits. refl)

  pub once_agrees : (may : Operand → Bool) {first : Phrase Operand} → Agrees operand_tokens first → Agrees operand_tokens (once may first operator operand)
  unfolding operand_tokens
  once_agrees may F = made_agrees operand_tokens _ (seq_if_agrees F (seq_agrees O P) may) (λ x fits. simp append-nil)

  pub chain_agrees : (next : ℕ) {first : Phrase Operand} → Agrees operand_tokens first → Agrees operand_tokens (chain next first operator operand)
  unfolding operand_tokens
  chain_agrees next F = made_agrees operand_tokens _ (seq_if_agrees F (some_if_agrees (seq_agrees O P) (λ x. leaves next x.1)) (leaves next)) (λ x fits. simp said_tails)

pub shifting_agrees : Agrees operator_tokens shifting
shifting_agrees = either_agrees (one_of_agrees (s.ShiftLeft ∷ [])) (made_agrees operator_tokens _ (seq_agrees (sign_agrees s.Greater) (sign_agrees s.Greater)) (λ x fits. refl))

abbrev stepping : List Sign
stepping = s.PlusPlus ∷ s.MinusMinus ∷ []

module _ {under : Levels} (U : LevelsAgree under) where
  selected_agrees : Agrees (both_spelling primary_tokens (both_spelling selector_tokens (flat_map selector_tokens))) (selected_over under)
  selected_agrees = either_agrees (seq_if_agrees U.primary (seq_agrees member_agrees (many_agrees (either_agrees member_agrees U.bracketed))) (primary_leaves opens_dot))
      (seq_if_agrees U.primary (seq_agrees U.bracketed (many_agrees (either_agrees member_agrees U.bracketed))) (primary_leaves opens_nothing))

  pub postfix_agrees : Agrees operand_tokens (postfix_over under)
  unfolding operand_tokens
  postfix_agrees = either_agrees
      (made_agrees operand_tokens _ selected_agrees (λ x fits. simp (said_selectors, append-nil)))
      (either_agrees (made_agrees operand_tokens _ (seq_if_agrees U.primary (one_of_agrees stepping) primary_assigns) (λ x fits. refl))
      (made_agrees operand_tokens _ (seq_if_agrees selected_agrees (one_of_agrees stepping) ends_in_target) (λ x fits. simp (said_selectors, append_assoc))))

  pub target_agrees : {primary : Phrase Primary} → Agrees primary_tokens primary → Agrees operand_tokens (target_of primary under)
  unfolding operand_tokens
  target_agrees P = either_agrees (made_agrees operand_tokens t.primary (such_agrees primary_assigns P) (λ x fits. refl))
      (made_agrees operand_tokens _ (such_agrees ends_in_target selected_agrees) (λ x fits. simp (said_selectors, append-nil)))

  pub unary_agrees : {bare : Phrase Operand} → Agrees operand_tokens bare → Agrees operand_tokens (unary_over bare under)
  unary_agrees B = either_agrees (prefixed_agrees (one_of_agrees (s.Minus ∷ s.Tilde ∷ [])) (either_agrees (U.row 0) B))
      (either_agrees (prefixed_agrees (one_of_agrees (s.Bang ∷ [])) (U.row 0)) (prefixed_agrees (one_of_agrees stepping) U.target))

-- ---- the rows of operators

module _ {inner : ExprNodes} (I : ExprsAgree inner) where
  row_agrees : (row : Row) {under : Phrase Operand} → Agrees operand_tokens under → Agrees operand_tokens (row_over row inner under)
  unfolding operand_tokens
  row_agrees (chained sign more) P = chain_agrees (one_of_agrees (sign ∷ more)) P (sign_level sign) (either_agrees P I.bare)
  row_agrees shifts P = chain_agrees shifting_agrees P (sign_level s.ShiftLeft) (either_agrees P I.bare)
  row_agrees (single sign more) P = once_agrees (one_of_agrees (sign ∷ more)) P (leaves (sign_level sign)) (either_agrees P I.bare)
  row_agrees comparison P = either_agrees (once_agrees (one_of_agrees (s.Less ∷ [])) P leaves_less (either_agrees P I.bare))
      (either_agrees (once_agrees (one_of_agrees (s.Greater ∷ s.LessEqual ∷ s.GreaterEqual ∷ [])) P (leaves compares) (either_agrees P I.bare))
      (either_agrees (made_agrees operand_tokens _ (seq_if_agrees P (seq_agrees (word_agrees w.Is) (seq_agrees (opt_agrees (sign_agrees s.Bang)) I.type)) (leaves compares)) (λ x fits. simp said_sign))
      (made_agrees operand_tokens _ (seq_if_agrees P (seq_agrees (word_agrees w.As) I.type) (leaves compares)) (λ x fits. refl))))
  row_agrees (logical sign) P = chain_agrees (one_of_agrees (sign ∷ [])) P (sign_level sign) P
  row_agrees choice P = made_agrees operand_tokens _ (seq_if_agrees P (seq_agrees (sign_agrees s.Question) (seq_agrees I.without (seq_agrees (sign_agrees s.Colon) I.without))) (leaves question)) (λ x fits. refl)
  row_agrees no_row P = no_room_agrees operand_tokens

  rows_agree : {unary : Phrase Operand} → Agrees operand_tokens unary → (under : ℕ → Phrase Operand) → ((i : ℕ) → Agrees operand_tokens (under i)) → (i : ℕ) → Agrees operand_tokens (rows_over unary inner under i)
  rows_agree N under U zero = N
  rows_agree N under U (suc i) = either_agrees (rows_agree N under U i) (row_agrees (row_at rows i) (U i))

-- ---- expressions

module _ {levels : Levels} (U : LevelsAgree levels) {inner : ExprNodes} (I : ExprsAgree inner) where
  pub cascaded_agrees : Agrees (both_spelling operand_tokens (flat_map section_tokens)) (cascaded_over inner levels)
  cascaded_agrees = either_agrees (seq_agrees (U.row (length rows)) (exactly_agrees (flat_map section_tokens) (flat_map inner.cascade.spelling) [] (many_agrees I.cascade).spells refl))
      (seq_if_agrees (U.row (length rows)) (some_if_agrees I.cascade leaves_cascade) (leaves dots))

  pub expr_agrees : Agrees expr_tokens (expr_over inner levels)
  unfolding expr_tokens
  expr_agrees = either_agrees (made_agrees expr_tokens _ (seq_agrees U.target (seq_agrees assigning_agrees I.expr)) (λ x fits. refl))
      (either_agrees (made_agrees expr_tokens _ cascaded_agrees (λ x fits. simp said_cascades))
      (made_agrees expr_tokens _ (seq_agrees (word_agrees w.Throw) I.expr) (λ x fits. refl)))

  pub without_agrees : Agrees expr_tokens (without_over inner levels)
  unfolding expr_tokens
  without_agrees = either_agrees (made_agrees expr_tokens _ (seq_agrees U.target (seq_agrees assigning_agrees I.without)) (λ x fits. refl))
      (either_agrees (made_agrees expr_tokens _ (U.row (length rows)) (λ x fits. append-nil (operand_tokens x)))
      (made_agrees expr_tokens _ (seq_agrees (word_agrees w.Throw) I.expr) (λ x fits. refl)))

-- ---- the levels

operand_agrees : {p : Phrase Primary} → Agrees primary_tokens p → Agrees operand_tokens (made operand_tokens t.primary p)
unfolding operand_tokens
operand_agrees P = made_agrees operand_tokens t.primary P (λ x fits. refl)

such_operand_agrees : {p : Phrase Primary} → Agrees primary_tokens p → Agrees operand_tokens (made operand_tokens t.primary (such primary_assigns p))
unfolding operand_tokens
such_operand_agrees P = made_agrees operand_tokens t.primary (such_agrees primary_assigns P) (λ x fits. refl)

pub levels_agree : (here inner : ExprNodes) (under : Levels) → ExprsAgree here → ExprsAgree inner → LevelsAgree under → LevelsAgree (levels_over here inner under)
levels_agree here inner under H I U =
    let primary : Agrees primary_tokens (levels_over here inner under).primary = primary_agrees H in
    let postfix : Agrees operand_tokens (levels_over here inner under).postfix = either_agrees (operand_agrees primary) (postfix_agrees U) in
    record {
      primary = primary;
      bracketed = bracketed_agrees H;
      target = target_agrees U primary;
      postfix = postfix;
      row = rows_agree I (either_agrees postfix (unary_agrees U I.bare)) under.row U.row;
    }

pub flat_agrees : (here : ExprNodes) → ExprsAgree here → LevelsAgree (flat_levels here)
flat_agrees here H =
    let primary : Agrees primary_tokens (primary_of here) = primary_agrees H in
    let operand : Agrees operand_tokens (made operand_tokens t.primary (primary_of here)) = operand_agrees primary in
    record {
      primary = primary;
      bracketed = bracketed_agrees H;
      target = such_operand_agrees primary;
      postfix = operand;
      row = λ i. operand;
    }
