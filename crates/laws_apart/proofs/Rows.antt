-- Where operands of each row lead, and expressions: nothing that begins one leads to where no expression is.
use Rattle.std.proofs.Common.{◌≡◌, ◌⊎◌, ℕ, zero, suc, ◌≤◌, arith, Bool, true, false, List, [], ◌∷◌, length, inl, inr, refl, sym, subst, append_assoc, flat_map}
use Rattle.std.proofs.lemmas.List.{append-nil}
use Rattle.dart_token.specs.declared.token.Token.{Token}
use Rattle.dart_token.specs.declared.sign.Sign.{Sign}
use Rattle.dart_token.specs.declared.sign.Sign.TheVariants as s
use Rattle.dart_token.specs.declared.word.Word.TheVariants as w
use Rattle.dart_tree.specs.declared.operator.Operator.{Operator}
use Rattle.dart_tree.specs.LeafTokens.{operator_tokens}
use Rattle.dart_tree.specs.Tree as t
use Rattle.dart_tree.specs.Tree.{Operand, Primary, Selector}
use Rattle.dart_tree.specs.Tokens.{expr_tokens, primary_tokens, operand_tokens, selector_tokens, arguments_tokens, parameters_tokens}
use Rattle.grammar_laws.specs.Fronts.{both_spelling}
use Rattle.dart_syntax.specs.Phrases.{Phrase, ◌~◌, ◌<|>◌, made}
use Rattle.dart_syntax.specs.Leaves.{one_of}
use Rattle.dart_syntax.specs.Levels.{sign_level}
use Rattle.dart_syntax.specs.Edges.{dots, question, compares, opens_dot, opens_nothing, leaves, leaves_less, primary_leaves, leaves_cascade}
use Rattle.dart_syntax.specs.Expressions.{ExprNodes, Levels, primary_assigns, ends_in_target, member, cascaded_over, expr_over, primary_of, prefixed, once}
use Rattle.dart_syntax.specs.Expressions.{chain, steps, selected_over, postfix_over, target_of, unary_over, relational_over, Row, chained, shifts, single}
use Rattle.dart_syntax.specs.Expressions.{comparison, logical, choice, no_row, rows, row_at, row_over, rows_over}
use Rattle.dart_syntax.specs.Statements.{nodes_over, no_nodes, within}
use Rattle.dart_syntax.specs.Agreement.{Agrees, ExprsAgree, LevelsAgree, section_tokens}
use Rattle.dart_syntax.proofs.Agreeing.{seq_agrees, opt_agrees, many_agrees, either_agrees}
use Rattle.dart_syntax.proofs.AgreeingTypes.{sign_agrees}
use Rattle.dart_syntax.proofs.AgreeingExpressions.{said_sign, said_selectors, said_cascades, said_tails}
use Rattle.dart_syntax.proofs.AgreeingStages.{within_agrees}
use Rattle.laws_apart.proofs.Telling.{ending, State, named, compared, second, called, free, among, under, included}
use Rattle.laws_apart.proofs.Judges.{none_leads, empty_leads, the_sign, the_word, seq_leads, seq_if_leads, either_leads, such_leads, made_leads, many_leads}
use Rattle.laws_apart.proofs.Judges.{some_if_leads, eased, absorbs, absorbs_own, respelled, raised, merged, Parenthesized}
use Rattle.laws_apart.proofs.Leading.{Leads, leap}
use Rattle.laws_apart.proofs.Types.{at_begin}
use Rattle.laws_apart.proofs.Operands.{fine, at_free, Entry, tight, at_compared, behind_second, from_begun, from_compared, all_other, others_lead}
use Rattle.laws_apart.proofs.Operands.{shifting_leads, assigning_leads, made_types, freely, primary_leads, member_leads, bracketed_leads, literal_leads}
use Rattle.laws_apart.proofs.Operands.{bare_leads}

-- ---- nodes of operators

module _ (f g : State → Bool) (sub : (z : State) → at_free z ≡ true → g z ≡ true) {first operand : Phrase Operand} {operator : Phrase Operator}
    (F : Leads fine f g operand_tokens first) (O : Leads fine g at_free operator_tokens operator) (A : Agrees operand_tokens operand) where
  item_leads : Leads fine g g (both_spelling operator_tokens operand_tokens) (operator ~ operand)
  item_leads = raised g sub (seq_leads O (absorbs fine at_free refl A))

  once_leads : (may : Operand → Bool) → Leads fine f g operand_tokens (once may first operator operand)
  unfolding operand_tokens
  once_leads may = made_leads (seq_if_leads F item_leads may) operand_tokens _ (λ x. simp append-nil)

  chain_leads : (next : ℕ) → Leads fine f g operand_tokens (chain next first operator operand)
  unfolding operand_tokens
  chain_leads next = made_leads (seq_if_leads F (some_if_leads item_leads (λ x. leaves next x.1)) (leaves next)) operand_tokens _ (λ x. simp said_tails)

-- ---- the rows up to `|`, from both states

abbrev selected_tokens : Primary × (Selector × List Selector) → List Token
selected_tokens = both_spelling primary_tokens (both_spelling selector_tokens (flat_map selector_tokens))

pub record NodesLead (from end : State → Bool) (nodes : ExprNodes) : Type 0 where
  pub agrees : ExprsAgree nodes
  pub literal : Leads fine from end primary_tokens nodes.literal
  pub bare : Leads fine from end operand_tokens nodes.bare

pub record LevelsLead (from end : State → Bool) (levels : Levels) : Type 0 where
  pub agrees : LevelsAgree levels
  pub primary : Leads fine from end primary_tokens levels.primary
  pub bracketed : Leads fine end end selector_tokens levels.bracketed
  pub target : Leads fine from end operand_tokens levels.target
  pub row : (i : ℕ) → i ≤ 6 → Leads fine from end operand_tokens (levels.row i)

-- a row whose signs matter to no state
abbrev is_tight : Row → Bool
is_tight (chained sign more) = all_other (sign ∷ more)
is_tight shifts = true
is_tight row = false

tight_at : (i : ℕ) → i ≤ 5 → is_tight (row_at rows i) ≡ true
tight_at zero le = refl
tight_at (suc zero) le = refl
tight_at (suc (suc zero)) le = refl
tight_at (suc (suc (suc zero))) le = refl
tight_at (suc (suc (suc (suc zero)))) le = refl
tight_at (suc (suc (suc (suc (suc zero))))) le = refl
tight_at (suc (suc (suc (suc (suc (suc i)))))) le = absurd (omega arith)

abbrev stepping : List Sign
stepping = s.PlusPlus ∷ s.MinusMinus ∷ []

-- parameters and arguments at every depth
pub record Brackets : Type 0 where
  pub parameters : (n : ℕ) → Parenthesized parameters_tokens (within n).nodes.expr_nodes.parameters
  pub arguments : (n : ℕ) → Parenthesized arguments_tokens (within n).nodes.expr_nodes.arguments

module _ (K : Brackets) {from args dots end : State → Bool} (E : Entry from args dots end) where
  pub nodes_lead : (n : ℕ) → NodesLead from end (within n).nodes.expr_nodes
  unfolding within nodes_over
  nodes_lead zero = record {
    agrees = (within_agrees zero).nodes.expr_nodes;
    literal = none_leads fine from end primary_tokens E.low;
    bare = none_leads fine from end operand_tokens E.low;
  }
  nodes_lead (suc n) = record {
    agrees = (within_agrees (suc n)).nodes.expr_nodes;
    literal = literal_leads E (within_agrees n).nodes.expr_nodes
        (K.parameters n);
    bare = bare_leads E;
  }

  operand_leads : {p : Phrase Primary} → Leads fine from end primary_tokens p → Leads fine from end operand_tokens (made operand_tokens t.primary p)
  unfolding operand_tokens
  operand_leads P = made_leads P operand_tokens t.primary (λ x. refl)

  module _ {under : Levels} (U : LevelsLead from end under) {nodes : ExprNodes} (H : ExprsAgree nodes)
      (C : Parenthesized arguments_tokens nodes.arguments) where
    selector_leads : Leads fine end end selector_tokens (member <|> under.bracketed)
    selector_leads = either_leads (member_leads E H C) U.bracketed

    selected_leads : Leads fine from end selected_tokens (selected_over under)
    selected_leads = either_leads (seq_if_leads U.primary (seq_leads (member_leads E H C) (many_leads selector_leads)) (primary_leaves opens_dot))
        (seq_if_leads U.primary (seq_leads U.bracketed (many_leads selector_leads)) (primary_leaves opens_nothing))

    steps_lead : Leads fine end end operator_tokens steps
    steps_lead = freely E (others_lead end E.high E.freed E.ended stepping refl)

    postfix_leads : Leads fine from end operand_tokens (postfix_over under)
    unfolding operand_tokens
    postfix_leads = either_leads (made_leads selected_leads operand_tokens _ (λ x. simp (said_selectors, append-nil)))
        (either_leads (made_leads (seq_if_leads U.primary steps_lead primary_assigns) operand_tokens _ (λ x. refl))
        (made_leads (seq_if_leads selected_leads steps_lead ends_in_target) operand_tokens _ (λ x. simp (said_selectors, append_assoc))))

    target_leads : {p : Phrase Primary} → Leads fine from end primary_tokens p → Leads fine from end operand_tokens (target_of p under)
    unfolding operand_tokens
    target_leads P = either_leads (operand_leads (such_leads P primary_assigns))
        (made_leads (such_leads selected_leads ends_in_target) operand_tokens _ (λ x. simp (said_selectors, append-nil)))

  prefixed_leads : leap fine from ending at_free ≡ true → (xs : List Sign) → all_other xs ≡ true → {p : Phrase Operand} → Agrees operand_tokens p →
      Leads fine from end operand_tokens (prefixed (one_of xs) p)
  unfolding operand_tokens
  prefixed_leads endings xs all P = freely E
      (made_leads (seq_leads (others_lead from E.low E.other_opens endings xs all) (absorbs fine at_free refl P)) operand_tokens _ (λ x. refl))

  module _ (endings : leap fine from ending at_free ≡ true) where
    unary_leads : {under : Levels} → LevelsAgree under → {bare : Phrase Operand} → Agrees operand_tokens bare → Leads fine from end operand_tokens
        (unary_over bare under)
    unary_leads U B = either_leads (prefixed_leads endings (s.Minus ∷ s.Tilde ∷ []) refl (either_agrees (U.row 0) B))
        (either_leads (prefixed_leads endings (s.Bang ∷ []) refl (U.row 0)) (prefixed_leads endings stepping refl U.target))

    module _ {inner : ExprNodes} (I : NodesLead from end inner) where
      tight_row : (row : Row) → is_tight row ≡ true → {under : Phrase Operand} → Agrees operand_tokens under → Leads fine from end operand_tokens under →
          Leads fine from end operand_tokens (row_over row inner under)
      tight_row (chained sign more) h A P = chain_leads from end (included at_free end E.free_end) (either_leads P I.bare)
          (others_lead end E.high E.freed E.ended (sign ∷ more) h) A (sign_level sign)
      tight_row shifts h A P = chain_leads from end (included at_free end E.free_end) (either_leads P I.bare)
          (shifting_leads end E.high E.freed E.ended E.half) A (sign_level s.ShiftLeft)
      tight_row (single sign more) h A P = absurd cc
      tight_row comparison h A P = absurd cc
      tight_row (logical sign) h A P = absurd cc
      tight_row choice h A P = absurd cc
      tight_row no_row h A P = absurd cc

      tight_rows : {unary : Phrase Operand} → Leads fine from end operand_tokens unary → (under : ℕ → Phrase Operand) →
          ((i : ℕ) → Agrees operand_tokens (under i)) → ((i : ℕ) → i ≤ 6 → Leads fine from end operand_tokens (under i)) →
          (i : ℕ) → i ≤ 6 → Leads fine from end operand_tokens (rows_over unary inner under i)
      tight_rows N under A U zero le = N
      tight_rows N under A U (suc i) le = either_leads (tight_rows N under A U i (omega arith))
          (tight_row (row_at rows i) (tight_at i (omega arith)) (A i) (U i (omega arith)))

    pub levels_lead : (n : ℕ) → LevelsLead from end (within n).levels
    unfolding within nodes_over
    levels_lead zero =
        let here : ExprNodes = no_nodes.expr_nodes in
        let H : NodesLead from end here = nodes_lead zero in
        let primary : Leads fine from end primary_tokens (primary_of here) = primary_leads E H.agrees (K.arguments zero) (made_types zero) H.literal in
        record {
          agrees = (within_agrees zero).levels;
          primary = primary;
          bracketed = bracketed_leads E H.agrees (K.arguments zero);
          target = operand_leads (such_leads primary primary_assigns);
          row = λ i le. operand_leads primary;
        }
    levels_lead (suc n) =
        let here : ExprNodes = (nodes_over n (within n)).expr_nodes in
        let inner : ExprNodes = (within n).nodes.expr_nodes in
        let H : NodesLead from end here = nodes_lead (suc n) in
        let I : NodesLead from end inner = nodes_lead n in
        let U : LevelsLead from end (within n).levels = levels_lead n in
        let primary : Leads fine from end primary_tokens (primary_of here) = primary_leads E H.agrees (K.arguments (suc n)) (made_types (suc n)) H.literal in
        record {
          agrees = (within_agrees (suc n)).levels;
          primary = primary;
          bracketed = bracketed_leads E H.agrees (K.arguments (suc n));
          target = target_leads U H.agrees (K.arguments (suc n)) primary;
          row = tight_rows I (either_leads (either_leads (operand_leads primary) (postfix_leads U H.agrees (K.arguments (suc n))))
              (unary_leads U.agrees I.agrees.bare)) (within n).levels.row U.agrees.row U.row;
        }

-- ---- all rows, from the beginning

abbrev pub loose : State → Bool
loose = among (named ∷ called ∷ free ∷ second ∷ [])

loosened : {A : Type 0} {tokens : A → List Token} {p : Phrase A} → Leads fine at_begin tight tokens p → Leads fine at_begin loose tokens p
loosened P = eased P fine at_begin loose refl

loose_free : (z : State) → at_free z ≡ true → loose z ≡ true
loose_free = included at_free loose refl

-- behind a comparison's `<`
abbrev behind_less : State → Bool
behind_less = among (compared ∷ free ∷ [])

less_cases : (z : State) → behind_less z ≡ true → (at_compared z ≡ true) ⊎ (at_free z ≡ true)
less_cases compared h = inl refl
less_cases free h = inr refl
less_cases z h = absurd cc

-- each row but the comparison, by the signs that it has
abbrev is_plain : Row → Bool
is_plain (chained sign more) = all_other (sign ∷ more)
is_plain (single sign more) = all_other (sign ∷ more)
is_plain (logical sign) = all_other (sign ∷ [])
is_plain comparison = false
is_plain row = true

module _ {inner : ExprNodes} (I : NodesLead at_begin tight inner) {under : Phrase Operand} (A : Agrees operand_tokens under) where
  module _ (U : Leads fine at_begin tight operand_tokens under) (V : Leads fine at_compared behind_second operand_tokens under) where
    less_operand : Leads fine behind_less loose operand_tokens under
    less_operand = merged (eased V fine at_compared loose refl) (eased (absorbs fine at_free refl A) fine at_free loose refl) behind_less less_cases

    less_sign : Leads fine tight behind_less operator_tokens (one_of (s.Less ∷ []))
    less_sign = either_leads (made_leads (the_sign fine tight behind_less s.Less refl) operator_tokens _ (λ place. refl))
        (none_leads fine tight behind_less operator_tokens refl)

    greater_sign : Leads fine tight at_free operator_tokens (one_of (s.Greater ∷ s.LessEqual ∷ s.GreaterEqual ∷ []))
    greater_sign = either_leads (made_leads (the_sign fine tight at_free s.Greater refl) operator_tokens _ (λ place. refl))
        (others_lead tight refl refl refl (s.LessEqual ∷ s.GreaterEqual ∷ []) refl)

    comparison_leads : Leads fine at_begin loose operand_tokens (relational_over inner under)
    unfolding operand_tokens
    comparison_leads = either_leads (made_leads (seq_if_leads (either_leads U I.bare) (seq_leads less_sign less_operand) leaves_less) operand_tokens _
        (λ x. simp append-nil))
        (either_leads (loosened (once_leads at_begin tight (included at_free tight refl) (either_leads U I.bare) greater_sign A (leaves compares)))
        (either_leads
        (made_leads (raised loose loose_free
        (seq_if_leads U (seq_leads (the_word fine tight at_free w.Is refl)
        (absorbs fine at_free refl (seq_agrees (opt_agrees (sign_agrees s.Bang)) I.agrees.type))) (leaves compares))) operand_tokens _
        (λ x. simp said_sign))
        (made_leads (raised loose loose_free (seq_if_leads U (seq_leads (the_word fine tight at_free w.As refl) (absorbs fine at_free refl I.agrees.type))
        (leaves compares))) operand_tokens _ (λ x. refl))))

  loose_row : (row : Row) → is_plain row ≡ true → Leads fine at_begin loose operand_tokens under → Leads fine at_begin loose operand_tokens
      (row_over row inner under)
  unfolding operand_tokens
  loose_row (chained sign more) h P = chain_leads at_begin loose loose_free (either_leads P (loosened I.bare))
      (others_lead loose refl refl refl (sign ∷ more) h) A (sign_level sign)
  loose_row shifts h P = chain_leads at_begin loose loose_free (either_leads P (loosened I.bare)) (shifting_leads loose refl refl refl refl) A
      (sign_level s.ShiftLeft)
  loose_row (single sign more) h P = once_leads at_begin loose loose_free (either_leads P (loosened I.bare))
      (others_lead loose refl refl refl (sign ∷ more) h) A (leaves (sign_level sign))
  loose_row comparison h P = absurd cc
  loose_row (logical sign) h P = chain_leads at_begin loose loose_free P (others_lead loose refl refl refl (sign ∷ []) h) A (sign_level sign)
  loose_row choice h P = made_leads (raised loose loose_free (seq_if_leads P (seq_leads (the_sign fine loose at_free s.Question refl)
      (absorbs fine at_free refl (seq_agrees I.agrees.without (seq_agrees (sign_agrees s.Colon) I.agrees.without)))) (leaves question))) operand_tokens _
      (λ x. refl)
  loose_row no_row h P = none_leads fine at_begin loose operand_tokens refl

plain_at : (i : ℕ) → (is_plain (row_at rows i) ≡ true) ⊎ ((row_at rows i ≡ comparison) × (i ≤ 6))
plain_at zero = inl refl
plain_at (suc zero) = inl refl
plain_at (suc (suc zero)) = inl refl
plain_at (suc (suc (suc zero))) = inl refl
plain_at (suc (suc (suc (suc zero)))) = inl refl
plain_at (suc (suc (suc (suc (suc zero))))) = inl refl
plain_at (suc (suc (suc (suc (suc (suc zero)))))) = inr (refl, omega arith)
plain_at (suc (suc (suc (suc (suc (suc (suc zero))))))) = inl refl
plain_at (suc (suc (suc (suc (suc (suc (suc (suc zero)))))))) = inl refl
plain_at (suc (suc (suc (suc (suc (suc (suc (suc (suc zero))))))))) = inl refl
plain_at (suc (suc (suc (suc (suc (suc (suc (suc (suc (suc zero)))))))))) = inl refl
plain_at (suc (suc (suc (suc (suc (suc (suc (suc (suc (suc (suc i))))))))))) = inl refl

module _ (K : Brackets) where
  pub begun_nodes : (n : ℕ) → NodesLead at_begin tight (within n).nodes.expr_nodes
  begun_nodes = nodes_lead K from_begun

  pub begun_levels : (n : ℕ) → LevelsLead at_begin tight (within n).levels
  begun_levels = levels_lead K from_begun refl

  compared_levels : (n : ℕ) → LevelsLead at_compared behind_second (within n).levels
  compared_levels = levels_lead K from_compared refl

  each_row : (n : ℕ) → ((i : ℕ) → Leads fine at_begin loose operand_tokens ((within n).levels.row i)) → (i : ℕ) → Leads fine at_begin loose operand_tokens
      (row_over (row_at rows i) (within n).nodes.expr_nodes ((within n).levels.row i))
  each_row n L i = elim (plain_at i) [
    | inl plain ↦ loose_row (begun_nodes n) ((within_agrees n).levels.row i) (row_at rows i) plain (L i)
    | inr is ↦ subst (λ (row : Row). Leads fine at_begin loose operand_tokens (row_over row (within n).nodes.expr_nodes ((within n).levels.row i))) (sym is.0)
        (comparison_leads (begun_nodes n) ((within_agrees n).levels.row i) ((begun_levels n).row i is.1) ((compared_levels n).row i is.1))
  ]

  loose_rows : (n : ℕ) {unary : Phrase Operand} → Leads fine at_begin loose operand_tokens unary →
      ((i : ℕ) → Leads fine at_begin loose operand_tokens ((within n).levels.row i)) →
      (i : ℕ) → Leads fine at_begin loose operand_tokens (rows_over unary (within n).nodes.expr_nodes (within n).levels.row i)
  loose_rows n N L zero = N
  loose_rows n N L (suc i) = either_leads (loose_rows n N L i) (each_row n L i)

  pub rows_lead : (n i : ℕ) → Leads fine at_begin loose operand_tokens ((within n).levels.row i)
  unfolding within
  rows_lead zero i = loosened ((begun_levels zero).row 0 (omega arith))
  rows_lead (suc n) i = loose_rows n (loosened ((begun_levels (suc n)).row 0 (omega arith))) (rows_lead n) i

  -- ---- expressions

  cascades_lead : (n : ℕ) → Leads fine loose loose section_tokens (within n).nodes.expr_nodes.cascade
  unfolding within nodes_over
  cascades_lead zero = respelled (within_agrees zero).nodes.expr_nodes.cascade (none_leads fine loose loose section_tokens refl)
  cascades_lead (suc n) = respelled (within_agrees (suc n)).nodes.expr_nodes.cascade
      (raised loose loose_free (seq_leads (the_sign fine loose at_free s.DotDot refl) (absorbs_own fine at_free refl _)))

  cascaded_leads : (n : ℕ) → Leads fine at_begin loose (both_spelling operand_tokens (flat_map section_tokens))
      (cascaded_over (within n).nodes.expr_nodes (within n).levels)
  cascaded_leads n =
      let C = cascades_lead n in
      either_leads (seq_leads (rows_lead n (length rows))
      (empty_leads fine loose loose (flat_map section_tokens) refl (flat_map (within n).nodes.expr_nodes.cascade.spelling)
      (many_agrees (within_agrees n).nodes.expr_nodes.cascade).spells [] refl refl))
      (seq_if_leads (rows_lead n (length rows)) (some_if_leads C leaves_cascade) (leaves dots))

  expr_leads : (n : ℕ) → Leads fine at_begin loose expr_tokens (expr_over (within n).nodes.expr_nodes (within n).levels)
  unfolding expr_tokens
  expr_leads n =
      let A = (within_agrees n).nodes.expr_nodes.expr in
      either_leads (made_leads (raised loose loose_free
      (seq_leads (begun_levels n).target (seq_leads (assigning_leads tight refl refl refl refl) (absorbs fine at_free refl A)))) expr_tokens _ (λ x. refl))
      (either_leads (made_leads (cascaded_leads n) expr_tokens _ (λ x. simp said_cascades))
      (made_leads (raised loose loose_free (seq_leads (the_word fine at_begin at_free w.Throw refl) (absorbs fine at_free refl A))) expr_tokens _ (λ x. refl)))

  pub exprs_lead : (n : ℕ) → Leads fine at_begin loose expr_tokens (within n).nodes.expr_nodes.expr
  unfolding within nodes_over
  exprs_lead zero = none_leads fine at_begin loose expr_tokens refl
  exprs_lead (suc n) = expr_leads n
