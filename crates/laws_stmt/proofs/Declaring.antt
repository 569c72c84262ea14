-- The law of declarations in functions: variables, or a function (ECMA-408, 17.3 Local Variable Declaration, 17.4 Local Function Declaration).
-- The bracket behind a function's name tells the two.
use Rattle.std.proofs.Common.{◌≡◌, true, false, List, [], ◌∷◌, ◌++◌, Option, None, Some, Err, inl, inr, refl, ap, sym, ◌∙◌, subst, append_assoc}
use Rattle.std.proofs.lemmas.List.{append-nil}
use Rattle.dart_base.specs.declared.place.Place.{Place}
use Rattle.dart_token.specs.declared.token.Token.{Token}
use Rattle.dart_token.specs.declared.sign.Sign.TheVariants as s
use Rattle.dart_token.specs.declared.word.Word.{Word}
use Rattle.dart_token.specs.declared.word.Word.TheVariants as w
use Rattle.dart_tree.specs.declared.identifier.Identifier.{Identifier}
use Rattle.dart_tree.specs.Types.{TypeNode, ResultType, VariableKind, no_kind, var_kind, final_kind, const_kind, typed_kind, void_result, typed_result}
use Rattle.dart_tree.specs.LeafTokens.{type_tokens, result_tokens, kind_tokens, identifier_tokens}
use Rattle.dart_tree.specs.Tree.{Value, Parameters, Body}
use Rattle.grammar_laws.specs.Codes.{has, Apart, nowhere}
use Rattle.grammar_laws.specs.Readers.{Reader, both, starts, checked}
use Rattle.grammar_laws.specs.Fronts.{option_spelling}
use Rattle.grammar_laws.proofs.Codes.{apart, clash, within_left, not_true}
use Rattle.grammar_laws.proofs.Steps.{both_second_fails}
use Rattle.grammar_laws.proofs.Joints.{begins}
use Rattle.grammar_laws.proofs.Wholes.{no_front}
use Rattle.dart_syntax.specs.Phrases.{Phrase, ◌~◌, seq_if, opt, many as many_of}
use Rattle.dart_syntax.specs.Agreement.{StmtsAgree}
use Rattle.dart_syntax.specs.Leaves as l
use Rattle.dart_syntax.specs.Leaves.{word_tokens}
use Rattle.dart_syntax.specs.Types.{variables_kind_over, kind_leaves_name, result_over, result_leaves_name}
use Rattle.dart_syntax.specs.Expressions as g
use Rattle.dart_syntax.specs.Statements as p
use Rattle.dart_syntax.proofs.AgreeingTypes.{one_name}
use Rattle.token_codes.specs.Codes.{class_of, names, sign_code, word_code, these, this_word}
use Rattle.token_codes.specs.Leaves.{sign, identifier}
use Rattle.token_codes.specs.Reads.{Reads}
use Rattle.token_codes.proofs.Leaves.{word_reads, identifier_reads}
use Rattle.grammar_laws.specs.Halves.{strict}
use Rattle.syntax_readers.specs.Types.{type_first, behind_type_name, variables_kind, result_before_name}
use Rattle.syntax_readers.specs.Primaries.{ExprReaders, expr_first}
use Rattle.syntax_readers.specs.Parameters.{after_sign, more_variables, whole_body}
use Rattle.laws_type.specs.Nexts.{after_type}
use Rattle.laws_expr.specs.Nexts.{after_expr}
use Rattle.laws_expr.proofs.Tokens.{refuses}
use Rattle.laws_stmt.specs.Statements.{variable_first, function_first}
use Rattle.laws_stmt.proofs.Named.{Goes}
use Rattle.laws_stmt.proofs.Variables.{value_codes, values_laws, variable_laws, variables_parts}
use Rattle.laws_stmt.proofs.Local.{called_laws, result_name_laws, bare_laws}

-- a word is no name
word_no_name : (which : Word) → Apart (this_word which) names → (x : Token) (place : Place) (ts more : List Token) → x ∷ ts ≡ word_tokens which place ++ more → has names (class_of x) ≡ true → ⊥
word_no_name which off x place ts more e n = off.never_both (class_of x) (ap (starts class_of (this_word which)) e ∙ begins (word_reads which) place more tt) n

module _ (here : ExprReaders) (nodes : p.StmtNodes) (T : Reads here.type nodes.expr_nodes.type type_first after_type false) (G : Goes nodes.expr_nodes.type) (A : StmtsAgree nodes) (E : Reads (strict here.expr) nodes.expr_nodes.expr expr_first after_expr false)
    (P : Reads here.parameters nodes.expr_nodes.parameters (these s.LeftParenthesis) nowhere false) (B : Reads here.block nodes.expr_nodes.block (these s.LeftBrace) nowhere false) where
  abbrev q : Phrase TypeNode
  q = nodes.expr_nodes.type

  abbrev pub KindName : Phrase (VariableKind × Identifier)
  KindName = seq_if kind_leaves_name (variables_kind_over q) l.identifier

  abbrev pub ResultName : Phrase (Option ResultType × Identifier)
  ResultName = seq_if result_leaves_name (opt (result_over q)) l.identifier

  -- ---- a name and another one, or what a type's name goes on with

  two_tokens : (x : TypeNode) (m more : List Token) (a b : Token) (z : List Token) → q.Fits x → q.spelling x ≡ m → a ∷ b ∷ z ≡ m ++ more → starts class_of names more ≡ true → has names (class_of a) ≡ true → has behind_type_name (class_of b) ≡ true
  two_tokens x [] more a b z fits is e on n = clash false (T.empties x fits is) refl
  two_tokens x (c ∷ []) [] a b z fits is e on n = absurd cc
  two_tokens x (c ∷ []) (d ∷ more) a b z fits is e on n = let same : d ≡ b = cc in (within_left names (sign_code s.Dot ∷ sign_code s.Less ∷ word_code w.This ∷ word_code w.Operator ∷ [])).in_second (class_of b) (subst (λ (v : Token). has names (class_of v) ≡ true) same on)
  two_tokens x (c ∷ d ∷ m) more a b z fits is e on n =
      let same : d ≡ b = cc in
      let first : a ≡ c = cc in
      subst (λ (v : Token). has behind_type_name (class_of v) ≡ true) same (G c d m (subst (λ (v : Token). has names (class_of v) ≡ true) first n) (subst q.front is (T.whole x fits)))

  pair_two : (k : VariableKind) (name : Identifier) (rest : List Token) (a b : Token) (z : List Token) → KindName.Fits (k, name) → a ∷ b ∷ z ≡ (kind_tokens k ++ identifier_tokens name) ++ rest → has names (class_of a) ≡ true → has behind_type_name (class_of b) ≡ true
  pair_two no_kind name rest a b z ((inl (inl (place, f, e)), on), g) is n = absurd cc
  pair_two no_kind name rest a b z ((inl (inr (inl (o, f, e))), on), g) is n = absurd cc
  pair_two no_kind name rest a b z ((inl (inr (inr (o, f, e))), on), g) is n = absurd cc
  pair_two no_kind name rest a b z ((inr (o, f, e), on), g) is n = absurd cc
  pair_two (var_kind place) name rest a b z fits is n = absurd (word_no_name w.Var (apart refl) a place (b ∷ z) _ is n)
  pair_two (final_kind place x) name rest a b z fits is n = absurd (word_no_name w.Final (apart refl) a place (b ∷ z) _ is n)
  pair_two (const_kind place x) name rest a b z fits is n = absurd (word_no_name w.Const (apart refl) a place (b ∷ z) _ is n)
  pair_two (typed_kind x) name rest a b z ((inl (inl (place, f, e)), on), g) is n = absurd cc
  pair_two (typed_kind x) name rest a b z ((inl (inr (inl (o, f, e))), on), g) is n = absurd cc
  pair_two (typed_kind x) name rest a b z ((inl (inr (inr (o, f, e))), on), g) is n =
      let same : o ≡ x = cc in
      two_tokens x (q.spelling x) (identifier_tokens name ++ rest) a b z (subst q.Fits same f) refl (is ∙ append_assoc (type_tokens x) (identifier_tokens name) rest ∙ ap (λ (m : List Token). m ++ (identifier_tokens name ++ rest)) (sym (A.expr_nodes.type.spells x))) (begins identifier_reads name rest tt) n
  pair_two (typed_kind x) name rest a b z ((inr (o, f, e), on), g) is n = absurd cc

  -- the same of what begins one
  front_two : (a b : Token) (z : List Token) → KindName.front (a ∷ b ∷ z) → has names (class_of a) ≡ true → has behind_type_name (class_of b) ≡ true
  front_two a b z (inl (inl (inl (inl e)))) n = absurd cc
  front_two a b z (inl (inl (inl (inr (place, e))))) n = absurd cc
  front_two a b z (inl (inl (inr (inl (inl (inl e)))))) n = absurd cc
  front_two a b z (inl (inl (inr (inl (inl (inr (place, e))))))) n = absurd cc
  front_two a b z (inl (inl (inr (inl (inr (place, more, u, on, e, f)))))) n = absurd (word_no_name w.Final (apart refl) a place (b ∷ z) more e n)
  front_two a b z (inl (inl (inr (inr f)))) n = G a b z n f
  front_two a b z (inl (inr (inl (inl e)))) n = absurd cc
  front_two a b z (inl (inr (inl (inr (place, e))))) n = absurd cc
  front_two a b z (inl (inr (inr (place, more, u, on, e, f)))) n = absurd (word_no_name w.Const (apart refl) a place (b ∷ z) more e n)
  front_two a b z (inr (k, more, fits, on, e, inl none)) n = kind_alone k fits (e ∙ ap (λ (m : List Token). kind_tokens k ++ m) none) where
    kind_alone : (k : VariableKind) → (variables_kind_over q).Fits k → a ∷ b ∷ z ≡ kind_tokens k ++ [] → has behind_type_name (class_of b) ≡ true
    kind_alone k (inl (inl (place, f, is))) e = absurd (word_no_name w.Var (apart refl) a place (b ∷ z) _ (e ∙ ap (λ (m : VariableKind). kind_tokens m ++ []) (sym is)) n)
    kind_alone k (inl (inr (inl ((place, x), f, is)))) e = absurd (word_no_name w.Final (apart refl) a place (b ∷ z) _ (e ∙ ap (λ (m : VariableKind). kind_tokens m ++ []) (sym is)) n)
    kind_alone k (inl (inr (inr (x, f, is)))) e = G a b z n (subst q.front (sym (e ∙ ap (λ (m : VariableKind). kind_tokens m ++ []) (sym is) ∙ append-nil (type_tokens x) ∙ sym (A.expr_nodes.type.spells x))) (T.whole x f))
    kind_alone k (inr ((place, x), f, is)) e = absurd (word_no_name w.Const (apart refl) a place (b ∷ z) _ (e ∙ ap (λ (m : VariableKind). kind_tokens m ++ []) (sym is)) n)
  front_two a b z (inr (k, more, fits, on, e, inr (name, is))) n = pair_two k name [] a b z ((fits, on), tt) (e ∙ ap (λ (m : List Token). kind_tokens k ++ m) is ∙ sym (append-nil (kind_tokens k ++ identifier_tokens name))) n

  -- ---- neither goes past the name of the other

  abbrev kind_reader : Reader Token (VariableKind × Identifier)
  kind_reader = both (checked kind_leaves_name (variables_kind here.type)) identifier

  abbrev result_reader : Reader Token (Option ResultType × Identifier)
  result_reader = both (checked result_leaves_name (result_before_name here.type)) identifier

  abbrev called_reader : Reader Token (Parameters × Body)
  called_reader = both here.parameters (whole_body here)

  abbrev pub Values : Phrase (Value × (List (Place × (Identifier × Value)) × Place))
  Values = g.after_sign s.Assign nodes.expr_nodes.expr ~ (many_of (l.sign s.Comma ~ (l.identifier ~ g.after_sign s.Assign nodes.expr_nodes.expr)) ~ l.sign s.Semicolon)

  abbrev value_reader : Reader Token (Value × (List (Place × (Identifier × Value)) × Place))
  value_reader = both (after_sign s.Assign (strict here.expr)) (both (more_variables (strict here.expr)) (sign s.Semicolon))

  abbrev pub Called : Phrase (Parameters × Body)
  Called = nodes.expr_nodes.parameters ~ p.whole_body nodes.expr_nodes

  V : Reads (both kind_reader value_reader) (KindName ~ Values) variable_first nowhere false
  V = variables_parts nodes T G E A

  F : Reads (both result_reader called_reader) (ResultName ~ Called) function_first nowhere false
  F = bare_laws here nodes T G A E P B

  value_refuses : (u : Token) (z : List Token) → has (these s.LeftParenthesis) (class_of u) ≡ true → value_reader (u ∷ z) ≡ Err (u ∷ z)
  value_refuses u z on = refuses (values_laws nodes T G E A) (u ∷ z) (not_true (has value_codes (class_of u)) (λ h. (apart {xs = these s.LeftParenthesis} {ys = value_codes} refl).never_both (class_of u) on h))

  not_behind : (u : Token) → has (these s.LeftParenthesis) (class_of u) ≡ true → has behind_type_name (class_of u) ≡ true → ⊥
  not_behind u on h = (apart {xs = these s.LeftParenthesis} {ys = behind_type_name} refl).never_both (class_of u) on h

  name_only : (a u : Token) (z : List Token) → has names (class_of a) ≡ true → has (these s.LeftParenthesis) (class_of u) ≡ true → (KindName ~ Values).front (a ∷ u ∷ z) → ⊥
  name_only a u z n on (inl f) = not_behind u on (front_two a u z f n)
  name_only a u z n on (inr ((k, name), more, fits, go, e, f)) = not_behind u on (pair_two k name more a u z fits e n)

  pub variables_end : (r : Option ResultType) (name : Identifier) (u : Token) (z : List Token) → ResultName.Fits (r, name) → has (these s.LeftParenthesis) (class_of u) ≡ true → (KindName ~ Values).front ((option_spelling result_tokens r ++ identifier_tokens name) ++ u ∷ z) → ⊥
  variables_end None name u z fits on f =
      let one = one_name name in
      let begun : starts class_of names (identifier_tokens name ++ u ∷ z) ≡ true = begins identifier_reads name (u ∷ z) tt in
      name_only one.0 u z (ap (λ (m : List Token). starts class_of names (m ++ u ∷ z)) (sym one.1) ∙ begun) on (subst (KindName ~ Values).front (ap (λ (m : List Token). m ++ u ∷ z) one.1) f)
  variables_end (Some (void_result place)) name u z fits on f = void_wrong place (identifier_tokens name ++ u ∷ z) (begins (word_reads w.Void) place (identifier_tokens name ++ u ∷ z) tt) f where
    void_wrong : (place : Place) (more : List Token) → starts class_of (this_word w.Void) (word_tokens w.Void place ++ more) ≡ true → (KindName ~ Values).front (word_tokens w.Void place ++ more) → ⊥
    void_wrong place more begun f = (apart {xs = this_word w.Void} {ys = variable_first} refl).never_both _ begun (V.firsts _ more f)
  variables_end (Some (typed_result x)) name u z fits on f =
      no_front V ((type_tokens x ++ identifier_tokens name) ++ u ∷ z) u z (both_second_fails kind_reader (λ a. value_reader) ((type_tokens x ++ identifier_tokens name) ++ u ∷ z) (u ∷ z) (u ∷ z) (typed_kind x, name)
      ((variable_laws T A.expr_nodes.type G).complete (typed_kind x, name) (u ∷ z) ((inl (inr (inr (x, of_result x fits.0.0, refl))), fits.0.1), tt) (not_true (has behind_type_name (class_of u)) (λ h. not_behind u on h))) (value_refuses u z on)) f where
        of_result : (x : TypeNode) → (result_over q).Fits (typed_result x) → q.Fits x
        of_result x (inl (place, f, e)) = absurd cc
        of_result x (inr (o, f, e)) = let same : o ≡ x = cc in subst q.Fits same f

  called_refuses : (u : Token) (z : List Token) → has value_codes (class_of u) ≡ true → called_reader (u ∷ z) ≡ Err (u ∷ z)
  called_refuses u z on = refuses (called_laws here nodes T G A E P B) (u ∷ z) (not_true (has (these s.LeftParenthesis) (class_of u)) (λ h. (apart {xs = these s.LeftParenthesis} {ys = value_codes} refl).never_both (class_of u) h on))

  word_wrong : (which : Word) → Apart (this_word which) function_first → (place : Place) (more : List Token) → (ResultName ~ Called).front (word_tokens which place ++ more) → ⊥
  word_wrong which off place more f = off.never_both _ (begins (word_reads which) place more tt) (F.firsts _ more f)

  pub function_ends : (k : VariableKind) (name : Identifier) (u : Token) (z : List Token) → KindName.Fits (k, name) → has value_codes (class_of u) ≡ true → (ResultName ~ Called).front ((kind_tokens k ++ identifier_tokens name) ++ u ∷ z) → ⊥
  function_ends k name u z ((inl (inl (place, o, is)), go), at) on f = word_wrong w.Var (apart refl) place _ (subst (λ (m : VariableKind). (ResultName ~ Called).front ((kind_tokens m ++ identifier_tokens name) ++ u ∷ z)) (sym is) f)
  function_ends k name u z ((inl (inr (inl ((place, x), o, is))), go), at) on f = word_wrong w.Final (apart refl) place _ (subst (λ (m : VariableKind). (ResultName ~ Called).front ((kind_tokens m ++ identifier_tokens name) ++ u ∷ z)) (sym is) f)
  function_ends k name u z ((inr ((place, x), o, is), go), at) on f = word_wrong w.Const (apart refl) place _ (subst (λ (m : VariableKind). (ResultName ~ Called).front ((kind_tokens m ++ identifier_tokens name) ++ u ∷ z)) (sym is) f)
  function_ends k name u z ((inl (inr (inr (x, o, is))), go), at) on f =
      no_front F ((type_tokens x ++ identifier_tokens name) ++ u ∷ z) u z (both_second_fails result_reader (λ a. called_reader) ((type_tokens x ++ identifier_tokens name) ++ u ∷ z) (u ∷ z) (u ∷ z) (Some (typed_result x), name)
      ((result_name_laws T A.expr_nodes.type G).complete (Some (typed_result x), name) (u ∷ z) ((inr (x, o, refl), subst (λ (m : VariableKind). kind_leaves_name m ≡ true) (sym is) go), tt) (not_true (has behind_type_name (class_of u)) (λ h. (apart {xs = value_codes} {ys = behind_type_name} refl).never_both (class_of u) on h))) (called_refuses u z on))
      (subst (λ (m : VariableKind). (ResultName ~ Called).front ((kind_tokens m ++ identifier_tokens name) ++ u ∷ z)) (sym is) f)
