-- The law of variables, over expressions and types (ECMA-408, 8 Variables).
use Rattle.std.proofs.Common.{◌≡◌, ℕ, Bool, true, false, eqb, if◌then◌else◌, List, [], ◌∷◌, ◌++◌, Option, None, Some, Ok, Err, inl, inr, refl, ap, sym, ◌∙◌, subst, append_assoc}
use Rattle.dart_base.specs.declared.place.Place.{Place}
use Rattle.dart_token.specs.declared.token.Token.{Token}
use Rattle.dart_token.specs.declared.sign.Sign.TheVariants as s
use Rattle.dart_token.specs.declared.word.Word.TheVariants as w
use Rattle.dart_tree.specs.declared.identifier.Identifier.{Identifier}
use Rattle.dart_tree.specs.Types.{TypeNode, VariableKind, var_kind, final_kind, const_kind, typed_kind}
use Rattle.dart_tree.specs.LeafTokens.{type_tokens, kind_tokens, identifier_tokens, maybe_type, word_at}
use Rattle.dart_tree.specs.Tree.{Expr, Value, Variables}
use Rattle.dart_tree.specs.Tokens.{variables_tokens}
use Rattle.grammar_laws.specs.Codes.{nowhere}
use Rattle.grammar_laws.specs.Readers.{Outcome, Reader, and_then, mapped, both, checked, by_first}
use Rattle.grammar_laws.specs.Fronts.{Front, Either, EitherFit, both_spelling, option_spelling}
use Rattle.grammar_laws.specs.Laws.{Laws}
use Rattle.grammar_laws.proofs.Codes.{apart, apart_none, apart_smaller, inside, within_self, within_none}
use Rattle.grammar_laws.proofs.Restated.{made_laws, reread, restated, checked_laws}
use Rattle.grammar_laws.proofs.Combined.{both_laws, both_any_laws}
use Rattle.grammar_laws.proofs.Chosen.{by_first_laws}
use Rattle.grammar_laws.proofs.Repeated.{many_plain_laws}
use Rattle.dart_syntax.specs.Phrases.{Phrase, ◌~◌, seq_if, such, made, opt, many as many_of}
use Rattle.dart_syntax.specs.Agreement.{Agrees, StmtsAgree}
use Rattle.dart_syntax.specs.Leaves as l
use Rattle.dart_syntax.specs.Types.{variables_kind_over, kind_leaves_name, is_no_accessor}
use Rattle.dart_syntax.specs.Expressions as g
use Rattle.dart_syntax.specs.Statements as p
use Rattle.dart_syntax.specs.Statements.{the_variables}
use Rattle.dart_syntax.proofs.Agreeing.{parts_say, seq_agrees, seq_if_agrees, many_agrees}
use Rattle.dart_syntax.proofs.AgreeingTypes.{sign_agrees, identifier_agrees, variables_kind_agrees}
use Rattle.dart_syntax.proofs.AgreeingExpressions.{after_sign_agrees}
use Rattle.dart_syntax.proofs.AgreeingStatements.{said_variables}
use Rattle.token_codes.specs.Codes.{class_of, names, word_code, these, this_word}
use Rattle.token_codes.specs.Leaves.{place_of, sign, word, identifier}
use Rattle.token_codes.specs.Reads.{Reads}
use Rattle.token_codes.proofs.Leaves.{sign_reads, word_reads, identifier_reads}
use Rattle.syntax_readers.specs.Types.{type_first, kind, variables_kind, behind_type_name, type_before_name}
use Rattle.syntax_readers.specs.Primaries.{expr_first}
use Rattle.syntax_readers.specs.Parameters as r
use Rattle.laws_type.specs.Nexts.{after_type}
use Rattle.laws_type.proofs.Types.{under_type}
use Rattle.laws_expr.specs.Nexts.{after_expr}
use Rattle.laws_stmt.specs.Statements.{variable_first}
use Rattle.laws_stmt.proofs.Named.{Goes, name_begins, name_ends}
use Rattle.laws_stmt.proofs.Sorts.{typed_name_laws, put, put_two}
use Rattle.laws_stmt.proofs.Parameters.{behind_values, after_sign_laws}

-- ---- what stands before a variable's name, and the name (`get` and `set` alone are no types there)

module _ {type : Reader Token TypeNode} {q : Phrase TypeNode} (T : Reads type q type_first after_type false) (A : Agrees type_tokens q) (G : Goes q) where
  abbrev Pair : Type 0
  Pair = VariableKind × Identifier

  abbrev pair_tokens : Pair → List Token
  pair_tokens = both_spelling kind_tokens identifier_tokens

  abbrev Kind : Phrase VariableKind
  Kind = variables_kind_over q

  abbrev Whole : Phrase Pair
  Whole = seq_if kind_leaves_name Kind l.identifier

  abbrev to_const : Place × (Option TypeNode × Identifier) → Pair
  to_const x = (const_kind x.0 x.1.0, x.1.1)

  abbrev to_final : Place × (Option TypeNode × Identifier) → Pair
  to_final x = (final_kind x.0 x.1.0, x.1.1)

  abbrev to_var : Place × Identifier → Pair
  to_var x = (var_kind x.0, x.1)

  abbrev to_typed : TypeNode × Identifier → Pair
  to_typed x = (typed_kind x.0, x.1)

  abbrev Const : Phrase Pair
  Const = made pair_tokens to_const (l.word w.Const ~ (opt q ~ l.identifier))

  abbrev Final : Phrase Pair
  Final = made pair_tokens to_final (l.word w.Final ~ (opt q ~ l.identifier))

  abbrev Var : Phrase Pair
  Var = made pair_tokens to_var (l.word w.Var ~ l.identifier)

  abbrev Typed : Phrase Pair
  Typed = made pair_tokens to_typed (such is_no_accessor q ~ l.identifier)

  said_type : (x : Option TypeNode) → maybe_type x ≡ option_spelling q.spelling x
  said_type None = refl
  said_type (Some x) = sym (A.spells x)

  typed_laws : Reads (both (type_before_name type) identifier) (opt q ~ l.identifier) (type_first ++ names) (λ x. behind_type_name) false
  typed_laws = typed_name_laws T A G identifier_reads (inside refl) (apart refl) (apart refl) (λ t h. name_begins t h) (λ t u ts h f. name_ends t u ts f)

  abbrev chosen : Reader Token Pair
  chosen = by_first class_of (this_word w.Const) (mapped to_const (both (word w.Const) (both (type_before_name type) identifier)))
      (by_first class_of (this_word w.Var) (mapped to_var (both (word w.Var) identifier))
      (by_first class_of (this_word w.Final) (mapped to_final (both (word w.Final) (both (type_before_name type) identifier)))
      (mapped to_typed (both (checked is_no_accessor type) identifier))))

  abbrev after : Pair → List ℕ
  after x = behind_type_name

  chosen_laws : Laws class_of chosen pair_tokens (EitherFit Const.Fits (EitherFit Var.Fits (EitherFit Final.Fits Typed.Fits))) (Either Const.front (Either Var.front (Either Final.front Typed.front)))
      (this_word w.Const ++ (this_word w.Var ++ ((this_word w.Final) ++ type_first))) after false
  chosen_laws = by_first_laws (made_laws (both_laws (word_reads w.Const) typed_laws (λ place fits. apart_none (type_first ++ names))) to_const pair_tokens after (λ x fits. ap (λ (m : List Token). word_at x.0 w.Const ∷ (m ++ identifier_tokens x.1.1)) (said_type x.1.0)) (λ x fits. within_self behind_type_name))
      (by_first_laws (made_laws (both_laws (word_reads w.Var) identifier_reads (λ place fits. apart_none names)) to_var pair_tokens after (λ x fits. refl) (λ x fits. within_none behind_type_name))
      (by_first_laws (made_laws (both_laws (word_reads w.Final) typed_laws (λ place fits. apart_none (type_first ++ names))) to_final pair_tokens after (λ x fits. ap (λ (m : List Token). word_at x.0 w.Final ∷ (m ++ identifier_tokens x.1.1)) (said_type x.1.0)) (λ x fits. within_self behind_type_name))
      (made_laws (both_laws (checked_laws T is_no_accessor) identifier_reads (λ x fits. apart_smaller (under_type x) (apart refl))) to_typed pair_tokens after (λ x fits. ap (λ (m : List Token). m ++ identifier_tokens x.1) (sym (A.spells x.0))) (λ x fits. within_none behind_type_name)) (apart refl)) (apart refl)) (apart refl)

  abbrev with_name : Identifier → VariableKind → Pair
  with_name b k = (k, b)

  forth : (x : Pair) → EitherFit Const.Fits (EitherFit Var.Fits (EitherFit Final.Fits Typed.Fits)) x → Whole.Fits x
  forth x (inl ((place, (of, b)), fits, e)) = subst Whole.Fits e ((inr ((place, of), (tt, fits.1.0), refl), refl), tt)
  forth x (inr (inl ((place, b), fits, e))) = subst Whole.Fits e ((inl (inl (place, tt, refl)), refl), tt)
  forth x (inr (inr (inl ((place, (of, b)), fits, e)))) = subst Whole.Fits e ((inl (inr (inl ((place, of), (tt, fits.1.0), refl))), refl), tt)
  forth x (inr (inr (inr ((of, b), fits, e)))) = subst Whole.Fits e ((inl (inr (inr (of, fits.0.0, refl))), fits.0.1), tt)

  back : (x : Pair) → Whole.Fits x → EitherFit Const.Fits (EitherFit Var.Fits (EitherFit Final.Fits Typed.Fits)) x
  back (k, b) ((inr ((place, of), fits, e), on), at) = inl ((place, (of, b)), (tt, (fits.1, tt)), ap (with_name b) e)
  back (k, b) ((inl (inl (place, fits, e)), on), at) = inr (inl ((place, b), (tt, tt), ap (with_name b) e))
  back (k, b) ((inl (inr (inl ((place, of), fits, e))), on), at) = inr (inr (inl ((place, (of, b)), (tt, (fits.1, tt)), ap (with_name b) e)))
  back (k, b) ((inl (inr (inr (of, fits, e))), on), at) = inr (inr (inr ((of, b), ((fits, subst (λ (m : VariableKind). kind_leaves_name m ≡ true) (sym e) on), tt), ap (with_name b) e)))

  said_with : (more : List Token) (k m : VariableKind) → k ≡ m → kind_tokens k ++ more ≡ kind_tokens m ++ more
  said_with more k m e = ap (λ (x : VariableKind). kind_tokens x ++ more) e

  abbrev Begun : Front Token
  Begun = Either Const.front (Either Var.front (Either Final.front Typed.front))

  out : (ts : List Token) → Begun ts → Whole.front ts
  out ts (inl (inl f)) = inl (inr (inl f))
  out ts (inl (inr (place, more, t, on, e, inl f))) = inl (inr (inr (place, more, tt, refl, e, f)))
  out ts (inl (inr (place, more, t, on, e, inr (of, rest, fits, go, is, f)))) =
      inr (const_kind place of, rest, inr ((place, of), (tt, fits), refl), refl, e ∙ ap (λ (m : List Token). word_at place w.Const ∷ m) (is ∙ ap (λ (m : List Token). m ++ rest) (sym (said_type of))), f)
  out ts (inr (inl (inl f))) = inl (inl (inl f))
  out ts (inr (inl (inr (place, more, t, on, e, f)))) = inr (var_kind place, more, inl (inl (place, tt, refl)), refl, e, f)
  out ts (inr (inr (inl (inl f)))) = inl (inl (inr (inl (inl f))))
  out ts (inr (inr (inl (inr (place, more, t, on, e, inl f))))) = inl (inl (inr (inl (inr (place, more, tt, refl, e, f)))))
  out ts (inr (inr (inl (inr (place, more, t, on, e, inr (of, rest, fits, go, is, f)))))) =
      inr (final_kind place of, rest, inl (inr (inl ((place, of), (tt, fits), refl))), refl, e ∙ ap (λ (m : List Token). word_at place w.Final ∷ m) (is ∙ ap (λ (m : List Token). m ++ rest) (sym (said_type of))), f)
  out ts (inr (inr (inr (inl f)))) = inl (inl (inr (inr f)))
  out ts (inr (inr (inr (inr (of, more, fits, on, e, f))))) = inr (typed_kind of, more, inl (inr (inr (of, fits.0, refl))), fits.1, e ∙ ap (λ (m : List Token). m ++ more) (A.spells of), f)

  into : (ts : List Token) → Whole.front ts → Begun ts
  into ts (inl (inr (inl f))) = inl (inl f)
  into ts (inl (inr (inr (place, more, t, on, e, f)))) = inl (inr (place, more, tt, refl, e, inl f))
  into ts (inl (inl (inl f))) = inr (inl (inl f))
  into ts (inl (inl (inr (inl (inl f))))) = inr (inr (inl (inl f)))
  into ts (inl (inl (inr (inl (inr (place, more, t, on, e, f)))))) = inr (inr (inl (inr (place, more, tt, refl, e, inl f))))
  into ts (inl (inl (inr (inr f)))) = inr (inr (inr (inl f)))
  into ts (inr (k, more, inr ((place, of), fits, is), on, e, f)) =
      inl (inr (place, option_spelling q.spelling of ++ more, tt, refl, e ∙ said_with more k (const_kind place of) (sym is) ∙ ap (λ (m : List Token). word_at place w.Const ∷ (m ++ more)) (said_type of), inr (of, more, fits.1, refl, refl, f)))
  into ts (inr (k, more, inl (inl (place, fits, is)), on, e, f)) = inr (inl (inr (place, more, tt, refl, e ∙ said_with more k (var_kind place) (sym is), f)))
  into ts (inr (k, more, inl (inr (inl ((place, of), fits, is))), on, e, f)) =
      inr (inr (inl (inr (place, option_spelling q.spelling of ++ more, tt, refl, e ∙ said_with more k (final_kind place of) (sym is) ∙ ap (λ (m : List Token). word_at place w.Final ∷ (m ++ more)) (said_type of), inr (of, more, fits.1, refl, refl, f)))))
  into ts (inr (k, more, inl (inr (inr (of, fits, is))), on, e, f)) =
      inr (inr (inr (inr (of, more, (fits, subst (λ (m : VariableKind). kind_leaves_name m ≡ true) (sym is) on), refl, e ∙ said_with more k (typed_kind of) (sym is) ∙ ap (λ (m : List Token). m ++ more) (sym (A.spells of)), f))))

  -- ---- the same reader

  abbrev named_by : VariableKind → List Token → Outcome Token Pair
  named_by k mid = and_then (identifier mid) (λ b rest. Ok ((k, b), rest))

  abbrev check : VariableKind → List Token → Outcome Token VariableKind
  check k rest = if kind_leaves_name k then Ok (k, rest) else Err rest

  worded_const : (a : Place) (o : Outcome Token (Option TypeNode)) → and_then (and_then (and_then (and_then {B = Place × Option TypeNode} o (λ b rest. Ok ((a, b), rest))) (λ x rest. Ok (const_kind x.0 x.1, rest))) check) named_by
      ≡ and_then (and_then {B = Place × (Option TypeNode × Identifier)} (and_then {B = Option TypeNode × Identifier} o (λ b mid. and_then {B = Option TypeNode × Identifier} (identifier mid) (λ x rest. Ok ((b, x), rest)))) (λ y rest. Ok ((a, y), rest))) (λ x rest. Ok (to_const x, rest))
  worded_const a (Ok (b, mid)) = put_two a b to_const (identifier mid)
  worded_const a (Err x) = refl

  worded_final : (a : Place) (o : Outcome Token (Option TypeNode)) → and_then (and_then (and_then (and_then {B = Place × Option TypeNode} o (λ b rest. Ok ((a, b), rest))) (λ x rest. Ok (final_kind x.0 x.1, rest))) check) named_by
      ≡ and_then (and_then {B = Place × (Option TypeNode × Identifier)} (and_then {B = Option TypeNode × Identifier} o (λ b mid. and_then {B = Option TypeNode × Identifier} (identifier mid) (λ x rest. Ok ((b, x), rest)))) (λ y rest. Ok ((a, y), rest))) (λ x rest. Ok (to_final x, rest))
  worded_final a (Ok (b, mid)) = put_two a b to_final (identifier mid)
  worded_final a (Err x) = refl

  abbrev check_type : TypeNode → List Token → Outcome Token TypeNode
  check_type x rest = if is_no_accessor x then Ok (x, rest) else Err rest

  typed_same : (o : Outcome Token TypeNode) → and_then (and_then (and_then o (λ x rest. Ok (typed_kind x, rest))) check) named_by
      ≡ and_then (and_then (and_then o check_type) (λ x mid. and_then {B = TypeNode × Identifier} (identifier mid) (λ b rest. Ok ((x, b), rest)))) (λ x rest. Ok (to_typed x, rest))
  typed_same (Ok (x, mid)) = at (is_no_accessor x) where
    at : (c : Bool) → and_then {A = VariableKind} (if c then Ok (typed_kind x, mid) else Err mid) named_by ≡ and_then (and_then {A = TypeNode} (if c then Ok (x, mid) else Err mid) (λ x mid. and_then {B = TypeNode × Identifier} (identifier mid) (λ b rest. Ok ((x, b), rest)))) (λ x rest. Ok (to_typed x, rest))
    at true = put x to_typed (identifier mid)
    at false = refl
  typed_same (Err x) = refl

  same_at : (t : Token) (ts : List Token) (c v f : Bool) → eqb (class_of t) (word_code w.Const) ≡ c → eqb (class_of t) (word_code w.Var) ≡ v → eqb (class_of t) (word_code w.Final) ≡ f → both (checked kind_leaves_name (variables_kind type)) identifier (t ∷ ts) ≡ chosen (t ∷ ts)
  unfolding variables_kind kind word
  same_at t ts true v f h k m = rw h (worded_const (place_of t) (type_before_name type ts))
  same_at t ts false true f h k m = rw (h, k) (put (place_of t) to_var (identifier ts))
  same_at t ts false false true h k m = rw (h, k, m) (worded_final (place_of t) (type_before_name type ts))
  same_at t ts false false false h k m = rw (h, k, m) (typed_same (type (t ∷ ts)))

  same : (ts : List Token) → both (checked kind_leaves_name (variables_kind type)) identifier ts ≡ chosen ts
  unfolding variables_kind kind word
  same [] = typed_same (type [])
  same (t ∷ ts) = same_at t ts (eqb (class_of t) (word_code w.Const)) (eqb (class_of t) (word_code w.Var)) (eqb (class_of t) (word_code w.Final)) refl refl refl

  pub variable_laws : Reads (both (checked kind_leaves_name (variables_kind type)) identifier) Whole variable_first (λ x. behind_type_name) false
  variable_laws = reread (restated chosen_laws forth back out into (within_self variable_first) (λ x fits. within_self behind_type_name) (λ h. h)) same

-- ---- variables: a kind, names with their values, and a semicolon

-- what begins what stands behind the first name
abbrev pub value_codes : List ℕ
value_codes = these s.Assign ++ (these s.Comma ++ these s.Semicolon)

module _ {type : Reader Token TypeNode} {expr : Reader Token Expr} (nodes : p.StmtNodes) (T : Reads type nodes.expr_nodes.type type_first after_type false) (G : Goes nodes.expr_nodes.type) (E : Reads expr nodes.expr_nodes.expr expr_first after_expr false) (A : StmtsAgree nodes) where
  abbrev behind_variable : List ℕ
  behind_variable = behind_values s.Assign ++ []

  abbrev value : Phrase Value
  value = g.after_sign s.Assign nodes.expr_nodes.expr

  more_laws : Reads (r.more_variables expr) (many_of (l.sign s.Comma ~ (l.identifier ~ value))) (these s.Comma) (λ x. these s.Comma ++ behind_variable) true
  unfolding r.more_variables
  more_laws = many_plain_laws (both_laws (sign_reads s.Comma) (both_any_laws identifier_reads (after_sign_laws E A.expr_nodes.expr s.Assign) (λ x fits. apart_none (these s.Assign))) (λ place fits. apart_none names)) {codes = behind_variable} (λ x fits. within_self behind_variable) (apart refl)

  abbrev Parts : Type 0
  Parts = (VariableKind × Identifier) × (Value × (List (Place × (Identifier × Value)) × Place))

  abbrev to_variables : Parts → Variables
  to_variables x = the_variables x.0 x.1.0 x.1.1.0 x.1.1.1

  -- what stands behind the first name
  abbrev pub Values : Phrase (Value × (List (Place × (Identifier × Value)) × Place))
  Values = value ~ (many_of (l.sign s.Comma ~ (l.identifier ~ value)) ~ l.sign s.Semicolon)

  abbrev pub values_reader : Reader Token (Value × (List (Place × (Identifier × Value)) × Place))
  values_reader = both (r.after_sign s.Assign expr) (both (r.more_variables expr) (sign s.Semicolon))

  pub values_laws : Reads values_reader Values value_codes nowhere false
  values_laws = both_any_laws (after_sign_laws E A.expr_nodes.expr s.Assign) (both_any_laws more_laws (sign_reads s.Semicolon) (λ x fits. apart refl)) (λ x fits. apart refl)

  pub variables_said : (x : Parts) → ((seq_if kind_leaves_name (variables_kind_over nodes.expr_nodes.type) l.identifier) ~ Values).Fits x → variables_tokens (to_variables x) ≡ ((seq_if kind_leaves_name (variables_kind_over nodes.expr_nodes.type) l.identifier) ~ Values).spelling x
  unfolding variables_tokens
  variables_said = parts_say variables_tokens to_variables (seq_agrees (seq_if_agrees (variables_kind_agrees A.expr_nodes.type) identifier_agrees kind_leaves_name)
      (seq_agrees (after_sign_agrees A.expr_nodes.expr s.Assign) (seq_agrees (many_agrees (seq_agrees (sign_agrees s.Comma) (seq_agrees identifier_agrees (after_sign_agrees A.expr_nodes.expr s.Assign)))) (sign_agrees s.Semicolon))))
      (λ x fits. simp (said_variables, append_assoc))

  pub variables_parts : Reads (both (both (checked kind_leaves_name (variables_kind type)) identifier) values_reader) ((seq_if kind_leaves_name (variables_kind_over nodes.expr_nodes.type) l.identifier) ~ Values) variable_first nowhere false
  variables_parts = both_laws (variable_laws T A.expr_nodes.type G) values_laws (λ x fits. apart refl)

  pub variables_laws : Reads (r.variables_over type expr) (p.variables_over nodes) variable_first nowhere false
  unfolding r.variables_over
  variables_laws = made_laws variables_parts to_variables variables_tokens nowhere variables_said (λ x fits. within_none [])
