-- The law of declarations in functions: variables or a function, which never read alike (ECMA-408, 17.3 Local Variable Declaration,
-- 17.4 Local Function Declaration).
use Rattle.std.proofs.Common.{◌≡◌, ℕ, Bool, true, false, if◌then◌else◌, List, [], ◌∷◌, ◌++◌, Option, None, ◌⊎◌, inl, inr, refl, ap, sym, ◌∙◌, subst, append_assoc}
use Rattle.std.proofs.lemmas.List.{append-nil}
use Rattle.dart_base.specs.declared.place.Place.{Place}
use Rattle.dart_token.specs.declared.token.Token.{Token}
use Rattle.dart_token.specs.declared.sign.Sign.TheVariants as s
use Rattle.dart_token.specs.declared.word.Word.TheVariants as w
use Rattle.dart_tree.specs.LeafTokens.{result_tokens, kind_tokens, identifier_tokens}
use Rattle.dart_tree.specs.Tree as t
use Rattle.dart_tree.specs.Tree.{Stmt, Variables, Function}
use Rattle.dart_tree.specs.Tokens.{stmt_tokens, variables_tokens, function_tokens}
use Rattle.grammar_laws.specs.Codes.{has, nowhere}
use Rattle.grammar_laws.specs.Readers.{Reader, mapped, tried, by_first, starts, nothing}
use Rattle.grammar_laws.specs.Fronts.{Front, Either, EitherFit, FirstFit, option_spelling}
use Rattle.grammar_laws.specs.Laws.{Laws}
use Rattle.grammar_laws.proofs.Codes.{apart, clash, has_cases, inside, not_true, within_none}
use Rattle.grammar_laws.proofs.Restated.{made_laws, refit, reread, restated}
use Rattle.grammar_laws.proofs.Chosen.{by_first_laws}
use Rattle.grammar_laws.proofs.Tried.{tried_laws}
use Rattle.grammar_laws.proofs.Joints.{begins}
use Rattle.dart_syntax.specs.Phrases.{Phrase, ◌~◌, made}
use Rattle.dart_syntax.specs.Agreement.{StmtsAgree}
use Rattle.dart_syntax.specs.Leaves.{word_tokens}
use Rattle.dart_syntax.specs.Statements as p
use Rattle.token_codes.specs.Codes.{class_of, word_code, these}
use Rattle.token_codes.specs.Reads.{Reads}
use Rattle.grammar_laws.specs.Halves.{strict}
use Rattle.syntax_readers.specs.Types.{type_first}
use Rattle.syntax_readers.specs.Primaries.{ExprReaders, expr_first}
use Rattle.syntax_readers.specs.Combinators.{always_gives}
use Rattle.syntax_readers.specs.Parameters as r
use Rattle.syntax_readers.specs.Statements.{declaration_first}
use Rattle.laws_type.specs.Nexts.{after_type}
use Rattle.laws_expr.specs.Nexts.{after_expr}
use Rattle.laws_expr.proofs.Tokens.{refuses}
use Rattle.laws_expr.proofs.Guarded.{guarded, guarded_laws, GuardedFit, guarded_front}
use Rattle.laws_stmt.specs.Statements.{variable_first, function_first}
use Rattle.laws_stmt.proofs.Named.{Goes}
use Rattle.laws_stmt.proofs.Variables.{value_codes, variables_laws, variables_said, values_laws}
use Rattle.laws_stmt.proofs.Local.{function_laws, function_said, called_laws, bare_laws}
use Rattle.laws_stmt.proofs.Declaring.{variables_end, function_ends, Values, Called, ResultName}

module _ (here : ExprReaders) (nodes : p.StmtNodes) (T : Reads here.type nodes.expr_nodes.type type_first after_type false) (G : Goes nodes.expr_nodes.type) (A : StmtsAgree nodes) (E : Reads (strict here.expr) nodes.expr_nodes.expr expr_first after_expr false)
    (P : Reads here.parameters nodes.expr_nodes.parameters (these s.LeftParenthesis) nowhere false) (B : Reads here.block nodes.expr_nodes.block (these s.LeftBrace) nowhere false) where
  abbrev Vars : Phrase Variables
  Vars = p.variables_over nodes

  abbrev Func : Phrase Function
  Func = p.local_function_over nodes

  -- ---- no list begins both past the first name

  variables_past : (x : Function) (more : List Token) → Func.Fits x → Vars.front (function_tokens x ++ more) → ⊥
  variables_past x more ((none, ((r, name), (given, body))), (blank, (fits, called)), e) f = past ((Called here nodes T G A E P B).spelling (given, body) ++ more) (begins (called_laws here nodes T G A E P B) (given, body) more called) (subst Vars.front spelt f) where
    spelt : function_tokens x ++ more ≡ (option_spelling result_tokens r ++ identifier_tokens name) ++ ((Called here nodes T G A E P B).spelling (given, body) ++ more)
    spelt = ap (λ (m : List Token). m ++ more) (ap function_tokens (sym e) ∙ function_said here nodes T G A E P B (none, ((r, name), (given, body))) (blank, (fits, called)) ∙ ap (λ (o : Option Place). option_spelling (word_tokens w.External) o ++ ((option_spelling result_tokens r ++ identifier_tokens name) ++ (Called here nodes T G A E P B).spelling (given, body))) blank)
        ∙ append_assoc (option_spelling result_tokens r ++ identifier_tokens name) ((Called here nodes T G A E P B).spelling (given, body)) more

    past : (m : List Token) → starts class_of (these s.LeftParenthesis) m ≡ true → Vars.front ((option_spelling result_tokens r ++ identifier_tokens name) ++ m) → ⊥
    past [] on f = absurd cc
    past (u ∷ z) on f = variables_end here nodes T G A E P B r name u z fits on f

  bare : (ts : List Token) → Func.front ts → (ResultName here nodes T G A E P B ~ Called here nodes T G A E P B).front ts
  bare ts (inl e) = subst (ResultName here nodes T G A E P B ~ Called here nodes T G A E P B).front (sym e) (bare_laws here nodes T G A E P B).none
  bare ts (inr (o, m, is, on, e, f)) = subst (ResultName here nodes T G A E P B ~ Called here nodes T G A E P B).front (sym (e ∙ ap (λ (x : Option Place). option_spelling (word_tokens w.External) x ++ m) is)) f

  functions_past : (x : Variables) (more : List Token) → Vars.Fits x → Func.front (variables_tokens x ++ more) → ⊥
  functions_past x more (((k, name), behind), (fits, values), e) f = past ((Values here nodes T G A E P B).spelling behind ++ more) (begins (values_laws nodes T G E A) behind more values) (subst (ResultName here nodes T G A E P B ~ Called here nodes T G A E P B).front spelt (bare (variables_tokens x ++ more) f)) where
    spelt : variables_tokens x ++ more ≡ (kind_tokens k ++ identifier_tokens name) ++ ((Values here nodes T G A E P B).spelling behind ++ more)
    spelt = ap (λ (m : List Token). m ++ more) (ap variables_tokens (sym e) ∙ variables_said nodes T G E A ((k, name), behind) (fits, values)) ∙ append_assoc (kind_tokens k ++ identifier_tokens name) ((Values here nodes T G A E P B).spelling behind) more

    past : (m : List Token) → starts class_of value_codes m ≡ true → (ResultName here nodes T G A E P B ~ Called here nodes T G A E P B).front ((kind_tokens k ++ identifier_tokens name) ++ m) → ⊥
    past [] on f = absurd cc
    past (u ∷ z) on f = function_ends here nodes T G A E P B k name u z fits on f

  -- ---- a second try, and the words that only variables begin with

  abbrev VarStmt : Phrase Stmt
  VarStmt = made stmt_tokens t.variables_stmt Vars

  abbrev FuncStmt : Phrase Stmt
  FuncStmt = made stmt_tokens t.function_stmt Func

  abbrev vars_reader : Reader Token Stmt
  vars_reader = mapped t.variables_stmt (r.variables_over here.type (strict here.expr))

  abbrev func_reader : Reader Token Stmt
  func_reader = mapped t.function_stmt (r.function_over here (always_gives None) (r.whole_body here))

  vars_laws : Reads vars_reader VarStmt variable_first nowhere false
  unfolding stmt_tokens
  vars_laws = made_laws (variables_laws nodes T G E A) t.variables_stmt stmt_tokens nowhere (λ x fits. refl) (λ x fits. within_none [])

  func_laws : Reads func_reader FuncStmt function_first nowhere false
  unfolding stmt_tokens
  func_laws = made_laws (function_laws here nodes T G A E P B) t.function_stmt stmt_tokens nowhere (λ x fits. refl) (λ x fits. within_none [])

  over_func : (a : Stmt) (u : Token) (ts : List Token) → FuncStmt.Fits a → VarStmt.front (stmt_tokens a ++ u ∷ ts) → ⊥
  unfolding stmt_tokens
  over_func a u ts (x, fits, e) f = variables_past x (u ∷ ts) fits (subst (λ (b : Stmt). Vars.front (stmt_tokens b ++ u ∷ ts)) (sym e) f)

  over_vars : (a : Stmt) (u : Token) (ts : List Token) → VarStmt.Fits a → FuncStmt.front (stmt_tokens a ++ u ∷ ts) → ⊥
  unfolding stmt_tokens
  over_vars a u ts (x, fits, e) f = functions_past x (u ∷ ts) fits (subst (λ (b : Stmt). Func.front (stmt_tokens b ++ u ∷ ts)) (sym e) f)

  apart_trees : (a b : Stmt) → FuncStmt.Fits a → VarStmt.Fits b → stmt_tokens a ≡ stmt_tokens b → ⊥
  unfolding stmt_tokens
  apart_trees a b (x, fits, e) at same = variables_past x [] fits (subst Vars.front (sym (append-nil (function_tokens x) ∙ ap stmt_tokens e ∙ same)) (vars_laws.whole b at))

  either_laws : Laws class_of (tried func_reader vars_reader) stmt_tokens (EitherFit FuncStmt.Fits VarStmt.Fits) (Either FuncStmt.front VarStmt.front) (function_first ++ variable_first) nowhere false
  either_laws = refit (tried_laws func_laws vars_laws over_func over_vars) forth (λ a fits. back a fits) where
    forth : (a : Stmt) → FirstFit stmt_tokens FuncStmt.Fits VarStmt.Fits a → EitherFit FuncStmt.Fits VarStmt.Fits a
    forth a (inl fits) = inl fits
    forth a (inr fits) = inr fits.0

    back : (a : Stmt) → EitherFit FuncStmt.Fits VarStmt.Fits a → FirstFit stmt_tokens FuncStmt.Fits VarStmt.Fits a
    back a (inl fits) = inl fits
    back a (inr fits) = inr (fits, λ b at same. apart_trees b a at fits same)

  abbrev leads : List ℕ
  leads = word_code w.Var ∷ word_code w.Final ∷ word_code w.Const ∷ []

  abbrev Parted : Stmt → Type 0
  Parted = EitherFit (GuardedFit vars_laws leads) (GuardedFit either_laws function_first)

  abbrev parted_front : Front Token
  parted_front = Either (guarded_front vars_laws leads) (guarded_front either_laws function_first)

  parted_laws : Laws class_of (by_first class_of leads (guarded vars_laws leads) (guarded either_laws function_first)) stmt_tokens Parted parted_front (leads ++ function_first) nowhere false
  parted_laws = by_first_laws (guarded_laws vars_laws leads) (guarded_laws either_laws function_first) (apart refl)

  abbrev Whole : Phrase Stmt
  Whole = p.declaration_of (record { expr_nodes = nodes.expr_nodes; variables = Vars; local_function = Func; parameter = nodes.parameter; catch_clause = nodes.catch_clause; compound = nodes.compound })

  forth : (a : Stmt) → Parted a → Whole.Fits a
  forth a (inl (fits, on)) = inl fits
  forth a (inr (inl fits, on)) = inr fits
  forth a (inr (inr fits, on)) = inl fits

  led : (m : List Token) → starts class_of variable_first m ≡ true → (starts class_of leads m ≡ true) ⊎ (starts class_of function_first m ≡ true)
  led [] on = absurd cc
  led (u ∷ m) on = has_cases leads function_first (class_of u) ((inside {xs = variable_first} {ys = leads ++ function_first} refl).in_second (class_of u) on)

  begun : {next : Stmt → List ℕ} {read : Reader Token Stmt} {F : Stmt → Type 0} {front : Front Token} {first : List ℕ} → Laws class_of read stmt_tokens F front first next false → (a : Stmt) → F a → starts class_of first (stmt_tokens a) ≡ true
  begun {first = first} L a fits = ap (starts class_of first) (sym (append-nil (stmt_tokens a))) ∙ begins L a [] fits

  back : (a : Stmt) → Whole.Fits a → Parted a
  back a (inl fits) = elim (led (stmt_tokens a) (begun vars_laws a fits)) [
    | inl on ↦ inl (fits, on)
    | inr on ↦ inr (inr fits, on)
  ]
  back a (inr fits) = inr (inl fits, begun func_laws a fits)

  out : (ts : List Token) → parted_front ts → Whole.front ts
  out ts (inl (inl e)) = inl (subst Vars.front (sym e) vars_laws.none)
  out ts (inl (inr (f, on))) = inl f
  out ts (inr (inl e)) = inl (subst Vars.front (sym e) vars_laws.none)
  out ts (inr (inr (inl f, on))) = inr f
  out ts (inr (inr (inr f, on))) = inl f

  into : (ts : List Token) → Whole.front ts → parted_front ts
  into [] f = inl (inl refl)
  into (u ∷ ts) (inl f) = elim (led (u ∷ ts) (vars_laws.firsts u ts f)) [
    | inl on ↦ inl (inr (f, on))
    | inr on ↦ inr (inr (inr f, on))
  ]
  into (u ∷ ts) (inr f) = inr (inr (inl f, func_laws.firsts u ts f))

  none_begins : (ts : List Token) → starts class_of leads ts ≡ false → starts class_of function_first ts ≡ false → starts class_of (function_first ++ variable_first) ts ≡ false
  none_begins [] h k = refl
  none_begins (u ∷ ts) h k = not_true (has (function_first ++ variable_first) (class_of u)) (λ on. elim (has_cases leads function_first (class_of u) ((inside {xs = function_first ++ variable_first} {ys = leads ++ function_first} refl).in_second (class_of u) on)) as (λ _. ⊥) [
    | inl i ↦ clash (has leads (class_of u)) i h
    | inr i ↦ clash (has function_first (class_of u)) i k
  ])

  same : (ts : List Token) (b c : Bool) → starts class_of leads ts ≡ b → starts class_of function_first ts ≡ c →
      (if b then vars_reader ts else tried func_reader vars_reader ts) ≡ (if b then (if b then vars_reader ts else nothing ts) else (if c then tried func_reader vars_reader ts else nothing ts))
  same ts true c h k = refl
  same ts false true h k = refl
  same ts false false h k = refuses either_laws ts (none_begins ts h k)

  pub declaration_laws : Reads (by_first class_of leads vars_reader (tried func_reader vars_reader)) Whole declaration_first nowhere false
  declaration_laws = reread (restated parted_laws forth back out into (inside refl) (λ x fits. within_none []) (λ h. h)) (λ ts. same ts (starts class_of leads ts) (starts class_of function_first ts) refl refl)
