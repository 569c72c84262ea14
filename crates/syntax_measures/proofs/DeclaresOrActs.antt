-- No declaration has the tokens of another statement: as an expression it would be wrong.
use Rattle.std.proofs.Common.{◌≡◌, ℕ, zero, suc, List, [], ◌∷◌, ◌++◌, Option, None, Some, inl, inr, refl, sym, ap, ◌∙◌, subst, append_assoc}
use Rattle.dart_base.specs.declared.place.Place.{Place}
use Rattle.dart_token.specs.declared.token.Token.{Token}
use Rattle.dart_token.specs.declared.sign.Sign.TheVariants as s
use Rattle.dart_token.specs.declared.word.Word.TheVariants as w
use Rattle.dart_tree.specs.declared.identifier.Identifier.{Identifier}
use Rattle.dart_tree.specs.declared.identifier.Identifier.TheVariants as i
use Rattle.dart_tree.specs.declared.identifier.DotName.{DotName}
use Rattle.dart_tree.specs.LeafTokens.{sign_at, maybe_word, maybe_result, maybe_dot_name, maybe_type, identifier_tokens, type_tokens, type_arguments_tokens, type_list_tokens, kind_tokens}
use Rattle.dart_tree.specs.Types.{TypeNode, TypeArguments, TypeList, ResultType, VariableKind, final_kind, dynamic_type, named_type, no_types, listed_types}
use Rattle.dart_tree.specs.Tree as t
use Rattle.dart_tree.specs.Tree.{Expr, Value, Stmt, Loop, Body, Variables, Function, Block}
use Rattle.dart_tree.specs.Tokens.{expr_tokens, value_tokens, stmt_tokens, loop_tokens, body_tokens, parameters_tokens, variables_tokens, function_tokens, block_tokens, stmts_tokens, more_variables_tokens}
use Rattle.dart_syntax.specs.Phrases.{Phrase, opt}
use Rattle.dart_syntax.specs.Types.{more_types, types, type_arguments, type_over, type_within, result_over, kind_over, variables_kind_over}
use Rattle.dart_syntax.specs.Expressions.{maybe_expr, after_sign}
use Rattle.dart_syntax.specs.Statements.{StmtNodes, Within, more_variables, whole_body, variables_over, local_function_over, compound_over, jump_of, declaration_of, other_statement_of, nodes_over, within}
use Rattle.syntax_measures.specs.Readings.{DeclaresOrActs}
use Rattle.syntax_measures.proofs.Scanning.{State, kind_class, name, const_begun, typed, begun, named, dotted, compared, second, second_dotted, closed, called, free, wrong, step, scan, scan_append, free_stays, wrong_stays, braced, braced_stays}
use Rattle.syntax_measures.proofs.Calling.{parameters_call}
use Rattle.syntax_measures.proofs.ScanningOperands.{type_typed}
use Rattle.syntax_measures.proofs.ScanningLevels.{loose_freed, expr_scans}

-- ---- what the first token tells

pub lead_wrong : (z : State) (l : List Token) (t : Token) (ts : List Token) → l ≡ t ∷ ts → step z (kind_class t.kind) ≡ wrong → scan z l ≡ wrong
lead_wrong z l t ts is leads = ap (λ (m : List Token). scan z m) is ∙ ap (λ (y : State). scan y ts) leads ∙ wrong_stays ts

lead_free : {A : Type 0} (tokens : A → List Token) (x y : A) → x ≡ y → (t : Token) (ts : List Token) → tokens x ≡ t ∷ ts → step begun (kind_class t.kind) ≡ free → scan begun (tokens y) ≡ free
lead_free tokens x y same t ts is leads = ap (λ c. scan begun (tokens c)) (sym same) ∙ ap (λ (m : List Token). scan begun m) is ∙ ap (λ (z : State). scan z ts) leads ∙ free_stays ts

-- ---- a type and a name behind it

name_then : (x : Identifier) (z : State) (rest : List Token) → scan z (identifier_tokens x ++ rest) ≡ scan (step z name) rest
name_then (i.Name place text) z rest = refl
name_then (i.Get place) z rest = refl
name_then (i.Set place) z rest = refl

pub to_named : (x : Identifier) (member : Option DotName) (rest : List Token) → scan begun (identifier_tokens x ++ (maybe_dot_name member ++ rest)) ≡ scan named rest
to_named x None rest = name_then x begun rest
to_named x (Some d) rest = name_then x begun (sign_at d.dot s.Dot ∷ (identifier_tokens d.name ++ rest)) ∙ name_then d.name dotted rest

to_second : (x : Identifier) (member : Option DotName) (rest : List Token) → scan compared (identifier_tokens x ++ (maybe_dot_name member ++ rest)) ≡ scan second rest
to_second x None rest = name_then x compared rest
to_second x (Some d) rest = name_then x compared (sign_at d.dot s.Dot ∷ (identifier_tokens d.name ++ rest)) ∙ name_then d.name second_dotted rest

name_wrong : (x : Identifier) (z : State) → step z name ≡ wrong → (rest : List Token) → scan z (identifier_tokens x ++ rest) ≡ wrong
name_wrong x z is rest = name_then x z rest ∙ ap (λ (y : State). scan y rest) is ∙ wrong_stays rest

-- what stands behind the first type argument
abbrev behind_first : List (Place × TypeNode) → Place → Identifier → List Token → List Token
behind_first more closing x rest = type_list_tokens (more_types more) ++ (sign_at closing s.Greater ∷ (identifier_tokens x ++ rest))

arguments_wrong : (given : TypeArguments) (more : List (Place × TypeNode)) (closing : Place) (x : Identifier) (rest : List Token) → scan second (type_arguments_tokens given ++ behind_first more closing x rest) ≡ wrong
arguments_wrong no_types [] closing x rest = name_wrong x closed refl rest
arguments_wrong no_types (y ∷ ys) closing x rest = lead_wrong second (behind_first (y ∷ ys) closing x rest) _ _ refl refl
arguments_wrong (listed_types opening listed end) more closing x rest = lead_wrong second (type_arguments_tokens (listed_types opening listed end) ++ behind_first more closing x rest) _ _ refl refl

first_wrong : (y : TypeNode) (more : List (Place × TypeNode)) (closing : Place) (x : Identifier) (rest : List Token) → scan compared (type_tokens y ++ behind_first more closing x rest) ≡ wrong
first_wrong (dynamic_type place) more closing x rest = wrong_stays (behind_first more closing x rest)
first_wrong (named_type first member given) more closing x rest =
    ap (λ (l : List Token). scan compared l) (append_assoc (identifier_tokens first) (maybe_dot_name member ++ type_arguments_tokens given) (behind_first more closing x rest)
    ∙ ap (λ (l : List Token). identifier_tokens first ++ l) (append_assoc (maybe_dot_name member) (type_arguments_tokens given) (behind_first more closing x rest)))
    ∙ to_second first member (type_arguments_tokens given ++ behind_first more closing x rest)
    ∙ arguments_wrong given more closing x rest

module _ (p : Phrase TypeNode) where
  angles_wrong : (given : TypeArguments) → (type_arguments (types p)).Fits given → (x : Identifier) (rest : List Token) → scan named (type_arguments_tokens given ++ (identifier_tokens x ++ rest)) ≡ wrong
  angles_wrong given (None, fits, is) x rest = ap (λ (g : TypeArguments). scan named (type_arguments_tokens g ++ (identifier_tokens x ++ rest))) (sym is) ∙ name_wrong x named refl rest
  angles_wrong given ((Some (opening, (listed, closing))), (anything, (((first, more), fits, same), ends)), is) x rest =
      ap (λ (g : TypeArguments). scan named (type_arguments_tokens g ++ (identifier_tokens x ++ rest))) (sym is)
      ∙ ap (λ (l : TypeList). scan compared ((type_list_tokens l ++ sign_at closing s.Greater ∷ []) ++ (identifier_tokens x ++ rest))) (sym same)
      ∙ ap (λ (l : List Token). scan compared l) (append_assoc (type_tokens first ++ type_list_tokens (more_types more)) (sign_at closing s.Greater ∷ []) (identifier_tokens x ++ rest)
      ∙ append_assoc (type_tokens first) (type_list_tokens (more_types more)) (sign_at closing s.Greater ∷ (identifier_tokens x ++ rest)))
      ∙ first_wrong first more closing x rest

  type_wrong : (y : TypeNode) → (type_over p).Fits y → (x : Identifier) (rest : List Token) → scan begun (type_tokens y ++ (identifier_tokens x ++ rest)) ≡ wrong
  type_wrong y (inl (place, anything, is)) x rest = ap (λ (c : TypeNode). scan begun (type_tokens c ++ (identifier_tokens x ++ rest))) (sym is) ∙ wrong_stays (identifier_tokens x ++ rest)
  type_wrong y (inr ((first, (member, given)), fits, is)) x rest =
      ap (λ (c : TypeNode). scan begun (type_tokens c ++ (identifier_tokens x ++ rest))) (sym is)
      ∙ ap (λ (l : List Token). scan begun l) (append_assoc (identifier_tokens first) (maybe_dot_name member ++ type_arguments_tokens given) (identifier_tokens x ++ rest)
      ∙ ap (λ (l : List Token). identifier_tokens first ++ l) (append_assoc (maybe_dot_name member) (type_arguments_tokens given) (identifier_tokens x ++ rest)))
      ∙ to_named first member (type_arguments_tokens given ++ (identifier_tokens x ++ rest))
      ∙ angles_wrong given fits.1.1 x rest

-- a type of this phrase and a name are wrong as an expression
record TypesWrong (p : Phrase TypeNode) : Type 0 where
  both : (y : TypeNode) → p.Fits y → (x : Identifier) (rest : List Token) → scan begun (type_tokens y ++ (identifier_tokens x ++ rest)) ≡ wrong

types_wrong : (n : ℕ) → TypesWrong (within n).nodes.expr_nodes.type
unfolding within nodes_over type_within
types_wrong zero = record { both = λ y fits x rest. absurd fits }
types_wrong (suc n) = record { both = type_wrong (type_within n) }

-- ---- variables and functions

module _ {p : Phrase TypeNode} (P : TypesWrong p) where
  kind_wrong : (y : VariableKind) → (kind_over p).Fits y → (x : Identifier) (rest : List Token) → scan begun (kind_tokens y ++ (identifier_tokens x ++ rest)) ≡ wrong
  kind_wrong y (inl (place, anything, is)) x rest = ap (λ (c : VariableKind). scan begun (kind_tokens c ++ (identifier_tokens x ++ rest))) (sym is) ∙ wrong_stays (identifier_tokens x ++ rest)
  kind_wrong y (inr (inl (parts, fits, is))) x rest = ap (λ (c : VariableKind). scan begun (kind_tokens c ++ (identifier_tokens x ++ rest))) (sym is) ∙ lead_wrong begun (kind_tokens (final_kind parts.0 parts.1) ++ (identifier_tokens x ++ rest)) _ _ refl refl
  kind_wrong y (inr (inr (inner, fits, is))) x rest = ap (λ (c : VariableKind). scan begun (kind_tokens c ++ (identifier_tokens x ++ rest))) (sym is) ∙ P.both inner fits x rest

  -- behind `const` a name and no parenthesis are wrong too
  const_wrong : (y : Option TypeNode) (x : Identifier) (rest : List Token) → scan typed rest ≡ wrong → scan const_begun (maybe_type y ++ (identifier_tokens x ++ rest)) ≡ wrong
  const_wrong None x rest ends = name_then x const_begun rest ∙ ends
  const_wrong (Some y) x rest ends = scan_append const_begun (type_tokens y) (identifier_tokens x ++ rest)
      ∙ ap (λ (z : State). scan z (identifier_tokens x ++ rest)) (type_typed y) ∙ name_wrong x typed refl rest

  variables_kind_wrong : (y : VariableKind) → (variables_kind_over p).Fits y → (x : Identifier) (rest : List Token) → scan typed rest ≡ wrong → scan begun (kind_tokens y ++ (identifier_tokens x ++ rest)) ≡ wrong
  variables_kind_wrong y (inl fits) x rest ends = kind_wrong y fits x rest
  variables_kind_wrong y (inr (parts, fits, is)) x rest ends = ap (λ (c : VariableKind). scan begun (kind_tokens c ++ (identifier_tokens x ++ rest))) (sym is) ∙ const_wrong parts.1 x rest ends

  result_wrong : (y : ResultType) → (result_over p).Fits y → (x : Identifier) (rest : List Token) → scan begun (maybe_result (Some y) ++ (identifier_tokens x ++ rest)) ≡ wrong
  result_wrong y (inl (place, anything, is)) x rest = ap (λ (c : ResultType). scan begun (maybe_result (Some c) ++ (identifier_tokens x ++ rest))) (sym is) ∙ wrong_stays (identifier_tokens x ++ rest)
  result_wrong y (inr (inner, fits, is)) x rest = ap (λ (c : ResultType). scan begun (maybe_result (Some c) ++ (identifier_tokens x ++ rest))) (sym is) ∙ P.both inner fits x rest

-- what stands behind a variable's name
more_wrong : (more : List (Place × (Identifier × Value))) (semicolon : Place) → scan typed (more_variables_tokens (more_variables more) ++ sign_at semicolon s.Semicolon ∷ []) ≡ wrong
unfolding more_variables_tokens
more_wrong [] semicolon = refl
more_wrong (x ∷ xs) semicolon = wrong_stays ((identifier_tokens x.1.0 ++ (value_tokens x.1.1 ++ more_variables_tokens (more_variables xs))) ++ sign_at semicolon s.Semicolon ∷ [])

values_wrong : (p : Phrase Expr) (x : Value) → (after_sign s.Assign p).Fits x → (more : List (Place × (Identifier × Value))) (semicolon : Place) → scan typed (value_tokens x ++ (more_variables_tokens (more_variables more) ++ sign_at semicolon s.Semicolon ∷ [])) ≡ wrong
unfolding value_tokens
values_wrong p x (inl is) more semicolon = ap (λ (c : Value). scan typed (value_tokens c ++ (more_variables_tokens (more_variables more) ++ sign_at semicolon s.Semicolon ∷ []))) is ∙ more_wrong more semicolon
values_wrong p x (inr (parts, fits, is)) more semicolon = ap (λ (c : Value). scan typed (value_tokens c ++ (more_variables_tokens (more_variables more) ++ sign_at semicolon s.Semicolon ∷ []))) (sym is)
    ∙ wrong_stays (expr_tokens parts.1 ++ (more_variables_tokens (more_variables more) ++ sign_at semicolon s.Semicolon ∷ []))

-- wrong, or in a body
abbrev Declared : State → Type 0
Declared wrong = Unit {0}
Declared braced = Unit {0}
Declared z = ⊥

pub block_braced : (x : Block) → scan called (block_tokens x) ≡ braced
unfolding block_tokens
block_braced (t.the_block opening statements closing) = braced_stays (stmts_tokens statements ++ sign_at closing s.RightBrace ∷ [])

module _ (inner : StmtNodes) where
  body_declared : (x : Body) → (whole_body inner.expr_nodes).Fits x → Declared (scan called (body_tokens x))
  unfolding body_tokens
  body_declared x (inl (parts, fits, is)) = subst (λ (c : Body). Declared (scan called (body_tokens c))) is (subst Declared (sym (lead_wrong called (body_tokens (t.arrow_body parts.0 parts.1.0 (Some parts.1.1))) _ _ refl refl)) tt)
  body_declared x (inr (inside, fits, is)) = subst (λ (c : Body). Declared (scan called (body_tokens c))) is (subst Declared (sym (block_braced inside)) tt)

  module _ (T : TypesWrong inner.expr_nodes.type) where
    variables_over_wrong : (x : Variables) → (variables_over inner).Fits x → scan begun (variables_tokens x) ≡ wrong
    unfolding variables_tokens
    variables_over_wrong x (parts, fits, is) = ap (λ (c : Variables). scan begun (variables_tokens c)) (sym is)
        ∙ variables_kind_wrong T parts.0.0 fits.0.0.0 parts.0.1 (value_tokens parts.1.0 ++ (more_variables_tokens (more_variables parts.1.1.0) ++ sign_at parts.1.1.1 s.Semicolon ∷ []))
        (values_wrong inner.expr_nodes.expr parts.1.0 fits.1.0 parts.1.1.0 parts.1.1.1)

    module _ (calls : (x : t.Parameters) → inner.expr_nodes.parameters.Fits x → scan named (parameters_tokens x) ≡ called) where
      signature_declared : (y : Option ResultType) → (opt (result_over inner.expr_nodes.type)).Fits y → (x : Identifier) (given : t.Parameters) (body : Body) → inner.expr_nodes.parameters.Fits given → (whole_body inner.expr_nodes).Fits body → Declared (scan begun (maybe_result y ++ (identifier_tokens x ++ (parameters_tokens given ++ body_tokens body))))
      signature_declared None fits x given body fit fitting = subst Declared (sym (name_then x begun (parameters_tokens given ++ body_tokens body)
          ∙ scan_append named (parameters_tokens given) (body_tokens body)
          ∙ ap (λ (z : State). scan z (body_tokens body)) (calls given fit)))
          (body_declared body fitting)
      signature_declared (Some y) fits x given body fit fitting = subst Declared (sym (result_wrong T y fits x (parameters_tokens given ++ body_tokens body))) tt

      function_over_declared : (x : Function) → (local_function_over inner).Fits x → Declared (scan begun (function_tokens x))
      unfolding function_tokens
      function_over_declared x (parts, fits, is) = subst (λ (c : Function). Declared (scan begun (function_tokens c))) is
          (subst (λ (e : Option Place). Declared (scan begun (maybe_word e w.External ++ (maybe_result parts.1.0.0 ++ (identifier_tokens parts.1.0.1 ++ (parameters_tokens parts.1.1.0 ++ body_tokens parts.1.1.1)))))) (sym fits.0)
          (signature_declared parts.1.0.0 fits.1.0.0.0 parts.1.0.1 parts.1.1.0 parts.1.1.1 fits.1.1.0 fits.1.1.1))

declared : (n : ℕ) (x : Stmt) → (declaration_of (within n).nodes).Fits x → Declared (scan begun (stmt_tokens x))
unfolding within nodes_over stmt_tokens
declared zero x (inl (inner, fits, is)) = absurd fits
declared zero x (inr (inner, fits, is)) = absurd fits
declared (suc n) x (inl (inner, fits, is)) = subst (λ (c : Stmt). Declared (scan begun (stmt_tokens c))) is (subst Declared (sym (variables_over_wrong (within n).nodes (types_wrong n) inner fits)) tt)
declared (suc n) x (inr (inner, fits, is)) = subst (λ (c : Stmt). Declared (scan begun (stmt_tokens c))) is (function_over_declared (within n).nodes (types_wrong n) (parameters_call n).call inner fits)

-- ---- other statements

block_free : (x : Block) → scan begun (block_tokens x) ≡ free
unfolding block_tokens
block_free (t.the_block opening statements closing) = lead_free block_tokens (t.the_block opening statements closing) _ refl _ _ refl refl

loop_free : (x : Loop) → scan begun (loop_tokens x) ≡ free
unfolding loop_tokens
loop_free (t.for_loop word opening start first condition last updates closing body) = lead_free loop_tokens (t.for_loop word opening start first condition last updates closing body) _ refl _ _ refl refl
loop_free (t.for_variables word opening variables condition semicolon updates closing body) = lead_free loop_tokens (t.for_variables word opening variables condition semicolon updates closing body) _ refl _ _ refl refl
loop_free (t.for_in word opening kind variable inside iterated closing body) = lead_free loop_tokens (t.for_in word opening kind variable inside iterated closing body) _ refl _ _ refl refl
loop_free (t.while_loop word opening condition closing body) = lead_free loop_tokens (t.while_loop word opening condition closing body) _ refl _ _ refl refl
loop_free (t.do_loop word body again opening condition closing semicolon) = lead_free loop_tokens (t.do_loop word body again opening condition closing semicolon) _ refl _ _ refl refl

module _ (inner : Within) where
  compound_free : (x : Stmt) → (compound_over inner).Fits x → scan begun (stmt_tokens x) ≡ free
  unfolding stmt_tokens
  compound_free x (inl (inl (parts, fits, is))) = lead_free stmt_tokens _ x is _ _ refl refl
  compound_free x (inl (inr (parts, fits, is))) = lead_free stmt_tokens _ x is _ _ refl refl
  compound_free x (inr (inl (loop, fits, is))) = ap (λ (c : Stmt). scan begun (stmt_tokens c)) (sym is) ∙ loop_free loop
  compound_free x (inr (inr (inl (parts, fits, is)))) = lead_free stmt_tokens _ x is _ _ refl refl
  compound_free x (inr (inr (inr (parts, fits, is)))) = lead_free stmt_tokens _ x is _ _ refl refl

compound_within_free : (n : ℕ) (x : Stmt) → (within n).nodes.compound.Fits x → scan begun (stmt_tokens x) ≡ free
unfolding within nodes_over
compound_within_free zero x fits = absurd fits
compound_within_free (suc n) x fits = compound_free (within n) x fits

value_free : (n : ℕ) (x : Value) → (maybe_expr (within n).nodes.expr_nodes.expr).Fits x → (semicolon : Place) → scan begun (value_tokens x ++ sign_at semicolon s.Semicolon ∷ []) ≡ free
unfolding value_tokens
value_free n x (inl is) semicolon = ap (λ (c : Value). scan begun (value_tokens c ++ sign_at semicolon s.Semicolon ∷ [])) is
value_free n x (inr (e, fits, is)) semicolon = ap (λ (c : Value). scan begun (value_tokens c ++ sign_at semicolon s.Semicolon ∷ [])) (sym is)
    ∙ scan_append begun (expr_tokens e) (sign_at semicolon s.Semicolon ∷ [])
    ∙ loose_freed (scan begun (expr_tokens e)) ((expr_scans n).ends e fits)

module _ (n : ℕ) where
  jump_free : (x : Stmt) → (jump_of (within n).nodes).Fits x → scan begun (stmt_tokens x) ≡ free
  unfolding stmt_tokens
  jump_free x (inl (parts, fits, is)) = lead_free stmt_tokens _ x is _ _ refl refl
  jump_free x (inr (inl (parts, fits, is))) = lead_free stmt_tokens _ x is _ _ refl refl
  jump_free x (inr (inr (inl (parts, fits, is)))) = lead_free stmt_tokens _ x is _ _ refl refl
  jump_free x (inr (inr (inr (parts, fits, is)))) = lead_free stmt_tokens _ x is _ _ refl refl

  acted_free : (x : Stmt) → (other_statement_of (within n).nodes).Fits x → scan begun (stmt_tokens x) ≡ free
  unfolding stmt_tokens
  acted_free x (inl (block, fits, is)) = ap (λ (c : Stmt). scan begun (stmt_tokens c)) (sym is) ∙ block_free block
  acted_free x (inr (inl fits)) = compound_within_free n x fits
  acted_free x (inr (inr (inl fits))) = jump_free x fits
  acted_free x (inr (inr (inr ((parts, fits, is), begins)))) = ap (λ (c : Stmt). scan begun (stmt_tokens c)) (sym is) ∙ value_free n parts.0 fits.0 parts.1

pub declares_or_acts : DeclaresOrActs
declares_or_acts n m x y declares_it acts_it same = subst Declared (ap (λ (l : List Token). scan begun l) same ∙ acted_free m y acts_it) (declared n x declares_it)
