-- The law of `for` (ECMA-408, 17.6 For), over any reader of statements: the head tells the three kinds.
use Rattle.std.proofs.Common.{◌≡◌, ℕ, suc, true, not, inl, inr, List, [], ◌∷◌, ◌++◌, refl, sym, ap, subst, ◌∙◌, append_assoc}
use Rattle.std.proofs.lemmas.List.{append-nil}
use Rattle.dart_base.specs.declared.place.Place.{Place}
use Rattle.dart_token.specs.declared.token.Token.{Token}
use Rattle.dart_token.specs.declared.sign.Sign.TheVariants as s
use Rattle.dart_token.specs.declared.word.Word.TheVariants as w
use Rattle.dart_tree.specs.declared.identifier.Identifier.{Identifier}
use Rattle.dart_tree.specs.Types.{VariableKind}
use Rattle.dart_tree.specs.Tree as t
use Rattle.dart_tree.specs.Tree.{Expr, Items, Loop, Stmt, Value, Variables}
use Rattle.dart_tree.specs.Tokens.{loop_tokens, items_tokens}
use Rattle.grammar_laws.specs.Codes.{Within, has}
use Rattle.grammar_laws.specs.Readers.{Reader, both, starts}
use Rattle.grammar_laws.proofs.Codes.{apart_none, inside}
use Rattle.grammar_laws.proofs.Joints.{begins}
use Rattle.grammar_laws.proofs.Cuts.{same, longer, shorter, cut}
use Rattle.dart_syntax.specs.Phrases.{Phrase, ◌~◌, ◌<|>◌, made, perhaps}
use Rattle.dart_syntax.specs.Leaves as l
use Rattle.dart_syntax.specs.Types.{without_kind, kind_over}
use Rattle.dart_syntax.specs.Expressions as g
use Rattle.dart_syntax.specs.Statements as p
use Rattle.dart_syntax.specs.Statements.{within, is_shut, is_shut_loop}
use Rattle.dart_syntax.proofs.Agreeing.{parts_say, seq_agrees, perhaps_agrees}
use Rattle.dart_syntax.proofs.AgreeingTypes.{sign_agrees, word_agrees, identifier_agrees}
use Rattle.dart_syntax.proofs.AgreeingExpressions.{maybe_expr_agrees, plain_list_agrees}
use Rattle.dart_syntax.proofs.AgreeingStatements.{some_kind_agrees}
use Rattle.dart_syntax.proofs.AgreeingStages.{within_agrees}
use Rattle.dart_syntax.specs.Agreement.{WithinAgrees}
use Rattle.token_codes.specs.Codes.{class_of, these, this_word}
use Rattle.token_codes.specs.Leaves.{sign, word, identifier}
use Rattle.token_codes.proofs.Leaves.{sign_reads, word_reads}
use Rattle.syntax_readers.specs.Primaries.{expr_first, maybe_expr}
use Rattle.syntax_readers.specs.Parameters.{maybe_kind}
use Rattle.syntax_readers.specs.Statements as i
use Rattle.syntax_readers.specs.Statements.{stage, closed, stmt_first, open_try, open_try_in}
use Rattle.laws_apart.specs.Statements.{HeadsApartAt, start_of}
use Rattle.laws_block.specs.Begun.{level_of, still_of, ReadsBegun}
use Rattle.laws_stmt.specs.Besides.{ForPartsReadAt, kind_name_of, kind_first}
use Rattle.laws_block.specs.Statements.{StatementsReadAt, ForReadAt}
use Rattle.laws_block.proofs.Combined.{then_begun, then_any_begun, made_begun, restated_begun}
use Rattle.laws_block.proofs.Levels.{deeper_room, still_within, loop_level, loop_still, loop_begun}
use Rattle.laws_block.proofs.Grouped.{regrouped_begun, into, behind_first}
use Rattle.laws_block.proofs.Alike.{tried_begun}

module _ (n : ℕ) (S : StatementsReadAt n) (I : ForPartsReadAt n) (H : HeadsApartAt n) where
  abbrev stmt : Phrase Stmt
  stmt = (within n).stmt

  abbrev expr : Phrase Expr
  expr = (within n).nodes.expr_nodes.expr

  abbrev reader : Reader Token Expr
  reader = closed (stage n).nodes.exprs

  A : WithinAgrees (within n)
  A = within_agrees n

  -- ---- the parts behind the head's beginning

  abbrev value : Phrase Value
  value = g.maybe_expr expr

  abbrev updates : Phrase Items
  updates = perhaps t.no_items (g.plain_list expr)

  abbrev variables : Phrase Variables
  variables = (within n).nodes.variables

  abbrev body : Phrase (Place × Stmt)
  body = l.sign s.RightParenthesis ~ stmt

  abbrev Rest : Type 0
  Rest = Value × (Place × (Items × (Place × Stmt)))

  abbrev rest : Phrase Rest
  rest = value ~ (l.sign s.Semicolon ~ (updates ~ body))

  body_begun : ReadsBegun (both (sign s.RightParenthesis) (stage n).stmt) body (these s.RightParenthesis) (λ x. level_of n x.1) (λ x. still_of n x.1)
  body_begun = then_begun (sign_reads s.RightParenthesis) S.reads (λ place fits. apart_none stmt_first)

  abbrev updates_reader : Reader Token (Items × (Place × Stmt))
  updates_reader = both (i.updates_over reader) (both (sign s.RightParenthesis) (stage n).stmt)

  abbrev rest_reader : Reader Token Rest
  rest_reader = both (maybe_expr reader) (both (sign s.Semicolon) updates_reader)

  rest_begun : ReadsBegun rest_reader rest (expr_first ++ these s.Semicolon) (λ x. level_of n x.1.1.1.1) (λ x. still_of n x.1.1.1.1)
  rest_begun = then_any_begun I.value (then_begun (sign_reads s.Semicolon) (then_any_begun I.updates body_begun (λ x fits. I.updates_off)) (λ place fits. apart_none (expr_first ++ these s.RightParenthesis))) (λ x fits. I.value_off)

  abbrev Started : {X : Type 0} → Phrase X → Phrase (Place × (Place × X))
  Started q = l.word w.For ~ (l.sign s.LeftParenthesis ~ q)

  -- ---- for ( [expression] ; [expression] ; [expressionList] ) statement

  abbrev Counted : Type 0
  Counted = Value × (Place × Rest)

  abbrev counted : Phrase Counted
  counted = value ~ (l.sign s.Semicolon ~ rest)

  abbrev to_counted : Place × (Place × Counted) → Loop
  to_counted x = t.for_loop x.0 x.1.0 x.1.1.0 x.1.1.1.0 x.1.1.1.1.0 x.1.1.1.1.1.0 x.1.1.1.1.1.1.0 x.1.1.1.1.1.1.1.0 x.1.1.1.1.1.1.1.1

  counted_said : (x : Place × (Place × Counted)) → (Started counted).Fits x → loop_tokens (to_counted x) ≡ (Started counted).spelling x
  unfolding loop_tokens items_tokens
  counted_said = parts_say loop_tokens to_counted (seq_agrees (word_agrees w.For) (seq_agrees (sign_agrees s.LeftParenthesis) (seq_agrees (maybe_expr_agrees A.nodes.expr_nodes.expr) (seq_agrees (sign_agrees s.Semicolon) (seq_agrees (maybe_expr_agrees A.nodes.expr_nodes.expr)
      (seq_agrees (sign_agrees s.Semicolon) (seq_agrees (perhaps_agrees t.no_items refl (plain_list_agrees A.nodes.expr_nodes.expr)) (seq_agrees (sign_agrees s.RightParenthesis) A.stmt)))))))) (λ x fits. refl)

  counted_level : (x : Place × (Place × Counted)) → loop_level (suc n) (to_counted x) ≡ level_of n x.1.1.1.1.1.1.1.1
  unfolding open_try_in
  counted_level x = deeper_room n (open_try x.1.1.1.1.1.1.1.1)

  counted_still : (x : Place × (Place × Counted)) → Within (still_of n x.1.1.1.1.1.1.1.1) (loop_still (suc n) (to_counted x))
  unfolding open_try_in is_shut_loop
  counted_still x = still_within (level_of n x.1.1.1.1.1.1.1.1) (loop_level (suc n) (to_counted x)) (not (is_shut x.1.1.1.1.1.1.1.1)) (not (is_shut x.1.1.1.1.1.1.1.1)) (counted_level x) (λ e. e)

  counted_begun : ReadsBegun (i.for_loop_over reader (stage n).stmt) (made loop_tokens to_counted (Started counted)) (this_word w.For) (loop_level (suc n)) (loop_still (suc n))
  unfolding i.for_loop_over
  counted_begun = made_begun (then_begun (word_reads w.For) (then_begun (sign_reads s.LeftParenthesis) (then_any_begun I.value (then_begun (sign_reads s.Semicolon) rest_begun (λ place fits. apart_none _)) (λ x fits. I.value_off)) (λ place fits. apart_none _)) (λ place fits. apart_none _))
      to_counted loop_tokens (loop_level (suc n)) (loop_still (suc n)) (λ x fits. counted_level x) counted_said (λ x fits. counted_still x)

  -- ---- for ( variableDeclaration [expression] ; [expressionList] ) statement

  abbrev Declared : Type 0
  Declared = Variables × Rest

  abbrev declared : Phrase Declared
  declared = variables ~ rest

  abbrev to_declared : Place × (Place × Declared) → Loop
  to_declared x = t.for_variables x.0 x.1.0 x.1.1.0 x.1.1.1.0 x.1.1.1.1.0 x.1.1.1.1.1.0 x.1.1.1.1.1.1.0 x.1.1.1.1.1.1.1

  declared_said : (x : Place × (Place × Declared)) → (Started declared).Fits x → loop_tokens (to_declared x) ≡ (Started declared).spelling x
  unfolding loop_tokens items_tokens
  declared_said = parts_say loop_tokens to_declared (seq_agrees (word_agrees w.For) (seq_agrees (sign_agrees s.LeftParenthesis) (seq_agrees A.nodes.variables (seq_agrees (maybe_expr_agrees A.nodes.expr_nodes.expr)
      (seq_agrees (sign_agrees s.Semicolon) (seq_agrees (perhaps_agrees t.no_items refl (plain_list_agrees A.nodes.expr_nodes.expr)) (seq_agrees (sign_agrees s.RightParenthesis) A.stmt))))))) (λ x fits. refl)

  declared_level : (x : Place × (Place × Declared)) → loop_level (suc n) (to_declared x) ≡ level_of n x.1.1.1.1.1.1.1
  unfolding open_try_in
  declared_level x = deeper_room n (open_try x.1.1.1.1.1.1.1)

  declared_still : (x : Place × (Place × Declared)) → Within (still_of n x.1.1.1.1.1.1.1) (loop_still (suc n) (to_declared x))
  unfolding open_try_in is_shut_loop
  declared_still x = still_within (level_of n x.1.1.1.1.1.1.1) (loop_level (suc n) (to_declared x)) (not (is_shut x.1.1.1.1.1.1.1)) (not (is_shut x.1.1.1.1.1.1.1)) (declared_level x) (λ e. e)

  declared_begun : ReadsBegun (i.for_variables_over (stage n).nodes.variables reader (stage n).stmt) (made loop_tokens to_declared (Started declared)) (this_word w.For) (loop_level (suc n)) (loop_still (suc n))
  unfolding i.for_variables_over
  declared_begun = made_begun (then_begun (word_reads w.For) (then_begun (sign_reads s.LeftParenthesis) (then_begun I.variables rest_begun (λ v fits. apart_none _)) (λ place fits. apart_none _)) (λ place fits. apart_none _))
      to_declared loop_tokens (loop_level (suc n)) (loop_still (suc n)) (λ x fits. declared_level x) declared_said (λ x fits. declared_still x)

  -- ---- for ( [finalConstVarOrType] id in expression ) statement

  abbrev sort : Phrase VariableKind
  sort = without_kind <|> kind_over (within n).nodes.expr_nodes.type

  abbrev Inside : Type 0
  Inside = Place × (Expr × (Place × Stmt))

  abbrev inside_of : Phrase Inside
  inside_of = l.word w.In ~ (expr ~ body)

  abbrev Iterated : Type 0
  Iterated = VariableKind × (Identifier × Inside)

  abbrev iterated : Phrase Iterated
  iterated = sort ~ (l.identifier ~ inside_of)

  abbrev to_iterated : Place × (Place × Iterated) → Loop
  to_iterated x = t.for_in x.0 x.1.0 x.1.1.0 x.1.1.1.0 x.1.1.1.1.0 x.1.1.1.1.1.0 x.1.1.1.1.1.1.0 x.1.1.1.1.1.1.1

  iterated_said : (x : Place × (Place × Iterated)) → (Started iterated).Fits x → loop_tokens (to_iterated x) ≡ (Started iterated).spelling x
  unfolding loop_tokens
  iterated_said = parts_say loop_tokens to_iterated (seq_agrees (word_agrees w.For) (seq_agrees (sign_agrees s.LeftParenthesis) (seq_agrees (some_kind_agrees A.nodes.expr_nodes) (seq_agrees identifier_agrees (seq_agrees (word_agrees w.In)
      (seq_agrees A.nodes.expr_nodes.expr (seq_agrees (sign_agrees s.RightParenthesis) A.stmt))))))) (λ x fits. refl)

  iterated_level : (x : Place × (Place × Iterated)) → loop_level (suc n) (to_iterated x) ≡ level_of n x.1.1.1.1.1.1.1
  unfolding open_try_in
  iterated_level x = deeper_room n (open_try x.1.1.1.1.1.1.1)

  iterated_still : (x : Place × (Place × Iterated)) → Within (still_of n x.1.1.1.1.1.1.1) (loop_still (suc n) (to_iterated x))
  unfolding open_try_in is_shut_loop
  iterated_still x = still_within (level_of n x.1.1.1.1.1.1.1) (loop_level (suc n) (to_iterated x)) (not (is_shut x.1.1.1.1.1.1.1)) (not (is_shut x.1.1.1.1.1.1.1)) (iterated_level x) (λ e. e)

  abbrev inside_reader : Reader Token Inside
  inside_reader = both (word w.In) (both reader (both (sign s.RightParenthesis) (stage n).stmt))

  inside_begun : ReadsBegun inside_reader inside_of (this_word w.In) (λ x. level_of n x.1.1.1) (λ x. still_of n x.1.1.1)
  inside_begun = then_begun (word_reads w.In) (regrouped_begun expr (l.sign s.RightParenthesis) stmt reader (sign s.RightParenthesis) (stage n).stmt expr_first (level_of n) (still_of n) (then_begun I.iterated S.reads (λ x fits. apart_none stmt_first))) (λ place fits. apart_none expr_first)

  iterated_begun : ReadsBegun (i.for_in_over (stage n).nodes.exprs.type reader (stage n).stmt) (made loop_tokens to_iterated (Started iterated)) (this_word w.For) (loop_level (suc n)) (loop_still (suc n))
  unfolding i.for_in_over
  iterated_begun = made_begun (then_begun (word_reads w.For) (then_begun (sign_reads s.LeftParenthesis)
      (regrouped_begun sort l.identifier inside_of (maybe_kind (stage n).nodes.exprs.type) identifier inside_reader kind_first (λ x. level_of n x.1.1.1) (λ x. still_of n x.1.1.1) (then_begun I.kind_name inside_begun (λ x fits. I.kind_off)))
      (λ place fits. apart_none kind_first)) (λ place fits. apart_none (these s.LeftParenthesis)))
      to_iterated loop_tokens (loop_level (suc n)) (loop_still (suc n)) (λ x fits. iterated_level x) iterated_said (λ x fits. iterated_still x)

  -- ---- no head is the beginning of another one

  abbrev kind_name : Phrase (VariableKind × Identifier)
  kind_name = kind_name_of n

  abbrev start : Phrase (Value × Place)
  start = start_of n

  start_whole : (x : Value × Place) → start.Fits x → start.front (start.spelling x)
  start_whole x fits = inr (x.0, (l.sign s.Semicolon).spelling x.1, fits.0, refl, refl, (sign_reads s.Semicolon).whole x.1 tt)

  start_variables : (x : Value × Place) (v : Variables) (m k : List Token) → start.Fits x → variables.Fits v → start.spelling x ++ m ≡ variables.spelling v ++ k → ⊥
  start_variables x v m k fx fv e =
      elim (cut (start.spelling x) m (variables.spelling v) k e) as (λ _. ⊥) [
        | same a b ↦ H.value_variables v [] fv (subst start.front (a ∙ sym (append-nil (variables.spelling v))) (start_whole x fx))
        | longer u z a b ↦ H.variables_value x (u ∷ z) fx (subst variables.front a (I.variables.whole v fv))
        | shorter u z a b ↦ H.value_variables v (u ∷ z) fv (subst start.front a (start_whole x fx))
      ]

  kind_variables : (x : VariableKind × Identifier) (v : Variables) (u : Token) (z k : List Token) → kind_name.Fits x → variables.Fits v → has (this_word w.In) (class_of u) ≡ true → kind_name.spelling x ++ u ∷ z ≡ variables.spelling v ++ k → ⊥
  kind_variables x v u z k fx fv on e =
      elim (cut (kind_name.spelling x) (u ∷ z) (variables.spelling v) k e) as (λ _. ⊥) [
        | same a b ↦ H.kind_variables v [] fv (subst kind_name.front (a ∙ sym (append-nil (variables.spelling v))) (I.kind_name.whole x fx))
        | longer y m a b ↦
            let is : u ≡ y = cc in
            H.variables_in x y m fx (subst (λ (c : Token). has (this_word w.In) (class_of c) ≡ true) is on) (subst variables.front a (I.variables.whole v fv))
        | shorter y m a b ↦ H.kind_variables v (y ∷ m) fv (subst kind_name.front a (I.kind_name.whole x fx))
      ]

  kind_start : (x : VariableKind × Identifier) (y : Value × Place) (u : Token) (z k : List Token) → kind_name.Fits x → start.Fits y → has (this_word w.In) (class_of u) ≡ true → kind_name.spelling x ++ u ∷ z ≡ start.spelling y ++ k → ⊥
  kind_start x y u z k fx fy on e =
      elim (cut (kind_name.spelling x) (u ∷ z) (start.spelling y) k e) as (λ _. ⊥) [
        | same a b ↦ H.kind_value y [] fy (subst kind_name.front (a ∙ sym (append-nil (start.spelling y))) (I.kind_name.whole x fx))
        | longer v m a b ↦
            let is : u ≡ v = cc in
            H.value_in x v m fx (subst (λ (c : Token). has (this_word w.In) (class_of c) ≡ true) is on) (subst start.front a (start_whole y fy))
        | shorter v m a b ↦ H.kind_value y (v ∷ m) fy (subst kind_name.front a (I.kind_name.whole x fx))
      ]

  declared_counted : (v : Variables) (m : List Token) → variables.Fits v → counted.front (variables.spelling v ++ m) → ⊥
  declared_counted v m fv f = elim (into value (l.sign s.Semicolon) rest (variables.spelling v ++ m) f) as (λ _. ⊥) [
    | inl h ↦ H.value_variables v m fv h
    | inr j ↦ start_variables j.0 v j.1 m j.2 fv (sym j.4)
  ]

  counted_declared : (x : Value × Place) (m : List Token) → start.Fits x → declared.front (start.spelling x ++ m) → ⊥
  counted_declared x m fx (inl h) = H.variables_value x m fx h
  counted_declared x m fx (inr (v, k, fv, on, e, h)) = start_variables x v m k fx fv e

  iterated_declared : (x : VariableKind × Identifier) (u : Token) (z : List Token) → kind_name.Fits x → has (this_word w.In) (class_of u) ≡ true → declared.front (kind_name.spelling x ++ u ∷ z) → ⊥
  iterated_declared x u z fx on (inl h) = H.variables_in x u z fx on h
  iterated_declared x u z fx on (inr (v, k, fv, go, e, h)) = kind_variables x v u z k fx fv on e

  iterated_counted : (x : VariableKind × Identifier) (u : Token) (z : List Token) → kind_name.Fits x → has (this_word w.In) (class_of u) ≡ true → counted.front (kind_name.spelling x ++ u ∷ z) → ⊥
  iterated_counted x u z fx on f = elim (into value (l.sign s.Semicolon) rest (kind_name.spelling x ++ u ∷ z) f) as (λ _. ⊥) [
    | inl h ↦ H.value_in x u z fx on h
    | inr j ↦ kind_start x j.0 u z j.1 fx j.2 on j.4
  ]

  declared_inside : (v : Variables) (m : List Token) → variables.Fits v → (x : VariableKind × Identifier) (k : List Token) → kind_name.Fits x → variables.spelling v ++ m ≡ kind_name.spelling x ++ k → inside_of.front k → ⊥
  declared_inside v m fv x [] fx e h = H.kind_variables v m fv (subst kind_name.front (sym (append-nil (kind_name.spelling x)) ∙ sym e) (I.kind_name.whole x fx))
  declared_inside v m fv x (u ∷ z) fx e h = kind_variables x v u z m fx fv (inside_begun.laws.firsts u z h) (sym e)

  declared_iterated : (v : Variables) (m : List Token) → variables.Fits v → iterated.front (variables.spelling v ++ m) → ⊥
  declared_iterated v m fv f = elim (into sort l.identifier inside_of (variables.spelling v ++ m) f) as (λ _. ⊥) [
    | inl h ↦ H.kind_variables v m fv h
    | inr j ↦ declared_inside v m fv j.0 j.1 j.2 j.4 j.5
  ]

  counted_inside : (y : Value × Place) (m : List Token) → start.Fits y → (x : VariableKind × Identifier) (k : List Token) → kind_name.Fits x → start.spelling y ++ m ≡ kind_name.spelling x ++ k → inside_of.front k → ⊥
  counted_inside y m fy x [] fx e h = H.kind_value y m fy (subst kind_name.front (sym (append-nil (kind_name.spelling x)) ∙ sym e) (I.kind_name.whole x fx))
  counted_inside y m fy x (u ∷ z) fx e h = kind_start x y u z m fx fy (inside_begun.laws.firsts u z h) (sym e)

  counted_iterated : (y : Value × Place) (m : List Token) → start.Fits y → iterated.front (start.spelling y ++ m) → ⊥
  counted_iterated y m fy f = elim (into sort l.identifier inside_of (start.spelling y ++ m) f) as (λ _. ⊥) [
    | inl h ↦ H.kind_value y m fy h
    | inr j ↦ counted_inside y m fy j.0 j.1 j.2 j.4 j.5
  ]

  -- ---- with the word and the bracket before them

  peel : {X : Type 0} (q : Phrase X) → q.front [] → (word opening : Place) (z : List Token) → (Started q).front ((l.word w.For).spelling word ++ ((l.sign s.LeftParenthesis).spelling opening ++ z)) → q.front z
  peel q none word opening z f = behind_first (sign_reads s.LeftParenthesis) q none opening z tt (behind_first (word_reads w.For) (l.sign s.LeftParenthesis ~ q) (inl (inl refl)) word ((l.sign s.LeftParenthesis).spelling opening ++ z) tt f)

  abbrev IterLoop : Phrase Loop
  IterLoop = made loop_tokens to_iterated (Started iterated)

  abbrev DeclLoop : Phrase Loop
  DeclLoop = made loop_tokens to_declared (Started declared)

  abbrev CountLoop : Phrase Loop
  CountLoop = made loop_tokens to_counted (Started counted)

  value_none : value.front []
  value_none = I.value.none

  sort_none : sort.front []
  sort_none = inl refl

  variables_none : variables.front []
  variables_none = I.variables.none

  declared_over : (a : Loop) (ts : List Token) → DeclLoop.Fits a → CountLoop.front (loop_tokens a ++ ts) → ⊥
  declared_over a ts (x, fits, e) f =
      let spelt : loop_tokens a ++ ts ≡ (Started declared).spelling x ++ ts = ap (λ (m : List Token). m ++ ts) (ap loop_tokens (sym e) ∙ declared_said x fits) in
      let g : counted.front (declared.spelling x.1.1 ++ ts) = peel counted (inl value_none) x.0 x.1.0 (declared.spelling x.1.1 ++ ts) (subst (Started counted).front spelt f) in
      declared_counted x.1.1.0 (rest.spelling x.1.1.1 ++ ts) fits.1.1.0 (subst counted.front (append_assoc (variables.spelling x.1.1.0) (rest.spelling x.1.1.1) ts) g)

  -- an expression or none with its semicolon, and what stands behind it
  started_said : (c : Counted) (ts : List Token) → counted.spelling c ++ ts ≡ start.spelling (c.0, c.1.0) ++ (rest.spelling c.1.1 ++ ts)
  started_said c ts = ap (λ (m : List Token). m ++ ts) (sym (append_assoc (value.spelling c.0) ((l.sign s.Semicolon).spelling c.1.0) (rest.spelling c.1.1))) ∙ append_assoc (start.spelling (c.0, c.1.0)) (rest.spelling c.1.1) ts

  abbrev start_part : Counted → Value × Place
  start_part c = (c.0, c.1.0)

  counted_over : (a : Loop) (ts : List Token) → CountLoop.Fits a → DeclLoop.front (loop_tokens a ++ ts) → ⊥
  counted_over a ts (x, fits, e) f =
      let spelt : loop_tokens a ++ ts ≡ (Started counted).spelling x ++ ts = ap (λ (m : List Token). m ++ ts) (ap loop_tokens (sym e) ∙ counted_said x fits) in
      let g : declared.front (counted.spelling x.1.1 ++ ts) = peel declared (inl variables_none) x.0 x.1.0 (counted.spelling x.1.1 ++ ts) (subst (Started declared).front spelt f) in
      counted_declared (start_part x.1.1) (rest.spelling x.1.1.1.1 ++ ts) (fits.1.1.0, fits.1.1.1.0) (subst declared.front (started_said x.1.1 ts) g)

  abbrev kind_part : Iterated → VariableKind × Identifier
  kind_part c = (c.0, c.1.0)

  iterated_tokens : (c : Iterated) (ts : List Token) → iterated.spelling c ++ ts ≡ kind_name.spelling (kind_part c) ++ (inside_of.spelling c.1.1 ++ ts)
  iterated_tokens c ts = ap (λ (m : List Token). m ++ ts) (sym (append_assoc (sort.spelling c.0) (l.identifier.spelling c.1.0) (inside_of.spelling c.1.1))) ∙ append_assoc (kind_name.spelling (kind_part c)) (inside_of.spelling c.1.1) ts

  in_has : (word : Place) → starts class_of (this_word w.In) ((l.word w.In).spelling word ++ []) ≡ true
  in_has word = begins (word_reads w.In) word [] tt

  iterated_over : (a : Loop) (ts : List Token) → IterLoop.Fits a → (DeclLoop <|> CountLoop).front (loop_tokens a ++ ts) → ⊥
  iterated_over a ts (x, fits, e) (inl f) =
      let spelt : loop_tokens a ++ ts ≡ (Started iterated).spelling x ++ ts = ap (λ (m : List Token). m ++ ts) (ap loop_tokens (sym e) ∙ iterated_said x fits) in
      let g : declared.front (iterated.spelling x.1.1 ++ ts) = peel declared (inl variables_none) x.0 x.1.0 (iterated.spelling x.1.1 ++ ts) (subst (Started declared).front spelt f) in
      iterated_declared (kind_part x.1.1) _ _ (fits.1.1.0, fits.1.1.1.0) (in_has x.1.1.1.1.0) (subst declared.front (iterated_tokens x.1.1 ts) g)
  iterated_over a ts (x, fits, e) (inr f) =
      let spelt : loop_tokens a ++ ts ≡ (Started iterated).spelling x ++ ts = ap (λ (m : List Token). m ++ ts) (ap loop_tokens (sym e) ∙ iterated_said x fits) in
      let g : counted.front (iterated.spelling x.1.1 ++ ts) = peel counted (inl value_none) x.0 x.1.0 (iterated.spelling x.1.1 ++ ts) (subst (Started counted).front spelt f) in
      iterated_counted (kind_part x.1.1) _ _ (fits.1.1.0, fits.1.1.1.0) (in_has x.1.1.1.1.0) (subst counted.front (iterated_tokens x.1.1 ts) g)

  others_over : (a : Loop) (ts : List Token) → (DeclLoop <|> CountLoop).Fits a → IterLoop.front (loop_tokens a ++ ts) → ⊥
  others_over a ts (inl (x, fits, e)) f =
      let spelt : loop_tokens a ++ ts ≡ (Started declared).spelling x ++ ts = ap (λ (m : List Token). m ++ ts) (ap loop_tokens (sym e) ∙ declared_said x fits) in
      let g : iterated.front (declared.spelling x.1.1 ++ ts) = peel iterated (inl sort_none) x.0 x.1.0 (declared.spelling x.1.1 ++ ts) (subst (Started iterated).front spelt f) in
      declared_iterated x.1.1.0 (rest.spelling x.1.1.1 ++ ts) fits.1.1.0 (subst iterated.front (append_assoc (variables.spelling x.1.1.0) (rest.spelling x.1.1.1) ts) g)
  others_over a ts (inr (x, fits, e)) f =
      let spelt : loop_tokens a ++ ts ≡ (Started counted).spelling x ++ ts = ap (λ (m : List Token). m ++ ts) (ap loop_tokens (sym e) ∙ counted_said x fits) in
      let g : iterated.front (counted.spelling x.1.1 ++ ts) = peel iterated (inl sort_none) x.0 x.1.0 (counted.spelling x.1.1 ++ ts) (subst (Started iterated).front spelt f) in
      counted_iterated (start_part x.1.1) (rest.spelling x.1.1.1.1 ++ ts) (fits.1.1.0, fits.1.1.1.0) (subst iterated.front (started_said x.1.1 ts) g)

  -- ---- one of the three

  forth : (x : Loop) → (IterLoop <|> (DeclLoop <|> CountLoop)).Fits x → (p.for_over (within n)).Fits x
  forth x (inl f) = inr (inr f)
  forth x (inr (inl f)) = inr (inl f)
  forth x (inr (inr f)) = inl f

  back : (x : Loop) → (p.for_over (within n)).Fits x → (IterLoop <|> (DeclLoop <|> CountLoop)).Fits x
  back x (inl f) = inr (inr f)
  back x (inr (inl f)) = inr (inl f)
  back x (inr (inr f)) = inl f

  out_for : (ts : List Token) → (IterLoop <|> (DeclLoop <|> CountLoop)).front ts → (p.for_over (within n)).front ts
  out_for ts (inl f) = inr (inr f)
  out_for ts (inr (inl f)) = inr (inl f)
  out_for ts (inr (inr f)) = inl f

  into_for : (ts : List Token) → (p.for_over (within n)).front ts → (IterLoop <|> (DeclLoop <|> CountLoop)).front ts
  into_for ts (inl f) = inr (inr f)
  into_for ts (inr (inl f)) = inr (inl f)
  into_for ts (inr (inr f)) = inl f

  for_loops : ReadsBegun (i.for_over (stage n).nodes (stage n).stmt) (p.for_over (within n)) (this_word w.For) (loop_level (suc n)) (loop_still (suc n))
  unfolding i.for_over
  for_loops = restated_begun (tried_begun iterated_begun (tried_begun declared_begun counted_begun declared_over counted_over) iterated_over others_over) forth back out_for into_for (inside refl)

  pub for_begun : ForReadAt n
  for_begun = loop_begun (suc n) for_loops (λ x fits. refl)
