-- The law of `switch` (ECMA-408, 17.9 Switch), over any reader of statements.
use Rattle.std.proofs.Common.{◌≡◌, ℕ, zero, suc, ◌<◌, ◌≤◌, Bool, true, false, if◌then◌else◌, List, [], ◌∷◌, length, None, Some, Ok, Err, refl, ap, ◌∙◌, append_assoc, arith}
use Rattle.std.proofs.lemmas.List.{length-append}
use Rattle.std.specs.List.{flat_map}
use Rattle.dart_base.specs.declared.place.Place.{Place}
use Rattle.dart_token.specs.declared.token.Token.{Token}
use Rattle.dart_token.specs.declared.sign.Sign.TheVariants as s
use Rattle.dart_token.specs.declared.word.Word.TheVariants as w
use Rattle.dart_tree.specs.declared.identifier.Label.{Label}
use Rattle.dart_tree.specs.Tree as t
use Rattle.dart_tree.specs.Tokens.{expr_tokens, stmt_tokens, switch_parts_tokens}
use Rattle.dart_tree.specs.Tree.{Expr, Stmt, SwitchParts, Value}
use Rattle.grammar_laws.specs.Codes.{has, nowhere}
use Rattle.grammar_laws.specs.Readers.{Outcome, Reader, and_then, both, mapped, always, many as many_reader, many_turns, by_first, starts, when, cons_to}
use Rattle.grammar_laws.specs.Fronts.{both_spelling}
use Rattle.grammar_laws.proofs.Codes.{apart, apart_none, within_none}
use Rattle.grammar_laws.proofs.Restated.{made_laws, reread}
use Rattle.grammar_laws.proofs.Combined.{both_laws, both_any_laws}
use Rattle.grammar_laws.proofs.Joints.{begins}
use Rattle.dart_syntax.specs.Phrases.{Phrase, ◌~◌, many, made}
use Rattle.dart_syntax.specs.Agreement.{Agrees, WithinAgrees}
use Rattle.dart_syntax.specs.Statements as g
use Rattle.dart_syntax.specs.Statements.{Within, a_switch}
use Rattle.dart_syntax.proofs.Agreeing.{parts_say, seq_agrees}
use Rattle.dart_syntax.proofs.AgreeingTypes.{sign_agrees, word_agrees}
use Rattle.dart_syntax.specs.Leaves.{sign_tokens}
use Rattle.dart_syntax.specs.Leaves as l
use Rattle.token_codes.specs.Codes.{class_of, names, these, this_word}
use Rattle.token_codes.specs.Leaves.{sign, word, label}
use Rattle.token_codes.specs.Reads.{Reads}
use Rattle.grammar_laws.proofs.Steps.{both_gives}
use Rattle.token_codes.proofs.Leaves.{sign_reads, word_reads}
use Rattle.syntax_readers.specs.Combinators.{always_gives, made₅}
use Rattle.syntax_readers.specs.Primaries.{expr_first}
use Rattle.syntax_readers.specs.Statements as i
use Rattle.syntax_readers.specs.Statements.{Part, is_case, to_parts, stmt_first, stmt_comes, stmt_in_part_comes, stmts_where}
use Rattle.laws_block.specs.Begun.{StmtReads, Partless}
use Rattle.laws_block.proofs.Lists.{behind_list}
use Rattle.laws_block.proofs.PartTests.{part_codes_first}
use Rattle.laws_block.proofs.PartPhrases.{Rest, More, flat, to_default, to_case}
use Rattle.laws_block.proofs.Runs.{sound_turns}
use Rattle.laws_block.proofs.SwitchParts.{to_switch, Whole, all_parts_laws}
use Rattle.laws_block.proofs.Switching.{Parted, behind_parts, rest_at, rest_reader, more_reader, rest_laws, more_laws, labels_laws}

module _ (n : ℕ) {stmt : Reader Token Stmt} {p : Phrase Stmt} (S : StmtReads n stmt p stmt_first) (N : Partless p) (D : Reads (stmts_where n stmt_comes stmt) (many p) stmt_first (λ xs. behind_list) true)
    (expr : Reader Token Expr) (q : Phrase Expr) (X : Reads (both expr (sign s.Colon)) (q ~ l.sign s.Colon) expr_first nowhere false)
    (E : Parted p) where
  abbrev part : Reader Token Part
  part = i.part_over n expr stmt

  abbrev turns : ℕ → Reader Token (List Part)
  turns = many_turns class_of is_case part_codes_first part

  abbrev at_most : ℕ → Reader Token More
  at_most = more_reader n S N D expr q X E

  abbrev rest_by : ℕ → Reader Token Rest
  rest_by = rest_reader n S N D expr q X E

  abbrev flattened : Outcome Token More → Outcome Token (List Part)
  flattened o = and_then o (λ y r. Ok (flat y, r))

  abbrev Behind : Type 0
  Behind = Place × (Value × (Place × List Stmt))

  abbrev goes_on : ℕ → Part → Reader Token (List Part)
  goes_on m a mid = cons_to a (if is_case a then turns m mid else Ok ([], mid))

  abbrev late : ℕ → List Label → Outcome Token Behind → Outcome Token (List Part)
  late m ls o = and_then (and_then o (λ b r. Ok ((ls, b), r))) (goes_on m)

  abbrev with_labels : List Label → Rest → Reader Token (List Label × Rest)
  with_labels ls y r = Ok ((ls, y), r)

  abbrev some_more : List Label × Rest → Reader Token More
  some_more b r = Ok (Some b, r)

  abbrev early : List Label → Outcome Token Rest → Outcome Token (List Part)
  early ls o = flattened (and_then (and_then o (with_labels ls)) some_more)

  abbrev stmts : Reader Token (List Stmt)
  stmts = stmts_where n stmt_comes stmt

  abbrev in_part : Reader Token (List Stmt)
  in_part = stmts_where n stmt_in_part_comes stmt

  -- ---- behind `default`

  abbrev default_behind : Reader Token Behind
  default_behind = both (word w.Default) (both (always_gives t.omitted) (both (sign s.Colon) stmts))

  abbrev default_rest : Reader Token Rest
  default_rest = mapped to_default (both (word w.Default) (both (sign s.Colon) stmts))

  d3 : (m : ℕ) (ls : List Label) (place colon : Place) (o : Outcome Token (List Stmt)) →
      late m ls (and_then (and_then (and_then o (λ x r. Ok ((colon, x), r))) (λ x r. Ok ((t.omitted, x), r))) (λ x r. Ok ((place, x), r))) ≡
      early ls (and_then (and_then (and_then o (λ x r. Ok ((colon, x), r))) (λ x r. Ok ((place, x), r))) (λ x r. Ok (to_default x, r)))
  d3 m ls place colon (Ok x) = refl
  d3 m ls place colon (Err x) = refl

  d2 : (m : ℕ) (ls : List Label) (place : Place) (o : Outcome Token Place) →
      late m ls (and_then (and_then (and_then o (λ c mid. and_then (stmts mid) (λ x r. Ok ((c, x), r)))) (λ x r. Ok ((t.omitted, x), r))) (λ x r. Ok ((place, x), r))) ≡
      early ls (and_then (and_then (and_then o (λ c mid. and_then (stmts mid) (λ x r. Ok ((c, x), r)))) (λ x r. Ok ((place, x), r))) (λ x r. Ok (to_default x, r)))
  d2 m ls place (Ok x) = d3 m ls place x.0 (stmts x.1)
  d2 m ls place (Err x) = refl

  d1 : (m : ℕ) (ls : List Label) (o : Outcome Token Place) →
      late m ls (and_then o (λ a mid. and_then (both (always_gives t.omitted) (both (sign s.Colon) stmts) mid) (λ x r. Ok ((a, x), r)))) ≡
      early ls (and_then (and_then o (λ a mid. and_then (both (sign s.Colon) stmts mid) (λ x r. Ok ((a, x), r)))) (λ x r. Ok (to_default x, r)))
  d1 m ls (Ok x) = d2 m ls x.0 (sign s.Colon x.1)
  d1 m ls (Err x) = refl

  -- ---- behind `case`, where further parts may follow

  abbrev Alike : ℕ → ℕ → Type 0
  Alike m k = (ts : List Token) → length ts ≤ m → length ts ≤ k → turns m ts ≡ flattened (at_most k ts)

  abbrev case_behind : Reader Token Behind
  case_behind = both (word w.Case) (both (mapped (t.given None) expr) (both (sign s.Colon) in_part))

  abbrev case_rest : ℕ → Reader Token Rest
  case_rest k = mapped to_case (both (word w.Case) (both (both expr (sign s.Colon)) (both in_part (at_most k))))

  abbrev a_part : List Label → Place → Expr → Place → List Stmt → Part
  a_part ls place value colon xs = (ls, (place, (t.given None value, (colon, xs))))

  abbrev headed : Expr → Place → Expr × Place
  headed value colon = (value, colon)

  abbrev with_head : Expr × Place → List Stmt × More → Reader Token ((Expr × Place) × (List Stmt × More))
  with_head x y r = Ok ((x, y), r)

  abbrev with_place : Place → (Expr × Place) × (List Stmt × More) → Reader Token (Place × ((Expr × Place) × (List Stmt × More)))
  with_place place y r = Ok ((place, y), r)

  abbrev cased : Place × ((Expr × Place) × (List Stmt × More)) → Reader Token Rest
  cased x r = Ok (to_case x, r)

  abbrev with_more : ℕ → List Stmt → Reader Token (List Stmt × More)
  with_more k xs mid = and_then (at_most k mid) (λ y r. Ok ((xs, y), r))

  abbrev to_early : List Label → Place → Expr × Place → Outcome Token (List Stmt × More) → Outcome Token (List Part)
  to_early ls place x o = early ls (and_then (and_then (and_then o (with_head x)) (with_place place)) cased)

  abbrev with_stmts : List Stmt → More → Reader Token (List Stmt × More)
  with_stmts xs y r = Ok ((xs, y), r)

  c5 : (ls : List Label) (place : Place) (value : Expr) (colon : Place) (xs : List Stmt) (o : Outcome Token More) → cons_to (a_part ls place value colon xs) (flattened o) ≡ to_early ls place (headed value colon) (and_then o (with_stmts xs))
  c5 ls place value colon xs (Ok y) = refl
  c5 ls place value colon xs (Err y) = refl

  fewer_left : (k : ℕ) (ts : List Token) (xs : List Stmt) (mid : List Token) → in_part ts ≡ Ok (xs, mid) → length mid ≤ length ts
  fewer_left k ts xs mid e =
      let R = rest_laws n S N D expr q X E k in
      let v = sound_turns n S N stmt_in_part_comes (more_laws n S N D expr q X E k) (apart refl) (E (rest_at n S N D expr q X E k) (λ u us f. R.firsts u us f) (λ y rest fits. begins R y rest fits)) (length ts) None ts xs mid (omega arith) e in
      omega (arith, ap length v.1, length-append (flat_map p.spelling xs) mid)

  c3 : (m k : ℕ) → Alike m k → (ls : List Label) (place : Place) (value : Expr) (colon : Place) (ts : List Token) (o : Outcome Token (List Stmt)) → in_part ts ≡ o → length ts ≤ m → length ts ≤ k →
      late m ls (and_then (and_then (and_then o (λ x r. Ok ((colon, x), r))) (λ x r. Ok ((t.given None value, x), r))) (λ x r. Ok ((place, x), r))) ≡ to_early ls place (headed value colon) (and_then o (with_more k))
  c3 m k before ls place value colon ts (Ok x) e few less =
      let shorter : length x.1 ≤ length ts = fewer_left k ts x.0 x.1 e in
      ap (cons_to (a_part ls place value colon x.0)) (before x.1 (omega (arith, shorter, few)) (omega (arith, shorter, less))) ∙ c5 ls place value colon x.0 (at_most k x.1)
  c3 m k before ls place value colon ts (Err x) e few less = refl

  abbrev colon_read : Expr → Outcome Token Place → Outcome Token (Expr × Place)
  colon_read value o = and_then o (λ c r. Ok (headed value c, r))

  abbrev rest_early : ℕ → List Label → Place → Outcome Token (Expr × Place) → Outcome Token (List Part)
  rest_early k ls place o = early ls (and_then (and_then (and_then o (λ x mid. and_then (and_then (in_part mid) (with_more k)) (with_head x))) (with_place place)) cased)

  abbrev rest_late : ℕ → List Label → Place → Value → Outcome Token Place → Outcome Token (List Part)
  rest_late m ls place value o = late m ls (and_then (and_then (and_then o (λ c mid. and_then (in_part mid) (λ x r. Ok ((c, x), r)))) (λ x r. Ok ((value, x), r))) (λ x r. Ok ((place, x), r)))

  c2 : (m k : ℕ) → Alike m k → (ls : List Label) (place : Place) (value : Expr) (ts : List Token) (o : Outcome Token Place) → sign s.Colon ts ≡ o → length ts ≤ m → length ts ≤ k → rest_late m ls place (t.given None value) o ≡ rest_early k ls place (colon_read value o)
  c2 m k before ls place value ts (Ok x) e few less =
      let l = (sign_reads s.Colon).sound ts x.0 x.1 e in
      let shorter : length x.1 ≤ length ts = omega (arith, ap length l.1) in
      c3 m k before ls place value x.0 x.1 (in_part x.1) refl (omega (arith, shorter, few)) (omega (arith, shorter, less))
  c2 m k before ls place value ts (Err x) e few less = refl

  abbrev expr_late : ℕ → List Label → Place → Outcome Token Expr → Outcome Token (List Part)
  expr_late m ls place o = late m ls (and_then (and_then (and_then o (λ v r. Ok (t.given None v, r))) (λ v mid. and_then (both (sign s.Colon) in_part mid) (λ x r. Ok ((v, x), r)))) (λ x r. Ok ((place, x), r)))

  c1 : (m k : ℕ) → Alike m k → (ls : List Label) (place : Place) (ts : List Token) (o : Outcome Token Expr) → expr ts ≡ o → length ts ≤ m → length ts ≤ k → expr_late m ls place o ≡ rest_early k ls place (and_then o (λ v mid. colon_read v (sign s.Colon mid)))
  c1 m k before ls place ts (Ok x) e few less = by (sign s.Colon x.1) refl where
    by : (o : Outcome Token Place) → sign s.Colon x.1 ≡ o → rest_late m ls place (t.given None x.0) o ≡ rest_early k ls place (colon_read x.0 o)
    by (Ok y) g =
        let heard = X.sound ts (headed x.0 y.0) y.1 (both_gives expr (λ a. sign s.Colon) ts x.1 y.1 x.0 y.0 e g) in
        let shorter : length y.1 ≤ length ts = omega (arith, ap length heard.1, length-append ((q ~ l.sign s.Colon).spelling (headed x.0 y.0)) y.1) in
        c3 m k before ls place x.0 y.0 y.1 (in_part y.1) refl (omega (arith, shorter, few)) (omega (arith, shorter, less))
    by (Err y) g = refl
  c1 m k before ls place ts (Err x) e few less = refl

  c0 : (m k : ℕ) → Alike m k → (ls : List Label) (ts : List Token) (o : Outcome Token Place) → word w.Case ts ≡ o → length ts ≤ suc m → length ts ≤ suc k →
      late m ls (and_then o (λ a mid. and_then (both (mapped (t.given None) expr) (both (sign s.Colon) in_part) mid) (λ x r. Ok ((a, x), r)))) ≡
      early ls (and_then (and_then o (λ a mid. and_then (both (both expr (sign s.Colon)) (both in_part (at_most k)) mid) (λ x r. Ok ((a, x), r)))) (λ x r. Ok (to_case x, r)))
  c0 m k before ls ts (Ok x) e few less =
      let l = (word_reads w.Case).sound ts x.0 x.1 e in
      let shorter : length x.1 < length ts = omega (arith, ap length l.1) in
      c1 m k before ls x.0 x.1 (expr x.1) refl (omega (arith, shorter, few)) (omega (arith, shorter, less))
  c0 m k before ls ts (Err x) e few less = refl

  -- ---- a turn

  chosen : (m k : ℕ) → Alike m k → (ls : List Label) (ts : List Token) (c : Bool) → length ts ≤ suc m → length ts ≤ suc k →
      late m ls (if c then default_behind ts else case_behind ts) ≡ early ls (if c then default_rest ts else case_rest k ts)
  chosen m k before ls ts true few less = d1 m ls (word w.Default ts)
  chosen m k before ls ts false few less = c0 m k before ls ts (word w.Case ts) refl few less

  abbrev labels : Reader Token (List Label)
  labels = many_reader class_of always names label

  labelled : (m k : ℕ) → Alike m k → (ts : List Token) (o : Outcome Token (List Label)) → labels ts ≡ o → length ts ≤ suc m → length ts ≤ suc k →
      and_then (and_then o (λ a mid. and_then (by_first class_of (this_word w.Default) default_behind case_behind mid) (λ b r. Ok ((a, b), r)))) (goes_on m) ≡
      flattened (and_then (and_then o (λ a mid. and_then (rest_by (suc k) mid) (with_labels a))) some_more)
  labelled m k before ts (Ok x) e few less =
      let v = (labels_laws n S N D expr q X E).sound ts x.0 x.1 e in
      let shorter : length x.1 ≤ length ts = omega (arith, ap length v.1, length-append (flat_map l.label.spelling x.0) x.1) in
      chosen m k before x.0 x.1 (starts class_of (this_word w.Default) x.1) (omega (arith, shorter, few)) (omega (arith, shorter, less))
  labelled m k before ts (Err x) e few less = refl

  one_turn : (m k : ℕ) → Alike m k → (ts : List Token) (c : Bool) → length ts ≤ suc m → length ts ≤ suc k → (if c then and_then (part ts) (goes_on m) else Ok ([], ts)) ≡ flattened (when c (both labels (rest_by (suc k))) ts)
  unfolding i.part_over
  one_turn m k before ts true few less = labelled m k before ts (labels ts) refl few less
  one_turn m k before ts false few less = refl

  as_many : (m k : ℕ) → Alike m k
  as_many zero k [] few less = refl
  as_many (suc m) k [] few less = refl
  as_many zero k (u ∷ ts) few less = absurd (omega arith)
  as_many (suc m) zero (u ∷ ts) few less = absurd (omega arith)
  as_many (suc m) (suc k) (u ∷ ts) few less = one_turn m k (as_many m k) (u ∷ ts) (has part_codes_first (class_of u)) few less

  -- as many parts as there are tokens
  pub parts_same : (ts : List Token) → many_reader class_of is_case part_codes_first (i.part_over n expr stmt) ts ≡ flattened (at_most (length ts) ts)
  parts_same ts = as_many (length ts) (length ts) ts (omega arith) (omega arith)

  -- ---- switch ( expression ) { parts }

  module _ {inner : Within} (A : WithinAgrees inner) (AS : Agrees stmt_tokens p) (AQ : Agrees expr_tokens q) (C : Reads (i.condition_over expr) (g.condition_over inner) (these s.LeftParenthesis) nowhere false) where
    abbrev parts_reader : Reader Token SwitchParts
    parts_reader = mapped to_parts (many_reader class_of is_case part_codes_first part)

    abbrev Parts : Phrase SwitchParts
    Parts = made switch_parts_tokens (to_switch p q) (Whole p q)

    both_mapped : (o : Outcome Token More) → and_then (flattened o) (λ ps r. Ok (to_parts ps, r)) ≡ and_then o (λ y r. Ok (to_parts (flat y), r))
    both_mapped (Ok y) = refl
    both_mapped (Err y) = refl

    parts_laws : Reads parts_reader Parts part_codes_first (λ x. behind_parts) true
    parts_laws = reread (all_parts_laws p q AS AQ {reader = at_most} (λ k. more_laws n S N D expr q X E k)) (λ ts. ap (λ (o : Outcome Token (List Part)). and_then o (λ ps r. Ok (to_parts ps, r))) (parts_same ts) ∙ both_mapped (at_most (length ts) ts))

    parts_agree : Agrees switch_parts_tokens Parts
    parts_agree = record { spells = λ x. refl; whole = parts_laws.whole; none = parts_laws.none; closed = parts_laws.closed }

    abbrev Condition : Type 0
    Condition = Place × (Expr × Place)

    abbrev Switch : Type 0
    Switch = Place × (Condition × (Place × (SwitchParts × Place)))

    abbrev to_stmt : Switch → Stmt
    to_stmt x = a_switch x.0 x.1.0 x.1.1.0 x.1.1.1.0 x.1.1.1.1

    abbrev switch_phrase : Phrase Switch
    switch_phrase = l.word w.Switch ~ (g.condition_over inner ~ (l.sign s.LeftBrace ~ (Parts ~ l.sign s.RightBrace)))

    condition_agrees : Agrees (both_spelling (sign_tokens s.LeftParenthesis) (both_spelling expr_tokens (sign_tokens s.RightParenthesis))) (g.condition_over inner)
    condition_agrees = seq_agrees (sign_agrees s.LeftParenthesis) (seq_agrees A.nodes.expr_nodes.expr (sign_agrees s.RightParenthesis))

    switch_said : (x : Switch) → switch_phrase.Fits x → stmt_tokens (to_stmt x) ≡ switch_phrase.spelling x
    unfolding stmt_tokens
    switch_said = parts_say stmt_tokens to_stmt (seq_agrees (word_agrees w.Switch) (seq_agrees condition_agrees (seq_agrees (sign_agrees s.LeftBrace) (seq_agrees parts_agree (sign_agrees s.RightBrace))))) (λ x fits. simp append_assoc)

    pub switch_laws : Reads (made₅ a_switch (both (word w.Switch) (both (i.condition_over expr) (both (sign s.LeftBrace) (both (mapped to_parts (many_reader class_of is_case part_codes_first (i.part_over n expr stmt))) (sign s.RightBrace)))))) (made stmt_tokens to_stmt switch_phrase) (this_word w.Switch) nowhere false
    switch_laws = made_laws (both_laws (word_reads w.Switch) (both_laws C (both_laws (sign_reads s.LeftBrace) (both_any_laws parts_laws (sign_reads s.RightBrace) (λ x fits. apart refl)) (λ place fits. apart_none _)) (λ x fits. apart_none (these s.LeftBrace))) (λ place fits. apart_none (these s.LeftParenthesis))) to_stmt stmt_tokens nowhere switch_said (λ x fits. within_none [])
