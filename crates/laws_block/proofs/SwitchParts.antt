-- The parts of a `switch` as the grammar writes them, cases and perhaps a `default` part, and at most so many of them (ECMA-408, 17.9 Switch).
use Rattle.std.proofs.Common.{◌≡◌, ℕ, zero, suc, ◌<◌, ◌≤◌, true, inl, inr, List, [], ◌∷◌, ◌++◌, length, Option, None, Some, refl, sym, ap, subst, ◌∙◌, append_assoc, arith}
use Rattle.std.proofs.lemmas.List.{length-append}
use Rattle.std.specs.List.{flat_map, AllByRecursion}
use Rattle.dart_base.specs.declared.place.Place.{Place}
use Rattle.dart_token.specs.declared.token.Token.{Token}
use Rattle.dart_token.specs.declared.sign.Sign.TheVariants as s
use Rattle.dart_token.specs.declared.word.Word.TheVariants as w
use Rattle.dart_tree.specs.declared.identifier.Label.{Label}
use Rattle.dart_tree.specs.LeafTokens.{sign_at, word_at}
use Rattle.dart_tree.specs.Tokens.{expr_tokens, stmt_tokens, stmts_tokens, value_tokens, switch_parts_tokens}
use Rattle.dart_tree.specs.Tree as t
use Rattle.dart_tree.specs.Tree.{Expr, Stmt, SwitchParts}
use Rattle.grammar_laws.specs.Readers.{Reader, mapped, always}
use Rattle.grammar_laws.specs.Fronts.{GoesOn, Made}
use Rattle.dart_syntax.specs.Phrases.{Phrase, ◌~◌, many, opt}
use Rattle.dart_syntax.specs.Leaves as l
use Rattle.dart_syntax.specs.Statements as g
use Rattle.dart_syntax.specs.Statements.{to_cases}
use Rattle.dart_syntax.specs.Agreement.{Agrees}
use Rattle.dart_syntax.proofs.Agreeing.{parts_say, seq_agrees, many_agrees, opt_agrees}
use Rattle.dart_syntax.proofs.AgreeingTypes.{sign_agrees, word_agrees}
use Rattle.dart_syntax.proofs.AgreeingExpressions.{label_agrees}
use Rattle.dart_syntax.proofs.AgreeingStages.{said_stmts, said_switch_parts}
use Rattle.grammar_laws.specs.Laws.{Laws}
use Rattle.grammar_laws.proofs.Codes.{within_self}
use Rattle.grammar_laws.proofs.Restated.{made_laws}
use Rattle.grammar_laws.proofs.Limits.{limit_laws}
use Rattle.token_codes.specs.Codes.{class_of}
use Rattle.token_codes.specs.Reads.{Reads}
use Rattle.token_codes.proofs.Leaves.{label_reads}
use Rattle.syntax_readers.specs.Statements.{to_parts}
use Rattle.laws_block.proofs.PartPhrases.{Rest, More, flat, to_default, to_case, more_of, parts_tokens, more_said}

abbrev CaseTree : Type 0
CaseTree = List Label × (Place × (Expr × (Place × List Stmt)))

abbrev DefaultTree : Type 0
DefaultTree = List Label × (Place × (Place × List Stmt))

each : (xs : List Label) → AllByRecursion l.label.Fits xs → AllByRecursion (GoesOn l.label.Fits always) xs
each [] fits = tt
each (x ∷ xs) fits = ((fits.0, refl), each xs fits.1)

module _ (p : Phrase Stmt) (q : Phrase Expr) where
  abbrev Case : Phrase CaseTree
  Case = many l.label ~ (l.word w.Case ~ (q ~ (l.sign s.Colon ~ many p)))

  abbrev Default : Phrase DefaultTree
  Default = many l.label ~ (l.word w.Default ~ (l.sign s.Colon ~ many p))

  abbrev pub Whole : Phrase (List CaseTree × Option DefaultTree)
  Whole = many Case ~ opt Default

  case_behind : (c : CaseTree) → Case.Fits c → (z : List Token) → Whole.front z → Whole.front (Case.spelling c ++ z)
  case_behind c fits z (inl (all, more, fs, e, f)) = inl (c ∷ all, more, ((fits, refl), fs), ap (λ (m : List Token). Case.spelling c ++ m) e ∙ sym (append_assoc (Case.spelling c) (flat_map Case.spelling all) more), f)
  case_behind c fits z (inr (all, more, fs, on, e, f)) = inr (c ∷ all, more, (fits, fs), refl, ap (λ (m : List Token). Case.spelling c ++ m) e ∙ sym (append_assoc (Case.spelling c) (flat_map Case.spelling all) more), f)

  by_default : (z : List Token) → Default.front z → Whole.front z
  by_default z f = inr ([], z, tt, refl, refl, f)

  by_case : (z : List Token) → Case.front z → Whole.front z
  by_case z f = inl ([], z, tt, refl, f)

  -- ---- fronts

  abbrev CaseRest : ℕ → Phrase (Place × ((Expr × Place) × (List Stmt × More)))
  CaseRest k = l.word w.Case ~ ((q ~ l.sign s.Colon) ~ (many p ~ more_of p q k))

  abbrev case_tree : List Label → Place → Expr → Place → List Stmt → CaseTree
  case_tree labels word value colon stmts = (labels, (word, (value, (colon, stmts))))

  case_split : (labels : List Label) (word : Place) (value : Expr) (colon : Place) (stmts : List Stmt) (z : List Token) →
      Case.spelling (case_tree labels word value colon stmts) ++ z ≡
      flat_map l.label.spelling labels ++ ((l.word w.Case).spelling word ++ ((q.spelling value ++ (l.sign s.Colon).spelling colon) ++ (flat_map p.spelling stmts ++ z)))
  case_split labels word value colon stmts z = simp append_assoc

  front_out : (k : ℕ) (ts : List Token) → (more_of p q k).front ts → Whole.front ts
  front_out zero ts (inl f) = by_default ts (inl f)
  front_out zero ts (inr (labels, more, fits, on, e, f)) = by_default ts (inl (labels, more, each labels fits, e, subst l.label.front (sym f) label_reads.none))
  front_out (suc k) ts (inl f) = by_default ts (inl f)
  front_out (suc k) ts (inr (labels, more, fits, on, e, inl f)) = by_default ts (inr (labels, more, fits, refl, e, f))
  front_out (suc k) ts (inr (labels, more, fits, on, e, inr (inl f))) = by_case ts (inr (labels, more, fits, refl, e, inl f))
  front_out (suc k) ts (inr (labels, more, fits, on, e, inr (inr (word, m, fw, go, g, inl (inl f))))) = by_case ts (inr (labels, more, fits, refl, e, inr (word, m, fw, refl, g, inl f)))
  front_out (suc k) ts (inr (labels, more, fits, on, e, inr (inr (word, m, fw, go, g, inl (inr (value, j, fv, do_on, h, f)))))) =
      by_case ts (inr (labels, more, fits, refl, e, inr (word, m, fw, refl, g, inr (value, j, fv, refl, h, inl f))))
  front_out (suc k) ts (inr (labels, more, fits, on, e, inr (inr (word, m, fw, go, g, inr ((value, colon), j, fv, still_on, h, inl f))))) =
      by_case ts (inr (labels, more, fits, refl, e, inr (word, m, fw, refl, g, inr (value, (l.sign s.Colon).spelling colon ++ j, fv.0, refl, h ∙ append_assoc (q.spelling value) ((l.sign s.Colon).spelling colon) j, inr (colon, j, fv.1, refl, refl, f)))))
  front_out (suc k) ts (inr (labels, more, fits, on, e, inr (inr (word, m, fw, go, g, inr ((value, colon), j, fv, still_on, h, inr (stmts, z, fs, last, i, f)))))) =
      subst Whole.front (sym (e ∙ ap (λ (x : List Token). flat_map l.label.spelling labels ++ x) (g ∙ ap (λ (x : List Token). (l.word w.Case).spelling word ++ x) (h ∙ ap (λ (x : List Token). (q.spelling value ++ (l.sign s.Colon).spelling colon) ++ x) i))
      ∙ sym (case_split labels word value colon stmts z))) (case_behind (case_tree labels word value colon stmts) (fits, (fw, (fv.0, (fv.1, fs)))) z (front_out k z f))

  none_at : (k : ℕ) → (more_of p q k).front []
  none_at zero = inl ([], [], tt, refl, label_reads.none)
  none_at (suc k) = inl ([], [], tt, refl, label_reads.none)

  no_tokens : (ts : List Token) → length ts ≤ 0 → ts ≡ []
  no_tokens [] few = refl
  no_tokens (t ∷ ts) few = absurd (omega arith)

  case_front : (k : ℕ) (ts : List Token) → length ts ≤ k → Case.front ts → (more_of p q k).front ts
  case_front zero ts few f = subst (more_of p q zero).front (sym (no_tokens ts few)) (none_at zero)
  case_front (suc k) ts few (inl f) = inl f
  case_front (suc k) ts few (inr (labels, more, fits, on, e, inl f)) = inr (labels, more, fits, refl, e, inr (inl f))
  case_front (suc k) ts few (inr (labels, more, fits, on, e, inr (word, m, fw, go, g, inl f))) = inr (labels, more, fits, refl, e, inr (inr (word, m, fw, refl, g, inl (inl f))))
  case_front (suc k) ts few (inr (labels, more, fits, on, e, inr (word, m, fw, go, g, inr (value, j, fv, next, h, inl f)))) = inr (labels, more, fits, refl, e, inr (inr (word, m, fw, refl, g, inl (inr (value, j, fv, refl, h, f)))))
  case_front (suc k) ts few (inr (labels, more, fits, on, e, inr (word, m, fw, go, g, inr (value, j, fv, next, h, inr (colon, z, fc, last, i, f))))) =
      inr (labels, more, fits, refl, e, inr (inr (word, m, fw, refl, g, inr (pair value colon, z, (fv, fc), refl, h ∙ ap (λ (x : List Token). q.spelling value ++ x) i ∙ sym (append_assoc (q.spelling value) ((l.sign s.Colon).spelling colon) z), inl f)))) where
        pair : Expr → Place → Expr × Place
        pair value colon = (value, colon)

  default_front : (k : ℕ) (ts : List Token) → length ts ≤ k → Default.front ts → (more_of p q k).front ts
  default_front zero ts few f = subst (more_of p q zero).front (sym (no_tokens ts few)) (none_at zero)
  default_front (suc k) ts few (inl f) = inl f
  default_front (suc k) ts few (inr (labels, more, fits, on, e, f)) = inr (labels, more, fits, refl, e, inl f)

  abbrev value_pair : Expr → Place → Expr × Place
  value_pair value colon = (value, colon)

  behind_case : (k : ℕ) (c : CaseTree) (z : List Token) → Case.Fits c → (more_of p q k).front z → (more_of p q (suc k)).front (Case.spelling c ++ z)
  behind_case k (labels, (word, (value, (colon, stmts)))) z fits f =
      inr (labels, _, fits.0, refl, case_split labels word value colon stmts z, inr (inr (word, _, fits.1.0, refl, refl, inr (value_pair value colon, _, (fits.1.1.0, fits.1.1.1.0), refl, refl, inr (stmts, z, fits.1.1.1.1, refl, refl, f)))))

  case_long : (c : CaseTree) (z : List Token) → length z < length (Case.spelling c ++ z)
  case_long (labels, (word, (value, (colon, stmts)))) z =
      omega (
        arith,
        ap length (case_split labels word value colon stmts z),
        length-append (flat_map l.label.spelling labels) ((l.word w.Case).spelling word ++ ((q.spelling value ++ (l.sign s.Colon).spelling colon) ++ (flat_map p.spelling stmts ++ z))),
        length-append (q.spelling value ++ (l.sign s.Colon).spelling colon) (flat_map p.spelling stmts ++ z),
        length-append (flat_map p.spelling stmts) z,
      )

  cases_front : (k : ℕ) (all : List CaseTree) (z ts : List Token) → AllByRecursion Case.Fits all → ts ≡ flat_map Case.spelling all ++ z → length ts ≤ k → ((m : ℕ) → length z ≤ m → (more_of p q m).front z) → (more_of p q k).front ts
  cases_front k [] z ts fits e few last = subst (more_of p q k).front (sym e) (last k (omega (arith, few, ap length e)))
  cases_front zero (c ∷ all) z ts fits e few last = subst (more_of p q zero).front (sym (no_tokens ts few)) (none_at zero)
  cases_front (suc k) (c ∷ all) z ts fits e few last =
      let group : ts ≡ Case.spelling c ++ (flat_map Case.spelling all ++ z) = e ∙ append_assoc (Case.spelling c) (flat_map Case.spelling all) z in
      subst (more_of p q (suc k)).front (sym group) (behind_case k c (flat_map Case.spelling all ++ z) fits.0 (cases_front k all z (flat_map Case.spelling all ++ z) fits.1 refl (omega (arith, few, ap length group, case_long c (flat_map Case.spelling all ++ z))) last))

  each_case : (all : List CaseTree) → AllByRecursion (GoesOn Case.Fits always) all → AllByRecursion Case.Fits all
  each_case [] fits = tt
  each_case (c ∷ all) fits = (fits.0.0, each_case all fits.1)

  front_in : (k : ℕ) (ts : List Token) → Whole.front ts → length ts ≤ k → (more_of p q k).front ts
  front_in k ts (inl (all, more, fits, e, f)) few = cases_front k all more ts (each_case all fits) e few (λ m less. case_front m more less f)
  front_in k ts (inr (all, more, fits, on, e, f)) few = cases_front k all more ts fits e few (λ m less. default_front m more less f)

  -- ---- trees

  abbrev pub to_switch : List CaseTree × Option DefaultTree → SwitchParts
  to_switch x = to_cases x.0 (g.to_default x.1)

  abbrev from_more : More → SwitchParts
  from_more y = to_parts (flat y)

  abbrev SwitchFits : SwitchParts → Type 0
  SwitchFits = Made to_switch Whole.Fits

  abbrev trees : List CaseTree → Option DefaultTree → List CaseTree × Option DefaultTree
  trees all last = (all, last)

  fits_out : (k : ℕ) (y : More) → (more_of p q k).Fits y → SwitchFits (from_more y)
  fits_out k None fits = (trees [] None, (tt, tt), refl)
  fits_out zero (Some x) fits = absurd fits.1
  fits_out (suc k) (Some (labels, r)) (fl, inl ((word, (colon, stmts)), fits, e)) =
      (trees [] (Some (labels, (word, (colon, stmts)))), (tt, (fl, fits)), ap (λ (x : Rest). from_more (Some (labels, x))) e)
  fits_out (suc k) (Some (labels, r)) (fl, inr ((word, ((value, colon), (stmts, m))), fits, e)) =
      let v = fits_out k m fits.1.1.1 in (
        trees (case_tree labels word value colon stmts ∷ v.0.0) v.0.1,
        (((fl, (fits.0, (fits.1.0.0, (fits.1.0.1, fits.1.1.0)))), v.1.0), v.1.1),
        ap (λ (x : SwitchParts). t.switch_part labels word (t.given None value) colon (g.to_stmts stmts) x) v.2 ∙ ap (λ (x : Rest). from_more (Some (labels, x))) e,
      )

  -- a part has a word at least
  default_long : (d : DefaultTree) → length (Default.spelling d) ≤ 0 → ⊥
  default_long (labels, (word, (colon, stmts))) few = omega (arith, few, length-append (flat_map l.label.spelling labels) ((l.word w.Default).spelling word ++ ((l.sign s.Colon).spelling colon ++ flat_map p.spelling stmts)))

  abbrev SwitchIn : ℕ → SwitchParts → Type 0
  SwitchIn k = Made from_more (more_of p q k).Fits

  last_in : (k : ℕ) (last : Option DefaultTree) → (opt Default).Fits last → length ((opt Default).spelling last) ≤ k → SwitchIn k (to_switch (trees [] last))
  last_in k None fits few = (None, tt, refl)
  last_in zero (Some d) fits few = absurd (default_long d few)
  last_in (suc k) (Some (labels, (word, (colon, stmts)))) fits few = (Some (labels, to_default (word, (colon, stmts))), (fits.0, inl ((word, (colon, stmts)), fits.1, refl)), refl)

  case_in : (k : ℕ) (c : CaseTree) (z : SwitchParts) → Case.Fits c → SwitchIn k z → SwitchIn (suc k) (to_cases (c ∷ []) z)
  case_in k (labels, (word, (value, (colon, stmts)))) z fits (y, fy, e) = (
    Some (labels, to_case (word, ((value, colon), (stmts, y)))),
    (fits.0, inr ((word, ((value, colon), (stmts, y))), (fits.1.0, ((fits.1.1.0, fits.1.1.1.0), (fits.1.1.1.1, fy))), refl)),
    ap (λ (x : SwitchParts). t.switch_part labels word (t.given None value) colon (g.to_stmts stmts) x) e,
  )

  one_case : (c : CaseTree) (all : List CaseTree) (rest : SwitchParts) → to_cases (c ∷ []) (to_cases all rest) ≡ to_cases (c ∷ all) rest
  one_case (labels, (word, (value, (colon, stmts)))) all rest = refl

  all_in : (k : ℕ) (all : List CaseTree) (last : Option DefaultTree) → AllByRecursion Case.Fits all → (opt Default).Fits last → length (flat_map Case.spelling all ++ (opt Default).spelling last) ≤ k → SwitchIn k (to_switch (trees all last))
  all_in k [] last fits fl few = last_in k last fl few
  all_in zero (c ∷ all) last fits fl few =
      absurd (omega (arith, few, ap length (append_assoc (Case.spelling c) (flat_map Case.spelling all) ((opt Default).spelling last)), case_long c (flat_map Case.spelling all ++ (opt Default).spelling last)))
  all_in (suc k) (c ∷ all) last fits fl few =
      let less : length (flat_map Case.spelling all ++ (opt Default).spelling last) ≤ k = omega (arith, few, ap length (append_assoc (Case.spelling c) (flat_map Case.spelling all) ((opt Default).spelling last)), case_long c (flat_map Case.spelling all ++ (opt Default).spelling last)) in
      subst (SwitchIn (suc k)) (one_case c all (g.to_default last)) (case_in k c (to_switch (trees all last)) fits.0 (all_in k all last fits.1 fl less))

  -- ---- the tokens

  module _ (AS : Agrees stmt_tokens p) (AQ : Agrees expr_tokens q) where
    whole_said : (x : List CaseTree × Option DefaultTree) → Whole.Fits x → switch_parts_tokens (to_switch x) ≡ Whole.spelling x
    whole_said = parts_say switch_parts_tokens to_switch (seq_agrees
        (many_agrees (seq_agrees (many_agrees label_agrees) (seq_agrees (word_agrees w.Case) (seq_agrees AQ (seq_agrees (sign_agrees s.Colon) (many_agrees AS))))))
        (opt_agrees (seq_agrees (many_agrees label_agrees) (seq_agrees (word_agrees w.Default) (seq_agrees (sign_agrees s.Colon) (many_agrees AS)))))) (λ x fits. said_switch_parts x.0 x.1)

    same_stmts : (xs : List Stmt) → flat_map stmt_tokens xs ≡ flat_map p.spelling xs
    same_stmts [] = refl
    same_stmts (x ∷ xs) = ap (λ (m : List Token). m ++ flat_map stmt_tokens xs) (sym (AS.spells x)) ∙ ap (λ (m : List Token). p.spelling x ++ m) (same_stmts xs)

    pub more_tokens : (k : ℕ) (y : More) → (more_of p q k).Fits y → switch_parts_tokens (from_more y) ≡ parts_tokens p q (flat y)
    unfolding switch_parts_tokens value_tokens
    more_tokens k None fits = refl
    more_tokens zero (Some x) fits = absurd fits.1
    more_tokens (suc k) (Some (labels, r)) (fl, inl ((word, (colon, stmts)), fits, e)) =
        subst (λ (x : Rest). switch_parts_tokens (from_more (Some (labels, x))) ≡ parts_tokens p q (flat (Some (labels, x)))) e
        (ap (λ (m : List Token). flat_map l.label.spelling labels ++ (word_at word w.Default ∷ sign_at colon s.Colon ∷ (m ++ []))) (said_stmts stmts ∙ same_stmts stmts))
    more_tokens (suc k) (Some (labels, r)) (fl, inr ((word, ((value, colon), (stmts, m))), fits, e)) =
        subst (λ (x : Rest). switch_parts_tokens (from_more (Some (labels, x))) ≡ parts_tokens p q (flat (Some (labels, x)))) e
        (ap (λ (x : List Token). flat_map l.label.spelling labels ++ (word_at word w.Case ∷ (x ++ sign_at colon s.Colon ∷ (stmts_tokens (g.to_stmts stmts) ++ switch_parts_tokens (from_more m))))) (sym (AQ.spells value))
        ∙ ap (λ (x : List Token). flat_map l.label.spelling labels ++ (word_at word w.Case ∷ (q.spelling value ++ sign_at colon s.Colon ∷ (x ++ switch_parts_tokens (from_more m))))) (said_stmts stmts ∙ same_stmts stmts)
        ∙ ap (λ (x : List Token). flat_map l.label.spelling labels ++ (word_at word w.Case ∷ (q.spelling value ++ sign_at colon s.Colon ∷ (flat_map p.spelling stmts ++ x)))) (more_tokens k m fits.1.1.1)
        ∙ ap (λ (x : List Token). flat_map l.label.spelling labels ++ (word_at word w.Case ∷ x)) (sym (append_assoc (q.spelling value) (sign_at colon s.Colon ∷ []) (flat_map p.spelling stmts ++ parts_tokens p q (flat m)))))

    fits_in : (k : ℕ) (x : SwitchParts) → SwitchFits x → length (switch_parts_tokens x) ≤ k → SwitchIn k x
    fits_in k x ((all, last), fits, e) few =
        subst (SwitchIn k) e (all_in k all last fits.0 fits.1 (omega (arith, few, ap length (ap switch_parts_tokens (sym e) ∙ whole_said (trees all last) fits))))

    switch_out : (k : ℕ) (x : SwitchParts) → SwitchIn k x → SwitchFits x
    switch_out k x (y, fits, e) = subst SwitchFits e (fits_out k y fits)

    -- as many as there are tokens
    pub all_parts_laws : {reader : ℕ → Reader Token More} {first next : List ℕ} → ((k : ℕ) → Reads (reader k) (more_of p q k) first (λ y. next) true) →
        Laws class_of (λ ts. mapped from_more (reader (length ts)) ts) switch_parts_tokens SwitchFits Whole.front first (λ x. next) true
    all_parts_laws {reader} {first} {next} R = limit_laws (λ k. made_laws (R k) from_more switch_parts_tokens (λ x. next) (λ y fits. more_tokens k y fits ∙ more_said p q y k) (λ y fits. within_self next)) SwitchFits Whole.front fits_in switch_out front_in front_out
