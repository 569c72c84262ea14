-- The law of `try` (ECMA-408, 17.11 Try), over the readers of blocks and `catch` clauses: where it has parts and no `finally`, another part
-- may be begun behind it.
use Rattle.std.proofs.Common.{◌≡◌, ℕ, suc, ◌+◌, ◌-◌, Bool, true, false, if◌then◌else◌, ◌⊎◌, inl, inr, List, [], ◌∷◌, ◌++◌, Option, None, Some, refl, sym, ap, subst, ◌∙◌, append_assoc, arith}
use Rattle.std.proofs.lemmas.List.{append-nil}
use Rattle.std.specs.List.{AllByRecursion}
use Rattle.dart_base.specs.declared.place.Place.{Place}
use Rattle.dart_token.specs.declared.token.Token.{Token}
use Rattle.dart_token.specs.declared.sign.Sign.TheVariants as s
use Rattle.dart_token.specs.declared.word.Word.TheVariants as w
use Rattle.dart_tree.specs.LeafTokens.{catch_tokens}
use Rattle.dart_tree.specs.Types.{on_part, catch_part, finally_part}
use Rattle.dart_tree.specs.Tree as t
use Rattle.dart_tree.specs.Tree.{Block, Stmt, TryParts}
use Rattle.dart_tree.specs.Tokens.{block_tokens, stmt_tokens, try_parts_tokens}
use Rattle.grammar_laws.specs.Codes.{Within, nowhere}
use Rattle.grammar_laws.specs.Readers.{both, option}
use Rattle.grammar_laws.specs.Fronts.{both_spelling}
use Rattle.grammar_laws.proofs.Codes.{apart, apart_none, inside, within_none, within_left}
use Rattle.grammar_laws.proofs.Restated.{made_laws}
use Rattle.grammar_laws.proofs.Combined.{both_laws}
use Rattle.dart_syntax.specs.Phrases.{Phrase, ◌~◌, ◌<|>◌, made, opt, some}
use Rattle.dart_syntax.specs.Agreement.{Agrees}
use Rattle.dart_syntax.specs.Leaves as l
use Rattle.dart_syntax.specs.Leaves.{word_tokens}
use Rattle.dart_syntax.specs.Statements as p
use Rattle.dart_syntax.specs.Statements.{Within as Stage, append_parts, join_parts, to_finally, on_parts, is_shut}
use Rattle.dart_syntax.proofs.Agreeing.{parts_say, seq_agrees, opt_agrees, some_agrees, either_agrees, made_agrees}
use Rattle.dart_syntax.proofs.AgreeingTypes.{word_agrees}
use Rattle.dart_syntax.proofs.AgreeingStages.{said_append, said_parts, said_finally}
use Rattle.token_codes.specs.Codes.{class_of, word_code, these, this_word}
use Rattle.token_codes.specs.Reads.{Reads}
use Rattle.token_codes.proofs.Leaves.{word_reads}
use Rattle.syntax_readers.specs.Combinators.{made₂, many_where}
use Rattle.syntax_readers.specs.Types.{type_reader}
use Rattle.syntax_readers.specs.Statements as i
use Rattle.syntax_readers.specs.Statements.{StmtReaders, open_try, ends_open, try_part_over, try_part_comes}
use Rattle.laws_block.specs.Begun.{on_phrase, part_codes, room, level_of, still_of, ReadsBegun}
use Rattle.laws_block.proofs.Combined.{then_begun, made_begun, plain_begun, by_first_begun, restated_begun}
use Rattle.laws_block.proofs.Followed.{level_by, still_by, followed_phrase, followed_begun}
use Rattle.laws_block.proofs.Parts.{with_type, with_phrase, part_first, part_laws, part_fails}
use Rattle.laws_block.proofs.Several.{some_begun}

swap : {P Q : Type 0} → P ⊎ Q → Q ⊎ P
swap (inl x) = inr x
swap (inr x) = inl x

-- ---- whether another part may follow

-- behind a part that is no `finally`
abbrev tail_open : TryParts → Bool
tail_open t.no_try_parts = true
tail_open (t.try_part kind block more) = ends_open (t.try_part kind block more)

abbrev pub parts_level : ℕ → TryParts → Option ℕ
parts_level k x = if ends_open x then Some k else None

abbrev pub parts_still : ℕ → TryParts → List ℕ
parts_still k x = part_codes (parts_level k x)

-- what begins the parts
abbrev pub parts_first : List ℕ
parts_first = word_code w.Finally ∷ part_first

module _ (k : ℕ) (here : StmtReaders) (inner : Stage) (B : Reads here.exprs.block inner.nodes.expr_nodes.block (these s.LeftBrace) nowhere false) (K : Reads here.catch_clause inner.nodes.catch_clause (this_word w.Catch) nowhere false)
    (AB : Agrees block_tokens inner.nodes.expr_nodes.block) (AK : Agrees catch_tokens inner.nodes.catch_clause) where
  abbrev readers : StmtReaders
  readers = with_type k here

  abbrev phrases : Stage
  phrases = with_phrase k inner

  abbrev part : Phrase TryParts
  part = p.try_part_over phrases

  P : Reads (try_part_over readers) part part_first nowhere false
  P = part_laws k here inner B K AB AK

  opens : (m : List Token) → (on_phrase k).front m → part.front m
  opens m (inl f) = inl (inl f)
  opens m (inr (place, more, fits, on, e, f)) = inl (inr (place, more, fits, on, e, inl f))

  several : ReadsBegun (both (try_part_over readers) (many_where (try_part_comes (type_reader k)) (try_part_over readers))) (some part) part_first (λ x. Some k) (λ x. this_word w.Catch)
  several = some_begun k P (part_fails k here inner B K AB AK) opens

  part_agrees : Agrees try_parts_tokens part
  part_agrees = record { spells = λ x. refl; whole = P.whole; none = P.none; closed = P.closed }

  -- ---- finally block

  finally_laws : Reads (i.finally_over here.exprs.block) (p.finally_over phrases) (this_word w.Finally) nowhere false
  unfolding i.finally_over
  finally_laws = both_laws (word_reads w.Finally) B (λ place fits. apart_none (these s.LeftBrace))

  finally_agrees : Agrees (both_spelling (word_tokens w.Finally) block_tokens) (p.finally_over phrases)
  finally_agrees = seq_agrees (word_agrees w.Finally) AB

  abbrev Last : Type 0
  Last = Place × Block

  abbrev to_last : Last → TryParts
  to_last x = t.try_part (finally_part x.0) x.1 t.no_try_parts

  last_said : (x : Last) → (p.finally_over phrases).Fits x → try_parts_tokens (to_last x) ≡ (p.finally_over phrases).spelling x
  unfolding try_parts_tokens
  last_said = parts_say try_parts_tokens to_last (seq_agrees (word_agrees w.Finally) AB) (λ x fits. simp append-nil)

  last_never : (x : TryParts) → (made try_parts_tokens to_last (p.finally_over phrases)).Fits x → parts_level k x ≡ None
  last_never x (parts, fits, e) = ap (parts_level k) (sym e)

  last_begun : ReadsBegun (made₂ (λ word body. t.try_part (finally_part word) body t.no_try_parts) (i.finally_over here.exprs.block)) (made try_parts_tokens to_last (p.finally_over phrases)) (this_word w.Finally) (parts_level k) (parts_still k)
  last_begun = plain_begun (made_laws finally_laws to_last try_parts_tokens nowhere last_said (λ x fits. within_none [])) (parts_level k) (parts_still k) last_never (λ x fits. within_none _)

  -- ---- parts, and perhaps `finally`

  abbrev Parts : Type 0
  Parts = (TryParts × List TryParts) × Option Last

  abbrev to_parts : Parts → TryParts
  to_parts x = on_parts x.0 x.1

  abbrev Whole : Phrase Parts
  Whole = followed_phrase (λ x. true) (some part) (p.finally_over phrases)

  more_open : (x : TryParts) → part.Fits x → (rest : TryParts) → (ends_open (append_parts x rest) ≡ tail_open rest) × (tail_open (append_parts x rest) ≡ tail_open rest)
  more_open x (inl ((place, (of, (c, body))), fits, e)) rest = subst (λ (y : TryParts). (ends_open (append_parts y rest) ≡ tail_open rest) × (tail_open (append_parts y rest) ≡ tail_open rest)) e (at rest) where
    at : (rest : TryParts) → (ends_open (t.try_part (on_part place of c) body rest) ≡ tail_open rest) × (ends_open (t.try_part (on_part place of c) body rest) ≡ tail_open rest)
    at t.no_try_parts = (refl, refl)
    at (t.try_part kind block more) = (refl, refl)
  more_open x (inr ((c, body), fits, e)) rest = subst (λ (y : TryParts). (ends_open (append_parts y rest) ≡ tail_open rest) × (tail_open (append_parts y rest) ≡ tail_open rest)) e (at rest) where
    at : (rest : TryParts) → (ends_open (t.try_part (catch_part c) body rest) ≡ tail_open rest) × (ends_open (t.try_part (catch_part c) body rest) ≡ tail_open rest)
    at t.no_try_parts = (refl, refl)
    at (t.try_part kind block more) = (refl, refl)

  joined_open : (xs : List TryParts) → AllByRecursion part.Fits xs → (rest : TryParts) → tail_open (join_parts xs rest) ≡ tail_open rest
  joined_open [] fits rest = refl
  joined_open (x ∷ xs) fits rest = (more_open x fits.0 (join_parts xs rest)).1 ∙ joined_open xs fits.1 rest

  parts_open : (x : Parts) → (some part).Fits x.0 → ends_open (to_parts x) ≡ tail_open (to_finally x.1)
  parts_open x fits = (more_open x.0.0 fits.0 (join_parts x.0.1 (to_finally x.1))).0 ∙ joined_open x.0.1 fits.1 (to_finally x.1)

  same : (x : Parts) → Whole.Fits x → parts_level k (to_parts x) ≡ level_by (λ y. Some k) (λ y. None) x
  same (parts, None) fits = ap (λ (b : Bool). if b then Some k else None) (parts_open (parts, None) fits.0)
  same (parts, Some last) fits = ap (λ (b : Bool). if b then Some k else None) (parts_open (parts, Some last) fits.0)

  abbrev still : Parts → List ℕ
  still = still_by (λ y. this_word w.Catch) (λ y. true) (this_word w.Finally) (λ y. [])

  within_parts : (x : Parts) → Whole.Fits x → Within (still x) (parts_still k (to_parts x))
  within_parts (parts, None) fits = subst (λ (o : Option ℕ). Within (word_code w.Catch ∷ this_word w.Finally) (part_codes o)) (sym (same (parts, None) fits)) (inside refl)
  within_parts (parts, Some last) fits = within_none _

  loose : (x : Parts) → Whole.Fits x → (some part ~ opt (p.finally_over phrases)).Fits x
  loose (parts, None) fits = fits
  loose (parts, Some last) fits = (fits.0, fits.1.1)

  tight : (x : Parts) → (some part ~ opt (p.finally_over phrases)).Fits x → Whole.Fits x
  tight (parts, None) fits = fits
  tight (parts, Some last) fits = (fits.0, (refl, fits.1))

  said : (x : Parts) → Whole.Fits x → try_parts_tokens (to_parts x) ≡ Whole.spelling x
  said x fits = said_by x (loose x fits) where
    said_by : (x : Parts) → (some part ~ opt (p.finally_over phrases)).Fits x → try_parts_tokens (to_parts x) ≡ (some part ~ opt (p.finally_over phrases)).spelling x
    said_by = parts_say try_parts_tokens to_parts (seq_agrees (some_agrees part_agrees) (opt_agrees finally_agrees)) (λ x fits. simp (said_append, said_parts, said_finally, append_assoc))

  many_begun : ReadsBegun (made₂ on_parts (both (both (try_part_over readers) (many_where (try_part_comes (type_reader k)) (try_part_over readers))) (option class_of (this_word w.Finally) (i.finally_over here.exprs.block)))) (made try_parts_tokens to_parts Whole) part_first (parts_level k) (parts_still k)
  many_begun = made_begun (followed_begun several (plain_begun finally_laws (λ x. None) (λ x. []) (λ x fits. refl) (λ x fits. within_none [])) (λ x. true) (λ x fits on. apart refl) (apart refl)) to_parts try_parts_tokens (parts_level k) (parts_still k) same said within_parts

  -- ---- either

  abbrev Choice : Phrase TryParts
  Choice = made try_parts_tokens to_parts (some part ~ opt (p.finally_over phrases)) <|> made try_parts_tokens to_last (p.finally_over phrases)

  abbrev Chosen : Phrase TryParts
  Chosen = made try_parts_tokens to_last (p.finally_over phrases) <|> made try_parts_tokens to_parts Whole

  forth : (x : TryParts) → Chosen.Fits x → Choice.Fits x
  forth x (inl fits) = inr fits
  forth x (inr (parts, fits, e)) = inl (parts, loose parts fits, e)

  back : (x : TryParts) → Choice.Fits x → Chosen.Fits x
  back x (inl (parts, fits, e)) = inr (parts, tight parts fits, e)
  back x (inr fits) = inl fits

  pub parts_begun : ReadsBegun (i.try_parts_over readers) Choice parts_first (parts_level k) (parts_still k)
  unfolding i.try_parts_over
  parts_begun = restated_begun (by_first_begun last_begun many_begun (apart refl)) forth back (λ ts. swap) (λ ts. swap) (inside refl)

  choice_agrees : Agrees try_parts_tokens Choice
  unfolding try_parts_tokens
  choice_agrees = either_agrees (made_agrees try_parts_tokens to_parts (seq_agrees (some_agrees part_agrees) (opt_agrees finally_agrees)) (λ x fits. simp (said_append, said_parts, said_finally, append_assoc)))
      (made_agrees try_parts_tokens to_last finally_agrees (λ x fits. simp append-nil))

  -- ---- try block parts

  abbrev Try : Type 0
  Try = Place × (Block × TryParts)

  abbrev to_try : Try → Stmt
  to_try x = t.try_stmt x.0 x.1.0 x.1.1

  abbrev try_phrase : Phrase Try
  try_phrase = l.word w.Try ~ (inner.nodes.expr_nodes.block ~ Choice)

  try_said : (x : Try) → try_phrase.Fits x → stmt_tokens (to_try x) ≡ try_phrase.spelling x
  unfolding stmt_tokens
  try_said = parts_say stmt_tokens to_try (seq_agrees (word_agrees w.Try) (seq_agrees AB choice_agrees)) (λ x fits. refl)

  level_if : (loose : Bool) → room (suc k) (if loose then Some 0 else None) ≡ (if loose then Some k else None)
  level_if true = ap (λ (m : ℕ). Some m) (less k) where
    less : (k : ℕ) → suc k - (0 + 1) ≡ k
    less k = omega arith
  level_if false = refl

  try_level : (x : Try) → level_of (suc k) (to_try x) ≡ parts_level k x.1.1
  unfolding open_try
  try_level x = level_if (ends_open x.1.1)

  try_within : (x : Try) → Within (parts_still k x.1.1) (still_of (suc k) (to_try x))
  unfolding is_shut
  try_within x = subst (λ (o : Option ℕ). Within (parts_still k x.1.1) (part_codes o ++ [])) (sym (try_level x)) (within_left (parts_still k x.1.1) [])

  pub try_begun : ReadsBegun (i.try_over (with_type k here)) (p.try_over (with_phrase k inner)) (this_word w.Try) (level_of (suc k)) (still_of (suc k))
  unfolding i.try_over
  try_begun = made_begun (then_begun (word_reads w.Try) (then_begun B parts_begun (λ b fits. apart_none parts_first)) (λ place fits. apart_none (these s.LeftBrace))) to_try stmt_tokens (level_of (suc k)) (still_of (suc k)) (λ x fits. try_level x) try_said (λ x fits. try_within x)
