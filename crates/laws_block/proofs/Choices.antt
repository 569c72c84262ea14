-- The law of `if`, over any reader of statements (ECMA-408, 17.5 If).
use Rattle.std.proofs.Common.{◌≡◌, ℕ, suc, true, false, not, inl, inr, List, ◌++◌, Option, None, Some, refl, sym, ap, ◌∙◌, append_assoc}
use Rattle.std.proofs.lemmas.List.{append-nil}
use Rattle.dart_base.specs.declared.place.Place.{Place}
use Rattle.dart_token.specs.declared.token.Token.{Token}
use Rattle.dart_token.specs.declared.sign.Sign.TheVariants as s
use Rattle.dart_token.specs.declared.word.Word.TheVariants as w
use Rattle.dart_tree.specs.Tree.{Expr, Stmt}
use Rattle.dart_tree.specs.Tokens.{expr_tokens, stmt_tokens}
use Rattle.grammar_laws.specs.Codes.{Apart, Within, nowhere}
use Rattle.grammar_laws.specs.Readers.{Reader, both}
use Rattle.grammar_laws.specs.Fronts.{both_spelling}
use Rattle.grammar_laws.proofs.Codes.{apart, apart_none, within_self, within_given, within_union, within_right}
use Rattle.dart_syntax.specs.Phrases.{Phrase, ◌~◌, made, seq_if}
use Rattle.dart_syntax.specs.Agreement.{Agrees, WithinAgrees}
use Rattle.dart_syntax.specs.Leaves as l
use Rattle.dart_syntax.specs.Leaves.{sign_tokens}
use Rattle.dart_syntax.specs.Statements as p
use Rattle.dart_syntax.specs.Statements.{Within as Stage, an_if, an_if_else, is_shut}
use Rattle.dart_syntax.proofs.Agreeing.{parts_say, seq_agrees, seq_if_agrees}
use Rattle.dart_syntax.proofs.AgreeingTypes.{sign_agrees, word_agrees}
use Rattle.token_codes.specs.Codes.{these, this_word}
use Rattle.token_codes.specs.Leaves.{word}
use Rattle.token_codes.specs.Reads.{Reads}
use Rattle.token_codes.proofs.Leaves.{word_reads}
use Rattle.syntax_readers.specs.Statements as i
use Rattle.syntax_readers.specs.Statements.{open_try, stmt_first, IfHead, ends_shut, an_if_of}
use Rattle.laws_block.specs.Begun.{part_codes, level_of, still_of, ReadsBegun, StmtReads}
use Rattle.laws_block.proofs.Combined.{then_begun, made_begun, restated_begun}
use Rattle.laws_block.proofs.Followed.{level_by, still_by, followed_phrase, followed_begun}
use Rattle.laws_block.proofs.Levels.{deeper_room, shut_apart, still_within}

module _ {inner : Stage} (A : WithinAgrees inner) (expr : Reader Token Expr) (C : Reads (i.condition_over expr) (p.condition_over inner) (these s.LeftParenthesis) nowhere false)
    (n : ℕ) {stmt : Reader Token Stmt} (S : StmtReads n stmt inner.stmt stmt_first) where
  abbrev Condition : Type 0
  Condition = Place × (Expr × Place)

  abbrev Otherwise : Type 0
  Otherwise = Place × Stmt

  abbrev head : Phrase IfHead
  head = l.word w.If ~ (p.condition_over inner ~ inner.stmt)

  abbrev otherwise : Phrase Otherwise
  otherwise = l.word w.Else ~ inner.stmt

  head_begun : ReadsBegun (both (word w.If) (both (i.condition_over expr) stmt)) head (this_word w.If) (λ x. level_of n x.1.1) (λ x. still_of n x.1.1)
  head_begun = then_begun (word_reads w.If) (then_begun C S (λ x fits. apart_none stmt_first)) (λ place fits. apart_none (these s.LeftParenthesis))

  other_begun : ReadsBegun (both (word w.Else) stmt) otherwise (this_word w.Else) (λ x. level_of n x.1) (λ x. still_of n x.1)
  other_begun = then_begun (word_reads w.Else) S (λ place fits. apart_none stmt_first)

  abbrev level : IfHead × Option Otherwise → Option ℕ
  level = level_by (λ x. level_of n x.1.1) (λ x. level_of n x.1)

  abbrev still : IfHead × Option Otherwise → List ℕ
  still = still_by (λ x. still_of n x.1.1) ends_shut (this_word w.Else) (λ x. still_of n x.1)

  same : (x : IfHead × Option Otherwise) → level_of (suc n) (an_if_of x) ≡ level x
  unfolding open_try
  same ((word, (condition, body)), None) = deeper_room n (open_try body)
  same ((word, (condition, body)), Some second) = deeper_room n (open_try second.1)

  inside : (x : IfHead × Option Otherwise) → Within (still x) (still_of (suc n) (an_if_of x))
  unfolding open_try is_shut
  inside ((word, (condition, body)), None) = within_union (still_within (level_of n body) (level_of (suc n) (an_if_of ((word, (condition, body)), None))) (not (is_shut body)) true (deeper_room n (open_try body)) (λ e. refl)) (within_given (ends_shut (word, (condition, body))) (λ e. within_right (part_codes (level_of (suc n) (an_if_of ((word, (condition, body)), None)))) (this_word w.Else)))
  inside ((word, (condition, body)), Some second) = still_within (level_of n second.1) (level_of (suc n) (an_if_of ((word, (condition, body)), Some second))) (not (is_shut second.1)) (not (is_shut second.1)) (deeper_room n (open_try second.1)) (λ e. e)

  -- ---- the words of the grammar

  condition_agrees : Agrees (both_spelling (sign_tokens s.LeftParenthesis) (both_spelling expr_tokens (sign_tokens s.RightParenthesis))) (p.condition_over inner)
  condition_agrees = seq_agrees (sign_agrees s.LeftParenthesis) (seq_agrees A.nodes.expr_nodes.expr (sign_agrees s.RightParenthesis))

  abbrev lone : IfHead → Stmt
  lone x = an_if x.0 x.1.0 x.1.1

  abbrev Second : Type 0
  Second = Place × (Condition × (Stmt × Otherwise))

  abbrev with_second : Second → Stmt
  with_second x = an_if_else x.0 x.1.0 x.1.1

  abbrev second : Phrase Second
  second = l.word w.If ~ (p.condition_over inner ~ seq_if is_shut inner.stmt otherwise)

  lone_said : (x : IfHead) → head.Fits x → stmt_tokens (lone x) ≡ head.spelling x
  unfolding stmt_tokens
  lone_said = parts_say stmt_tokens lone (seq_agrees (word_agrees w.If) (seq_agrees condition_agrees A.stmt)) (λ x fits. simp append_assoc)

  second_said : (x : Second) → second.Fits x → stmt_tokens (with_second x) ≡ second.spelling x
  unfolding stmt_tokens
  second_said = parts_say stmt_tokens with_second (seq_agrees (word_agrees w.If) (seq_agrees condition_agrees (seq_if_agrees A.stmt (seq_agrees (word_agrees w.Else) A.stmt) is_shut))) (λ x fits. simp append_assoc)

  abbrev Whole : Phrase (IfHead × Option Otherwise)
  Whole = followed_phrase ends_shut head otherwise

  abbrev of : Place → Condition → Stmt → IfHead
  of word condition body = (word, (condition, body))

  abbrev second_of : Place → Condition → Stmt → Otherwise → Second
  second_of word condition body other = (word, (condition, (body, other)))

  abbrev alone : IfHead → IfHead × Option Otherwise
  alone x = (x, None)

  abbrev both_of : IfHead → Otherwise → IfHead × Option Otherwise
  both_of x other = (x, Some other)

  regroup : (word : Place) (condition : Condition) (body : Stmt) (more : List Token) →
      head.spelling (of word condition body) ++ more ≡ (l.word w.If).spelling word ++ ((p.condition_over inner).spelling condition ++ (inner.stmt.spelling body ++ more))
  regroup word condition body more = append_assoc ((l.word w.If).spelling word) ((p.condition_over inner).spelling condition ++ inner.stmt.spelling body) more
      ∙ ap (λ (m : List Token). (l.word w.If).spelling word ++ m) (append_assoc ((p.condition_over inner).spelling condition) (inner.stmt.spelling body) more)

  said : (x : IfHead × Option Otherwise) → Whole.Fits x → stmt_tokens (an_if_of x) ≡ Whole.spelling x
  said ((word, (condition, body)), None) fits = lone_said (of word condition body) fits.0 ∙ sym (append-nil (head.spelling (of word condition body)))
  said ((word, (condition, body)), Some (other, last)) fits =
      second_said (second_of word condition body (other, last)) (fits.0.0, (fits.0.1.0, ((fits.0.1.1, fits.1.0), fits.1.1))) ∙ sym (regroup word condition body (otherwise.spelling (other, last)))

  forth : (a : Stmt) → (made stmt_tokens an_if_of Whole).Fits a → (p.if_over inner).Fits a
  forth a (((word, (condition, body)), None), fits, e) = inl (of word condition body, fits.0, e)
  forth a (((word, (condition, body)), Some (other, last)), fits, e) = inr (second_of word condition body (other, last), (fits.0.0, (fits.0.1.0, ((fits.0.1.1, fits.1.0), fits.1.1))), e)

  back : (a : Stmt) → (p.if_over inner).Fits a → (made stmt_tokens an_if_of Whole).Fits a
  back a (inl ((word, (condition, body)), fits, e)) = (alone (of word condition body), (fits, tt), e)
  back a (inr ((word, (condition, (body, other))), fits, e)) = (both_of (of word condition body) other, ((fits.0, (fits.1.0, fits.1.1.0.0)), (fits.1.1.0.1, fits.1.1.1)), e)

  out : (ts : List Token) → Whole.front ts → (p.if_over inner).front ts
  out ts (inl f) = inl f
  out ts (inr ((word, (condition, body)), more, fits, on, e, f)) =
      inr (inr (
        word,
        (p.condition_over inner).spelling condition ++ (inner.stmt.spelling body ++ more),
        fits.0,
        refl,
        e ∙ regroup word condition body more,
        inr (condition, inner.stmt.spelling body ++ more, fits.1.0, refl, refl, inr (body, more, fits.1.1, on, refl, f)),
      ))

  into_by : (ts : List Token) → second.front ts → Whole.front ts
  into_by ts (inl f) = inl (inl f)
  into_by ts (inr (word, m, fw, on, e, inl f)) = inl (inr (word, m, fw, on, e, inl f))
  into_by ts (inr (word, m, fw, on, e, inr (condition, k, fc, go, g, inl f))) = inl (inr (word, m, fw, on, e, inr (condition, k, fc, go, g, f)))
  into_by ts (inr (word, m, fw, on, e, inr (condition, k, fc, go, g, inr (body, more, fb, shut, h, f)))) =
      inr (of word condition body, more, (fw, (fc, fb)), shut, e ∙ ap (λ (k : List Token). (l.word w.If).spelling word ++ k) (g ∙ ap (λ (k : List Token). (p.condition_over inner).spelling condition ++ k) h) ∙ sym (regroup word condition body more), f)

  into : (ts : List Token) → (p.if_over inner).front ts → Whole.front ts
  into ts (inl f) = inl f
  into ts (inr f) = into_by ts f

  head_off : (x : IfHead) → ends_shut x ≡ true → Apart (still_of n x.1.1) (this_word w.Else)
  head_off x shut = shut_apart (level_of n x.1.1) (is_shut x.1.1) shut

  pub if_begun : ReadsBegun (i.if_over expr stmt) (p.if_over inner) (this_word w.If) (level_of (suc n)) (still_of (suc n))
  unfolding i.if_over
  if_begun = restated_begun (made_begun (followed_begun head_begun other_begun ends_shut (λ x fits shut. head_off x shut) (apart refl)) an_if_of stmt_tokens (level_of (suc n)) (still_of (suc n)) (λ x fits. same x) said (λ x fits. inside x))
      forth back out into (within_self (this_word w.If))
