-- The laws of `while` and `do`, over any reader of statements (ECMA-408, 17.7 While, 17.8 Do).
use Rattle.std.proofs.Common.{◌≡◌, ℕ, suc, false, not, if◌then◌else◌, List, [], ◌∷◌, None, Ok, Err, refl, sym, ap, ◌∙◌, append_assoc}
use Rattle.dart_base.specs.declared.place.Place.{Place}
use Rattle.dart_token.specs.declared.token.Token.{Token}
use Rattle.dart_token.specs.declared.sign.Sign.TheVariants as s
use Rattle.dart_token.specs.declared.word.Word.TheVariants as w
use Rattle.dart_tree.specs.Tree.{Expr, Stmt, Loop}
use Rattle.dart_tree.specs.Tokens.{expr_tokens, loop_tokens}
use Rattle.grammar_laws.specs.Codes.{nowhere, is_empty, Apart, Within}
use Rattle.grammar_laws.specs.Readers.{Outcome, Reader, and_then, both}
use Rattle.grammar_laws.specs.Fronts.{both_spelling}
use Rattle.grammar_laws.proofs.Codes.{apart, apart_none, within_none}
use Rattle.grammar_laws.proofs.Restated.{made_laws, reread}
use Rattle.grammar_laws.proofs.Combined.{both_laws}
use Rattle.dart_syntax.specs.Phrases.{Phrase, ◌~◌}
use Rattle.dart_syntax.specs.Agreement.{Agrees, WithinAgrees}
use Rattle.dart_syntax.specs.Leaves as l
use Rattle.dart_syntax.specs.Leaves.{sign_tokens}
use Rattle.dart_syntax.specs.Statements as p
use Rattle.dart_syntax.specs.Statements.{Within as Stage, a_while, a_do, is_shut, is_shut_loop}
use Rattle.dart_syntax.proofs.Agreeing.{parts_say, seq_agrees}
use Rattle.dart_syntax.proofs.AgreeingTypes.{sign_agrees, word_agrees}
use Rattle.token_codes.specs.Codes.{these, this_word}
use Rattle.token_codes.specs.Leaves.{sign, word}
use Rattle.token_codes.specs.Reads.{Reads}
use Rattle.token_codes.proofs.Leaves.{sign_reads, word_reads}
use Rattle.syntax_readers.specs.Statements as i
use Rattle.syntax_readers.specs.Statements.{open_try, open_try_in, behind_try, stmt_first, a_do_of}
use Rattle.laws_block.specs.Begun.{begun, level_of, still_of, ReadsBegun, StmtReads}
use Rattle.laws_block.proofs.Begun.{Gives, gives}
use Rattle.laws_block.proofs.Combined.{then_begun, made_begun, plain_begun}
use Rattle.laws_block.proofs.Levels.{deeper_room, still_within, still_apart, loop_level, loop_still}
use Rattle.laws_block.proofs.Closing.{closing, closing_laws, behind_is}

module _ {inner : Stage} (A : WithinAgrees inner) (expr : Reader Token Expr) (C : Reads (i.condition_over expr) (p.condition_over inner) (these s.LeftParenthesis) nowhere false)
    (n : ℕ) {stmt : Reader Token Stmt} (S : StmtReads n stmt inner.stmt stmt_first) where
  condition_agrees : Agrees (both_spelling (sign_tokens s.LeftParenthesis) (both_spelling expr_tokens (sign_tokens s.RightParenthesis))) (p.condition_over inner)
  condition_agrees = seq_agrees (sign_agrees s.LeftParenthesis) (seq_agrees A.nodes.expr_nodes.expr (sign_agrees s.RightParenthesis))

  -- ---- while ( expression ) statement

  abbrev Condition : Type 0
  Condition = Place × (Expr × Place)

  abbrev to_while : Place × (Condition × Stmt) → Loop
  to_while x = a_while x.0 x.1.0 x.1.1

  pub while_said : (x : Place × (Condition × Stmt)) → (l.word w.While ~ (p.condition_over inner ~ inner.stmt)).Fits x → loop_tokens (to_while x) ≡ (l.word w.While ~ (p.condition_over inner ~ inner.stmt)).spelling x
  unfolding loop_tokens
  while_said = parts_say loop_tokens to_while (seq_agrees (word_agrees w.While) (seq_agrees condition_agrees A.stmt)) (λ x fits. simp append_assoc)

  while_same : (x : Place × (Condition × Stmt)) → loop_level (suc n) (to_while x) ≡ level_of n x.1.1
  unfolding open_try_in
  while_same x = deeper_room n (open_try x.1.1)

  while_inside : (x : Place × (Condition × Stmt)) → Within (still_of n x.1.1) (loop_still (suc n) (to_while x))
  unfolding open_try_in is_shut_loop
  while_inside x = still_within (level_of n x.1.1) (loop_level (suc n) (to_while x)) (not (is_shut x.1.1)) (not (is_shut x.1.1)) (while_same x) (λ e. e)

  pub while_begun : ReadsBegun (i.while_over expr stmt) (p.while_over inner) (this_word w.While) (loop_level (suc n)) (loop_still (suc n))
  unfolding i.while_over
  while_begun = made_begun (then_begun (word_reads w.While) (then_begun C S (λ x fits. apart_none stmt_first)) (λ place fits. apart_none (these s.LeftParenthesis))) to_while loop_tokens (loop_level (suc n)) (loop_still (suc n)) (λ x fits. while_same x) while_said (λ x fits. while_inside x)

  -- ---- do statement while ( expression ) ;

  abbrev Tail : Type 0
  Tail = Place × (Condition × Place)

  abbrev tail_reader : Reader Token Tail
  tail_reader = both (word w.While) (both (i.condition_over expr) (sign s.Semicolon))

  abbrev tail_phrase : Phrase Tail
  tail_phrase = l.word w.While ~ (p.condition_over inner ~ l.sign s.Semicolon)

  tail_laws : Reads tail_reader tail_phrase (this_word w.While) nowhere false
  tail_laws = both_laws (word_reads w.While) (both_laws C (sign_reads s.Semicolon) (λ x fits. apart_none (these s.Semicolon))) (λ place fits. apart_none (these s.LeftParenthesis))

  abbrev to_do : Place × (Stmt × Tail) → Loop
  to_do x = a_do x.0 x.1.0 x.1.1.0 x.1.1.1.0 x.1.1.1.1

  do_said : (x : Place × (Stmt × Tail)) → (l.word w.Do ~ (inner.stmt ~ tail_phrase)).Fits x → loop_tokens (to_do x) ≡ (l.word w.Do ~ (inner.stmt ~ tail_phrase)).spelling x
  unfolding loop_tokens
  do_said = parts_say loop_tokens to_do (seq_agrees (word_agrees w.Do) (seq_agrees A.stmt (seq_agrees (word_agrees w.While) (seq_agrees condition_agrees (sign_agrees s.Semicolon))))) (λ x fits. simp append_assoc)

  still_off : (x : Stmt) → Apart (still_of n x) (this_word w.While)
  still_off x = still_apart (level_of n x) (not (is_shut x)) (apart refl)

  body_reader : Reader Token (Stmt × Tail)
  body_reader = closing S tail_laws (λ x fits. still_off x) (apart refl)

  abbrev late : Place → Stmt → Outcome Token Tail → Outcome Token Loop
  late place x o = and_then (and_then o (λ b r. Ok (((place, x), b), r))) (λ y r. Ok (a_do_of y, r))

  abbrev kept : Stmt × List Token → Reader Token (Stmt × List Token)
  kept x rest = if is_empty x.1 then Ok (x, rest) else Err rest

  abbrev paired : Stmt → List Token → Stmt × List Token
  paired x m = (x, m)

  abbrev tailed : Stmt × List Token → Reader Token ((Stmt × List Token) × Tail)
  tailed a mid = and_then (tail_reader mid) (λ b r. Ok ((a, b), r))

  abbrev shaped : (Stmt × List Token) × Tail → Reader Token (Stmt × Tail)
  shaped a r = Ok ((a.0.0, a.1), r)

  abbrev placed : Place → Stmt × Tail → Reader Token (Place × (Stmt × Tail))
  placed place y r = Ok ((place, y), r)

  abbrev done : Place × (Stmt × Tail) → Reader Token Loop
  done y r = Ok (to_do y, r)

  abbrev with_tail : Stmt × List Token → Tail → Reader Token ((Stmt × List Token) × Tail)
  with_tail x b r = Ok ((x, b), r)

  abbrev early_from : Place → Outcome Token (Stmt × List Token) → Outcome Token Loop
  early_from place o = and_then (and_then (and_then (and_then (and_then o kept) tailed) shaped) (placed place)) done

  ended : (place : Place) (x : Stmt) (o : Outcome Token Tail) → late place x o ≡ and_then (and_then (and_then (and_then o (with_tail (paired x []))) shaped) (placed place)) done
  ended place x (Ok y) = refl
  ended place x (Err y) = refl

  by_rest : (place : Place) (x : Stmt) (m rest : List Token) → late place x (if is_empty m then tail_reader rest else Err rest) ≡ early_from place (Ok (paired x m, rest))
  by_rest place x [] rest = ended place x (tail_reader rest)
  by_rest place x (t ∷ m) rest = refl

  behind_body : (place : Place) (x : Stmt) (mid : List Token) → Gives (level_of n x) mid → late place x (behind_try n (open_try x) tail_reader mid) ≡ early_from place (and_then (begun (level_of n x) mid) (λ m r. Ok ((x, m), r)))
  behind_body place x mid g = ap (late place x) (behind_is n tail_laws (apart refl) (open_try x) mid g.tokens g.rest g.read g.cuts g.fits) ∙ by_rest place x g.tokens g.rest
      ∙ ap (λ (o : Outcome Token (List Token)). early_from place (and_then o (λ m r. Ok ((x, m), r)))) (sym g.read)

  abbrev tried : Place × Stmt → Reader Token ((Place × Stmt) × Tail)
  tried x mid = and_then (behind_try n (open_try x.1) tail_reader mid) (λ b r. Ok ((x, b), r))

  same_body : (place : Place) (o : Outcome Token Stmt) → and_then (and_then (and_then o (λ b r. Ok ((place, b), r))) tried) (λ y r. Ok (a_do_of y, r)) ≡ early_from place (and_then o (λ a mid. and_then (begun (level_of n a) mid) (λ m r. Ok ((a, m), r))))
  same_body place (Ok x) = behind_body place x.0 x.1 (gives (level_of n x.0) x.1)
  same_body place (Err x) = refl

  same_do : (o : Outcome Token Place) → and_then (and_then (and_then o (λ a mid. and_then (stmt mid) (λ b r. Ok ((a, b), r)))) tried) (λ y r. Ok (a_do_of y, r)) ≡ and_then (and_then o (λ a mid. and_then (body_reader mid) (λ y r. Ok ((a, y), r)))) (λ y r. Ok (to_do y, r))
  unfolding body_reader
  same_do (Ok x) = same_body x.0 (stmt x.1)
  same_do (Err x) = refl

  pub do_laws : Reads (i.do_over n expr stmt) (p.do_over inner) (this_word w.Do) nowhere false
  unfolding i.do_over body_reader
  do_laws = reread (made_laws (both_laws (word_reads w.Do) (closing_laws S tail_laws (λ x fits. still_off x) (apart refl)) (λ place fits. apart_none stmt_first)) to_do loop_tokens nowhere do_said (λ x fits. within_none [])) (λ ts. same_do (word w.Do ts))

  do_never : (x : Loop) → (p.do_over inner).Fits x → loop_level (suc n) x ≡ None
  unfolding open_try_in
  do_never x (parts, fits, e) = ap (loop_level (suc n)) (sym e)

  pub do_begun : ReadsBegun (i.do_over n expr stmt) (p.do_over inner) (this_word w.Do) (loop_level (suc n)) (loop_still (suc n))
  do_begun = plain_begun do_laws (loop_level (suc n)) (loop_still (suc n)) do_never (λ x fits. within_none _)
