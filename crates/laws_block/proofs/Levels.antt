-- How far a `try` stands below a statement that ends in it, and what goes on behind statements that end in others.
use Rattle.std.proofs.Common.{◌≡◌, ℕ, suc, ◌+◌, ◌-◌, Bool, true, false, not, List, ◌∷◌, ◌++◌, Option, None, Some, refl, sym, ap, subst, arith}
use Rattle.dart_token.specs.declared.word.Word.TheVariants as w
use Rattle.dart_token.specs.declared.token.Token.{Token}
use Rattle.dart_tree.specs.Tree as t
use Rattle.dart_tree.specs.Tree.{Stmt, Loop}
use Rattle.dart_tree.specs.Tokens.{stmt_tokens, loop_tokens}
use Rattle.grammar_laws.specs.Codes.{Apart, Within, given}
use Rattle.grammar_laws.specs.Readers.{Reader, mapped}
use Rattle.grammar_laws.proofs.Codes.{apart, apart_smaller, inside, within_self, within_union, within_left, within_right, within_then}
use Rattle.dart_syntax.specs.Phrases.{Phrase, made}
use Rattle.dart_syntax.specs.Statements.{is_shut, is_shut_loop}
use Rattle.token_codes.specs.Codes.{word_code, this_word}
use Rattle.syntax_readers.specs.Statements.{open_try, open_try_in, deeper_try}
use Rattle.laws_block.specs.Begun.{part_codes, room, level_of, still_of, ReadsBegun}
use Rattle.laws_block.proofs.Combined.{made_begun}

-- one node more stands round it, and one more is allowed
pub deeper_room : (n : ℕ) (o : Option ℕ) → room (suc n) (deeper_try o) ≡ room n o
deeper_room n None = refl
deeper_room n (Some above) = ap (λ (k : ℕ). Some k) (less n above) where
  less : (n above : ℕ) → suc n - (suc above + 1) ≡ n - (above + 1)
  less n above = omega arith

abbrev pub else_where : Bool → List ℕ
else_where loose = given loose (this_word w.Else)

-- all that goes on behind statements, but for `on`
abbrev pub still_list : List ℕ
still_list = word_code w.Catch ∷ word_code w.Finally ∷ this_word w.Else

pub still_within : (o o' : Option ℕ) (b c : Bool) → o' ≡ o → (b ≡ true → c ≡ true) → Within (part_codes o ++ else_where b) (part_codes o' ++ else_where c)
still_within o o' b c e w = subst (λ (k : Option ℕ). Within (part_codes o ++ else_where b) (part_codes k ++ else_where c)) (sym e)
    (within_union (within_left (part_codes o) (else_where c)) (within_then (more b c w) (within_right (part_codes o) (else_where c)))) where
      more : (b c : Bool) → (b ≡ true → c ≡ true) → Within (else_where b) (else_where c)
      more false c w = inside refl
      more true true w = within_self _
      more true false w = absurd (bad (w refl)) where
        bad : false ≡ true → ⊥
        bad e = cc

-- behind a statement that is shut no `else` goes on
pub shut_apart : (o : Option ℕ) (b : Bool) → b ≡ true → Apart (part_codes o ++ else_where (not b)) (this_word w.Else)
shut_apart None true e = apart refl
shut_apart (Some n) true e = apart refl
shut_apart o false e = absurd cc

still_codes : (o : Option ℕ) (b : Bool) → Within (part_codes o ++ else_where b) still_list
still_codes None true = inside refl
still_codes None false = inside refl
still_codes (Some n) true = inside refl
still_codes (Some n) false = inside refl

pub still_apart : (o : Option ℕ) (b : Bool) {codes : List ℕ} → Apart still_list codes → Apart (part_codes o ++ else_where b) codes
still_apart o b off = apart_smaller (still_codes o b) off

-- ---- loops

abbrev pub loop_level : ℕ → Loop → Option ℕ
loop_level n x = room n (open_try_in x)

abbrev pub loop_still : ℕ → Loop → List ℕ
loop_still n x = part_codes (loop_level n x) ++ else_where (not (is_shut_loop x))

pub loop_begun : (n : ℕ) {read : Reader Token Loop} {p : Phrase Loop} {first : List ℕ} → ReadsBegun read p first (loop_level n) (loop_still n) → ((x : Loop) → p.Fits x → loop_tokens x ≡ p.spelling x) →
    ReadsBegun (mapped t.loop read) (made stmt_tokens t.loop p) first (level_of n) (still_of n)
unfolding open_try is_shut stmt_tokens
loop_begun n S said = made_begun S t.loop stmt_tokens (level_of n) (still_of n) (λ x fits. refl) said (λ x fits. within_self _)
