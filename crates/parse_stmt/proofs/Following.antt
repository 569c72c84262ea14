-- An `if`, and the `else` that may follow it.
use Rattle.std.proofs.Common.{◌≡◌, ℕ, ◌+◌, max, Bool, true, false, ◌&&◌, List, Option, Some, None, Ok, Err, refl, ap, arith}
use Rattle.dart_base.specs.declared.place.Place.{Place}
use Rattle.dart_token.specs.declared.token.Token.{Token}
use Rattle.dart_token.specs.declared.word.Word.TheVariants as w
use Rattle.dart_tree.specs.Depth as height
use Rattle.dart_tree.specs.Tree as t
use Rattle.grammar_laws.specs.Readers.{Reader, Outcome, mapped, followed, starts}
use Rattle.token_codes.specs.Codes.{class_of, this_word}
use Rattle.syntax_readers.specs.Statements as spec
use Rattle.parse_stmt.specs.Views.{if_head, if_head_height, else_part, else_height}

-- ---- one, and another behind it

module _ {A B X : Type 0} (f : A × Option B → X) (may : A → Bool) (first : List ℕ) (p : Reader Token A) (q : Reader Token B) (ts : List Token) where
  abbrev whole : Outcome Token X
  whole = mapped f (followed class_of may first p q) ts

  no_first : (end : List Token) → p ts ≡ Err end → whole ≡ Err end
  no_first end e = rw e refl

  first_alone : (a : A) (mid : List Token) → p ts ≡ Ok (a, mid) → (may a && starts class_of first mid) ≡ false → whole ≡ Ok (f (a, None), mid)
  first_alone a mid e off = rw (e, off) refl

  no_second : (a : A) (mid end : List Token) → p ts ≡ Ok (a, mid) → (may a && starts class_of first mid) ≡ true → q mid ≡ Err end → whole ≡ Err end
  no_second a mid end e on stops = rw (e, on, stops) refl

  both_read : (a : A) (mid : List Token) (b : B) (end : List Token) → p ts ≡ Ok (a, mid) → (may a && starts class_of first mid) ≡ true → q mid ≡ Ok (b, end) → whole ≡ Ok (f (a, Some b), end)
  both_read a mid b end e on reads = rw (e, on, reads) refl

-- ---- `if`

module _ (expr : Reader Token t.Expr) (stmt : Reader Token t.Stmt) (ts : List Token) where
  pub no_head : (end : List Token) → if_head expr stmt ts ≡ Err end → spec.if_over expr stmt ts ≡ Err end
  unfolding spec.if_over
  no_head end e = no_first spec.an_if_of spec.ends_shut (this_word w.Else) (if_head expr stmt) (else_part stmt) ts end e

  module _ (head : spec.IfHead) (mid : List Token) where
    -- an `else` follows
    abbrev pub follows : Bool
    follows = spec.ends_shut head && starts class_of (this_word w.Else) mid

    pub head_alone : if_head expr stmt ts ≡ Ok (head, mid) → follows ≡ false → spec.if_over expr stmt ts ≡ Ok (spec.an_if_of (head, None), mid)
    unfolding spec.if_over
    head_alone e off = first_alone spec.an_if_of spec.ends_shut (this_word w.Else) (if_head expr stmt) (else_part stmt) ts head mid e off

    pub no_else : (end : List Token) → if_head expr stmt ts ≡ Ok (head, mid) → follows ≡ true → else_part stmt mid ≡ Err end → spec.if_over expr stmt ts ≡ Err end
    unfolding spec.if_over
    no_else end e on stops = no_second spec.an_if_of spec.ends_shut (this_word w.Else) (if_head expr stmt) (else_part stmt) ts head mid end e on stops

    pub else_read : (behind : Place × t.Stmt) (end : List Token) → if_head expr stmt ts ≡ Ok (head, mid) → follows ≡ true → else_part stmt mid ≡ Ok (behind, end) →
        spec.if_over expr stmt ts ≡ Ok (spec.an_if_of (head, Some behind), end)
    unfolding spec.if_over
    else_read behind end e on reads = both_read spec.an_if_of spec.ends_shut (this_word w.Else) (if_head expr stmt) (else_part stmt) ts head mid behind end e on reads

-- ---- heights

pub alone_high : (x : t.Stmt) (head : spec.IfHead) → x ≡ spec.an_if_of (head, None) → height.stmt_height x ≡ if_head_height head + 1
unfolding height.stmt_height
alone_high x head is = let k = ap height.stmt_height is in omega arith

pub else_high : (x : t.Stmt) (head : spec.IfHead) (behind : Place × t.Stmt) → x ≡ spec.an_if_of (head, Some behind) → height.stmt_height x ≡ max (if_head_height head) (else_height behind) + 1
unfolding height.stmt_height
else_high x head behind is = let k = ap height.stmt_height is in omega arith
