-- What a row gives, branch by branch.
use Rattle.std.proofs.Common.{◌≡◌, ℕ, suc, max, Bool, true, false, ◌&&◌, List, Option, Ok, Err, refl, sym, ap, ◌∙◌}
use Rattle.dart_base.specs.declared.place.Place.{Place}
use Rattle.dart_token.specs.declared.sign.Sign.TheVariants as s
use Rattle.dart_token.specs.declared.token.Token.{Token}
use Rattle.dart_tree.specs.Depth as height
use Rattle.dart_tree.specs.Tree as t
use Rattle.dart_tree.specs.Tree.{Operand}
use Rattle.dart_syntax.specs.Edges.{question}
use Rattle.grammar_laws.specs.Readers.{Outcome, and_then, starts}
use Rattle.token_codes.specs.Codes.{class_of, these}
use Rattle.syntax_readers.specs.Combinators.{Open}
use Rattle.syntax_readers.specs.Levels.{compare_codes, shift_codes}
use Rattle.parse_row.specs.Rows.{whole_row, stands_before, row_binds, row_codes, tails_behind, sign_row, half_behind, leaves_shift, may_shift, halved_row, shifts_behind, shift_from, shift_row, compare_behind, compare_row, choice_behind, choice_row}
use Rattle.parse_row.proofs.Steps.{halved_both}

pub binary_height : (a : Operand) (l : t.Tails) → height.operand_height (t.binary a l) ≡ suc (max (height.operand_height a) (height.tails_height l))
unfolding height.operand_height
binary_height a l = refl

-- ---- operators of one sign

module _ (depth under row : ℕ) (x : Open Operand) (ts : List Token) where
  pub sign_stops : (stands_before (row_binds row) depth x && starts class_of (row_codes row) ts) ≡ false → sign_row depth under row x ts ≡ Ok (x, ts)
  unfolding sign_row
  sign_stops off = rw off refl

  pub sign_fails : (end : List Token) → (stands_before (row_binds row) depth x && starts class_of (row_codes row) ts) ≡ true → tails_behind under row ts ≡ Err end → sign_row depth under row x ts ≡ Err end
  unfolding sign_row
  sign_fails end on e = rw (on, e) refl

  pub sign_gives : (rest : List Token) (l : t.Tails) (half : Option Place) → (stands_before (row_binds row) depth x && starts class_of (row_codes row) ts) ≡ true → tails_behind under row ts ≡ Ok ((l, half), rest) → sign_row depth under row x ts ≡ Ok ((t.binary x.0 l, half), rest)
  unfolding sign_row
  sign_gives rest l half on e = rw (on, e) refl

-- ---- shifts

pub halved_fails : (depth row : ℕ) (ts end : List Token) → whole_row depth row ts ≡ Err end → halved_row depth row ts ≡ Err end
unfolding halved_row
halved_fails depth row ts end e =
    halved_both leaves_shift (whole_row depth row ts) ts
    ∙ ap (λ (o : Outcome Token (Open Operand)). and_then {B = Open Operand} o (λ x mid. and_then (half_behind (leaves_shift x.0) x.1 mid) (λ h rest. Ok ((x.0, h), rest)))) e

pub halved_gives : (depth row : ℕ) (ts mid end : List Token) (a : Operand) (half h : Option Place) (may : Bool) → whole_row depth row ts ≡ Ok ((a, half), mid) → may ≡ leaves_shift a → half_behind may half mid ≡ Ok (h, end) → halved_row depth row ts ≡ Ok ((a, h), end)
unfolding halved_row
halved_gives depth row ts mid end a half h may e is b =
    halved_both leaves_shift (whole_row depth row ts) ts
    ∙ ap (λ (o : Outcome Token (Open Operand)). and_then {B = Open Operand} o (λ x mid. and_then (half_behind (leaves_shift x.0) x.1 mid) (λ h rest. Ok ((x.0, h), rest)))) e
    ∙ ap (λ (m : Bool). and_then {B = Open Operand} (half_behind m half mid) (λ h rest. Ok ((a, h), rest))) (sym is)
    ∙ ap (λ (o : Outcome Token (Option Place)). and_then {B = Open Operand} o (λ h rest. Ok ((a, h), rest))) b

module _ (depth under row : ℕ) (a : Operand) (ts : List Token) where
  pub shift_half : (half h : Option Place) (may : Bool) (mid : List Token) → may ≡ may_shift depth a → half_behind may half ts ≡ Ok (h, mid) → shift_row depth under row (a, half) ts ≡ shift_from depth under row a h mid
  unfolding shift_row
  shift_half half h may mid is b =
      ap (λ (m : Bool). and_then {B = Open Operand} (half_behind m half ts) (λ h rest. shift_from depth under row a h rest)) (sym is)
      ∙ ap (λ (o : Outcome Token (Option Place)). and_then {B = Open Operand} o (λ h rest. shift_from depth under row a h rest)) b

  pub shift_stops : (half : Option Place) → (may_shift depth a && starts class_of (shift_codes half) ts) ≡ false → shift_from depth under row a half ts ≡ Ok ((a, half), ts)
  unfolding shift_from
  shift_stops half off = rw off refl

  pub shift_fails : (half : Option Place) (end : List Token) → (may_shift depth a && starts class_of (shift_codes half) ts) ≡ true → shifts_behind under row half ts ≡ Err end → shift_from depth under row a half ts ≡ Err end
  unfolding shift_from
  shift_fails half end on e = rw (on, e) refl

  pub shift_gives : (half : Option Place) (rest : List Token) (l : t.Tails) (h : Option Place) → (may_shift depth a && starts class_of (shift_codes half) ts) ≡ true → shifts_behind under row half ts ≡ Ok ((l, h), rest) → shift_from depth under row a half ts ≡ Ok ((t.binary a l, h), rest)
  unfolding shift_from
  shift_gives half rest l h on e = rw (on, e) refl

-- ---- comparisons and conditionals

module _ (depth under : ℕ) (x : Open Operand) (ts : List Token) where
  pub compare_stops : (row : ℕ) → starts class_of (compare_codes depth x) ts ≡ false → compare_row depth under row x ts ≡ Ok (x, ts)
  unfolding compare_row
  compare_stops row off = rw off refl

  pub compare_goes : (row : ℕ) → starts class_of (compare_codes depth x) ts ≡ true → compare_row depth under row x ts ≡ compare_behind under row x.0 x.1 ts
  unfolding compare_row
  compare_goes row on = rw on refl

  pub choice_stops : (stands_before question depth x && starts class_of (these s.Question) ts) ≡ false → choice_row depth under x ts ≡ Ok (x, ts)
  unfolding choice_row
  choice_stops off = rw off refl

  pub choice_goes : (stands_before question depth x && starts class_of (these s.Question) ts) ≡ true → choice_row depth under x ts ≡ choice_behind under x.0 ts
  unfolding choice_row
  choice_goes on = rw on refl
