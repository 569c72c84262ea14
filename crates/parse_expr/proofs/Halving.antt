-- The half of an operator behind a tree.
use Rattle.std.proofs.Common.{◌≡◌, Bool, true, false, ◌&&◌, List, Option, Some, None, Ok, Err, refl, sym, ap, ◌∙◌}
use Rattle.dart_base.specs.declared.place.Place.{Place}
use Rattle.dart_token.specs.declared.token.Token.{Token}
use Rattle.grammar_laws.specs.Readers.{Reader, Outcome, and_then, starts, when}
use Rattle.syntax_readers.specs.Combinators.{Open, take_half, halved, shut}
use Rattle.dart_token.specs.declared.sign.Sign.TheVariants as s
use Rattle.token_codes.specs.Codes.{class_of, these}
use Rattle.token_codes.specs.Leaves.{sign}
use Rattle.parse_row.specs.Rows.{half_behind}

-- it is read where none was, and where it may follow
abbrev half_reader : Option Place → Bool → Reader Token (Option Place)
half_reader (Some greater) may ts = Ok (Some greater, ts)
half_reader None may ts = when (may && starts class_of (these s.Greater) ts) (sign s.Greater) ts

half_same : (may : Bool) (half : Option Place) (ts : List Token) → half_reader half may ts ≡ half_behind may half ts
half_same may (Some greater) ts = refl
half_same true None ts = refl
half_same false None ts = refl

module _ {A : Type 0} (may : A → Bool) (p : Reader Token (Open A)) where
  pub halved_fails : (ts rest : List Token) → p ts ≡ Err rest → halved may p ts ≡ Err rest
  halved_fails ts rest e = rw e refl

  beside : A → Outcome Token (Option Place) → Outcome Token (Open A)
  beside x o = and_then o (λ half rest. Ok ((x, half), rest))

  taken : (x : A) (half : Option Place) → take_half ((x, None), half) ≡ (x, half)
  taken x None = refl
  taken x (Some greater) = refl

  halved_by : (ts mid rest : List Token) (x : A) (half behind : Option Place) → p ts ≡ Ok ((x, half), mid) → half_reader half (may x) mid ≡ Ok (behind, rest) → halved may p ts ≡ Ok ((x, behind), rest)
  unfolding beside
  halved_by ts mid rest x (Some greater) behind e h = rw e (ap (beside x) h)
  halved_by ts mid rest x None behind e h = rw (e, h) (ap (λ (y : Open A). Ok (y, rest)) (taken x behind))

  pub halved_gives : (ts mid rest : List Token) (x : A) (half behind : Option Place) → p ts ≡ Ok ((x, half), mid) → half_behind (may x) half mid ≡ Ok (behind, rest) → halved may p ts ≡ Ok ((x, behind), rest)
  halved_gives ts mid rest x half behind e h = halved_by ts mid rest x half behind e (half_same (may x) half mid ∙ h)

pub half_at : (half : Option Place) (may same : Bool) (ts : List Token) → may ≡ same → half_behind same half ts ≡ half_behind may half ts
half_at half may same ts e = ap (λ (b : Bool). half_behind b half ts) (sym e)

pub shut_fails : {A : Type 0} (p : Reader Token A) (ts rest : List Token) → p ts ≡ Err rest → shut p ts ≡ Err rest
shut_fails p ts rest e = rw e refl

pub shut_gives : {A : Type 0} (p : Reader Token A) (ts rest : List Token) (x : A) → p ts ≡ Ok (x, rest) → shut p ts ≡ Ok ((x, None), rest)
shut_gives p ts rest x e = rw e refl
