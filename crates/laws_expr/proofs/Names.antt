-- The laws of readers whose fault stands behind a name, where a name may come as another thing too.
use Rattle.std.proofs.Common.{◌≡◌, ℕ, Bool, false, List, [], ◌∷◌, ◌++◌, Err, inl, inr, refl, subst}
use Rattle.dart_token.specs.declared.token.Token.{Token}
use Rattle.grammar_laws.specs.Codes.{Within, nowhere}
use Rattle.grammar_laws.specs.Readers.{Reader}
use Rattle.grammar_laws.specs.Fronts.{Front, Either, OneOf, Nothing, FirstFit}
use Rattle.grammar_laws.specs.Laws.{Laws, Stuck}
use Rattle.grammar_laws.proofs.Codes.{clash, within_self, within_union}
use Rattle.grammar_laws.proofs.Cuts.{gave, failed, then_ok, then_err, same_fault, both_empty}
use Rattle.grammar_laws.proofs.Joints.{ends}
use Rattle.grammar_laws.proofs.Restated.{refit, wider}
use Rattle.grammar_laws.proofs.Tried.{tried_laws}
use Rattle.grammar_laws.proofs.Words.{one_laws}
use Rattle.token_codes.specs.Codes.{class_of, names}
use Rattle.syntax_readers.specs.Combinators.{halting, past_name}

module _ {A : Type 0} {p : Reader Token A} {spell : A → List Token} {Fits : A → Type 0} {front : Front Token} {first : List ℕ} {next : A → List ℕ} {empty : Bool} (P : Laws class_of p spell Fits front first next empty) {B : Type 0} (other : B → List Token) where
  abbrev halt : Reader Token B
  halt = halting p

  abbrev stop : A → Reader Token B
  stop a r = Err r

  refused : (mid : List Token) (b : B) (rest : List Token) → failed {A = B} mid ≡ gave b rest → ⊥
  refused mid b rest e = absurd cc

  never_ok : (ts : List Token) (b : B) (rest : List Token) → halt ts ≡ gave b rest → ⊥
  never_ok ts b rest h = let w = then_ok (p ts) stop b rest h in refused w.1 b rest w.3

  halted : (ts rest : List Token) → halt ts ≡ failed rest → Stuck front ts rest
  halted ts rest h = elim (then_err (p ts) stop rest h) [
    | inl e ↦ P.fault ts rest e
    | inr w ↦ let l = P.sound ts w.0 w.1 w.2 in subst (Stuck front ts) (same_fault {A = B} w.1 rest w.3) (spell w.0, l.1, P.whole w.0 l.0, ends P ts w.0 w.1 w.2)
  ]

  -- a fault where a tree ends: nothing fits, and the fronts are the same
  pub halting_laws : Laws class_of halt other Nothing front first nowhere false
  halting_laws = record {
    sound = λ ts b rest h. absurd (never_ok ts b rest h);
    longest = λ ts b t rest h f. never_ok ts b (t ∷ rest) h;
    fault = halted;
    complete = λ b rest fits s. absurd fits;
    whole = λ b fits. absurd fits;
    none = P.none;
    closed = P.closed;
    firsts = P.firsts;
    nexts = λ b t ts fits f. absurd fits;
    empties = λ b fits e. absurd fits;
  }

module _ {A : Type 0} {p : Reader Token A} {spell : A → List Token} {Fits : A → Type 0} {front : Front Token} {first : List ℕ} {next : A → List ℕ} (P : Laws class_of p spell Fits front first next false) (named : Within names first) where
  one_only : (x : List Token) (t u : Token) (ts : List Token) → (x ≡ [] → ⊥) → x ++ t ∷ ts ≡ u ∷ [] → ⊥
  one_only [] t u ts some e = some refl
  one_only (s ∷ x) t u ts some e = let tails : x ++ t ∷ ts ≡ [] = cc in let none : t ∷ ts ≡ [] = (both_empty x (t ∷ ts) tails).1 in absurd cc

  over_name : (a : A) (t : Token) (ts : List Token) → Fits a → OneOf class_of names (spell a ++ t ∷ ts) → ⊥
  over_name a t ts fits (inl e) = let none : t ∷ ts ≡ [] = (both_empty (spell a) (t ∷ ts) e).1 in absurd cc
  over_name a t ts fits (inr (u, e, h)) = one_only (spell a) t u ts (λ blank. clash false (P.empties a fits blank) refl) e

  either_out : (a : A) → FirstFit spell Nothing Fits a → Fits a
  either_out a (inl fits) = absurd fits
  either_out a (inr fits) = fits.0

  -- names are fronts too
  pub past_name_laws : Laws class_of (past_name p) spell Fits (Either (OneOf class_of names) front) first next false
  past_name_laws = wider (refit (tried_laws (halting_laws (one_laws class_of names) spell) P (λ a t ts fits f. absurd fits) over_name) either_out (λ a fits. inr (fits, λ b never e. absurd never)))
      (within_union named (within_self first)) (λ a fits. within_self (next a))
