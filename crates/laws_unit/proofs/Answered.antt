-- What is found on a list of tokens is its answer, by the laws of units of both depths (ECMA-408, 18 Libraries and Scripts).
use Rattle.std.proofs.Common.{◌≡◌, ℕ, zero, suc, ◌+◌, ◌<◌, ◌≤◌, arith, Bool, true, false, List, [], ◌∷◌, ◌++◌, length, take, drop, Option, None, Some, Ok, Err, inl, inr, refl, sym, ap, ◌∙◌, subst}
use Rattle.std.specs.Prelude.{nat_lt, Result}
use Rattle.std.proofs.lemmas.Bool.{ltb-true, ltb-false}
use Rattle.dart_base.specs.declared.feature.Feature.{Feature}
use Rattle.dart_base.specs.declared.place.Place.{Place}
use Rattle.dart_token.specs.declared.token.Token.{Token}
use Rattle.dart_tree.specs.Unit.{UnitTree}
use Rattle.grammar_laws.specs.Wholes.{FirstBad, IsWhole, IsAnswer, answer}
use Rattle.grammar_laws.proofs.Wholes as v
use Rattle.dart_syntax.specs.Syntax.{FormsUnit, Answers, EndsAt, left_out}
use Rattle.dart_syntax.specs.Units as p
use Rattle.dart_syntax.proofs.AgreeingUnits.{units_agree}
use Rattle.syntax_readers.specs.Units as i
use Rattle.syntax_readers.specs.Units.{end_place, reason_at, found_or_refused, found_within}
use Rattle.laws_unit.specs.Statements.{UnitReadAt}

-- ---- cuts

cut_at : (k : ℕ) (l : List Token) → l ≡ take k l ++ drop k l
cut_at zero [] = refl
cut_at zero (x ∷ l) = refl
cut_at (suc k) [] = refl
cut_at (suc k) (x ∷ l) = ap (λ (m : List Token). x ∷ m) (cut_at k l)

drop_none : (k : ℕ) (l : List Token) → drop k l ≡ [] → length l ≤ k
drop_none k [] e = omega arith
drop_none zero (x ∷ l) e = absurd cc
drop_none (suc k) (x ∷ l) e = let less : length l ≤ k = drop_none k l e in omega (arith, less)

drop_some : (k : ℕ) (l : List Token) (u : Token) (more : List Token) → drop k l ≡ u ∷ more → k < length l
drop_some zero [] u more e = absurd cc
drop_some (suc k) [] u more e = absurd cc
drop_some zero (x ∷ l) u more e = omega arith
drop_some (suc k) (x ∷ l) u more e = let less : k < length l = drop_some k l u more e in omega (arith, less)

ends : (t : Token) (ts : List Token) → EndsAt (t ∷ ts) (end_place t ts)
ends t [] = ([], t, refl, refl)
ends t (u ∷ ts) = let w = ends u ts in (t ∷ w.0, w.1, ap (λ (m : List Token). t ∷ m) w.2, w.3)

-- ---- by the answer of the reader

module _ (n m : ℕ) (N : UnitReadAt n) (M : UnitReadAt m) (t : Token) (ts : List Token) (kept : left_out (t ∷ ts) ≡ None) where
  abbrev all : List Token
  all = t ∷ ts

  abbrev Near : List Token → Type 0
  Near = (p.unit_within (suc n)).front

  abbrev Far : List Token → Type 0
  Far = (p.unit_within (suc m)).front

  abbrev NoTree : Type 0
  NoTree = (x : UnitTree) → IsWhole (p.unit_within (suc n)).spelling (p.unit_within (suc n)).Fits all x → ⊥

  abbrev AnswerNear : Result UnitTree ℕ → Type 0
  AnswerNear = IsAnswer (p.unit_within (suc n)).spelling (p.unit_within (suc n)).Fits Near all

  abbrev AnswerFar : Result UnitTree ℕ → Type 0
  AnswerFar = IsAnswer (p.unit_within (suc m)).spelling (p.unit_within (suc m)).Fits Far all

  whole_of : (x : UnitTree) → FormsUnit (suc n) all x → IsWhole (p.unit_within (suc n)).spelling (p.unit_within (suc n)).Fits all x
  whole_of x f = (f.fits, f.same ∙ sym ((units_agree (suc n)).unit.spells x))

  goes : (at : ℕ) (o : Result UnitTree ℕ) → AnswerFar o → nat_lt at (i.reached (length all) o) ≡ true → Far (take (at + 1) all)
  goes at (Ok x) is h = v.fronts_of M all x is.0 (at + 1)
  goes at (Err j) is h = v.reached M all at j is.0 (ltb-true at j h)

  stays : (at : ℕ) (o : Result UnitTree ℕ) → AnswerFar o → nat_lt at (i.reached (length all) o) ≡ false → at < length all → Far (take (at + 1) all) → ⊥
  stays at (Ok x) is h less f = absurd (omega (arith, ltb-false at (length all) h, less))
  stays at (Err j) is h less f = v.not_reached M all at j is.0 (ltb-false at j h) less f

  abbrev end : Place
  end = end_place t ts

  by_rest : (at : ℕ) → FirstBad Near all at → NoTree → (more : List Token) → drop at all ≡ more → (b : Bool) → nat_lt at (i.reached (length all) (answer (i.unit_reader (suc m)) all)) ≡ b → Answers (suc n) (suc m) all (Err (reason_at b end more))
  unfolding Answers
  by_rest at bad none [] e b h =
      let long : length all ≤ at = drop_none at all e in
      let short : at ≤ length all = bad.within in
      let same : at ≡ length all = omega (arith, long, short) in
      (kept, inr ((subst (FirstBad Near all) same bad, λ x f. none x (whole_of x f)), ends t ts))
  by_rest at bad none (u ∷ more) e true h =
      (kept, at, (bad, drop_some at all u more e, (u, more, cut_at at all ∙ ap (λ (l : List Token). take at all ++ l) e, refl)), goes at (answer (i.unit_reader (suc m)) all) (v.answer_is M all) h)
  by_rest at bad none (u ∷ more) e false h =
      (kept, inl (at, (bad, drop_some at all u more e, (u, more, cut_at at all ∙ ap (λ (l : List Token). take at all ++ l) e, refl)), stays at (answer (i.unit_reader (suc m)) all) (v.answer_is M all) h (drop_some at all u more e)))

  by_answer : (o : Result UnitTree ℕ) → AnswerNear o → Answers (suc n) (suc m) all (found_or_refused (suc m) all end o)
  unfolding Answers
  by_answer (Ok x) is = (record { fits = is.0.0; same = is.0.1 ∙ (units_agree (suc n)).unit.spells x; whole = kept }, λ other f. is.1 other (whole_of other f))
  by_answer (Err at) is = by_rest at is.0 is.1 (drop at all) refl (nat_lt at (i.reached (length all) (answer (i.unit_reader (suc m)) all))) refl

-- ---- with what the profile leaves out, and without a token

abbrev none_at_all : UnitTree
none_at_all = record { directives = []; declarations = [] }

empty_fits : (n : ℕ) → (p.unit_within (suc n)).Fits none_at_all
unfolding p.unit_within
empty_fits n = inr ((None, ([], ([], []))), (tt, (tt, (tt, tt))), refl)

empty_whole : left_out [] ≡ None
unfolding left_out
empty_whole = refl

empty_forms : (n : ℕ) → FormsUnit (suc n) [] none_at_all
empty_forms n = record { fits = empty_fits n; same = refl; whole = empty_whole }

by_left_out : (n m : ℕ) → UnitReadAt n → UnitReadAt m → (t : Token) (ts : List Token) (o : Option (Place × Feature)) → left_out (t ∷ ts) ≡ o →
    Answers (suc n) (suc m) (t ∷ ts) (i.unless_left_out o (found_or_refused (suc m) (t ∷ ts) (end_place t ts) (answer (i.unit_reader (suc n)) (t ∷ ts))))
unfolding Answers
by_left_out n m N M t ts None e = by_answer n m N M t ts e (answer (i.unit_reader (suc n)) (t ∷ ts)) (v.answer_is N (t ∷ ts))
by_left_out n m N M t ts (Some (place, feature)) e = e

pub answered_at : (n m : ℕ) → UnitReadAt n → UnitReadAt m → (tokens : List Token) → Answers (suc n) (suc m) tokens (found_within (suc n) (suc m) tokens)
unfolding Answers
answered_at n m N M [] = (empty_forms n, λ other f. v.one_tree N [] other none_at_all (f.fits, f.same ∙ sym ((units_agree (suc n)).unit.spells other)) (empty_fits n, sym ((units_agree (suc n)).unit.spells none_at_all)))
answered_at n m N M (t ∷ ts) = by_left_out n m N M t ts (left_out (t ∷ ts)) refl
