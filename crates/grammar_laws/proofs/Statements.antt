-- The laws that the public functions carry, from those for any predicate.
use Rattle.std.proofs.Common.{subst}
use Rattle.grammar_laws.specs.Wholes.{IsAnswer}
use Rattle.grammar_laws.specs.Statements.{Passes, WholeListLaw, SequenceLaw, FollowedLaw, RepetitionLaw, SecondTryLaw}
use Rattle.grammar_laws.proofs.Combined.{both_laws}
use Rattle.grammar_laws.proofs.Followed.{followed_laws}
use Rattle.grammar_laws.proofs.Repeated.{many_laws}
use Rattle.grammar_laws.proofs.Tried.{tried_laws}
use Rattle.grammar_laws.proofs.Wholes.{answer_is, answer_only}

pub whole_list_law : (T A : Type 0) → WholeListLaw T A
whole_list_law T A class_of read spelling fits front first next empty laws ts r = (λ is. subst (IsAnswer spelling (Passes fits) (Passes front) ts) is (answer_is laws ts), λ is. answer_only laws ts r is)

pub sequence_law : (T A B : Type 0) → SequenceLaw T A B
sequence_law T A B class_of p spell_p fits_p front_p first_p next_p P q spell_q fits_q front_q first_q next_q Q apart = both_laws P Q apart

pub followed_law : (T A B : Type 0) → FollowedLaw T A B
followed_law T A B class_of p spell_p fits_p front_p first_p next_p P q spell_q fits_q front_q first_q next_q Q may apart = followed_laws P Q may apart

pub repetition_law : (T A : Type 0) → RepetitionLaw T A
repetition_law T A class_of p spell_p fits_p front_p first_p next_p P may apart = many_laws P may apart

pub second_try_law : (T A : Type 0) → SecondTryLaw T A
second_try_law T A class_of spell p fits_p front_p first_p P q fits_q front_q first_q next Q over_p over_q = tried_laws P Q over_p over_q
