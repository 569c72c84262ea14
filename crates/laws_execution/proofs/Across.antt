-- Programs over two tables of names, of which one begins with the other, that are alike with names as their texts are alike with numbers.
use Rattle.std.proofs.Common.{◌≡◌, ◌∙◌, ℕ, ◌<◌, arith, sym, ap, List, ◌++◌, length}
use Rattle.std.proofs.lemmas.List.{length-append}
use Rattle.std.proofs.lemmas.List.Elements.{All-weaker, recursion_from_All}
use Rattle.dart_base.specs.Names.{AreDistinct}
use Rattle.core_names.specs.Names.{program_names}
use Rattle.core_names.specs.Within.{AreWithin, number_at}
use Rattle.core_names.proofs.Back.{program_back}
use Rattle.core_names.proofs.Bare.{program_either}
use Rattle.core_names.proofs.Found.{number_back}
use Rattle.core_program.specs.Named as named
use Rattle.core_program.specs.Program.{Program}
use Rattle.core_program.specs.ProgramView.{text_at}
use Rattle.laws_table.proofs.Agreed.{text_kept}
use Rattle.machine_turn.specs.Produced.{bare}
use Rattle.laws_execution.proofs.Bare.{bare_of}

-- numbers under one table come back from the texts that another shows
bare_back : (shown texts : List (List ℕ)) → ((n : ℕ) → n < length shown → number_at texts (text_at shown n) ≡ n) → (q : Program ℕ)
    → AreWithin (length shown) q → named.program (number_at texts) (bare_of (named.program (text_at shown) q)) ≡ bare q
bare_back shown texts back q within =
    program_either (number_at texts) (named.program (text_at shown) q)
    ∙ ap bare (program_back (text_at shown) (number_at texts) q
    (recursion_from_All (λ n. number_at texts (text_at shown n) ≡ n) (program_names q)
    (All-weaker (λ n. n < length shown) (λ n. number_at texts (text_at shown n) ≡ n) back (program_names q) within)))

module _ (texts more : List (List ℕ)) (distinct : AreDistinct (texts ++ more)) where
  number_kept : (n : ℕ) → n < length texts → number_at (texts ++ more) (text_at texts n) ≡ n
  number_kept n less =
      let longer = length-append texts more in
      ap (number_at (texts ++ more)) (text_kept texts more n less) ∙ number_back (texts ++ more) distinct n (omega (arith, less, longer))

  pub same_across : (q r : Program ℕ) → AreWithin (length (texts ++ more)) q → AreWithin (length texts) r
      → bare_of (named.program (text_at (texts ++ more)) q) ≡ bare_of (named.program (text_at texts) r) → bare q ≡ bare r
  same_across q r one other same =
      sym (bare_back (texts ++ more) (texts ++ more) (number_back (texts ++ more) distinct) q one)
      ∙ ap (named.program (number_at (texts ++ more))) same ∙ bare_back texts (texts ++ more) number_kept r other
