-- What is done with words, by how many there are.
use Rattle.std.specs.Prelude.{IfSome}
use Rattle.std.proofs.Common.{◌≡◌, ◌≤◌, ◌<◌, ap, sym, subst, ℕ, List, [], ◌∷◌, length, map, get_or, Option, None, Some, arith}
use Rattle.dart_edge.specs.Files.{Files}
use Rattle.dart_tool.specs.declared.status.Status.{Status}
use Rattle.dart_tool.specs.Tool.{Delivers}
use Rattle.core_print.specs.Printed.{FilePrints, WordsPrint, Written, usage_outcome}

-- ---- a list of one or two

pub one_word : {A : Type 0} (file : A) (words : List A) → 1 ≤ length words → length words < 2 → file ≡ get_or words 0 file → words ≡ file ∷ []
one_word file [] some few is = absurd (omega arith)
one_word file (a ∷ []) some few is = ap (λ x. x ∷ []) (sym is)
one_word file (a ∷ b ∷ rest) some few is = absurd (omega arith)

pub two_words : {A : Type 0} (file name : A) (words : List A) → 2 ≤ length words → length words < 3 → file ≡ get_or words 0 file → name ≡ get_or words 1 name
    → words ≡ file ∷ name ∷ []
two_words file name [] some few first second = absurd (omega arith)
two_words file name (a ∷ []) some few first second = absurd (omega arith)
two_words file name (a ∷ b ∷ []) some few first second = λ i. sym first i ∷ sym second i ∷ []
two_words file name (a ∷ b ∷ c ∷ rest) some few first second = absurd (omega arith)

-- ---- what is done

module _ (told : Option Files) (words : List (List ℕ)) where
  pub one_printed : (file : List ℕ) (status : Status) (before after : Written) → words ≡ file ∷ []
      → IfSome told (λ files. FilePrints files file None status before after) → IfSome told (λ files. WordsPrint words files status before after)
  one_printed file status before after is prints =
      subst (λ (ws : List (List ℕ)). IfSome told (λ files. WordsPrint ws files status before after)) (sym is) prints

  pub two_printed : (file name : List ℕ) (status : Status) (before after : Written) → words ≡ file ∷ name ∷ []
      → IfSome told (λ files. FilePrints files file (Some name) status before after) → IfSome told (λ files. WordsPrint words files status before after)
  two_printed file name status before after is prints =
      subst (λ (ws : List (List ℕ)). IfSome told (λ files. WordsPrint ws files status before after)) (sym is) prints

module _ {A : Type 0} (bytes : A → List ℕ) where
  pub none_printed : (told : Option Files) (words : List A) (status : Status) (before after : Written) → length words < 1
      → Delivers usage_outcome status before after → IfSome told (λ files. WordsPrint (map bytes words) files status before after)
  none_printed None words status before after few delivers = tt
  none_printed (Some files) [] status before after few delivers = delivers
  none_printed (Some files) (a ∷ rest) status before after few delivers = absurd (omega arith)

  pub many_printed : (told : Option Files) (words : List A) (status : Status) (before after : Written) → 3 ≤ length words
      → Delivers usage_outcome status before after → IfSome told (λ files. WordsPrint (map bytes words) files status before after)
  many_printed None words status before after many delivers = tt
  many_printed (Some files) [] status before after many delivers = absurd (omega arith)
  many_printed (Some files) (a ∷ []) status before after many delivers = absurd (omega arith)
  many_printed (Some files) (a ∷ b ∷ []) status before after many delivers = absurd (omega arith)
  many_printed (Some files) (a ∷ b ∷ c ∷ rest) status before after many delivers = delivers
