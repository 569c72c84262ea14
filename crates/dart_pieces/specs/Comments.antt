-- Comments (ECMA-408, 20.1.2 Comments).
use Rattle.std.specs.Prelude.{◌≡◌, ◌==◌, ℕ, zero, suc, ◌&&◌, ◌++◌, List, [], ◌∷◌, Bool, false, ◌⊎◌, codes}
use Rattle.std.specs.Str.{byte}
use Rattle.dart_pieces.specs.Bytes.{in_line, Passes}

-- `/*`, `*/`, or another byte
pub data Mark : Type 0 where
  opens : Mark
  closes : Mark
  other : ℕ → Mark

abbrev pub mark_bytes : Mark → List ℕ
mark_bytes opens = codes "/*"
mark_bytes closes = codes "*/"
mark_bytes (other b) = b ∷ []

abbrev pub marks_bytes : List Mark → List ℕ
marks_bytes [] = []
marks_bytes (mark ∷ marks) = mark_bytes mark ++ marks_bytes marks

abbrev pub is_open_mark : ℕ → ℕ → Bool
is_open_mark a b = (a == byte "/") && (b == byte "*")

abbrev pub is_close_mark : ℕ → ℕ → Bool
is_close_mark a b = (a == byte "*") && (b == byte "/")

-- these bytes begin with no mark
abbrev pub Unmarked : List ℕ → Type 0
Unmarked [] = Unit {0}
Unmarked (a ∷ []) = Unit {0}
Unmarked (a ∷ b ∷ more) = (is_open_mark a b ≡ false) × (is_close_mark a b ≡ false)

-- These marks close the comments that are open, with all that they open, and not before their end.
abbrev pub Closing : ℕ → List Mark → Type 0
Closing zero [] = Unit {0}
Closing zero (mark ∷ marks) = ⊥
Closing (suc depth) [] = ⊥
Closing (suc depth) (opens ∷ marks) = Closing (suc (suc depth)) marks
Closing (suc depth) (closes ∷ marks) = Closing depth marks
Closing (suc depth) (other b ∷ marks) = Unmarked (b ∷ marks_bytes marks) × Closing (suc depth) marks

-- `/*`, and what closes it
abbrev pub IsBlock : List ℕ → Type 0
IsBlock bytes = (marks : List Mark) × (bytes ≡ codes "/*" ++ marks_bytes marks) × Closing 1 marks

-- `//` and the rest of a line
abbrev pub IsLine : List ℕ → Type 0
IsLine bytes = (more : List ℕ) × (bytes ≡ codes "//" ++ more) × Passes in_line more

abbrev pub IsComment : List ℕ → Type 0
IsComment bytes = IsLine bytes ⊎ IsBlock bytes
