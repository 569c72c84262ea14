-- The rows of a table, and what is found there.
use Rattle.std.proofs.Common.{◌≡◌, ◌∙◌, ℕ, List, Option, Some, slice_get, sym, ap}
use Rattle.std.specs.Borrow.{Bor}
use Rattle.std.specs.Option.{option_map}
use Rattle.std.proofs.lemmas.Option.{slice_get-map}
use Rattle.dart_ir.specs.declared.class.Classes.{Classes}
use Rattle.dart_ir.specs.declared.class.ClassInfo.{ClassInfo}
use Rattle.lower_table.specs.Rows.{rows_of}
use Rattle.lower_table.specs.Seen.{row}

-- the row that is found
pub row-found : (texts : List (List ℕ)) (k : Classes) (n : ℕ) (found : Option (Bor ClassInfo)) (info : Bor ClassInfo) → found ≡ Some info
    → option_map (λ (x : Bor ClassInfo). x.now) found ≡ slice_get k.classes.items n → slice_get (rows_of texts k) n ≡ Some (row texts info.now)
row-found texts k n found info is at =
    slice_get-map (row texts) k.classes.items n ∙ ap (option_map (row texts)) (sym at ∙ ap (option_map (λ (x : Bor ClassInfo). x.now)) is)
