-- Equal tables get equal numbers.
use Rattle.std.proofs.Common.{◌≡◌, ◌∙◌, ℕ, List, map, sym, ap}
use Rattle.std.proofs.lemmas.Simd.{map-map}
use Rattle.core_program.specs.Named as with_names
use Rattle.core_program.specs.ProgramView as pv
use Rattle.dart_ir.specs.declared.class.Classes.{Classes}
use Rattle.scope_program.specs.Program.{Scoping}
use Rattle.lower_table.specs.Rows.{rows_of, starts_of}
use Rattle.lower_table.specs.Table.{source_of}
use Rattle.table_accessor.specs.Numbered.{IsNumbered, all_numbered}

same_rows : (texts : List (List ℕ)) (k j : Classes) → map pv.class k.classes.items ≡ map pv.class j.classes.items → rows_of texts k ≡ rows_of texts j
same_rows texts k j same = sym (map-map (with_names.class (pv.text_at texts)) pv.class k.classes.items)
    ∙ ap (map (with_names.class (pv.text_at texts))) same ∙ map-map (with_names.class (pv.text_at texts)) pv.class j.classes.items

pub stay_equal : (s : Scoping) (k j made other : Classes) → IsNumbered s k made → IsNumbered s j other
    → map pv.class k.classes.items ≡ map pv.class j.classes.items → map pv.member k.members.items ≡ map pv.member j.members.items → k.function ≡ j.function
    → (map pv.class made.classes.items ≡ map pv.class other.classes.items) × (map pv.member made.members.items ≡ map pv.member other.members.items)
    × (made.function ≡ other.function)
stay_equal s k j made other is was classes members function = (
  (λ i. map pv.class (is.classes i).items) ∙ classes ∙ sym (λ i. map pv.class (was.classes i).items),
  is.members
      ∙ (λ i. all_numbered s.numbered (starts_of (source_of s) (same_rows s.texts k j classes i)) (members i))
      ∙ sym was.members,
  is.function ∙ function ∙ sym was.function,
)
