-- What a table has that finds its entries by texts.
use Rattle.std.specs.Prelude.{ℕ, List, Option, bytes_eq}
use Rattle.std.specs.Global.{Vec}
use Rattle.std.specs.HashMap.{HashMap, get_by}

-- what stands under a text
abbrev pub at_text : {X S : Type 0} → HashMap (Vec ℕ) X S → List ℕ → Option X
at_text map text = get_by (λ key. bytes_eq text key.items) map
