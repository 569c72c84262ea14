-- How a text that is written in a library is named in the table (ECMA-408, 6.2 Privacy).
use Rattle.std.specs.Prelude.{ℕ, List, ◌++◌, if◌then◌else◌}
use Rattle.scope_declared.specs.Number.{is_private}

-- the name of a text in a library whose private names end with the suffix
abbrev pub named : List ℕ → List ℕ → List ℕ
named suffix text = if is_private text then text ++ suffix else text
