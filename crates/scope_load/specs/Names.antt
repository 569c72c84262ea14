-- The names of units.
use Rattle.std.specs.Prelude.{ℕ, ◌-◌, ◌==◌, List, ◌++◌, take, length, Bool, true, false, not, Option, None, Some, bytes_eq}
use Rattle.std.specs.List.{suffix_len}
use Rattle.std.specs.Str.{byte}
use Rattle.scope_mention.specs.declared.mention.Uri.{Uri}
use Rattle.scope_mention.specs.declared.mention.Uri.TheVariants as uri
use Rattle.scope_load.specs.declared.units.UnitName.{UnitName}
use Rattle.scope_load.specs.declared.units.UnitName.TheVariants as n

abbrev pub same_name : UnitName → UnitName → Bool
same_name (n.File name) (n.File other) = bytes_eq name other
same_name (n.File name) n.Core = false
same_name (n.File name) n.Isolate = false
same_name n.Core (n.File other) = false
same_name n.Core n.Core = true
same_name n.Core n.Isolate = false
same_name n.Isolate (n.File other) = false
same_name n.Isolate n.Core = false
same_name n.Isolate n.Isolate = true

-- Not a slash.
abbrev pub is_no_slash : ℕ → Bool
is_no_slash b = not (b == byte "/")

-- the folder of a file: its name up to the last slash
abbrev pub folder_of : List ℕ → List ℕ
folder_of name = take (length name - suffix_len is_no_slash name) name

-- the unit that a directive's string names, where the program's folder is this one
abbrev pub name_of : List ℕ → Uri → Option UnitName
name_of folder uri.Unclear = None
name_of folder (uri.LeftOut place feature) = None
name_of folder uri.Core = Some n.Core
name_of folder uri.Isolate = Some n.Isolate
name_of folder (uri.File text) = Some (n.File (folder ++ text))
