-- What a step of a walk adds, and how it numbers names.
use Rattle.std.specs.Prelude.{◌≡◌, ◌++◌, ℕ, List}
use Rattle.scope_declared.specs.declared.declaration.Declared.{Declared}
use Rattle.scope_declared.specs.Number.{number_of}
use Rattle.scope_walk.specs.declared.leaf.Walk.{Walk}

-- what was found stays, and these come behind it
abbrev pub Appends : List Declared → List Declared → List Declared → Type 0
Appends old new more = new ≡ old ++ more

-- the number of a text by a walk's table of names
unfoldable pub numbering : Walk → List ℕ → ℕ
numbering walk text = number_of walk.names.now walk.library text
