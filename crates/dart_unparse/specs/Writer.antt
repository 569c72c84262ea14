-- What a step of a writer adds.
use Rattle.std.specs.Prelude.{◌≡◌, ◌++◌, List}
use Rattle.dart_token.specs.declared.token.Token.{Token}
use Rattle.dart_unparse.specs.declared.leaf.Writer.{Writer}

-- what was written stays, and these tokens come behind it
abbrev pub Appends : Writer → Writer → List Token → Type 0
Appends old new tokens = new.tokens.items ≡ old.tokens.items ++ tokens
