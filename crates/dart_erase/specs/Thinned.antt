-- Tokens of which some are dropped, with `var` put before some that are kept, at their place.
use Rattle.std.specs.Prelude.{List, [], ◌∷◌}
use Rattle.dart_token.specs.declared.token.Token.{Token}
use Rattle.dart_token.specs.declared.word.Word.TheVariants as w
use Rattle.dart_tree.specs.LeafTokens.{word_at}

pub data Thinned : List Token → List Token → Type 0 where
  nothing : Thinned [] []
  keeps : {xs ys : List Token} (x : Token) → Thinned xs ys → Thinned (x ∷ xs) (x ∷ ys)
  drops : {xs ys : List Token} (x : Token) → Thinned xs ys → Thinned (x ∷ xs) ys
  puts_var :
      {xs ys : List Token} (x : Token) → Thinned xs ys →
      Thinned (x ∷ xs) (word_at x.place w.Var ∷ x ∷ ys)
