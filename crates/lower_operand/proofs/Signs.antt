-- What signs stand for that have no line of their own.
use Rattle.std.proofs.Common.{◌≡◌, refl, None}
use Rattle.dart_token.specs.declared.sign.Sign.{Sign}
use Rattle.dart_token.specs.declared.sign.Sign.TheVariants as s
use Rattle.dart_token.specs.Sign.{sign_text}
use Rattle.translation.specs.Expressions as e

pub other_operation : (x : Sign) → (x ≡ s.AndAnd → ⊥) → (x ≡ s.OrOr → ⊥) → (x ≡ s.EqualEqual → ⊥) → (x ≡ s.NotEqual → ⊥) → e.sign_operation x ≡ e.method (sign_text x)
other_operation s.AndAnd a b c d = absurd (a refl)
other_operation s.OrOr a b c d = absurd (b refl)
other_operation s.EqualEqual a b c d = absurd (c refl)
other_operation s.NotEqual a b c d = absurd (d refl)
other_operation x a b c d = refl

pub other_prefix : (x : Sign) → (x ≡ s.Bang → ⊥) → (x ≡ s.PlusPlus → ⊥) → (x ≡ s.MinusMinus → ⊥) → (x ≡ s.Minus → ⊥) → e.sign_prefix x ≡ e.unary (sign_text x)
other_prefix s.Bang a b c d = absurd (a refl)
other_prefix s.PlusPlus a b c d = absurd (b refl)
other_prefix s.MinusMinus a b c d = absurd (c refl)
other_prefix s.Minus a b c d = absurd (d refl)
other_prefix x a b c d = refl

pub no_compound : (x : Sign) → (x ≡ s.PlusAssign → ⊥) → (x ≡ s.MinusAssign → ⊥) → (x ≡ s.StarAssign → ⊥) → (x ≡ s.SlashAssign → ⊥) → (x ≡ s.TildeSlashAssign → ⊥) → (x ≡ s.PercentAssign → ⊥) → (x ≡ s.AmpersandAssign → ⊥) → (x ≡ s.BarAssign → ⊥) → (x ≡ s.CaretAssign → ⊥) → (x ≡ s.ShiftLeftAssign → ⊥) → e.sign_compound x ≡ None
no_compound s.PlusAssign a b c d f g h i j k = absurd (a refl)
no_compound s.MinusAssign a b c d f g h i j k = absurd (b refl)
no_compound s.StarAssign a b c d f g h i j k = absurd (c refl)
no_compound s.SlashAssign a b c d f g h i j k = absurd (d refl)
no_compound s.TildeSlashAssign a b c d f g h i j k = absurd (f refl)
no_compound s.PercentAssign a b c d f g h i j k = absurd (g refl)
no_compound s.AmpersandAssign a b c d f g h i j k = absurd (h refl)
no_compound s.BarAssign a b c d f g h i j k = absurd (i refl)
no_compound s.CaretAssign a b c d f g h i j k = absurd (j refl)
no_compound s.ShiftLeftAssign a b c d f g h i j k = absurd (k refl)
no_compound x a b c d f g h i j k = refl

pub ruleset signs = (other_operation, other_prefix, no_compound)
