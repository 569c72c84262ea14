-- The texts of operators.
use Rattle.std.proofs.Common.{◌≡◌, Bool, false, refl}
use Rattle.dart_token.specs.declared.sign.Sign.{Sign}
use Rattle.dart_token.specs.declared.sign.Sign.TheVariants as s
use Rattle.dart_token.specs.Sign.{sign_text}
use Rattle.translation.specs.Classes as cl

-- of any but `-`
pub other_text : (x : Sign) (none : Bool) → (x ≡ s.Minus → ⊥) → cl.operator_text x none ≡ sign_text x
other_text s.LeftParenthesis none other = refl
other_text s.RightParenthesis none other = refl
other_text s.LeftBracket none other = refl
other_text s.RightBracket none other = refl
other_text s.LeftBrace none other = refl
other_text s.RightBrace none other = refl
other_text s.Semicolon none other = refl
other_text s.Comma none other = refl
other_text s.Dot none other = refl
other_text s.DotDot none other = refl
other_text s.Colon none other = refl
other_text s.Question none other = refl
other_text s.AtSign none other = refl
other_text s.Assign none other = refl
other_text s.Arrow none other = refl
other_text s.EqualEqual none other = refl
other_text s.NotEqual none other = refl
other_text s.Less none other = refl
other_text s.Greater none other = refl
other_text s.LessEqual none other = refl
other_text s.GreaterEqual none other = refl
other_text s.ShiftLeft none other = refl
other_text s.Plus none other = refl
other_text s.Minus none other = absurd (other refl)
other_text s.Star none other = refl
other_text s.Slash none other = refl
other_text s.TildeSlash none other = refl
other_text s.Percent none other = refl
other_text s.Ampersand none other = refl
other_text s.Bar none other = refl
other_text s.Caret none other = refl
other_text s.Tilde none other = refl
other_text s.Bang none other = refl
other_text s.AndAnd none other = refl
other_text s.OrOr none other = refl
other_text s.PlusPlus none other = refl
other_text s.MinusMinus none other = refl
other_text s.PlusAssign none other = refl
other_text s.MinusAssign none other = refl
other_text s.StarAssign none other = refl
other_text s.SlashAssign none other = refl
other_text s.TildeSlashAssign none other = refl
other_text s.PercentAssign none other = refl
other_text s.AmpersandAssign none other = refl
other_text s.BarAssign none other = refl
other_text s.CaretAssign none other = refl
other_text s.ShiftLeftAssign none other = refl

pub with_parameters : (x : Sign) → cl.operator_text x false ≡ sign_text x
with_parameters s.LeftParenthesis = refl
with_parameters s.RightParenthesis = refl
with_parameters s.LeftBracket = refl
with_parameters s.RightBracket = refl
with_parameters s.LeftBrace = refl
with_parameters s.RightBrace = refl
with_parameters s.Semicolon = refl
with_parameters s.Comma = refl
with_parameters s.Dot = refl
with_parameters s.DotDot = refl
with_parameters s.Colon = refl
with_parameters s.Question = refl
with_parameters s.AtSign = refl
with_parameters s.Assign = refl
with_parameters s.Arrow = refl
with_parameters s.EqualEqual = refl
with_parameters s.NotEqual = refl
with_parameters s.Less = refl
with_parameters s.Greater = refl
with_parameters s.LessEqual = refl
with_parameters s.GreaterEqual = refl
with_parameters s.ShiftLeft = refl
with_parameters s.Plus = refl
with_parameters s.Minus = refl
with_parameters s.Star = refl
with_parameters s.Slash = refl
with_parameters s.TildeSlash = refl
with_parameters s.Percent = refl
with_parameters s.Ampersand = refl
with_parameters s.Bar = refl
with_parameters s.Caret = refl
with_parameters s.Tilde = refl
with_parameters s.Bang = refl
with_parameters s.AndAnd = refl
with_parameters s.OrOr = refl
with_parameters s.PlusPlus = refl
with_parameters s.MinusMinus = refl
with_parameters s.PlusAssign = refl
with_parameters s.MinusAssign = refl
with_parameters s.StarAssign = refl
with_parameters s.SlashAssign = refl
with_parameters s.TildeSlashAssign = refl
with_parameters s.PercentAssign = refl
with_parameters s.AmpersandAssign = refl
with_parameters s.BarAssign = refl
with_parameters s.CaretAssign = refl
with_parameters s.ShiftLeftAssign = refl

pub ruleset operator_texts = (other_text, with_parameters)
