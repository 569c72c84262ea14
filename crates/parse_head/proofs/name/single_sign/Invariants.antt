use Rattle.std.proofs.Common.{◌≡◌, drop}
use Rattle.dart_syntax.specs.Declarations.{operator_signs}
use Rattle.syntax_readers.specs.Declarations.{operator_signs_of}
use Rattle.parse_head.proofs.name.single_sign.Given as goal

abbrev pub invariant-loop-sign : goal.invariant-loop-sign
invariant-loop-sign l = operator_signs_of operator_signs l.fn.cursor ≡ operator_signs_of (drop l.sign-index operator_signs) l.cursor
