-- A parameter up to its name, and the parameters of its own that may follow.
use Rattle.std.proofs.Common.{◌≡◌, Bool, true, false, ◌||◌, ◌&&◌, List, Some, None, Ok, Err, refl}
use Rattle.dart_token.specs.declared.token.Token.{Token}
use Rattle.dart_token.specs.declared.sign.Sign.TheVariants as s
use Rattle.dart_tree.specs.Types.{TypeNode}
use Rattle.dart_tree.specs.Tree as t
use Rattle.grammar_laws.specs.Readers.{Reader, starts}
use Rattle.token_codes.specs.Codes.{class_of, these}
use Rattle.syntax_readers.specs.Parameters as spec

module _ (type : Reader Token TypeNode) (parameters : Reader Token t.Parameters) (ts : List Token) where
  pub no_head : (end : List Token) → spec.parameter_head type ts ≡ Err end → spec.parameter_kind type parameters ts ≡ Err end
  unfolding spec.parameter_kind
  no_head end e = rw e refl

  module _ (head : spec.ParameterHead) (mid : List Token) where
    -- parameters of its own follow
    abbrev pub follow : Bool
    follow = spec.needs_parameters head || (spec.may_have_parameters head && starts class_of (these s.LeftParenthesis) mid)

    pub head_alone : spec.parameter_head type ts ≡ Ok (head, mid) → follow ≡ false → spec.parameter_kind type parameters ts ≡ Ok (spec.a_parameter (head, None), mid)
    unfolding spec.parameter_kind
    head_alone e off = rw (e, off) refl

    pub no_parameters : (end : List Token) → spec.parameter_head type ts ≡ Ok (head, mid) → follow ≡ true → parameters mid ≡ Err end → spec.parameter_kind type parameters ts ≡ Err end
    unfolding spec.parameter_kind
    no_parameters end e on stops = rw (e, on, stops) refl

    pub with_parameters : (found : t.Parameters) (end : List Token) → spec.parameter_head type ts ≡ Ok (head, mid) → follow ≡ true → parameters mid ≡ Ok (found, end) → spec.parameter_kind type parameters ts ≡ Ok (spec.a_parameter (head, Some found), end)
    unfolding spec.parameter_kind
    with_parameters found end e on reads = rw (e, on, reads) refl
