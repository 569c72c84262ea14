-- Required parameters, and the optional ones that may follow.
use Rattle.std.proofs.Common.{◌≡◌, ◌+◌, max, Bool, true, false, ◌||◌, ◌&&◌, List, Option, Some, None, Ok, Err, refl, ap, arith}
use Rattle.dart_base.specs.declared.place.Place.{Place}
use Rattle.dart_token.specs.declared.token.Token.{Token}
use Rattle.dart_tree.specs.declared.parameter.Brackets.{Brackets}
use Rattle.dart_tree.specs.Depth as height
use Rattle.dart_tree.specs.Tree as t
use Rattle.grammar_laws.specs.Readers.{Reader, starts}
use Rattle.token_codes.specs.Codes.{class_of}
use Rattle.syntax_readers.specs.Parameters as spec
use Rattle.parse_parameter.specs.Views.{Bare, listed}

module _ (parameter : Reader Token Bare) (expr : Reader Token t.Expr) (ts : List Token) where
  pub no_required : (end : List Token) → spec.required parameter ts ≡ Err end → listed parameter expr ts ≡ Err end
  no_required end e = rw e refl

  module _ (required : spec.Required) (mid : List Token) where
    -- optional ones follow
    abbrev pub follow : Bool
    follow = spec.has_comma required || (spec.allows_optional required && starts class_of spec.optional_first mid)

    pub required_alone : spec.required parameter ts ≡ Ok (required, mid) → follow ≡ false → listed parameter expr ts ≡ Ok ((required, None), mid)
    required_alone e off = rw (e, off) refl

    pub no_optional : (end : List Token) → spec.required parameter ts ≡ Ok (required, mid) → follow ≡ true → spec.optional_over parameter expr mid ≡ Err end → listed parameter expr ts ≡ Err end
    no_optional end e on stops = rw (e, on, stops) refl

    pub with_optional : (optional : spec.Optional) (end : List Token) → spec.required parameter ts ≡ Ok (required, mid) → follow ≡ true → spec.optional_over parameter expr mid ≡ Ok (optional, end) → listed parameter expr ts ≡ Ok ((required, Some optional), end)
    with_optional optional end e on reads = rw (e, on, reads) refl

-- ---- parameters in their parentheses

pub alone_high : (p : t.Parameters) (opening closing : Place) (l : t.ParameterList) → p ≡ t.the_parameters opening l None t.no_parameters closing → height.parameters_height p ≡ height.parameter_list_height l + 1
unfolding height.parameters_height height.parameter_list_height
alone_high p opening closing l is = let k = ap height.parameters_height is in omega arith

pub all_high : (p : t.Parameters) (opening closing : Place) (brackets : Option Brackets) (l m : t.ParameterList) → p ≡ t.the_parameters opening l brackets m closing → height.parameters_height p ≡ max (height.parameter_list_height l) (height.parameter_list_height m) + 1
unfolding height.parameters_height
all_high p opening closing brackets l m is = let k = ap height.parameters_height is in omega arith
