-- Type parameters and members, as lists that each further one makes longer.
use Rattle.std.proofs.Common.{◌≡◌, ℕ, max, List, [], ◌∷◌, ◌++◌, map, Some, None, Ok, Err, refl, ap, ◌∙◌, arith}
use Rattle.dart_base.specs.declared.place.Place.{Place}
use Rattle.dart_token.specs.declared.token.Token.{Token}
use Rattle.dart_token.specs.declared.sign.Sign.TheVariants as s
use Rattle.dart_tree.specs.declared.declaration.TypeParameter.{TypeParameter}
use Rattle.dart_tree.specs.Depth.{type_parameter_height, member_height}
use Rattle.dart_tree.specs.Unit as u
use Rattle.dart_tree.specs.UnitView as view
use Rattle.dart_syntax.specs.Declarations.{to_type_parameters, more_type_parameters}
use Rattle.grammar_laws.specs.Readers.{Reader, Outcome, and_then, mapped, separated}
use Rattle.syntax_readers.specs.Combinators.{◌~◌, made₃}
use Rattle.syntax_readers.specs.Declarations as spec
use Rattle.token_codes.specs.Codes.{class_of, these}
use Rattle.token_codes.specs.Leaves.{sign}
use Rattle.parse_loop.specs.Lists.{Growing}
use Rattle.parse_loop.proofs.Alike.{alike, behind, behind_taller}
use Rattle.parse_nest.specs.Stages.{exprs_at}
use Rattle.parse_class.specs.Views.{Bare, bare_height, bare_at, a_parameter, items_height, in_angles, angled}

abbrev pub snoc : List u.TypeParameter → Place × Bare → List u.TypeParameter
snoc l x = behind l (a_parameter (Some x.0) x.1)

more_grow : (items : List (Place × Bare)) (x : Place × Bare) → more_type_parameters (items ++ x ∷ []) ≡ snoc (more_type_parameters items) x
more_grow [] x = refl
more_grow (y ∷ items) x = ap (λ (l : List u.TypeParameter). a_parameter (Some y.0) y.1 ∷ l) (more_grow items x)

pub grow : (first : Bare) (items : List (Place × Bare)) (x : Place × Bare) → to_type_parameters (first, items ++ x ∷ [])
    ≡ snoc (to_type_parameters (first, items)) x
grow first items x = ap (λ (l : List u.TypeParameter). a_parameter None first ∷ l) (more_grow items x)

pub taller : (l : List u.TypeParameter) (x : Place × Bare) → items_height (snoc l x) ≡ max (items_height l) (bare_height x.1)
taller l x = behind_taller type_parameter_height l (a_parameter (Some x.0) x.1)

abbrev pub bare_list : ℕ → Growing Bare (Place × Bare) (List u.TypeParameter)
bare_list n = record {
  codes = these s.Comma;
  item = sign s.Comma ~ bare_at n;
  give = λ first items. to_type_parameters (first, items);
  snoc = snoc;
  high = items_height;
  tall = λ x. bare_height x.1;
  grows = grow;
  taller = taller;
}

pushed_to : (items : List TypeParameter) (x : TypeParameter) → map view.type_parameter (items ++ x ∷ [])
    ≡ behind (map view.type_parameter items) (view.type_parameter x)
pushed_to [] x = refl
pushed_to (y ∷ items) x = ap (λ (l : List u.TypeParameter). view.type_parameter y ∷ l) (pushed_to items x)

pub pushed : (items new : List TypeParameter) (x : TypeParameter) (y : u.TypeParameter) → new ≡ items ++ x ∷ [] → view.type_parameter x ≡ y →
    map view.type_parameter new ≡ behind (map view.type_parameter items) y
pushed items new x y e is = ap (map view.type_parameter) e ∙ pushed_to items x ∙ ap (behind (map view.type_parameter items)) is

-- a list of one
pub one_pushed : (new : List TypeParameter) (x : TypeParameter) (y : u.TypeParameter) → new ≡ x ∷ [] → view.type_parameter x ≡ y →
    map view.type_parameter new ≡ y ∷ []
one_pushed new x y e is = ap (map view.type_parameter) e ∙ ap (λ (z : u.TypeParameter). z ∷ []) is

pub one_high : (l : List u.TypeParameter) (x : Bare) (h : ℕ) → l ≡ a_parameter None x ∷ [] → h ≡ bare_height x → h ≡ items_height l
one_high l x h is high = let k = ap items_height is in omega arith

-- ---- in angle brackets

-- what is read in the middle may be put into its shape there
module _ {A B C D X : Type 0} (p : Reader Token A) (q : Reader Token B) (r : Reader Token C) (f : B → D) (make : A → D → C → X) where
  behind_both : (a : A) (b : B) (o : Outcome Token C) →
      and_then {B = X} (and_then {B = A × (B × C)} (and_then {B = B × C} o (λ c rest. Ok ((b, c), rest))) (λ x rest. Ok ((a, x), rest)))
      (λ x rest. Ok (make x.0 (f x.1.0) x.1.1, rest))
      ≡ and_then {B = X} (and_then {B = A × (D × C)} (and_then {B = D × C} o (λ c rest. Ok ((f b, c), rest)))
      (λ x rest. Ok ((a, x), rest))) (λ x rest. Ok (make x.0 x.1.0 x.1.1, rest))
  behind_both a b (Ok x) = refl
  behind_both a b (Err rest) = refl

  behind_one : (a : A) (o : Outcome Token B) →
      and_then {B = X} (and_then {B = A × (B × C)} (and_then {B = B × C} o (λ b mid. and_then (r mid) (λ c rest. Ok ((b, c), rest))))
      (λ x rest. Ok ((a, x), rest))) (λ x rest. Ok (make x.0 (f x.1.0) x.1.1, rest))
      ≡ and_then {B = X} (and_then {B = A × (D × C)} (and_then {B = D × C} (and_then {B = D} o (λ b rest. Ok (f b, rest)))
      (λ d mid. and_then (r mid) (λ c rest. Ok ((d, c), rest)))) (λ x rest. Ok ((a, x), rest))) (λ x rest. Ok (make x.0 x.1.0 x.1.1, rest))
  behind_one a (Ok x) = behind_both a x.0 (r x.1)
  behind_one a (Err rest) = refl

  behind_none : (o : Outcome Token A) →
      and_then {B = X} (and_then {B = A × (B × C)} o (λ a start. and_then
      (and_then {B = B × C} (q start) (λ b mid. and_then (r mid) (λ c rest. Ok ((b, c), rest)))) (λ x rest. Ok ((a, x), rest))))
      (λ x rest. Ok (make x.0 (f x.1.0) x.1.1, rest))
      ≡ and_then {B = X} (and_then {B = A × (D × C)} o (λ a start. and_then
      (and_then {B = D × C} (and_then {B = D} (q start) (λ b rest. Ok (f b, rest)))
      (λ d mid. and_then (r mid) (λ c rest. Ok ((d, c), rest)))) (λ x rest. Ok ((a, x), rest)))) (λ x rest. Ok (make x.0 x.1.0 x.1.1, rest))
  behind_none (Ok x) = behind_one x.0 (q x.1)
  behind_none (Err rest) = refl

  pub mapped_within : (ts : List Token) → made₃ (λ a b c. make a (f b) c) (p ~ q ~ r) ts ≡ made₃ make (p ~ mapped f q ~ r) ts
  mapped_within ts = behind_none (p ts)

pub angled_is : (n : ℕ) (ts : List Token) → spec.type_parameters (exprs_at n) ts ≡ angled (bare_at n) ts
unfolding spec.type_parameters
angled_is n ts = mapped_within (sign s.Less) (separated class_of (these s.Comma) (bare_at n) (sign s.Comma)) (sign s.Greater)
    to_type_parameters in_angles ts

-- ---- members

abbrev pub member_list : ℕ → List ℕ → Growing (Unit {0}) u.Member (List u.Member)
member_list n class = alike spec.member_first (spec.member n class) member_height
