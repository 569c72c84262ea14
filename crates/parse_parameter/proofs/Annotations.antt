-- Metadata, as a list that each further annotation makes longer.
use Rattle.std.proofs.Common.{◌≡◌, ℕ, max, List, [], ◌∷◌, ◌++◌, Option, Some, None, refl, sym, ap, ◌∙◌, arith}
use Rattle.dart_base.specs.declared.place.Place.{Place}
use Rattle.dart_token.specs.declared.token.Token.{Token}
use Rattle.dart_token.specs.declared.sign.Sign.TheVariants as s
use Rattle.dart_tree.specs.declared.identifier.DotName.{DotName}
use Rattle.dart_tree.specs.declared.identifier.Identifier.{Identifier}
use Rattle.dart_tree.specs.declared.parameter.Annotation.{Annotation}
use Rattle.dart_tree.specs.Depth as height
use Rattle.dart_tree.specs.Lists as lists
use Rattle.dart_tree.specs.Tree as t
use Rattle.dart_tree.specs.View as view
use Rattle.dart_syntax.specs.Statements.{to_metadata, to_annotation}
use Rattle.grammar_laws.specs.Readers.{mapped, many, always}
use Rattle.syntax_readers.specs.Parameters as spec
use Rattle.token_codes.specs.Codes.{class_of, these}
use Rattle.parse_loop.specs.Lists.{Growing}
use Rattle.parse_parameter.specs.Views.{annotation_at, arguments_height}
use Rattle.parse_nest.specs.Stages.{exprs_at}

abbrev pub snoc : t.Metadata → t.Annotation → t.Metadata
snoc t.no_metadata x = t.annotation x t.no_metadata
snoc (t.annotation y more) x = t.annotation y (snoc more x)

pub grow : (items : List t.Annotation) (x : t.Annotation) → to_metadata (items ++ x ∷ []) ≡ snoc (to_metadata items) x
grow [] x = refl
grow (y ∷ items) x = ap (t.annotation y) (grow items x)

pub taller : (l : t.Metadata) (x : t.Annotation) → height.metadata_height (snoc l x) ≡ max (height.metadata_height l) (height.annotation_height x)
unfolding height.metadata_height
taller t.no_metadata x = omega arith
taller (t.annotation y more) x = let e = taller more x in omega arith

abbrev pub annotations : ℕ → Growing (Unit {0}) t.Annotation t.Metadata
annotations n = record {
  codes = these s.AtSign;
  item = annotation_at n;
  give = λ first items. to_metadata items;
  snoc = snoc;
  high = height.metadata_height;
  tall = height.annotation_height;
  grows = λ first items x. grow items x;
  taller = taller;
}

pub metadata_is : (n : ℕ) (ts : List Token) → spec.metadata (exprs_at n) ts ≡ mapped to_metadata (many class_of always (these s.AtSign) (annotation_at n)) ts
unfolding spec.metadata
metadata_is n ts = refl

pub none_high : (l : t.Metadata) → l ≡ t.no_metadata → 0 ≡ height.metadata_height l
unfolding height.metadata_height
none_high l is = ap height.metadata_height (sym is)

pushed_to : (items : List Annotation) (x : Annotation) → lists.metadata_of (items ++ x ∷ []) ≡ snoc (lists.metadata_of items) (view.annotation x)
pushed_to [] x = refl
pushed_to (y ∷ items) x = ap (t.annotation (view.annotation y)) (pushed_to items x)

pub pushed : (items new : List Annotation) (x : Annotation) → new ≡ items ++ x ∷ [] → lists.metadata_of new ≡ snoc (lists.metadata_of items) (view.annotation x)
pushed items new x e = ap lists.metadata_of e ∙ pushed_to items x

annotation_high : (at : Place) (name : Identifier) (more : List DotName) (given : Option t.Arguments) → height.annotation_height (to_annotation (at, (name, (more, given)))) ≡ arguments_height given
unfolding height.annotation_height height.arguments_height
annotation_high at name more None = refl
annotation_high at name more (Some (t.the_arguments opening items closing)) = refl

pub annotation_tall : (x : t.Annotation) (at : Place) (name : Identifier) (more : List DotName) (given : Option t.Arguments) → x ≡ to_annotation (at, (name, (more, given))) → height.annotation_height x ≡ arguments_height given
annotation_tall x at name more given is = ap height.annotation_height is ∙ annotation_high at name more given
