-- Parameters are bound alike once annotations and columns are forgotten.
use Rattle.std.proofs.Common.{◌≡◌, refl, ap, ◌∙◌, ℕ, ◌+◌, [], ◌∷◌, ◌++◌, length, nat_eq, Option, None, Some, Bool, true, false, pos, neg_ℤ}
use Rattle.dart_base.specs.declared.limit.TheConstants.{PARAMETERS}
use Rattle.dart_base.specs.declared.place.Place.{Place}
use Rattle.dart_tree.specs.declared.parameter.Brackets.{Brackets}
use Rattle.dart_tree.specs.declared.parameter.ThisDot.{ThisDot}
use Rattle.dart_tree.specs.UnitView.{maybe}
use Rattle.dart_tree.specs.Tree as t
use Rattle.dart_ir.specs.Integer.{integer_value}
use Rattle.dart_ir.specs.declared.kind.Shape.{Shape}
use Rattle.dart_ir.specs.declared.kind.SiteKind.TheVariants as kind
use Rattle.dart_ir.specs.declared.value.Value.{Value}
use Rattle.dart_ir.specs.declared.value.Value.TheVariants as v
use Rattle.laws_translation.specs.LinedLeaf as leaf
use Rattle.laws_translation.specs.Lined as lined
use Rattle.dart_erase.specs.Erased as erased
use Rattle.translation.specs.Surroundings.{name_in}
use Rattle.translation.specs.Walk.{Asked, State, Walk, on, too_large, bad_word, not_constant, fresh}
use Rattle.translation.specs.Firsts.{first_of_expr}
use Rattle.translation.specs.Types.{PlacedName, word_of, parameter_name, asked_of_parameter}
use Rattle.translation.specs.Statements as st
use Rattle.translation.specs.Functions as f
use Rattle.laws_translation.proofs.Kept as k
use Rattle.laws_translation.proofs.Kept.{line, Goes, ends}
use Rattle.laws_translation.proofs.Ends.{on_ends, done, stop, with_site_goes, fresh_goes, declared_goes, with_literal_goes}
use Rattle.laws_translation.proofs.Firsts.{expr_line}
use Rattle.laws_translation.proofs.TypesSame.{word_same, asked_parameter, final_parameter_kind, name_parameter}
use Rattle.laws_translation.proofs.Stated.{literal_same}

literal_value_goes : (place : Place) (x : st.Literal) → Goes (λ v. v) (f.literal_value (line place) x) (f.literal_value place x)
literal_value_goes place st.no_literal s = stop _ _ (not_constant place) refl
literal_value_goes place st.a_null s = done _ _ v.Null _ s refl refl
literal_value_goes place (st.a_bool b) s = done _ _ (v.Bool b) _ s refl refl
literal_value_goes place (st.an_integer n) s = done _ _ (integer_value (pos n)) _ s refl refl
literal_value_goes place (st.a_negative n) s = done _ _ (integer_value (neg_ℤ (pos n))) _ s refl refl
literal_value_goes place (st.a_string units) s = on_ends _ _ _ _ _ _ (with_literal_goes units s) (λ n s. done _ _ (v.Literal n) _ s refl refl)

default_goes : (x : t.Value) → Goes (λ v. v) (f.default_value (lined.value (erased.value x))) (f.default_value x)
unfolding erased.value lined.value
default_goes t.omitted s = done _ _ v.Null _ s refl refl
default_goes (t.given operator given) s = (λ i. f.literal_value (expr_line given i) (literal_same given i) (k.state s)) ∙
    literal_value_goes (first_of_expr given) (st.literal_of given) s

formal_goes : {A : Type 0} (g : A → A) (b : Bool) (place : Place) (w' w : Walk A) → Goes g w' w → Goes g (f.formal_if b (line place) w') (f.formal_if b place w)
formal_goes g true place w' w h s = h s
formal_goes g false place w' w h s = stop _ _ (bad_word place) refl

bind_variable_goes : (b : Bool) (o : Option ThisDot) (w' w : PlacedName) (q' q : Asked) (g' g : Bool) → w' ≡ k.word w → q' ≡ k.asked q → g' ≡ g →
    Goes (λ n. n) (f.bind_variable b (maybe leaf.this_dot o) w' q' g') (f.bind_variable b o w q g)
bind_variable_goes b None w' w q' q g' g h l e s = declared_goes _ _ q' q g' g (ap (λ (x : PlacedName). x.text) h) l e s
bind_variable_goes b (Some this_dot) w' w q' q g' g h l e s = formal_goes (λ n. n) b this_dot.this fresh fresh fresh_goes s

counted_if_goes : {A : Type 0} (g : A → A) (b : Bool) (p' p : Place) (w' w : Walk A) → p' ≡ line p → Goes g w' w → Goes g (f.counted_if b p' w') (f.counted_if b p w)
counted_if_goes g false p' p w' w h n s = n s
counted_if_goes g true p' p w' w h n s = stop _ _ (too_large p) (ap too_large h)

bind_tested_goes : (w' w : PlacedName) (shape : Shape) (q' q : Asked) (x : ℕ) (default : Value) → w' ≡ k.word w → q' ≡ k.asked q →
    Goes (λ x. x) (f.bind_tested w' shape q' x default) (f.bind_tested w shape q x default)
bind_tested_goes w' w shape q' q x default h l s = on_ends _ _ _ _ _ _ (with_site_goes kind.Param w'.place w.place q' q (ap (λ (y : PlacedName). y.place) h) l s)
    (λ site s. done _ _ (record { var = x; name = name_in s.names.library w.text; shape = shape; default = default; site = site }) _ s
    (ap (λ (y : PlacedName). record { var = x; name = name_in s.names.library y.text; shape = shape; default = default; site = site }) h) refl)

pub this_same : (x : t.ParameterKind) → f.this_of (lined.parameter_kind (erased.parameter_kind x)) ≡ maybe leaf.this_dot (f.this_of x)
unfolding lined.parameter_kind erased.parameter_kind
this_same (t.plain_parameter kind this_dot name) = refl
this_same (t.function_parameter result this_dot name parameters) = refl

final_same : (x : t.ParameterKind) → f.final_parameter (lined.parameter_kind (erased.parameter_kind x)) ≡ f.final_parameter x
unfolding lined.parameter_kind erased.parameter_kind
final_same (t.plain_parameter kind this_dot name) = final_parameter_kind kind
final_same (t.function_parameter result this_dot name parameters) = refl

name_word : (x : t.ParameterKind) → word_of (parameter_name (lined.parameter_kind (erased.parameter_kind x))) ≡ k.word (word_of (parameter_name x))
name_word x = ap word_of (name_parameter x) ∙ word_same (parameter_name x)

bind_kind_goes : (b : Bool) (outer : State) (n : ℕ) (shape : Shape) (x : t.ParameterKind) (value : t.Value) →
    Goes (λ x. x) (f.bind b n shape (f.declared_by (k.state outer) (lined.parameter_kind (erased.parameter_kind x)) (lined.value (erased.value value))))
    (f.bind b n shape (f.declared_by outer x value))
bind_kind_goes b outer n shape x value s = on_ends _ _ _ _ _ _
    ((λ i. f.bind_variable b (this_same x i) (word_of (parameter_name (lined.parameter_kind (erased.parameter_kind x)))) (asked_of_parameter (k.state outer) (lined.parameter_kind (erased.parameter_kind x)))
    (f.final_parameter (lined.parameter_kind (erased.parameter_kind x))) (k.state s)) ∙
    bind_variable_goes b (f.this_of x) _ (word_of (parameter_name x)) _ (asked_of_parameter outer x) _ (f.final_parameter x) (name_word x) (asked_parameter (k.state outer) outer x) (final_same x) s)
    (λ y s. counted_if_goes (λ x. x) (nat_eq n PARAMETERS) _ (word_of (parameter_name x)).place
    (λ s. on (f.default_value (lined.value (erased.value value)) s) (f.bind_tested (word_of (parameter_name (lined.parameter_kind (erased.parameter_kind x)))) shape (asked_of_parameter (k.state outer) (lined.parameter_kind (erased.parameter_kind x))) y))
    (λ s. on (f.default_value value s) (f.bind_tested (word_of (parameter_name x)) shape (asked_of_parameter outer x) y))
    (ap (λ (w : PlacedName). w.place) (name_word x))
    (λ s. on_ends _ _ _ _ _ _ (default_goes value s) (λ default s. bind_tested_goes _ (word_of (parameter_name x)) shape _ (asked_of_parameter outer x) y default (name_word x) (asked_parameter (k.state outer) outer x) s)) s)

parameter_goes : (b : Bool) (outer : State) (n : ℕ) (shape : Shape) (x : t.Parameter) →
    Goes (λ x. x) (f.bind_parameter b (k.state outer) n shape (lined.parameter (erased.parameter x))) (f.bind_parameter b outer n shape x)
unfolding lined.parameter erased.parameter
parameter_goes b outer n shape (t.the_parameter comma _ kind value) s = bind_kind_goes b outer n shape kind value s

list_goes : (b : Bool) (outer : State) (n : ℕ) (shape : Shape) (x : t.ParameterList) →
    Goes (λ xs. xs) (f.bind_list b (k.state outer) n shape (lined.parameter_list (erased.parameter_list x))) (f.bind_list b outer n shape x)
unfolding lined.parameter_list erased.parameter_list
list_goes b outer n shape t.no_parameters s = done _ _ [] _ s refl refl
list_goes b outer n shape (t.parameter one more) s = on_ends _ _ _ _ _ _ (parameter_goes b outer n shape one s) (λ x s. on_ends _ _ _ _ _ _ (list_goes b outer (n + 1) shape more s)
    (λ xs s. done _ _ (x ∷ xs) _ s refl refl))

optional_same : (o : Option Brackets) → f.optional_shape (maybe leaf.brackets o) ≡ f.optional_shape o
optional_same None = refl
optional_same (Some x) = refl

pub parameters_goes : (b : Bool) (outer : State) (x : t.Parameters) →
    Goes (λ xs. xs) (f.bind_parameters b (k.state outer) (lined.parameters (erased.parameters x))) (f.bind_parameters b outer x)
unfolding lined.parameters erased.parameters
parameters_goes b outer (t.the_parameters opening required brackets optional closing) s = on_ends _ _ _ _ _ _ (list_goes b outer 0 _ required s) (λ xs s. on_ends _ _ _ _ _ _
    ((λ i. f.bind_list b (k.state outer) (length xs) (optional_same brackets i) (lined.parameter_list (erased.parameter_list optional)) (k.state s)) ∙ list_goes b outer (length xs) (f.optional_shape brackets) optional s)
    (λ ys s. done _ _ (xs ++ ys) _ s refl refl))
