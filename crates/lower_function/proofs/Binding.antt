-- Parameters are bound one after another, with what they ask for outside of their scope.
use Rattle.std.proofs.Common.{◌≡◌, ℕ, ◌+◌, List, [], ◌∷◌, ◌++◌, length, refl, ap, ◌∙◌, Bool}
use Rattle.dart_ir.specs.declared.kind.Shape.{Shape}
use Rattle.dart_ir.specs.declared.kind.Shape.TheVariants as shape
use Rattle.dart_tree.specs.Tree as t
use Rattle.core_program.specs.Program as p
use Rattle.translation.specs.Functions as f
use Rattle.translation.specs.Surroundings.{Text}
use Rattle.translation.specs.Walk as w
use Rattle.lower_function.specs.Formals.{AllFormals, bind_all, bind_formals, declared_list, formals_of}

-- two walks that go on alike
pub on_same : {A B : Type 0} (r : w.Went A) (k k' : A → w.State → w.Went B) →
    ((a : A) (st : w.State) → k a st ≡ k' a st) → w.on r k ≡ w.on r k'
unfolding w.on
on_same (w.went a st) k k' same = same a st
on_same (w.refused why) k k' same = refl

pub bound_listed : (allowed : Bool) (outer : w.State) (n : ℕ) (of : Shape) (all : t.ParameterList) (st : w.State) →
    bind_all allowed n of (declared_list outer all) st ≡ f.bind_list allowed outer n of all st
bound_listed allowed outer n of t.no_parameters st = refl
bound_listed allowed outer n of (t.parameter (t.the_parameter comma metadata kind value) more) st =
    on_same (f.bind allowed n of (f.declared_by outer kind value) st)
    (λ bound st. w.on (bind_all allowed (n + 1) of (declared_list outer more) st) (λ rest st. w.went (bound ∷ rest) st))
    (λ bound st. w.on (f.bind_list allowed outer (n + 1) of more st) (λ rest st. w.went (bound ∷ rest) st))
    (λ bound st. ap (λ (r : w.Went (List (p.Parameter Text))). w.on r (λ rest st. w.went (bound ∷ rest) st)) (bound_listed allowed outer (n + 1) of more st))

pub all_bound : (allowed : Bool) (outer : w.State) (given : t.Parameters) (st : w.State) →
    bind_formals allowed (formals_of outer given) st ≡ f.bind_parameters allowed outer given st
all_bound allowed outer (t.the_parameters opening required brackets optional closing) st =
    ap (λ (r : w.Went (List (p.Parameter Text))). w.on r (λ first st. w.on (bind_all allowed (length first) (f.optional_shape brackets) (declared_list outer optional) st)
    (λ rest st. w.went (first ++ rest) st))) (bound_listed allowed outer 0 shape.Required required st)
    ∙ on_same (f.bind_list allowed outer 0 shape.Required required st)
    (λ first st. w.on (bind_all allowed (length first) (f.optional_shape brackets) (declared_list outer optional) st) (λ rest st. w.went (first ++ rest) st))
    (λ first st. w.on (f.bind_list allowed outer (length first) (f.optional_shape brackets) optional st) (λ rest st. w.went (first ++ rest) st))
    (λ first st. ap (λ (r : w.Went (List (p.Parameter Text))). w.on r (λ rest st. w.went (first ++ rest) st))
    (bound_listed allowed outer (length first) (f.optional_shape brackets) optional st))

pub ruleset binding = (all_bound)
