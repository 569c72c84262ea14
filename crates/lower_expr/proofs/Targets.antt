-- Postfix expressions behind their primaries, and assignments behind their targets.
use Rattle.std.proofs.Common.{◌≡◌, ◌∙◌, Option, sym, ap}
use Rattle.dart_base.specs.declared.place.Place.{Place}
use Rattle.dart_tree.specs.declared.operator.Operator.{Operator}
use Rattle.dart_tree.specs.Tree as tree
use Rattle.translation.specs.Surroundings.{Text}
use Rattle.translation.specs.Expressions as e
use Rattle.translation.specs.Firsts.{first_of_expr, first_of_operand, first_of_primary}
use Rattle.translation.specs.Productions as low
use Rattle.translation.specs.References as r
use Rattle.translation.specs.Walk as w

pub postfix_next : (x : tree.Operand) (base : tree.Primary) (more : tree.Selectors) (operator : Option Operator) (place : Place) (target : r.Reference) (st st2 : w.State) →
    x ≡ tree.postfix base more operator → place ≡ first_of_primary base → low.primary base st ≡ w.went target st2 →
    low.operand x st ≡ w.on (low.selectors place more target st2) (e.postfixed operator place)
unfolding w.on
postfix_next x base more operator place target st st2 is at made =
    ap (λ (y : tree.Operand). low.operand y st) is
    ∙ ap (λ (walk : w.Went r.Reference). w.on walk (λ target st. w.on (low.selectors (first_of_primary base) more target st) (e.postfixed operator (first_of_primary base)))) made
    ∙ ap (λ (p : Place). w.on (low.selectors p more target st2) (e.postfixed operator p)) (sym at)

pub postfix_made : (x : tree.Operand) (base : tree.Primary) (more : tree.Selectors) (operator : Option Operator) (place : Place) (target last : r.Reference) (st st2 st3 : w.State) →
    x ≡ tree.postfix base more operator → place ≡ first_of_primary base → low.primary base st ≡ w.went target st2 → low.selectors place more target st2 ≡ w.went last st3 →
    low.operand x st ≡ e.postfixed operator place last st3
unfolding w.on
postfix_made x base more operator place target last st st2 st3 is at made selected =
    postfix_next x base more operator place target st st2 is at made
    ∙ ap (λ (walk : w.Went r.Reference). w.on walk (e.postfixed operator place)) selected

pub assign_made : (x : tree.Expr) (target : tree.Operand) (operator : Operator) (value : tree.Expr) (name : Option Text) (place : Place) (of : r.Reference) (st st2 : w.State) →
    x ≡ tree.assign target operator value → low.reference target st ≡ w.went of st2 → name ≡ e.compound_operator operator → place ≡ first_of_operand target →
    low.expr x st ≡ e.assigning name place (first_of_expr value) (low.expr value) of st2
unfolding w.on
assign_made x target operator value name place of st st2 is made named at =
    ap (λ (y : tree.Expr). low.expr y st) is
    ∙ ap (λ (walk : w.Went r.Reference). w.on walk (e.assigning (e.compound_operator operator) (first_of_operand target) (first_of_expr value) (low.expr value))) made
    ∙ ap (λ (n : Option Text). e.assigning n (first_of_operand target) (first_of_expr value) (low.expr value) of st2) (sym named)
    ∙ ap (λ (p : Place). e.assigning name p (first_of_expr value) (low.expr value) of st2) (sym at)
