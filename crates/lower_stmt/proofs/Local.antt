-- Local functions, from where their variables are in scope.
use Rattle.std.proofs.Common.{◌≡◌, ◌∙◌, ℕ, List, [], ◌∷◌, false, refl, sym, ap}
use Rattle.dart_base.specs.declared.place.Place.{Place}
use Rattle.dart_tree.specs.Places.{place_of}
use Rattle.dart_tree.specs.Tree as t
use Rattle.dart_tree.specs.View as view
use Rattle.dart_tree.specs.declared.identifier.Identifier.{Identifier}
use Rattle.dart_tree.specs.declared.statement.Function.{Function, out-Function}
use Rattle.dart_tree.proofs.Rows.{view_the_function}
use Rattle.core_program.specs.Core as c
use Rattle.translation.specs.Functions as f
use Rattle.translation.specs.Productions as low
use Rattle.translation.specs.References as r
use Rattle.translation.specs.Surroundings.{Text, Core}
use Rattle.translation.specs.Types as y
use Rattle.translation.specs.Walk as w
use Rattle.lower_stmt.specs.Parts.{local_made}

abbrev name_of : t.Function → Identifier
name_of (t.the_function external result name given inner) = name

abbrev local_of : Identifier → t.Function → w.Walk (List Core)
local_of name x st = f.local_function (place_of name) (y.text_of name) (local_made (r.own_name (y.word_of name) st) x) st

local_law : (x : t.Function) (st : w.State) → low.local_function x st ≡ local_of (name_of x) x st
local_law (t.the_function external result name given inner) st = refl

abbrev behind_number : Place → ℕ → w.Went ℕ → w.Went (List Core)
behind_number place x walk = w.on walk (λ n after. w.went (c.at place (c.unary (c.var x) (f.closure place n)) ∷ []) after)

pub local_from : (code : Function) (st st1 : w.State) (place : Place) (name own : Text) (asked : w.Asked) (x : ℕ) → place ≡ place_of (out-Function code).name →
    name ≡ y.text_of (out-Function code).name → own ≡ r.own_name (y.word_of (out-Function code).name) st → asked ≡ w.unasked →
    w.declared name asked false st ≡ w.went x st1 →
    low.local_function (view.function code) st ≡ behind_number place x (local_made own (view.function code) st1)
unfolding w.on
local_from code st st1 place name own asked x ep en eo ea e1 =
    let of = (out-Function code).name in
    let tree = view.function code in
    local_law tree st
    ∙ ap (λ (z : t.Function). local_of (name_of z) tree st) (view_the_function code)
    ∙ ap (λ (z : Place). f.local_function z (y.text_of of) (local_made (r.own_name (y.word_of of) st) tree) st) (sym ep)
    ∙ ap (λ (z : Text). f.local_function place z (local_made (r.own_name (y.word_of of) st) tree) st) (sym en)
    ∙ ap (λ (z : Text). f.local_function place name (local_made z tree) st) (sym eo)
    ∙ ap (λ (z : w.Asked). w.on (w.declared name z false st) (λ x after. behind_number place x (local_made own tree after))) (sym ea)
    ∙ ap (λ (q : w.Went ℕ). w.on q (λ x after. behind_number place x (local_made own tree after))) e1

pub local_ended : (code : Function) (st st1 st2 : w.State) (place : Place) (name own : Text) (asked : w.Asked) (x n : ℕ) (closure form : Core) (made : List Core) → place ≡ place_of (out-Function code).name →
    name ≡ y.text_of (out-Function code).name → own ≡ r.own_name (y.word_of (out-Function code).name) st → asked ≡ w.unasked →
    w.declared name asked false st ≡ w.went x st1 → local_made own (view.function code) st1 ≡ w.went n st2 →
    made ≡ form ∷ [] → form ≡ c.at place (c.unary (c.var x) closure) → closure ≡ f.closure place n → low.local_function (view.function code) st ≡ w.went made st2
unfolding w.on
local_ended code st st1 st2 place name own asked x n closure form made ep en eo ea e1 e2 is unary closed =
    local_from code st st1 place name own asked x ep en eo ea e1 ∙ ap (λ (q : w.Went ℕ). behind_number place x q) e2
    ∙ ap (λ (z : Core). w.went (c.at place (c.unary (c.var x) z) ∷ []) st2) (sym closed)
    ∙ ap (λ (z : Core). w.went (z ∷ []) st2) (sym unary)
    ∙ ap (λ (z : List Core). w.went z st2) (sym is)
