-- How many fields a member declares, and how many names variables have.
use Rattle.std.proofs.Common.{◌≡◌, ℕ, ◌+◌, List, [], ◌∷◌, flat_map, length, refl, arith}
use Rattle.std.proofs.lemmas.List.{length-append}
use Rattle.dart_tree.specs.declared.statement.Variable.{Variable}
use Rattle.dart_tree.specs.declared.statement.Variables.{Variables, out-Variables}
use Rattle.dart_tree.specs.Lists.{more_variables_of}
use Rattle.dart_tree.specs.Unit as u
use Rattle.dart_tree.specs.View as view
use Rattle.dart_tree.proofs.Rows.{view_the_variables}
use Rattle.class_source.specs.Members as m

pub words_counted : (xs : List Variable) → length (m.more_words (more_variables_of xs)) ≡ length xs
words_counted [] = refl
words_counted (x ∷ xs) = let more = words_counted xs in omega arith

pub fields_counted : (x : Variables) → length (m.variable_words (view.variables x)) ≡ 1 + length (out-Variables x).more.items
fields_counted x =
    let more : length (m.more_words (more_variables_of (out-Variables x).more.items)) ≡ length (out-Variables x).more.items = words_counted (out-Variables x).more.items in
    rw (view_the_variables x) (omega (arith, more))

pub ruleset counted = (fields_counted)

pub count_step : (x : u.Member) (xs : List u.Member) (n k : ℕ) (whole : ℕ) → k ≡ n + length (m.fields_of_member x) →
    n + m.field_count (x ∷ xs) ≡ whole → k + m.field_count xs ≡ whole
count_step x xs n k whole counted done =
    let more = length-append (m.fields_of_member x) (flat_map m.fields_of_member xs) in omega arith
