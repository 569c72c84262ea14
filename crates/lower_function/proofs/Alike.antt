-- What is picked by uses is what is picked by forms.
use Rattle.std.proofs.Common.{◌≡◌, ℕ, List, [], ◌∷◌, ◌++◌, map, sym, ap, ◌∙◌, Bool, ◌||◌, ◌&&◌, not, nat_eq}
use Rattle.std.specs.List.{list_any, filter, range_with_len}
use Rattle.core_program.specs.Captured.{part_nodes}
use Rattle.core_program.specs.Captured as k
use Rattle.core_program.specs.Core as c
use Rattle.core_program.specs.Program as p
use Rattle.core_program.specs.declared.program.Parameter.{Parameter}
use Rattle.translation.specs.Functions as f
use Rattle.translation.specs.Surroundings.{Text}
use Rattle.translation.specs.Walk as w
use Rattle.lower_leaf.specs.Around.{Around}
use Rattle.lower_function.specs.Made.{parameter}
use Rattle.lower_function.specs.Uses.{uses_in, declares, names, takes, is_declared}
use Rattle.lower_function.specs.declared.uses.Use.{Use}
use Rattle.lower_function.proofs.Sharing.{declares_in, names_in, takes_in, parameters_in}

abbrev Functions : Type 0
Functions = List (w.Made (p.Function Text))

-- from no uses on
pub begun : (before uses all : List Use) → uses ≡ before ++ all → before ≡ [] → uses ≡ all
begun before uses all is none = is ∙ ap (λ (l : List Use). l ++ all) none

filter_same : (one other : ℕ → Bool) (xs : List ℕ) → ((x : ℕ) → one x ≡ other x) → filter one xs ≡ filter other xs
filter_same one other xs same = let equal : one ≡ other = λ i. λ x. same x i in ap (λ (test : ℕ → Bool). filter test xs) equal

declared_same : (a : Around) (fs : Functions) (x : ℕ) (ps : List Parameter) (body : c.Part Text) (uses : List Use) → uses ≡ uses_in fs (part_nodes body) →
    is_declared x ps uses ≡ f.function_declares x (map (parameter a) ps) body
declared_same a fs x ps body uses same =
    ap (λ (u : List Use). list_any (λ (q : Parameter). nat_eq q.var x) ps || list_any (declares x) u) same
    ∙ ap (λ (b : Bool). list_any (λ (q : Parameter). nat_eq q.var x) ps || b) (declares_in x fs (part_nodes body))
    ∙ ap (λ (b : Bool). b || f.any_form (k.declares x) body) (sym (parameters_in a x ps))

names_same : (fs : Functions) (x : ℕ) (body : c.Part Text) (uses : List Use) → uses ≡ uses_in fs (part_nodes body) → list_any (names x) uses ≡ f.any_form (k.names x) body
names_same fs x body uses same = ap (λ (u : List Use). list_any (names x) u) same ∙ names_in x fs (part_nodes body)

takes_same : (fs : Functions) (x : ℕ) (body : c.Part Text) (uses : List Use) → uses ≡ uses_in fs (part_nodes body) → list_any (takes x) uses ≡ f.any_form (f.takes fs x) body
takes_same fs x body uses same = ap (λ (u : List Use). list_any (takes x) u) same ∙ takes_in x fs (part_nodes body)

pub cells_same : (a : Around) (fs : Functions) (count : ℕ) (ps : List Parameter) (body : c.Part Text) (uses : List Use) → uses ≡ uses_in fs (part_nodes body) →
    filter (λ x. is_declared x ps uses && list_any (takes x) uses) (range_with_len 0 count) ≡ f.cells fs count (map (parameter a) ps) body
cells_same a fs count ps body uses same =
    filter_same (λ (x : ℕ). is_declared x ps uses && list_any (takes x) uses)
    (λ (x : ℕ). f.function_declares x (map (parameter a) ps) body && f.any_form (f.takes fs x) body) (range_with_len 0 count)
    (λ (x : ℕ). ap (λ (b : Bool). b && list_any (takes x) uses) (declared_same a fs x ps body uses same)
    ∙ ap (λ (b : Bool). f.function_declares x (map (parameter a) ps) body && b) (takes_same fs x body uses same))

pub captures_same : (a : Around) (fs : Functions) (count : ℕ) (ps : List Parameter) (body : c.Part Text) (uses : List Use) → uses ≡ uses_in fs (part_nodes body) →
    filter (λ x. not (is_declared x ps uses) && (list_any (names x) uses || list_any (takes x) uses)) (range_with_len 0 count)
    ≡ f.captures fs count (map (parameter a) ps) body
captures_same a fs count ps body uses same =
    filter_same (λ (x : ℕ). not (is_declared x ps uses) && (list_any (names x) uses || list_any (takes x) uses))
    (λ (x : ℕ). not (f.function_declares x (map (parameter a) ps) body) && (f.any_form (k.names x) body || f.any_form (f.takes fs x) body)) (range_with_len 0 count)
    (λ (x : ℕ). ap (λ (b : Bool). not b && (list_any (names x) uses || list_any (takes x) uses)) (declared_same a fs x ps body uses same)
    ∙ ap (λ (b : Bool). not (f.function_declares x (map (parameter a) ps) body) && (b || list_any (takes x) uses)) (names_same fs x body uses same)
    ∙ ap (λ (b : Bool). not (f.function_declares x (map (parameter a) ps) body) && (f.any_form (k.names x) body || b)) (takes_same fs x body uses same))

pub taken_same : (fs : Functions) (count : ℕ) (body : c.Part Text) (uses : List Use) → uses ≡ uses_in fs (part_nodes body) →
    filter (λ x. list_any (takes x) uses) (range_with_len 0 count) ≡ filter (λ x. f.any_form (f.takes fs x) body) (range_with_len 0 count)
taken_same fs count body uses same =
    filter_same (λ (x : ℕ). list_any (takes x) uses) (λ (x : ℕ). f.any_form (f.takes fs x) body) (range_with_len 0 count) (λ (x : ℕ). takes_same fs x body uses same)
