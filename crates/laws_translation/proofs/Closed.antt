-- Functions share the same variables once annotations and columns are forgotten.
use Rattle.std.proofs.Common.{◌≡◌, refl, sym, ap, ◌∙◌, ℕ, List, [], ◌∷◌, ◌++◌, map, length, take, filter, nat_eq, Bool, false, ◌&&◌, ◌||◌, not}
use Rattle.std.proofs.lemmas.List.{map-append, length-map, take-map}
use Rattle.std.specs.List.{list_any, range_with_len}
use Rattle.dart_base.specs.declared.place.Place.{Place}
use Rattle.core_program.specs.Core as c
use Rattle.core_program.specs.Program as p
use Rattle.core_program.specs.Alike as alike
use Rattle.core_program.specs.Captured as captured
use Rattle.core_program.specs.Stripped as stripped
use Rattle.translation.specs.Surroundings.{Text, Ty, Core}
use Rattle.translation.specs.Walk.{Asked, unasked, Made, State, Walk}
use Rattle.translation.specs.Functions as f
use Rattle.laws_translation.proofs.Kept as k
use Rattle.laws_translation.proofs.Kept.{line, Goes, ends}
use Rattle.laws_translation.proofs.Ends.{on_ends, done, declared_goes}

joined : (xs' xs ys' ys : List Core) → xs' ≡ map alike.core xs → ys' ≡ map alike.core ys → xs' ++ ys' ≡ map alike.core (xs ++ ys)
joined xs' xs ys' ys h l = (λ i. h i ++ l i) ∙ sym (map-append alike.core xs ys)

mutual
  nodes_core : (x : Core) → captured.nodes (alike.core x) ≡ map alike.core (captured.nodes x)
  nodes_core (c.at place x) = ap (λ (z : List Core). c.at (line place) (alike.form x) ∷ z) (nodes_form x)

  nodes_form : (x : c.Form Text) → captured.form_nodes (alike.form x) ≡ map alike.core (captured.form_nodes x)
  nodes_form (c.leaf x) = refl
  nodes_form (c.type_literal of) = refl
  nodes_form (c.unary u form) = nodes_core form
  nodes_form (c.binary b one other) = joined _ _ _ _ (nodes_core one) (nodes_core other)
  nodes_form (c.row job forms names) = nodes_cores forms
  nodes_form (c.let_in x form body) = joined _ _ _ _ (nodes_core form) (nodes_core body)
  nodes_form (c.block forms) = nodes_cores forms
  nodes_form (c.choice test one other) = joined _ _ _ _ (joined _ _ _ _ (nodes_core test) (nodes_part one)) (nodes_part other)
  nodes_form (c.new n d types forms names) = nodes_cores forms
  nodes_form (c.list types forms) = nodes_cores forms
  nodes_form (c.is_type form of) = nodes_core form
  nodes_form (c.as_type form of) = nodes_core form
  nodes_form (c.loop n copies test update body) = joined _ _ _ _ (joined _ _ _ _ (nodes_part test) (nodes_part update)) (nodes_part body)
  nodes_form (c.return x) = nodes_part x
  nodes_form (c.try body all last) = joined _ _ _ _ (joined _ _ _ _ (nodes_core body) (nodes_handlers all)) (nodes_part last)
  nodes_form (c.switch n form all) = joined _ _ _ _ (nodes_core form) (nodes_cases all)
  nodes_form (c.labelled n form) = nodes_core form

  nodes_cores : (x : c.Cores Text) → captured.cores_nodes (alike.cores x) ≡ map alike.core (captured.cores_nodes x)
  nodes_cores c.no_cores = refl
  nodes_cores (c.core_more x xs) = joined _ _ _ _ (nodes_core x) (nodes_cores xs)

  nodes_part : (x : c.Part Text) → captured.part_nodes (alike.part x) ≡ map alike.core (captured.part_nodes x)
  nodes_part c.missing = refl
  nodes_part (c.given x) = nodes_core x

  nodes_handler : (x : c.Handler Text) → captured.handler_nodes (alike.handler x) ≡ map alike.core (captured.handler_nodes x)
  nodes_handler (c.handler x exception trace body) = joined _ _ _ _ (nodes_test x) (nodes_core body)

  nodes_test : (x : c.Test Text) → captured.test_nodes (alike.test x) ≡ map alike.core (captured.test_nodes x)
  nodes_test c.everything = refl
  nodes_test (c.on of) = refl
  nodes_test (c.malformed x) = nodes_core x

  nodes_handlers : (x : c.Handlers Text) → captured.handlers_nodes (alike.all_handlers x) ≡ map alike.core (captured.handlers_nodes x)
  nodes_handlers c.no_handlers = refl
  nodes_handlers (c.handler_more x xs) = joined _ _ _ _ (nodes_handler x) (nodes_handlers xs)

  nodes_case : (x : c.Case Text) → captured.case_nodes (alike.case x) ≡ map alike.core (captured.case_nodes x)
  nodes_case (c.case value body) = nodes_core body

  nodes_cases : (x : c.Cases Text) → captured.cases_nodes (alike.all_cases x) ≡ map alike.core (captured.cases_nodes x)
  nodes_cases c.no_cases = refl
  nodes_cases (c.case_more x xs) = joined _ _ _ _ (nodes_case x) (nodes_cases xs)

-- a test of forms that columns don't change
abbrev Same : (c.Form Text → Bool) → Type 0
Same test = (x : c.Form Text) → test (alike.form x) ≡ test x

node_same : (test : c.Form Text → Bool) → Same test → (x : Core) → test (captured.form_of (alike.core x)) ≡ test (captured.form_of x)
node_same test h (c.at place x) = h x

any_same : (test : c.Form Text → Bool) → Same test → (xs : List Core) →
    list_any (λ x. test (captured.form_of x)) (map alike.core xs) ≡ list_any (λ x. test (captured.form_of x)) xs
any_same test h [] = refl
any_same test h (x ∷ xs) = λ i. node_same test h x i || any_same test h xs i

form_same : (test : c.Form Text → Bool) → Same test → (x : c.Part Text) → f.any_form test (k.part x) ≡ f.any_form test x
unfolding k.part
form_same test h x = ap (list_any (λ x. test (captured.form_of x))) (nodes_part x) ∙ any_same test h (captured.part_nodes x)

handler_same : (x : ℕ) (y : c.Handler Text) → captured.handler_declares x (alike.handler y) ≡ captured.handler_declares x y
handler_same x (c.handler test exception trace body) = refl

handlers_same : (x : ℕ) (all : c.Handlers Text) → captured.handlers_declare x (alike.all_handlers all) ≡ captured.handlers_declare x all
handlers_same x c.no_handlers = refl
handlers_same x (c.handler_more one more) = λ i. handler_same x one i || handlers_same x more i

declares_same : (x : ℕ) → Same (captured.declares x)
declares_same x (c.leaf y) = refl
declares_same x (c.type_literal of) = refl
declares_same x (c.unary u form) = refl
declares_same x (c.binary b one other) = refl
declares_same x (c.row job forms names) = refl
declares_same x (c.let_in y form body) = refl
declares_same x (c.block forms) = refl
declares_same x (c.choice test one other) = refl
declares_same x (c.new n d types forms names) = refl
declares_same x (c.list types forms) = refl
declares_same x (c.is_type form of) = refl
declares_same x (c.as_type form of) = refl
declares_same x (c.loop n copies test update body) = refl
declares_same x (c.return y) = refl
declares_same x (c.try body all last) = handlers_same x all
declares_same x (c.switch n form all) = refl
declares_same x (c.labelled n form) = refl

names_same : (x : ℕ) → Same (captured.names x)
names_same x (c.leaf y) = refl
names_same x (c.type_literal of) = refl
names_same x (c.unary u form) = refl
names_same x (c.binary b one other) = refl
names_same x (c.row job forms names) = refl
names_same x (c.let_in y form body) = refl
names_same x (c.block forms) = refl
names_same x (c.choice test one other) = refl
names_same x (c.new n d types forms names) = refl
names_same x (c.list types forms) = refl
names_same x (c.is_type form of) = refl
names_same x (c.as_type form of) = refl
names_same x (c.loop n copies test update body) = refl
names_same x (c.return y) = refl
names_same x (c.try body all last) = refl
names_same x (c.switch n form all) = refl
names_same x (c.labelled n form) = refl

captures_same : (fs : List (Made (p.Function Text))) (x n : ℕ) → f.captures_of (map k.function fs) x n ≡ f.captures_of fs x n
unfolding k.function_made
captures_same [] x n = refl
captures_same (g ∷ gs) x n = ap (λ (b : Bool). (nat_eq g.number n && list_any (nat_eq x) g.made.captures) || b) (captures_same gs x n)

leaf_takes_same : (fs : List (Made (p.Function Text))) (x : ℕ) (y : c.Leaf Text) → f.leaf_takes (map k.function fs) x y ≡ f.leaf_takes fs x y
leaf_takes_same fs x (c.closure n) = captures_same fs x n
leaf_takes_same fs x (c.constant v) = refl
leaf_takes_same fs x c.this = refl
leaf_takes_same fs x (c.read n) = refl
leaf_takes_same fs x (c.static_read n) = refl
leaf_takes_same fs x (c.field n) = refl
leaf_takes_same fs x (c.jump w n) = refl
leaf_takes_same fs x c.rethrow = refl
leaf_takes_same fs x (c.raise e n b) = refl

takes_alike : (fs : List (Made (p.Function Text))) (x : ℕ) (y : c.Form Text) → f.takes (map k.function fs) x (alike.form y) ≡ f.takes fs x y
takes_alike fs x (c.leaf y) = leaf_takes_same fs x y
takes_alike fs x (c.type_literal of) = refl
takes_alike fs x (c.unary u form) = refl
takes_alike fs x (c.binary b one other) = refl
takes_alike fs x (c.row job forms names) = refl
takes_alike fs x (c.let_in y form body) = refl
takes_alike fs x (c.block forms) = refl
takes_alike fs x (c.choice test one other) = refl
takes_alike fs x (c.new n d types forms names) = refl
takes_alike fs x (c.list types forms) = refl
takes_alike fs x (c.is_type form of) = refl
takes_alike fs x (c.as_type form of) = refl
takes_alike fs x (c.loop n copies test update body) = refl
takes_alike fs x (c.return y) = refl
takes_alike fs x (c.try body all last) = refl
takes_alike fs x (c.switch n form all) = refl
takes_alike fs x (c.labelled n form) = refl

takes_node : (fs : List (Made (p.Function Text))) (x : ℕ) (y : Core) → f.takes (map k.function fs) x (captured.form_of (alike.core y)) ≡ f.takes fs x (captured.form_of y)
takes_node fs x (c.at place y) = takes_alike fs x y

takes_any : (fs : List (Made (p.Function Text))) (x : ℕ) (ys : List Core) →
    list_any (λ y. f.takes (map k.function fs) x (captured.form_of y)) (map alike.core ys) ≡ list_any (λ y. f.takes fs x (captured.form_of y)) ys
takes_any fs x [] = refl
takes_any fs x (y ∷ ys) = λ i. takes_node fs x y i || takes_any fs x ys i

pub takes_same : (fs : List (Made (p.Function Text))) (x : ℕ) (body : c.Part Text) → f.any_form (f.takes (map k.function fs) x) (k.part body) ≡ f.any_form (f.takes fs x) body
unfolding k.part
takes_same fs x body = ap (list_any (λ y. f.takes (map k.function fs) x (captured.form_of y))) (nodes_part body) ∙ takes_any fs x (captured.part_nodes body)

declared_same : (x : ℕ) (ps : List (p.Parameter Text)) (body : c.Part Text) → f.function_declares x ps (k.part body) ≡ f.function_declares x ps body
declared_same x ps body = ap (λ (b : Bool). f.is_parameter x ps || b) (form_same (captured.declares x) (declares_same x) body)

pub cells_same : (fs : List (Made (p.Function Text))) (n : ℕ) (ps : List (p.Parameter Text)) (body : c.Part Text) → f.cells (map k.function fs) n ps (k.part body) ≡ f.cells fs n ps body
cells_same fs n ps body = λ i. filter (λ x. declared_same x ps body i && takes_same fs x body i) (range_with_len 0 n)

pub captured_same : (fs : List (Made (p.Function Text))) (n : ℕ) (ps : List (p.Parameter Text)) (body : c.Part Text) → f.captures (map k.function fs) n ps (k.part body) ≡ f.captures fs n ps body
captured_same fs n ps body = λ i. filter (λ x. not (declared_same x ps body i) && (form_same (captured.names x) (names_same x) body i || takes_same fs x body i)) (range_with_len 0 n)

-- ---- a function

abbrev pub head : f.Head → f.Head
head x = record x { signature = stripped.loose x.signature; inside = k.inside x.inside }

pub made_kept : (h : f.Head) (s : State) (ps : List (p.Parameter Text)) (body : c.Part Text) →
    f.function_made (head h) (k.state s) ps (k.part body) ≡ k.function_made (f.function_made h s ps body)
unfolding k.function_made k.part
made_kept h s ps body = λ i. record (k.function_made (f.function_made h s ps body)) {
  cells = cells_same s.functions s.variables ps body i;
  captures = captured_same s.functions s.variables ps body i;
}

closed_kept : (before : State) (h : f.Head) (ps : List (p.Parameter Text)) (body : c.Part Text) (s : State) →
    f.closed (k.state before) (head h) ps (k.part body) (k.state s) ≡ k.state (f.closed before h ps body s)
closed_kept before h ps body s = λ i. record (k.state (f.closed before h ps body s)) {
  scopes = ((λ j. take (length-map before.scopes k.entry j) (map k.entry s.scopes)) ∙ take-map k.entry (length before.scopes) s.scopes) i;
  functions = ((λ j. map k.function s.functions ++ record { number = h.number; made = made_kept h s ps body j } ∷ []) ∙
      sym (map-append k.function s.functions (record { number = h.number; made = f.function_made h s ps body } ∷ []))) i;
}

function_ends : (h : f.Head) (q' q : Walk (List (p.Parameter Text))) (w' w : Walk (c.Part Text)) → Goes (λ ps. ps) q' q → Goes k.part w' w →
    Goes (λ n. n) (f.function (head h) q' w') (f.function h q w)
unfolding f.function
function_ends h q' q w' w e d s = on_ends _ _ _ _ _ _ (e (record s { inside = h.inside; targets = [] })) (λ ps after. on_ends _ _ _ _ _ _ (d after)
    (λ body after. done _ _ h.number _ (f.closed s h ps body after) refl (closed_kept s h ps body after)))

pub function_goes : (h' h : f.Head) (q' q : Walk (List (p.Parameter Text))) (w' w : Walk (c.Part Text)) → h' ≡ head h → Goes (λ ps. ps) q' q → Goes k.part w' w →
    Goes (λ n. n) (f.function h' q' w') (f.function h q w)
function_goes h' h q' q w' w l e d s = (λ i. f.function (l i) q' w' (k.state s)) ∙ function_ends h q' q w' w e d s

pub numbered_goes : Goes (λ n. n) f.numbered f.numbered
unfolding ends
numbered_goes s = refl

pub inner_goes : (n' n : Text) (t' t : Ty) (a' a : Asked) (q' q : Walk (List (p.Parameter Text))) (w' w : Walk (c.Part Text)) → n' ≡ n → t' ≡ stripped.loose t → a' ≡ k.asked a → Goes (λ ps. ps) q' q → Goes k.part w' w →
    Goes (λ n. n) (f.inner_function n' t' a' q' w') (f.inner_function n t a q w)
inner_goes n' n t' t a' a q' q w' w h l m e d s = on_ends _ _ _ _ _ _ (numbered_goes s)
    (λ x after. function_goes _ (f.inner_head x n t a after) q' q w' w (λ i. f.inner_head x (h i) (l i) (m i) (k.state after)) e d after)

local_kept : (p' p : Place) (x n : ℕ) → p' ≡ line p → c.at p' (c.unary (c.var x) (f.closure p' n)) ≡ k.core (c.at p (c.unary (c.var x) (f.closure p n)))
unfolding k.core
local_kept p' p x n h = ap (λ (z : Place). c.at z (c.unary (c.var x) (f.closure z n))) h

pub local_goes : (p' p : Place) (n' n : Text) (w' w : Walk ℕ) → p' ≡ line p → n' ≡ n → Goes (λ n. n) w' w →
    Goes (map k.core) (f.local_function p' n' w') (f.local_function p n w)
local_goes p' p n' n w' w h l e s = on_ends _ _ _ _ _ _ (declared_goes n' n _ unasked false false l refl refl s) (λ x after. on_ends _ _ _ _ _ _ (e after)
    (λ m after. done _ _ (c.at p (c.unary (c.var x) (f.closure p m)) ∷ []) _ after (ap (λ (z : Core). z ∷ []) (local_kept p' p x m h)) refl))
