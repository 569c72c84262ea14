-- What is found among uses is what is found among forms.
use Rattle.std.proofs.Common.{◌≡◌, ℕ, List, [], ◌∷◌, ◌++◌, map, refl, ap, ◌∙◌, sym, Option, Some, None, Bool, true, false, ◌||◌, ◌&&◌, nat_eq, if◌then◌else◌}
use Rattle.std.specs.List.{list_any, flat_map}
use Rattle.std.proofs.lemmas.List.Folds.{list_any-append}
use Rattle.core_program.specs.Captured as k
use Rattle.core_program.specs.Core as c
use Rattle.core_program.specs.Program as p
use Rattle.core_program.specs.declared.program.Parameter.{Parameter}
use Rattle.translation.specs.Functions as f
use Rattle.translation.specs.Surroundings.{Text, Core}
use Rattle.translation.specs.Walk as w
use Rattle.lower_leaf.specs.Around.{Around}
use Rattle.lower_function.specs.Made.{parameter}
use Rattle.lower_function.specs.Uses.{takes_of, taken_of, leaf_uses, unary_uses, handler_uses, handlers_uses, form_uses, core_uses, uses_in, declares, names, takes}
use Rattle.lower_function.specs.declared.uses.Use.{Use}

abbrev Functions : Type 0
Functions = List (w.Made (p.Function Text))

-- ---- what functions inside take along

declares_takes : (x : ℕ) (cs : List ℕ) → list_any (declares x) (takes_of cs) ≡ false
declares_takes x [] = refl
declares_takes x (n ∷ cs) = declares_takes x cs

names_takes : (x : ℕ) (cs : List ℕ) → list_any (names x) (takes_of cs) ≡ false
names_takes x [] = refl
names_takes x (n ∷ cs) = names_takes x cs

takes_takes : (x : ℕ) (cs : List ℕ) → list_any (takes x) (takes_of cs) ≡ list_any (nat_eq x) cs
takes_takes x [] = refl
takes_takes x (n ∷ cs) = ap (λ (b : Bool). nat_eq x n || b) (takes_takes x cs)

declares_if : (x : ℕ) (b : Bool) (cs : List ℕ) → list_any (declares x) (if b then takes_of cs else []) ≡ false
declares_if x true cs = declares_takes x cs
declares_if x false cs = refl

names_if : (x : ℕ) (b : Bool) (cs : List ℕ) → list_any (names x) (if b then takes_of cs else []) ≡ false
names_if x true cs = names_takes x cs
names_if x false cs = refl

takes_if : (x : ℕ) (b : Bool) (cs : List ℕ) → list_any (takes x) (if b then takes_of cs else []) ≡ (b && list_any (nat_eq x) cs)
takes_if x true cs = takes_takes x cs
takes_if x false cs = refl

declares_taken : (x n : ℕ) (fs : Functions) → list_any (declares x) (flat_map (taken_of n) fs) ≡ false
declares_taken x n [] = refl
declares_taken x n (one ∷ fs) = list_any-append (declares x) (taken_of n one) (flat_map (taken_of n) fs)
    ∙ ap (λ (b : Bool). b || list_any (declares x) (flat_map (taken_of n) fs)) (declares_if x (nat_eq one.number n) one.made.captures)
    ∙ declares_taken x n fs

names_taken : (x n : ℕ) (fs : Functions) → list_any (names x) (flat_map (taken_of n) fs) ≡ false
names_taken x n [] = refl
names_taken x n (one ∷ fs) = list_any-append (names x) (taken_of n one) (flat_map (taken_of n) fs)
    ∙ ap (λ (b : Bool). b || list_any (names x) (flat_map (taken_of n) fs)) (names_if x (nat_eq one.number n) one.made.captures)
    ∙ names_taken x n fs

takes_taken : (x n : ℕ) (fs : Functions) → list_any (takes x) (flat_map (taken_of n) fs) ≡ f.captures_of fs x n
takes_taken x n [] = refl
takes_taken x n (one ∷ fs) = list_any-append (takes x) (taken_of n one) (flat_map (taken_of n) fs)
    ∙ ap (λ (b : Bool). b || list_any (takes x) (flat_map (taken_of n) fs)) (takes_if x (nat_eq one.number n) one.made.captures)
    ∙ ap (λ (b : Bool). (nat_eq one.number n && list_any (nat_eq x) one.made.captures) || b) (takes_taken x n fs)

-- ---- leaves, operators and handlers

or_false : (b : Bool) → (b || false) ≡ b
or_false true = refl
or_false false = refl

declares_leaf : (x : ℕ) (fs : Functions) (of : c.Leaf Text) → list_any (declares x) (leaf_uses fs of) ≡ false
declares_leaf x fs (c.constant value) = refl
declares_leaf x fs c.this = refl
declares_leaf x fs (c.read y) = refl
declares_leaf x fs (c.static_read d) = refl
declares_leaf x fs (c.field n) = refl
declares_leaf x fs (c.closure n) = declares_taken x n fs
declares_leaf x fs (c.jump way target) = refl
declares_leaf x fs c.rethrow = refl
declares_leaf x fs (c.raise thrown name is_setter) = refl

names_leaf : (x : ℕ) (fs : Functions) (of : c.Leaf Text) → list_any (names x) (leaf_uses fs of) ≡ k.leaf_names x of
names_leaf x fs (c.constant value) = refl
names_leaf x fs c.this = refl
names_leaf x fs (c.read y) = or_false (nat_eq x y)
names_leaf x fs (c.static_read d) = refl
names_leaf x fs (c.field n) = refl
names_leaf x fs (c.closure n) = names_taken x n fs
names_leaf x fs (c.jump way target) = refl
names_leaf x fs c.rethrow = refl
names_leaf x fs (c.raise thrown name is_setter) = refl

takes_leaf : (x : ℕ) (fs : Functions) (of : c.Leaf Text) → list_any (takes x) (leaf_uses fs of) ≡ f.leaf_takes fs x of
takes_leaf x fs (c.constant value) = refl
takes_leaf x fs c.this = refl
takes_leaf x fs (c.read y) = refl
takes_leaf x fs (c.static_read d) = refl
takes_leaf x fs (c.field n) = refl
takes_leaf x fs (c.closure n) = takes_taken x n fs
takes_leaf x fs (c.jump way target) = refl
takes_leaf x fs c.rethrow = refl
takes_leaf x fs (c.raise thrown name is_setter) = refl

declares_unary : (x : ℕ) (of : c.Unary Text) → list_any (declares x) (unary_uses of) ≡ k.unary_declares x of
declares_unary x (c.var y) = or_false (nat_eq x y)
declares_unary x (c.write y) = refl
declares_unary x (c.static_write d) = refl
declares_unary x (c.field_write n) = refl
declares_unary x (c.get name) = refl
declares_unary x (c.check site) = refl
declares_unary x c.throw = refl

names_unary : (x : ℕ) (of : c.Unary Text) → list_any (names x) (unary_uses of) ≡ k.unary_names x of
names_unary x (c.var y) = refl
names_unary x (c.write y) = or_false (nat_eq x y)
names_unary x (c.static_write d) = refl
names_unary x (c.field_write n) = refl
names_unary x (c.get name) = refl
names_unary x (c.check site) = refl
names_unary x c.throw = refl

takes_unary : (x : ℕ) (of : c.Unary Text) → list_any (takes x) (unary_uses of) ≡ false
takes_unary x (c.var y) = refl
takes_unary x (c.write y) = refl
takes_unary x (c.static_write d) = refl
takes_unary x (c.field_write n) = refl
takes_unary x (c.get name) = refl
takes_unary x (c.check site) = refl
takes_unary x c.throw = refl

declares_option : (x : ℕ) (of : Option ℕ) → list_any (declares x) (handler_uses of) ≡ k.is_variable x of
declares_option x None = refl
declares_option x (Some y) = or_false (nat_eq x y)

names_option : (x : ℕ) (of : Option ℕ) → list_any (names x) (handler_uses of) ≡ false
names_option x None = refl
names_option x (Some y) = refl

takes_option : (x : ℕ) (of : Option ℕ) → list_any (takes x) (handler_uses of) ≡ false
takes_option x None = refl
takes_option x (Some y) = refl

declares_handlers : (x : ℕ) (hs : c.Handlers Text) → list_any (declares x) (handlers_uses hs) ≡ k.handlers_declare x hs
declares_handlers x c.no_handlers = refl
declares_handlers x (c.handler_more (c.handler test exception trace body) more) =
    list_any-append (declares x) (handler_uses exception ++ handler_uses trace) (handlers_uses more)
    ∙ ap (λ (b : Bool). b || list_any (declares x) (handlers_uses more)) (list_any-append (declares x) (handler_uses exception) (handler_uses trace))
    ∙ ap (λ (b : Bool). (b || list_any (declares x) (handler_uses trace)) || list_any (declares x) (handlers_uses more)) (declares_option x exception)
    ∙ ap (λ (b : Bool). (k.is_variable x exception || b) || list_any (declares x) (handlers_uses more)) (declares_option x trace)
    ∙ ap (λ (b : Bool). (k.is_variable x exception || k.is_variable x trace) || b) (declares_handlers x more)

names_handlers : (x : ℕ) (hs : c.Handlers Text) → list_any (names x) (handlers_uses hs) ≡ false
names_handlers x c.no_handlers = refl
names_handlers x (c.handler_more (c.handler test exception trace body) more) =
    list_any-append (names x) (handler_uses exception ++ handler_uses trace) (handlers_uses more)
    ∙ ap (λ (b : Bool). b || list_any (names x) (handlers_uses more)) (list_any-append (names x) (handler_uses exception) (handler_uses trace))
    ∙ ap (λ (b : Bool). (b || list_any (names x) (handler_uses trace)) || list_any (names x) (handlers_uses more)) (names_option x exception)
    ∙ ap (λ (b : Bool). b || list_any (names x) (handlers_uses more)) (names_option x trace)
    ∙ names_handlers x more

takes_handlers : (x : ℕ) (hs : c.Handlers Text) → list_any (takes x) (handlers_uses hs) ≡ false
takes_handlers x c.no_handlers = refl
takes_handlers x (c.handler_more (c.handler test exception trace body) more) =
    list_any-append (takes x) (handler_uses exception ++ handler_uses trace) (handlers_uses more)
    ∙ ap (λ (b : Bool). b || list_any (takes x) (handlers_uses more)) (list_any-append (takes x) (handler_uses exception) (handler_uses trace))
    ∙ ap (λ (b : Bool). (b || list_any (takes x) (handler_uses trace)) || list_any (takes x) (handlers_uses more)) (takes_option x exception)
    ∙ ap (λ (b : Bool). b || list_any (takes x) (handlers_uses more)) (takes_option x trace)
    ∙ takes_handlers x more

-- ---- forms by themselves

declares_form : (x : ℕ) (fs : Functions) (of : c.Form Text) → list_any (declares x) (form_uses fs of) ≡ k.declares x of
declares_form x fs (c.leaf one) = declares_leaf x fs one
declares_form x fs (c.type_literal t) = refl
declares_form x fs (c.unary one operand) = declares_unary x one
declares_form x fs (c.binary one first second) = refl
declares_form x fs (c.row one operands ns) = refl
declares_form x fs (c.let_in y value body) = or_false (nat_eq x y)
declares_form x fs (c.block all) = refl
declares_form x fs (c.choice condition first second) = refl
declares_form x fs (c.new n d types operands ns) = refl
declares_form x fs (c.list types items) = refl
declares_form x fs (c.is_type value t) = refl
declares_form x fs (c.as_type value t) = refl
declares_form x fs (c.loop target copies condition update body) = refl
declares_form x fs (c.return value) = refl
declares_form x fs (c.try body hs last) = declares_handlers x hs
declares_form x fs (c.switch target value all) = refl
declares_form x fs (c.labelled target body) = refl

names_form : (x : ℕ) (fs : Functions) (of : c.Form Text) → list_any (names x) (form_uses fs of) ≡ k.names x of
names_form x fs (c.leaf one) = names_leaf x fs one
names_form x fs (c.type_literal t) = refl
names_form x fs (c.unary one operand) = names_unary x one
names_form x fs (c.binary one first second) = refl
names_form x fs (c.row one operands ns) = refl
names_form x fs (c.let_in y value body) = refl
names_form x fs (c.block all) = refl
names_form x fs (c.choice condition first second) = refl
names_form x fs (c.new n d types operands ns) = refl
names_form x fs (c.list types items) = refl
names_form x fs (c.is_type value t) = refl
names_form x fs (c.as_type value t) = refl
names_form x fs (c.loop target copies condition update body) = refl
names_form x fs (c.return value) = refl
names_form x fs (c.try body hs last) = names_handlers x hs
names_form x fs (c.switch target value all) = refl
names_form x fs (c.labelled target body) = refl

takes_form : (x : ℕ) (fs : Functions) (of : c.Form Text) → list_any (takes x) (form_uses fs of) ≡ f.takes fs x of
takes_form x fs (c.leaf one) = takes_leaf x fs one
takes_form x fs (c.type_literal t) = refl
takes_form x fs (c.unary one operand) = takes_unary x one
takes_form x fs (c.binary one first second) = refl
takes_form x fs (c.row one operands ns) = refl
takes_form x fs (c.let_in y value body) = refl
takes_form x fs (c.block all) = refl
takes_form x fs (c.choice condition first second) = refl
takes_form x fs (c.new n d types operands ns) = refl
takes_form x fs (c.list types items) = refl
takes_form x fs (c.is_type value t) = refl
takes_form x fs (c.as_type value t) = refl
takes_form x fs (c.loop target copies condition update body) = refl
takes_form x fs (c.return value) = refl
takes_form x fs (c.try body hs last) = takes_handlers x hs
takes_form x fs (c.switch target value all) = refl
takes_form x fs (c.labelled target body) = refl

pub declares_in : (x : ℕ) (fs : Functions) (xs : List Core) → list_any (declares x) (uses_in fs xs) ≡ list_any (λ n. k.declares x (k.form_of n)) xs
declares_in x fs [] = refl
declares_in x fs (n ∷ xs) = list_any-append (declares x) (core_uses fs n) (uses_in fs xs)
    ∙ ap (λ (b : Bool). b || list_any (declares x) (uses_in fs xs)) (declares_form x fs (k.form_of n))
    ∙ ap (λ (b : Bool). k.declares x (k.form_of n) || b) (declares_in x fs xs)

pub names_in : (x : ℕ) (fs : Functions) (xs : List Core) → list_any (names x) (uses_in fs xs) ≡ list_any (λ n. k.names x (k.form_of n)) xs
names_in x fs [] = refl
names_in x fs (n ∷ xs) = list_any-append (names x) (core_uses fs n) (uses_in fs xs)
    ∙ ap (λ (b : Bool). b || list_any (names x) (uses_in fs xs)) (names_form x fs (k.form_of n))
    ∙ ap (λ (b : Bool). k.names x (k.form_of n) || b) (names_in x fs xs)

pub takes_in : (x : ℕ) (fs : Functions) (xs : List Core) → list_any (takes x) (uses_in fs xs) ≡ list_any (λ n. f.takes fs x (k.form_of n)) xs
takes_in x fs [] = refl
takes_in x fs (n ∷ xs) = list_any-append (takes x) (core_uses fs n) (uses_in fs xs)
    ∙ ap (λ (b : Bool). b || list_any (takes x) (uses_in fs xs)) (takes_form x fs (k.form_of n))
    ∙ ap (λ (b : Bool). f.takes fs x (k.form_of n) || b) (takes_in x fs xs)

pub parameters_in : (a : Around) (x : ℕ) (ps : List Parameter) → f.is_parameter x (map (parameter a) ps) ≡ list_any (λ q. nat_eq q.var x) ps
parameters_in a x [] = refl
parameters_in a x (one ∷ ps) = ap (λ (b : Bool). nat_eq one.var x || b) (parameters_in a x ps)
