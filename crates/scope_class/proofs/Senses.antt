-- What a name means with one declaration more.
use Rattle.std.proofs.Common.{◌≡◌, ◌∙◌, ℕ, ◌+◌, ◌<◌, arith, Bool, true, false, cond, ◌&&◌, List, [], ◌∷◌, ◌++◌, length, take, get_or, Option, Some, None, refl, sym, ap, ap₂}
use Rattle.std.specs.Prelude.{filter, find, ◌==◌}
use Rattle.std.specs.Option.{option_map, option_or}
use Rattle.std.specs.List.{enumerate_from}
use Rattle.std.proofs.lemmas.List.{take_more}
use Rattle.std.proofs.Common.{length-take, append-nil}
use Rattle.std.proofs.lemmas.List.Elements.{filter-append}
use Rattle.std.proofs.lemmas.List.Folds.{find-append}
use Rattle.scope_declared.specs.declared.declaration.DeclaredKind.{DeclaredKind}
use Rattle.scope_declared.specs.declared.declaration.DeclaredKind.TheVariants as k
use Rattle.scope_declared.specs.declared.declaration.Owner.{Owner}
use Rattle.scope_declared.specs.declared.declaration.Owner.TheVariants as owner
use Rattle.scope_declared.specs.declared.declaration.Role.{Role}
use Rattle.scope_declared.specs.declared.declaration.Role.TheVariants as role
use Rattle.scope_declared.specs.declared.declaration.Declared.{Declared}
use Rattle.translation.specs.Surroundings.{Meaning}
use Rattle.translation.specs.Surroundings as m
use Rattle.scope_class.specs.Members.{is_static_getter, is_static_setter, number_of_kind, accessors, static_kind_sense, owned_sense, kind_sense, sense, naming}
use Rattle.scope_class.specs.Building.{or_number, joined_to, first_sense, joined}

-- one item more that has a number
pub enumerated-push : {X : Type 0} (first : ℕ) (xs : List X) (x : X) → enumerate_from first (xs ++ x ∷ []) ≡ enumerate_from first xs ++ (first + length xs, x) ∷ []
enumerated-push {X} first [] x = let at : first ≡ first + 0 = omega arith in ap (λ n. let p : ℕ × X = (n, x) in p ∷ []) at
enumerated-push {X} first (y ∷ ys) x =
    let at : first + 1 + length ys ≡ first + length (y ∷ ys) = omega arith in
    ap (λ (l : List (ℕ × X)). (first, y) ∷ l) (enumerated-push (first + 1) ys x ∙ ap (λ n. enumerate_from (first + 1) ys ++ (n, x) ∷ []) at)

-- the first of a kind, with one declaration more
numbers-push : (is : DeclaredKind → Bool) (all : List (ℕ × Declared)) (p : ℕ × Declared) → number_of_kind is (all ++ p ∷ []) ≡ or_number (number_of_kind is all) (is p.1.kind) p.0
numbers-push is all p = ap (option_map (λ p. p.0)) (find-append (λ p. is p.1.kind) all (p ∷ [])) ∙ by (find (λ p. is p.1.kind) all) (is p.1.kind)
  where
    by : (found : Option (ℕ × Declared)) (b : Bool)
        → option_map (λ p. p.0) (option_or found (cond b (Some p) None)) ≡ or_number (option_map (λ p. p.0) found) b p.0
    by (Some q) b = refl
    by None true = refl
    by None false = refl

accessors-push : (all : List (ℕ × Declared)) (p : ℕ × Declared) → accessors (all ++ p ∷ []) ≡ joined_to (accessors all) p.0 p.1.kind
accessors-push all p = ap₂ m.accessors (numbers-push is_static_getter all p) (numbers-push is_static_setter all p)

static-push : (all : List (ℕ × Declared)) (p : ℕ × Declared) (n : ℕ) (r : Role) → static_kind_sense (all ++ p ∷ []) n r ≡ joined_to (static_kind_sense all n r) p.0 p.1.kind
static-push all p n role.Function = refl
static-push all p n role.Variable = refl
static-push all p n role.Final = refl
static-push all p n role.Getter = accessors-push all p
static-push all p n role.Setter = accessors-push all p

owned-push : (all : List (ℕ × Declared)) (p : ℕ × Declared) (n : ℕ) (o : Owner) (r : Role) → owned_sense (all ++ p ∷ []) n o r ≡ joined_to (owned_sense all n o r) p.0 p.1.kind
owned-push all p n owner.Class r = static-push all p n r
owned-push all p n owner.Object r = refl
owned-push all p n owner.Library r = refl

kind-push : (all : List (ℕ × Declared)) (p : ℕ × Declared) (n : ℕ) (kind : DeclaredKind) → kind_sense (all ++ p ∷ []) n kind ≡ joined_to (kind_sense all n kind) p.0 p.1.kind
kind-push all p n (k.Owned o r) = owned-push all p n o r
kind-push all p n k.LocalVariable = refl
kind-push all p n k.LocalFunction = refl
kind-push all p n k.Parameter = refl
kind-push all p n k.Formal = refl
kind-push all p n (k.TypeParameter at) = refl
kind-push all p n k.Literal = refl
kind-push all p n k.Class = refl
kind-push all p n k.Alias = refl
kind-push all p n k.Operator = refl
kind-push all p n k.Constructor = refl
kind-push all p n k.NamedConstructor = refl

-- the first declaration of a name alone
first-is : (n : ℕ) (one : Declared) (kind : DeclaredKind) → one.kind ≡ kind → kind_sense ((n, one) ∷ []) n kind ≡ first_sense n kind
first-is n one (k.Owned owner.Class role.Function) e = refl
first-is n one (k.Owned owner.Class role.Variable) e = refl
first-is n one (k.Owned owner.Class role.Final) e = refl
first-is n one (k.Owned owner.Class role.Getter) e = ap (λ kind. let d : Declared = record one { kind = kind } in accessors ((n, d) ∷ [])) e
first-is n one (k.Owned owner.Class role.Setter) e = ap (λ kind. let d : Declared = record one { kind = kind } in accessors ((n, d) ∷ [])) e
first-is n one (k.Owned owner.Object r) e = refl
first-is n one (k.Owned owner.Library r) e = refl
first-is n one k.LocalVariable e = refl
first-is n one k.LocalFunction e = refl
first-is n one k.Parameter e = refl
first-is n one k.Formal e = refl
first-is n one (k.TypeParameter at) e = refl
first-is n one k.Literal e = refl
first-is n one k.Class e = refl
first-is n one k.Alias e = refl
first-is n one k.Operator e = refl
first-is n one k.Constructor e = refl
first-is n one k.NamedConstructor e = refl

pub sense-push : (all : List (ℕ × Declared)) (n : ℕ) (one : Declared) → sense (all ++ (n, one) ∷ []) ≡ Some (joined (sense all) n one.kind)
sense-push [] n one = ap Some (first-is n one one.kind refl)
sense-push (q ∷ more) n one = ap Some (kind-push (q ∷ more) (n, one) q.0 q.1.kind)

-- one declaration more among those of a class
pub naming-push : (is : DeclaredKind → Bool) (first : ℕ) (xs : List Declared) (i : ℕ) (x : Declared) (name : ℕ) → i < length xs → x ≡ get_or xs i x
    → sense (naming is (enumerate_from first (take (i + 1) xs)) name)
    ≡ cond (is x.kind && x.name.0 == name) (Some (joined (sense (naming is (enumerate_from first (take i xs)) name)) (first + i) x.kind)) (sense (naming is (enumerate_from first (take i xs)) name))
naming-push is first xs i x name below at = ap (λ (l : List Declared). S (enumerate_from first l)) cut ∙ ap S (enumerated-push first (take i xs) x)
    ∙ ap (λ n. S (enumerate_from first (take i xs) ++ (n, x) ∷ [])) long
    ∙ ap sense (filter-append test (enumerate_from first (take i xs)) ((first + i, x) ∷ []))
    ∙ by (naming is (enumerate_from first (take i xs)) name) (is x.kind && x.name.0 == name)
  where
    test : ℕ × Declared → Bool
    test p = is p.1.kind && p.1.name.0 == name

    S : List (ℕ × Declared) → Option Meaning
    S l = sense (filter test l)

    cut : take (i + 1) xs ≡ take i xs ++ x ∷ []
    cut = take_more xs i x below ∙ ap (λ (y : Declared). take i xs ++ y ∷ []) (sym at)

    long : first + length (take i xs) ≡ first + i
    long = omega (arith, length-take i xs, below)

    by : (old : List (ℕ × Declared)) (b : Bool) → sense (old ++ cond b ((first + i, x) ∷ []) []) ≡ cond b (Some (joined (sense old) (first + i) x.kind)) (sense old)
    by old true = sense-push old (first + i) x
    by old false = ap sense (append-nil old)
