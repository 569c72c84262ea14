-- The classes of declarations and units, one behind another.
use Rattle.std.proofs.Common.{◌≡◌, ℕ, ◌+◌, ◌<◌, ◌≤◌, List, [], ◌∷◌, ◌++◌, map, length, get_or, drop, refl, sym, ap, ◌∙◌, append_assoc, append-nil}
use Rattle.std.proofs.lemmas.List.{length-append, length-map}
use Rattle.dart_tree.specs.declared.declaration.Decl.{Decl}
use Rattle.dart_tree.specs.Unit as u
use Rattle.dart_tree.specs.UnitView as unit_view
use Rattle.class_source.specs.Rows.{Class}
use Rattle.class_source.specs.Source.{SourceUnit, Given, declared_class, declared_classes, unit_classes}
use Rattle.class_reader.proofs.Items.{rest_at, none_at}

-- how many there are behind more of them
longer : {A B : Type 0} (see : B → A) (found found2 : List B) (more : List A) → map see found2 ≡ map see found ++ more → length found2 ≡ length found + length more
longer see found found2 more added =
    sym (length-map found2 see) ∙ ap length added ∙ length-append (map see found) more ∙ ap (λ (n : ℕ). n + length more) (length-map found see)

-- the home of a unit alone decides which class a declaration is
pub unit_alone : (given : Given) (unit : SourceUnit) (n : ℕ) (kind : u.DeclKind) →
    declared_class given (record unit { declarations = [] }) n kind ≡ declared_class given unit n kind
unit_alone given unit n (u.class_decl x) = refl
unit_alone given unit n (u.enum_decl x) = refl
unit_alone given unit n (u.alias_decl x) = refl
unit_alone given unit n (u.function_decl x) = refl
unit_alone given unit n (u.accessor_decl x) = refl
unit_alone given unit n (u.variables_decl x) = refl

abbrev pub declared_behind : {B : Type 0} → (B → Class) → Given → SourceUnit → List B → List Decl → List Class
declared_behind see given unit found rest = map see found ++ declared_classes given unit (length found) (map unit_view.decl rest)

pub declared_step : {B : Type 0} (see : B → Class) (given : Given) (unit : SourceUnit) (all ys : List Decl) (i : ℕ) (x : Decl) (found found2 : List B) (whole : List Class) →
    ys ≡ all → i < length ys → x ≡ get_or ys i x →
    map see found2 ≡ map see found ++ declared_class given (record unit { declarations = [] }) (length found) (unit_view.decl_kind x.kind) →
    declared_behind see given unit found (drop i all) ≡ whole → declared_behind see given unit found2 (drop (i + 1) all) ≡ whole
declared_step {B = B} see given unit all ys i x found found2 whole same below is added done =
    let one = declared_class given unit (length found) (unit_view.decl_kind x.kind) in
    let rest = map unit_view.decl (drop (i + 1) all) in
    let added : map see found2 ≡ map see found ++ one =
    added ∙ ap (λ (l : List Class). map see found ++ l) (unit_alone given unit (length found) (unit_view.decl_kind x.kind)) in
    ap (λ (l : List Class). l ++ declared_classes given unit (length found2) rest) added
    ∙ ap (λ (n : ℕ). (map see found ++ one) ++ declared_classes given unit n rest) (longer see found found2 one added)
    ∙ append_assoc (map see found) one (declared_classes given unit (length found + length one) rest)
    ∙ ap (declared_behind see given unit found) (sym (rest_at all ys i x same below is))
    ∙ done

pub declared_end : {B : Type 0} (see : B → Class) (given : Given) (unit : SourceUnit) (all ys : List Decl) (i : ℕ) (found : List B) (whole : List Class) →
    ys ≡ all → length ys ≤ i → declared_behind see given unit found (drop i all) ≡ whole → map see found ≡ whole
declared_end see given unit all ys i found whole same past done =
    sym (append-nil (map see found)) ∙ ap (declared_behind see given unit found) (sym (none_at all ys i same past)) ∙ done

pub units_step : {B : Type 0} (see : B → Class) (given : Given) (unit : SourceUnit) (units : List SourceUnit) (found found2 found3 : List B) →
    map see found2 ≡ map see found ++ declared_classes given unit (length found) unit.declarations →
    map see found3 ≡ map see found2 ++ unit_classes given (length found2) units →
    map see found3 ≡ map see found ++ unit_classes given (length found) (unit ∷ units)
units_step see given unit units found found2 found3 first rest =
    let one = declared_classes given unit (length found) unit.declarations in
    rest ∙ ap (λ (l : List Class). l ++ unit_classes given (length found2) units) first
    ∙ ap (λ (n : ℕ). (map see found ++ one) ++ unit_classes given n units) (longer see found found2 one first)
    ∙ append_assoc (map see found) one (unit_classes given (length found + length one) units)
