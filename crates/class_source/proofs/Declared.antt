-- The classes of a program, as the definition comes to them, have formed types.
use Rattle.std.proofs.Common.{◌≡◌, ℕ, zero, suc, ◌+◌, ◌⊎◌, inl, inr, List, [], ◌∷◌, ◌++◌, map, flat_map, length, Option, None, Some, Bool, true, false, slice_get, arith, sym, subst as transport, if◌then◌else◌}
use Rattle.std.proofs.lemmas.Option.{same_Some}
use Rattle.dart_tree.specs.Types as y
use Rattle.dart_tree.specs.Tree as t
use Rattle.dart_tree.specs.Unit as u
use Rattle.translation.specs.Surroundings.{Ty, Names}
use Rattle.dart_ir.specs.Ty.{dynamic}
use Rattle.translation.specs.Types.{PlacedName, word_of, asked_of_kind, is_final, type_asked, result_type, function_type}
use Rattle.translation.specs.ClassBodies.{annotated_type, members_of}
use Rattle.translation.specs.Classes.{is_static, operator_declared}
use Rattle.translation.specs.Declarations.{Declared, function_declared, accessor_declared}
use Rattle.class_source.specs.Rows.{HeaderType, Member, Class}
use Rattle.class_source.specs.Headers as h
use Rattle.class_source.specs.Members.{Numbers, setter_of, field_members, more_words, variable_members, declared_by, instance_members}
use Rattle.class_source.specs.Source.{SourceUnit, Given, reading, class_row, enum_row, declared_class, declared_classes, unit_classes}
use Rattle.class_source.specs.Resolved.{AreScoped, IsClassResolved, IsSimple, IsResolved}
use Rattle.class_source.specs.Formed.{IsFormed, AreAliasesFormed, IsHeaderFormed, AreHeadersFormed, IsRowFormed}
use Rattle.class_source.proofs.Formed.{type_formed, type_plain, kind_formed, signature_formed}

-- ---- lists

split : {A : Type 0} (xs ys : List A) (j : ℕ) (c : A) → slice_get (xs ++ ys) j ≡ Some c
    → (slice_get xs j ≡ Some c) ⊎ ((i : ℕ) × (j ≡ length xs + i) × (slice_get ys i ≡ Some c))
split [] ys j c q = inr (j, omega arith, q)
split (x ∷ xs) ys zero c q = inl q
split (x ∷ xs) ys (suc j) c q = elim (split xs ys j c q) [ inl a ↦ inl a | inr a ↦ inr (a.0, let e = a.1 in omega (arith, e), a.2) ]

none_listed : {A : Type 0} (P : A → Type 0) (j : ℕ) (c : A) → slice_get [] j ≡ Some c → P c
none_listed P j c q = absurd (cc)

one_listed : {A : Type 0} (P : A → Type 0) (x : A) → P x → (j : ℕ) (c : A) → slice_get (x ∷ []) j ≡ Some c → P c
one_listed P x h zero c q = transport P (same_Some x c q) h
one_listed P x h (suc j) c q = absurd (cc)

both_listed : {A : Type 0} (P : A → Type 0) (xs ys : List A) → ((j : ℕ) (c : A) → slice_get xs j ≡ Some c → P c) → ((j : ℕ) (c : A) → slice_get ys j ≡ Some c → P c)
    → (j : ℕ) (c : A) → slice_get (xs ++ ys) j ≡ Some c → P c
both_listed P xs ys a b j c q = elim (split xs ys j c q) [ inl p ↦ a j c p | inr p ↦ b p.0 c p.2 ]

flat_listed : {A B : Type 0} (P : B → Type 0) (f : A → List B) → ((x : A) (j : ℕ) (c : B) → slice_get (f x) j ≡ Some c → P c) → (xs : List A)
    → (j : ℕ) (c : B) → slice_get (flat_map f xs) j ≡ Some c → P c
flat_listed P f h [] j c q = absurd (cc)
flat_listed P f h (x ∷ xs) j c q = both_listed P (f x) (flat_map f xs) (h x) (flat_listed P f h xs) j c q

-- ---- which class a number is

data IsRowOf (given : Given) (n : ℕ) : Class → Type 0 where
  of_class : (unit : SourceUnit) (x : u.Class) → IsRowOf given n (class_row given unit n x)
  of_enum : (unit : SourceUnit) (x : u.Enum) → IsRowOf given n (enum_row given unit x)

module _ (given : Given) where
  first_row : (n i : ℕ) → i ≡ n + 0 → (r c : Class) → r ≡ c → IsRowOf given n r → IsRowOf given i c
  first_row n i e r c q h = transport (IsRowOf given i) q (let s : n ≡ i = omega (arith, e) in transport (λ k. IsRowOf given k r) s h)

  row_of_one : (unit : SourceUnit) (n : ℕ) (x : u.DeclKind) (j i : ℕ) (c : Class) → i ≡ n + j → slice_get (declared_class given unit n x) j ≡ Some c → IsRowOf given i c
  row_of_one unit n (u.class_decl x) zero i c e q = first_row n i e (class_row given unit n x) c (same_Some _ c q) (of_class unit x)
  row_of_one unit n (u.class_decl x) (suc j) i c e q = absurd (cc)
  row_of_one unit n (u.enum_decl x) zero i c e q = first_row n i e (enum_row given unit x) c (same_Some _ c q) (of_enum unit x)
  row_of_one unit n (u.enum_decl x) (suc j) i c e q = absurd (cc)
  row_of_one unit n (u.alias_decl x) j i c e q = absurd (cc)
  row_of_one unit n (u.function_decl x) j i c e q = absurd (cc)
  row_of_one unit n (u.accessor_decl x) j i c e q = absurd (cc)
  row_of_one unit n (u.variables_decl x) j i c e q = absurd (cc)

  row_of_decl : (unit : SourceUnit) (xs : List u.Decl) (n j i : ℕ) (c : Class) → i ≡ n + j → slice_get (declared_classes given unit n xs) j ≡ Some c → IsRowOf given i c
  row_of_decl unit [] n j i c e q = absurd (cc)
  row_of_decl unit (x ∷ xs) n j i c e q = elim (split (declared_class given unit n x.kind) (declared_classes given unit (n + length (declared_class given unit n x.kind)) xs) j c q) [
    | inl p ↦ row_of_one unit n x.kind j i c e p
    | inr p ↦ row_of_decl unit xs (n + length (declared_class given unit n x.kind)) p.0 i c (let r = p.1 in omega (arith, e, r)) p.2
  ]

  row_of_unit : (xs : List SourceUnit) (n j i : ℕ) (c : Class) → i ≡ n + j → slice_get (unit_classes given n xs) j ≡ Some c → IsRowOf given i c
  row_of_unit [] n j i c e q = absurd (cc)
  row_of_unit (x ∷ xs) n j i c e q = elim (split (declared_classes given x n x.declarations) (unit_classes given (n + length (declared_classes given x n x.declarations)) xs) j c q) [
    | inl p ↦ row_of_decl x x.declarations n j i c e p
    | inr p ↦ row_of_unit xs (n + length (declared_classes given x n x.declarations)) p.0 i c (let r = p.1 in omega (arith, e, r)) p.2
  ]

-- ---- headers

module _ (given : Given) (names : Names) (classes n : ℕ) (scoped : AreScoped classes n names) where
  header_formed : (node : y.TypeNode) → IsHeaderFormed given.tables classes n (h.header_type (reading given names) node)
  header_formed node = (type_formed given names classes n scoped node, type_plain given names node)

  headers_formed : (ts : y.TypeList) → AreHeadersFormed given.tables classes n (h.header_types (reading given names) ts)
  headers_formed y.no_more_types j t q = absurd (cc)
  headers_formed (y.type_more comma one more) zero t q = transport (IsHeaderFormed given.tables classes n) (same_Some _ t q) (header_formed one)
  headers_formed (y.type_more comma one more) (suc j) t q = headers_formed more j t q

  clause_formed : (x : Option u.TypeClause) → AreHeadersFormed given.tables classes n (h.clause_types (reading given names) x)
  clause_formed None j t q = absurd (cc)
  clause_formed (Some x) j t q = headers_formed x.types j t q

  superclass_formed : (x : Option u.Superclass) (t : HeaderType) → h.superclass_of (reading given names) x ≡ Some t → IsHeaderFormed given.tables classes n t
  superclass_formed None t q = absurd (cc)
  superclass_formed (Some x) t q = transport (IsHeaderFormed given.tables classes n) (same_Some _ t q) (header_formed x.superclass)

  mixins_formed : (x : Option u.Superclass) → AreHeadersFormed given.tables classes n (h.mixins_of (reading given names) x)
  mixins_formed None j t q = absurd (cc)
  mixins_formed (Some x) j t q = clause_formed x.mixins j t q

  named_superclass : (x : u.ClassKind) (t : HeaderType) → (h.named (reading given names) x).superclass ≡ Some t → IsHeaderFormed given.tables classes n t
  named_superclass (u.declared_class above interfaces opening members closing) t q = superclass_formed above t q
  named_superclass (u.mixed_class equals above mixed interfaces semicolon) t q = transport (IsHeaderFormed given.tables classes n) (same_Some _ t q) (header_formed above)

  named_mixins : (x : u.ClassKind) → AreHeadersFormed given.tables classes n (h.named (reading given names) x).mixins
  named_mixins (u.declared_class above interfaces opening members closing) = mixins_formed above
  named_mixins (u.mixed_class equals above mixed interfaces semicolon) = clause_formed (Some mixed)

  named_interfaces : (x : u.ClassKind) → AreHeadersFormed given.tables classes n (h.named (reading given names) x).interfaces
  named_interfaces (u.declared_class above interfaces opening members closing) = clause_formed interfaces
  named_interfaces (u.mixed_class equals above mixed interfaces semicolon) = clause_formed interfaces

  bound_formed : (x : Option u.Bound) (b : Ty) → h.bound (reading given names) x ≡ Some b → IsFormed given.tables classes n b
  bound_formed None b q = absurd (cc)
  bound_formed (Some x) b q = transport (IsFormed given.tables classes n) (same_Some _ b q) (type_formed given names classes n scoped x.bound)

  items_formed : (xs : List u.TypeParameter) (j : ℕ) (b : Ty) → slice_get (map (λ (x : u.TypeParameter). h.bound (reading given names) x.bound) xs) j ≡ Some (Some b) → IsFormed given.tables classes n b
  items_formed [] j b q = absurd (cc)
  items_formed (x ∷ xs) zero b q = bound_formed x.bound b (same_Some _ (Some b) q)
  items_formed (x ∷ xs) (suc j) b q = items_formed xs j b q

  bounds_formed : (x : Option u.TypeParameters) (j : ℕ) (b : Ty) → slice_get (h.bounds (reading given names) x) j ≡ Some (Some b) → IsFormed given.tables classes n b
  bounds_formed None j b q = absurd (cc)
  bounds_formed (Some x) j b q = items_formed x.items j b q

  -- ---- members

  module _ (aliases : AreAliasesFormed given.tables classes n) (number : Numbers) where
    chosen_formed : (b : Bool) (of : Ty) → IsFormed given.tables classes n of → IsFormed given.tables classes n (if b then of else dynamic)
    chosen_formed true of f = f
    chosen_formed false of f = tt

    abbrev IsSigned : Member → Type 0
    IsSigned x = IsFormed given.tables classes n x.signature

    annotated_formed : (kind : y.VariableKind) → IsFormed given.tables classes n (annotated_type (asked_of_kind (reading given names) kind))
    annotated_formed kind = chosen_formed (asked_of_kind (reading given names) kind).annotated (type_asked (asked_of_kind (reading given names) kind)) (kind_formed given names classes n scoped aliases kind)

    setter_signed : (kind : y.VariableKind) (b : Bool) (name : PlacedName) (j : ℕ) (c : Member) → slice_get (setter_of number (reading given names) b (asked_of_kind (reading given names) kind) name) j ≡ Some c → IsSigned c
    setter_signed kind true name = none_listed IsSigned
    setter_signed kind false name = one_listed IsSigned _ (tt, (annotated_formed kind, tt), tt, tt)

    field_signed : (kind : y.VariableKind) (b : Bool) (name : PlacedName) (j : ℕ) (c : Member) → slice_get (field_members number (reading given names) b (asked_of_kind (reading given names) kind) name) j ≡ Some c → IsSigned c
    field_signed kind b name zero c q = transport IsSigned (same_Some _ c q) (annotated_formed kind, tt, tt, tt)
    field_signed kind b name (suc j) c q = setter_signed kind b name j c q

    variables_signed : (x : t.Variables) (j : ℕ) (c : Member) → slice_get (variable_members number (reading given names) x) j ≡ Some c → IsSigned c
    variables_signed (t.the_variables kind name value more semicolon) = flat_listed IsSigned (field_members number (reading given names) (is_final kind) (asked_of_kind (reading given names) kind)) (field_signed kind (is_final kind)) (word_of name ∷ more_words more)

    function_signed : (x : Declared) → IsFormed given.tables classes n (function_type (reading given names) (result_type (reading given names) x.result) x.parameters)
    function_signed x = signature_formed given names classes n scoped aliases x.result x.parameters

    declared_signed : (x : u.MemberKind) (j : ℕ) (c : Member) → slice_get (declared_by number (reading given names) x) j ≡ Some c → IsSigned c
    declared_signed (u.constructor_member x) = none_listed IsSigned
    declared_signed (u.function_member x) = one_listed IsSigned _ (function_signed (function_declared x))
    declared_signed (u.accessor_member x) = one_listed IsSigned _ (function_signed (accessor_declared x))
    declared_signed (u.variables_member x) = variables_signed x
    declared_signed (u.operator_member x) = one_listed IsSigned _ (function_signed (operator_declared x))

    kept_signed : (b : Bool) (x : u.MemberKind) (j : ℕ) (c : Member) → slice_get (if b then [] else declared_by number (reading given names) x) j ≡ Some c → IsSigned c
    kept_signed true x = none_listed IsSigned
    kept_signed false x = declared_signed x

    members_signed : (xs : List u.Member) (j : ℕ) (c : Member) → slice_get (flat_map (instance_members number (reading given names)) xs) j ≡ Some c → IsSigned c
    members_signed xs = flat_listed IsSigned (instance_members number (reading given names)) (λ x. kept_signed (is_static x.modifier) x.kind) xs

-- ---- rows

three_listed : {A : Type 0} (P : A → Type 0) (x z w : A) → P x → P z → P w → (j : ℕ) (c : A) → slice_get (x ∷ z ∷ w ∷ []) j ≡ Some c → P c
three_listed P x z w a b d zero c q = transport P (same_Some x c q) a
three_listed P x z w a b d (suc zero) c q = transport P (same_Some z c q) b
three_listed P x z w a b d (suc (suc zero)) c q = transport P (same_Some w c q) d
three_listed P x z w a b d (suc (suc (suc j))) c q = absurd (cc)

row_formed : (given : Given) (count n : ℕ) (c : Class) → IsRowOf given n c → IsClassResolved given count n c → ((k : ℕ) → AreAliasesFormed given.tables count k)
    → IsSimple given count given.tables.int_class → IsSimple given count given.tables.string_class → IsRowFormed given.tables count c
row_formed given count n _ (of_class unit x) r aliases int string = record {
  bounds = bounds_formed given (given.header_names n) count _ r.header x.parameters;
  superclass = named_superclass given (given.header_names n) count _ r.header x.kind;
  mixins = named_mixins given (given.header_names n) count _ r.header x.kind;
  interfaces = named_interfaces given (given.header_names n) count _ r.header x.kind;
  members = members_signed given (given.tables.class_names n) count _ r.members (aliases _) given.number (members_of x.kind);
}
row_formed given count n _ (of_enum unit x) r aliases int string = record {
  bounds = λ j b q. absurd (cc);
  superclass = λ t q. absurd (cc);
  mixins = λ j t q. absurd (cc);
  interfaces = λ j t q. absurd (cc);
  members = three_listed (λ (m : Member). IsFormed given.tables count 0 m.signature) _ _ _
      ((int.declared, sym int.parameters, tt), tt, tt, tt)
      ((string.declared, sym string.parameters, tt), tt, tt, tt)
      ((string.declared, sym string.parameters, tt), tt, tt, tt);
}

pub rows_formed : (given : Given) (units : List SourceUnit) → IsResolved given units → (n : ℕ) (c : Class) → slice_get (unit_classes given 0 units) n ≡ Some c
    → IsRowFormed given.tables (length (unit_classes given 0 units)) c
rows_formed given units r n c q =
    row_formed given (length (unit_classes given 0 units)) n c (row_of_unit given units 0 n n c (omega arith) q) (r.classes n c q) r.aliases r.int r.string
