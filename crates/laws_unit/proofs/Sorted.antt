-- Directives and declarations in their order as the items of a unit, each where it may stand, and back (ECMA-408, 18 Libraries and Scripts).
use Rattle.std.proofs.Common.{◌≡◌, ℕ, zero, suc, true, false, List, [], ◌∷◌, ◌++◌, None, Some, ◌⊎◌, inl, inr, refl, sym, ap, ◌∙◌, subst, append_assoc, flat_map}
use Rattle.std.proofs.lemmas.List.{append-nil}
use Rattle.std.specs.List.{AllByRecursion}
use Rattle.dart_token.specs.declared.token.Token.{Token}
use Rattle.dart_tree.specs.Unit.{Directive, Decl, UnitTree}
use Rattle.dart_tree.specs.UnitTokens.{directive_tokens, decl_tokens, unit_tokens}
use Rattle.grammar_laws.specs.Fronts.{EachFitFrom}
use Rattle.grammar_laws.proofs.Codes.{clash}
use Rattle.dart_syntax.specs.Phrases.{Phrase}
use Rattle.dart_syntax.specs.Declarations as c
use Rattle.dart_syntax.specs.Units as p
use Rattle.dart_syntax.specs.Units.{optional}
use Rattle.syntax_readers.specs.Units.{Item, a_directive, a_decl, Still, all_directives, imports_and_parts, only_parts, no_directives, may_import, may_have_parts, behind_directive, still_behind, directives_of, decls_of, to_unit}
use Rattle.laws_unit.proofs.Items.{item_tokens}
use Rattle.laws_unit.proofs.Standing.{ItemFits}

-- ---- the kinds of directives of a depth

abbrev pub Headers : ℕ → Phrase Directive
Headers n = p.directive_within p.part_of_over n

abbrev pub Libraries : ℕ → Phrase Directive
Libraries n = p.directive_within p.library_over n

abbrev pub Imports : ℕ → Phrase Directive
Imports n = p.directive_within p.imports_and_exports n

abbrev pub Parts : ℕ → Phrase Directive
Parts n = p.directive_within p.part_over n

abbrev pub Decls : ℕ → Phrase Decl
Decls n = c.decl_within n

-- what is imported is an import or an export
pub imports_fit : (n : ℕ) (x : Directive) → (Imports n).Fits x → (p.directive_within p.import_over n).Fits x ⊎ (p.directive_within p.export_over n).Fits x
imports_fit zero x fits = absurd fits
imports_fit (suc j) x fits = fits

pub import_fits : (n : ℕ) (x : Directive) → (p.directive_within p.import_over n).Fits x → (Imports n).Fits x
import_fits zero x fits = absurd fits
import_fits (suc j) x fits = inl fits

pub export_fits : (n : ℕ) (x : Directive) → (p.directive_within p.export_over n).Fits x → (Imports n).Fits x
export_fits zero x fits = absurd fits
export_fits (suc j) x fits = inr fits

-- ---- what may follow each

pub step_library : (n : ℕ) (x : Directive) → (Libraries n).Fits x → behind_directive x.kind ≡ imports_and_parts
step_library zero x fits = absurd fits
step_library (suc j) x ((m, (k, semicolon)), (own, ((y, fits, is), sign)), so) = ap (λ (z : Directive). behind_directive z.kind) (sym so) ∙ ap behind_directive (sym is)

pub step_header : (n : ℕ) (x : Directive) → (Headers n).Fits x → behind_directive x.kind ≡ no_directives
step_header zero x fits = absurd fits
step_header (suc j) x ((m, (k, semicolon)), (own, ((y, fits, is), sign)), so) = ap (λ (z : Directive). behind_directive z.kind) (sym so) ∙ ap behind_directive (sym is)

pub step_part : (n : ℕ) (x : Directive) → (Parts n).Fits x → behind_directive x.kind ≡ only_parts
step_part zero x fits = absurd fits
step_part (suc j) x ((m, (k, semicolon)), (own, ((y, fits, is), sign)), so) = ap (λ (z : Directive). behind_directive z.kind) (sym so) ∙ ap behind_directive (sym is)

pub step_import : (n : ℕ) (x : Directive) → (Imports n).Fits x → behind_directive x.kind ≡ imports_and_parts
step_import zero x fits = absurd fits
step_import (suc j) x (inl ((m, (k, semicolon)), (own, ((y, fits, is), sign)), so)) = ap (λ (z : Directive). behind_directive z.kind) (sym so) ∙ ap behind_directive (sym is)
step_import (suc j) x (inr ((m, (k, semicolon)), (own, ((y, fits, is), sign)), so)) = ap (λ (z : Directive). behind_directive z.kind) (sym so) ∙ ap behind_directive (sym is)

module _ (n : ℕ) where
  abbrev pub Each : Still → List Item → Type 0
  Each = EachFitFrom (ItemFits n) (λ still x. true) still_behind

  -- ---- an item as the node that it is

  abbrev pub Declared : Item → Type 0
  Declared a = (x : Decl) × (Decls n).Fits x × (a_decl x ≡ a)

  abbrev pub Directed : Phrase Directive → Item → Type 0
  Directed P a = (x : Directive) × P.Fits x × (a_directive x ≡ a)

  pub no_item : (a : Item) → ItemFits n no_directives a → Declared a
  no_item a (inl (on, f)) = clash false on refl
  no_item a (inr (inl (on, f))) = clash false on refl
  no_item a (inr (inr (inl (on, f)))) = clash false on refl
  no_item a (inr (inr (inr (inl (inl (on, f)))))) = clash false on refl
  no_item a (inr (inr (inr (inl (inr (on, f)))))) = clash false on refl
  no_item a (inr (inr (inr (inr f)))) = f

  pub part_item : (a : Item) → ItemFits n only_parts a → Directed (Parts n) a ⊎ Declared a
  part_item a (inl (on, f)) = clash false on refl
  part_item a (inr (inl (on, f))) = clash false on refl
  part_item a (inr (inr (inl (on, f)))) = clash false on refl
  part_item a (inr (inr (inr (inl (inl (on, f)))))) = clash false on refl
  part_item a (inr (inr (inr (inl (inr (on, f)))))) = inl f
  part_item a (inr (inr (inr (inr f)))) = inr f

  pub import_item : (a : Item) → ItemFits n imports_and_parts a → Directed (Imports n) a ⊎ (Directed (Parts n) a ⊎ Declared a)
  import_item a (inl (on, f)) = clash false on refl
  import_item a (inr (inl (on, (x, fits, is)))) = inl (x, import_fits n x fits, is)
  import_item a (inr (inr (inl (on, (x, fits, is))))) = inl (x, export_fits n x fits, is)
  import_item a (inr (inr (inr (inl (inl (on, f)))))) = clash false on refl
  import_item a (inr (inr (inr (inl (inr (on, f)))))) = inr (inl f)
  import_item a (inr (inr (inr (inr f)))) = inr (inr f)

  pub first_item : (a : Item) → ItemFits n all_directives a → Directed (Libraries n) a ⊎ (Directed (Headers n) a ⊎ (Directed (Imports n) a ⊎ (Directed (Parts n) a ⊎ Declared a)))
  first_item a (inl (on, f)) = inl f
  first_item a (inr (inl (on, (x, fits, is)))) = inr (inr (inl (x, import_fits n x fits, is)))
  first_item a (inr (inr (inl (on, (x, fits, is))))) = inr (inr (inl (x, export_fits n x fits, is)))
  first_item a (inr (inr (inr (inl (inl (on, f)))))) = inr (inl f)
  first_item a (inr (inr (inr (inl (inr (on, f)))))) = inr (inr (inr (inl f)))
  first_item a (inr (inr (inr (inr f)))) = inr (inr (inr (inr f)))

  -- ---- items in order are directives in order and declarations

  abbrev Tokens : List Item → Type 0
  Tokens all = unit_tokens (to_unit all) ≡ flat_map item_tokens all

  record Ordered (all : List Item) (names imports parts : List Directive) : Type 0 where
    imports_fit : AllByRecursion (Imports n).Fits imports
    parts_fit : AllByRecursion (Parts n).Fits parts
    decls_fit : AllByRecursion (Decls n).Fits (decls_of all)
    order : directives_of all ≡ names ++ (imports ++ parts)
    tokens : Tokens all

  ordered_none : Ordered [] [] [] []
  ordered_none = record { imports_fit = tt; parts_fit = tt; decls_fit = tt; order = refl; tokens = refl }

  said_directive : (x : Directive) (more : List Item) → Tokens more → Tokens (a_directive x ∷ more)
  said_directive x more e = append_assoc (directive_tokens x) (flat_map directive_tokens (directives_of more)) (flat_map decl_tokens (decls_of more)) ∙ ap (λ (m : List Token). directive_tokens x ++ m) e

  said_decl : (x : Decl) (more : List Item) → directives_of more ≡ [] → Tokens more → Tokens (a_decl x ∷ more)
  said_decl x more none e =
      ap (λ (m : List Directive). flat_map directive_tokens m ++ (decl_tokens x ++ flat_map decl_tokens (decls_of more))) none
      ∙ ap (λ (m : List Token). decl_tokens x ++ m) (ap (λ (m : List Directive). flat_map directive_tokens m ++ flat_map decl_tokens (decls_of more)) (sym none) ∙ e)

  with_decl : (a : Item) (more : List Item) → Declared a → (Each no_directives more → Ordered more [] [] []) → Each (still_behind no_directives a) more → Ordered (a ∷ more) [] [] []
  with_decl a more (x, fits, is) go rest = subst (λ (b : Item). Each (still_behind no_directives b) more → Ordered (b ∷ more) [] [] []) is
      (λ r. let o = go r in record { imports_fit = tt; parts_fit = tt; decls_fit = (fits, o.decls_fit); order = o.order; tokens = said_decl x more o.order o.tokens }) rest

  all_decls : (all : List Item) → Each no_directives all → Ordered all [] [] []
  all_decls [] each = ordered_none
  all_decls (a ∷ more) each = with_decl a more (no_item a each.0) (all_decls more) each.2

  -- the state behind a declaration is the same whatever was before
  behind_decl : (still : Still) (a : Item) (more : List Item) → Declared a → Each (still_behind still a) more → Each (still_behind no_directives a) more
  behind_decl still a more (x, fits, is) rest = subst (λ (b : Item). Each (still_behind still b) more → Each (still_behind no_directives b) more) is (λ r. r) rest

  decl_first : (still : Still) (a : Item) (more : List Item) → Declared a → Each (still_behind still a) more → Ordered (a ∷ more) [] [] []
  decl_first still a more w rest = with_decl a more w (all_decls more) (behind_decl still a more w rest)

  abbrev WithParts : List Item → Type 0
  WithParts all = (parts : List Directive) × Ordered all [] [] parts

  part_before : (still : Still) (a : Item) (more : List Item) → Directed (Parts n) a → (Each only_parts more → WithParts more) → Each (still_behind still a) more → WithParts (a ∷ more)
  part_before still a more (x, fits, is) go rest = subst (λ (b : Item). Each (still_behind still b) more → WithParts (b ∷ more)) is
      (λ r. let v = go (subst (λ (t : Still). Each t more) (step_part n x fits) r) in
      (x ∷ v.0, record { imports_fit = tt; parts_fit = (fits, v.1.parts_fit); decls_fit = v.1.decls_fit; order = ap (λ (m : List Directive). x ∷ m) v.1.order; tokens = said_directive x more v.1.tokens })) rest

  all_parts : (all : List Item) → Each only_parts all → WithParts all
  all_parts [] each = ([], ordered_none)
  all_parts (a ∷ more) each = elim (part_item a each.0) [
    | inl w ↦ part_before only_parts a more w (all_parts more) each.2
    | inr w ↦ ([], decl_first only_parts a more w each.2)
  ]

  abbrev WithImports : List Item → Type 0
  WithImports all = (imports : List Directive) × (parts : List Directive) × Ordered all [] imports parts

  import_before : (still : Still) (a : Item) (more : List Item) → Directed (Imports n) a → (Each imports_and_parts more → WithImports more) → Each (still_behind still a) more → WithImports (a ∷ more)
  import_before still a more (x, fits, is) go rest = subst (λ (b : Item). Each (still_behind still b) more → WithImports (b ∷ more)) is
      (λ r. let v = go (subst (λ (t : Still). Each t more) (step_import n x fits) r) in
      (x ∷ v.0, v.1, record { imports_fit = (fits, v.2.imports_fit); parts_fit = v.2.parts_fit; decls_fit = v.2.decls_fit; order = ap (λ (m : List Directive). x ∷ m) v.2.order; tokens = said_directive x more v.2.tokens })) rest

  all_imports : (all : List Item) → Each imports_and_parts all → WithImports all
  all_imports [] each = ([], [], ordered_none)
  all_imports (a ∷ more) each = elim (import_item a each.0) [
    | inl w ↦ import_before imports_and_parts a more w (all_imports more) each.2
    | inr w ↦ elim w [
      | inl v ↦ let u = part_before imports_and_parts a more v (all_parts more) each.2 in ([], u.0, u.1)
      | inr v ↦ ([], [], decl_first imports_and_parts a more v each.2)
    ]
  ]

  -- ---- a whole unit

  abbrev Whole : UnitTree → Type 0
  Whole = (p.unit_over n).Fits

  abbrev unit_of : List Directive → List Decl → UnitTree
  unit_of names decls = record { directives = names; declarations = decls }

  without_name : (all : List Item) (imports parts : List Directive) → Ordered all [] imports parts → Whole (to_unit all)
  without_name all imports parts o = inr ((None, (imports, (parts, decls_of all))), (tt, (o.imports_fit, (o.parts_fit, o.decls_fit))), ap (λ (m : List Directive). unit_of m (decls_of all)) (sym o.order))

  with_name : (a : Item) (more : List Item) → Directed (Libraries n) a → Each (still_behind all_directives a) more → Whole (to_unit (a ∷ more)) × Tokens (a ∷ more)
  with_name a more (x, fits, is) rest = subst (λ (b : Item). Each (still_behind all_directives b) more → Whole (to_unit (b ∷ more)) × Tokens (b ∷ more)) is
      (λ r. let v = all_imports more (subst (λ (t : Still). Each t more) (step_library n x fits) r) in
      (inr ((Some x, (v.0, (v.1, decls_of more))), (fits, (v.2.imports_fit, (v.2.parts_fit, v.2.decls_fit))), ap (λ (m : List Directive). unit_of (x ∷ m) (decls_of more)) (sym v.2.order)), said_directive x more v.2.tokens)) rest

  with_header : (a : Item) (more : List Item) → Directed (Headers n) a → Each (still_behind all_directives a) more → Whole (to_unit (a ∷ more)) × Tokens (a ∷ more)
  with_header a more (x, fits, is) rest = subst (λ (b : Item). Each (still_behind all_directives b) more → Whole (to_unit (b ∷ more)) × Tokens (b ∷ more)) is
      (λ r. let o = all_decls more (subst (λ (t : Still). Each t more) (step_header n x fits) r) in
      (inl ((x, decls_of more), (fits, o.decls_fit), ap (λ (m : List Directive). unit_of (x ∷ m) (decls_of more)) (sym o.order)), said_directive x more o.tokens)) rest

  pub units_fit : (all : List Item) → Each all_directives all → Whole (to_unit all) × Tokens all
  units_fit [] each = (without_name [] [] [] ordered_none, refl)
  units_fit (a ∷ more) each = elim (first_item a each.0) [
    | inl w ↦ with_name a more w each.2
    | inr w ↦ elim w [
      | inl v ↦ with_header a more v each.2
      | inr v ↦ elim v [
        | inl u ↦ let o = import_before all_directives a more u (all_imports more) each.2 in (without_name (a ∷ more) o.0 o.1 o.2, o.2.tokens)
        | inr u ↦ elim u [
          | inl q ↦ let o = part_before all_directives a more q (all_parts more) each.2 in (without_name (a ∷ more) [] o.0 o.1, o.1.tokens)
          | inr q ↦ let o = decl_first all_directives a more q each.2 in (without_name (a ∷ more) [] [] o, o.tokens)
        ]
      ]
    ]
  ]

  -- ---- and back

  abbrev pub decl_items : List Decl → List Item
  decl_items [] = []
  decl_items (x ∷ more) = a_decl x ∷ decl_items more

  abbrev pub directive_items : List Directive → List Item → List Item
  directive_items [] rest = rest
  directive_items (x ∷ more) rest = a_directive x ∷ directive_items more rest

  pub decl_at : (still : Still) (x : Decl) → (Decls n).Fits x → ItemFits n still (a_decl x)
  decl_at still x fits = inr (inr (inr (inr (x, fits, refl))))

  pub part_at : (still : Still) → may_have_parts still ≡ true → (x : Directive) → (Parts n).Fits x → ItemFits n still (a_directive x)
  part_at still on x fits = inr (inr (inr (inl (inr (on, (x, fits, refl))))))

  pub import_at : (still : Still) → may_import still ≡ true → (x : Directive) → (Imports n).Fits x → ItemFits n still (a_directive x)
  import_at still on x fits = elim (imports_fit n x fits) [ inl f ↦ inr (inl (on, (x, f, refl))) | inr f ↦ inr (inr (inl (on, (x, f, refl)))) ]

  pub library_at : (x : Directive) → (Libraries n).Fits x → ItemFits n all_directives (a_directive x)
  library_at x fits = inl (refl, (x, fits, refl))

  pub header_at : (x : Directive) → (Headers n).Fits x → ItemFits n all_directives (a_directive x)
  header_at x fits = inr (inr (inr (inl (inl (refl, (x, fits, refl))))))

  decls_each : (still : Still) (all : List Decl) → AllByRecursion (Decls n).Fits all → Each still (decl_items all)
  decls_each still [] fits = tt
  decls_each still (x ∷ more) fits = (decl_at still x fits.0, refl, decls_each no_directives more fits.1)

  parts_each : (still : Still) → may_have_parts still ≡ true → (all : List Directive) (rest : List Item) → AllByRecursion (Parts n).Fits all → ((t : Still) → Each t rest) → Each still (directive_items all rest)
  parts_each still on [] rest fits go = go still
  parts_each still on (x ∷ more) rest fits go = (part_at still on x fits.0, refl, subst (λ (t : Still). Each t (directive_items more rest)) (sym (step_part n x fits.0)) (parts_each only_parts refl more rest fits.1 go))

  imports_each : (still : Still) → may_import still ≡ true → may_have_parts still ≡ true → (all : List Directive) (rest : List Item) → AllByRecursion (Imports n).Fits all → ((t : Still) → may_have_parts t ≡ true → Each t rest) → Each still (directive_items all rest)
  imports_each still on parts [] rest fits go = go still parts
  imports_each still on parts (x ∷ more) rest fits go = (import_at still on x fits.0, refl, subst (λ (t : Still). Each t (directive_items more rest)) (sym (step_import n x fits.0)) (imports_each imports_and_parts refl refl more rest fits.1 go))

  no_directives_in : (all : List Decl) → directives_of (decl_items all) ≡ []
  no_directives_in [] = refl
  no_directives_in (x ∷ more) = no_directives_in more

  decls_in : (all : List Decl) → decls_of (decl_items all) ≡ all
  decls_in [] = refl
  decls_in (x ∷ more) = ap (λ (m : List Decl). x ∷ m) (decls_in more)

  directives_in : (all : List Directive) (rest : List Item) → directives_of (directive_items all rest) ≡ all ++ directives_of rest
  directives_in [] rest = refl
  directives_in (x ∷ more) rest = ap (λ (m : List Directive). x ∷ m) (directives_in more rest)

  decls_behind : (all : List Directive) (rest : List Item) → decls_of (directive_items all rest) ≡ decls_of rest
  decls_behind [] rest = refl
  decls_behind (x ∷ more) rest = decls_behind more rest

  abbrev body : List Directive → List Directive → List Decl → List Item
  body imports parts decls = directive_items imports (directive_items parts (decl_items decls))

  body_directives : (imports parts : List Directive) (decls : List Decl) → directives_of (body imports parts decls) ≡ imports ++ parts
  body_directives imports parts decls = directives_in imports (directive_items parts (decl_items decls)) ∙ ap (λ (m : List Directive). imports ++ m) (directives_in parts (decl_items decls) ∙ ap (λ (m : List Directive). parts ++ m) (no_directives_in decls) ∙ append-nil parts)

  body_decls : (imports parts : List Directive) (decls : List Decl) → decls_of (body imports parts decls) ≡ decls
  body_decls imports parts decls = decls_behind imports (directive_items parts (decl_items decls)) ∙ decls_behind parts (decl_items decls) ∙ decls_in decls

  body_each : (still : Still) → may_import still ≡ true → may_have_parts still ≡ true → (imports parts : List Directive) (decls : List Decl) → AllByRecursion (Imports n).Fits imports → AllByRecursion (Parts n).Fits parts → AllByRecursion (Decls n).Fits decls → Each still (body imports parts decls)
  body_each still on with_parts imports parts decls i x y = imports_each still on with_parts imports (directive_items parts (decl_items decls)) i (λ t o. parts_each t o parts (decl_items decls) x (λ u. decls_each u decls y))

  pub units_back : (x : UnitTree) → Whole x → (all : List Item) × Each all_directives all × (to_unit all ≡ x)
  units_back x (inl ((header, decls), (own, fits), is)) = (
    a_directive header ∷ decl_items decls,
    (header_at header own, refl, subst (λ (t : Still). Each t (decl_items decls)) (sym (step_header n header own)) (decls_each no_directives decls fits)),
    ap (λ (m : List Directive). unit_of (header ∷ m) (decls_of (decl_items decls))) (no_directives_in decls) ∙ ap (unit_of (header ∷ [])) (decls_in decls) ∙ is,
  )
  units_back x (inr ((None, (imports, (parts, decls))), fits, is)) = (
    body imports parts decls,
    body_each all_directives refl refl imports parts decls fits.1.0 fits.1.1.0 fits.1.1.1,
    ap (λ (m : List Directive). unit_of m (decls_of (body imports parts decls))) (body_directives imports parts decls) ∙ ap (unit_of (imports ++ parts)) (body_decls imports parts decls) ∙ is,
  )
  units_back x (inr ((Some name, (imports, (parts, decls))), fits, is)) = (
    a_directive name ∷ body imports parts decls,
    (library_at name fits.0, refl, subst (λ (t : Still). Each t (body imports parts decls)) (sym (step_library n name fits.0)) (body_each imports_and_parts refl refl imports parts decls fits.1.0 fits.1.1.0 fits.1.1.1)),
    ap (λ (m : List Directive). unit_of (name ∷ m) (decls_of (body imports parts decls))) (body_directives imports parts decls) ∙ ap (unit_of (name ∷ (imports ++ parts))) (body_decls imports parts decls) ∙ is,
  )
