-- What begins the items of a unit in their order is what begins a unit (ECMA-408, 18 Libraries and Scripts).
use Rattle.std.proofs.Common.{◌≡◌, ℕ, zero, suc, true, false, List, [], ◌∷◌, ◌++◌, None, Some, ◌⊎◌, inl, inr, refl, sym, ap, ◌∙◌, subst, append_assoc, flat_map}
use Rattle.std.specs.List.{AllByRecursion}
use Rattle.dart_token.specs.declared.token.Token.{Token}
use Rattle.dart_tree.specs.Unit.{Directive, Decl}
use Rattle.dart_tree.specs.UnitTokens.{directive_tokens, decl_tokens}
use Rattle.grammar_laws.specs.Readers.{always}
use Rattle.grammar_laws.specs.Fronts.{Front, GoesOn, GoOnFrom, SeveralFrom, state_after}
use Rattle.grammar_laws.proofs.Codes.{clash}
use Rattle.dart_syntax.specs.Phrases.{Phrase, ◌~◌, many}
use Rattle.dart_syntax.specs.Agreement.{Agrees}
use Rattle.dart_syntax.specs.Units as p
use Rattle.dart_syntax.proofs.AgreeingDeclarations.{decl_agrees}
use Rattle.dart_syntax.proofs.AgreeingUnits.{units_agree}
use Rattle.syntax_readers.specs.Units.{Item, a_directive, a_decl, Still, all_directives, imports_and_parts, only_parts, no_directives, may_import, may_have_parts, behind_directive, still_behind}
use Rattle.laws_unit.proofs.Items.{item_tokens}
use Rattle.laws_unit.proofs.Standing.{ItemFits, item_front}
use Rattle.laws_unit.proofs.Sorted.{Headers, Libraries, Imports, Parts, Decls, Declared, Directed, no_item, part_item, import_item, first_item, step_library, step_header, step_part, step_import, decl_at, part_at, import_at, library_at, header_at}

-- ---- lists of items

pub each_of : {A : Type 0} (P : Phrase A) (all : List A) → AllByRecursion (GoesOn P.Fits always) all → AllByRecursion P.Fits all
each_of P [] fits = tt
each_of P (x ∷ more) fits = (fits.0.0, each_of P more fits.1)

start_many : {A : Type 0} (P : Phrase A) (ts : List Token) → P.front ts → (many P).front ts
start_many P ts f = ([], ts, tt, refl, f)

module _ {A : Type 0} {f : A → List Token} {P : Phrase A} (G : Agrees f P) where
  behind_one : (x : A) (ts : List Token) (all : List A) (more : List Token) → ts ≡ flat_map P.spelling all ++ more → f x ++ ts ≡ flat_map P.spelling (x ∷ all) ++ more
  behind_one x ts all more e = ap (λ (m : List Token). m ++ ts) (sym (G.spells x)) ∙ ap (λ (m : List Token). P.spelling x ++ m) e ∙ sym (append_assoc (P.spelling x) (flat_map P.spelling all) more)

  push_many : (x : A) (ts : List Token) → P.Fits x → (many P).front ts → (many P).front (f x ++ ts)
  push_many x ts fits (all, more, go, e, h) = (x ∷ all, more, ((fits, refl), go), behind_one x ts all more e, h)

  push_seq : {B : Type 0} (Q : Phrase B) (x : A) (ts : List Token) → P.Fits x → (many P ~ Q).front ts → (many P ~ Q).front (f x ++ ts)
  push_seq Q x ts fits (inl h) = inl (push_many x ts fits h)
  push_seq Q x ts fits (inr (all, more, each, on, e, h)) = inr (x ∷ all, more, (fits, each), on, behind_one x ts all more e, h)

skip : {A B : Type 0} (P : Phrase A) (Q : Phrase B) (ts : List Token) → Q.front ts → (many P ~ Q).front ts
skip P Q ts f = inr ([], ts, tt, refl, refl, f)

-- ---- imports and exports

imported : (n : ℕ) (ts : List Token) → (p.directive_within p.import_over n).front ts → (Imports n).front ts
imported zero ts f = f
imported (suc j) ts f = inl f

exported : (n : ℕ) (ts : List Token) → (p.directive_within p.export_over n).front ts → (Imports n).front ts
exported zero ts f = f
exported (suc j) ts f = inr f

imports_begin : (n : ℕ) (ts : List Token) → (Imports n).front ts → (p.directive_within p.import_over n).front ts ⊎ (p.directive_within p.export_over n).front ts
imports_begin zero ts f = inl f
imports_begin (suc j) ts f = f

module _ (n : ℕ) where
  abbrev GoOn : Still → List Item → Type 0
  GoOn = GoOnFrom (ItemFits n) (λ still x. true) still_behind

  abbrev pub Items : Still → Front Token
  Items = SeveralFrom item_tokens (ItemFits n) (λ still x. true) still_behind (item_front n)

  abbrev last : Still → List Item → Still
  last = state_after still_behind

  abbrev NoMore : Phrase (List Decl)
  NoMore = many (Decls n)

  abbrev OnlyParts : Phrase (List Directive × List Decl)
  OnlyParts = many (Parts n) ~ NoMore

  abbrev WithImports : Phrase (List Directive × (List Directive × List Decl))
  WithImports = many (Imports n) ~ OnlyParts

  abbrev Whole : Front Token
  Whole = (p.unit_over n).front

  to_imports : (ts : List Token) → OnlyParts.front ts → WithImports.front ts
  to_imports ts f = skip (Imports n) OnlyParts ts f

  to_parts : (ts : List Token) → NoMore.front ts → OnlyParts.front ts
  to_parts ts f = skip (Parts n) NoMore ts f

  to_whole : (ts : List Token) → WithImports.front ts → Whole ts
  to_whole ts f = inr (inr (None, ts, tt, refl, refl, f))

  nothing_yet : (ts : List Token) → ts ≡ [] → NoMore.front ts
  nothing_yet ts e = start_many (Decls n) ts (subst (Decls n).front (sym e) (decl_agrees n).none)

  -- ---- one item that is not whole

  no_front : (ts : List Token) → item_front n no_directives ts → NoMore.front ts
  no_front ts (inl (inl e)) = nothing_yet ts e
  no_front ts (inl (inr (on, f))) = clash false on refl
  no_front ts (inr (inl (inl e))) = nothing_yet ts e
  no_front ts (inr (inl (inr (on, f)))) = clash false on refl
  no_front ts (inr (inr (inl (inl e)))) = nothing_yet ts e
  no_front ts (inr (inr (inl (inr (on, f))))) = clash false on refl
  no_front ts (inr (inr (inr (inl (inl (inl e)))))) = nothing_yet ts e
  no_front ts (inr (inr (inr (inl (inl (inr (on, f))))))) = clash false on refl
  no_front ts (inr (inr (inr (inl (inr (inl e)))))) = nothing_yet ts e
  no_front ts (inr (inr (inr (inl (inr (inr (on, f))))))) = clash false on refl
  no_front ts (inr (inr (inr (inr f)))) = start_many (Decls n) ts f

  part_front : (ts : List Token) → item_front n only_parts ts → OnlyParts.front ts
  part_front ts (inl (inl e)) = to_parts ts (nothing_yet ts e)
  part_front ts (inl (inr (on, f))) = clash false on refl
  part_front ts (inr (inl (inl e))) = to_parts ts (nothing_yet ts e)
  part_front ts (inr (inl (inr (on, f)))) = clash false on refl
  part_front ts (inr (inr (inl (inl e)))) = to_parts ts (nothing_yet ts e)
  part_front ts (inr (inr (inl (inr (on, f))))) = clash false on refl
  part_front ts (inr (inr (inr (inl (inl (inl e)))))) = to_parts ts (nothing_yet ts e)
  part_front ts (inr (inr (inr (inl (inl (inr (on, f))))))) = clash false on refl
  part_front ts (inr (inr (inr (inl (inr (inl e)))))) = to_parts ts (nothing_yet ts e)
  part_front ts (inr (inr (inr (inl (inr (inr (on, f))))))) = inl (start_many (Parts n) ts f)
  part_front ts (inr (inr (inr (inr f)))) = to_parts ts (start_many (Decls n) ts f)

  import_front : (ts : List Token) → item_front n imports_and_parts ts → WithImports.front ts
  import_front ts (inl (inl e)) = to_imports ts (to_parts ts (nothing_yet ts e))
  import_front ts (inl (inr (on, f))) = clash false on refl
  import_front ts (inr (inl (inl e))) = to_imports ts (to_parts ts (nothing_yet ts e))
  import_front ts (inr (inl (inr (on, f)))) = inl (start_many (Imports n) ts (imported n ts f))
  import_front ts (inr (inr (inl (inl e)))) = to_imports ts (to_parts ts (nothing_yet ts e))
  import_front ts (inr (inr (inl (inr (on, f))))) = inl (start_many (Imports n) ts (exported n ts f))
  import_front ts (inr (inr (inr (inl (inl (inl e)))))) = to_imports ts (to_parts ts (nothing_yet ts e))
  import_front ts (inr (inr (inr (inl (inl (inr (on, f))))))) = clash false on refl
  import_front ts (inr (inr (inr (inl (inr (inl e)))))) = to_imports ts (to_parts ts (nothing_yet ts e))
  import_front ts (inr (inr (inr (inl (inr (inr (on, f))))))) = to_imports ts (inl (start_many (Parts n) ts f))
  import_front ts (inr (inr (inr (inr f)))) = to_imports ts (to_parts ts (start_many (Decls n) ts f))

  first_front : (ts : List Token) → item_front n all_directives ts → Whole ts
  first_front ts (inl (inl e)) = to_whole ts (to_imports ts (to_parts ts (nothing_yet ts e)))
  first_front ts (inl (inr (on, f))) = inr (inl f)
  first_front ts (inr (inl (inl e))) = to_whole ts (to_imports ts (to_parts ts (nothing_yet ts e)))
  first_front ts (inr (inl (inr (on, f)))) = to_whole ts (inl (start_many (Imports n) ts (imported n ts f)))
  first_front ts (inr (inr (inl (inl e)))) = to_whole ts (to_imports ts (to_parts ts (nothing_yet ts e)))
  first_front ts (inr (inr (inl (inr (on, f))))) = to_whole ts (inl (start_many (Imports n) ts (exported n ts f)))
  first_front ts (inr (inr (inr (inl (inl (inl e)))))) = to_whole ts (to_imports ts (to_parts ts (nothing_yet ts e)))
  first_front ts (inr (inr (inr (inl (inl (inr (on, f))))))) = inl (inl f)
  first_front ts (inr (inr (inr (inl (inr (inl e)))))) = to_whole ts (to_imports ts (to_parts ts (nothing_yet ts e)))
  first_front ts (inr (inr (inr (inl (inr (inr (on, f))))))) = to_whole ts (to_imports ts (inl (start_many (Parts n) ts f)))
  first_front ts (inr (inr (inr (inr f)))) = to_whole ts (to_imports ts (to_parts ts (start_many (Decls n) ts f)))

  -- ---- whole items in front of it

  abbrev Ends : Front Token → Still → List Item → List Token → Type 0
  Ends F still all more = GoOn still all → item_front n (last still all) more → F (flat_map item_tokens all ++ more)

  decl_out : (still : Still) (a : Item) (all : List Item) (more : List Token) → Declared n a → Ends NoMore.front no_directives all more → GoOn (still_behind still a) all → item_front n (last (still_behind still a) all) more → NoMore.front (flat_map item_tokens (a ∷ all) ++ more)
  decl_out still a all more (x, fits, is) rec go f = subst (λ (b : Item). GoOn (still_behind still b) all → item_front n (last (still_behind still b) all) more → NoMore.front (flat_map item_tokens (b ∷ all) ++ more)) is
      (λ g h. subst NoMore.front (sym (append_assoc (decl_tokens x) (flat_map item_tokens all) more)) (push_many (decl_agrees n) x (flat_map item_tokens all ++ more) fits (rec g h))) go f

  -- a directive in front, behind which the state is known
  module _ (F H : Front Token) (P : Phrase Directive) (t : Still) (step : (x : Directive) → P.Fits x → behind_directive x.kind ≡ t) (push : (x : Directive) (ts : List Token) → P.Fits x → F ts → H (directive_tokens x ++ ts)) where
    directive_out : (still : Still) (a : Item) (all : List Item) (more : List Token) → Directed n P a → Ends F t all more → GoOn (still_behind still a) all → item_front n (last (still_behind still a) all) more → H (flat_map item_tokens (a ∷ all) ++ more)
    directive_out still a all more (x, fits, is) rec go f = subst (λ (b : Item). GoOn (still_behind still b) all → item_front n (last (still_behind still b) all) more → H (flat_map item_tokens (b ∷ all) ++ more)) is
        (λ g h. subst H (sym (append_assoc (directive_tokens x) (flat_map item_tokens all) more)) (push x (flat_map item_tokens all ++ more) fits (subst (λ (u : Still). Ends F u all more) (sym (step x fits)) rec g h))) go f

  out_no : (all : List Item) (more : List Token) → Ends NoMore.front no_directives all more
  out_no [] more go f = no_front more f
  out_no (a ∷ all) more go f = decl_out no_directives a all more (no_item n a go.0) (out_no all more) go.2 f

  push_part : (x : Directive) (ts : List Token) → (Parts n).Fits x → OnlyParts.front ts → OnlyParts.front (directive_tokens x ++ ts)
  push_part x ts fits f = push_seq (units_agree n).part NoMore x ts fits f

  out_parts : (all : List Item) (more : List Token) → Ends OnlyParts.front only_parts all more
  out_parts [] more go f = part_front more f
  out_parts (a ∷ all) more go f = elim (part_item n a go.0) [
    | inl v ↦ directive_out OnlyParts.front OnlyParts.front (Parts n) only_parts (step_part n) push_part only_parts a all more v (out_parts all more) go.2 f
    | inr v ↦ to_parts (flat_map item_tokens (a ∷ all) ++ more) (decl_out only_parts a all more v (out_no all more) go.2 f)
  ]

  push_import : (x : Directive) (ts : List Token) → (Imports n).Fits x → WithImports.front ts → WithImports.front (directive_tokens x ++ ts)
  push_import x ts fits f = push_seq (units_agree n).import_or_export OnlyParts x ts fits f

  out_imports : (all : List Item) (more : List Token) → Ends WithImports.front imports_and_parts all more
  out_imports [] more go f = import_front more f
  out_imports (a ∷ all) more go f = elim (import_item n a go.0) [
    | inl v ↦ directive_out WithImports.front WithImports.front (Imports n) imports_and_parts (step_import n) push_import imports_and_parts a all more v (out_imports all more) go.2 f
    | inr v ↦ elim v [
      | inl q ↦ to_imports (flat_map item_tokens (a ∷ all) ++ more) (directive_out OnlyParts.front OnlyParts.front (Parts n) only_parts (step_part n) push_part imports_and_parts a all more q (out_parts all more) go.2 f)
      | inr q ↦ to_imports (flat_map item_tokens (a ∷ all) ++ more) (to_parts (flat_map item_tokens (a ∷ all) ++ more) (decl_out imports_and_parts a all more q (out_no all more) go.2 f))
    ]
  ]

  push_library : (x : Directive) (ts : List Token) → (Libraries n).Fits x → WithImports.front ts → Whole (directive_tokens x ++ ts)
  push_library x ts fits f = inr (inr (Some x, ts, fits, refl, ap (λ (m : List Token). m ++ ts) (sym ((units_agree n).library.spells x)), f))

  push_header : (x : Directive) (ts : List Token) → (Headers n).Fits x → NoMore.front ts → Whole (directive_tokens x ++ ts)
  push_header x ts fits f = inl (inr (x, ts, fits, refl, ap (λ (m : List Token). m ++ ts) (sym ((units_agree n).part_of.spells x)), f))

  out_all : (all : List Item) (more : List Token) → Ends Whole all_directives all more
  out_all [] more go f = first_front more f
  out_all (a ∷ all) more go f = elim (first_item n a go.0) [
    | inl v ↦ directive_out WithImports.front Whole (Libraries n) imports_and_parts (step_library n) push_library all_directives a all more v (out_imports all more) go.2 f
    | inr v ↦ elim v [
      | inl q ↦ directive_out NoMore.front Whole (Headers n) no_directives (step_header n) push_header all_directives a all more q (out_no all more) go.2 f
      | inr q ↦ elim q [
        | inl r ↦ to_whole (flat_map item_tokens (a ∷ all) ++ more) (directive_out WithImports.front WithImports.front (Imports n) imports_and_parts (step_import n) push_import all_directives a all more r (out_imports all more) go.2 f)
        | inr r ↦ elim r [
          | inl u ↦ to_whole (flat_map item_tokens (a ∷ all) ++ more) (to_imports (flat_map item_tokens (a ∷ all) ++ more) (directive_out OnlyParts.front OnlyParts.front (Parts n) only_parts (step_part n) push_part all_directives a all more u (out_parts all more) go.2 f))
          | inr u ↦ to_whole (flat_map item_tokens (a ∷ all) ++ more) (to_imports (flat_map item_tokens (a ∷ all) ++ more) (to_parts (flat_map item_tokens (a ∷ all) ++ more) (decl_out all_directives a all more u (out_no all more) go.2 f)))
        ]
      ]
    ]
  ]

  pub units_begin : (ts : List Token) → Items all_directives ts → Whole ts
  units_begin ts (all, more, go, e, f) = subst Whole (sym e) (out_all all more go f)

  -- ---- and back

  base : (still : Still) (ts : List Token) → item_front n still ts → Items still ts
  base still ts f = ([], ts, tt, refl, f)

  push : (still : Still) (a : Item) (ts : List Token) → ItemFits n still a → Items (still_behind still a) ts → Items still (item_tokens a ++ ts)
  push still a ts fits (all, more, go, e, f) = (a ∷ all, more, (fits, refl, go), ap (λ (m : List Token). item_tokens a ++ m) e ∙ sym (append_assoc (item_tokens a) (flat_map item_tokens all) more), f)

  decls_into : (still : Still) (all : List Decl) (more : List Token) → AllByRecursion (Decls n).Fits all → (Decls n).front more → Items still (flat_map decl_tokens all ++ more)
  decls_into still [] more fits f = base still more (inr (inr (inr (inr f))))
  decls_into still (x ∷ all) more fits f = subst (Items still) (sym (append_assoc (decl_tokens x) (flat_map decl_tokens all) more)) (push still (a_decl x) (flat_map decl_tokens all ++ more) (decl_at n still x fits.0) (decls_into no_directives all more fits.1 f))

  no_into : (still : Still) (ts : List Token) → NoMore.front ts → Items still ts
  no_into still ts (all, more, go, e, f) = subst (Items still) (sym e) (decls_into still all more (each_of (Decls n) all go) f)

  -- directives of a kind in front of what may stand in each state in which they may
  module _ (P : Phrase Directive) (G : Agrees directive_tokens P) (t : Still) (step : (x : Directive) → P.Fits x → behind_directive x.kind ≡ t) (Ok_ : Still → Type 0) (ok : Ok_ t) (at : (still : Still) → Ok_ still → (x : Directive) → P.Fits x → ItemFits n still (a_directive x)) where
    directives_into : (still : Still) → Ok_ still → (all : List Directive) (more : List Token) → AllByRecursion P.Fits all → ((u : Still) → Ok_ u → Items u more) → Items still (flat_map P.spelling all ++ more)
    directives_into still on [] more fits go = go still on
    directives_into still on (x ∷ all) more fits go = subst (Items still) (ap (λ (m : List Token). m ++ (flat_map P.spelling all ++ more)) (sym (G.spells x)) ∙ sym (append_assoc (P.spelling x) (flat_map P.spelling all) more))
        (push still (a_directive x) (flat_map P.spelling all ++ more) (at still on x fits.0) (subst (λ (u : Still). Items u (flat_map P.spelling all ++ more)) (sym (step x fits.0)) (directives_into t ok all more fits.1 go)))

  abbrev HaveParts : Still → Type 0
  HaveParts still = may_have_parts still ≡ true

  parts_into : (still : Still) → HaveParts still → (ts : List Token) → OnlyParts.front ts → Items still ts
  parts_into still on ts (inl (all, more, go, e, f)) = subst (Items still) (sym e) (directives_into (Parts n) (units_agree n).part only_parts (step_part n) HaveParts refl (part_at n) still on all more (each_of (Parts n) all go)
      (λ u o. base u more (inr (inr (inr (inl (inr (inr (o, f)))))))))
  parts_into still on ts (inr (all, more, fits, so, e, f)) = subst (Items still) (sym e) (directives_into (Parts n) (units_agree n).part only_parts (step_part n) HaveParts refl (part_at n) still on all more fits (λ u o. no_into u more f))

  abbrev HaveImports : Still → Type 0
  HaveImports still = (may_import still ≡ true) × (may_have_parts still ≡ true)

  import_begins : (still : Still) → may_import still ≡ true → (ts : List Token) → (Imports n).front ts → Items still ts
  import_begins still on ts f = base still ts (elim (imports_begin n ts f) [ inl h ↦ inr (inl (inr (on, h))) | inr h ↦ inr (inr (inl (inr (on, h)))) ])

  imports_into : (still : Still) → HaveImports still → (ts : List Token) → WithImports.front ts → Items still ts
  imports_into still on ts (inl (all, more, go, e, f)) = subst (Items still) (sym e) (directives_into (Imports n) (units_agree n).import_or_export imports_and_parts (step_import n) HaveImports (refl, refl) (λ u o x fits. import_at n u o.0 x fits) still on all more (each_of (Imports n) all go)
      (λ u o. import_begins u o.0 more f))
  imports_into still on ts (inr (all, more, fits, so, e, f)) = subst (Items still) (sym e) (directives_into (Imports n) (units_agree n).import_or_export imports_and_parts (step_import n) HaveImports (refl, refl) (λ u o x own. import_at n u o.0 x own) still on all more fits (λ u o. parts_into u o.1 more f))

  pub units_begun : (ts : List Token) → Whole ts → Items all_directives ts
  units_begun ts (inl (inl f)) = base all_directives ts (inr (inr (inr (inl (inl (inr (refl, f)))))))
  units_begun ts (inl (inr (x, more, fits, on, e, f))) = subst (Items all_directives) (ap (λ (m : List Token). m ++ more) (sym ((units_agree n).part_of.spells x)) ∙ sym e)
      (push all_directives (a_directive x) more (header_at n x fits) (subst (λ (u : Still). Items u more) (sym (step_header n x fits)) (no_into no_directives more f)))
  units_begun ts (inr (inl f)) = base all_directives ts (inl (inr (refl, f)))
  units_begun ts (inr (inr (None, more, fits, on, e, f))) = subst (Items all_directives) (sym e) (imports_into all_directives (refl, refl) more f)
  units_begun ts (inr (inr (Some x, more, fits, on, e, f))) = subst (Items all_directives) (ap (λ (m : List Token). m ++ more) (sym ((units_agree n).library.spells x)) ∙ sym e)
      (push all_directives (a_directive x) more (library_at n x fits) (subst (λ (u : Still). Items u more) (sym (step_library n x fits)) (imports_into imports_and_parts (refl, refl) more f)))
