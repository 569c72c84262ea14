-- Other names, and what is left of a program without annotations and columns, are given in either order.
use Rattle.std.proofs.Common.{◌≡◌, ◌∙◌, refl, sym, ap, ℕ, List, [], ◌∷◌, map, length, Option, Bool, true, false}
use Rattle.dart_base.specs.Names.{AreDistinct}
use Rattle.dart_ir.specs.Ty.{TyOf, TysOf, NamedTysOf, dynamic, bottom, void, class as class_ty, parameter as parameter_ty, function as function_ty, nil, cons, unnamed, named as named_ty}
use Rattle.core_program.specs.Alike as alike
use Rattle.core_program.specs.Core.{Core, Form, Cores, Part, Handler, Test, Handlers, Case, Cases}
use Rattle.core_program.specs.Core as c
use Rattle.core_program.specs.Named as named
use Rattle.core_program.specs.Program as p
use Rattle.core_program.specs.Program.{Program}
use Rattle.core_program.specs.ProgramView.{text_at}
use Rattle.core_program.specs.Stripped as stripped
use Rattle.core_names.specs.Within.{AreWithin, number_at}
use Rattle.core_names.proofs.Found.{numbers_back}

all_either : {A B C D : Type 0} (g : B → D) (h : A → B) (k : C → D) (l : A → C) → ((x : A) → g (h x) ≡ k (l x)) → (xs : List A)
    → map g (map h xs) ≡ map k (map l xs)
all_either g h k l each [] = refl
all_either g h k l each (x ∷ xs) = λ i. each x i ∷ all_either g h k l each xs i

all_three : {A B C D E F : Type 0} (g : C → F) (h : B → C) (j : A → B) (k : E → F) (l : D → E) (m : A → D)
    → ((x : A) → g (h (j x)) ≡ k (l (m x))) → (xs : List A) → map g (map h (map j xs)) ≡ map k (map l (map m xs))
all_three g h j k l m each [] = refl
all_three g h j k l m each (x ∷ xs) = λ i. each x i ∷ all_three g h j k l m each xs i

module _ {M N : Type 0} (f : M → N) where
  -- ---- types

  dynamic_either : (ts : TysOf M) → named.tys f (stripped.all_dynamic ts) ≡ stripped.all_dynamic (named.tys f ts)
  dynamic_either nil = refl
  dynamic_either (cons t ts) = ap (cons dynamic) (dynamic_either ts)

  named_dynamic_either : (ts : NamedTysOf M) → named.named_tys f (stripped.all_named_dynamic ts) ≡ stripped.all_named_dynamic (named.named_tys f ts)
  named_dynamic_either unnamed = refl
  named_dynamic_either (named_ty n t ts) = ap (named_ty (f n) dynamic) (named_dynamic_either ts)

  loose_either : (t : TyOf M) → named.ty f (stripped.loose t) ≡ stripped.loose (named.ty f t)
  loose_either dynamic = refl
  loose_either bottom = refl
  loose_either void = refl
  loose_either (class_ty k ts) = refl
  loose_either (parameter_ty n) = refl
  loose_either (function_ty result required optional names) = λ i.
      function_ty dynamic (dynamic_either required i) (dynamic_either optional i) (named_dynamic_either names i)

  asked_either : (annotated : Bool) (of : Option (TyOf M)) → named.ty_option f (stripped.asked annotated of) ≡ stripped.asked annotated (named.ty_option f of)
  asked_either true of = refl
  asked_either false of = refl

  -- ---- forms

  mutual
    core_either : (x : Core M) → named.core f (alike.core x) ≡ alike.core (named.core f x)
    core_either (c.at place x) = ap (c.at (alike.line place)) (form_either x)

    form_either : (x : Form M) → named.form f (alike.form x) ≡ alike.form (named.form f x)
    form_either (c.leaf x) = refl
    form_either (c.type_literal t) = refl
    form_either (c.unary x operand) = ap (c.unary (named.unary f x)) (core_either operand)
    form_either (c.binary x first second) = λ i. c.binary (named.binary f x) (core_either first i) (core_either second i)
    form_either (c.row x operands names) = λ i. c.row (named.job f x) (cores_either operands i) (map f names)
    form_either (c.let_in x value body) = λ i. c.let_in x (core_either value i) (core_either body i)
    form_either (c.block forms) = ap c.block (cores_either forms)
    form_either (c.choice condition first second) = λ i.
        c.choice (core_either condition i) (part_either first i) (part_either second i)
    form_either (c.new k d types operands names) = λ i. c.new k d (map (named.ty f) types) (cores_either operands i) (map f names)
    form_either (c.list types items) = ap (c.list (map (named.ty f) types)) (cores_either items)
    form_either (c.is_type value t) = λ i. c.is_type (core_either value i) (named.ty f t)
    form_either (c.as_type value t) = λ i. c.as_type (core_either value i) (named.ty f t)
    form_either (c.loop target copies condition update body) = λ i.
        c.loop target copies (part_either condition i) (part_either update i) (part_either body i)
    form_either (c.return value) = ap c.return (part_either value)
    form_either (c.try body handlers last) = λ i. c.try (core_either body i) (handlers_either handlers i) (part_either last i)
    form_either (c.switch target value cases) = λ i. c.switch target (core_either value i) (cases_either cases i)
    form_either (c.labelled target body) = ap (c.labelled target) (core_either body)

    cores_either : (xs : Cores M) → named.cores f (alike.cores xs) ≡ alike.cores (named.cores f xs)
    cores_either c.no_cores = refl
    cores_either (c.core_more x xs) = λ i. c.core_more (core_either x i) (cores_either xs i)

    part_either : (x : Part M) → named.part f (alike.part x) ≡ alike.part (named.part f x)
    part_either c.missing = refl
    part_either (c.given x) = ap c.given (core_either x)

    handler_either : (x : Handler M) → named.handler f (alike.handler x) ≡ alike.handler (named.handler f x)
    handler_either (c.handler x exception trace body) = λ i. c.handler (test_either x i) exception trace (core_either body i)

    test_either : (x : Test M) → named.test f (alike.test x) ≡ alike.test (named.test f x)
    test_either c.everything = refl
    test_either (c.on t) = refl
    test_either (c.malformed x) = ap c.malformed (core_either x)

    handlers_either : (xs : Handlers M) → named.handlers_named f (alike.all_handlers xs) ≡ alike.all_handlers (named.handlers_named f xs)
    handlers_either c.no_handlers = refl
    handlers_either (c.handler_more x xs) = λ i. c.handler_more (handler_either x i) (handlers_either xs i)

    case_either : (x : Case M) → named.case f (alike.case x) ≡ alike.case (named.case f x)
    case_either (c.case value body) = ap (c.case value) (core_either body)

    cases_either : (xs : Cases M) → named.cases_named f (alike.all_cases xs) ≡ alike.all_cases (named.cases_named f xs)
    cases_either c.no_cases = refl
    cases_either (c.case_more x xs) = λ i. c.case_more (case_either x i) (cases_either xs i)

  -- ---- programs

  member_either : (x : p.Member M) → named.member f (alike.member (stripped.member x)) ≡ alike.member (stripped.member (named.member f x))
  member_either x = λ i. record (alike.member (stripped.member (named.member f x))) { signature = loose_either x.signature i }

  function_either : (x : p.Function M) → named.function f (alike.function (stripped.function x)) ≡ alike.function (stripped.function (named.function f x))
  function_either x = λ i. record (alike.function (stripped.function (named.function f x))) {
    signature = loose_either x.signature i;
    body = part_either x.body i;
  }

  static_either : (x : p.Static M) → named.static f (alike.static x) ≡ alike.static (named.static f x)
  static_either x = λ i. record (alike.static (named.static f x)) { init = part_either x.init i }

  site_either : (x : p.Site M) → named.site f (alike.site (stripped.site x)) ≡ alike.site (stripped.site (named.site f x))
  site_either x = λ i. record (alike.site (stripped.site (named.site f x))) { required = asked_either x.annotated x.required i }

  pub program_either : (q : Program M) → named.program f (alike.program (stripped.program q)) ≡ alike.program (stripped.program (named.program f q))
  program_either q = λ i. record (alike.program (stripped.program (named.program f q))) {
    classes = all_either (named.class f) alike.class alike.class (named.class f) (λ x. refl) q.classes i;
    members = all_three (named.member f) alike.member stripped.member alike.member stripped.member (named.member f) member_either q.members i;
    functions = all_three (named.function f) alike.function stripped.function alike.function stripped.function (named.function f) function_either q.functions i;
    statics = all_either (named.static f) alike.static alike.static (named.static f) static_either q.statics i;
    sites = all_three (named.site f) alike.site stripped.site alike.site stripped.site (named.site f) site_either q.sites i;
  }

module _ (texts : List (List ℕ)) (distinct : AreDistinct texts) where
  bare_back : (q : Program ℕ) → AreWithin (length texts) q
      → named.program (number_at texts) (alike.program (stripped.program (named.program (text_at texts) q))) ≡ alike.program (stripped.program q)
  bare_back q within = program_either (number_at texts) (named.program (text_at texts) q)
      ∙ ap (λ (u : Program ℕ). alike.program (stripped.program u)) (numbers_back texts distinct q within)

  pub same_bare : (q r : Program ℕ) → AreWithin (length texts) q → AreWithin (length texts) r
      → alike.program (stripped.program (named.program (text_at texts) q)) ≡ alike.program (stripped.program (named.program (text_at texts) r))
      → alike.program (stripped.program q) ≡ alike.program (stripped.program r)
  same_bare q r one other same = sym (bare_back q one) ∙ ap (named.program (number_at texts)) same ∙ bare_back r other
