-- What has other names, and then its own again, is the same.
use Rattle.std.proofs.Common.{◌≡◌, List, [], ◌∷◌, ◌++◌, map, Option, Some, None, refl, ap, ap₂}
use Rattle.std.specs.List.{flat_map, AllByRecursion}
use Rattle.dart_ir.specs.Ty.{TyOf, TysOf, NamedTysOf, dynamic, bottom, void, class as class_ty, parameter as parameter_ty, function as function_ty, nil, cons, unnamed, named}
use Rattle.core_program.specs.Core.{Leaf, Unary, Binary, Job, Core, Form, Cores, Part, Handler, Test, Handlers, Case, Cases}
use Rattle.core_program.specs.Core as c
use Rattle.core_program.specs.Program as p
use Rattle.core_program.specs.Named as n
use Rattle.core_names.specs.Names.{ty_names, tys_names, named_tys_names, ty_option_names, leaf_names, unary_names, binary_names, job_names, core_names, form_names, cores_names, part_names, handler_names, test_names, handlers_names, case_names, cases_names, class_names, member_names, parameter_names, function_names, static_names, site_names, program_names}

-- g gives the names, and f takes them back
module _ {N M : Type 0} (g : N → M) (f : M → N) where
  abbrev pub Back : List N → Type 0
  Back = AllByRecursion (λ x. f (g x) ≡ x)

  pub halves : (xs ys : List N) → Back (xs ++ ys) → Back xs × Back ys
  halves [] ys h = (tt, h)
  halves (x ∷ xs) ys h = let r = halves xs ys h.1 in ((h.0, r.0), r.1)

  pub thirds : (xs ys zs : List N) → Back (xs ++ ys ++ zs) → Back xs × Back ys × Back zs
  thirds xs ys zs h = let r = halves (xs ++ ys) zs h in let s = halves xs ys r.0 in (s.0, s.1, r.1)

  pub all_back : {A B : Type 0} (names : A → List N) (there : A → B) (back : B → A) → ((x : A) → Back (names x) → back (there x) ≡ x)
      → (xs : List A) → Back (flat_map names xs) → map back (map there xs) ≡ xs
  all_back names there back each [] h = refl
  all_back names there back each (x ∷ xs) h =
      let r = halves (names x) (flat_map names xs) h in ap₂ (λ y ys. y ∷ ys) (each x r.0) (all_back names there back each xs r.1)

  names_back : (xs : List N) → Back xs → map f (map g xs) ≡ xs
  names_back [] h = refl
  names_back (x ∷ xs) h = ap₂ (λ y ys. y ∷ ys) h.0 (names_back xs h.1)

  -- ---- types

  mutual
    pub ty_back : (t : TyOf N) → Back (ty_names t) → n.ty f (n.ty g t) ≡ t
    ty_back dynamic h = refl
    ty_back bottom h = refl
    ty_back void h = refl
    ty_back (class_ty k ts) h = ap (class_ty k) (tys_back ts h)
    ty_back (parameter_ty i) h = refl
    ty_back (function_ty result required optional parameters) h =
        let r = halves (ty_names result ++ tys_names required ++ tys_names optional) (named_tys_names parameters) h in
        let s = thirds (ty_names result) (tys_names required) (tys_names optional) r.0 in
        λ i. function_ty (ty_back result s.0 i) (tys_back required s.1 i) (tys_back optional s.2 i) (named_tys_back parameters r.1 i)

    tys_back : (ts : TysOf N) → Back (tys_names ts) → n.tys f (n.tys g ts) ≡ ts
    tys_back nil h = refl
    tys_back (cons t ts) h = let r = halves (ty_names t) (tys_names ts) h in λ i. cons (ty_back t r.0 i) (tys_back ts r.1 i)

    named_tys_back : (ts : NamedTysOf N) → Back (named_tys_names ts) → n.named_tys f (n.named_tys g ts) ≡ ts
    named_tys_back unnamed h = refl
    named_tys_back (named x t ts) h =
        let r = halves (ty_names t) (named_tys_names ts) h.1 in λ i. named (h.0 i) (ty_back t r.0 i) (named_tys_back ts r.1 i)

  pub ty_option_back : (o : Option (TyOf N)) → Back (ty_option_names o) → n.ty_option f (n.ty_option g o) ≡ o
  ty_option_back None h = refl
  ty_option_back (Some t) h = ap Some (ty_back t h)

  types_back : (ts : List (TyOf N)) → Back (flat_map ty_names ts) → map (n.ty f) (map (n.ty g) ts) ≡ ts
  types_back = all_back ty_names (n.ty g) (n.ty f) ty_back

  -- ---- forms

  leaf_back : (x : Leaf N) → Back (leaf_names x) → n.leaf f (n.leaf g x) ≡ x
  leaf_back (c.constant value) h = refl
  leaf_back c.this h = refl
  leaf_back (c.read x) h = refl
  leaf_back (c.static_read d) h = refl
  leaf_back (c.field i) h = refl
  leaf_back (c.closure d) h = refl
  leaf_back (c.jump way target) h = refl
  leaf_back c.rethrow h = refl
  leaf_back (c.raise thrown x is_setter) h = ap (λ y. c.raise thrown y is_setter) h.0

  unary_back : (x : Unary N) → Back (unary_names x) → n.unary f (n.unary g x) ≡ x
  unary_back (c.var x) h = refl
  unary_back (c.write x) h = refl
  unary_back (c.static_write d) h = refl
  unary_back (c.field_write i) h = refl
  unary_back (c.get x) h = ap c.get h.0
  unary_back (c.check site) h = refl
  unary_back c.throw h = refl

  binary_back : (x : Binary N) → Back (binary_names x) → n.binary f (n.binary g x) ≡ x
  binary_back c.equal h = refl
  binary_back (c.set x) h = ap c.set h.0

  job_back : (x : Job N) → Back (job_names x) → n.job f (n.job g x) ≡ x
  job_back (c.send x) h = ap c.send h.0
  job_back (c.super role x) h = ap (c.super role) h.0
  job_back (c.call d) h = refl
  job_back c.apply h = refl
  job_back (c.super_new d) h = refl
  job_back c.join h = refl
  job_back (c.native native) h = refl

  mutual
    core_back : (x : Core N) → Back (core_names x) → n.core f (n.core g x) ≡ x
    core_back (c.at place x) h = ap (c.at place) (form_back x h)

    form_back : (x : Form N) → Back (form_names x) → n.form f (n.form g x) ≡ x
    form_back (c.leaf x) h = ap c.leaf (leaf_back x h)
    form_back (c.type_literal t) h = ap c.type_literal (ty_back t h)
    form_back (c.unary x operand) h =
        let r = halves (unary_names x) (core_names operand) h in λ i. c.unary (unary_back x r.0 i) (core_back operand r.1 i)
    form_back (c.binary x first second) h =
        let r = thirds (binary_names x) (core_names first) (core_names second) h in
        λ i. c.binary (binary_back x r.0 i) (core_back first r.1 i) (core_back second r.2 i)
    form_back (c.row x operands names) h =
        let r = thirds (job_names x) (cores_names operands) names h in
        λ i. c.row (job_back x r.0 i) (cores_back operands r.1 i) (names_back names r.2 i)
    form_back (c.let_in x value body) h =
        let r = halves (core_names value) (core_names body) h in λ i. c.let_in x (core_back value r.0 i) (core_back body r.1 i)
    form_back (c.block forms) h = ap c.block (cores_back forms h)
    form_back (c.choice condition first second) h =
        let r = thirds (core_names condition) (part_names first) (part_names second) h in
        λ i. c.choice (core_back condition r.0 i) (part_back first r.1 i) (part_back second r.2 i)
    form_back (c.new k d types operands names) h =
        let r = thirds (flat_map ty_names types) (cores_names operands) names h in
        λ i. c.new k d (types_back types r.0 i) (cores_back operands r.1 i) (names_back names r.2 i)
    form_back (c.list types items) h =
        let r = halves (flat_map ty_names types) (cores_names items) h in λ i. c.list (types_back types r.0 i) (cores_back items r.1 i)
    form_back (c.is_type value t) h =
        let r = halves (core_names value) (ty_names t) h in λ i. c.is_type (core_back value r.0 i) (ty_back t r.1 i)
    form_back (c.as_type value t) h =
        let r = halves (core_names value) (ty_names t) h in λ i. c.as_type (core_back value r.0 i) (ty_back t r.1 i)
    form_back (c.loop target copies condition update body) h =
        let r = thirds (part_names condition) (part_names update) (part_names body) h in
        λ i. c.loop target copies (part_back condition r.0 i) (part_back update r.1 i) (part_back body r.2 i)
    form_back (c.return value) h = ap c.return (part_back value h)
    form_back (c.try body handlers last) h =
        let r = thirds (core_names body) (handlers_names handlers) (part_names last) h in
        λ i. c.try (core_back body r.0 i) (handlers_back handlers r.1 i) (part_back last r.2 i)
    form_back (c.switch target value cases) h =
        let r = halves (core_names value) (cases_names cases) h in λ i. c.switch target (core_back value r.0 i) (cases_back cases r.1 i)
    form_back (c.labelled target body) h = ap (c.labelled target) (core_back body h)

    cores_back : (xs : Cores N) → Back (cores_names xs) → n.cores f (n.cores g xs) ≡ xs
    cores_back c.no_cores h = refl
    cores_back (c.core_more x xs) h =
        let r = halves (core_names x) (cores_names xs) h in λ i. c.core_more (core_back x r.0 i) (cores_back xs r.1 i)

    part_back : (x : Part N) → Back (part_names x) → n.part f (n.part g x) ≡ x
    part_back c.missing h = refl
    part_back (c.given x) h = ap c.given (core_back x h)

    handler_back : (x : Handler N) → Back (handler_names x) → n.handler f (n.handler g x) ≡ x
    handler_back (c.handler x exception trace body) h =
        let r = halves (test_names x) (core_names body) h in λ i. c.handler (test_back x r.0 i) exception trace (core_back body r.1 i)

    test_back : (x : Test N) → Back (test_names x) → n.test f (n.test g x) ≡ x
    test_back c.everything h = refl
    test_back (c.on t) h = ap c.on (ty_back t h)
    test_back (c.malformed x) h = ap c.malformed (core_back x h)

    handlers_back : (xs : Handlers N) → Back (handlers_names xs) → n.handlers_named f (n.handlers_named g xs) ≡ xs
    handlers_back c.no_handlers h = refl
    handlers_back (c.handler_more x xs) h =
        let r = halves (handler_names x) (handlers_names xs) h in λ i. c.handler_more (handler_back x r.0 i) (handlers_back xs r.1 i)

    case_back : (x : Case N) → Back (case_names x) → n.case f (n.case g x) ≡ x
    case_back (c.case value body) h = ap (c.case value) (core_back body h)

    cases_back : (xs : Cases N) → Back (cases_names xs) → n.cases_named f (n.cases_named g xs) ≡ xs
    cases_back c.no_cases h = refl
    cases_back (c.case_more x xs) h =
        let r = halves (case_names x) (cases_names xs) h in λ i. c.case_more (case_back x r.0 i) (cases_back xs r.1 i)

  -- ---- programs

  class_back : (x : p.Class N) → Back (class_names x) → n.class f (n.class g x) ≡ x
  class_back x h =
      let r = thirds (flat_map ty_option_names x.bounds) (ty_option_names x.superclass) (flat_map ty_names x.interfaces) h.1 in
      λ i. record x {
        name = h.0 i;
        bounds = all_back ty_option_names (n.ty_option g) (n.ty_option f) ty_option_back x.bounds r.0 i;
        superclass = ty_option_back x.superclass r.1 i;
        interfaces = types_back x.interfaces r.2 i;
      }

  member_back : (x : p.Member N) → Back (member_names x) → n.member f (n.member g x) ≡ x
  member_back x h = λ i. record x { name = h.0 i; signature = ty_back x.signature h.1 i }

  parameter_back : (x : p.Parameter N) → Back (parameter_names x) → n.parameter f (n.parameter g x) ≡ x
  parameter_back x h = λ i. record x { name = h.0 i }

  function_back : (x : p.Function N) → Back (function_names x) → n.function f (n.function g x) ≡ x
  function_back x h =
      let r = thirds (flat_map parameter_names x.parameters) (ty_names x.signature) (part_names x.body) h.1 in
      λ i. record x {
        name = h.0 i;
        parameters = all_back parameter_names (n.parameter g) (n.parameter f) parameter_back x.parameters r.0 i;
        signature = ty_back x.signature r.1 i;
        body = part_back x.body r.2 i;
      }

  static_back : (x : p.Static N) → Back (static_names x) → n.static f (n.static g x) ≡ x
  static_back x h = λ i. record x { name = h.0 i; init = part_back x.init h.1 i }

  site_back : (x : p.Site N) → Back (site_names x) → n.site f (n.site g x) ≡ x
  site_back x h = λ i. record x { required = ty_option_back x.required h i }

  pub program_back : (q : p.Program N) → Back (program_names q) → n.program f (n.program g q) ≡ q
  program_back q h =
      let r = thirds (flat_map class_names q.classes ++ flat_map member_names q.members ++ flat_map function_names q.functions)
      (flat_map static_names q.statics) (flat_map site_names q.sites) h in
      let s = thirds (flat_map class_names q.classes) (flat_map member_names q.members) (flat_map function_names q.functions) r.0 in
      λ i. record q {
        classes = all_back class_names (n.class g) (n.class f) class_back q.classes s.0 i;
        members = all_back member_names (n.member g) (n.member f) member_back q.members s.1 i;
        functions = all_back function_names (n.function g) (n.function f) function_back q.functions s.2 i;
        statics = all_back static_names (n.static g) (n.static f) static_back q.statics r.1 i;
        sites = all_back site_names (n.site g) (n.site f) site_back q.sites r.2 i;
      }
