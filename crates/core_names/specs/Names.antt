-- The names in a program, each as often as it stands there. Constants hold none.
use Rattle.std.specs.Prelude.{List, [], ◌∷◌, ◌++◌, Option, Some, None}
use Rattle.std.specs.List.{flat_map}
use Rattle.dart_ir.specs.Ty.{TyOf, TysOf, NamedTysOf, dynamic, bottom, void, class as class_ty, parameter as parameter_ty, function as function_ty, nil, cons, unnamed, named}
use Rattle.core_program.specs.Core.{Leaf, Unary, Binary, Job, Core, Form, Cores, Part, Handler, Test, Handlers, Case, Cases}
use Rattle.core_program.specs.Core as c
use Rattle.core_program.specs.Program as p

-- ---- types: the names of named parameters

abbrev mutual
  pub ty_names : {N : Type 0} → TyOf N → List N
  ty_names dynamic = []
  ty_names bottom = []
  ty_names void = []
  ty_names (class_ty k ts) = tys_names ts
  ty_names (parameter_ty i) = []
  ty_names (function_ty result required optional parameters) =
      ty_names result ++ tys_names required ++ tys_names optional ++ named_tys_names parameters

  pub tys_names : {N : Type 0} → TysOf N → List N
  tys_names nil = []
  tys_names (cons t ts) = ty_names t ++ tys_names ts

  pub named_tys_names : {N : Type 0} → NamedTysOf N → List N
  named_tys_names unnamed = []
  named_tys_names (named n t ts) = n ∷ (ty_names t ++ named_tys_names ts)

abbrev pub ty_option_names : {N : Type 0} → Option (TyOf N) → List N
ty_option_names None = []
ty_option_names (Some t) = ty_names t

-- ---- forms

abbrev pub leaf_names : {N : Type 0} → Leaf N → List N
leaf_names (c.constant value) = []
leaf_names c.this = []
leaf_names (c.read x) = []
leaf_names (c.static_read d) = []
leaf_names (c.field i) = []
leaf_names (c.closure d) = []
leaf_names (c.jump way target) = []
leaf_names c.rethrow = []
leaf_names (c.raise thrown n is_setter) = n ∷ []

abbrev pub unary_names : {N : Type 0} → Unary N → List N
unary_names (c.var x) = []
unary_names (c.write x) = []
unary_names (c.static_write d) = []
unary_names (c.field_write i) = []
unary_names (c.get n) = n ∷ []
unary_names (c.check site) = []
unary_names c.throw = []

abbrev pub binary_names : {N : Type 0} → Binary N → List N
binary_names c.equal = []
binary_names (c.set n) = n ∷ []

abbrev pub job_names : {N : Type 0} → Job N → List N
job_names (c.send n) = n ∷ []
job_names (c.super role n) = n ∷ []
job_names (c.call d) = []
job_names c.apply = []
job_names (c.super_new d) = []
job_names c.join = []
job_names (c.native native) = []

abbrev mutual
  pub core_names : {N : Type 0} → Core N → List N
  core_names (c.at place x) = form_names x

  pub form_names : {N : Type 0} → Form N → List N
  form_names (c.leaf x) = leaf_names x
  form_names (c.type_literal t) = ty_names t
  form_names (c.unary x operand) = unary_names x ++ core_names operand
  form_names (c.binary x first second) = binary_names x ++ core_names first ++ core_names second
  form_names (c.row x operands names) = job_names x ++ cores_names operands ++ names
  form_names (c.let_in x value body) = core_names value ++ core_names body
  form_names (c.block forms) = cores_names forms
  form_names (c.choice condition first second) = core_names condition ++ part_names first ++ part_names second
  form_names (c.new k d types operands names) = flat_map ty_names types ++ cores_names operands ++ names
  form_names (c.list types items) = flat_map ty_names types ++ cores_names items
  form_names (c.is_type value t) = core_names value ++ ty_names t
  form_names (c.as_type value t) = core_names value ++ ty_names t
  form_names (c.loop target copies condition update body) = part_names condition ++ part_names update ++ part_names body
  form_names (c.return value) = part_names value
  form_names (c.try body handlers last) = core_names body ++ handlers_names handlers ++ part_names last
  form_names (c.switch target value cases) = core_names value ++ cases_names cases
  form_names (c.labelled target body) = core_names body

  pub cores_names : {N : Type 0} → Cores N → List N
  cores_names c.no_cores = []
  cores_names (c.core_more x xs) = core_names x ++ cores_names xs

  pub part_names : {N : Type 0} → Part N → List N
  part_names c.missing = []
  part_names (c.given x) = core_names x

  pub handler_names : {N : Type 0} → Handler N → List N
  handler_names (c.handler x exception trace body) = test_names x ++ core_names body

  pub test_names : {N : Type 0} → Test N → List N
  test_names c.everything = []
  test_names (c.on t) = ty_names t
  test_names (c.malformed x) = core_names x

  pub handlers_names : {N : Type 0} → Handlers N → List N
  handlers_names c.no_handlers = []
  handlers_names (c.handler_more x xs) = handler_names x ++ handlers_names xs

  pub case_names : {N : Type 0} → Case N → List N
  case_names (c.case value body) = core_names body

  pub cases_names : {N : Type 0} → Cases N → List N
  cases_names c.no_cases = []
  cases_names (c.case_more x xs) = case_names x ++ cases_names xs

-- ---- programs

abbrev pub class_names : {N : Type 0} → p.Class N → List N
class_names x =
    x.name ∷ (flat_map ty_option_names x.bounds ++ ty_option_names x.superclass ++ flat_map ty_names x.interfaces)

abbrev pub member_names : {N : Type 0} → p.Member N → List N
member_names x = x.name ∷ ty_names x.signature

abbrev pub parameter_names : {N : Type 0} → p.Parameter N → List N
parameter_names x = x.name ∷ []

abbrev pub function_names : {N : Type 0} → p.Function N → List N
function_names x = x.name ∷ (flat_map parameter_names x.parameters ++ ty_names x.signature ++ part_names x.body)

abbrev pub static_names : {N : Type 0} → p.Static N → List N
static_names x = x.name ∷ part_names x.init

abbrev pub site_names : {N : Type 0} → p.Site N → List N
site_names x = ty_option_names x.required

-- the names of its classes, members, functions, static variables and sites
abbrev pub program_names : {N : Type 0} → p.Program N → List N
program_names x =
    flat_map class_names x.classes ++ flat_map member_names x.members ++ flat_map function_names x.functions
    ++ flat_map static_names x.statics ++ flat_map site_names x.sites
