-- A program with other names: f says which.
use Rattle.std.specs.Prelude.{ℕ, List, map, Option, Some, None}
use Rattle.dart_ir.specs.Ty.{TyOf, TysOf, NamedTysOf, dynamic, bottom, void, class as class_ty, parameter as parameter_ty, function as function_ty, nil, cons, unnamed, named}
use Rattle.core_program.specs.Core.{Leaf, Unary, Binary, Job, Core, Form, Cores, Part, Handler, Test, Handlers, Case, Cases}
use Rattle.core_program.specs.Core as c
use Rattle.core_program.specs.Program as p

abbrev mutual
  pub ty : {N M : Type 0} → (N → M) → TyOf N → TyOf M
  ty f dynamic = dynamic
  ty f bottom = bottom
  ty f void = void
  ty f (class_ty k ts) = class_ty k (tys f ts)
  ty f (parameter_ty i) = parameter_ty i
  ty f (function_ty result required optional names) =
      function_ty (ty f result) (tys f required) (tys f optional) (named_tys f names)

  pub tys : {N M : Type 0} → (N → M) → TysOf N → TysOf M
  tys f nil = nil
  tys f (cons t ts) = cons (ty f t) (tys f ts)

  pub named_tys : {N M : Type 0} → (N → M) → NamedTysOf N → NamedTysOf M
  named_tys f unnamed = unnamed
  named_tys f (named n t ts) = named (f n) (ty f t) (named_tys f ts)

abbrev pub ty_option : {N M : Type 0} → (N → M) → Option (TyOf N) → Option (TyOf M)
ty_option f None = None
ty_option f (Some t) = Some (ty f t)

abbrev pub leaf : {N M : Type 0} → (N → M) → Leaf N → Leaf M
leaf f (c.constant value) = c.constant value
leaf f c.this = c.this
leaf f (c.read x) = c.read x
leaf f (c.static_read d) = c.static_read d
leaf f (c.field i) = c.field i
leaf f (c.closure d) = c.closure d
leaf f (c.jump way target) = c.jump way target
leaf f c.rethrow = c.rethrow
leaf f (c.raise thrown n is_setter) = c.raise thrown (f n) is_setter

abbrev pub unary : {N M : Type 0} → (N → M) → Unary N → Unary M
unary f (c.var x) = c.var x
unary f (c.write x) = c.write x
unary f (c.static_write d) = c.static_write d
unary f (c.field_write i) = c.field_write i
unary f (c.get n) = c.get (f n)
unary f (c.check site) = c.check site
unary f c.throw = c.throw

abbrev pub binary : {N M : Type 0} → (N → M) → Binary N → Binary M
binary f c.equal = c.equal
binary f (c.set n) = c.set (f n)

abbrev pub job : {N M : Type 0} → (N → M) → Job N → Job M
job f (c.send n) = c.send (f n)
job f (c.super role n) = c.super role (f n)
job f (c.call d) = c.call d
job f c.apply = c.apply
job f (c.super_new d) = c.super_new d
job f c.join = c.join
job f (c.native native) = c.native native

abbrev mutual
  pub core : {N M : Type 0} → (N → M) → Core N → Core M
  core f (c.at place x) = c.at place (form f x)

  pub form : {N M : Type 0} → (N → M) → Form N → Form M
  form f (c.leaf x) = c.leaf (leaf f x)
  form f (c.type_literal t) = c.type_literal (ty f t)
  form f (c.unary x operand) = c.unary (unary f x) (core f operand)
  form f (c.binary x first second) = c.binary (binary f x) (core f first) (core f second)
  form f (c.row x operands names) = c.row (job f x) (cores f operands) (map f names)
  form f (c.let_in x value body) = c.let_in x (core f value) (core f body)
  form f (c.block forms) = c.block (cores f forms)
  form f (c.choice condition first second) = c.choice (core f condition) (part f first) (part f second)
  form f (c.new k d types operands names) = c.new k d (map (ty f) types) (cores f operands) (map f names)
  form f (c.list types items) = c.list (map (ty f) types) (cores f items)
  form f (c.is_type value t) = c.is_type (core f value) (ty f t)
  form f (c.as_type value t) = c.as_type (core f value) (ty f t)
  form f (c.loop target copies condition update body) =
      c.loop target copies (part f condition) (part f update) (part f body)
  form f (c.return value) = c.return (part f value)
  form f (c.try body handlers last) = c.try (core f body) (handlers_named f handlers) (part f last)
  form f (c.switch target value cases) = c.switch target (core f value) (cases_named f cases)
  form f (c.labelled target body) = c.labelled target (core f body)

  pub cores : {N M : Type 0} → (N → M) → Cores N → Cores M
  cores f c.no_cores = c.no_cores
  cores f (c.core_more x xs) = c.core_more (core f x) (cores f xs)

  pub part : {N M : Type 0} → (N → M) → Part N → Part M
  part f c.missing = c.missing
  part f (c.given x) = c.given (core f x)

  pub handler : {N M : Type 0} → (N → M) → Handler N → Handler M
  handler f (c.handler x exception trace body) = c.handler (test f x) exception trace (core f body)

  pub test : {N M : Type 0} → (N → M) → Test N → Test M
  test f c.everything = c.everything
  test f (c.on t) = c.on (ty f t)
  test f (c.malformed x) = c.malformed (core f x)

  pub handlers_named : {N M : Type 0} → (N → M) → Handlers N → Handlers M
  handlers_named f c.no_handlers = c.no_handlers
  handlers_named f (c.handler_more x xs) = c.handler_more (handler f x) (handlers_named f xs)

  pub case : {N M : Type 0} → (N → M) → Case N → Case M
  case f (c.case value body) = c.case value (core f body)

  pub cases_named : {N M : Type 0} → (N → M) → Cases N → Cases M
  cases_named f c.no_cases = c.no_cases
  cases_named f (c.case_more x xs) = c.case_more (case f x) (cases_named f xs)

abbrev pub class : {N M : Type 0} → (N → M) → p.Class N → p.Class M
class f x = record {
  name = f x.name;
  library = x.library;
  place = x.place;
  bounds = map (ty_option f) x.bounds;
  superclass = ty_option f x.superclass;
  interfaces = map (ty f) x.interfaces;
  is_abstract = x.is_abstract;
  declaration = x.declaration;
  fields = x.fields;
  members = x.members;
  callable = x.callable;
}

abbrev pub member : {N M : Type 0} → (N → M) → p.Member N → p.Member M
member f x = record {
  name = f x.name;
  role = x.role;
  owner = x.owner;
  function = x.function;
  signature = ty f x.signature;
  place = x.place;
  has_body = x.has_body;
}

abbrev pub parameter : {N M : Type 0} → (N → M) → p.Parameter N → p.Parameter M
parameter f x = record { var = x.var; name = f x.name; shape = x.shape; default = x.default; site = x.site }

abbrev pub function : {N M : Type 0} → (N → M) → p.Function N → p.Function M
function f x = record {
  name = f x.name;
  kind = x.kind;
  class = x.class;
  parameters = map (parameter f) x.parameters;
  vars = x.vars;
  cells = x.cells;
  captures = x.captures;
  signature = ty f x.signature;
  body = part f x.body;
}

abbrev pub static : {N M : Type 0} → (N → M) → p.Static N → p.Static M
static f x = record { name = f x.name; vars = x.vars; cells = x.cells; init = part f x.init; is_final = x.is_final }

abbrev pub site : {N M : Type 0} → (N → M) → p.Site N → p.Site M
site f x = record { place = x.place; kind = x.kind; required = ty_option f x.required; annotated = x.annotated }

abbrev pub program : {N M : Type 0} → (N → M) → p.Program N → p.Program M
program f x = record {
  units = x.units;
  classes = map (class f) x.classes;
  members = map (member f) x.members;
  function_class = x.function_class;
  functions = map (function f) x.functions;
  statics = map (static f) x.statics;
  sites = map (site f) x.sites;
  literals = x.literals;
  constants = x.constants;
  main = x.main;
}
