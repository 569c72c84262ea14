-- What may stand in a body stays so where signatures become loose and sites ask for less.
use Rattle.std.proofs.Common.{◌≡◌, ℕ, ◌<◌, Bool, true, false, List, [], ◌∷◌, map, length, Option, Some, None, All, refl, sym, ap, ◌∙◌, subst as transport, slice_get}
use Rattle.std.specs.Option.{option_map}
use Rattle.std.proofs.lemmas.Option.{slice_get-map}
use Rattle.std.proofs.lemmas.List.Elements.{All-weaker}
use Rattle.dart_ir.specs.declared.class.Classes.{Classes}
use Rattle.dart_ir.specs.declared.class.ClassInfo.{ClassInfo}
use Rattle.dart_ir.specs.declared.value.Value.{Value}
use Rattle.dart_ir.specs.declared.value.Value.TheVariants as val
use Rattle.dart_ir.specs.Ty.{Ty, class as class_ty, of_list}
use Rattle.dart_ir.specs.Classes.{class_at, IsFormed, AreFormed}
use Rattle.core_program.specs.Core.{Core, Form, Cores, Part, Handler, Handlers, Cases}
use Rattle.core_program.specs.Core as c
use Rattle.core_program.specs.Program.{Class, Function, Parameter, Site, Program}
use Rattle.core_program.specs.ProgramView as v
use Rattle.core_program.specs.Stripped as s
use Rattle.core_program.specs.Captured.{part_nodes}
use Rattle.core_program.specs.Valid.{Around, around, type_parameters, IsType, AreTypes, IsOptionalType, IsFree, StandsIn, IsGenerative, MakesInstance, IsValue, IsOptionalValue, fields_of, field_count, IsSiteThere, IsLeaf, IsUnary, IsBinary, IsRow, IsTest, IsHandler, AreHandlers, AreCases, IsForm, IsNode, IsBody, IsParameter}
use Rattle.core_program.proofs.ClassesStay.{class_view, counts, formed, all_formed}

-- ---- a function that is looked up

free_o : (o : Option (Function ℕ)) → IsFree o → IsFree (option_map s.function o)
free_o None h = h
free_o (Some f) h = h

generative_o : (o : Option (Function ℕ)) → IsGenerative o → IsGenerative (option_map s.function o)
generative_o None h = h
generative_o (Some f) h = h

makes_o : (k : ℕ) (o : Option (Function ℕ)) → MakesInstance k o → MakesInstance k (option_map s.function o)
makes_o k None h = h
makes_o k (Some f) h = h

fields_view : Option (Class ℕ) → ℕ
fields_view None = 0
fields_view (Some i) = i.fields

fields_seen : (o : Option ClassInfo) → fields_of o ≡ fields_view (option_map v.class o)
unfolding fields_view
fields_seen None = refl
fields_seen (Some i) = refl

-- ---- what stands in a body: of the class and with the variables; j is the later table

module _ (p : Program ℕ) (k j : Classes) (same : map v.class j.classes.items ≡ map v.class k.classes.items) (names : ℕ) (owner : Option ℕ) (vars : ℕ) where
  abbrev pub Old : Around
  Old = around p k names owner vars

  abbrev pub New : Around
  New = around (s.program p) j names owner vars

  at : (f : ℕ) → slice_get (map s.function p.functions) f ≡ option_map s.function (slice_get p.functions f)
  at f = slice_get-map s.function p.functions f

  pub free : (f : ℕ) → IsFree (slice_get p.functions f) → IsFree (slice_get (map s.function p.functions) f)
  free f h = transport IsFree (sym (at f)) (free_o (slice_get p.functions f) h)

  pub value_stays : (x : Value) → IsValue p x → IsValue (s.program p) x
  value_stays (val.Literal n) h = h
  value_stays (val.Code f) h = free f.0 h
  value_stays (val.At r) h = h
  value_stays val.Null h = h
  value_stays (val.Bool b) h = h
  value_stays (val.Int high low) h = h

  optional_value : (o : Option Value) → IsOptionalValue p o → IsOptionalValue (s.program p) o
  optional_value None h = h
  optional_value (Some x) h = value_stays x h

  pub parameters_same : (n : Option ℕ) → type_parameters k n ≡ type_parameters j n
  parameters_same None = refl
  parameters_same (Some n) = sym (counts k j same n)

  type_stays : (t : Ty) → IsType Old t → IsType New t
  type_stays t h = transport (λ n. IsFormed j n t) (parameters_same owner) (formed k j same (type_parameters k owner) t h)

  types_stay : (ts : List Ty) → AreTypes Old ts → AreTypes New ts
  types_stay ts h =
      transport (λ n. AreFormed j n (of_list ts)) (parameters_same owner) (all_formed k j same (type_parameters k owner) (of_list ts) h)

  optional_type : (o : Option Ty) → IsOptionalType Old o → IsOptionalType New o
  optional_type None h = h
  optional_type (Some t) h = type_stays t h

  asked_less : (b : Bool) (o : Option Ty) → IsOptionalType Old o → IsOptionalType New (s.asked b o)
  asked_less true o h = tt
  asked_less false o h = optional_type o h

  site_o : (o : Option (Site ℕ)) → IsSiteThere Old o → IsSiteThere New (option_map s.site o)
  site_o None h = h
  site_o (Some x) h = asked_less x.annotated x.required h

  site_stays : (n : ℕ) → IsSiteThere Old (slice_get p.sites n) → IsSiteThere New (slice_get (map s.site p.sites) n)
  site_stays n h = transport (IsSiteThere New) (sym (slice_get-map s.site p.sites n)) (site_o (slice_get p.sites n) h)

  pub fields_same : (n : Option ℕ) → field_count Old n ≡ field_count New n
  fields_same None = refl
  fields_same (Some n) = fields_seen (class_at k n) ∙ ap fields_view (sym (class_view k j same n)) ∙ sym (fields_seen (class_at j n))

  stands_o : (o : Option (Function ℕ)) → StandsIn Old o → StandsIn New (option_map s.function o)
  stands_o None h = h
  stands_o (Some f) h = h

  leaf_stays : (x : c.Leaf ℕ) → IsLeaf Old x → IsLeaf New x
  leaf_stays (c.constant x) h = value_stays x h
  leaf_stays (c.read x) h = h
  leaf_stays (c.static_read d) h = h
  leaf_stays (c.field i) h = transport (λ n. i < n) (fields_same owner) h
  leaf_stays (c.closure f) h = transport (StandsIn New) (sym (at f)) (stands_o (slice_get p.functions f) h)
  leaf_stays (c.raise thrown n is_setter) h = h
  leaf_stays c.this h = h
  leaf_stays (c.jump way n) h = h
  leaf_stays c.rethrow h = h

  unary_stays : (x : c.Unary ℕ) → IsUnary Old x → IsUnary New x
  unary_stays (c.var x) h = h
  unary_stays (c.write x) h = h
  unary_stays (c.static_write d) h = h
  unary_stays (c.field_write i) h = transport (λ n. i < n) (fields_same owner) h
  unary_stays (c.get n) h = h
  unary_stays (c.check n) h = site_stays n h
  unary_stays c.throw h = h

  binary_stays : (x : c.Binary ℕ) → IsBinary Old x → IsBinary New x
  binary_stays c.equal h = h
  binary_stays (c.set n) h = h

  row_stays : (x : c.Job ℕ) (operands : Cores ℕ) (ns : List ℕ) → IsRow Old x operands ns → IsRow New x operands ns
  row_stays (c.send n) operands ns h = h
  row_stays (c.super role n) operands ns h = h
  row_stays (c.call f) operands ns h = (free f h.0, h.1)
  row_stays c.apply operands ns h = h
  row_stays (c.super_new f) operands ns h = (transport IsGenerative (sym (at f)) (generative_o (slice_get p.functions f) h.0), h.1)
  row_stays c.join operands ns h = h
  row_stays (c.native native) operands ns h = h

  test_stays : (x : c.Test ℕ) → IsTest Old x → IsTest New x
  test_stays (c.on t) h = type_stays t h
  test_stays c.everything h = h
  test_stays (c.malformed x) h = h

  handler_stays : (x : Handler ℕ) → IsHandler Old x → IsHandler New x
  handler_stays (c.handler x exception trace body) h = (test_stays x h.0, h.1, h.2)

  handlers_stay : (xs : Handlers ℕ) → AreHandlers Old xs → AreHandlers New xs
  handlers_stay c.no_handlers h = h
  handlers_stay (c.handler_more x xs) h = (handler_stays x h.0, handlers_stay xs h.1)

  cases_stay : (xs : Cases ℕ) → AreCases Old xs → AreCases New xs
  cases_stay c.no_cases h = h
  cases_stay (c.case_more (c.case x body) xs) h = (optional_value x h.0, cases_stay xs h.1)

  form_stays : (x : Form ℕ) → IsForm Old x → IsForm New x
  form_stays (c.leaf x) h = leaf_stays x h
  form_stays (c.type_literal t) h = type_stays t h
  form_stays (c.unary x operand) h = unary_stays x h
  form_stays (c.binary x first second) h = binary_stays x h
  form_stays (c.row x operands ns) h = row_stays x operands ns h
  form_stays (c.let_in x value body) h = h
  form_stays (c.block forms) h = h
  form_stays (c.choice condition first second) h = h
  form_stays (c.new n f ts operands ns) h =
      (type_stays (class_ty n (of_list ts)) h.0, transport (MakesInstance n) (sym (at f)) (makes_o n (slice_get p.functions f) h.1), h.2)
  form_stays (c.list ts items) h = (h.0, types_stay ts h.1)
  form_stays (c.is_type value t) h = type_stays t h
  form_stays (c.as_type value t) h = type_stays t h
  form_stays (c.loop n copies condition update body) h = h
  form_stays (c.return value) h = h
  form_stays (c.try body handlers last) h = handlers_stay handlers h
  form_stays (c.switch n value cases) h = cases_stay cases h
  form_stays (c.labelled n body) h = h

  node_stays : (x : Core ℕ) → IsNode Old x → IsNode New x
  node_stays (c.at place x) h = (h.0, form_stays x h.1)

  pub body_stays : (x : Part ℕ) → IsBody Old x → IsBody New x
  body_stays x h = record { forms = All-weaker (IsNode Old) (IsNode New) node_stays (part_nodes x) h.forms; jumps = h.jumps }

  pub parameter_stays : (q : Parameter ℕ) → IsParameter Old q → IsParameter New q
  parameter_stays q h = (h.0, h.1, value_stays q.default h.2, site_stays q.site h.3)
