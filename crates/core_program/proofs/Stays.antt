-- A program that is stripped is valid where it was before.
use Rattle.std.proofs.Common.{◌≡◌, ℕ, ◌<◌, Bool, List, [], ◌∷◌, map, length, Option, Some, None, All, Result, IfOk, refl, sym, ap, ◌∙◌, subst as transport, slice_get, nat_eq}
use Rattle.std.specs.Option.{option_map}
use Rattle.std.specs.List.{list_any}
use Rattle.std.proofs.lemmas.Option.{slice_get-map}
use Rattle.std.proofs.lemmas.List.{length-map}
use Rattle.std.proofs.lemmas.List.Elements.{All-map, All-weaker}
use Rattle.dart_ir.specs.declared.class.Classes.{Classes}
use Rattle.dart_ir.specs.declared.value.Value.{Value}
use Rattle.dart_ir.specs.Ty.{class as class_ty, of_list}
use Rattle.dart_ir.specs.Classes.{class_at}
use Rattle.dart_ir.specs.Classes as table
use Rattle.dart_ir.specs.Object.{HeapObject, instance, list, text, closure, bound, type_value, send_port, receive_port, cell}
use Rattle.core_program.specs.declared.program.CoreProgram.{CoreProgram}
use Rattle.core_program.specs.Program.{Class, Member, Parameter, Function, Static, Site, Program}
use Rattle.core_program.specs.ProgramView as v
use Rattle.core_program.specs.Stripped as s
use Rattle.core_program.specs.Captured.{ListCaptures}
use Rattle.core_program.specs.Valid.{around, type_parameters, IsFree, IsParameter, IsValue, IsConstant, IsMemberNamed, IsClassNamed, IsPlace, IsValidFunction, IsValidStatic, IsValid, fields_of}
use Rattle.core_program.proofs.ClassesStay.{from_some, class_view, counts, formed, loose_formed, valid_classes}
use Rattle.core_program.proofs.CapturesStay.{captures_is, captures_stay, cells_stay}
use Rattle.core_program.proofs.FormsStay.{body_stays, parameter_stays, free, value_stays, parameters_same, fields_same}

module _ (p : Program ℕ) (k j : Classes) (same : map v.class j.classes.items ≡ map v.class k.classes.items) (names : ℕ) where
  signature_stays : (f : ℕ) (i : Function ℕ) → IsValidFunction p k names f i → table.IsFormed j (type_parameters j i.class) (s.loose i.signature)
  signature_stays f i h =
      transport (λ n. table.IsFormed j n (s.loose i.signature)) (parameters_same p k j same names i.class i.vars i.class)
      (formed k j same (type_parameters k i.class) (s.loose i.signature) (loose_formed k (type_parameters k i.class) i.signature h.signature))

  function_stays : (f : ℕ) (i : Function ℕ) → IsValidFunction p k names f i → IsValidFunction (s.program p) j names f (s.function i)
  function_stays f i h = record {
    name = h.name;
    signature = signature_stays f i h;
    parameters = All-weaker (IsParameter (around p k names i.class i.vars)) (IsParameter (around (s.program p) j names i.class i.vars))
        (parameter_stays p k j same names i.class i.vars) i.parameters h.parameters;
    body = body_stays p k j same names i.class i.vars i.body h.body;
    outermost = h.outermost;
    ascending = h.ascending;
    cells = λ x. cells_stay p.functions x f (list_any (nat_eq x) i.cells) (h.cells x);
  }

  static_stays : (i : Static ℕ) → IsValidStatic p k names i → IsValidStatic (s.program p) j names i
  static_stays i h = record {
    name = h.name;
    init = body_stays p k j same names None i.vars i.init h.init;
    named = h.named;
    taken = λ g x m t. h.taken g x m (sym (captures_is p.functions g x) ∙ t);
    ascending = h.ascending;
    cells = λ x. (
      (λ t. let r = (h.cells x).0 t in (r.0, (r.1.0, captures_is p.functions r.0 x ∙ r.1.1))),
      (λ r. (h.cells x).1 (r.0, (r.1.0, sym (captures_is p.functions r.0 x) ∙ r.1.1))),
    );
  }

  constant_stays : (x : HeapObject) → IsConstant p k x → IsConstant (s.program p) j x
  constant_stays (instance n ts fields) h = (
    formed k j same 0 (class_ty n (of_list ts)) h.0,
    h.1,
    h.2 ∙ fields_same p k j same names (Some n) 0 (Some n),
    All-weaker (IsValue p) (IsValue (s.program p)) (value_stays p k j same names None 0) fields h.3,
  )
  constant_stays (list ts items fixed) h = h
  constant_stays (text units) h = h
  constant_stays (closure f receiver ts cells) h = h
  constant_stays (bound receiver m) h = h
  constant_stays (type_value t) h = h
  constant_stays (send_port isolate port) h = h
  constant_stays (receive_port port) h = h
  constant_stays (cell x counted) h = h

  member_stays : (m : Member ℕ) → IsMemberNamed p names m → IsMemberNamed (s.program p) names (s.member m)
  member_stays m h = (h.0, h.1, transport (λ n. m.function < n) (sym (length-map p.functions s.function)) h.2)

  functions_stay : ((f : ℕ) (i : Function ℕ) → slice_get p.functions f ≡ Some i → IsValidFunction p k names f i)
      → (f : ℕ) (i : Function ℕ) → slice_get (map s.function p.functions) f ≡ Some i → IsValidFunction (s.program p) j names f i
  functions_stay h f i there =
      let r = from_some s.function (slice_get p.functions f) i (sym (slice_get-map s.function p.functions f) ∙ there) in
      transport (IsValidFunction (s.program p) j names f) r.1.1 (function_stays f r.0 (h f r.0 r.1.0))

module _ (x y : CoreProgram) (names_is : y.names ≡ x.names) (program_is : v.program y ≡ s.program (v.program x)) where
  same : map v.class y.classes.classes.items ≡ map v.class x.classes.classes.items
  same = ap (λ (q : Program ℕ). q.classes) program_is

  -- what holds of the stripped program holds of y
  back : (P : (Program ℕ → ℕ → Type 0)) → P (s.program (v.program x)) (length x.names) → P (v.program y) (length y.names)
  back P h =
      transport (λ n. P (v.program y) n) (sym (ap length names_is)) (transport (λ q. P q (length x.names)) (sym program_is) h)

  members_stay : IsValid x → All (IsMemberNamed (s.program (v.program x)) (length x.names)) (map s.member (v.program x).members)
  members_stay h =
      All-map (IsMemberNamed (s.program (v.program x)) (length x.names)) s.member (v.program x).members
      (All-weaker (IsMemberNamed (v.program x) (length x.names)) (λ m. IsMemberNamed (s.program (v.program x)) (length x.names) (s.member m))
      (member_stays (v.program x) x.classes y.classes same (length x.names)) (v.program x).members h.members)

  statics_stay : IsValid x → All (IsValidStatic (s.program (v.program x)) y.classes (length x.names)) (v.program x).statics
  statics_stay h =
      All-weaker (IsValidStatic (v.program x) x.classes (length x.names)) (IsValidStatic (s.program (v.program x)) y.classes (length x.names))
      (static_stays (v.program x) x.classes y.classes same (length x.names)) (v.program x).statics h.statics

  sites_stay : IsValid x → All (λ (w : Site ℕ). IsPlace (s.program (v.program x)) w.place) (map s.site (v.program x).sites)
  sites_stay h = All-map (λ (w : Site ℕ). IsPlace (s.program (v.program x)) w.place) s.site (v.program x).sites h.sites

  constants_stay : IsValid x → All (IsConstant (s.program (v.program x)) y.classes) (v.program x).constants
  constants_stay h =
      All-weaker (IsConstant (v.program x) x.classes) (IsConstant (s.program (v.program x)) y.classes)
      (constant_stays (v.program x) x.classes y.classes same (length x.names)) (v.program x).constants h.constants

  pub strip_stays : IsValid x → IsValid y
  strip_stays h = record {
    classes = valid_classes x.classes y.classes same (ap (λ (q : Program ℕ). q.members) program_is)
        (ap (λ (q : Program ℕ). q.function_class) program_is) h.classes;
    class_names = back (λ q n. All (IsClassNamed n) q.classes) h.class_names;
    members = back (λ q n. All (IsMemberNamed q n) q.members) (members_stay h);
    functions = back (λ q n. (f : ℕ) (i : Function ℕ) → slice_get q.functions f ≡ Some i → IsValidFunction q y.classes n f i)
        (functions_stay (v.program x) x.classes y.classes same (length x.names) h.functions);
    captures = back (λ q n. ListCaptures q.functions) (captures_stay (v.program x).functions h.captures);
    statics = back (λ q n. All (IsValidStatic q y.classes n) q.statics) (statics_stay h);
    sites = back (λ q n. All (λ (w : Site ℕ). IsPlace q w.place) q.sites) (sites_stay h);
    constants = back (λ q n. All (IsConstant q y.classes) q.constants) (constants_stay h);
    main = back (λ q n. IsFree (slice_get q.functions q.main))
        (free (v.program x) x.classes y.classes same (length x.names) None 0 x.main.0 h.main);
  }
