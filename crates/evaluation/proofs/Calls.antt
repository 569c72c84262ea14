-- What calls keep, in two worlds of one setting.
use Rattle.std.proofs.Common.{ℕ, zero, suc, ◌-◌, List, [], ◌∷◌, map, Bool, true, false, Option, Some, None}
use Rattle.std.specs.Prelude.{replicate}
use Rattle.dart_base.specs.declared.place.Place.{Place}
use Rattle.dart_ir.specs.declared.class.Role.{Role}
use Rattle.dart_ir.specs.declared.class.Role.TheVariants.{Method, Getter, Setter}
use Rattle.dart_ir.specs.declared.kind.ThrowKind.TheVariants.{NoSuchMethodError, AbstractClassInstantiationError, CyclicInitializationError}
use Rattle.dart_ir.specs.declared.value.Value.{Value}
use Rattle.dart_ir.specs.declared.value.Value.TheVariants.{Null, Bool as Truth}
use Rattle.dart_ir.specs.Object.{HeadTy, bound, instance, text}
use Rattle.dart_ir.specs.Ty.{Ty}
use Rattle.dart_store.specs.Heap.{static_at}
use Rattle.dart_store.specs.declared.store.Static.{Static}
use Rattle.dart_store.specs.declared.store.Static.TheVariants.{Unset, Starting, Holds}
use Rattle.core_program.specs.declared.program.FunctionKind.{FunctionKind}
use Rattle.core_program.specs.declared.program.FunctionKind.TheVariants as kind
use Rattle.evaluation.specs.State.{tested, with_event, answer, ended, out_of_objects, Meaning, Setting, Given, Callee, Reaction, World}
use Rattle.evaluation.specs.Classes.{member, member_at, member_function, member_owner, function_at, static_of, class_at, field_count, is_abstract, kind_of_function}
use Rattle.evaluation.specs.Values.{head_of, arguments_here, class_of, shown_name, ending_in}
use Rattle.evaluation.specs.Variables.{initialised, has_initialiser, static_value, static_read}
use Rattle.evaluation.specs.Arguments.{fits, alone, nothing_given, placed, named_values}
use Rattle.evaluation.specs.Invocation.{called, plain, receiving, name_of, static_call, member_call, member_fits, is_setter, list_of, name_string, names_list, invocation_parts, invocation_object, invocation, told, missing_within, missing_from, missing, fitting, Callable, a_code, a_closure, a_method, an_object, callable, function_call, getter_has_body, object_call, applied, apply_within, apply, sent, send_from, send, got, get_from, get, setting, set_from, set, equal}
use Rattle.evaluation.specs.Creation.{construct_on, construct, factory_call, instantiate, create, new}
use Rattle.evaluation.specs.Evaluation.{site}
use Rattle.evaluation.proofs.Logic.{Logic, answers, chosen_rel, Rows, no_rows, row_more, on_answers_rel, throw_new_rel, throw_named_rel, leaving_rel}
use Rattle.evaluation.proofs.Chapters.{with_types_rel, settled_rel}

module _ {Rel : Meaning → Meaning → Type 0} (k : Logic Rel) where
  -- ---- the Invocation

  strings : (s : Setting) (names : List ℕ) → Rows k (map (name_string s) names) (map (name_string s) names)
  strings s [] = no_rows
  strings s (x ∷ xs) = row_more (name_string s x) (name_string s x) (map (name_string s) xs) (map (name_string s) xs)
      (k.adds (text (shown_name s.names x))) (strings s xs)

  names_list_rel : (s : Setting) (g : Given) → Rel (names_list s g) (names_list s g)
  names_list_rel s g = on_answers_rel k _ _ (λ vs. k.adds (list_of vs)) _ _ (strings s g.names) []

  parts_rows : (s : Setting) (role : Role) (name : ℕ) (g : Given) → Rows k (invocation_parts s role name g) (invocation_parts s role name g)
  parts_rows s role name g =
      row_more _ _ _ _ (k.adds (text (ending_in (is_setter role) (shown_name s.names name))))
      (row_more _ _ _ _ (k.adds (list_of (placed g)))
      (row_more _ _ _ _ (names_list_rel s g) (row_more _ _ _ _ (k.adds (list_of (named_values g))) no_rows)))

  invocation_rel : (s : Setting) (role : Role) (name : ℕ) (g : Given) → Rel (invocation s role name g) (invocation s role name g)
  invocation_rel s role name g = on_answers_rel k _ _ (λ vs. k.adds (invocation_object s role vs)) _ _ (parts_rows s role name g) []

  module _ (s : Setting) (ra rb : Reaction) (ca cb : ℕ → Callee → Given → Meaning) (ia ib : ℕ → Meaning)
      (sites : (n : ℕ) (head : HeadTy) (args : List Ty) (v : Value) →
      Rel (λ st. ra n head args v (with_event st (tested n head args))) (λ st. rb n head args v (with_event st (tested n head args))))
      (calls : (f : ℕ) (callee : Callee) (g : Given) → Rel (ca f callee g) (cb f callee g))
      (inits : (d : ℕ) → Rel (ia d) (ib d)) where
    abbrev one : World
    one = record { setting = s; react = ra; calls = ca; inits = ia }

    abbrev two : World
    two = record { setting = s; react = rb; calls = cb; inits = ib }

    pub site_rel : (n : ℕ) (v : Value) → Rel (site one n v) (site two n v)
    site_rel n v =
        k.reads (λ x st. ra n (head_of s x.heap v) (arguments_here s x) v
        (with_event st (tested n (head_of s x.heap v) (arguments_here s x))))
        (λ x st. rb n (head_of s x.heap v) (arguments_here s x) v (with_event st (tested n (head_of s x.heap v) (arguments_here s x))))
        (λ x. sites n (head_of s x.heap v) (arguments_here s x) v)

    called_rel : (at : Place) (f : ℕ) (callee : Callee) (g : Given) → Rel (called one at f callee g) (called two at f callee g)
    called_rel at f callee g = leaving_rel k at (ca f callee g) (cb f callee g) (calls f callee g)

    pub static_call_rel : (at : Place) (f : ℕ) (g : Given) → Rel (static_call one at f g) (static_call two at f g)
    static_call_rel at f g =
        chosen_rel k (fits (function_at s.program f) g) _ _ _ _ (called_rel at f plain g)
        (throw_named_rel k s at NoSuchMethodError (name_of (function_at s.program f)) false)

    member_call_rel : (at : Place) (m : ℕ) (this : Value) (g : Given) → Rel (member_call one at m this g) (member_call two at m this g)
    member_call_rel at m this g =
        called_rel at (member_function (member_at s.program m)) (receiving this (member_owner (member_at s.program m))) g

    -- ---- noSuchMethod

    told_rel : (at : Place) (o : Option ℕ) (this : Value) (go go' : Value → Meaning) → ((v : Value) → Rel (go v) (go' v)) → (i : Value) →
        Rel (told one at o this go i) (told two at o this go' i)
    told_rel at None this go go' h i = k.stays (answer Null)
    told_rel at (Some m) this go go' h i = chosen_rel k (member_fits s.program m (alone i)) _ _ _ _ (member_call_rel at m this (alone i))
        (h i)

    missing_within_rel : (n : ℕ) (at : Place) (c : Option ℕ) (role : Role) (name : ℕ) (this : Value) (g : Given) →
        Rel (missing_within n one at c role name this g) (missing_within n two at c role name this g)
    missing_within_rel zero at c role name this g = k.stays (ended out_of_objects)
    missing_within_rel (suc n) at c role name this g =
        answers k _ _ (told_rel at (member s.program c s.known.no_such_method Method) this _ _
        (λ i. missing_within_rel n at c Method s.known.no_such_method this (alone i))) _ _ (invocation_rel s role name g)

    missing_from_rel : (at : Place) (c : Option ℕ) (role : Role) (name : ℕ) (this : Value) (g : Given) →
        Rel (missing_from one at c role name this g) (missing_from two at c role name this g)
    missing_from_rel at c role name this g =
        k.reads (λ x st. missing_within (suc (x.heap.limit - x.heap.used)) one at c role name this g st)
        (λ x st. missing_within (suc (x.heap.limit - x.heap.used)) two at c role name this g st)
        (λ x. missing_within_rel (suc (x.heap.limit - x.heap.used)) at c role name this g)

    missing_rel : (at : Place) (role : Role) (name : ℕ) (this : Value) (g : Given)
        → Rel (missing one at role name this g) (missing two at role name this g)
    missing_rel at role name this g =
        k.reads (λ x st. missing_from one at (class_of s x.heap this) role name this g st)
        (λ x st. missing_from two at (class_of s x.heap this) role name this g st)
        (λ x. missing_from_rel at (class_of s x.heap this) role name this g)

    fitting_rel : (at : Place) (c : Option ℕ) (role : Role) (name : ℕ) (this : Value) (g : Given) (m : ℕ) →
        Rel (fitting one at c role name this g m) (fitting two at c role name this g m)
    fitting_rel at c role name this g m =
        chosen_rel k (member_fits s.program m g) _ _ _ _ (member_call_rel at m this g) (missing_from_rel at c role name this g)

    -- ---- calling a value

    function_call_rel : (at : Place) (v : Value) (f : ℕ) (callee : Callee) (g : Given)
        → Rel (function_call one at v f callee g) (function_call two at v f callee g)
    function_call_rel at v f callee g =
        chosen_rel k (fits (function_at s.program f) g) _ _ _ _ (called_rel at f callee g) (missing_rel at Method s.known.call v g)

    object_call_rel : (at : Place) (v : Value) (g : Given) (go go' : Value → Meaning) → ((u : Value) → Rel (go u) (go' u)) →
        (m o : Option ℕ) →
        Rel (object_call one at v g go m o) (object_call two at v g go' m o)
    object_call_rel at v g go go' h (Some m) o =
        chosen_rel k (member_fits s.program m g) _ _ _ _ (member_call_rel at m v g) (missing_rel at Method s.known.call v g)
    object_call_rel at v g go go' h None (Some m) =
        chosen_rel k (getter_has_body s.program m) _ _ _ _ (answers k go go' h _ _ (member_call_rel at m v nothing_given))
        (missing_rel at Method s.known.call v g)
    object_call_rel at v g go go' h None None = missing_rel at Method s.known.call v g

    applied_rel : (at : Place) (v : Value) (g : Given) (go go' : Value → Meaning) → ((u : Value) → Rel (go u) (go' u)) → (x : Callable) →
        Rel (applied one at v g go x) (applied two at v g go' x)
    applied_rel at v g go go' h (a_code f) = function_call_rel at v f plain g
    applied_rel at v g go go' h (a_closure f receiver) = function_call_rel at v f _ g
    applied_rel at v g go go' h (a_method m receiver) = function_call_rel at v _ _ g
    applied_rel at v g go go' h an_object =
        k.reads (λ x st. object_call one at v g go (member s.program (class_of s x.heap v) s.known.call Method)
        (member s.program (class_of s x.heap v) s.known.call Getter) st)
        (λ x st. object_call two at v g go' (member s.program (class_of s x.heap v) s.known.call Method)
        (member s.program (class_of s x.heap v) s.known.call Getter) st)
        (λ x. object_call_rel at v g go go' h _ _)

    apply_within_rel : (n : ℕ) (at : Place) (g : Given) (v : Value) → Rel (apply_within n one at g v) (apply_within n two at g v)
    apply_within_rel zero at g v = k.spent
    apply_within_rel (suc n) at g v =
        k.reads (λ x st. applied one at v g (apply_within n one at g) (callable x.heap v) st)
        (λ x st. applied two at v g (apply_within n two at g) (callable x.heap v) st)
        (λ x. applied_rel at v g (apply_within n one at g) (apply_within n two at g) (apply_within_rel n at g) (callable x.heap v))

    pub apply_rel : (at : Place) (v : Value) (g : Given) → Rel (apply one at v g) (apply two at v g)
    apply_rel at v g =
        k.reads (λ x st. apply_within (suc (suc x.left)) one at g v st) (λ x st. apply_within (suc (suc x.left)) two at g v st)
        (λ x. apply_within_rel (suc (suc x.left)) at g v)

    -- ---- members

    sent_rel : (at : Place) (c : Option ℕ) (name : ℕ) (this : Value) (g : Given) (m o : Option ℕ)
        → Rel (sent one at c name this g m o) (sent two at c name this g m o)
    sent_rel at c name this g (Some m) o = fitting_rel at c Method name this g m
    sent_rel at c name this g None (Some m) =
        answers k (λ v. apply one at v g) (λ v. apply two at v g) (λ v. apply_rel at v g) _ _ (member_call_rel at m this nothing_given)
    sent_rel at c name this g None None = missing_from_rel at c Method name this g

    pub send_from_rel : (at : Place) (c : Option ℕ) (name : ℕ) (this : Value) (g : Given)
        → Rel (send_from one at c name this g) (send_from two at c name this g)
    send_from_rel at c name this g = sent_rel at c name this g _ _

    pub send_rel : (at : Place) (name : ℕ) (this : Value) (g : Given) → Rel (send one at name this g) (send two at name this g)
    send_rel at name this g =
        k.reads (λ x st. send_from one at (class_of s x.heap this) name this g st)
        (λ x st. send_from two at (class_of s x.heap this) name this g st)
        (λ x. send_from_rel at (class_of s x.heap this) name this g)

    got_rel : (at : Place) (c : Option ℕ) (name : ℕ) (this : Value) (m o : Option ℕ)
        → Rel (got one at c name this m o) (got two at c name this m o)
    got_rel at c name this (Some m) o = k.adds (bound this m)
    got_rel at c name this None (Some m) = member_call_rel at m this nothing_given
    got_rel at c name this None None = missing_from_rel at c Getter name this nothing_given

    pub get_from_rel : (at : Place) (c : Option ℕ) (name : ℕ) (this : Value)
        → Rel (get_from one at c name this) (get_from two at c name this)
    get_from_rel at c name this = got_rel at c name this _ _

    pub get_rel : (at : Place) (name : ℕ) (this : Value) → Rel (get one at name this) (get two at name this)
    get_rel at name this =
        k.reads (λ x st. get_from one at (class_of s x.heap this) name this st)
        (λ x st. get_from two at (class_of s x.heap this) name this st)
        (λ x. get_from_rel at (class_of s x.heap this) name this)

    setting_rel : (at : Place) (c : Option ℕ) (name : ℕ) (this v : Value) (m : Option ℕ)
        → Rel (setting one at c name this v m) (setting two at c name this v m)
    setting_rel at c name this v (Some m) = fitting_rel at c Setter name this (alone v) m
    setting_rel at c name this v None = missing_from_rel at c Setter name this (alone v)

    pub set_from_rel : (at : Place) (c : Option ℕ) (name : ℕ) (this v : Value)
        → Rel (set_from one at c name this v) (set_from two at c name this v)
    set_from_rel at c name this v = answers k _ _ (λ _. k.stays (answer v)) _ _
        (setting_rel at c name this v (member s.program c name Setter))

    pub set_rel : (at : Place) (name : ℕ) (this v : Value) → Rel (set one at name this v) (set two at name this v)
    set_rel at name this v =
        k.reads (λ x st. set_from one at (class_of s x.heap this) name this v st)
        (λ x st. set_from two at (class_of s x.heap this) name this v st)
        (λ x. set_from_rel at (class_of s x.heap this) name this v)

    pub equal_rel : (at : Place) (v u : Value) → Rel (equal one at v u) (equal two at v u)
    equal_rel at Null Null = k.stays (answer (Truth true))
    equal_rel at Null u = k.stays (answer (Truth false))
    equal_rel at v Null = k.stays (answer (Truth false))
    equal_rel at v u = send_rel at s.known.equals v (alone u)

    -- ---- new objects

    construct_on_rel : (at : Place) (f : ℕ) (this : Value) (g : Given) → Rel (construct_on one at f this g) (construct_on two at f this g)
    construct_on_rel at f this g =
        chosen_rel k (fits (function_at s.program f) g) _ _ _ _ (called_rel at f _ g)
        (throw_named_rel k s at NoSuchMethodError (name_of (function_at s.program f)) false)

    pub construct_rel : (at : Place) (f : ℕ) (g : Given) → Rel (construct one at f g) (construct two at f g)
    construct_rel at f g =
        k.reads (λ x st. construct_on one at f x.activation.this g st) (λ x st. construct_on two at f x.activation.this g st)
        (λ x. construct_on_rel at f x.activation.this g)

    factory_call_rel : (at : Place) (f : ℕ) (ts : List Ty) (g : Given) → Rel (factory_call one at f ts g) (factory_call two at f ts g)
    factory_call_rel at f ts g =
        chosen_rel k (fits (function_at s.program f) g) _ _ _ _ (called_rel at f _ g)
        (throw_named_rel k s at NoSuchMethodError (name_of (function_at s.program f)) false)

    instantiate_rel : (at : Place) (c f : ℕ) (g : Given) (ts : List Ty) → Rel (instantiate one at c f g ts) (instantiate two at c f g ts)
    instantiate_rel at c f g ts =
        answers k _ _ (λ this. answers k _ _ (λ _. k.stays (answer this)) _ _ (construct_on_rel at f this g)) _ _
        (k.adds (instance c ts (replicate (field_count (class_at s.program c)) Null)))

    create_rel : (at : Place) (x : FunctionKind) (c f : ℕ) (g : Given) (ts : List Ty)
        → Rel (create one at x c f g ts) (create two at x c f g ts)
    create_rel at kind.Factory c f g ts = factory_call_rel at f ts g
    create_rel at x c f g ts =
        chosen_rel k (is_abstract (class_at s.program c)) _ _ _ _ (throw_new_rel k s.known at AbstractClassInstantiationError Null)
        (instantiate_rel at c f g ts)

    pub new_rel : (at : Place) (c f : ℕ) (ts : List Ty) (g : Given) → Rel (new one at c f ts g) (new two at c f ts g)
    new_rel at c f ts g = with_types_rel k s ts _ _ (create_rel at (kind_of_function (function_at s.program f)) c f g)

    -- ---- static variables

    initialised_rel : (b : Bool) (d : ℕ) → Rel (initialised b one d) (initialised b two d)
    initialised_rel true d = settled_rel k d _ _ (k.statics d Starting (ia d) (ib d) (inits d))
    initialised_rel false d = k.stays (answer Null)

    static_value_rel : (x : Static) (at : Place) (d : ℕ) → Rel (static_value x one at d) (static_value x two at d)
    static_value_rel (Holds v) at d = k.stays (answer v)
    static_value_rel Starting at d = throw_new_rel k s.known at CyclicInitializationError Null
    static_value_rel Unset at d = initialised_rel (has_initialiser (static_of s.program d)) d

    pub static_read_rel : (at : Place) (d : ℕ) → Rel (static_read one at d) (static_read two at d)
    static_read_rel at d =
        k.reads (λ x st. static_value (static_at x.heap d) one at d st) (λ x st. static_value (static_at x.heap d) two at d st)
        (λ x. static_value_rel (static_at x.heap d) at d)
