-- One induction over the forms: what each form keeps, in two worlds of one setting, and so what whole turns keep.
use Rattle.std.proofs.Common.{ℕ, zero, suc, List, [], ◌∷◌, refl, Bool, true, false, Option, Some, None}
use Rattle.dart_base.specs.declared.place.Place.{Place}
use Rattle.dart_ir.specs.declared.class.Role.{Role}
use Rattle.dart_ir.specs.declared.class.Role.TheVariants.{Method, Getter, Setter}
use Rattle.dart_ir.specs.declared.value.Value.{Value}
use Rattle.dart_ir.specs.declared.value.Value.TheVariants.{Null, Bool as Truth}
use Rattle.dart_ir.specs.Object.{HeadTy}
use Rattle.dart_ir.specs.Ty.{Ty}
use Rattle.dart_store.specs.Heap.{field_of}
use Rattle.core_program.specs.Core.{Core, Form, Leaf, Unary, Binary, Job, Cores, Part, Handler, Test, Handlers, Case, Cases}
use Rattle.core_program.specs.Core as c
use Rattle.core_program.specs.Program.{Parameter, Function, Static}
use Rattle.evaluation.specs.State.{tested, with_event, answer, jumps, returns, throws, ended, out_of_depth, ends, Meaning, Setting, Given, Callee, Reaction, World, Activation}
use Rattle.evaluation.specs.Sequence.{is_true}
use Rattle.evaluation.specs.Classes.{function_at, static_of}
use Rattle.evaluation.specs.Values.{object_at}
use Rattle.evaluation.specs.Parts.{form_of, is_block_part, takes_step, is_closure, constant_of, is_join, has_no_forms}
use Rattle.evaluation.specs.Variables as x
use Rattle.evaluation.specs.Arguments.{given, value_for}
use Rattle.evaluation.specs.Types.{is_type, as_type}
use Rattle.evaluation.specs.Statements as s
use Rattle.evaluation.specs.Evaluation.{leaf, before_operand, declared_with, unary, binary, only, super_member, superclass_of, class_of_source, super, row, piece, stepped, eval, act, evals, part, clauses, test, branches, bind_one, binding, answered_by, returned, activation, body_of, initial, init_of, world_over, nested}
use Rattle.evaluation.specs.Turn.{Entry, main, start, handler, start_place, takes_argument, no_words, call_main, started}
use Rattle.evaluation.specs.Arguments.{alone, nothing_given}
use Rattle.evaluation.proofs.Logic as l
use Rattle.evaluation.proofs.Logic.{Logic, Rows, no_rows, row_more}
use Rattle.evaluation.proofs.Chapters as p
use Rattle.evaluation.proofs.Cases.{Branches, no_branches, branch_more, switch_rel, native_rel}
use Rattle.evaluation.proofs.Calls as v

module _ {Rel : Meaning → Meaning → Type 0} (k : Logic Rel) where
  piece_rel : (b : Bool) (o : Option Value) (d d' : Meaning) → Rel d d' → Rel (piece b o d) (piece b o d')
  piece_rel true (Some u) d d' q = k.stays (answer u)
  piece_rel b o d d' q = q

  stepped_rel : (b : Bool) (d d' : Meaning) → Rel d d' → Rel (stepped b d) (stepped b d')
  stepped_rel true d d' q = l.steps k d d' q
  stepped_rel false d d' q = q

  declared_with_rel : (setting : Setting) (b : Bool) (y : ℕ) (u : Value) → Rel (declared_with setting b y u) (declared_with setting b y u)
  declared_with_rel setting true y u = p.write_rel k setting y u
  declared_with_rel setting false y u = p.declare_rel k setting y u

  module _ (setting : Setting) (ra rb : Reaction) (ca cb : ℕ → Callee → Given → Meaning) (ia ib : ℕ → Meaning)
      (sites : (n : ℕ) (head : HeadTy) (args : List Ty) (v : Value) →
      Rel (λ st. ra n head args v (with_event st (tested n head args))) (λ st. rb n head args v (with_event st (tested n head args))))
      (calls : (f : ℕ) (callee : Callee) (g : Given) → Rel (ca f callee g) (cb f callee g))
      (inits : (d : ℕ) → Rel (ia d) (ib d)) where
    abbrev one : World
    one = record { setting = setting; react = ra; calls = ca; inits = ia }

    abbrev two : World
    two = record { setting = setting; react = rb; calls = cb; inits = ib }

    leaf_rel : (at : Place) (one_leaf : Leaf ℕ) → Rel (leaf one at one_leaf) (leaf two at one_leaf)
    leaf_rel at (c.constant u) = k.stays (answer u)
    leaf_rel at c.this = l.own k (λ n. answer n.activation.this)
    leaf_rel at (c.read y) = l.own k (λ n. answer (x.variable setting n y))
    leaf_rel at (c.static_read d) = l.leaving_rel k at _ _ (v.static_read_rel k setting ra rb ca cb ia ib sites calls inits at d)
    leaf_rel at (c.field i) = l.own k (λ n. answer (field_of (object_at n.heap n.activation.this) i))
    leaf_rel at (c.closure f) = p.make_closure_rel k setting f
    leaf_rel at (c.jump way n) = k.stays (jumps way n)
    leaf_rel at c.rethrow = p.rethrow_rel k
    leaf_rel at (c.raise kind name b) = l.throw_named_rel k setting at kind name b

    before_rel : (b : Bool) (u : Unary ℕ) (d d' : Meaning) → Rel d d' → Rel (before_operand one b u d) (before_operand two b u d')
    before_rel true (c.var y) d d' q = l.answers k (λ _. d) (λ _. d') (λ _. q) _ _ (p.declare_rel k setting y Null)
    before_rel b u d d' q = q

    pub unary_rel : (at : Place) (b : Bool) (u : Unary ℕ) (z : Value) → Rel (unary one at b u z) (unary two at b u z)
    unary_rel at b (c.var y) z = declared_with_rel setting b y z
    unary_rel at b (c.write y) z = p.write_rel k setting y z
    unary_rel at b (c.static_write d) z = p.static_write_rel k d z
    unary_rel at b (c.field_write i) z = p.field_write_rel k i z
    unary_rel at b (c.get name) z = v.get_rel k setting ra rb ca cb ia ib sites calls inits at name z
    unary_rel at b (c.check n) z = v.site_rel k setting ra rb ca cb ia ib sites calls inits n z
    unary_rel at b c.throw z = l.throw_value_rel k setting.known at z

    pub binary_rel : (at : Place) (u : Binary ℕ) (y z : Value) → Rel (binary one at u y z) (binary two at u y z)
    binary_rel at c.equal y z = v.equal_rel k setting ra rb ca cb ia ib sites calls inits at y z
    binary_rel at (c.set name) y z = v.set_rel k setting ra rb ca cb ia ib sites calls inits at name y z

    super_member_rel : (at : Place) (role : Role) (name : ℕ) (g : Given) (o : Option ℕ) (this : Value) →
        Rel (super_member one at role name g o this) (super_member two at role name g o this)
    super_member_rel at role name g None this = k.stays (answer Null)
    super_member_rel at Method name g (Some n) this = v.send_from_rel k setting ra rb ca cb ia ib sites calls inits at (Some n) name this g
    super_member_rel at Getter name g (Some n) this = v.get_from_rel k setting ra rb ca cb ia ib sites calls inits at (Some n) name this
    super_member_rel at Setter name g (Some n) this = v.set_from_rel k setting ra rb ca cb ia ib sites calls inits at (Some n) name this
        (only g)

    super_rel : (at : Place) (role : Role) (name : ℕ) (g : Given) → Rel (super one at role name g) (super two at role name g)
    super_rel at role name g =
        k.reads (λ n st. super_member one at role name g (superclass_of setting (class_of_source setting n.activation.source))
        n.activation.this st)
        (λ n st. super_member two at role name g (superclass_of setting (class_of_source setting n.activation.source)) n.activation.this st)
        (λ n. super_member_rel at role name g (superclass_of setting (class_of_source setting n.activation.source)) n.activation.this)

    pub row_rel : (at : Place) (job : Job ℕ) (names : List ℕ) (vs : List Value) → Rel (row one at job names vs) (row two at job names vs)
    row_rel at (c.send name) names (u ∷ vs) = v.send_rel k setting ra rb ca cb ia ib sites calls inits at name u (given names vs)
    row_rel at (c.send name) names [] = k.stays (answer Null)
    row_rel at (c.super role name) names vs = super_rel at role name (given names vs)
    row_rel at (c.call f) names vs = v.static_call_rel k setting ra rb ca cb ia ib sites calls inits at f (given names vs)
    row_rel at c.apply names (u ∷ vs) = v.apply_rel k setting ra rb ca cb ia ib sites calls inits at u (given names vs)
    row_rel at c.apply names [] = k.stays (answer Null)
    row_rel at (c.super_new f) names vs = v.construct_rel k setting ra rb ca cb ia ib sites calls inits at f (given names vs)
    row_rel at c.join names vs = p.join_rel k setting at vs
    row_rel at (c.native id) names vs = native_rel k setting at id vs

    mutual
      pub eval_rel : (form : Core ℕ) → Rel (eval form one) (eval form two)
      eval_rel (c.at at form) = stepped_rel (takes_step form) (act form at one) (act form at two) (act_rel form at)

      pub act_rel : (form : Form ℕ) (at : Place) → Rel (act form at one) (act form at two)
      act_rel (c.leaf u) at = leaf_rel at u
      act_rel (c.type_literal t) at = p.type_object_rel k setting t
      act_rel (c.unary u operand) at =
          l.answers k _ _ (unary_rel at (is_closure (form_of operand)) u) _ _
          (before_rel (is_closure (form_of operand)) u (eval operand one) (eval operand two) (eval_rel operand))
      act_rel (c.binary u first second) at =
          l.answers k _ _ (λ y. l.answers k _ _ (λ z. binary_rel at u y z) _ _ (eval_rel second)) _ _ (eval_rel first)
      act_rel (c.row job operands names) at = l.on_answers_rel k _ _ (row_rel at job names) _ _ (evals_rel (is_join job) operands) []
      act_rel (c.let_in y value body) at =
          l.answers k (λ _. eval body one) (λ _. eval body two) (λ _. eval_rel body) _ _
          (l.answers k (x.declare setting y) (x.declare setting y) (p.declare_rel k setting y) (eval value one) (eval value two)
          (eval_rel value))
      act_rel (c.block forms) at = l.in_order_rel k _ _ (evals_rel false forms) Null
      act_rel (c.choice condition first second) at =
          l.answers k _ _ (λ u. l.chosen_rel k (is_true u) _ _ _ _ (part_rel first Null) (part_rel second Null)) _ _ (eval_rel condition)
      act_rel (c.new n f types operands names) at =
          l.on_answers_rel k _ _ (λ vs. v.new_rel k setting ra rb ca cb ia ib sites calls inits at n f types (given names vs)) _ _
          (evals_rel false operands) []
      act_rel (c.list types items) at = l.on_answers_rel k _ _ (p.new_list_rel k setting types) _ _ (evals_rel false items) []
      act_rel (c.is_type operand t) at = l.answers k (is_type setting t) (is_type setting t) (p.is_type_rel k setting t) _ _
          (eval_rel operand)
      act_rel (c.as_type operand t) at = l.answers k (as_type setting at t) (as_type setting at t) (p.as_type_rel k setting at t) _ _
          (eval_rel operand)
      act_rel (c.loop n xs condition update body) at =
          p.loop_rel k setting n xs _ _ _ _ _ _ (part_rel condition (Truth true)) (part_rel update Null) (part_rel body Null)
      act_rel (c.return value) at = l.answers k _ _ (λ u. k.stays (returns u)) _ _ (part_rel value Null)
      act_rel (c.try body handlers last) at =
          p.finally_rel k _ _ (part_rel last Null) _ _
          (p.caught_by_rel k setting (clauses handlers one) (clauses handlers two) (handled_rel handlers) (eval body one) (eval body two)
          (eval_rel body))
      act_rel (c.switch n operand cases) at =
          l.answers k _ _ (switch_rel k setting at n _ _ (branches_rel cases)) _ _ (eval_rel operand)
      act_rel (c.labelled n body) at = p.labelled_rel k n _ _ (eval_rel body)

      pub evals_rel : (b : Bool) (forms : Cores ℕ) → Rows k (evals b forms one) (evals b forms two)
      evals_rel b c.no_cores = no_rows
      evals_rel b (c.core_more form more) =
          row_more _ _ _ _ (piece_rel b (constant_of (form_of form)) (eval form one) (eval form two) (eval_rel form)) (evals_rel b more)

      pub part_rel : (form : Part ℕ) (u : Value) → Rel (part form one u) (part form two u)
      part_rel c.missing u = k.stays (answer u)
      part_rel (c.given form) u = eval_rel form

      pub handled_rel : (handlers : Handlers ℕ) (u : Value) (place : Place) →
          Rel (s.handled setting (clauses handlers one) u place) (s.handled setting (clauses handlers two) u place)
      handled_rel c.no_handlers u place = k.stays (throws u place)
      handled_rel (c.handler_more (c.handler condition exception trace body) more) u place =
          tried_rel condition u _ _ (p.handling_rel k setting (test condition one) (test condition two) exception trace (eval body one)
          (eval body two) (eval_rel body) u place)
          _ _ (handled_rel more u place)

      tried_rel : (condition : Test ℕ) (u : Value) (here here' : Meaning) → Rel here here' → (further further' : Meaning)
          → Rel further further' →
          Rel (s.tried setting (test condition one) u here further) (s.tried setting (test condition two) u here' further')
      tried_rel c.everything u here here' q further further' r = q
      tried_rel (c.on t) u here here' q further further' r = p.tried_type_rel k setting t u here here' further further' q r
      tried_rel (c.malformed form) u here here' q further further' r =
          l.answers k (λ _. further) (λ _. further') (λ _. r) (eval form one) (eval form two) (eval_rel form)

      pub branches_rel : (cases : Cases ℕ) → Branches k (branches cases one) (branches cases two)
      branches_rel c.no_cases = no_branches
      branches_rel (c.case_more (c.case value body) more) =
          branch_more value (has_no_forms (form_of body)) (eval body one) (eval body two) _ _ (eval_rel body) (branches_rel more)

    -- ---- bodies

    pub bind_one_rel : (g : Given) (i : ℕ) (q : Parameter ℕ) → Rel (bind_one one g i q) (bind_one two g i q)
    bind_one_rel g i q =
        l.answers k (x.declare setting q.var) (x.declare setting q.var) (p.declare_rel k setting q.var) _ _
        (v.site_rel k setting ra rb ca cb ia ib sites calls inits q.site (value_for g i q))

    pub binding_rel : (g : Given) (qs : List (Parameter ℕ)) (i : ℕ) (d d' : Meaning) → Rel d d'
        → Rel (binding one g qs i d) (binding two g qs i d')
    binding_rel g [] i d d' r = r
    binding_rel g (q ∷ qs) i d d' r =
        l.steps k _ _ (l.answers k (λ _. binding one g qs (suc i) d) (λ _. binding two g qs (suc i) d')
        (λ _. binding_rel g qs (suc i) d d' r) _ _ (bind_one_rel g i q))

    pub returned_rel : (b : Bool) (a : Activation) (d d' : Meaning) → Rel d d'
        → Rel (λ st. returned b a (d st)) (λ st. returned b a (d' st))
    returned_rel b a d d' q =
        k.bind (returned b a) (returned b a) (record { activation = λ e st. a; ended = λ e st. refl })
        (record { activation = λ e st. a; ended = λ e st. refl })
        (λ y. k.activations a (λ st. ends (answered_by b y) st) (λ st. ends (answered_by b y) st) (k.stays (answered_by b y))) d d' q

    pub body_rel : (o : Option (Function ℕ)) (f : ℕ) (callee : Callee) (g : Given)
        → Rel (body_of o f one callee g) (body_of o f two callee g)
    body_rel None f callee g = k.stays (answer Null)
    body_rel (Some q) f callee g =
        k.reads (λ n st. returned (is_block_part q.body) n.activation
        (binding one g q.parameters 0 (part q.body one Null) (record st { activation = activation f q.vars callee })))
        (λ n st. returned (is_block_part q.body) n.activation
        (binding two g q.parameters 0 (part q.body two Null) (record st { activation = activation f q.vars callee })))
        (λ n. returned_rel (is_block_part q.body) n.activation _ _
        (k.activations (activation f q.vars callee) _ _ (binding_rel g q.parameters 0 _ _ (part_rel q.body Null))))

    pub init_rel : (o : Option (Static ℕ)) (d : ℕ) → Rel (init_of o d one) (init_of o d two)
    init_rel None d = k.stays (answer Null)
    init_rel (Some q) d =
        k.reads (λ n st. returned false n.activation (part q.init one Null (record st { activation = initial d q.vars })))
        (λ n st. returned false n.activation (part q.init two Null (record st { activation = initial d q.vars })))
        (λ n. returned_rel false n.activation _ _ (k.activations (initial d q.vars) _ _ (part_rel q.init Null)))

    -- ---- turns

    call_main_rel : (b : Bool) (f : ℕ) → Rel (call_main b one f) (call_main b two f)
    call_main_rel true f =
        l.answers k _ _ (λ words. l.steps k _ _ (v.static_call_rel k setting ra rb ca cb ia ib sites calls inits (start_place setting) f
        (alone words))) _ _
        (k.adds (no_words setting))
    call_main_rel false f = l.steps k _ _ (v.static_call_rel k setting ra rb ca cb ia ib sites calls inits
        (start_place setting) f nothing_given)

    pub started_rel : (entry : Entry) → Rel (started one entry) (started two entry)
    started_rel (main f) = call_main_rel (takes_argument (function_at setting.program f)) f
    started_rel (start f u) = l.steps k _ _ (v.static_call_rel k setting ra rb ca cb ia ib sites calls inits (start_place setting) f
        (alone u))
    started_rel (handler f u) = l.steps k _ _ (v.apply_rel k setting ra rb ca cb ia ib sites calls inits (start_place setting) f (alone u))

  -- ---- nested calls

  module _ (setting : Setting) (ra rb : Reaction)
      (sites : (n : ℕ) (head : HeadTy) (args : List Ty) (v : Value) →
      Rel (λ st. ra n head args v (with_event st (tested n head args))) (λ st. rb n head args v (with_event st (tested n head args)))) where
    mutual
      pub calls_rel : (d : ℕ) (f : ℕ) (callee : Callee) (g : Given)
          → Rel ((nested setting ra d).calls f callee g) ((nested setting rb d).calls f callee g)
      calls_rel zero f callee g = k.stays (ended out_of_depth)
      calls_rel (suc d) f callee g =
          body_rel setting ra rb (nested setting ra d).calls (nested setting rb d).calls (nested setting ra d).inits
          (nested setting rb d).inits sites (calls_rel d) (inits_rel d)
          (function_at setting.program f) f callee g

      pub inits_rel : (d : ℕ) (i : ℕ) → Rel ((nested setting ra d).inits i) ((nested setting rb d).inits i)
      inits_rel zero i = k.stays (ended out_of_depth)
      inits_rel (suc d) i =
          init_rel setting ra rb (nested setting ra d).calls (nested setting rb d).calls (nested setting ra d).inits
          (nested setting rb d).inits sites (calls_rel d) (inits_rel d)
          (static_of setting.program i) i

    -- each form
    pub world_rel : (d : ℕ) (form : Core ℕ) → Rel (eval form (world_over setting ra (nested setting ra d)))
        (eval form (world_over setting rb (nested setting rb d)))
    world_rel d form =
        eval_rel setting ra rb (nested setting ra d).calls (nested setting rb d).calls (nested setting ra d).inits
        (nested setting rb d).inits sites (calls_rel d) (inits_rel d) form

    -- each turn
    pub turn_rel : (d : ℕ) (entry : Entry) → Rel (started (world_over setting ra (nested setting ra d)) entry)
        (started (world_over setting rb (nested setting rb d)) entry)
    turn_rel d entry =
        started_rel setting ra rb (nested setting ra d).calls (nested setting rb d).calls (nested setting ra d).inits
        (nested setting rb d).inits sites (calls_rel d) (inits_rel d) entry
