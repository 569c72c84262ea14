-- What calls of members and of values come to.
use Rattle.std.proofs.Common.{◌≡◌, ℕ, Bool, true, false, Option, Some, None, Result, IfOk, List, [], ◌∷◌, ◌++◌, sym, ap, subst, ◌∙◌}
use Rattle.dart_base.specs.declared.place.Place.{Place}
use Rattle.dart_ir.specs.declared.class.Role.{Role}
use Rattle.dart_ir.specs.declared.class.Role.TheVariants.{Method, Getter, Setter}
use Rattle.dart_ir.specs.declared.value.Value.{Value}
use Rattle.core_program.specs.ProgramView as p
use Rattle.evaluation.specs.State.{answer, Outcome, ends, Meaning, World, Given, Callee}
use Rattle.evaluation.specs.Sequence.{on_answer, chosen}
use Rattle.evaluation.specs.Classes.{function_at, member}
use Rattle.evaluation.specs.Values.{class_of}
use Rattle.evaluation.specs.Arguments.{fits, alone, nothing_given}
use Rattle.evaluation.specs.Invocation.{Callable, an_object, callable, called, member_call, missing_from, missing, fitting, function_call, getter_has_body, object_call, applied, apply, sent, send_from, send, setting, set_from}
use Rattle.machine_frame.specs.declared.around.Around.{Around}
use Rattle.machine_frame.specs.declared.around.Fault.{Fault}
use Rattle.machine_frame.specs.declared.run.Control.{Control}
use Rattle.machine_frame.specs.declared.run.Frame.{Frame}
use Rattle.machine_frame.specs.declared.run.Frame.TheVariants as f
use Rattle.machine_frame.specs.declared.run.Passed.{Passed}
use Rattle.machine_frame.specs.declared.run.Run.{Run}
use Rattle.machine_frame.specs.Outside.{setting_of, world_in}
use Rattle.machine_frame.specs.Frames.{seen, below_of, below, resumed, resume, mute, going, ending_row, does, does_row, given_of}
use Rattle.machine_frame.proofs.Resume.{resume_push}
use Rattle.machine_frame.proofs.Turns.{apply_begins}
use Rattle.machine_call.proofs.Objects.{object_method}
use Rattle.machine_call.proofs.Operand.{does_alone}

pub comes_to : (a : Around) (new : Run) (found : Result Control Fault) (x y : Outcome) → x ≡ y → IfOk found (λ k. going a new k ≡ x) → IfOk found (λ k. going a new k ≡ y)
comes_to a new found x y e h = let P : Outcome → Type 0 = λ o. IfOk found (λ k. going a new k ≡ o) in subst P e h

does_pushed : (a : Around) (r m : Run) (frame : Frame) (go : World → Meaning) → m.frames.items ≡ r.frames.items ++ frame ∷ [] → m ≡ record r { frames = m.frames }
    → does a m go ≡ mute (resume a (below (below_of r) frame) r.frames.items (resumed (world_in a r.depth) (below_of r) frame (go (world_in a r.depth) (seen r))))
does_pushed a r m frame go h is =
    ap (λ (q : Run). mute (resume a (below_of q) m.frames.items (go (world_in a q.depth) (seen q)))) is
    ∙ ap (λ (l : List Frame). mute (resume a (below_of r) l (go (world_in a r.depth) (seen r)))) h
    ∙ ap mute (resume_push a (below_of r) r.frames.items frame (go (world_in a r.depth) (seen r)))

module _ (a : Around) (r : Run) (at : Place) where
  pub send_class : (n name : ℕ) (this : Value) (g : Given) (k : ℕ) → class_of (setting_of a) r.store this ≡ Some k
      → does_row a r n (λ w. send_from w at (Some k) name this g) ≡ does_row a r n (λ w. send w at name this g)
  send_class n name this g k e = ap (λ (q : Option ℕ). does_row a r n (λ w. send_from w at q name this g)) (sym e)

  pub apply_as : (n : ℕ) (v : Value) (g : Given) (x : Callable) → callable r.store v ≡ x
      → does_row a r n (λ w. applied w at v g (λ u. apply w at u g) x) ≡ does_row a r n (λ w. apply w at v g)
  apply_as n v g x e =
      ap (λ (q : Callable). does_row a r n (λ w. applied w at v g (λ u. apply w at u g) q)) (sym e)
      ∙ ap (ending_row a r n) (sym (apply_begins a r.depth at v g (seen r)))

  missing_class : (n : ℕ) (v : Value) (g : Given) (k : ℕ) → class_of (setting_of a) r.store v ≡ Some k
      → does_row a r n (λ w. missing_from w at (Some k) Method (setting_of a).known.call v g) ≡ does_row a r n (λ w. missing w at Method (setting_of a).known.call v g)
  missing_class n v g k e = ap (λ (q : Option ℕ). does_row a r n (λ w. missing_from w at q Method (setting_of a).known.call v g)) (sym e)

  pub function_missing : (n : ℕ) (v : Value) (i : ℕ) (callee : Callee) (g : Given) (k : ℕ) → class_of (setting_of a) r.store v ≡ Some k
      → fits (function_at (setting_of a).program i) g ≡ false
      → does_row a r n (λ w. missing_from w at (Some k) Method (setting_of a).known.call v g) ≡ does_row a r n (λ w. function_call w at v i callee g)
  function_missing n v i callee g k e h =
      missing_class n v g k e
      ∙ ap (λ (b : Bool). does_row a r n (λ w. chosen b (called w at i callee g) (missing w at Method w.setting.known.call v g))) (sym h)

  pub getter_missing : (n : ℕ) (v : Value) (m : ℕ) (g : Given) (k : ℕ) → class_of (setting_of a) r.store v ≡ Some k
      → getter_has_body (setting_of a).program m ≡ false
      → does_row a r n (λ w. missing_from w at (Some k) Method (setting_of a).known.call v g) ≡ does_row a r n (λ w. object_call w at v g (λ u. apply w at u g) None (Some m))
  getter_missing n v m g k e h =
      missing_class n v g k e
      ∙ ap (λ (b : Bool). does_row a r n (λ w. chosen b (λ st. on_answer (λ u. apply w at u g) (member_call w at m v nothing_given st)) (missing w at Method w.setting.known.call v g))) (sym h)

  getter_applied : (new : Run) (passed : Passed) (v : Value) (m : ℕ) → new.frames.items ≡ r.frames.items ++ f.Applying at passed ∷ [] → new ≡ record r { frames = new.frames }
      → does a new (λ w. member_call w at m v nothing_given)
      ≡ does_row a r passed.count (λ w st. on_answer (λ x. apply w at x (given_of passed r.operands.items)) (member_call w at m v nothing_given st))
  getter_applied new passed v m h is = does_pushed a r new (f.Applying at passed) (λ w. member_call w at m v nothing_given) h is

  pub getter_called : (new : Run) (passed : Passed) (v : Value) (m : ℕ) → new.frames.items ≡ r.frames.items ++ f.Applying at passed ∷ [] → new ≡ record r { frames = new.frames }
      → getter_has_body (setting_of a).program m ≡ true
      → does a new (λ w. member_call w at m v nothing_given)
      ≡ does_row a r passed.count (λ w. object_call w at v (given_of passed r.operands.items) (λ u. apply w at u (given_of passed r.operands.items)) None (Some m))
  getter_called new passed v m h is b =
      getter_applied new passed v m h is
      ∙ ap (λ (c : Bool). does_row a r passed.count (λ w. chosen c (λ st. on_answer (λ u. apply w at u (given_of passed r.operands.items)) (member_call w at m v nothing_given st)) (missing w at Method w.setting.known.call v (given_of passed r.operands.items)))) (sym b)

  pub getter_sent : (new : Run) (passed : Passed) (v : Value) (m c name : ℕ) → new.frames.items ≡ r.frames.items ++ f.Applying at passed ∷ [] → new ≡ record r { frames = new.frames }
      → Some m ≡ member (p.program a.program.now) (Some c) name Getter
      → does a new (λ w. member_call w at m v nothing_given)
      ≡ does_row a r passed.count (λ w. sent w at (Some c) name v (given_of passed r.operands.items) None (member (p.program a.program.now) (Some c) name Getter))
  getter_sent new passed v m c name h is e =
      getter_applied new passed v m h is
      ∙ ap (λ (q : Option ℕ). does_row a r passed.count (λ w. sent w at (Some c) name v (given_of passed r.operands.items) None q)) e

  at_class : (v : Value) (k : ℕ) (role : Role) (q : Option ℕ) → class_of (setting_of a) r.store v ≡ Some k
      → q ≡ member (p.program a.program.now) (Some k) (setting_of a).known.call role
      → q ≡ member (p.program a.program.now) (class_of (setting_of a) r.store v) (setting_of a).known.call role
  at_class v k role q e h = h ∙ ap (λ (c : Option ℕ). member (p.program a.program.now) c (setting_of a).known.call role) (sym e)

  pub object_fitting : (n : ℕ) (v : Value) (g : Given) (m k : ℕ) → class_of (setting_of a) r.store v ≡ Some k
      → Some m ≡ member (p.program a.program.now) (Some k) (setting_of a).known.call Method
      → does_row a r n (λ w. fitting w at (Some k) Method (setting_of a).known.call v g m) ≡ does_row a r n (λ w. applied w at v g (λ u. apply w at u g) an_object)
  object_fitting n v g m k e h =
      ap (ending_row a r n) (sym (object_method (world_in a r.depth) at v g (λ u. apply (world_in a r.depth) at u g) m (member (p.program a.program.now) (class_of (setting_of a) r.store v) (setting_of a).known.call Getter) k (seen r) e))
      ∙ ap (λ (q : Option ℕ). does_row a r n (λ w. object_call w at v g (λ u. apply w at u g) q (member (p.program a.program.now) (class_of (setting_of a) r.store v) (setting_of a).known.call Getter))) (at_class v k Method (Some m) e h)

  pub object_missing : (n : ℕ) (v : Value) (g : Given) (k : ℕ) → class_of (setting_of a) r.store v ≡ Some k
      → None ≡ member (p.program a.program.now) (Some k) (setting_of a).known.call Method
      → None ≡ member (p.program a.program.now) (Some k) (setting_of a).known.call Getter
      → does_row a r n (λ w. missing_from w at (Some k) Method (setting_of a).known.call v g) ≡ does_row a r n (λ w. applied w at v g (λ u. apply w at u g) an_object)
  object_missing n v g k e h i =
      missing_class n v g k e
      ∙ ap (λ (q : Option ℕ). does_row a r n (λ w. object_call w at v g (λ u. apply w at u g) q None)) (at_class v k Method None e h)
      ∙ ap (λ (q : Option ℕ). does_row a r n (λ w. object_call w at v g (λ u. apply w at u g) (member (p.program a.program.now) (class_of (setting_of a) r.store v) (setting_of a).known.call Method) q)) (at_class v k Getter None e i)

  pub setter_fitting : (m1 m2 : Run) (x : Value) (g : Passed) (c name : ℕ) (this : Value) (m : ℕ)
      → m1.frames.items ≡ r.frames.items ++ f.Answering x ∷ [] → m1 ≡ record r { frames = m1.frames }
      → m2.operands.items ≡ m1.operands.items ++ x ∷ [] → m2 ≡ record m1 { operands = m2.operands }
      → g.names.now ≡ [] → g.skip ≡ false → g.count ≡ 1 → Some m ≡ member (p.program a.program.now) (Some c) name Setter
      → does_row a m2 g.count (λ w. fitting w at (Some c) Setter name this (given_of g m2.operands.items) m) ≡ does a r (λ w. set_from w at (Some c) name this x)
  setter_fitting m1 m2 x g c name this m h is h2 is2 ns s n e =
      does_alone a m1 m2 x g (λ given w. fitting w at (Some c) Setter name this given m) h2 is2 ns s n
      ∙ does_pushed a r m1 (f.Answering x) (λ w. fitting w at (Some c) Setter name this (alone x) m) h is
      ∙ ap (λ (q : Option ℕ). does a r (λ w st. on_answer (λ _ st. ends (answer x) st) (setting w at (Some c) name this x q st))) e

  pub setter_missing : (m1 m2 : Run) (x : Value) (g : Passed) (c name : ℕ) (this : Value)
      → m1.frames.items ≡ r.frames.items ++ f.Answering x ∷ [] → m1 ≡ record r { frames = m1.frames }
      → m2.operands.items ≡ m1.operands.items ++ x ∷ [] → m2 ≡ record m1 { operands = m2.operands }
      → g.names.now ≡ [] → g.skip ≡ false → g.count ≡ 1 → None ≡ member (p.program a.program.now) (Some c) name Setter
      → does_row a m2 g.count (λ w. missing_from w at (Some c) Setter name this (given_of g m2.operands.items)) ≡ does a r (λ w. set_from w at (Some c) name this x)
  setter_missing m1 m2 x g c name this h is h2 is2 ns s n e =
      does_alone a m1 m2 x g (λ given w. missing_from w at (Some c) Setter name this given) h2 is2 ns s n
      ∙ does_pushed a r m1 (f.Answering x) (λ w. missing_from w at (Some c) Setter name this (alone x)) h is
      ∙ ap (λ (q : Option ℕ). does a r (λ w st. on_answer (λ _ st. ends (answer x) st) (setting w at (Some c) name this x q st))) e
