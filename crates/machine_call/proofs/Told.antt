-- Calls of `noSuchMethod` with the Invocation of a member.
use Rattle.std.specs.Global.{Vec}
use Rattle.std.proofs.Common.{◌≡◌, ℕ, ◌<◌, ◌+◌, ◌*◌, Bool, true, false, Option, Some, None, List, take, sym, ap, subst, ◌∙◌}
use Rattle.dart_base.specs.declared.place.Place.{Place}
use Rattle.dart_ir.specs.declared.class.Role.{Role}
use Rattle.dart_ir.specs.declared.class.Role.TheVariants.{Method}
use Rattle.dart_ir.specs.declared.types.TypeRef.{TypeRef}
use Rattle.dart_ir.specs.declared.value.Value.{Value}
use Rattle.dart_ir.specs.declared.value.Value.TheVariants.{Null}
use Rattle.evaluation.specs.State.{answer, ended, out_of_objects, Outcome, ends, Meaning, World, Given}
use Rattle.evaluation.specs.Sequence.{on_answer, chosen}
use Rattle.evaluation.specs.Arguments.{alone}
use Rattle.evaluation.specs.Classes.{member}
use Rattle.evaluation.specs.Invocation.{invocation, told, missing_from, member_call, member_fits}
use Rattle.evaluation.proofs.Rounds.{room as units, RoomLess, invocation_falls}
use Rattle.machine_lookup.specs.Rows.{but_last}
use Rattle.machine_frame.specs.declared.around.Around.{Around}
use Rattle.machine_frame.specs.declared.run.Body.{Body}
use Rattle.machine_frame.specs.declared.run.Frame.{Frame}
use Rattle.machine_frame.specs.declared.run.Run.{Run}
use Rattle.machine_frame.specs.Outside.{setting_of, world_in}
use Rattle.machine_frame.specs.Frames.{seen, below_of, types_under, resume, mute, ending_row, does, does_row, load, room, value_or_full, IsBeside}
use Rattle.machine_frame.proofs.Turns.{missing_begins}
use Rattle.machine_call.specs.Missing.{units_left}

-- operands that are cut off, after what leaves all but the store as it is
pub cut_beside : (a : Around) (r r' : Run) (ops : Vec Value) (count : ℕ) → IsBeside r r' → ops.items ≡ but_last count r'.operands.items → (go : World → Meaning)
    → does a (record r' { operands = ops }) go ≡ ending_row a r count (go (world_in a r.depth) (seen r'))
cut_beside a r r' ops count b cut go =
    ap (λ (d : ℕ). mute (resume a (record { depth = d; under = take r'.base r'.slots.items; operands = ops.items; types = types_under r'.body.has_types r'.types.items; bodies = r'.callers.items }) r'.frames.items (go (world_in a d) (seen r')))) b.5
    ∙ ap (λ (vs : List Value). mute (resume a (record { depth = r.depth; under = vs; operands = ops.items; types = types_under r'.body.has_types r'.types.items; bodies = r'.callers.items }) r'.frames.items (go (world_in a r.depth) (seen r')))) b.1
    ∙ ap (λ (vs : List Value). mute (resume a (record { depth = r.depth; under = take r.base r.slots.items; operands = vs; types = types_under r'.body.has_types r'.types.items; bodies = r'.callers.items }) r'.frames.items (go (world_in a r.depth) (seen r')))) (cut ∙ ap (but_last count) b.3)
    ∙ ap (λ (x : Body). mute (resume a (record { depth = r.depth; under = take r.base r.slots.items; operands = but_last count r.operands.items; types = types_under x.has_types r'.types.items; bodies = r'.callers.items }) r'.frames.items (go (world_in a r.depth) (seen r')))) b.4
    ∙ ap (λ (ts : List (Vec TypeRef)). mute (resume a (record { depth = r.depth; under = take r.base r.slots.items; operands = but_last count r.operands.items; types = types_under r.body.has_types ts; bodies = r'.callers.items }) r'.frames.items (go (world_in a r.depth) (seen r')))) b.8
    ∙ ap (λ (bs : List Body). mute (resume a (record (below_of r) { operands = but_last count r.operands.items; bodies = bs }) r'.frames.items (go (world_in a r.depth) (seen r')))) b.9
    ∙ ap (λ (fs : List Frame). mute (resume a (record (below_of r) { operands = but_last count r.operands.items }) fs (go (world_in a r.depth) (seen r')))) b.0

module _ (a : Around) (r r' : Run) (at : Place) (class : ℕ) (role : Role) (name : ℕ) (this : Value) (g : Given) (count : ℕ) (made : Option Value) (ops : Vec Value)
    (is : invocation (setting_of a) role name g (seen r) ≡ ends (value_or_full made) (seen r')) (b : IsBeside r r') (cut : ops.items ≡ but_last count r'.operands.items) where
  abbrev w : World
  w = world_in a r.depth

  abbrev again : Value → Meaning
  again i = missing_from w at (Some class) Method (setting_of a).known.no_such_method this (alone i)

  abbrev found : Option ℕ
  found = member (setting_of a).program (Some class) (setting_of a).known.no_such_method Method

  abbrev whole : Outcome
  whole = does_row a r count (λ w. missing_from w at (Some class) role name this g)

  told_with : (o : Option Value) → made ≡ o → ending_row a r count (on_answer (told w at found this again) (ends (value_or_full o) (seen r'))) ≡ whole
  told_with o e =
      ap (λ (q : Option Value). ending_row a r count (on_answer (told w at found this again) (ends (value_or_full q) (seen r')))) (sym e)
      ∙ ap (λ (o : Outcome). ending_row a r count (on_answer (told w at found this again) o)) (sym is)
      ∙ ap (ending_row a r count) (sym (missing_begins a r.depth at (Some class) role name this g (seen r)))

  told_of : (i : Value) (q : Option ℕ) → made ≡ Some i → q ≡ found → ending_row a r count (told w at q this again i (seen r')) ≡ whole
  told_of i q e h = ap (λ (q : Option ℕ). ending_row a r count (told w at q this again i (seen r'))) h ∙ told_with (Some i) e

  told_if : (i : Value) (m : ℕ) (c : Bool) → made ≡ Some i → Some m ≡ found → c ≡ member_fits (setting_of a).program m (alone i)
      → ending_row a r count (chosen c (member_call w at m this (alone i)) (again i) (seen r')) ≡ whole
  told_if i m c e h fits =
      ap (λ (c : Bool). ending_row a r count (chosen c (member_call w at m this (alone i)) (again i) (seen r'))) fits ∙ told_of i (Some m) e h

  -- the units don't suffice for the Invocation
  pub none_made : made ≡ None → does a (record r' { operands = ops }) (λ _ st. ends (ended out_of_objects) st) ≡ whole
  none_made e = cut_beside a r r' ops count b cut (λ _ st. ends (ended out_of_objects) st) ∙ told_with None e

  pub nobody_told : (i : Value) → made ≡ Some i → None ≡ found → does a (record r' { operands = ops }) (λ _ st. ends (answer Null) st) ≡ whole
  nobody_told i e h = cut_beside a r r' ops count b cut (λ _ st. ends (answer Null) st) ∙ told_of i None e h

  pub told_alone : (i : Value) (m : ℕ) → made ≡ Some i → Some m ≡ found → true ≡ member_fits (setting_of a).program m (alone i)
      → does a (record r' { operands = ops }) (λ w. member_call w at m this (alone i)) ≡ whole
  told_alone i m e h fits = cut_beside a r r' ops count b cut (λ w. member_call w at m this (alone i)) ∙ told_if i m true e h fits

  pub told_again : (i : Value) (m : ℕ) → made ≡ Some i → Some m ≡ found → false ≡ member_fits (setting_of a).program m (alone i)
      → does a (record r' { operands = ops }) (λ w. missing_from w at (Some class) Method (setting_of a).known.no_such_method this (alone i)) ≡ whole
  told_again i m e h fits =
      cut_beside a r r' ops count b cut (λ w. missing_from w at (Some class) Method (setting_of a).known.no_such_method this (alone i)) ∙ told_if i m false e h fits

  -- the Invocation is an object more
  pub units_fall : (i : Value) → made ≡ Some i → units_left r' < units_left r
  units_fall i e = subst (RoomLess (units (seen r))) (is ∙ ap (λ (o : Option Value). ends (value_or_full o) (seen r')) e) (invocation_falls (setting_of a) role name g (seen r))

  pub same_room : room (record r' { operands = ops }) ≡ room r
  same_room = ap (λ (fs : List Frame). 16 * r'.left + load fs) b.0 ∙ ap (λ (n : ℕ). 16 * n + load r.frames.items) b.6
