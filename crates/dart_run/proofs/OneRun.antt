-- A program has one run within a budget.
use Rattle.std.proofs.Common.{◌≡◌, ℕ, map, sym, ap, ◌∙◌}
use Rattle.std.specs.Prelude.{Option, None, option_map}
use Rattle.std.proofs.lemmas.Simd.{map-map}
use Rattle.core_program.specs.declared.program.CoreProgram.{CoreProgram}
use Rattle.core_program.specs.Program.{Class, Program}
use Rattle.core_program.specs.ProgramView as v
use Rattle.dart_native.specs.Native as n
use Rattle.native_object.specs.Shown as shown
use Rattle.evaluation.specs.Checks.{OnFailure}
use Rattle.evaluation.specs.Turn.{Turn, Budget, new_isolate}
use Rattle.machine_frame.specs.declared.around.Around.{Around}
use Rattle.machine_frame.specs.Natives.{natives, native_steps, native_end, read_of, end_of}
use Rattle.machine_frame.specs.Outside.{known_of, setting_of}
use Rattle.machine_turn.specs.Produced.{main_turn}
use Rattle.dart_run.specs.Written.{written}
use Rattle.dart_run.specs.Run.{IsRun}
use Rattle.dart_run.specs.Laws.{RunIsOne}
use Rattle.dart_run.proofs.Alike.{subtypes_same}

-- ---- two programs that are run for one

module _ (a b : Around) (program_is : v.program a.program.now ≡ v.program b.program.now) (names_is : a.program.now.names ≡ b.program.now.names) (known_is : known_of a.setup.now.known ≡ known_of b.setup.now.known) where
  class_names_same : map shown.name_number a.program.now.classes.classes.items ≡ map shown.name_number b.program.now.classes.classes.items
  class_names_same =
      sym (map-map (λ (c : Class ℕ). c.name) v.class a.program.now.classes.classes.items)
      ∙ ap (λ (p : Program ℕ). map (λ (c : Class ℕ). c.name) p.classes) program_is
      ∙ map-map (λ (c : Class ℕ). c.name) v.class b.program.now.classes.classes.items

  read_same : read_of a ≡ read_of b
  read_same = λ i. record {
    literals = (program_is i).literals;
    names = names_is i;
    class_names = class_names_same i;
    known = record {
      null = record { 0 = (known_is i).null_class };
      boolean = record { 0 = (known_is i).bool_class };
      integer = record { 0 = (known_is i).int_class };
      string = record { 0 = (known_is i).string_class };
      list = record { 0 = (known_is i).list_class };
      function = record { 0 = (program_is i).function_class };
      type_class = record { 0 = (known_is i).type_class };
      send_port = record { 0 = (known_is i).send_port_class };
      receive_port = record { 0 = (known_is i).receive_port_class };
    };
  }

  natives_same : natives a ≡ natives b
  unfolding native_steps native_end
  natives_same = λ i. record {
    steps = λ id vs h. n.steps (read_same i) id vs h;
    call = λ id ts vs h. end_of (n.native (read_same i) id ts vs h);
  }

  pub setting_same : a.setup.now.isolate ≡ b.setup.now.isolate → setting_of a ≡ setting_of b
  setting_same isolate_is = λ i. record {
    program = program_is i;
    names = names_is i;
    known = known_is i;
    is_subtype = λ t s.
        subtypes_same b.program.now.classes a.program.now.classes (ap (λ (p : Program ℕ). p.classes) program_is)
        (ap (λ (p : Program ℕ). p.function_class) program_is) t s i;
    natives = natives_same i;
    isolate = isolate_is i;
    parcel_cost = λ h u. None;
  }

-- ---- one run

-- what evaluation asks of the runs of one program is the same
pub settings_same : (x : CoreProgram) (how others : OnFailure) (b : Budget) (turn other : Option Turn) (r : IsRun x how b turn)
    (s : IsRun x others b other) → setting_of r.around ≡ setting_of s.around
settings_same x how others b turn other r s =
    setting_same r.around s.around (r.bare.program ∙ sym s.bare.program) (r.bare.names_same ∙ sym s.bare.names_same)
    (r.bare.known_same ∙ sym s.bare.known_same) (r.first ∙ sym s.first)

turn_is_one : (x : CoreProgram) (how : OnFailure) (b : Budget) (turn other : Option Turn) → IsRun x how b turn → IsRun x how b other → turn ≡ other
turn_is_one x how b turn other r s =
    r.is_turn
    ∙ ap (λ w. option_map (main_turn w (v.program x) x.names how b.depth) (new_isolate (v.program x) b)) (settings_same x how how b turn other r s)
    ∙ sym s.is_turn

pub run_is_one : RunIsOne
run_is_one x how b made other r s =
    r.is_written ∙ ap (written x.units.items (v.program x).sites) (turn_is_one x how b r.turn s.turn r.is_run s.is_run) ∙ sym s.is_written
