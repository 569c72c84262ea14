-- The turn of a program with annotations, and that of the program that is run.
use Rattle.std.specs.Prelude.{◌≡◌, ℕ, List, option_map}
use Rattle.core_program.specs.Program.{Program}
use Rattle.core_program.specs.ProgramView as p
use Rattle.core_program.specs.Alike as alike
use Rattle.core_program.specs.Stripped as stripped
use Rattle.evaluation.specs.State.{Setting}
use Rattle.evaluation.specs.Prelude.{known}
use Rattle.evaluation.specs.Checks as checks
use Rattle.evaluation.specs.Checks.{OnFailure, reports, world}
use Rattle.evaluation.specs.Turn.{Turn, turn, main, Budget, Isolate, new_isolate}
use Rattle.machine_frame.specs.declared.around.Around.{Around}
use Rattle.machine_frame.specs.Outside.{annotated_or, failing, known_of, setting_of, world_in}
use Rattle.machine_turn.specs.Turn.{quiet, first_turn}

-- A program as it runs: without what its annotations ask for, and without columns and marks.
abbrev pub bare : Program ℕ → Program ℕ
bare q = alike.program (stripped.program q)

-- What evaluation asks of a program, with the subtypes, the natives and the costs of messages of a run: it sees the bare program.
abbrev pub setting_with : Setting → Program ℕ → List (List ℕ) → Setting
setting_with s q names = record (checks.setting_of q names s.is_subtype s.natives s.isolate s.parcel_cost) { program = bare q }

-- The turn of `main` where this follows a check that fails, events aside: evaluation goes over the bare program, and checks by the program
-- itself.
abbrev pub main_turn : Setting → Program ℕ → List (List ℕ) → OnFailure → ℕ → Isolate → Turn
main_turn s q names how depth i =
    quiet (turn (world (checks.checking_of q names s.is_subtype) (setting_with s q names) how depth) (main q.main) i)

-- The program that is run is the other one bare, with its names, and the numbers of the prelude are its own. What follows a check that fails
-- is this, and in checked mode the checks are those of the other.
pub record RunsBare (a : Around) (q : Program ℕ) (names : List (List ℕ)) (how : OnFailure) : Type 0 where
  pub program : p.program a.program.now ≡ bare q
  pub names_same : a.program.now.names ≡ names
  pub known_same : known_of a.setup.now.known ≡ known q names
  pub failing_same : failing a.setup.now.annotated ≡ how
  pub checked_same : how ≡ reports → p.program (annotated_or a.program.now a.setup.now.annotated) ≡ q

-- The first turn of a bare program is the turn of the program itself, where this follows a check that fails.
abbrev pub FirstTurnIsProduced : Type 0
FirstTurnIsProduced = (a : Around) (q : Program ℕ) (names : List (List ℕ)) (how : OnFailure) → RunsBare a q names how
    → (depth : ℕ) (b : Budget)
    → first_turn (world_in a depth) a.program.now b ≡ option_map (main_turn (setting_of a) q names how depth) (new_isolate q b)
