-- What is shown of files, where a source tells them.
use Rattle.std.specs.Prelude.{IfSome}
use Rattle.std.proofs.Common.{◌≡◌, sym, refl, subst, ℕ, List, Option, None, Some, Ok, Err, inl, inr}
use Rattle.dart_edge.specs.Files.{Files, file_of}
use Rattle.dart_tool.specs.declared.program.FileRefusal.{FileRefusal}
use Rattle.dart_tool.specs.declared.program.RunStop.TheVariants.{Refused}
use Rattle.dart_tool.specs.declared.status.Status.{Status}
use Rattle.dart_tool.specs.Outcome.{IsOutcome}
use Rattle.dart_tool.specs.Program.{LoadGives, WhereHas, load_stop, program_refusal}
use Rattle.dart_tool.specs.Tool.{Answers, Delivers}
use Rattle.dart_tool.proofs.ProgramLaws.{FoundWith, told_loaded, told_whole_stop, told_stop}
use Rattle.scope_files.specs.declared.check.Checked.TheVariants.{Sound, Against}
use Rattle.scope_files.specs.Files.{NameGives, known}
use Rattle.scope_load.specs.declared.loaded.Loaded.{Loaded}
use Rattle.scope_load.specs.declared.reason.LoadFault.{LoadFault}
use Rattle.scope_load.specs.Load.{Stops}
use Rattle.scope_load.specs.State.{state_of}
use Rattle.scope_reason.specs.declared.reason.ProgramReason.{ProgramReason}
use Rattle.core_print.specs.Root.{FileShows, LoadedShows}
use Rattle.core_print.specs.Printed.{FilePrints, Written, core_outcome, run_words}

-- ---- the root's text is at hand

loaded_shown : (told : Option Files) (root text : List ℕ) (name found : Option (List ℕ)) (loaded : Loaded) → LoadGives told root text (Ok loaded)
    → LoadedShows (state_of loaded) name found → WhereHas told root text (λ files. FileShows files root name found)
loaded_shown None root text name found loaded gives shows = tt
loaded_shown (Some files) root text name None loaded gives shows = λ has. inr (inr (state_of loaded, gives has, shows))
loaded_shown (Some files) root text name (Some bytes) loaded gives shows = λ has. (state_of loaded, gives has, shows)

pub sound_shown : (told : Option Files) (root text : List ℕ) (name found : Option (List ℕ)) (loaded : Loaded) → FoundWith told root text (Sound loaded)
    → LoadedShows (state_of loaded) name found → WhereHas told root text (λ files. FileShows files root name found)
sound_shown told root text name found loaded is shows = loaded_shown told root text name found loaded (told_loaded told root text loaded is) shows

refused_shown : (told : Option Files) (root text : List ℕ) (name : Option (List ℕ)) (against : FileRefusal) → LoadGives told root text (Err (Refused against))
    → WhereHas told root text (λ files. FileShows files root name None)
refused_shown None root text name against gives = tt
refused_shown (Some files) root text name against gives = λ has. inr (inl (against, gives has))

pub whole_shown : (told : Option Files) (root text : List ℕ) (name : Option (List ℕ)) (reason : ProgramReason) → FoundWith told root text (Against reason)
    → WhereHas told root text (λ files. FileShows files root name None)
whole_shown told root text name reason found = refused_shown told root text name (program_refusal reason)
    (told_whole_stop told root text reason (Refused (program_refusal reason)) (inl refl) found)

-- a fault that is a reason against the program
pub stop_shown : (told : Option Files) (root text : List ℕ) (name : Option (List ℕ)) (fault : LoadFault) (against : FileRefusal) → load_stop fault ≡ Refused against
    → Stops (NameGives (known root text told)) root fault → WhereHas told root text (λ files. FileShows files root name None)
stop_shown told root text name fault against is stops = refused_shown told root text name against
    (told_stop told root text fault (Refused against) (inl (sym is)) stops)

-- ---- a file is read

pub absent_shown : (told : Option Files) (root : List ℕ) (name : Option (List ℕ)) → IfSome told (λ files. None ≡ file_of files root)
    → IfSome told (λ files. FileShows files root name None)
absent_shown None root name is = tt
absent_shown (Some files) root name is = inl (sym is)

-- ---- what is printed of a file

pub run_printed : (file : List ℕ) (name : Option (List ℕ)) (status : Status) (before after : Written) (told also : Option Files) → also ≡ told
    → IfSome told (λ files. FileShows files file name None) → IfSome also (λ files. Answers (IsOutcome (run_words file) files) status before after)
    → IfSome told (λ files. FilePrints files file name status before after)
run_printed file name status before after None also same shows answers = tt
run_printed file name status before after (Some files) also same shows answers = inr (inl (
  shows,
  subst (λ (t : Option Files). IfSome t (λ files. Answers (IsOutcome (run_words file) files) status before after)) same answers,
))

pub core_printed : (file : List ℕ) (name : Option (List ℕ)) (bytes : List ℕ) (status : Status) (before after : Written) (told : Option Files)
    → IfSome told (λ files. FileShows files file name (Some bytes)) → Delivers (core_outcome bytes) status before after
    → IfSome told (λ files. FilePrints files file name status before after)
core_printed file name bytes status before after None shows delivers = tt
core_printed file name bytes status before after (Some files) shows delivers = inl (bytes, shows, delivers)
