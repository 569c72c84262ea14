-- Words and files have one outcome, and never none.
use Rattle.std.specs.Prelude.{IfSome, IfOk, Result, Ok, Err}
use Rattle.std.proofs.Common.{◌≡◌, ◌∙◌, sym, ap, refl, subst, ℕ, List, Option, None, Some, inl, inr}
use Rattle.dart_edge.specs.Files.{Files, file_of}
use Rattle.dart_edge.specs.Writes.{IsPrefix, WrotePrefix}
use Rattle.dart_words.specs.declared.options.Options.{Options}
use Rattle.dart_run.specs.declared.written.Written.{Written}
use Rattle.dart_words.specs.declared.words.Verb.{Verb}
use Rattle.dart_words.specs.declared.words.Verb.TheVariants as v
use Rattle.dart_words.specs.Words.{Command, command_of}
use Rattle.dart_tool.specs.declared.outcome.Outcome.{Outcome}
use Rattle.dart_tool.specs.declared.program.FileRefusal.{FileRefusal}
use Rattle.dart_tool.specs.declared.status.Status.{Status}
use Rattle.dart_tool.specs.declared.status.Status.TheVariants.{Done, Usage, Refused, Uncaught, CheckFailed, Limit, ReadFault, WriteFault, Memory}
use Rattle.dart_tool.specs.declared.status.Refusal.{Refusal}
use Rattle.dart_tool.specs.declared.status.Refusal.TheVariants.{NotFound, NotBuilt}
use Rattle.dart_tool.specs.Language.{IsNoUnitFor, RefusedFor, GivesEnd}
use Rattle.dart_tool.specs.Outcome.{FileGives, EraseGives, VerbGives, CommandGives, IsOutcome, usage_outcome, written_outcome, refused, erased_outcome}
use Rattle.dart_tool.specs.Program.{Finishes, WhereHas}
use Rattle.dart_tool.specs.Tool.{Answers, CutShort, Delivers}
use Rattle.dart_tool.proofs.ProgramLaws.{one_any, one_finish, finish_unrefused}
use Rattle.dart_tool.proofs.UnitLaws.{one_reason_for, one_erased, erased_unrefused, erased_or_refused}

pub one_file_outcome : (name : List ℕ) (files : Files) (options : Options) (content : Option (List ℕ)) (a b : Outcome) → FileGives name files options content a → FileGives name files options content b → a ≡ b
one_file_outcome name files options None a b x y = x ∙ sym y
one_file_outcome name files options (Some text) a b (inl (against, has, e)) (inl (also, other, f)) = e ∙ ap (λ (r : FileRefusal). refused r.why r.file) (one_any files name options against also has other) ∙ sym f
one_file_outcome name files options (Some text) a b (inl (against, has, e)) (inr (inl (made, finishes, f))) = absurd (finish_unrefused files name options against made has finishes)
one_file_outcome name files options (Some text) a b (inl (against, has, e)) (inr (inr (none, nothing, f))) = absurd (none against has)
one_file_outcome name files options (Some text) a b (inr (inl (made, finishes, e))) (inl (against, has, f)) = absurd (finish_unrefused files name options against made has finishes)
one_file_outcome name files options (Some text) a b (inr (inl (made, finishes, e))) (inr (inl (other, also, f))) = e ∙ ap written_outcome (one_finish files name options made other finishes also) ∙ sym f
one_file_outcome name files options (Some text) a b (inr (inl (made, finishes, e))) (inr (inr (none, nothing, f))) = absurd (nothing made finishes)
one_file_outcome name files options (Some text) a b (inr (inr (none, nothing, e))) (inl (against, has, f)) = absurd (none against has)
one_file_outcome name files options (Some text) a b (inr (inr (none, nothing, e))) (inr (inl (made, finishes, f))) = absurd (nothing made finishes)
one_file_outcome name files options (Some text) a b (inr (inr (none, nothing, e))) (inr (inr (none', nothing', f))) = e ∙ sym f

-- a root whose program writes something
pub written_given : (told : Option Files) (name text : List ℕ) (options : Options) (made : Written) (out : Outcome) → GivesEnd told name text options (Some made) → out ≡ written_outcome made → WhereHas told name text (λ files. FileGives name files options (Some text) out)
written_given None name text options made out gives is = tt
written_given (Some files) name text options made out gives is = λ has. inr (inl (made, gives has, is))

-- one that is refused for no reason and writes nothing
pub not_built : (told : Option Files) (name text : List ℕ) (options : Options) (out : Outcome) → WhereHas told name text (λ files. (against : FileRefusal) → RefusedFor files name options against → ⊥) → GivesEnd told name text options None → out ≡ refused NotBuilt name → WhereHas told name text (λ files. FileGives name files options (Some text) out)
not_built None name text options out no_reason nothing is = tt
not_built (Some files) name text options out no_reason nothing is = λ has. inr (inr (no_reason has, nothing has, is))

-- one that is refused
pub refusal_given : (told : Option Files) (name text : List ℕ) (options : Options) (against : FileRefusal) (out : Outcome) → WhereHas told name text (λ files. RefusedFor files name options against) → out ≡ refused against.why against.file → WhereHas told name text (λ files. FileGives name files options (Some text) out)
refusal_given None name text options against out refused is = tt
refusal_given (Some files) name text options against out refused is = λ has. inl (against, refused has, is)

-- a file whose text is no unit
pub erase_refused : {E : Type 0} (name text : List ℕ) (why : Refusal) → IsNoUnitFor text why → (result : Result Outcome E) → IfOk result (λ out. out ≡ refused why name) → IfOk result (λ out. EraseGives name (Some text) out)
erase_refused name text why no_unit (Err error) h = tt
erase_refused name text why no_unit (Ok out) h = inl (why, no_unit, h)

one_erase_outcome : (name : List ℕ) (content : Option (List ℕ)) (a b : Outcome) → EraseGives name content a → EraseGives name content b → a ≡ b
one_erase_outcome name None a b x y = x ∙ sym y
one_erase_outcome name (Some text) a b (inl (why, is, e)) (inl (other, so, f)) = e ∙ ap (λ w. refused w name) (one_reason_for text why other is so) ∙ sym f
one_erase_outcome name (Some text) a b (inl (why, is, e)) (inr (bytes, erases, f)) = absurd (erased_unrefused text bytes why erases is)
one_erase_outcome name (Some text) a b (inr (bytes, erases, e)) (inl (why, is, f)) = absurd (erased_unrefused text bytes why erases is)
one_erase_outcome name (Some text) a b (inr (bytes, erases, e)) (inr (others, also, f)) =
    e ∙ ap erased_outcome (one_erased text bytes others erases also) ∙ sym f

one_verb_outcome : (verb : Verb) (name : List ℕ) (files : Files) (content : Option (List ℕ)) (a b : Outcome) → VerbGives verb name files content a → VerbGives verb name files content b → a ≡ b
one_verb_outcome (v.Run options) name files content a b x y = one_file_outcome name files options content a b x y
one_verb_outcome v.Erase name files content a b x y = one_erase_outcome name content a b x y

-- what a command gives for a file that isn't there
pub absent_given : (told : Option Files) (verb : Verb) (name : List ℕ) (content : Option (List ℕ)) (out : Outcome) → content ≡ None → out ≡ refused NotFound name → IfSome told (λ files. file_of files name ≡ content → VerbGives verb name files content out)
absent_given None verb name content out e is = tt
absent_given (Some files) (v.Run options) name content out e is = λ has. subst (λ (c : Option (List ℕ)). FileGives name files options c out) (sym e) is
absent_given (Some files) v.Erase name content out e is = λ has. subst (λ (c : Option (List ℕ)). EraseGives name c out) (sym e) is

-- what `run` gives for a root that is there
pub root_given : {E : Type 0} (told : Option Files) (verb : Verb) (options : Options) (name : List ℕ) (content : Option (List ℕ)) (text read : List ℕ) (result : Result Outcome E) → verb ≡ v.Run options → content ≡ Some text → read ≡ text → IfOk result (λ out. WhereHas told name read (λ files. FileGives name files options (Some read) out)) → IfOk result (λ out. IfSome told (λ files. file_of files name ≡ content → VerbGives verb name files content out))
root_given told verb options name content text read (Err error) e f g is = tt
root_given None verb options name content text read (Ok out) e f g is = tt
root_given (Some files) verb options name content text read (Ok out) e f g is = λ has.
    let given : FileGives name files options (Some read) out = is (has ∙ f ∙ ap Some (sym g)) in
    subst (λ (x : Verb). VerbGives x name files content out) (sym e)
    (subst (λ (c : Option (List ℕ)). FileGives name files options c out) (ap Some g ∙ sym f) given)

-- what `erase` gives for a file that is there
pub erased_given : (told : Option Files) (verb : Verb) (name : List ℕ) (content : Option (List ℕ)) (text read : List ℕ) (out : Outcome) → verb ≡ v.Erase → content ≡ Some text → read ≡ text → EraseGives name (Some read) out → IfSome told (λ files. file_of files name ≡ content → VerbGives verb name files content out)
erased_given None verb name content text read out e f g is = tt
erased_given (Some files) verb name content text read out e f g is = λ has.
    subst (λ (x : Verb). VerbGives x name files content out) (sym e)
    (subst (λ (c : Option (List ℕ)). EraseGives name c out) (ap Some g ∙ sym f) is)

one_command_outcome : (command : Option Command) (files : Files) (a b : Outcome) → CommandGives command files a → CommandGives command files b → a ≡ b
one_command_outcome None files a b x y = x ∙ sym y
one_command_outcome (Some command) files a b x y = one_verb_outcome command.verb command.file files (file_of files command.file) a b x y

-- the words and the files have at most one outcome
pub one_outcome : (words : List (List ℕ)) (files : Files) (a b : Outcome) → IsOutcome words files a → IsOutcome words files b → a ≡ b
one_outcome words files a b x y = one_command_outcome (command_of words) files a b x y

some_file_outcome : (name : List ℕ) (files : Files) (options : Options) (content : Option (List ℕ)) → ((out : Outcome) → FileGives name files options content out → ⊥) → ⊥
some_file_outcome name files options None none = none (refused NotFound name) refl
some_file_outcome name files options (Some text) none =
    let no_reason : (against : FileRefusal) → RefusedFor files name options against → ⊥ = λ against has. none (refused against.why against.file) (inl (against, has, refl)) in
    let nothing : (made : Written) → Finishes files name options made → ⊥ = λ made finishes. none (written_outcome made) (inr (inl (made, finishes, refl))) in
    none (refused NotBuilt name) (inr (inr (no_reason, nothing, refl)))

some_erase_outcome : (name : List ℕ) (content : Option (List ℕ)) → ((out : Outcome) → EraseGives name content out → ⊥) → ⊥
some_erase_outcome name None none = none (refused NotFound name) refl
some_erase_outcome name (Some text) none = erased_or_refused text
    (λ why is. none (refused why name) (inl (why, is, refl)))
    (λ bytes erases. none (erased_outcome bytes) (inr (bytes, erases, refl)))

some_verb_outcome : (verb : Verb) (name : List ℕ) (files : Files) (content : Option (List ℕ)) → ((out : Outcome) → VerbGives verb name files content out → ⊥) → ⊥
some_verb_outcome (v.Run options) name files content none = some_file_outcome name files options content none
some_verb_outcome v.Erase name files content none = some_erase_outcome name content none

some_command_outcome : (command : Option Command) (files : Files) → ((out : Outcome) → CommandGives command files out → ⊥) → ⊥
some_command_outcome None files none = none usage_outcome refl
some_command_outcome (Some command) files none = some_verb_outcome command.verb command.file files (file_of files command.file) none

-- the words and the files aren't without an outcome
pub some_outcome : (words : List (List ℕ)) (files : Files) → ((out : Outcome) → IsOutcome words files out → ⊥) → ⊥
some_outcome words files none = some_command_outcome (command_of words) files none

prefix_written : (IsDue : Outcome → Type 0) (due : Outcome) (before after : Option (List ℕ)) → ((out : Outcome) → IsDue out → out ≡ due) → WrotePrefix before after due.bytes → CutShort IsDue before after
prefix_written IsDue due before after one (prefix, is, e) = (prefix, e, λ out is_due. subst (λ (o : Outcome). IsPrefix prefix o.bytes) (sym (one out is_due)) is)

-- delivering the one outcome that is due answers it
pub answers_from_delivered : (IsDue : Outcome → Type 0) (due : Outcome) (status : Status) (before after : Option (List ℕ)) → IsDue due → ((out : Outcome) → IsDue out → out ≡ due) → Delivers due status before after → Answers IsDue status before after
answers_from_delivered IsDue due ReadFault before after is one h = absurd h
answers_from_delivered IsDue due WriteFault before after is one h = prefix_written IsDue due before after one h
answers_from_delivered IsDue due Memory before after is one h = prefix_written IsDue due before after one h
answers_from_delivered IsDue due Done before after is one h = (due, is, h.0, h.1)
answers_from_delivered IsDue due Usage before after is one h = (due, is, h.0, h.1)
answers_from_delivered IsDue due Refused before after is one h = (due, is, h.0, h.1)
answers_from_delivered IsDue due Uncaught before after is one h = (due, is, h.0, h.1)
answers_from_delivered IsDue due CheckFailed before after is one h = (due, is, h.0, h.1)
answers_from_delivered IsDue due Limit before after is one h = (due, is, h.0, h.1)

-- a read, and then the delivery of the outcome of what was read
pub read_answers : (told kept : Option Files) (verb : Verb) (name : List ℕ) (content : Option (List ℕ)) (due : Outcome) (status : Status) (before after : Option (List ℕ)) → kept ≡ told → IfSome told (λ files. content ≡ file_of files name) → IfSome kept (λ files. file_of files name ≡ content → VerbGives verb name files content due) → Delivers due status before after → IfSome told (λ files. Answers (CommandGives (Some (record { verb = verb; file = name })) files) status before after)
read_answers None kept verb name content due status before after same is gives h = tt
read_answers (Some files) kept verb name content due status before after same is gives h =
    let given : VerbGives verb name files content due = subst (λ (o : Option Files). IfSome o (λ fs. file_of fs name ≡ content → VerbGives verb name fs content due)) same gives (sym is) in
    subst (λ (c : Option (List ℕ)). Answers (VerbGives verb name files c) status before after) is (answers_from_delivered (VerbGives verb name files content) due status before after given (λ out other. one_verb_outcome verb name files content out due other given) h)

-- what the words ask is what their command asks
pub words_answer : (told : Option Files) (words : List (List ℕ)) (command : Option Command) (status : Status) (before after : Option (List ℕ)) → command_of words ≡ command → IfSome told (λ files. Answers (CommandGives command files) status before after) → IfSome told (λ files. Answers (IsOutcome words files) status before after)
words_answer None words command status before after e h = tt
words_answer (Some files) words command status before after e h = subst (λ (c : Option Command). Answers (CommandGives c files) status before after) (sym e) h

-- words that are no command
pub usage_answers : (told : Option Files) (status : Status) (before after : Option (List ℕ)) → Delivers usage_outcome status before after → IfSome told (λ files. Answers (CommandGives None files) status before after)
usage_answers None status before after h = tt
usage_answers (Some files) status before after h = answers_from_delivered (CommandGives None files) usage_outcome status before after refl (λ out due. due) h
