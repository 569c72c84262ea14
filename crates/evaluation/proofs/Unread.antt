-- Production asks nothing of checks, and a program without what annotations ask for is itself without it.
use Rattle.std.proofs.Common.{◌≡◌, ℕ, List, [], ◌∷◌, ◌-◌, map, refl, sym, ap, ◌∙◌, Bool, true, false, Option}
use Rattle.dart_ir.specs.declared.ending.Line.TheVariants.{Printed}
use Rattle.dart_ir.specs.declared.native.Answer.{Answer}
use Rattle.dart_ir.specs.declared.value.Value.{Value}
use Rattle.dart_ir.specs.Ty.{TyOf, TysOf, NamedTysOf, dynamic, function, nil, cons, unnamed, named}
use Rattle.dart_store.specs.Heap.{with_field_at, with_static}
use Rattle.core_program.specs.Program.{Program, Member, Function, Site}
use Rattle.core_program.specs.Stripped as stripped
use Rattle.evaluation.specs.State.{State, now, Note, printed, sent, spawned, told, tested, with_event, with_line, Completion, answer, Outcome, ends, Meaning, Setting, NativeEnd, gives, full}
use Rattle.evaluation.specs.Externals.{noted, native_left}
use Rattle.evaluation.specs.Checks.{Checking, passes, lets_pass, judged, reaction, world, checking_of, setting_of}
use Rattle.evaluation.specs.Turn.{begun, started}
use Rattle.evaluation.specs.Laws.{ProductionChecksNothing, AnnotationsAreNotRead}
use Rattle.evaluation.proofs.Logic.{Logic}
use Rattle.evaluation.proofs.Forms.{turn_rel}

-- two that do the same
abbrev pub Same : Meaning → Meaning → Type 0
Same d d' = (st : State) → d st ≡ d' st

on : (f f' : Outcome → Outcome) → ((c : Completion) → Same (λ st. f (ends c st)) (λ st. f' (ends c st))) → (o : Outcome) → f o ≡ f' o
on f f' k (ends c st) = k c st

native_same : (go go' : Answer → Meaning) → ((x : Answer) → Same (go x) (go' x)) → (x : NativeEnd) (st : State) → native_left go x st
    ≡ native_left go' x st
native_same go go' q (gives result h) st = q result (record st { heap = h })
native_same go go' q full st = refl

note_same : (note : Note) (d d' : Meaning) → Same d d' → Same (noted note d) (noted note d')
note_same (printed units) d d' q st = q (with_event (with_line st (Printed units)) (told (printed units)))
note_same (sent i port v x) d d' q st = q (with_event st (told (sent i port v x)))
note_same (spawned f v x) d d' q st = q (with_event st (told (spawned f v x)))

pub same_logic : Logic Same
same_logic = record {
  stays = λ c st. refl;
  bind = λ f f' c c' k d d' q st. ap f (q st) ∙ on f f' k (d' st);
  reads = λ g g' q st. q (now st) st;
  lefts = λ n d d' q st. q (record st { left = st.left - n });
  spent = λ st. refl;
  activations = λ a d d' q st. q (record st { activation = a });
  adds = λ object st. refl;
  fields = λ r i v d d' q st. q (record st { heap = with_field_at st.heap r i v });
  statics = λ i x d d' q st. q (record st { heap = with_static st.heap i x });
  natives = λ ns id ts vs go go' q st. native_same go go' q (ns.call id ts vs st.heap) st;
  ports = λ ps d d' q st. q (record st { ports = ps });
  notes = note_same;
}

passed : (b : Bool) (k : Checking) (s : Setting) (n : ℕ) (v : Value) (st : State) → judged b k s lets_pass n v st ≡ ends (answer v) st
passed true k s n v st = refl
passed false k s n v st = refl

pub production_checks_nothing : ProductionChecksNothing
production_checks_nothing k other s depth entry isolate =
    turn_rel same_logic s (reaction k s lets_pass) (reaction other s lets_pass)
    (λ n head args v st. passed (passes k n head args) k s n v (with_event st (tested n head args))
    ∙ sym (passed (passes other n head args) other s n v (with_event st (tested n head args)))) depth entry (begun isolate)

-- ---- stripped twice

all_dynamic_again : {N : Type 0} (ts : TysOf N) → stripped.all_dynamic (stripped.all_dynamic ts) ≡ stripped.all_dynamic ts
all_dynamic_again nil = refl
all_dynamic_again (cons t ts) = ap (cons dynamic) (all_dynamic_again ts)

named_again : {N : Type 0} (ts : NamedTysOf N) → stripped.all_named_dynamic (stripped.all_named_dynamic ts) ≡ stripped.all_named_dynamic ts
named_again unnamed = refl
named_again (named n t ts) = ap (named n dynamic) (named_again ts)

loose_again : {N : Type 0} (t : TyOf N) → stripped.loose (stripped.loose t) ≡ stripped.loose t
loose_again (function result required optional names) =
    ap (λ ts. function dynamic ts (stripped.all_dynamic (stripped.all_dynamic optional))
    (stripped.all_named_dynamic (stripped.all_named_dynamic names))) (all_dynamic_again required)
    ∙ ap (λ ts. function dynamic (stripped.all_dynamic required) ts (stripped.all_named_dynamic (stripped.all_named_dynamic names)))
    (all_dynamic_again optional)
    ∙ ap (function dynamic (stripped.all_dynamic required) (stripped.all_dynamic optional)) (named_again names)
loose_again t = refl

asked_again : {N : Type 0} (b : Bool) (t : Option (TyOf N)) → stripped.asked b (stripped.asked b t) ≡ stripped.asked b t
asked_again true t = refl
asked_again false t = refl

members_again : {N : Type 0} (xs : List (Member N)) → map stripped.member (map stripped.member xs) ≡ map stripped.member xs
members_again [] = refl
members_again (x ∷ xs) =
    ap (λ t. record x { signature = t } ∷ map stripped.member (map stripped.member xs)) (loose_again x.signature)
    ∙ ap (λ l. stripped.member x ∷ l) (members_again xs)

functions_again : {N : Type 0} (xs : List (Function N)) → map stripped.function (map stripped.function xs) ≡ map stripped.function xs
functions_again [] = refl
functions_again (x ∷ xs) =
    ap (λ t. record x { signature = t } ∷ map stripped.function (map stripped.function xs)) (loose_again x.signature)
    ∙ ap (λ l. stripped.function x ∷ l) (functions_again xs)

sites_again : {N : Type 0} (xs : List (Site N)) → map stripped.site (map stripped.site xs) ≡ map stripped.site xs
sites_again [] = refl
sites_again (x ∷ xs) =
    ap (λ t. record x { required = t } ∷ map stripped.site (map stripped.site xs)) (asked_again x.annotated x.required)
    ∙ ap (λ l. stripped.site x ∷ l) (sites_again xs)

pub stripped_again : {N : Type 0} (p : Program N) → stripped.program (stripped.program p) ≡ stripped.program p
stripped_again p =
    ap (λ ms. record p {
      members = ms;
      functions = map stripped.function (map stripped.function p.functions);
      sites = map stripped.site
          (map stripped.site p.sites);
    }) (members_again p.members)
    ∙ ap (λ fs. record p {
      members = map stripped.member p.members;
      functions = fs;
      sites = map stripped.site
          (map stripped.site p.sites);
    }) (functions_again p.functions)
    ∙ ap (λ ss. record p { members = map stripped.member p.members; functions = map stripped.function p.functions; sites = ss })
    (sites_again p.sites)

pub annotations_are_not_read : AnnotationsAreNotRead
annotations_are_not_read p names is_subtype natives number cost depth entry isolate =
    production_checks_nothing (checking_of (stripped.program p) names is_subtype) (checking_of p names is_subtype)
    (setting_of (stripped.program p) names is_subtype natives number cost) depth entry isolate
    ∙ ap (λ q. started (world (checking_of p names is_subtype) (record (setting_of p names is_subtype natives number cost) { program = q })
    lets_pass depth) entry (begun isolate))
    (stripped_again p)
