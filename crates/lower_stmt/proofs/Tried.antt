-- The parts of a try, one behind another.
use Rattle.std.proofs.Common.{◌≡◌, ℕ, List, [], ◌∷◌, ◌++◌, Option, Some, None, refl, sym, ap, ◌∙◌, append_assoc, append-nil}
use Rattle.dart_tree.specs.Tree as t
use Rattle.dart_tree.specs.Types as ty
use Rattle.core_program.specs.Core as c
use Rattle.translation.specs.Firsts as first
use Rattle.translation.specs.Productions as low
use Rattle.translation.specs.Statements as s
use Rattle.translation.specs.Surroundings.{Text, Core}
use Rattle.translation.specs.Types as y
use Rattle.translation.specs.Walk as w
use Rattle.lower_clause.specs.Parts.{part_or, handled_behind, declared_trace}
use Rattle.lower_stmt.specs.Parts.{try_part}

-- parts behind those before them
abbrev behind : s.TryParts → w.Went s.TryParts → w.Went s.TryParts
behind before r = w.on r (λ more st. w.went (handled_behind before more) st)

inner : {X : Type 0} (f : X → s.TryParts → s.TryParts) (before : s.TryParts) → ((x : X) (more : s.TryParts) →
    handled_behind (handled_behind before (f x low.without_parts)) more ≡ handled_behind before (f x more)) → (x : X) (q : w.Went s.TryParts) →
    behind before (w.on q (λ parts st. w.went (f x parts) st)) ≡ behind (handled_behind before (f x low.without_parts)) q
unfolding w.on
inner f before same x (w.went parts st) = ap (λ (z : s.TryParts). w.went z st) (sym (same x parts))
inner f before same x (w.refused why) = refl

next : {X : Type 0} (f : X → s.TryParts → s.TryParts) (before : s.TryParts) → ((x : X) (more : s.TryParts) →
    handled_behind (handled_behind before (f x low.without_parts)) more ≡ handled_behind before (f x more)) → (rest : w.Walk s.TryParts) (r : w.Went X) →
    behind before (w.on r (λ x st. w.on (rest st) (λ parts st. w.went (f x parts) st)))
    ≡ w.on (behind before (w.on r (λ x st. w.went (f x low.without_parts) st))) (λ found st. behind found (rest st))
unfolding w.on
next f before same rest (w.went x st) = inner f before same x (rest st)
next f before same rest (w.refused why) = refl

or_missing : (x more : c.Part Text) → part_or (part_or x c.missing) more ≡ part_or x more
or_missing c.missing more = refl
or_missing (c.given form) more = refl

or_given : (x : c.Part Text) (form : Core) (more : c.Part Text) → part_or (part_or x (c.given form)) more ≡ part_or x (c.given form)
or_given c.missing form more = refl
or_given (c.given one) form more = refl

abbrev of_parts : List (c.Handler Text) → c.Part Text → s.TryParts
of_parts handlers last = record { handlers = handlers; last = last }

-- with one handler more
handler_same : (before : s.TryParts) (h : c.Handler Text) (more : s.TryParts) →
    handled_behind (handled_behind before (s.with_handler h low.without_parts)) more ≡ handled_behind before (s.with_handler h more)
handler_same before h more =
    ap (λ (hs : List (c.Handler Text)). of_parts hs (part_or (part_or before.last c.missing) more.last)) (append_assoc before.handlers (h ∷ []) more.handlers)
    ∙ ap (λ (x : c.Part Text). of_parts (before.handlers ++ h ∷ more.handlers) x) (or_missing before.last more.last)

-- with a final part
last_same : (before : s.TryParts) (form : Core) (more : s.TryParts) →
    handled_behind (handled_behind before (low.with_last form low.without_parts)) more ≡ handled_behind before (low.with_last form more)
last_same before form more =
    ap (λ (hs : List (c.Handler Text)). of_parts (hs ++ more.handlers) (part_or (part_or before.last (c.given form)) more.last)) (append-nil before.handlers)
    ∙ ap (λ (x : c.Part Text). of_parts (before.handlers ++ more.handlers) x) (or_given before.last form more.last)

typed_on : (of : ty.TypeNode) (walk : w.Walk s.Caught) (rest : w.Walk s.TryParts) (before : s.TryParts) (r : w.Went y.Typed) →
    behind before (w.on r (λ typed st. w.on (walk st) (λ x st. w.on (rest st)
    (λ parts st. w.went (s.with_handler (s.handler_of (s.test_of (first.first_of_type of) typed) x) parts) st))))
    ≡ w.on (behind before (w.on r (λ typed st. w.on (walk st)
    (λ x st. w.went (s.with_handler (s.handler_of (s.test_of (first.first_of_type of) typed) x) low.without_parts) st)))) (λ found st. behind found (rest st))
unfolding w.on
typed_on of walk rest before (w.went typed st) =
    next (λ (x : s.Caught) (parts : s.TryParts). s.with_handler (s.handler_of (s.test_of (first.first_of_type of) typed) x) parts) before
    (λ x more. handler_same before (s.handler_of (s.test_of (first.first_of_type of) typed) x) more) rest (walk st)
typed_on of walk rest before (w.refused why) = refl

pub tried_on : (kind : ty.TryKind) (block : t.Block) (rest : t.TryParts) (before : s.TryParts) (st : w.State) →
    w.on (low.try_parts (t.try_part kind block rest) st) (λ more st. w.went (handled_behind before more) st)
    ≡ w.on (try_part kind block before st) (λ found st. w.on (low.try_parts rest st) (λ more st. w.went (handled_behind found more) st))
unfolding w.on
tried_on (ty.on_part word of names) block rest before st =
    typed_on of (s.caught (s.catch_names names) (low.block_of block)) (low.try_parts rest) before (y.kept_type of st)
tried_on (ty.catch_part names) block rest before st =
    next (λ (x : s.Caught) (parts : s.TryParts). s.with_handler (s.handler_of c.everything x) parts) before
    (λ x more. handler_same before (s.handler_of c.everything x) more) (low.try_parts rest) (s.caught (s.catch_names (Some names)) (low.block_of block) st)
tried_on (ty.finally_part word) block rest before st =
    next (λ (form : Core) (parts : s.TryParts). low.with_last form parts) before (λ form more. last_same before form more) (low.try_parts rest) (low.block_of block st)

-- a handler's names
pub traced_on : (exception : ℕ) (name : Option Text) (body : w.Walk Core) (st : w.State) → s.caught_trace exception name body st
    ≡ w.on (declared_trace name st) (λ trace st. w.on (w.in_handler body st)
    (λ form st. w.went (record { exception = Some exception; trace = trace; body = form }) st))
unfolding w.on
traced_on exception None body st = refl
traced_on exception (Some name) body st = refl

pub ruleset tried = (tried_on, traced_on)
