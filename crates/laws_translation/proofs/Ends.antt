-- Walks go alike where annotations and columns are forgotten.
use Rattle.std.proofs.Common.{◌≡◌, refl, sym, ap, ◌∙◌, ◌+◌, List, [], ◌∷◌, ◌++◌, length, map, take, Option, None, Some, Bool, true, false, if◌then◌else◌}
use Rattle.std.proofs.lemmas.List.{map-append, length-map, take-map}
use Rattle.std.specs.Prelude.{bytes_eq}
use Rattle.dart_base.specs.declared.place.Place.{Place}
use Rattle.dart_ir.specs.declared.kind.SiteKind.{SiteKind}
use Rattle.dart_ir.specs.declared.kind.SiteKind.TheVariants as kind
use Rattle.core_program.specs.Core as c
use Rattle.translation.specs.Surroundings.{Text, Core}
use Rattle.translation.specs.Walk.{Reason, Asked, unasked, Entry, Target, Inside, State, Went, Walk, went, refused, on, site_of, with_site, checked, tested, fresh, declared, leaving, scoped, entry_from, entry_of, within, in_handler, targeted, with_literal}
use Rattle.laws_translation.proofs.Kept as k
use Rattle.laws_translation.proofs.Kept.{line, Goes, ends}

after : {A B : Type 0} (f : A → A) (g : B → B) (r : Went A) (w' w : A → State → Went B) →
    ((a : A) (s : State) → w' (f a) (k.state s) ≡ ends g (w a s)) → on (ends f r) w' ≡ ends g (on r w)
unfolding on ends
after f g (went a s) w' w h = h a s
after f g (refused r) w' w h = refl

-- one step, and then what follows
pub on_ends : {A B : Type 0} (f : A → A) (g : B → B) (r' r : Went A) (w' w : A → State → Went B) →
    r' ≡ ends f r → ((a : A) (s : State) → w' (f a) (k.state s) ≡ ends g (w a s)) → on r' w' ≡ ends g (on r w)
on_ends f g r' r w' w e h = ap (λ (x : Went _). on x w') e ∙ after f g r w' w h

-- an answer, and a reason
pub done : {A : Type 0} (f : A → A) (a' a : A) (s' s : State) → a' ≡ f a → s' ≡ k.state s → went a' s' ≡ ends f (went a s)
unfolding ends
done f a' a s' s e h = λ i. went (e i) (h i)

pub stop : {A : Type 0} (f : A → A) (r' r : Reason) → r' ≡ k.reason r → refused r' ≡ ends f (refused r)
unfolding ends
stop f r' r e = ap refused e

-- ---- sites

with_site_ends : (kind : SiteKind) (place : Place) (asked : Asked) (s : State) → with_site kind (line place) (k.asked asked) (k.state s) ≡ ends (λ n. n) (with_site kind place asked s)
unfolding ends
with_site_ends kind place asked s = λ i. went (length-map s.sites k.site i)
    (record (k.state s) { sites = sym (map-append k.site s.sites (site_of kind place asked ∷ [])) i })

pub with_site_goes : (kind : SiteKind) (p' p : Place) (a' a : Asked) → p' ≡ line p → a' ≡ k.asked a → Goes (λ n. n) (with_site kind p' a') (with_site kind p a)
with_site_goes kind p' p a' a e h s = (λ i. with_site kind (e i) (h i) (k.state s)) ∙ with_site_ends kind p a s

pub checked_goes : (kind : SiteKind) (p' p : Place) (a' a : Asked) (form : Core) → p' ≡ line p → a' ≡ k.asked a → Goes k.core (checked kind p' a' (k.core form)) (checked kind p a form)
unfolding k.core
checked_goes kind p' p a' a form e h s = on_ends _ _ _ _ _ _ (with_site_goes kind p' p a' a e h s)
    (λ site s. done _ _ (c.at p (c.unary (c.check site) form)) _ s (ap (λ (x : Place). c.at x (c.unary (c.check site) (k.core form))) e) refl)

pub tested_goes : (p' p : Place) (form : Core) → p' ≡ line p → Goes k.core (tested p' (k.core form)) (tested p form)
tested_goes p' p form e s = on_ends _ _ _ _ _ _ (checked_goes kind.Condition p' p _ unasked form e refl s)
    (λ form s. checked_goes kind.NullCondition p' p _ unasked form e refl s)

-- ---- scopes and variables

pub fresh_goes : Goes (λ n. n) fresh fresh
unfolding ends
fresh_goes s = refl

declared_ends : (name : Text) (asked : Asked) (is_final : Bool) (s : State) → declared name (k.asked asked) is_final (k.state s) ≡ ends (λ n. n) (declared name asked is_final s)
unfolding ends
declared_ends name asked is_final s = λ i. went s.variables (record (k.state s) {
  variables = s.variables + 1;
  scopes = sym (map-append k.entry s.scopes (record { name = name; variable = s.variables; asked = asked; is_final = is_final } ∷ [])) i;
})

pub declared_goes : (n' n : Text) (a' a : Asked) (f' f : Bool) → n' ≡ n → a' ≡ k.asked a → f' ≡ f → Goes (λ n. n) (declared n' a' f') (declared n a f)
declared_goes n' n a' a f' f e h l s = (λ i. declared (e i) (h i) (l i) (k.state s)) ∙ declared_ends n a f s

leaving_ends : {A : Type 0} (f : A → A) (before : State) (r : Went A) → leaving (k.state before) (ends f r) ≡ ends f (leaving before r)
unfolding ends leaving
leaving_ends f before (went a s) =
    (λ i. went (f a) (record (k.state s) { scopes = take (length-map before.scopes k.entry i) (map k.entry s.scopes) })) ∙
    (λ i. went (f a) (record (k.state s) { scopes = take-map k.entry (length before.scopes) s.scopes i }))
leaving_ends f before (refused r) = refl

pub scoped_goes : {A : Type 0} (f : A → A) (w' w : Walk A) → Goes f w' w → Goes f (scoped w') (scoped w)
scoped_goes f w' w h s = ap (leaving (k.state s)) (h s) ∙ leaving_ends f s (w s)

pub within_goes : {A : Type 0} (f : A → A) (i' i : Inside) (w' w : Walk A) → i' ≡ k.inside i → Goes f w' w → Goes f (within i' w') (within i w)
unfolding within
within_goes f i' i w' w e h s = (λ j. within (e j) w' (k.state s)) ∙
    on_ends _ _ _ _ _ _ (h (record s { inside = i })) (λ a s. done _ _ a _ _ refl refl)

pub in_handler_goes : {A : Type 0} (f : A → A) (w' w : Walk A) → Goes f w' w → Goes f (in_handler w') (in_handler w)
in_handler_goes f w' w h s = within_goes f _ (record s.inside { in_handler = true }) w' w refl h s

pub targeted_goes : {A : Type 0} (f : A → A) (target : Target) (w' w : Walk A) → Goes f w' w → Goes f (targeted target w') (targeted target w)
targeted_goes f target w' w h s =
    on_ends _ _ _ _ _ _ (h (record s { targets = s.targets ++ target ∷ [] })) (λ a s. done _ _ a _ _ refl refl)

pub with_literal_goes : (units : Text) → Goes (λ n. n) (with_literal units) (with_literal units)
unfolding ends
with_literal_goes units s = refl

-- ---- entries

abbrev pub option_entry : Option Entry → Option Entry
option_entry None = None
option_entry (Some e) = Some (k.entry e)

chosen : (b : Bool) (e : Entry) (best : Option Entry) →
    (if b then Some (k.entry e) else option_entry best) ≡ option_entry (if b then Some e else best)
chosen true e best = refl
chosen false e best = refl

found : (es : List Entry) (name : Text) (best : Option Entry) → entry_from (map k.entry es) name (option_entry best) ≡ option_entry (entry_from es name best)
found [] name best = refl
found (e ∷ es) name best = ap (entry_from (map k.entry es) name) (chosen (bytes_eq e.name name) e best) ∙ found es name (if bytes_eq e.name name then Some e else best)

-- a name is bound to the same variable
pub entry_same : (s : State) (name : Text) → entry_of (k.state s) name ≡ option_entry (entry_of s name)
entry_same s name = found s.scopes name None

-- forms in order
pub cores_map : (forms : List Core) → c.cores (map k.core forms) ≡ k.cores (c.cores forms)
unfolding k.cores k.core
cores_map [] = refl
cores_map (form ∷ forms) = ap (c.core_more (k.core form)) (cores_map forms)
