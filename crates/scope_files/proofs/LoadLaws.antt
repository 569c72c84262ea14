-- Loading comes to one answer, where each name gives one thing.
use Rattle.std.proofs.Common.{◌≡◌, ◌∙◌, sym, ap, refl, subst, ℕ, ◌+◌, ◌<◌, ◌≤◌, Bool, true, false, List, [], ◌∷◌, ◌++◌, length, slice_get, Option, Some, None, ◌⊎◌, inl, inr, arith, length-append}
use Rattle.std.specs.Prelude.{fold, if◌then◌else◌}
use Rattle.std.proofs.lemmas.Bool.{cases_lt}
use Rattle.std.proofs.lemmas.Option.{same_Some}
use Rattle.dart_tree.specs.Unit.{UnitTree}
use Rattle.scope_mention.specs.declared.mention.Mention.{Mention}
use Rattle.scope_mention.specs.Mention.{mentions_of}
use Rattle.scope_load.specs.declared.reason.Reason.{Reason}
use Rattle.scope_load.specs.declared.reason.LoadFault.{LoadFault}
use Rattle.scope_load.specs.declared.reason.LoadFault.TheVariants as l
use Rattle.scope_load.specs.declared.units.UnitName.{UnitName}
use Rattle.scope_load.specs.Found.{FoundIs, absent, refused, read, Giving}
use Rattle.scope_load.specs.Load.{Reaches, Reaches.begins, Reaches.turns, Refuses, Ends, Stops, Loads, reason_against, Against}
use Rattle.scope_load.specs.Names.{folder_of, name_of}
use Rattle.scope_load.specs.State.{State, start, after, mentioned, named, numbered}

-- ---- a turn takes one unit

either_units : (b : Bool) (s t : State) (units : List UnitTree) → s.units ≡ units → t.units ≡ units → (if b then s else t).units ≡ units
either_units true s t units x y = x
either_units false s t units x y = y

numbered_units : (by : ℕ) (state : State) (mention : Mention) (name : UnitName) (at : Option ℕ) → (numbered by state mention name at).units ≡ state.units
numbered_units by state mention name (Some at) = refl
numbered_units by state mention name None = either_units _ _ _ state.units refl refl

named_units : (by : ℕ) (state : State) (mention : Mention) (name : Option UnitName) → (named by state mention name).units ≡ state.units
named_units by state mention None = refl
named_units by state mention (Some name) = numbered_units by state mention name _

followed_units : (folder : List ℕ) (by : ℕ) (state : State) (mentions : List Mention) → (fold (mentioned folder by) state mentions).units ≡ state.units
followed_units folder by state [] = refl
followed_units folder by state (m ∷ ms) = followed_units folder by (mentioned folder by state m) ms ∙ named_units by state m (name_of folder m.uri)

pub one_more : (root : List ℕ) (state : State) (name : UnitName) (unit : UnitTree) (weight : ℕ) → length (after root state name unit weight).units ≡ length state.units + 1
one_more root state name unit weight =
    let before : List UnitTree = (fold (mentioned (folder_of root) (length state.units)) state (mentions_of unit)).units in
    let kept : before ≡ state.units = followed_units (folder_of root) (length state.units) state (mentions_of unit) in
    let longer : length (before ++ unit ∷ []) ≡ length before + 1 = length-append before (unit ∷ []) in
    longer ∙ ap (λ (us : List UnitTree). length us + 1) kept

one_against : (a b : Against) → Some a ≡ Some b → a ≡ b
one_against a b e = same_Some a b e

-- ---- states that are reached

-- each name gives one thing
abbrev pub GivesOne : Giving → Type 0
GivesOne Gives = (number : ℕ) (name : UnitName) (a b : FoundIs) → Gives number name a → Gives number name b → a ≡ b

module _ (Gives : Giving) (root : List ℕ) where
  -- a turn of loading
  pub record Turn : Type 0 where
    pub state : State
    pub name : UnitName
    pub unit : UnitTree
    pub weight : ℕ
    pub reached : Reaches Gives root state
    pub is_next : slice_get state.names (length state.units) ≡ Some name
    pub given : Gives (length state.units) name (read unit weight)
    pub right : reason_against root state name (read unit weight) ≡ None

  first_state : (t : State) → Reaches Gives root t → length t.units ≡ 0 → t ≡ start root
  first_state _ begins e = refl
  first_state _ (turns state name unit weight reached is_next given right) e = absurd (omega (arith, e, one_more root state name unit weight))

  last_turn : (t : State) → Reaches Gives root t → (n : ℕ) → length t.units ≡ n + 1 → (turn : Turn) × (length turn.state.units ≡ n) × (t ≡ after root turn.state turn.name turn.unit turn.weight)
  last_turn _ begins n e = absurd (omega (arith, e))
  last_turn _ (turns state name unit weight reached is_next given right) n e = (
    record { state = state; name = name; unit = unit; weight = weight; reached = reached; is_next = is_next; given = given; right = right },
    omega (arith, e, one_more root state name unit weight),
    refl,
  )

  some_turn : (t : State) → Reaches Gives root t → (n : ℕ) → n < length t.units → (turn : Turn) × (length turn.state.units ≡ n)
  some_turn _ begins n lt = absurd (omega (arith, lt))
  some_turn _ (turns state name unit weight reached is_next given right) n lt = elim (cases_lt n (length state.units)) [
    | inl before ↦ some_turn state reached n before
    | inr late ↦ (
      record { state = state; name = name; unit = unit; weight = weight; reached = reached; is_next = is_next; given = given; right = right },
      omega (arith, lt, late, one_more root state name unit weight),
    )
  ]

  module _ (one : GivesOne Gives) where
    -- in one state one name is next, and it gives one thing
    next_name : (a b : State) (name other : UnitName) → a ≡ b → slice_get a.names (length a.units) ≡ Some name → slice_get b.names (length b.units) ≡ Some other → name ≡ other
    next_name a b name other e is so =
        let both : Some name ≡ Some other = sym is ∙ ap (λ (s : State). slice_get s.names (length s.units)) e ∙ so in cc

    next_found : (a b : State) (name other : UnitName) (found gives : FoundIs) → a ≡ b → name ≡ other → Gives (length a.units) name found → Gives (length b.units) other gives → found ≡ gives
    next_found a b name other found gives e same is so =
        one (length b.units) other found gives
        (subst (λ (s : State). Gives (length s.units) other found) e
        (subst (λ (n : UnitName). Gives (length a.units) n found) same is)) so

    same_turn : (a b : Turn) → a.state ≡ b.state → after root a.state a.name a.unit a.weight ≡ after root b.state b.name b.unit b.weight
    same_turn a b e =
        let name : a.name ≡ b.name = next_name a.state b.state a.name b.name e a.is_next b.is_next in
        let found : read a.unit a.weight ≡ read b.unit b.weight = next_found a.state b.state a.name b.name _ _ e name a.given b.given in
        let unit : a.unit ≡ b.unit = cc in
        let weight : a.weight ≡ b.weight = cc in
        λ i. after root (e i) (name i) (unit i) (weight i)

    -- states with as many units are one
    pub one_state : (s t : State) → Reaches Gives root s → Reaches Gives root t → length s.units ≡ length t.units → s ≡ t
    one_state _ t begins other e = sym (first_state t other (sym e))
    one_state _ t (turns state name unit weight reached is_next given right) other e =
        let (turn, count, is) = last_turn t other (length state.units) (sym e ∙ one_more root state name unit weight) in
        let this : Turn = record { state = state; name = name; unit = unit; weight = weight; reached = reached; is_next = is_next; given = given; right = right } in
        same_turn this turn (one_state state turn.state reached turn.reached (sym count)) ∙ sym is

    -- no turn begins in the state
    abbrev Stays : State → Type 0
    Stays state = (turn : Turn) → turn.state ≡ state → ⊥

    no_farther : (s t : State) → Reaches Gives root s → Stays s → Reaches Gives root t → length s.units < length t.units → ⊥
    no_farther s t reached stays other lt =
        let (turn, count) = some_turn t other (length s.units) lt in
        stays turn (one_state turn.state s turn.reached reached count)

    last_state : (s t : State) → Reaches Gives root s → Stays s → Reaches Gives root t → Stays t → s ≡ t
    last_state s t reached stays other stays_too = elim (cases_lt (length s.units) (length t.units)) as (λ _. s ≡ t) [
      | inl less ↦ absurd (no_farther s t reached stays other less)
      | inr most ↦ elim (cases_lt (length t.units) (length s.units)) as (λ _. s ≡ t) [
        | inl less ↦ absurd (no_farther t s other stays_too reached less)
        | inr least ↦ one_state s t reached other (omega (arith, most, least))
      ]
    ]

    refused_stays : (name : UnitName) (reason : Reason) (r : Refuses Gives root name reason) → Stays r.state
    refused_stays name reason r turn e =
        let next : turn.name ≡ r.next = next_name turn.state r.state turn.name r.next e turn.is_next r.is_next in
        let found : read turn.unit turn.weight ≡ r.found = next_found turn.state r.state turn.name r.next _ _ e next turn.given r.given in
        let same : reason_against root turn.state turn.name (read turn.unit turn.weight) ≡ reason_against root r.state r.next r.found = λ i. reason_against root (e i) (next i) (found i) in
        let both : ◌≡◌ {A = Option Against} None (Some (name, reason)) = sym turn.right ∙ same ∙ r.against in
        absurd cc

    ended_stays : (state : State) → Ends Gives root state → Stays state
    ended_stays state ends turn e =
        let both : Some turn.name ≡ None = sym turn.is_next ∙ ap (λ (s : State). slice_get s.names (length s.units)) e ∙ ends.all in
        absurd cc

    -- ---- one answer

    pub one_reason : (name other : UnitName) (reason because : Reason) → Refuses Gives root name reason → Refuses Gives root other because → (name ≡ other) × (reason ≡ because)
    one_reason name other reason because r q =
        let e : r.state ≡ q.state = last_state r.state q.state r.reached (refused_stays name reason r) q.reached (refused_stays other because q) in
        let next : r.next ≡ q.next = next_name r.state q.state r.next q.next e r.is_next q.is_next in
        let found : r.found ≡ q.found = next_found r.state q.state r.next q.next _ _ e next r.given q.given in
        let same : reason_against root r.state r.next r.found ≡ reason_against root q.state q.next q.found = λ i. reason_against root (e i) (next i) (found i) in
        let pair : ◌≡◌ {A = Against} (name, reason) (other, because) = one_against (name, reason) (other, because) (sym r.against ∙ same ∙ q.against) in
        (ap (λ (p : Against). p.0) pair, ap (λ (p : Against). p.1) pair)

    pub refused_or_ended : (name : UnitName) (reason : Reason) (state : State) → Refuses Gives root name reason → Ends Gives root state → ⊥
    refused_or_ended name reason state r ends =
        let e : r.state ≡ state = last_state r.state state r.reached (refused_stays name reason r) ends.reached (ended_stays state ends) in
        let both : Some r.next ≡ None = sym r.is_next ∙ ap (λ (s : State). slice_get s.names (length s.units)) e ∙ ends.all in
        absurd cc

    pub one_end : (a b : State) → Ends Gives root a → Ends Gives root b → a ≡ b
    one_end a b x y = last_state a b x.reached (ended_stays a x) y.reached (ended_stays b y)

-- ---- what one gives another gives too

module _ (Gives Other : Giving) (root : List ℕ) (by : (number : ℕ) (name : UnitName) (found : FoundIs) → Gives number name found → Other number name found) where
  reaches_by : (state : State) → Reaches Gives root state → Reaches Other root state
  reaches_by _ begins = begins
  reaches_by _ (turns state name unit weight reached is_next given right) =
      turns state name unit weight (reaches_by state reached) is_next (by (length state.units) name (read unit weight) given) right

  pub ends_by : (state : State) → Ends Gives root state → Ends Other root state
  ends_by state ends = record { reached = reaches_by state ends.reached; all = ends.all }

  pub stops_by : (fault : LoadFault) → Stops Gives root fault → Stops Other root fault
  stops_by (l.Refused name reason) r = record {
    state = r.state;
    next = r.next;
    found = r.found;
    reached = reaches_by r.state r.reached;
    is_next = r.is_next;
    given = by (length r.state.units) r.next r.found r.given;
    against = r.against;
  }
  stops_by l.TooLarge (state, ends, large) = (state, ends_by state ends, large)
  stops_by l.Failed stops = tt
  stops_by l.Memory stops = tt
