-- The items of a unit, as a loop reads them turn by turn.
use Rattle.std.proofs.Common.{◌≡◌, ℕ, ◌+◌, ◌-◌, ◌<◌, ◌≤◌, max, true, false, List, [], ◌∷◌, ◌++◌, length, Ok, Err, refl, sym, ap, ap₂, ◌∙◌, arith}
use Rattle.dart_token.specs.declared.token.Token.{Token}
use Rattle.dart_tree.specs.Depth.{decl_height, directive_height}
use Rattle.dart_tree.specs.Tree as t
use Rattle.dart_tree.specs.Unit as d
use Rattle.grammar_laws.specs.Readers.{Outcome, Reader, and_then, many_from_turns, prepend, starts}
use Rattle.grammar_laws.proofs.Cuts.{gave}
use Rattle.grammar_laws.proofs.Turns.{from_fails, from_more, from_over, from_stops, prepend_none}
use Rattle.parse_decl.specs.Views.{behind_item, item_height, items_at, items_height, with_item}
use Rattle.parse_loop.proofs.Alike.{behind_taller}
use Rattle.parse_loop.specs.Lists.{given}
use Rattle.parse_nest.specs.Stages.{exprs_at}
use Rattle.syntax_readers.specs.Parameters.{metadata}
use Rattle.syntax_readers.specs.Units as spec
use Rattle.token_codes.specs.Codes.{class_of}

-- ---- an item behind its metadata

second : {A B : Type 0} (a : A) (o : Outcome Token B) →
    and_then {B = B} (and_then {B = A × B} o (λ b rest. Ok ((a, b), rest))) (λ x rest. Ok (x.1, rest)) ≡ o
second a (Ok x) = refl
second a (Err rest) = refl

module _ (n : ℕ) (still : spec.Still) (ts : List Token) where
  pub item_stops : (end : List Token) → metadata (exprs_at n) ts ≡ Err end → spec.item n still ts ≡ Err end
  unfolding spec.item
  item_stops end e = rw e refl

  pub item_goes_on : (found : t.Metadata) (mid : List Token) → metadata (exprs_at n) ts ≡ Ok (found, mid) →
      spec.item n still ts ≡ spec.item_behind n still found mid
  unfolding spec.item
  item_goes_on found mid e = rw e (second found (spec.item_behind n still found mid))

-- ---- the items of each kind

directives_grow : (items : List spec.Item) (x : d.Directive) →
    spec.directives_of (items ++ spec.a_directive x ∷ []) ≡ spec.directives_of items ++ x ∷ []
directives_grow [] x = refl
directives_grow (spec.a_directive y ∷ items) x = ap (λ (l : List d.Directive). y ∷ l) (directives_grow items x)
directives_grow (spec.a_decl y ∷ items) x = directives_grow items x

directives_stay : (items : List spec.Item) (x : d.Decl) → spec.directives_of (items ++ spec.a_decl x ∷ []) ≡ spec.directives_of items
directives_stay [] x = refl
directives_stay (spec.a_directive y ∷ items) x = ap (λ (l : List d.Directive). y ∷ l) (directives_stay items x)
directives_stay (spec.a_decl y ∷ items) x = directives_stay items x

decls_grow : (items : List spec.Item) (x : d.Decl) → spec.decls_of (items ++ spec.a_decl x ∷ []) ≡ spec.decls_of items ++ x ∷ []
decls_grow [] x = refl
decls_grow (spec.a_directive y ∷ items) x = decls_grow items x
decls_grow (spec.a_decl y ∷ items) x = ap (λ (l : List d.Decl). y ∷ l) (decls_grow items x)

decls_stay : (items : List spec.Item) (x : d.Directive) → spec.decls_of (items ++ spec.a_directive x ∷ []) ≡ spec.decls_of items
decls_stay [] x = refl
decls_stay (spec.a_directive y ∷ items) x = decls_stay items x
decls_stay (spec.a_decl y ∷ items) x = ap (λ (l : List d.Decl). y ∷ l) (decls_stay items x)

abbrev unit_from : List d.Directive → List d.Decl → d.UnitTree
unit_from directives declarations = record { directives = directives; declarations = declarations }

grows : (items : List spec.Item) (x : spec.Item) → spec.to_unit (items ++ x ∷ []) ≡ with_item (spec.to_unit items) x
grows items (spec.a_directive x) = ap₂ unit_from (directives_grow items x) (decls_stay items x)
grows items (spec.a_decl x) = ap₂ unit_from (directives_stay items x) (decls_grow items x)

taller : (unit : d.UnitTree) (x : spec.Item) → items_height (with_item unit x) ≡ max (items_height unit) (item_height x)
taller unit (spec.a_directive x) = let e = behind_taller directive_height unit.directives x in omega arith
taller unit (spec.a_decl x) = let e = behind_taller decl_height unit.declarations x in omega arith

-- ---- the turns

abbrev pub turns : ℕ → ℕ → spec.Still → Reader Token (List spec.Item)
turns n left still = many_from_turns class_of (λ still. spec.item_first) (spec.item n) (λ still x. true) spec.still_behind left still

-- these items were read, so many turns are left, and these directives may still come
pub record ItemsSoFar (n : ℕ) (whole : Outcome Token d.UnitTree) (unit : d.UnitTree) (still : spec.Still) (tall left : ℕ) (rest : List Token) : Type 0 where
  pub items : List spec.Item
  pub same : unit ≡ spec.to_unit items
  pub high : tall ≡ items_height unit
  pub low : tall ≤ n
  pub read : whole ≡ given spec.to_unit (prepend items (turns n left still rest))

pub none_high : (unit : d.UnitTree) → unit ≡ spec.to_unit [] → 0 ≡ items_height unit
none_high unit is = ap items_height (sym is)

still_is : (still : spec.Still) (x : spec.Item) → spec.still_behind still x ≡ behind_item x
still_is still (spec.a_directive x) = refl
still_is still (spec.a_decl x) = refl

module _ (n : ℕ) where
  pub begins : (start : List Token) (unit : d.UnitTree) (still : spec.Still) (left : ℕ) → unit ≡ spec.to_unit [] → still ≡ spec.all_directives →
      left ≡ length start → ItemsSoFar n (items_at n start) unit still 0 left start
  begins start unit still left same all few = record {
    items = [];
    same = same;
    high = none_high unit same;
    low = omega arith;
    read = rw (all, few) (ap (given spec.to_unit) (prepend_none (turns n (length start) spec.all_directives start)));
  }

  module _ (whole : Outcome Token d.UnitTree) where
    -- no item begins, or no turn is left
    ended : (unit : d.UnitTree) (still : spec.Still) (tall left : ℕ) (rest : List Token) (i : ItemsSoFar n whole unit still tall left rest) →
        prepend i.items (turns n left still rest) ≡ Ok (i.items, rest) → whole ≡ Ok (unit, rest)
    ended unit still tall left rest i e = i.read ∙ ap (given spec.to_unit) e ∙ ap (λ (u : d.UnitTree). gave u rest) (sym i.same)

    pub stops : (unit : d.UnitTree) (still : spec.Still) (tall end at : ℕ) (rest : List Token) →
        ItemsSoFar n whole unit still tall (end - at) rest → at < end → starts class_of spec.item_first rest ≡ false → whole ≡ Ok (unit, rest)
    stops unit still tall end at rest i below off = ended unit still tall (end - at) rest i
        (from_stops class_of (λ still. spec.item_first) (spec.item n) (λ still x. true) spec.still_behind end at still i.items rest below off)

    pub over : (unit : d.UnitTree) (still : spec.Still) (tall end at : ℕ) (rest : List Token) → ItemsSoFar n whole unit still tall (end - at) rest →
        end ≤ at → whole ≡ Ok (unit, rest)
    over unit still tall end at rest i done = ended unit still tall (end - at) rest i
        (from_over class_of (λ still. spec.item_first) (spec.item n) (λ still x. true) spec.still_behind end at still i.items rest done)

    -- an item begins that is none
    pub fails : (unit : d.UnitTree) (still : spec.Still) (tall end at : ℕ) (rest fault : List Token) →
        ItemsSoFar n whole unit still tall (end - at) rest → at < end → starts class_of spec.item_first rest ≡ true →
        spec.item n still rest ≡ Err fault → whole ≡ Err fault
    fails unit still tall end at rest fault i below on e = i.read ∙ ap (given spec.to_unit)
        (from_fails class_of (λ still. spec.item_first) (spec.item n) (λ still x. true) spec.still_behind end at still i.items rest fault below on e)

    -- an item stands behind the others
    pub goes_on : (unit longer : d.UnitTree) (still next : spec.Still) (tall high end at : ℕ) (rest mid : List Token) (x : spec.Item) →
        ItemsSoFar n whole unit still tall (end - at) rest → at < end → starts class_of spec.item_first rest ≡ true →
        spec.item n still rest ≡ Ok (x, mid) →
        longer ≡ with_item unit x → next ≡ behind_item x → high ≡ max tall (item_height x) → item_height x ≤ n → ItemsSoFar n whole longer next high (end - (at + 1)) mid
    goes_on unit longer still next tall high end at rest mid x i below on e is behind hi le = record {
      items = i.items ++ x ∷ [];
      same = is ∙ ap (λ (u : d.UnitTree). with_item u x) i.same ∙ sym (grows i.items x);
      high = let a = i.high in let k = taller unit x in let j = ap items_height is in omega arith;
      low = let l = i.low in omega arith;
      read = i.read
          ∙ ap (given spec.to_unit) (from_more class_of (λ still. spec.item_first) (spec.item n) (λ still x. true) spec.still_behind end at still i.items rest mid x below on e refl
          ∙ ap (λ (s : spec.Still). prepend (i.items ++ x ∷ []) (turns n (end - (at + 1)) s mid)) (still_is still x ∙ sym behind));
    }
