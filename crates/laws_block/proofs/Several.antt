-- The law of the parts of a `try` behind one another, with what begins another one behind them (ECMA-408, 17.11 Try).
use Rattle.std.proofs.Common.{◌≡◌, ℕ, Bool, true, false, ◌⊎◌, inl, inr, List, [], ◌∷◌, ◌++◌, length, Some, Ok, Err, refl, sym, ap, subst, ◌∙◌, append_assoc, arith}
use Rattle.std.proofs.lemmas.List.{append-nil, length-append}
use Rattle.std.specs.List.{flat_map, AllByRecursion}
use Rattle.dart_token.specs.declared.token.Token.{Token}
use Rattle.dart_token.specs.declared.word.Word.TheVariants as w
use Rattle.dart_tree.specs.Tree.{TryParts}
use Rattle.grammar_laws.specs.Codes.{has, Within, nowhere}
use Rattle.grammar_laws.specs.Readers.{Reader, both_by, both, starts, always}
use Rattle.grammar_laws.specs.Fronts.{Front, GoesOn, both_spelling, BothFitBy}
use Rattle.grammar_laws.specs.Laws.{Laws, Stops, Stuck}
use Rattle.grammar_laws.proofs.Codes.{apart, apart_none, apart_smaller, cases_bool, clash, has_left, has_right, neither, within_none, within_self, within_union}
use Rattle.grammar_laws.proofs.Cuts.{same, longer, shorter, cut, gave, failed, both_ok, both_err, same_value, same_rest}
use Rattle.grammar_laws.proofs.Joints.{stops_within}
use Rattle.grammar_laws.proofs.Steps.{both_gives}
use Rattle.grammar_laws.proofs.Restated.{mapped_laws, reread}
use Rattle.grammar_laws.proofs.Combined.{both_any_laws}
use Rattle.grammar_laws.proofs.Tried.{stops_nowhere}
use Rattle.dart_syntax.specs.Phrases.{Phrase, many, some}
use Rattle.token_codes.specs.Codes.{class_of, on_code, this_word}
use Rattle.token_codes.specs.Reads.{Reads}
use Rattle.syntax_readers.specs.Combinators.{many_where}
use Rattle.syntax_readers.specs.Types.{type_reader}
use Rattle.syntax_readers.specs.Statements.{on_type, on_comes, try_part_comes}
use Rattle.laws_type.proofs.Types.{under_type}
use Rattle.laws_apart.specs.Statements.{body_codes}
use Rattle.laws_block.specs.Begun.{rest_of, on_phrase, begun, Begins, part_begins, every_code, after_begun, ReadsBegun}
use Rattle.laws_block.proofs.On.{on_reads}
use Rattle.laws_block.proofs.Every.{every_token}
use Rattle.laws_block.proofs.Faults.{by_one}
use Rattle.laws_block.proofs.Begun.{Gives, gives, Part, part_is, part_off, begun_off, begins_on}
use Rattle.laws_block.proofs.Combined.{assoc, then_same, stops_apart}
use Rattle.laws_block.proofs.Parts.{part_first}
use Rattle.laws_block.proofs.Told.{plain_laws, peel_all, item_stuck, sound_turns, fault_turns, complete_turns, reads}

no_more : (rest : List Token) → Stops class_of every_code rest → rest ≡ []
no_more [] stop = refl
no_more (t ∷ rest) stop = clash (has every_code (class_of t)) (every_token t) stop

pub same_front : (a b rest : List Token) → a ++ rest ≡ b ++ rest → a ≡ b
same_front a b rest e = elim (cut a rest b rest e) [
  | same u v ↦ u
  | longer t z u v ↦ absurd (omega (arith, ap length v, length-append z rest))
  | shorter t z u v ↦ absurd (omega (arith, ap length v, length-append z rest))
]

module _ (k : ℕ) {part : Reader Token TryParts} {q : Phrase TryParts} (P : Reads part q part_first nowhere false)
    (fails : (ts rest : List Token) → try_part_comes (type_reader k) ts ≡ false → rest_of (on_type (type_reader k) ts) ≡ rest → part ts ≡ Err rest)
    (opens : (m : List Token) → (on_phrase k).front m → q.front m) where
  abbrev comes : List Token → Bool
  comes = try_part_comes (type_reader k)

  abbrev L : Front Token
  L = (many q).front

  abbrev F : List TryParts → Type 0
  F = AllByRecursion q.Fits

  abbrev tokens : List TryParts → List Token
  tokens = flat_map q.spelling

  reads_one : (x : TryParts) (rest : List Token) → q.Fits x → part (q.spelling x ++ rest) ≡ Ok (x, rest)
  reads_one x rest fits = P.complete x rest fits (stops_nowhere class_of rest)

  none_comes : comes [] ≡ false
  none_comes = part_off (Some k) [] refl

  comes_at : (x : TryParts) (rest : List Token) → q.Fits x → comes (q.spelling x ++ rest) ≡ true
  comes_at x rest fits = elim (cases_bool (comes (q.spelling x ++ rest))) [
    | inl on ↦ on
    | inr off ↦ absurd (bad (fails (q.spelling x ++ rest) (rest_of (on_type (type_reader k) (q.spelling x ++ rest))) off refl))
  ] where
    bad : part (q.spelling x ++ rest) ≡ Err (rest_of (on_type (type_reader k) (q.spelling x ++ rest))) → ⊥
    bad e = let no : failed {A = TryParts} (rest_of (on_type (type_reader k) (q.spelling x ++ rest))) ≡ gave x rest = sym e ∙ reads_one x rest fits in absurd cc

  -- ---- the law of the list with what is begun behind it

  abbrev pairs : Reader Token (List TryParts × List Token)
  pairs = both_by (many_where comes part) (λ xs. begun (Some k))

  abbrev PairFits : List TryParts × List Token → Type 0
  PairFits = BothFitBy F (λ xs. Begins (Some k))

  abbrev spell : List TryParts × List Token → List Token
  spell = both_spelling tokens (λ m. m)

  abbrev after : List TryParts × List Token → List ℕ
  after x = after_begun (Some k) (this_word w.Catch) x.1

  sound : (ts : List Token) (x : List TryParts × List Token) (rest : List Token) → pairs ts ≡ Ok (x, rest) → PairFits x × (ts ≡ spell x ++ rest)
  sound ts x rest h =
      let v = both_ok (many_where comes part) (λ xs. begun (Some k)) ts x rest h in
      let l = sound_turns comes P none_comes comes_at (length ts) ts x.0 v.0 (omega arith) v.1 in
      let g : Gives (Some k) v.0 = gives (Some k) v.0 in
      let m-is : g.tokens ≡ x.1 = same_value g.tokens x.1 g.rest rest (sym g.read ∙ v.2) in
      let rest-is : g.rest ≡ rest = same_rest g.tokens x.1 g.rest rest (sym g.read ∙ v.2) in (
        (l.0, subst (Begins (Some k)) m-is g.fits),
        l.1 ∙ ap (λ (a : List Token). tokens x.0 ++ a) (g.cuts ∙ ap (λ (a : List Token). a ++ g.rest) m-is ∙ ap (λ (a : List Token). x.1 ++ a) rest-is) ∙ sym (append_assoc (tokens x.0) x.1 rest),
      )

  longest : (ts : List Token) (x : List TryParts × List Token) (t : Token) (rest : List Token) → pairs ts ≡ Ok (x, t ∷ rest) → L (spell x ++ t ∷ []) → ⊥
  longest ts x t rest h j =
      let v = both_ok (many_where comes part) (λ xs. begun (Some k)) ts x (t ∷ rest) h in
      let l = sound_turns comes P none_comes comes_at (length ts) ts x.0 v.0 (omega arith) v.1 in
      let s = sound ts x (t ∷ rest) h in
      let c = item_stuck comes P none_comes comes_at v.0 (t ∷ rest) (fails v.0 (t ∷ rest) l.2 (same_rest _ x.1 (rest_of (on_type (type_reader k) v.0)) (t ∷ rest) v.2)) in
      let mid-is : v.0 ≡ x.1 ++ t ∷ rest = same_tail (tokens x.0) v.0 (x.1 ++ t ∷ rest) (sym l.1 ∙ s.1 ∙ append_assoc (tokens x.0) x.1 (t ∷ rest)) in
      let here : c.0 ≡ x.1 = same_front c.0 x.1 (t ∷ rest) (sym c.1 ∙ mid-is) in
      c.3 t rest refl (subst (λ (a : List Token). L (a ++ t ∷ [])) (sym here) (peel_all comes P none_comes comes_at x.0 l.0 (x.1 ++ t ∷ []) (subst L (append_assoc (tokens x.0) x.1 (t ∷ [])) j))) where
        same_tail : (a b c : List Token) → a ++ b ≡ a ++ c → b ≡ c
        same_tail [] b c e = e
        same_tail (s ∷ a) b c e = let tails : a ++ b ≡ a ++ c = cc in same_tail a b c tails

  fault : (ts rest : List Token) → pairs ts ≡ Err rest → Stuck L ts rest
  fault ts rest h = elim (both_err (many_where comes part) (λ xs. begun (Some k)) ts rest h) as (λ _. Stuck L ts rest) [
    | inl e ↦ fault_turns comes P none_comes comes_at (length ts) ts rest (omega arith) e
    | inr v ↦ absurd cc
  ]

  -- behind parts where no further one comes, and with the tokens that begin one
  off_by : (rest : List Token) → Stops class_of (this_word w.Catch) rest → part_begins (Some k) rest ≡ false → comes rest ≡ false
  off_by rest stop none = neither (starts class_of (this_word w.Catch) rest) (on_comes (type_reader k) rest) stop none

  record Begun (m rest : List Token) : Type 0 where
    off : comes (m ++ rest) ≡ false
    read : begun (Some k) (m ++ rest) ≡ Ok (m, rest)

  all_begun : (m : List Token) → Begins (Some k) m → begun (Some k) m ≡ Ok (m, [])
  all_begun m b = of (gives (Some k) m) where
    ended : (tokens rest : List Token) → begun (Some k) m ≡ Ok (tokens, rest) → m ≡ tokens ++ rest → ((t : Token) (more : List Token) → rest ≡ t ∷ more → Begins (Some k) (tokens ++ t ∷ []) → ⊥) → begun (Some k) m ≡ Ok (m, [])
    ended tokens [] e is ends = e ∙ ap (λ (a : List Token). gave a []) (sym (append-nil tokens) ∙ sym is)
    ended tokens (t ∷ rest) e is ends = absurd (ends t rest refl (by_one (λ x y f. (on_reads k).closed x y f) tokens t rest (subst (Begins (Some k)) is b)))

    of : Gives (Some k) m → begun (Some k) m ≡ Ok (m, [])
    of g = ended g.tokens g.rest g.read g.cuts g.ended

  no_catch : (m : List Token) → Begins (Some k) m → starts class_of (this_word w.Catch) m ≡ false
  no_catch [] b = refl
  no_catch (t ∷ m) b = stops_apart (this_word w.Catch) (on_code ∷ []) (apart refl) (t ∷ m) (begins_on (Some k) t m b)

  no_part : (m : List Token) → Begins (Some k) m → part_begins (Some k) m ≡ false
  no_part m b = elim (cases_bool (part_begins (Some k) m)) [
    | inl on ↦ absurd (bad (part_is (Some k) m on))
    | inr off ↦ off
  ] where
    bad : Part (Some k) m → ⊥
    bad v =
        let lev : k ≡ v.level = level_is k v.level v.same in
        (apart_smaller (under_type v.on.1) (apart {ys = body_codes} refl)).never_both (class_of v.next) ((on_reads v.level).nexts v.on v.next v.more v.fits (subst (λ (n : ℕ). (on_phrase n).front ((on_phrase v.level).spelling v.on ++ v.next ∷ v.more)) lev (subst (Begins (Some k)) v.cuts b))) v.body where
          level_is : (a b : ℕ) → Some a ≡ Some b → a ≡ b
          level_is a b e = cc

  begun_at : (m rest : List Token) → Begins (Some k) m → Stops class_of (after_begun (Some k) (this_word w.Catch) m) rest → Begun m rest
  begun_at [] rest b stop =
      let on : Stops class_of (on_code ∷ []) rest = stops_within class_of (on_code ∷ []) (this_word w.Catch ++ on_code ∷ []) (λ n h. has_right (this_word w.Catch) (on_code ∷ []) n h) rest stop in
      let no : Stops class_of (this_word w.Catch) rest = stops_within class_of (this_word w.Catch) (this_word w.Catch ++ on_code ∷ []) (λ n h. has_left (this_word w.Catch) (on_code ∷ []) n h) rest stop in
      record { off = off_by rest no (part_off (Some k) rest on); read = begun_off (Some k) rest on }
  begun_at (t ∷ m) rest b stop =
      let none : rest ≡ [] = no_more rest stop in
      let whole : t ∷ (m ++ rest) ≡ t ∷ m = ap (λ (a : List Token). t ∷ (m ++ a)) none ∙ append-nil (t ∷ m) in
      record {
        off = ap comes whole ∙ off_by (t ∷ m) (no_catch (t ∷ m) b) (no_part (t ∷ m) b);
        read = ap (begun (Some k)) whole ∙ all_begun (t ∷ m) b ∙ ap (gave (t ∷ m)) (sym none);
      }

  complete : (x : List TryParts × List Token) (rest : List Token) → PairFits x → Stops class_of (after x) rest → pairs (spell x ++ rest) ≡ Ok (x, rest)
  complete x rest fits stop =
      let c : Begun x.1 rest = begun_at x.1 rest fits.1 stop in
      ap pairs (append_assoc (tokens x.0) x.1 rest) ∙ both_gives (many_where comes part) (λ xs. begun (Some k)) (tokens x.0 ++ (x.1 ++ rest)) (x.1 ++ rest) rest x.0 x.1
      (complete_turns comes P none_comes comes_at (length (tokens x.0 ++ (x.1 ++ rest))) x.0 (x.1 ++ rest) (omega arith) fits.0 c.off) c.read

  whole_list : (x : List TryParts × List Token) → PairFits x → L (spell x)
  whole_list x fits = (x.0, x.1, each x.0 fits.0, refl, opens x.1 fits.1) where
    each : (xs : List TryParts) → F xs → AllByRecursion (GoesOn q.Fits always) xs
    each [] fits = tt
    each (x ∷ xs) fits = ((fits.0, refl), each xs fits.1)

  nexts_by : (x : List TryParts × List Token) (t : Token) (ts : List Token) → PairFits x → L (spell x ++ t ∷ ts) → (has (after x) (class_of t) ≡ true) ⊎ (has (after x) (class_of t) ≡ false) → has (after x) (class_of t) ≡ true
  nexts_by x t ts fits f (inl on) = on
  nexts_by x t ts fits f (inr off) = absurd (longest (spell x ++ t ∷ ts) x t ts (complete x (t ∷ ts) fits off) (by_one (λ a b g. (plain_laws comes P none_comes comes_at).closed a b g) (spell x) t ts f))

  list_laws : Laws class_of pairs spell PairFits L part_first after true
  list_laws = record {
    sound = sound;
    longest = longest;
    fault = fault;
    complete = complete;
    whole = whole_list;
    none = (plain_laws comes P none_comes comes_at).none;
    closed = (plain_laws comes P none_comes comes_at).closed;
    firsts = (plain_laws comes P none_comes comes_at).firsts;
    nexts = λ x t ts fits f. nexts_by x t ts fits f (cases_bool (has (after x) (class_of t)));
    empties = λ x fits e. refl;
  }

  -- ---- one part or more

  abbrev Some_of : Type 0
  Some_of = TryParts × List TryParts

  abbrev group : TryParts × (List TryParts × List Token) → Some_of × List Token
  group = assoc part (many_where comes part) (λ xs. Some k)

  abbrev some_spell : Some_of × List Token → List Token
  some_spell = both_spelling (some q).spelling (λ m. m)

  abbrev SomeFits : Some_of × List Token → Type 0
  SomeFits = BothFitBy (some q).Fits (λ x. Begins (Some k))

  abbrev some_after : Some_of × List Token → List ℕ
  some_after x = after_begun (Some k) (this_word w.Catch) x.1

  forth : (y : TryParts × (List TryParts × List Token)) → (q.Fits y.0 × PairFits y.1) → SomeFits (group y) × (some_spell (group y) ≡ q.spelling y.0 ++ spell y.1) × Within (after y.1 ++ []) (some_after (group y))
  forth y fits = (((fits.0, fits.1.0), fits.1.1), append_assoc (q.spelling y.0) (tokens y.1.0) y.1.1, within_union (within_self _) (within_none _))

  back : (x : Some_of × List Token) → SomeFits x → (y : TryParts × (List TryParts × List Token)) × (q.Fits y.0 × PairFits y.1) × (group y ≡ x)
  back x fits = ((x.0.0, (x.0.1, x.1)), (fits.0.0, (fits.0.1, fits.1)), refl)

  pub some_begun : ReadsBegun (both part (many_where (try_part_comes (type_reader k)) part)) (some q) part_first (λ x. Some k) (λ x. this_word w.Catch)
  some_begun = record {
    laws = reread (mapped_laws (both_any_laws P list_laws (λ x fits. apart_none part_first)) group some_spell some_after forth back) (λ ts. then_same part (many_where comes part) (λ xs. Some k) ts);
    complete = λ x rest fits stop none.
        ap (both part (many_where comes part)) (append_assoc (q.spelling x.0) (tokens x.1) rest) ∙ both_gives part (λ a. many_where comes part) (q.spelling x.0 ++ (tokens x.1 ++ rest)) (tokens x.1 ++ rest) rest x.0 x.1
        (reads comes P none_comes comes_at x.0 (tokens x.1 ++ rest) fits.0) (complete_turns comes P none_comes comes_at (length (tokens x.1 ++ rest)) x.1 rest (omega arith) fits.1 (off_by rest stop none));
  }
