-- The law of operators as members, tried behind functions, accessors and variables. The reader of an operator leaves a type's name with nothing
-- behind it that goes on with it; one that goes past it gives the same where that of functions is tried first (ECMA-408, 10.1.1 Operators).
use Rattle.std.proofs.Common.{◌≡◌, ℕ, ◌≤◌, ◌<◌, arith, Bool, true, false, eqb, ◌&&◌, ◌||◌, if◌then◌else◌, List, [], ◌∷◌, ◌++◌, length, Option, None, Some, Ok, Err, ◌⊎◌, inl, inr, refl, sym, ap, ◌∙◌, subst, ltb}
use Rattle.std.proofs.lemmas.Bool.{ltb-true, ltb-false}
use Rattle.dart_base.specs.declared.place.Place.{Place}
use Rattle.dart_token.specs.declared.token.Token.{Token}
use Rattle.dart_token.specs.declared.word.Word.{Word}
use Rattle.dart_token.specs.declared.word.Word.TheVariants as w
use Rattle.dart_tree.specs.declared.declaration.OperatorName.{OperatorName}
use Rattle.dart_tree.specs.LeafTokens.{result_tokens}
use Rattle.dart_tree.specs.Types.{ResultType}
use Rattle.dart_tree.specs.Tree.{Body, Parameters}
use Rattle.dart_tree.specs.Unit as d
use Rattle.dart_tree.specs.Unit.{OperatorMember, MemberKind}
use Rattle.dart_tree.specs.UnitTokens.{operator_name_tokens, operator_member_tokens, member_kind_tokens}
use Rattle.grammar_laws.specs.Codes.{has, nowhere}
use Rattle.grammar_laws.specs.Readers.{Outcome, Reader, and_then, mapped, both, option, when, starts, tried, farther}
use Rattle.grammar_laws.specs.Fronts.{Front, Either, FirstFit}
use Rattle.grammar_laws.specs.Laws.{Laws}
use Rattle.grammar_laws.proofs.Codes.{apart, apart_none, clash, inside, has_cases, and_both, and_true, not_true, within_none}
use Rattle.grammar_laws.proofs.Cuts.{both_empty}
use Rattle.grammar_laws.proofs.Joints.{beyond, one_on}
use Rattle.grammar_laws.proofs.Restated.{made_laws, restated, reread}
use Rattle.grammar_laws.proofs.Combined.{both_laws, both_any_laws}
use Rattle.grammar_laws.proofs.Followed.{option_plain_laws}
use Rattle.grammar_laws.proofs.Tried.{tried_laws}
use Rattle.dart_syntax.specs.Phrases.{Phrase, ◌~◌, ◌<|>◌, opt}
use Rattle.dart_syntax.specs.Agreement.{Agrees, StmtsAgree}
use Rattle.dart_syntax.specs.Leaves as l
use Rattle.dart_syntax.specs.Types as y
use Rattle.dart_syntax.specs.Statements as p
use Rattle.dart_syntax.specs.Statements.{StmtNodes, within}
use Rattle.dart_syntax.specs.Declarations as c
use Rattle.dart_syntax.proofs.Agreeing.{parts_say, seq_agrees, opt_agrees}
use Rattle.dart_syntax.proofs.AgreeingTypes.{word_agrees, result_agrees}
use Rattle.dart_syntax.proofs.AgreeingStatements.{said_word, body_agrees}
use Rattle.dart_syntax.proofs.AgreeingStages.{within_agrees}
use Rattle.token_codes.specs.Codes.{class_of, names, word_code, this_word}
use Rattle.token_codes.specs.Leaves.{word}
use Rattle.token_codes.specs.Reads.{Reads}
use Rattle.token_codes.proofs.Leaves.{word_reads}
use Rattle.syntax_readers.specs.Combinators.{option_where}
use Rattle.syntax_readers.specs.Types.{type_first, result, result_comes, behind_type_name}
use Rattle.syntax_readers.specs.Primaries.{ExprReaders}
use Rattle.syntax_readers.specs.Parameters as q
use Rattle.syntax_readers.specs.Statements.{stage}
use Rattle.syntax_readers.specs.Declarations as r
use Rattle.laws_unit.specs.Statements.{behind_type, callable_first, variable_first, operator_first}
use Rattle.laws_unit.specs.Members.{OperatorPartsReadAt, operator_beside, plain_first, OperatorApartAt}
use Rattle.laws_unit.proofs.Aliases.{result_laws}
use Rattle.laws_unit.proofs.Choosing.{Near, alike, behind, Short, at_once, behind_one, short}
use Rattle.laws_unit.proofs.DeclKinds.{refuses_by}
use Rattle.laws_unit.proofs.Ends.{one_end}
use Rattle.laws_unit.proofs.Members.{external_reads}
use Rattle.laws_unit.proofs.Operators.{operator_name_laws}

module _ (n : ℕ) (O : OperatorPartsReadAt n) where
  abbrev nodes : StmtNodes
  nodes = (within n).nodes

  abbrev here : ExprReaders
  here = (stage n).nodes.exprs

  abbrev A : StmtsAgree nodes
  A = (within_agrees n).nodes

  abbrev pub R : Phrase ResultType
  R = y.result_over nodes.expr_nodes.type

  abbrev result_first : List ℕ
  result_first = word_code w.Void ∷ type_first

  RL : Reads (result here.type) R result_first (λ x. behind_type) false
  RL = result_laws here nodes A O.type

  -- ---- from `operator` on

  abbrev pub Tail : Type 0
  Tail = Place × (OperatorName × (Parameters × Body))

  abbrev pub tail : Phrase Tail
  tail = l.word w.Operator ~ c.operator_name_over nodes ~ nodes.expr_nodes.parameters ~ p.body_of nodes.expr_nodes

  abbrev tail_reader : Reader Token Tail
  tail_reader = both (word w.Operator) (both r.operator_name (both here.parameters (q.body here)))

  pub TL : Reads tail_reader tail (this_word w.Operator) nowhere false
  TL = both_laws (word_reads w.Operator) (both_laws (operator_name_laws nodes) (both_laws O.parameters O.body (λ x fits. apart_none _)) (λ x fits. apart refl)) (λ place fits. apart_none operator_first)

  -- ---- with a result before it, and with one or none

  typed_laws : Reads (both (result here.type) tail_reader) (R ~ tail) result_first nowhere false
  typed_laws = both_laws RL TL (λ x fits. apart refl)

  abbrev Pair : Type 0
  Pair = Option ResultType × Tail

  abbrev exact : Reader Token Pair
  exact = both (option class_of result_first (result here.type)) tail_reader

  abbrev actual : Reader Token Pair
  actual = both (option_where result_comes (result here.type)) tail_reader

  pub exact_laws : Reads exact (opt R ~ tail) (result_first ++ this_word w.Operator) nowhere false
  exact_laws = both_any_laws (option_plain_laws RL {codes = result_first ++ behind_type} (inside refl) (λ x fits. inside refl)) TL (λ x fits. apart refl)

  -- ---- what the test says of the next two tokens

  no_more : (which : Word) (t u : Token) (ts : List Token) → (l.word which).front (t ∷ u ∷ ts) → ⊥
  no_more which t u ts (inl e) = absurd cc
  no_more which t u ts (inr (place, e)) = absurd cc

  result_second : (t u : Token) (ts : List Token) → has names (class_of t) ≡ true → R.front (t ∷ u ∷ ts) → has behind_type (class_of u) ≡ true
  result_second t u ts h (inl f) = absurd (no_more w.Void t u ts f)
  result_second t u ts h (inr f) = O.goes.goes t u ts h f

  -- what stands behind a name in a result with `operator`
  abbrev seconds : List ℕ
  seconds = behind_type ++ this_word w.Operator

  split_second : (x : ResultType) (m more : List Token) (t u : Token) (ts : List Token) → R.Fits x → result_tokens x ≡ m → t ∷ u ∷ ts ≡ m ++ more → tail.front more → has names (class_of t) ≡ true → has seconds (class_of u) ≡ true
  split_second x [] more t u ts fits is e f h = clash false (RL.empties x fits is) refl
  split_second x (v ∷ []) more t u ts fits is e f h = let tails : u ∷ ts ≡ more = cc in (inside {xs = this_word w.Operator} {ys = seconds} refl).in_second (class_of u) (TL.firsts u ts (subst tail.front (sym tails) f))
  split_second x (v ∷ g ∷ m) more t u ts fits is e f h =
      let head : v ≡ t = cc in
      let next : g ≡ u = cc in
      let on = result_second v g m (subst (λ (z : Token). has names (class_of z) ≡ true) (sym head) h) (subst R.front is (RL.whole x fits)) in
      (inside {xs = behind_type} {ys = seconds} refl).in_second (class_of u) (subst (λ (z : Token). has behind_type (class_of z) ≡ true) next on)

  typed_second : (t u : Token) (ts : List Token) → has names (class_of t) ≡ true → (R ~ tail).front (t ∷ u ∷ ts) → has seconds (class_of u) ≡ true
  typed_second t u ts h (inl f) = (inside {xs = behind_type} {ys = seconds} refl).in_second (class_of u) (result_second t u ts h f)
  typed_second t u ts h (inr (x, more, fits, on, e, f)) = split_second x (result_tokens x) more t u ts fits refl e f h

  abbrev result_words : List ℕ
  result_words = word_code w.Void ∷ word_code w.Dynamic ∷ []

  worded : (v d two : Bool) → (v || (d || false)) ≡ true → ((v || false) || ((d || false) || two)) ≡ true
  worded true d two h = refl
  worded false true two h = refl
  worded false false two h = absurd cc

  twice : (v d two : Bool) → two ≡ true → ((v || false) || ((d || false) || two)) ≡ true
  twice true d two h = refl
  twice false true two h = refl
  twice false false two h = h

  any_of : (v d two nm : Bool) → ((v || false) || ((d || false) || two)) ≡ true → (two ≡ true → nm ≡ true) → (v || (d || nm)) ≡ true
  any_of true d two nm h k = refl
  any_of false true two nm h k = refl
  any_of false false two nm h k = k h

  by_word : (t : Token) (m : List Token) → has result_words (class_of t) ≡ true → result_comes (t ∷ m) ≡ true
  by_word t [] h = worded (eqb (class_of t) (word_code w.Void)) (eqb (class_of t) (word_code w.Dynamic)) false h
  by_word t (u ∷ m) h = worded (eqb (class_of t) (word_code w.Void)) (eqb (class_of t) (word_code w.Dynamic)) (has names (class_of t) && has behind_type_name (class_of u)) h

  by_two : (t u : Token) (m : List Token) → has names (class_of t) ≡ true → (R ~ tail).front (t ∷ u ∷ []) → result_comes (t ∷ u ∷ m) ≡ true
  by_two t u m h f = twice (eqb (class_of t) (word_code w.Void)) (eqb (class_of t) (word_code w.Dynamic)) (has names (class_of t) && has behind_type_name (class_of u))
      (and_true (has names (class_of t)) (has behind_type_name (class_of u)) h ((inside {xs = seconds} {ys = behind_type_name} refl).in_second (class_of u) (typed_second t u [] h f)))

  comes_first : (mid : List Token) → result_comes mid ≡ true → starts class_of result_first mid ≡ true
  comes_first [] h = absurd cc
  comes_first (t ∷ []) h = any_of (eqb (class_of t) (word_code w.Void)) (eqb (class_of t) (word_code w.Dynamic)) false (has names (class_of t)) h (λ k. absurd cc)
  comes_first (t ∷ u ∷ m) h = any_of (eqb (class_of t) (word_code w.Void)) (eqb (class_of t) (word_code w.Dynamic)) (has names (class_of t) && has behind_type_name (class_of u)) (has names (class_of t)) h
      (λ k. (and_both (has names (class_of t)) (has behind_type_name (class_of u)) k).0)

  -- ---- a result with nothing behind it that goes on is read one token far at most

  split_one : (x : ResultType) (k : Tail) (m : List Token) (t : Token) → R.Fits x → tail.Fits k → result_tokens x ≡ m → m ++ tail.spelling k ≡ t ∷ [] → ⊥
  split_one x k [] t fits own is e = clash false (RL.empties x fits is) refl
  split_one x k (v ∷ m) t fits own is e = let none : m ++ tail.spelling k ≡ [] = cc in clash false (TL.empties k own (both_empty m (tail.spelling k) none).1) refl

  typed_one : (a : ResultType × Tail) (t : Token) → (R ~ tail).Fits a → (R ~ tail).spelling a ≡ t ∷ [] → ⊥
  typed_one a t fits is = split_one a.0 a.1 (result_tokens a.0) t fits.0 fits.1 refl is

  first_of : (t : Token) → has result_first (class_of t) ≡ true → (has result_words (class_of t) ≡ true) ⊎ (has names (class_of t) ≡ true)
  first_of t h = has_cases result_words names (class_of t) h

  no_typed : (mid : List Token) → result_comes mid ≡ false → (t u : Token) (m : List Token) → mid ≡ t ∷ u ∷ m → (R ~ tail).front (t ∷ u ∷ []) → ⊥
  no_typed mid h t u m e f = clash (result_comes (t ∷ u ∷ m)) (elim (first_of t (typed_laws.firsts t (u ∷ []) f)) [ inl v ↦ by_word t (u ∷ m) v | inr v ↦ by_two t u m v f ]) (ap result_comes (sym e) ∙ h)

  a_name : (mid : List Token) → result_comes mid ≡ false → (t : Token) (e : List Token) → mid ≡ t ∷ e → (R ~ tail).front (t ∷ []) → has names (class_of t) ≡ true
  a_name mid h t e is f = elim (first_of t (typed_laws.firsts t [] f)) [ inl v ↦ clash (result_comes (t ∷ e)) (by_word t e v) (ap result_comes (sym is) ∙ h) | inr v ↦ v ]

  -- ---- the reader chooses by the next two tokens, and gives nearly the same

  abbrev with_result : Option ResultType → Outcome Token Tail → Outcome Token Pair
  with_result a o = and_then o (λ b rest. Ok ((a, b), rest))

  abbrev chosen : Bool → Reader Token Pair
  chosen c ts = and_then (when c (result here.type) ts) (λ a mid. with_result a (tail_reader mid))

  abbrev some_of : ResultType × Tail → Pair
  some_of x = (Some x.0, x.1)

  put : (a : ResultType) (o : Outcome Token Tail) → with_result (Some a) o ≡ and_then {B = Pair} (and_then {B = ResultType × Tail} o (λ b rest. Ok ((a, b), rest))) (λ x rest. Ok (some_of x, rest))
  put a (Ok x) = refl
  put a (Err x) = refl

  read_some : (o : Outcome Token ResultType) → and_then (and_then {B = Option ResultType} o (λ a rest. Ok (Some a, rest))) (λ a mid. with_result a (tail_reader mid))
      ≡ and_then {B = Pair} (and_then {B = ResultType × Tail} o (λ a mid. and_then {B = ResultType × Tail} (tail_reader mid) (λ b rest. Ok ((a, b), rest)))) (λ x rest. Ok (some_of x, rest))
  read_some (Ok (a, mid)) = put a (tail_reader mid)
  read_some (Err x) = refl

  some_fails : (mid far : List Token) → both (result here.type) tail_reader mid ≡ Err far → chosen true mid ≡ Err far
  some_fails mid far h = read_some (result here.type mid) ∙ ap (λ (o : Outcome Token (ResultType × Tail)). and_then {B = Pair} o (λ x rest. Ok (some_of x, rest))) h

  none_fails : (mid : List Token) → starts class_of result_first mid ≡ true → chosen false mid ≡ Err mid
  none_fails mid on = ap (with_result None) (refuses_by TL mid (tail_reader mid) refl (off mid on)) where
    off : (m : List Token) → starts class_of result_first m ≡ true → starts class_of (this_word w.Operator) m ≡ false
    off [] h = absurd cc
    off (t ∷ m) h = not_true (has (this_word w.Operator) (class_of t)) (λ k. (apart {xs = result_first} {ys = this_word w.Operator} refl).never_both (class_of t) h k)

  near_short : (mid far : List Token) → result_comes mid ≡ false → starts class_of result_first mid ≡ true → both (result here.type) tail_reader mid ≡ Err far → Short (R ~ tail).front mid far → Near mid (chosen false mid) (chosen true mid)
  near_short mid far h on e (at_once is) = alike (none_fails mid on ∙ ap (λ (m : List Token). Err m) (sym is) ∙ sym (some_fails mid far e))
  near_short mid far h on e (behind_one t at f) = behind t far at (a_name mid h t far at f) (none_fails mid on) (some_fails mid far e)

  near_by : (mid : List Token) (b c : Bool) → result_comes mid ≡ b → starts class_of result_first mid ≡ c → Near mid (chosen b mid) (chosen c mid)
  near_by mid true true h k = alike refl
  near_by mid false false h k = alike refl
  near_by mid true false h k = clash (starts class_of result_first mid) (comes_first mid h) k
  near_by mid false true h k = let v = short typed_laws mid typed_one (no_typed mid h) (both (result here.type) tail_reader mid) refl in near_short mid v.0 h k v.1 v.2

  near_actual : (mid : List Token) → Near mid (actual mid) (exact mid)
  near_actual mid = near_by mid (result_comes mid) (starts class_of result_first mid) refl refl

  -- ---- behind `external` or none

  abbrev pub to_operator : Option Place × Pair → OperatorMember
  to_operator x = record { external = x.0; result_type = x.1.0; word = x.1.1.0; name = x.1.1.1.0; parameters = x.1.1.1.1.0; body = x.1.1.1.1.1 }

  abbrev of : Reader Token Pair → Reader Token MemberKind
  of read = mapped d.operator_member (mapped to_operator (both r.external_or_none read))

  operator_name_agrees : Agrees operator_name_tokens (c.operator_name_over nodes)
  operator_name_agrees = let L = operator_name_laws nodes in record { spells = λ a. refl; whole = L.whole; none = L.none; closed = L.closed }

  pub operator_said : (x : Option Place × Pair) → (opt (l.word w.External) ~ opt R ~ tail).Fits x → operator_member_tokens (to_operator x) ≡ (opt (l.word w.External) ~ opt R ~ tail).spelling x
  operator_said = parts_say operator_member_tokens to_operator (seq_agrees (opt_agrees (word_agrees w.External)) (seq_agrees (opt_agrees (result_agrees A.expr_nodes.type)) (seq_agrees (word_agrees w.Operator) (seq_agrees operator_name_agrees (seq_agrees A.expr_nodes.parameters (body_agrees A.expr_nodes)))))) (λ x fits. simp said_word)

  pub operators_laws : Reads (of exact) (c.operator_within n) (word_code w.External ∷ (result_first ++ this_word w.Operator)) nowhere false
  operators_laws = made_laws (made_laws (both_any_laws external_reads exact_laws (λ x fits. apart refl)) to_operator operator_member_tokens nowhere operator_said (λ x fits. within_none []))
      d.operator_member member_kind_tokens nowhere (λ x fits. refl) (λ x fits. within_none [])

  abbrev inner : Option Place → Outcome Token Pair → Outcome Token MemberKind
  inner x o = and_then (and_then (and_then o (λ y rest. Ok ((x, y), rest))) (λ y rest. Ok (to_operator y, rest))) (λ y rest. Ok (d.operator_member y, rest))

  abbrev outer : Reader Token Pair → Outcome Token (Option Place) → Outcome Token MemberKind
  outer read (Ok (x, mid)) = inner x (read mid)
  outer read (Err rest) = Err rest

  abbrev chained : Reader Token Pair → Outcome Token (Option Place) → Outcome Token MemberKind
  chained read o = and_then (and_then (and_then {B = Option Place × Pair} o (λ x mid. and_then {B = Option Place × Pair} (read mid) (λ y rest. Ok ((x, y), rest)))) (λ y rest. Ok (to_operator y, rest))) (λ y rest. Ok (d.operator_member y, rest))

  chained_is : (read : Reader Token Pair) (o : Outcome Token (Option Place)) → chained read o ≡ outer read o
  chained_is read (Ok (x, mid)) = refl
  chained_is read (Err rest) = refl

  data Late (ts : List Token) (x y : Outcome Token MemberKind) : Type 0 where
    agreed : x ≡ y → Late ts x y
    past : (before : Option Place) (t : Token) (m : List Token) → c.external_or_none.Fits before → ts ≡ c.external_or_none.spelling before ++ t ∷ m → has names (class_of t) ≡ true → x ≡ Err (t ∷ m) → y ≡ Err m → Late ts x y

  late_by : (ts : List Token) (o : Outcome Token (Option Place)) → r.external_or_none ts ≡ o → Late ts (outer actual o) (outer exact o)
  late_by ts (Err rest) h = agreed refl
  late_by ts (Ok (x, mid)) h =
      let e = external_reads.sound ts x mid h in
      elim (near_actual mid) [
        | alike i ↦ agreed (ap (inner x) i)
        | behind t m is k v z ↦ past x t m e.0 (e.1 ∙ ap (λ (z : List Token). c.external_or_none.spelling x ++ z) is) k (ap (inner x) v ∙ ap (λ (z : List Token). Err z) is) (ap (inner x) z)
      ]

  late : (ts : List Token) → Late ts (of actual ts) (of exact ts)
  late ts = subst (λ (x : Outcome Token MemberKind). Late ts x (of exact ts)) (sym (chained_is actual (r.external_or_none ts)))
      (subst (λ (x : Outcome Token MemberKind). Late ts (outer actual (r.external_or_none ts)) x) (sym (chained_is exact (r.external_or_none ts))) (late_by ts (r.external_or_none ts) refl))

  -- ---- behind the others, one of which may begin with the name

  abbrev choose : Bool → List Token → List Token → Outcome Token MemberKind
  choose b x z = if b then Err x else Err z

  sooner : (x z : List Token) (b : Bool) → length x < length z → ltb (length x) (length z) ≡ b → choose b x z ≡ Err x
  sooner x z true less h = refl
  sooner x z false less h = absurd (omega (arith, less, ltb-false (length x) (length z) h))

  module _ {prior : Reader Token MemberKind} {Fits_p : MemberKind → Type 0} {front_p : Front Token} {first_p : List ℕ} (P : Laws class_of prior member_kind_tokens Fits_p front_p first_p nowhere false)
      (begun : (x : Option Place) (t : Token) → c.external_or_none.Fits x → has names (class_of t) ≡ true → front_p (c.external_or_none.spelling x ++ t ∷ [])) where
    passed_by : (ts : List Token) (x : Option Place) (t : Token) (m f : List Token) (b : Bool) → c.external_or_none.Fits x → ts ≡ c.external_or_none.spelling x ++ t ∷ m → has names (class_of t) ≡ true → prior ts ≡ Err f → ltb (length f) (length (t ∷ m)) ≡ b → length f < length (t ∷ m)
    passed_by ts x t m f true fits is h stop less = ltb-true (length f) (length (t ∷ m)) less
    passed_by ts x t m f false fits is h stop less =
        let k = P.fault ts f stop in
        absurd (beyond P k.0 f (c.external_or_none.spelling x) m t (sym k.1 ∙ is) (ltb-false (length f) (length (t ∷ m)) less) (begun x t fits h) k.3)

    behind_name : (ts f : List Token) (x : Option Place) (t : Token) (m : List Token) (b : Bool) → ts ≡ c.external_or_none.spelling x ++ t ∷ m → prior ts ≡ Err f → length f < length (t ∷ m) → ltb (length f) (length m) ≡ b → choose b f m ≡ Err f
    behind_name ts f x t m true is stop less h = refl
    behind_name ts f x t m false is stop less h =
        let k = P.fault ts f stop in
        let few : length m ≤ length f = ltb-false (length f) (length m) h in
        ap (λ (z : List Token). Err z) (one_end k.0 f (c.external_or_none.spelling x ++ t ∷ []) m (sym k.1 ∙ is ∙ one_on (c.external_or_none.spelling x) t m) (omega (arith, less, few)))

    with_others : (ts : List Token) (x : Option Place) (t : Token) (m : List Token) → c.external_or_none.Fits x → ts ≡ c.external_or_none.spelling x ++ t ∷ m → has names (class_of t) ≡ true → (z : Outcome Token MemberKind) → prior ts ≡ z → farther z (Err (t ∷ m)) ≡ farther z (Err m)
    with_others ts x t m fits is h (Ok z) stop = refl
    with_others ts x t m fits is h (Err f) stop =
        let less : length f < length (t ∷ m) = passed_by ts x t m f (ltb (length f) (length (t ∷ m))) fits is h stop refl in
        sooner f (t ∷ m) (ltb (length f) (length (t ∷ m))) less refl ∙ sym (behind_name ts f x t m (ltb (length f) (length m)) is stop less refl)

    agree : (ts : List Token) → tried prior (of actual) ts ≡ tried prior (of exact) ts
    agree ts = elim (late ts) [
      | agreed i ↦ ap (λ (o : Outcome Token MemberKind). farther (prior ts) o) i
      | past x t m fits is h v z ↦ ap (λ (o : Outcome Token MemberKind). farther (prior ts) o) v ∙ with_others ts x t m fits is h (prior ts) refl ∙ ap (λ (o : Outcome Token MemberKind). farther (prior ts) o) (sym z)
    ]

  -- ---- all kinds without a modifier

  module _ (K : Reads (r.callable_or_variables n r.external_or_none) (operator_beside n) (callable_first ++ variable_first) nowhere false)
      (begun : (x : Option Place) (t : Token) → c.external_or_none.Fits x → has names (class_of t) ≡ true → (operator_beside n).front (c.external_or_none.spelling x ++ t ∷ []))
      (G : OperatorApartAt n) where
    abbrev Whole : Phrase MemberKind
    Whole = c.callable_within n c.external_or_none <|> c.variables_within n <|> c.operator_within n

    forth : (a : MemberKind) → FirstFit member_kind_tokens (operator_beside n).Fits (c.operator_within n).Fits a → Whole.Fits a
    forth a (inl (inl f)) = inl f
    forth a (inl (inr f)) = inr (inl f)
    forth a (inr f) = inr (inr f.0)

    back : (a : MemberKind) → Whole.Fits a → FirstFit member_kind_tokens (operator_beside n).Fits (c.operator_within n).Fits a
    back a (inl f) = inl (inl f)
    back a (inr (inl f)) = inl (inr f)
    back a (inr (inr f)) = inr (f, λ b own e. G.never_both b a own f e)

    out : (ts : List Token) → Either (operator_beside n).front (c.operator_within n).front ts → Whole.front ts
    out ts (inl (inl f)) = inl f
    out ts (inl (inr f)) = inr (inl f)
    out ts (inr f) = inr (inr f)

    into : (ts : List Token) → Whole.front ts → Either (operator_beside n).front (c.operator_within n).front ts
    into ts (inl f) = inl (inl f)
    into ts (inr (inl f)) = inl (inr f)
    into ts (inr (inr f)) = inr f

    pub unmodified_laws : Reads (tried (r.callable_or_variables n r.external_or_none) (mapped d.operator_member (r.operator_member here))) Whole plain_first nowhere false
    unfolding r.operator_member
    unmodified_laws = restated (reread (tried_laws K operators_laws G.over_others G.over_operator) (agree K begun)) forth back out into (inside refl) (λ a fits. within_none []) (λ e. e)
