-- The law of what stands in an accessor before its body: a result or none, and its word with what stands behind that, by a second try
-- (ECMA-408, 10.2 Getters, 10.3 Setters).
use Rattle.std.proofs.Common.{◌≡◌, ℕ, Bool, true, false, eqb, not, ◌&&◌, ◌||◌, if◌then◌else◌, List, [], ◌∷◌, ◌++◌, Option, None, Some, Ok, Err, ◌⊎◌, inl, inr, refl, sym, ap, ◌∙◌, subst}
use Rattle.std.proofs.lemmas.List.{append-nil}
use Rattle.dart_token.specs.declared.token.Token.{Token}
use Rattle.dart_token.specs.declared.sign.Sign.TheVariants as s
use Rattle.dart_token.specs.declared.word.Word.{Word}
use Rattle.dart_token.specs.declared.word.Word.TheVariants as w
use Rattle.dart_tree.specs.LeafTokens.{result_tokens, word_at, identifier_tokens}
use Rattle.dart_tree.specs.Types.{ResultType, void_result, typed_result}
use Rattle.dart_tree.specs.Tokens.{parameters_tokens}
use Rattle.dart_tree.specs.Unit.{AccessorKind}
use Rattle.dart_tree.specs.UnitTokens.{accessor_kind_tokens}
use Rattle.grammar_laws.specs.Codes.{has, nowhere}
use Rattle.grammar_laws.specs.Readers.{Outcome, Reader, and_then, mapped, both, checked, when, farther, tried, always}
use Rattle.grammar_laws.specs.Fronts.{Front, Joint, Either, FirstFit, BothFit, GoodFit, Made, both_spelling, option_spelling}
use Rattle.grammar_laws.specs.Laws.{Laws}
use Rattle.grammar_laws.proofs.Codes.{apart, clash, inside, has_cases, and_both, and_true, not_true, within_none}
use Rattle.grammar_laws.proofs.Cuts.{both_empty}
use Rattle.grammar_laws.proofs.Restated.{made_laws, restated, checked_laws}
use Rattle.grammar_laws.proofs.Combined.{both_laws}
use Rattle.grammar_laws.proofs.Tried.{tried_laws}
use Rattle.dart_syntax.specs.Phrases.{Phrase, ◌~◌, seq_if, opt}
use Rattle.dart_syntax.specs.Leaves as l
use Rattle.dart_syntax.specs.Types as y
use Rattle.dart_syntax.specs.Types.{result_leaves_name, is_no_accessor}
use Rattle.dart_syntax.specs.Statements.{StmtNodes, within}
use Rattle.dart_syntax.specs.Declarations as c
use Rattle.dart_syntax.proofs.AgreeingStages.{within_agrees}
use Rattle.token_codes.specs.Codes.{class_of, names, word_code, these}
use Rattle.token_codes.specs.Reads.{Reads}
use Rattle.token_codes.proofs.Leaves.{identifier_reads}
use Rattle.token_codes.proofs.Only.{word_class}
use Rattle.syntax_readers.specs.Types.{type_first, result, result_comes, behind_type_name}
use Rattle.syntax_readers.specs.Combinators.{option_where}
use Rattle.syntax_readers.specs.Primaries.{ExprReaders}
use Rattle.syntax_readers.specs.Statements.{stage}
use Rattle.syntax_readers.specs.Declarations as r
use Rattle.syntax_readers.specs.Declarations.{accessor_comes, result_before_accessor}
use Rattle.laws_unit.specs.Statements.{behind_type, TypeReads, ParametersReadAt, TypesGoAt, accessor_words}
use Rattle.laws_unit.proofs.Aliases.{result_laws}
use Rattle.laws_unit.proofs.Choosing.{Near, short, near_first, near_second}
use Rattle.laws_unit.proofs.Members.{accessor_kind_laws}

module _ (n : ℕ) (T : TypeReads (stage n).nodes.exprs (within n).nodes) (P : ParametersReadAt n) (G : TypesGoAt n) where
  abbrev nodes : StmtNodes
  nodes = (within n).nodes

  abbrev here : ExprReaders
  here = (stage n).nodes.exprs

  abbrev R : Phrase ResultType
  R = y.result_over nodes.expr_nodes.type

  abbrev K : Phrase AccessorKind
  K = c.accessor_kind_over nodes

  abbrev kind_reader : Reader Token AccessorKind
  kind_reader = r.accessor_kind here.parameters

  RL : Reads (result here.type) R (word_code w.Void ∷ type_first) (λ x. behind_type) false
  RL = result_laws here nodes (within_agrees n).nodes T

  KL : Reads kind_reader K accessor_words nowhere false
  KL = accessor_kind_laws n P

  abbrev Pair : Type 0
  Pair = Option ResultType × AccessorKind

  abbrev may : ResultType → Bool
  may x = result_leaves_name (Some x)

  abbrev spell : Pair → List Token
  spell = both_spelling (option_spelling result_tokens) accessor_kind_tokens

  abbrev some_of : ResultType × AccessorKind → Pair
  some_of x = (Some x.0, x.1)

  abbrev none_of : AccessorKind → Pair
  none_of k = (None, k)

  abbrev pub typed : Reader Token Pair
  typed = mapped some_of (both (checked may (result here.type)) kind_reader)

  abbrev pub bare : Reader Token Pair
  bare = mapped none_of kind_reader

  abbrev TypedFits : Pair → Type 0
  TypedFits = Made some_of (BothFit (GoodFit R.Fits may) K.Fits)

  abbrev typed_front : Front Token
  typed_front = Joint R.spelling (GoodFit R.Fits may) always R.front K.front

  abbrev BareFits : Pair → Type 0
  BareFits = Made none_of K.Fits

  typed_laws : Laws class_of typed spell TypedFits typed_front (word_code w.Void ∷ type_first) nowhere false
  typed_laws = made_laws (both_laws (checked_laws RL may) KL (λ a fits. apart refl)) some_of spell nowhere (λ x fits. refl) (λ x fits. within_none [])

  bare_laws : Laws class_of bare spell BareFits K.front accessor_words nowhere false
  bare_laws = made_laws KL none_of spell nowhere (λ x fits. refl) (λ x fits. within_none [])

  -- ---- the second token

  no_more : (which : Word) (t u : Token) (ts : List Token) → (l.word which).front (t ∷ u ∷ ts) → ⊥
  no_more which t u ts (inl e) = absurd cc
  no_more which t u ts (inr (place, e)) = absurd cc

  bare_second : (t u : Token) (ts : List Token) → K.front (t ∷ u ∷ ts) → has names (class_of u) ≡ true
  bare_second t u ts (inl (inl f)) = absurd (no_more w.Get t u ts f)
  bare_second t u ts (inl (inr (place, more, fits, on, e, f))) = let same : u ∷ ts ≡ more = cc in identifier_reads.firsts u ts (subst l.identifier.front (sym same) f)
  bare_second t u ts (inr (inl f)) = absurd (no_more w.Set t u ts f)
  bare_second t u ts (inr (inr (place, more, fits, on, e, f))) = let same : u ∷ ts ≡ more = cc in
      (both_laws identifier_reads P (λ x own. apart {xs = []} {ys = these s.LeftParenthesis} refl)).firsts u ts (subst (l.identifier ~ nodes.expr_nodes.parameters).front (sym same) f)

  -- a name, and what stands behind it in a result with an accessor's word
  abbrev seconds : List ℕ
  seconds = behind_type ++ accessor_words

  result_second : (t u : Token) (ts : List Token) → has names (class_of t) ≡ true → R.front (t ∷ u ∷ ts) → has behind_type (class_of u) ≡ true
  result_second t u ts h (inl f) = absurd (no_more w.Void t u ts f)
  result_second t u ts h (inr f) = G.goes t u ts h f

  split_second : (x : ResultType) (m more : List Token) (t u : Token) (ts : List Token) → R.Fits x → result_tokens x ≡ m → t ∷ u ∷ ts ≡ m ++ more → K.front more → has names (class_of t) ≡ true → has seconds (class_of u) ≡ true
  split_second x [] more t u ts fits is e f h = clash false (RL.empties x fits is) refl
  split_second x (v ∷ []) more t u ts fits is e f h = let same : u ∷ ts ≡ more = cc in (inside {xs = accessor_words} {ys = seconds} refl).in_second (class_of u) (KL.firsts u ts (subst K.front (sym same) f))
  split_second x (v ∷ q ∷ m) more t u ts fits is e f h =
      let head : v ≡ t = cc in
      let next : q ≡ u = cc in
      let on = result_second v q m (subst (λ (z : Token). has names (class_of z) ≡ true) (sym head) h) (subst R.front is (RL.whole x fits)) in
      (inside {xs = behind_type} {ys = seconds} refl).in_second (class_of u) (subst (λ (z : Token). has behind_type (class_of z) ≡ true) next on)

  typed_second : (t u : Token) (ts : List Token) → has names (class_of t) ≡ true → typed_front (t ∷ u ∷ ts) → has seconds (class_of u) ≡ true
  typed_second t u ts h (inl f) = (inside {xs = behind_type} {ys = seconds} refl).in_second (class_of u) (result_second t u ts h f)
  typed_second t u ts h (inr (x, more, fits, on, e, f)) = split_second x (result_tokens x) more t u ts fits.0 refl e f h

  one_alone : (x : ResultType) (t : Token) → R.Fits x → may x ≡ true → result_tokens x ≡ t ∷ [] → has accessor_words (class_of t) ≡ true → ⊥
  one_alone (void_result place) t fits leaves e h = let same : word_at place w.Void ≡ t = cc in clash (has accessor_words (class_of (word_at place w.Void))) (subst (λ (z : Token). has accessor_words (class_of z) ≡ true) (sym same) h) (ap (has accessor_words) (word_class w.Void place))
  one_alone (typed_result x) t (inl (place, fits, is)) leaves e h = absurd cc
  one_alone (typed_result x) t (inr (z, fits, is)) leaves e h = let same : z ≡ x = cc in clash (is_no_accessor x) leaves (G.lone x t (subst nodes.expr_nodes.type.Fits same fits) e h)

  split_accessor : (x : ResultType) (m more : List Token) (t u : Token) (ts : List Token) → R.Fits x → may x ≡ true → result_tokens x ≡ m → t ∷ u ∷ ts ≡ m ++ more → has accessor_words (class_of t) ≡ true → has behind_type (class_of u) ≡ true
  split_accessor x [] more t u ts fits leaves is e h = clash false (RL.empties x fits is) refl
  split_accessor x (v ∷ []) more t u ts fits leaves is e h = let head : v ≡ t = cc in absurd (one_alone x v fits leaves is (subst (λ (z : Token). has accessor_words (class_of z) ≡ true) (sym head) h))
  split_accessor x (v ∷ q ∷ m) more t u ts fits leaves is e h =
      let head : v ≡ t = cc in
      let next : q ≡ u = cc in
      let named = (inside {xs = accessor_words} {ys = names} refl).in_second (class_of v) (subst (λ (z : Token). has accessor_words (class_of z) ≡ true) (sym head) h) in
      subst (λ (z : Token). has behind_type (class_of z) ≡ true) next (result_second v q m named (subst R.front is (RL.whole x fits)))

  accessor_second : (t u : Token) (ts : List Token) → has accessor_words (class_of t) ≡ true → typed_front (t ∷ u ∷ ts) → has behind_type (class_of u) ≡ true
  accessor_second t u ts h (inl f) = result_second t u ts ((inside {xs = accessor_words} {ys = names} refl).in_second (class_of t) h) f
  accessor_second t u ts h (inr (x, more, fits, on, e, f)) = split_accessor x (result_tokens x) more t u ts fits.0 fits.1 refl e h

  -- ---- no tree has one token alone

  kind_two : (k : AccessorKind) (t : Token) → K.Fits k → accessor_kind_tokens k ≡ t ∷ [] → ⊥
  kind_two k t (inl ((place, name), fits, is)) e =
      let whole : word_at place w.Get ∷ identifier_tokens name ≡ t ∷ [] = ap accessor_kind_tokens is ∙ e in
      let none : identifier_tokens name ≡ [] = cc in
      clash false (identifier_reads.empties name tt none) refl
  kind_two k t (inr ((place, (name, given)), fits, is)) e =
      let whole : word_at place w.Set ∷ (identifier_tokens name ++ parameters_tokens given) ≡ t ∷ [] = ap accessor_kind_tokens is ∙ e in
      let none : identifier_tokens name ++ parameters_tokens given ≡ [] = cc in
      clash false (identifier_reads.empties name tt (both_empty (identifier_tokens name) (parameters_tokens given) none).0) refl

  bare_one : (a : Pair) (t : Token) → BareFits a → spell a ≡ t ∷ [] → ⊥
  bare_one a t (k, fits, is) e = kind_two k t fits (ap spell is ∙ e)

  split_one : (x : ResultType) (k : AccessorKind) (m : List Token) (t : Token) → R.Fits x → K.Fits k → result_tokens x ≡ m → m ++ accessor_kind_tokens k ≡ t ∷ [] → ⊥
  split_one x k [] t fits own is e = clash false (RL.empties x fits is) refl
  split_one x k (v ∷ m) t fits own is e = let none : m ++ accessor_kind_tokens k ≡ [] = cc in clash false (KL.empties k own (both_empty m (accessor_kind_tokens k) none).1) refl

  typed_one : (a : Pair) (t : Token) → TypedFits a → spell a ≡ t ∷ [] → ⊥
  typed_one a t ((x, k), fits, is) e = split_one x k (result_tokens x) t fits.0.0 fits.1 refl (ap spell is ∙ e)

  -- ---- no list is both past its second token

  never : (t u : Token) (x z : List Token) → typed_front (t ∷ u ∷ x) → K.front (t ∷ u ∷ z) → ⊥
  never t u x z f k = (apart {xs = behind_type} {ys = names} refl).never_both (class_of u) (accessor_second t u x (KL.firsts t (u ∷ z) k) f) (bare_second t u z k)

  over_typed_at : (a : Pair) (m rest : List Token) → TypedFits a → spell a ≡ m → K.front (m ++ rest) → ⊥
  over_typed_at a [] rest fits is f = clash false (typed_laws.empties a fits is) refl
  over_typed_at a (v ∷ []) rest fits is f = typed_one a v fits is
  over_typed_at a (v ∷ q ∷ m) rest fits is f = never v q m (m ++ rest) (subst typed_front is (typed_laws.whole a fits)) f

  over_bare_at : (a : Pair) (m rest : List Token) → BareFits a → spell a ≡ m → typed_front (m ++ rest) → ⊥
  over_bare_at a [] rest fits is f = clash false (bare_laws.empties a fits is) refl
  over_bare_at a (v ∷ []) rest fits is f = bare_one a v fits is
  over_bare_at a (v ∷ q ∷ m) rest fits is f = never v q (m ++ rest) m f (subst K.front is (bare_laws.whole a fits))

  abbrev Whole : Phrase Pair
  Whole = seq_if result_leaves_name (opt R) K

  forth : (a : Pair) → FirstFit spell TypedFits BareFits a → Whole.Fits a
  forth a (inl ((x, k), fits, is)) = subst Whole.Fits is ((fits.0.0, fits.0.1), fits.1)
  forth a (inr ((k, fits, is), alone)) = subst Whole.Fits is ((tt, refl), fits)

  back : (a : Pair) → Whole.Fits a → FirstFit spell TypedFits BareFits a
  back (None, k) fits =
      let bare_fits : BareFits (None, k) = (k, fits.1, refl) in
      inr (bare_fits, λ b own same. over_typed_at b (spell b) [] own refl (subst K.front (sym (append-nil (spell b) ∙ same)) (bare_laws.whole (None, k) bare_fits)))
  back (Some x, k) fits = inl ((x, k), ((fits.0.0, fits.0.1), fits.1), refl)

  out : (ts : List Token) → Either typed_front K.front ts → Whole.front ts
  out ts (inl (inl f)) = inl f
  out ts (inl (inr (x, more, fits, on, e, k))) = inr (Some x, more, fits.0, fits.1, e, k)
  out ts (inr f) = inr (None, ts, tt, refl, refl, f)

  into : (ts : List Token) → Whole.front ts → Either typed_front K.front ts
  into ts (inl f) = inl (inl f)
  into ts (inr (None, more, fits, on, e, k)) = inr (subst K.front (sym e) k)
  into ts (inr (Some x, more, fits, on, e, k)) = inl (inr (x, more, (fits, on), refl, e, k))

  pub either_laws : Laws class_of (tried typed bare) spell Whole.Fits Whole.front (word_code w.Void ∷ type_first) nowhere false
  either_laws = restated (tried_laws typed_laws bare_laws (λ a t ts fits f. over_typed_at a (spell a) (t ∷ ts) fits refl f) (λ a t ts fits f. over_bare_at a (spell a) (t ∷ ts) fits refl f)) forth back out into (inside refl) (λ a fits. within_none []) (λ e. e)

  -- ---- the reader chooses by the next two tokens, and gives nearly the same

  abbrev pub actual : Reader Token Pair
  actual = both (checked result_leaves_name (option_where result_before_accessor (result here.type))) kind_reader

  abbrev goes_with : Option ResultType → List Token → Outcome Token Pair
  goes_with a mid = and_then (kind_reader mid) (λ b rest. Ok ((a, b), rest))

  abbrev tested : Bool → Option ResultType → List Token → Outcome Token (Option ResultType)
  tested ok a rest = if ok then Ok (a, rest) else Err rest

  abbrev tested_one : Bool → ResultType → List Token → Outcome Token ResultType
  tested_one ok a rest = if ok then Ok (a, rest) else Err rest

  put : (a : ResultType) (o : Outcome Token AccessorKind) → and_then {B = Pair} o (λ b rest. Ok ((Some a, b), rest)) ≡ and_then {B = Pair} (and_then {B = ResultType × AccessorKind} o (λ b rest. Ok ((a, b), rest))) (λ x rest. Ok (some_of x, rest))
  put a (Ok x) = refl
  put a (Err x) = refl

  kept : (ok : Bool) (a : ResultType) (mid : List Token) → and_then (tested ok (Some a) mid) goes_with ≡ and_then {B = Pair} (and_then (tested_one ok a mid) (λ a mid. and_then {B = ResultType × AccessorKind} (kind_reader mid) (λ b rest. Ok ((a, b), rest)))) (λ x rest. Ok (some_of x, rest))
  kept true a mid = put a (kind_reader mid)
  kept false a mid = refl

  read_some : (x : Outcome Token ResultType) → and_then (and_then (and_then {B = Option ResultType} x (λ a rest. Ok (Some a, rest))) (λ a rest. tested (result_leaves_name a) a rest)) goes_with
      ≡ and_then {B = Pair} (and_then (and_then x (λ a rest. tested_one (may a) a rest)) (λ a mid. and_then {B = ResultType × AccessorKind} (kind_reader mid) (λ b rest. Ok ((a, b), rest)))) (λ x rest. Ok (some_of x, rest))
  read_some (Ok (a, mid)) = kept (may a) a mid
  read_some (Err x) = refl

  abbrev chosen : Bool → Reader Token Pair
  chosen ok ts = if ok then typed ts else bare ts

  same : (ok : Bool) (ts : List Token) → and_then (and_then (when ok (result here.type) ts) (λ a rest. tested (result_leaves_name a) a rest)) goes_with ≡ chosen ok ts
  same true ts = read_some (result here.type ts)
  same false ts = refl

  -- ---- what the test says of the next two tokens

  so : (a b : Bool) → a ≡ true → b ≡ false → (a && not b) ≡ true
  so true false h k = refl
  so true true h k = absurd cc
  so false b h k = absurd cc

  not_so : (a b : Bool) → (a && not b) ≡ true → b ≡ false
  not_so true false h = refl
  not_so true true h = absurd cc
  not_so false b h = absurd cc

  no_bare : (mid : List Token) → result_before_accessor mid ≡ true → (t u : Token) (m : List Token) → mid ≡ t ∷ u ∷ m → K.front (t ∷ u ∷ []) → ⊥
  no_bare mid h t u m e f =
      let off = not_so (result_comes (t ∷ u ∷ m)) (has accessor_words (class_of t) && has names (class_of u)) (ap result_before_accessor (sym e) ∙ h) in
      clash (has accessor_words (class_of t) && has names (class_of u)) (and_true (has accessor_words (class_of t)) (has names (class_of u)) (KL.firsts t (u ∷ []) f) (bare_second t u [] f)) off

  abbrev result_words : List ℕ
  result_words = word_code w.Void ∷ word_code w.Dynamic ∷ []

  worded : (v d two : Bool) → (v || (d || false)) ≡ true → ((v || false) || ((d || false) || two)) ≡ true
  worded true d two h = refl
  worded false true two h = refl
  worded false false two h = absurd cc

  twice : (v d two : Bool) → two ≡ true → ((v || false) || ((d || false) || two)) ≡ true
  twice true d two h = refl
  twice false true two h = refl
  twice false false two h = h

  never_word : (t : Token) → has result_words (class_of t) ≡ true → has accessor_words (class_of t) ≡ false
  never_word t h = not_true (has accessor_words (class_of t)) (λ k. (apart {xs = result_words} {ys = accessor_words} refl).never_both (class_of t) h k)

  off_word : (a b : Bool) → a ≡ false → (a && b) ≡ false
  off_word false b h = refl
  off_word true b h = absurd cc

  by_word : (t : Token) (m : List Token) → has result_words (class_of t) ≡ true → result_before_accessor (t ∷ m) ≡ true
  by_word t [] h = so (result_comes (t ∷ [])) false (worded (eqb (class_of t) (word_code w.Void)) (eqb (class_of t) (word_code w.Dynamic)) false h) refl
  by_word t (u ∷ m) h = so (result_comes (t ∷ u ∷ m)) (has accessor_words (class_of t) && has names (class_of u)) (worded (eqb (class_of t) (word_code w.Void)) (eqb (class_of t) (word_code w.Dynamic)) (has names (class_of t) && has behind_type_name (class_of u)) h) (off_word (has accessor_words (class_of t)) (has names (class_of u)) (never_word t h))

  no_accessor : (t u : Token) → typed_front (t ∷ u ∷ []) → (has accessor_words (class_of t) && has names (class_of u)) ≡ false
  no_accessor t u f = not_true (has accessor_words (class_of t) && has names (class_of u)) (λ h. let v = and_both (has accessor_words (class_of t)) (has names (class_of u)) h in
      (apart {xs = behind_type} {ys = names} refl).never_both (class_of u) (accessor_second t u [] v.0 f) v.1)

  by_two : (t u : Token) (m : List Token) → has names (class_of t) ≡ true → typed_front (t ∷ u ∷ []) → result_before_accessor (t ∷ u ∷ m) ≡ true
  by_two t u m h f = so (result_comes (t ∷ u ∷ m)) (has accessor_words (class_of t) && has names (class_of u))
      (twice (eqb (class_of t) (word_code w.Void)) (eqb (class_of t) (word_code w.Dynamic)) (has names (class_of t) && has behind_type_name (class_of u)) (and_true (has names (class_of t)) (has behind_type_name (class_of u)) h ((inside {xs = seconds} {ys = behind_type_name} refl).in_second (class_of u) (typed_second t u [] h f))))
      (no_accessor t u f)

  first_of : (t : Token) → has (word_code w.Void ∷ type_first) (class_of t) ≡ true → (has result_words (class_of t) ≡ true) ⊎ (has names (class_of t) ≡ true)
  first_of t h = has_cases result_words names (class_of t) h

  no_typed : (mid : List Token) → result_before_accessor mid ≡ false → (t u : Token) (m : List Token) → mid ≡ t ∷ u ∷ m → typed_front (t ∷ u ∷ []) → ⊥
  no_typed mid h t u m e f = clash (result_before_accessor (t ∷ u ∷ m)) (elim (first_of t (typed_laws.firsts t (u ∷ []) f)) [ inl v ↦ by_word t (u ∷ m) v | inr v ↦ by_two t u m v f ]) (ap result_before_accessor (sym e) ∙ h)

  a_name : (mid : List Token) → result_before_accessor mid ≡ false → (t : Token) (e : List Token) → mid ≡ t ∷ e → typed_front (t ∷ []) → has names (class_of t) ≡ true
  a_name mid h t e is f = elim (first_of t (typed_laws.firsts t [] f)) [ inl v ↦ clash (result_before_accessor (t ∷ e)) (by_word t e v) (ap result_before_accessor (sym is) ∙ h) | inr v ↦ v ]

  near_by : (mid : List Token) (ok : Bool) → result_before_accessor mid ≡ ok → Near mid (chosen ok mid) (tried typed bare mid)
  near_by mid true h =
      let v = short bare_laws mid bare_one (no_bare mid h) (bare mid) refl in
      subst (λ (o : Outcome Token Pair). Near mid (typed mid) (farther (typed mid) o)) (sym v.1) (near_first typed_laws bare_laws mid (λ t e is f. (inside {xs = accessor_words} {ys = names} refl).in_second (class_of t) (KL.firsts t [] f)) (typed mid) refl v.0 v.2)
  near_by mid false h =
      let v = short typed_laws mid typed_one (no_typed mid h) (typed mid) refl in
      subst (λ (o : Outcome Token Pair). Near mid (bare mid) (farther o (bare mid))) (sym v.1) (near_second typed_laws bare_laws mid (a_name mid h) (bare mid) refl v.0 v.2)

  pub near_actual : (mid : List Token) → Near mid (actual mid) (tried typed bare mid)
  near_actual mid = subst (λ (o : Outcome Token Pair). Near mid o (tried typed bare mid)) (sym (same (result_before_accessor mid) mid)) (near_by mid (result_before_accessor mid) refl)
