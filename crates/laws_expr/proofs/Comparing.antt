-- What may stand behind the first operand of a comparison (ECMA-408, 16.24 Relational Expressions, 16.34 Type Test, 16.35 Type Cast), and which
-- operators come: an operator with its operand or its type, or, behind a half that was read, an operand alone.
use Rattle.std.proofs.Common.{◌≡◌, ℕ, Bool, true, false, List, [], ◌∷◌, ◌++◌, Option, None, Some, ◌⊎◌, inl, inr, refl, ap, sym, ◌∙◌, subst, Ok, Err, arith}
use Rattle.dart_base.specs.declared.place.Place.{Place}
use Rattle.dart_token.specs.declared.token.Token.{Token}
use Rattle.dart_token.specs.declared.sign.Sign.TheVariants as s
use Rattle.dart_token.specs.declared.word.Word.TheVariants as w
use Rattle.dart_tree.specs.declared.operator.Operator.{Operator}
use Rattle.dart_tree.specs.declared.operator.Operator.TheVariants as o
use Rattle.dart_tree.specs.LeafTokens.{operator_tokens, type_tokens}
use Rattle.dart_tree.specs.Types.{TypeNode, dynamic_type, named_type, no_types, listed_types}
use Rattle.dart_tree.specs.Tree as t
use Rattle.dart_tree.specs.Tree.{Operand}
use Rattle.dart_tree.specs.Tokens.{operand_tokens}
use Rattle.grammar_laws.specs.Codes.{has, Apart, Within, nowhere, given, after_option}
use Rattle.grammar_laws.specs.Readers.{Reader, always, mapped, option, Outcome, and_then, starts}
use Rattle.grammar_laws.specs.Fronts.{Front, Joint, Either, EitherFit, BothFit, OptionFit, Made, both_spelling, option_spelling}
use Rattle.grammar_laws.specs.Laws.{Laws}
use Rattle.grammar_laws.proofs.Codes.{apart, apart_none, has_cases, has_left, has_right, has_given, given_has, inside, within_none, within_then, within_union, within_given, within_self, within_left, clash, not_true, within_right, only_code}
use Rattle.grammar_laws.proofs.Restated.{made_laws, mapped_laws, refit, refront, wider}
use Rattle.grammar_laws.proofs.Combined.{both_laws, both_any_laws}
use Rattle.grammar_laws.proofs.Chosen.{by_first_laws}
use Rattle.grammar_laws.proofs.Followed.{option_laws}
use Rattle.dart_syntax.specs.Phrases.{Anything}
use Rattle.dart_syntax.specs.Leaves as l
use Rattle.dart_syntax.specs.Leaves.{sign_tokens, word_tokens}
use Rattle.dart_syntax.specs.Edges.{opens_less, opens_dot, operand_takes, tails_take}
use Rattle.dart_syntax.specs.Edges as edge
use Rattle.dart_syntax.specs.Levels.{level}
use Rattle.token_codes.specs.Codes.{class_of, sign_code, word_code, these, this_word, sign_codes}
use Rattle.token_codes.specs.Leaves.{sign, word, one_of}
use Rattle.token_codes.proofs.Leaves.{Distinct, sign_reads, word_reads, one_of_reads}
use Rattle.syntax_readers.specs.Combinators.{◌~◌, made₂, made₃, Open, with_half}
use Rattle.syntax_readers.specs.Primaries.{operand_first}
use Rattle.syntax_readers.specs.Types.{type_first}
use Rattle.syntax_readers.specs.Levels.{whole, comparing, Compared, compared, tested, cast, compared_with, joined_compared}
use Rattle.laws_type.specs.Nexts.{after_type}
use Rattle.laws_expr.specs.Nexts.{Taking, nexts, taken, operand_alone, after_operand}
use Rattle.laws_expr.proofs.Open.{OpenLaws, open_spelling, after_open}
use Rattle.laws_expr.proofs.Edges.{within_at, taken_moves, operand_moves}
use Rattle.laws_expr.proofs.Chain.{half_operand, half_moves, last_takes}
use Rattle.dart_token.specs.declared.word.Word.{Word}
use Rattle.grammar_laws.proofs.Joints.{begins}
use Rattle.laws_expr.proofs.Refined.{origin}

-- ---- what goes on behind a type, and behind the two trees that end in one

pub by_type : (of : TypeNode) (takes : Taking) (own : List ℕ) → ((next : ℕ) (opens : TypeNode → Bool) → opens of ≡ true → (next ≡ 5) ⊎ (next ≡ 13) → takes next opens ≡ true) → Within (after_type of) (taken takes ++ own)
by_type (dynamic_type place) takes own on = within_none (taken takes ++ own)
by_type (named_type name None no_types) takes own on =
    within_then (within_union (within_at 5 nexts (these s.Less) takes refl (on 5 opens_less refl (inl refl))) (within_at 13 nexts (these s.Dot) takes refl (on 13 opens_dot refl (inr refl)))) (within_left (taken takes) own)
by_type (named_type name (Some member) no_types) takes own on = within_then (within_at 5 nexts (these s.Less) takes refl (on 5 opens_less refl (inl refl))) (within_left (taken takes) own)
by_type (named_type name member (listed_types opening listed closing)) takes own on = within_none (taken takes ++ own)

pub is_on : (x : Operand) (place : Place) (bang : Option Place) (of : TypeNode) → Within (after_type of) (after_operand 5 (t.is_type x place bang of))
unfolding operand_takes
is_on x place bang of = by_type of (λ next opens. operand_takes next opens 5 (t.is_type x place bang of)) (operand_alone (t.is_type x place bang of)) takes where
  takes : (next : ℕ) (opens : TypeNode → Bool) → opens of ≡ true → (next ≡ 5) ⊎ (next ≡ 13) → operand_takes next opens 5 (t.is_type x place bang of) ≡ true
  takes next opens h (inl e) = subst (λ (m : ℕ). operand_takes m opens 5 (t.is_type x place bang of) ≡ true) (sym e) h
  takes next opens h (inr e) = subst (λ (m : ℕ). operand_takes m opens 5 (t.is_type x place bang of) ≡ true) (sym e) h

pub as_on : (x : Operand) (place : Place) (of : TypeNode) → Within (after_type of) (after_operand 5 (t.as_type x place of))
unfolding operand_takes
as_on x place of = by_type of (λ next opens. operand_takes next opens 5 (t.as_type x place of)) (operand_alone (t.as_type x place of)) takes where
  takes : (next : ℕ) (opens : TypeNode → Bool) → opens of ≡ true → (next ≡ 5) ⊎ (next ≡ 13) → operand_takes next opens 5 (t.as_type x place of) ≡ true
  takes next opens h (inl e) = subst (λ (m : ℕ). operand_takes m opens 5 (t.as_type x place of) ≡ true) (sym e) h
  takes next opens h (inr e) = subst (λ (m : ℕ). operand_takes m opens 5 (t.as_type x place of) ≡ true) (sym e) h

-- ---- the operators

abbrev pub others : List ℕ
others = sign_codes (s.LessEqual ∷ s.GreaterEqual ∷ [])

abbrev pub rest_codes : List ℕ
rest_codes = sign_code s.Greater ∷ others

abbrev pub types : List ℕ
types = word_code w.Is ∷ word_code w.As ∷ []

pub distinct_comparing : Distinct comparing
distinct_comparing = (apart refl, (apart refl, (apart refl, (apart refl, tt))))

-- an operator is `<`, or one of the others
abbrev pub Lesser : Operator → Type 0
Lesser = (l.one_of (s.Less ∷ [])).Fits

abbrev pub Rest : Operator → Type 0
Rest = (l.one_of (s.Greater ∷ s.LessEqual ∷ s.GreaterEqual ∷ [])).Fits

abbrev pub RestOf : Front Token
RestOf = (l.one_of (s.Greater ∷ s.LessEqual ∷ s.GreaterEqual ∷ [])).front

abbrev pub OthersOf : Front Token
OthersOf = (l.one_of (s.LessEqual ∷ s.GreaterEqual ∷ [])).front

pub rest_firsts : (u : Token) (ts : List Token) → RestOf (u ∷ ts) → has rest_codes (class_of u) ≡ true
rest_firsts = (one_of_reads (s.Greater ∷ s.LessEqual ∷ s.GreaterEqual ∷ []) (apart refl, (apart refl, (apart refl, tt)))).firsts

pub others_firsts : (u : Token) (ts : List Token) → OthersOf (u ∷ ts) → has others (class_of u) ≡ true
others_firsts = (one_of_reads (s.LessEqual ∷ s.GreaterEqual ∷ []) (apart refl, (apart refl, tt))).firsts

pub rest_level : (x : Operator) → Rest x → level x ≡ 5
rest_level x (inl (place, fits, is)) = ap level (sym is)
rest_level x (inr (inl (place, fits, is))) = ap level (sym is)
rest_level x (inr (inr (inl (place, fits, is)))) = ap level (sym is)
rest_level x (inr (inr (inr none))) = absurd none

pub comparing_level : (x : Operator) → (l.one_of comparing).Fits x → level x ≡ 5
comparing_level x (inl (place, fits, is)) = ap level (sym is)
comparing_level x (inr fits) = rest_level x fits

-- ---- an operand, an operator with its operand, or one with its type

abbrev pub Behind : Type 0
Behind = Open Operand ⊎ Compared

abbrev pub compared_tokens : Compared → List Token
compared_tokens (compared operator y) = operator_tokens operator ++ open_spelling operand_tokens y
compared_tokens (tested place bang of) = word_tokens w.Is place ++ (option_spelling (sign_tokens s.Bang) bang ++ type_tokens of)
compared_tokens (cast place of) = word_tokens w.As place ++ type_tokens of

abbrev pub spelled : Behind → List Token
spelled (inl y) = open_spelling operand_tokens y
spelled (inr c) = compared_tokens c

abbrev pub after_behind : (Operand → List ℕ) → Behind → List ℕ
after_behind next (inl y) = after_open next (half_operand 6) y
after_behind next (inr (compared operator y)) = after_open next (half_operand 6) y
after_behind next (inr (tested place bang of)) = after_type of
after_behind next (inr (cast place of)) = after_type of

-- ---- the grammar's nodes

abbrev pub item_node : Operand × (Operator × Operand) → Operand
item_node x = t.binary x.0 (t.tail x.1.0 x.1.1 t.no_tails)

abbrev pub is_node : Operand × (Place × (Option Place × TypeNode)) → Operand
is_node x = t.is_type x.0 x.1.0 x.1.1.0 x.1.1.1

abbrev pub as_node : Operand × (Place × TypeNode) → Operand
as_node x = t.as_type x.0 x.1.0 x.1.1

-- the operator of which the half was read
abbrev pub greater_of : Option Place → Operator
greater_of None = o.Sign origin s.Greater
greater_of (Some g) = o.Sign g s.Greater

abbrev pub join : Open Operand × Option Behind → Open Operand
join (x, None) = x
join (x, Some (inl y)) = with_half (λ z. t.binary x.0 (t.tail (greater_of x.1) z t.no_tails)) y
join (x, Some (inr (compared operator y))) = with_half (λ z. t.binary x.0 (t.tail operator z t.no_tails)) y
join (x, Some (inr (tested place bang of))) = (t.is_type x.0 place bang of, None)
join (x, Some (inr (cast place of))) = (t.as_type x.0 place of, None)

pub item_on : (x : Operand) (operator : Operator) (y : Open Operand) → level operator ≡ 5 → Within (after_open (after_operand 6) (half_operand 6) y) (after_open (after_operand 5) (half_operand 5) (with_half (λ z. t.binary x (t.tail operator z t.no_tails)) y))
unfolding operand_takes operand_alone
item_on x operator (y, None) e =
    let takes : Taking = λ next opens. tails_take next opens 5 (t.tail operator y t.no_tails) in
    within_union (within_then (taken_moves nexts (λ next opens. operand_takes next opens 6 y) takes (last_takes 5 operator y e)) (within_left (taken takes) (operand_alone y))) (within_right (taken takes) (operand_alone y))
item_on x operator (y, Some g) e = half_moves (λ next opens. operand_takes next opens 6 y) (λ next opens. tails_take next opens 5 (t.tail operator y t.no_tails)) (operand_alone y) (last_takes 5 operator y e)

pub left_off : (opens : TypeNode → Bool) (x : Operand) → operand_takes 5 opens edge.nowhere x ≡ false → operand_takes 5 opens 6 x ≡ false
left_off opens x left = not_true (operand_takes 5 opens 6 x) (λ e. clash (operand_takes 5 opens edge.nowhere x) (operand_moves 5 opens x 6 edge.nowhere (inr (inl (omega arith))) e) left)

-- no `>` goes on behind a type
pub type_closed : (a b : Bool) → has ((given a (these s.Less) ++ (given b (these s.Dot) ++ [])) ++ []) (sign_code s.Greater) ≡ false
type_closed true true = refl
type_closed true false = refl
type_closed false true = refl
type_closed false false = refl

-- ---- the two ways in which it is read

abbrev pub raw_half : Operand → Place → Outcome Token (Open Operand) → Outcome Token (Open Operand)
raw_half x g r = and_then (and_then (and_then (and_then r (λ y rest. Ok (compared (o.Sign g s.Greater) y, rest))) (λ y rest. Ok (Some y, rest))) (λ y rest. Ok (((x, Some g), y), rest))) (λ y rest. Ok (joined_compared y, rest))

abbrev pub own_half : Operand → Place → Outcome Token (Open Operand) → Outcome Token (Open Operand)
own_half x g r = and_then (and_then (and_then (and_then r (λ y rest. Ok (inl y, rest))) (λ y rest. Ok (Some y, rest))) (λ y rest. Ok (((x, Some g), y), rest))) (λ y rest. Ok (join y, rest))

pub same_half : (x : Operand) (g : Place) (r : Outcome Token (Open Operand)) → raw_half x g r ≡ own_half x g r
same_half x g (Ok y) = refl
same_half x g (Err rest) = refl

abbrev pub raw_none : Operand → Outcome Token Compared → Outcome Token (Open Operand)
raw_none x r = and_then (and_then (and_then r (λ y rest. Ok (Some y, rest))) (λ y rest. Ok (((x, None), y), rest))) (λ y rest. Ok (joined_compared y, rest))

abbrev pub own_none : Operand → Outcome Token Compared → Outcome Token (Open Operand)
own_none x r = and_then (and_then (and_then (and_then r (λ c rest. Ok (inr c, rest))) (λ y rest. Ok (Some y, rest))) (λ y rest. Ok (((x, None), y), rest))) (λ y rest. Ok (join y, rest))

pub same_none : (x : Operand) (r : Outcome Token Compared) → raw_none x r ≡ own_none x r
same_none x (Ok (compared operator y, rest)) = refl
same_none x (Ok (tested place bang of, rest)) = refl
same_none x (Ok (cast place of, rest)) = refl
same_none x (Err rest) = refl

-- what begins an operator of a kind
pub lesser_begins : (op : Operator) (rest : List Token) → Lesser op → starts class_of (these s.Less) (operator_tokens op ++ rest) ≡ true
lesser_begins op rest fits = begins (one_of_reads (s.Less ∷ []) (apart refl, tt)) op rest fits

pub rest_begins : (op : Operator) (rest : List Token) → Rest op → starts class_of rest_codes (operator_tokens op ++ rest) ≡ true
rest_begins op rest fits = begins (one_of_reads (s.Greater ∷ s.LessEqual ∷ s.GreaterEqual ∷ []) (apart refl, (apart refl, (apart refl, tt)))) op rest fits

pub word_begins : (which : Word) (place : Place) (rest : List Token) → starts class_of (this_word which) (word_tokens which place ++ rest) ≡ true
word_begins which place rest = begins (word_reads which) place rest tt

pub widen : (xs ys : List ℕ) (ts : List Token) → Within xs ys → starts class_of xs ts ≡ true → starts class_of ys ts ≡ true
widen xs ys [] sub e = absurd cc
widen xs ys (u ∷ ts) sub e = sub.in_second (class_of u) e

-- ---- the readers of what stands behind the first operand

module _ {type : Reader Token TypeNode} {T : TypeNode → Type 0} {tfront : Front Token} (Types : Laws class_of type type_tokens T tfront type_first after_type false)
    (lower : Reader Token (Open Operand)) {U : Operand → Type 0} {ufront : Front Token} {next : Operand → List ℕ} (L : OpenLaws (whole lower) operand_tokens U ufront operand_first next (half_operand 6)) where
  abbrev pub Bangs : Option Place → Type 0
  Bangs = OptionFit Anything

  abbrev pub ComparedFits : Compared → Type 0
  ComparedFits (compared operator y) = (l.one_of comparing).Fits operator × L.Fits y
  ComparedFits (tested place bang of) = Bangs bang × T of
  ComparedFits (cast place of) = T of

  abbrev pub operators_front : Front Token
  operators_front = Joint operator_tokens (l.one_of comparing).Fits always (l.one_of comparing).front ufront

  abbrev pub tested_front : Front Token
  tested_front = Joint (word_tokens w.Is) Anything always (l.word w.Is).front (Joint (option_spelling (sign_tokens s.Bang)) Bangs always (l.sign s.Bang).front tfront)

  abbrev pub cast_front : Front Token
  cast_front = Joint (word_tokens w.As) Anything always (l.word w.As).front tfront

  abbrev pub compared_front : Front Token
  compared_front = Either tested_front (Either cast_front operators_front)

  abbrev pub BehindFits : Option Place → Behind → Type 0
  BehindFits (Some g) (inl y) = L.Fits y
  BehindFits (Some g) (inr c) = ⊥
  BehindFits None (inl y) = ⊥
  BehindFits None (inr c) = ComparedFits c

  abbrev pub behind_front : Option Place → Front Token
  behind_front (Some g) = ufront
  behind_front None = compared_front

  abbrev pub behind_first : Option Place → List ℕ
  behind_first (Some g) = operand_first
  behind_first None = this_word w.Is ++ (this_word w.As ++ sign_codes comparing)

  abbrev pub behind_reader : Option Place → Reader Token Behind
  behind_reader (Some g) = mapped (λ y. inl y) (whole lower)
  behind_reader None = mapped (λ c. inr c) (compared_with None type lower)

  abbrev pub Tests : Type 0
  Tests = Place × (Option Place × TypeNode)

  pub tested_of : (c : Compared) → Made (λ (x : Tests). tested x.0 x.1.0 x.1.1) (BothFit Anything (BothFit Bangs T)) c → ComparedFits c
  tested_of c ((place, (bang, of)), fits, is) = subst ComparedFits is (fits.1.0, fits.1.1)

  pub cast_of : (c : Compared) → Made (λ (x : Place × TypeNode). cast x.0 x.1) (BothFit Anything T) c → ComparedFits c
  cast_of c ((place, of), fits, is) = subst ComparedFits is fits.1

  pub compared_of : (c : Compared) → Made (λ (x : Operator × Open Operand). compared x.0 x.1) (BothFit (l.one_of comparing).Fits L.Fits) c → ComparedFits c
  compared_of c ((operator, y), fits, is) = subst ComparedFits is (fits.0, fits.1)

  abbrev pub Kinds : Compared → Type 0
  Kinds = EitherFit (Made (λ (x : Tests). tested x.0 x.1.0 x.1.1) (BothFit Anything (BothFit Bangs T))) (EitherFit (Made (λ (x : Place × TypeNode). cast x.0 x.1) (BothFit Anything T)) (Made (λ (x : Operator × Open Operand). compared x.0 x.1) (BothFit (l.one_of comparing).Fits L.Fits)))

  pub kinds_out : (c : Compared) → Kinds c → ComparedFits c
  kinds_out c (inl fits) = tested_of c fits
  kinds_out c (inr (inl fits)) = cast_of c fits
  kinds_out c (inr (inr fits)) = compared_of c fits

  pub kinds_in : (c : Compared) → ComparedFits c → Kinds c
  kinds_in (tested place bang of) fits = inl ((place, (bang, of)), (tt, (fits.0, fits.1)), refl)
  kinds_in (cast place of) fits = inr (inl ((place, of), (tt, fits), refl))
  kinds_in (compared operator y) fits = inr (inr ((operator, y), (fits.0, fits.1), refl))

  abbrev pub after_compared : Compared → List ℕ
  after_compared c = after_behind next (inr c)

  abbrev pub bang_first : List ℕ
  bang_first = these s.Bang ++ type_first

  pub bang_apart : (x : Option Place) → Bangs x → Apart (after_option (these s.Bang) nowhere x) type_first
  bang_apart None fits = apart refl
  bang_apart (Some place) fits = apart_none type_first

  pub bang_laws : Laws class_of (option class_of (these s.Bang) (sign s.Bang) ~ type) (both_spelling (option_spelling (sign_tokens s.Bang)) type_tokens) (BothFit Bangs T) (Joint (option_spelling (sign_tokens s.Bang)) Bangs always (l.sign s.Bang).front tfront) bang_first (λ x. after_type x.1) false
  bang_laws = wider (both_any_laws (option_laws (sign_reads s.Bang)) Types bang_apart) (within_self bang_first) (λ x fits. within_union (within_self (after_type x.1)) (within_none (after_type x.1)))

  abbrev pub Tested : Compared → Type 0
  Tested = Made (λ (x : Tests). tested x.0 x.1.0 x.1.1) (BothFit Anything (BothFit Bangs T))

  pub tested_laws : Laws class_of (made₃ tested (word w.Is ~ option class_of (these s.Bang) (sign s.Bang) ~ type)) compared_tokens Tested tested_front (this_word w.Is) after_compared false
  tested_laws = made_laws (both_laws (word_reads w.Is) bang_laws (λ place fits. apart_none bang_first)) (λ (x : Tests). tested x.0 x.1.0 x.1.1) compared_tokens after_compared (λ x fits. refl) (λ x fits. within_self (after_type x.1.1))

  pub cast_laws : Laws class_of (made₂ cast (word w.As ~ type)) compared_tokens (Made (λ (x : Place × TypeNode). cast x.0 x.1) (BothFit Anything T)) cast_front (this_word w.As) after_compared false
  cast_laws = made_laws (both_laws (word_reads w.As) Types (λ place fits. apart_none type_first)) (λ (x : Place × TypeNode). cast x.0 x.1) compared_tokens after_compared (λ x fits. refl) (λ x fits. within_self (after_type x.1))

  pub operators_laws : Laws class_of (made₂ compared (one_of comparing ~ whole lower)) compared_tokens (Made (λ (x : Operator × Open Operand). compared x.0 x.1) (BothFit (l.one_of comparing).Fits L.Fits)) operators_front (sign_codes comparing) after_compared false
  operators_laws = refront (made_laws (both_laws (one_of_reads comparing distinct_comparing) L.laws (λ x fits. apart_none operand_first)) (λ (x : Operator × Open Operand). compared x.0 x.1) compared_tokens after_compared (λ x fits. refl) (λ x fits. within_self (after_open next (half_operand 6) x.1))) (λ ts f. f) (λ ts f. f)

  pub compared_laws : Laws class_of (compared_with None type lower) compared_tokens ComparedFits compared_front (behind_first None) after_compared false
  unfolding compared_with
  compared_laws = refit (by_first_laws tested_laws (by_first_laws cast_laws operators_laws (apart refl)) (apart refl)) kinds_out kinds_in

  pub inl_back : (b : Behind) (g : Place) → BehindFits (Some g) b → (y : Open Operand) × L.Fits y × (inl y ≡ b)
  inl_back (inl y) g fits = (y, fits, refl)
  inl_back (inr c) g fits = absurd fits

  pub inr_back : (b : Behind) → BehindFits None b → (c : Compared) × ComparedFits c × (inr c ≡ b)
  inr_back (inl y) fits = absurd fits
  inr_back (inr c) fits = (c, fits, refl)

  pub behind_laws : (h : Option Place) → Laws class_of (behind_reader h) spelled (BehindFits h) (behind_front h) (behind_first h) (after_behind next) false
  behind_laws (Some g) = mapped_laws L.laws (λ y. inl y) spelled (after_behind next) (λ y fits. (fits, refl, within_self (after_open next (half_operand 6) y))) (λ b fits. inl_back b g fits)
  behind_laws None = mapped_laws compared_laws (λ c. inr c) spelled (after_behind next) (λ c fits. (fits, refl, within_self (after_compared c))) (λ b fits. inr_back b fits)

-- ---- which operators may stand there

abbrev pub mix : Bool → Bool → Bool → Bool → Bool → List ℕ
mix r l k c d = given r (given l (these s.Less) ++ (given k (these s.Greater) ++ (given c others ++ given d types)))

-- the three kinds have no code in common
pub less_in : (r l k c d : Bool) → has (mix r l k c d) (sign_code s.Less) ≡ true → (r ≡ true) × (l ≡ true)
less_in false l k c d h = absurd cc
less_in true true k c d h = (refl, refl)
less_in true false k c d h =
    let sub : Within (given k (these s.Greater) ++ (given c others ++ given d types)) (rest_codes ++ types) = within_union (within_given k (λ e. inside {xs = these s.Greater} {ys = rest_codes ++ types} refl)) (within_union (within_given c (λ e. inside {xs = others} {ys = rest_codes ++ types} refl)) (within_given d (λ e. inside {xs = types} {ys = rest_codes ++ types} refl))) in
    let bad : false ≡ true = sub.in_second (sign_code s.Less) h in absurd cc

pub rest_in : (r l k c d : Bool) (m : ℕ) → has rest_codes m ≡ true → has (mix r l k c d) m ≡ true → (r ≡ true) × ((k ≡ true) ⊎ (c ≡ true))
rest_in r l k c d m is h =
    let a = given_has r (given l (these s.Less) ++ (given k (these s.Greater) ++ (given c others ++ given d types))) m h in (
      a.0,
      elim (has_cases (given l (these s.Less)) (given k (these s.Greater) ++ (given c others ++ given d types)) m a.1) [
        | inl e ↦ let off : Apart (these s.Less) rest_codes = apart refl in absurd (off.never_both m (given_has l (these s.Less) m e).1 is)
        | inr e ↦ elim (has_cases (given k (these s.Greater)) (given c others ++ given d types) m e) [
          | inl e ↦ inl (given_has k (these s.Greater) m e).0
          | inr e ↦ elim (has_cases (given c others) (given d types) m e) [
            | inl e ↦ inr (given_has c others m e).0
            | inr e ↦ let off : Apart types rest_codes = apart refl in absurd (off.never_both m (given_has d types m e).1 is)
          ]
        ]
      ],
    )

pub types_in : (r l k c d : Bool) (m : ℕ) → has types m ≡ true → has (mix r l k c d) m ≡ true → (r ≡ true) × (d ≡ true)
types_in r l k c d m is h =
    let a = given_has r (given l (these s.Less) ++ (given k (these s.Greater) ++ (given c others ++ given d types))) m h in (
      a.0,
      elim (has_cases (given l (these s.Less)) (given k (these s.Greater) ++ (given c others ++ given d types)) m a.1) [
        | inl e ↦ let off : Apart (these s.Less) types = apart refl in absurd (off.never_both m (given_has l (these s.Less) m e).1 is)
        | inr e ↦ elim (has_cases (given k (these s.Greater)) (given c others ++ given d types) m e) [
          | inl e ↦ let off : Apart (these s.Greater) types = apart refl in absurd (off.never_both m (given_has k (these s.Greater) m e).1 is)
          | inr e ↦ elim (has_cases (given c others) (given d types) m e) [
            | inl e ↦ let off : Apart others types = apart refl in absurd (off.never_both m (given_has c others m e).1 is)
            | inr e ↦ (given_has d types m e).0
          ]
        ]
      ],
    )

pub less_on : (r l k c d : Bool) → r ≡ true → l ≡ true → has (mix r l k c d) (sign_code s.Less) ≡ true
less_on r l k c d e f = has_given r (given l (these s.Less) ++ (given k (these s.Greater) ++ (given c others ++ given d types))) (sign_code s.Less) e
    (has_left (given l (these s.Less)) (given k (these s.Greater) ++ (given c others ++ given d types)) (sign_code s.Less) (has_given l (these s.Less) (sign_code s.Less) f refl))

pub greater_on : (r l k c d : Bool) → r ≡ true → k ≡ true → has (mix r l k c d) (sign_code s.Greater) ≡ true
greater_on r l k c d e f = has_given r (given l (these s.Less) ++ (given k (these s.Greater) ++ (given c others ++ given d types))) (sign_code s.Greater) e
    (has_right (given l (these s.Less)) (given k (these s.Greater) ++ (given c others ++ given d types)) (sign_code s.Greater) (has_left (given k (these s.Greater)) (given c others ++ given d types) (sign_code s.Greater) (has_given k (these s.Greater) (sign_code s.Greater) f refl)))

pub others_on : (r l k c d : Bool) (m : ℕ) → r ≡ true → c ≡ true → has others m ≡ true → has (mix r l k c d) m ≡ true
others_on r l k c d m e f is = has_given r (given l (these s.Less) ++ (given k (these s.Greater) ++ (given c others ++ given d types))) m e
    (has_right (given l (these s.Less)) (given k (these s.Greater) ++ (given c others ++ given d types)) m (has_right (given k (these s.Greater)) (given c others ++ given d types) m (has_left (given c others) (given d types) m (has_given c others m f is))))

pub types_on : (r l k c d : Bool) (m : ℕ) → r ≡ true → d ≡ true → has types m ≡ true → has (mix r l k c d) m ≡ true
types_on r l k c d m e f is = has_given r (given l (these s.Less) ++ (given k (these s.Greater) ++ (given c others ++ given d types))) m e
    (has_right (given l (these s.Less)) (given k (these s.Greater) ++ (given c others ++ given d types)) m (has_right (given k (these s.Greater)) (given c others ++ given d types) m (has_right (given c others) (given d types) m (has_given d types m f is))))

-- the codes of the reader itself have `>` wherever an operand leaves it
abbrev pub raw_mix : Bool → Bool → Bool → Bool → List ℕ
raw_mix r l c d = given r ((given l (these s.Less) ++ given c rest_codes) ++ given d types)

pub to_raw : (r l k c d : Bool) → (k ≡ true → c ≡ true) → Within (mix r l k c d) (raw_mix r l c d)
to_raw r l k c d on =
    let less : List ℕ = given l (these s.Less) in
    let rest : List ℕ = given c rest_codes in
    let words : List ℕ = given d types in
    let in_rest : Within rest ((less ++ rest) ++ words) = within_then (within_right less rest) (within_left (less ++ rest) words) in
    within_given r (λ e. in_given r e (within_union (within_then (within_left less rest) (within_left (less ++ rest) words))
    (within_union (within_given k (λ f. within_then (in_given c (on f) (inside {xs = these s.Greater} {ys = rest_codes} refl)) in_rest))
    (within_union (within_given c (λ f. within_then (in_given c f (inside {xs = others} {ys = rest_codes} refl)) in_rest)) (within_right (less ++ rest) words))))) where
      in_given : {xs ys : List ℕ} (b : Bool) → b ≡ true → Within xs ys → Within xs (given b ys)
      in_given true e sub = sub
      in_given false e sub = absurd cc

pub same_bool : (a b : Bool) → (a ≡ true → b ≡ true) → (b ≡ true → a ≡ true) → a ≡ b
same_bool true true f g = refl
same_bool false false f g = refl
same_bool true false f g = sym (f refl)
same_bool false true f g = g refl

-- ---- what comes first behind an operand says what may stand there

module _ (r l k c d : Bool) where
  pub less_known : (ts : List Token) → starts class_of (mix r l k c d) ts ≡ true → starts class_of (these s.Less) ts ≡ true → (r ≡ true) × (l ≡ true)
  less_known [] on is = absurd cc
  less_known (u ∷ ts) on is = less_in r l k c d (ap (has (mix r l k c d)) (sym (only_code (class_of u) (sign_code s.Less) is)) ∙ on)

  pub rest_known : (k ≡ true → c ≡ true) → (ts : List Token) → starts class_of (mix r l k c d) ts ≡ true → starts class_of rest_codes ts ≡ true → (r ≡ true) × (c ≡ true)
  rest_known all [] on is = absurd cc
  rest_known all (u ∷ ts) on is = let w = rest_in r l k c d (class_of u) is on in (w.0, elim w.1 [ inl e ↦ all e | inr e ↦ e ])

  pub types_known : (ts : List Token) → starts class_of (mix r l k c d) ts ≡ true → starts class_of types ts ≡ true → (r ≡ true) × (d ≡ true)
  types_known [] on is = absurd cc
  types_known (u ∷ ts) on is = types_in r l k c d (class_of u) is on

  pub less_go : r ≡ true → l ≡ true → (ts : List Token) → starts class_of (these s.Less) ts ≡ true → starts class_of (mix r l k c d) ts ≡ true
  less_go low left [] is = absurd cc
  less_go low left (u ∷ ts) is = ap (has (mix r l k c d)) (only_code (class_of u) (sign_code s.Less) is) ∙ less_on r l k c d low left

  pub greater_go : r ≡ true → k ≡ true → (ts : List Token) → starts class_of (these s.Greater) ts ≡ true → starts class_of (mix r l k c d) ts ≡ true
  greater_go low left [] is = absurd cc
  greater_go low left (u ∷ ts) is = ap (has (mix r l k c d)) (only_code (class_of u) (sign_code s.Greater) is) ∙ greater_on r l k c d low left

  pub others_go : r ≡ true → c ≡ true → (ts : List Token) → starts class_of others ts ≡ true → starts class_of (mix r l k c d) ts ≡ true
  others_go low left [] is = absurd cc
  others_go low left (u ∷ ts) is = others_on r l k c d (class_of u) low left is

  pub types_go : r ≡ true → d ≡ true → (ts : List Token) → starts class_of types ts ≡ true → starts class_of (mix r l k c d) ts ≡ true
  types_go low left [] is = absurd cc
  types_go low left (u ∷ ts) is = types_on r l k c d (class_of u) low left is
