-- Generative constructors are read as what they are, name and parameters first (ECMA-408, 10.6.1 Generative Constructors).
use Rattle.std.proofs.Common.{◌≡◌, ℕ, Bool, true, false, if◌then◌else◌, List, ◌++◌, length, None, Ok, Err, refl, sym, ap, ◌∙◌, subst, append_assoc}
use Rattle.std.specs.Prelude.{nat_lt}
use Rattle.dart_token.specs.declared.token.Token.{Token}
use Rattle.dart_token.specs.declared.sign.Sign.TheVariants as s
use Rattle.dart_tree.specs.declared.declaration.ConstructorName.{ConstructorName}
use Rattle.dart_tree.specs.Tree as t
use Rattle.dart_tree.specs.Tree.{Body, Parameters}
use Rattle.dart_tree.specs.Tokens.{body_tokens}
use Rattle.dart_tree.specs.Unit as d
use Rattle.dart_tree.specs.Unit.{Initializers, Constructor}
use Rattle.dart_tree.specs.UnitTokens.{initializers_tokens, constructor_tokens}
use Rattle.grammar_laws.specs.Readers.{Outcome, Reader, and_then, mapped, both, starts, deeper, sought}
use Rattle.grammar_laws.specs.Fronts.{BothFit, both_spelling}
use Rattle.grammar_laws.proofs.Codes.{apart}
use Rattle.grammar_laws.proofs.Cuts.{same_value, same_rest, then_ok, both_ok}
use Rattle.grammar_laws.proofs.Joints.{begins}
use Rattle.grammar_laws.proofs.Tried.{stops_nowhere}
use Rattle.dart_syntax.specs.Phrases.{Phrase}
use Rattle.dart_syntax.specs.Agreement.{Agrees, StmtsAgree}
use Rattle.dart_syntax.specs.Statements.{StmtNodes, within}
use Rattle.dart_syntax.specs.Declarations as c
use Rattle.dart_syntax.proofs.Agreeing.{parts_say, made_agrees, either_agrees, seq_agrees, opt_agrees}
use Rattle.dart_syntax.proofs.AgreeingTypes.{sign_agrees}
use Rattle.dart_syntax.proofs.AgreeingStages.{within_agrees}
use Rattle.token_codes.specs.Codes.{class_of, these}
use Rattle.syntax_readers.specs.Primaries.{ExprReaders}
use Rattle.syntax_readers.specs.Statements.{stage}
use Rattle.syntax_readers.specs.Declarations as r
use Rattle.syntax_readers.specs.Declarations.{behind_init}
use Rattle.laws_unit.specs.Statements.{MemberPartsReadAt}
use Rattle.laws_unit.specs.Members.{BlockReadAt, InitsCloseAt, ScannedAt, GenerativesFoundAt}
use Rattle.laws_unit.proofs.Ends.{off_by}
use Rattle.laws_unit.proofs.Members.{constructor_name_laws, constructor_name_agrees, initializers_laws}
use Rattle.laws_unit.proofs.Generative.{Ended, Rest, RestFits, rest_tokens, rest_reader, found_sound, found_complete}

-- ---- two tries behind a beginning that both share

if_same : {X : Type 0} (c : Bool) (x : X) → (if c then x else x) ≡ x
if_same true x = refl
if_same false x = refl

module _ {A B R X : Type 0} (f : A → B → R → X) where
  abbrev make : A × (B × R) → List Token → Outcome Token X
  make x rest = Ok (f x.0 x.1.0 x.1.1, rest)

  abbrev after : A → B × R → List Token → Outcome Token (A × (B × R))
  after a x rest = Ok ((a, x), rest)

  abbrev end_with : B → Outcome Token R → Outcome Token (B × R)
  end_with b o = and_then o (λ r rest. Ok ((b, r), rest))

  abbrev shaped : A → B → Outcome Token R → Outcome Token X
  shaped a b o = and_then (and_then (end_with b o) (after a)) make

  abbrev behind_first : A → Outcome Token B → Reader Token R → Outcome Token X
  behind_first a o p = and_then (and_then (and_then o (λ b mid. end_with b (p mid))) (after a)) make

  abbrev behind_both : Outcome Token A → Reader Token B → Reader Token R → Outcome Token X
  behind_both o q p = and_then (and_then o (λ a mid. and_then (and_then (q mid) (λ b end. end_with b (p end))) (after a))) make

  by_test : (a : A) (b : B) (c : Bool) (d : List Token) (o : Outcome Token R) → (if c then Err d else shaped a b o) ≡ shaped a b (if c then Err d else o)
  by_test a b true d o = refl
  by_test a b false d o = refl

  by_rest : (a : A) (b : B) (o u : Outcome Token R) → deeper (shaped a b o) (shaped a b u) ≡ shaped a b (deeper o u)
  by_rest a b (Ok x) u = refl
  by_rest a b (Err d) (Ok y) = by_test a b (nat_lt (length d) (length y.1)) d (Ok y)
  by_rest a b (Err d) (Err e) = by_test a b (nat_lt (length d) (length e)) d (Err e)

  by_second : (a : A) (o : Outcome Token B) (p q : Reader Token R) → deeper (behind_first a o p) (behind_first a o q) ≡ behind_first a o (sought p q)
  by_second a (Ok y) p q = by_rest a y.0 (p y.1) (q y.1)
  by_second a (Err e) p q = if_same (nat_lt (length e) (length e)) (Err e)

  by_first : (o : Outcome Token A) (g : Reader Token B) (p q : Reader Token R) → deeper (behind_both o g p) (behind_both o g q) ≡ behind_both o g (sought p q)
  by_first (Ok x) g p q = by_second x.0 (g x.1) p q
  by_first (Err e) g p q = if_same (nat_lt (length e) (length e)) (Err e)

module _ (n : ℕ) (D : MemberPartsReadAt n) (B : BlockReadAt n) (C : InitsCloseAt n) (class : List ℕ) where
  abbrev nodes : StmtNodes
  nodes = (within n).nodes

  abbrev here : ExprReaders
  here = (stage n).nodes.exprs

  abbrev A : StmtsAgree nodes
  A = (within_agrees n).nodes

  abbrev Behind : Type 0
  Behind = Rest n D B C class

  abbrev pub Parts : Type 0
  Parts = ConstructorName × (Parameters × Behind)

  abbrev a_generative : ConstructorName → Parameters → Behind → Constructor
  a_generative name given rest = d.generative None name given rest.0 rest.1

  abbrev pub to_generative : Parts → Constructor
  to_generative x = a_generative x.0 x.1.0 x.1.1

  abbrev read_name : Reader Token ConstructorName
  read_name = r.constructor_name class

  abbrev read_rest : Reader Token Behind
  read_rest = rest_reader n D B C class

  abbrev read_whole : Reader Token Constructor
  read_whole = mapped to_generative (both read_name (both here.parameters read_rest))

  reads_whole : (ts : List Token) → r.generative here (r.init n) class ts ≡ read_whole ts
  unfolding r.generative r.generative_with
  reads_whole ts = by_first a_generative (read_name ts) here.parameters (r.with_initializers (r.init n) here.block) (r.with_own_body (r.init n) here.block)

  -- ---- the trees, and their tokens

  abbrev Name : Phrase ConstructorName
  Name = c.constructor_name_over nodes class

  abbrev Given : Phrase Parameters
  Given = nodes.expr_nodes.parameters

  abbrev Inits : Phrase Initializers
  Inits = c.initializers_over nodes (c.init_within n) class

  abbrev Whole : Phrase Constructor
  Whole = c.generative_over nodes (c.init_within n) class

  abbrev PartsFit : Parts → Type 0
  PartsFit = BothFit Name.Fits (BothFit Given.Fits (RestFits n D B C class))

  abbrev parts_tokens : Parts → List Token
  parts_tokens = both_spelling Name.spelling (both_spelling Given.spelling (rest_tokens n D B C class))

  pub inits_agree : Agrees initializers_tokens Inits
  inits_agree = let L = initializers_laws n D class in record { spells = λ a. refl; whole = L.whole; none = L.none; closed = L.closed }

  pub ended_agrees : Agrees body_tokens (Ended n D B C class)
  unfolding body_tokens
  ended_agrees = either_agrees (made_agrees body_tokens t.block_body A.expr_nodes.block (λ x fits. refl)) (made_agrees body_tokens t.no_body (sign_agrees s.Semicolon) (λ x fits. refl))

  pub said : (x : Parts) → PartsFit x → constructor_tokens (to_generative x) ≡ parts_tokens x
  said = parts_say constructor_tokens to_generative (seq_agrees (constructor_name_agrees n D class) (seq_agrees A.expr_nodes.parameters (seq_agrees (opt_agrees inits_agree) ended_agrees))) (λ x fits. refl)

  grouped : (x : Parts) (rest : List Token) → parts_tokens x ++ rest ≡ Name.spelling x.0 ++ (Given.spelling x.1.0 ++ (rest_tokens n D B C class x.1.1 ++ rest))
  grouped x rest = append_assoc (Name.spelling x.0) (Given.spelling x.1.0 ++ rest_tokens n D B C class x.1.1) rest ∙ ap (λ (m : List Token). Name.spelling x.0 ++ m) (append_assoc (Given.spelling x.1.0) (rest_tokens n D B C class x.1.1) rest)

  -- ---- what is read is a constructor

  parts_sound : (ts : List Token) (x : Parts) (rest : List Token) → both read_name (both here.parameters read_rest) ts ≡ Ok (x, rest) → PartsFit x × (ts ≡ parts_tokens x ++ rest)
  parts_sound ts x rest e =
      let v = both_ok read_name (λ _. both here.parameters read_rest) ts x rest e in
      let u = both_ok here.parameters (λ _. read_rest) v.0 x.1 rest v.2 in
      let a = (constructor_name_laws nodes class).sound ts x.0 v.0 v.1 in
      let g = D.parameters.sound v.0 x.1.0 u.0 u.1 in
      let z = found_sound n D B C class u.0 x.1.1 rest u.2 in
      ((a.0, (g.0, z.0)), a.1 ∙ ap (λ (m : List Token). Name.spelling x.0 ++ m) (g.1 ∙ ap (λ (m : List Token). Given.spelling x.1.0 ++ m) z.1) ∙ sym (grouped x rest))

  whole_sound : (ts : List Token) (a : Constructor) (rest : List Token) → read_whole ts ≡ Ok (a, rest) → Whole.Fits a × (ts ≡ constructor_tokens a ++ rest)
  whole_sound ts a rest e =
      let v = then_ok (both read_name (both here.parameters read_rest) ts) (λ x m. Ok (to_generative x, m)) a rest e in
      let k = parts_sound ts v.0 v.1 v.2 in
      let is : to_generative v.0 ≡ a = same_value (to_generative v.0) a v.1 rest v.3 in
      let left : v.1 ≡ rest = same_rest (to_generative v.0) a v.1 rest v.3 in
      ((v.0, k.0, is), k.1 ∙ ap (λ (m : List Token). m ++ v.1) (sym (said v.0 k.0) ∙ ap constructor_tokens is) ∙ ap (λ (m : List Token). constructor_tokens a ++ m) left)

  -- ---- and each is read as itself

  no_dot : (x : Parts) (m : List Token) → Given.Fits x.1.0 → starts class_of (these s.Dot) (Given.spelling x.1.0 ++ m) ≡ false
  no_dot x m fits = off_by (these s.Dot) (these s.LeftParenthesis) (apart {xs = these s.Dot} {ys = these s.LeftParenthesis} refl).never_both (Given.spelling x.1.0 ++ m) (begins D.parameters x.1.0 m fits)

  parts_read : ScannedAt n → (x : Parts) (rest : List Token) → PartsFit x → starts class_of behind_init rest ≡ false → read_whole (parts_tokens x ++ rest) ≡ Ok (to_generative x, rest)
  parts_read scanned x rest fits stop =
      ap read_whole (grouped x rest)
      ∙ ap (λ (z : Outcome Token ConstructorName). and_then (and_then z (λ a m. and_then (both here.parameters read_rest m) (λ b m. Ok ((a, b), m)))) (λ y m. Ok (to_generative y, m)))
      ((constructor_name_laws nodes class).complete x.0 (Given.spelling x.1.0 ++ (rest_tokens n D B C class x.1.1 ++ rest)) fits.0 (no_dot x (rest_tokens n D B C class x.1.1 ++ rest) fits.1.0))
      ∙ ap (λ (z : Outcome Token Parameters). and_then (and_then (and_then z (λ b m. and_then (read_rest m) (λ y m. Ok ((b, y), m)))) (λ b m. Ok ((x.0, b), m))) (λ y m. Ok (to_generative y, m)))
      (D.parameters.complete x.1.0 (rest_tokens n D B C class x.1.1 ++ rest) fits.1.0 (stops_nowhere class_of (rest_tokens n D B C class x.1.1 ++ rest)))
      ∙ ap (λ (z : Outcome Token Behind). and_then (and_then (and_then z (λ y m. Ok ((x.1.0, y), m))) (λ b m. Ok ((x.0, b), m))) (λ y m. Ok (to_generative y, m)))
      (found_complete n D B C class scanned x.1.1 rest fits.1.1 stop)

  whole_complete : ScannedAt n → (a : Constructor) (rest : List Token) → Whole.Fits a → starts class_of behind_init rest ≡ false → read_whole (constructor_tokens a ++ rest) ≡ Ok (a, rest)
  whole_complete scanned a rest (x, fits, is) stop = subst (λ (y : Constructor). read_whole (constructor_tokens y ++ rest) ≡ Ok (y, rest)) is
      (ap (λ (m : List Token). read_whole (m ++ rest)) (said x fits) ∙ parts_read scanned x rest fits stop)

  pub generative_sound : (ts : List Token) (a : Constructor) (rest : List Token) → r.generative here (r.init n) class ts ≡ Ok (a, rest) → Whole.Fits a × (ts ≡ constructor_tokens a ++ rest)
  generative_sound ts a rest e = whole_sound ts a rest (sym (reads_whole ts) ∙ e)

  pub generative_complete : ScannedAt n → (a : Constructor) (rest : List Token) → Whole.Fits a → starts class_of behind_init rest ≡ false → r.generative here (r.init n) class (constructor_tokens a ++ rest) ≡ Ok (a, rest)
  generative_complete scanned a rest fits stop = reads_whole (constructor_tokens a ++ rest) ∙ whole_complete scanned a rest fits stop

pub generatives_at : (n : ℕ) → MemberPartsReadAt n → BlockReadAt n → InitsCloseAt n → ScannedAt n → GenerativesFoundAt n
generatives_at n D B C scanned = record { sound = λ class. generative_sound n D B C class; complete = λ class. generative_complete n D B C class scanned }
