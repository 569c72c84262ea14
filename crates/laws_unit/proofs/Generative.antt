-- What stands behind the parameters of a generative constructor is read as what it is: the tries find each tree where nothing goes on behind it,
-- and nothing but trees (ECMA-408, 10.6.1 Generative Constructors).
use Rattle.std.proofs.Common.{◌≡◌, ℕ, suc, ◌+◌, ◌≤◌, arith, Bool, true, false, not, ◌&&◌, if◌then◌else◌, List, [], ◌∷◌, ◌++◌, length, take, drop, Option, None, Some, Ok, Err, ◌⊎◌, inl, inr, refl, sym, ap, ap₂, ◌∙◌, subst, append_assoc}
use Rattle.std.specs.Prelude.{nat_lt}
use Rattle.std.proofs.lemmas.Bool.{le-ltb}
use Rattle.std.proofs.lemmas.List.{append-nil, append_cancel_right, length-append, take-append-drop, take_at, drop_at}
use Rattle.dart_token.specs.declared.token.Token.{Token}
use Rattle.dart_token.specs.declared.sign.Sign.TheVariants as s
use Rattle.dart_tree.specs.Tree as t
use Rattle.dart_tree.specs.Tree.{Block, Body}
use Rattle.dart_tree.specs.Tokens.{body_tokens}
use Rattle.dart_tree.specs.Unit.{Initializers}
use Rattle.grammar_laws.specs.Codes.{has, Apart, nowhere, after_option}
use Rattle.grammar_laws.specs.Readers.{Outcome, Reader, and_then, mapped, both, option, starts, deeper, sought}
use Rattle.grammar_laws.specs.Fronts.{BothFit, OptionFit, both_spelling, option_spelling}
use Rattle.grammar_laws.specs.Laws.{Laws}
use Rattle.grammar_laws.proofs.Codes.{apart, apart_union, clash, inside, within_none}
use Rattle.grammar_laws.proofs.Cuts.{cut, same, longer, shorter, gave, same_value, same_rest, then_ok, both_ok, both_err}
use Rattle.grammar_laws.proofs.Joints.{begins, one_more, one_reading}
use Rattle.grammar_laws.proofs.Restated.{made_laws}
use Rattle.grammar_laws.proofs.Chosen.{by_first_laws}
use Rattle.grammar_laws.proofs.Continued.{absent, present, when_ok, when_err}
use Rattle.grammar_laws.proofs.Followed.{option_laws}
use Rattle.grammar_laws.proofs.Tried.{stops_nowhere}
use Rattle.dart_syntax.specs.Phrases.{Phrase, ◌<|>◌, made}
use Rattle.dart_syntax.specs.Agreement.{StmtsAgree}
use Rattle.dart_syntax.specs.Leaves as l
use Rattle.dart_syntax.specs.Statements.{StmtNodes, within}
use Rattle.dart_syntax.specs.Declarations as c
use Rattle.dart_syntax.proofs.AgreeingStages.{within_agrees}
use Rattle.token_codes.specs.Codes.{class_of, sign_code, these}
use Rattle.token_codes.specs.Leaves.{sign}
use Rattle.token_codes.specs.Reads.{Reads}
use Rattle.token_codes.proofs.Leaves.{sign_reads}
use Rattle.syntax_readers.specs.Combinators.{behind_brackets, ended_at, open_behind, up_to}
use Rattle.syntax_readers.specs.Primaries.{ExprReaders}
use Rattle.syntax_readers.specs.Statements.{stage}
use Rattle.syntax_readers.specs.Declarations as r
use Rattle.syntax_readers.specs.Declarations.{behind_init, before_body, is_body}
use Rattle.laws_unit.specs.Statements.{MemberPartsReadAt}
use Rattle.laws_unit.specs.Members.{BlockReadAt, InitsCloseAt, ScannedAt}
use Rattle.laws_unit.proofs.Ends.{off_by}
use Rattle.laws_unit.proofs.Members.{initializers_laws}

-- ---- the scan, and what is read of the first tokens alone

both_true : (a b : Bool) → a ≡ true → b ≡ false → (a && not b) ≡ true
both_true true false h k = refl
both_true true true h k = absurd cc
both_true false b h k = absurd cc

body_here : (m : List Token) → starts class_of (these s.LeftBrace) m ≡ true → starts class_of behind_init (behind_brackets m) ≡ false → before_body 0 m ≡ 0
body_here [] h off = refl
body_here (u ∷ m) h off = ap (λ (b : Bool). if b then 0 else suc (before_body (open_behind 0 (class_of u)) m))
    (both_true (starts class_of (these s.LeftBrace) (u ∷ m)) (starts class_of behind_init (behind_brackets (u ∷ m))) h off)

pub cut_ok : {A : Type 0} (k : ℕ) (ts : List Token) (o : Outcome Token A) (x : A) (rest : List Token) → ended_at k ts o ≡ Ok (x, rest) → (o ≡ Ok (x, [])) × (drop k ts ≡ rest)
cut_ok {A} k ts (Ok (a, [])) x rest e = (ap (λ (y : A). gave y []) (same_value a x (drop k ts) rest e), same_rest a x (drop k ts) rest e)
cut_ok {A} k ts (Ok (a, (u ∷ m))) x rest e = absurd cc
cut_ok {A} k ts (Err d) x rest e = absurd cc

-- the one of two tries that was taken
abbrev done : {A : Type 0} → A × List Token → Outcome Token A
done y = Ok y

by_test : {A : Type 0} (c : Bool) (d : List Token) (y z : A × List Token) → (if c then Err d else Ok y) ≡ done z → done y ≡ done z
by_test true d y z h = absurd cc
by_test false d y z h = h

no_test : {A : Type 0} (c : Bool) (d e : List Token) (z : A × List Token) → (if c then Err d else Err e) ≡ done z → ⊥
no_test true d e z h = absurd cc
no_test false d e z h = absurd cc

taken : {A : Type 0} (o u : Outcome Token A) (z : A × List Token) → deeper o u ≡ Ok z → (o ≡ Ok z) ⊎ (u ≡ Ok z)
taken (Ok y) u z h = inl h
taken (Err d) (Ok y) z h = inr (by_test (nat_lt (length d) (length y.1)) d y z h)
taken (Err d) (Err e) z h = absurd (no_test (nat_lt (length d) (length e)) d e z h)

module _ (n : ℕ) (D : MemberPartsReadAt n) (B : BlockReadAt n) (C : InitsCloseAt n) (class : List ℕ) where
  abbrev nodes : StmtNodes
  nodes = (within n).nodes

  abbrev here : ExprReaders
  here = (stage n).nodes.exprs

  abbrev A : StmtsAgree nodes
  A = (within_agrees n).nodes

  abbrev pub Inits : Phrase Initializers
  Inits = c.initializers_over nodes (c.init_within n) class

  abbrev pub read_inits : Reader Token Initializers
  read_inits = r.initializers (r.init n)

  abbrev pub after_inits : Initializers → List ℕ
  after_inits x = these s.Comma ++ D.inits.behind

  pub IL : Reads read_inits Inits (these s.Colon) after_inits false
  IL = initializers_laws n D class

  abbrev pub Ended : Phrase Body
  Ended = made body_tokens t.block_body nodes.expr_nodes.block <|> made body_tokens t.no_body (l.sign s.Semicolon)

  abbrev pub end_first : List ℕ
  end_first = sign_code s.LeftBrace ∷ these s.Semicolon

  pub said_block : (x : Block) → body_tokens (t.block_body x) ≡ nodes.expr_nodes.block.spelling x
  unfolding body_tokens
  said_block x = sym (A.expr_nodes.block.spells x)

  pub NL : Reads (r.block_or_none here.block) Ended end_first nowhere false
  unfolding r.block_or_none body_tokens
  NL = by_first_laws (made_laws B t.block_body body_tokens nowhere (λ x fits. said_block x) (λ x fits. within_none [])) (made_laws (sign_reads s.Semicolon) t.no_body body_tokens nowhere (λ x fits. refl) (λ x fits. within_none [])) (apart refl)

  abbrev pub Rest : Type 0
  Rest = Option Initializers × Body

  abbrev pub RestFits : Rest → Type 0
  RestFits = BothFit (OptionFit Inits.Fits) Ended.Fits

  abbrev pub rest_tokens : Rest → List Token
  rest_tokens = both_spelling (option_spelling Inits.spelling) Ended.spelling

  abbrev pub maybe_inits : Reader Token (Option Initializers)
  maybe_inits = option class_of (these s.Colon) read_inits

  OL : Laws class_of maybe_inits (option_spelling Inits.spelling) (OptionFit Inits.Fits) Inits.front (these s.Colon) (after_option (these s.Colon) after_inits) true
  OL = option_laws IL

  -- as far as the initialisers go, and up to the constructor's own block
  abbrev pub greedy : Reader Token Rest
  greedy = both maybe_inits (r.block_or_none here.block)

  abbrev pub owning : ℕ → Reader Token Rest
  owning k = both (mapped (λ x. Some x) (up_to k read_inits)) (mapped t.block_body here.block)

  abbrev own : Reader Token Rest
  own ts = owning (before_body 0 ts) ts

  -- ---- what is read is a tree

  pub greedy_sound : (ts : List Token) (a : Rest) (rest : List Token) → greedy ts ≡ Ok (a, rest) → RestFits a × (ts ≡ rest_tokens a ++ rest)
  greedy_sound ts a rest e =
      let w = both_ok maybe_inits (λ _. r.block_or_none here.block) ts a rest e in
      let x = OL.sound ts a.0 w.0 w.1 in
      let z = NL.sound w.0 a.1 rest w.2 in
      ((x.0, z.0), x.1 ∙ ap (λ (m : List Token). option_spelling Inits.spelling a.0 ++ m) z.1 ∙ sym (append_assoc (option_spelling Inits.spelling a.0) (Ended.spelling a.1) rest))

  abbrev pub owned : Initializers → Block → Rest
  owned x b = (Some x, t.block_body b)

  pub owned_tokens : (x : Initializers) (b : Block) (rest : List Token) → Inits.spelling x ++ (nodes.expr_nodes.block.spelling b ++ rest) ≡ rest_tokens (owned x b) ++ rest
  owned_tokens x b rest = ap (λ (m : List Token). Inits.spelling x ++ (m ++ rest)) (sym (said_block b)) ∙ sym (append_assoc (Inits.spelling x) (body_tokens (t.block_body b)) rest)

  pub own_sound : (k : ℕ) (ts : List Token) (a : Rest) (rest : List Token) → owning k ts ≡ Ok (a, rest) → RestFits a × (ts ≡ rest_tokens a ++ rest)
  own_sound k ts a rest e =
      let w = both_ok (mapped (λ x. Some x) (up_to k read_inits)) (λ _. mapped t.block_body here.block) ts a rest e in
      let u = then_ok (up_to k read_inits ts) (λ x m. Ok (Some x, m)) a.0 w.0 w.1 in
      let v = then_ok (here.block w.0) (λ x m. Ok (t.block_body x, m)) a.1 rest w.2 in
      let f = cut_ok k ts (read_inits (take k ts)) u.0 u.1 u.2 in
      let x = IL.sound (take k ts) u.0 [] f.0 in
      let z = B.sound w.0 v.0 v.1 v.2 in
      let is : owned u.0 v.0 ≡ a = ap₂ (λ (o : Option Initializers) (y : Body). (o, y)) (same_value (Some u.0) a.0 u.1 w.0 u.3) (same_value (t.block_body v.0) a.1 v.1 rest v.3) in
      let left : drop k ts ≡ nodes.expr_nodes.block.spelling v.0 ++ rest = f.1 ∙ same_rest (Some u.0) a.0 u.1 w.0 u.3 ∙ z.1 ∙ ap (λ (m : List Token). nodes.expr_nodes.block.spelling v.0 ++ m) (same_rest (t.block_body v.0) a.1 v.1 rest v.3) in
      let list : ts ≡ rest_tokens (owned u.0 v.0) ++ rest = sym (take-append-drop k ts) ∙ ap₂ (λ (a b : List Token). a ++ b) (x.1 ∙ append-nil (Inits.spelling u.0)) left ∙ owned_tokens u.0 v.0 rest in
      (subst RestFits is (x.0, inl (v.0, z.0, refl)), list ∙ ap (λ (y : Rest). rest_tokens y ++ rest) is)

  rest_sound : (ts : List Token) (a : Rest) (rest : List Token) → sought greedy own ts ≡ Ok (a, rest) → RestFits a × (ts ≡ rest_tokens a ++ rest)
  rest_sound ts a rest e = elim (taken (greedy ts) (own ts) (a, rest) e) [
    | inl h ↦ greedy_sound ts a rest h
    | inr h ↦ own_sound (before_body 0 ts) ts a rest h
  ]

  -- ---- each tree without initialisers, or with a semicolon, is read by the first try

  pub greedy_reads : (o : Option Initializers) (y : Body) (rest : List Token) → OptionFit Inits.Fits o → Ended.Fits y → starts class_of (after_option (these s.Colon) after_inits o) (Ended.spelling y ++ rest) ≡ false → greedy (rest_tokens (o, y) ++ rest) ≡ Ok ((o, y), rest)
  greedy_reads o y rest fo fy stop =
      ap greedy (append_assoc (option_spelling Inits.spelling o) (Ended.spelling y) rest)
      ∙ ap (λ (z : Outcome Token (Option Initializers)). and_then z (λ a m. and_then (r.block_or_none here.block m) (λ b m. Ok ((a, b), m)))) (OL.complete o (Ended.spelling y ++ rest) fo stop)
      ∙ ap (λ (z : Outcome Token Body). and_then z (λ b m. Ok ((o, b), m))) (NL.complete y rest fy (stops_nowhere class_of rest))

  by_greedy : (ts : List Token) (z : Rest × List Token) → greedy ts ≡ Ok z → sought greedy own ts ≡ Ok z
  by_greedy ts z e = ap (λ (o : Outcome Token Rest). deeper o (own ts)) e

  -- ---- a tree with a block of its own behind initialisers

  module _ (x : Initializers) (b : Block) (rest : List Token) (fx : Inits.Fits x) (fb : nodes.expr_nodes.block.Fits b) (stop : starts class_of behind_init rest ≡ false) where
    abbrev braced : List Token
    braced = nodes.expr_nodes.block.spelling b

    abbrev ts : List Token
    ts = Inits.spelling x ++ (braced ++ rest)

    brace : starts class_of (these s.LeftBrace) (braced ++ rest) ≡ true
    brace = begins B b rest fb

    pub behind_block : behind_brackets (braced ++ rest) ≡ rest
    behind_block = ap (λ (m : List Token). behind_brackets (m ++ rest)) (A.expr_nodes.block.spells b) ∙ C.block_ends b rest fb

    -- nothing goes on behind the block
    no_further : (u : Token) (z : List Token) → rest ≡ u ∷ z → has behind_init (class_of u) ≡ true → ⊥
    no_further u z is h = clash (starts class_of behind_init rest) (ap (starts class_of behind_init) is ∙ h) stop

    not_beyond : (m : List Token) (u : Token) (z : List Token) → Inits.front m → m ≡ (Inits.spelling x ++ braced) ++ u ∷ z → has behind_init (class_of u) ≡ true
    not_beyond m u z f is = C.goes_on x b u z fx fb (subst Inits.front (is ∙ append_assoc (Inits.spelling x) braced (u ∷ z) ∙ ap (λ (m : List Token). Inits.spelling x ++ (m ++ u ∷ z)) (A.expr_nodes.block.spells b)) f)

    -- initialisers that go on with the block end where it does
    ends_with : (y : Initializers) (mid w : List Token) (u : Token) (z : List Token) → Inits.Fits y → Inits.spelling y ≡ Inits.spelling x ++ u ∷ z → braced ++ rest ≡ u ∷ (z ++ mid) → behind_brackets (u ∷ z) ≡ w → mid ≡ rest
    ends_with y mid [] u z fy is at closed =
        ap (λ (m : List Token). m ++ mid) (sym closed) ∙ sym (C.closes x y (u ∷ z) mid fx fy is (ap (starts class_of (these s.LeftBrace)) (sym at) ∙ brace)) ∙ ap behind_brackets (sym at) ∙ behind_block
    ends_with y mid (v ∷ w) u z fy is at closed =
        let rest_is : rest ≡ v ∷ (w ++ mid) = sym behind_block ∙ ap behind_brackets at ∙ C.closes x y (u ∷ z) mid fx fy is (ap (starts class_of (these s.LeftBrace)) (sym at) ∙ brace) ∙ ap (λ (m : List Token). m ++ mid) closed in
        let parts : u ∷ z ≡ braced ++ v ∷ w = append_cancel_right (u ∷ z) (braced ++ v ∷ w) mid (sym at ∙ ap (λ (m : List Token). braced ++ m) rest_is ∙ sym (append_assoc braced (v ∷ w) mid)) in
        absurd (no_further v (w ++ mid) rest_is (not_beyond (Inits.spelling y) v w (IL.whole y fy) (is ∙ ap (λ (m : List Token). Inits.spelling x ++ m) parts ∙ sym (append_assoc (Inits.spelling x) braced (v ∷ w)))))

    -- where the first try's initialisers end: before the block, or behind it
    data Stands (y : Initializers) (mid : List Token) : Type 0 where
      at_block : x ≡ y → mid ≡ braced ++ rest → Stands y mid
      past_block : mid ≡ rest → Stands y mid

    stands : (y : Initializers) (mid : List Token) → read_inits ts ≡ Ok (y, mid) → Stands y mid
    stands y mid e =
        let k = IL.sound ts y mid e in
        elim (cut (Inits.spelling x) (braced ++ rest) (Inits.spelling y) mid k.1) [
          | same p q ↦ at_block (one_reading IL x y fx k.0 p) (sym q)
          | longer u z p q ↦ past_block (ends_with y mid (behind_brackets (u ∷ z)) u z k.0 p q refl)
          | shorter u z p q ↦ absurd (IL.longest ts y u (z ++ (braced ++ rest)) (e ∙ ap (gave y) q) (one_more IL (Inits.spelling y) u z (subst Inits.front p (IL.whole x fx))))
        ]

    colon : starts class_of (these s.Colon) ts ≡ true
    colon = begins IL x (braced ++ rest) fx

    -- `{` or `;` does not come behind the block
    no_end : (u : Token) (z : List Token) → rest ≡ u ∷ z → has end_first (class_of u) ≡ true → ⊥
    no_end u z is h = no_further u z is ((inside {xs = end_first} {ys = behind_init} refl).in_second (class_of u) h)

    no_end_at : (m : List Token) → m ≡ rest → starts class_of end_first m ≡ true → ⊥
    no_end_at [] is h = absurd cc
    no_end_at (u ∷ m) is h = no_end u m (sym is) h

    block_read : r.block_or_none here.block (braced ++ rest) ≡ Ok (t.block_body b, rest)
    block_read = ap (λ (m : List Token). r.block_or_none here.block (m ++ rest)) (sym (said_block b)) ∙ NL.complete (t.block_body b) rest (inl (b, fb, refl)) (stops_nowhere class_of rest)

    -- ---- where the first try finds a tree, that is this one

    abbrev placed : Rest → List Token → Outcome Token Rest
    placed a m = Ok (a, m)

    found_here : (a : Rest) (m mid : List Token) (y : Initializers) → a.0 ≡ Some y → r.block_or_none here.block mid ≡ Ok (a.1, m) → Stands y mid → placed a m ≡ Ok (owned x b, rest)
    found_here a m mid y some e (at_block is at) =
        let read : gave (t.block_body b) rest ≡ gave a.1 m = sym block_read ∙ ap (r.block_or_none here.block) (sym at) ∙ e in
        let tree : owned x b ≡ a = ap₂ (λ (o : Option Initializers) (z : Body). (o, z)) (ap (λ (z : Initializers). Some z) is ∙ sym some) (same_value (t.block_body b) a.1 rest m read) in
        sym (ap₂ placed tree (same_rest (t.block_body b) a.1 rest m read))
    found_here a m mid y some e (past_block at) = let k = NL.sound mid a.1 m e in absurd (no_end_at mid at (ap (starts class_of end_first) k.1 ∙ begins NL a.1 m k.0))

    -- ---- and where it finds none, it goes as far as the tree

    far_by : (bm d mid : List Token) → mid ≡ bm ++ d → Ended.front bm → mid ≡ rest → length rest ≤ length d
    far_by [] d mid is f at = omega (arith, ap length is, ap length at)
    far_by (u ∷ m) d mid is f at = absurd (no_end u (m ++ d) (sym at ∙ is) (NL.firsts u m f))

    far_in : (d mid : List Token) (y : Initializers) → r.block_or_none here.block mid ≡ Err d → Stands y mid → length rest ≤ length d
    far_in d mid y e (at_block is at) = let bad : gave (t.block_body b) rest ≡ Err d = sym block_read ∙ ap (r.block_or_none here.block) (sym at) ∙ e in absurd cc
    far_in d mid y e (past_block at) = let k = NL.fault mid d e in far_by k.0 d mid k.1 k.2 at

    far_before : (d : List Token) → read_inits ts ≡ Err d → length rest ≤ length d
    far_before d e =
        let k = IL.fault ts d e in
        elim (cut (Inits.spelling x ++ braced) rest k.0 d (append_assoc (Inits.spelling x) braced rest ∙ k.1)) as (λ _. length rest ≤ length d) [
          | same p q ↦ omega (arith, ap length q)
          | longer u z p q ↦ absurd (no_further u (z ++ d) q (not_beyond k.0 u z k.2 p))
          | shorter u z p q ↦ omega (arith, ap length q, length-append z rest)
        ]

    pub far_enough : (d : List Token) → greedy ts ≡ Err d → length rest ≤ length d
    far_enough d e = elim (both_err maybe_inits (λ _. r.block_or_none here.block) ts d e) as (λ _. length rest ≤ length d) [
      | inl h ↦ far_before d (when_err (starts class_of (these s.Colon) ts) read_inits ts d h).1
      | inr v ↦ elim (when_ok (starts class_of (these s.Colon) ts) read_inits ts v.0 v.1 v.2) as (λ _. length rest ≤ length d) [
        | absent none is off ↦ clash (starts class_of (these s.Colon) ts) colon off
        | present y some on h ↦ far_in d v.1 y v.3 (stands y v.1 h)
      ]
    ]

    pub greedy_finds : (a : Rest × List Token) → greedy ts ≡ Ok a → placed a.0 a.1 ≡ Ok (owned x b, rest)
    greedy_finds a e =
        let v = both_ok maybe_inits (λ _. r.block_or_none here.block) ts a.0 a.1 e in
        elim (when_ok (starts class_of (these s.Colon) ts) read_inits ts a.0.0 v.0 v.1) [
          | absent none is off ↦ clash (starts class_of (these s.Colon) ts) colon off
          | present y some on h ↦ found_here a.0 a.1 v.0 y some v.2 (stands y v.0 h)
        ]

    -- ---- where the scan finds the block

    module _ (scanned : ScannedAt n) where
      stands_at : length (Inits.spelling x) ≡ before_body 0 ts
      stands_at =
          let all : length (Inits.spelling x) + 0 ≡ length (Inits.spelling x) = omega arith in
          sym (scanned x (braced ++ rest) fx brace ∙ ap (λ (k : ℕ). length (Inits.spelling x) + k) (body_here (braced ++ rest) brace (ap (starts class_of behind_init) behind_block ∙ stop)) ∙ all)

      inits_read : up_to (before_body 0 ts) read_inits ts ≡ Ok (x, braced ++ rest)
      inits_read =
          ap (λ (m : List Token). ended_at (before_body 0 ts) ts (read_inits m)) (take_at (Inits.spelling x) (braced ++ rest) (before_body 0 ts) stands_at ∙ sym (append-nil (Inits.spelling x)))
          ∙ ap (ended_at (before_body 0 ts) ts) (IL.complete x [] fx refl)
          ∙ ap (gave x) (drop_at (Inits.spelling x) (braced ++ rest) (before_body 0 ts) stands_at)

      own_reads : own ts ≡ Ok (owned x b, rest)
      own_reads =
          ap (λ (z : Outcome Token Initializers). and_then (and_then z (λ x m. Ok (Some x, m))) (λ a m. and_then (and_then (here.block m) (λ b m. Ok (t.block_body b, m))) (λ b m. Ok ((a, b), m)))) inits_read
          ∙ ap (λ (z : Outcome Token Block). and_then (and_then z (λ b m. Ok (t.block_body b, m))) (λ y m. Ok ((Some x, y), m))) (B.complete b rest fb (stops_nowhere class_of rest))

      first_try : (o : Outcome Token Rest) → greedy ts ≡ o → deeper o (own ts) ≡ Ok (owned x b, rest)
      first_try (Ok a) e = greedy_finds a e
      first_try (Err d) e = ap (λ (o : Outcome Token Rest). deeper (Err d) o) own_reads
          ∙ ap (λ (c : Bool). if c then Err d else Ok (owned x b, rest)) (le-ltb (length d) (length rest) (far_enough d e))

      own_complete : sought greedy own ts ≡ Ok (owned x b, rest)
      own_complete = first_try (greedy ts) refl

  -- ---- each tree

  pub ended_by_sign : Reads (mapped t.no_body (sign s.Semicolon)) (made body_tokens t.no_body (l.sign s.Semicolon)) (these s.Semicolon) nowhere false
  unfolding body_tokens
  ended_by_sign = made_laws (sign_reads s.Semicolon) t.no_body body_tokens nowhere (λ x fits. refl) (λ x fits. within_none [])

  pub off_semicolon : Apart (these s.Comma ++ D.inits.behind) (these s.Semicolon)
  off_semicolon = apart_union {xs = these s.Comma} {ys = D.inits.behind} (apart refl) D.inits.off_semicolon

  module _ (scanned : ScannedAt n) where
    complete_by : (o : Option Initializers) (y : Body) (rest : List Token) → OptionFit Inits.Fits o → Ended.Fits y → starts class_of behind_init rest ≡ false → sought greedy own (rest_tokens (o, y) ++ rest) ≡ Ok ((o, y), rest)
    complete_by None y rest fo fy stop = by_greedy (rest_tokens (None, y) ++ rest) ((None, y), rest)
        (greedy_reads None y rest tt fy (off_by (these s.Colon) end_first (apart {xs = these s.Colon} {ys = end_first} refl).never_both (Ended.spelling y ++ rest) (begins NL y rest fy)))
    complete_by (Some x) y rest fo (inl (b, fb, is)) stop = subst (λ (z : Body). sought greedy own (rest_tokens (Some x, z) ++ rest) ≡ Ok ((Some x, z), rest)) is (ap (sought greedy own) (sym (owned_tokens x b rest)) ∙ own_complete x b rest fo fb stop scanned)
    complete_by (Some x) y rest fo (inr fy) stop = by_greedy (rest_tokens (Some x, y) ++ rest) ((Some x, y), rest)
        (greedy_reads (Some x) y rest fo (inr fy) (off_by (these s.Comma ++ D.inits.behind) (these s.Semicolon) off_semicolon.never_both (Ended.spelling y ++ rest) (begins ended_by_sign y rest fy)))

    rest_complete : (a : Rest) (rest : List Token) → RestFits a → starts class_of behind_init rest ≡ false → sought greedy own (rest_tokens a ++ rest) ≡ Ok (a, rest)
    rest_complete a rest fits stop = complete_by a.0 a.1 rest fits.0 fits.1 stop

  -- as the readers are named
  abbrev pub rest_reader : Reader Token Rest
  rest_reader = sought (r.with_initializers (r.init n) here.block) (r.with_own_body (r.init n) here.block)

  reads_rest : (all : List Token) → rest_reader all ≡ sought greedy own all
  unfolding r.with_initializers r.with_own_body
  reads_rest all = refl

  pub found_sound : (all : List Token) (a : Rest) (rest : List Token) → rest_reader all ≡ Ok (a, rest) → RestFits a × (all ≡ rest_tokens a ++ rest)
  found_sound all a rest e = rest_sound all a rest (sym (reads_rest all) ∙ e)

  pub found_complete : ScannedAt n → (a : Rest) (rest : List Token) → RestFits a → starts class_of behind_init rest ≡ false → rest_reader (rest_tokens a ++ rest) ≡ Ok (a, rest)
  found_complete scanned a rest fits stop = reads_rest (rest_tokens a ++ rest) ∙ rest_complete scanned a rest fits stop
