-- Where the first try of a generative constructor stops, and what may go on past that place (ECMA-408, 10.6.1 Generative Constructors).
use Rattle.std.proofs.Common.{◌≡◌, ℕ, ◌≤◌, arith, true, false, List, [], ◌∷◌, ◌++◌, length, Option, None, Some, Ok, Err, inl, inr, refl, sym, ap, ◌∙◌, subst, append_assoc}
use Rattle.std.proofs.lemmas.List.{length-append}
use Rattle.dart_base.specs.declared.place.Place.{Place}
use Rattle.dart_token.specs.declared.token.Token.{Token}
use Rattle.dart_token.specs.declared.sign.Sign.TheVariants as s
use Rattle.dart_tree.specs.Tree as t
use Rattle.dart_tree.specs.Tree.{Block, Body}
use Rattle.dart_tree.specs.Tokens.{body_tokens}
use Rattle.dart_tree.specs.Unit.{Initializers}
use Rattle.grammar_laws.specs.Codes.{nowhere}
use Rattle.grammar_laws.specs.Readers.{Outcome, Reader, both, starts, always}
use Rattle.grammar_laws.specs.Fronts.{Front, Joint, option_spelling, OptionFit}
use Rattle.grammar_laws.proofs.Codes.{apart, clash}
use Rattle.grammar_laws.proofs.Cuts.{cut, same, longer, shorter, gave, both_err}
use Rattle.grammar_laws.proofs.Joints.{begins, beyond, ends, one_more}
use Rattle.grammar_laws.proofs.Continued.{absent, present, when_ok, when_err}
use Rattle.dart_syntax.specs.Phrases.{Phrase}
use Rattle.dart_syntax.specs.Agreement.{StmtsAgree}
use Rattle.dart_syntax.specs.Leaves as l
use Rattle.dart_syntax.specs.Statements.{StmtNodes, within}
use Rattle.dart_syntax.proofs.AgreeingStages.{within_agrees}
use Rattle.token_codes.specs.Codes.{class_of, sign_code, these}
use Rattle.token_codes.specs.Reads.{Reads}
use Rattle.syntax_readers.specs.Primaries.{ExprReaders}
use Rattle.syntax_readers.specs.Statements.{stage}
use Rattle.syntax_readers.specs.Declarations as r
use Rattle.syntax_readers.specs.Declarations.{behind_init}
use Rattle.laws_unit.specs.Statements.{MemberPartsReadAt}
use Rattle.laws_unit.specs.Members.{BlockReadAt, InitsCloseAt}
use Rattle.laws_unit.specs.Mending.{Rest}
use Rattle.laws_unit.proofs.Ends.{off_by}
use Rattle.laws_unit.proofs.Generative as gen

module _ (n : ℕ) (D : MemberPartsReadAt n) (B : BlockReadAt n) (C : InitsCloseAt n) (class : List ℕ) where
  abbrev nodes : StmtNodes
  nodes = (within n).nodes

  abbrev here : ExprReaders
  here = (stage n).nodes.exprs

  abbrev A : StmtsAgree nodes
  A = (within_agrees n).nodes

  abbrev Inits : Phrase Initializers
  Inits = gen.Inits n D B C class

  abbrev Ended : Phrase Body
  Ended = gen.Ended n D B C class

  abbrev end_first : List ℕ
  end_first = sign_code s.LeftBrace ∷ these s.Semicolon

  abbrev read_inits : Reader Token Initializers
  read_inits = r.initializers (r.init n)

  abbrev end_reader : Reader Token Body
  end_reader = r.block_or_none here.block

  abbrev maybe_inits : Reader Token (Option Initializers)
  maybe_inits = gen.maybe_inits n D B C class

  abbrev greedy : Reader Token Rest
  greedy = both maybe_inits end_reader

  IL : Reads read_inits Inits (these s.Colon) (gen.after_inits n D B C class) false
  IL = gen.IL n D B C class

  NL : Reads end_reader Ended end_first nowhere false
  NL = gen.NL n D B C class

  abbrev rest_tokens : Rest → List Token
  rest_tokens = gen.rest_tokens n D B C class

  abbrev RestFits : Rest → Type 0
  RestFits = gen.RestFits n D B C class

  abbrev whole_front : Front Token
  whole_front = Joint (option_spelling Inits.spelling) (OptionFit Inits.Fits) always Inits.front Ended.front

  -- ---- initialisers begin with a colon, and what ends a constructor does not

  pub mixed : (ts : List Token) → starts class_of (these s.Colon) ts ≡ true → starts class_of end_first ts ≡ true → ⊥
  mixed [] h k = absurd cc
  mixed (u ∷ ts) h k = (apart {xs = these s.Colon} {ys = end_first} refl).never_both (class_of u) h k

  inits_begin : (ts y more : List Token) (u : Token) → ts ≡ y ++ u ∷ more → Inits.front (y ++ u ∷ []) → starts class_of (these s.Colon) ts ≡ true
  inits_begin ts [] more u is f = ap (starts class_of (these s.Colon)) is ∙ IL.firsts u [] f
  inits_begin ts (v ∷ y) more u is f = ap (starts class_of (these s.Colon)) is ∙ IL.firsts v (y ++ u ∷ []) f

  end_begins : (ts y more : List Token) (u : Token) → ts ≡ y ++ u ∷ more → Ended.front (y ++ u ∷ []) → starts class_of end_first ts ≡ true
  end_begins ts [] more u is f = ap (starts class_of end_first) is ∙ NL.firsts u [] f
  end_begins ts (v ∷ y) more u is f = ap (starts class_of end_first) is ∙ NL.firsts v (y ++ u ∷ []) f

  pub begins_end : (m : List Token) → starts class_of (these s.Colon) m ≡ true → Ended.front m → ⊥
  begins_end [] h f = absurd cc
  begins_end (u ∷ m) h f = mixed (u ∷ m) h (NL.firsts u m f)

  pub begins_inits : (m : List Token) → starts class_of end_first m ≡ true → Inits.front m → ⊥
  begins_inits [] h f = absurd cc
  begins_inits (u ∷ m) h f = mixed (u ∷ m) (IL.firsts u m f) h

  -- ---- where the first try stops

  data Halts (ts stopped : List Token) : Type 0 where
    in_inits : starts class_of (these s.Colon) ts ≡ true → read_inits ts ≡ Err stopped → Halts ts stopped
    bare : starts class_of (these s.Colon) ts ≡ false → end_reader ts ≡ Err stopped → Halts ts stopped
    behind : (x : Initializers) (mid : List Token) → read_inits ts ≡ Ok (x, mid) → end_reader mid ≡ Err stopped → Halts ts stopped

  halts : (ts stopped : List Token) → greedy ts ≡ Err stopped → Halts ts stopped
  halts ts stopped e = elim (both_err maybe_inits (λ _. end_reader) ts stopped e) [
    | inl h ↦ let v = when_err (starts class_of (these s.Colon) ts) read_inits ts stopped h in in_inits v.0 v.1
    | inr v ↦ elim (when_ok (starts class_of (these s.Colon) ts) read_inits ts v.0 v.1 v.2) [
      | absent none is off ↦ bare off (ap end_reader is ∙ v.3)
      | present x some on h ↦ behind x v.1 h v.3
    ]
  ]

  pub not_inits : (ts stopped y more : List Token) (u : Token) → greedy ts ≡ Err stopped → ts ≡ y ++ u ∷ more → length (u ∷ more) ≤ length stopped → Inits.front (y ++ u ∷ []) → ⊥
  not_inits ts stopped y more u e is few f = elim (halts ts stopped e) as (λ _. ⊥) [
    | in_inits on h ↦ let k = IL.fault ts stopped h in beyond IL k.0 stopped y more u (sym k.1 ∙ is) few f k.3
    | bare off h ↦ clash (starts class_of (these s.Colon) ts) (inits_begin ts y more u is f) off
    | behind x mid h v ↦
        let k = IL.sound ts x mid h in
        let q = NL.fault mid stopped v in
        let far : length stopped ≤ length mid = omega (arith, ap length q.1, length-append q.0 stopped) in
        beyond IL (Inits.spelling x) mid y more u (sym k.1 ∙ is) (omega (arith, few, far)) f (ends IL ts x mid h)
  ]

  pub not_bare : (ts stopped y more : List Token) (u : Token) → greedy ts ≡ Err stopped → ts ≡ y ++ u ∷ more → length (u ∷ more) ≤ length stopped → Ended.front (y ++ u ∷ []) → ⊥
  not_bare ts stopped y more u e is few f = elim (halts ts stopped e) as (λ _. ⊥) [
    | in_inits on h ↦ mixed ts on (end_begins ts y more u is f)
    | bare off h ↦ let k = NL.fault ts stopped h in beyond NL k.0 stopped y more u (sym k.1 ∙ is) few f k.3
    | behind x mid h v ↦ let k = IL.sound ts x mid h in mixed ts (ap (starts class_of (these s.Colon)) k.1 ∙ begins IL x mid k.0) (end_begins ts y more u is f)
  ]

  -- no sooner than whole initialisers end
  pub reaches : (ts stopped w : List Token) (x : Initializers) → greedy ts ≡ Err stopped → Inits.Fits x → ts ≡ Inits.spelling x ++ w → length stopped ≤ length w
  reaches ts stopped w x e fx is = elim (halts ts stopped e) as (λ _. length stopped ≤ length w) [
    | in_inits on h ↦
        let k = IL.fault ts stopped h in
        elim (cut (Inits.spelling x) w k.0 stopped (sym is ∙ k.1)) as (λ _. length stopped ≤ length w) [
          | same p q ↦ omega (arith, ap length q)
          | longer u z p q ↦ omega (arith, ap length q, length-append z stopped)
          | shorter u z p q ↦ absurd (k.3 u (z ++ w) q (one_more IL k.0 u z (subst Inits.front p (IL.whole x fx))))
        ]
    | bare off h ↦ clash (starts class_of (these s.Colon) ts) (ap (starts class_of (these s.Colon)) is ∙ begins IL x w fx) off
    | behind y mid h v ↦
        let k = IL.sound ts y mid h in
        let j = NL.fault mid stopped v in
        let less : length stopped ≤ length mid = omega (arith, ap length j.1, length-append j.0 stopped) in
        elim (cut (Inits.spelling x) w (Inits.spelling y) mid (sym is ∙ k.1)) as (λ _. length stopped ≤ length w) [
          | same p q ↦ omega (arith, less, ap length q)
          | longer u z p q ↦ omega (arith, less, ap length q, length-append z mid)
          | shorter u z p q ↦ absurd (IL.longest ts y u (z ++ w) (h ∙ ap (gave y) q) (one_more IL (Inits.spelling y) u z (subst Inits.front p (IL.whole x fx))))
        ]
  ]

  pub before_stop : (ts stopped : List Token) → greedy ts ≡ Err stopped → (before : List Token) × (ts ≡ before ++ stopped) × whole_front before
  before_stop ts stopped e = elim (halts ts stopped e) [
    | in_inits on h ↦ let k = IL.fault ts stopped h in (k.0, k.1, inl k.2)
    | bare off h ↦ let k = NL.fault ts stopped h in (k.0, k.1, inr (None, k.0, tt, refl, refl, k.2))
    | behind x mid h v ↦
        let k = IL.sound ts x mid h in
        let j = NL.fault mid stopped v in
        (Inits.spelling x ++ j.0, k.1 ∙ ap (λ (m : List Token). Inits.spelling x ++ m) j.1 ∙ sym (append_assoc (Inits.spelling x) j.0 stopped), inr (Some x, j.0, k.0, refl, refl, j.2))
  ]

  -- ---- initialisers with a semicolon behind them are read by the first try

  said_sign : (place : Place) → body_tokens (t.no_body place) ≡ (l.sign s.Semicolon).spelling place
  unfolding body_tokens
  said_sign place = refl

  pub reads_sign : (x : Initializers) (place : Place) (more : List Token) → Inits.Fits x → greedy (Inits.spelling x ++ ((l.sign s.Semicolon).spelling place ++ more)) ≡ Ok ((Some x, t.no_body place), more)
  reads_sign x place more fx =
      ap greedy (ap (λ (m : List Token). Inits.spelling x ++ (m ++ more)) (sym (said_sign place)) ∙ sym (append_assoc (Inits.spelling x) (body_tokens (t.no_body place)) more))
      ∙ gen.greedy_reads n D B C class (Some x) (t.no_body place) more fx (inr (place, tt, refl))
      (off_by (gen.after_inits n D B C class x) (these s.Semicolon) (gen.off_semicolon n D B C class).never_both (Ended.spelling (t.no_body place) ++ more) (begins (gen.ended_by_sign n D B C class) (t.no_body place) more (place, tt, refl)))

  pub ok_or_err : (z : Rest × List Token) (o : Outcome Token Rest) (stopped : List Token) → o ≡ Ok z → o ≡ Err stopped → ⊥
  ok_or_err z (Ok v) stopped e f = absurd cc
  ok_or_err z (Err v) stopped e f = absurd cc
