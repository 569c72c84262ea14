-- The laws of generative constructors whose second try takes the last brace before the place where the first stops (ECMA-408, 10.6.1 Generative
-- Constructors).
use Rattle.std.proofs.Common.{◌≡◌, ℕ, suc, ◌+◌, ◌-◌, ◌≤◌, ◌<◌, arith, Bool, true, false, if◌then◌else◌, List, [], ◌∷◌, ◌++◌, length, take, drop, Option, None, Some, Ok, Err, inl, inr, refl, sym, ap, ap₂, ◌∙◌, subst, append_assoc, ltb}
use Rattle.std.proofs.lemmas.Bool.{le-ltb, ltb-true, ltb-false}
use Rattle.std.proofs.lemmas.List.{append-nil, append_cancel_right, length-append, take-append-drop, take_at, drop_at}
use Rattle.dart_token.specs.declared.token.Token.{Token}
use Rattle.dart_token.specs.declared.sign.Sign.TheVariants as s
use Rattle.dart_tree.specs.Tree as t
use Rattle.dart_tree.specs.Tree.{Block, Body}
use Rattle.dart_tree.specs.Tokens.{block_tokens, body_tokens}
use Rattle.dart_tree.specs.Unit.{Initializers}
use Rattle.dart_tree.specs.UnitTokens.{constructor_tokens}
use Rattle.grammar_laws.specs.Codes.{has, Within, nowhere}
use Rattle.grammar_laws.specs.Readers.{Outcome, Reader, and_then, mapped, both, starts, deeper, always}
use Rattle.grammar_laws.specs.Fronts.{Front, Joint, option_spelling, OptionFit}
use Rattle.grammar_laws.specs.Laws.{Stuck, Laws}
use Rattle.grammar_laws.proofs.Codes.{apart, apart_none, clash, inside, within_none, within_self}
use Rattle.grammar_laws.proofs.Cuts.{cut, same, longer, shorter, gave, failed, same_value, same_rest, same_fault, then_ok, then_err, both_ok, both_err, both_empty}
use Rattle.grammar_laws.proofs.Joints.{begins, one_more, one_on, stops_within}
use Rattle.grammar_laws.proofs.Restated.{made_laws}
use Rattle.grammar_laws.proofs.Combined.{both_laws}
use Rattle.grammar_laws.proofs.Continued.{absent, present, when_ok}
use Rattle.grammar_laws.proofs.Tried.{stops_nowhere}
use Rattle.dart_syntax.specs.Phrases.{Phrase, ◌~◌, opt, made}
use Rattle.dart_syntax.specs.Agreement.{Agrees, StmtsAgree}
use Rattle.dart_syntax.specs.Leaves as l
use Rattle.dart_syntax.specs.Statements.{StmtNodes, within}
use Rattle.dart_syntax.specs.Declarations as c
use Rattle.dart_syntax.proofs.Agreeing.{seq_agrees, opt_agrees}
use Rattle.dart_syntax.proofs.AgreeingStages.{within_agrees}
use Rattle.token_codes.specs.Codes.{class_of, plain_names, sign_code, these}
use Rattle.token_codes.specs.Reads.{Reads}
use Rattle.syntax_readers.specs.Combinators.{behind_brackets, ended_at, up_to}
use Rattle.syntax_readers.specs.Primaries.{ExprReaders}
use Rattle.syntax_readers.specs.Statements.{stage}
use Rattle.syntax_readers.specs.Declarations as r
use Rattle.syntax_readers.specs.Declarations.{behind_init}
use Rattle.laws_unit.specs.Statements.{MemberPartsReadAt}
use Rattle.laws_unit.specs.Members.{after_constructor, BlockReadAt, InitsCloseAt}
use Rattle.laws_unit.specs.Mending.{Rest, last_brace, owning, with_brace, or_owning, mended, LastBraceAt, MendedRead}
use Rattle.laws_unit.proofs.Braces.{some_is, none_some, last_within, cut_place}
use Rattle.laws_unit.proofs.Ends.{off_by}
use Rattle.laws_unit.proofs.Generative as gen
use Rattle.laws_unit.proofs.Stopping as halt
use Rattle.laws_unit.proofs.Members.{constructor_name_laws}
use Rattle.laws_unit.proofs.Generatives.{Parts, to_generative, said, inits_agree, ended_agrees}

module _ (n : ℕ) (D : MemberPartsReadAt n) (B : BlockReadAt n) (C : InitsCloseAt n) (L : LastBraceAt n) (class : List ℕ) where
  abbrev nodes : StmtNodes
  nodes = (within n).nodes

  abbrev here : ExprReaders
  here = (stage n).nodes.exprs

  abbrev A : StmtsAgree nodes
  A = (within_agrees n).nodes

  abbrev Inits : Phrase Initializers
  Inits = gen.Inits n D B C class

  abbrev Ended : Phrase Body
  Ended = gen.Ended n D B C class

  abbrev end_first : List ℕ
  end_first = sign_code s.LeftBrace ∷ these s.Semicolon

  abbrev read_inits : Reader Token Initializers
  read_inits = r.initializers (r.init n)

  abbrev end_reader : Reader Token Body
  end_reader = r.block_or_none here.block

  abbrev maybe_inits : Reader Token (Option Initializers)
  maybe_inits = gen.maybe_inits n D B C class

  abbrev greedy : Reader Token Rest
  greedy = both maybe_inits end_reader

  IL : Reads read_inits Inits (these s.Colon) (gen.after_inits n D B C class) false
  IL = gen.IL n D B C class

  NL : Reads end_reader Ended end_first nowhere false
  NL = gen.NL n D B C class

  abbrev rest_tokens : Rest → List Token
  rest_tokens = gen.rest_tokens n D B C class

  abbrev RestFits : Rest → Type 0
  RestFits = gen.RestFits n D B C class

  abbrev whole_front : Front Token
  whole_front = Joint (option_spelling Inits.spelling) (OptionFit Inits.Fits) always Inits.front Ended.front

  abbrev braces : Block → List Token
  braces b = nodes.expr_nodes.block.spelling b

  abbrev owned : Initializers → Block → Rest
  owned x b = (Some x, t.block_body b)

  behind_block : (b : Block) (rest : List Token) → nodes.expr_nodes.block.Fits b → behind_brackets (braces b ++ rest) ≡ rest
  behind_block b rest fb = ap (λ (m : List Token). behind_brackets (m ++ rest)) (A.expr_nodes.block.spells b) ∙ C.block_ends b rest fb

  -- ---- what goes on past that place has a block of its own, which the last brace begins

  abbrev last : List Token → List Token → Option ℕ
  last ts stopped = last_brace 0 (suc (length ts - length stopped)) ts

  module _ (ts stopped y more : List Token) (u : Token) (x : Initializers) (m : List Token) (e : greedy ts ≡ Err stopped) (is : ts ≡ y ++ u ∷ more) (few : length (u ∷ more) ≤ length stopped) (fx : Inits.Fits x) (parts : y ++ u ∷ [] ≡ Inits.spelling x ++ m) where
    list : ts ≡ Inits.spelling x ++ (m ++ more)
    list = is ∙ one_on y u more ∙ ap (λ (z : List Token). z ++ more) parts ∙ append_assoc (Inits.spelling x) m more

    blocked : Ended.front m → nodes.expr_nodes.block.front m
    blocked (inl f) = f
    blocked (inr (inl none)) = absurd (halt.not_inits n D B C class ts stopped y more u e is few (subst Inits.front (sym (parts ∙ ap (λ (z : List Token). Inits.spelling x ++ z) none ∙ append-nil (Inits.spelling x))) (IL.whole x fx)))
    blocked (inr (inr (place, so))) = absurd (halt.ok_or_err n D B C class ((Some x, t.no_body place), more) (greedy ts) stopped (ap greedy (list ∙ ap (λ (z : List Token). Inits.spelling x ++ (z ++ more)) so) ∙ halt.reads_sign n D B C class x place more fx) e)

    found : nodes.expr_nodes.block.front m → last ts stopped ≡ Some (length (Inits.spelling x))
    found f =
        let reach : length stopped ≤ length (m ++ more) = halt.reaches n D B C class ts stopped (m ++ more) x e fx list in
        let less : length (m ++ more) - length stopped < length m = omega (arith, few, reach, length-append m more) in
        let count : suc (length (Inits.spelling x ++ (m ++ more)) - length stopped) ≡ length (Inits.spelling x) + suc (length (m ++ more) - length stopped) = omega (arith, reach, length-append (Inits.spelling x) (m ++ more)) in
        ap (λ (z : List Token). last_brace 0 (suc (length z - length stopped)) z) list ∙ ap (λ (k : ℕ). last_brace 0 k (Inits.spelling x ++ (m ++ more))) count ∙ L.inside x m more (length (m ++ more) - length stopped) fx f less

  -- ---- what is read up to there

  abbrev behind_own : Initializers → Outcome Token Block → Outcome Token Rest
  behind_own x o = and_then {B = Rest} (and_then {B = Body} o (λ b m. Ok (t.block_body b, m))) (λ z m. Ok ((Some x, z), m))

  inits_read : (x : Initializers) (w : List Token) → Inits.Fits x → up_to (length (Inits.spelling x)) read_inits (Inits.spelling x ++ w) ≡ Ok (x, w)
  inits_read x w fx =
      ap (λ (m : List Token). ended_at (length (Inits.spelling x)) (Inits.spelling x ++ w) (read_inits m)) (take_at (Inits.spelling x) w (length (Inits.spelling x)) refl ∙ sym (append-nil (Inits.spelling x)))
      ∙ ap (ended_at (length (Inits.spelling x)) (Inits.spelling x ++ w)) (IL.complete x [] fx refl)
      ∙ ap (gave x) (drop_at (Inits.spelling x) w (length (Inits.spelling x)) refl)

  owning_is : (x : Initializers) (w : List Token) → Inits.Fits x → owning (r.init n) here.block (length (Inits.spelling x)) (Inits.spelling x ++ w) ≡ behind_own x (here.block w)
  owning_is x w fx = ap (λ (z : Outcome Token Initializers). and_then (and_then z (λ x m. Ok (Some x, m))) (λ a m. and_then (mapped t.block_body here.block m) (λ z m. Ok ((a, z), m)))) (inits_read x w fx)

  owning_at : (ts w : List Token) (k : ℕ) (x : Initializers) → Inits.Fits x → ts ≡ Inits.spelling x ++ w → k ≡ length (Inits.spelling x) → owning (r.init n) here.block k ts ≡ behind_own x (here.block w)
  owning_at ts w k x fx list at = ap₂ (λ (j : ℕ) (z : List Token). owning (r.init n) here.block j z) at list ∙ owning_is x w fx

  block_ok : (x : Initializers) (w : List Token) (a : Rest) (rest : List Token) → behind_own x (here.block w) ≡ Ok (a, rest) → (b : Block) × (here.block w ≡ Ok (b, rest)) × (owned x b ≡ a)
  block_ok x w a rest e =
      let v = then_ok (mapped t.block_body here.block w) (λ z m. Ok ((Some x, z), m)) a rest e in
      let k = then_ok (here.block w) (λ b m. Ok (t.block_body b, m)) v.0 v.1 v.2 in (
        k.0,
        k.2 ∙ ap (gave k.0) (same_rest (t.block_body k.0) v.0 k.1 v.1 k.3 ∙ same_rest (Some x, v.0) a v.1 rest v.3),
        ap (λ (z : Body). (Some x, z)) (same_value (t.block_body k.0) v.0 k.1 v.1 k.3) ∙ same_value (Some x, v.0) a v.1 rest v.3,
      )

  block_err : (x : Initializers) (o : Outcome Token Block) (g : List Token) → behind_own x o ≡ Err g → o ≡ Err g
  block_err x (Ok b) g e = absurd cc
  block_err x (Err v) g e = ap (failed {A = Block}) (same_fault {A = Rest} v g e)

  -- ---- which try was taken

  data Taken (ts : List Token) (o : Outcome Token Rest) : Type 0 where
    first : (z : Rest × List Token) → greedy ts ≡ Ok z → o ≡ Ok z → Taken ts o
    stays : (stopped : List Token) → greedy ts ≡ Err stopped → last ts stopped ≡ None → o ≡ Err stopped → Taken ts o
    second : (stopped : List Token) (k : ℕ) (z : Rest × List Token) → greedy ts ≡ Err stopped → last ts stopped ≡ Some k → owning (r.init n) here.block k ts ≡ Ok z → length z.1 ≤ length stopped → o ≡ Ok z → Taken ts o
    short_of : (stopped : List Token) (k : ℕ) (z : Rest × List Token) → greedy ts ≡ Err stopped → last ts stopped ≡ Some k → owning (r.init n) here.block k ts ≡ Ok z → length stopped < length z.1 → o ≡ Err stopped → Taken ts o
    sooner : (stopped : List Token) (k : ℕ) (g : List Token) → greedy ts ≡ Err stopped → last ts stopped ≡ Some k → owning (r.init n) here.block k ts ≡ Err g → length stopped < length g → o ≡ Err stopped → Taken ts o
    later : (stopped : List Token) (k : ℕ) (g : List Token) → greedy ts ≡ Err stopped → last ts stopped ≡ Some k → owning (r.init n) here.block k ts ≡ Err g → length g ≤ length stopped → o ≡ Err g → Taken ts o

  taken_two : (ts stopped : List Token) (k : ℕ) (z : Rest × List Token) (b : Bool) → greedy ts ≡ Err stopped → last ts stopped ≡ Some k → owning (r.init n) here.block k ts ≡ Ok z → ltb (length stopped) (length z.1) ≡ b → Taken ts (if b then Err stopped else Ok z)
  taken_two ts stopped k z true e h v less = short_of stopped k z e h v (ltb-true (length stopped) (length z.1) less) refl
  taken_two ts stopped k z false e h v less = second stopped k z e h v (ltb-false (length stopped) (length z.1) less) refl

  taken_none : (ts stopped : List Token) (k : ℕ) (g : List Token) (b : Bool) → greedy ts ≡ Err stopped → last ts stopped ≡ Some k → owning (r.init n) here.block k ts ≡ Err g → ltb (length stopped) (length g) ≡ b → Taken ts (if b then Err stopped else Err g)
  taken_none ts stopped k g true e h v less = sooner stopped k g e h v (ltb-true (length stopped) (length g) less) refl
  taken_none ts stopped k g false e h v less = later stopped k g e h v (ltb-false (length stopped) (length g) less) refl

  taken_on : (ts stopped : List Token) (k : ℕ) (o : Outcome Token Rest) → greedy ts ≡ Err stopped → last ts stopped ≡ Some k → owning (r.init n) here.block k ts ≡ o → Taken ts (deeper (Err stopped) o)
  taken_on ts stopped k (Ok z) e h v = taken_two ts stopped k z (ltb (length stopped) (length z.1)) e h v refl
  taken_on ts stopped k (Err g) e h v = taken_none ts stopped k g (ltb (length stopped) (length g)) e h v refl

  taken_at : (ts stopped : List Token) (o : Option ℕ) → greedy ts ≡ Err stopped → last ts stopped ≡ o → Taken ts (with_brace (r.init n) here.block o stopped ts)
  taken_at ts stopped None e h = stays stopped e h refl
  taken_at ts stopped (Some k) e h = taken_on ts stopped k (owning (r.init n) here.block k ts) e h refl

  taken_by : (ts : List Token) (o : Outcome Token Rest) → greedy ts ≡ o → Taken ts (or_owning (r.init n) here.block o ts)
  taken_by ts (Ok z) e = first z e refl
  taken_by ts (Err stopped) e = taken_at ts stopped (last ts stopped) e refl

  abbrev both_tries : Reader Token Rest
  both_tries ts = or_owning (r.init n) here.block (greedy ts) ts

  taken : (ts : List Token) → Taken ts (both_tries ts)
  taken ts = taken_by ts (greedy ts) refl

  abbrev after_rest : Rest → List ℕ
  after_rest (Some x, t.block_body b) = behind_init
  after_rest z = []

  abbrev first_codes : List ℕ
  first_codes = these s.Colon ++ end_first

  sound : (ts : List Token) (a : Rest) (rest : List Token) → both_tries ts ≡ Ok (a, rest) → RestFits a × (ts ≡ rest_tokens a ++ rest)
  sound ts a rest h = elim (taken ts) as (λ _. RestFits a × (ts ≡ rest_tokens a ++ rest)) [
    | first z e o ↦ gen.greedy_sound n D B C class ts a rest (e ∙ sym o ∙ h)
    | stays stopped e at o ↦ let no = sym o ∙ h in absurd cc
    | second stopped k z e at v less o ↦ gen.own_sound n D B C class k ts a rest (v ∙ sym o ∙ h)
    | short_of stopped k z e at v less o ↦ let no = sym o ∙ h in absurd cc
    | sooner stopped k f e at v less o ↦ let no = sym o ∙ h in absurd cc
    | later stopped k f e at v less o ↦ let no = sym o ∙ h in absurd cc
  ]

  -- ---- what was read is as long as it can be

  -- a whole that goes on with a brace is not cut short by another
  no_inner : (x y : Initializers) (u : Token) (z w : List Token) → Inits.Fits x → Inits.Fits y → Inits.spelling x ≡ Inits.spelling y ++ u ∷ z → (w ≡ [] → ⊥) → Ended.front (u ∷ (z ++ w)) → ⊥
  no_inner x y u z w fx fy is some (inl f) =
      let closed : behind_brackets (u ∷ z) ++ w ≡ [] = sym (C.closes y x (u ∷ z) w fy fx is (B.firsts u (z ++ w) f)) ∙ L.begins (u ∷ (z ++ w)) f in
      some (both_empty (behind_brackets (u ∷ z)) w closed).1
  no_inner x y u z w fx fy is some (inr (inl none)) = absurd cc
  no_inner x y u z w fx fy is some (inr (inr (place, so))) = let none : z ++ w ≡ [] = cc in some (both_empty z w none).1

  no_more_end : (y : Body) (u : Token) (w : List Token) → Ended.Fits y → Ended.front (Ended.spelling y ++ u ∷ w) → ⊥
  no_more_end y u w fy f = let bad : has [] (class_of u) ≡ true = NL.nexts y u w fy f in absurd cc

  not_empty : (m : List Token) (u : Token) (w : List Token) → m ++ u ∷ w ≡ [] → ⊥
  not_empty m u w e = let none : u ∷ w ≡ [] = (both_empty m (u ∷ w) e).1 in absurd cc

  end_colon : (y : Body) (w : List Token) → Ended.Fits y → Inits.front (Ended.spelling y ++ w) → ⊥
  end_colon y w fy f = halt.begins_inits n D B C class (Ended.spelling y ++ w) (begins NL y w fy) f

  end_inits : (y : Body) (w v : List Token) (x : Initializers) → Ended.Fits y → Inits.Fits x → Ended.spelling y ++ w ≡ Inits.spelling x ++ v → ⊥
  end_inits y w v x fy fx e = halt.mixed n D B C class (Ended.spelling y ++ w) (ap (starts class_of (these s.Colon)) e ∙ begins IL x v fx) (begins NL y w fy)

  longest_behind : (x : Initializers) (y : Body) (u : Token) (rest mid : List Token) (ts : List Token) → read_inits ts ≡ Ok (x, mid) → mid ≡ Ended.spelling y ++ u ∷ rest → Ended.Fits y → Inits.Fits x → (m : List Token) → Ended.spelling y ≡ m → whole_front (Inits.spelling x ++ (m ++ u ∷ [])) → ⊥
  longest_behind x y u rest mid ts h is fy fx [] so f = clash false (NL.empties y fy so) refl
  longest_behind x y u rest mid ts h is fy fx (v ∷ m) so (inl f) = IL.longest ts x v (m ++ u ∷ rest) (h ∙ ap (gave x) (is ∙ ap (λ (z : List Token). z ++ u ∷ rest) so)) (one_more IL (Inits.spelling x) v (m ++ u ∷ []) f)
  longest_behind x y u rest mid ts h is fy fx (v ∷ m) so (inr (None, w, tt', on, e, f)) = halt.begins_end n D B C class w (ap (starts class_of (these s.Colon)) (sym e) ∙ begins IL x (v ∷ (m ++ u ∷ [])) fx) f
  longest_behind x y u rest mid ts h is fy fx (v ∷ m) so (inr (Some x', w, fits, on, e, f)) =
      elim (cut (Inits.spelling x) (v ∷ (m ++ u ∷ [])) (Inits.spelling x') w e) as (λ _. ⊥) [
        | same p q ↦ no_more_end y u [] fy (subst Ended.front (sym q ∙ ap (λ (z : List Token). z ++ u ∷ []) (sym so)) f)
        | longer j z p q ↦
            let head : v ≡ j = cc in
            IL.longest ts x v (m ++ u ∷ rest) (h ∙ ap (gave x) (is ∙ ap (λ (z : List Token). z ++ u ∷ rest) so))
            (subst (λ (i : Token). Inits.front (Inits.spelling x ++ i ∷ [])) (sym head) (one_more IL (Inits.spelling x) j z (subst Inits.front p (IL.whole x' fits))))
        | shorter j z p q ↦ no_inner x x' j z (v ∷ (m ++ u ∷ [])) fx fits p (λ none. absurd cc) (subst Ended.front q f)
      ]

  no_bare_more : (y : Body) (u : Token) (v : List Token) → Ended.Fits y → whole_front (Ended.spelling y ++ u ∷ v) → ⊥
  no_bare_more y u v fy (inl f) = end_colon y (u ∷ v) fy f
  no_bare_more y u v fy (inr (None, w, fits, on, e, f)) = no_more_end y u v fy (subst Ended.front (sym e) f)
  no_bare_more y u v fy (inr (Some x, w, fits, on, e, f)) = end_inits y (u ∷ v) w x fy fits e

  longest_first : (ts : List Token) (a : Rest) (u : Token) (rest : List Token) → greedy ts ≡ Ok (a, u ∷ rest) → whole_front (rest_tokens a ++ u ∷ []) → ⊥
  longest_first ts a u rest e f =
      let v = both_ok maybe_inits (λ _. end_reader) ts a (u ∷ rest) e in
      let k = NL.sound v.0 a.1 (u ∷ rest) v.2 in
      elim (when_ok (starts class_of (these s.Colon) ts) read_inits ts a.0 v.0 v.1) as (λ _. ⊥) [
        | absent none is off ↦ no_bare_more a.1 u [] k.0 (subst whole_front (ap (λ (o : Option Initializers). (option_spelling Inits.spelling o ++ Ended.spelling a.1) ++ u ∷ []) none) f)
        | present x some on h ↦ longest_behind x a.1 u rest v.0 ts h k.1 k.0 (IL.sound ts x v.0 h).0 (Ended.spelling a.1) refl
            (subst whole_front (ap (λ (o : Option Initializers). (option_spelling Inits.spelling o ++ Ended.spelling a.1) ++ u ∷ []) some ∙ append_assoc (Inits.spelling x) (Ended.spelling a.1) (u ∷ [])) f)
      ]

  -- past the place where the first try stopped, a front has initialisers, and the last brace begins the block behind them
  past : (ts stopped y more : List Token) (u : Token) → greedy ts ≡ Err stopped → ts ≡ y ++ u ∷ more → length (u ∷ more) ≤ length stopped → whole_front (y ++ u ∷ []) →
      (x : Initializers) × (m : List Token) × Inits.Fits x × (y ++ u ∷ [] ≡ Inits.spelling x ++ m) × nodes.expr_nodes.block.front m × (last ts stopped ≡ Some (length (Inits.spelling x)))
  past ts stopped y more u e is few (inl f) = absurd (halt.not_inits n D B C class ts stopped y more u e is few f)
  past ts stopped y more u e is few (inr (None, w, fits, on, so, f)) = absurd (halt.not_bare n D B C class ts stopped y more u e is few (subst Ended.front (sym so) f))
  past ts stopped y more u e is few (inr (Some x, w, fits, on, so, f)) =
      let b = blocked ts stopped y more u x w e is few fits so f in
      (x, w, fits, so, b, found ts stopped y more u x w e is few fits so b)

  left_over : (ts y more : List Token) (u : Token) (x : Initializers) (m : List Token) → ts ≡ y ++ u ∷ more → y ++ u ∷ [] ≡ Inits.spelling x ++ m → ts ≡ Inits.spelling x ++ (m ++ more)
  left_over ts y more u x m is so = is ∙ one_on y u more ∙ ap (λ (z : List Token). z ++ more) so ∙ append_assoc (Inits.spelling x) m more

  -- a block read there is no shorter than the front
  no_shorter : (b : Block) (m more rest : List Token) → nodes.expr_nodes.block.Fits b → nodes.expr_nodes.block.front m → m ++ more ≡ braces b ++ rest → length more < length rest → ⊥
  no_shorter b m more rest fb f is less = elim (cut m more (braces b) rest is) as (λ _. ⊥) [
    | same p q ↦ omega (arith, less, ap length q)
    | longer j z p q ↦ omega (arith, less, ap length q, length-append z rest)
    | shorter j z p q ↦ let bad : has [] (class_of j) ≡ true = B.nexts b j z fb (subst nodes.expr_nodes.block.front p f) in absurd cc
  ]

  longest_second : (ts stopped : List Token) (k : ℕ) (a : Rest) (u : Token) (rest : List Token) → greedy ts ≡ Err stopped → last ts stopped ≡ Some k → owning (r.init n) here.block k ts ≡ Ok (a, u ∷ rest) → length (u ∷ rest) ≤ length stopped → whole_front (rest_tokens a ++ u ∷ []) → ⊥
  longest_second ts stopped k a u rest e at v few f =
      let own = gen.own_sound n D B C class k ts a (u ∷ rest) v in
      let p = past ts stopped (rest_tokens a) rest u e own.1 few f in
      let list = left_over ts (rest_tokens a) rest u p.0 p.1 own.1 p.3 in
      let b = block_ok p.0 (p.1 ++ rest) a (u ∷ rest) (sym (owning_at ts (p.1 ++ rest) k p.0 p.2 list (some_is k (length (Inits.spelling p.0)) (last ts stopped) at p.5)) ∙ v) in
      let z = B.sound (p.1 ++ rest) b.0 (u ∷ rest) b.1 in
      let less : length rest < length (u ∷ rest) = omega arith in
      no_shorter b.0 p.1 rest (u ∷ rest) z.0 p.4 z.1 less

  longest : (ts : List Token) (a : Rest) (u : Token) (rest : List Token) → both_tries ts ≡ Ok (a, u ∷ rest) → whole_front (rest_tokens a ++ u ∷ []) → ⊥
  longest ts a u rest h f = elim (taken ts) as (λ _. ⊥) [
    | first z e o ↦ longest_first ts a u rest (e ∙ sym o ∙ h) f
    | stays stopped e at o ↦ let no = sym o ∙ h in absurd cc
    | second stopped k z e at v less o ↦
        let got : gave z.0 z.1 ≡ gave a (u ∷ rest) = sym o ∙ h in
        longest_second ts stopped k a u rest e at (v ∙ sym o ∙ h) (subst (λ (m : List Token). length m ≤ length stopped) (same_rest z.0 a z.1 (u ∷ rest) got) less) f
    | short_of stopped k z e at v less o ↦ let no = sym o ∙ h in absurd cc
    | sooner stopped k j e at v less o ↦ let no = sym o ∙ h in absurd cc
    | later stopped k j e at v less o ↦ let no = sym o ∙ h in absurd cc
  ]

  -- ---- a fault stands at the first token with which the list begins none

  stuck_first : (ts stopped : List Token) → greedy ts ≡ Err stopped → ((y more : List Token) (u : Token) → ts ≡ y ++ u ∷ more → stopped ≡ u ∷ more → whole_front (y ++ u ∷ []) → ⊥) → Stuck whole_front ts stopped
  stuck_first ts stopped e none = let b = halt.before_stop n D B C class ts stopped e in (b.0, b.1, b.2, λ u more at f. none b.0 more u (b.1 ∙ ap (λ (m : List Token). b.0 ++ m) at) at f)

  no_past : (m more bb g : List Token) → nodes.expr_nodes.block.front m → m ++ more ≡ bb ++ g → length more < length g → ((u : Token) (w : List Token) → g ≡ u ∷ w → nodes.expr_nodes.block.front (bb ++ u ∷ []) → ⊥) → ⊥
  no_past m more bb g f is less none = elim (cut m more bb g is) as (λ _. ⊥) [
    | same p q ↦ omega (arith, less, ap length q)
    | longer j z p q ↦ omega (arith, less, ap length q, length-append z g)
    | shorter j z p q ↦ none j (z ++ more) q (one_more B bb j z (subst nodes.expr_nodes.block.front p f))
  ]

  -- where a block was read at the last brace, or left, a front ends no sooner
  ends_owned : (ts stopped : List Token) (k : ℕ) (a : Rest) (rest y more : List Token) (u : Token) → greedy ts ≡ Err stopped → last ts stopped ≡ Some k → owning (r.init n) here.block k ts ≡ Ok (a, rest) → length more < length rest → ts ≡ y ++ u ∷ more → length (u ∷ more) ≤ length stopped → whole_front (y ++ u ∷ []) → ⊥
  ends_owned ts stopped k a rest y more u e at v less is few f =
      let p = past ts stopped y more u e is few f in
      let list = left_over ts y more u p.0 p.1 is p.3 in
      let b = block_ok p.0 (p.1 ++ more) a rest (sym (owning_at ts (p.1 ++ more) k p.0 p.2 list (some_is k (length (Inits.spelling p.0)) (last ts stopped) at p.5)) ∙ v) in
      let z = B.sound (p.1 ++ more) b.0 rest b.1 in
      no_shorter b.0 p.1 more rest z.0 p.4 z.1 less

  ends_left : (ts stopped : List Token) (k : ℕ) (g y more : List Token) (u : Token) → greedy ts ≡ Err stopped → last ts stopped ≡ Some k → owning (r.init n) here.block k ts ≡ Err g → length more < length g → ts ≡ y ++ u ∷ more → length (u ∷ more) ≤ length stopped → whole_front (y ++ u ∷ []) → ⊥
  ends_left ts stopped k g y more u e at v less is few f =
      let p = past ts stopped y more u e is few f in
      let list = left_over ts y more u p.0 p.1 is p.3 in
      let b = block_err p.0 (here.block (p.1 ++ more)) g (sym (owning_at ts (p.1 ++ more) k p.0 p.2 list (some_is k (length (Inits.spelling p.0)) (last ts stopped) at p.5)) ∙ v) in
      let z = B.fault (p.1 ++ more) g b in
      no_past p.1 more z.0 g p.4 z.1 less z.3

  cut_stuck : (ts g : List Token) (k : ℕ) (o : Outcome Token Initializers) → k ≤ length ts → read_inits (take k ts) ≡ o → ended_at k ts o ≡ Err g → (before : List Token) × (ts ≡ before ++ g) × whole_front before
  cut_stuck ts g k (Ok (x, [])) le e h = absurd cc
  cut_stuck ts g k (Ok (x, (u ∷ w))) le e h = let f = IL.sound (take k ts) x (u ∷ w) e in (Inits.spelling x, cut_place (Inits.spelling x) (u ∷ w) ts g k le f.1 (same_fault {A = Initializers} (drop (k - length (u ∷ w)) ts) g h), inl (IL.whole x f.0))
  cut_stuck ts g k (Err w) le e h = let f = IL.fault (take k ts) w e in (f.0, cut_place f.0 w ts g k le f.1 (same_fault {A = Initializers} (drop (k - length w) ts) g h), inl f.2)

  first_stuck : (ts g : List Token) (k : ℕ) → k ≤ length ts → mapped {B = Option Initializers} (λ x. Some x) (up_to k read_inits) ts ≡ Err g → (before : List Token) × (ts ≡ before ++ g) × whole_front before
  first_stuck ts g k le h = elim (then_err (up_to k read_inits ts) (λ x m. Ok (Some x, m)) g h) [
    | inl v ↦ cut_stuck ts g k (read_inits (take k ts)) le refl v
    | inr v ↦ absurd cc
  ]

  owning_stuck : (ts g : List Token) (k : ℕ) → k ≤ length ts → owning (r.init n) here.block k ts ≡ Err g → (before : List Token) × (ts ≡ before ++ g) × whole_front before
  owning_stuck ts g k le e = elim (both_err (mapped (λ x. Some x) (up_to k read_inits)) (λ _. mapped t.block_body here.block) ts g e) [
    | inl h ↦ first_stuck ts g k le h
    | inr v ↦
        let w = then_ok (up_to k read_inits ts) (λ x m. Ok (Some x, m)) v.0 v.1 v.2 in
        let f = gen.cut_ok k ts (read_inits (take k ts)) w.0 w.1 w.2 in
        let x = IL.sound (take k ts) w.0 [] f.0 in
        elim (then_err (here.block v.1) (λ b m. Ok (t.block_body b, m)) g v.3) [
          | inl q ↦
              let z = B.fault v.1 g q in
              let list : ts ≡ Inits.spelling w.0 ++ (z.0 ++ g) = sym (take-append-drop k ts) ∙ ap₂ (λ (a b : List Token). a ++ b) (x.1 ∙ append-nil (Inits.spelling w.0)) (f.1 ∙ same_rest (Some w.0) v.0 w.1 v.1 w.3 ∙ z.1) in
              (Inits.spelling w.0 ++ z.0, list ∙ sym (append_assoc (Inits.spelling w.0) z.0 g), inr (Some w.0, z.0, x.0, refl, refl, inl z.2))
          | inr q ↦ absurd cc
        ]
  ]

  fault_later : (ts stopped : List Token) (k : ℕ) (g : List Token) → greedy ts ≡ Err stopped → last ts stopped ≡ Some k → owning (r.init n) here.block k ts ≡ Err g → length g ≤ length stopped → Stuck whole_front ts g
  fault_later ts stopped k g e at v less =
      let below : k < length ts = last_within 0 (suc (length ts - length stopped)) ts k at in
      let b = owning_stuck ts g k (omega (arith, below)) v in
      (b.0, b.1, b.2, λ u more so f. ends_left ts stopped k g b.0 more u e at v (omega (arith, ap length so)) (b.1 ∙ ap (λ (m : List Token). b.0 ++ m) so) (omega (arith, less, ap length so)) f)

  fault : (ts rest : List Token) → both_tries ts ≡ Err rest → Stuck whole_front ts rest
  fault ts rest h = elim (taken ts) as (λ _. Stuck whole_front ts rest) [
    | first z e o ↦ let no = sym o ∙ h in absurd cc
    | stays stopped e at o ↦ subst (Stuck whole_front ts) (same_fault {A = Rest} stopped rest (sym o ∙ h))
        (stuck_first ts stopped e (λ y more u is so f. let p = past ts stopped y more u e is (omega (arith, ap length so)) f in none_some (length (Inits.spelling p.0)) (last ts stopped) at p.5))
    | second stopped k z e at v less o ↦ let no = sym o ∙ h in absurd cc
    | short_of stopped k z e at v less o ↦ subst (Stuck whole_front ts) (same_fault {A = Rest} stopped rest (sym o ∙ h))
        (stuck_first ts stopped e (λ y more u is so f. ends_owned ts stopped k z.0 z.1 y more u e at v (omega (arith, less, ap length so)) is (omega (arith, ap length so)) f))
    | sooner stopped k j e at v less o ↦ subst (Stuck whole_front ts) (same_fault {A = Rest} stopped rest (sym o ∙ h))
        (stuck_first ts stopped e (λ y more u is so f. ends_left ts stopped k j y more u e at v (omega (arith, less, ap length so)) is (omega (arith, ap length so)) f))
    | later stopped k j e at v less o ↦ subst (Stuck whole_front ts) (same_fault {A = Rest} j rest (sym o ∙ h)) (fault_later ts stopped k j e at v less)
  ]

  -- ---- each tree is read as itself

  by_first_try : (ts : List Token) (z : Rest × List Token) → greedy ts ≡ Ok z → both_tries ts ≡ Ok z
  by_first_try ts z e = ap (λ (o : Outcome Token Rest). or_owning (r.init n) here.block o ts) e

  module _ (x : Initializers) (b : Block) (rest : List Token) (fx : Inits.Fits x) (fb : nodes.expr_nodes.block.Fits b) (stop : starts class_of behind_init rest ≡ false) where
    abbrev own_list : List Token
    own_list = Inits.spelling x ++ (braces b ++ rest)

    no_brace : starts class_of (these s.LeftBrace) rest ≡ false
    no_brace = stops_within class_of (these s.LeftBrace) behind_init (inside {xs = these s.LeftBrace} {ys = behind_init} refl).in_second rest stop

    last_is : (stopped : List Token) (c : Bool) → greedy own_list ≡ Err stopped → ltb (length (braces b ++ rest) - length stopped) (length (braces b)) ≡ c → last own_list stopped ≡ Some (length (Inits.spelling x))
    last_is stopped true e less =
        let reach : length stopped ≤ length (braces b ++ rest) = halt.reaches n D B C class own_list stopped (braces b ++ rest) x e fx refl in
        let count : suc (length own_list - length stopped) ≡ length (Inits.spelling x) + suc (length (braces b ++ rest) - length stopped) = omega (arith, reach, length-append (Inits.spelling x) (braces b ++ rest)) in
        ap (λ (k : ℕ). last_brace 0 k own_list) count ∙ L.inside x (braces b) rest (length (braces b ++ rest) - length stopped) fx (B.whole b fb) (ltb-true (length (braces b ++ rest) - length stopped) (length (braces b)) less)
    last_is stopped false e less =
        let reach : length stopped ≤ length (braces b ++ rest) = halt.reaches n D B C class own_list stopped (braces b ++ rest) x e fx refl in
        let far : length rest ≤ length stopped = gen.far_enough n D B C class x b rest fx fb stop stopped e in
        let more : length (braces b) ≤ length (braces b ++ rest) - length stopped = ltb-false (length (braces b ++ rest) - length stopped) (length (braces b)) less in
        let count : suc (length own_list - length stopped) ≡ length (Inits.spelling x) + suc (length (block_tokens b)) = omega (arith, reach, far, more, length-append (Inits.spelling x) (braces b ++ rest), length-append (braces b) rest, ap length (A.expr_nodes.block.spells b)) in
        ap₂ (λ (k : ℕ) (m : List Token). last_brace 0 k (Inits.spelling x ++ (m ++ rest))) count (A.expr_nodes.block.spells b) ∙ L.behind x b rest fx fb no_brace

    own_read : owning (r.init n) here.block (length (Inits.spelling x)) own_list ≡ Ok (owned x b, rest)
    own_read = owning_is x (braces b ++ rest) fx ∙ ap (behind_own x) (B.complete b rest fb (stops_nowhere class_of rest))

    own_by : (o : Outcome Token Rest) → greedy own_list ≡ o → or_owning (r.init n) here.block o own_list ≡ Ok (owned x b, rest)
    own_by (Ok a) e = gen.greedy_finds n D B C class x b rest fx fb stop a e
    own_by (Err stopped) e =
        ap (λ (o : Option ℕ). with_brace (r.init n) here.block o stopped own_list) (last_is stopped (ltb (length (braces b ++ rest) - length stopped) (length (braces b))) e refl)
        ∙ ap (λ (o : Outcome Token Rest). deeper (Err stopped) o) own_read
        ∙ ap (λ (c : Bool). if c then Err stopped else Ok (owned x b, rest)) (le-ltb (length stopped) (length rest) (gen.far_enough n D B C class x b rest fx fb stop stopped e))

  complete_by : (o : Option Initializers) (y : Body) (rest : List Token) → OptionFit Inits.Fits o → Ended.Fits y → starts class_of (after_rest (o, y)) rest ≡ false → both_tries (rest_tokens (o, y) ++ rest) ≡ Ok ((o, y), rest)
  complete_by None y rest fo fy stop = by_first_try (rest_tokens (None, y) ++ rest) ((None, y), rest)
      (gen.greedy_reads n D B C class None y rest tt fy (off_by (these s.Colon) end_first (apart {xs = these s.Colon} {ys = end_first} refl).never_both (Ended.spelling y ++ rest) (begins NL y rest fy)))
  complete_by (Some x) y rest fo (inl (b, fb, is)) stop = subst (λ (z : Body). both_tries (rest_tokens (Some x, z) ++ rest) ≡ Ok ((Some x, z), rest)) is
      (ap both_tries (sym (gen.owned_tokens n D B C class x b rest)) ∙ own_by x b rest fo fb (subst (λ (z : Body). starts class_of (after_rest (Some x, z)) rest ≡ false) (sym is) stop) (greedy (own_list x b rest fo fb (subst (λ (z : Body). starts class_of (after_rest (Some x, z)) rest ≡ false) (sym is) stop))) refl)
  complete_by (Some x) y rest fo (inr fy) stop = by_first_try (rest_tokens (Some x, y) ++ rest) ((Some x, y), rest)
      (gen.greedy_reads n D B C class (Some x) y rest fo (inr fy) (off_by (gen.after_inits n D B C class x) (these s.Semicolon) (gen.off_semicolon n D B C class).never_both (Ended.spelling y ++ rest) (begins (gen.ended_by_sign n D B C class) y rest fy)))

  -- ---- what goes on behind a tree

  own_longer : (x y : Initializers) (b : Block) (u : Token) (z m v w : List Token) → Inits.Fits x → Inits.Fits y → nodes.expr_nodes.block.Fits b → Inits.spelling y ≡ Inits.spelling x ++ u ∷ z → braces b ++ v ≡ u ∷ (z ++ m) → behind_brackets (u ∷ z) ≡ w → v ≡ w ++ m
  own_longer x y b u z m v w fx fy fb is at closed = sym (behind_block b v fb) ∙ ap behind_brackets at ∙ C.closes x y (u ∷ z) m fx fy is (ap (starts class_of (these s.LeftBrace)) (sym at) ∙ begins B b v fb) ∙ ap (λ (k : List Token). k ++ m) closed

  goes_on : (x : Initializers) (b : Block) (u : Token) (w m : List Token) → Inits.Fits x → nodes.expr_nodes.block.Fits b → Inits.front m → m ≡ Inits.spelling x ++ (braces b ++ u ∷ w) → has behind_init (class_of u) ≡ true
  goes_on x b u w m fx fb f is = C.goes_on x b u w fx fb (subst Inits.front (is ∙ ap (λ (k : List Token). Inits.spelling x ++ (k ++ u ∷ w)) (A.expr_nodes.block.spells b)) f)

  own_by_longer : (x y : Initializers) (b : Block) (u i : Token) (w z m r : List Token) → Inits.Fits x → Inits.Fits y → nodes.expr_nodes.block.Fits b → Inits.spelling y ≡ Inits.spelling x ++ i ∷ z → braces b ++ u ∷ w ≡ i ∷ (z ++ m) → behind_brackets (i ∷ z) ≡ r → Ended.front m → has behind_init (class_of u) ≡ true
  own_by_longer x y b u i w z m [] fx fy fb is at closed f = (inside {xs = end_first} {ys = behind_init} refl).in_second (class_of u) (NL.firsts u w (subst Ended.front (sym (own_longer x y b i z m (u ∷ w) [] fx fy fb is at closed)) f))
  own_by_longer x y b u i w z m (v ∷ r) fx fy fb is at closed f =
      let list : u ∷ w ≡ v ∷ (r ++ m) = own_longer x y b i z m (u ∷ w) (v ∷ r) fx fy fb is at closed in
      let head : v ≡ u = cc in
      let parts : i ∷ z ≡ braces b ++ v ∷ r = append_cancel_right (i ∷ z) (braces b ++ v ∷ r) m (sym at ∙ ap (λ (k : List Token). braces b ++ k) list ∙ sym (append_assoc (braces b) (v ∷ r) m)) in
      subst (λ (k : Token). has behind_init (class_of k) ≡ true) head (goes_on x b v r (Inits.spelling y) fx fb (IL.whole y fy) (is ∙ ap (λ (k : List Token). Inits.spelling x ++ k) parts))

  own_next : (x : Initializers) (b : Block) (u : Token) (w : List Token) → Inits.Fits x → nodes.expr_nodes.block.Fits b → whole_front (Inits.spelling x ++ (braces b ++ u ∷ w)) → has behind_init (class_of u) ≡ true
  own_next x b u w fx fb (inl f) = goes_on x b u w (Inits.spelling x ++ (braces b ++ u ∷ w)) fx fb f refl
  own_next x b u w fx fb (inr (None, m, fits, on, e, f)) = absurd (halt.begins_end n D B C class m (ap (starts class_of (these s.Colon)) (sym e) ∙ begins IL x (braces b ++ u ∷ w) fx) f)
  own_next x b u w fx fb (inr (Some y, m, fits, on, e, f)) = elim (cut (Inits.spelling x) (braces b ++ u ∷ w) (Inits.spelling y) m e) [
    | same p q ↦ absurd (no_more_end (t.block_body b) u w (inl (b, fb, refl)) (subst Ended.front (sym q ∙ ap (λ (k : List Token). k ++ u ∷ w) (sym (gen.said_block n D B C class b))) f))
    | longer i z p q ↦ own_by_longer x y b u i w z m (behind_brackets (i ∷ z)) fx fits fb p q refl f
    | shorter i z p q ↦ absurd (no_inner x y i z (braces b ++ u ∷ w) fx fits p (not_empty (braces b) u w) (subst Ended.front q f))
  ]

  -- a semicolon behind initialisers is none of theirs
  off_sign : (x : Initializers) (y : Body) (w m : List Token) → Inits.Fits x → (made body_tokens t.no_body (l.sign s.Semicolon)).Fits y → Inits.front (Inits.spelling x ++ m) → m ≡ Ended.spelling y ++ w → ⊥
  off_sign x y w [] fx fy f is = clash (starts class_of (these s.Semicolon) (Ended.spelling y ++ w)) (begins (gen.ended_by_sign n D B C class) y w fy) (ap (starts class_of (these s.Semicolon)) (sym is))
  off_sign x y w (u ∷ m) fx fy f is = (gen.off_semicolon n D B C class).never_both (class_of u) (IL.nexts x u m fx f) (ap (starts class_of (these s.Semicolon)) is ∙ begins (gen.ended_by_sign n D B C class) y w fy)

  sign_next : (x : Initializers) (y : Body) (u : Token) (w : List Token) → Inits.Fits x → (made body_tokens t.no_body (l.sign s.Semicolon)).Fits y → whole_front (Inits.spelling x ++ (Ended.spelling y ++ u ∷ w)) → ⊥
  sign_next x y u w fx fy (inl f) = off_sign x y (u ∷ w) (Ended.spelling y ++ u ∷ w) fx fy f refl
  sign_next x y u w fx fy (inr (None, m, fits, on, e, f)) = halt.begins_end n D B C class m (ap (starts class_of (these s.Colon)) (sym e) ∙ begins IL x (Ended.spelling y ++ u ∷ w) fx) f
  sign_next x y u w fx fy (inr (Some v, m, fits, on, e, f)) = elim (cut (Inits.spelling x) (Ended.spelling y ++ u ∷ w) (Inits.spelling v) m e) as (λ _. ⊥) [
    | same p q ↦ no_more_end y u w (inr fy) (subst Ended.front (sym q) f)
    | longer i z p q ↦ sign_longer i z m (subst Inits.front p (IL.whole v fits)) q
    | shorter i z p q ↦ no_inner x v i z (Ended.spelling y ++ u ∷ w) fx fits p (not_empty (Ended.spelling y) u w) (subst Ended.front q f)
  ] where
    sign_longer : (i : Token) (z m : List Token) → Inits.front (Inits.spelling x ++ i ∷ z) → Ended.spelling y ++ u ∷ w ≡ i ∷ (z ++ m) → ⊥
    sign_longer i z m f q = (gen.off_semicolon n D B C class).never_both (class_of i) (IL.nexts x i z fx f) (ap (starts class_of (these s.Semicolon)) (sym q) ∙ begins (gen.ended_by_sign n D B C class) y (u ∷ w) fy)

  nexts_by : (o : Option Initializers) (y : Body) (u : Token) (w : List Token) → OptionFit Inits.Fits o → Ended.Fits y → whole_front (rest_tokens (o, y) ++ u ∷ w) → has (after_rest (o, y)) (class_of u) ≡ true
  nexts_by None y u w fo fy f = absurd (no_bare_more y u w fy f)
  nexts_by (Some x) y u w fo (inl (b, fb, is)) f = subst (λ (z : Body). has (after_rest (Some x, z)) (class_of u) ≡ true) is
      (own_next x b u w fo fb (subst whole_front (ap (λ (z : Body). (Inits.spelling x ++ Ended.spelling z) ++ u ∷ w) (sym is) ∙ sym (gen.owned_tokens n D B C class x b (u ∷ w))) f))
  nexts_by (Some x) y u w fo (inr fy) f = absurd (sign_next x y u w fo fy (subst whole_front (append_assoc (Inits.spelling x) (Ended.spelling y) (u ∷ w)) f))

  -- ---- all of it

  rest_agrees : Agrees rest_tokens (opt Inits ~ Ended)
  rest_agrees = seq_agrees (opt_agrees (inits_agree n D B C class)) (ended_agrees n D B C class)

  firsts : (u : Token) (ts : List Token) → whole_front (u ∷ ts) → has first_codes (class_of u) ≡ true
  firsts u ts (inl f) = (inside {xs = these s.Colon} {ys = first_codes} refl).in_second (class_of u) (IL.firsts u ts f)
  firsts u ts (inr (None, m, fits, on, e, f)) = (inside {xs = end_first} {ys = first_codes} refl).in_second (class_of u) (NL.firsts u ts (subst Ended.front (sym e) f))
  firsts u ts (inr (Some x, m, fits, on, e, f)) = (inside {xs = these s.Colon} {ys = first_codes} refl).in_second (class_of u) (ap (starts class_of (these s.Colon)) e ∙ begins IL x m fits)

  rest_laws : Laws class_of both_tries rest_tokens RestFits whole_front first_codes after_rest false
  rest_laws = record {
    sound = sound;
    longest = longest;
    fault = fault;
    complete = λ a rest fits stop. complete_by a.0 a.1 rest fits.0 fits.1 stop;
    whole = rest_agrees.whole;
    none = rest_agrees.none;
    closed = rest_agrees.closed;
    firsts = firsts;
    nexts = λ a u w fits f. nexts_by a.0 a.1 u w fits.0 fits.1 f;
    empties = λ a fits e. NL.empties a.1 fits.1 (both_empty (option_spelling Inits.spelling a.0) (Ended.spelling a.1) e).1;
  }

  under : (x : Parts n D B C class) → Within (after_rest x.1.1) (after_constructor (to_generative n D B C class x))
  under (name, (given, (None, y))) = within_none _
  under (name, (given, (Some x, t.block_body b))) = within_self behind_init
  under (name, (given, (Some x, t.no_body place))) = within_none _
  under (name, (given, (Some x, t.arrow_body arrow value semicolon))) = within_none _

  pub mended_laws : Reads (mended n class) (c.generative_over nodes (c.init_within n) class) plain_names after_constructor false
  unfolding r.with_initializers
  mended_laws = made_laws (both_laws (constructor_name_laws nodes class) (both_laws D.parameters rest_laws (λ x fits. apart_none first_codes)) (λ x fits. apart refl)) (to_generative n D B C class) constructor_tokens after_constructor (said n D B C class) (λ x fits. under x)

pub mended_at : MendedRead
mended_at n D B C L class = mended_laws n D B C L class
