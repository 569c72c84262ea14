-- What may be begun behind a tree: no reader fails there, and it takes as much as begins a part.
use Rattle.std.proofs.Common.{◌≡◌, ℕ, ◌-◌, true, false, List, [], ◌∷◌, ◌++◌, length, take, Option, None, Some, Ok, Err, refl, sym, ap, ap₂, subst, ◌∙◌, arith}
use Rattle.std.proofs.lemmas.List.{length-append}
use Rattle.std.proofs.Math.Seq.{take-append_seam}
use Rattle.dart_base.specs.declared.place.Place.{Place}
use Rattle.dart_token.specs.declared.token.Token.{Token}
use Rattle.dart_tree.specs.Types.{TypeNode}
use Rattle.grammar_laws.specs.Codes.{has}
use Rattle.grammar_laws.specs.Readers.{Outcome, Reader, and_then, starts}
use Rattle.grammar_laws.specs.Laws.{Ends, Stuck}
use Rattle.grammar_laws.proofs.Codes.{clash}
use Rattle.grammar_laws.proofs.Cuts.{same, longer, shorter, cut, gave, same_rest}
use Rattle.grammar_laws.proofs.Joints.{begins as begun_first, ends}
use Rattle.dart_syntax.specs.Phrases.{Phrase}
use Rattle.token_codes.specs.Codes.{class_of, on_code}
use Rattle.token_codes.specs.Reads.{Reads}
use Rattle.syntax_readers.specs.Combinators.{halting}
use Rattle.syntax_readers.specs.Types.{type_reader}
use Rattle.syntax_readers.specs.Statements.{on_type, read_on}
use Rattle.laws_apart.specs.Statements.{body_codes}
use Rattle.laws_block.specs.Begun.{rest_of, on_phrase, begun, Begins, part_begins, on_codes}
use Rattle.laws_block.proofs.On.{on_reads}

-- ---- a list that begins with none of its first tokens is refused where it begins

module _ {A : Type 0} {read : Reader Token A} {p : Phrase A} {first : List ℕ} {next : A → List ℕ} (P : Reads read p first next false) where
  stuck_here : (ts rest : List Token) → starts class_of first ts ≡ false → Stuck p.front ts rest → rest ≡ ts
  stuck_here ts rest off ([], e, f, ends) = sym e
  stuck_here ts rest off (t ∷ before, e, f, ends) = clash (has first (class_of t)) (P.firsts t before f) (ap (starts class_of first) (sym e) ∙ off)

  pub refused : (ts : List Token) → starts class_of first ts ≡ false → read ts ≡ Err ts
  refused ts off = of (read ts) refl where
    of : (o : Outcome Token A) → read ts ≡ o → read ts ≡ Err ts
    of (Ok (a, rest)) e = let l = P.sound ts a rest e in clash (starts class_of first ts) (ap (starts class_of first) l.1 ∙ begun_first P a rest l.0) off
    of (Err rest) e = e ∙ ap (λ (r : List Token). Err r) (stuck_here ts rest off (P.fault ts rest e))

-- ---- what is taken

taken_is : (ts m rest : List Token) → ts ≡ m ++ rest → take (length ts - length rest) ts ≡ m
taken_is ts m rest e =
    let n : length ts - length rest ≡ length m = omega (arith, ap length e, length-append m rest) in
    ap₂ (λ (k : ℕ) (l : List Token). take k l) n e ∙ take-append_seam m rest

pub record Gives (o : Option ℕ) (ts : List Token) : Type 0 where
  pub tokens : List Token
  pub rest : List Token
  pub read : begun o ts ≡ Ok (tokens, rest)
  pub cuts : ts ≡ tokens ++ rest
  pub fits : Begins o tokens
  pub ended : Ends (Begins o) tokens rest

not_none : (t : Token) → t ∷ [] ≡ [] → ⊥
not_none t e = absurd cc

abbrev taken_to : List Token → Outcome Token (Place × TypeNode) → Outcome Token (List Token)
taken_to ts r = gave (take (length ts - length (rest_of r)) ts) (rest_of r)

pub gives : (o : Option ℕ) (ts : List Token) → Gives o ts
gives None ts = record { tokens = []; rest = ts; read = refl; cuts = refl; fits = refl; ended = λ t more e h. not_none t h }
gives (Some n) ts = of (on_type (type_reader n) ts) refl where
  of : (r : Outcome Token (Place × TypeNode)) → on_type (type_reader n) ts ≡ r → Gives (Some n) ts
  of (Ok (x, rest)) e =
      let l = (on_reads n).sound ts x rest e in
      record {
        tokens = (on_phrase n).spelling x;
        rest = rest;
        read = ap (taken_to ts) e ∙ ap (λ (m : List Token). gave m rest) (taken_is ts ((on_phrase n).spelling x) rest l.1);
        cuts = l.1;
        fits = (on_reads n).whole x l.0;
        ended = ends (on_reads n) ts x rest e;
      }
  of (Err rest) e =
      let k = (on_reads n).fault ts rest e in
      record { tokens = k.0; rest = rest; read = ap (taken_to ts) e ∙ ap (λ (m : List Token). gave m rest) (taken_is ts k.0 rest k.1); cuts = k.1; fits = k.2; ended = k.3 }

-- a reader that halts there does so where it ends
pub halts : {B : Type 0} (n : ℕ) (ts m rest : List Token) → begun (Some n) ts ≡ Ok (m, rest) → halting {B = B} (on_type (type_reader n)) ts ≡ Err rest
halts {B} n ts m rest e = at (on_type (type_reader n) ts) refl where
  ended : (o : Outcome Token (Place × TypeNode)) → on_type (type_reader n) ts ≡ o → rest_of o ≡ rest
  ended o g = ap rest_of (sym g) ∙ same_rest _ m (rest_of (on_type (type_reader n) ts)) rest e

  at : (o : Outcome Token (Place × TypeNode)) → on_type (type_reader n) ts ≡ o → halting {B = B} (on_type (type_reader n)) ts ≡ Err rest
  at (Ok x) g = ap (λ (o : Outcome Token (Place × TypeNode)). and_then o (λ a r. Err r)) g ∙ ap (λ (l : List Token). Err l) (ended (Ok x) g)
  at (Err d) g = ap (λ (o : Outcome Token (Place × TypeNode)). and_then o (λ a r. Err r)) g ∙ ap (λ (l : List Token). Err l) (ended (Err d) g)

-- ---- what begins a part

pub begins_none : (o : Option ℕ) → Begins o []
begins_none None = refl
begins_none (Some n) = (on_reads n).none

none_first : (x y : List Token) → x ++ y ≡ [] → x ≡ []
none_first [] y e = refl
none_first (t ∷ x) y e = absurd cc

pub begins_closed : (o : Option ℕ) (x y : List Token) → Begins o (x ++ y) → Begins o x
begins_closed None x y e = none_first x y e
begins_closed (Some n) x y f = (on_reads n).closed x y f

pub begins_on : (o : Option ℕ) (t : Token) (ts : List Token) → Begins o (t ∷ ts) → has (on_code ∷ []) (class_of t) ≡ true
begins_on None t ts e = absurd cc
begins_on (Some n) t ts f = (on_reads n).firsts t ts f

pub begins_codes : (o : Option ℕ) (t : Token) (ts : List Token) → Begins o (t ∷ ts) → has (on_codes o) (class_of t) ≡ true
begins_codes None t ts e = absurd cc
begins_codes (Some n) t ts f = (on_reads n).firsts t ts f

-- where no `on` comes, none begins
pub part_off : (o : Option ℕ) (ts : List Token) → starts class_of (on_code ∷ []) ts ≡ false → part_begins o ts ≡ false
part_off None ts off = refl
part_off (Some n) ts off = ap read_on (refused (on_reads n) ts off)

begun_by : (o : Option ℕ) (ts m rest : List Token) → starts class_of (on_code ∷ []) ts ≡ false → ts ≡ m ++ rest → Begins o m → begun o ts ≡ Ok (m, rest) → begun o ts ≡ Ok ([], ts)
begun_by o ts [] rest off e f h = h ∙ ap (λ (l : List Token). gave [] l) (sym e)
begun_by o ts (t ∷ m) rest off e f h = clash (starts class_of (on_code ∷ []) ts) (ap (starts class_of (on_code ∷ [])) e ∙ begins_on o t m f) off

pub begun_off : (o : Option ℕ) (ts : List Token) → starts class_of (on_code ∷ []) ts ≡ false → begun o ts ≡ Ok ([], ts)
begun_off o ts off = let g = gives o ts in begun_by o ts g.tokens g.rest off g.cuts g.fits g.read

-- ---- a whole part

pub record Part (o : Option ℕ) (ts : List Token) : Type 0 where
  pub level : ℕ
  pub same : o ≡ Some level
  pub on : Place × TypeNode
  pub next : Token
  pub more : List Token
  pub fits : (on_phrase level).Fits on
  pub body : has body_codes (class_of next) ≡ true
  pub cuts : ts ≡ (on_phrase level).spelling on ++ next ∷ more

pub part_is : (o : Option ℕ) (ts : List Token) → part_begins o ts ≡ true → Part o ts
part_is None ts h = absurd cc
part_is (Some n) ts h = of (on_type (type_reader n) ts) refl h where
  of : (r : Outcome Token (Place × TypeNode)) → on_type (type_reader n) ts ≡ r → read_on r ≡ true → Part (Some n) ts
  of (Ok (x, [])) e h = absurd cc
  of (Ok (x, (t ∷ more))) e h = let l = (on_reads n).sound ts x (t ∷ more) e in record { level = n; same = refl; on = x; next = t; more = more; fits = l.0; body = h; cuts = l.1 }
  of (Err rest) e h = absurd cc

-- what begins that and is no longer than `on` and the type begins a part
pub within_part : (n : ℕ) (x : Place × TypeNode) (t : Token) (a : List Token) (r : Token) (v : List Token) → (on_phrase n).Fits x → (on_phrase n).spelling x ++ t ∷ [] ≡ a ++ r ∷ v → (on_phrase n).front a
within_part n x t a r v fits e =
    elim (cut ((on_phrase n).spelling x) (t ∷ []) a (r ∷ v) e) as (λ _. (on_phrase n).front a) [
      | same p q ↦ subst (on_phrase n).front p ((on_reads n).whole x fits)
      | longer s z p q ↦ absurd (over s z q)
      | shorter s z p q ↦ (on_reads n).closed a (s ∷ z) (subst (on_phrase n).front p ((on_reads n).whole x fits))
    ] where
      over : (s : Token) (z : List Token) → t ∷ [] ≡ s ∷ (z ++ r ∷ v) → ⊥
      over s [] q = absurd cc
      over s (u ∷ z) q = absurd cc
