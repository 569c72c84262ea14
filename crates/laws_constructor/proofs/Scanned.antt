-- What stands behind the blocks of initialisers, and behind a block with which they go on.
use Rattle.std.proofs.Common.{◌≡◌, ℕ, zero, suc, ◌+◌, arith, Bool, true, false, ◌&&◌, not, if◌then◌else◌, List, [], ◌∷◌, ◌++◌, length, refl, sym, ap, ap₂, ◌∙◌, subst}
use Rattle.dart_token.specs.declared.token.Token.{Token}
use Rattle.dart_token.specs.declared.sign.Sign.TheVariants as s
use Rattle.dart_tree.specs.Tree.{Block}
use Rattle.dart_tree.specs.Tokens.{block_tokens}
use Rattle.dart_tree.specs.Unit.{Initializers}
use Rattle.dart_tree.specs.UnitTokens.{initializers_tokens}
use Rattle.grammar_laws.specs.Codes.{has}
use Rattle.grammar_laws.specs.Readers.{starts}
use Rattle.grammar_laws.proofs.Codes.{inside}
use Rattle.dart_syntax.specs.Statements.{within}
use Rattle.token_codes.specs.Codes.{class_of, these}
use Rattle.syntax_readers.specs.Combinators.{opening, open_behind, behind_open, behind_brackets}
use Rattle.syntax_readers.specs.Declarations.{behind_init, before_body, is_body}
use Rattle.laws_unit.specs.Members.{inits_at, ScannedAt}
use Rattle.laws_constructor.proofs.Nesting.{Steps, even_steps, opened}
use Rattle.laws_constructor.proofs.Blocks.{inits_encloses, block_closes, brace_first}
use Rattle.laws_constructor.proofs.Calm.{calm, calm_on, calm_open, calm_parts}
use Rattle.laws_constructor.proofs.Depths.{inits_lead}

-- a brace opens
brace_opens : (t : Token) → has (these s.LeftBrace) (class_of t) ≡ true → open_behind 0 (class_of t) ≡ 1
brace_opens t h = opened 0 (class_of t) ((inside {xs = these s.LeftBrace} {ys = opening} refl).in_second (class_of t) h)

-- behind the bracket that a brace opens, the list goes on calmly from behind a brace
behind_brace : (c : Bool) (t : Token) (l rest : List Token) → has (these s.LeftBrace) (class_of t) ≡ true → behind_open 1 l ≡ rest → calm 0 c (t ∷ l) ≡ true → calm 0 true rest ≡ true
behind_brace c t l rest h e k =
    ap (calm 0 true) (sym e) ∙ sym (calm_open 1 true l) ∙ ap₂ (λ (n : ℕ) (b : Bool). calm n b l) (sym (brace_opens t h)) (sym h) ∙ (calm_parts c t l k).1

-- ---- behind what leaves no bracket open

passed : (p : ℕ) (b : Bool) (l w : List Token) → Steps p l 0 → calm p b (l ++ w) ≡ true → (c : Bool) × (calm 0 c w ≡ true)
passed p b [] w e h = (b, ap (λ (n : ℕ). calm n b w) (sym e) ∙ h)
passed zero b (t ∷ l) w (q, a, x, y, v) h = passed q (has (these s.LeftBrace) (class_of t)) l w v (ap (λ (n : ℕ). calm n (has (these s.LeftBrace) (class_of t)) (l ++ w)) (sym a) ∙ (calm_parts b t (l ++ w) h).1)
passed (suc p) b (t ∷ l) w (q, a, x, y, v) h = passed q b l w v (ap (λ (n : ℕ). calm n b (l ++ w)) (sym a) ∙ h)

next : (c : Bool) (m : List Token) (u : Token) (ts : List Token) → starts class_of (these s.LeftBrace) m ≡ true → behind_brackets (m ++ u ∷ ts) ≡ u ∷ ts → calm 0 c (m ++ u ∷ ts) ≡ true → has behind_init (class_of u) ≡ true
next c [] u ts h e k = absurd cc
next c (t ∷ l) u ts h e k = (calm_parts true u ts (behind_brace c t (l ++ u ∷ ts) (u ∷ ts) h e k)).0

pub goes_on_at : (n : ℕ) (x : Initializers) (b : Block) (t : Token) (ts : List Token) → (inits_at n).Fits x → (within n).nodes.expr_nodes.block.Fits b → (inits_at n).front (initializers_tokens x ++ (block_tokens b ++ t ∷ ts)) → has behind_init (class_of t) ≡ true
goes_on_at n x b t ts fits own f =
    let w : List Token = block_tokens b ++ t ∷ ts in
    let g = passed 0 false (initializers_tokens x) w (even_steps (initializers_tokens x) ((inits_encloses n).within x fits)) ((inits_lead n).holds (initializers_tokens x ++ w) f) in
    next g.0 (block_tokens b) t ts (brace_first b) (block_closes n b (t ∷ ts) own) g.1

-- ---- the scan

-- what has a bracket too few closes it
shut : (p : ℕ) (l : List Token) → Steps (suc p) l 0 → (z : List Token) × ((rest : List Token) → behind_open (suc p) (l ++ rest) ≡ z ++ rest)
shut p [] e = absurd (omega (arith, e))
shut p (t ∷ l) (zero, a, x, y, v) = (l, λ rest. ap (λ (n : ℕ). behind_open n (l ++ rest)) a)
shut p (t ∷ l) (suc q, a, x, y, v) = let r = shut q l v in (r.0, λ rest. ap (λ (n : ℕ). behind_open n (l ++ rest)) a ∙ r.1 rest)

from_none : (m n : ℕ) → m ≡ n → m ≡ 0 + n
from_none m n e = omega (arith, e)

one_more : (m k n : ℕ) → m ≡ k + n → suc m ≡ suc k + n
one_more m k n e = omega (arith, e)

module _ (u : Token) (ts : List Token) where
  first_goes : (z : List Token) → calm 0 true (z ++ u ∷ []) ≡ true → starts class_of behind_init (z ++ u ∷ ts) ≡ true
  first_goes [] h = (calm_parts true u [] h).0
  first_goes (v ∷ z) h = (calm_parts true v (z ++ u ∷ []) h).0

  no_body : (c : Bool) (t : Token) (l : List Token) (q : ℕ) (h : Bool) → has (these s.LeftBrace) (class_of t) ≡ h → open_behind 0 (class_of t) ≡ q → Steps q l 0 → calm 0 c (t ∷ (l ++ u ∷ [])) ≡ true → is_body 0 (t ∷ (l ++ u ∷ ts)) ≡ false
  no_body c t l q false h a v k = ap (λ (b : Bool). b && not (starts class_of behind_init (behind_brackets (t ∷ (l ++ u ∷ ts))))) h
  no_body c t l q true h a v k =
      let one : q ≡ 1 = sym a ∙ brace_opens t h in
      let r = shut 0 l (subst (λ n. Steps n l 0) one v) in
      let on : starts class_of behind_init (behind_open 1 (l ++ u ∷ ts)) ≡ true = ap (starts class_of behind_init) (r.1 (u ∷ ts)) ∙ first_goes r.0 (behind_brace c t (l ++ u ∷ []) (r.0 ++ u ∷ []) h (r.1 (u ∷ [])) k) in
      ap₂ (λ (b d : Bool). b && not d) h on

  scan : (p : ℕ) (b : Bool) (l : List Token) → Steps p l 0 → calm p b (l ++ u ∷ []) ≡ true → before_body p (l ++ u ∷ ts) ≡ length l + before_body 0 (u ∷ ts)
  scan p b [] e h = from_none (before_body p (u ∷ ts)) (before_body 0 (u ∷ ts)) (ap (λ (n : ℕ). before_body n (u ∷ ts)) e)
  scan zero b (t ∷ l) (q, a, x, y, v) h =
      ap (λ (z : Bool). if z then 0 else suc (before_body (open_behind 0 (class_of t)) (l ++ u ∷ ts))) (no_body b t l q (has (these s.LeftBrace) (class_of t)) refl a v h)
      ∙ one_more (before_body (open_behind 0 (class_of t)) (l ++ u ∷ ts)) (length l) (before_body 0 (u ∷ ts)) (ap (λ (n : ℕ). before_body n (l ++ u ∷ ts)) a ∙ scan q (has (these s.LeftBrace) (class_of t)) l v (ap (λ (n : ℕ). calm n (has (these s.LeftBrace) (class_of t)) (l ++ u ∷ [])) (sym a) ∙ (calm_parts b t (l ++ u ∷ []) h).1))
  scan (suc p) b (t ∷ l) (q, a, x, y, v) h =
      one_more (before_body (open_behind (suc p) (class_of t)) (l ++ u ∷ ts)) (length l) (before_body 0 (u ∷ ts)) (ap (λ (n : ℕ). before_body n (l ++ u ∷ ts)) a ∙ scan q b l v (ap (λ (n : ℕ). calm n b (l ++ u ∷ [])) (sym a) ∙ h))

done : (n : ℕ) (b : Bool) → calm n b [] ≡ true
done zero b = refl
done (suc n) b = refl

pub scanned_at : (n : ℕ) → ScannedAt n
scanned_at n x [] fits h = absurd cc
scanned_at n x (u ∷ ts) fits h =
    let on : calm 0 true (u ∷ []) ≡ true = calm_on true u [] ((inside {xs = these s.LeftBrace} {ys = behind_init} refl).in_second (class_of u) h) (done (open_behind 0 (class_of u)) (has (these s.LeftBrace) (class_of u))) in
    scan u ts 0 false (initializers_tokens x) (even_steps (initializers_tokens x) ((inits_encloses n).within x fits)) ((inits_lead n).ends x fits (u ∷ []) on)
