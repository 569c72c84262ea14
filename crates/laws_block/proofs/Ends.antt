-- What ends a list of statements: what is asked of the test that tells it, and what may go on behind (ECMA-408, 17.1 Blocks, 17.9 Switch).
use Rattle.std.proofs.Common.{◌≡◌, ℕ, Bool, true, false, not, inl, inr, List, [], ◌∷◌, ◌++◌, Option, None, Some, refl, sym, ap, subst, ◌∙◌, append_assoc}
use Rattle.std.specs.List.{flat_map, AllByRecursion}
use Rattle.dart_base.specs.declared.place.Place.{Place}
use Rattle.dart_token.specs.declared.token.Token.{Token}
use Rattle.dart_token.specs.declared.word.Word.TheVariants as w
use Rattle.dart_tree.specs.Types.{TypeNode}
use Rattle.dart_tree.specs.Tree.{Stmt}
use Rattle.dart_syntax.specs.Statements.{is_shut}
use Rattle.grammar_laws.specs.Codes.{has, given, Apart, Within}
use Rattle.grammar_laws.specs.Readers.{Reader, starts}
use Rattle.grammar_laws.specs.Laws.{Stops}
use Rattle.grammar_laws.proofs.Codes.{apart, apart_smaller, clash, has_cases, has_right, has_left, inside, not_true}
use Rattle.grammar_laws.proofs.Cuts.{same, longer, shorter, cut}
use Rattle.grammar_laws.proofs.Joints.{begins as begun_first, stops_within, one_on}
use Rattle.dart_syntax.specs.Phrases.{Phrase}
use Rattle.token_codes.specs.Codes.{class_of, on_code, word_code, this_word}
use Rattle.token_codes.specs.Reads.{Reads}
use Rattle.syntax_readers.specs.Statements.{stmt_first}
use Rattle.laws_apart.specs.Statements.{body_codes}
use Rattle.laws_block.specs.Begun.{on_phrase, Begins, part_begins, part_codes, level_of, else_of, StmtReads, Partless}
use Rattle.laws_block.proofs.On.{on_reads}
use Rattle.laws_block.proofs.Begun.{Part, part_is, within_part}
use Rattle.laws_block.proofs.Combined.{stops_apart}
use Rattle.laws_block.proofs.Single.{one_whole, one_begins}

-- what goes on behind a list of statements
abbrev pub still : List ℕ
still = word_code w.Catch ∷ word_code w.Finally ∷ this_word w.Else

abbrev pub behind_run : List ℕ → List ℕ → List ℕ
behind_run first next = (stmt_first ++ (first ++ still)) ++ next

still_codes : (o : Option ℕ) (b : Bool) → Within (part_codes o ++ given b (this_word w.Else)) still
still_codes None true = inside refl
still_codes None false = inside refl
still_codes (Some n) true = inside refl
still_codes (Some n) false = inside refl

-- what is asked of the test, and of what stands behind the statements
pub record Ends_run (p : Phrase Stmt) (test : List Token → Bool) {X : Type 0} (q : Phrase X) (first next : List ℕ) : Type 0 where
  pub none : test [] ≡ false
  -- where the test holds the statements go on, and elsewhere what stands behind them
  pub goes_on : (z w : List Token) (t : Token) → test ((z ++ t ∷ []) ++ w) ≡ true → q.front (z ++ t ∷ []) → p.front (z ++ t ∷ [])
  pub stops : (z w : List Token) → test (z ++ w) ≡ false → p.front z → q.front z
  pub begun : (o : Option ℕ) (z w : List Token) → test (z ++ w) ≡ false → Begins o z → q.front z
  pub over : (x : Stmt) (z : List Token) → p.Fits x → q.front (p.spelling x ++ z) → ⊥
  pub statement : (x : Stmt) (w : List Token) → p.Fits x → test (p.spelling x ++ w) ≡ true
  pub other : (y : X) (w : List Token) → q.Fits y → Stops class_of (behind_run first next) w → test (q.spelling y ++ w) ≡ false
  -- no part of a `try` begins so
  pub no_part : (k : ℕ) (x : Place × TypeNode) (t : Token) → (on_phrase k).Fits x → has body_codes (class_of t) ≡ true → q.front ((on_phrase k).spelling x ++ t ∷ []) → ⊥
  pub not_begun : (k : ℕ) (y : X) (t : Token) (ts : List Token) → q.Fits y → q.spelling y ≡ t ∷ ts → (on_phrase k).front (q.spelling y) → ⊥

module _ (n : ℕ) {stmt : Reader Token Stmt} {p : Phrase Stmt} (S : StmtReads n stmt p stmt_first) (N : Partless p) (test : List Token → Bool)
    {X : Type 0} {tail : Reader Token X} {q : Phrase X} {first next : List ℕ} (Q : Reads tail q first (λ y. next) true) (off : Apart still first) (E : Ends_run p test q first next) where
  abbrev F : List Stmt → Type 0
  F = AllByRecursion p.Fits

  abbrev tokens : List Stmt → List Token
  tokens = flat_map p.spelling

  abbrev level : Stmt → Option ℕ
  level = level_of n

  abbrev firsts_of : List ℕ
  firsts_of = stmt_first ++ first

  still_off : Apart still firsts_of
  still_off = record {
    never_both = λ k h j. elim (has_cases stmt_first first k j) as (λ _. ⊥) [
      | inl i ↦ (apart {xs = still} {ys = stmt_first} refl).never_both k h i
      | inr i ↦ off.never_both k h i
    ];
  }

  pub stops_at : (x : Stmt) (ts : List Token) → starts class_of firsts_of ts ≡ true → Stops class_of (part_codes (level x) ++ else_of x) ts
  stops_at x ts on = stops_apart (part_codes (level x) ++ else_of x) firsts_of (apart_smaller (still_codes (level x) (not (is_shut x))) still_off) ts on

  -- ---- behind statements

  no_whole_part : (y : Stmt) (o : Option ℕ) (u : List Token) → p.Fits y → Part o (p.spelling y ++ u) → ⊥
  no_whole_part y o u fits v =
      let on : List Token = (on_phrase v.level).spelling v.on in
      elim (cut (p.spelling y) u (on ++ v.next ∷ []) v.more (v.cuts ∙ one_on on v.next v.more)) as (λ _. ⊥) [
        | same a b ↦ N.no_part v.level v.on v.next v.fits v.body (subst p.front a (one_whole S y fits))
        | longer s z a b ↦ N.not_begun v.level y fits (within_part v.level v.on v.next (p.spelling y) s z v.fits a)
        | shorter s z a b ↦ N.no_part v.level v.on v.next v.fits v.body (S.laws.closed (on ++ v.next ∷ []) (s ∷ z) (subst p.front a (one_whole S y fits)))
      ]

  tail_no_part : (y : X) (o : Option ℕ) (rest m : List Token) → q.Fits y → Stops class_of (behind_run first next) rest → q.spelling y ≡ m → Part o (m ++ rest) → ⊥
  tail_no_part y o rest [] fits stop e v = clash (starts class_of (on_code ∷ []) rest) (ap (starts class_of (on_code ∷ [])) v.cuts ∙ begun_first (on_reads v.level) v.on (v.next ∷ v.more) v.fits)
      (stops_within class_of (on_code ∷ []) (behind_run first next) (λ k h. has_left (stmt_first ++ (first ++ still)) next k (has_left stmt_first (first ++ still) k ((inside {xs = on_code ∷ []} {ys = stmt_first} refl).in_second k h))) rest stop)
  tail_no_part y o rest (t ∷ m) fits stop e v =
      let on : List Token = (on_phrase v.level).spelling v.on in
      let whole : q.front (t ∷ m) = subst q.front e (Q.whole y fits) in
      elim (cut (t ∷ m) rest (on ++ v.next ∷ []) v.more (v.cuts ∙ one_on on v.next v.more)) as (λ _. ⊥) [
        | same a b ↦ E.no_part v.level v.on v.next v.fits v.body (subst q.front a whole)
        | longer s z a b ↦ E.not_begun v.level y t m fits e (subst (on_phrase v.level).front (sym e) (within_part v.level v.on v.next (t ∷ m) s z v.fits a))
        | shorter s z a b ↦ E.no_part v.level v.on v.next v.fits v.body (Q.closed (on ++ v.next ∷ []) (s ∷ z) (subst q.front a whole))
      ]

  pub no_part_behind : (o : Option ℕ) (xs : List Stmt) (y : X) (rest : List Token) → F xs → q.Fits y → Stops class_of (behind_run first next) rest → part_begins o (tokens xs ++ (q.spelling y ++ rest)) ≡ false
  no_part_behind o [] y rest fits fy stop = not_true (part_begins o (q.spelling y ++ rest)) (λ on. tail_no_part y o rest (q.spelling y) fy stop refl (part_is o (q.spelling y ++ rest) on))
  no_part_behind o (x ∷ xs) y rest fits fy stop = not_true (part_begins o ((p.spelling x ++ tokens xs) ++ (q.spelling y ++ rest))) (λ on.
      no_whole_part x o (tokens xs ++ (q.spelling y ++ rest)) fits.0 (subst (Part o) (append_assoc (p.spelling x) (tokens xs) (q.spelling y ++ rest)) (part_is o ((p.spelling x ++ tokens xs) ++ (q.spelling y ++ rest)) on)))

  still_tail : (x : Stmt) (y : X) (rest m : List Token) → q.Fits y → Stops class_of (behind_run first next) rest → q.spelling y ≡ m → Stops class_of (part_codes (level x) ++ else_of x) (m ++ rest)
  still_tail x y rest [] fy stop e = stops_within class_of (part_codes (level x) ++ else_of x) (behind_run first next)
      (λ k h. has_left (stmt_first ++ (first ++ still)) next k (has_right stmt_first (first ++ still) k (has_right first still k ((still_codes (level x) (not (is_shut x))).in_second k h)))) rest stop
  still_tail x y rest (t ∷ m) fy stop e = stops_at x (t ∷ (m ++ rest)) (has_right stmt_first first (class_of t) (Q.firsts t m (subst q.front e (Q.whole y fy))))

  pub still_behind : (x : Stmt) (xs : List Stmt) (y : X) (rest : List Token) → F xs → q.Fits y → Stops class_of (behind_run first next) rest → Stops class_of (part_codes (level x) ++ else_of x) (tokens xs ++ (q.spelling y ++ rest))
  still_behind x [] y rest fits fy stop = still_tail x y rest (q.spelling y) fy stop refl
  still_behind x (z ∷ zs) y rest fits fy stop = stops_at x ((p.spelling z ++ tokens zs) ++ (q.spelling y ++ rest)) (starts_left ((p.spelling z ++ tokens zs) ++ (q.spelling y ++ rest))
      (ap (starts class_of stmt_first) (append_assoc (p.spelling z) (tokens zs) (q.spelling y ++ rest)) ∙ one_begins S z (tokens zs ++ (q.spelling y ++ rest)) fits.0)) where
        starts_left : (ts : List Token) → starts class_of stmt_first ts ≡ true → starts class_of firsts_of ts ≡ true
        starts_left [] on = absurd cc
        starts_left (t ∷ ts) on = has_left stmt_first first (class_of t) on
