-- The law of lists of statements, over any reader of statements of the law with what is begun behind them (ECMA-408, 17.1 Blocks).
use Rattle.std.proofs.Common.{◌≡◌, ℕ, zero, suc, ◌+◌, ◌-◌, ◌<◌, ◌≤◌, Bool, true, false, not, if◌then◌else◌, ◌⊎◌, inl, inr, List, [], ◌∷◌, ◌++◌, length, Option, None, Some, Ok, Err, refl, sym, ap, subst, ◌∙◌, append_assoc, arith, ltb}
use Rattle.std.proofs.lemmas.List.{append-nil, length-append}
use Rattle.std.specs.List.{flat_map, AllByRecursion}
use Rattle.dart_base.specs.declared.place.Place.{Place}
use Rattle.dart_token.specs.declared.token.Token.{Token}
use Rattle.dart_token.specs.declared.word.Word.TheVariants as w
use Rattle.dart_tree.specs.Types.{TypeNode}
use Rattle.dart_tree.specs.Tree.{Stmt}
use Rattle.dart_syntax.specs.Statements.{is_shut}
use Rattle.grammar_laws.specs.Codes.{has, given, Within}
use Rattle.grammar_laws.specs.Readers.{Outcome, Reader, and_then, starts, cons_to, always, farther}
use Rattle.grammar_laws.specs.Fronts.{Front, Either, GoesOn}
use Rattle.grammar_laws.specs.Laws.{Stops, Stuck}
use Rattle.grammar_laws.proofs.Codes.{apart, apart_smaller, clash, cases_bool, has_right, has_left, inside, not_true}
use Rattle.grammar_laws.proofs.Cuts.{same, longer, shorter, cut, gave, failed, then_ok, then_err, same_value, same_rest, same_fault, fewer}
use Rattle.grammar_laws.proofs.Joints.{stops_within, one_on}
use Rattle.grammar_laws.proofs.Tried.{by_length, never_ok}
use Rattle.dart_syntax.specs.Phrases.{Phrase, many}
use Rattle.token_codes.specs.Codes.{class_of, on_code, word_code, this_word}
use Rattle.token_codes.specs.Reads.{Reads}
use Rattle.syntax_readers.specs.Combinators.{halting}
use Rattle.syntax_readers.specs.Types.{type_reader}
use Rattle.syntax_readers.specs.Statements.{open_try, on_type, behind_try, stmt_turns, stmts_where, stmt_comes, stmt_first}
use Rattle.laws_apart.specs.Statements.{body_codes}
use Rattle.laws_block.specs.Begun.{on_phrase, Begins, part_begins, part_codes, room, level_of, else_of, StmtReads, Partless}
use Rattle.laws_block.proofs.On.{on_reads}
use Rattle.laws_block.proofs.Faults.{Closed, by_one, later_stuck}
use Rattle.laws_block.proofs.Begun.{Gives, gives, halts, Part, part_is, part_off, begins_closed, begins_on, within_part}
use Rattle.laws_block.proofs.Combined.{stops_apart}
use Rattle.laws_block.proofs.Single.{one_sound, one_fault, one_whole, one_begins, one_filled, one_goes, no_pair}

-- what goes on behind a list of statements
abbrev still : List ℕ
still = word_code w.Catch ∷ word_code w.Finally ∷ this_word w.Else

abbrev pub behind_list : List ℕ
behind_list = stmt_first ++ still

still_codes : (o : Option ℕ) (b : Bool) → Within (part_codes o ++ given b (this_word w.Else)) still
still_codes None true = inside refl
still_codes None false = inside refl
still_codes (Some n) true = inside refl
still_codes (Some n) false = inside refl

on_comes_first : (ts : List Token) → starts class_of (on_code ∷ []) ts ≡ true → starts class_of stmt_first ts ≡ true
on_comes_first [] on = absurd cc
on_comes_first (t ∷ ts) on = (inside {xs = on_code ∷ []} {ys = stmt_first} refl).in_second (class_of t) on

module _ (n : ℕ) {stmt : Reader Token Stmt} {p : Phrase Stmt} (S : StmtReads n stmt p stmt_first) (N : Partless p) where
  abbrev L : Front Token
  L = (many p).front

  abbrev F : List Stmt → Type 0
  F = AllByRecursion p.Fits

  abbrev tokens : List Stmt → List Token
  tokens = flat_map p.spelling

  abbrev level : Stmt → Option ℕ
  level = level_of n

  -- ---- fronts of lists

  list_behind : (a : Stmt) → p.Fits a → (z : List Token) → L z → L (p.spelling a ++ z)
  list_behind a fits z (all, more, fs, e, f) = (a ∷ all, more, ((fits, refl), fs), ap (λ (m : List Token). p.spelling a ++ m) e ∙ sym (append_assoc (p.spelling a) (tokens all) more), f)

  closed_at : (all : List Stmt) (x y more : List Token) → AllByRecursion (GoesOn p.Fits always) all → x ++ y ≡ tokens all ++ more → p.front more → L x
  closed_at [] x y more fits e f = ([], x, tt, refl, S.laws.closed x y (subst p.front (sym e) f))
  closed_at (a ∷ all) x y more fits e f =
      elim (cut x y (p.spelling a) (tokens all ++ more) (e ∙ append_assoc (p.spelling a) (tokens all) more)) as (λ _. L x) [
        | same u v ↦ ([], x, tt, refl, subst p.front (sym u) (one_whole S a fits.0.0))
        | longer t z u v ↦ ([], x, tt, refl, S.laws.closed x (t ∷ z) (subst p.front u (one_whole S a fits.0.0)))
        | shorter t z u v ↦ subst L (sym u) (list_behind a fits.0.0 (t ∷ z) (closed_at all (t ∷ z) y more fits.1 (sym v) f))
      ]

  list_closed : Closed L
  list_closed x y (all, more, fits, e, f) = closed_at all x y more fits e f

  list_firsts : (t : Token) (ts : List Token) → L (t ∷ ts) → has stmt_first (class_of t) ≡ true
  list_firsts t ts ([], more, fits, e, f) = S.laws.firsts t ts (subst p.front (sym e) f)
  list_firsts t ts (a ∷ all, more, fits, e, f) = ap (starts class_of stmt_first) (e ∙ append_assoc (p.spelling a) (tokens all) more) ∙ one_begins S a (tokens all ++ more) fits.0.0

  list_no_part : (k : ℕ) (x : Place × TypeNode) (t : Token) → (on_phrase k).Fits x → has body_codes (class_of t) ≡ true → L ((on_phrase k).spelling x ++ t ∷ []) → ⊥
  list_no_part k x t fx b ([], more, fits, e, f) = N.no_part k x t fx b (subst p.front (sym e) f)
  list_no_part k x t fx b (a ∷ all, more, fits, e, f) =
      elim (cut ((on_phrase k).spelling x) (t ∷ []) (p.spelling a) (tokens all ++ more) (e ∙ append_assoc (p.spelling a) (tokens all) more)) as (λ _. ⊥) [
        | same u v ↦ N.not_begun k a fits.0.0 (subst (on_phrase k).front u ((on_reads k).whole x fx))
        | longer s z u v ↦
            let is : t ≡ s = cc in
            N.no_part k x t fx b (subst (λ (c : Token). p.front ((on_phrase k).spelling x ++ c ∷ [])) (sym is) (by_one S.laws.closed ((on_phrase k).spelling x) s z (subst p.front u (one_whole S a fits.0.0))))
        | shorter s z u v ↦ N.not_begun k a fits.0.0 ((on_reads k).closed (p.spelling a) (s ∷ z) (subst (on_phrase k).front u ((on_reads k).whole x fx)))
      ]

  -- ---- behind a statement

  stops_at : (x : Stmt) (ts : List Token) → starts class_of stmt_first ts ≡ true → Stops class_of (part_codes (level x) ++ else_of x) ts
  stops_at x ts on = stops_apart (part_codes (level x) ++ else_of x) stmt_first (apart_smaller (still_codes (level x) (not (is_shut x))) (apart refl)) ts on

  -- a statement is read where others are begun behind it, unless they begin a part of it
  behind_whole : (y : Stmt) (t : Token) (z rest ts : List Token) → p.Fits y → ts ≡ p.spelling y ++ t ∷ (z ++ rest) → L (t ∷ z) → (stmt ts ≡ Ok (y, t ∷ (z ++ rest))) ⊎ Begins (level y) (t ∷ z)
  behind_whole y t z rest ts fits e f = elim (cases_bool (part_begins (level y) (t ∷ (z ++ rest)))) [
    | inl on ↦ inr (of (part_is (level y) (t ∷ (z ++ rest)) on))
    | inr off ↦ inl (ap stmt e ∙ S.complete y (t ∷ (z ++ rest)) fits (stops_at y (t ∷ (z ++ rest)) (list_firsts t z f)) off)
  ] where
    of : Part (level y) (t ∷ (z ++ rest)) → Begins (level y) (t ∷ z)
    of v =
        let on : List Token = (on_phrase v.level).spelling v.on in
        elim (cut (t ∷ z) rest (on ++ v.next ∷ []) v.more (v.cuts ∙ one_on on v.next v.more)) as (λ _. Begins (level y) (t ∷ z)) [
          | same a b ↦ absurd (list_no_part v.level v.on v.next v.fits v.body (subst L a f))
          | longer s w a b ↦ subst (λ (o : Option ℕ). Begins o (t ∷ z)) (sym v.same) (within_part v.level v.on v.next (t ∷ z) s w v.fits a)
          | shorter s w a b ↦ absurd (list_no_part v.level v.on v.next v.fits v.body (list_closed (on ++ v.next ∷ []) (s ∷ w) (subst L a f)))
        ]

  -- no statement that was read has a shorter one with others behind it
  no_less : (ts : List Token) (x y : Stmt) (mid z rest : List Token) (s : Token) (w : List Token) → stmt ts ≡ Ok (x, mid) → mid ≡ z ++ rest → p.Fits y → p.spelling x ≡ p.spelling y ++ s ∷ w → L (s ∷ (w ++ z)) → ⊥
  no_less ts x y mid z rest s w e is fits u f =
      let l = one_sound S ts x mid e in
      let at : ts ≡ p.spelling y ++ s ∷ ((w ++ z) ++ rest) = l.1 ∙ ap (λ (m : List Token). m ++ mid) u ∙ append_assoc (p.spelling y) (s ∷ w) mid ∙ ap (λ (m : List Token). p.spelling y ++ (s ∷ (w ++ m))) is
      ∙ ap (λ (m : List Token). p.spelling y ++ s ∷ m) (sym (append_assoc w z rest)) in
      elim (behind_whole y s (w ++ z) rest ts fits at f) as (λ _. ⊥) [
        | inl h ↦
            let far : mid ≡ s ∷ ((w ++ z) ++ rest) = same_rest x y mid (s ∷ ((w ++ z) ++ rest)) (sym e ∙ h) in
            omega (arith, ap length far, ap length is, length-append z rest, length-append w z, length-append (w ++ z) rest)
        | inr b ↦ no_pair S y x s w fits l.0 (begins_closed (level y) (s ∷ w) z b) u
      ]

  -- what goes on behind a statement that was read begins a part of it, or other statements
  list_goes : (ts : List Token) (x : Stmt) (mid z rest : List Token) → stmt ts ≡ Ok (x, mid) → mid ≡ z ++ rest → L (p.spelling x ++ z) → Begins (level x) z ⊎ L z
  list_goes ts x mid z rest e is ([], more, fits, q, f) = inl (one_goes S ts x mid z rest e is (subst p.front (sym q) f))
  list_goes ts x mid z rest e is (y ∷ ys, more, fits, q, f) =
      elim (cut (p.spelling x) z (p.spelling y) (tokens ys ++ more) (q ∙ append_assoc (p.spelling y) (tokens ys) more)) [
        | same u v ↦ inr (ys, more, fits.1, v, f)
        | longer s w u v ↦ absurd (no_pair S x y s w (one_sound S ts x mid e).0 fits.0.0
            (one_goes S ts x mid (s ∷ w) ((tokens ys ++ more) ++ rest) e (is ∙ ap (λ (m : List Token). m ++ rest) v ∙ append_assoc (s ∷ w) (tokens ys ++ more) rest) (subst p.front u (one_whole S y fits.0.0))) u)
        | shorter s w u v ↦ absurd (no_less ts x y mid z rest s w e is fits.0.0 u (ys, more, fits.1, sym v, f))
      ]

  -- a fault of a statement is one of the list
  list_stuck : (ts rest : List Token) → stmt ts ≡ Err rest → Stuck L ts rest
  list_stuck ts rest e = at (one_fault S ts rest e) where
    never : (y : Stmt) (u : List Token) → stmt ts ≡ Ok (y, u) → ⊥
    never y u h = let bad : failed {A = Stmt} rest ≡ gave y u = sym e ∙ h in absurd cc

    no_more : (k : Stuck p.front ts rest) (t : Token) (more : List Token) → rest ≡ t ∷ more → L (k.0 ++ t ∷ []) → ⊥
    no_more k t more is ([], m, fits, q, f) = k.3 t more is (subst p.front (sym q) f)
    no_more k t more is (y ∷ ys, m, fits, q, f) =
        elim (cut k.0 (t ∷ []) (p.spelling y) (tokens ys ++ m) (q ∙ append_assoc (p.spelling y) (tokens ys) m)) as (λ _. ⊥) [
          | same u v ↦ elim (behind_whole y t [] more ts fits.0.0 (k.1 ∙ ap (λ (a : List Token). a ++ rest) u ∙ ap (λ (a : List Token). p.spelling y ++ a) is) (ys, m, fits.1, v, f)) as (λ _. ⊥) [
            | inl h ↦ never y (t ∷ more) h
            | inr b ↦ k.3 t more is (subst (λ (a : List Token). p.front (a ++ t ∷ [])) (sym u) (S.laws.whole (y, t ∷ []) (fits.0.0, b)))
          ]
          | longer s w u v ↦
              let first : t ≡ s = cc in
              k.3 t more is (subst (λ (c : Token). p.front (k.0 ++ c ∷ [])) (sym first) (by_one S.laws.closed k.0 s w (subst p.front u (one_whole S y fits.0.0))))
          | shorter s w u v ↦
              let far : ts ≡ p.spelling y ++ s ∷ ((w ++ t ∷ []) ++ more) = k.1 ∙ ap (λ (a : List Token). a ++ rest) u ∙ append_assoc (p.spelling y) (s ∷ w) rest ∙ ap (λ (a : List Token). p.spelling y ++ s ∷ (w ++ a)) is
              ∙ ap (λ (a : List Token). p.spelling y ++ s ∷ a) (one_on w t more) in
              elim (behind_whole y s (w ++ t ∷ []) more ts fits.0.0 far (ys, m, fits.1, sym v, f)) as (λ _. ⊥) [
                | inl h ↦ never y (s ∷ ((w ++ t ∷ []) ++ more)) h
                | inr b ↦ k.3 t more is (subst p.front (sym (append_assoc (p.spelling y) (s ∷ w) (t ∷ [])) ∙ ap (λ (a : List Token). a ++ t ∷ []) (sym u)) (S.laws.whole (y, s ∷ (w ++ t ∷ [])) (fits.0.0, b)))
              ]
        ]

    at : Stuck p.front ts rest → Stuck L ts rest
    at k = (k.0, k.1, ([], k.0, tt, refl, k.2), λ t more is j. no_more k t more is j)

  -- ---- a statement behind another one

  abbrev LF : Option ℕ → Front Token
  LF o = Either (Begins o) L

  abbrev on_read : ℕ → Outcome Token (Place × TypeNode) → Outcome Token Stmt → Outcome Token Stmt
  on_read k r q = farther (and_then r (λ a rest. Err rest)) q

  gives_by : (k : ℕ) (x : Stmt) (mid : List Token) (r : Outcome Token (Place × TypeNode)) (q : Outcome Token Stmt) → q ≡ Ok (x, mid) → on_read k r q ≡ Ok (x, mid)
  gives_by k x mid (Ok z) q e = ap (λ (o : Outcome Token Stmt). farther (Err z.1) o) e
  gives_by k x mid (Err d) q e = ap (λ (o : Outcome Token Stmt). farther (Err d) o) e

  tried_gives : (o : Option ℕ) (ts : List Token) (x : Stmt) (mid : List Token) → stmt ts ≡ Ok (x, mid) → behind_try n o stmt ts ≡ Ok (x, mid)
  tried_gives None ts x mid e = e
  tried_gives (Some above) ts x mid e = gives_by (n - (above + 1)) x mid (on_type (type_reader (n - (above + 1))) ts) (stmt ts) e

  ok_by : (k : ℕ) (x : Stmt) (mid : List Token) (r : Outcome Token (Place × TypeNode)) (q : Outcome Token Stmt) → on_read k r q ≡ Ok (x, mid) → q ≡ Ok (x, mid)
  ok_by k x mid (Ok z) (Ok y) h = h
  ok_by k x mid (Err d) (Ok y) h = h
  ok_by k x mid (Ok z) (Err e) h = absurd (never_ok (ltb (length z.1) (length e)) z.1 e (x, mid) h)
  ok_by k x mid (Err d) (Err e) h = absurd (never_ok (ltb (length d) (length e)) d e (x, mid) h)

  tried_ok : (o : Option ℕ) (ts : List Token) (x : Stmt) (mid : List Token) → behind_try n o stmt ts ≡ Ok (x, mid) → stmt ts ≡ Ok (x, mid)
  tried_ok None ts x mid h = h
  tried_ok (Some above) ts x mid h = ok_by (n - (above + 1)) x mid (on_type (type_reader (n - (above + 1))) ts) (stmt ts) h

  none_here : (a : List Token) (t : Token) → a ++ t ∷ [] ≡ [] → ⊥
  none_here [] t e = absurd cc
  none_here (s ∷ a) t e = absurd cc

  abbrev stop : Place × TypeNode → Reader Token Stmt
  stop a rest = Err rest

  halted : (k : ℕ) (ts d : List Token) → halting {B = Stmt} (on_type (type_reader k)) ts ≡ Err d → Stuck (on_phrase k).front ts d
  halted k ts d h = at (gives (Some k) ts) where
    at : Gives (Some k) ts → Stuck (on_phrase k).front ts d
    at g = subst (Stuck (on_phrase k).front ts) (same_fault {A = Stmt} g.rest d (sym (halts k ts g.tokens g.rest g.read) ∙ h)) (g.tokens, g.cuts, g.fits, g.ended)

  later : (k : ℕ) (ts d e rest : List Token) → halting {B = Stmt} (on_type (type_reader k)) ts ≡ Err d → stmt ts ≡ Err e → by_length {A = Stmt} (ltb (length d) (length e)) d e ≡ Err rest → Stuck (LF (Some k)) ts rest
  later k ts d e rest h g b = later_stuck (λ x y f. (on_reads k).closed x y f) list_closed {A = Stmt} ts d e rest (ltb (length d) (length e)) refl (halted k ts d h) (list_stuck ts e g) b

  err_by : (k : ℕ) (ts rest : List Token) (r : Outcome Token (Place × TypeNode)) (q : Outcome Token Stmt) → on_type (type_reader k) ts ≡ r → stmt ts ≡ q → on_read k r q ≡ Err rest → Stuck (LF (Some k)) ts rest
  err_by k ts rest (Ok z) (Ok y) e g h = absurd cc
  err_by k ts rest (Err d) (Ok y) e g h = absurd cc
  err_by k ts rest (Ok z) (Err x) e g h = later k ts z.1 x rest (ap (λ (o : Outcome Token (Place × TypeNode)). and_then o stop) e) g h
  err_by k ts rest (Err d) (Err x) e g h = later k ts d x rest (ap (λ (o : Outcome Token (Place × TypeNode)). and_then o stop) e) g h

  tried_err : (o : Option ℕ) (ts rest : List Token) → behind_try n o stmt ts ≡ Err rest → Stuck (LF (room n o)) ts rest
  tried_err None ts rest h =
      let k = list_stuck ts rest h in (
        k.0,
        k.1,
        inr k.2,
        λ t more is j.
            elim j as (λ _. ⊥) [
              | inl e ↦ none_here k.0 t e
              | inr f ↦ k.3 t more is f
            ],
      )
  tried_err (Some above) ts rest h = err_by (n - (above + 1)) ts rest (on_type (type_reader (n - (above + 1))) ts) (stmt ts) refl refl h

  -- ---- turns

  abbrev turns : ℕ → Option ℕ → Reader Token (List Stmt)
  turns = stmt_turns n stmt_comes stmt

  abbrev goes_on : ℕ → Stmt → Reader Token (List Stmt)
  goes_on m x mid = cons_to x (turns m (open_try x) mid)

  abbrev turn : ℕ → Option ℕ → Bool → Reader Token (List Stmt)
  turn m o c ts = if c then and_then (behind_try n o stmt ts) (goes_on m) else Ok ([], ts)

  abbrev consed : Stmt → List Stmt → Reader Token (List Stmt)
  consed x xs rest = Ok (x ∷ xs, rest)

  less : (m : ℕ) (ts : List Token) (x : Stmt) (mid : List Token) → stmt ts ≡ Ok (x, mid) → length ts ≤ suc m → length mid ≤ m
  less m ts x mid e few =
      let l = one_sound S ts x mid e in
      let f : length mid < suc m = fewer (p.spelling x) mid (suc m) (λ b. one_filled S x l.0 b) (subst (λ (a : List Token). length a ≤ suc m) l.1 few) in
      omega (arith, f)

  none_read : (ts : List Token) (xs : List Stmt) (rest : List Token) → gave [] ts ≡ gave xs rest → F xs × (ts ≡ tokens xs ++ rest)
  none_read ts xs rest h =
      let e : [] ≡ xs = same_value [] xs ts rest h in
      (subst F e tt, same_rest [] xs ts rest h ∙ ap (λ (l : List Stmt). tokens l ++ rest) e)

  abbrev Sound : ℕ → Type 0
  Sound m = (o : Option ℕ) (ts : List Token) (xs : List Stmt) (rest : List Token) → turns m o ts ≡ Ok (xs, rest) → F xs × (ts ≡ tokens xs ++ rest)

  sound_turn : (m : ℕ) → Sound m → (o : Option ℕ) (ts : List Token) (xs : List Stmt) (rest : List Token) (c : Bool) → turn m o c ts ≡ Ok (xs, rest) → F xs × (ts ≡ tokens xs ++ rest)
  sound_turn m before o ts xs rest false h = none_read ts xs rest h
  sound_turn m before o ts xs rest true h =
      let v = then_ok (behind_try n o stmt ts) (goes_on m) xs rest h in
      let u = then_ok (turns m (open_try v.0) v.1) (consed v.0) xs rest v.3 in
      let l = one_sound S ts v.0 v.1 (tried_ok o ts v.0 v.1 v.2) in
      let k = before (open_try v.0) v.1 u.0 u.1 u.2 in
      let is : v.0 ∷ u.0 ≡ xs = same_value (v.0 ∷ u.0) xs u.1 rest u.3 in
      let ends : u.1 ≡ rest = same_rest (v.0 ∷ u.0) xs u.1 rest u.3 in (
        subst F is (l.0, k.0),
        l.1 ∙ ap (λ (a : List Token). p.spelling v.0 ++ a) k.1 ∙ sym (append_assoc (p.spelling v.0) (tokens u.0) u.1) ∙ ap (λ (a : List Token). tokens (v.0 ∷ u.0) ++ a) ends ∙ ap (λ (a : List Stmt). tokens a ++ rest) is,
      )

  sound_turns : (m : ℕ) → Sound m
  sound_turns zero o ts xs rest h = none_read ts xs rest h
  sound_turns (suc m) o ts xs rest h = sound_turn m (sound_turns m) o ts xs rest (stmt_comes ts) h

  -- a statement, and what is begun or goes on behind it
  join : (x : Stmt) → p.Fits x → (z : List Token) → LF (level x) z → L (p.spelling x ++ z)
  join x fits z (inl b) = ([], p.spelling x ++ z, tt, refl, S.laws.whole (x, z) (fits, b))
  join x fits z (inr f) = list_behind x fits z f

  not_begun : (o : Option ℕ) (x : Stmt) → p.Fits x → Begins o (p.spelling x) → ⊥
  not_begun None x fits b = one_filled S x fits b
  not_begun (Some k) x fits b = N.not_begun k x fits b

  after : (o : Option ℕ) (ts : List Token) (x : Stmt) (mid z rest : List Token) → stmt ts ≡ Ok (x, mid) → mid ≡ z ++ rest → LF o (p.spelling x ++ z) → LF (level x) z
  after o ts x mid z rest e is (inl b) = absurd (not_begun o x (one_sound S ts x mid e).0 (begins_closed o (p.spelling x) z b))
  after o ts x mid z rest e is (inr f) = list_goes ts x mid z rest e is f

  abbrev Fault : ℕ → Type 0
  Fault m = (o : Option ℕ) (ts rest : List Token) → length ts ≤ m → turns m o ts ≡ Err rest → Stuck (LF (room n o)) ts rest

  behind_one : (m : ℕ) (o : Option ℕ) (ts rest : List Token) (x : Stmt) (mid : List Token) → stmt ts ≡ Ok (x, mid) → Stuck (LF (level x)) mid rest → Stuck (LF (room n o)) ts rest
  behind_one m o ts rest x mid e k =
      let l = one_sound S ts x mid e in (
        p.spelling x ++ k.0,
        l.1 ∙ ap (λ (a : List Token). p.spelling x ++ a) k.1 ∙ sym (append_assoc (p.spelling x) k.0 rest),
        inr (join x l.0 k.0 k.2),
        λ t more is j. k.3 t more is (after (room n o) ts x mid (k.0 ++ t ∷ []) more e (k.1 ∙ ap (λ (a : List Token). k.0 ++ a) is ∙ one_on k.0 t more) (subst (LF (room n o)) (append_assoc (p.spelling x) k.0 (t ∷ [])) j)),
      )

  fault_turn : (m : ℕ) → Fault m → (o : Option ℕ) (ts rest : List Token) (c : Bool) → length ts ≤ suc m → turn m o c ts ≡ Err rest → Stuck (LF (room n o)) ts rest
  fault_turn m before o ts rest false few h = absurd cc
  fault_turn m before o ts rest true few h =
      elim (then_err (behind_try n o stmt ts) (goes_on m) rest h) as (λ _. Stuck (LF (room n o)) ts rest) [
        | inl e ↦ tried_err o ts rest e
        | inr v ↦
            let e : stmt ts ≡ Ok (v.0, v.1) = tried_ok o ts v.0 v.1 v.2 in
            elim (then_err (turns m (open_try v.0) v.1) (consed v.0) rest v.3) as (λ _. Stuck (LF (room n o)) ts rest) [
              | inl k ↦ behind_one m o ts rest v.0 v.1 e (before (open_try v.0) v.1 rest (less m ts v.0 v.1 e few) k)
              | inr k ↦ absurd cc
            ]
      ]

  fault_turns : (m : ℕ) → Fault m
  fault_turns zero o ts rest few h = absurd cc
  fault_turns (suc m) o ts rest few h = fault_turn m (fault_turns m) o ts rest (stmt_comes ts) few h

  abbrev Longest : ℕ → Type 0
  Longest m = (o : Option ℕ) (ts : List Token) (xs : List Stmt) (t : Token) (rest : List Token) → length ts ≤ m → turns m o ts ≡ Ok (xs, t ∷ rest) → LF (room n o) (tokens xs ++ t ∷ []) → ⊥

  none_begins : (o : Option ℕ) (t : Token) (rest : List Token) → stmt_comes (t ∷ rest) ≡ false → LF o (t ∷ []) → ⊥
  none_begins o t rest off (inl b) = clash (stmt_comes (t ∷ rest)) (on_comes_first (t ∷ rest) (begins_on o t [] b)) off
  none_begins o t rest off (inr f) = clash (stmt_comes (t ∷ rest)) (list_firsts t [] f) off

  longest_turn : (m : ℕ) → Longest m → (o : Option ℕ) (ts : List Token) (xs : List Stmt) (t : Token) (rest : List Token) (c : Bool) → stmt_comes ts ≡ c → length ts ≤ suc m → turn m o c ts ≡ Ok (xs, t ∷ rest) → LF (room n o) (tokens xs ++ t ∷ []) → ⊥
  longest_turn m before o ts xs t rest false off few h j =
      none_begins (room n o) t rest (ap stmt_comes (sym (same_rest [] xs ts (t ∷ rest) h)) ∙ off) (subst (λ (l : List Stmt). LF (room n o) (tokens l ++ t ∷ [])) (sym (same_value [] xs ts (t ∷ rest) h)) j)
  longest_turn m before o ts xs t rest true on few h j =
      let v = then_ok (behind_try n o stmt ts) (goes_on m) xs (t ∷ rest) h in
      let u = then_ok (turns m (open_try v.0) v.1) (consed v.0) xs (t ∷ rest) v.3 in
      let e : stmt ts ≡ Ok (v.0, v.1) = tried_ok o ts v.0 v.1 v.2 in
      let is : v.0 ∷ u.0 ≡ xs = same_value (v.0 ∷ u.0) xs u.1 (t ∷ rest) u.3 in
      let ends : u.1 ≡ t ∷ rest = same_rest (v.0 ∷ u.0) xs u.1 (t ∷ rest) u.3 in
      let k = sound_turns m (open_try v.0) v.1 u.0 u.1 u.2 in
      before (open_try v.0) v.1 u.0 t rest (less m ts v.0 v.1 e few) (u.2 ∙ ap (gave u.0) ends)
      (after (room n o) ts v.0 v.1 (tokens u.0 ++ t ∷ []) rest e (k.1 ∙ ap (λ (a : List Token). tokens u.0 ++ a) ends ∙ one_on (tokens u.0) t rest)
      (subst (LF (room n o)) (append_assoc (p.spelling v.0) (tokens u.0) (t ∷ [])) (subst (λ (l : List Stmt). LF (room n o) (tokens l ++ t ∷ [])) (sym is) j)))

  none_left : (ts : List Token) (t : Token) (rest : List Token) → length ts ≤ 0 → ts ≡ t ∷ rest → ⊥
  none_left ts t rest few e = omega (arith, few, ap length e)

  longest_turns : (m : ℕ) → Longest m
  longest_turns zero o ts xs t rest few h j = none_left ts t rest few (same_rest [] xs ts (t ∷ rest) h)
  longest_turns (suc m) o ts xs t rest few h j = longest_turn m (longest_turns m) o ts xs t rest (stmt_comes ts) refl few h j

  -- ---- the tokens of statements are read as these

  no_whole_part : (y : Stmt) (o : Option ℕ) (u : List Token) → p.Fits y → Part o (p.spelling y ++ u) → ⊥
  no_whole_part y o u fits v =
      let on : List Token = (on_phrase v.level).spelling v.on in
      elim (cut (p.spelling y) u (on ++ v.next ∷ []) v.more (v.cuts ∙ one_on on v.next v.more)) as (λ _. ⊥) [
        | same a b ↦ N.no_part v.level v.on v.next v.fits v.body (subst p.front a (one_whole S y fits))
        | longer s z a b ↦ N.not_begun v.level y fits (within_part v.level v.on v.next (p.spelling y) s z v.fits a)
        | shorter s z a b ↦ N.no_part v.level v.on v.next v.fits v.body (S.laws.closed (on ++ v.next ∷ []) (s ∷ z) (subst p.front a (one_whole S y fits)))
      ]

  no_part_behind : (o : Option ℕ) (xs : List Stmt) (rest : List Token) → F xs → Stops class_of behind_list rest → part_begins o (tokens xs ++ rest) ≡ false
  no_part_behind o [] rest fits stop = part_off o rest (stops_within class_of (on_code ∷ []) behind_list (λ k h. (inside {xs = on_code ∷ []} {ys = behind_list} refl).in_second k h) rest stop)
  no_part_behind o (y ∷ ys) rest fits stop = not_true (part_begins o ((p.spelling y ++ tokens ys) ++ rest)) (λ on.
      no_whole_part y o (tokens ys ++ rest) fits.0 (subst (Part o) (append_assoc (p.spelling y) (tokens ys) rest) (part_is o ((p.spelling y ++ tokens ys) ++ rest) on)))

  stops_behind : (x : Stmt) (xs : List Stmt) (rest : List Token) → F xs → Stops class_of behind_list rest → Stops class_of (part_codes (level x) ++ else_of x) (tokens xs ++ rest)
  stops_behind x [] rest fits stop = stops_within class_of (part_codes (level x) ++ else_of x) behind_list (λ k h. has_right stmt_first still k ((still_codes (level x) (not (is_shut x))).in_second k h)) rest stop
  stops_behind x (y ∷ ys) rest fits stop = stops_at x ((p.spelling y ++ tokens ys) ++ rest) (ap (starts class_of stmt_first) (append_assoc (p.spelling y) (tokens ys) rest) ∙ one_begins S y (tokens ys ++ rest) fits.0)

  off_at : (rest : List Token) → Stops class_of behind_list rest → stmt_comes rest ≡ false
  off_at rest stop = stops_within class_of stmt_first behind_list (λ k h. has_left stmt_first still k h) rest stop

  complete_turns : (m : ℕ) (o : Option ℕ) (xs : List Stmt) (rest : List Token) → length (tokens xs ++ rest) ≤ m → F xs → Stops class_of behind_list rest → turns m o (tokens xs ++ rest) ≡ Ok (xs, rest)
  complete_turns zero o [] rest few fits stop = refl
  complete_turns (suc m) o [] rest few fits stop = ap (λ (c : Bool). turn m o c rest) (off_at rest stop)
  complete_turns zero o (x ∷ xs) rest few fits stop =
      let group = append_assoc (p.spelling x) (tokens xs) rest in
      absurd (omega (arith, fewer (p.spelling x) (tokens xs ++ rest) 0 (λ b. one_filled S x fits.0 b) (subst (λ (a : List Token). length a ≤ 0) group few)))
  complete_turns (suc m) o (x ∷ xs) rest few fits stop =
      let group = append_assoc (p.spelling x) (tokens xs) rest in
      let f : length (tokens xs ++ rest) < suc m = fewer (p.spelling x) (tokens xs ++ rest) (suc m) (λ b. one_filled S x fits.0 b) (subst (λ (a : List Token). length a ≤ suc m) group few) in
      let on : stmt_comes (p.spelling x ++ (tokens xs ++ rest)) ≡ true = one_begins S x (tokens xs ++ rest) fits.0 in
      let e = tried_gives o (p.spelling x ++ (tokens xs ++ rest)) x (tokens xs ++ rest) (S.complete x (tokens xs ++ rest) fits.0 (stops_behind x xs rest fits.1 stop) (no_part_behind (level x) xs rest fits.1 stop)) in
      ap (turns (suc m) o) group ∙ ap (λ (c : Bool). turn m o c (p.spelling x ++ (tokens xs ++ rest))) on ∙ ap (λ (r : Outcome Token Stmt). and_then r (goes_on m)) e
      ∙ ap (λ (r : Outcome Token (List Stmt)). and_then r (consed x)) (complete_turns m (open_try x) xs rest (omega (arith, f)) fits.1 stop)

  -- ---- the law

  abbrev reader : Reader Token (List Stmt)
  reader = stmts_where n stmt_comes stmt

  whole_list : (xs : List Stmt) → F xs → L (tokens xs)
  whole_list xs fits = (xs, [], each xs fits, sym (append-nil (tokens xs)), S.laws.none) where
    each : (xs : List Stmt) → F xs → AllByRecursion (GoesOn p.Fits always) xs
    each [] fits = tt
    each (x ∷ xs) fits = ((fits.0, refl), each xs fits.1)

  out_none : (ts rest : List Token) → Stuck (LF None) ts rest → Stuck L ts rest
  out_none ts rest (before, e, inl b, ends) = (before, e, subst L (sym b) ([], [], tt, refl, S.laws.none), λ t more is f. ends t more is (inr f))
  out_none ts rest (before, e, inr f, ends) = (before, e, f, λ t more is f. ends t more is (inr f))

  nexts_by : (xs : List Stmt) (t : Token) (ts : List Token) → F xs → L (tokens xs ++ t ∷ ts) → (has behind_list (class_of t) ≡ true) ⊎ (has behind_list (class_of t) ≡ false) → has behind_list (class_of t) ≡ true
  nexts_by xs t ts fits f (inl on) = on
  nexts_by xs t ts fits f (inr off) = absurd (longest_turns (length (tokens xs ++ t ∷ ts)) None (tokens xs ++ t ∷ ts) xs t ts (omega arith)
      (complete_turns (length (tokens xs ++ t ∷ ts)) None xs (t ∷ ts) (omega arith) fits off) (inr (by_one list_closed (tokens xs) t ts f)))

  pub stmts_laws : Reads (stmts_where n stmt_comes stmt) (many p) stmt_first (λ xs. behind_list) true
  stmts_laws = record {
    sound = λ ts xs rest h. sound_turns (length ts) None ts xs rest h;
    longest = λ ts xs t rest h f. longest_turns (length ts) None ts xs t rest (omega arith) h (inr f);
    fault = λ ts rest h. out_none ts rest (fault_turns (length ts) None ts rest (omega arith) h);
    complete = λ xs rest fits stop. complete_turns (length (tokens xs ++ rest)) None xs rest (omega arith) fits stop;
    whole = whole_list;
    none = ([], [], tt, refl, S.laws.none);
    closed = list_closed;
    firsts = list_firsts;
    nexts = λ xs t ts fits f. nexts_by xs t ts fits f (cases_bool (has behind_list (class_of t)));
    empties = λ xs fits e. refl;
  }
