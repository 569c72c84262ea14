-- The law of statements behind one another and of what stands behind them, over any reader of statements of the law with what is begun behind
-- them: a test tells where they go on (ECMA-408, 17.1 Blocks, 17.9 Switch).
use Rattle.std.proofs.Common.{◌≡◌, ℕ, zero, suc, ◌+◌, ◌-◌, ◌<◌, ◌≤◌, Bool, true, false, if◌then◌else◌, ◌⊎◌, inl, inr, List, [], ◌∷◌, ◌++◌, length, Option, None, Some, Ok, Err, refl, sym, ap, subst, ◌∙◌, append_assoc, arith, ltb}
use Rattle.std.proofs.lemmas.List.{length-append}
use Rattle.std.specs.List.{flat_map, AllByRecursion}
use Rattle.dart_base.specs.declared.place.Place.{Place}
use Rattle.dart_token.specs.declared.token.Token.{Token}
use Rattle.dart_tree.specs.Types.{TypeNode}
use Rattle.dart_tree.specs.Tree.{Stmt}
use Rattle.grammar_laws.specs.Codes.{has, Apart}
use Rattle.grammar_laws.specs.Readers.{Outcome, Reader, and_then, both, starts, cons_to, always, farther}
use Rattle.grammar_laws.specs.Fronts.{Front, Either, GoesOn}
use Rattle.grammar_laws.specs.Laws.{Stops, Stuck}
use Rattle.grammar_laws.proofs.Codes.{clash, cases_bool, has_right, has_left}
use Rattle.grammar_laws.proofs.Cuts.{same, longer, shorter, cut, gave, failed, both_ok, both_err, then_ok, then_err, same_value, same_rest, same_fault, fewer}
use Rattle.grammar_laws.proofs.Joints.{stops_within, one_on}
use Rattle.grammar_laws.proofs.Steps.{both_gives}
use Rattle.grammar_laws.proofs.Tried.{by_length, never_ok}
use Rattle.dart_syntax.specs.Phrases.{Phrase, ◌~◌, many}
use Rattle.token_codes.specs.Codes.{class_of}
use Rattle.token_codes.specs.Reads.{Reads}
use Rattle.syntax_readers.specs.Combinators.{halting}
use Rattle.syntax_readers.specs.Types.{type_reader}
use Rattle.syntax_readers.specs.Statements.{open_try, on_type, behind_try, stmt_turns, stmt_first}
use Rattle.laws_apart.specs.Statements.{body_codes}
use Rattle.laws_block.specs.Begun.{on_phrase, Begins, part_begins, room, level_of, StmtReads, Partless}
use Rattle.laws_block.proofs.On.{on_reads}
use Rattle.laws_block.proofs.Faults.{Closed, by_one, later_stuck}
use Rattle.laws_block.proofs.Begun.{Gives, gives, halts, Part, part_is, begins_closed, within_part}
use Rattle.laws_block.proofs.Ends.{Ends_run, behind_run, still, stops_at, no_part_behind, still_behind}
use Rattle.laws_block.proofs.Single.{one_sound, one_fault, one_whole, one_begins, one_filled, one_goes, no_pair}

module _ (n : ℕ) {stmt : Reader Token Stmt} {p : Phrase Stmt} (S : StmtReads n stmt p stmt_first) (N : Partless p) (test : List Token → Bool)
    {X : Type 0} {tail : Reader Token X} {q : Phrase X} {first next : List ℕ} (Q : Reads tail q first (λ y. next) true) (off : Apart still first) (E : Ends_run p test q first next) where
  abbrev L : Front Token
  L = (many p ~ q).front

  abbrev F : List Stmt → Type 0
  F = AllByRecursion p.Fits

  abbrev tokens : List Stmt → List Token
  tokens = flat_map p.spelling

  abbrev level : Stmt → Option ℕ
  level = level_of n

  abbrev firsts_of : List ℕ
  firsts_of = stmt_first ++ first

  -- ---- fronts

  each : (xs : List Stmt) → F xs → AllByRecursion (GoesOn p.Fits always) xs
  each [] fits = tt
  each (x ∷ xs) fits = ((fits.0, refl), each xs fits.1)

  by_q : (z : List Token) → q.front z → L z
  by_q z f = inr ([], z, tt, refl, refl, f)

  by_p : (z : List Token) → p.front z → L z
  by_p z f = inl ([], z, tt, refl, f)

  list_behind : (a : Stmt) → p.Fits a → (z : List Token) → L z → L (p.spelling a ++ z)
  list_behind a fits z (inl (all, more, fs, e, f)) = inl (a ∷ all, more, ((fits, refl), fs), ap (λ (m : List Token). p.spelling a ++ m) e ∙ sym (append_assoc (p.spelling a) (tokens all) more), f)
  list_behind a fits z (inr (all, more, fs, on, e, f)) = inr (a ∷ all, more, (fits, fs), refl, ap (λ (m : List Token). p.spelling a ++ m) e ∙ sym (append_assoc (p.spelling a) (tokens all) more), f)

  -- a front of a statement, or of what stands behind, or a statement and a front of the same
  data View (m : List Token) : Type 0 where
    of_stmt : p.front m → View m
    of_tail : q.front m → View m
    of_more : (y : Stmt) (r : List Token) → p.Fits y → m ≡ p.spelling y ++ r → L r → View m

  view : (m : List Token) → L m → View m
  view m (inl ([], more, fits, e, f)) = of_stmt (subst p.front (sym e) f)
  view m (inl (y ∷ ys, more, fits, e, f)) = of_more y (tokens ys ++ more) fits.0.0 (e ∙ append_assoc (p.spelling y) (tokens ys) more) (inl (ys, more, fits.1, refl, f))
  view m (inr ([], more, fits, on, e, f)) = of_tail (subst q.front (sym e) f)
  view m (inr (y ∷ ys, more, fits, on, e, f)) = of_more y (tokens ys ++ more) fits.0 (e ∙ append_assoc (p.spelling y) (tokens ys) more) (inr (ys, more, fits.1, refl, refl, f))

  closed_p : (all : List Stmt) (x y more : List Token) → AllByRecursion (GoesOn p.Fits always) all → x ++ y ≡ tokens all ++ more → p.front more → L x
  closed_p [] x y more fits e f = by_p x (S.laws.closed x y (subst p.front (sym e) f))
  closed_p (a ∷ all) x y more fits e f =
      elim (cut x y (p.spelling a) (tokens all ++ more) (e ∙ append_assoc (p.spelling a) (tokens all) more)) as (λ _. L x) [
        | same u v ↦ by_p x (subst p.front (sym u) (one_whole S a fits.0.0))
        | longer t z u v ↦ by_p x (S.laws.closed x (t ∷ z) (subst p.front u (one_whole S a fits.0.0)))
        | shorter t z u v ↦ subst L (sym u) (list_behind a fits.0.0 (t ∷ z) (closed_p all (t ∷ z) y more fits.1 (sym v) f))
      ]

  closed_q : (all : List Stmt) (x y more : List Token) → F all → x ++ y ≡ tokens all ++ more → q.front more → L x
  closed_q [] x y more fits e f = by_q x (Q.closed x y (subst q.front (sym e) f))
  closed_q (a ∷ all) x y more fits e f =
      elim (cut x y (p.spelling a) (tokens all ++ more) (e ∙ append_assoc (p.spelling a) (tokens all) more)) as (λ _. L x) [
        | same u v ↦ by_p x (subst p.front (sym u) (one_whole S a fits.0))
        | longer t z u v ↦ by_p x (S.laws.closed x (t ∷ z) (subst p.front u (one_whole S a fits.0)))
        | shorter t z u v ↦ subst L (sym u) (list_behind a fits.0 (t ∷ z) (closed_q all (t ∷ z) y more fits.1 (sym v) f))
      ]

  list_closed : Closed L
  list_closed x y (inl (all, more, fits, e, f)) = closed_p all x y more fits e f
  list_closed x y (inr (all, more, fits, on, e, f)) = closed_q all x y more fits e f

  list_firsts : (t : Token) (ts : List Token) → L (t ∷ ts) → has firsts_of (class_of t) ≡ true
  list_firsts t ts f = elim (view (t ∷ ts) f) as (λ _. has firsts_of (class_of t) ≡ true) [
    | of_stmt g ↦ has_left stmt_first first (class_of t) (S.laws.firsts t ts g)
    | of_tail g ↦ has_right stmt_first first (class_of t) (Q.firsts t ts g)
    | of_more y r fits e g ↦ has_left stmt_first first (class_of t) (ap (starts class_of stmt_first) e ∙ one_begins S y r fits)
  ]

  list_no_part : (k : ℕ) (x : Place × TypeNode) (t : Token) → (on_phrase k).Fits x → has body_codes (class_of t) ≡ true → L ((on_phrase k).spelling x ++ t ∷ []) → ⊥
  list_no_part k x t fx b f = elim (view ((on_phrase k).spelling x ++ t ∷ []) f) as (λ _. ⊥) [
    | of_stmt g ↦ N.no_part k x t fx b g
    | of_tail g ↦ E.no_part k x t fx b g
    | of_more y r fits e g ↦ elim (cut ((on_phrase k).spelling x) (t ∷ []) (p.spelling y) r e) as (λ _. ⊥) [
      | same u v ↦ N.not_begun k y fits (subst (on_phrase k).front u ((on_reads k).whole x fx))
      | longer s z u v ↦
          let is : t ≡ s = cc in
          N.no_part k x t fx b (subst (λ (c : Token). p.front ((on_phrase k).spelling x ++ c ∷ [])) (sym is) (by_one S.laws.closed ((on_phrase k).spelling x) s z (subst p.front u (one_whole S y fits))))
      | shorter s z u v ↦ N.not_begun k y fits ((on_reads k).closed (p.spelling y) (s ∷ z) (subst (on_phrase k).front u ((on_reads k).whole x fx)))
    ]
  ]

  -- ---- behind a statement

  -- a statement is read where others are begun behind it, unless they begin a part of it
  behind_whole : (y : Stmt) (t : Token) (z rest ts : List Token) → p.Fits y → ts ≡ p.spelling y ++ t ∷ (z ++ rest) → L (t ∷ z) → (stmt ts ≡ Ok (y, t ∷ (z ++ rest))) ⊎ Begins (level y) (t ∷ z)
  behind_whole y t z rest ts fits e f = elim (cases_bool (part_begins (level y) (t ∷ (z ++ rest)))) [
    | inl on ↦ inr (of (part_is (level y) (t ∷ (z ++ rest)) on))
    | inr no_part ↦ inl (ap stmt e ∙ S.complete y (t ∷ (z ++ rest)) fits (stops_at n S N test Q off E y (t ∷ (z ++ rest)) (list_firsts t z f)) no_part)
  ] where
    of : Part (level y) (t ∷ (z ++ rest)) → Begins (level y) (t ∷ z)
    of v =
        let on : List Token = (on_phrase v.level).spelling v.on in
        elim (cut (t ∷ z) rest (on ++ v.next ∷ []) v.more (v.cuts ∙ one_on on v.next v.more)) as (λ _. Begins (level y) (t ∷ z)) [
          | same a b ↦ absurd (list_no_part v.level v.on v.next v.fits v.body (subst L a f))
          | longer s w a b ↦ subst (λ (o : Option ℕ). Begins o (t ∷ z)) (sym v.same) (within_part v.level v.on v.next (t ∷ z) s w v.fits a)
          | shorter s w a b ↦ absurd (list_no_part v.level v.on v.next v.fits v.body (list_closed (on ++ v.next ∷ []) (s ∷ w) (subst L a f)))
        ]

  -- no statement that was read has a shorter one with others behind it
  no_less : (ts : List Token) (x y : Stmt) (mid z rest : List Token) (s : Token) (w : List Token) → stmt ts ≡ Ok (x, mid) → mid ≡ z ++ rest → p.Fits y → p.spelling x ≡ p.spelling y ++ s ∷ w → L (s ∷ (w ++ z)) → ⊥
  no_less ts x y mid z rest s w e is fits u f =
      let l = one_sound S ts x mid e in
      let at : ts ≡ p.spelling y ++ s ∷ ((w ++ z) ++ rest) = l.1 ∙ ap (λ (m : List Token). m ++ mid) u ∙ append_assoc (p.spelling y) (s ∷ w) mid ∙ ap (λ (m : List Token). p.spelling y ++ (s ∷ (w ++ m))) is
      ∙ ap (λ (m : List Token). p.spelling y ++ s ∷ m) (sym (append_assoc w z rest)) in
      elim (behind_whole y s (w ++ z) rest ts fits at f) as (λ _. ⊥) [
        | inl h ↦
            let far : mid ≡ s ∷ ((w ++ z) ++ rest) = same_rest x y mid (s ∷ ((w ++ z) ++ rest)) (sym e ∙ h) in
            omega (arith, ap length far, ap length is, length-append z rest, length-append w z, length-append (w ++ z) rest)
        | inr b ↦ no_pair S y x s w fits l.0 (begins_closed (level y) (s ∷ w) z b) u
      ]

  -- what goes on behind a statement that was read begins a part of it, or the rest
  list_goes : (ts : List Token) (x : Stmt) (mid z rest : List Token) → stmt ts ≡ Ok (x, mid) → mid ≡ z ++ rest → L (p.spelling x ++ z) → Begins (level x) z ⊎ L z
  list_goes ts x mid z rest e is f = elim (view (p.spelling x ++ z) f) [
    | of_stmt g ↦ inl (one_goes S ts x mid z rest e is g)
    | of_tail g ↦ absurd (E.over x z (one_sound S ts x mid e).0 g)
    | of_more y r fits h g ↦ elim (cut (p.spelling x) z (p.spelling y) r h) [
      | same u v ↦ inr (subst L (sym v) g)
      | longer s w u v ↦ absurd (no_pair S x y s w (one_sound S ts x mid e).0 fits
          (one_goes S ts x mid (s ∷ w) (r ++ rest) e (is ∙ ap (λ (m : List Token). m ++ rest) v ∙ append_assoc (s ∷ w) r rest) (subst p.front u (one_whole S y fits))) u)
      | shorter s w u v ↦ absurd (no_less ts x y mid z rest s w e is fits u (subst L v g))
    ]
  ]

  -- a fault of a statement is one of all
  list_stuck : (ts rest : List Token) → test ts ≡ true → stmt ts ≡ Err rest → Stuck L ts rest
  list_stuck ts rest on e = at (one_fault S ts rest e) where
    never : (y : Stmt) (u : List Token) → stmt ts ≡ Ok (y, u) → ⊥
    never y u h = let bad : failed {A = Stmt} rest ≡ gave y u = sym e ∙ h in absurd cc

    beyond_one : (k : Stuck p.front ts rest) (t : Token) (more : List Token) → rest ≡ t ∷ more → (y : Stmt) (r : List Token) → p.Fits y → k.0 ++ t ∷ [] ≡ p.spelling y ++ r → L r → ⊥
    beyond_one k t more is y r fits h g =
        elim (cut k.0 (t ∷ []) (p.spelling y) r h) as (λ _. ⊥) [
          | same u v ↦ elim (behind_whole y t [] more ts fits (k.1 ∙ ap (λ (a : List Token). a ++ rest) u ∙ ap (λ (a : List Token). p.spelling y ++ a) is) (subst L (sym v) g)) as (λ _. ⊥) [
            | inl j ↦ never y (t ∷ more) j
            | inr b ↦ k.3 t more is (subst (λ (a : List Token). p.front (a ++ t ∷ [])) (sym u) (S.laws.whole (y, t ∷ []) (fits, b)))
          ]
          | longer s w u v ↦
              let same_token : t ≡ s = cc in
              k.3 t more is (subst (λ (c : Token). p.front (k.0 ++ c ∷ [])) (sym same_token) (by_one S.laws.closed k.0 s w (subst p.front u (one_whole S y fits))))
          | shorter s w u v ↦
              let far : ts ≡ p.spelling y ++ s ∷ ((w ++ t ∷ []) ++ more) = k.1 ∙ ap (λ (a : List Token). a ++ rest) u ∙ append_assoc (p.spelling y) (s ∷ w) rest ∙ ap (λ (a : List Token). p.spelling y ++ s ∷ (w ++ a)) is
              ∙ ap (λ (a : List Token). p.spelling y ++ s ∷ a) (one_on w t more) in
              elim (behind_whole y s (w ++ t ∷ []) more ts fits far (subst L v g)) as (λ _. ⊥) [
                | inl j ↦ never y (s ∷ ((w ++ t ∷ []) ++ more)) j
                | inr b ↦ k.3 t more is (subst p.front (sym (append_assoc (p.spelling y) (s ∷ w) (t ∷ [])) ∙ ap (λ (a : List Token). a ++ t ∷ []) (sym u)) (S.laws.whole (y, s ∷ (w ++ t ∷ [])) (fits, b)))
              ]
        ]

    no_more : (k : Stuck p.front ts rest) (t : Token) (more : List Token) → rest ≡ t ∷ more → L (k.0 ++ t ∷ []) → ⊥
    no_more k t more is f = elim (view (k.0 ++ t ∷ []) f) as (λ _. ⊥) [
      | of_stmt g ↦ k.3 t more is g
      | of_tail g ↦ k.3 t more is (E.goes_on k.0 more t (ap test (sym (k.1 ∙ ap (λ (a : List Token). k.0 ++ a) is ∙ one_on k.0 t more)) ∙ on) g)
      | of_more y r fits h g ↦ beyond_one k t more is y r fits h g
    ]

    at : Stuck p.front ts rest → Stuck L ts rest
    at k = (k.0, k.1, by_p k.0 k.2, λ t more is j. no_more k t more is j)

  -- ---- a statement behind another one

  abbrev LF : Option ℕ → Front Token
  LF o = Either (Begins o) L

  abbrev on_read : ℕ → Outcome Token (Place × TypeNode) → Outcome Token Stmt → Outcome Token Stmt
  on_read k r q = farther (and_then r (λ a rest. Err rest)) q

  gives_by : (k : ℕ) (x : Stmt) (mid : List Token) (r : Outcome Token (Place × TypeNode)) (q : Outcome Token Stmt) → q ≡ Ok (x, mid) → on_read k r q ≡ Ok (x, mid)
  gives_by k x mid (Ok z) q e = ap (λ (o : Outcome Token Stmt). farther (Err z.1) o) e
  gives_by k x mid (Err d) q e = ap (λ (o : Outcome Token Stmt). farther (Err d) o) e

  tried_gives : (o : Option ℕ) (ts : List Token) (x : Stmt) (mid : List Token) → stmt ts ≡ Ok (x, mid) → behind_try n o stmt ts ≡ Ok (x, mid)
  tried_gives None ts x mid e = e
  tried_gives (Some above) ts x mid e = gives_by (n - (above + 1)) x mid (on_type (type_reader (n - (above + 1))) ts) (stmt ts) e

  ok_by : (k : ℕ) (x : Stmt) (mid : List Token) (r : Outcome Token (Place × TypeNode)) (q : Outcome Token Stmt) → on_read k r q ≡ Ok (x, mid) → q ≡ Ok (x, mid)
  ok_by k x mid (Ok z) (Ok y) h = h
  ok_by k x mid (Err d) (Ok y) h = h
  ok_by k x mid (Ok z) (Err e) h = absurd (never_ok (ltb (length z.1) (length e)) z.1 e (x, mid) h)
  ok_by k x mid (Err d) (Err e) h = absurd (never_ok (ltb (length d) (length e)) d e (x, mid) h)

  tried_ok : (o : Option ℕ) (ts : List Token) (x : Stmt) (mid : List Token) → behind_try n o stmt ts ≡ Ok (x, mid) → stmt ts ≡ Ok (x, mid)
  tried_ok None ts x mid h = h
  tried_ok (Some above) ts x mid h = ok_by (n - (above + 1)) x mid (on_type (type_reader (n - (above + 1))) ts) (stmt ts) h

  none_here : (a : List Token) (t : Token) → a ++ t ∷ [] ≡ [] → ⊥
  none_here [] t e = absurd cc
  none_here (s ∷ a) t e = absurd cc

  abbrev stop : Place × TypeNode → Reader Token Stmt
  stop a rest = Err rest

  halted : (k : ℕ) (ts d : List Token) → halting {B = Stmt} (on_type (type_reader k)) ts ≡ Err d → Stuck (on_phrase k).front ts d
  halted k ts d h = at (gives (Some k) ts) where
    at : Gives (Some k) ts → Stuck (on_phrase k).front ts d
    at g = subst (Stuck (on_phrase k).front ts) (same_fault {A = Stmt} g.rest d (sym (halts k ts g.tokens g.rest g.read) ∙ h)) (g.tokens, g.cuts, g.fits, g.ended)

  later : (k : ℕ) (ts d e rest : List Token) → test ts ≡ true → halting {B = Stmt} (on_type (type_reader k)) ts ≡ Err d → stmt ts ≡ Err e → by_length {A = Stmt} (ltb (length d) (length e)) d e ≡ Err rest → Stuck (LF (Some k)) ts rest
  later k ts d e rest on h g b = later_stuck (λ x y f. (on_reads k).closed x y f) list_closed {A = Stmt} ts d e rest (ltb (length d) (length e)) refl (halted k ts d h) (list_stuck ts e on g) b

  err_by : (k : ℕ) (ts rest : List Token) → test ts ≡ true → (r : Outcome Token (Place × TypeNode)) (q : Outcome Token Stmt) → on_type (type_reader k) ts ≡ r → stmt ts ≡ q → on_read k r q ≡ Err rest → Stuck (LF (Some k)) ts rest
  err_by k ts rest on (Ok z) (Ok y) e g h = absurd cc
  err_by k ts rest on (Err d) (Ok y) e g h = absurd cc
  err_by k ts rest on (Ok z) (Err x) e g h = later k ts z.1 x rest on (ap (λ (o : Outcome Token (Place × TypeNode)). and_then o stop) e) g h
  err_by k ts rest on (Err d) (Err x) e g h = later k ts d x rest on (ap (λ (o : Outcome Token (Place × TypeNode)). and_then o stop) e) g h

  tried_err : (o : Option ℕ) (ts rest : List Token) → test ts ≡ true → behind_try n o stmt ts ≡ Err rest → Stuck (LF (room n o)) ts rest
  tried_err None ts rest on h =
      let k = list_stuck ts rest on h in (
        k.0,
        k.1,
        inr k.2,
        λ t more is j.
            elim j as (λ _. ⊥) [
              | inl e ↦ none_here k.0 t e
              | inr f ↦ k.3 t more is f
            ],
      )
  tried_err (Some above) ts rest on h = err_by (n - (above + 1)) ts rest on (on_type (type_reader (n - (above + 1))) ts) (stmt ts) refl refl h

  -- ---- turns

  abbrev turns : ℕ → Option ℕ → Reader Token (List Stmt)
  turns = stmt_turns n test stmt

  abbrev goes_on : ℕ → Stmt → Reader Token (List Stmt)
  goes_on m x mid = cons_to x (turns m (open_try x) mid)

  abbrev turn : ℕ → Option ℕ → Bool → Reader Token (List Stmt)
  turn m o c ts = if c then and_then (behind_try n o stmt ts) (goes_on m) else Ok ([], ts)

  abbrev consed : Stmt → List Stmt → Reader Token (List Stmt)
  consed x xs rest = Ok (x ∷ xs, rest)

  less : (m : ℕ) (ts : List Token) (x : Stmt) (mid : List Token) → stmt ts ≡ Ok (x, mid) → length ts ≤ suc m → length mid ≤ m
  less m ts x mid e few =
      let l = one_sound S ts x mid e in
      let f : length mid < suc m = fewer (p.spelling x) mid (suc m) (λ b. one_filled S x l.0 b) (subst (λ (a : List Token). length a ≤ suc m) l.1 few) in
      omega (arith, f)

  none_left : (ts : List Token) (t : Token) (rest : List Token) → length ts ≤ 0 → ts ≡ t ∷ rest → ⊥
  none_left ts t rest few e = omega (arith, few, ap length e)

  abbrev pub Read : List Token → List Stmt → List Token → Type 0
  Read ts xs mid = F xs × (ts ≡ tokens xs ++ mid) × (test mid ≡ false)

  none_read : (ts : List Token) (xs : List Stmt) (mid : List Token) → test ts ≡ false → gave [] ts ≡ gave xs mid → Read ts xs mid
  none_read ts xs mid ceased h =
      let e : [] ≡ xs = same_value [] xs ts mid h in
      let r : ts ≡ mid = same_rest [] xs ts mid h in
      (subst F e tt, r ∙ ap (λ (l : List Stmt). tokens l ++ mid) e, ap test (sym r) ∙ ceased)

  abbrev pub Sound : ℕ → Type 0
  Sound m = (o : Option ℕ) (ts : List Token) (xs : List Stmt) (mid : List Token) → length ts ≤ m → turns m o ts ≡ Ok (xs, mid) → Read ts xs mid

  sound_turn : (m : ℕ) → Sound m → (o : Option ℕ) (ts : List Token) (xs : List Stmt) (mid : List Token) (c : Bool) → test ts ≡ c → length ts ≤ suc m → turn m o c ts ≡ Ok (xs, mid) → Read ts xs mid
  sound_turn m before o ts xs mid false ceased few h = none_read ts xs mid ceased h
  sound_turn m before o ts xs mid true on few h =
      let v = then_ok (behind_try n o stmt ts) (goes_on m) xs mid h in
      let u = then_ok (turns m (open_try v.0) v.1) (consed v.0) xs mid v.3 in
      let e : stmt ts ≡ Ok (v.0, v.1) = tried_ok o ts v.0 v.1 v.2 in
      let l = one_sound S ts v.0 v.1 e in
      let k = before (open_try v.0) v.1 u.0 u.1 (less m ts v.0 v.1 e few) u.2 in
      let is : v.0 ∷ u.0 ≡ xs = same_value (v.0 ∷ u.0) xs u.1 mid u.3 in
      let ends : u.1 ≡ mid = same_rest (v.0 ∷ u.0) xs u.1 mid u.3 in (
        subst F is (l.0, k.0),
        l.1 ∙ ap (λ (a : List Token). p.spelling v.0 ++ a) k.1 ∙ sym (append_assoc (p.spelling v.0) (tokens u.0) u.1) ∙ ap (λ (a : List Token). tokens (v.0 ∷ u.0) ++ a) ends ∙ ap (λ (a : List Stmt). tokens a ++ mid) is,
        ap test (sym ends) ∙ k.2,
      )

  empty_list : (ts : List Token) → length ts ≤ 0 → ts ≡ []
  empty_list [] few = refl
  empty_list (t ∷ ts) few = absurd (none_left (t ∷ ts) t ts few refl)

  pub sound_turns : (m : ℕ) → Sound m
  sound_turns zero o ts xs mid few h = none_read ts xs mid (ap test (empty_list ts few) ∙ E.none) h
  sound_turns (suc m) o ts xs mid few h = sound_turn m (sound_turns m) o ts xs mid (test ts) refl few h

  -- a statement, and what is begun or goes on behind it
  join : (x : Stmt) → p.Fits x → (z : List Token) → LF (level x) z → L (p.spelling x ++ z)
  join x fits z (inl b) = by_p (p.spelling x ++ z) (S.laws.whole (x, z) (fits, b))
  join x fits z (inr f) = list_behind x fits z f

  not_begun : (o : Option ℕ) (x : Stmt) → p.Fits x → Begins o (p.spelling x) → ⊥
  not_begun None x fits b = one_filled S x fits b
  not_begun (Some k) x fits b = N.not_begun k x fits b

  after : (o : Option ℕ) (ts : List Token) (x : Stmt) (mid z rest : List Token) → stmt ts ≡ Ok (x, mid) → mid ≡ z ++ rest → LF o (p.spelling x ++ z) → LF (level x) z
  after o ts x mid z rest e is (inl b) = absurd (not_begun o x (one_sound S ts x mid e).0 (begins_closed o (p.spelling x) z b))
  after o ts x mid z rest e is (inr f) = list_goes ts x mid z rest e is f

  behind_one : (o : Option ℕ) (ts rest : List Token) (x : Stmt) (mid : List Token) → stmt ts ≡ Ok (x, mid) → Stuck (LF (level x)) mid rest → Stuck (LF o) ts rest
  behind_one o ts rest x mid e k =
      let l = one_sound S ts x mid e in (
        p.spelling x ++ k.0,
        l.1 ∙ ap (λ (a : List Token). p.spelling x ++ a) k.1 ∙ sym (append_assoc (p.spelling x) k.0 rest),
        inr (join x l.0 k.0 k.2),
        λ t more is j. k.3 t more is (after o ts x mid (k.0 ++ t ∷ []) more e (k.1 ∙ ap (λ (a : List Token). k.0 ++ a) is ∙ one_on k.0 t more) (subst (LF o) (append_assoc (p.spelling x) k.0 (t ∷ [])) j)),
      )

  -- ---- what stands behind the statements

  at_tail : (o : Option ℕ) (z w : List Token) → test (z ++ w) ≡ false → LF o z → q.front z
  at_tail o z w ceased (inl b) = E.begun o z w ceased b
  at_tail o z w ceased (inr f) = elim (view z f) as (λ _. q.front z) [
    | of_stmt g ↦ E.stops z w ceased g
    | of_tail g ↦ g
    | of_more y r fits e g ↦ clash (test (z ++ w)) (ap test (ap (λ (m : List Token). m ++ w) e ∙ append_assoc (p.spelling y) r w) ∙ E.statement y (r ++ w) fits) ceased
  ]

  tail_stuck : (o : Option ℕ) (ts rest : List Token) → test ts ≡ false → tail ts ≡ Err rest → Stuck (LF o) ts rest
  tail_stuck o ts rest ceased e =
      let k = Q.fault ts rest e in
      (k.0, k.1, inr (by_q k.0 k.2), λ t more is j. k.3 t more is (at_tail o (k.0 ++ t ∷ []) more (ap test (sym (k.1 ∙ ap (λ (a : List Token). k.0 ++ a) is ∙ one_on k.0 t more)) ∙ ceased) j))

  -- ---- faults

  abbrev Fault : ℕ → Type 0
  Fault m = (o : Option ℕ) (ts rest : List Token) → length ts ≤ m → turns m o ts ≡ Err rest → Stuck (LF (room n o)) ts rest

  fault_turn : (m : ℕ) → Fault m → (o : Option ℕ) (ts rest : List Token) (c : Bool) → test ts ≡ c → length ts ≤ suc m → turn m o c ts ≡ Err rest → Stuck (LF (room n o)) ts rest
  fault_turn m before o ts rest false ceased few h = absurd cc
  fault_turn m before o ts rest true on few h =
      elim (then_err (behind_try n o stmt ts) (goes_on m) rest h) as (λ _. Stuck (LF (room n o)) ts rest) [
        | inl e ↦ tried_err o ts rest on e
        | inr v ↦
            let e : stmt ts ≡ Ok (v.0, v.1) = tried_ok o ts v.0 v.1 v.2 in
            elim (then_err (turns m (open_try v.0) v.1) (consed v.0) rest v.3) as (λ _. Stuck (LF (room n o)) ts rest) [
              | inl k ↦ behind_one (room n o) ts rest v.0 v.1 e (before (open_try v.0) v.1 rest (less m ts v.0 v.1 e few) k)
              | inr k ↦ absurd cc
            ]
      ]

  fault_turns : (m : ℕ) → Fault m
  fault_turns zero o ts rest few h = absurd cc
  fault_turns (suc m) o ts rest few h = fault_turn m (fault_turns m) o ts rest (test ts) refl few h

  -- a fault behind the statements
  abbrev Later : ℕ → Type 0
  Later m = (o : Option ℕ) (ts : List Token) (xs : List Stmt) (mid rest : List Token) → length ts ≤ m → turns m o ts ≡ Ok (xs, mid) → tail mid ≡ Err rest → Stuck (LF (room n o)) ts rest

  later_turn : (m : ℕ) → Later m → (o : Option ℕ) (ts : List Token) (xs : List Stmt) (mid rest : List Token) (c : Bool) → test ts ≡ c → length ts ≤ suc m → turn m o c ts ≡ Ok (xs, mid) → tail mid ≡ Err rest → Stuck (LF (room n o)) ts rest
  later_turn m before o ts xs mid rest false ceased few h e = tail_stuck (room n o) ts rest ceased (ap tail (same_rest [] xs ts mid h) ∙ e)
  later_turn m before o ts xs mid rest true on few h e =
      let v = then_ok (behind_try n o stmt ts) (goes_on m) xs mid h in
      let u = then_ok (turns m (open_try v.0) v.1) (consed v.0) xs mid v.3 in
      let g : stmt ts ≡ Ok (v.0, v.1) = tried_ok o ts v.0 v.1 v.2 in
      let ends : u.1 ≡ mid = same_rest (v.0 ∷ u.0) xs u.1 mid u.3 in
      behind_one (room n o) ts rest v.0 v.1 g (before (open_try v.0) v.1 u.0 u.1 rest (less m ts v.0 v.1 g few) u.2 (ap tail ends ∙ e))

  later_turns : (m : ℕ) → Later m
  later_turns zero o ts xs mid rest few h e = tail_stuck (room n o) ts rest (ap test (empty_list ts few) ∙ E.none) (ap tail (same_rest [] xs ts mid h) ∙ e)
  later_turns (suc m) o ts xs mid rest few h e = later_turn m (later_turns m) o ts xs mid rest (test ts) refl few h e

  -- ---- nothing goes on

  abbrev Longest : ℕ → Type 0
  Longest m = (o : Option ℕ) (ts : List Token) (xs : List Stmt) (mid : List Token) (y : X) (t : Token) (rest : List Token) → length ts ≤ m → turns m o ts ≡ Ok (xs, mid) → tail mid ≡ Ok (y, t ∷ rest) → LF (room n o) (tokens xs ++ (q.spelling y ++ t ∷ [])) → ⊥

  tail_longest : (o : Option ℕ) (ts : List Token) (y : X) (t : Token) (rest : List Token) → test ts ≡ false → tail ts ≡ Ok (y, t ∷ rest) → LF o (q.spelling y ++ t ∷ []) → ⊥
  tail_longest o ts y t rest ceased e j =
      let l = Q.sound ts y (t ∷ rest) e in
      Q.longest ts y t rest e (at_tail o (q.spelling y ++ t ∷ []) rest (ap test (append_assoc (q.spelling y) (t ∷ []) rest ∙ sym l.1) ∙ ceased) j)

  longest_none : (o : Option ℕ) (ts : List Token) (xs : List Stmt) (mid : List Token) (y : X) (t : Token) (rest : List Token) → test ts ≡ false → gave [] ts ≡ gave xs mid → tail mid ≡ Ok (y, t ∷ rest) → LF o (tokens xs ++ (q.spelling y ++ t ∷ [])) → ⊥
  longest_none o ts xs mid y t rest ceased h e j =
      tail_longest o ts y t rest ceased (ap tail (same_rest [] xs ts mid h) ∙ e) (subst (λ (l : List Stmt). LF o (tokens l ++ (q.spelling y ++ t ∷ []))) (sym (same_value [] xs ts mid h)) j)

  longest_turn : (m : ℕ) → Longest m → (o : Option ℕ) (ts : List Token) (xs : List Stmt) (mid : List Token) (y : X) (t : Token) (rest : List Token) (c : Bool) → test ts ≡ c → length ts ≤ suc m → turn m o c ts ≡ Ok (xs, mid) → tail mid ≡ Ok (y, t ∷ rest) →
      LF (room n o) (tokens xs ++ (q.spelling y ++ t ∷ [])) → ⊥
  longest_turn m before o ts xs mid y t rest false ceased few h e j = longest_none (room n o) ts xs mid y t rest ceased h e j
  longest_turn m before o ts xs mid y t rest true on few h e j =
      let v = then_ok (behind_try n o stmt ts) (goes_on m) xs mid h in
      let u = then_ok (turns m (open_try v.0) v.1) (consed v.0) xs mid v.3 in
      let g : stmt ts ≡ Ok (v.0, v.1) = tried_ok o ts v.0 v.1 v.2 in
      let is : v.0 ∷ u.0 ≡ xs = same_value (v.0 ∷ u.0) xs u.1 mid u.3 in
      let ends : u.1 ≡ mid = same_rest (v.0 ∷ u.0) xs u.1 mid u.3 in
      let fewer_left = less m ts v.0 v.1 g few in
      let k = sound_turns m (open_try v.0) v.1 u.0 u.1 fewer_left u.2 in
      let l = Q.sound mid y (t ∷ rest) e in
      let z : List Token = tokens u.0 ++ (q.spelling y ++ t ∷ []) in
      let whole : v.1 ≡ z ++ rest = k.1 ∙ ap (λ (a : List Token). tokens u.0 ++ a) (ends ∙ l.1 ∙ one_on (q.spelling y) t rest) ∙ sym (append_assoc (tokens u.0) (q.spelling y ++ t ∷ []) rest) in
      before (open_try v.0) v.1 u.0 u.1 y t rest fewer_left u.2 (ap tail ends ∙ e)
      (after (room n o) ts v.0 v.1 z rest g whole (subst (LF (room n o)) (append_assoc (p.spelling v.0) (tokens u.0) (q.spelling y ++ t ∷ [])) (subst (λ (a : List Stmt). LF (room n o) (tokens a ++ (q.spelling y ++ t ∷ []))) (sym is) j)))

  longest_turns : (m : ℕ) → Longest m
  longest_turns zero o ts xs mid y t rest few h e j = longest_none (room n o) ts xs mid y t rest (ap test (empty_list ts few) ∙ E.none) h e j
  longest_turns (suc m) o ts xs mid y t rest few h e j = longest_turn m (longest_turns m) o ts xs mid y t rest (test ts) refl few h e j

  -- ---- the tokens of statements are read as these

  complete_turns : (m : ℕ) (o : Option ℕ) (xs : List Stmt) (y : X) (rest : List Token) → length (tokens xs ++ (q.spelling y ++ rest)) ≤ m → F xs → q.Fits y → Stops class_of (behind_run first next) rest → turns m o (tokens xs ++ (q.spelling y ++ rest)) ≡ Ok (xs, q.spelling y ++ rest)
  complete_turns zero o [] y rest few fits fy stop = refl
  complete_turns (suc m) o [] y rest few fits fy stop = ap (λ (c : Bool). turn m o c (q.spelling y ++ rest)) (E.other y rest fy stop)
  complete_turns zero o (x ∷ xs) y rest few fits fy stop =
      let group = append_assoc (p.spelling x) (tokens xs) (q.spelling y ++ rest) in
      absurd (omega (arith, fewer (p.spelling x) (tokens xs ++ (q.spelling y ++ rest)) 0 (λ b. one_filled S x fits.0 b) (subst (λ (a : List Token). length a ≤ 0) group few)))
  complete_turns (suc m) o (x ∷ xs) y rest few fits fy stop =
      let behind : List Token = tokens xs ++ (q.spelling y ++ rest) in
      let group = append_assoc (p.spelling x) (tokens xs) (q.spelling y ++ rest) in
      let f : length behind < suc m = fewer (p.spelling x) behind (suc m) (λ b. one_filled S x fits.0 b) (subst (λ (a : List Token). length a ≤ suc m) group few) in
      let e = tried_gives o (p.spelling x ++ behind) x behind (S.complete x behind fits.0 (still_behind n S N test Q off E x xs y rest fits.1 fy stop) (no_part_behind n S N test Q off E (level x) xs y rest fits.1 fy stop)) in
      ap (turns (suc m) o) group ∙ ap (λ (c : Bool). turn m o c (p.spelling x ++ behind)) (E.statement x behind fits.0) ∙ ap (λ (r : Outcome Token Stmt). and_then r (goes_on m)) e
      ∙ ap (λ (r : Outcome Token (List Stmt)). and_then r (consed x)) (complete_turns m (open_try x) xs y rest (omega (arith, f)) fits.1 fy stop)

  -- ---- the law

  abbrev statements : Reader Token (List Stmt)
  statements ts = turns (length ts) None ts

  abbrev all : Reader Token (List Stmt × X)
  all = both statements tail

  abbrev Whole : Phrase (List Stmt × X)
  Whole = many p ~ q

  out_none : (ts rest : List Token) → Stuck (LF None) ts rest → Stuck L ts rest
  out_none ts rest (before, e, inl b, ends) = (before, e, subst L (sym b) (by_q [] Q.none), λ t more is f. ends t more is (inr f))
  out_none ts rest (before, e, inr f, ends) = (before, e, f, λ t more is f. ends t more is (inr f))

  sound : (ts : List Token) (x : List Stmt × X) (rest : List Token) → all ts ≡ Ok (x, rest) → Whole.Fits x × (ts ≡ Whole.spelling x ++ rest)
  sound ts x rest h =
      let v = both_ok statements (λ a. tail) ts x rest h in
      let k = sound_turns (length ts) None ts x.0 v.0 (omega arith) v.1 in
      let l = Q.sound v.0 x.1 rest v.2 in
      ((k.0, l.0), k.1 ∙ ap (λ (a : List Token). tokens x.0 ++ a) l.1 ∙ sym (append_assoc (tokens x.0) (q.spelling x.1) rest))

  longest : (ts : List Token) (x : List Stmt × X) (t : Token) (rest : List Token) → all ts ≡ Ok (x, t ∷ rest) → L (Whole.spelling x ++ t ∷ []) → ⊥
  longest ts x t rest h j =
      let v = both_ok statements (λ a. tail) ts x (t ∷ rest) h in
      longest_turns (length ts) None ts x.0 v.0 x.1 t rest (omega arith) v.1 v.2 (inr (subst L (append_assoc (tokens x.0) (q.spelling x.1) (t ∷ [])) j))

  fault : (ts rest : List Token) → all ts ≡ Err rest → Stuck L ts rest
  fault ts rest h = elim (both_err statements (λ a. tail) ts rest h) as (λ _. Stuck L ts rest) [
    | inl e ↦ out_none ts rest (fault_turns (length ts) None ts rest (omega arith) e)
    | inr v ↦ out_none ts rest (later_turns (length ts) None ts v.0 v.1 rest (omega arith) v.2 v.3)
  ]

  complete : (x : List Stmt × X) (rest : List Token) → Whole.Fits x → Stops class_of (behind_run first next) rest → all (Whole.spelling x ++ rest) ≡ Ok (x, rest)
  complete x rest fits stop =
      let e = Q.complete x.1 rest fits.1 (stops_within class_of next (behind_run first next) (λ k h. has_right (stmt_first ++ (first ++ still)) next k h) rest stop) in
      ap all (append_assoc (tokens x.0) (q.spelling x.1) rest)
      ∙ both_gives statements (λ a. tail) (tokens x.0 ++ (q.spelling x.1 ++ rest)) (q.spelling x.1 ++ rest) rest x.0 x.1 (complete_turns (length (tokens x.0 ++ (q.spelling x.1 ++ rest))) None x.0 x.1 rest (omega arith) fits.0 fits.1 stop) e

  nexts_by : (x : List Stmt × X) (t : Token) (ts : List Token) → Whole.Fits x → L (Whole.spelling x ++ t ∷ ts) → (has (behind_run first next) (class_of t) ≡ true) ⊎ (has (behind_run first next) (class_of t) ≡ false) → has (behind_run first next) (class_of t) ≡ true
  nexts_by x t ts fits f (inl on) = on
  nexts_by x t ts fits f (inr ceased) = absurd (longest (Whole.spelling x ++ t ∷ ts) x t ts (complete x (t ∷ ts) fits ceased) (by_one list_closed (Whole.spelling x) t ts f))

  pub run_laws : Reads (both (λ ts. stmt_turns n test stmt (length ts) None ts) tail) (many p ~ q) (stmt_first ++ first) (λ x. behind_run first next) true
  run_laws = record {
    sound = sound;
    longest = longest;
    fault = fault;
    complete = complete;
    whole = λ x fits. inr (x.0, q.spelling x.1, fits.0, refl, refl, Q.whole x.1 fits.1);
    none = by_q [] Q.none;
    closed = list_closed;
    firsts = list_firsts;
    nexts = λ x t ts fits f. nexts_by x t ts fits f (cases_bool (has (behind_run first next) (class_of t)));
    empties = λ x fits e. refl;
  }
