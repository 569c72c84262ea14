-- The law of what may be assigned to, with an assignment behind it or none (ECMA-408, 16.19 Assignment): `> >=` is read in halves.
use Rattle.std.proofs.Common.{◌≡◌, ℕ, Bool, true, false, ◌&&◌, List, ◌∷◌, ◌++◌, Option, None, Some, Ok, Err, inl, inr, refl, ap, sym, ◌∙◌, append_assoc}
use Rattle.std.proofs.lemmas.List.{append-nil}
use Rattle.dart_base.specs.declared.place.Place.{Place}
use Rattle.dart_token.specs.declared.token.Token.{Token}
use Rattle.dart_token.specs.declared.sign.Sign.TheVariants as s
use Rattle.dart_tree.specs.declared.operator.Operator.{Operator}
use Rattle.dart_tree.specs.declared.operator.Operator.TheVariants as o
use Rattle.dart_tree.specs.LeafTokens.{sign_at, operator_tokens}
use Rattle.dart_tree.specs.Tree.{Expr}
use Rattle.dart_tree.specs.Tokens.{expr_tokens}
use Rattle.grammar_laws.specs.Codes.{Apart, given, after_followed_by}
use Rattle.grammar_laws.specs.Readers.{Outcome, Reader, and_then, always, never, starts, when, continued_by}
use Rattle.grammar_laws.specs.Fronts.{Front, Joint, JointBy, BothFit, ContinuedFitBy, both_spelling, joined_spelling}
use Rattle.grammar_laws.specs.Laws.{Laws}
use Rattle.grammar_laws.proofs.Codes.{apart_none}
use Rattle.grammar_laws.proofs.Restated.{refront}
use Rattle.grammar_laws.proofs.Combined.{both_laws}
use Rattle.grammar_laws.proofs.Continued.{continued_by_laws}
use Rattle.grammar_laws.proofs.Tried.{stops_nowhere}
use Rattle.dart_syntax.specs.Leaves as l
use Rattle.dart_syntax.specs.Expressions as g
use Rattle.dart_syntax.specs.Expressions.{assignment_signs}
use Rattle.token_codes.specs.Codes.{class_of, these, sign_codes}
use Rattle.syntax_readers.specs.Combinators.{Open}
use Rattle.syntax_readers.specs.Primaries.{expr_first}
use Rattle.syntax_readers.specs.Expressions.{Assigned, assign_codes, assignment}
use Rattle.laws_expr.proofs.Open.{OpenLaws, open_spelling, half_tokens, after_open}
use Rattle.laws_expr.proofs.Divided.{second_tokens, AssignFits, assign_front, assign_operator_laws, one_of_said}

given_starts : (b : Bool) (codes : List ℕ) (ts : List Token) → starts class_of (given b codes) ts ≡ (b && starts class_of codes ts)
given_starts true codes ts = refl
given_starts false codes ts = stops_nowhere class_of ts

-- ---- what may be assigned to, and the assignment

module _ {A : Type 0} (may : A → Bool) {base : Front Token} {read : Reader Token (Open A)} {tokens : A → List Token} {F : A → Type 0} {first : List ℕ} {next half : A → List ℕ}
    (H : OpenLaws read tokens F (Joint tokens F may base (l.sign s.Greater).front) first next half)
    {expr : Reader Token (Open Expr)} {E : Expr → Type 0} {efront : Front Token} {after_e half_e : Expr → List ℕ} (W : OpenLaws expr expr_tokens E efront expr_first after_e half_e)
    (off : (x : A) → F x → may x ≡ true → Apart (next x) (sign_codes assignment_signs)) (off_half : (x : A) → F x → may x ≡ true → Apart (half x) (these s.GreaterEqual)) where
  abbrev may_open : Open A → Bool
  may_open x = may x.0

  abbrev codes : Open A → List ℕ
  codes x = assign_codes x.1

  abbrev pub assigned_spell : Assigned → List Token
  assigned_spell = both_spelling second_tokens (open_spelling expr_tokens)

  abbrev pub AssignedFits : Open A → Assigned → Type 0
  AssignedFits x = BothFit (AssignFits x.1) W.Fits

  abbrev pub assigned_front : Open A → Front Token
  assigned_front x = Joint second_tokens (AssignFits x.1) always (assign_front x.1) efront

  pub assigned_laws : (x : Open A) → Laws class_of (assignment x.1 expr) assigned_spell (AssignedFits x) (assigned_front x) (codes x) (λ y. after_open after_e half_e y.1) false
  unfolding assignment
  assigned_laws x = both_laws (assign_operator_laws x.1) W.laws (λ y fits. apart_none expr_first)

  open_apart : (x : Open A) → H.Fits x → may_open x ≡ true → Apart (after_open next half x) (codes x)
  open_apart (x, None) fits on = off x (H.none_out x fits) on
  open_apart (x, Some g) fits on = off_half x (H.some_out x g fits) on

  abbrev pub parts : Reader Token (Open A × Option Assigned)
  parts = continued_by class_of never may_open codes read (λ x. assignment x.1 expr)

  abbrev follow : Bool → Open A → List Token → Outcome Token (Open A × Option Assigned)
  follow c x mid = and_then (when c (assignment x.1 expr) mid) (λ y rest. Ok ((x, y), rest))

  by_codes : (r : Outcome Token (Open A)) → and_then r (λ x mid. follow (starts class_of (given (may x.0) (codes x)) mid) x mid) ≡ and_then r (λ x mid. follow (may x.0 && starts class_of (codes x) mid) x mid)
  by_codes (Ok x) = ap (λ (c : Bool). follow c x.0 x.1) (given_starts (may x.0.0) (codes x.0) x.1)
  by_codes (Err r) = refl

  -- the reader asks for the codes and the test at once
  pub same_parts : (ts : List Token) → continued_by class_of never always (λ (x : Open A). given (may x.0) (codes x)) read (λ x. assignment x.1 expr) ts ≡ parts ts
  same_parts ts = by_codes (read ts)

  abbrev pub parts_spell : Open A × Option Assigned → List Token
  parts_spell = joined_spelling (open_spelling tokens) assigned_spell

  abbrev pub PartsFit : Open A × Option Assigned → Type 0
  PartsFit = ContinuedFitBy H.Fits never may_open AssignedFits

  abbrev pub Read : Front Token
  Read = JointBy (open_spelling tokens) H.Fits may_open (Joint tokens F may base (l.sign s.Greater).front) assigned_front

  -- the fronts, as the grammar has them
  abbrev Behind : Front Token
  Behind = Joint operator_tokens g.assigning.Fits always g.assigning.front efront

  abbrev pub Said : Front Token
  Said = Joint tokens F may base Behind

  no_half_out : (more : List Token) → Joint second_tokens (AssignFits None) always (assign_front None) efront more → Behind more
  no_half_out more (inl f) = inl (inl f)
  no_half_out more (inr (x, rest, fits, on, e, f)) = inr (x, rest, inl fits, on, e ∙ ap (λ (m : List Token). m ++ rest) (one_of_said assignment_signs x fits), f)

  half_out : (first : Place) (more : List Token) → Joint second_tokens (AssignFits (Some first)) always (assign_front (Some first)) efront more → Behind (half_tokens first ++ more)
  half_out first more (inl f) = inl (inr (inr (first, more, tt, refl, refl, f)))
  half_out first more (inr (x, rest, (second, at, is), on, e, f)) =
      inr (o.ShiftRightAssign first second, rest, inr ((first, second), (tt, tt), refl), refl, ap (λ (m : List Token). half_tokens first ++ m) (e ∙ ap (λ (y : Operator). second_tokens y ++ rest) (sym is)), f)

  pub out : (ts : List Token) → Read ts → Said ts
  out ts (inl (inl f)) = inl f
  out ts (inl (inr (x, more, fits, on, e, f))) = inr (x, more, fits, on, e, inl (inr (inl f)))
  out ts (inr ((x, None), more, fits, on, e, f)) = inr (x, more, H.none_out x fits, on, e ∙ ap (λ (m : List Token). m ++ more) (append-nil (tokens x)), no_half_out more f)
  out ts (inr ((x, Some g), more, fits, on, e, f)) = inr (x, half_tokens g ++ more, H.some_out x g fits, on, e ∙ append_assoc (tokens x) (half_tokens g) more, half_out g more f)

  module _ (halves : (x : A) (g : Place) → F x → may x ≡ true → H.Fits (x, Some g)) where
    into_behind : (x : A) (ts more : List Token) → F x → may x ≡ true → ts ≡ tokens x ++ more → Behind more → Read ts
    into_behind x ts more fits on e (inl (inl f)) = inr ((x, None), more, H.none_in x fits, on, e ∙ ap (λ (m : List Token). m ++ more) (sym (append-nil (tokens x))), inl f)
    into_behind x ts more fits on e (inl (inr (inl f))) = inl (inr (x, more, fits, on, e, f))
    into_behind x ts more fits on e (inl (inr (inr (g, rest, at, go, e', f)))) = inr ((x, Some g), rest, halves x g fits on, on, e ∙ ap (λ (m : List Token). tokens x ++ m) e' ∙ sym (append_assoc (tokens x) (half_tokens g) rest), inl f)
    into_behind x ts more fits on e (inr (y, rest, inl known, go, e', f)) = inr ((x, None), more, H.none_in x fits, on, e ∙ ap (λ (m : List Token). m ++ more) (sym (append-nil (tokens x))), inr (y, rest, known, refl, e' ∙ ap (λ (m : List Token). m ++ rest) (sym (one_of_said assignment_signs y known)), f))
    into_behind x ts more fits on e (inr (y, rest, inr ((g, second), at, is), go, e', f)) =
        inr (
          (x, Some g),
          sign_at second s.GreaterEqual ∷ rest,
          halves x g fits on,
          on,
          e ∙ ap (λ (m : List Token). tokens x ++ m) (e' ∙ ap (λ (z : Operator). operator_tokens z ++ rest) (sym is)) ∙ sym (append_assoc (tokens x) (half_tokens g) (sign_at second s.GreaterEqual ∷ rest)),
          inr (o.ShiftRightAssign g second, rest, (second, tt, refl), refl, refl, f),
        )

    pub into : (ts : List Token) → Said ts → Read ts
    into ts (inl f) = inl (inl f)
    into ts (inr (x, more, fits, on, e, f)) = into_behind x ts more fits on e f

    pub parts_laws : Laws class_of parts parts_spell PartsFit Said first (after_followed_by (after_open next half) may_open codes (λ x y. after_open after_e half_e y.1)) false
    parts_laws = refront (continued_by_laws H.laws (λ x fits. assigned_laws x) never may_open (λ x e. absurd cc) open_apart) out into
