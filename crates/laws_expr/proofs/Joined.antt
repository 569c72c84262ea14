-- The law of an operand with one more part behind it or none, where the part may end with a half.
use Rattle.std.proofs.Common.{◌≡◌, ℕ, ◌<◌, Bool, true, false, ◌&&◌, List, [], ◌∷◌, ◌++◌, Option, None, Some, Ok, ◌⊎◌, inl, inr, refl, ap, sym, ◌∙◌, subst, append_assoc}
use Rattle.std.proofs.lemmas.List.{append-nil}
use Rattle.dart_base.specs.declared.place.Place.{Place}
use Rattle.dart_token.specs.declared.token.Token.{Token}
use Rattle.dart_tree.specs.Depth.{operand_height}
use Rattle.dart_tree.specs.Tree.{Operand}
use Rattle.dart_tree.specs.Tokens.{operand_tokens}
use Rattle.dart_token.specs.declared.sign.Sign.TheVariants as s
use Rattle.dart_tree.specs.LeafTokens.{sign_at}
use Rattle.grammar_laws.specs.Codes.{has, Apart, Within, given, after_followed}
use Rattle.grammar_laws.specs.Readers.{Outcome, Reader, and_then, mapped, followed, starts, when}
use Rattle.grammar_laws.specs.Halves.{no_half}
use Rattle.grammar_laws.specs.Fronts.{Front, Joint, Either, EitherFit, BothFit, GoesOn, FollowedFit, Made, joined_spelling}
use Rattle.grammar_laws.specs.Laws.{Laws}
use Rattle.grammar_laws.proofs.Cuts.{gave}
use Rattle.grammar_laws.proofs.Joints.{begins}
use Rattle.grammar_laws.proofs.Codes.{and_both, and_true, and_false, within_none, within_union, within_given}
use Rattle.grammar_laws.proofs.Depth.{below_is, is_below_by}
use Rattle.grammar_laws.proofs.Restated.{made_laws, refront}
use Rattle.grammar_laws.proofs.Followed.{followed_laws}
use Rattle.dart_syntax.specs.Edges.{leaves}
use Rattle.token_codes.specs.Codes.{class_of, sign_code}
use Rattle.syntax_readers.specs.Combinators.{Open}
use Rattle.syntax_readers.specs.Levels.{has_room}
use Rattle.laws_expr.proofs.Open.{OpenLaws, Settled, open_spelling, after_open, bare, tree, behind, no_some, stops_first}

module _ (loose n : ℕ) (codes : List ℕ)
    {here : Reader Token (Open Operand)} {F : Operand → Type 0} {front : Front Token} {first : List ℕ} {next half : Operand → List ℕ} (H : OpenLaws here operand_tokens F front first next half)
    {B P : Type 0} {part : Reader Token B} {spell : B → List Token} {Fits : B → Type 0} {pfront : Front Token} {pnext : B → List ℕ} (Q : Laws class_of part spell Fits pfront codes pnext false)
    {D : Operand → Type 0} {dfront : Front Token}
    (down : (x : Operand) → F x → operand_height x < n → D x) (up : (x : Operand) → D x → F x × (operand_height x < n)) (rise : (ts : List Token) → dfront ts → front ts)
    (left : (x : Operand) → F x → leaves loose x ≡ true → Apart (next x) codes)
    (PlainFits : P → Type 0) (node : Operand → P → Operand) (join : Operand → B → Open Operand) (drop : B → P) (keep : P → B)
    (kept : (x : Operand) (p : P) → join x (keep p) ≡ (node x p, None)) (dropped : (x : Operand) (b : B) → node x (drop b) ≡ (join x b).0)
    (drop_fits : (b : B) → Fits b → PlainFits (drop b)) (keep_fits : (p : P) → PlainFits p → Fits (keep p))
    (said : (x : Operand) (b : B) → Fits b → open_spelling operand_tokens (join x b) ≡ operand_tokens x ++ spell b)
    (next' half' : Operand → List ℕ) (wider_next : (x : Operand) → F x → Within (next x) (next' x)) (wider_half : (x : Operand) → F x → Within (half x) (half' x)) (own : (x : Operand) → F x → Within codes (next' x))
    (on : (x : Operand) (b : B) → Fits b → Within (pnext b) (after_open next' half' (join x b)))
    (all : Open Operand × Option B → Open Operand) (all_none : (x : Open Operand) → all (x, None) ≡ x) (all_some : (x : Open Operand) (b : B) → all (x, Some b) ≡ join x.0 b) where
  abbrev may : Open Operand → Bool
  may x = no_half x && has_room n x && leaves loose x.0

  abbrev PartsFit : Open Operand × Option B → Type 0
  PartsFit = FollowedFit H.Fits may Fits

  here_apart : (x : Open Operand) → H.Fits x → may x ≡ true → Apart (after_open next half x) codes
  here_apart (x, None) fits go = left x (H.none_out x fits) (and_both (has_room n (x, None)) (leaves loose x) go).1
  here_apart (x, Some greater) fits go = absurd cc

  abbrev Node : Operand → Type 0
  Node = Made (λ (x : Operand × P). node x.0 x.1) (BothFit (GoesOn D (leaves loose)) PlainFits)

  abbrev NodeFront : Front Token
  NodeFront = Joint operand_tokens D (leaves loose) dfront pfront

  node_of : (x : Operand) (b : B) → H.Fits (x, None) → may (x, None) ≡ true → Fits b → Node (join x b).0
  node_of x b fits go part_fits =
      let w = and_both (has_room n (x, None)) (leaves loose x) go in
      ((x, drop b), ((down x (H.none_out x fits) (below_is operand_height n x w.0), w.1), drop_fits b part_fits), dropped x b)

  none_in : (z : Operand) → EitherFit F Node z → Made all PartsFit (z, None)
  none_in z (inl fits) = (((z, None), None), (H.none_in z fits, tt), all_none (z, None))
  none_in z (inr ((x, p), ((d, go), fits), e)) =
      let u = up x d in
      (((x, None), Some (keep p)), (H.none_in x u.0, (and_true (has_room n (x, None)) (leaves loose x) (is_below_by operand_height n x u.1) go, keep_fits p fits)), all_some (x, None) (keep p) ∙ kept x p ∙ ap bare e)

  none_out : (z : Operand) → Made all PartsFit (z, None) → EitherFit F Node z
  none_out z (((x, None), None), fits, e) = inl (subst F (ap tree (sym (all_none (x, None)) ∙ e)) (H.none_out x fits.0))
  none_out z (((x, Some greater), None), fits, e) = no_some (x, Some greater) (z, None) (sym (all_none (x, Some greater)) ∙ e) refl refl
  none_out z (((x, None), Some b), fits, e) = inr (subst Node (ap tree (sym (all_some (x, None) b) ∙ e)) (node_of x b fits.0 fits.1.0 fits.1.1))
  none_out z (((x, Some greater), Some b), fits, e) = let bad : false ≡ true = fits.1.0 in absurd cc

  some_out : (z : Operand) (greater : Place) → Made all PartsFit (z, Some greater) → EitherFit F Node z
  some_out z greater (((x, None), None), fits, e) = no_some (z, Some greater) (x, None) (sym e ∙ all_none (x, None)) refl refl
  some_out z greater (((x, Some other), None), fits, e) = inl (subst F (ap tree (sym (all_none (x, Some other)) ∙ e)) (H.some_out x other fits.0))
  some_out z greater (((x, None), Some b), fits, e) = inr (subst Node (ap tree (sym (all_some (x, None) b) ∙ e)) (node_of x b fits.0 fits.1.0 fits.1.1))
  some_out z greater (((x, Some other), Some b), fits, e) = let bad : false ≡ true = fits.1.0 in absurd cc

  parts_said : (x : Open Operand × Option B) → PartsFit x → open_spelling operand_tokens (all x) ≡ joined_spelling (open_spelling operand_tokens) spell x
  parts_said (x, None) fits = ap (open_spelling operand_tokens) (all_none x) ∙ sym (append-nil (open_spelling operand_tokens x))
  parts_said ((x, None), Some b) fits = ap (open_spelling operand_tokens) (all_some (x, None) b) ∙ said x b fits.1.1 ∙ ap (λ (m : List Token). m ++ spell b) (sym (append-nil (operand_tokens x)))
  parts_said ((x, Some greater), Some b) fits = let bad : false ≡ true = fits.1.0 in absurd cc

  abbrev after : Open Operand → List ℕ
  after = after_open next' half'

  parts_on : (x : Open Operand × Option B) → PartsFit x → Within (after_followed (after_open next half) may codes pnext x) (after (all x))
  parts_on ((x, None), None) fits =
      let f = H.none_out x fits.0 in
      subst (λ z. Within (next x ++ given (may (x, None)) codes) (after z)) (sym (all_none (x, None))) (within_union (wider_next x f) (within_given (may (x, None)) (λ e. own x f)))
  parts_on ((x, Some greater), None) fits =
      subst (λ z. Within (half x ++ []) (after z)) (sym (all_none (x, Some greater))) (within_union (wider_half x (H.some_out x greater fits.0)) (within_none (half' x)))
  parts_on ((x, None), Some b) fits = subst (λ z. Within (pnext b) (after z)) (sym (all_some (x, None) b)) (on x b fits.1.1)
  parts_on ((x, Some greater), Some b) fits = let bad : false ≡ true = fits.1.0 in absurd cc

  abbrev PartsFront : Front Token
  PartsFront = Joint (open_spelling operand_tokens) H.Fits may front pfront

  out : (ts : List Token) → PartsFront ts → Either front NodeFront ts
  out ts (inl f) = inl f
  out ts (inr ((x, None), more, fits, go, e, f)) =
      let w = and_both (has_room n (x, None)) (leaves loose x) go in
      inr (inr (x, more, down x (H.none_out x fits) (below_is operand_height n x w.0), w.1, e ∙ ap (λ (m : List Token). m ++ more) (append-nil (operand_tokens x)), f))
  out ts (inr ((x, Some greater), more, fits, go, e, h)) = let bad : false ≡ true = go in absurd cc

  into : (ts : List Token) → Either front NodeFront ts → PartsFront ts
  into ts (inl f) = inl f
  into ts (inr (inl f)) = inl (rise ts f)
  into ts (inr (inr (x, more, d, go, e, f))) =
      let u = up x d in
      inr ((x, None), more, H.none_in x u.0, and_true (has_room n (x, None)) (leaves loose x) (is_below_by operand_height n x u.1) go, e ∙ ap (λ (m : List Token). m ++ more) (sym (append-nil (operand_tokens x))), f)

  pub joined_laws : OpenLaws (mapped all (followed class_of may codes here part)) operand_tokens (EitherFit F Node) (Either front NodeFront) first next' half'
  joined_laws = record {
    Fits = Made all PartsFit;
    none_in = none_in;
    none_out = none_out;
    some_out = some_out;
    laws = refront (made_laws (followed_laws H.laws Q may here_apart) all (open_spelling operand_tokens) after parts_said parts_on) out into;
  }

  -- ---- a `>` behind the whole is given as a half, or stopped before, as behind the part
  abbrev stopped : Operand → Bool → List Token → Outcome Token (Open Operand)
  stopped x c mid = and_then (and_then (when c part mid) (λ o z. Ok (((x, None), o), z))) (λ y z. Ok (all y, z))

  pub first_settled : has codes (sign_code s.Greater) ≡ false → (x : Operand) → F x → Settled H x → Settled joined_laws x
  unfolding joined_laws class_of
  first_settled none x fits (inl known) = inl (λ g. (((x, Some g), None), (known g, tt), all_none (x, Some g)))
  first_settled none x fits (inr stays) = inr (λ g ts.
      ap (λ (r : Outcome Token (Open Operand)). and_then (and_then r (λ a mid. and_then (when (may a && starts class_of codes mid) part mid) (λ o z. Ok ((a, o), z)))) (λ y z. Ok (all y, z))) (stays g ts)
      ∙ ap (λ (c : Bool). stopped x c (sign_at g s.Greater ∷ ts)) (and_false (may (x, None)) (has codes (sign_code s.Greater)) none) ∙ ap (λ (y : Open Operand). gave y (sign_at g s.Greater ∷ ts)) (all_none (x, None)))

  -- of a part: it may stand with the half, or its reader stops before the `>`
  abbrev pub PartSettled : Operand → B → Type 0
  PartSettled x b = ((g : Place) → (c : B) × Fits c × (join x c ≡ ((join x b).0, Some g))) ⊎ ((g : Place) (ts : List Token) → part (spell b ++ sign_at g s.Greater ∷ ts) ≡ Ok (b, sign_at g s.Greater ∷ ts))

  pub part_settled : (x : Operand) (b : B) → D x → leaves loose x ≡ true → Fits b → behind (join x b) ≡ None → PartSettled x b → Settled joined_laws (join x b).0
  unfolding joined_laws
  part_settled x b d on fits alone (inl known) =
      let u = up x d in
      inl (λ g. (((x, None), Some (known g).0), (H.none_in x u.0, (and_true (has_room n (x, None)) (leaves loose x) (is_below_by operand_height n x u.1) on, (known g).1)), all_some (x, None) (known g).0 ∙ (known g).2))
  part_settled x b d on fits alone (inr stays) = inr (λ g ts.
      let u = up x d in
      let go : may (x, None) ≡ true = and_true (has_room n (x, None)) (leaves loose x) (is_below_by operand_height n x u.1) on in
      let rest : List Token = sign_at g s.Greater ∷ ts in
      let begun : starts class_of codes (spell b ++ rest) ≡ true = begins Q b rest fits in
      let whole : ((join x b).0, None) ≡ join x b = ap (λ (h : Option Place). ((join x b).0, h)) (sym alone) in
      let tokens : open_spelling operand_tokens ((join x b).0, None) ++ rest ≡ open_spelling operand_tokens (x, None) ++ (spell b ++ rest) = ap (λ (m : List Token). m ++ rest) (ap (open_spelling operand_tokens) whole ∙ said x b fits ∙ ap (λ (m : List Token). m ++ spell b) (sym (append-nil (operand_tokens x)))) ∙ append_assoc (operand_tokens x ++ []) (spell b) rest in
      ap (mapped all (followed class_of may codes here part)) tokens
      ∙ rw (H.laws.complete (x, None) (spell b ++ rest) (H.none_in x u.0) (stops_first (next x) codes (spell b ++ rest) (left x u.0 on) begun), go, begun, stays g ts) refl
      ∙ ap (λ (y : Open Operand). gave y rest) (all_some (x, None) b ∙ sym whole))
