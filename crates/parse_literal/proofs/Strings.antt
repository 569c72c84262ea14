-- The pieces of strings, as lists that each further piece or string makes longer.
use Rattle.std.proofs.Common.{◌≡◌, ℕ, max, List, [], ◌∷◌, ◌++◌, Ok, Err, None, refl, ap, ◌∙◌, arith}
use Rattle.dart_base.specs.declared.place.Place.{Place}
use Rattle.dart_token.specs.declared.token.Token.{Token}
use Rattle.dart_tree.specs.declared.expression.PieceKind.TheVariants as pk
use Rattle.dart_tree.specs.declared.expression.StringPiece.{StringPiece}
use Rattle.dart_tree.specs.Depth as height
use Rattle.dart_tree.specs.Lists.{pieces_of}
use Rattle.dart_tree.specs.Tree as t
use Rattle.dart_tree.specs.View as view
use Rattle.grammar_laws.specs.Readers.{Reader, Outcome, and_then, mapped, both, many, always}
use Rattle.grammar_laws.proofs.Cuts.{gave}
use Rattle.dart_syntax.specs.Expressions.{middles, append_pieces, joined, join_pieces, string_parts}
use Rattle.token_codes.specs.Codes.{class_of, middle_code, tail_code}
use Rattle.token_codes.specs.Leaves.{head, piece}
use Rattle.syntax_readers.specs.Primaries.{string_first, one_string, parted_text}
use Rattle.parse_loop.specs.Lists.{Growing}
use Rattle.parse_literal.specs.Views.{HeadPart, TextPart, begun_string, begun_text}

-- ---- one list of pieces behind another

pub append_none : (l : t.Pieces) → append_pieces l t.no_pieces ≡ l
append_none t.no_pieces = refl
append_none (t.piece kind place text value more) = ap (t.piece kind place text value) (append_none more)

pub append_assoc : (l m n : t.Pieces) → append_pieces l (append_pieces m n) ≡ append_pieces (append_pieces l m) n
append_assoc t.no_pieces m n = refl
append_assoc (t.piece kind place text value more) m n = ap (t.piece kind place text value) (append_assoc more m n)

pub append_height : (l m : t.Pieces) → height.pieces_height (append_pieces l m) ≡ max (height.pieces_height l) (height.pieces_height m)
unfolding height.pieces_height
append_height t.no_pieces m = omega arith
append_height (t.piece kind place text value more) m = let e = append_height more m in omega arith

pub pieces_append : (xs ys : List StringPiece) → pieces_of (xs ++ ys) ≡ append_pieces (pieces_of xs) (pieces_of ys)
pieces_append [] ys = refl
pieces_append (x ∷ xs) ys = ap (t.piece x.kind x.place x.text (view.value x.value)) (pieces_append xs ys)

-- ---- strings behind one another

pub join_grows : (items : List t.Pieces) (y : t.Pieces) → joined (items ++ y ∷ []) ≡ append_pieces (joined items) y
join_grows [] y = append_none y
join_grows (x ∷ items) y = ap (append_pieces x) (join_grows items y) ∙ append_assoc x (joined items) y

abbrev pub all_strings : Reader Token t.Expr → Growing t.Pieces t.Pieces t.Pieces
all_strings expr = record {
  codes = string_first;
  item = one_string expr;
  give = λ first items. join_pieces (first, items);
  snoc = append_pieces;
  high = height.pieces_height;
  tall = height.pieces_height;
  grows = λ first items y. ap (append_pieces first) (join_grows items y) ∙ append_assoc first (joined items) y;
  taller = append_height;
}

-- ---- a string with expressions

abbrev pub middle_piece : TextPart → t.Pieces
middle_piece y = t.piece pk.Middle y.0.0 y.0.1 (t.given None y.1) t.no_pieces

abbrev pub snoc_middle : t.Pieces → TextPart → t.Pieces
snoc_middle l y = append_pieces l (middle_piece y)

middles_grow : (items : List TextPart) (y : TextPart) → middles (items ++ y ∷ []) t.no_pieces ≡ snoc_middle (middles items t.no_pieces) y
middles_grow [] y = refl
middles_grow (x ∷ items) y = ap (t.piece pk.Middle x.0.0 x.0.1 (t.given None x.1)) (middles_grow items y)

pub begun_grows : (first : HeadPart) (items : List TextPart) (y : TextPart) → begun_string first (items ++ y ∷ []) ≡ snoc_middle (begun_string first items) y
begun_grows first items y = ap (t.piece (pk.Head first.0.0) first.0.1.0 first.0.1.1 (t.given None first.1)) (middles_grow items y)

pub middle_taller : (l : t.Pieces) (y : TextPart) → height.pieces_height (snoc_middle l y) ≡ max (height.pieces_height l) (height.expr_height y.1)
unfolding height.pieces_height height.value_height
middle_taller l y = let e = append_height l (middle_piece y) in omega arith

abbrev pub begun : Reader Token t.Expr → Growing HeadPart TextPart t.Pieces
begun expr = record {
  codes = middle_code ∷ [];
  item = both (piece middle_code) expr;
  give = begun_string;
  snoc = snoc_middle;
  high = height.pieces_height;
  tall = λ y. height.expr_height y.1;
  grows = begun_grows;
  taller = middle_taller;
}

-- with its last piece
abbrev pub tail_piece : Place × List ℕ → t.Pieces
tail_piece x = t.piece pk.Tail x.0 x.1 t.omitted t.no_pieces

middles_end : (items : List TextPart) (rest : t.Pieces) → middles items rest ≡ append_pieces (middles items t.no_pieces) rest
middles_end [] rest = refl
middles_end (x ∷ items) rest = ap (t.piece pk.Middle x.0.0 x.0.1 (t.given None x.1)) (middles_end items rest)

pub parts_are : (first : HeadPart) (items : List TextPart) (last : Place × List ℕ) → string_parts first (items, last) ≡ append_pieces (begun_string first items) (tail_piece last)
parts_are first items last = ap (t.piece (pk.Head first.0.0) first.0.1.0 first.0.1.1 (t.given None first.1)) (middles_end items (tail_piece last))

pub ended_height : (l : t.Pieces) (last : Place × List ℕ) → height.pieces_height (append_pieces l (tail_piece last)) ≡ height.pieces_height l
unfolding height.pieces_height height.value_height
ended_height l last = let e = append_height l (tail_piece last) in omega arith

pub one_height : (first : HeadPart) → height.pieces_height (begun_string first []) ≡ height.expr_height first.1
unfolding height.pieces_height height.value_height
one_height first = omega arith

-- ---- a string with expressions is its beginning, and its last piece behind that

abbrev finish : Reader Token (Place × List ℕ) → t.Pieces → Reader Token t.Pieces
finish last b = mapped (λ x. append_pieces b (tail_piece x)) last

module _ (h : Reader Token HeadPart) (m : Reader Token (List TextPart)) (last : Reader Token (Place × List ℕ)) where
  by_last : (a : HeadPart) (b : List TextPart) (o : Outcome Token (Place × List ℕ)) →
      and_then {B = t.Pieces} (and_then {B = HeadPart × (List TextPart × (Place × List ℕ))} (and_then {B = List TextPart × (Place × List ℕ)} o (λ x rest. Ok ((b, x), rest))) (λ x rest. Ok ((a, x), rest))) (λ x rest. Ok (string_parts x.0 x.1, rest))
      ≡ and_then o (λ x rest. Ok (append_pieces (begun_string a b) (tail_piece x), rest))
  by_last a b (Ok x) = ap (λ (p : t.Pieces). gave p x.1) (parts_are a b x.0)
  by_last a b (Err rest) = refl

  by_middles : (a : HeadPart) (o : Outcome Token (List TextPart)) →
      and_then {B = t.Pieces} (and_then {B = HeadPart × (List TextPart × (Place × List ℕ))} (and_then {B = List TextPart × (Place × List ℕ)} o (λ b mid. and_then (last mid) (λ x rest. Ok ((b, x), rest)))) (λ x rest. Ok ((a, x), rest))) (λ x rest. Ok (string_parts x.0 x.1, rest))
      ≡ and_then (and_then {B = t.Pieces} (and_then {B = HeadPart × List TextPart} o (λ b rest. Ok ((a, b), rest))) (λ x rest. Ok (begun_string x.0 x.1, rest))) (finish last)
  by_middles a (Ok b) = by_last a b.0 (last b.1)
  by_middles a (Err rest) = refl

  by_head : (o : Outcome Token HeadPart) →
      and_then {B = t.Pieces} (and_then {B = HeadPart × (List TextPart × (Place × List ℕ))} o (λ a mid. and_then (both m last mid) (λ x rest. Ok ((a, x), rest)))) (λ x rest. Ok (string_parts x.0 x.1, rest))
      ≡ and_then (and_then {B = t.Pieces} (and_then {B = HeadPart × List TextPart} o (λ a mid. and_then (m mid) (λ b rest. Ok ((a, b), rest)))) (λ x rest. Ok (begun_string x.0 x.1, rest))) (finish last)
  by_head (Ok a) = by_middles a.0 (m a.1)
  by_head (Err rest) = refl

pub parted_is : (expr : Reader Token t.Expr) (ts : List Token) → parted_text expr ts ≡ and_then (begun_text expr ts) (finish (piece tail_code))
unfolding parted_text
parted_is expr ts = by_head (both head expr) (many class_of always (middle_code ∷ []) (both (piece middle_code) expr)) (piece tail_code) (both head expr ts)

pub parted_fails : (expr : Reader Token t.Expr) (ts end : List Token) → begun_text expr ts ≡ Err end → parted_text expr ts ≡ Err end
parted_fails expr ts end e = parted_is expr ts ∙ ap (λ (o : Outcome Token t.Pieces). and_then o (finish (piece tail_code))) e

pub parted_end_fails : (expr : Reader Token t.Expr) (ts mid end : List Token) (l : t.Pieces) → begun_text expr ts ≡ Ok (l, mid) → piece tail_code mid ≡ Err end → parted_text expr ts ≡ Err end
parted_end_fails expr ts mid end l e f = parted_is expr ts ∙ ap (λ (o : Outcome Token t.Pieces). and_then o (finish (piece tail_code))) e ∙ rw f refl

pub parted_gives : (expr : Reader Token t.Expr) (ts mid end : List Token) (l : t.Pieces) (x : Place × List ℕ) → begun_text expr ts ≡ Ok (l, mid) → piece tail_code mid ≡ Ok (x, end) → parted_text expr ts ≡ Ok (append_pieces l (tail_piece x), end)
parted_gives expr ts mid end l x e f = parted_is expr ts ∙ ap (λ (o : Outcome Token t.Pieces). and_then o (finish (piece tail_code))) e ∙ rw f refl
