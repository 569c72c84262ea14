-- What is found on a list of tokens, by what its parts are.
use Rattle.std.proofs.Common.{◌≡◌, ℕ, ◌-◌, ◌≤◌, get_or, arith, nat_lt, true≢false, List, [], ◌∷◌, length, drop, None, Some, is_some, Ok, Err, refl, sym, ap, subst, ◌∙◌}
use Rattle.std.proofs.lemmas.Option.{same_Some}
use Rattle.dart_base.specs.declared.feature.Feature.{Feature}
use Rattle.dart_base.specs.declared.limit.TheConstants.{TREE_DEPTH, FURTHER_TREE_DEPTH}
use Rattle.dart_base.specs.declared.place.Place.{Place}
use Rattle.dart_token.specs.declared.token.Token.{Token}
use Rattle.dart_tree.specs.Unit.{UnitTree}
use Rattle.dart_syntax.specs.Syntax.{SyntaxReason, left_out_at, syntax_at, too_deep_at, left_out, behind}
use Rattle.grammar_laws.specs.Wholes.{answer}
use Rattle.syntax_readers.specs.Units.{unit_reader, found, found_or_refused, unless_left_out, end_place, reached, reason_at}
use Rattle.parse_unit.specs.declared.fault.ParseFault.{ParseFault}
use Rattle.parse_unit.specs.Finds.{Finds, Refuses, end_of}

-- the place behind the last token
pub end_of_place : (t : Token) (ts : List Token) → end_of (t ∷ ts) ≡ Some (end_place t ts)
end_of_place t ts = refl

pub none : (ts : List Token) → None ≡ end_of ts → found ts ≡ Ok (record { directives = []; declarations = [] })
unfolding found
none [] e = refl
none (t ∷ ts) e = absurd (true≢false (sym (ap is_some e)))

pub left : (ts : List Token) (end place : Place) (feature : Feature) → Some end ≡ end_of ts → left_out ts ≡ Some (place, feature) → found ts ≡ Err (left_out_at place feature)
unfolding found
left [] end place feature e h = absurd (true≢false (ap is_some e))
left (t ∷ ts) end place feature e h =
    ap (λ x. unless_left_out x (found_or_refused FURTHER_TREE_DEPTH (t ∷ ts) (end_place t ts) (answer (unit_reader TREE_DEPTH) (t ∷ ts)))) h

pub whole : (ts : List Token) (end : Place) (unit : UnitTree) → Some end ≡ end_of ts → left_out ts ≡ None → answer (unit_reader TREE_DEPTH) ts ≡ Ok unit → found ts ≡ Ok unit
unfolding found
whole [] end unit e h is = absurd (true≢false (ap is_some e))
whole (t ∷ ts) end unit e h is =
    ap (λ x. unless_left_out x (found_or_refused FURTHER_TREE_DEPTH (t ∷ ts) (end_place t ts) (answer (unit_reader TREE_DEPTH) (t ∷ ts)))) h
    ∙ ap (found_or_refused FURTHER_TREE_DEPTH (t ∷ ts) (end_place t ts)) is

wrong : (ts : List Token) (end : Place) (at : ℕ) → Some end ≡ end_of ts → left_out ts ≡ None → answer (unit_reader TREE_DEPTH) ts ≡ Err at
    → found ts ≡ Err (reason_at (nat_lt at (reached (length ts) (answer (unit_reader FURTHER_TREE_DEPTH) ts))) end (drop at ts))
unfolding found
wrong [] end at e h is = absurd (true≢false (ap is_some e))
wrong (t ∷ ts) end at e h is =
    ap (λ x. unless_left_out x (found_or_refused FURTHER_TREE_DEPTH (t ∷ ts) (end_place t ts) (answer (unit_reader TREE_DEPTH) (t ∷ ts)))) h
    ∙ ap (found_or_refused FURTHER_TREE_DEPTH (t ∷ ts) (end_place t ts)) is
    ∙ ap (λ (x : Place). Err (reason_at (nat_lt at (reached (length (t ∷ ts)) (answer (unit_reader FURTHER_TREE_DEPTH) (t ∷ ts)))) x (drop at (t ∷ ts)))) (sym (same_Some end (end_place t ts) e))

refused : (ts : List Token) (why : SyntaxReason) (fault : ParseFault) → found ts ≡ Err why → Refuses why fault → Finds ts (Err fault)
refused ts (left_out_at place feature) fault is h = subst (λ x. Finds ts (Err x)) (sym h) is
refused ts (syntax_at place) fault is h = subst (λ x. Finds ts (Err x)) (sym h) is
refused ts (too_deep_at place) fault is h = subst (λ x. Finds ts (Err x)) (sym h) is

pub stopped : (ts : List Token) (end : Place) (at further : ℕ) (fault : ParseFault) → Some end ≡ end_of ts → left_out ts ≡ None → answer (unit_reader TREE_DEPTH) ts ≡ Err at
    → further ≡ reached (length ts) (answer (unit_reader FURTHER_TREE_DEPTH) ts) → Refuses (reason_at (nat_lt at further) end (drop at ts)) fault → Finds ts (Err fault)
stopped ts end at further fault e h is passes why =
    refused ts (reason_at (nat_lt at further) end (drop at ts)) fault
    (wrong ts end at e h is ∙ ap (λ x. Err (reason_at (nat_lt at x) end (drop at ts))) (sym passes)) why

last_place : (t : Token) (ts : List Token) (d : Token) → end_place t ts ≡ behind (get_or (t ∷ ts) (length ts) d)
last_place t [] d = refl
last_place t (u ∷ us) d = last_place u us d

-- the place behind the last token is that behind the item with the last number
pub end_by_last : (ts : List Token) (x : Token) → 1 ≤ length ts → x ≡ get_or ts (length ts - 1) x → Some (behind x) ≡ end_of ts
end_by_last [] x some is = absurd (omega arith)
end_by_last (t ∷ ts) x some is =
    let at : length (t ∷ ts) - 1 ≡ length ts = omega arith in
    ap (λ y. Some (behind y)) (is ∙ ap (λ i. get_or (t ∷ ts) i x) at) ∙ ap (λ p. Some p) (sym (last_place t ts x))
