-- The law of what stands before a parameter's name, `var`, `final`, a type or nothing, together with the name.
use Rattle.std.proofs.Common.{◌≡◌, ℕ, ◌≤◌, Bool, true, false, eqb, ltb, if◌then◌else◌, List, [], ◌∷◌, ◌++◌, length, Option, None, Some, Ok, Err, inl, inr, refl, ap, sym, ◌∙◌, subst, arith}
use Rattle.std.proofs.lemmas.Bool.{ltb-true}
use Rattle.std.proofs.lemmas.List.{length-append}
use Rattle.dart_base.specs.declared.place.Place.{Place}
use Rattle.dart_token.specs.declared.token.Token.{Token}
use Rattle.dart_token.specs.declared.sign.Sign.TheVariants as s
use Rattle.dart_token.specs.declared.word.Word.TheVariants as w
use Rattle.dart_tree.specs.Types.{TypeNode, VariableKind, no_kind, var_kind, final_kind, typed_kind}
use Rattle.dart_tree.specs.LeafTokens.{type_tokens, kind_tokens, maybe_type, word_at}
use Rattle.grammar_laws.specs.Codes.{has, Apart, Within, nowhere}
use Rattle.grammar_laws.specs.Readers.{Outcome, Reader, and_then, mapped, both, by_first, farther, one, when}
use Rattle.grammar_laws.specs.Fronts.{Either, EitherFit, both_spelling, option_spelling}
use Rattle.grammar_laws.specs.Laws.{Laws}
use Rattle.grammar_laws.proofs.Codes.{apart_none, apart_smaller, inside, within_self, within_none}
use Rattle.grammar_laws.proofs.Restated.{made_laws, reread, restated}
use Rattle.grammar_laws.proofs.Combined.{both_laws}
use Rattle.grammar_laws.proofs.Chosen.{by_first_laws}
use Rattle.grammar_laws.proofs.Cuts.{failed}
use Rattle.dart_syntax.specs.Phrases.{Phrase, ◌~◌, ◌<|>◌, made, opt}
use Rattle.dart_syntax.specs.Agreement.{Agrees}
use Rattle.dart_syntax.specs.Leaves as l
use Rattle.dart_syntax.specs.Types.{without_kind, kind_over}
use Rattle.token_codes.specs.Codes.{class_of, names, sign_code, word_code, this_word}
use Rattle.token_codes.specs.Leaves.{place_of, word}
use Rattle.token_codes.specs.Reads.{Reads}
use Rattle.token_codes.proofs.Leaves.{word_reads}
use Rattle.syntax_readers.specs.Combinators.{past_name, halting}
use Rattle.syntax_readers.specs.Types.{type_first, type_comes, kind, behind_type_name, type_before_name}
use Rattle.syntax_readers.specs.Parameters.{maybe_kind, or_no_kind}
use Rattle.laws_type.specs.Nexts.{after_type}
use Rattle.laws_type.proofs.Types.{under_type}
use Rattle.laws_expr.proofs.Names.{past_name_laws}
use Rattle.laws_stmt.proofs.Before.{before_any_laws}
use Rattle.laws_stmt.proofs.Named.{Goes}

-- ---- faults that come later

pub farther_fault : {A : Type 0} (d rest : List Token) (c : Bool) → ltb (length d) (length rest) ≡ c → length rest ≤ length d → (if c then failed {Token = Token} {A = A} d else failed rest) ≡ failed rest
farther_fault d rest true h few = absurd (omega (arith, ltb-true (length d) (length rest) h, few))
farther_fault d rest false h few = refl

-- a name's reader halts where the name ends, or where none begins
pub halts : {A : Type 0} (t : Token) (ts : List Token) → (d : List Token) × (halting {B = A} (one class_of names) (t ∷ ts) ≡ Err d) × (length ts ≤ length d)
halts {A} t ts = go (has names (class_of t)) where
  go : (c : Bool) → (d : List Token) × (and_then (if c then Ok (t, ts) else Err (t ∷ ts)) (λ a rest. failed {Token = Token} {A = A} rest) ≡ failed d) × (length ts ≤ length d)
  go true = (ts, refl, omega arith)
  go false = (t ∷ ts, refl, omega arith)

module _ {A B X : Type 0} where
  pub put : (a : A) (f : A × B → X) (o : Outcome Token B) → and_then o (λ b rest. Ok (f (a, b), rest)) ≡ and_then (and_then o (λ b rest. Ok ((a, b), rest))) (λ x rest. Ok (f x, rest))
  put a f (Ok x) = refl
  put a f (Err x) = refl

module _ {A B C X : Type 0} where
  pub put_two : (a : A) (b : B) (f : A × (B × C) → X) (o : Outcome Token C) → and_then o (λ c rest. Ok (f (a, (b, c)), rest)) ≡ and_then (and_then (and_then o (λ c rest. Ok ((b, c), rest))) (λ y rest. Ok ((a, y), rest))) (λ x rest. Ok (f x, rest))
  put_two a b f (Ok x) = refl
  put_two a b f (Err x) = refl

said_type : {q : Phrase TypeNode} → Agrees type_tokens q → (x : Option TypeNode) → maybe_type x ≡ option_spelling q.spelling x
said_type A None = refl
said_type A (Some x) = sym (A.spells x)

module _ {type : Reader Token TypeNode} {q : Phrase TypeNode} (T : Reads type q type_first after_type false) (A : Agrees type_tokens q) (G : Goes q)
    {B : Type 0} {name : Reader Token B} {o : Phrase B} {first : List ℕ} (N : Reads name o first nowhere false)
    (behind : Within first behind_type_name) (apart_word : Apart (this_word w.Dynamic) first) (apart_next : Apart (sign_code s.Less ∷ sign_code s.Dot ∷ []) first)
    (begins : (t : Token) → has names (class_of t) ≡ true → o.front (t ∷ []))
    (ends : (t u : Token) (ts : List Token) → has names (class_of t) ≡ true → o.front (t ∷ u ∷ ts) → ⊥) where
  -- a type or none, and a name
  pub typed_name_laws : Reads (both (type_before_name type) name) (opt q ~ o) (type_first ++ first) (λ x. behind_type_name) false
  unfolding type_before_name
  typed_name_laws = before_any_laws (past_name_laws T (inside refl)) N (this_word w.Dynamic) (inside refl) (λ a fits. apart_smaller (under_type a) apart_next) behind apart_word G begins ends

  abbrev Pair : Type 0
  Pair = VariableKind × B

  abbrev pair_tokens : Pair → List Token
  pair_tokens = both_spelling kind_tokens o.spelling

  abbrev typed_or_none : Option TypeNode → VariableKind
  typed_or_none None = no_kind
  typed_or_none (Some x) = typed_kind x

  abbrev to_var : Place × B → Pair
  to_var x = (var_kind x.0, x.1)

  abbrev to_final : Place × (Option TypeNode × B) → Pair
  to_final x = (final_kind x.0 x.1.0, x.1.1)

  abbrev to_typed : Option TypeNode × B → Pair
  to_typed x = (typed_or_none x.0, x.1)

  abbrev Var : Phrase Pair
  Var = made pair_tokens to_var (l.word w.Var ~ o)

  abbrev Final : Phrase Pair
  Final = made pair_tokens to_final (l.word w.Final ~ (opt q ~ o))

  abbrev Typed : Phrase Pair
  Typed = made pair_tokens to_typed (opt q ~ o)

  abbrev pub Whole : Phrase Pair
  Whole = (without_kind <|> kind_over q) ~ o

  abbrev after : Pair → List ℕ
  after x = behind_type_name

  final_said : (x : Place × (Option TypeNode × B)) → pair_tokens (to_final x) ≡ (l.word w.Final ~ (opt q ~ o)).spelling x
  final_said (place, (x, name)) = ap (λ (m : List Token). word_at place w.Final ∷ (m ++ o.spelling name)) (said_type A x)

  typed_said : (x : Option TypeNode × B) → pair_tokens (to_typed x) ≡ (opt q ~ o).spelling x
  typed_said (None, name) = refl
  typed_said (Some x, name) = ap (λ (m : List Token). m ++ o.spelling name) (sym (A.spells x))

  abbrev chosen : Reader Token Pair
  chosen = by_first class_of (this_word w.Var) (mapped to_var (both (word w.Var) name))
      (by_first class_of (this_word w.Final) (mapped to_final (both (word w.Final) (both (type_before_name type) name))) (mapped to_typed (both (type_before_name type) name)))

  -- ---- the same trees and the same fronts

  forth : (x : Pair) → EitherFit Var.Fits (EitherFit Final.Fits Typed.Fits) x → Whole.Fits x
  forth x (inl ((place, b), fits, e)) = subst Whole.Fits e (inr (inl (place, tt, refl)), fits.1)
  forth x (inr (inl ((place, (of, b)), fits, e))) = subst Whole.Fits e (inr (inr (inl ((place, of), (tt, fits.1.0), refl))), fits.1.1)
  forth x (inr (inr ((None, b), fits, e))) = subst Whole.Fits e (inl refl, fits.1)
  forth x (inr (inr ((Some of, b), fits, e))) = subst Whole.Fits e (inr (inr (inr (of, fits.0, refl))), fits.1)

  abbrev with_name : B → VariableKind → Pair
  with_name b k = (k, b)

  back : (x : Pair) → Whole.Fits x → EitherFit Var.Fits (EitherFit Final.Fits Typed.Fits) x
  back (k, b) (inl e, fits) = inr (inr ((None, b), (tt, fits), ap (with_name b) (sym e)))
  back (k, b) (inr (inl (place, on, e)), fits) = inl ((place, b), (tt, fits), ap (with_name b) e)
  back (k, b) (inr (inr (inl ((place, of), on, e))), fits) = inr (inl ((place, (of, b)), (tt, (on.1, fits)), ap (with_name b) e))
  back (k, b) (inr (inr (inr (of, on, e))), fits) = inr (inr ((Some of, b), (on, fits), ap (with_name b) e))

  out : (ts : List Token) → Either Var.front (Either Final.front Typed.front) ts → Whole.front ts
  out ts (inl (inl f)) = inl (inr (inl f))
  out ts (inl (inr (place, more, t, on, e, f))) = inr (var_kind place, more, inr (inl (place, tt, refl)), refl, e, f)
  out ts (inr (inl (inl f))) = inl (inr (inr (inl (inl f))))
  out ts (inr (inl (inr (place, more, t, on, e, inl f)))) = inl (inr (inr (inl (inr (place, more, tt, refl, e, f)))))
  out ts (inr (inl (inr (place, more, t, on, e, inr (of, rest, fits, go, is, f))))) =
      inr (final_kind place of, rest, inr (inr (inl ((place, of), (tt, fits), refl))), refl, e ∙ ap (λ (m : List Token). word_at place w.Final ∷ m) (is ∙ ap (λ (m : List Token). m ++ rest) (sym (said_type A of))), f)
  out ts (inr (inr (inl f))) = inl (inr (inr (inr f)))
  out ts (inr (inr (inr (None, more, fits, on, e, f)))) = inr (no_kind, more, inl refl, refl, e, f)
  out ts (inr (inr (inr (Some of, more, fits, on, e, f)))) = inr (typed_kind of, more, inr (inr (inr (of, fits, refl))), refl, e ∙ ap (λ (m : List Token). m ++ more) (A.spells of), f)

  said_with : (more : List Token) (k m : VariableKind) → k ≡ m → kind_tokens k ++ more ≡ kind_tokens m ++ more
  said_with more k m e = ap (λ (x : VariableKind). kind_tokens x ++ more) e

  into : (ts : List Token) → Whole.front ts → Either Var.front (Either Final.front Typed.front) ts
  into ts (inl (inl e)) = inr (inr (inl (subst q.front (sym e) T.none)))
  into ts (inl (inr (inl f))) = inl (inl f)
  into ts (inl (inr (inr (inl (inl f))))) = inr (inl (inl f))
  into ts (inl (inr (inr (inl (inr (place, more, t, on, e, f)))))) = inr (inl (inr (place, more, tt, refl, e, inl f)))
  into ts (inl (inr (inr (inr f)))) = inr (inr (inl f))
  into ts (inr (k, more, inl is, on, e, f)) = inr (inr (inr (None, more, tt, refl, e ∙ said_with more k no_kind is, f)))
  into ts (inr (k, more, inr (inl (place, t, is)), on, e, f)) = inl (inr (place, more, tt, refl, e ∙ said_with more k (var_kind place) (sym is), f))
  into ts (inr (k, more, inr (inr (inl ((place, of), fits, is))), on, e, f)) =
      inr (inl (inr (place, option_spelling q.spelling of ++ more, tt, refl, e ∙ said_with more k (final_kind place of) (sym is) ∙ ap (λ (m : List Token). word_at place w.Final ∷ (m ++ more)) (said_type A of), inr (of, more, fits.1, refl, refl, f))))
  into ts (inr (k, more, inr (inr (inr (of, fits, is))), on, e, f)) = inr (inr (inr (Some of, more, fits, refl, e ∙ said_with more k (typed_kind of) (sym is) ∙ ap (λ (m : List Token). m ++ more) (sym (A.spells of)), f)))

  -- ---- the same reader

  abbrev go : VariableKind → List Token → Outcome Token Pair
  go k mid = and_then (name mid) (λ b rest. Ok ((k, b), rest))

  abbrev late : Outcome Token VariableKind → Outcome Token Pair
  late o = and_then (and_then (and_then o (λ k rest. Ok (Some k, rest))) (λ k rest. Ok (or_no_kind k, rest))) go

  var_read : (t : Token) (ts : List Token) (o : Outcome Token VariableKind) → (d : List Token) × (o ≡ Err d) × (length ts ≤ length d) →
      late (farther o (Ok (var_kind (place_of t), ts))) ≡ and_then (and_then (name ts) (λ b rest. Ok ((place_of t, b), rest))) (λ x rest. Ok (to_var x, rest))
  var_read t ts o (d, e, few) = rw e (put (place_of t) to_var (name ts))

  few_left : (c : Bool) (ts rest : List Token) → when c (past_name type) ts ≡ Err rest → length rest ≤ length ts
  few_left true ts rest e = few (past_name type ts) refl e where
    few : (x : Outcome Token TypeNode) → past_name type ts ≡ x → and_then x (λ b rest. Ok (Some b, rest)) ≡ Err rest → length rest ≤ length ts
    few (Ok x) is e = absurd cc
    few (Err d) is e =
        let same : d ≡ rest = cc in
        let k = (past_name_laws T (inside refl)).fault ts d is in
        omega (arith, ap length k.1, length-append k.0 d, ap length same)
  few_left false ts rest e = absurd cc

  abbrev final_kind_of : Place × Option TypeNode → VariableKind
  final_kind_of x = final_kind x.0 x.1

  final_read : (t : Token) (ts : List Token) (h : Outcome Token VariableKind) → (d : List Token) × (h ≡ Err d) × (length ts ≤ length d) → (o : Outcome Token (Option TypeNode)) → type_before_name type ts ≡ o →
      late (farther h (and_then (and_then o (λ x rest. Ok ((place_of t, x), rest))) (λ x rest. Ok (final_kind_of x, rest)))) ≡ and_then (and_then (and_then o (λ x mid. and_then (name mid) (λ b rest. Ok ((x, b), rest)))) (λ y rest. Ok ((place_of t, y), rest))) (λ x rest. Ok (to_final x, rest))
  unfolding type_before_name
  final_read t ts h (d, e, few) (Ok (x, mid)) is = rw e (put_two (place_of t) x to_final (name mid))
  final_read t ts h (d, e, few) (Err rest) is = rw e (ap late (farther_fault {A = VariableKind} d rest (ltb (length d) (length rest)) refl (omega (arith, few, few_left (type_comes ts) ts rest is))))

  typed_read : (t : Token) (ts : List Token) (h : Outcome Token VariableKind) (k : Outcome Token TypeNode) (d : List Token) → h ≡ Err d → k ≡ Err d → (o : Outcome Token TypeNode) →
      late (farther h (and_then o (λ x rest. Ok (typed_kind x, rest)))) ≡ and_then (and_then (and_then (farther k o) (λ x rest. Ok (Some x, rest))) (λ x mid. and_then (name mid) (λ b rest. Ok ((x, b), rest)))) (λ x rest. Ok (to_typed x, rest))
  typed_read t ts h k d e i (Ok (x, mid)) = rw (e, i) (put (Some x) to_typed (name mid))
  typed_read t ts h k d e i (Err rest) = rw (e, i) (both_err (ltb (length d) (length rest))) where
    both_err : (c : Bool) → late (if c then failed d else failed rest) ≡ and_then (and_then (and_then (if c then failed {Token = Token} {A = TypeNode} d else failed rest) (λ x rest. Ok (Some x, rest))) (λ x mid. and_then (name mid) (λ b rest. Ok ((x, b), rest)))) (λ x rest. Ok (to_typed x, rest))
    both_err true = refl
    both_err false = refl

  halts_both : (t : Token) (ts : List Token) → (d : List Token) × (halting {B = VariableKind} (one class_of names) (t ∷ ts) ≡ Err d) × (halting {B = TypeNode} (one class_of names) (t ∷ ts) ≡ Err d)
  halts_both t ts = at (has names (class_of t)) where
    at : (c : Bool) → (d : List Token) × (and_then (if c then Ok (t, ts) else Err (t ∷ ts)) (λ a rest. failed {Token = Token} {A = VariableKind} rest) ≡ failed d) × (and_then (if c then Ok (t, ts) else Err (t ∷ ts)) (λ a rest. failed {Token = Token} {A = TypeNode} rest) ≡ failed d)
    at true = (ts, refl, refl)
    at false = (t ∷ ts, refl, refl)

  read_typed : (c : Bool) (t : Token) (ts : List Token) →
      and_then (and_then (when c (λ r. farther (halting (one class_of names) r) (and_then (type r) (λ x rest. Ok (typed_kind x, rest)))) (t ∷ ts)) (λ k rest. Ok (or_no_kind k, rest))) go
      ≡ and_then (and_then (when c (past_name type) (t ∷ ts)) (λ x mid. and_then (name mid) (λ b rest. Ok ((x, b), rest)))) (λ x rest. Ok (to_typed x, rest))
  read_typed true t ts = let h = halts_both t ts in typed_read t ts (halting (one class_of names) (t ∷ ts)) (halting (one class_of names) (t ∷ ts)) h.0 h.1 h.2 (type (t ∷ ts))
  read_typed false t ts = put None to_typed (name (t ∷ ts))

  same_at : (t : Token) (ts : List Token) (v f : Bool) → eqb (class_of t) (word_code w.Var) ≡ v → eqb (class_of t) (word_code w.Final) ≡ f → both (maybe_kind type) name (t ∷ ts) ≡ chosen (t ∷ ts)
  unfolding maybe_kind kind word type_before_name
  same_at t ts true f h k = rw h (var_read t ts (halting (one class_of names) (t ∷ ts)) (halts t ts))
  same_at t ts false true h k = rw (h, k) (final_read t ts (halting (one class_of names) (t ∷ ts)) (halts t ts) (type_before_name type ts) refl)
  same_at t ts false false h k = rw (h, k) (read_typed (type_comes (t ∷ ts)) t ts)

  same : (ts : List Token) → both (maybe_kind type) name ts ≡ chosen ts
  unfolding maybe_kind kind word type_before_name
  same [] = put None to_typed (name [])
  same (t ∷ ts) = same_at t ts (eqb (class_of t) (word_code w.Var)) (eqb (class_of t) (word_code w.Final)) refl refl

  module _ (off_var : Apart (this_word w.Var) (this_word w.Final ++ (type_first ++ first))) (off_final : Apart (this_word w.Final) (type_first ++ first)) where
    chosen_laws : Laws class_of chosen pair_tokens (EitherFit Var.Fits (EitherFit Final.Fits Typed.Fits)) (Either Var.front (Either Final.front Typed.front)) (this_word w.Var ++ (this_word w.Final ++ (type_first ++ first))) after false
    chosen_laws = by_first_laws (made_laws (both_laws (word_reads w.Var) N (λ place fits. apart_none first)) to_var pair_tokens after (λ x fits. refl) (λ x fits. within_none behind_type_name))
        (by_first_laws (made_laws (both_laws (word_reads w.Final) typed_name_laws (λ place fits. apart_none (type_first ++ first))) to_final pair_tokens after (λ x fits. final_said x) (λ x fits. within_self behind_type_name))
        (made_laws typed_name_laws to_typed pair_tokens after (λ x fits. typed_said x) (λ x fits. within_self behind_type_name)) off_final) off_var

    pub kind_name_laws : Reads (both (maybe_kind type) name) Whole (this_word w.Var ++ (this_word w.Final ++ (type_first ++ first))) after false
    kind_name_laws = reread (restated chosen_laws forth back out into (within_self _) (λ x fits. within_self behind_type_name) (λ h. h)) same
