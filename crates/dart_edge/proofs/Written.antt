-- What was written, after one text and then another.
use Rattle.std.proofs.Common.{◌≡◌, ◌∙◌, sym, ap, refl, ℕ, ◌+◌, ◌-◌, length, List, [], ◌++◌, take, drop, Option, Some, None, append_assoc}
use Rattle.std.proofs.lemmas.List.{append-nil, take-append-drop, take_rest}
use Rattle.std.proofs.Math.Seq.{take-add}
use Rattle.std.specs.Io.KnownBytes.{append_known}
use Rattle.dart_edge.specs.Writes.{WrotePrefix}

-- two texts, one after the other, are their concatenation
pub append_known-more : (w : Option (List ℕ)) (p q : List ℕ) → append_known (append_known w p) q ≡ append_known w (p ++ q)
append_known-more None p q = refl
append_known-more (Some xs) p q = ap Some (append_assoc xs p q)

-- the empty text changes nothing
pub append_known-nil : (w : Option (List ℕ)) → append_known w [] ≡ w
append_known-nil None = refl
append_known-nil (Some xs) = ap Some (append-nil xs)

-- a prefix of what is left of the list, after the part that is written
pub append_known-take : (w now next : Option (List ℕ)) (xs : List ℕ) (i n : ℕ) → now ≡ append_known w (take i xs) → next ≡ append_known now (take n (take (length xs - i) (drop i xs))) → next ≡ append_known w (take (i + n) xs)
append_known-take w now next xs i n so_far grows =
    let e : next ≡ append_known now (take n (drop i xs)) = grows ∙ ap (λ r. append_known now (take n r)) (take_rest xs i) in
    e ∙ ap (λ v. append_known v (take n (drop i xs))) so_far ∙ append_known-more w (take i xs) (take n (drop i xs)) ∙ ap (append_known w) (sym (take-add i n xs))

-- nothing is a prefix of every text
pub wrote_nothing : (before after : Option (List ℕ)) (text : List ℕ) → after ≡ before → WrotePrefix before after text
wrote_nothing before after text same = ([], (text, refl), same ∙ sym (append_known-nil before))

-- the whole text is a prefix of it
pub wrote_all : (before after : Option (List ℕ)) (text : List ℕ) → after ≡ append_known before text → WrotePrefix before after text
wrote_all before after text grows = (text, ([], sym (append-nil text)), grows)

-- the first bytes of the text are written
pub wrote_take : (before after : Option (List ℕ)) (text : List ℕ) (i : ℕ) → after ≡ append_known before (take i text) → WrotePrefix before after text
wrote_take before after text i e = (take i text, (drop i text, sym (take-append-drop i text)), e)

-- a prefix of a later piece is a prefix of the whole text, behind what stands before the piece
pub wrote_more : (before now after : Option (List ℕ)) (done piece rest text : List ℕ) → now ≡ append_known before done → WrotePrefix now after piece → text ≡ done ++ (piece ++ rest) → WrotePrefix before after text
wrote_more before now after done piece rest text so_far (prefix, (tail, e), grows) whole = (
  done ++ prefix,
  (tail ++ rest, whole ∙ ap (λ x. done ++ (x ++ rest)) e ∙ ap (λ x. done ++ x) (append_assoc prefix tail rest) ∙ sym (append_assoc done prefix (tail ++ rest))),
  grows ∙ ap (λ w. append_known w prefix) so_far ∙ append_known-more before done prefix,
)
