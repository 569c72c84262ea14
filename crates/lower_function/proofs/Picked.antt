-- What is picked from a range.
use Rattle.std.proofs.Common.{◌≡◌, ℕ, ◌+◌, ◌-◌, ◌<◌, ◌≤◌, List, [], ◌∷◌, ◌++◌, Bool, true, false, cond, refl, sym, ap, ◌∙◌, append_assoc, append-nil, arith}
use Rattle.std.specs.List.{filter, range_with_len}
use Rattle.std.proofs.iter.Rest.{range_with_len_first}
use Rattle.lower_function.specs.Uses.{one_if}

case_if : (b : Bool) (x : ℕ) (xs : List ℕ) → cond b (x ∷ xs) xs ≡ one_if b x ++ xs
case_if true x xs = refl
case_if false x xs = refl

-- the next number
pub kept_step : (test : ℕ → Bool) (made made2 target : List ℕ) (x n : ℕ) (keep : Bool) → x < n → keep ≡ test x → made2 ≡ made ++ one_if keep x →
    made ++ filter test (range_with_len x (n - x)) ≡ target → made2 ++ filter test (range_with_len (x + 1) (n - (x + 1))) ≡ target
kept_step test made made2 target x n keep below same pushed done =
    let rest = filter test (range_with_len (x + 1) (n - (x + 1))) in
    ap (λ (l : List ℕ). l ++ rest) pushed ∙ append_assoc made (one_if keep x) rest
    ∙ ap (λ (b : Bool). made ++ (one_if b x ++ rest)) same
    ∙ ap (λ (l : List ℕ). made ++ l) (sym (case_if (test x) x rest))
    ∙ ap (λ (l : List ℕ). made ++ filter test l) (sym (range_with_len_first x n below)) ∙ done

-- behind the last
pub kept_end : (test : ℕ → Bool) (made target : List ℕ) (x n : ℕ) → n ≤ x → made ++ filter test (range_with_len x (n - x)) ≡ target → made ≡ target
kept_end test made target x n past done =
    let none : n - x ≡ 0 = omega arith in
    sym (append-nil made) ∙ ap (λ (m : ℕ). made ++ filter test (range_with_len x m)) (sym none) ∙ done
