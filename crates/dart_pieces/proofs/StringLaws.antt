-- Strings: the elements at the front of a text, and where a piece of a string ends.
use Rattle.std.proofs.Common.{◌≡◌, ◌∙◌, sym, ap, refl, subst, ℕ, suc, ◌+◌, ◌-◌, ◌<◌, ◌≤◌, List, [], ◌∷◌, ◌++◌, zero, true, false, arith, length, take, drop, Some, None, ◌&&◌, ◌==◌, nat_lt, nat_le, append_assoc}
use Rattle.std.proofs.lemmas.Bool.Decides.{nat_tests}
use Rattle.std.proofs.lemmas.List.{length-append, length-drop, drop-drop}
use Rattle.std.specs.List.{prefix_len}
use Rattle.dart_token.specs.declared.word.Word.{Word}
use Rattle.dart_token.specs.declared.token.Quote.{Quote}
use Rattle.dart_token.specs.Word.{word_text}
use Rattle.dart_token.specs.Lookup.{word_of}
use Rattle.dart_token.proofs.Words.{found_by_text, found_text}
use Rattle.dart_pieces.specs.Bytes.{is_hex_digit, is_inner, is_name_start, is_name_byte, Stops, IsRun}
use Rattle.dart_pieces.specs.Numbers.{value_in}
use Rattle.dart_pieces.specs.Strings.{Element, plain, escaped, two, four, braced, named, element_bytes, elements_bytes, is_plain, is_escaped, may_follow_dollar, IsShown, Fits, AllFit}
use Rattle.dart_pieces.specs.Reader.{begins, begins_two_hex, begins_four_hex, is_braced, braced_len, unit_len, escape_len, may_follow, shown_len, element_len, elements_len, body_len}
use Rattle.dart_pieces.proofs.RunLaws.{by_bool, prefix_within, stops_run, run_stops, run_taken, some_run, run_passes, take_front, drop_front, drop_front_at, stops_take, stops_append, take_one, take_more, and_true}

pub begins_is : (b : ℕ) (bytes : List ℕ) → begins b bytes ≡ true → (rest : List ℕ) × (bytes ≡ b ∷ rest)
begins_is b [] e = absurd cc
begins_is b (a ∷ rest) e = let same : a ≡ b = grind (arith, nat_tests) in (rest, ap (λ x. x ∷ rest) same)

name_start_byte : (b : ℕ) → is_name_start b ≡ true → is_name_byte b ≡ true
name_start_byte b e = grind (arith, nat_tests)

escaped_no_x : (b : ℕ) → is_escaped b ≡ true → (b == 120) ≡ false
escaped_no_x b e = grind (arith, nat_tests)

escaped_no_u : (b : ℕ) → is_escaped b ≡ true → (b == 117) ≡ false
escaped_no_u b e = grind (arith, nat_tests)

escaped_inner : (b : ℕ) → is_escaped b ≡ true → is_inner b ≡ true
escaped_inner b e = (and_true _ (is_inner b) e).1

-- ---- each element is found

no_four : (more : List ℕ) → begins_four_hex (123 ∷ more) ≡ false
no_four [] = refl
no_four (a ∷ []) = refl
no_four (a ∷ b ∷ []) = refl
no_four (a ∷ b ∷ c ∷ more) = refl

braced_reach : (digits behind : List ℕ) → IsRun is_hex_digit is_hex_digit digits → length digits ≤ 6 → value_in 16 digits ≤ 1114111 → braced_len ((digits ++ 125 ∷ []) ++ behind) ≡ 4 + length digits
braced_reach digits behind run short small =
    let more : (digits ++ 125 ∷ []) ++ behind ≡ digits ++ (125 ∷ behind) = append_assoc digits (125 ∷ []) behind in
    let n : prefix_len is_hex_digit (digits ++ (125 ∷ behind)) ≡ length digits = run_stops is_hex_digit digits (125 ∷ behind) (run_passes is_hex_digit is_hex_digit digits (λ b e. e) run) refl in
    let some : nat_lt 0 (length digits) ≡ true = some_digits digits run in
    let few : nat_le (length digits) 6 ≡ true = grind (arith, nat_tests) in
    let value : nat_le (value_in 16 digits) 1114111 ≡ true = grind (arith, nat_tests) in
    rw more (rw n (rw (drop_front digits (125 ∷ behind), take_front digits (125 ∷ behind)) (rw (some, few, value) refl)))
  where
    some_digits : (digits : List ℕ) → IsRun is_hex_digit is_hex_digit digits → nat_lt 0 (length digits) ≡ true
    some_digits [] h = absurd h
    some_digits (d ∷ digits) h = let lt : 0 < length (d ∷ digits) = omega arith in grind (arith, nat_tests)

shown_word : (name : List ℕ) → ((word : Word) → word_text word ≡ name → may_follow_dollar word ≡ true) → may_follow (word_of name) ≡ true
shown_word name h = (elim (word_of name) as (λ o. word_of name ≡ o → may_follow (word_of name) ≡ true) [
  | None ↦ λ e. rw e refl
  | Some word ↦ λ e. rw e (h word (found_text word name e))
]) refl

shown_reach : (name behind : List ℕ) → IsShown name → Stops is_name_byte behind → shown_len (name ++ behind) ≡ suc (length name)
shown_reach [] behind h stops = absurd h.0
shown_reach (x ∷ name) behind h stops =
    let n : prefix_len is_name_byte (x ∷ (name ++ behind)) ≡ length (x ∷ name) = run_stops is_name_byte (x ∷ name) behind (run_passes is_name_start is_name_byte (x ∷ name) name_start_byte h.0) stops in
    let word : may_follow (word_of (x ∷ name)) ≡ true = shown_word (x ∷ name) h.1 in
    let front : take (length (x ∷ name)) ((x ∷ name) ++ behind) ≡ x ∷ name = take_front (x ∷ name) behind in
    rw (h.0.0) (rw n (rw front (rw word (omega arith))))

element_reach : (quote : Quote) (e : Element) (behind : List ℕ) → Fits quote e behind → element_len quote (element_bytes e ++ behind) ≡ length (element_bytes e)
element_reach quote (plain b) behind h = rw h refl
element_reach quote (escaped b) behind h = rw (escaped_no_x b h, escaped_no_u b h, escaped_inner b h) refl
element_reach quote (two a b) behind h = rw (h.0, h.1.0) refl
element_reach quote (four a b c d) behind h = rw (h.0, h.1.0, h.1.1.0, h.1.1.1.0) refl
element_reach quote (braced digits) behind h =
    let n : length (digits ++ 125 ∷ []) ≡ length digits + 1 = length-append digits (125 ∷ []) in
    rw (no_four ((digits ++ 125 ∷ []) ++ behind)) (braced_reach digits behind h.0 h.1 h.2 ∙ omega arith)
element_reach quote (named name) behind h = shown_reach name behind h.0 h.1

some_element : (e : Element) → 0 < length (element_bytes e)
some_element (plain b) = omega arith
some_element (escaped b) = omega arith
some_element (two a b) = omega arith
some_element (four a b c d) = omega arith
some_element (braced digits) = omega arith
some_element (named name) = omega arith

-- ---- what is found is an element

abbrev pub FoundElement : Quote → List ℕ → ℕ → Type 0
FoundElement quote text n = (n ≤ length text) × ((e : Element) × (take n text ≡ element_bytes e) × Fits quote e (drop n text))

braced_sound : (quote : Quote) (more : List ℕ) → 0 < braced_len more → FoundElement quote (92 ∷ 117 ∷ 123 ∷ more) (braced_len more)
braced_sound quote more lt = by_bool (is_braced (prefix_len is_hex_digit more) more)
    (λ y.
    let n : ℕ = prefix_len is_hex_digit more in
    let a = and_true (nat_lt 0 (prefix_len is_hex_digit more)) _ y in
    let b = and_true (nat_le (prefix_len is_hex_digit more) 6) _ a.1 in
    let c = and_true (begins 125 (drop (prefix_len is_hex_digit more) more)) _ b.1 in
    let some : 0 < prefix_len is_hex_digit more = let t = a.0 in grind (arith, nat_tests) in
    let few : prefix_len is_hex_digit more ≤ 6 = let t = b.0 in grind (arith, nat_tests) in
    let small : value_in 16 (take (prefix_len is_hex_digit more) more) ≤ 1114111 = let t = c.1 in grind (arith, nat_tests) in
    let close = begins_is 125 (drop (prefix_len is_hex_digit more) more) c.0 in
    let one = take_one (prefix_len is_hex_digit more) more 125 close.0 close.1 in
    let within = one.1 in
    let size : 4 + prefix_len is_hex_digit more ≡ suc (suc (suc (suc (prefix_len is_hex_digit more)))) = omega arith in
    let short : length (take (prefix_len is_hex_digit more) more) ≤ 6 = rw (taken (prefix_len is_hex_digit more) more (prefix_within is_hex_digit more)) few in
    rw y (rw size (omega arith, (braced (take (prefix_len is_hex_digit more) more), ap (λ t. 92 ∷ 117 ∷ 123 ∷ t) one.0, (some_run is_hex_digit more some, short, small)))))
    (λ y. let z : braced_len more ≡ 0 = rw y refl in absurd (omega arith))
  where
    taken : (n : ℕ) (xs : List ℕ) → n ≤ length xs → length (take n xs) ≡ n
    taken zero xs le = refl
    taken (suc n) [] le = absurd (omega arith)
    taken (suc n) (x ∷ xs) le = ap suc (taken n xs (omega arith))

four_sound : (quote : Quote) (more : List ℕ) → begins_four_hex more ≡ true → FoundElement quote (92 ∷ 117 ∷ more) 6
four_sound quote [] e = absurd cc
four_sound quote (a ∷ []) e = absurd cc
four_sound quote (a ∷ b ∷ []) e = absurd cc
four_sound quote (a ∷ b ∷ c ∷ []) e = absurd cc
four_sound quote (a ∷ b ∷ c ∷ d ∷ more) e =
    let x = and_true (is_hex_digit a) _ e in
    let y = and_true (is_hex_digit b) _ x.1 in
    let z = and_true (is_hex_digit c) (is_hex_digit d) y.1 in
    (omega arith, (four a b c d, refl, (x.0, (y.0, (z.0, (z.1, tt))))))

unit_sound : (quote : Quote) (more : List ℕ) → 0 < unit_len more → FoundElement quote (92 ∷ 117 ∷ more) (unit_len more)
unit_sound quote [] lt = absurd (omega arith)
unit_sound quote (a ∷ more) lt = by_bool (begins_four_hex (a ∷ more))
    (λ y. rw y (four_sound quote (a ∷ more) y))
    (λ n. by_bool (a == 123)
    (λ y. let same : a ≡ 123 = grind (arith, nat_tests) in
    let some : 0 < braced_len more = rw y at (rw n at lt) in
    rw (n, y) (subst (λ b. FoundElement quote (92 ∷ 117 ∷ b ∷ more) (braced_len more)) (sym same) (braced_sound quote more some)))
    (λ y. let z : unit_len (a ∷ more) ≡ 0 = rw (n, y) refl in absurd (omega arith)))

two_sound : (quote : Quote) (more : List ℕ) → begins_two_hex more ≡ true → FoundElement quote (92 ∷ 120 ∷ more) 4
two_sound quote [] e = absurd cc
two_sound quote (a ∷ []) e = absurd cc
two_sound quote (a ∷ b ∷ more) e = let x = and_true (is_hex_digit a) (is_hex_digit b) e in (omega arith, (two a b, refl, (x.0, (x.1, tt))))

escape_sound : (quote : Quote) (more : List ℕ) → 0 < escape_len more → FoundElement quote (92 ∷ more) (escape_len more)
escape_sound quote [] lt = absurd (omega arith)
escape_sound quote (a ∷ more) lt = by_bool (a == 120)
    (λ y. let same : a ≡ 120 = grind (arith, nat_tests) in
    by_bool (begins_two_hex more)
    (λ t. rw (y, t) (subst (λ b. FoundElement quote (92 ∷ b ∷ more) 4) (sym same) (two_sound quote more t)))
    (λ t. let z : escape_len (a ∷ more) ≡ 0 = rw (y, t) refl in absurd (omega arith)))
    (λ n. by_bool (a == 117)
    (λ y. let same : a ≡ 117 = grind (arith, nat_tests) in
    let some : 0 < unit_len more = rw y at (rw n at lt) in
    rw (n, y) (subst (λ b. FoundElement quote (92 ∷ b ∷ more) (unit_len more)) (sym same) (unit_sound quote more some)))
    (λ m. by_bool (is_escaped a)
    (λ y. let i = escaped_inner a y in rw (n, m, i) (omega arith, (escaped a, refl, y)))
    (λ y. let i : is_inner a ≡ false = rw m at (rw n at y) in let z : escape_len (a ∷ more) ≡ 0 = rw (n, m, i) refl in absurd (omega arith))))

word_shown : (name : List ℕ) → may_follow (word_of name) ≡ true → (word : Word) → word_text word ≡ name → may_follow_dollar word ≡ true
word_shown name e word h = let f : word_of name ≡ Some word = found_by_text word name h in rw f at e

shown_sound : (quote : Quote) (more : List ℕ) → 0 < shown_len more → FoundElement quote (36 ∷ more) (shown_len more)
shown_sound quote [] lt = absurd (omega arith)
shown_sound quote (a ∷ more) lt = by_bool (is_name_start a && may_follow (word_of (take (prefix_len is_name_byte (a ∷ more)) (a ∷ more))))
    (λ y.
    let both = and_true (is_name_start a) (may_follow (word_of (take (prefix_len is_name_byte (a ∷ more)) (a ∷ more)))) y in
    let run = run_taken is_name_start is_name_byte a more both.0 (name_start_byte a both.0) in
    let within : prefix_len is_name_byte (a ∷ more) ≤ length (a ∷ more) = prefix_within is_name_byte (a ∷ more) in
    let size : 1 + prefix_len is_name_byte (a ∷ more) ≡ suc (prefix_len is_name_byte (a ∷ more)) = omega arith in
    rw y (rw size (omega arith, (named (take (prefix_len is_name_byte (a ∷ more)) (a ∷ more)), refl, ((run.1, word_shown _ both.1), stops_run is_name_byte (a ∷ more))))))
    (λ y. let z : shown_len (a ∷ more) ≡ 0 = rw y refl in absurd (omega arith))

element_sound : (quote : Quote) (text : List ℕ) → 0 < element_len quote text → FoundElement quote text (element_len quote text)
element_sound quote [] lt = absurd (omega arith)
element_sound quote (a ∷ more) lt = by_bool (is_plain quote a)
    (λ y. rw y (omega arith, (plain a, refl, y)))
    (λ n. by_bool (a == 92)
    (λ y. let same : a ≡ 92 = grind (arith, nat_tests) in
    let some : 0 < escape_len more = rw y at (rw n at lt) in
    rw (n, y) (subst (λ b. FoundElement quote (b ∷ more) (escape_len more)) (sym same) (escape_sound quote more some)))
    (λ m. by_bool (a == 36)
    (λ y. let same : a ≡ 36 = grind (arith, nat_tests) in
    let some : 0 < shown_len more = rw y at (rw m at (rw n at lt)) in
    rw (n, m, y) (subst (λ b. FoundElement quote (b ∷ more) (shown_len more)) (sym same) (shown_sound quote more some)))
    (λ y. let z : element_len quote (a ∷ more) ≡ 0 = rw (n, m, y) refl in absurd (omega arith))))

pub element_within : (quote : Quote) (text : List ℕ) → element_len quote text ≤ length text
element_within quote text = by_bool (nat_lt 0 (element_len quote text))
    (λ y. let some : 0 < element_len quote text = grind (arith, nat_tests) in (element_sound quote text some).0)
    (λ n. let none : element_len quote text ≤ 0 = grind (arith, nat_tests) in omega arith)

-- ---- elements

fits_append : (quote : Quote) (e : Element) (behind end : List ℕ) → Fits quote e behind → Stops is_name_byte end → Fits quote e (behind ++ end)
fits_append quote (plain b) behind end h stops = h
fits_append quote (escaped b) behind end h stops = h
fits_append quote (two a b) behind end h stops = h
fits_append quote (four a b c d) behind end h stops = h
fits_append quote (braced digits) behind end h stops = h
fits_append quote (named name) behind end h stops = (h.0, stops_append is_name_byte behind end h.1 stops)

fits_take : (quote : Quote) (e : Element) (n : ℕ) (behind : List ℕ) → Fits quote e behind → Fits quote e (take n behind)
fits_take quote (plain b) n behind h = h
fits_take quote (escaped b) n behind h = h
fits_take quote (two a b) n behind h = h
fits_take quote (four a b c d) n behind h = h
fits_take quote (braced digits) n behind h = h
fits_take quote (named name) n behind h = (h.0, stops_take is_name_byte n behind h.1)

no_test : (n : ℕ) → 0 < n → (n == 0) ≡ false
no_test n lt = grind (arith, nat_tests)

-- more turns than bytes change nothing
turns_enough : (n m : ℕ) (quote : Quote) (text : List ℕ) → length text ≤ n → length text ≤ m → elements_len n quote text ≡ elements_len m quote text
turns_enough zero zero quote text a b = refl
turns_enough zero (suc m) quote [] a b = refl
turns_enough zero (suc m) quote (x ∷ text) a b = absurd (omega arith)
turns_enough (suc n) zero quote [] a b = refl
turns_enough (suc n) zero quote (x ∷ text) a b = absurd (omega arith)
turns_enough (suc n) (suc m) quote text a b = by_bool (element_len quote text == 0)
    (λ y. rw y refl)
    (λ y.
    let some : 0 < element_len quote text = grind (arith, nat_tests) in
    let size : length (drop (element_len quote text) text) ≡ length text - element_len quote text = length-drop (element_len quote text) text in
    rw y (ap (λ k. element_len quote text + k) (turns_enough n m quote (drop (element_len quote text) text) (omega arith) (omega arith))))

pub body_step : (quote : Quote) (text : List ℕ) → 0 < element_len quote text → body_len quote text ≡ element_len quote text + body_len quote (drop (element_len quote text) text)
body_step quote [] lt = absurd (omega arith)
body_step quote (x ∷ more) lt =
    let size : length (drop (element_len quote (x ∷ more)) (x ∷ more)) ≡ length (x ∷ more) - element_len quote (x ∷ more) = length-drop (element_len quote (x ∷ more)) (x ∷ more) in
    rw (no_test (element_len quote (x ∷ more)) lt) (ap (λ k. element_len quote (x ∷ more) + k)
    (turns_enough (length more) (length (drop (element_len quote (x ∷ more)) (x ∷ more))) quote (drop (element_len quote (x ∷ more)) (x ∷ more)) (omega arith) (omega arith)))

pub body_none : (quote : Quote) (text : List ℕ) → element_len quote text ≡ 0 → body_len quote text ≡ 0
body_none quote [] e = refl
body_none quote (x ∷ more) e = rw e refl

pub body_reach : (quote : Quote) (es : List Element) (end : List ℕ) → AllFit quote es → element_len quote end ≡ 0 → Stops is_name_byte end → body_len quote (elements_bytes es ++ end) ≡ length (elements_bytes es)
body_reach quote [] end h none stops = body_none quote end none
body_reach quote (e ∷ es) end h none stops =
    let more : (element_bytes e ++ elements_bytes es) ++ end ≡ element_bytes e ++ (elements_bytes es ++ end) = append_assoc (element_bytes e) (elements_bytes es) end in
    let n : element_len quote (element_bytes e ++ (elements_bytes es ++ end)) ≡ length (element_bytes e) = element_reach quote e (elements_bytes es ++ end) (fits_append quote e (elements_bytes es) end h.0 stops) in
    let some : 0 < element_len quote (element_bytes e ++ (elements_bytes es ++ end)) = rw n (some_element e) in
    let step = body_step quote (element_bytes e ++ (elements_bytes es ++ end)) some in
    let rest : drop (element_len quote (element_bytes e ++ (elements_bytes es ++ end))) (element_bytes e ++ (elements_bytes es ++ end)) ≡ elements_bytes es ++ end = drop_front_at _ (element_bytes e) (elements_bytes es ++ end) n in
    let all : body_len quote (elements_bytes es ++ end) ≡ length (elements_bytes es) = body_reach quote es end h.1 none stops in
    let size : length (element_bytes e ++ elements_bytes es) ≡ length (element_bytes e) + length (elements_bytes es) = length-append (element_bytes e) (elements_bytes es) in
    let there : body_len quote (drop (element_len quote (element_bytes e ++ (elements_bytes es ++ end))) (element_bytes e ++ (elements_bytes es ++ end))) ≡ length (elements_bytes es) = ap (body_len quote) rest ∙ all in
    let sum : element_len quote (element_bytes e ++ (elements_bytes es ++ end)) + body_len quote (drop (element_len quote (element_bytes e ++ (elements_bytes es ++ end))) (element_bytes e ++ (elements_bytes es ++ end))) ≡ length (element_bytes e ++ elements_bytes es) = omega arith in
    ap (body_len quote) more ∙ step ∙ sum

abbrev pub Body : Quote → List ℕ → Type 0
Body quote bytes = (es : List Element) × (bytes ≡ elements_bytes es) × AllFit quote es

elements_sound : (n : ℕ) (quote : Quote) (text : List ℕ) → (elements_len n quote text ≤ length text) × Body quote (take (elements_len n quote text) text)
elements_sound zero quote text = (omega arith, ([], refl, tt))
elements_sound (suc n) quote text = by_bool (element_len quote text == 0)
    (λ y. rw y (omega arith, ([], refl, tt)))
    (λ y.
    let some : 0 < element_len quote text = grind (arith, nat_tests) in
    let (within, (e, same, fit)) = element_sound quote text some in
    let (le, (es, others, fits)) = elements_sound n quote (drop (element_len quote text) text) in
    let size : length (drop (element_len quote text) text) ≡ length text - element_len quote text = length-drop (element_len quote text) text in
    let m : ℕ = elements_len n quote (drop (element_len quote text) text) in
    let all : take (element_len quote text + elements_len n quote (drop (element_len quote text) text)) text ≡ element_bytes e ++ elements_bytes es =
    take_more (element_len quote text) (elements_len n quote (drop (element_len quote text) text)) text ∙ ap (λ t. t ++ take (elements_len n quote (drop (element_len quote text) text)) (drop (element_len quote text) text)) same ∙ ap (λ t. element_bytes e ++ t) others in
    let one : Fits quote e (elements_bytes es) = subst (Fits quote e) others (fits_take quote e (elements_len n quote (drop (element_len quote text) text)) (drop (element_len quote text) text) fit) in
    rw y (omega arith, (e ∷ es, all, (one, fits))))

pub body_within : (quote : Quote) (text : List ℕ) → body_len quote text ≤ length text
body_within quote text = (elements_sound (length text) quote text).0

pub body_sound : (quote : Quote) (text : List ℕ) → Body quote (take (body_len quote text) text)
body_sound quote text = (elements_sound (length text) quote text).1

-- ---- the loop

pub body_first : (quote : Quote) (text : List ℕ) → body_len quote text ≡ 0 + body_len quote (drop 0 text)
body_first quote text = omega arith

pub body_next : (quote : Quote) (text : List ℕ) (at n : ℕ) → n ≡ element_len quote (drop at text) → 0 < n → body_len quote text ≡ at + body_len quote (drop at text) → body_len quote text ≡ (at + n) + body_len quote (drop (at + n) text)
body_next quote text at n e lt h =
    let some : 0 < element_len quote (drop at text) = rw (← e) lt in
    let step : body_len quote (drop at text) ≡ n + body_len quote (drop n (drop at text)) = rw e (body_step quote (drop at text) some) in
    let there : drop n (drop at text) ≡ drop (at + n) text = drop-drop n at text in
    let moved : body_len quote (drop n (drop at text)) ≡ body_len quote (drop (at + n) text) = ap (body_len quote) there in
    omega arith

pub body_last : (quote : Quote) (text : List ℕ) (at n : ℕ) → n ≡ element_len quote (drop at text) → n ≡ 0 → body_len quote text ≡ at + body_len quote (drop at text) → at ≡ body_len quote text
body_last quote text at n e z h =
    let none : body_len quote (drop at text) ≡ 0 = body_none quote (drop at text) (sym e ∙ z) in
    omega arith
